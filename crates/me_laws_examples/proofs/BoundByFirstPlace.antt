-- A clause of two positive literals, beside the pseudo-literal alone: where both are too heavy, the first literal says which bound is met.
use Rattle.std.proofs.Common.{◌≡◌, ℕ, zero, suc, ◌≤◌, true, [], slice_get, Some, refl, sym, subst, arith}
use Rattle.std.proofs.lemmas.Option.{same_Some}
use Rattle.me_terms.specs.Terms.{TermValue, Var, App, Nil, Cons}
use Rattle.me_terms.specs.Variables.{weight, variables_of, first_ones, place_of}
use Rattle.me_terms.specs.Substitutions.{Substitution, Family, apply_term}
use Rattle.me_terms.specs.Measures.{literal_weight, canonical_literal}
use Rattle.me_terms.specs.Unifier.{unified}
use Rattle.me_terms.specs.Outcome.{Met, is_bounded}
use Rattle.me_laws.specs.Pairing.{apart}
use Rattle.me_terms.specs.declared.bounds.Bound.TheVariants as bound
use Rattle.me_terms.specs.declared.atom.Literal.{Literal}
use Rattle.me_laws_examples.specs.Letters.{x0, p_of, literal}
use Rattle.me_laws_examples.specs.BoundByFirstPlace.{deep, either, tight, BoundByFirstPlace}
use Rattle.me_laws_examples.proofs.TwoLiterals.{nothing_closes, nothing_asserted, nothing_split, first_remaining}

weighs : (t : TermValue) → 1 ≤ weight t
weighs (Var x) = omega arith
weighs (App f ts) = omega arith

-- a literal of one argument weighs more than 1
more_than_one : (pred : ℕ) (t : TermValue) (family : Family) → ¬ (literal_weight (canonical_literal (unified family (literal true (record { pred = pred; args = Cons t Nil })))) ≤ 1)
more_than_one pred t family h =
    let names : Substitution = λ x. Var (place_of x (first_ones [] (variables_of (Cons (apply_term (family 0) t) Nil)))) in
    let more = weighs (apply_term names (apply_term (family 0) t)) in omega (arith, h, more)

heavy : (family : Family) (l : Literal) (place : ℕ) → slice_get (either (p_of x0) deep).literals place ≡ Some l → ¬ (literal_weight (canonical_literal (unified family l)) ≤ 1)
heavy family l zero at h =
    let P : Literal → Type 0 = λ m. literal_weight (canonical_literal (unified family m)) ≤ 1 in
    more_than_one 0 x0 family (subst P (sym (same_Some (literal true (p_of x0)) l at)) h)
heavy family l (suc zero) at h =
    let P : Literal → Type 0 = λ m. literal_weight (canonical_literal (unified family m)) ≤ 1 in
    more_than_one 1 (App 1 (Cons x0 Nil)) family (subst P (sym (same_Some (literal true deep) l at)) h)
heavy family l (suc (suc place)) at h = cc at

heavy_too : (family : Family) (l : Literal) (place : ℕ) → slice_get (either deep (p_of x0)).literals place ≡ Some l → ¬ (literal_weight (canonical_literal (unified family l)) ≤ 1)
heavy_too family l zero at h = heavy family l 1 at h
heavy_too family l (suc zero) at h = heavy family l 0 at h
heavy_too family l (suc (suc place)) at h = cc at

pub bound_by_first_place : BoundByFirstPlace
bound_by_first_place = record {
  weight_first = (
    Met bound.Weight,
    is_bounded (nothing_closes (p_of x0) deep, (nothing_asserted tight (p_of x0) deep (λ family l place at fits. heavy family l place at fits.1), nothing_split tight (p_of x0) deep (λ family l place at fits. heavy family l place at fits.1), (unified apart (literal true (p_of x0)), first_remaining (p_of x0) deep, (omega arith, omega arith)))),
    refl,
  );
  depth_first = (
    Met bound.Depth,
    is_bounded (nothing_closes deep (p_of x0), (nothing_asserted tight deep (p_of x0) (λ family l place at fits. heavy_too family l place at fits.1), nothing_split tight deep (p_of x0) (λ family l place at fits. heavy_too family l place at fits.1), (unified apart (literal true deep), first_remaining deep (p_of x0), omega arith))),
    refl,
  );
}
