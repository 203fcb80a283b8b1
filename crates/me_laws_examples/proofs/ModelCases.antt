-- In which of the two contexts in which a search can begin which clauses are true.
use Rattle.std.proofs.Common.{◌≡◌, ℕ, zero, suc, true, false, inl, inr, List, [], ◌∷◌, map, refl, sym, subst, ap, ◌∙◌}
use Rattle.std.proofs.lemmas.Option.{same_Some}
use Rattle.std.specs.List.{Any}
use Rattle.me_terms.specs.Substitutions.{apply_literal, apply_atom}
use Rattle.me_terms.specs.Values.{ClauseValue}
use Rattle.me_terms.specs.Produces.{IsTrueIn}
use Rattle.me_terms.specs.GroundInstances.{IsGroundInstance}
use Rattle.me_terms.specs.Grown.{start}
use Rattle.me_terms.specs.declared.bounds.Start.TheVariants.{Negative, Positive}
use Rattle.me_terms.specs.declared.atom.Literal.{Literal}
use Rattle.me_laws.proofs.Lists.{any_of}
use Rattle.me_laws_examples.specs.Letters.{a, x0, p_of, q_of, literal}
use Rattle.me_laws_examples.specs.SmallAnswers.{clause_of}
use Rattle.me_laws_examples.specs.Models.{q_implies_p, Models}
use Rattle.me_laws_examples.proofs.GroundLists.{some_at}
use Rattle.me_laws_examples.proofs.EitherStart.{induced, not_induced}

-- what is said of some element of a list of one is said of that element
of_one : (P : Literal → Type 0) (l : Literal) → Any P (l ∷ []) → P l
of_one P l h = elim (some_at P (l ∷ []) h.0 h.1 h.2 h.3 h.4) as (λ _. P l) [ inl p ↦ p | inr none ↦ absurd none ]

second_is_true : (c : ℕ) (literals : List Literal) → IsGroundInstance q_implies_p c literals → Any (IsTrueIn (start Positive)) literals
second_is_true zero literals h =
    let clause = clause_of (literal false (q_of x0) ∷ literal true (p_of x0) ∷ []) in
    let moved : literals ≡ map (apply_literal h.1) clause.literals = h.4 ∙ ap (λ (z : ClauseValue). map (apply_literal h.1) z.literals) (sym (same_Some clause h.0 h.2)) in
    subst (Any (IsTrueIn (start Positive))) (sym moved) (any_of (IsTrueIn (start Positive)) (map (apply_literal h.1) clause.literals) (inr (inl (induced (apply_atom h.1 (p_of x0))))))
second_is_true (suc c) literals h = cc h.2

pub models : Models
models = record {
  one_is_enough = second_is_true;
  first_clause_counts = λ h. not_induced (p_of a) (of_one (IsTrueIn (start Negative)) (literal true (p_of a)) (h 0 (literal true (p_of a) ∷ []) (clause_of (literal true (p_of x0) ∷ []), λ x. a, refl, λ x. refl, refl)));
  second_clause_counts = λ h. of_one (IsTrueIn (start Positive)) (literal false (p_of a)) (h 1 (literal false (p_of a) ∷ []) (clause_of (literal false (p_of x0) ∷ []), λ x. a, refl, λ x. refl, refl)) (induced (p_of a));
}
