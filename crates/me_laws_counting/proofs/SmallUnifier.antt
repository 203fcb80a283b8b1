-- Most general unifiers of small atoms have only small terms.
use Rattle.std.proofs.Common.{◌≡◌, ℕ, ◌+◌, Bool, true, false, cond, List, slice_get, Option, Some, refl, sym, ap, ◌∙◌}
use Rattle.me_terms.specs.Terms.{TermValue, Var, App, Arguments, Nil, Cons, AtomValue}
use Rattle.me_terms.specs.Substitutions.{Substitution, Family, apply_term, apply_arguments}
use Rattle.me_terms.specs.Values.{EntryValue}
use Rattle.me_terms.specs.Context.{Context, StandsAt}
use Rattle.me_terms.specs.Unifier.{IsSolvedBy, Solves, IsUnifier}
use Rattle.me_terms.specs.declared.atom.Literal.{Literal}
use Rattle.me_terms.specs.declared.atom.Pattern.{Pattern}
use Rattle.me_terms.specs.declared.atom.Pattern.TheVariants.{Any, Of}
use Rattle.me_terms.specs.TermEqualityLaws.{both_parts}
use Rattle.me_laws_counting.proofs.Small.{is_small, are_small}

-- a term, where it is small, and else a variable
abbrev collapse : ℕ → TermValue → TermValue
collapse c t = cond (is_small c t) t (Var 0)

abbrev collapse_all : ℕ → Arguments → Arguments
collapse_all c Nil = Nil
collapse_all c (Cons t ts) = Cons (collapse c t) (collapse_all c ts)

collapsed : (c : ℕ) (s : Substitution) (t : TermValue) → is_small c t ≡ true → collapse c (apply_term s t) ≡ apply_term (λ x. collapse c (s x)) t
collapsed c s (Var x) h = refl
collapsed c s (App f Nil) h = ap (λ b. cond b (App f Nil) (Var 0)) h
collapsed c s (App f (Cons t ts)) h = cc h

collapsed_all : (c : ℕ) (s : Substitution) (ts : Arguments) → are_small c ts ≡ true → collapse_all c (apply_arguments s ts) ≡ apply_arguments (λ x. collapse c (s x)) ts
collapsed_all c s Nil h = refl
collapsed_all c s (Cons t ts) h =
    let parts = both_parts (is_small c t) (are_small c ts) h in
    let first = collapsed c s t parts.0 in
    let later = collapsed_all c s ts parts.1 in
    λ i. Cons (first i) (later i)

-- of an atom, the terms are small
abbrev pub IsSmallPattern : ℕ → Pattern → Type 0
IsSmallPattern c Any = Unit {0}
IsSmallPattern c (Of a) = are_small c a.args ≡ true

meets : (c : ℕ) (s t : Substitution) (p : Pattern) (a : AtomValue) → IsSmallPattern c p → are_small c a.args ≡ true → IsSolvedBy s p t a → IsSolvedBy (λ x. collapse c (s x)) p (λ x. collapse c (t x)) a
meets c s t Any a f g h = tt
meets c s t (Of b) a f g h =
    let args = sym (collapsed_all c s b.args f) ∙ (ap (λ (x : AtomValue). collapse_all c x.args) h ∙ collapsed_all c t a.args g) in
    λ i. record { pred = (h i).pred; args = args i }

-- no substitution takes what is no small term to one
small_by : (c : ℕ) (r : Substitution) (t : TermValue) (test : Bool) → is_small c t ≡ test → apply_term r t ≡ cond test t (Var 0) → is_small c t ≡ true
small_by c r (Var x) test e h = refl
small_by c r (App f ts) true e h = e
small_by c r (App f ts) false e h = cc h

pub small_unifier : (c : ℕ) (context : Context) (literals : List Literal) (positions : List (Option ℕ)) (u : Family) → ((i : ℕ) (l : Literal) → slice_get literals i ≡ Some l → are_small c l.atom.args ≡ true) → ((k : ℕ) (e : EntryValue) → StandsAt context k e → IsSmallPattern c e.atom) → IsUnifier context literals positions u → (space x : ℕ) → is_small c (u space x) ≡ true
small_unifier c context literals positions u each entries h space x =
    let v : Family = λ n y. collapse c (u n y) in
    let solved : Solves context literals positions v = λ i k l e o. meets c (u (i + 1)) (u 0) e.atom l.atom (entries k e o.stands) (each i l o.literal) (h.solves i k l e o) in
    let general = h.most_general v solved in
    small_by c general.0 (u space x) (is_small c (u space x)) refl (general.1 space x)
