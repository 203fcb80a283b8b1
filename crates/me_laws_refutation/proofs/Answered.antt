-- An Unsatisfiable answer comes of a closed tree whose list is within the bound.
use Rattle.std.proofs.Common.{◌≡◌, ℕ, ◌≤◌, Bool, true, false, cond, List, nat_le, refl, subst, arith}
use Rattle.std.proofs.lemmas.Grind.{common_steps}
use Rattle.me_terms.specs.Measures.{list_weight}
use Rattle.me_terms.specs.Values.{ProblemValue, InstanceValue}
use Rattle.me_terms.specs.Validity.{IsValid}
use Rattle.me_terms.specs.Grown.{start}
use Rattle.me_terms.specs.Outcome.{TreeOutcome, Closed, Sat, Met, HasOutcome}
use Rattle.me_terms.specs.Answer.{Unsatisfiable, GaveUp, answer_of, HasAnswer}
use Rattle.me_terms.specs.declared.bounds.Bound.TheVariants as bound
use Rattle.me_terms.specs.declared.bounds.Bounds.{Bounds}
use Rattle.me_laws_refutation.specs.Refutation.{ClosedIsRefutedBy}
use Rattle.me_laws_refutation.proofs.Refuted.{closed_refuted}

within : (m n : ℕ) → nat_le m n ≡ true → m ≤ n
within m n h = grind (arith, common_steps)

given_by : (bounds : Bounds) (list l : List InstanceValue) (test : Bool) → nat_le (list_weight l) bounds.list ≡ test → Unsatisfiable list ≡ cond test (Unsatisfiable l) (GaveUp bound.List) → (l ≡ list) × (list_weight l ≤ bounds.list)
given_by bounds list l true e h = (cc h, within (list_weight l) bounds.list e)
given_by bounds list l false e h = cc

given : (bounds : Bounds) (list : List InstanceValue) (outcome : TreeOutcome) → Unsatisfiable list ≡ answer_of bounds outcome → (outcome ≡ Closed list) × (list_weight list ≤ bounds.list)
given bounds list (Sat context) h = cc
given bounds list (Met b) h = cc
given bounds list (Closed l) h =
    let both = given_by bounds list l (nat_le (list_weight l) bounds.list) refl h in
    let P : List InstanceValue → Type 0 = λ x. (Closed l ≡ Closed x) × (list_weight x ≤ bounds.list) in
    subst P both.0 (refl, both.1)

pub unsatisfiable_refuted : (problem : ProblemValue) (bounds : Bounds) (list : List InstanceValue) → IsValid problem → HasAnswer problem bounds (Unsatisfiable list) → ClosedIsRefutedBy problem list × (list_weight list ≤ bounds.list)
unsatisfiable_refuted problem bounds list valid h =
    let from = given bounds list h.0 h.2 in
    let P : TreeOutcome → Type 0 = λ o. HasOutcome problem bounds (start bounds.start) o in
    (closed_refuted problem bounds list valid (subst P from.0 h.1), from.1)
