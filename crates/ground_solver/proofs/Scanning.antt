-- How far a clause was looked through.
use Rattle.std.proofs.Common.{◌≡◌, ◌⊎◌, inl, inr, ℕ, ◌+◌, ◌<◌, ◌≤◌, Bool, true, false, List, length, Option, None, Some, get_or, sym, subst, arith}
use Rattle.std.specs.declared.vec.Vec.{Vec}
use Rattle.std.specs.declared.alloc.Global.{Global}
use Rattle.std.proofs.lemmas.List.{get_or_read}
use Rattle.std.proofs.lemmas.Bool.{cases_eq}
use Rattle.ground_solver.specs.Numbered.{Clauses}
use Rattle.std.specs.List.{Any}
use Rattle.ground_solver.specs.Standings.{IsFalseIn, IsFreeIn, IsTrueIn}
use Rattle.ground_solver.specs.declared.signed.Signed.{Signed}

-- the literals before k are false but for the first free one, unless there are more of these
abbrev pub IsSeen : List (Option Bool) → List Signed → Option ℕ → Bool → ℕ → Type 0
IsSeen values clause None more k = (j : ℕ) (d : Signed) → j < k → IsFalseIn values (get_or clause j d)
IsSeen values clause (Some f) false k =
    (f < length clause) × ((d : Signed) → IsFreeIn values (get_or clause f d)) × ((j : ℕ) (d : Signed) → j < k → (j ≡ f) ⊎ IsFalseIn values (get_or clause j d))
IsSeen values clause (Some f) true k = (f < length clause) × ((d : Signed) → IsFreeIn values (get_or clause f d))

-- one clause more has a true literal
pub found_more : (clauses : Clauses) (values : List (Option Bool)) (from k : ℕ) (clause : Vec Signed Global) → ((j : ℕ) (d : Vec Signed Global) → from ≤ j → j < k → Any (IsTrueIn values) (get_or clauses j d).items) → k < length clauses → clause ≡ get_or clauses k clause → Any (IsTrueIn values) clause.items → (j : ℕ) (d : Vec Signed Global) → from ≤ j → j < k + 1 → Any (IsTrueIn values) (get_or clauses j d).items
found_more clauses values from k clause before below is here j d le lt =
    elim (cases_eq j k) as (λ _. Any (IsTrueIn values) (get_or clauses j d).items) [
      | inl same ↦
          let there : Any (IsTrueIn values) (get_or clauses k d).items = subst (λ (c : Vec Signed Global). Any (IsTrueIn values) c.items) (get_or_read clauses k clause below is d) here in
          subst (λ (i : ℕ). Any (IsTrueIn values) (get_or clauses i d).items) (sym same) there
      | inr other ↦ let less : j < k = omega arith in before j d le less
    ]
