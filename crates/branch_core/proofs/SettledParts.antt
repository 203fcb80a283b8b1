-- Parts that are closed or met a bound, and what they add up to.
use Rattle.std.proofs.Common.{◌≡◌, ℕ, ◌⊎◌, inl, inr, List, [], ◌∷◌, refl, ap}
use Rattle.me_terms.specs.Answer.{AnswerValue}
use Rattle.me_terms.specs.Context.{Context}
use Rattle.me_terms.specs.declared.bounds.Bound.{Bound}
use Rattle.branch_core.specs.Parts.{ListedValue, Whole, TooHeavy, PartValue, Closed, Bounded, Sat, Gift, Cut, NoMemory}
use Rattle.branch_core.specs.Total.{Total, AllClosed, HasBound, HasSat, Lost, total_with, total_of, Decides}
use Rattle.branch_core.specs.Gathered.{AreSettledParts, IsClosedPart, IsSettledPart}

-- settled parts add up to a list or a bound
settled_total : (n : ℕ) (parts : List PartValue) → AreSettledParts parts → ((list : ListedValue) × (total_of n parts ≡ AllClosed list)) ⊎ ((b : Bound) × (total_of n parts ≡ HasBound b))
settled_total n [] h = inl (Whole [], refl)
settled_total n (Closed list ∷ parts) h =
    elim (settled_total n parts h.1) as (λ _. ((more : ListedValue) × (total_of n (Closed list ∷ parts) ≡ AllClosed more)) ⊎ ((b : Bound) × (total_of n (Closed list ∷ parts) ≡ HasBound b))) [
      | inl x ↦ inl (_, ap (total_with n (AllClosed list)) x.1)
      | inr x ↦ inr (x.0, ap (total_with n (AllClosed list)) x.1)
    ]
settled_total n (Bounded b ∷ parts) h =
    elim (settled_total n parts h.1) as (λ _. ((more : ListedValue) × (total_of n (Bounded b ∷ parts) ≡ AllClosed more)) ⊎ ((c : Bound) × (total_of n (Bounded b ∷ parts) ≡ HasBound c))) [
      | inl x ↦ inr (b, ap (total_with n (HasBound b)) x.1)
      | inr x ↦ inr (b, ap (total_with n (HasBound b)) x.1)
    ]
settled_total n (Sat context ∷ parts) h = absurd h.0
settled_total n (Gift turns ∷ parts) h = absurd h.0
settled_total n (Cut key ∷ parts) h = absurd h.0
settled_total n (NoMemory ∷ parts) h = absurd h.0

pub first_bound_decides : (n : ℕ) (b : Bound) (parts : List PartValue) → AreSettledParts parts → total_of n (Bounded b ∷ parts) ≡ HasBound b
first_bound_decides n b parts h =
    elim (settled_total n parts h) as (λ _. total_of n (Bounded b ∷ parts) ≡ HasBound b) [
      | inl x ↦ ap (total_with n (HasBound b)) x.1
      | inr x ↦ ap (total_with n (HasBound b)) x.1
    ]

-- a settled part hides no exhausted leaf to its right
pub later_model : (n : ℕ) (first : PartValue) (parts : List PartValue) (context : Context) → IsSettledPart first → total_of n parts ≡ HasSat context → total_of n (first ∷ parts) ≡ HasSat context
later_model n (Closed list) parts context h e = ap (total_with n (AllClosed list)) e
later_model n (Bounded b) parts context h e = ap (total_with n (HasBound b)) e
later_model n (Sat other) parts context h e = absurd h
later_model n (Gift turns) parts context h e = absurd h
later_model n (Cut key) parts context h e = absurd h
later_model n NoMemory parts context h e = absurd h

pub decides_once : (t : Total) (reply other : AnswerValue) → Decides t reply → Decides t other → reply ≡ other
decides_once (AllClosed (Whole list)) reply other g h = cc
decides_once (AllClosed TooHeavy) reply other g h = cc
decides_once (HasBound b) reply other g h = cc
decides_once (HasSat context) reply other g h = cc
decides_once Lost reply other g h = absurd g

-- a closed part hides no bound to its right
pub later_bound : (n : ℕ) (first : PartValue) (parts : List PartValue) (b : Bound) → IsClosedPart first → total_of n parts ≡ HasBound b → total_of n (first ∷ parts) ≡ HasBound b
later_bound n (Closed list) parts b h e = ap (total_with n (AllClosed list)) e
later_bound n (Bounded c) parts b h e = absurd h
later_bound n (Sat other) parts b h e = absurd h
later_bound n (Gift turns) parts b h e = absurd h
later_bound n (Cut key) parts b h e = absurd h
later_bound n NoMemory parts b h e = absurd h
