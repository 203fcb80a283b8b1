-- What parts without gifts add up to, and the answer that it decides.
use Rattle.std.specs.Prelude.{◌≡◌, ℕ, List, [], ◌∷◌}
use Rattle.me_terms.specs.FirstOccurrences.{joined}
use Rattle.me_terms.specs.Context.{Context}
use Rattle.me_terms.specs.Answer.{AnswerValue, Unsatisfiable, Satisfiable, GaveUp}
use Rattle.me_terms.specs.declared.bounds.Bound.{Bound}
use Rattle.me_terms.specs.declared.bounds.Bound.TheVariants as bound
use Rattle.branch_core.specs.Parts.{ListedValue, Whole, TooHeavy, PartValue, Closed, Bounded, Sat, Gift, Cut, NoMemory, listed}

-- What parts without gifts add up to, from the left on.
pub data Total : Type 0 where
  AllClosed : ListedValue → Total
  HasBound : Bound → Total
  HasSat : Context → Total
  Lost : Total

-- Two closed runs: the lists are joined, and weighed anew.
abbrev pub listed_joined : ℕ → ListedValue → ListedValue → ListedValue
listed_joined list_bound (Whole list) (Whole more) = listed list_bound (joined list more)
listed_joined list_bound (Whole list) TooHeavy = TooHeavy
listed_joined list_bound TooHeavy more = TooHeavy

-- A Sat decides. A part whose leaves are not known loses what follows it. Else a Sat to the right decides, or the first bound, or all is closed.
abbrev pub total_with : ℕ → Total → Total → Total
total_with list_bound (HasSat context) later = HasSat context
total_with list_bound Lost later = Lost
total_with list_bound (AllClosed list) (AllClosed more) = AllClosed (listed_joined list_bound list more)
total_with list_bound (AllClosed list) (HasBound b) = HasBound b
total_with list_bound (AllClosed list) (HasSat context) = HasSat context
total_with list_bound (AllClosed list) Lost = Lost
total_with list_bound (HasBound b) (AllClosed more) = HasBound b
total_with list_bound (HasBound b) (HasBound c) = HasBound b
total_with list_bound (HasBound b) (HasSat context) = HasSat context
total_with list_bound (HasBound b) Lost = Lost

-- What one part adds up to.
abbrev pub part_total : PartValue → Total
part_total (Closed list) = AllClosed list
part_total (Bounded b) = HasBound b
part_total (Sat context) = HasSat context
part_total (Gift turns) = Lost
part_total (Cut key) = Lost
part_total NoMemory = Lost

-- What all parts add up to.
abbrev pub total_of : ℕ → List PartValue → Total
total_of list_bound [] = AllClosed (Whole [])
total_of list_bound (first ∷ parts) = total_with list_bound (part_total first) (total_of list_bound parts)

-- The total decides this answer. Lost decides none.
abbrev pub Decides : Total → AnswerValue → Type 0
Decides (AllClosed (Whole list)) reply = reply ≡ Unsatisfiable list
Decides (AllClosed TooHeavy) reply = reply ≡ GaveUp bound.List
Decides (HasBound b) reply = reply ≡ GaveUp b
Decides (HasSat context) reply = reply ≡ Satisfiable context
Decides Lost reply = ⊥
