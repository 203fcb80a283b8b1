-- The lines of a model as they are added to a context, and the search for a productive unifier.
use Rattle.std.specs.Prelude.{◌≡◌, ℕ, ◌<◌, List, Option, None, Some}
use Rattle.std.specs.List.{AllByRecursion}
use Rattle.me_terms.specs.Context.{Context, add}
use Rattle.me_terms.specs.Positions.{positions_of}
use Rattle.me_terms.specs.Productive.{IsProductive, HasProductive}
use Rattle.me_terms.specs.Substitutions.{Family}
use Rattle.me_terms.specs.Unifier.{IsContextUnifier}
use Rattle.me_terms.specs.Values.{ProblemValue}
use Rattle.me_terms.specs.declared.atom.Literal.{Literal}
use Rattle.me_terms.specs.declared.bounds.Start.{Start}
use Rattle.me_terms.specs.declared.bounds.TheConstants.{MAX_ENTRIES}
use Rattle.szs_read.specs.declared.claim.EntryLine.{EntryLine}
use Rattle.answer_check.specs.Judgements.{AreRightEntries, IsFirstProductive, IsRightEntry, IsWrongEntry, context_of, entry_of}
use Rattle.answer_check.specs.declared.model.Entered.{Entered}
use Rattle.answer_check.specs.declared.model.Entered.TheVariants.{All, Wrong}

-- Each line stands at a position that a context can have.
abbrev pub AreBelow : List EntryLine → Type 0
AreBelow lines = AllByRecursion (λ line. line.at < MAX_ENTRIES) lines

-- The line was right and is added, or it is wrong and its position is answered.
abbrev pub IsAdded : Context → Context → EntryLine → Option ℕ → Type 0
IsAdded old new line None = IsRightEntry old line × (new ≡ add old (entry_of line))
IsAdded old new line (Some at) = (¬ IsRightEntry old line) × (at ≡ line.at)

-- The lines are right and the context is theirs, or the position of the first wrong one is answered.
abbrev pub AreEntered : Start → List EntryLine → Entered → Type 0
AreEntered start lines (All context) = AreRightEntries start lines × (context ≡ context_of start lines)
AreEntered start lines (Wrong at) = IsWrongEntry start lines at

-- The literals and the tuple have a productive context unifier.
abbrev pub IsProductiveTuple : Context → List Literal → List ℕ → Type 0
IsProductiveTuple context literals tuple =
    (f : Family) × IsContextUnifier context literals None tuple f × IsProductive context literals (positions_of None tuple) f

abbrev pub HasProductiveUnifier : Context → List Literal → Type 0
HasProductiveUnifier context literals = (tuple : List ℕ) × IsProductiveTuple context literals tuple

-- No clause has a productive unifier, or the first that has one is of this number.
abbrev pub IsProductiveSearch : ProblemValue → Context → Option ℕ → Type 0
IsProductiveSearch problem context None = ¬ HasProductive problem context
IsProductiveSearch problem context (Some number) = IsFirstProductive problem context number
