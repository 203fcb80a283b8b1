-- What is told of a step, and where the walk is after it.
use Rattle.std.specs.Prelude.{◌≡◌, Bool, true, false, List, ℕ, ◌++◌, length}
use Rattle.me_terms.specs.Values.{ProblemValue, EntryValue, SplitLeft}
use Rattle.me_terms.specs.Context.{Context, add}
use Rattle.me_terms.specs.Grown.{split_entry}
use Rattle.me_terms.specs.Next.{NextValue, Close, Assert, Split, Exhausted, Bounded, IsNext}
use Rattle.me_terms.specs.declared.bounds.Bounds.{Bounds}
use Rattle.branch_walk.specs.Turning.{IsAllBack, IsBackAtLeft, beside}
use Rattle.darwin_steps.specs.HiddenText.{IsHiddenText}
use Rattle.darwin_steps.specs.StepText.{key_text, right_text, step_text}

-- The context gets the entry, and the line tells what it hides.
pub record IsAdded (old : Context) (e : EntryValue) (new : Context) (text : List ℕ) : Type 0 where
  pub now_is : new ≡ add old e
  pub hidden : IsHiddenText old e text

-- The line of the leaf's key is told, and that of the right branch beside the last left one, which the context enters.
pub record IsTurned (problem : ProblemValue) (old new : Context) (text : List ℕ) : Type 0 where
  pub left : Context
  pub back : IsBackAtLeft 1 old left
  pub now_is : new ≡ add back.before (beside back.left)
  pub text_is : text ≡ key_text old ++ right_text problem.signature (length back.before) (beside back.left)

-- The line of the leaf's key alone is told, and no left branch is left whose right one was not gone.
pub record IsDone (old new : Context) (text : List ℕ) : Type 0 where
  pub back : IsAllBack 1 old new
  pub text_is : text ≡ key_text old

-- Behind a leaf that does not end the search the walk goes on in the next right branch, if there is one.
abbrev pub IsLeft : ProblemValue → Context → Bool → Context → List ℕ → Type 0
IsLeft problem old true new text = IsTurned problem old new text
IsLeft problem old false new text = IsDone old new text

-- What is told behind the line of a next step, whether the walk goes on, and with which context.
abbrev pub IsFollowed : ProblemValue → Context → NextValue → Bool → Context → List ℕ → Type 0
IsFollowed problem old (Close c tuple) goes_on new text = IsLeft problem old goes_on new text
IsFollowed problem old (Assert e) goes_on new text = (goes_on ≡ true) × IsAdded old e new text
IsFollowed problem old (Split l kind) goes_on new text = (goes_on ≡ true) × IsAdded old (split_entry l kind SplitLeft) new text
IsFollowed problem old Exhausted goes_on new text = (goes_on ≡ false) × (text ≡ key_text old)
IsFollowed problem old (Bounded b) goes_on new text = IsLeft problem old goes_on new text

-- The text has the line of the context's next step, and what is told behind it.
pub record IsTold (problem : ProblemValue) (bounds : Bounds) (old : Context) (goes_on : Bool) (new : Context) (text : List ℕ) : Type 0 where
  pub next : NextValue
  pub later : List ℕ
  pub is_next : IsNext problem bounds old next
  pub followed : IsFollowed problem old next goes_on new later
  pub text_is : text ≡ step_text problem (length old) next ++ later
