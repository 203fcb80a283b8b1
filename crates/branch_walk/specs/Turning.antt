-- How a walk goes back along a branch, and turns to the right.
use Rattle.std.specs.Prelude.{◌≡◌, ◌≤◌, ℕ, ◌++◌, [], ◌∷◌, not, length}
use Rattle.me_terms.specs.Values.{EntryValue, SplitLeft, SplitRight}
use Rattle.me_terms.specs.Context.{Context, add}

-- The entry of the right branch beside the left branch of this entry: the same literal with the other sign.
abbrev pub beside : EntryValue → EntryValue
beside e = record { positive = not e.positive; atom = e.atom; kind = e.kind; reason = SplitRight }

-- No entry of the list begins a left branch.
abbrev pub AreNotLeft : Context → Type 0
AreNotLeft [] = Unit {0}
AreNotLeft (e ∷ later) = (e.reason ≡ SplitLeft → ⊥) × AreNotLeft later

-- The last entry begins a left branch.
pub record EndsLeft (context : Context) : Type 0 where
  pub before : Context
  pub left : EntryValue
  pub some : 1 ≤ length before
  pub is : context ≡ add before left
  pub is_left : left.reason ≡ SplitLeft

-- Of the entries from the base on, those behind the last one of a left branch are taken off.
pub record IsBackAtLeft (base : ℕ) (old new : Context) : Type 0 where
  pub before : Context
  pub left : EntryValue
  pub later : Context
  pub above : base ≤ length before
  pub was : old ≡ before ++ left ∷ later
  pub is_left : left.reason ≡ SplitLeft
  pub last : AreNotLeft later
  pub now_is : new ≡ add before left

-- None of the entries from the base on is that of a left branch, and all are taken off.
pub record IsAllBack (base : ℕ) (old new : Context) : Type 0 where
  pub later : Context
  pub was : old ≡ new ++ later
  pub none : AreNotLeft later
  pub at_base : length new ≡ base
