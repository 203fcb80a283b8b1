-- The lines of the rule: what the words and the lists of all seats have to do with each other.
use Rattle.std.specs.Prelude.{◌≡◌, ℕ, ◌+◌, ◌^◌, ◌%◌, ◌≤◌, ◌<◌, true, cond, nat_eq, List, [], ◌∷◌, length, slice_index}
use Rattle.branch_core.specs.Paths.{Turns, code}
use Rattle.share_words.specs.declared.plays.SeatView.{SeatView}
use Rattle.share_words.specs.Counts.{path_count, number_count, total}
use Rattle.share_words.specs.Views.{blank}

-- The least word where no key was posted.
abbrev pub no_key : ℕ
no_key = 65536

-- How many words there are: that of the least key, that of the living, and one for each path of few turns.
abbrev pub words_of : ℕ → ℕ
words_of share = 2 ^ (share + 1) + 1

-- The word of a path. A path of more turns has none, and reads as 0.
abbrev pub word_at : List ℕ → Turns → ℕ
word_at words path = slice_index words (code path + 1)

-- The root is given away once, before any step.
abbrev pub at_root : Turns → ℕ
at_root [] = 1
at_root (turn ∷ turns) = 0

-- A path's word counts how often it was given away and taken. It is taken only after it was given away, which happens once.
pub record Tells (word given taken : ℕ) : Type 0 where
  pub counted : word ≡ given + taken
  pub later : taken ≤ given
  pub once : given ≤ 1

-- The word of the living: one, and one more for each that was raised, less those that ended, modulo 2^64.
abbrev pub IsLive : ℕ → ℕ → ℕ → Type 0
IsLive word raised ended = (word + ended) % 2 ^ 64 ≡ (1 + raised) % 2 ^ 64

-- The least word is the least of all keys that were posted, each of which is a key, or says that there is none.
pub record IsLeastKey (word : ℕ) (posted : ℕ → ℕ) : Type 0 where
  pub lower : (key : ℕ) → 0 < posted key → word ≤ key
  pub reached : word < no_key → 0 < posted word
  pub capped : word ≤ no_key
  pub keys : (key : ℕ) → 0 < posted key → key < no_key

-- Each key that was looked at was posted.
abbrev pub WereFound : (ℕ → ℕ) → (ℕ → ℕ) → Type 0
WereFound looked posted = (key : ℕ) → key < no_key → 0 < looked key → 0 < posted key

-- 1 for a seat of this number that is not spent.
abbrev pub bears_number : ℕ → SeatView → ℕ
bears_number n v = cond v.spent 0 (cond (nat_eq n v.number) 1 0)

-- Each number up to that of the forks is that of one seat, or was gathered once; no other number is in use; and 0 is that of a seat.
pub record AreNumbered (forks : ℕ) (seats gathered : ℕ → ℕ) : Type 0 where
  pub used : (n : ℕ) → n ≤ forks → seats n + gathered n ≡ 1
  pub unused : (n : ℕ) → forks < n → seats n + gathered n ≡ 0
  pub first : gathered 0 ≡ 0

-- What is known with one seat: what it raised it offered, and what it ended it took; another seat than seat 0 makes and gathers none; and a spent seat has nothing.
pub record IsSeat (v : SeatView) : Type 0 where
  pub raised : (path : Turns) → path_count path v.raised ≤ path_count path v.offered
  pub ended : (path : Turns) → path_count path v.ended ≤ path_count path v.taken
  pub others : ¬ (v.number ≡ 0) → (v.forks ≡ 0) × (v.gathered ≡ [])
  pub spent : v.spent ≡ true → v ≡ blank

abbrev pub PathsTell : List ℕ → List SeatView → Type 0
PathsTell words views = (path : Turns) → Tells (word_at words path) (at_root path + total (λ v. path_count path v.offered) views) (total (λ v. path_count path v.taken) views)

abbrev pub LiveTells : List ℕ → List SeatView → Type 0
LiveTells words views = IsLive (slice_index words 1) (total (λ v. length v.raised) views) (total (λ v. length v.ended) views)

abbrev pub LeastTells : List ℕ → List SeatView → Type 0
LeastTells words views = IsLeastKey (slice_index words 0) (λ key. total (λ v. number_count key v.posted) views)

abbrev pub LooksTell : List SeatView → Type 0
LooksTell views = WereFound (λ key. total (λ v. number_count key v.looked) views) (λ key. total (λ v. number_count key v.posted) views)

abbrev pub SeatsNumbered : List SeatView → Type 0
SeatsNumbered views = AreNumbered (total (λ v. v.forks) views) (λ n. total (bears_number n) views) (λ n. total (λ v. number_count n v.gathered) views)
