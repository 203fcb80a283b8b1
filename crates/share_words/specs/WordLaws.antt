-- Laws of the rule.
use Rattle.std.specs.Prelude.{◌≡◌, ℕ, ◌+◌, ◌≤◌, ◌<◌, ◌++◌, [], ◌∷◌, true, false, length, slice_index, slice_set}
use mathlib.Core.Option.{some}
use lib.ListN.{get_elem?}
use Rattle.atomic_table.specs.Table.{State}
use Rattle.branch_core.specs.Paths.{Turns}
use Rattle.branch_core.specs.Core.{CoreValue}
use Rattle.share_words.specs.declared.plays.SeatView.{SeatView}
use Rattle.share_words.specs.Counts.{path_count, number_count, total, Each}
use Rattle.share_words.specs.Views.{blank, new_view, with_fork, with_raised, with_looked, together}
use Rattle.share_words.specs.Rule.{word_at, at_root, bears_number, Tells, IsLive, IsLeastKey, WereFound}
use Rattle.share_words.specs.Shown.{ShowsCore, moved}
use Rattle.share_words.specs.Kept.{Kept}

abbrev pub Table : Type 0
Table = State (Unit {0}) SeatView

-- ---- what a path's word says
-- The path stands in no list of the seat.
pub record HasNot (path : Turns) (v : SeatView) : Type 0 where
  pub offered : path_count path v.offered ≡ 0
  pub raised : path_count path v.raised ≡ 0
  pub taken : path_count path v.taken ≡ 0
  pub ended : path_count path v.ended ≡ 0

-- The word counts how often the path was given away and taken. 0: it isn't the root and stands in no list. 1: it is the root or was given away, once, and no seat took it. 2: it is the root or was given away, once, and one seat took it, once.
pub record ReadsPath (s : Table) (path : Turns) : Type 0 where
  pub counts : Tells (word_at s.words path) (at_root path + total (λ v. path_count path v.offered) s.views) (total (λ v. path_count path v.taken) s.views)
  pub unknown : word_at s.words path ≡ 0 → (at_root path ≡ 0) × Each (HasNot path) s.views
  pub offered : word_at s.words path ≡ 1 → (at_root path + total (λ v. path_count path v.offered) s.views ≡ 1) × (total (λ v. path_count path v.taken) s.views ≡ 0)
  pub taken : word_at s.words path ≡ 2 → (at_root path + total (λ v. path_count path v.offered) s.views ≡ 1) × (total (λ v. path_count path v.taken) s.views ≡ 1)
  pub no_other : word_at s.words path ≤ 2

-- So it is between any two steps, for each path.
abbrev pub WordsRead : Type 0
WordsRead = (share : ℕ) (s : Table) → Kept share s → (path : Turns) → ReadsPath s path

-- ---- what the lists and the other two words say
-- What a seat raised it gave away, once, and what it ended it took, once.
pub record ReadsSeatPaths (v : SeatView) : Type 0 where
  pub raised : (path : Turns) → path_count path v.raised ≤ path_count path v.offered
  pub offered_once : (path : Turns) → path_count path v.offered ≤ 1
  pub ended : (path : Turns) → path_count path v.ended ≤ path_count path v.taken
  pub taken_once : (path : Turns) → path_count path v.taken ≤ 1

-- The word of the living is one, and one more for each path that a seat raised, less those that one ended, modulo 2^64. The least word is the least key that a seat posted, or says that there is none. Each key that a seat looked at was posted by one.
pub record ReadsLists (s : Table) : Type 0 where
  pub paths : Each ReadsSeatPaths s.views
  pub live : IsLive (slice_index s.words 1) (total (λ v. length v.raised) s.views) (total (λ v. length v.ended) s.views)
  pub least : IsLeastKey (slice_index s.words 0) (λ key. total (λ v. number_count key v.posted) s.views)
  pub looked : WereFound (λ key. total (λ v. number_count key v.looked) s.views) (λ key. total (λ v. number_count key v.posted) s.views)

-- So it is between any two steps.
abbrev pub ListsRead : Type 0
ListsRead = (share : ℕ) (s : Table) → Kept share s → ReadsLists s

-- ---- the state that is shown
-- The words and the lists show one state: that of each path, and the least key. The records that are kept do not show.
pub record SameShown (core other : CoreValue) : Type 0 where
  pub share : core.share ≡ other.share
  pub states : (path : Turns) → core.states path ≡ other.states path
  pub least : core.least ≡ other.least

abbrev pub ShownIsOne : Type 0
ShownIsOne = (share : ℕ) (s : Table) → Kept share s → (core other : CoreValue) → ShowsCore share s core → ShowsCore share s other → SameShown core other

-- ---- seats
-- Seats that are not spent have different numbers. Each of these is 0, or from 1 to the number of seats that were made, and seat 0 took in none of that number. Each other number up to there was taken in once. A spent seat has nothing.
pub record ReadsSeats (s : Table) (first : SeatView) : Type 0 where
  pub apart : (id j : ℕ) (v u : SeatView) → ¬ (j ≡ id) → get_elem? s.views id ≡ some v → get_elem? s.views j ≡ some u → v.spent ≡ false → u.spent ≡ false → ¬ (u.number ≡ v.number)
  pub numbered : (id : ℕ) (v : SeatView) → get_elem? s.views id ≡ some v → v.spent ≡ false → (v.number ≤ first.forks) × (number_count v.number first.gathered ≡ 0)
  pub gathered_once : (n : ℕ) → number_count n first.gathered ≤ 1
  pub gathered_made : (n : ℕ) → 0 < number_count n first.gathered → (0 < n) × (n ≤ first.forks)
  pub all_used : (n : ℕ) → n ≤ first.forks → number_count n first.gathered ≡ 0 → total (bears_number n) s.views ≡ 1
  pub spent : (id : ℕ) (v : SeatView) → get_elem? s.views id ≡ some v → v.spent ≡ true → v ≡ blank

-- So it is between any two steps, where the first is seat 0.
abbrev pub SeatsRead : Type 0
SeatsRead = (share id : ℕ) (s : Table) (first : SeatView) → Kept share s → get_elem? s.views id ≡ some first → first.spent ≡ false → first.number ≡ 0 → ReadsSeats s first

-- ---- the steps that are no events
-- One word and one view change.
abbrev pub with_step : Table → ℕ → ℕ → ℕ → SeatView → Table
with_step s word n id w = record { words = slice_set s.words word n; homes = s.homes; views = slice_set s.views id w }

-- What was shown is shown, and each path has the word that it had.
pub record KeepsShown (share : ℕ) (before later : Table) : Type 0 where
  pub shows : (core : CoreValue) → ShowsCore share before core → ShowsCore share later core
  pub words : (path : Turns) → word_at later.words path ≡ word_at before.words path

-- A path that is raised, a look at either word and a seat that is made change no state that is shown. When seat 0 takes a seat in, it holds what that seat held.
pub record OtherStepsShow : Type 0 where
  pub raise : (share id n : ℕ) (path : Turns) (v : SeatView) (s : Table) → Kept share s → get_elem? s.views id ≡ some v → KeepsShown share s (with_step s 1 n id (with_raised v path))
  pub live : (share id : ℕ) (v : SeatView) (s : Table) → Kept share s → get_elem? s.views id ≡ some v → KeepsShown share s (with_step s 1 (slice_index s.words 1) id v)
  pub look : (share id : ℕ) (v : SeatView) (s : Table) → Kept share s → get_elem? s.views id ≡ some v → KeepsShown share s (with_step s 0 (slice_index s.words 0) id (with_looked v (slice_index s.words 0)))
  pub fork : (share id : ℕ) (v : SeatView) (s : Table) → Kept share s → get_elem? s.views id ≡ some v → KeepsShown share s record { words = s.words; homes = s.homes; views = slice_set s.views id (with_fork v) ++ new_view (v.forks + 1) ∷ [] }
  pub gather : (share id other : ℕ) (v w : SeatView) (s : Table) → Kept share s → get_elem? s.views id ≡ some v → v.spent ≡ false → v.number ≡ 0 → ¬ (other ≡ id) → get_elem? s.views other ≡ some w → w.spent ≡ false
      → (core : CoreValue) → ShowsCore share s core → ShowsCore share record { words = s.words; homes = s.homes; views = slice_set (slice_set s.views id (together v w)) other blank } (moved w.number v.number core)
