-- What a step leaves as it was: each line of the rule that names neither the word nor the lists that it changes.
use Rattle.std.proofs.Common.{◌≡◌, ◌≢◌, ℕ, suc, ◌+◌, ◌^◌, ◌<◌, ◌≤◌, Bool, false, cond, ◌⊎◌, inl, inr, List, length, set, nat_eq, sym, subst, ap, ⊎_elim, arith}
use Rattle.std.specs.Prelude.{slice_index}
use Rattle.std.proofs.lemmas.List.{get_or-set_same, get_or-set_other, set-get_or, get_or_past}
use mathlib.Core.Option.{some}
use lib.ListN.{get_elem?}
use Rattle.atomic_table.specs.Table.{State, stepped, keeps}
use Rattle.atomic_table.proofs.Lists.{set_again}
use Rattle.branch_core.specs.Paths.{Turns, code}
use Rattle.branch_core.specs.Core.{turns_eq}
use Rattle.branch_core.specs.PathLaws.{code_from_above, double}
use Rattle.branch_core.proofs.PathOrder.{codes_injective, bits_below}
use Rattle.std.proofs.Math.Nat.{pow-le-pow_right, one-le-pow}
use Rattle.share_words.specs.declared.plays.SeatView.{SeatView}
use Rattle.share_words.specs.Counts.{path_count, number_count, total}
use Rattle.share_words.specs.Rule.{words_of, word_at, IsLive, IsLeastKey, bears_number, AreNumbered, PathsTell, LiveTells, LeastTells, LooksTell, SeatsNumbered}
use Rattle.share_words.specs.Kept.{Kept}
use Rattle.share_words.proofs.Counts.{one_or_other, turns_other, same}

-- ---- the words of paths
-- The first turn leads to a code of at least 1.
pub code_above : (path : Turns) → 1 ≤ code path
code_above path = omega (arith, code_from_above 1 path, one-le-pow (length path) 2 (omega arith))

-- A path of few turns has a word.
pub has_word : (share : ℕ) (path : Turns) → length path ≤ share → code path + 1 < words_of share
has_word share path h =
    let most : 2 ^ length path ≤ 2 ^ share = pow-le-pow_right (omega arith) h in
    let next : 2 ^ (share + 1) ≡ 2 ^ suc share = ap (λ (k : ℕ). 2 ^ k) (omega arith) in
    omega (arith, code_from_above 1 path, bits_below path, most, next, double share)

-- A path without a word reads as 0.
pub past_is_0 : (words : List ℕ) (path : Turns) → length words ≤ code path + 1 → word_at words path ≡ 0
past_is_0 words path h = get_or_past words (code path + 1) 0 h

-- Another path's word stays.
pub word_else : (words : List ℕ) (path other : Turns) (n : ℕ) → turns_eq other path ≡ false → word_at (set words (code path + 1) n) other ≡ word_at words other
word_else words path other n apart =
    get_or-set_other words (code path + 1) (code other + 1) n 0 (λ e. turns_other other path apart (codes_injective other path (omega arith)))

pub word_here : (words : List ℕ) (path : Turns) (n : ℕ) → code path + 1 < length words → word_at (set words (code path + 1) n) path ≡ n
word_here words path n inside = get_or-set_same words (code path + 1) n 0 inside

-- The words of the least key and of the living are those of no path.
pub word_low : (words : List ℕ) (i n : ℕ) (path : Turns) → i < 2 → word_at (set words i n) path ≡ word_at words path
word_low words i n path low = get_or-set_other words i (code path + 1) n 0 (λ e. absurd (let h = code_above path in omega arith))

-- A path whose word isn't 0 has one.
pub word_within : (words : List ℕ) (path : Turns) → 0 < word_at words path → code path + 1 < length words
word_within words path h = elim (below_or_past (code path + 1) (length words)) as (λ _. code path + 1 < length words) [ inl b ↦ b | inr p ↦ absurd (let z = past_is_0 words path p in omega arith) ]
  where
    below_or_past : (a b : ℕ) → (a < b) ⊎ (b ≤ a)
    below_or_past a b = grind arith

-- A path's word rises, and the others stay.
pub rises_put : (words : List ℕ) (path : Turns) (n : ℕ) → code path + 1 < length words → word_at words path ≤ n → (other : Turns) → word_at words other ≤ word_at (set words (code path + 1) n) other
rises_put words path n inside up other =
    ⊎_elim
    (λ (e : other ≡ path). let P : Turns → Type 0 = λ t. word_at words t ≤ word_at (set words (code path + 1) n) t in subst P (sym e) (let h = word_here words path n inside in omega arith))
    (λ (apart : turns_eq other path ≡ false). let h = word_else words path other n apart in omega arith)
    (one_or_other other path)

pub rises_low : (words : List ℕ) (i n : ℕ) → i < 2 → (path : Turns) → word_at words path ≤ word_at (set words i n) path
rises_low words i n low path = let h = word_low words i n path low in omega arith

-- ---- a step on one word, by which one view changes
module _ (words : List ℕ) (views : List SeatView) (i n id : ℕ) (v w : SeatView) (at : get_elem? views id ≡ some v) where
  pub paths_stay : i < 2 → w.offered ≡ v.offered → w.taken ≡ v.taken → PathsTell words views → PathsTell (set words i n) (set views id w)
  paths_stay low o t paths path =
      let a = same (λ (u : SeatView). path_count path u.offered) views id v w at (ap (path_count path) o) in
      let b = same (λ (u : SeatView). path_count path u.taken) views id v w at (ap (path_count path) t) in
      let c = word_low words i n path low in
      let p = paths path in
      let p0 = p.counted in let p1 = p.later in let p2 = p.once in
      record { counted = omega arith; later = omega arith; once = omega arith }

  pub live_stays : i ≢ 1 → w.raised ≡ v.raised → w.ended ≡ v.ended → LiveTells words views → LiveTells (set words i n) (set views id w)
  live_stays apart r e live =
      let a = same (λ (u : SeatView). length u.raised) views id v w at (ap length r) in
      let b = same (λ (u : SeatView). length u.ended) views id v w at (ap length e) in
      let c : slice_index (set words i n) 1 ≡ slice_index words 1 = get_or-set_other words i 1 n 0 (λ h. apart (sym h)) in
      let P : ℕ × ℕ × ℕ → Type 0 = λ t. IsLive t.0 t.1 t.2 in
      subst P (λ k. (sym c k, sym a k, sym b k)) live

  posted_same : w.posted ≡ v.posted → (key : ℕ) → total (λ (u : SeatView). number_count key u.posted) (set views id w) ≡ total (λ u. number_count key u.posted) views
  posted_same p key = same (λ (u : SeatView). number_count key u.posted) views id v w at (ap (number_count key) p)

  pub least_stays : i ≢ 0 → w.posted ≡ v.posted → LeastTells words views → LeastTells (set words i n) (set views id w)
  least_stays apart p least =
      let c : slice_index (set words i n) 0 ≡ slice_index words 0 = get_or-set_other words i 0 n 0 (λ h. apart (sym h)) in
      let P : ℕ × (ℕ → ℕ) → Type 0 = λ t. IsLeastKey t.0 t.1 in
      subst P (λ j. (sym c j, (λ k. sym (posted_same p k) j))) least

  pub looks_stay : w.posted ≡ v.posted → w.looked ≡ v.looked → LooksTell views → LooksTell (set views id w)
  looks_stay p l looks key low some_looked =
      let a = same (λ (u : SeatView). number_count key u.looked) views id v w at (ap (number_count key) l) in
      let b = posted_same p key in
      let h = looks key low (omega arith) in omega arith

  pub seats_stay : w.spent ≡ v.spent → w.number ≡ v.number → w.forks ≡ v.forks → w.gathered ≡ v.gathered → SeatsNumbered views → SeatsNumbered (set views id w)
  seats_stay s m f g numbered =
      let a = same (λ (u : SeatView). u.forks) views id v w at f in
      let b : (k : ℕ) → total (bears_number k) (set views id w) ≡ total (bears_number k) views = λ k. same (bears_number k) views id v w at (let P : Bool × ℕ → ℕ = λ t. cond t.0 0 (cond (nat_eq k t.1) 1 0) in ap P (λ j. (s j, m j))) in
      let c : (k : ℕ) → total (λ (u : SeatView). number_count k u.gathered) (set views id w) ≡ total (λ u. number_count k u.gathered) views = λ k. same (λ (u : SeatView). number_count k u.gathered) views id v w at (ap (number_count k) g) in
      let P : ℕ × (ℕ → ℕ) × (ℕ → ℕ) → Type 0 = λ t. AreNumbered t.0 t.1 t.2 in
      subst P (λ j. (sym a j, (λ k. sym (b k) j), (λ k. sym (c k) j))) numbered

-- A step that changes neither keeps the rule.
pub stays : (share id x : ℕ) (v : SeatView) (c : List (ℕ × Unit {0})) (s : State (Unit {0}) SeatView) → Kept share s → get_elem? s.views id ≡ some v → Kept share (stepped s x (slice_index s.words x) id c v keeps)
stays share id x v c s kept at =
    subst (λ (ws : List ℕ). Kept share record { words = ws; homes = s.homes; views = set s.views id v }) (sym (set-get_or s.words x 0))
    (subst (λ (vs : List SeatView). Kept share record { words = s.words; homes = s.homes; views = vs }) (sym (set_again s.views id v at)) kept)
