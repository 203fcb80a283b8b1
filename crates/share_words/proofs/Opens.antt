-- The words at the start.
use Rattle.std.proofs.Common.{◌≡◌, ℕ, zero, suc, ◌+◌, ◌*◌, ◌^◌, ◌%◌, ◌<◌, ◌≤◌, Bool, List, [], ◌∷◌, ◌⊎◌, ⊎_elim, length, set, replicate, cond, refl, sym, subst, ap, ◌∙◌, arith, ne_eqb}
use Rattle.std.specs.Prelude.{slice_index}
use Rattle.std.proofs.lemmas.List.{length-set, get_or-set_same, get_or-set_other, get_or-replicate, length-replicate, get_or_past}
use Rattle.std.proofs.Math.Nat.{one-le-pow}
use mathlib.Core.Option.{some-ne-none, some-injective}
use Rattle.atomic_table.specs.Table.{opening}
use Rattle.branch_core.specs.Paths.{Turns, code, code_from, bit}
use Rattle.branch_core.specs.PathLaws.{code_from_above}
use Rattle.branch_core.proofs.CoreTables.{room_fits}
use Rattle.share_words.specs.declared.plays.SeatView.{SeatView}
use Rattle.share_words.specs.Counts.{Each}
use Rattle.share_words.specs.Views.{first_view}
use Rattle.share_words.specs.Rule.{no_key, words_of, word_at, at_root, Tells, IsLive, IsLeastKey, bears_number, IsSeat}
use Rattle.share_words.specs.Kept.{Kept}
use Rattle.share_words.specs.Shown.{least_shown, SeatShows, HasShownCore, begins}
use Rattle.branch_core.specs.Core.{Unknown, Offered, first_states, first_core}
use Rattle.share_words.proofs.Showing.{seat_idle}
use Rattle.share_words.proofs.OneSeat.{seat_new}

-- The words before any step: no key, one alive, and the root to be taken.
abbrev zeros : ℕ → List ℕ
zeros n = replicate n 0

abbrev pub first_words : ℕ → List ℕ
first_words n = set (set (set (zeros n) 0 no_key) 1 1) 2 1

read_0 : (n i : ℕ) → slice_index (zeros n) i ≡ 0
read_0 n i = ⊎_elim (λ (h : i < n). get_or-replicate n i 0 0 h) (λ (h : n ≤ i). get_or_past (zeros n) i 0 (omega (arith, h, length-replicate n (zero)))) (below_or_past i n)
  where
    below_or_past : (a b : ℕ) → (a < b) ⊎ (b ≤ a)
    below_or_past a b = grind arith

deeper : (turn : Bool) (turns : Turns) → 2 ≤ code (turn ∷ turns)
deeper turn turns =
    let h = code_from_above (2 * 1 + bit turn) turns in
    let p = one-le-pow (length turns) 2 (omega arith) in
    let g : 2 ≤ code_from (2 * 1 + bit turn) turns = more_than (2 * 1 + bit turn) (2 ^ length turns) (code_from 0 turns) (code_from (2 * 1 + bit turn) turns) h p (omega arith) in g
  where
    more_than : (a p c x : ℕ) → x ≡ a * p + c → 1 ≤ p → 2 ≤ a → 2 ≤ x
    more_than a p c x e h g = let m : 2 * 1 ≤ a * p = grind arith in omega (arith, e, m)

module _ (n : ℕ) (h : 3 ≤ n) where
  long : (i : ℕ) → i < n → i < length (zeros n)
  long i g = omega (arith, g, length-replicate n (zero))

  reads : (i : ℕ) → 2 < i → slice_index (first_words n) i ≡ 0
  reads i g =
      get_or-set_other (set (set (zeros n) 0 no_key) 1 1) 2 i 1 0 (λ e. absurd (omega arith))
      ∙ (get_or-set_other (set (zeros n) 0 no_key) 1 i 1 0 (λ e. absurd (omega arith))
      ∙ (get_or-set_other (zeros n) 0 i no_key 0 (λ e. absurd (omega arith)) ∙ read_0 n i))

  root_is_1 : slice_index (first_words n) 2 ≡ 1
  root_is_1 = get_or-set_same (set (set (zeros n) 0 no_key) 1 1) 2 1 0 (omega (arith, h, length-set (set (zeros n) 0 no_key) 1 1, length-set (zeros n) 0 no_key, length-replicate n (zero)))

  live_is_1 : slice_index (first_words n) 1 ≡ 1
  live_is_1 = get_or-set_other (set (set (zeros n) 0 no_key) 1 1) 2 1 1 0 (λ e. absurd (omega arith)) ∙ get_or-set_same (set (zeros n) 0 no_key) 1 1 0 (omega (arith, h, length-set (zeros n) 0 no_key, length-replicate n (zero)))

  least_is_none : slice_index (first_words n) 0 ≡ no_key
  least_is_none =
      get_or-set_other (set (set (zeros n) 0 no_key) 1 1) 2 0 1 0 (λ e. absurd (omega arith))
      ∙ (get_or-set_other (set (zeros n) 0 no_key) 1 0 1 0 (λ e. absurd (omega arith)) ∙ get_or-set_same (zeros n) 0 no_key 0 (omega (arith, h, length-replicate n (zero))))

  paths_tell : (path : Turns) → Tells (word_at (first_words n) path) (at_root path + 0) 0
  paths_tell [] = record { counted = root_is_1; later = omega arith; once = omega arith }
  paths_tell (turn ∷ turns) = record { counted = reads (code (turn ∷ turns) + 1) (let d = deeper turn turns in omega arith); later = omega arith; once = omega arith }

only_first : (IsSo : SeatView → Type 0) → IsSo first_view → Each IsSo (first_view ∷ [])
only_first IsSo so zero v e = subst IsSo (some-injective first_view v e) so
only_first IsSo so (suc id) v e = absurd (some-ne-none v (sym e))

seats_one : (n : ℕ) → n ≡ 0 → bears_number n first_view + 0 + 0 ≡ 1
seats_one n e = ap (λ (k : ℕ). bears_number k first_view + 0 + 0) e

seats_none : (n : ℕ) → 0 < n → bears_number n first_view + 0 + 0 ≡ 0
seats_none n h = ap (λ (b : Bool). cond b 1 0 + 0 + 0) (ne_eqb n 0 (λ e. absurd (omega arith)))

first_shown : (share n : ℕ) → 3 ≤ n → HasShownCore share (opening (first_words n) [] first_view)
first_shown share n long_enough = record {
  core = first_core share;
  reached = begins;
  shows = record {
    shared = refl;
    words = record { unknown = unknown_first; offered = offered_first; least = ap least_shown (sym (least_is_none n long_enough)) };
    seats = only_first (SeatShows (first_core share)) (seat_idle (first_core share) first_view refl refl);
  };
}
  where
    unknown_first : (path : Turns) → word_at (first_words n) path ≡ 0 → first_states path ≡ Unknown
    unknown_first [] h = absurd (let r = root_is_1 n long_enough in omega (arith, h, r))
    unknown_first (turn ∷ turns) h = refl

    offered_first : (path : Turns) → word_at (first_words n) path ≡ 1 → first_states path ≡ Offered
    offered_first [] h = refl
    offered_first (turn ∷ turns) h = absurd (let r = (paths_tell n long_enough (turn ∷ turns)).counted in omega (arith, h, r))

opens_at : (share n : ℕ) → share ≤ 16 → n ≡ words_of share → 3 ≤ n → Kept share (opening (first_words n) [] first_view)
opens_at share n few sized long_enough =
    let P : ℕ → Type 0 = λ word. IsLive word 0 0 in
    let Q : ℕ → Type 0 = λ word. IsLeastKey word (λ key. 0 + 0) in
    record {
      few = few;
      sized = omega (arith, sized, length-set (set (set (zeros n) 0 no_key) 1 1) 2 1, length-set (set (zeros n) 0 no_key) 1 1, length-set (zeros n) 0 no_key, length-replicate n (zero));
      paths = paths_tell n long_enough;
      live = subst P (sym (live_is_1 n long_enough)) refl;
      least = subst Q (sym (least_is_none n long_enough)) (record { lower = λ key h. absurd (omega arith); reached = λ h. absurd (omega arith); capped = omega arith; keys = λ key h. absurd (omega arith) });
      looks = λ key low h. absurd (omega arith);
      numbered = record { used = λ k h. seats_one k (omega arith); unused = λ k h. seats_none k (omega arith); first = refl };
      seats = only_first IsSeat (seat_new 0);
      shown = first_shown share n long_enough;
    }

pub opens : (share n : ℕ) (items words : List ℕ) → share ≤ 16 → n ≡ 1 * 2 ^ (share + 1) % 18446744073709551616 + 1 → items ≡ replicate n 0 → words ≡ set (set (set items 0 no_key) 1 1) 2 1 → Kept share (opening words [] first_view)
opens share n items words few sized all is =
    let fits = room_fits share few in
    let P : List ℕ → Type 0 = λ ws. Kept share (opening ws [] first_view) in
    subst P (sym (is ∙ ap (λ (xs : List ℕ). set (set (set xs 0 no_key) 1 1) 2 1) all)) (opens_at share n few (let a = fits.1 in omega arith) (let a = fits.0 in omega arith))
