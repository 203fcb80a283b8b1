-- What seat 0 learns where it took in each seat.
use Rattle.std.proofs.Common.{◌≡◌, ℕ, suc, ◌+◌, ◌^◌, ◌%◌, ◌<◌, ◌≤◌, false, List, [], ◌∷◌, length, refl, ◌∙◌, subst, arith}
use Rattle.std.specs.Prelude.{slice_index}
use Rattle.std.proofs.Math.Nat.{mod-eq_of_lt, pow-le-pow_right}
use mathlib.Core.Option.{some, none}
use lib.ListN.{get_elem?}
use Rattle.atomic_table.specs.Table.{State, step, keeps, Allows}
use Rattle.branch_core.specs.Paths.{Turns, code}
use Rattle.share_words.specs.declared.plays.SeatView.{SeatView}
use Rattle.share_words.specs.Counts.{path_count, number_count, total}
use Rattle.share_words.specs.Rule.{words_of, word_at, at_root, Tells, IsLive, WereFound}
use Rattle.share_words.specs.Kept.{Kept}
use Rattle.share_words.specs.Steps.{KnowsAll, WhenAlive}
use Rattle.share_words.specs.Seats.{seat_of}
use Rattle.share_words.specs.Lessons.{Learns, OwnLists}
use Rattle.atomic_table.specs.Seated.{TableId}
use Rattle.share_words.proofs.Counts.{at_le_total}
use Rattle.share_words.proofs.Stays.{word_within, stays}
use Rattle.share_words.proofs.Knowing.{IsFirst, own, own_path}
use Rattle.share_words.proofs.Settles.{few_paths, settles}

abbrev S : Type 0
S = State (Unit {0}) SeatView

abbrev C : Type 0
C = List (ℕ × Unit {0})

-- A path in a list of a seat has a word.
code_within : (share : ℕ) (path : Turns) (s : S) → Kept share s → 0 < at_root path + total (λ (u : SeatView). path_count path u.offered) s.views → code path < words_of share
code_within share path s kept h =
    let t0 = (kept.paths path).counted in
    let i = word_within s.words path (omega arith) in
    let z = kept.sized in omega arith

-- Few words.
words_few : (share : ℕ) → share ≤ 16 → words_of share ≤ 2 ^ 18
words_few share few =
    let two : 0 < 2 = omega arith in
    let up : share + 1 ≤ 17 = omega arith in
    let top : 2 ^ (share + 1) ≤ 2 ^ 17 = pow-le-pow_right two up in
    omega (arith, top)

sizes_same : (e r : ℕ) → e ≤ 2 ^ 18 → r ≤ 2 ^ 18 → (0 + e) % 2 ^ 64 ≡ (1 + r) % 2 ^ 64 → e ≡ suc r
sizes_same e r few few_too live =
    let a : (0 + e) % 2 ^ 64 ≡ 0 + e = mod-eq_of_lt (omega arith) in
    let b : (1 + r) % 2 ^ 64 ≡ 1 + r = mod-eq_of_lt (omega arith) in
    omega arith

module _ (share id : ℕ) (v : SeatView) (s : S) (is : IsFirst share id v s) (knows : KnowsAll v) where
  own_tells : (path : Turns) → Tells (word_at s.words path) (at_root path + path_count path v.offered) (path_count path v.taken)
  own_tells path = own_path share id v s is knows path (word_at s.words path) (is.kept.paths path)

  own_live : IsLive (slice_index s.words 1) (length v.raised) (length v.ended)
  own_live =
      let a = own share id v s is knows (λ (u : SeatView). length u.raised) refl in
      let b = own share id v s is knows (λ (u : SeatView). length u.ended) refl in
      let P : ℕ × ℕ → Type 0 = λ t. IsLive (slice_index s.words 1) t.0 t.1 in
      subst P (λ j. (a j, b j)) is.kept.live

  own_looks : WereFound (λ key. number_count key v.looked) (λ key. number_count key v.posted)
  own_looks key low h =
      let a = own share id v s is knows (λ (u : SeatView). number_count key u.looked) refl in
      let b = own share id v s is knows (λ (u : SeatView). number_count key u.posted) refl in
      let l = is.kept.looks key low (omega arith) in omega arith

  few_raised : length v.raised ≤ words_of share
  few_raised =
      few_paths (words_of share) v.raised
      (λ path. let t = own_tells path in let t2 = t.once in let r = (is.kept.seats id v is.place).raised path in omega arith)
      (λ path h.
      let a = own share id v s is knows (λ (u : SeatView). path_count path u.offered) refl in
      let r = (is.kept.seats id v is.place).raised path in
      code_within share path s is.kept (omega arith))

  few_ended : length v.ended ≤ words_of share
  few_ended =
      few_paths (words_of share) v.ended
      (λ path. let t = own_tells path in let t1 = t.later in let t2 = t.once in let r = (is.kept.seats id v is.place).ended path in omega arith)
      (λ path h.
      let a = own share id v s is knows (λ (u : SeatView). path_count path u.offered) refl in
      let t = own_tells path in let t1 = t.later in
      let r = (is.kept.seats id v is.place).ended path in
      code_within share path s is.kept (omega arith))

  -- As many ended as were raised and the root, where the living are 0.
  same_length : slice_index s.words 1 ≡ 0 → length v.ended ≡ suc (length v.raised)
  same_length zero_live =
      let a = few_raised in
      let b = few_ended in
      let bound : words_of share ≤ 2 ^ 18 = words_few share is.kept.few in
      let live : (0 + length v.ended) % 2 ^ 64 ≡ (1 + length v.raised) % 2 ^ 64 = subst (λ (n : ℕ). IsLive n (length v.raised) (length v.ended)) zero_live own_live in
      sizes_same (length v.ended) (length v.raised) (omega arith) (omega arith) live

  -- So each of them ended once.
  own_settled : slice_index s.words 1 ≡ 0 → ((path : Turns) → 0 < path_count path v.ended → 0 < at_root path + path_count path v.raised) → (path : Turns) → path_count path v.ended ≡ at_root path + path_count path v.raised
  own_settled zero_live among path =
      let size = same_length zero_live in
      settles ([] ∷ v.raised) v.ended
      (λ p.
      let t = own_tells p in let t1 = t.later in let t2 = t.once in
      let e = (is.kept.seats id v is.place).ended p in
      let m = among p in
      let r = root_counts p in
      at_most (path_count p v.ended) (at_root p + path_count p v.raised) (path_count p ([] ∷ v.raised)) (omega arith) m (omega arith))
      (let l : suc (length v.raised) ≤ length v.ended = omega arith in l) path
      ∙ (let r = root_counts path in omega arith)
    where
      root_counts : (p : Turns) → path_count p ([] ∷ v.raised) ≡ at_root p + path_count p v.raised
      root_counts [] = refl
      root_counts (turn ∷ turns) = refl

      at_most : (e r t : ℕ) → e ≤ 1 → (0 < e → 0 < r) → t ≡ r → e ≤ t
      at_most e r t one among_r same_r = grind arith

  learns : (words : TableId) → Learns (seat_of words v) (slice_index s.words 1)
  learns words = record {
    count = own_live;
    taken = λ path. (let t = own_tells path in let t1 = t.later in omega arith);
    once = λ path. (let t = own_tells path in let t2 = t.once in omega arith);
    looked = own_looks;
    settled = own_settled;
  }

-- What the rule says of one seat's lists.
own_lists : (share id : ℕ) (v : SeatView) (s : S) → Kept share s → get_elem? s.views id ≡ some v → (words : TableId) → OwnLists (seat_of words v)
own_lists share id v s kept at words = record {
  raised = (kept.seats id v at).raised;
  offered_once = λ path. let l = at_le_total (λ (u : SeatView). path_count path u.offered) s.views id v at in let t2 = (kept.paths path).once in omega arith;
  ended = (kept.seats id v at).ended;
  taken_once = λ path. let l = at_le_total (λ (u : SeatView). path_count path u.taken) s.views id v at in let t1 = (kept.paths path).later in let t2 = (kept.paths path).once in omega arith;
}

pub lives : (share slots id : ℕ) (v : SeatView) (c : C) → v.spent ≡ false → Allows (Kept share) slots id (v, c) 1 (λ n. n) (WhenAlive (step slots 1 0 0 none) (v, c))
lives share slots id v c unspent s kept homes at small =
    (v, keeps, tt, stays share id 1 v c s kept at, record { seat = refl; lists = own_lists share id v s kept at; own = λ knows. learns share id v s (record { kept = kept; place = at; unspent = unspent; first = knows.first }) knows })
