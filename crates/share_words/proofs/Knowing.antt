-- What seat 0 knows: the other seats make and gather none, and where it took in each of them, what it has is all.
use Rattle.std.proofs.Common.{◌≡◌, ◌≢◌, ℕ, ◌+◌, ◌<◌, ◌≤◌, Bool, true, false, cond, nat_eq, [], refl, sym, subst, ap, ◌∙◌, ⊎_elim, arith, eq-eqb}
use mathlib.Core.Option.{some}
use lib.ListN.{get_elem?}
use Rattle.atomic_table.specs.Table.{State}
use Rattle.branch_core.specs.Paths.{Turns}
use Rattle.share_words.specs.declared.plays.SeatView.{SeatView}
use Rattle.share_words.specs.Counts.{path_count, number_count, total}
use Rattle.share_words.specs.Views.{blank}
use Rattle.share_words.specs.Rule.{at_root, Tells, IsLeastKey, bears_number}
use Rattle.share_words.specs.Kept.{Kept}
use Rattle.share_words.specs.Steps.{KnowsAll}
use Rattle.share_words.proofs.Cases.{bool_cases, none_or_some, within_or_past}
use Rattle.share_words.proofs.Counts.{at_le_total, both_le_total, alone}

-- A number is used once at most.
pub used_once : (share : ℕ) (s : State (Unit {0}) SeatView) (n : ℕ) → Kept share s → total (bears_number n) s.views + total (λ (u : SeatView). number_count n u.gathered) s.views ≤ 1
used_once share s n kept =
    ⊎_elim (λ (few : n ≤ total (λ (u : SeatView). u.forks) s.views). let k = kept.numbered.used n few in omega arith)
    (λ (past : total (λ (u : SeatView). u.forks) s.views < n). let k = kept.numbered.unused n past in omega arith)
    (within_or_past n (total (λ (u : SeatView). u.forks) s.views))

-- A seat that is not spent counts for its number.
pub one_seat : (n : ℕ) (v : SeatView) → v.spent ≡ false → v.number ≡ n → bears_number n v ≡ 1
one_seat n v open_seat is =
    let P : Bool × Bool → ℕ = λ t. cond t.0 0 (cond t.1 1 0) in
    let e : nat_eq n v.number ≡ true = eq-eqb n v.number (sym is) in
    ap P (λ j. (open_seat j, e j))

-- The seat v stands at its place, is not spent, and has the number 0.
pub record IsFirst (share id : ℕ) (v : SeatView) (s : State (Unit {0}) SeatView) : Type 0 where
  pub kept : Kept share s
  pub place : get_elem? s.views id ≡ some v
  pub unspent : v.spent ≡ false
  pub first : v.number ≡ 0

module _ (share id : ℕ) (v : SeatView) (s : State (Unit {0}) SeatView) (is : IsFirst share id v s) where
  -- Another seat that is not spent has another number.
  pub others_number : (j : ℕ) (u : SeatView) → j ≢ id → get_elem? s.views j ≡ some u → u.spent ≡ false → u.number ≢ 0
  others_number j u apart there unspent zero_too =
      let a = one_seat 0 v is.unspent is.first in
      let b = one_seat 0 u unspent zero_too in
      let t = both_le_total (bears_number 0) s.views id j v u apart is.place there in
      let k = is.kept.numbered.used 0 (omega arith) in
      absurd (omega arith)

  -- Another seat makes and gathers none.
  pub others_none : (j : ℕ) (u : SeatView) → j ≢ id → get_elem? s.views j ≡ some u → (u.forks ≡ 0) × (u.gathered ≡ [])
  others_none j u apart there =
      ⊎_elim
      (λ (spent : u.spent ≡ true). let b = (is.kept.seats j u there).spent spent in (ap (λ (x : SeatView). x.forks) b, ap (λ (x : SeatView). x.gathered) b))
      (λ (unspent : u.spent ≡ false). (is.kept.seats j u there).others (others_number j u apart there unspent))
      (bool_cases u.spent)

  pub all_forks : total (λ (u : SeatView). u.forks) s.views ≡ v.forks
  all_forks = alone (λ (u : SeatView). u.forks) s.views id v is.place (λ j u apart there. (others_none j u apart there).0)

  pub all_gathered : (n : ℕ) → total (λ (u : SeatView). number_count n u.gathered) s.views ≡ number_count n v.gathered
  all_gathered n = alone (λ (u : SeatView). number_count n u.gathered) s.views id v is.place (λ j u apart there. ap (number_count n) (others_none j u apart there).1)

  -- Where seat 0 took in each seat, the others are spent.
  pub others_spent : KnowsAll v → (j : ℕ) (u : SeatView) → j ≢ id → get_elem? s.views j ≡ some u → u ≡ blank
  others_spent knows j u apart there =
      ⊎_elim
      (λ (spent : u.spent ≡ true). (is.kept.seats j u there).spent spent)
      (λ (unspent : u.spent ≡ false).
      let m = u.number in
      let one = one_seat m u unspent refl in
      let here = at_le_total (bears_number m) s.views j u there in
      let forks = all_forks in
      let got = all_gathered m in
      let pos : 0 < m = ⊎_elim (λ (z : m ≡ 0). absurd (others_number j u apart there unspent z)) (λ (p : 0 < m). p) (none_or_some m) in
      ⊎_elim
      (λ (few : m ≤ v.forks).
      let all = knows.all m pos few in
      let k = is.kept.numbered.used m (omega arith) in
      absurd (omega arith))
      (λ (many : v.forks < m).
      let k = is.kept.numbered.unused m (omega arith) in
      absurd (omega arith))
      (within_or_past m v.forks))
      (bool_cases u.spent)

  -- So what it has is all.
  pub own : KnowsAll v → (f : SeatView → ℕ) → f blank ≡ 0 → total f s.views ≡ f v
  own knows f none_spent = alone f s.views id v is.place (λ j u apart there. ap f (others_spent knows j u apart there) ∙ none_spent)

  -- It knows a path's word.
  pub own_path : KnowsAll v → (path : Turns) (word : ℕ) → Tells word (at_root path + total (λ (u : SeatView). path_count path u.offered) s.views) (total (λ (u : SeatView). path_count path u.taken) s.views) → Tells word (at_root path + path_count path v.offered) (path_count path v.taken)
  own_path knows path word tells =
      let a = own knows (λ (u : SeatView). path_count path u.offered) refl in
      let b = own knows (λ (u : SeatView). path_count path u.taken) refl in
      let t0 = tells.counted in let t1 = tells.later in let t2 = tells.once in
      record { counted = omega arith; later = omega arith; once = omega arith }

  pub own_least : KnowsAll v → (word : ℕ) → IsLeastKey word (λ key. total (λ (u : SeatView). number_count key u.posted) s.views) → IsLeastKey word (λ key. number_count key v.posted)
  own_least knows word least =
      let a : (key : ℕ) → total (λ (u : SeatView). number_count key u.posted) s.views ≡ number_count key v.posted = λ key. own knows (λ (u : SeatView). number_count key u.posted) refl in
      let P : (ℕ → ℕ) → Type 0 = λ f. IsLeastKey word f in
      subst P (λ j. λ key. a key j) least
