-- What the words say, which numbers the seats have, and the steps that are no events.
use Rattle.std.proofs.Common.{◌≡◌, ℕ, zero, suc, ◌+◌, ◌≤◌, ◌<◌, ⊎_elim, false, List, [], set, sym, ap, subst, refl, arith, ◌∙◌}
use Rattle.std.specs.Prelude.{slice_index}
use Rattle.std.proofs.lemmas.List.{set-get_or}
use mathlib.Core.Option.{some}
use lib.ListN.{get_elem?}
use Rattle.branch_core.specs.Paths.{Turns}
use Rattle.branch_core.specs.Core.{CoreValue}
use Rattle.share_words.specs.declared.plays.SeatView.{SeatView}
use Rattle.share_words.specs.Counts.{path_count, number_count, total}
use Rattle.share_words.specs.Views.{new_view, with_fork}
use Rattle.share_words.specs.Rule.{word_at, bears_number}
use Rattle.share_words.specs.Shown.{WordsShow, ShowsCore}
use Rattle.share_words.specs.Kept.{Kept}
use Rattle.share_words.specs.WordLaws.{Table, HasNot, WordsRead, ListsRead, ReadsSeats, SeatsRead, ShownIsOne, OtherStepsShow}
use Rattle.share_words.proofs.Cases.{none_or_some, within_or_past}
use Rattle.share_words.proofs.Counts.{someone, at_le_total, both_le_total, each_set, each_snoc}
use Rattle.share_words.proofs.Stays.{word_low}
use Rattle.share_words.proofs.Knowing.{used_once, IsFirst, one_seat, all_forks, all_gathered}
use Rattle.share_words.proofs.Showing.{seat_idle, seat_alike}
use Rattle.share_words.proofs.Events.{same_shown, look_shown, raise_shown}
use Rattle.share_words.proofs.Forks.{gather_shown}

in_no_list : (share id : ℕ) (s : Table) (path : Turns) (v : SeatView) → Kept share s → get_elem? s.views id ≡ some v → word_at s.words path ≡ 0 → HasNot path v
in_no_list share id s path v kept at zero_word =
    let t0 = (kept.paths path).counted in
    let o = at_le_total (λ (u : SeatView). path_count path u.offered) s.views id v at in
    let t = at_le_total (λ (u : SeatView). path_count path u.taken) s.views id v at in
    let r = (kept.seats id v at).raised path in
    let e = (kept.seats id v at).ended path in
    record { offered = omega arith; raised = omega arith; taken = omega arith; ended = omega arith }

pub read : WordsRead
read share s kept path =
    let t0 = (kept.paths path).counted in let t1 = (kept.paths path).later in let t2 = (kept.paths path).once in
    record {
      counts = kept.paths path;
      unknown = λ h. (omega arith, λ id v at. in_no_list share id s path v kept at h);
      offered = λ h. (omega arith, omega arith);
      taken = λ h. (omega arith, omega arith);
      no_other = omega arith;
    }

pub read_lists : ListsRead
read_lists share s kept = record {
  paths = λ id v at. record {
    raised = (kept.seats id v at).raised;
    offered_once = λ path. let t = (kept.paths path).once in let l = at_le_total (λ (u : SeatView). path_count path u.offered) s.views id v at in omega arith;
    ended = (kept.seats id v at).ended;
    taken_once = λ path. let t = (kept.paths path).later in let t1 = (kept.paths path).once in let l = at_le_total (λ (u : SeatView). path_count path u.taken) s.views id v at in omega arith;
  };
  live = kept.live;
  least = kept.least;
  looked = kept.looks;
}

-- The same word stands there.
same_word : (words : List ℕ) (i : ℕ) (path : Turns) → word_at (set words i (slice_index words i)) path ≡ word_at words path
same_word words i path = ap (λ (ws : List ℕ). word_at ws path) (set-get_or words i 0)

pub show : OtherStepsShow
show = record {
  raise = λ share id n path v s kept at. record { shows = raise_shown share id v [] s kept at path n; words = λ other. word_low s.words 1 n other (omega arith) };
  live = λ share id v s kept at. record {
    shows = λ core shows. same_shown share id v [] s kept at v refl refl refl (set s.words 1 (slice_index s.words 1)) core (subst (λ (ws : List ℕ). WordsShow core ws) (sym (set-get_or s.words 1 0)) shows.words) shows;
    words = same_word s.words 1;
  };
  look = λ share id v s kept at. record { shows = look_shown share id v [] s kept at; words = same_word s.words 0 };
  fork = λ share id v s kept at. record {
    shows = λ core shows. record { shared = shows.shared; words = shows.words; seats = each_snoc (set s.views id (with_fork v)) (new_view (v.forks + 1)) (seat_idle core (new_view (v.forks + 1)) refl refl) (each_set s.views id (with_fork v) (seat_alike core v (with_fork v) refl refl refl (shows.seats id v at)) shows.seats) };
    words = λ path. refl;
  };
  gather = λ share id other v w s kept at unspent first apart was unspent_too core shows. gather_shown share id other v w s (record { kept = kept; place = at; unspent = unspent; first = first }) apart was unspent_too core shows;
}

-- ---- seats
module _ (share id : ℕ) (first : SeatView) (s : Table) (is : IsFirst share id first s) where
  of_seat : (j : ℕ) (u : SeatView) → get_elem? s.views j ≡ some u → u.spent ≡ false → (u.number ≤ first.forks) × (number_count u.number first.gathered ≡ 0)
  of_seat j u there unspent =
      let one = one_seat u.number u unspent refl in
      let l = at_le_total (bears_number u.number) s.views j u there in
      let o = used_once share s u.number is.kept in
      let g = all_gathered share id first s is u.number in
      let f = all_forks share id first s is in (
        ⊎_elim (λ (few : u.number ≤ first.forks). few) (λ (past : first.forks < u.number). absurd (let k = is.kept.numbered.unused u.number (omega arith) in omega arith)) (within_or_past u.number first.forks),
        omega arith,
      )

  of_gathered : (n : ℕ) → 0 < number_count n first.gathered → (0 < n) × (n ≤ first.forks)
  of_gathered n h =
      let g = all_gathered share id first s is n in
      let f = all_forks share id first s is in (
        not_first n h,
        ⊎_elim (λ (few : n ≤ first.forks). few) (λ (past : first.forks < n). absurd (let k = is.kept.numbered.unused n (omega arith) in omega arith)) (within_or_past n first.forks),
      )
    where
      not_first : (m : ℕ) → 0 < number_count m first.gathered → 0 < m
      not_first zero p = absurd (let g = all_gathered share id first s is 0 in let k = is.kept.numbered.first in omega arith)
      not_first (suc m) p = omega arith

  seats_of : ReadsSeats s first
  seats_of = record {
    apart = λ i j v u ne at there unspent unspent_too same_number.
        let a = one_seat v.number v unspent refl in
        let b = one_seat v.number u unspent_too same_number in
        let l = both_le_total (bears_number v.number) s.views i j v u ne at there in
        let o = used_once share s v.number is.kept in
        omega arith;
    numbered = of_seat;
    gathered_once = λ n. (let o = used_once share s n is.kept in let g = all_gathered share id first s is n in omega arith);
    gathered_made = of_gathered;
    all_used = λ n few none. (let g = all_gathered share id first s is n in let f = all_forks share id first s is in let k = is.kept.numbered.used n (omega arith) in omega arith);
    spent = λ j u there spent. (is.kept.seats j u there).spent spent;
  }

pub read_seats : SeatsRead
read_seats share id s first kept at unspent zero_number = seats_of share id first s (record { kept = kept; place = at; unspent = unspent; first = zero_number })

-- ---- the state that is shown
shown_once : (share : ℕ) (s : Table) → Kept share s → (core other : CoreValue) → ShowsCore share s core → ShowsCore share s other → (path : Turns) → core.states path ≡ other.states path
shown_once share s kept core other shows shows_too path =
    let t0 = (kept.paths path).counted in let t1 = (kept.paths path).later in let t2 = (kept.paths path).once in
    ⊎_elim
    (λ (zero_word : word_at s.words path ≡ 0). shows.words.unknown path zero_word ∙ sym (shows_too.words.unknown path zero_word))
    (λ (some_word : 0 < word_at s.words path).
    ⊎_elim
    (λ (untaken : total (λ (u : SeatView). path_count path u.taken) s.views ≡ 0). let one_word : word_at s.words path ≡ 1 = omega arith in shows.words.offered path one_word ∙ sym (shows_too.words.offered path one_word))
    (λ (taken : 0 < total (λ (u : SeatView). path_count path u.taken) s.views).
    let r = someone (λ (u : SeatView). path_count path u.taken) s.views taken in
    ⊎_elim
    (λ (open_still : path_count path r.1.ended ≡ 0). (shows.seats r.0 r.1 r.2).held path r.3 open_still ∙ sym ((shows_too.seats r.0 r.1 r.2).held path r.3 open_still))
    (λ (ended : 0 < path_count path r.1.ended). (shows.seats r.0 r.1 r.2).ended path ended ∙ sym ((shows_too.seats r.0 r.1 r.2).ended path ended))
    (none_or_some (path_count path r.1.ended)))
    (none_or_some (total (λ (u : SeatView). path_count path u.taken) s.views)))
    (none_or_some (word_at s.words path))

pub one_shown : ShownIsOne
one_shown share s kept core other shows shows_too = record {
  share = shows.shared ∙ sym shows_too.shared;
  states = shown_once share s kept core other shows shows_too;
  least = shows.words.least ∙ sym shows_too.words.least;
}
