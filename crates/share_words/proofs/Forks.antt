-- Seats are made and taken in: the rule stays.
use Rattle.std.proofs.Common.{◌≡◌, ◌≢◌, ℕ, ◌+◌, ◌<◌, Bool, true, false, cond, nat_eq, List, [], ◌∷◌, ◌++◌, length, set, refl, sym, ap, ◌∙◌, subst, ⊎_elim, arith, length-append, eq-eqb, ne_eqb}
use Rattle.std.specs.Prelude.{slice_index, if◌then◌else◌}
use mathlib.Core.Option.{some}
use mathlib.Core.Logic.{dite}
use native.Mathlib.Decide.{ℕ_discrete}
use lib.ListN.{get_elem?}
use Rattle.atomic_table.specs.Table.{State, Splits, Joins}
use Rattle.atomic_table.proofs.Lists.{set_else, at_set}
use Rattle.branch_core.specs.Paths.{Turns}
use Rattle.branch_core.specs.Core.{turns_eq, StateValue, Held, CoreValue}
use Rattle.share_words.specs.declared.plays.SeatView.{SeatView}
use Rattle.share_words.specs.Counts.{path_count, number_count, total, Each}
use Rattle.share_words.specs.Views.{blank, new_view, with_fork, together}
use Rattle.share_words.specs.Rule.{IsLive, IsLeastKey, WereFound, bears_number, SeatsNumbered, IsSeat}
use Rattle.share_words.specs.Kept.{Kept}
use Rattle.share_words.specs.Shown.{SeatShows, ShowsCore, HasShownCore, handed, moved, moves}
use Rattle.share_words.proofs.Cases.{bool_cases, none_or_some}
use Rattle.share_words.proofs.Showing.{seat_idle, seat_alike, each_change, words_moved}
use Rattle.share_words.proofs.Counts.{many_append, number_count_here, number_count_else, cut, merged, both_le_total, each_set, each_snoc}
use Rattle.share_words.proofs.Knowing.{used_once, IsFirst, all_forks, others_none, others_number, one_seat}
use Rattle.share_words.proofs.OneSeat.{seat_forked, seat_new, seat_together, seat_blank}

abbrev S : Type 0
S = State (Unit {0}) SeatView

-- The totals of the rule are as they were, and so is the rule.
carried_over : (share : ℕ) (s : S) (views : List SeatView) → Kept share s
    → ((path : Turns) → total (λ u. path_count path u.offered) views ≡ total (λ u. path_count path u.offered) s.views)
    → ((path : Turns) → total (λ u. path_count path u.taken) views ≡ total (λ u. path_count path u.taken) s.views)
    → total (λ u. length u.raised) views ≡ total (λ u. length u.raised) s.views
    → total (λ u. length u.ended) views ≡ total (λ u. length u.ended) s.views
    → ((key : ℕ) → total (λ u. number_count key u.posted) views ≡ total (λ u. number_count key u.posted) s.views)
    → ((key : ℕ) → total (λ u. number_count key u.looked) views ≡ total (λ u. number_count key u.looked) s.views)
    → SeatsNumbered views → Each IsSeat views → HasShownCore share record { words = s.words; homes = s.homes; views = views }
    → Kept share record { words = s.words; homes = s.homes; views = views }
carried_over share s views kept offered taken raised ended posted looked numbered seats shown =
    let A : ℕ × ℕ → Type 0 = λ t. IsLive (slice_index s.words 1) t.0 t.1 in
    let L : (ℕ → ℕ) → Type 0 = λ f. IsLeastKey (slice_index s.words 0) f in
    let F : (ℕ → ℕ) × (ℕ → ℕ) → Type 0 = λ t. WereFound t.0 t.1 in
    record {
      few = kept.few;
      sized = kept.sized;
      paths = λ path. let o = offered path in let t = taken path in let p = kept.paths path in let p0 = p.counted in let p1 = p.later in let p2 = p.once in record { counted = omega arith; later = omega arith; once = omega arith };
      live = subst A (λ j. (sym raised j, sym ended j)) kept.live;
      least = subst L (λ j. λ k. sym (posted k) j) kept.least;
      looks = subst F (λ j. ((λ k. sym (looked k) j), (λ k. sym (posted k) j))) kept.looks;
      numbered = numbered;
      seats = seats;
      shown = shown;
    }

-- A seat counts for its own number alone.
counts_one : (n : ℕ) (v : SeatView) → v.spent ≡ false → v.number ≢ n → bears_number n v ≡ 0
counts_one n v unspent ne =
    let P : Bool × Bool → ℕ = λ t. cond t.0 0 (cond t.1 1 0) in
    let e : nat_eq n v.number ≡ false = ne_eqb n v.number (λ h. ne (sym h)) in
    ap P (λ j. (unspent j, e j))

pub splits : (share id : ℕ) (v : SeatView) → v.spent ≡ false → v.number ≡ 0 → Splits (Kept share) id v (with_fork v) (new_view (v.forks + 1))
splits share id v unspent first s kept at =
    let l = with_fork v in
    let r = new_view (v.forks + 1) in
    let is : IsFirst share id v s = record { kept = kept; place = at; unspent = unspent; first = first } in
    let forks = all_forks share id v s is in
    let more_forks = cut (λ (u : SeatView). u.forks) s.views id 1 v l r at (omega arith) in
    let gathered : (n : ℕ) → total (λ u. number_count n u.gathered) (set s.views id l ++ r ∷ []) ≡ total (λ u. number_count n u.gathered) s.views + 0 = λ n. cut (λ (u : SeatView). number_count n u.gathered) s.views id 0 v l r at (omega arith) in
    let old_seats : (n : ℕ) → n ≢ v.forks + 1 → total (bears_number n) (set s.views id l ++ r ∷ []) ≡ total (bears_number n) s.views + 0 = λ n ne. cut (bears_number n) s.views id 0 v l r at (let z = counts_one n r refl (λ h. ne (sym h)) in omega arith) in
    let new_seat : (n : ℕ) → n ≡ v.forks + 1 → total (bears_number n) (set s.views id l ++ r ∷ []) ≡ total (bears_number n) s.views + 1 = λ n e. cut (bears_number n) s.views id 1 v l r at (let z = one_seat n r refl (sym e) in omega arith) in
    carried_over share s (set s.views id l ++ r ∷ []) kept
    (λ path. let c = cut (λ (u : SeatView). path_count path u.offered) s.views id 0 v l r at (omega arith) in omega arith)
    (λ path. let c = cut (λ (u : SeatView). path_count path u.taken) s.views id 0 v l r at (omega arith) in omega arith)
    (let c = cut (λ (u : SeatView). length u.raised) s.views id 0 v l r at (omega arith) in omega arith)
    (let c = cut (λ (u : SeatView). length u.ended) s.views id 0 v l r at (omega arith) in omega arith)
    (λ key. let c = cut (λ (u : SeatView). number_count key u.posted) s.views id 0 v l r at (omega arith) in omega arith)
    (λ key. let c = cut (λ (u : SeatView). number_count key u.looked) s.views id 0 v l r at (omega arith) in omega arith)
    (record {
      used = λ n few. dite (ℕ_discrete n (v.forks + 1)) (λ e. let a = new_seat n e in let g = gathered n in let k = kept.numbered.unused n (omega arith) in omega arith) (λ ne. let a = old_seats n ne in let g = gathered n in let k = kept.numbered.used n (omega arith) in omega arith);
      unused = λ n many. let a = old_seats n (λ e. absurd (omega arith)) in let g = gathered n in let k = kept.numbered.unused n (omega arith) in omega arith;
      first = let g = gathered 0 in let k = kept.numbered.first in omega arith;
    })
    (each_snoc (set s.views id l) r (seat_new (v.forks + 1)) (each_set s.views id l (seat_forked v unspent (kept.seats id v at) first) kept.seats))
    (record {
      core = kept.shown.core;
      reached = kept.shown.reached;
      shows = let shows = kept.shown.shows in record {
        shared = shows.shared;
        words = shows.words;
        seats = each_snoc (set s.views id l) r (seat_idle kept.shown.core r refl refl) (each_set s.views id l (seat_alike kept.shown.core v l refl refl refl (shows.seats id v at)) shows.seats);
      };
    })

-- What the other seat holds seat 0 holds.
module _ (share id other : ℕ) (v w : SeatView) (s : S) (is : IsFirst share id v s) (apart : other ≢ id) (was : get_elem? s.views other ≡ some w) (unspent_too : w.spent ≡ false) (core : CoreValue) (shows : ShowsCore share s core) where
  handed_other : (by : ℕ) (state : StateValue) → by ≢ w.number → state ≡ Held by → handed w.number v.number state ≡ Held by
  handed_other by state ne e = ap (handed w.number v.number) e ∙ ap (λ (b : Bool). Held (if b then v.number else by)) (ne_eqb by w.number ne)

  handed_same : (by : ℕ) (state : StateValue) → by ≡ w.number → state ≡ Held by → handed w.number v.number state ≡ Held v.number
  handed_same by state e h = ap (handed w.number v.number) h ∙ ap (λ (b : Bool). Held (if b then v.number else by)) (eq-eqb by w.number e)

  not_mine : v.number ≢ w.number
  not_mine e = others_number share id v s is other w apart was unspent_too (sym e ∙ is.first)

  together_shows : SeatShows (moved w.number v.number core) (together v w)
  together_shows = record {
    held = λ path there open_still.
        let t = many_append (turns_eq path) v.taken w.taken in
        let e = many_append (turns_eq path) v.ended w.ended in
        ⊎_elim
        (λ (none : path_count path v.taken ≡ 0). handed_same w.number (core.states path) refl ((shows.seats other w was).held path (omega arith) (omega arith)))
        (λ (some_there : 0 < path_count path v.taken). handed_other v.number (core.states path) not_mine ((shows.seats id v is.place).held path some_there (omega arith)))
        (none_or_some (path_count path v.taken));
    ended = λ path there.
        let e = many_append (turns_eq path) v.ended w.ended in
        ap (handed w.number v.number)
        (⊎_elim
        (λ (none : path_count path v.ended ≡ 0). (shows.seats other w was).ended path (omega arith))
        (λ (some_there : 0 < path_count path v.ended). (shows.seats id v is.place).ended path some_there)
        (none_or_some (path_count path v.ended)));
  }

  others_show : (j : ℕ) (u : SeatView) → j ≢ other → get_elem? s.views j ≡ some u → SeatShows (moved w.number v.number core) u
  others_show j u ne there = record {
    held = λ path some_taken open_still.
        let number_other : u.number ≢ w.number = λ e.
        ⊎_elim
        (λ (spent : u.spent ≡ true). let b = (is.kept.seats j u there).spent spent in let n = ap (λ (x : SeatView). path_count path x.taken) b in omega arith)
        (λ (unspent : u.spent ≡ false).
        let a = one_seat w.number w unspent_too refl in
        let b = one_seat w.number u unspent e in
        let l = both_le_total (bears_number w.number) s.views other j w u ne was there in
        let k = used_once share s w.number is.kept in
        omega arith)
        (bool_cases u.spent) in
        handed_other u.number (core.states path) number_other ((shows.seats j u there).held path some_taken open_still);
    ended = λ path there_ended. ap (handed w.number v.number) ((shows.seats j u there).ended path there_ended);
  }

  pub gather_shown : ShowsCore share record { words = s.words; homes = s.homes; views = set (set s.views id (together v w)) other blank } (moved w.number v.number core)
  gather_shown = record {
    shared = shows.shared;
    words = words_moved core s.words shows.words w.number v.number;
    seats = each_change (SeatShows (moved w.number v.number core)) (set s.views id (together v w)) other blank (seat_idle (moved w.number v.number core) blank refl refl)
        (λ j u ne there. ⊎_elim
        (λ (t : (j ≡ id) × (together v w ≡ u)). subst (SeatShows (moved w.number v.number core)) t.1 together_shows)
        (λ (t : (j ≢ id) × (get_elem? s.views j ≡ some u)). others_show j u ne t.1)
        (at_set s.views id j (together v w) u there));
  }

pub joins : (share id other : ℕ) (v w : SeatView) → v.spent ≡ false → w.spent ≡ false → v.number ≡ 0 → Joins (Kept share) id v other w (together v w) blank
joins share id other v w unspent unspent_too first s kept at apart there =
    let x = together v w in
    let is : IsFirst share id v s = record { kept = kept; place = at; unspent = unspent; first = first } in
    let was : get_elem? s.views other ≡ some w = sym (set_else s.views id other x apart) ∙ there in
    let none_there = others_none share id v s is other w apart was in
    let n0 = none_there.0 in
    let not_first = others_number share id v s is other w apart was unspent_too in
    let after = set (set s.views id x) other blank in
    let forks = merged (λ (u : SeatView). u.forks) s.views id other 0 0 v w x blank at there (omega arith) in
    let no_gathered : (n : ℕ) → number_count n w.gathered ≡ 0 = λ n. ap (number_count n) none_there.1 in
    let mine : (n : ℕ) → bears_number n x ≡ bears_number n v = λ n. let P : Bool → ℕ = λ b. cond b 0 (cond (nat_eq n v.number) 1 0) in ap P (sym unspent) in
    let gone : (n : ℕ) → n ≡ w.number → total (bears_number n) after + 1 ≡ total (bears_number n) s.views + 0 = λ n e. merged (bears_number n) s.views id other 1 0 v w x blank at there (let z = one_seat n w unspent_too (sym e) in let m = mine n in omega arith) in
    let got : (n : ℕ) → n ≡ w.number → total (λ u. number_count n u.gathered) after + 0 ≡ total (λ u. number_count n u.gathered) s.views + 1 = λ n e.
    let y : number_count n (v.gathered ++ w.number ∷ []) ≡ number_count n v.gathered + 1 = ap (λ (k : ℕ). number_count n (v.gathered ++ k ∷ [])) (sym e) ∙ number_count_here n v.gathered in
    merged (λ (u : SeatView). number_count n u.gathered) s.views id other 0 1 v w x blank at there (let z = no_gathered n in omega arith) in
    let kept_on : (n : ℕ) → n ≢ w.number → total (bears_number n) after + 0 ≡ total (bears_number n) s.views + 0 = λ n ne. merged (bears_number n) s.views id other 0 0 v w x blank at there (let z = counts_one n w unspent_too (λ h. ne (sym h)) in let m = mine n in omega arith) in
    let no_more : (n : ℕ) → n ≢ w.number → total (λ u. number_count n u.gathered) after + 0 ≡ total (λ u. number_count n u.gathered) s.views + 0 = λ n ne.
    let y = number_count_else w.number n v.gathered ne in
    merged (λ (u : SeatView). number_count n u.gathered) s.views id other 0 0 v w x blank at there (let z = no_gathered n in omega arith) in
    let sums : (n : ℕ) → total (bears_number n) after + total (λ u. number_count n u.gathered) after ≡ total (bears_number n) s.views + total (λ u. number_count n u.gathered) s.views = λ n.
    dite (ℕ_discrete n w.number) (λ e. let a = gone n e in let b = got n e in omega arith) (λ ne. let a = kept_on n ne in let b = no_more n ne in omega arith) in
    carried_over share s after kept
    (λ path. let m = merged (λ (u : SeatView). path_count path u.offered) s.views id other 0 0 v w x blank at there (let e = many_append (turns_eq path) v.offered w.offered in omega arith) in omega arith)
    (λ path. let m = merged (λ (u : SeatView). path_count path u.taken) s.views id other 0 0 v w x blank at there (let e = many_append (turns_eq path) v.taken w.taken in omega arith) in omega arith)
    (let m = merged (λ (u : SeatView). length u.raised) s.views id other 0 0 v w x blank at there (let e = length-append v.raised w.raised in omega arith) in omega arith)
    (let m = merged (λ (u : SeatView). length u.ended) s.views id other 0 0 v w x blank at there (let e = length-append v.ended w.ended in omega arith) in omega arith)
    (λ key. let m = merged (λ (u : SeatView). number_count key u.posted) s.views id other 0 0 v w x blank at there (let e = many_append (nat_eq key) v.posted w.posted in omega arith) in omega arith)
    (λ key. let m = merged (λ (u : SeatView). number_count key u.looked) s.views id other 0 0 v w x blank at there (let e = many_append (nat_eq key) v.looked w.looked in omega arith) in omega arith)
    (record {
      used = λ n few. let a = sums n in let k = kept.numbered.used n (omega arith) in omega arith;
      unused = λ n many. let a = sums n in let k = kept.numbered.unused n (omega arith) in omega arith;
      first = let g = no_more 0 (λ e. not_first (sym e)) in let k = kept.numbered.first in omega arith;
    })
    (each_set (set s.views id x) other blank seat_blank (each_set s.views id x (seat_together v unspent (kept.seats id v at) w first (kept.seats other w was)) kept.seats))
    (record { core = moved w.number v.number kept.shown.core; reached = moves w.number v.number kept.shown.reached; shows = gather_shown share id other v w s is apart was unspent_too kept.shown.core kept.shown.shows })
