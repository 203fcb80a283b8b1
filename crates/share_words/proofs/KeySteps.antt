-- Steps on the least word keep the rule.
use Rattle.std.proofs.Common.{◌≡◌, ◌≢◌, ℕ, ◌+◌, ◌<◌, min, false, List, set, refl, sym, ap, ◌∙◌, subst, arith}
use Rattle.std.specs.Prelude.{slice_index}
use Rattle.std.proofs.lemmas.List.{length-set, get_or-set_same, set-get_or}
use mathlib.Core.Option.{some, none}
use mathlib.Core.Logic.{dite}
use native.Mathlib.Decide.{ℕ_discrete}
use lib.ListN.{get_elem?}
use Rattle.atomic_table.specs.Table.{State, step, keeps, stepped, Allows}
use Rattle.branch_core.specs.Paths.{Turns, key as branch_key}
use Rattle.branch_core.specs.Core.{Post, Cut}
use Rattle.branch_core.proofs.PathOrder.{key_below}
use Rattle.share_words.specs.declared.plays.SeatView.{SeatView}
use Rattle.share_words.specs.Counts.{number_count, total}
use Rattle.share_words.specs.Views.{with_posted, with_looked}
use Rattle.share_words.specs.Rule.{no_key, IsLeastKey}
use Rattle.share_words.specs.Kept.{Kept}
use Rattle.share_words.specs.Happens.{Happens, IsEventThere}
use Rattle.share_words.specs.Steps.{KnowsAll, WhenPosted, WhenLooked}
use Rattle.share_words.specs.Lessons.{IsBelow}
use Rattle.share_words.proofs.Counts.{number_count_here, number_count_else, more, same, at_le_total, each_set}
use Rattle.share_words.proofs.Stays.{paths_stay, live_stays, seats_stay, rises_low}
use Rattle.share_words.proofs.Events.{post_event, cut_event, look_shown}
use Rattle.share_words.proofs.Knowing.{own_least}
use Rattle.share_words.proofs.OneSeat.{seat_posted, seat_looked}
use Rattle.share_words.proofs.Happening.{happens_here, show_event, show_same, live_inside}

abbrev S : Type 0
S = State (Unit {0}) SeatView

abbrev C : Type 0
C = List (ℕ × Unit {0})

-- One more key is posted.
posted_more : (n key : ℕ) (posted posted' : ℕ → ℕ) → key < no_key → posted' key ≡ posted key + 1 → ((k : ℕ) → k ≢ key → posted' k ≡ posted k) → IsLeastKey n posted → IsLeastKey (min n key) posted'
posted_more n key posted posted' small here else_where least = record {
  lower = λ k some_there. dite (ℕ_discrete k key) (λ e. omega arith) (λ ne. let o = least.lower k (let f = else_where k ne in omega arith) in omega arith);
  reached = λ below. dite (ℕ_discrete (min n key) key) (λ e. subst (λ z. 0 < posted' z) (sym e) (omega arith))
      (λ ne. let is : min n key ≡ n = omega arith in subst (λ z. 0 < posted' z) (sym is) (let r = least.reached (omega arith) in let f = else_where n (λ e. ne (omega arith)) in omega arith));
  capped = let c = least.capped in omega arith;
  keys = λ k some_there. dite (ℕ_discrete k key) (λ e. omega arith) (λ ne. least.keys k (let f = else_where k ne in omega arith));
}

-- What a seat posted is not below the least word.
below_own : (share id : ℕ) (v : SeatView) (s : S) → Kept share s → get_elem? s.views id ≡ some v → IsBelow (slice_index s.words 0) v.posted
below_own share id v s kept at key there =
    let l = at_le_total (λ (u : SeatView). number_count key u.posted) s.views id v at in
    let h : 0 < total (λ (u : SeatView). number_count key u.posted) s.views = omega arith in
    (kept.least.lower key h, kept.least.keys key h)

-- The seat that knows all knows the least key.
least_known : (share id : ℕ) (v : SeatView) (s : S) → v.spent ≡ false → Kept share s → get_elem? s.views id ≡ some v → KnowsAll v → IsLeastKey (slice_index s.words 0) (λ key. number_count key v.posted)
least_known share id v s unspent kept at knows = own_least share id v s (record { kept = kept; place = at; unspent = unspent; first = knows.first }) knows (slice_index s.words 0) kept.least

pub posts : (share slots id key : ℕ) (v : SeatView) (c : C) → v.spent ≡ false → key < no_key → Allows (Kept share) slots id (v, c) 0 (λ n. min n key) (WhenPosted share (step slots 0 key 0 none) (v, c))
posts share slots id key v c unspent low s kept homes at small =
    let n = slice_index s.words 0 in
    let m : ℕ = min n key in
    let w = with_posted v key in
    let e : IsEventThere share (Post v.number key) s (stepped s 0 m id c w keeps) = post_event share id v c s kept at key (let h = live_inside share s kept in omega arith) low in
    let here : slice_index (set s.words 0 m) 0 ≡ m = get_or-set_same s.words 0 m 0 (let h = live_inside share s kept in omega arith) in
    let post : (k : ℕ) → ℕ = λ k. total (λ u. number_count k u.posted) s.views in
    let post' : (k : ℕ) → ℕ = λ k. total (λ u. number_count k u.posted) (set s.views id w) in
    let P : ℕ → Type 0 = λ t. IsLeastKey t post' in
    let up = more (λ (u : SeatView). number_count key u.posted) s.views id 1 v w at (number_count_here key v.posted) in
    let stay : (k : ℕ) → k ≢ key → post' k ≡ post k = λ k ne. same (λ (u : SeatView). number_count k u.posted) s.views id v w at (number_count_else key k v.posted ne) in
    let k : Kept share (stepped s 0 m id c w keeps) = record {
      few = kept.few;
      sized = length-set s.words 0 m ∙ kept.sized;
      paths = paths_stay s.words s.views 0 m id v w at (omega arith) refl refl kept.paths;
      live = live_stays s.words s.views 0 m id v w at (λ e. absurd (omega arith)) refl refl kept.live;
      least = subst P (sym here) (posted_more n key post post' low up stay kept.least);
      looks = λ k some_key looked.
          let l = same (λ (u : SeatView). number_count k u.looked) s.views id v w at refl in
          let h = kept.looks k some_key (omega arith) in
          dite (ℕ_discrete k key) (λ e. let P2 : ℕ → Type 0 = λ z. 0 < total (λ u. number_count z u.posted) (set s.views id w) in subst P2 (sym e) (omega arith)) (λ ne. let f = stay k ne in omega arith);
      numbered = seats_stay s.words s.views 0 m id v w at refl refl refl refl kept.numbered;
      seats = each_set s.views id w (seat_posted v unspent (kept.seats id v at) key) kept.seats;
      shown = show_event share (Post v.number key) s (stepped s 0 m id c w keeps) e kept.shown;
    } in
    let happens = happens_here share id (Post v.number key) v w s (set s.words 0 m) kept at k (rises_low s.words 0 m (omega arith)) e in
    (w, keeps, tt, k, record { seat = refl; capped = kept.least.capped; below = below_own share id v s kept at; own = least_known share id v s unspent kept at; event = happens })

pub looks : (share slots id : ℕ) (v : SeatView) (c : C) → v.spent ≡ false → Allows (Kept share) slots id (v, c) 0 (λ n. n) (WhenLooked share (step slots 0 0 0 none) (v, c))
looks share slots id v c unspent s kept homes at small =
    let n = slice_index s.words 0 in
    let w = with_looked v n in
    let words_same : set s.words 0 n ≡ s.words = set-get_or s.words 0 0 in
    let post : (k : ℕ) → total (λ u. number_count k u.posted) (set s.views id w) ≡ total (λ u. number_count k u.posted) s.views = λ k. same (λ (u : SeatView). number_count k u.posted) s.views id v w at refl in
    let P : ℕ × (ℕ → ℕ) → Type 0 = λ t. IsLeastKey t.0 t.1 in
    let here : slice_index (set s.words 0 n) 0 ≡ n = ap (λ ws. slice_index ws 0) words_same in
    let k : Kept share (stepped s 0 n id c w keeps) = record {
      few = kept.few;
      sized = length-set s.words 0 n ∙ kept.sized;
      paths = paths_stay s.words s.views 0 n id v w at (omega arith) refl refl kept.paths;
      live = live_stays s.words s.views 0 n id v w at (λ e. absurd (omega arith)) refl refl kept.live;
      least = subst P (λ j. (sym here j, λ k. sym (post k) j)) kept.least;
      looks = λ k some_key looked.
          let p = post k in
          dite (ℕ_discrete k n)
          (λ e. let r = kept.least.reached (omega arith) in let P2 : ℕ → Type 0 = λ z. 0 < total (λ u. number_count z u.posted) (set s.views id w) in subst P2 (sym e) (let q = post n in omega arith))
          (λ ne. let l = same (λ (u : SeatView). number_count k u.looked) s.views id v w at (number_count_else n k v.looked ne) in let h = kept.looks k some_key (omega arith) in omega arith);
      numbered = seats_stay s.words s.views 0 n id v w at refl refl refl refl kept.numbered;
      seats = each_set s.views id w (seat_looked v unspent (kept.seats id v at) n) kept.seats;
      shown = show_same share s (stepped s 0 n id c w keeps) (look_shown share id v c s kept at) kept.shown;
    } in
    let happens : (node : Turns) → n < branch_key node → Happens share (Cut v.number node n) v w = λ node less. happens_here share id (Cut v.number node n) v w s (set s.words 0 n) kept at k (rises_low s.words 0 n (omega arith)) (cut_event share id v c s kept at node less (let f = key_below 16 node in omega arith)) in
    (w, keeps, tt, k, record { seat = refl; capped = kept.least.capped; below = below_own share id v s kept at; own = least_known share id v s unspent kept at; event = happens })
