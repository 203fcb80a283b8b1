-- Steps on a path's word keep the rule.
use Rattle.std.proofs.Common.{◌≡◌, ◌≢◌, ℕ, ◌+◌, ◌<◌, ◌≤◌, ◌==◌, Bool, true, false, List, length, set, refl, sym, ap, ◌∙◌, subst, ⊎_elim, arith, eq-eqb}
use Rattle.std.specs.Prelude.{slice_index, if◌then◌else◌}
use Rattle.std.proofs.lemmas.List.{length-set}
use Rattle.std.proofs.lemmas.Bool.Decides.{nat_tests}
use mathlib.Core.Option.{some, none}
use prog.Atomic.{either}
use lib.ListN.{get_elem?}
use Rattle.atomic_table.specs.Table.{State, Act, Valid, carried_after, step, keeps, stepped, Allows}
use Rattle.branch_core.specs.Paths.{Turns, code}
use Rattle.branch_core.specs.Core.{turns_eq, Offer, Take}
use Rattle.share_words.specs.declared.plays.SeatView.{SeatView}
use Rattle.share_words.specs.Counts.{path_count, total}
use Rattle.share_words.specs.Views.{with_offered, with_taken}
use Rattle.share_words.specs.Rule.{word_at, at_root, Tells, PathsTell}
use Rattle.atomic_table.specs.Seated.{TableId}
use Rattle.share_words.specs.Kept.{Kept}
use Rattle.share_words.specs.Happens.{IsEventThere}
use Rattle.share_words.specs.Seats.{CanRaise, Holds, MayGive, seat_of}
use Rattle.share_words.specs.Steps.{Knows, OwnPath, offered_at, taken_at, WhenOffered, WhenTaken}
use Rattle.share_words.proofs.Counts.{one_or_other, path_count_here, path_count_else, more, same, at_le_total, each_set}
use Rattle.share_words.proofs.Stays.{code_above, has_word, word_else, word_here, live_stays, least_stays, looks_stay, seats_stay, stays, rises_put}
use Rattle.share_words.proofs.Events.{untaken, unended, offer_event, take_event}
use Rattle.share_words.proofs.Knowing.{own_path}
use Rattle.share_words.proofs.OneSeat.{seat_offered, seat_taken}
use Rattle.share_words.proofs.Happening.{happens_here, show_event}

abbrev S : Type 0
S = State (Unit {0}) SeatView

abbrev C : Type 0
C = List (ℕ × Unit {0})

-- A path's word becomes n, and one seat gives it away a times more and takes it b times more.
paths_change : (words : List ℕ) (views : List SeatView) (path : Turns) (n id a b : ℕ) (v w : SeatView) → code path + 1 < length words → get_elem? views id ≡ some v
    → path_count path w.offered ≡ path_count path v.offered + a → path_count path w.taken ≡ path_count path v.taken + b
    → ((other : Turns) → turns_eq other path ≡ false → (path_count other w.offered ≡ path_count other v.offered) × (path_count other w.taken ≡ path_count other v.taken))
    → ((given taken : ℕ) → Tells (word_at words path) given taken → Tells n (given + a) (taken + b))
    → PathsTell words views → PathsTell (set words (code path + 1) n) (set views id w)
paths_change words views path n id a b v w inside at more_given more_taken others tells paths other = ⊎_elim here there (one_or_other other path)
  where
    here : other ≡ path → Tells (word_at (set words (code path + 1) n) other) (at_root other + total (λ u. path_count other u.offered) (set views id w)) (total (λ u. path_count other u.taken) (set views id w))
    here e =
        let o = more (λ (u : SeatView). path_count path u.offered) views id a v w at more_given in
        let t = more (λ (u : SeatView). path_count path u.taken) views id b v w at more_taken in
        let new = tells _ _ (paths path) in
        let n0 = new.counted in let n1 = new.later in let n2 = new.once in
        let i = word_here words path n inside in
        let P : Turns → Type 0 = λ p. Tells (word_at (set words (code path + 1) n) p) (at_root p + total (λ u. path_count p u.offered) (set views id w)) (total (λ u. path_count p u.taken) (set views id w)) in
        subst P (sym e) (record { counted = omega arith; later = omega arith; once = omega arith })

    there : turns_eq other path ≡ false → Tells (word_at (set words (code path + 1) n) other) (at_root other + total (λ u. path_count other u.offered) (set views id w)) (total (λ u. path_count other u.taken) (set views id w))
    there apart =
        let old = paths other in
        let n0 = old.counted in let n1 = old.later in let n2 = old.once in
        let f = others other apart in
        let o = same (λ (u : SeatView). path_count other u.offered) views id v w at f.0 in
        let t = same (λ (u : SeatView). path_count other u.taken) views id v w at f.1 in
        let i = word_else words path other n apart in
        record { counted = omega arith; later = omega arith; once = omega arith }

own_here : (share id : ℕ) (path : Turns) (v : SeatView) (s : S) → v.spent ≡ false → Kept share s → get_elem? s.views id ≡ some v → OwnPath v path (word_at s.words path)
own_here share id path v s unspent kept at knows = own_path share id v s (record { kept = kept; place = at; unspent = unspent; first = knows.first }) knows path (word_at s.words path) (kept.paths path)

not_so : (n m : ℕ) → (n == m) ≡ false → n ≢ m
not_so n m is e = let t : true ≡ false = sym (eq-eqb n m e) ∙ is in cc

-- A path's word is at most 2.
at_most_2 : (share : ℕ) (path : Turns) (s : S) → Kept share s → word_at s.words path ≤ 2
at_most_2 share path s kept = let t0 = (kept.paths path).counted in let t1 = (kept.paths path).later in let t2 = (kept.paths path).once in omega arith

-- A path whose word was 0 can be raised by the seat that gave it away.
can_raise : (share id : ℕ) (path : Turns) (v : SeatView) (s : S) → Kept share s → get_elem? s.views id ≡ some v → word_at s.words path ≡ 0 → (words : TableId) → CanRaise (seat_of words (with_offered v path)) path
can_raise share id path v s kept at zero_word words =
    let t0 = (kept.paths path).counted in
    let l = at_le_total (λ (u : SeatView). path_count path u.offered) s.views id v at in
    let r = (kept.seats id v at).raised path in
    let h = path_count_here path v.offered in
    record { offered = omega arith; not_yet = omega arith }

-- A path whose word was 1 is held by the seat that took it.
holds : (share id : ℕ) (path : Turns) (v : SeatView) (s : S) → Kept share s → get_elem? s.views id ≡ some v → word_at s.words path ≡ 1 → (words : TableId) → Holds (seat_of words (with_taken v path)) path
holds share id path v s kept at one_word words =
    let n = untaken share s kept path id v at (omega arith) in
    let h = path_count_here path v.taken in
    (omega arith, unended share s kept path id v at n)

pub offers : (share slots id : ℕ) (parent path : Turns) (v : SeatView) (c : C) → v.spent ≡ false → 0 < path_count parent v.taken → path_count parent v.ended ≡ 0 → MayGive share parent path
    → Allows (Kept share) slots id (v, c) (code path + 1) (λ n. either (n == 0) 1 n) (WhenOffered share parent path (step slots (code path + 1) 0 1 none) (v, c))
offers share slots id parent path v c unspent taken open_still gift s kept homes at small = go (slice_index s.words (code path + 1) == 0) refl
  where
    go : (b : Bool) → (slice_index s.words (code path + 1) == 0) ≡ b
        → (w : SeatView) × (a : Act (Unit {0})) × Valid s.homes c a × Kept share (stepped s (code path + 1) (either (slice_index s.words (code path + 1) == 0) 1 (slice_index s.words (code path + 1))) id c w a)
        × WhenOffered share parent path (step slots (code path + 1) 0 1 none) (v, c) (slice_index s.words (code path + 1)) (w, carried_after c a)
    go true is =
        let w = with_offered v path in
        let fresh : word_at s.words path ≡ 0 = grind (arith, nat_tests) in
        let inside : code path + 1 < length s.words = let z = kept.sized in let h = has_word share path gift.short in omega arith in
        let e : IsEventThere share (Offer v.number parent path) s (stepped s (code path + 1) 1 id c w keeps) = offer_event share id v c s kept at parent path taken open_still gift.extends gift.to_right gift.short inside fresh in
        let k : Kept share (stepped s (code path + 1) 1 id c w keeps) = record {
          few = kept.few;
          sized = length-set s.words (code path + 1) 1 ∙ kept.sized;
          paths = paths_change s.words s.views path 1 id 1 0 v w inside at (path_count_here path v.offered) (omega arith) (λ other apart. (path_count_else path other v.offered apart, refl))
              (λ g t old. let o0 = old.counted in let o1 = old.later in let o2 = old.once in record { counted = omega arith; later = omega arith; once = omega arith }) kept.paths;
          live = live_stays s.words s.views (code path + 1) 1 id v w at (λ e. absurd (let h = code_above path in omega arith)) refl refl kept.live;
          least = least_stays s.words s.views (code path + 1) 1 id v w at (λ e. absurd (omega arith)) refl kept.least;
          looks = looks_stay s.words s.views (code path + 1) 1 id v w at refl refl kept.looks;
          numbered = seats_stay s.words s.views (code path + 1) 1 id v w at refl refl refl refl kept.numbered;
          seats = each_set s.views id w (seat_offered v unspent (kept.seats id v at) path) kept.seats;
          shown = show_event share (Offer v.number parent path) s (stepped s (code path + 1) 1 id c w keeps) e kept.shown;
        } in
        let seat : ◌≡◌ {A = Knows} (w, c) (offered_at v path (slice_index s.words (code path + 1)), c) = ap (λ (b : Bool). (if b then with_offered v path else v, c)) (sym is) in
        let happens = happens_here share id (Offer v.number parent path) v w s (set s.words (code path + 1) 1) kept at k (rises_put s.words path 1 inside (omega arith)) e in
        let told : WhenOffered share parent path (step slots (code path + 1) 0 1 none) (v, c) (slice_index s.words (code path + 1)) (w, c) = record { seat = seat; few = at_most_2 share path s kept; own = own_here share id path v s unspent kept at; can_raise = λ z. can_raise share id path v s kept at fresh; event = λ z. happens } in
        rw is (w, keeps, tt, k, told)
    go false is =
        let seat : ◌≡◌ {A = Knows} (v, c) (offered_at v path (slice_index s.words (code path + 1)), c) = ap (λ (b : Bool). (if b then with_offered v path else v, c)) (sym is) in
        let told : WhenOffered share parent path (step slots (code path + 1) 0 1 none) (v, c) (slice_index s.words (code path + 1)) (v, c) = record { seat = seat; few = at_most_2 share path s kept; own = own_here share id path v s unspent kept at; can_raise = λ z. absurd (not_so (slice_index s.words (code path + 1)) 0 is z); event = λ z. absurd (not_so (slice_index s.words (code path + 1)) 0 is z) } in
        rw is (v, keeps, tt, stays share id (code path + 1) v c s kept at, told)

pub takes : (share slots id : ℕ) (path : Turns) (v : SeatView) (c : C) → v.spent ≡ false → length path ≤ share
    → Allows (Kept share) slots id (v, c) (code path + 1) (λ n. either (n == 1) 2 n) (WhenTaken share path (step slots (code path + 1) 1 2 none) (v, c))
takes share slots id path v c unspent short s kept homes at small = go (slice_index s.words (code path + 1) == 1) refl
  where
    go : (b : Bool) → (slice_index s.words (code path + 1) == 1) ≡ b
        → (w : SeatView) × (a : Act (Unit {0})) × Valid s.homes c a × Kept share (stepped s (code path + 1) (either (slice_index s.words (code path + 1) == 1) 2 (slice_index s.words (code path + 1))) id c w a)
        × WhenTaken share path (step slots (code path + 1) 1 2 none) (v, c) (slice_index s.words (code path + 1)) (w, carried_after c a)
    go true is =
        let w = with_taken v path in
        let is_open : word_at s.words path ≡ 1 = grind (arith, nat_tests) in
        let inside : code path + 1 < length s.words = let z = kept.sized in let h = has_word share path short in omega arith in
        let e : IsEventThere share (Take v.number path) s (stepped s (code path + 1) 2 id c w keeps) = take_event share id v c s kept at path inside is_open in
        let k : Kept share (stepped s (code path + 1) 2 id c w keeps) = record {
          few = kept.few;
          sized = length-set s.words (code path + 1) 2 ∙ kept.sized;
          paths = paths_change s.words s.views path 2 id 0 1 v w inside at (omega arith) (path_count_here path v.taken) (λ other apart. (refl, path_count_else path other v.taken apart))
              (λ g t old. let o0 = old.counted in let o1 = old.later in let o2 = old.once in record { counted = omega arith; later = omega arith; once = omega arith }) kept.paths;
          live = live_stays s.words s.views (code path + 1) 2 id v w at (λ e. absurd (let h = code_above path in omega arith)) refl refl kept.live;
          least = least_stays s.words s.views (code path + 1) 2 id v w at (λ e. absurd (omega arith)) refl kept.least;
          looks = looks_stay s.words s.views (code path + 1) 2 id v w at refl refl kept.looks;
          numbered = seats_stay s.words s.views (code path + 1) 2 id v w at refl refl refl refl kept.numbered;
          seats = each_set s.views id w (seat_taken v unspent (kept.seats id v at) path) kept.seats;
          shown = show_event share (Take v.number path) s (stepped s (code path + 1) 2 id c w keeps) e kept.shown;
        } in
        let seat : ◌≡◌ {A = Knows} (w, c) (taken_at v path (slice_index s.words (code path + 1)), c) = ap (λ (b : Bool). (if b then with_taken v path else v, c)) (sym is) in
        let happens = happens_here share id (Take v.number path) v w s (set s.words (code path + 1) 2) kept at k (rises_put s.words path 2 inside (omega arith)) e in
        let told : WhenTaken share path (step slots (code path + 1) 1 2 none) (v, c) (slice_index s.words (code path + 1)) (w, c) = record { seat = seat; few = at_most_2 share path s kept; own = own_here share id path v s unspent kept at; holds = λ z. holds share id path v s kept at is_open; event = λ z. happens } in
        rw is (w, keeps, tt, k, told)
    go false is =
        let seat : ◌≡◌ {A = Knows} (v, c) (taken_at v path (slice_index s.words (code path + 1)), c) = ap (λ (b : Bool). (if b then with_taken v path else v, c)) (sym is) in
        let told : WhenTaken share path (step slots (code path + 1) 1 2 none) (v, c) (slice_index s.words (code path + 1)) (v, c) = record { seat = seat; few = at_most_2 share path s kept; own = own_here share id path v s unspent kept at; holds = λ z. absurd (not_so (slice_index s.words (code path + 1)) 1 is z); event = λ z. absurd (not_so (slice_index s.words (code path + 1)) 1 is z) } in
        rw is (v, keeps, tt, stays share id (code path + 1) v c s kept at, told)
