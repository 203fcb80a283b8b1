-- Steps on the word of the living keep the rule.
use Rattle.std.proofs.Common.{◌≡◌, ℕ, ◌+◌, ◌-◌, ◌^◌, ◌%◌, ◌<◌, false, List, [], ◌∷◌, length, set, refl, sym, ap, ◌∙◌, subst, arith, length-append}
use Rattle.std.specs.Prelude.{slice_index}
use Rattle.std.proofs.lemmas.List.{length-set, get_or-set_same}
use Rattle.std.proofs.Math.Nat.{mod-add-mod, add-mod_right}
use mathlib.Core.Option.{none}
use Rattle.atomic_table.specs.Table.{State, step, keeps, stepped, Allows}
use Rattle.branch_core.specs.Paths.{Turns}
use Rattle.branch_core.specs.Parts.{PartValue}
use Rattle.branch_core.specs.Core.{End}
use Rattle.share_words.specs.declared.plays.SeatView.{SeatView}
use Rattle.share_words.specs.Counts.{path_count}
use Rattle.share_words.specs.Views.{with_raised, with_ended}
use Rattle.share_words.specs.Rule.{IsLive}
use Rattle.share_words.specs.Kept.{Kept}
use Rattle.share_words.specs.Happens.{Happens, IsEventThere}
use Rattle.share_words.specs.Steps.{WhenRaised, WhenEnded}
use Rattle.share_words.proofs.Counts.{more, same, each_set}
use Rattle.share_words.proofs.Stays.{paths_stay, least_stays, looks_stay, seats_stay, rises_low}
use Rattle.share_words.proofs.Events.{end_event, raise_shown}
use Rattle.share_words.proofs.OneSeat.{seat_raised, seat_ended}
use Rattle.share_words.proofs.Happening.{happens_here, show_event, show_same, live_inside}

abbrev S : Type 0
S = State (Unit {0}) SeatView

abbrev C : Type 0
C = List (ℕ × Unit {0})

raised_more : (n r e : ℕ) → IsLive n r e → IsLive ((n + 1) % 2 ^ 64) (r + 1) e
raised_more n r e live =
    let a : ((n + 1) % 2 ^ 64 + e) % 2 ^ 64 ≡ (n + 1 + e) % 2 ^ 64 = mod-add-mod (n + 1) (2 ^ 64) e in
    let b : ((n + e) % 2 ^ 64 + 1) % 2 ^ 64 ≡ (n + e + 1) % 2 ^ 64 = mod-add-mod (n + e) (2 ^ 64) 1 in
    let c : ((1 + r) % 2 ^ 64 + 1) % 2 ^ 64 ≡ (1 + r + 1) % 2 ^ 64 = mod-add-mod (1 + r) (2 ^ 64) 1 in
    a ∙ ap (λ (k : ℕ). k % 2 ^ 64) (omega arith) ∙ sym b ∙ ap (λ (k : ℕ). (k + 1) % 2 ^ 64) live ∙ c ∙ ap (λ (k : ℕ). k % 2 ^ 64) (omega arith)

ended_more : (n r e : ℕ) → IsLive n r e → IsLive ((n + (2 ^ 64 - 1)) % 2 ^ 64) r (e + 1)
ended_more n r e live =
    let a : ((n + (2 ^ 64 - 1)) % 2 ^ 64 + (e + 1)) % 2 ^ 64 ≡ (n + (2 ^ 64 - 1) + (e + 1)) % 2 ^ 64 = mod-add-mod (n + (2 ^ 64 - 1)) (2 ^ 64) (e + 1) in
    let b : (n + e + 2 ^ 64) % 2 ^ 64 ≡ (n + e) % 2 ^ 64 = add-mod_right (n + e) (2 ^ 64) in
    a ∙ ap (λ (k : ℕ). k % 2 ^ 64) (omega arith) ∙ b ∙ live

pub raises : (share slots id : ℕ) (path : Turns) (v : SeatView) (c : C) → v.spent ≡ false → 0 < path_count path v.offered → path_count path v.raised ≡ 0
    → Allows (Kept share) slots id (v, c) 1 (λ n. (n + 1) % 2 ^ 64) (WhenRaised path (step slots 1 1 0 none) (v, c))
raises share slots id path v c unspent there new s kept homes at small =
    let n = slice_index s.words 1 in
    let m : ℕ = (n + 1) % 2 ^ 64 in
    let w = with_raised v path in
    let here : slice_index (set s.words 1 m) 1 ≡ m = get_or-set_same s.words 1 m 0 (live_inside share s kept) in
    let up = more (λ (u : SeatView). length u.raised) s.views id 1 v w at (length-append v.raised (path ∷ [])) in
    let stay = same (λ (u : SeatView). length u.ended) s.views id v w at refl in
    let P : ℕ × ℕ × ℕ → Type 0 = λ t. IsLive t.0 t.1 t.2 in
    let k : Kept share (stepped s 1 m id c w keeps) = record {
      few = kept.few;
      sized = length-set s.words 1 m ∙ kept.sized;
      paths = paths_stay s.words s.views 1 m id v w at (omega arith) refl refl kept.paths;
      live = subst P (λ j. (sym here j, sym up j, sym stay j)) (raised_more n _ _ kept.live);
      least = least_stays s.words s.views 1 m id v w at (λ e. absurd (omega arith)) refl kept.least;
      looks = looks_stay s.words s.views 1 m id v w at refl refl kept.looks;
      numbered = seats_stay s.words s.views 1 m id v w at refl refl refl refl kept.numbered;
      seats = each_set s.views id w (seat_raised v unspent (kept.seats id v at) path there new) kept.seats;
      shown = show_same share s (stepped s 1 m id c w keeps) (raise_shown share id v c s kept at path m) kept.shown;
    } in
    (w, keeps, tt, k, refl)

pub ends : (share slots id : ℕ) (path : Turns) (v : SeatView) (c : C) → v.spent ≡ false → 0 < path_count path v.taken → path_count path v.ended ≡ 0
    → Allows (Kept share) slots id (v, c) 1 (λ n. (n + (2 ^ 64 - 1)) % 2 ^ 64) (WhenEnded share path (step slots 1 1 0 none) (v, c))
ends share slots id path v c unspent there new s kept homes at small =
    let n = slice_index s.words 1 in
    let m : ℕ = (n + (2 ^ 64 - 1)) % 2 ^ 64 in
    let w = with_ended v path in
    let e : (parts : List PartValue) → IsEventThere share (End v.number path parts) s (stepped s 1 m id c w keeps) = λ parts. end_event share id v c s kept at path parts m there new in
    let here : slice_index (set s.words 1 m) 1 ≡ m = get_or-set_same s.words 1 m 0 (live_inside share s kept) in
    let up = more (λ (u : SeatView). length u.ended) s.views id 1 v w at (length-append v.ended (path ∷ [])) in
    let stay = same (λ (u : SeatView). length u.raised) s.views id v w at refl in
    let P : ℕ × ℕ × ℕ → Type 0 = λ t. IsLive t.0 t.1 t.2 in
    let k : Kept share (stepped s 1 m id c w keeps) = record {
      few = kept.few;
      sized = length-set s.words 1 m ∙ kept.sized;
      paths = paths_stay s.words s.views 1 m id v w at (omega arith) refl refl kept.paths;
      live = subst P (λ j. (sym here j, sym stay j, sym up j)) (ended_more n _ _ kept.live);
      least = least_stays s.words s.views 1 m id v w at (λ e. absurd (omega arith)) refl kept.least;
      looks = looks_stay s.words s.views 1 m id v w at refl refl kept.looks;
      numbered = seats_stay s.words s.views 1 m id v w at refl refl refl refl kept.numbered;
      seats = each_set s.views id w (seat_ended v unspent (kept.seats id v at) path there new) kept.seats;
      shown = show_event share (End v.number path []) s (stepped s 1 m id c w keeps) (e []) kept.shown;
    } in
    let happens : (parts : List PartValue) → Happens share (End v.number path parts) v w = λ parts. happens_here share id (End v.number path parts) v w s (set s.words 1 m) kept at k (rises_low s.words 1 m (omega arith)) (e parts) in
    (w, keeps, tt, k, record { seat = refl; event = happens })
