-- Each step that is an event of the core is legal in the state that is shown, and leads to the state that follows it.
use Rattle.std.proofs.Common.{◌≡◌, ◌≢◌, ℕ, ◌+◌, ◌<◌, ◌≤◌, min, false, List, [], ◌∷◌, ◌++◌, set, length, refl, sym, ap, ◌∙◌, subst, ⊎_elim, arith}
use Rattle.std.specs.Prelude.{slice_index}
use Rattle.std.proofs.lemmas.List.{set-get_or}
use mathlib.Core.Option.{some}
use lib.ListN.{get_elem?}
use Rattle.atomic_table.specs.Table.{State, stepped, keeps}
use Rattle.branch_core.specs.Paths.{Turns, code, key, ProperlyBegins}
use Rattle.branch_core.specs.Core.{Offered, Held, Ended, Offer, Take, Post, Cut, End, CoreValue, turns_eq, with_state, EndsRight, after}
use Rattle.branch_core.specs.Parts.{PartValue}
use Rattle.branch_core.proofs.Orderly.{state_here, turns_cases}
use Rattle.share_words.specs.declared.plays.SeatView.{SeatView}
use Rattle.share_words.specs.Counts.{path_count, Each}
use Rattle.share_words.specs.Views.{with_offered, with_raised, with_taken, with_ended, with_posted, with_looked}
use Rattle.share_words.specs.Rule.{no_key, word_at}
use Rattle.share_words.specs.Shown.{WordsShow, SeatShows, ShowsCore}
use Rattle.share_words.specs.Kept.{Kept}
use Rattle.share_words.specs.Happens.{IsEventThere}
use Rattle.share_words.proofs.Counts.{turns_other, one_or_other, path_count_here, path_count_else, at_le_total, both_le_total, each_set}
use Rattle.share_words.proofs.Showing.{seat_elsewhere, seat_alike, each_change, least_below, words_put, words_end, words_live, words_post}

abbrev S : Type 0
S = State (Unit {0}) SeatView

abbrev C : Type 0
C = List (ℕ × Unit {0})

-- ---- what the rule says of one path
module _ (share : ℕ) (s : S) (kept : Kept share s) where
  -- A path whose word is at most 1 was taken by no seat.
  pub untaken : (path : Turns) (id : ℕ) (v : SeatView) → get_elem? s.views id ≡ some v → word_at s.words path ≤ 1 → path_count path v.taken ≡ 0
  untaken path id v at low =
      let t0 = (kept.paths path).counted in let t1 = (kept.paths path).later in
      let l = at_le_total (λ (u : SeatView). path_count path u.taken) s.views id v at in omega arith

  -- What no seat took, none ended.
  pub unended : (path : Turns) (id : ℕ) (v : SeatView) → get_elem? s.views id ≡ some v → path_count path v.taken ≡ 0 → path_count path v.ended ≡ 0
  unended path id v at none = let e = (kept.seats id v at).ended path in omega arith

  -- What one seat took, another one didn't.
  pub taken_once : (path : Turns) (id j : ℕ) (v u : SeatView) → j ≢ id → get_elem? s.views id ≡ some v → get_elem? s.views j ≡ some u → 0 < path_count path v.taken → path_count path u.taken ≡ 0
  taken_once path id j v u apart at there some_taken =
      let t1 = (kept.paths path).later in let t2 = (kept.paths path).once in
      let l = both_le_total (λ (x : SeatView). path_count path x.taken) s.views id j v u apart at there in omega arith

  -- The word of a path that a seat took is 2.
  pub word_of_taken : (path : Turns) (id : ℕ) (v : SeatView) → get_elem? s.views id ≡ some v → 0 < path_count path v.taken → word_at s.words path ≡ 2
  word_of_taken path id v at some_taken =
      let t0 = (kept.paths path).counted in let t1 = (kept.paths path).later in let t2 = (kept.paths path).once in
      let l = at_le_total (λ (u : SeatView). path_count path u.taken) s.views id v at in omega arith

-- ---- each event
module _ (share id : ℕ) (v : SeatView) (c : C) (s : S) (kept : Kept share s) (at : get_elem? s.views id ≡ some v) where
  pub offer_event : (parent path : Turns) → 0 < path_count parent v.taken → path_count parent v.ended ≡ 0 → ProperlyBegins parent path → EndsRight path → length path ≤ share → code path + 1 < length s.words → word_at s.words path ≡ 0
      → IsEventThere share (Offer v.number parent path) s (stepped s (code path + 1) 1 id c (with_offered v path) keeps)
  offer_event parent path taken open_still extends to_right short inside fresh = record {
    legal = λ core shows. record { held = (shows.seats id v at).held parent taken open_still; extends = extends; to_right = to_right; short = subst (λ (n : ℕ). length path ≤ n) (sym shows.shared) short; unknown = shows.words.unknown path fresh };
    follows = λ core shows. record {
      shared = shows.shared;
      words = words_put core s.words shows.words path 1 Offered inside (λ e. absurd (omega arith)) (λ e. refl);
      seats = each_set s.views id (with_offered v path) (seat_alike (after core (Offer v.number parent path)) v (with_offered v path) refl refl refl (elsewhere core shows id v at)) (elsewhere core shows);
    };
  }
    where
      elsewhere : (core : CoreValue) → ShowsCore share s core → Each (SeatShows (record core { states = with_state core.states path Offered })) s.views
      elsewhere core shows j u there =
          let none = untaken share s kept path j u there (omega arith) in
          seat_elsewhere core u path Offered none (unended share s kept path j u there none) (shows.seats j u there)

  pub take_event : (path : Turns) → code path + 1 < length s.words → word_at s.words path ≡ 1
      → IsEventThere share (Take v.number path) s (stepped s (code path + 1) 2 id c (with_taken v path) keeps)
  take_event path inside is_open = record {
    legal = λ core shows. shows.words.offered path is_open;
    follows = λ core shows. record {
      shared = shows.shared;
      words = words_put core s.words shows.words path 2 (Held v.number) inside (λ e. absurd (omega arith)) (λ e. absurd (omega arith));
      seats = each_change (SeatShows (record core { states = with_state core.states path (Held v.number) })) s.views id (with_taken v path) (mine core shows) (λ j u apart there. elsewhere core shows j u there);
    };
  }
    where
      elsewhere : (core : CoreValue) → ShowsCore share s core → Each (SeatShows (record core { states = with_state core.states path (Held v.number) })) s.views
      elsewhere core shows j u there =
          let none = untaken share s kept path j u there (omega arith) in
          seat_elsewhere core u path (Held v.number) none (unended share s kept path j u there none) (shows.seats j u there)

      mine : (core : CoreValue) → ShowsCore share s core → SeatShows (record core { states = with_state core.states path (Held v.number) }) (with_taken v path)
      mine core shows =
          let before = elsewhere core shows id v at in
          record {
            held = λ other there open_still. ⊎_elim
                (λ (e : other ≡ path). ap (with_state core.states path (Held v.number)) e ∙ state_here core.states path (Held v.number))
                (λ (apart : turns_eq other path ≡ false). before.held other (let t = path_count_else path other v.taken apart in omega arith) open_still)
                (one_or_other other path);
            ended = before.ended;
          }

  pub end_event : (path : Turns) (parts : List PartValue) (n : ℕ) → 0 < path_count path v.taken → path_count path v.ended ≡ 0
      → IsEventThere share (End v.number path parts) s (stepped s 1 n id c (with_ended v path) keeps)
  end_event path parts n taken open_still = record {
    legal = λ core shows. (shows.seats id v at).held path taken open_still;
    follows = λ core shows. record {
      shared = shows.shared;
      words = let w = words_end core s.words shows.words path n Ended (word_of_taken share s kept path id v at taken) in record { unknown = w.unknown; offered = w.offered; least = w.least };
      seats = each_change (SeatShows (after core (End v.number path parts))) s.views id (with_ended v path) (mine core shows) (λ j u apart there.
          let none = taken_once share s kept path id j v u apart at there taken in
          let e = seat_elsewhere core u path Ended none (unended share s kept path j u there none) (shows.seats j u there) in record { held = e.held; ended = e.ended });
    };
  }
    where
      put : (core : CoreValue) (other : Turns) → turns_eq other path ≡ false → with_state core.states path Ended other ≡ core.states other
      put core other apart = ⊎_elim (λ (e : path ≡ other). absurd (turns_other other path apart (sym e))) (λ n. n.1 core.states Ended) (turns_cases path other)

      mine : (core : CoreValue) → ShowsCore share s core → SeatShows (after core (End v.number path parts)) (with_ended v path)
      mine core shows = record {
        held = λ other there open_after. ⊎_elim
            (λ (e : other ≡ path). let P : Turns → Type 0 = λ t. path_count t (v.ended ++ path ∷ []) ≡ 0 in let h = subst P e open_after in absurd (let t = path_count_here path v.ended in omega arith))
            (λ (apart : turns_eq other path ≡ false). put core other apart ∙ (shows.seats id v at).held other there (let t = path_count_else path other v.ended apart in omega arith))
            (one_or_other other path);
        ended = λ other there. ⊎_elim
            (λ (e : other ≡ path). ap (with_state core.states path Ended) e ∙ state_here core.states path Ended)
            (λ (apart : turns_eq other path ≡ false). put core other apart ∙ (shows.seats id v at).ended other (let t = path_count_else path other v.ended apart in omega arith))
            (one_or_other other path);
      }

  pub post_event : (posted : ℕ) → 0 < length s.words → posted < no_key
      → IsEventThere share (Post v.number posted) s (stepped s 0 (min (slice_index s.words 0) posted) id c (with_posted v posted) keeps)
  post_event posted inside low = record {
    legal = λ core shows. tt;
    follows = λ core shows. record {
      shared = shows.shared;
      words = words_post core s.words shows.words posted inside low kept.least.capped;
      seats = λ j u there. let e = each_set s.views id (with_posted v posted) (seat_alike core v (with_posted v posted) refl refl refl (shows.seats id v at)) shows.seats j u there in record { held = e.held; ended = e.ended };
    };
  }

  -- A step on the word of the living, or one that changes no word, by which the seat took and ended nothing: the state stays.
  pub same_shown : (w : SeatView) → w.number ≡ v.number → w.taken ≡ v.taken → w.ended ≡ v.ended → (words : List ℕ) (core : CoreValue) → WordsShow core words → ShowsCore share s core → ShowsCore share record { words = words; homes = s.homes; views = set s.views id w } core
  same_shown w n t e words core show shows = record { shared = shows.shared; words = show; seats = each_set s.views id w (seat_alike core v w n t e (shows.seats id v at)) shows.seats }

  pub look_shown : (core : CoreValue) → ShowsCore share s core → ShowsCore share (stepped s 0 (slice_index s.words 0) id c (with_looked v (slice_index s.words 0)) keeps) core
  look_shown core shows = same_shown (with_looked v (slice_index s.words 0)) refl refl refl (set s.words 0 (slice_index s.words 0)) core (subst (λ (ws : List ℕ). WordsShow core ws) (sym (set-get_or s.words 0 0)) shows.words) shows

  pub cut_event : (node : Turns) → slice_index s.words 0 < key node → slice_index s.words 0 < no_key
      → IsEventThere share (Cut v.number node (slice_index s.words 0)) s (stepped s 0 (slice_index s.words 0) id c (with_looked v (slice_index s.words 0)) keeps)
  cut_event node less low = record { legal = λ core shows. (least_below (slice_index s.words 0) core.least low shows.words.least, less); follows = λ core shows. look_shown core shows }

  pub raise_shown : (path : Turns) (n : ℕ) (core : CoreValue) → ShowsCore share s core → ShowsCore share (stepped s 1 n id c (with_raised v path) keeps) core
  raise_shown path n core shows = same_shown (with_raised v path) refl refl refl (set s.words 1 n) core (words_live core s.words shows.words n) shows
