-- What the words and the lists show, and how each step changes it.
use Rattle.std.proofs.Common.{◌≡◌, ◌≢◌, ℕ, ◌+◌, ◌<◌, ◌≤◌, min, Bool, false, List, [], set, length, Option, Some, None, sym, ap, ◌∙◌, subst, ⊎_elim, arith, eq-eqb, ne_eqb}
use Rattle.std.specs.Prelude.{slice_index, if◌then◌else◌}
use mathlib.Core.Option.{some}
use mathlib.Core.Logic.{dite}
use native.Mathlib.Decide.{ℕ_discrete}
use lib.ListN.{get_elem?}
use Rattle.atomic_table.proofs.Lists.{at_set}
use Rattle.branch_core.specs.Paths.{Turns, code}
use Rattle.branch_core.specs.Core.{Actor, StateValue, Unknown, Offered, Held, CoreValue, turns_eq, with_state, least_with}
use Rattle.branch_core.proofs.Orderly.{state_here, turns_cases}
use Rattle.share_words.specs.declared.plays.SeatView.{SeatView}
use Rattle.share_words.specs.Counts.{path_count, Each}
use Rattle.share_words.specs.Rule.{no_key, word_at}
use Rattle.share_words.specs.Shown.{least_shown, WordsShow, SeatShows, handed, moved}
use Rattle.std.proofs.lemmas.List.{get_or-set_same, get_or-set_other}
use Rattle.share_words.proofs.Counts.{turns_other, one_or_other}
use Rattle.share_words.proofs.Stays.{word_here, word_else, word_low}

-- ---- one seat
-- A state that is put where the seat took no path changes nothing for the seat.
pub seat_elsewhere : (core : CoreValue) (v : SeatView) (path : Turns) (state : StateValue) → path_count path v.taken ≡ 0 → path_count path v.ended ≡ 0 → SeatShows core v → SeatShows (record core { states = with_state core.states path state }) v
seat_elsewhere core v path state untaken unended shows = record {
  held = λ other there open_still. other_state other (λ e. let P : Turns → Type 0 = λ t. 0 < path_count t v.taken in absurd (let h = subst P (sym e) there in omega arith)) ∙ shows.held other there open_still;
  ended = λ other there. other_state other (λ e. let P : Turns → Type 0 = λ t. 0 < path_count t v.ended in absurd (let h = subst P (sym e) there in omega arith)) ∙ shows.ended other there;
}
  where
    other_state : (other : Turns) → path ≢ other → with_state core.states path state other ≡ core.states other
    other_state other apart = ⊎_elim (λ e. absurd (apart e)) (λ n. n.1 core.states state) (turns_cases path other)

-- A seat with the same number and the same paths shows the same.
pub seat_alike : (core : CoreValue) (v w : SeatView) → w.number ≡ v.number → w.taken ≡ v.taken → w.ended ≡ v.ended → SeatShows core v → SeatShows core w
seat_alike core v w n t e shows = record {
  held = λ path there open_still. shows.held path (subst (λ (ps : List Turns). 0 < path_count path ps) t there) (subst (λ (ps : List Turns). path_count path ps ≡ 0) e open_still) ∙ ap (λ (by : ℕ). Held by) (sym n);
  ended = λ path there. shows.ended path (subst (λ (ps : List Turns). 0 < path_count path ps) e there);
}

-- A seat that took nothing shows nothing.
pub seat_idle : (core : CoreValue) (v : SeatView) → v.taken ≡ [] → v.ended ≡ [] → SeatShows core v
seat_idle core v t e = record {
  held = λ path there open_still. absurd (let h = subst (λ (ps : List Turns). 0 < path_count path ps) t there in omega arith);
  ended = λ path there. absurd (let h = subst (λ (ps : List Turns). 0 < path_count path ps) e there in omega arith);
}

-- ---- all seats
module _ {V : Type 0} where
  -- One view changes, and the others show what they are to show.
  pub each_change : (Now : V → Type 0) (views : List V) (id : ℕ) (w : V) → Now w → ((j : ℕ) (u : V) → j ≢ id → get_elem? views j ≡ some u → Now u) → Each Now (set views id w)
  each_change Now views id w so others j u e =
      ⊎_elim (λ (t : (j ≡ id) × (w ≡ u)). subst Now t.1 so) (λ (t : (j ≢ id) × (get_elem? views j ≡ some u)). others j u t.0 t.1) (at_set views id j w u e)

-- ---- the least key
pub least_more : (word posted : ℕ) (least : Option ℕ) → posted < no_key → word ≤ no_key → least ≡ least_shown word → Some (least_with least posted) ≡ least_shown (min word posted)
least_more word posted least low capped is =
    dite (ℕ_discrete word no_key)
    (λ e.
    let none : least_shown word ≡ None = ap (λ (b : Bool). if b then None else Some word) (eq-eqb word no_key e) in
    let all : least_with least posted ≡ posted = ap (λ (l : Option ℕ). least_with l posted) (is ∙ none) in
    let m : min word posted ≡ posted = omega arith in
    ap (λ (n : ℕ). Some n) (all ∙ sym m) ∙ sym (shown_below (min word posted) (omega arith)))
    (λ ne.
    let some_there : least_shown word ≡ Some word = shown_below word (omega arith) in
    let all : least_with least posted ≡ min word posted = ap (λ (l : Option ℕ). least_with l posted) (is ∙ some_there) in
    ap (λ (n : ℕ). Some n) all ∙ sym (shown_below (min word posted) (omega arith)))
  where
    shown_below : (n : ℕ) → n < no_key → least_shown n ≡ Some n
    shown_below n h = ap (λ (b : Bool). if b then None else Some n) (ne_eqb n no_key (λ e. absurd (omega arith)))

pub least_below : (word : ℕ) (least : Option ℕ) → word < no_key → least ≡ least_shown word → least ≡ Some word
least_below word least low is = is ∙ ap (λ (b : Bool). if b then None else Some word) (ne_eqb word no_key (λ e. absurd (omega arith)))

-- ---- the words
-- Where the word of another path stays, so does what it shows.
module _ (core : CoreValue) (words : List ℕ) (shows : WordsShow core words) where
  -- A path's word and its state change together.
  pub words_put : (path : Turns) (n : ℕ) (state : StateValue) → code path + 1 < length words → (n ≡ 0 → state ≡ Unknown) → (n ≡ 1 → state ≡ Offered) → WordsShow (record core { states = with_state core.states path state }) (set words (code path + 1) n)
  words_put path n state inside when_0 when_1 = record {
    unknown = λ other h. ⊎_elim
        (λ (e : other ≡ path). here other e ∙ when_0 (sym (word_here words path n inside) ∙ (ap (λ (t : Turns). word_at (set words (code path + 1) n) t) (sym e) ∙ h)))
        (λ (apart : turns_eq other path ≡ false). there other apart ∙ shows.unknown other (sym (word_else words path other n apart) ∙ h))
        (one_or_other other path);
    offered = λ other h. ⊎_elim
        (λ (e : other ≡ path). here other e ∙ when_1 (sym (word_here words path n inside) ∙ (ap (λ (t : Turns). word_at (set words (code path + 1) n) t) (sym e) ∙ h)))
        (λ (apart : turns_eq other path ≡ false). there other apart ∙ shows.offered other (sym (word_else words path other n apart) ∙ h))
        (one_or_other other path);
    least = shows.least ∙ ap least_shown (sym (get_or-set_other words (code path + 1) 0 n 0 (λ e. absurd (omega arith))));
  }
    where
      here : (other : Turns) → other ≡ path → with_state core.states path state other ≡ state
      here other e = ap (with_state core.states path state) e ∙ state_here core.states path state

      there : (other : Turns) → turns_eq other path ≡ false → with_state core.states path state other ≡ core.states other
      there other apart = ⊎_elim (λ (e : path ≡ other). absurd (turns_other other path apart (sym e))) (λ n. n.1 core.states state) (turns_cases path other)

  -- A path whose word is 2 changes its state, and the word of the living changes.
  pub words_end : (path : Turns) (n : ℕ) (state : StateValue) → word_at words path ≡ 2 → WordsShow (record core { states = with_state core.states path state }) (set words 1 n)
  words_end path n state two = record {
    unknown = λ other h. let w = word_low words 1 n other (omega arith) in there other (λ e. absurd (let g = ap (word_at words) e in omega arith)) ∙ shows.unknown other (omega arith);
    offered = λ other h. let w = word_low words 1 n other (omega arith) in there other (λ e. absurd (let g = ap (word_at words) e in omega arith)) ∙ shows.offered other (omega arith);
    least = shows.least ∙ ap least_shown (sym (get_or-set_other words 1 0 n 0 (λ e. absurd (omega arith))));
  }
    where
      there : (other : Turns) → path ≢ other → with_state core.states path state other ≡ core.states other
      there other apart = ⊎_elim (λ (e : path ≡ other). absurd (apart e)) (λ n. n.1 core.states state) (turns_cases path other)

  -- The word of the living shows nothing.
  pub words_live : (n : ℕ) → WordsShow core (set words 1 n)
  words_live n = record {
    unknown = λ other h. shows.unknown other (sym (word_low words 1 n other (omega arith)) ∙ h);
    offered = λ other h. shows.offered other (sym (word_low words 1 n other (omega arith)) ∙ h);
    least = shows.least ∙ ap least_shown (sym (get_or-set_other words 1 0 n 0 (λ e. absurd (omega arith))));
  }

  -- The least word falls to a key.
  pub words_post : (posted : ℕ) → 0 < length words → posted < no_key → slice_index words 0 ≤ no_key → WordsShow (record core { least = Some (least_with core.least posted) }) (set words 0 (min (slice_index words 0) posted))
  words_post posted inside low capped = record {
    unknown = λ other h. shows.unknown other (sym (word_low words 0 (min (slice_index words 0) posted) other (omega arith)) ∙ h);
    offered = λ other h. shows.offered other (sym (word_low words 0 (min (slice_index words 0) posted) other (omega arith)) ∙ h);
    least = least_more (slice_index words 0) posted core.least low capped shows.least ∙ ap least_shown (sym (get_or-set_same words 0 (min (slice_index words 0) posted) 0 inside));
  }

  -- Who holds a path shows in no word.
  pub words_moved : (from to : Actor) → WordsShow (moved from to core) words
  words_moved from to = record {
    unknown = λ path h. ap (handed from to) (shows.unknown path h);
    offered = λ path h. ap (handed from to) (shows.offered path h);
    least = shows.least;
  }
