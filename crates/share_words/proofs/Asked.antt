-- What a call owes to the table, from what a contract knows.
use Rattle.std.proofs.Common.{◌≡◌, ℕ, ◌+◌, ◌-◌, ◌^◌, ◌%◌, ◌<◌, ◌≤◌, ◌==◌, false, [], min, length, sym, subst, ◌∙◌, arith}
use mathlib.Core.Option.{none}
use prog.Atomic.{either}
use Rattle.atomic_table.specs.Table.{Me, step, Allows}
use Rattle.branch_core.specs.Paths.{Turns, code}
use Rattle.share_words.specs.declared.plays.SeatView.{SeatView}
use Rattle.share_words.specs.Counts.{path_count}
use Rattle.share_words.specs.Rule.{words_of, no_key}
use Rattle.share_words.specs.Kept.{Kept}
use Rattle.share_words.specs.Steps.{WhenOffered, WhenTaken, WhenRaised, WhenEnded, WhenPosted, WhenLooked, WhenAlive}
use Rattle.share_words.specs.Seats.{MayGive}
use Rattle.share_words.proofs.Stays.{has_word}
use Rattle.share_words.proofs.PathSteps.{offers, takes}
use Rattle.share_words.proofs.LiveSteps.{raises, ends}
use Rattle.share_words.proofs.KeySteps.{posts, looks}
use Rattle.share_words.proofs.Lessons.{lives}

-- The word of a path of few turns is there.
pub there : (words share x : ℕ) (path : Turns) → words ≡ words_of share → length path ≤ share → x ≡ code path → x + 1 < words
there words share x path e h is = let t = has_word share path h in omega arith

pub offer_asked : (key share slots id x named_share : ℕ) (parent path named_parent named : Turns) (me : Me (Unit {0}) SeatView) → key ≡ share → me.0.spent ≡ false → 0 < path_count parent me.0.taken → path_count parent me.0.ended ≡ 0 → MayGive share parent path → parent ≡ named_parent → path ≡ named → share ≡ named_share → x ≡ code path
    → Allows (Kept key) slots id me (x + 1) (λ n. either (n == 0) 1 n) (WhenOffered named_share named_parent named (step slots (x + 1) 0 1 none) me)
offer_asked key share slots id x named_share parent path named_parent named me k unspent taken open_still gift parent_name name share_name is =
    let P : ℕ × ℕ × ℕ × Turns × Turns → Type 0 = λ t. Allows (Kept t.0) slots id me (t.1 + 1) (λ n. either (n == 0) 1 n) (WhenOffered t.2 t.3 t.4 (step slots (t.1 + 1) 0 1 none) me) in
    subst P (λ i. (sym k i, sym is i, share_name i, parent_name i, name i)) (offers share slots id parent path me.0 me.1 unspent taken open_still gift)

pub take_asked : (key share slots id x named_share : ℕ) (path named : Turns) (me : Me (Unit {0}) SeatView) → key ≡ share → me.0.spent ≡ false → length path ≤ share → path ≡ named → share ≡ named_share → x ≡ code path
    → Allows (Kept key) slots id me (x + 1) (λ n. either (n == 1) 2 n) (WhenTaken named_share named (step slots (x + 1) 1 2 none) me)
take_asked key share slots id x named_share path named me k unspent short name share_name is =
    let P : ℕ × ℕ × ℕ × Turns → Type 0 = λ t. Allows (Kept t.0) slots id me (t.1 + 1) (λ n. either (n == 1) 2 n) (WhenTaken t.2 t.3 (step slots (t.1 + 1) 1 2 none) me) in
    subst P (λ i. (sym k i, sym is i, share_name i, name i)) (takes share slots id path me.0 me.1 unspent short)

-- The words of the least key and of the living are there.
pub two_there : (words share : ℕ) → words ≡ words_of share → 1 < words
two_there words share e = let t = has_word share [] (omega arith) in omega arith

pub raise_asked : (key share slots id : ℕ) (path named : Turns) (me : Me (Unit {0}) SeatView) → key ≡ share → me.0.spent ≡ false → 0 < path_count path me.0.offered → path_count path me.0.raised ≡ 0 → path ≡ named
    → Allows (Kept key) slots id me 1 (λ n. (n + 1) % 2 ^ 64) (WhenRaised named (step slots 1 1 0 none) me)
raise_asked key share slots id path named me k unspent offered new name =
    let P : ℕ × Turns → Type 0 = λ t. Allows (Kept t.0) slots id me 1 (λ n. (n + 1) % 2 ^ 64) (WhenRaised t.1 (step slots 1 1 0 none) me) in
    subst P (λ i. (sym k i, name i)) (raises share slots id path me.0 me.1 unspent offered new)

pub end_asked : (key share slots id named_share : ℕ) (path named : Turns) (me : Me (Unit {0}) SeatView) → key ≡ share → me.0.spent ≡ false → 0 < path_count path me.0.taken → path_count path me.0.ended ≡ 0 → path ≡ named → share ≡ named_share
    → Allows (Kept key) slots id me 1 (λ n. (n + (2 ^ 64 - 1)) % 2 ^ 64) (WhenEnded named_share named (step slots 1 1 0 none) me)
end_asked key share slots id named_share path named me k unspent taken new name share_name =
    let P : ℕ × ℕ × Turns → Type 0 = λ t. Allows (Kept t.0) slots id me 1 (λ n. (n + (2 ^ 64 - 1)) % 2 ^ 64) (WhenEnded t.1 t.2 (step slots 1 1 0 none) me) in
    subst P (λ i. (sym k i, share_name i, name i)) (ends share slots id path me.0 me.1 unspent taken new)

pub live_asked : (key share slots id : ℕ) (me : Me (Unit {0}) SeatView) → key ≡ share → me.0.spent ≡ false → Allows (Kept key) slots id me 1 (λ n. n) (WhenAlive (step slots 1 0 0 none) me)
live_asked key share slots id me k unspent = lives key slots id me.0 me.1 unspent

pub look_asked : (key share slots id named_share : ℕ) (me : Me (Unit {0}) SeatView) → key ≡ share → me.0.spent ≡ false → share ≡ named_share → Allows (Kept key) slots id me 0 (λ n. n) (WhenLooked named_share (step slots 0 0 0 none) me)
look_asked key share slots id named_share me k unspent share_name =
    let P : ℕ → Type 0 = λ n. Allows (Kept key) slots id me 0 (λ n. n) (WhenLooked n (step slots 0 0 0 none) me) in
    subst P (k ∙ share_name) (looks key slots id me.0 me.1 unspent)

pub post_asked : (key share slots id named_share posted : ℕ) (me : Me (Unit {0}) SeatView) → key ≡ share → me.0.spent ≡ false → posted < no_key → share ≡ named_share → Allows (Kept key) slots id me 0 (λ n. min n posted) (WhenPosted named_share (step slots 0 posted 0 none) me)
post_asked key share slots id named_share posted me k unspent low share_name =
    let P : ℕ → Type 0 = λ m. Allows (Kept key) slots id me 0 (λ n. min n posted) (WhenPosted m (step slots 0 posted 0 none) me) in
    subst P (k ∙ share_name) (posts key slots id posted me.0 me.1 unspent low)
