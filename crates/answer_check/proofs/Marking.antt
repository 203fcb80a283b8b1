-- The lines of bytes: the first one, what follows it, and all of them joined.
use Rattle.std.proofs.Common.{◌≡◌, ℕ, zero, suc, ◌+◌, ◌-◌, ◌<◌, ◌≤◌, Bool, true, false, cond, eqb, List, [], ◌∷◌, ◌++◌, length, take, drop, get_or, refl, sym, ap, subst, ◌∙◌, append_assoc, add-one, arith}
use Rattle.std.proofs.lemmas.Bool.{eqb-true}
use Rattle.std.proofs.Math.Seq.{take-append_seam, drop-append_seam, take-length, drop-length}
use Rattle.std.proofs.lemmas.List.{take-append-drop, append-nil, length-append, length-take, length-drop}
use Rattle.std.specs.List.{flat_map}
use Rattle.szs_read.specs.Lines.{before_lines, lines}
use Rattle.answer_check.specs.Marks.{answer_bytes, is_mark, before_mark, after_mark, problem_bytes}

-- ---- the first line

feed_first : (b : ℕ) (bs : List ℕ) → b ≡ 10 → lines (b ∷ bs) ≡ (b ∷ []) ∷ lines bs
feed_first b bs e = let P : ℕ → Type 0 = λ z. lines (z ∷ bs) ≡ (z ∷ []) ∷ lines bs in subst P (sym e) refl

no_feed : (b : ℕ) (bs : List ℕ) → eqb b 10 ≡ false → lines (b ∷ bs) ≡ before_lines b (lines bs)
no_feed b bs e = rw e refl

-- None of the first k bytes is a line feed.
abbrev pub NoFeed : List ℕ → ℕ → Type 0
NoFeed bytes k = (j : ℕ) → j < k → eqb (get_or bytes j 0) 10 ≡ false

pub first_line : (bytes : List ℕ) (k : ℕ) → NoFeed bytes k → k < length bytes → get_or bytes k 0 ≡ 10 → lines bytes ≡ take (suc k) bytes ∷ lines (drop (suc k) bytes)
first_line [] k none lt feed = absurd (omega arith)
first_line (b ∷ bs) zero none lt feed = feed_first b bs feed
first_line (b ∷ bs) (suc k) none lt feed =
    no_feed b bs (none 0 (omega arith)) ∙ ap (before_lines b) (first_line bs k (λ j below. none (suc j) (omega arith)) (omega arith) feed)

pub only_line : (b : ℕ) (bs : List ℕ) → NoFeed (b ∷ bs) (length (b ∷ bs)) → lines (b ∷ bs) ≡ (b ∷ bs) ∷ []
only_line b [] none = no_feed b [] (none 0 (omega arith))
only_line b (c ∷ bs) none = no_feed b (c ∷ bs) (none 0 (omega arith)) ∙ ap (before_lines b) (only_line c bs (λ j below. none (suc j) (omega arith)))

pub last_line : (bytes : List ℕ) → 0 < length bytes → NoFeed bytes (length bytes) → lines bytes ≡ bytes ∷ lines []
last_line [] lt none = absurd (omega arith)
last_line (b ∷ bs) lt none = only_line b bs none

-- what a line and the rest are, where they were cut at a place
pub cut_first : (bytes line rest : List ℕ) (k : ℕ) → NoFeed bytes k → k < length bytes → get_or bytes k 0 ≡ 10 → line ≡ take (k + 1) bytes → rest ≡ drop (k + 1) bytes → lines bytes ≡ line ∷ lines rest
cut_first bytes line rest k none lt feed e f =
    let p : take (suc k) bytes ≡ line = ap (λ n. take n bytes) (sym (add-one k)) ∙ sym e in
    let q : drop (suc k) bytes ≡ rest = ap (λ n. drop n bytes) (sym (add-one k)) ∙ sym f in
    first_line bytes k none lt feed ∙ (λ i. p i ∷ lines (q i))

pub cut_last : (bytes line rest : List ℕ) (k : ℕ) → 0 < length bytes → NoFeed bytes k → length bytes ≤ k → line ≡ take (length bytes) bytes → rest ≡ drop (length bytes) bytes → lines bytes ≡ line ∷ lines rest
cut_last bytes line rest k lt none past e f =
    let p : bytes ≡ line = sym (take-length bytes) ∙ sym e in
    let q : [] ≡ rest = sym (drop-length bytes) ∙ sym f in
    last_line bytes lt (λ j below. none j (omega arith)) ∙ (λ i. p i ∷ lines (q i))

-- ---- lines joined

joined_before : (b : ℕ) (ls : List (List ℕ)) → flat_map (λ (l : List ℕ). l) (before_lines b ls) ≡ b ∷ flat_map (λ (l : List ℕ). l) ls
joined_before b [] = refl
joined_before b (l ∷ ls) = refl

joined_by : (b : ℕ) (bs : List ℕ) (t : Bool) → eqb b 10 ≡ t → flat_map (λ (l : List ℕ). l) (lines bs) ≡ bs → flat_map (λ (l : List ℕ). l) (lines (b ∷ bs)) ≡ b ∷ bs
joined_by b bs true e rest = ap (flat_map (λ (l : List ℕ). l)) (feed_first b bs (eqb-true b 10 e)) ∙ ap (λ (z : List ℕ). b ∷ z) rest
joined_by b bs false e rest = ap (flat_map (λ (l : List ℕ). l)) (no_feed b bs e) ∙ (joined_before b (lines bs) ∙ ap (λ (z : List ℕ). b ∷ z) rest)

pub joined : (bytes : List ℕ) → flat_map (λ (l : List ℕ). l) (lines bytes) ≡ bytes
joined [] = refl
joined (b ∷ bs) = joined_by b bs (eqb b 10) refl (joined bs)

-- ---- lines up to the mark

before_other : (line : List ℕ) (rest : List (List ℕ)) → is_mark line ≡ false → before_mark (line ∷ rest) ≡ line ++ before_mark rest
before_other line rest e = rw e refl

after_other : (line : List ℕ) (rest : List (List ℕ)) → is_mark line ≡ false → after_mark (line ∷ rest) ≡ after_mark rest
after_other line rest e = rw e refl

before_the_mark : (line : List ℕ) (rest : List (List ℕ)) → is_mark line ≡ true → before_mark (line ∷ rest) ≡ []
before_the_mark line rest e = rw e refl

after_the_mark : (line : List ℕ) (rest : List (List ℕ)) → is_mark line ≡ true → after_mark (line ∷ rest) ≡ flat_map (λ (l : List ℕ). l) rest
after_the_mark line rest e = rw e refl

-- The lines up to this place have no mark among them.
pub record PassedTo (input : List ℕ) (at : ℕ) : Type 0 where
  pub within : at ≤ length input
  pub before : before_mark (lines input) ≡ take at input ++ before_mark (lines (drop at input))
  pub after : after_mark (lines input) ≡ after_mark (lines (drop at input))

pub at_begin : (input : List ℕ) → PassedTo input 0
at_begin input = record { within = omega arith; before = refl; after = refl }

module _ (input : List ℕ) (at : ℕ) (passed : PassedTo input at) (line rest : List ℕ) (cut : lines (drop at input) ≡ line ∷ lines rest) (whole : drop at input ≡ line ++ rest) where
  pub at_mark : is_mark line ≡ true → (take at input ≡ before_mark (lines input)) × (rest ≡ after_mark (lines input))
  at_mark mark = (
    sym (append-nil (take at input)) ∙ sym (passed.before ∙ ap (λ (z : List ℕ). take at input ++ z) (ap before_mark cut ∙ before_the_mark line (lines rest) mark)),
    sym (passed.after ∙ (ap after_mark cut ∙ (after_the_mark line (lines rest) mark ∙ joined rest))),
  )

  -- the bytes up to the end of the line
  pub passed_line : (next : ℕ) → next ≤ length input → take next input ≡ take at input ++ line → drop next input ≡ rest → is_mark line ≡ false → PassedTo input next
  passed_line next few taken dropped other =
      let there : before_mark (lines (drop at input)) ≡ line ++ before_mark (lines (drop next input)) =
      ap before_mark cut ∙ (before_other line (lines rest) other ∙ ap (λ (z : List ℕ). line ++ before_mark (lines z)) (sym dropped)) in
      record {
        within = few;
        before = passed.before ∙ (ap (λ (z : List ℕ). take at input ++ z) there ∙ (sym (append_assoc (take at input) line (before_mark (lines (drop next input)))) ∙ ap (λ (z : List ℕ). z ++ before_mark (lines (drop next input))) (sym taken)));
        after = passed.after ∙ (ap after_mark cut ∙ (after_other line (lines rest) other ∙ ap (λ (z : List ℕ). after_mark (lines z)) (sym dropped)));
      }

-- ---- where a line ends

pub parted : (at : ℕ) (input line rest : List ℕ) → drop at input ≡ line ++ rest → at ≤ length input → (take (at + length line) input ≡ take at input ++ line) × (drop (at + length line) input ≡ rest)
parted at input line rest e within =
    let front = take at input ++ line in
    let whole : input ≡ front ++ rest = sym (take-append-drop at input) ∙ (ap (λ (z : List ℕ). take at input ++ z) e ∙ sym (append_assoc (take at input) line rest)) in
    let long : length front ≡ at + length line = omega (arith, length-append (take at input) line, length-take at input) in (
      subst (λ n. take n input ≡ front) long (ap (take (length front)) whole ∙ take-append_seam front rest),
      subst (λ n. drop n input ≡ rest) long (ap (drop (length front)) whole ∙ drop-append_seam front rest),
    )

pub passed_next : (input : List ℕ) (at : ℕ) (line rest : List ℕ) → PassedTo input at → lines (drop at input) ≡ line ∷ lines rest → drop at input ≡ line ++ rest → is_mark line ≡ false → PassedTo input (length input - length rest)
passed_next input at line rest passed cut whole other =
    let p = parted at input line rest whole passed.within in
    let size : length input - at ≡ length line + length rest = sym (length-drop at input) ∙ (ap length whole ∙ length-append line rest) in
    let within : at ≤ length input = passed.within in
    let next : at + length line ≡ length input - length rest = omega arith in
    subst (PassedTo input) next (passed_line input at passed line rest cut whole (at + length line) (omega arith) p.0 p.1 other)

pub whole_rest : (input : List ℕ) (at : ℕ) → take (length input - at) (drop at input) ≡ drop at input
whole_rest input at = ap (λ n. take n (drop at input)) (sym (length-drop at input)) ∙ take-length (drop at input)

-- ---- both parts together are no longer than the whole

part_short : (line : List ℕ) (ls : List (List ℕ)) (b : Bool) → is_mark line ≡ b → length (before_mark ls) + length (after_mark ls) ≤ length (flat_map (λ (l : List ℕ). l) ls)
    → length (before_mark (line ∷ ls)) + length (after_mark (line ∷ ls)) ≤ length (flat_map (λ (l : List ℕ). l) (line ∷ ls))
part_short line ls true e h =
    let whole : length (flat_map (λ (l : List ℕ). l) (line ∷ ls)) ≡ length line + length (flat_map (λ (l : List ℕ). l) ls) = length-append line (flat_map (λ (l : List ℕ). l) ls) in
    let before : length (before_mark (line ∷ ls)) ≡ 0 = ap length (before_the_mark line ls e) in
    let after : length (after_mark (line ∷ ls)) ≡ length (flat_map (λ (l : List ℕ). l) ls) = ap length (after_the_mark line ls e) in
    omega (arith, whole, before, after)
part_short line ls false e h =
    let whole : length (flat_map (λ (l : List ℕ). l) (line ∷ ls)) ≡ length line + length (flat_map (λ (l : List ℕ). l) ls) = length-append line (flat_map (λ (l : List ℕ). l) ls) in
    let before : length (before_mark (line ∷ ls)) ≡ length line + length (before_mark ls) = ap length (before_other line ls e) ∙ length-append line (before_mark ls) in
    let after : length (after_mark (line ∷ ls)) ≡ length (after_mark ls) = ap length (after_other line ls e) in
    omega (arith, h, whole, before, after)

parts_short : (ls : List (List ℕ)) → length (before_mark ls) + length (after_mark ls) ≤ length (flat_map (λ (l : List ℕ). l) ls)
parts_short [] = omega arith
parts_short (line ∷ ls) = part_short line ls (is_mark line) refl (parts_short ls)

pub parts_within : (input : List ℕ) → length (problem_bytes input) + length (answer_bytes input) ≤ length input
parts_within input =
    let short : length (problem_bytes input) + length (answer_bytes input) ≤ length (flat_map (λ (l : List ℕ). l) (lines input)) = parts_short (lines input) in
    let whole : length (flat_map (λ (l : List ℕ). l) (lines input)) ≡ length input = ap length (joined input) in
    omega (arith, short, whole)
