-- Lines, comments and gaps.
use Rattle.std.proofs.Common.{◌≡◌, ◌≢◌, ◌≤◌, ℕ, true, List, [], ◌∷◌, ◌++◌, length, refl, sym, ap, ◌∙◌, append_assoc, arith}
use Rattle.std.proofs.lemmas.List.{append-nil, length-append}
use Rattle.std.specs.Prelude.{Option, Some, None, IfSome}
use denote.Ref.{Bor}
use Rattle.tptp_tokens.specs.Bytes.{is_blank}
use Rattle.tptp_tokens.specs.Gaps.{GapPiece, Blank, Line, LastLine, Block, IsOneLine, IsFirstEnd, IsPiece, Skips}
use Rattle.tptp_tokens.specs.Founds.{EndsLine}

one_more : (bytes front : List ℕ) (b : ℕ) (after : List ℕ) → bytes ≡ front ++ b ∷ after → bytes ≡ (front ++ b ∷ []) ++ after
one_more bytes front b after e = e ∙ sym (append_assoc front (b ∷ []) after)

line_more : (text : List ℕ) (b : ℕ) → IsOneLine text → b ≢ 10 → IsOneLine (text ++ b ∷ [])
line_more [] b h k = (k, tt)
line_more (c ∷ text) b h k = (h.0, line_more text b h.1 k)

line_ends : (bytes text : List ℕ) (b : ℕ) (after : List ℕ) → IsOneLine text → bytes ≡ text ++ b ∷ after → b ≡ 10 → EndsLine bytes after
line_ends bytes text b after h e n = (Line text, (ap (λ (x : List ℕ). 37 ∷ x) (e ∙ ap (λ (c : ℕ). text ++ c ∷ after) n), h))

file_ends : (bytes text rest : List ℕ) → IsOneLine text → bytes ≡ text ++ rest → rest ≡ [] → EndsLine bytes rest
file_ends bytes text rest h e n = (LastLine text, (ap (λ (x : List ℕ). 37 ∷ x) (e ∙ ap (λ (x : List ℕ). text ++ x) n ∙ append-nil text), h, n))

-- no end begins at this byte, so each begins behind it
first_more : (bytes front : List ℕ) (b : ℕ) (after : List ℕ) → bytes ≡ front ++ b ∷ after → ((end : List ℕ) → b ∷ after ≡ 42 ∷ 47 ∷ end → ⊥)
    → ((text end : List ℕ) → bytes ≡ text ++ 42 ∷ 47 ∷ end → length front ≤ length text) → (text end : List ℕ) → bytes ≡ text ++ 42 ∷ 47 ∷ end → length (front ++ b ∷ []) ≤ length text
first_more bytes front b after e none least text end f = go front text (sym e ∙ f) (least text end f)
  where
    go : (p q : List ℕ) → p ++ b ∷ after ≡ q ++ 42 ∷ 47 ∷ end → length p ≤ length q → length (p ++ b ∷ []) ≤ length q
    go [] [] h le = absurd (none end h)
    go [] (c ∷ q) h le = omega arith
    go (a ∷ p) [] h le = absurd (omega arith)
    go (a ∷ p) (c ∷ q) h le = let k : p ++ b ∷ after ≡ q ++ 42 ∷ 47 ∷ end = cc in let r = go p q k (omega arith) in omega arith

-- the end that is found is the first
found : (bytes front end : List ℕ) → bytes ≡ front ++ 42 ∷ 47 ∷ end → ((text after : List ℕ) → bytes ≡ text ++ 42 ∷ 47 ∷ after → length front ≤ length text) → (text : List ℕ) × IsFirstEnd text bytes end
found bytes front end e least = (front, record { here = e; first = least })

-- none is found up to the end
none_found : (bytes front : List ℕ) → bytes ≡ front ++ [] → ((text after : List ℕ) → bytes ≡ text ++ 42 ∷ 47 ∷ after → length front ≤ length text) → (text rest : List ℕ) → bytes ≡ text ++ 42 ∷ 47 ∷ rest → ⊥
none_found bytes front e least text rest f =
    omega (arith, least text rest f, ap length f, ap length e, length-append front [], length-append text (42 ∷ 47 ∷ rest))

-- ---- the pieces that a loop has skipped

pub record GapSoFar (bytes rest : List ℕ) : Type 0 where
  pub joins : (pieces : List GapPiece) (end : List ℕ) → Skips pieces rest end → (all : List GapPiece) × Skips all bytes end
  pub within : length rest ≤ length bytes

-- a piece more in front
pub gap_goes_on : (bytes rest after : List ℕ) → GapSoFar bytes rest → (piece : GapPiece) × IsPiece piece rest after → length after ≤ length rest → GapSoFar bytes after
gap_goes_on bytes rest after g p le = record {
  joins = λ pieces end s. g.joins (p.0 ∷ pieces) end (after, p.1, s);
  within = omega (arith, g.within);
}

-- ---- lines

pub record LineSoFar (bytes rest : List ℕ) : Type 0 where
  pub front : List ℕ
  pub one : IsOneLine front
  pub text : bytes ≡ front ++ rest
  pub within : length rest ≤ length bytes

pub line_begins : (bytes : List ℕ) → LineSoFar bytes bytes
line_begins bytes = record { front = []; one = tt; text = refl; within = omega arith }

pub line_goes_on : (bytes rest : List ℕ) (b : ℕ) (after : List ℕ) → LineSoFar bytes rest → rest ≡ b ∷ after → b ≢ 10 → LineSoFar bytes after
line_goes_on bytes rest b after l e n = record {
  front = l.front ++ b ∷ [];
  one = line_more l.front b l.one n;
  text = one_more bytes l.front b after (l.text ∙ ap (λ (x : List ℕ). l.front ++ x) e);
  within = omega (arith, l.within, ap length e);
}

pub line_is_ended : (bytes rest : List ℕ) (b : ℕ) (after : List ℕ) → LineSoFar bytes rest → rest ≡ b ∷ after → b ≡ 10 → EndsLine bytes after
line_is_ended bytes rest b after l e n = line_ends bytes l.front b after l.one (l.text ∙ ap (λ (x : List ℕ). l.front ++ x) e) n

pub line_is_last : (bytes rest : List ℕ) → LineSoFar bytes rest → rest ≡ [] → EndsLine bytes rest
line_is_last bytes rest l e = file_ends bytes l.front rest l.one l.text e

-- ---- comments

pub record BlockSoFar (bytes rest : List ℕ) : Type 0 where
  pub front : List ℕ
  pub text : bytes ≡ front ++ rest
  pub within : length rest ≤ length bytes
  pub least : (other after : List ℕ) → bytes ≡ other ++ 42 ∷ 47 ∷ after → length front ≤ length other

pub block_begins : (bytes : List ℕ) → BlockSoFar bytes bytes
block_begins bytes = record { front = []; text = refl; within = omega arith; least = λ other after e. omega arith }

pub block_goes_on : (bytes rest : List ℕ) (b : ℕ) (after : List ℕ) → BlockSoFar bytes rest → rest ≡ b ∷ after → ((end : List ℕ) → rest ≡ 42 ∷ 47 ∷ end → ⊥) → BlockSoFar bytes after
block_goes_on bytes rest b after l e none =
    let whole : bytes ≡ l.front ++ b ∷ after = l.text ∙ ap (λ (x : List ℕ). l.front ++ x) e in
    record {
      front = l.front ++ b ∷ [];
      text = one_more bytes l.front b after whole;
      within = omega (arith, l.within, ap length e);
      least = first_more bytes l.front b after whole (λ end h. none end (e ∙ h)) l.least;
    }

pub block_is_ended : (bytes rest end : List ℕ) → BlockSoFar bytes rest → rest ≡ 42 ∷ 47 ∷ end → (text : List ℕ) × IsFirstEnd text bytes end
block_is_ended bytes rest end l e = found bytes l.front end (l.text ∙ ap (λ (x : List ℕ). l.front ++ x) e) l.least

pub block_has_no_end : (bytes rest : List ℕ) → BlockSoFar bytes rest → rest ≡ [] → (text after : List ℕ) → bytes ≡ text ++ 42 ∷ 47 ∷ after → ⊥
block_has_no_end bytes rest l e = none_found bytes l.front (l.text ∙ ap (λ (x : List ℕ). l.front ++ x) e) l.least

pub blank_piece : (bytes : List ℕ) (b : ℕ) (after : List ℕ) → bytes ≡ b ∷ after → is_blank b ≡ true → (piece : GapPiece) × IsPiece piece bytes after
blank_piece bytes b after e h = (Blank b, (e, h))

pub block_piece : (bytes inside : List ℕ) (r : Option (Bor (List ℕ))) → bytes ≡ 47 ∷ 42 ∷ inside → IfSome r (λ rest. (text : List ℕ) × IsFirstEnd text inside rest.now) → IfSome r (λ rest. (piece : GapPiece) × IsPiece piece bytes rest.now)
block_piece bytes inside None e h = tt
block_piece bytes inside (Some r) e h = (Block h.0, (inside, e, h.1))
