-- Bytes are cut into tokens in one way.
use Rattle.std.proofs.Common.{◌≡◌, ◌≢◌, ◌<◌, ℕ, ◌+◌, Bool, true, false, List, [], ◌∷◌, ◌++◌, length, refl, sym, ap, subst, ◌∙◌, inl, inr, arith}
use Rattle.std.proofs.lemmas.List.{length-append}
use Rattle.std.specs.Prelude.{◌⊎◌, if◌then◌else◌}
use Rattle.std.specs.List.{list_all}
use Rattle.me_terms.specs.Labels.{is_digit}
use Rattle.tptp_tokens.specs.Bytes.{is_blank, is_lower_letter, is_upper_letter}
use Rattle.tptp_tokens.specs.Gaps.{GapPiece, Blank, Line, LastLine, Block, IsOneLine, IsFirstEnd, IsPiece, Skips, IsGap}
use Rattle.tptp_tokens.specs.Leads.{lead_of, sign_kind}
use Rattle.tptp_tokens.specs.Numbers.{IsNumber, IsDigits}
use Rattle.tptp_tokens.specs.Quoted.{escaped}
use Rattle.tptp_tokens.specs.Remainders.{Remainder}
use Rattle.tptp_tokens.specs.Tokens.{TokenValue, PlacedToken, IsText, IsToken, written_as, written, IsLongest, IsFirstAs, IsFirst, IsBad, OpensComment, BeginsNone, IsNextToken, IsCutFrom}
use Rattle.tptp_tokens.specs.declared.lead.Lead.{Lead}
use Rattle.tptp_tokens.specs.declared.lead.Lead.TheVariants.{LowerLetter, UpperLetter, Dollar, SingleQuote, DoubleQuote, Numeric, Exclamation, Other}
use Rattle.tptp_tokens.specs.declared.token.TokenKind.{TokenKind}
use Rattle.tptp_tokens.specs.declared.token.TokenKind.TheVariants as kinds
use Rattle.tptp_tokens.proofs.Runs.{heads, differ, word_parts}
use Rattle.tptp_tokens.proofs.Quotes.{one_text}
use Rattle.tptp_tokens.proofs.Leads.{led, other_signs, lower_lead, upper_lead, digit_lead, NumberLed, number_led}

-- ---- one gap

same_length : (x y r s : List ℕ) → x ++ r ≡ y ++ s → length x ≡ length y → (x ≡ y) × (r ≡ s)
same_length [] [] r s e n = (refl, e)
same_length [] (c ∷ y) r s e n = absurd (omega arith)
same_length (b ∷ x) [] r s e n = absurd (omega arith)
same_length (b ∷ x) (c ∷ y) r s e n =
    let h = heads b c (x ++ r) (y ++ s) e in
    let k = same_length x y r s h.1 (omega arith) in
    (ap (λ (z : ℕ). z ∷ x) h.0 ∙ ap (λ (z : List ℕ). c ∷ z) k.0, k.1)

one_line : (t u r s : List ℕ) → IsOneLine t → IsOneLine u → t ++ 10 ∷ r ≡ u ++ 10 ∷ s → r ≡ s
one_line [] [] r s h k e = (heads 10 10 r s e).1
one_line [] (c ∷ u) r s h k e = absurd (k.0 (sym (heads 10 c r (u ++ 10 ∷ s) e).0))
one_line (b ∷ t) [] r s h k e = absurd (h.0 (heads b 10 (t ++ 10 ∷ r) s e).0)
one_line (b ∷ t) (c ∷ u) r s h k e = one_line t u r s h.1 k.1 (heads b c (t ++ 10 ∷ r) (u ++ 10 ∷ s) e).1

no_line : (t u r : List ℕ) → IsOneLine u → t ++ 10 ∷ r ≡ u → ⊥
no_line [] [] r k e = cc
no_line [] (c ∷ u) r k e = k.0 (sym (heads 10 c r u e).0)
no_line (b ∷ t) [] r k e = cc
no_line (b ∷ t) (c ∷ u) r k e = no_line t u r k.1 (heads b c (t ++ 10 ∷ r) u e).1

one_end : (bytes t u r s : List ℕ) → IsFirstEnd t bytes r → IsFirstEnd u bytes s → r ≡ s
one_end bytes t u r s h k =
    let le = h.first u s k.here in let ge = k.first t r h.here in
    let same = (same_length t u (42 ∷ 47 ∷ r) (42 ∷ 47 ∷ s) (sym h.here ∙ k.here) (omega arith)).1 in
    (heads 47 47 r s (heads 42 42 (47 ∷ r) (47 ∷ s) same).1).1

blank_not : (b n : ℕ) (x y bytes : List ℕ) → is_blank n ≡ false → bytes ≡ b ∷ x → is_blank b ≡ true → bytes ≡ n ∷ y → ⊥
blank_not b n x y bytes f e h g = differ is_blank b n (heads b n x y (sym e ∙ g)).0 h f

not_both : (x y bytes : List ℕ) → bytes ≡ 37 ∷ x → bytes ≡ 47 ∷ y → ⊥
not_both x y bytes e g = let k : ◌≡◌ {A = ℕ} 37 47 = (heads 37 47 x y (sym e ∙ g)).0 in absurd (omega arith)

one_piece : (p q : GapPiece) (bytes r s : List ℕ) → IsPiece p bytes r → IsPiece q bytes s → r ≡ s
one_piece (Blank b) (Blank c) bytes r s h k = (heads b c r s (sym h.0 ∙ k.0)).1
one_piece (Blank b) (Line u) bytes r s h k = absurd (blank_not b 37 r (u ++ 10 ∷ s) bytes refl h.0 h.1 k.0)
one_piece (Blank b) (LastLine u) bytes r s h k = absurd (blank_not b 37 r u bytes refl h.0 h.1 k.0)
one_piece (Blank b) (Block u) bytes r s h k = absurd (blank_not b 47 r (42 ∷ k.0) bytes refl h.0 h.1 k.1)
one_piece (Line t) (Blank c) bytes r s h k = absurd (blank_not c 37 s (t ++ 10 ∷ r) bytes refl k.0 k.1 h.0)
one_piece (Line t) (Line u) bytes r s h k = one_line t u r s h.1 k.1 (heads 37 37 (t ++ 10 ∷ r) (u ++ 10 ∷ s) (sym h.0 ∙ k.0)).1
one_piece (Line t) (LastLine u) bytes r s h k = absurd (no_line t u r k.1 (heads 37 37 (t ++ 10 ∷ r) u (sym h.0 ∙ k.0)).1)
one_piece (Line t) (Block u) bytes r s h k = absurd (not_both (t ++ 10 ∷ r) (42 ∷ k.0) bytes h.0 k.1)
one_piece (LastLine t) (Blank c) bytes r s h k = absurd (blank_not c 37 s t bytes refl k.0 k.1 h.0)
one_piece (LastLine t) (Line u) bytes r s h k = absurd (no_line u t s h.1 (heads 37 37 (u ++ 10 ∷ s) t (sym k.0 ∙ h.0)).1)
one_piece (LastLine t) (LastLine u) bytes r s h k = h.2 ∙ sym k.2
one_piece (LastLine t) (Block u) bytes r s h k = absurd (not_both t (42 ∷ k.0) bytes h.0 k.1)
one_piece (Block t) (Blank c) bytes r s h k = absurd (blank_not c 47 s (42 ∷ h.0) bytes refl k.0 k.1 h.1)
one_piece (Block t) (Line u) bytes r s h k = absurd (not_both (u ++ 10 ∷ s) (42 ∷ h.0) bytes k.0 h.1)
one_piece (Block t) (LastLine u) bytes r s h k = absurd (not_both u (42 ∷ h.0) bytes k.0 h.1)
one_piece (Block t) (Block u) bytes r s h k =
    let same = (heads 42 42 h.0 k.0 (heads 47 47 (42 ∷ h.0) (42 ∷ k.0) (sym h.1 ∙ k.1)).1).1 in
    one_end k.0 t u r s (subst (λ (x : List ℕ). IsFirstEnd t x r) same h.2) k.2

one_skip : (ps qs : List GapPiece) (bytes r s : List ℕ) → Skips ps bytes r → Skips qs bytes s → r ≡ s
one_skip [] [] bytes r s h k = h.0 ∙ sym k.0
one_skip [] (q ∷ qs) bytes r s h k = absurd (h.1 q k.0 k.1)
one_skip (p ∷ ps) [] bytes r s h k = absurd (k.1 p h.0 h.1)
one_skip (p ∷ ps) (q ∷ qs) bytes r s h k =
    one_skip ps qs k.0 r s (subst (λ (x : List ℕ). Skips ps x r) (one_piece p q bytes h.0 k.0 h.1 k.1) h.2) k.2

pub one_gap : (bytes r s : List ℕ) → IsGap bytes r → IsGap bytes s → r ≡ s
one_gap bytes r s h k = one_skip h.0 k.0 bytes r s h.1 k.1

-- ---- one kind of the same bytes

abbrev shorter_kind : List ℕ → TokenKind
shorter_kind [] = kinds.OtherSign
shorter_kind (c ∷ w) = kinds.Number

abbrev exclaimed : List ℕ → TokenKind
exclaimed [] = kinds.OtherSign
exclaimed (c ∷ w) = kinds.NotEqual

abbrev kind_in : Lead → ℕ → List ℕ → TokenKind
kind_in LowerLetter b w = kinds.LowerWord
kind_in UpperLetter b w = kinds.Variable
kind_in Dollar b w = kinds.DollarWord
kind_in SingleQuote b w = kinds.SingleQuoted
kind_in DoubleQuote b w = kinds.Distinct
kind_in Numeric b w = if list_all is_digit (b ∷ w) then kinds.Digits else shorter_kind w
kind_in Exclamation b w = exclaimed w
kind_in Other b w = sign_kind b

abbrev kind_at : List ℕ → TokenKind
kind_at [] = kinds.Bad
kind_at (b ∷ w) = kind_in (lead_of b) b w

dollar_kind : (text word : List ℕ) → (text ≡ 36 ∷ word) ⊎ (text ≡ 36 ∷ 36 ∷ word) → kind_at text ≡ kinds.DollarWord
dollar_kind text word (inl e) = ap kind_at e
dollar_kind text word (inr e) = ap kind_at e

digits_kind : (text : List ℕ) → IsDigits text → kind_at text ≡ kinds.Digits
digits_kind [] h = absurd (h.0 refl)
digits_kind (b ∷ w) h =
    let d : is_digit b ≡ true = go (is_digit b) (list_all is_digit w) refl h.1 in
    let l : lead_of b ≡ Numeric = digit_lead b d in
    ap (λ (x : Lead). kind_in x b w) l ∙ ap (λ (v : Bool). if v then kinds.Digits else shorter_kind w) h.1
  where
    go : (v u : Bool) → is_digit b ≡ v → list_all is_digit (b ∷ w) ≡ true → is_digit b ≡ true
    go true u e k = e
    go false u e k = let z : list_all is_digit (b ∷ w) ≡ false = rw e refl in absurd cc

-- a number of one byte is a digit
one_digit : (b : ℕ) → IsNumber (b ∷ []) → IsDigits (b ∷ [])
one_digit b k =
    let n : 1 ≡ length k.0 + (length k.1 + length k.2) = ap length k.3 ∙ length-append k.0 (k.1 ++ k.2) ∙ ap (λ (x : ℕ). length k.0 + x) (length-append k.1 k.2) in
    go k.0 k.1 k.2 n k.3 k.5
  where
    go : (s ds t : List ℕ) → 1 ≡ length s + (length ds + length t) → b ∷ [] ≡ s ++ (ds ++ t) → IsDigits ds → IsDigits (b ∷ [])
    go s [] t n e d = absurd (d.0 refl)
    go [] (c ∷ []) [] n e d = subst IsDigits (sym e) d
    go [] (c ∷ []) (z ∷ t) n e d = absurd (omega arith)
    go [] (c ∷ f ∷ ds) t n e d = absurd (omega arith)
    go (z ∷ s) (c ∷ ds) t n e d = absurd (omega arith)

number_kind : (text : List ℕ) → IsNumber text → (IsDigits text → ⊥) → kind_at text ≡ kinds.Number
number_kind text h n = let x = number_led text h in go x (list_all is_digit (x.byte ∷ x.tail)) refl
  where
    tail : (x : NumberLed text) (w : List ℕ) → x.tail ≡ w → shorter_kind w ≡ kinds.Number
    tail x [] e =
        let same : text ≡ x.byte ∷ [] = x.is ∙ ap (λ (z : List ℕ). x.byte ∷ z) e in
        absurd (n (subst IsDigits (sym same) (one_digit x.byte (subst IsNumber same h))))
    tail x (c ∷ w) e = refl

    go : (x : NumberLed text) (v : Bool) → list_all is_digit (x.byte ∷ x.tail) ≡ v → kind_at text ≡ kinds.Number
    go x true e = absurd (n (subst IsDigits (sym x.is) ((λ z. cc), e)))
    go x false e =
        ap kind_at x.is ∙ ap (λ (l : Lead). kind_in l x.byte x.tail) x.lead ∙ ap (λ (v : Bool). if v then kinds.Digits else shorter_kind x.tail) e ∙ tail x x.tail refl

kind_is : (kind : TokenKind) (text : List ℕ) → IsText kind text → kind_at (written_as kind text) ≡ kind
kind_is kinds.LowerWord [] h = absurd cc
kind_is kinds.LowerWord (b ∷ w) h = ap (λ (l : Lead). kind_in l b w) (lower_lead b (word_parts is_lower_letter b w h).0)
kind_is kinds.Variable [] h = absurd cc
kind_is kinds.Variable (b ∷ w) h = ap (λ (l : Lead). kind_in l b w) (upper_lead b (word_parts is_upper_letter b w h).0)
kind_is kinds.DollarWord text h = dollar_kind text h.0 h.1
kind_is kinds.SingleQuoted text h = refl
kind_is kinds.Distinct text h = refl
kind_is kinds.Digits text h = digits_kind text h
kind_is kinds.Number text h = number_kind text h.0 h.1
kind_is kinds.OpenRound text h = ap kind_at h
kind_is kinds.CloseRound text h = ap kind_at h
kind_is kinds.OpenSquare text h = ap kind_at h
kind_is kinds.CloseSquare text h = ap kind_at h
kind_is kinds.Comma text h = ap kind_at h
kind_is kinds.Dot text h = ap kind_at h
kind_is kinds.Bar text h = ap kind_at h
kind_is kinds.Tilde text h = ap kind_at h
kind_is kinds.Equal text h = ap kind_at h
kind_is kinds.NotEqual text h = ap kind_at h
kind_is kinds.OtherSign text h =
    ap kind_at h.1 ∙ other_signs (λ b. kind_at (b ∷ []) ≡ kinds.OtherSign) refl refl refl refl refl refl refl refl refl refl refl refl refl refl refl refl refl h.0 h.2
kind_is kinds.Bad text h = absurd h

-- ---- one token of the same bytes

quoted_text : (q : ℕ) (x y : List ℕ) → q ≢ 92 → q ∷ (escaped q x ++ q ∷ []) ≡ q ∷ (escaped q y ++ q ∷ []) → x ≡ y
quoted_text q x y n e = (one_text q x y [] [] n (heads q q (escaped q x ++ q ∷ []) (escaped q y ++ q ∷ []) e).1).0

text_of : (kind : TokenKind) (x y : List ℕ) → written_as kind x ≡ written_as kind y → x ≡ y
text_of kinds.SingleQuoted x y e = quoted_text 39 x y (λ z. absurd (omega arith)) e
text_of kinds.Distinct x y e = quoted_text 34 x y (λ z. absurd (omega arith)) e
text_of kind x y e = e

abbrev token : TokenKind → List ℕ → TokenValue
token kind text = record { kind = kind; text = text }

one_token : (t u : TokenValue) → IsToken t → IsToken u → written t ≡ written u → t ≡ u
one_token t u h k e =
    let same : t.kind ≡ u.kind = sym (kind_is t.kind t.text h) ∙ ap kind_at e ∙ kind_is u.kind u.text k in
    let texts : t.text ≡ u.text = text_of u.kind t.text u.text (ap (λ (x : TokenKind). written_as x t.text) (sym same) ∙ e) in
    ap (λ (x : TokenKind). token x t.text) same ∙ ap (λ (x : List ℕ). token u.kind x) texts

-- ---- one first token

pub record BadFirst (kind : TokenKind) (text bytes rest : List ℕ) : Type 0 where
  pub is : kind ≡ kinds.Bad
  pub bad : IsBad bytes
  pub all : text ≡ bytes
  pub none : rest ≡ []

pub record GoodFirst (kind : TokenKind) (text bytes rest : List ℕ) : Type 0 where
  pub longest : IsLongest (record { kind = kind; text = text }) bytes rest
  pub no_comment : OpensComment bytes → ⊥

pub first_view : (kind : TokenKind) (text bytes rest : List ℕ) → IsFirstAs kind text bytes rest → BadFirst kind text bytes rest ⊎ GoodFirst kind text bytes rest
first_view kinds.Bad text bytes rest h = inl (record { is = refl; bad = h.0; all = h.1; none = h.2 })
first_view kind text bytes rest h = inr (record { longest = h.0; no_comment = h.1 })

good_not_bad : (t : TokenValue) (bytes r : List ℕ) → GoodFirst t.kind t.text bytes r → IsBad bytes → ⊥
good_not_bad t bytes r g b = go b.cause
  where
    go : (OpensComment bytes ⊎ BeginsNone bytes) → ⊥
    go (inl c) = g.no_comment c
    go (inr n) = n t r g.longest.lawful g.longest.parts

one_first : (t u : TokenValue) (bytes r s : List ℕ) → IsFirst t bytes r → IsFirst u bytes s → (t ≡ u) × (r ≡ s)
one_first t u bytes r s h k = go (first_view t.kind t.text bytes r h) (first_view u.kind u.text bytes s k)
  where
    go : (BadFirst t.kind t.text bytes r ⊎ GoodFirst t.kind t.text bytes r) → (BadFirst u.kind u.text bytes s ⊎ GoodFirst u.kind u.text bytes s) → (t ≡ u) × (r ≡ s)
    go (inl a) (inl b) = (ap (λ (x : TokenKind). token x t.text) (a.is ∙ sym b.is) ∙ ap (λ (x : List ℕ). token u.kind x) (a.all ∙ sym b.all), a.none ∙ sym b.none)
    go (inl a) (inr b) = absurd (good_not_bad u bytes s b a.bad)
    go (inr a) (inl b) = absurd (good_not_bad t bytes r a b.bad)
    go (inr a) (inr b) =
        let le = a.longest.longest u s b.longest.lawful b.longest.parts in
        let ge = b.longest.longest t r a.longest.lawful a.longest.parts in
        let same = same_length (written t) (written u) r s (sym a.longest.parts ∙ b.longest.parts) (omega arith) in
        (one_token t u a.longest.lawful b.longest.lawful same.0, same.1)

-- a token takes at least one byte
pub first_takes : (t : TokenValue) (bytes r : List ℕ) → IsFirst t bytes r → length r < length bytes
first_takes t bytes r h = go (first_view t.kind t.text bytes r h)
  where
    some : (x : List ℕ) → x ≢ [] → 0 < length x
    some [] n = absurd (n refl)
    some (b ∷ x) n = omega arith

    go : (BadFirst t.kind t.text bytes r ⊎ GoodFirst t.kind t.text bytes r) → length r < length bytes
    go (inl a) = omega (arith, ap length a.none, some bytes a.bad.some)
    go (inr a) = let x = led t.kind t.text a.longest.lawful in omega (arith, ap length a.longest.parts, length-append (written t) r, ap length x.is)

-- ---- one cut

pub record SameNext (p q : PlacedToken) (l m : Remainder) : Type 0 where
  pub token : p ≡ q
  pub left : l ≡ m

abbrev placed : ℕ → TokenValue → PlacedToken
placed at t = record { at = at; token = t }

abbrev remainder : ℕ → List ℕ → Remainder
remainder at bytes = record { at = at; bytes = bytes }

pub one_next : (now : Remainder) (p q : PlacedToken) (l m : Remainder) → IsNextToken now p l → IsNextToken now q m → SameNext p q l m
one_next now p q l m h k =
    let middle : h.middle ≡ k.middle = one_gap now.bytes h.middle k.middle h.gap k.gap in
    let first = one_first p.token q.token k.middle l.bytes m.bytes (subst (λ (x : List ℕ). IsFirst p.token x l.bytes) middle h.first) k.first in
    let at : p.at ≡ q.at = omega (arith, h.place, k.place, ap length middle) in
    let end : l.at ≡ m.at = omega (arith, h.end, k.end, ap length first.1) in
    record {
      token = ap (λ (x : ℕ). placed x p.token) at ∙ ap (λ (x : TokenValue). placed q.at x) first.0;
      left = ap (λ (x : ℕ). remainder x l.bytes) end ∙ ap (λ (x : List ℕ). remainder m.at x) first.1;
    }

none_left : (now : Remainder) (p : PlacedToken) (l : Remainder) → IsGap now.bytes [] → IsNextToken now p l → ⊥
none_left now p l g h = let e = one_gap now.bytes [] h.middle g h.gap in let lt = first_takes p.token h.middle l.bytes h.first in absurd (omega (arith, ap length e))

pub one_cut_from : (now : Remainder) (ts us : List PlacedToken) → IsCutFrom now ts → IsCutFrom now us → ts ≡ us
one_cut_from now [] [] h k = refl
one_cut_from now [] (u ∷ us) h k = absurd (none_left now u k.0 h k.1)
one_cut_from now (t ∷ ts) [] h k = absurd (none_left now t h.0 k h.1)
one_cut_from now (t ∷ ts) (u ∷ us) h k =
    let n = one_next now t u h.0 k.0 h.1 k.1 in
    ap (λ (x : PlacedToken). x ∷ ts) n.token ∙ ap (λ (x : List PlacedToken). u ∷ x) (one_cut_from k.0 ts us (subst (λ (x : Remainder). IsCutFrom x ts) n.left h.2) k.2)
