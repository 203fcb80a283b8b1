-- No token has a line feed in it, and none begins as a gap does.
use Rattle.std.proofs.Common.{◌≡◌, ◌≢◌, ◌⊎◌, inl, inr, ℕ, Bool, true, false, List, [], ◌∷◌, ◌++◌, refl, sym, ap, subst, ◌∙◌, true≢false, arith}
use Rattle.std.proofs.lemmas.Bool.Decides.{nat_tests}
use Rattle.std.specs.Prelude.{◌==◌, ◌||◌, ◌&&◌}
use Rattle.std.specs.List.{list_all}
use Rattle.me_terms.specs.Labels.{is_digit, is_printable}
use Rattle.tptp_tokens.specs.Bytes.{is_blank, is_lower_letter, is_upper_letter, is_word_byte, is_other_sign}
use Rattle.tptp_tokens.specs.Gaps.{GapPiece, Blank, Line, LastLine, Block, IsOneLine, IsPiece}
use Rattle.tptp_tokens.specs.Numbers.{IsDigits, IsSign, IsDigitsBehind, IsFraction, IsPower, IsExponent, IsTail, IsNumber}
use Rattle.tptp_tokens.specs.Quoted.{is_escaped, escaped_if, escaped}
use Rattle.tptp_tokens.specs.Tokens.{TokenValue, IsText, IsToken, written_as, written, OpensComment}
use Rattle.tptp_tokens.specs.declared.token.TokenKind.{TokenKind}
use Rattle.tptp_tokens.specs.declared.token.TokenKind.TheVariants as kinds
use Rattle.tptp_tokens.proofs.Leads.{other_signs}

and_true : (a b : Bool) → (a && b) ≡ true → (a ≡ true) × (b ≡ true)
and_true true true e = (refl, refl)
and_true true false e = absurd cc
and_true false b e = absurd cc

-- ---- no line feed

-- a byte that passes a test that a line feed fails
not_feed : (p : ℕ → Bool) → p 10 ≡ false → (b : ℕ) → p b ≡ true → b ≢ 10
not_feed p n b h e = true≢false (sym h ∙ ap p e ∙ n)

all_one_line : (p : ℕ → Bool) → p 10 ≡ false → (text : List ℕ) → list_all p text ≡ true → IsOneLine text
all_one_line p n [] h = tt
all_one_line p n (b ∷ bs) h = let k = and_true (p b) (list_all p bs) h in (not_feed p n b k.0, all_one_line p n bs k.1)

join : (xs ys : List ℕ) → IsOneLine xs → IsOneLine ys → IsOneLine (xs ++ ys)
join [] ys h k = k
join (x ∷ xs) ys h k = (h.0, join xs ys h.1 k)

one : (n : ℕ) (text : List ℕ) → n ≢ 10 → text ≡ n ∷ [] → IsOneLine text
one n text h e = subst IsOneLine (sym e) (h, tt)

escaped_one_line : (quote : ℕ) (text : List ℕ) → list_all is_printable text ≡ true → IsOneLine (escaped quote text)
escaped_one_line quote [] h = tt
escaped_one_line quote (b ∷ bs) h =
    let k = and_true (is_printable b) (list_all is_printable bs) h in
    join (escaped_if (is_escaped quote b) b) (escaped quote bs) (by (is_escaped quote b) (not_feed is_printable refl b k.0)) (escaped_one_line quote bs k.1)
  where
    by : (f : Bool) → b ≢ 10 → IsOneLine (escaped_if f b)
    by true n = (λ e. omega (arith, e), (n, tt))
    by false n = (n, tt)

quoted_one_line : (quote : ℕ) (text : List ℕ) → quote ≢ 10 → list_all is_printable text ≡ true → IsOneLine (quote ∷ (escaped quote text ++ quote ∷ []))
quoted_one_line quote text n h = (n, join (escaped quote text) (quote ∷ []) (escaped_one_line quote text h) (n, tt))

digits_one_line : (text : List ℕ) → IsDigits text → IsOneLine text
digits_one_line text h = all_one_line is_digit refl text h.1

sign_one_line : (text : List ℕ) → IsSign text → IsOneLine text
sign_one_line text (inl e) = subst IsOneLine (sym e) tt
sign_one_line text (inr (inl e)) = one 43 text (λ k. omega (arith, k)) e
sign_one_line text (inr (inr e)) = one 45 text (λ k. omega (arith, k)) e

behind_one_line : (mark : ℕ) (text : List ℕ) → mark ≢ 10 → IsDigitsBehind mark text → IsOneLine text
behind_one_line mark text n h = subst IsOneLine (sym h.1) (n, digits_one_line h.0 h.2)

fraction_one_line : (text : List ℕ) → IsFraction text → IsOneLine text
fraction_one_line text (inl e) = subst IsOneLine (sym e) tt
fraction_one_line text (inr h) = behind_one_line 46 text (λ k. omega (arith, k)) h

power_one_line : (mark : ℕ) (text : List ℕ) → mark ≢ 10 → IsPower mark text → IsOneLine text
power_one_line mark text n h = subst IsOneLine (sym h.2) (n, join h.0 h.1 (sign_one_line h.0 h.3) (digits_one_line h.1 h.4))

exponent_one_line : (text : List ℕ) → IsExponent text → IsOneLine text
exponent_one_line text (inl e) = subst IsOneLine (sym e) tt
exponent_one_line text (inr (inl h)) = power_one_line 101 text (λ k. omega (arith, k)) h
exponent_one_line text (inr (inr h)) = power_one_line 69 text (λ k. omega (arith, k)) h

tail_one_line : (text : List ℕ) → IsTail text → IsOneLine text
tail_one_line text (inl h) = behind_one_line 47 text (λ k. omega (arith, k)) h
tail_one_line text (inr h) = subst IsOneLine (sym h.2) (join h.0 h.1 (fraction_one_line h.0 h.3) (exponent_one_line h.1 h.4))

number_one_line : (text : List ℕ) → IsNumber text → IsOneLine text
number_one_line text h = subst IsOneLine (sym h.3) (join h.0 (h.1 ++ h.2) (sign_one_line h.0 h.4) (join h.1 h.2 (digits_one_line h.1 h.5) (tail_one_line h.2 h.6)))

word_one_line : (p : ℕ → Bool) → p 10 ≡ false → (b : ℕ) (w : List ℕ) → (p b && list_all is_word_byte w) ≡ true → IsOneLine (b ∷ w)
word_one_line p n b w h = let k = and_true (p b) (list_all is_word_byte w) h in (not_feed p n b k.0, all_one_line is_word_byte refl w k.1)

dollar_one_line : (text word : List ℕ) → ((text ≡ 36 ∷ word) ⊎ (text ≡ 36 ∷ 36 ∷ word)) → list_all is_word_byte word ≡ true → IsOneLine text
dollar_one_line text word (inl e) h = subst IsOneLine (sym e) (λ k. omega (arith, k), all_one_line is_word_byte refl word h)
dollar_one_line text word (inr e) h = subst IsOneLine (sym e) (λ k. omega (arith, k), (λ k. omega (arith, k), all_one_line is_word_byte refl word h))

pub one_line : (kind : TokenKind) (text : List ℕ) → IsText kind text → IsOneLine (written_as kind text)
one_line kinds.LowerWord [] h = absurd cc
one_line kinds.LowerWord (b ∷ w) h = word_one_line is_lower_letter refl b w h
one_line kinds.Variable [] h = absurd cc
one_line kinds.Variable (b ∷ w) h = word_one_line is_upper_letter refl b w h
one_line kinds.DollarWord text h = dollar_one_line text h.0 h.1 h.2
one_line kinds.SingleQuoted text h = quoted_one_line 39 text (λ k. omega (arith, k)) h.1
one_line kinds.Distinct text h = quoted_one_line 34 text (λ k. omega (arith, k)) h
one_line kinds.Digits text h = digits_one_line text h
one_line kinds.Number text h = number_one_line text h.0
one_line kinds.OpenRound text h = one 40 text (λ k. omega (arith, k)) h
one_line kinds.CloseRound text h = one 41 text (λ k. omega (arith, k)) h
one_line kinds.OpenSquare text h = one 91 text (λ k. omega (arith, k)) h
one_line kinds.CloseSquare text h = one 93 text (λ k. omega (arith, k)) h
one_line kinds.Comma text h = one 44 text (λ k. omega (arith, k)) h
one_line kinds.Dot text h = one 46 text (λ k. omega (arith, k)) h
one_line kinds.Bar text h = one 124 text (λ k. omega (arith, k)) h
one_line kinds.Tilde text h = one 126 text (λ k. omega (arith, k)) h
one_line kinds.Equal text h = one 61 text (λ k. omega (arith, k)) h
one_line kinds.NotEqual text h = subst IsOneLine (sym h) (λ k. omega (arith, k), (λ k. omega (arith, k), tt))
one_line kinds.OtherSign text h = one h.0 text (not_feed is_other_sign refl h.0 h.2) h.1
one_line kinds.Bad text h = absurd h

-- ---- no gap

-- a blank, or the byte that begins a comment of a line
abbrev begins_gap : ℕ → Bool
begins_gap b = is_blank b || b == 37

pub record Head (text : List ℕ) : Type 0 where
  pub byte : ℕ
  pub tail : List ℕ
  pub is : text ≡ byte ∷ tail
  pub no_gap : begins_gap byte ≡ false

lower_head : (b : ℕ) → is_lower_letter b ≡ true → begins_gap b ≡ false
lower_head b h = grind (arith, nat_tests)

upper_head : (b : ℕ) → is_upper_letter b ≡ true → begins_gap b ≡ false
upper_head b h = grind (arith, nat_tests)

digit_head : (b : ℕ) → is_digit b ≡ true → begins_gap b ≡ false
digit_head b h = grind (arith, nat_tests)

sign_head : (n : ℕ) (text : List ℕ) → begins_gap n ≡ false → text ≡ n ∷ [] → Head text
sign_head n text g e = record { byte = n; tail = []; is = e; no_gap = g }

digits_head : (text more : List ℕ) → IsDigits text → Head (text ++ more)
digits_head [] more h = absurd (h.0 refl)
digits_head (b ∷ bs) more h = record { byte = b; tail = bs ++ more; is = refl; no_gap = digit_head b (and_true (is_digit b) (list_all is_digit bs) h.1).0 }

signed_head : (sign digits more : List ℕ) → IsSign sign → IsDigits digits → Head (sign ++ (digits ++ more))
signed_head sign digits more (inl e) h = subst (λ (x : List ℕ). Head (x ++ (digits ++ more))) (sym e) (digits_head digits more h)
signed_head sign digits more (inr (inl e)) h = record { byte = 43; tail = digits ++ more; is = ap (λ (x : List ℕ). x ++ (digits ++ more)) e; no_gap = refl }
signed_head sign digits more (inr (inr e)) h = record { byte = 45; tail = digits ++ more; is = ap (λ (x : List ℕ). x ++ (digits ++ more)) e; no_gap = refl }

plain_digits : (text : List ℕ) → IsDigits text → Head text
plain_digits [] h = absurd (h.0 refl)
plain_digits (b ∷ bs) h = record { byte = b; tail = bs; is = refl; no_gap = digit_head b (and_true (is_digit b) (list_all is_digit bs) h.1).0 }

dollar_head : (text word : List ℕ) → ((text ≡ 36 ∷ word) ⊎ (text ≡ 36 ∷ 36 ∷ word)) → Head text
dollar_head text word (inl e) = record { byte = 36; tail = word; is = e; no_gap = refl }
dollar_head text word (inr e) = record { byte = 36; tail = 36 ∷ word; is = e; no_gap = refl }

pub head : (kind : TokenKind) (text : List ℕ) → IsText kind text → Head (written_as kind text)
head kinds.LowerWord [] h = absurd cc
head kinds.LowerWord (b ∷ w) h = record { byte = b; tail = w; is = refl; no_gap = lower_head b (and_true (is_lower_letter b) (list_all is_word_byte w) h).0 }
head kinds.Variable [] h = absurd cc
head kinds.Variable (b ∷ w) h = record { byte = b; tail = w; is = refl; no_gap = upper_head b (and_true (is_upper_letter b) (list_all is_word_byte w) h).0 }
head kinds.DollarWord text h = dollar_head text h.0 h.1
head kinds.SingleQuoted text h = record { byte = 39; tail = escaped 39 text ++ 39 ∷ []; is = refl; no_gap = refl }
head kinds.Distinct text h = record { byte = 34; tail = escaped 34 text ++ 34 ∷ []; is = refl; no_gap = refl }
head kinds.Digits text h = plain_digits text h
head kinds.Number text h = subst Head (sym h.0.3) (signed_head h.0.0 h.0.1 h.0.2 h.0.4 h.0.5)
head kinds.OpenRound text h = sign_head 40 text refl h
head kinds.CloseRound text h = sign_head 41 text refl h
head kinds.OpenSquare text h = sign_head 91 text refl h
head kinds.CloseSquare text h = sign_head 93 text refl h
head kinds.Comma text h = sign_head 44 text refl h
head kinds.Dot text h = sign_head 46 text refl h
head kinds.Bar text h = sign_head 124 text refl h
head kinds.Tilde text h = sign_head 126 text refl h
head kinds.Equal text h = sign_head 61 text refl h
head kinds.NotEqual text h = record { byte = 33; tail = 61 ∷ []; is = h; no_gap = refl }
head kinds.OtherSign text h = sign_head h.0 text (other_signs (λ b. begins_gap b ≡ false) refl refl refl refl refl refl refl refl refl refl refl refl refl refl refl refl refl h.0 h.2) h.1
head kinds.Bad text h = absurd h

heads_are : (b c : ℕ) (xs ys : List ℕ) → b ∷ xs ≡ c ∷ ys → b ≡ c
heads_are b c xs ys e = cc

or_left : (a b : Bool) → a ≡ true → (a || b) ≡ true
or_left true b e = refl
or_left false b e = absurd cc

-- with bytes that begin with a token no gap begins, unless it is a comment between /* and */
pub no_piece : (token : TokenValue) (bytes rest : List ℕ) → IsToken token → bytes ≡ written token ++ rest → (OpensComment bytes → ⊥) → (piece : GapPiece) (after : List ℕ) → IsPiece piece bytes after → ⊥
no_piece token bytes rest h e n piece after p = by (head token.kind token.text h) piece p
  where
    starts : (t : Head (written token)) → bytes ≡ t.byte ∷ (t.tail ++ rest)
    starts t = e ∙ ap (λ (x : List ℕ). x ++ rest) t.is

    by : Head (written token) → (piece : GapPiece) → IsPiece piece bytes after → ⊥
    by t (Blank b) k = true≢false (sym (or_left (is_blank b) (b == 37) k.1) ∙ ap begins_gap (heads_are b t.byte after (t.tail ++ rest) (sym k.0 ∙ starts t)) ∙ t.no_gap)
    by t (Line text) k = let same = heads_are 37 t.byte (text ++ 10 ∷ after) (t.tail ++ rest) (sym k.0 ∙ starts t) in true≢false (ap begins_gap same ∙ t.no_gap)
    by t (LastLine text) k = let same = heads_are 37 t.byte text (t.tail ++ rest) (sym k.0 ∙ starts t) in true≢false (ap begins_gap same ∙ t.no_gap)
    by t (Block text) k = n (k.0, k.1)
