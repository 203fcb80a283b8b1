-- What the next token is where it is known what is left.
use Rattle.std.proofs.Common.{◌≡◌, ◌≢◌, ◌⊎◌, inl, inr, ◌+◌, ◌-◌, ℕ, zero, suc, Bool, true, false, List, [], ◌∷◌, length, drop, Option, Some, None, refl, sym, ap, subst, ◌∙◌, arith}
use Rattle.me_terms.specs.Values.{LabelValue}
use Rattle.me_terms.specs.declared.symbol.Form.{Form}
use Rattle.me_terms.specs.declared.symbol.Form.TheVariants as form
use Rattle.tptp_tokens.specs.Bytes.{is_lower_word}
use Rattle.tptp_tokens.specs.Gaps.{IsGap}
use Rattle.tptp_tokens.specs.Remainders.{Remainder}
use Rattle.tptp_tokens.specs.Tokens.{TokenValue, PlacedToken, IsText, IsToken, IsNextToken, unquoted_text, token_value, placed_token}
use Rattle.tptp_tokens.specs.declared.token.Token.{Token}
use Rattle.tptp_tokens.specs.declared.token.TokenKind.{TokenKind}
use Rattle.tptp_tokens.specs.declared.token.TokenKind.TheVariants as kind
use Rattle.tptp_tokens.proofs.OneCut.{one_gap, one_next, first_takes}
use Rattle.szs_read.specs.LineTokens.{ComesFirst, AreLeft, word_token, form_token, label_token}
use Rattle.szs_read.specs.Nexts.{IsNextOf}

none_left : (bytes : List ℕ) (t : TokenValue) (rest : List ℕ) → IsGap bytes [] → ComesFirst bytes t rest → ⊥
none_left bytes t rest g h =
    let e = one_gap bytes [] h.middle g h.gap in
    let lt = first_takes t h.middle rest h.first in
    absurd (omega (arith, ap length e))

none_next : (now : Remainder) (p : PlacedToken) (l : Remainder) → IsGap now.bytes [] → IsNextToken now p l → ⊥
none_next now p l g h =
    let e = one_gap now.bytes [] h.middle g h.gap in
    let lt = first_takes p.token h.middle l.bytes h.first in
    absurd (omega (arith, ap length e))

pub record Advanced (ts : List TokenValue) (t : TokenValue) (bytes : List ℕ) : Type 0 where
  pub is : ts ≡ t ∷ drop 1 ts
  pub left : AreLeft bytes (drop 1 ts)
  pub lawful : IsToken t

advanced : (now : Remainder) (p : PlacedToken) (left : Remainder) (ts : List TokenValue) → IsNextToken now p left → AreLeft now.bytes ts → Advanced ts p.token left.bytes
advanced now p left [] n h = absurd (none_next now p left h n)
advanced now p left (t ∷ ts) n h =
    let c = h.1 in
    let lt = first_takes t c.middle h.0 c.first in
    let same = one_next now p (record { at = now.at + length now.bytes - length c.middle; token = t }) left (record { at = now.at + length now.bytes - length h.0; bytes = h.0 }) n
    (record { middle = c.middle; gap = c.gap; first = c.first; place = omega (arith, c.within); end = omega (arith, c.within, lt) }) in
    let tokens : p.token ≡ t = ap (λ (x : PlacedToken). x.token) same.token in
    record {
      is = ap (λ (x : TokenValue). x ∷ ts) (sym tokens);
      left = subst (λ (x : List ℕ). AreLeft x ts) (sym (ap (λ (x : Remainder). x.bytes) same.left)) h.2;
      lawful = subst IsToken (sym tokens) c.lawful;
    }

pub next_some : (now left : Remainder) (token : Token) (ts : List TokenValue) → IsNextToken now (placed_token token) left → AreLeft now.bytes ts → IsNextOf ts (Some token) × AreLeft left.bytes (drop 1 ts)
next_some now left token ts n h =
    let a = advanced now (placed_token token) left ts n h in
    (subst (λ (x : List TokenValue). IsNextOf x (Some token)) (sym a.is) (token, refl, refl), a.left)

pub next_bad : (now left : Remainder) (token : Token) (ts : List TokenValue) → token.kind ≡ kind.Bad → IsNextToken now (placed_token token) left → AreLeft now.bytes ts → ⊥
next_bad now left token ts e n h =
    let a = advanced now (placed_token token) left ts n h in
    no_text token.kind (token_value token).text e a.lawful
  where
    no_text : (k : TokenKind) (text : List ℕ) → k ≡ kind.Bad → IsText k text → ⊥
    no_text k text e h = subst (λ (x : TokenKind). IsText x text) e h

pub next_none : (bytes : List ℕ) (ts : List TokenValue) → IsGap bytes [] → AreLeft bytes ts → IsNextOf ts None × AreLeft bytes (drop 1 ts)
next_none bytes [] g h = (refl, h)
next_none bytes (t ∷ ts) g h = absurd (none_left bytes t h.0 g h.1)

pub drop_on : {X : Type 0} (n : ℕ) (xs : List X) → drop 1 (drop n xs) ≡ drop (n + 1) xs
drop_on zero xs = refl
drop_on {X} (suc n) [] = let e : suc (suc n) ≡ suc n + 1 = omega arith in ap (λ (k : ℕ). drop {A = X} k []) e
drop_on {X} (suc n) (x ∷ xs) = let e : suc (n + 1) ≡ suc n + 1 = omega arith in drop_on n xs ∙ ap (λ (k : ℕ). drop {A = X} k (x ∷ xs)) e

-- ---- labels

word_kind : (b : Bool) (text : List ℕ) (k : TokenKind) → (k ≡ kind.Distinct) ⊎ (k ≡ kind.Digits) → k ≡ (word_token b text).kind → ⊥
word_kind true text k (inl e) h = let x : kind.Distinct ≡ kind.LowerWord = sym e ∙ h in cc
word_kind true text k (inr e) h = let x : kind.Digits ≡ kind.LowerWord = sym e ∙ h in cc
word_kind false text k (inl e) h = let x : kind.Distinct ≡ kind.SingleQuoted = sym e ∙ h in cc
word_kind false text k (inr e) h = let x : kind.Digits ≡ kind.SingleQuoted = sym e ∙ h in cc

pub word_form : (k : TokenKind) (f : Form) (text : List ℕ) → (k ≡ kind.LowerWord) ⊎ (k ≡ kind.SingleQuoted) → k ≡ (form_token f text).kind → form.Word ≡ f
word_form k form.Word text e h = refl
word_form k form.Distinct text (inl e) h = let x : kind.LowerWord ≡ kind.Distinct = sym e ∙ h in absurd cc
word_form k form.Distinct text (inr e) h = let x : kind.SingleQuoted ≡ kind.Distinct = sym e ∙ h in absurd cc
word_form k form.Number text (inl e) h = let x : kind.LowerWord ≡ kind.Digits = sym e ∙ h in absurd cc
word_form k form.Number text (inr e) h = let x : kind.SingleQuoted ≡ kind.Digits = sym e ∙ h in absurd cc

pub distinct_form : (k : TokenKind) (f : Form) (text : List ℕ) → k ≡ kind.Distinct → k ≡ (form_token f text).kind → form.Distinct ≡ f
distinct_form k form.Word text e h = absurd (word_kind (is_lower_word text) text k (inl e) h)
distinct_form k form.Distinct text e h = refl
distinct_form k form.Number text e h = let x : kind.Distinct ≡ kind.Digits = sym e ∙ h in absurd cc

pub number_form : (k : TokenKind) (f : Form) (text : List ℕ) → k ≡ kind.Digits → k ≡ (form_token f text).kind → form.Number ≡ f
number_form k form.Word text e h = absurd (word_kind (is_lower_word text) text k (inr e) h)
number_form k form.Distinct text e h = let x : kind.Digits ≡ kind.Distinct = sym e ∙ h in absurd cc
number_form k form.Number text e h = refl

text_same : (f : Form) (text : List ℕ) → (form_token f text).text ≡ text
text_same form.Word text = by (is_lower_word text)
  where
    by : (b : Bool) → (word_token b text).text ≡ text
    by true = refl
    by false = refl
text_same form.Distinct text = refl
text_same form.Number text = refl

pub label_same : (t : TokenValue) (f : Form) (text : List ℕ) (label : LabelValue) → t ≡ label_token label → Some f ≡ Some label.form → text ≡ t.text → Some (record { form = f; text = text }) ≡ Some label
label_same t f text label e h k =
    let forms : f ≡ label.form = cc in
    let texts : text ≡ label.text = k ∙ ap (λ (x : TokenValue). x.text) e ∙ text_same label.form label.text in
    λ i. Some (record { form = forms i; text = texts i })

-- a kind that is no label's
pub no_form : (k : TokenKind) (f : Form) (text : List ℕ) → (k ≡ kind.LowerWord → ⊥) → (k ≡ kind.SingleQuoted → ⊥) → (k ≡ kind.Distinct → ⊥) → (k ≡ kind.Digits → ⊥) → k ≡ (form_token f text).kind → ⊥
no_form k form.Word text a b c d e = by (is_lower_word text) e
  where
    by : (v : Bool) → k ≡ (word_token v text).kind → ⊥
    by true e = a e
    by false e = b e
no_form k form.Distinct text a b c d e = c e
no_form k form.Number text a b c d e = d e

-- ---- the token that came next

some_same : {X : Type 0} (x y : X) → Some x ≡ Some y → x ≡ y
some_same x y e = cc

pub next_is : (t : TokenValue) (ts : List TokenValue) (token : Token) → IsNextOf (t ∷ ts) (Some token) → token_value token ≡ t
next_is t ts token h = ap token_value (some_same token h.0 h.1) ∙ h.2

pub some_next : (t : TokenValue) (ts : List TokenValue) → IsNextOf (t ∷ ts) None → ⊥
some_next t ts h = let e : None ≡ Some h.0 = h.1 in cc

-- the bytes of a token without quotes
pub bare : (token : Token) (k : TokenKind) (text : List ℕ) → ((x : List ℕ) → unquoted_text k x ≡ x) → token_value token ≡ record { kind = k; text = text } → token.text.now ≡ text
bare token k text h e =
    let kinds : token.kind ≡ k = ap (λ (v : TokenValue). v.kind) e in
    sym (h token.text.now) ∙ ap (λ (v : TokenKind). unquoted_text v token.text.now) (sym kinds) ∙ ap (λ (v : TokenValue). v.text) e

pub bare_next : (token : Token) (k : TokenKind) (text : List ℕ) (ts : List TokenValue) → ((x : List ℕ) → unquoted_text k x ≡ x) → IsNextOf ((record { kind = k; text = text }) ∷ ts) (Some token) → token.text.now ≡ text
bare_next token k text ts h n = bare token k text h (next_is (record { kind = k; text = text }) ts token n)

pub same_number : (o : Option ℕ) (m n : ℕ) → o ≡ Some m → o ≡ Some n → m ≡ n
same_number o m n e h = some_same m n (sym e ∙ h)

pub no_number : {P : Type 0} (o : Option ℕ) (n : ℕ) → o ≡ None → o ≡ Some n → P
no_number o n e h = let x : None ≡ Some n = sym e ∙ h in absurd cc

pub tail_is : (b c : ℕ) (x y : List ℕ) → b ∷ x ≡ c ∷ y → x ≡ y
tail_is b c x y e = cc

-- ---- labels that are refused

pub no_label : (o : Option LabelValue) (label : LabelValue) → o ≡ None → o ≡ Some label → ⊥
no_label o label e h = let x : None ≡ Some label = sym e ∙ h in cc

pub refused_label : (o : Option LabelValue) (found label : LabelValue) (b : Bool) → o ≡ Some found → o ≡ Some label → (found.form ≢ form.Distinct → b ≡ true) → b ≡ false → label.form ≢ form.Distinct → ⊥
refused_label o found label b e h all f n =
    let same : found ≡ label = some_same found label (sym e ∙ h) in
    let t : b ≡ true = all (λ d. n (ap (λ (v : LabelValue). v.form) (sym same) ∙ d)) in
    cc
