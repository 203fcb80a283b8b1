-- Bytes that are read as given tokens of a file.
use Rattle.std.proofs.Common.{◌≡◌, ◌≢◌, ◌≤◌, ◌-◌, ◌+◌, ℕ, Bool, true, false, List, [], ◌∷◌, ◌++◌, length, refl, sym, ap, subst, ◌∙◌, append_assoc, arith}
use Rattle.std.proofs.lemmas.Bool.Decides.{nat_tests}
use Rattle.std.specs.Prelude.{◌==◌, ◌&&◌, not, codes, if◌then◌else◌}
use Rattle.std.specs.List.{list_all}
use Rattle.me_terms.specs.Labels.{is_digit, is_printable}
use Rattle.tptp_tokens.specs.Bytes.{is_blank, is_lower_letter, is_word_byte}
use Rattle.tptp_tokens.specs.Founds.{IsClosedQuote}
use Rattle.tptp_tokens.specs.Fronts.{Stops, IsAfter}
use Rattle.tptp_tokens.specs.Gaps.{GapPiece, Blank, Line, LastLine, Block, IsPiece, IsGap}
use Rattle.tptp_tokens.specs.Leads.{lead_of, sign_kind}
use Rattle.tptp_tokens.specs.Numbers.{IsDigits, IsNumber, IsTail}
use Rattle.tptp_tokens.specs.Quoted.{escaped, quoted, unescaped}
use Rattle.tptp_tokens.specs.Tokens.{TokenValue, PlacedToken, IsFirst, IsCutFrom, OpensComment, unquoted_text}
use Rattle.tptp_tokens.specs.declared.token.TokenKind.{TokenKind}
use Rattle.tptp_tokens.specs.declared.token.TokenKind.TheVariants as kinds
use Rattle.tptp_tokens.proofs.Firsts.{lower_first, upper_first, one_dollar_first, single_first, distinct_first, number_first, alone_other, sign_first}
use Rattle.tptp_tokens.proofs.Leads.{lower_lead}
use Rattle.tptp_tokens.proofs.Numbers.{sign_empty, behind_other, fraction_none, power_other, exponent_none, tail_real, number}
use Rattle.tptp_tokens.proofs.OneCut.{first_takes}
use Rattle.tptp_tokens.proofs.Quotes.{unescaped-escaped, front_is}
use Rattle.tptp_tokens.proofs.Runs.{heads, differ, all_first}
use Rattle.tptp_grammar.specs.Terminals.{Terminal, terminal, terminals, LowerWord, SingleQuoted, Variable, Distinct, DollarWord, Digits}
use Rattle.tptp_grammar.specs.Printed.{Printed, printed_terminals}

-- the bytes begin with a gap and then a token that is this one, and rest comes after it
pub record Next (bytes : List ℕ) (p : Printed) (rest : List ℕ) : Type 0 where
  pub token : TokenValue
  pub middle : List ℕ
  pub is : terminal token ≡ p.terminal
  pub gap : IsGap bytes middle
  pub within : length middle ≤ length bytes
  pub first : IsFirst token middle rest

-- the bytes are these tokens, up to a gap at the end
abbrev pub Reads : List ℕ → List Printed → Type 0
Reads bytes [] = IsGap bytes []
Reads bytes (p ∷ ps) = (rest : List ℕ) × Next bytes p rest × Reads rest ps

pub record CutAs (at : ℕ) (bytes : List ℕ) (ps : List Printed) : Type 0 where
  pub tokens : List PlacedToken
  pub cut : IsCutFrom (record { at = at; bytes = bytes }) tokens
  pub same : terminals tokens ≡ printed_terminals ps

pub cut_as : (ps : List Printed) (at : ℕ) (bytes : List ℕ) → Reads bytes ps → CutAs at bytes ps
cut_as [] at bytes h = record { tokens = []; cut = h; same = refl }
cut_as (p ∷ ps) at bytes h =
    let n = h.1 in
    let lt = first_takes n.token n.middle h.0 n.first in
    let more = cut_as ps (at + length bytes - length h.0) h.0 h.2 in
    record {
      tokens = (record { at = at + length bytes - length n.middle; token = n.token }) ∷ more.tokens;
      cut = (
        record { at = at + length bytes - length h.0; bytes = h.0 },
        record { middle = n.middle; gap = n.gap; first = n.first; place = omega (arith, n.within); end = omega (arith, n.within, lt) },
        more.cut,
      );
      same = ap (λ (x : Terminal). x ∷ terminals more.tokens) n.is ∙ ap (λ (x : List Terminal). p.terminal ∷ x) more.same;
    }

-- ---- gaps

-- neither a blank nor a comment begins with the byte
abbrev pub begins_token : ℕ → Bool
begins_token b = not (is_blank b) && (not (b == 37) && not (b == 47))

blank_begins : (c : ℕ) → is_blank c ≡ true → begins_token c ≡ false
blank_begins c h = ap (λ (v : Bool). not v && (not (c == 37) && not (c == 47))) h

no_piece : (b : ℕ) (rest : List ℕ) → begins_token b ≡ true → (piece : GapPiece) (after : List ℕ) → IsPiece piece (b ∷ rest) after → ⊥
no_piece b rest h (Blank c) after k = differ begins_token b c (heads b c rest after k.0).0 h (blank_begins c k.1)
no_piece b rest h (Line t) after k = differ begins_token b 37 (heads b 37 rest (t ++ 10 ∷ after) k.0).0 h refl
no_piece b rest h (LastLine t) after k = differ begins_token b 37 (heads b 37 rest t k.0).0 h refl
no_piece b rest h (Block t) after k = differ begins_token b 47 (heads b 47 rest (42 ∷ k.0) k.1).0 h refl

no_gap : (b : ℕ) (rest : List ℕ) → begins_token b ≡ true → IsGap (b ∷ rest) (b ∷ rest)
no_gap b rest h = ([], (refl, no_piece b rest h))

empty_piece : (piece : GapPiece) (after : List ℕ) → IsPiece piece [] after → ⊥
empty_piece (Blank c) after k = let e : [] ≡ c ∷ after = k.0 in cc
empty_piece (Line t) after k = let e : [] ≡ 37 ∷ (t ++ 10 ∷ after) = k.0 in cc
empty_piece (LastLine t) after k = let e : [] ≡ 37 ∷ t = k.0 in cc
empty_piece (Block t) after k = let e : [] ≡ 47 ∷ 42 ∷ k.0 = k.1 in cc

pub reads_nothing : Reads [] []
reads_nothing = ([], (refl, empty_piece))

pub blank_gap : (c : ℕ) (bytes middle : List ℕ) → is_blank c ≡ true → IsGap bytes middle → IsGap (c ∷ bytes) middle
blank_gap c bytes middle h g = (Blank c ∷ g.0, (bytes, (refl, h), g.1))

pub reads_blank : (c : ℕ) (bytes : List ℕ) (ps : List Printed) → is_blank c ≡ true → Reads bytes ps → Reads (c ∷ bytes) ps
reads_blank c bytes [] h r = blank_gap c bytes [] h r
reads_blank c bytes (p ∷ ps) h r =
    let n = r.1 in
    (r.0, record { token = n.token; middle = n.middle; is = n.is; gap = blank_gap c bytes n.middle h n.gap; within = omega (arith, n.within); first = n.first }, r.2)

pub reads_apart : (u v rest : List ℕ) (ps : List Printed) → Reads (u ++ (v ++ rest)) ps → Reads ((u ++ v) ++ rest) ps
reads_apart u v rest ps r = subst (λ (x : List ℕ). Reads x ps) (sym (append_assoc u v rest)) r

-- ---- one token

next_token : (t : TokenValue) (p : Printed) (b : ℕ) (after rest : List ℕ) → terminal t ≡ p.terminal → begins_token b ≡ true → IsFirst t (b ∷ after) rest → Next (b ∷ after) p rest
next_token t p b after rest e h f = record { token = t; middle = b ∷ after; is = e; gap = no_gap b after h; within = omega arith; first = f }

no_comment : (b : ℕ) (rest : List ℕ) → begins_token b ≡ true → OpensComment (b ∷ rest) → ⊥
no_comment b rest h c = differ begins_token b 47 (heads b 47 rest (42 ∷ c.0) c.1).0 h refl

pub next_sign : (b : ℕ) (k : TokenKind) (p : Printed) (rest : List ℕ) → lead_of b ≡ lead_of 40 → begins_token b ≡ true → k ≡ sign_kind b → (k ≡ kinds.Bad → ⊥) → terminal (record { kind = k; text = unquoted_text k (b ∷ []) }) ≡ p.terminal → Next (b ∷ rest) p rest
next_sign b k p rest lead h e n same =
    next_token (record { kind = k; text = unquoted_text k (b ∷ []) }) p b rest rest same h
    (sign_first (b ∷ rest) b rest (b ∷ []) k refl (alone_other (b ∷ rest) b rest refl lead) (no_comment b rest h) e n refl)

pub reads_sign : (b : ℕ) (k : TokenKind) (p : Printed) (rest : List ℕ) (ps : List Printed) → lead_of b ≡ lead_of 40 → begins_token b ≡ true → k ≡ sign_kind b → (k ≡ kinds.Bad → ⊥) → terminal (record { kind = k; text = unquoted_text k (b ∷ []) }) ≡ p.terminal → Reads rest ps → Reads (b ∷ rest) (p ∷ ps)
reads_sign b k p rest ps lead h e n same r = (rest, next_sign b k p rest lead h e n same, r)

lower_begins : (b : ℕ) → is_lower_letter b ≡ true → begins_token b ≡ true
lower_begins b h = grind (arith, nat_tests)

digit_begins : (b : ℕ) → is_digit b ≡ true → begins_token b ≡ true
digit_begins b h = grind (arith, nat_tests)

pub next_lower : (b : ℕ) (w rest : List ℕ) (p : Printed) → is_lower_letter b ≡ true → list_all is_word_byte w ≡ true → Stops is_word_byte rest → LowerWord (b ∷ w) ≡ p.terminal → Next (b ∷ (w ++ rest)) p rest
next_lower b w rest p h k s e =
    next_token (record { kind = kinds.LowerWord; text = b ∷ w }) p b (w ++ rest) rest e (lower_begins b h)
    (lower_first (b ∷ (w ++ rest)) b (w ++ rest) (b ∷ w) rest refl (lower_lead b h) (w, record { parts = refl; each = k; stops = s }) refl)

pub reads_lower : (b : ℕ) (w rest : List ℕ) (p : Printed) (ps : List Printed) → is_lower_letter b ≡ true → list_all is_word_byte w ≡ true → Stops is_word_byte rest → LowerWord (b ∷ w) ≡ p.terminal → Reads rest ps → Reads (b ∷ (w ++ rest)) (p ∷ ps)
reads_lower b w rest p ps h k s e r = (rest, next_lower b w rest p h k s e, r)

pub next_variable : (w rest : List ℕ) (p : Printed) → list_all is_word_byte w ≡ true → Stops is_word_byte rest → Variable (88 ∷ w) ≡ p.terminal → Next (88 ∷ (w ++ rest)) p rest
next_variable w rest p k s e =
    next_token (record { kind = kinds.Variable; text = 88 ∷ w }) p 88 (w ++ rest) rest e refl
    (upper_first (88 ∷ (w ++ rest)) 88 (w ++ rest) (88 ∷ w) rest refl refl (w, record { parts = refl; each = k; stops = s }) refl)

pub reads_variable : (w rest : List ℕ) (p : Printed) (ps : List Printed) → list_all is_word_byte w ≡ true → Stops is_word_byte rest → Variable (88 ∷ w) ≡ p.terminal → Reads rest ps → Reads (88 ∷ (w ++ rest)) (p ∷ ps)
reads_variable w rest p ps k s e r = (rest, next_variable w rest p k s e, r)

no_dollar : (x second : List ℕ) → 102 ∷ x ≡ 36 ∷ second → ⊥
no_dollar x second e = differ (λ (v : ℕ). v == 102) 102 36 (heads 102 36 x second e).0 refl refl

pub next_false : (rest : List ℕ) (p : Printed) → Stops is_word_byte rest → DollarWord (codes "$false") ≡ p.terminal → Next (codes "$false" ++ rest) p rest
next_false rest p s e =
    next_token (record { kind = kinds.DollarWord; text = codes "$false" }) p 36 (codes "false" ++ rest) rest e refl
    (one_dollar_first (codes "$false" ++ rest) 36 (codes "false" ++ rest) (codes "$false") rest refl refl (λ second f. no_dollar (codes "alse" ++ rest) second f) (codes "false", record { parts = refl; each = refl; stops = s }) refl)

pub reads_false : (rest : List ℕ) (p : Printed) (ps : List Printed) → Stops is_word_byte rest → DollarWord (codes "$false") ≡ p.terminal → Reads rest ps → Reads (codes "$false" ++ rest) (p ∷ ps)
reads_false rest p ps s e r = (rest, next_false rest p s e, r)

-- ---- quotes

quoted_is : (q : ℕ) (text rest : List ℕ) → quoted q text ++ rest ≡ q ∷ (escaped q text ++ q ∷ rest)
quoted_is q text rest = ap (λ (x : List ℕ). q ∷ x) (append_assoc (escaped q text) (q ∷ []) rest)

closed : (q : ℕ) (text rest : List ℕ) → list_all is_printable text ≡ true → IsClosedQuote q (escaped q text) (escaped q text ++ q ∷ rest) rest
closed q text rest h = record { text = text; each = h; is = refl; parts = refl }

some_escaped : (q : ℕ) (text : List ℕ) → text ≢ [] → escaped q text ≢ []
some_escaped q text n e = n (sym (unescaped-escaped q text) ∙ ap unescaped e)

pub next_quoted : (text rest : List ℕ) (p : Printed) → text ≢ [] → list_all is_printable text ≡ true → SingleQuoted text ≡ p.terminal → Next (quoted 39 text ++ rest) p rest
next_quoted text rest p n h e =
    subst (λ (x : List ℕ). Next x p rest) (sym (quoted_is 39 text rest))
    (next_token (record { kind = kinds.SingleQuoted; text = text }) p 39 (escaped 39 text ++ 39 ∷ rest) rest e refl
    (subst (λ (x : List ℕ). IsFirst (record { kind = kinds.SingleQuoted; text = x }) (39 ∷ (escaped 39 text ++ 39 ∷ rest)) rest) (unescaped-escaped 39 text)
    (single_first (39 ∷ (escaped 39 text ++ 39 ∷ rest)) 39 (escaped 39 text ++ 39 ∷ rest) (escaped 39 text) rest refl refl (closed 39 text rest h) (some_escaped 39 text n))))

pub reads_quoted : (text rest : List ℕ) (p : Printed) (ps : List Printed) → text ≢ [] → list_all is_printable text ≡ true → SingleQuoted text ≡ p.terminal → Reads rest ps → Reads (quoted 39 text ++ rest) (p ∷ ps)
reads_quoted text rest p ps n h e r = (rest, next_quoted text rest p n h e, r)

pub next_distinct : (text rest : List ℕ) (p : Printed) → list_all is_printable text ≡ true → Distinct text ≡ p.terminal → Next (quoted 34 text ++ rest) p rest
next_distinct text rest p h e =
    subst (λ (x : List ℕ). Next x p rest) (sym (quoted_is 34 text rest))
    (next_token (record { kind = kinds.Distinct; text = text }) p 34 (escaped 34 text ++ 34 ∷ rest) rest e refl
    (subst (λ (x : List ℕ). IsFirst (record { kind = kinds.Distinct; text = x }) (34 ∷ (escaped 34 text ++ 34 ∷ rest)) rest) (unescaped-escaped 34 text)
    (distinct_first (34 ∷ (escaped 34 text ++ 34 ∷ rest)) 34 (escaped 34 text ++ 34 ∷ rest) (escaped 34 text) rest refl refl (closed 34 text rest h))))

pub reads_distinct : (text rest : List ℕ) (p : Printed) (ps : List Printed) → list_all is_printable text ≡ true → Distinct text ≡ p.terminal → Reads rest ps → Reads (quoted 34 text ++ rest) (p ∷ ps)
reads_distinct text rest p ps h e r = (rest, next_distinct text rest p h e, r)

-- ---- digits before another byte

-- no number goes on with the byte
abbrev pub ends_number : ℕ → Bool
ends_number b = not (is_digit b) && (not (b == 46) && (not (b == 47) && (not (b == 69) && not (b == 101))))

ends_digits : (b : ℕ) → ends_number b ≡ true → is_digit b ≡ false
ends_digits b h = by (is_digit b) refl h
  where
    by : (v : Bool) → is_digit b ≡ v → (not v && (not (b == 46) && (not (b == 47) && (not (b == 69) && not (b == 101))))) ≡ true → is_digit b ≡ false
    by true e k = absurd cc
    by false e k = e

end_not : (b n : ℕ) (more x : List ℕ) → ends_number b ≡ true → ends_number n ≡ false → b ∷ more ≡ n ∷ x → ⊥
end_not b n more x h f e = differ ends_number b n (heads b n more x e).0 h f

no_tail : (b : ℕ) (more : List ℕ) → ends_number b ≡ true → IsAfter IsTail (b ∷ more) (b ∷ more)
no_tail b more h =
    let r : List ℕ = b ∷ more in
    tail_real r r r (behind_other 47 r (λ x e. end_not b 47 more x h refl e)) (fraction_none r (behind_other 46 r (λ x e. end_not b 46 more x h refl e)))
    (exponent_none r (power_other 101 r (λ x e. end_not b 101 more x h refl e)) (power_other 69 r (λ x e. end_not b 69 more x h refl e)))

digit_not : (d n : ℕ) (x y : List ℕ) → is_digit d ≡ true → is_digit n ≡ false → d ∷ x ≡ n ∷ y → ⊥
digit_not d n x y h f e = differ is_digit d n (heads d n x y e).0 h f

is_number : (d b : ℕ) (ds more : List ℕ) → ends_number b ≡ true → IsDigits (d ∷ ds) → IsAfter IsNumber ((d ∷ ds) ++ b ∷ more) (b ∷ more)
is_number d b ds more s h =
    let bytes : List ℕ = d ∷ (ds ++ b ∷ more) in
    let digit = (all_first is_digit d ds h.1).0 in
    number bytes bytes (b ∷ more) (b ∷ more)
    (sign_empty bytes (λ x e. digit_not d 43 (ds ++ b ∷ more) x digit refl e) (λ x e. digit_not d 45 (ds ++ b ∷ more) x digit refl e))
    (d ∷ ds, record { parts = refl; each = h.1; stops = ends_digits b s }, h)
    (no_tail b more s)

pub next_digits : (text : List ℕ) (b : ℕ) (more : List ℕ) (p : Printed) → ends_number b ≡ true → IsDigits text → Digits text ≡ p.terminal → Next (text ++ b ∷ more) p (b ∷ more)
next_digits [] b more p s h e = absurd (h.0 refl)
next_digits (d ∷ ds) b more p s h e =
    next_token (record { kind = kinds.Digits; text = d ∷ ds }) p d (ds ++ b ∷ more) (b ∷ more) e (digit_begins d (all_first is_digit d ds h.1).0)
    (number_first (d ∷ (ds ++ b ∷ more)) (d ∷ ds) (b ∷ more) kinds.Digits (is_number d b ds more s h) (sym (front_is (d ∷ (ds ++ b ∷ more)) (d ∷ ds) (b ∷ more) refl))
    (sym (ap (λ (v : Bool). if v then kinds.Digits else kinds.Number) h.1)))

pub reads_digits : (text : List ℕ) (b : ℕ) (more : List ℕ) (p : Printed) (ps : List Printed) → ends_number b ≡ true → IsDigits text → Digits text ≡ p.terminal → Reads (b ∷ more) ps → Reads (text ++ b ∷ more) (p ∷ ps)
reads_digits text b more p ps s h e r = (b ∷ more, next_digits text b more p s h e, r)
