-- Which tokens begin with a byte.
use Rattle.std.proofs.Common.{◌≡◌, ◌≢◌, ◌≤◌, ℕ, ◌+◌, Bool, true, false, List, [], ◌∷◌, ◌++◌, length, refl, sym, ap, subst, ◌∙◌, inl, inr, arith}
use Rattle.std.proofs.lemmas.Bool.Decides.{nat_tests}
use Rattle.std.proofs.lemmas.List.{append-nil}
use Rattle.std.specs.Prelude.{◌⊎◌, ◌==◌, ◌||◌, if◌then◌else◌}
use Rattle.std.specs.List.{list_all}
use Rattle.me_terms.specs.Labels.{is_digit, is_printable}
use Rattle.tptp_tokens.specs.Bytes.{is_lower_letter, is_upper_letter, is_word_byte, is_other_sign}
use Rattle.tptp_tokens.specs.Leads.{lead_of, sign_kind}
use Rattle.tptp_tokens.specs.Numbers.{IsNumber, IsDigits}
use Rattle.tptp_tokens.specs.Quoted.{escaped}
use Rattle.tptp_tokens.specs.Tokens.{TokenValue, IsText, IsToken, written_as, written, IsLongest, OpensComment, BeginsNone}
use Rattle.tptp_tokens.specs.declared.lead.Lead.{Lead}
use Rattle.tptp_tokens.specs.declared.lead.Lead.TheVariants.{LowerLetter, UpperLetter, Dollar, SingleQuote, DoubleQuote, Numeric, Exclamation, Other}
use Rattle.tptp_tokens.specs.declared.token.TokenKind.{TokenKind}
use Rattle.tptp_tokens.specs.declared.token.TokenKind.TheVariants as kinds
use Rattle.tptp_tokens.proofs.Runs.{heads, all_first, word_parts}

-- what may come after a first byte in a token
abbrev pub Allowed : Lead → ℕ → List ℕ → Type 0
Allowed LowerLetter b tail = list_all is_word_byte tail ≡ true
Allowed UpperLetter b tail = list_all is_word_byte tail ≡ true
Allowed Dollar b tail = (word : List ℕ) × ((tail ≡ word) ⊎ (tail ≡ 36 ∷ word)) × (list_all is_word_byte word ≡ true)
Allowed SingleQuote b tail = (text : List ℕ) × (text ≢ []) × (list_all is_printable text ≡ true) × (tail ≡ escaped 39 text ++ 39 ∷ [])
Allowed DoubleQuote b tail = (text : List ℕ) × (list_all is_printable text ≡ true) × (tail ≡ escaped 34 text ++ 34 ∷ [])
Allowed Numeric b tail = IsNumber (b ∷ tail) ⊎ ((tail ≡ []) × (sign_kind b ≢ kinds.Bad))
Allowed Exclamation b tail = (tail ≡ 61 ∷ []) ⊎ ((tail ≡ []) × (sign_kind b ≢ kinds.Bad))
Allowed Other b tail = (tail ≡ []) × (sign_kind b ≢ kinds.Bad)

pub record Led (text : List ℕ) : Type 0 where
  pub byte : ℕ
  pub tail : List ℕ
  pub is : text ≡ byte ∷ tail
  pub allowed : Allowed (lead_of byte) byte tail

-- what holds of each other sign
or_last : (P : ℕ → Type 0) (b n : ℕ) (u : Bool) → (u ≡ true → P b) → P n → (u || b == n) ≡ true → P b
or_last P b n true f h e = f refl
or_last P b n false f h e = let same : n ≡ b = grind (arith, nat_tests) in subst P same h

pub other_signs : (P : ℕ → Type 0) → P 58 → P 59 → P 33 → P 63 → P 38 → P 60 → P 62 → P 42 → P 43 → P 45 → P 47 → P 92 → P 94 → P 64 → P 123 → P 125 → P 35
    → (b : ℕ) → is_other_sign b ≡ true → P b
other_signs P h58 h59 h33 h63 h38 h60 h62 h42 h43 h45 h47 h92 h94 h64 h123 h125 h35 b =
    or_last P b 35 _ (or_last P b 125 _ (or_last P b 123 _ (or_last P b 64 _ (or_last P b 94 _ (or_last P b 92 _ (or_last P b 47 _ (or_last P b 45 _
    (or_last P b 43 _ (or_last P b 42 _ (or_last P b 62 _ (or_last P b 60 _ (or_last P b 38 _ (or_last P b 63 _ (or_last P b 33 _ (or_last P b 59 _
    (λ e. let same : 58 ≡ b = grind (arith, nat_tests) in subst P same h58) h59) h33) h63) h38) h60) h62) h42) h43) h45) h47) h92) h94) h64) h123) h125) h35

-- ---- the lead of a byte

pub lower_lead : (b : ℕ) → is_lower_letter b ≡ true → lead_of b ≡ LowerLetter
lower_lead b h = rw h refl

pub upper_lead : (b : ℕ) → is_upper_letter b ≡ true → lead_of b ≡ UpperLetter
upper_lead b h = let n : is_lower_letter b ≡ false = grind (arith, nat_tests) in rw (n, h) refl

pub digit_lead : (b : ℕ) → is_digit b ≡ true → lead_of b ≡ Numeric
digit_lead b h =
    let l : is_lower_letter b ≡ false = grind (arith, nat_tests) in
    let u : is_upper_letter b ≡ false = grind (arith, nat_tests) in
    let d : (b == 36) ≡ false = grind (arith, nat_tests) in
    let s : (b == 39) ≡ false = grind (arith, nat_tests) in
    let q : (b == 34) ≡ false = grind (arith, nat_tests) in
    rw (l, u, d, s, q, h) refl

-- ---- each token by its first byte

one_sign : (n : ℕ) (text : List ℕ) → Allowed (lead_of n) n [] → text ≡ n ∷ [] → Led text
one_sign n text h e = record { byte = n; tail = []; is = e; allowed = h }

other_led : (b : ℕ) → is_other_sign b ≡ true → Allowed (lead_of b) b []
other_led b h =
    other_signs (λ x. Allowed (lead_of x) x [])
    (refl, λ e. cc) (refl, λ e. cc) (inr (refl, λ e. cc)) (refl, λ e. cc) (refl, λ e. cc) (refl, λ e. cc) (refl, λ e. cc) (refl, λ e. cc)
    (inr (refl, λ e. cc)) (inr (refl, λ e. cc)) (refl, λ e. cc) (refl, λ e. cc) (refl, λ e. cc) (refl, λ e. cc) (refl, λ e. cc) (refl, λ e. cc) (refl, λ e. cc) b h

dollar_led : (text word : List ℕ) → (text ≡ 36 ∷ word) ⊎ (text ≡ 36 ∷ 36 ∷ word) → list_all is_word_byte word ≡ true → Led text
dollar_led text word (inl e) h = record { byte = 36; tail = word; is = e; allowed = (word, inl refl, h) }
dollar_led text word (inr e) h = record { byte = 36; tail = 36 ∷ word; is = e; allowed = (word, inr refl, h) }

-- a number begins with a digit or a sign
pub record NumberLed (text : List ℕ) : Type 0 where
  pub byte : ℕ
  pub tail : List ℕ
  pub is : text ≡ byte ∷ tail
  pub lead : lead_of byte ≡ Numeric

pub number_led : (text : List ℕ) → IsNumber text → NumberLed text
number_led text k = go k.4 k.1 k.5 k.3
  where
    go : ((k.0 ≡ []) ⊎ (k.0 ≡ 43 ∷ []) ⊎ (k.0 ≡ 45 ∷ [])) → (ds : List ℕ) → IsDigits ds → text ≡ k.0 ++ (ds ++ k.2) → NumberLed text
    go s [] d e = absurd (d.0 refl)
    go (inl s) (c ∷ ds) d e = record { byte = c; tail = ds ++ k.2; is = e ∙ ap (λ (x : List ℕ). x ++ (c ∷ (ds ++ k.2))) s; lead = digit_lead c (all_first is_digit c ds d.1).0 }
    go (inr (inl s)) (c ∷ ds) d e = record { byte = 43; tail = c ∷ (ds ++ k.2); is = e ∙ ap (λ (x : List ℕ). x ++ (c ∷ (ds ++ k.2))) s; lead = refl }
    go (inr (inr s)) (c ∷ ds) d e = record { byte = 45; tail = c ∷ (ds ++ k.2); is = e ∙ ap (λ (x : List ℕ). x ++ (c ∷ (ds ++ k.2))) s; lead = refl }

led_number : (text : List ℕ) → IsNumber text → Led text
led_number text h =
    let x = number_led text h in
    record { byte = x.byte; tail = x.tail; is = x.is; allowed = subst (λ (l : Lead). Allowed l x.byte x.tail) (sym x.lead) (inl (subst IsNumber x.is h)) }

pub digits_number : (text : List ℕ) → IsDigits text → IsNumber text
digits_number text h = ([], text, [], sym (append-nil text), inl refl, h, inr ([], [], refl, inl refl, inl refl))

pub led : (kind : TokenKind) (text : List ℕ) → IsText kind text → Led (written_as kind text)
led kinds.LowerWord [] h = absurd cc
led kinds.LowerWord (b ∷ w) h = let f = word_parts is_lower_letter b w h in record { byte = b; tail = w; is = refl; allowed = subst (λ (l : Lead). Allowed l b w) (sym (lower_lead b f.0)) f.1 }
led kinds.Variable [] h = absurd cc
led kinds.Variable (b ∷ w) h = let f = word_parts is_upper_letter b w h in record { byte = b; tail = w; is = refl; allowed = subst (λ (l : Lead). Allowed l b w) (sym (upper_lead b f.0)) f.1 }
led kinds.DollarWord text h = dollar_led text h.0 h.1 h.2
led kinds.SingleQuoted text h = record { byte = 39; tail = escaped 39 text ++ 39 ∷ []; is = refl; allowed = (text, h.0, h.1, refl) }
led kinds.Distinct text h = record { byte = 34; tail = escaped 34 text ++ 34 ∷ []; is = refl; allowed = (text, h, refl) }
led kinds.Digits text h = led_number text (digits_number text h)
led kinds.Number text h = led_number text h.0
led kinds.OpenRound text h = one_sign 40 text (refl, λ e. cc) h
led kinds.CloseRound text h = one_sign 41 text (refl, λ e. cc) h
led kinds.OpenSquare text h = one_sign 91 text (refl, λ e. cc) h
led kinds.CloseSquare text h = one_sign 93 text (refl, λ e. cc) h
led kinds.Comma text h = one_sign 44 text (refl, λ e. cc) h
led kinds.Dot text h = one_sign 46 text (refl, λ e. cc) h
led kinds.Bar text h = one_sign 124 text (refl, λ e. cc) h
led kinds.Tilde text h = one_sign 126 text (refl, λ e. cc) h
led kinds.Equal text h = one_sign 61 text (refl, λ e. cc) h
led kinds.NotEqual text h = record { byte = 33; tail = 61 ∷ []; is = h; allowed = inl refl }
led kinds.OtherSign text h = one_sign h.0 text (other_led h.0 h.2) h.1
led kinds.Bad text h = absurd h

-- ---- the longest token by the first byte

-- a token at the front of bytes that begin with b is one that b may begin
pub record At (l : Lead) (b : ℕ) (after text rest : List ℕ) : Type 0 where
  pub tail : List ℕ
  pub is : text ≡ b ∷ tail
  pub parts : after ≡ tail ++ rest
  pub allowed : Allowed l b tail

pub at : (l : Lead) (bytes : List ℕ) (b : ℕ) (after : List ℕ) (token : TokenValue) (rest : List ℕ) → bytes ≡ b ∷ after → lead_of b ≡ l → IsToken token → bytes ≡ written token ++ rest → At l b after (written token) rest
at l bytes b after token rest head lead h e =
    let x = led token.kind token.text h in
    let k = heads b x.byte after (x.tail ++ rest) (sym head ∙ e ∙ ap (λ (y : List ℕ). y ++ rest) x.is) in
    record {
      tail = x.tail;
      is = x.is ∙ ap (λ (y : ℕ). y ∷ x.tail) (sym k.0);
      parts = k.1;
      allowed = subst (λ (y : Lead). Allowed y b x.tail) lead (subst (λ (y : ℕ). Allowed (lead_of y) y x.tail) (sym k.0) x.allowed);
    }

pub longest_at : (l : Lead) (bytes : List ℕ) (b : ℕ) (after : List ℕ) (token : TokenValue) (rest : List ℕ) → bytes ≡ b ∷ after → lead_of b ≡ l → IsToken token → bytes ≡ written token ++ rest
    → ((tail r : List ℕ) → after ≡ tail ++ r → Allowed l b tail → 1 + length tail ≤ length (written token)) → IsLongest token bytes rest
longest_at l bytes b after token rest head lead h e each = record { lawful = h; parts = e; longest = go }
  where
    go : (other : TokenValue) (r : List ℕ) → IsToken other → bytes ≡ written other ++ r → length (written other) ≤ length (written token)
    go other r k f =
        let x = at l bytes b after other r head lead k f in
        omega (arith, ap length x.is, each x.tail r x.parts x.allowed)

pub none_at : (l : Lead) (bytes : List ℕ) (b : ℕ) (after : List ℕ) → bytes ≡ b ∷ after → lead_of b ≡ l → ((tail r : List ℕ) → after ≡ tail ++ r → Allowed l b tail → ⊥) → BeginsNone bytes
none_at l bytes b after head lead each token rest h e = let x = at l bytes b after token rest head lead h e in each x.tail rest x.parts x.allowed

pub no_comment : (bytes : List ℕ) (b : ℕ) (after : List ℕ) → bytes ≡ b ∷ after → (lead_of b ≡ Other → ⊥) → OpensComment bytes → ⊥
no_comment bytes b after head n c =
    let k = heads 47 b (42 ∷ c.0) after (sym c.1 ∙ head) in
    n (ap lead_of (sym k.0))

-- ---- what the lead of a byte tells

abbrev pub Means : Lead → ℕ → Type 0
Means LowerLetter b = is_lower_letter b ≡ true
Means UpperLetter b = is_upper_letter b ≡ true
Means Dollar b = b ≡ 36
Means SingleQuote b = b ≡ 39
Means DoubleQuote b = b ≡ 34
Means Exclamation b = b ≡ 33
Means l b = Unit {0}

by_test : (P : Lead → Type 0) (v : Bool) (x y : Lead) → (v ≡ true → P x) → P y → P (if v then x else y)
by_test P true x y f h = f refl
by_test P false x y f h = h

is_number : (b n : ℕ) → (b == n) ≡ true → b ≡ n
is_number b n h = grind (arith, nat_tests)

pub means : (b : ℕ) → Means (lead_of b) b
means b =
    by_test (λ l. Means l b) (is_lower_letter b) _ _ (λ h. h)
    (by_test (λ l. Means l b) (is_upper_letter b) _ _ (λ h. h)
    (by_test (λ l. Means l b) (b == 36) _ _ (λ h. is_number b 36 h)
    (by_test (λ l. Means l b) (b == 39) _ _ (λ h. is_number b 39 h)
    (by_test (λ l. Means l b) (b == 34) _ _ (λ h. is_number b 34 h)
    (by_test (λ l. Means l b) (is_digit b || b == 43 || b == 45) _ _ (λ h. tt)
    (by_test (λ l. Means l b) (b == 33) _ _ (λ h. is_number b 33 h) tt))))))
