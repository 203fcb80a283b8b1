-- The first token of bytes is found by its first byte.
use Rattle.std.proofs.Common.{◌≡◌, ◌≢◌, ◌≤◌, ◌-◌, ℕ, ◌+◌, Bool, true, false, List, [], ◌∷◌, ◌++◌, length, take, refl, sym, ap, subst, ◌∙◌, inl, inr, arith, append_assoc}
use Rattle.std.proofs.lemmas.Bool.Decides.{nat_tests}
use Rattle.std.proofs.lemmas.List.{append_cancel_right}
use Rattle.std.specs.Prelude.{◌⊎◌, ◌==◌, if◌then◌else◌}
use Rattle.std.specs.List.{list_all}
use Rattle.me_terms.specs.Labels.{is_digit, is_printable}
use Rattle.tptp_tokens.specs.Bytes.{is_lower_letter, is_upper_letter, is_word_byte, is_other_sign}
use Rattle.tptp_tokens.specs.Founds.{IsClosedQuote, BeginsSignsAlone}
use Rattle.tptp_tokens.specs.Fronts.{IsRun, IsAfter, HasNoFront}
use Rattle.tptp_tokens.specs.Leads.{lead_of, sign_kind}
use Rattle.tptp_tokens.specs.Numbers.{IsNumber}
use Rattle.tptp_tokens.specs.Quoted.{escaped, unescaped}
use Rattle.tptp_tokens.specs.Tokens.{IsText, written_as, written, unquoted_text, IsLongest, IsFirstAs, IsBad, OpensComment, BeginsNone}
use Rattle.tptp_tokens.specs.declared.lead.Lead.{Lead}
use Rattle.tptp_tokens.specs.declared.lead.Lead.TheVariants.{LowerLetter, UpperLetter, Dollar, SingleQuote, DoubleQuote, Numeric, Exclamation, Other}
use Rattle.tptp_tokens.specs.declared.token.TokenKind.{TokenKind}
use Rattle.tptp_tokens.specs.declared.token.TokenKind.TheVariants as kinds
use Rattle.tptp_tokens.proofs.Runs.{heads, run_longest, word_of}
use Rattle.tptp_tokens.proofs.Quotes.{one_text, text_is, front_is}
use Rattle.tptp_tokens.proofs.Leads.{Allowed, at, longest_at, none_at, no_comment, means, Means, NumberLed, number_led}

is_number : (b n : ℕ) → (b == n) ≡ true → b ≡ n
is_number b n h = grind (arith, nat_tests)

-- what is found, by equations
pub found_is : (kind k : TokenKind) (inside bytes r rest : List ℕ) → k ≡ kind → r ≡ rest → IsFirstAs kind (unquoted_text kind inside) bytes rest → IsFirstAs k (unquoted_text k inside) bytes r
found_is kind k inside bytes r rest e f h =
    subst (λ (x : TokenKind). IsFirstAs x (unquoted_text x inside) bytes r) (sym e) (subst (λ (x : List ℕ). IsFirstAs kind (unquoted_text kind inside) bytes x) (sym f) h)

pub bad_found : (k : TokenKind) (inside bytes r : List ℕ) → k ≡ kinds.Bad → inside ≡ bytes → r ≡ [] → IsBad bytes → IsFirstAs k (unquoted_text k inside) bytes r
bad_found k inside bytes r e f g h = subst (λ (x : TokenKind). IsFirstAs x (unquoted_text x inside) bytes r) (sym e) (h, f, g)

some_bytes : (bytes : List ℕ) (b : ℕ) (after : List ℕ) → bytes ≡ b ∷ after → bytes ≢ []
some_bytes bytes b after e n = let k : b ∷ after ≡ [] = sym e ∙ n in cc

pub bad_none : (bytes : List ℕ) (b : ℕ) (after : List ℕ) → bytes ≡ b ∷ after → BeginsNone bytes → IsBad bytes
bad_none bytes b after e h = record { some = some_bytes bytes b after e; cause = inr h }

pub bad_comment : (bytes inside : List ℕ) → bytes ≡ 47 ∷ 42 ∷ inside → IsBad bytes
bad_comment bytes inside e = record { some = some_bytes bytes 47 (42 ∷ inside) e; cause = inl (inside, e) }

-- the token before the rest is the one that is made of these bytes
pub inside_is : (bytes text inside rest : List ℕ) → bytes ≡ text ++ rest → bytes ≡ inside ++ rest → inside ≡ text
inside_is bytes text inside rest e f = append_cancel_right inside text rest (sym f ∙ e)

-- a token whose bytes are its text is the longest, where no tail is longer
plain_longest : (l : Lead) (bytes : List ℕ) (b : ℕ) (after : List ℕ) (kind : TokenKind) (inside rest : List ℕ) → written_as kind inside ≡ inside → bytes ≡ b ∷ after → lead_of b ≡ l → IsText kind inside → bytes ≡ inside ++ rest
    → ((tail r : List ℕ) → after ≡ tail ++ r → Allowed l b tail → 1 + length tail ≤ length inside) → IsLongest (record { kind = kind; text = inside }) bytes rest
plain_longest l bytes b after kind inside rest w head lead h e each =
    longest_at l bytes b after (record { kind = kind; text = inside }) rest head lead h (e ∙ ap (λ (x : List ℕ). x ++ rest) (sym w))
    (λ tail r p a. subst (λ (x : List ℕ). 1 + length tail ≤ length x) (sym w) (each tail r p a))

differs : (l : Lead) (b : ℕ) → lead_of b ≡ l → (l ≡ Other → ⊥) → lead_of b ≡ Other → ⊥
differs l b e n f = n (sym e ∙ f)

meaning : (l : Lead) (b : ℕ) → lead_of b ≡ l → Means l b
meaning l b e = subst (λ (x : Lead). Means x b) e (means b)

-- ---- words

head_parts : (bytes : List ℕ) (b : ℕ) (after run rest : List ℕ) → bytes ≡ b ∷ after → after ≡ run ++ rest → bytes ≡ (b ∷ run) ++ rest
head_parts bytes b after run rest e f = e ∙ ap (λ (x : List ℕ). b ∷ x) f

pub word_front : (bytes : List ℕ) (b : ℕ) (after rest : List ℕ) → bytes ≡ b ∷ after → (run : List ℕ) × IsRun is_word_byte run after rest → (text : List ℕ) × (bytes ≡ text ++ rest)
word_front bytes b after rest e h = (b ∷ h.0, head_parts bytes b after h.0 rest e h.1.parts)

pub dollar_front : (bytes : List ℕ) (b : ℕ) (after second rest : List ℕ) → bytes ≡ b ∷ after → after ≡ 36 ∷ second → (run : List ℕ) × IsRun is_word_byte run second rest → (text : List ℕ) × (bytes ≡ text ++ rest)
dollar_front bytes b after second rest e f h = (b ∷ 36 ∷ h.0, e ∙ ap (λ (x : List ℕ). b ∷ x) (f ∙ ap (λ (x : List ℕ). 36 ∷ x) h.1.parts))

pub lower_first : (bytes : List ℕ) (b : ℕ) (after inside rest : List ℕ) → bytes ≡ b ∷ after → lead_of b ≡ LowerLetter → (run : List ℕ) × IsRun is_word_byte run after rest → bytes ≡ inside ++ rest → IsFirstAs kinds.LowerWord inside bytes rest
lower_first bytes b after inside rest head lead h parts =
    let same : inside ≡ b ∷ h.0 = inside_is bytes (b ∷ h.0) inside rest (head_parts bytes b after h.0 rest head h.1.parts) parts in (
      plain_longest LowerLetter bytes b after kinds.LowerWord inside rest refl head lead (subst (λ (x : List ℕ). IsText kinds.LowerWord x) (sym same) (word_of is_lower_letter b h.0 (meaning LowerLetter b lead) h.1.each)) parts
          (λ tail r p a. omega (arith, ap length same, run_longest is_word_byte h.0 rest tail r a h.1.stops (sym h.1.parts ∙ p))),
      no_comment bytes b after head (differs LowerLetter b lead (λ e. cc)),
    )

pub upper_first : (bytes : List ℕ) (b : ℕ) (after inside rest : List ℕ) → bytes ≡ b ∷ after → lead_of b ≡ UpperLetter → (run : List ℕ) × IsRun is_word_byte run after rest → bytes ≡ inside ++ rest → IsFirstAs kinds.Variable inside bytes rest
upper_first bytes b after inside rest head lead h parts =
    let same : inside ≡ b ∷ h.0 = inside_is bytes (b ∷ h.0) inside rest (head_parts bytes b after h.0 rest head h.1.parts) parts in (
      plain_longest UpperLetter bytes b after kinds.Variable inside rest refl head lead (subst (λ (x : List ℕ). IsText kinds.Variable x) (sym same) (word_of is_upper_letter b h.0 (meaning UpperLetter b lead) h.1.each)) parts
          (λ tail r p a. omega (arith, ap length same, run_longest is_word_byte h.0 rest tail r a h.1.stops (sym h.1.parts ∙ p))),
      no_comment bytes b after head (differs UpperLetter b lead (λ e. cc)),
    )

-- behind two dollars
two_dollars : (after second run rest : List ℕ) → after ≡ 36 ∷ second → IsRun is_word_byte run second rest → (tail r : List ℕ) → after ≡ tail ++ r → Allowed Dollar 36 tail → length tail ≤ 1 + length run
two_dollars after second run rest f h tail r p a = go a.1
  where
    go : ((tail ≡ a.0) ⊎ (tail ≡ 36 ∷ a.0)) → length tail ≤ 1 + length run
    go (inl e) = omega (arith, ap length e, run_longest is_word_byte [] (36 ∷ second) a.0 r a.2 refl (sym f ∙ p ∙ ap (λ (x : List ℕ). x ++ r) e))
    go (inr e) = omega (arith, ap length e, run_longest is_word_byte run rest a.0 r a.2 h.stops (sym h.parts ∙ (heads 36 36 second (a.0 ++ r) (sym f ∙ p ∙ ap (λ (x : List ℕ). x ++ r) e)).1))

-- behind one dollar
one_dollar : (after run rest : List ℕ) → ((second : List ℕ) → after ≡ 36 ∷ second → ⊥) → IsRun is_word_byte run after rest → (tail r : List ℕ) → after ≡ tail ++ r → Allowed Dollar 36 tail → length tail ≤ length run
one_dollar after run rest none h tail r p a = go a.1
  where
    go : ((tail ≡ a.0) ⊎ (tail ≡ 36 ∷ a.0)) → length tail ≤ length run
    go (inl e) = omega (arith, ap length e, run_longest is_word_byte run rest a.0 r a.2 h.stops (sym h.parts ∙ p ∙ ap (λ (x : List ℕ). x ++ r) e))
    go (inr e) = absurd (none (a.0 ++ r) (p ∙ ap (λ (x : List ℕ). x ++ r) e))

pub two_dollars_first : (bytes : List ℕ) (b : ℕ) (after second inside rest : List ℕ) → bytes ≡ b ∷ after → lead_of b ≡ Dollar → after ≡ 36 ∷ second → (run : List ℕ) × IsRun is_word_byte run second rest → bytes ≡ inside ++ rest → IsFirstAs kinds.DollarWord inside bytes rest
unfolding dollar_front
two_dollars_first bytes b after second inside rest head lead f h parts =
    let same : inside ≡ b ∷ 36 ∷ h.0 = inside_is bytes (b ∷ 36 ∷ h.0) inside rest (dollar_front bytes b after second rest head f h).1 parts in
    let is36 : b ≡ 36 = meaning Dollar b lead in (
      plain_longest Dollar bytes b after kinds.DollarWord inside rest refl head lead (h.0, inr (same ∙ ap (λ (x : ℕ). x ∷ 36 ∷ h.0) is36), h.1.each) parts
          (λ tail r p a. omega (arith, ap length same, two_dollars after second h.0 rest f h.1 tail r p a)),
      no_comment bytes b after head (differs Dollar b lead (λ e. cc)),
    )

pub one_dollar_first : (bytes : List ℕ) (b : ℕ) (after inside rest : List ℕ) → bytes ≡ b ∷ after → lead_of b ≡ Dollar → ((second : List ℕ) → after ≡ 36 ∷ second → ⊥) → (run : List ℕ) × IsRun is_word_byte run after rest → bytes ≡ inside ++ rest → IsFirstAs kinds.DollarWord inside bytes rest
one_dollar_first bytes b after inside rest head lead none h parts =
    let same : inside ≡ b ∷ h.0 = inside_is bytes (b ∷ h.0) inside rest (head_parts bytes b after h.0 rest head h.1.parts) parts in
    let is36 : b ≡ 36 = meaning Dollar b lead in (
      plain_longest Dollar bytes b after kinds.DollarWord inside rest refl head lead (h.0, inl (same ∙ ap (λ (x : ℕ). x ∷ h.0) is36), h.1.each) parts
          (λ tail r p a. omega (arith, ap length same, one_dollar after h.0 rest none h.1 tail r p a)),
      no_comment bytes b after head (differs Dollar b lead (λ e. cc)),
    )

-- ---- quotes

-- a text that is written behind a quote is closed
closes : (q : ℕ) (after text r : List ℕ) → list_all is_printable text ≡ true → after ≡ (escaped q text ++ q ∷ []) ++ r → IsClosedQuote q (escaped q text) after r
closes q after text r h e = record { text = text; each = h; is = refl; parts = e ∙ append_assoc (escaped q text) (q ∷ []) r }

quote_parts : (q : ℕ) (bytes : List ℕ) (b : ℕ) (after inside rest : List ℕ) → bytes ≡ b ∷ after → b ≡ q → (c : IsClosedQuote q inside after rest) → bytes ≡ (q ∷ (escaped q c.text ++ q ∷ [])) ++ rest
quote_parts q bytes b after inside rest head e c =
    head ∙ ap (λ (x : ℕ). x ∷ after) e ∙ ap (λ (x : List ℕ). q ∷ x) (c.parts ∙ ap (λ (x : List ℕ). x ++ q ∷ rest) c.is ∙ sym (append_assoc (escaped q c.text) (q ∷ []) rest))

-- each text that is closed is the same
same_text : (q : ℕ) (after inside rest text r : List ℕ) → q ≢ 92 → (c : IsClosedQuote q inside after rest) → after ≡ (escaped q text ++ q ∷ []) ++ r → c.text ≡ text
same_text q after inside rest text r n c e =
    (one_text q c.text text rest r n (ap (λ (x : List ℕ). x ++ q ∷ rest) (sym c.is) ∙ sym c.parts ∙ e ∙ append_assoc (escaped q text) (q ∷ []) r)).0

quote_length : (q : ℕ) (text u tail : List ℕ) → text ≡ u → tail ≡ escaped q u ++ q ∷ [] → 1 + length tail ≤ length (q ∷ (escaped q text ++ q ∷ []))
quote_length q text u tail e f = let k : tail ≡ escaped q text ++ q ∷ [] = f ∙ ap (λ (x : List ℕ). escaped q x ++ q ∷ []) (sym e) in omega (arith, ap length k)

not_39 : ◌≡◌ {A = ℕ} 39 92 → ⊥
not_39 e = absurd (omega arith)

not_34 : ◌≡◌ {A = ℕ} 34 92 → ⊥
not_34 e = absurd (omega arith)

pub is_empty : (v : Bool) (x : List ℕ) → v ≡ (length x == 0) → v ≡ true → x ≡ []
is_empty v [] e h = refl
is_empty v (b ∷ x) e h = let k : (length (b ∷ x) == 0) ≡ true = sym e ∙ h in absurd (omega (arith, is_number (length (b ∷ x)) 0 k))

pub is_some : (v : Bool) (x : List ℕ) → v ≡ (length x == 0) → v ≡ false → x ≢ []
is_some v x e h n = let k : (length x == 0) ≡ true = ap (λ (y : List ℕ). length y == 0) n in cc

pub single_first : (bytes : List ℕ) (b : ℕ) (after inside rest : List ℕ) → bytes ≡ b ∷ after → lead_of b ≡ SingleQuote → IsClosedQuote 39 inside after rest → inside ≢ [] → IsFirstAs kinds.SingleQuoted (unescaped inside) bytes rest
single_first bytes b after inside rest head lead c n =
    subst (λ (x : List ℕ). IsFirstAs kinds.SingleQuoted x bytes rest) (sym (text_is 39 after inside rest c)) (
      longest_at SingleQuote bytes b after (record { kind = kinds.SingleQuoted; text = c.text }) rest head lead ((λ e. n (c.is ∙ ap (escaped 39) e)), c.each)
          (quote_parts 39 bytes b after inside rest head (meaning SingleQuote b lead) c)
          (λ tail r p a. quote_length 39 c.text a.0 tail (same_text 39 after inside rest a.0 r not_39 c (p ∙ ap (λ (x : List ℕ). x ++ r) a.3)) a.3),
      no_comment bytes b after head (differs SingleQuote b lead (λ e. cc)),
    )

pub single_empty : (bytes : List ℕ) (b : ℕ) (after inside rest : List ℕ) → bytes ≡ b ∷ after → lead_of b ≡ SingleQuote → IsClosedQuote 39 inside after rest → inside ≡ [] → IsBad bytes
single_empty bytes b after inside rest head lead c n =
    bad_none bytes b after head (none_at SingleQuote bytes b after head lead
    (λ tail r p a. a.1 (sym (same_text 39 after inside rest a.0 r not_39 c (p ∙ ap (λ (x : List ℕ). x ++ r) a.3)) ∙ sym (text_is 39 after inside rest c) ∙ ap (λ (x : List ℕ). unescaped x) n)))

pub single_open : (bytes : List ℕ) (b : ℕ) (after : List ℕ) → bytes ≡ b ∷ after → lead_of b ≡ SingleQuote → ((inside rest : List ℕ) → IsClosedQuote 39 inside after rest → ⊥) → IsBad bytes
single_open bytes b after head lead none =
    bad_none bytes b after head (none_at SingleQuote bytes b after head lead
    (λ tail r p a. none (escaped 39 a.0) r (closes 39 after a.0 r a.2 (p ∙ ap (λ (x : List ℕ). x ++ r) a.3))))

pub distinct_first : (bytes : List ℕ) (b : ℕ) (after inside rest : List ℕ) → bytes ≡ b ∷ after → lead_of b ≡ DoubleQuote → IsClosedQuote 34 inside after rest → IsFirstAs kinds.Distinct (unescaped inside) bytes rest
distinct_first bytes b after inside rest head lead c =
    subst (λ (x : List ℕ). IsFirstAs kinds.Distinct x bytes rest) (sym (text_is 34 after inside rest c)) (
      longest_at DoubleQuote bytes b after (record { kind = kinds.Distinct; text = c.text }) rest head lead c.each
          (quote_parts 34 bytes b after inside rest head (meaning DoubleQuote b lead) c)
          (λ tail r p a. quote_length 34 c.text a.0 tail (same_text 34 after inside rest a.0 r not_34 c (p ∙ ap (λ (x : List ℕ). x ++ r) a.2)) a.2),
      no_comment bytes b after head (differs DoubleQuote b lead (λ e. cc)),
    )

pub distinct_open : (bytes : List ℕ) (b : ℕ) (after : List ℕ) → bytes ≡ b ∷ after → lead_of b ≡ DoubleQuote → ((inside rest : List ℕ) → IsClosedQuote 34 inside after rest → ⊥) → IsBad bytes
distinct_open bytes b after head lead none =
    bad_none bytes b after head (none_at DoubleQuote bytes b after head lead
    (λ tail r p a. none (escaped 34 a.0) r (closes 34 after a.0 r a.1 (p ∙ ap (λ (x : List ℕ). x ++ r) a.2))))

-- ---- numbers

number_longest : (kind : TokenKind) (bytes inside rest : List ℕ) → written_as kind inside ≡ inside → IsText kind inside → (h : IsAfter IsNumber bytes rest) → inside ≡ h.0 → IsLongest (record { kind = kind; text = inside }) bytes rest × (OpensComment bytes → ⊥)
number_longest kind bytes inside rest w law h same = go (number_led h.0 h.1.has)
  where
    go : NumberLed h.0 → IsLongest (record { kind = kind; text = inside }) bytes rest × (OpensComment bytes → ⊥)
    go x =
        let head : bytes ≡ x.byte ∷ (x.tail ++ rest) = h.1.parts ∙ ap (λ (y : List ℕ). y ++ rest) x.is in
        (plain_longest Numeric bytes x.byte (x.tail ++ rest) kind inside rest w head x.lead law (h.1.parts ∙ ap (λ (y : List ℕ). y ++ rest) (sym same)) (each x head), no_comment bytes x.byte (x.tail ++ rest) head (differs Numeric x.byte x.lead (λ e. cc)))
      where
        each : (x : NumberLed h.0) → bytes ≡ x.byte ∷ (x.tail ++ rest) → (tail r : List ℕ) → x.tail ++ rest ≡ tail ++ r → Allowed Numeric x.byte tail → 1 + length tail ≤ length inside
        each x head tail r p (inl a) = omega (arith, ap length same, h.1.longest (x.byte ∷ tail) r a (head ∙ ap (λ (y : List ℕ). x.byte ∷ y) p))
        each x head tail r p (inr a) = omega (arith, ap length same, ap length x.is, ap length a.0)

pub number_first : (bytes inside rest : List ℕ) (k : TokenKind) → IsAfter IsNumber bytes rest → inside ≡ take (length bytes - length rest) bytes → k ≡ (if list_all is_digit inside then kinds.Digits else kinds.Number) → IsFirstAs k (unquoted_text k inside) bytes rest
number_first bytes inside rest k h e f =
    found_is (if list_all is_digit inside then kinds.Digits else kinds.Number) k inside bytes rest rest f refl (go (list_all is_digit inside) refl)
  where
    same : inside ≡ h.0
    same = e ∙ front_is bytes h.0 rest h.1.parts

    some : inside ≢ []
    some n = let x = number_led h.0 h.1.has in let z : x.byte ∷ x.tail ≡ [] = sym x.is ∙ sym same ∙ n in cc

    go : (v : Bool) → list_all is_digit inside ≡ v → IsFirstAs (if v then kinds.Digits else kinds.Number) (unquoted_text (if v then kinds.Digits else kinds.Number) inside) bytes rest
    go true d = number_longest kinds.Digits bytes inside rest refl (some, d) h same
    go false d = number_longest kinds.Number bytes inside rest refl (subst IsNumber (sym same) h.1.has, λ x. let z : list_all is_digit inside ≡ true = x.1 in cc) h same

-- ---- signs

pub one_front : (bytes : List ℕ) (b : ℕ) (after : List ℕ) → bytes ≡ b ∷ after → (text : List ℕ) × (bytes ≡ text ++ after)
one_front bytes b after e = (b ∷ [], e)

pub not_equal_front : (bytes : List ℕ) (b : ℕ) (after rest : List ℕ) → bytes ≡ b ∷ after → after ≡ 61 ∷ rest → (text : List ℕ) × (bytes ≡ text ++ rest)
not_equal_front bytes b after rest e f = (b ∷ 61 ∷ [], e ∙ ap (λ (x : List ℕ). b ∷ x) f)

pub not_equal_first : (bytes : List ℕ) (b : ℕ) (after inside rest : List ℕ) → bytes ≡ b ∷ after → lead_of b ≡ Exclamation → after ≡ 61 ∷ rest → bytes ≡ inside ++ rest → IsFirstAs kinds.NotEqual inside bytes rest
unfolding not_equal_front
not_equal_first bytes b after inside rest head lead f parts =
    let same : inside ≡ b ∷ 61 ∷ [] = inside_is bytes (b ∷ 61 ∷ []) inside rest (not_equal_front bytes b after rest head f).1 parts in
    (plain_longest Exclamation bytes b after kinds.NotEqual inside rest refl head lead (same ∙ ap (λ (x : ℕ). x ∷ 61 ∷ []) (meaning Exclamation b lead)) parts (each same), no_comment bytes b after head (differs Exclamation b lead (λ e. cc)))
  where
    each : inside ≡ b ∷ 61 ∷ [] → (tail r : List ℕ) → after ≡ tail ++ r → Allowed Exclamation b tail → 1 + length tail ≤ length inside
    each same tail r p (inl a) = omega (arith, ap length same, ap length a)
    each same tail r p (inr a) = omega (arith, ap length same, ap length a.0)

pub alone_exclamation : (bytes : List ℕ) (b : ℕ) (after : List ℕ) → bytes ≡ b ∷ after → lead_of b ≡ Exclamation → ((rest : List ℕ) → after ≡ 61 ∷ rest → ⊥) → BeginsSignsAlone b bytes
alone_exclamation bytes b after head lead none token rest h e = let x = at Exclamation bytes b after token rest head lead h e in go x.tail x.is x.parts x.allowed
  where
    go : (tail : List ℕ) → written token ≡ b ∷ tail → after ≡ tail ++ rest → Allowed Exclamation b tail → (written token ≡ b ∷ []) × (sign_kind b ≢ kinds.Bad)
    go tail i p (inl a) = absurd (none rest (p ∙ ap (λ (x : List ℕ). x ++ rest) a))
    go tail i p (inr a) = (i ∙ ap (λ (x : List ℕ). b ∷ x) a.0, a.1)

pub alone_numeric : (bytes : List ℕ) (b : ℕ) (after : List ℕ) → bytes ≡ b ∷ after → lead_of b ≡ Numeric → HasNoFront IsNumber bytes → BeginsSignsAlone b bytes
alone_numeric bytes b after head lead none token rest h e = let x = at Numeric bytes b after token rest head lead h e in go x.tail x.is x.parts x.allowed
  where
    go : (tail : List ℕ) → written token ≡ b ∷ tail → after ≡ tail ++ rest → Allowed Numeric b tail → (written token ≡ b ∷ []) × (sign_kind b ≢ kinds.Bad)
    go tail i p (inl a) = absurd (none (b ∷ tail) rest a (head ∙ ap (λ (x : List ℕ). b ∷ x) p))
    go tail i p (inr a) = (i ∙ ap (λ (x : List ℕ). b ∷ x) a.0, a.1)

pub alone_other : (bytes : List ℕ) (b : ℕ) (after : List ℕ) → bytes ≡ b ∷ after → lead_of b ≡ Other → BeginsSignsAlone b bytes
alone_other bytes b after head lead token rest h e =
    let x = at Other bytes b after token rest head lead h e in (x.is ∙ ap (λ (y : List ℕ). b ∷ y) x.allowed.0, x.allowed.1)

pub no_comment_at : (l : Lead) (bytes : List ℕ) (b : ℕ) (after : List ℕ) → bytes ≡ b ∷ after → lead_of b ≡ l → (l ≡ Other → ⊥) → OpensComment bytes → ⊥
no_comment_at l bytes b after head lead n = no_comment bytes b after head (differs l b lead n)

pub sign_bad : (bytes : List ℕ) (b : ℕ) (after : List ℕ) → bytes ≡ b ∷ after → BeginsSignsAlone b bytes → sign_kind b ≡ kinds.Bad → IsBad bytes
sign_bad bytes b after head alone e = bad_none bytes b after head (λ token rest h p. (alone token rest h p).1 e)

by_test : (P : TokenKind → Type 0) (v : Bool) (x y : TokenKind) → (v ≡ true → P x) → P y → P (if v then x else y)
by_test P true x y f h = f refl
by_test P false x y f h = h

record Alone (b : ℕ) (bytes after : List ℕ) : Type 0 where
  head : bytes ≡ b ∷ after
  signs : BeginsSignsAlone b bytes
  no_comment : OpensComment bytes → ⊥

alone_first : (kind : TokenKind) (b : ℕ) (bytes after : List ℕ) → Alone b bytes after → written_as kind (b ∷ []) ≡ b ∷ [] → IsText kind (b ∷ []) → IsLongest (record { kind = kind; text = b ∷ [] }) bytes after × (OpensComment bytes → ⊥)
alone_first kind b bytes after a w law = (
  record {
    lawful = law;
    parts = a.head ∙ ap (λ (x : List ℕ). x ++ after) (sym w);
    longest = λ other r h e. omega (arith, ap length (a.signs other r h e).0, ap length w);
  },
  a.no_comment,
)

exact : (b n : ℕ) → (b == n) ≡ true → b ∷ [] ≡ n ∷ []
exact b n h = ap (λ (x : ℕ). x ∷ []) (is_number b n h)

abbrev SignFirst : ℕ → List ℕ → List ℕ → TokenKind → Type 0
SignFirst b bytes after k = (k ≡ kinds.Bad → ⊥) → IsFirstAs k (unquoted_text k (b ∷ [])) bytes after

sign_by_kind : (b : ℕ) (bytes after : List ℕ) → Alone b bytes after → SignFirst b bytes after (sign_kind b)
sign_by_kind b bytes after a =
    by_test (SignFirst b bytes after) (b == 40) _ _ (λ h n. alone_first kinds.OpenRound b bytes after a refl (exact b 40 h))
    (by_test (SignFirst b bytes after) (b == 41) _ _ (λ h n. alone_first kinds.CloseRound b bytes after a refl (exact b 41 h))
    (by_test (SignFirst b bytes after) (b == 91) _ _ (λ h n. alone_first kinds.OpenSquare b bytes after a refl (exact b 91 h))
    (by_test (SignFirst b bytes after) (b == 93) _ _ (λ h n. alone_first kinds.CloseSquare b bytes after a refl (exact b 93 h))
    (by_test (SignFirst b bytes after) (b == 44) _ _ (λ h n. alone_first kinds.Comma b bytes after a refl (exact b 44 h))
    (by_test (SignFirst b bytes after) (b == 46) _ _ (λ h n. alone_first kinds.Dot b bytes after a refl (exact b 46 h))
    (by_test (SignFirst b bytes after) (b == 124) _ _ (λ h n. alone_first kinds.Bar b bytes after a refl (exact b 124 h))
    (by_test (SignFirst b bytes after) (b == 126) _ _ (λ h n. alone_first kinds.Tilde b bytes after a refl (exact b 126 h))
    (by_test (SignFirst b bytes after) (b == 61) _ _ (λ h n. alone_first kinds.Equal b bytes after a refl (exact b 61 h))
    (by_test (SignFirst b bytes after) (is_other_sign b) _ _ (λ h n. alone_first kinds.OtherSign b bytes after a refl (b, refl, h))
    (λ n. absurd (n refl)))))))))))

pub sign_first : (bytes : List ℕ) (b : ℕ) (after inside : List ℕ) (k : TokenKind) → bytes ≡ b ∷ after → BeginsSignsAlone b bytes → (OpensComment bytes → ⊥) → k ≡ sign_kind b → (k ≡ kinds.Bad → ⊥) → bytes ≡ inside ++ after
    → IsFirstAs k (unquoted_text k inside) bytes after
sign_first bytes b after inside k head signs none e n parts =
    let same : inside ≡ b ∷ [] = inside_is bytes (b ∷ []) inside after head parts in
    let first : SignFirst b bytes after k = subst (SignFirst b bytes after) (sym e) (sign_by_kind b bytes after (record { head = head; signs = signs; no_comment = none })) in
    subst (λ (x : List ℕ). IsFirstAs k (unquoted_text k x) bytes after) (sym same) (first n)
