-- The longest numbers and parts of numbers.
use Rattle.std.proofs.Common.{◌≡◌, ◌≤◌, ℕ, ◌+◌, Bool, true, false, List, [], ◌∷◌, ◌++◌, length, refl, ap, sym, subst, ◌∙◌, inl, inr, arith, append_assoc}
use Rattle.std.proofs.lemmas.List.{append_cancel_left, length-append}
use Rattle.std.specs.Prelude.{◌==◌, Option, Some, None, IfSome, IfNone}
use denote.Ref.{Bor}
use Rattle.me_terms.specs.Labels.{is_digit}
use Rattle.tptp_tokens.specs.Fronts.{Stops, IsRun, IsLongestFront, IsAfter, HasNoFront}
use Rattle.tptp_tokens.specs.Numbers.{IsDigits, IsSign, IsDigitsBehind, IsFraction, IsPower, IsExponent, IsTail, IsNumber}
use Rattle.tptp_tokens.proofs.Runs.{heads, differ, all_first, all_append, run_longest, run_then}

-- one or more digits, and nothing more of them
abbrev pub Digits : List ℕ → List ℕ → Type 0
Digits bytes rest = (run : List ℕ) × IsRun is_digit run bytes rest × IsDigits run

-- the bytes begin with a digit
pub record Headed (bytes : List ℕ) : Type 0 where
  pub byte : ℕ
  pub tail : List ℕ
  pub text : bytes ≡ byte ∷ tail
  pub digit : is_digit byte ≡ true

digits_headed : (ds r : List ℕ) → IsDigits ds → Headed (ds ++ r)
digits_headed [] r h = absurd (h.0 refl)
digits_headed (d ∷ ds) r h = record { byte = d; tail = ds ++ r; text = refl; digit = (all_first is_digit d ds h.1).0 }

pub digits_here : (bytes run rest : List ℕ) (byte : ℕ) (after : List ℕ) → bytes ≡ byte ∷ after → is_digit byte ≡ true → IsRun is_digit run bytes rest → IsDigits run
digits_here bytes [] rest byte after e d h = absurd (go rest (sym h.parts ∙ e) h.stops)
  where
    go : (x : List ℕ) → x ≡ byte ∷ after → Stops is_digit x → ⊥
    go [] f s = cc
    go (b ∷ x) f s = differ is_digit byte b (sym (heads b byte x after f).0) d s
digits_here bytes (b ∷ run) rest byte after e d h = ((λ n. cc), h.each)

no_digits : (after ds r : List ℕ) → Stops is_digit after → IsDigits ds → after ≡ ds ++ r → ⊥
no_digits after ds r s h e = go (digits_headed ds r h)
  where
    at : (x : List ℕ) (byte : ℕ) (tail : List ℕ) → x ≡ byte ∷ tail → is_digit byte ≡ true → Stops is_digit x → ⊥
    at [] byte tail f d k = cc
    at (b ∷ x) byte tail f d k = differ is_digit byte b (sym (heads b byte x tail f).0) d k

    go : Headed (ds ++ r) → ⊥
    go x = at after x.byte x.tail (e ∙ x.text) x.digit s

-- ---- digits behind a byte

pub behind : (mark : ℕ) (bytes after rest : List ℕ) → bytes ≡ mark ∷ after → Digits after rest → IsAfter (IsDigitsBehind mark) bytes rest
behind mark bytes after rest e h = (
  mark ∷ h.0,
  record {
    parts = e ∙ ap (λ (x : List ℕ). mark ∷ x) h.1.parts;
    has = (h.0, refl, h.2);
    longest = λ other r k f. go other r k f;
  },
)
  where
    go : (other r : List ℕ) → IsDigitsBehind mark other → bytes ≡ other ++ r → length other ≤ length (mark ∷ h.0)
    go other r k f =
        let same : mark ∷ after ≡ mark ∷ (k.0 ++ r) = sym e ∙ f ∙ ap (λ (x : List ℕ). x ++ r) k.1 in
        let le = run_longest is_digit h.0 rest k.0 r k.2.1 h.1.stops (sym h.1.parts ∙ (heads mark mark after (k.0 ++ r) same).1) in
        let len : length other ≡ length (mark ∷ k.0) = ap length k.1 in
        omega arith

pub behind_none : (mark : ℕ) (bytes after : List ℕ) → bytes ≡ mark ∷ after → Stops is_digit after → HasNoFront (IsDigitsBehind mark) bytes
behind_none mark bytes after e s front r k f =
    let same : mark ∷ after ≡ mark ∷ (k.0 ++ r) = sym e ∙ f ∙ ap (λ (x : List ℕ). x ++ r) k.1 in
    no_digits after k.0 r s k.2 (heads mark mark after (k.0 ++ r) same).1

pub behind_other : (mark : ℕ) (bytes : List ℕ) → ((rest : List ℕ) → bytes ≡ mark ∷ rest → ⊥) → HasNoFront (IsDigitsBehind mark) bytes
behind_other mark bytes none front r k f = none (k.0 ++ r) (f ∙ ap (λ (x : List ℕ). x ++ r) k.1)

pub behind_some_of : (mark : ℕ) (bytes after : List ℕ) (o : Option (Bor (List ℕ))) → bytes ≡ mark ∷ after → IfSome o (λ rest. Digits after rest.now) → IfSome o (λ rest. IsAfter (IsDigitsBehind mark) bytes rest.now)
behind_some_of mark bytes after None e h = tt
behind_some_of mark bytes after (Some rest) e h = behind mark bytes after rest.now e h

pub behind_none_of : (mark : ℕ) (bytes after : List ℕ) (o : Option (Bor (List ℕ))) → bytes ≡ mark ∷ after → IfNone o (Stops is_digit after) → IfNone o (HasNoFront (IsDigitsBehind mark) bytes)
behind_none_of mark bytes after None e h = behind_none mark bytes after e h
behind_none_of mark bytes after (Some rest) e h = tt

-- ---- signs

sign_length : (s : List ℕ) → IsSign s → length s ≤ 1
sign_length s (inl e) = omega (arith, ap length e)
sign_length s (inr (inl e)) = omega (arith, ap length e)
sign_length s (inr (inr e)) = omega (arith, ap length e)

pub sign_found : (bytes : List ℕ) (b : ℕ) (rest : List ℕ) → bytes ≡ b ∷ rest → IsSign (b ∷ []) → IsAfter IsSign bytes rest
sign_found bytes b rest e s = (b ∷ [], record { parts = e; has = s; longest = λ other r k f. sign_length other k })

pub sign_empty : (bytes : List ℕ) → ((rest : List ℕ) → bytes ≡ 43 ∷ rest → ⊥) → ((rest : List ℕ) → bytes ≡ 45 ∷ rest → ⊥) → IsAfter IsSign bytes bytes
sign_empty bytes plus minus = ([], record { parts = refl; has = inl refl; longest = go })
  where
    go : (other r : List ℕ) → IsSign other → bytes ≡ other ++ r → length other ≤ 0
    go other r (inl e) f = omega (arith, ap length e)
    go other r (inr (inl e)) f = absurd (plus r (f ∙ ap (λ (x : List ℕ). x ++ r) e))
    go other r (inr (inr e)) f = absurd (minus r (f ∙ ap (λ (x : List ℕ). x ++ r) e))

digit_is : (b c : ℕ) → b ≡ c → is_digit c ≡ true → is_digit b ≡ true
digit_is b c e h = ap is_digit e ∙ h

-- before a digit one sign alone can stand
sign_is : (s t rest : List ℕ) (d : ℕ) (y : List ℕ) → IsSign s → IsSign t → length t ≤ length s → s ++ rest ≡ t ++ d ∷ y → is_digit d ≡ true → t ≡ s
sign_is s t rest d y (inl e) (inl f) le eq h = f ∙ sym e
sign_is s t rest d y (inl e) (inr (inl f)) le eq h = absurd (omega (arith, ap length e, ap length f))
sign_is s t rest d y (inl e) (inr (inr f)) le eq h = absurd (omega (arith, ap length e, ap length f))
sign_is s t rest d y (inr (inl e)) (inl f) le eq h =
    let k : 43 ∷ rest ≡ d ∷ y = ap (λ (x : List ℕ). x ++ rest) (sym e) ∙ eq ∙ ap (λ (x : List ℕ). x ++ d ∷ y) f in
    let g : is_digit 43 ≡ true = digit_is 43 d (heads 43 d rest y k).0 h in absurd cc
sign_is s t rest d y (inr (inr e)) (inl f) le eq h =
    let k : 45 ∷ rest ≡ d ∷ y = ap (λ (x : List ℕ). x ++ rest) (sym e) ∙ eq ∙ ap (λ (x : List ℕ). x ++ d ∷ y) f in
    let g : is_digit 45 ≡ true = digit_is 45 d (heads 45 d rest y k).0 h in absurd cc
sign_is s t rest d y (inr (inl e)) (inr (inl f)) le eq h = f ∙ sym e
sign_is s t rest d y (inr (inr e)) (inr (inr f)) le eq h = f ∙ sym e
sign_is s t rest d y (inr (inl e)) (inr (inr f)) le eq h =
    let k : 43 ∷ rest ≡ 45 ∷ (d ∷ y) = ap (λ (x : List ℕ). x ++ rest) (sym e) ∙ eq ∙ ap (λ (x : List ℕ). x ++ d ∷ y) f in
    let g : ◌≡◌ {A = ℕ} 43 45 = (heads 43 45 rest (d ∷ y) k).0 in absurd (omega arith)
sign_is s t rest d y (inr (inr e)) (inr (inl f)) le eq h =
    let k : 45 ∷ rest ≡ 43 ∷ (d ∷ y) = ap (λ (x : List ℕ). x ++ rest) (sym e) ∙ eq ∙ ap (λ (x : List ℕ). x ++ d ∷ y) f in
    let g : ◌≡◌ {A = ℕ} 45 43 = (heads 45 43 rest (d ∷ y) k).0 in absurd (omega arith)

-- the sign before digits is the one that was found, and what comes after it too
sign_same : (bytes s rest t ds r : List ℕ) → IsLongestFront IsSign s bytes rest → IsSign t → IsDigits ds → bytes ≡ t ++ (ds ++ r) → (t ≡ s) × (rest ≡ ds ++ r)
sign_same bytes s rest t ds r f ht hd e = go (digits_headed ds r hd)
  where
    go : Headed (ds ++ r) → (t ≡ s) × (rest ≡ ds ++ r)
    go x =
        let same : t ≡ s = sign_is s t rest x.byte x.tail f.has ht (f.longest t (ds ++ r) ht e) (sym f.parts ∙ e ∙ ap (λ (y : List ℕ). t ++ y) x.text) x.digit in
        (same, append_cancel_left s rest (ds ++ r) (sym f.parts ∙ e ∙ ap (λ (y : List ℕ). y ++ (ds ++ r)) same))

-- ---- powers and exponents

pub power : (mark : ℕ) (bytes after rest end : List ℕ) → bytes ≡ mark ∷ after → IsAfter IsSign after rest → Digits rest end → IsAfter (IsPower mark) bytes end
power mark bytes after rest end e s h = (
  mark ∷ (s.0 ++ h.0),
  record {
    parts = e ∙ ap (λ (x : List ℕ). mark ∷ x) (s.1.parts ∙ ap (λ (x : List ℕ). s.0 ++ x) h.1.parts ∙ sym (append_assoc s.0 h.0 end));
    has = (s.0, h.0, refl, s.1.has, h.2);
    longest = λ other r k f. go other r k f;
  },
)
  where
    go : (other r : List ℕ) → IsPower mark other → bytes ≡ other ++ r → length other ≤ length (mark ∷ (s.0 ++ h.0))
    go other r k f =
        let same : mark ∷ after ≡ mark ∷ ((k.0 ++ k.1) ++ r) = sym e ∙ f ∙ ap (λ (x : List ℕ). x ++ r) k.2 in
        let tail : after ≡ k.0 ++ (k.1 ++ r) = (heads mark mark after ((k.0 ++ k.1) ++ r) same).1 ∙ append_assoc k.0 k.1 r in
        let one = sign_same after s.0 rest k.0 k.1 r s.1 k.3 k.4 tail in
        let le = run_longest is_digit h.0 end k.1 r k.4.1 h.1.stops (sym h.1.parts ∙ one.1) in
        let len : length other ≡ length (mark ∷ (k.0 ++ k.1)) = ap length k.2 in
        let sgn : length k.0 ≡ length s.0 = ap length one.0 in
        omega (arith, length-append k.0 k.1, length-append s.0 h.0)

pub power_none : (mark : ℕ) (bytes after rest : List ℕ) → bytes ≡ mark ∷ after → IsAfter IsSign after rest → Stops is_digit rest → HasNoFront (IsPower mark) bytes
power_none mark bytes after rest e s st front r k f =
    let same : mark ∷ after ≡ mark ∷ ((k.0 ++ k.1) ++ r) = sym e ∙ f ∙ ap (λ (x : List ℕ). x ++ r) k.2 in
    let tail : after ≡ k.0 ++ (k.1 ++ r) = (heads mark mark after ((k.0 ++ k.1) ++ r) same).1 ∙ append_assoc k.0 k.1 r in
    no_digits rest k.1 r st k.4 (sign_same after s.0 rest k.0 k.1 r s.1 k.3 k.4 tail).1

pub power_other : (mark : ℕ) (bytes : List ℕ) → ((rest : List ℕ) → bytes ≡ mark ∷ rest → ⊥) → HasNoFront (IsPower mark) bytes
power_other mark bytes none front r k f = none ((k.0 ++ k.1) ++ r) (f ∙ ap (λ (x : List ℕ). x ++ r) k.2)

pub power_some_of : (mark : ℕ) (bytes after rest : List ℕ) (o : Option (Bor (List ℕ))) → bytes ≡ mark ∷ after → IsAfter IsSign after rest → IfSome o (λ end. Digits rest end.now) → IfSome o (λ end. IsAfter (IsPower mark) bytes end.now)
power_some_of mark bytes after rest None e s h = tt
power_some_of mark bytes after rest (Some end) e s h = power mark bytes after rest end.now e s h

pub power_none_of : (mark : ℕ) (bytes after rest : List ℕ) (o : Option (Bor (List ℕ))) → bytes ≡ mark ∷ after → IsAfter IsSign after rest → IfNone o (Stops is_digit rest) → IfNone o (HasNoFront (IsPower mark) bytes)
power_none_of mark bytes after rest None e s h = power_none mark bytes after rest e s h
power_none_of mark bytes after rest (Some end) e s h = tt

power_length : (mark : ℕ) (bytes rest other r : List ℕ) (h : IsAfter (IsPower mark) bytes rest) → IsPower mark other → bytes ≡ other ++ r → length other ≤ length h.0
power_length mark bytes rest other r h k f = h.1.longest other r k f

pub exponent_small : (bytes rest : List ℕ) → IsAfter (IsPower 101) bytes rest → IsAfter IsExponent bytes rest
exponent_small bytes rest h = (h.0, record { parts = h.1.parts; has = inr (inl h.1.has); longest = go })
  where
    go : (other r : List ℕ) → IsExponent other → bytes ≡ other ++ r → length other ≤ length h.0
    go other r (inl e) f = omega (arith, ap length e)
    go other r (inr (inl k)) f = h.1.longest other r k f
    go other r (inr (inr k)) f =
        let p = h.1.has in
        let same : 101 ∷ ((p.0 ++ p.1) ++ rest) ≡ 69 ∷ ((k.0 ++ k.1) ++ r) = ap (λ (x : List ℕ). x ++ rest) (sym p.2) ∙ sym h.1.parts ∙ f ∙ ap (λ (x : List ℕ). x ++ r) k.2 in
        let g : ◌≡◌ {A = ℕ} 101 69 = (heads 101 69 ((p.0 ++ p.1) ++ rest) ((k.0 ++ k.1) ++ r) same).0 in absurd (omega arith)

pub exponent_great : (bytes rest : List ℕ) → HasNoFront (IsPower 101) bytes → IsAfter (IsPower 69) bytes rest → IsAfter IsExponent bytes rest
exponent_great bytes rest none h = (h.0, record { parts = h.1.parts; has = inr (inr h.1.has); longest = go })
  where
    go : (other r : List ℕ) → IsExponent other → bytes ≡ other ++ r → length other ≤ length h.0
    go other r (inl e) f = omega (arith, ap length e)
    go other r (inr (inl k)) f = absurd (none other r k f)
    go other r (inr (inr k)) f = h.1.longest other r k f

pub exponent_none : (bytes : List ℕ) → HasNoFront (IsPower 101) bytes → HasNoFront (IsPower 69) bytes → IsAfter IsExponent bytes bytes
exponent_none bytes small great = ([], record { parts = refl; has = inl refl; longest = go })
  where
    go : (other r : List ℕ) → IsExponent other → bytes ≡ other ++ r → length other ≤ 0
    go other r (inl e) f = omega (arith, ap length e)
    go other r (inr (inl k)) f = absurd (small other r k f)
    go other r (inr (inr k)) f = absurd (great other r k f)

-- ---- fractions

pub fraction_some : (bytes rest : List ℕ) → IsAfter (IsDigitsBehind 46) bytes rest → IsAfter IsFraction bytes rest
fraction_some bytes rest h = (h.0, record { parts = h.1.parts; has = inr h.1.has; longest = go })
  where
    go : (other r : List ℕ) → IsFraction other → bytes ≡ other ++ r → length other ≤ length h.0
    go other r (inl e) f = omega (arith, ap length e)
    go other r (inr k) f = h.1.longest other r k f

pub fraction_none : (bytes : List ℕ) → HasNoFront (IsDigitsBehind 46) bytes → IsAfter IsFraction bytes bytes
fraction_none bytes none = ([], record { parts = refl; has = inl refl; longest = go })
  where
    go : (other r : List ℕ) → IsFraction other → bytes ≡ other ++ r → length other ≤ 0
    go other r (inl e) f = omega (arith, ap length e)
    go other r (inr k) f = absurd (none other r k f)

-- after a fraction with digits no digit comes
fraction_stops : (bytes ds rest : List ℕ) → IsLongestFront IsFraction (46 ∷ ds) bytes rest → IsDigits ds → Stops is_digit rest
fraction_stops bytes ds [] f h = tt
fraction_stops bytes ds (b ∷ rest) f h = go (is_digit b) refl
  where
    go : (v : Bool) → is_digit b ≡ v → is_digit b ≡ false
    go false e = e
    go true e =
        let longer : IsFraction (46 ∷ (ds ++ b ∷ [])) = inr (ds ++ b ∷ [], refl, ((λ n. absurd (omega (arith, ap length n, length-append ds (b ∷ [])))), all_append is_digit ds b h.1 e)) in
        let le = f.longest (46 ∷ (ds ++ b ∷ [])) rest longer (f.parts ∙ ap (λ (x : List ℕ). 46 ∷ x) (sym (append_assoc ds (b ∷ []) rest))) in
        absurd (omega (arith, length-append ds (b ∷ [])))

-- ---- tails

stops_at : (p : ℕ → Bool) (b : ℕ) (t x : List ℕ) → t ≡ b ∷ x → p b ≡ false → Stops p t
stops_at p b t x e h = subst (λ (y : List ℕ). Stops p y) (sym e) h

stops_empty : (p : ℕ → Bool) (t : List ℕ) → t ≡ [] → Stops p t
stops_empty p t e = subst (λ (y : List ℕ). Stops p y) (sym e) tt

exponent_stops : (p : ℕ → Bool) (t : List ℕ) → p 101 ≡ false → p 69 ≡ false → IsExponent t → Stops p t
exponent_stops p t a b (inl e) = stops_empty p t e
exponent_stops p t a b (inr (inl k)) = stops_at p 101 t (k.0 ++ k.1) k.2 a
exponent_stops p t a b (inr (inr k)) = stops_at p 69 t (k.0 ++ k.1) k.2 b

real_stops : (p : ℕ → Bool) (f x : List ℕ) → p 46 ≡ false → p 101 ≡ false → p 69 ≡ false → IsFraction f → IsExponent x → Stops p (f ++ x)
real_stops p f x a b c (inl e) h = subst (λ (y : List ℕ). Stops p (y ++ x)) (sym e) (exponent_stops p x b c h)
real_stops p f x a b c (inr k) h = stops_at p 46 (f ++ x) (k.0 ++ x) (ap (λ (y : List ℕ). y ++ x) k.1) a

tail_stops : (t : List ℕ) → IsTail t → Stops is_digit t
tail_stops t (inl k) = stops_at is_digit 47 t k.0 k.1 refl
tail_stops t (inr k) = subst (λ (y : List ℕ). Stops is_digit y) (sym k.2) (real_stops is_digit k.0 k.1 refl refl refl k.3 k.4)

-- bytes that begin with a byte with p can't begin with a text that stops p, but for the empty one
led_elsewhere : (p : ℕ → Bool) (b : ℕ) (x t r : List ℕ) → p b ≡ true → Stops p t → b ∷ x ≡ t ++ r → length t ≤ 0
led_elsewhere p b x [] r h s e = omega arith
led_elsewhere p b x (c ∷ t) r h s e = absurd (differ p b c (heads b c x (t ++ r) e).0 h s)

real_longest : (bytes f rest x end g y r : List ℕ) → IsLongestFront IsFraction f bytes rest → IsLongestFront IsExponent x rest end → IsFraction g → IsExponent y → bytes ≡ g ++ (y ++ r) → length g + length y ≤ length f + length x
real_longest bytes f rest x end g y r hf hx hg hy e = go hf.has hg
  where
    go : IsFraction f → IsFraction g → length g + length y ≤ length f + length x
    go (inl a) (inl b) =
        let same : rest ≡ y ++ r = sym (hf.parts ∙ ap (λ (z : List ℕ). z ++ rest) a) ∙ e ∙ ap (λ (z : List ℕ). z ++ (y ++ r)) b in
        let le = hx.longest y r hy same in
        omega (arith, ap length a, ap length b)
    go (inl a) (inr b) = absurd (omega (arith, hf.longest g (y ++ r) (inr b) e, ap length a, ap length b.1))
    go (inr a) (inl b) =
        let same : 46 ∷ (a.0 ++ rest) ≡ y ++ r = ap (λ (z : List ℕ). z ++ rest) (sym a.1) ∙ sym hf.parts ∙ e ∙ ap (λ (z : List ℕ). z ++ (y ++ r)) b in
        let le = led_elsewhere (λ z. z == 46) 46 (a.0 ++ rest) y r refl (exponent_stops (λ z. z == 46) y refl refl hy) same in
        omega (arith, ap length b)
    go (inr a) (inr b) =
        let same : 46 ∷ (a.0 ++ rest) ≡ 46 ∷ (b.0 ++ (y ++ r)) = ap (λ (z : List ℕ). z ++ rest) (sym a.1) ∙ sym hf.parts ∙ e ∙ ap (λ (z : List ℕ). z ++ (y ++ r)) b.1 in
        let stops = fraction_stops bytes a.0 rest (subst (λ (z : List ℕ). IsLongestFront IsFraction z bytes rest) a.1 hf) a.2 in
        let le = run_then is_digit IsExponent (λ t h. exponent_stops is_digit t refl refl h) a.0 rest x end b.0 y r a.2.1 stops hx b.2.1 hy (heads 46 46 (a.0 ++ rest) (b.0 ++ (y ++ r)) same).1 in
        omega (arith, ap length a.1, ap length b.1)

pub tail_ratio : (bytes rest : List ℕ) → IsAfter (IsDigitsBehind 47) bytes rest → IsAfter IsTail bytes rest
tail_ratio bytes rest h = (h.0, record { parts = h.1.parts; has = inl h.1.has; longest = go })
  where
    go : (other r : List ℕ) → IsTail other → bytes ≡ other ++ r → length other ≤ length h.0
    go other r (inl k) f = h.1.longest other r k f
    go other r (inr k) f =
        let p = h.1.has in
        let same : 47 ∷ (p.0 ++ rest) ≡ other ++ r = ap (λ (x : List ℕ). x ++ rest) (sym p.1) ∙ sym h.1.parts ∙ f in
        let stops : Stops (λ z. z == 47) other = subst (λ (y : List ℕ). Stops (λ z. z == 47) y) (sym k.2) (real_stops (λ z. z == 47) k.0 k.1 refl refl refl k.3 k.4) in
        omega (arith, led_elsewhere (λ z. z == 47) 47 (p.0 ++ rest) other r refl stops same)

pub tail_real : (bytes rest end : List ℕ) → HasNoFront (IsDigitsBehind 47) bytes → IsAfter IsFraction bytes rest → IsAfter IsExponent rest end → IsAfter IsTail bytes end
tail_real bytes rest end none f x = (
  f.0 ++ x.0,
  record {
    parts = f.1.parts ∙ ap (λ (y : List ℕ). f.0 ++ y) x.1.parts ∙ sym (append_assoc f.0 x.0 end);
    has = inr (f.0, x.0, refl, f.1.has, x.1.has);
    longest = go;
  },
)
  where
    go : (other r : List ℕ) → IsTail other → bytes ≡ other ++ r → length other ≤ length (f.0 ++ x.0)
    go other r (inl k) e = absurd (none other r k e)
    go other r (inr k) e =
        let le = real_longest bytes f.0 rest x.0 end k.0 k.1 r f.1 x.1 k.3 k.4 (e ∙ ap (λ (y : List ℕ). y ++ r) k.2 ∙ append_assoc k.0 k.1 r) in
        omega (arith, ap length k.2, length-append k.0 k.1, length-append f.0 x.0)

-- ---- numbers

pub number : (bytes after rest end : List ℕ) → IsAfter IsSign bytes after → Digits after rest → IsAfter IsTail rest end → IsAfter IsNumber bytes end
number bytes after rest end s h t = (
  s.0 ++ (h.0 ++ t.0),
  record {
    parts = s.1.parts ∙ ap (λ (x : List ℕ). s.0 ++ x) (h.1.parts ∙ ap (λ (x : List ℕ). h.0 ++ x) t.1.parts ∙ sym (append_assoc h.0 t.0 end)) ∙ sym (append_assoc s.0 (h.0 ++ t.0) end);
    has = (s.0, h.0, t.0, refl, s.1.has, h.2, t.1.has);
    longest = λ other r k f. go other r k f;
  },
)
  where
    go : (other r : List ℕ) → IsNumber other → bytes ≡ other ++ r → length other ≤ length (s.0 ++ (h.0 ++ t.0))
    go other r k f =
        let split : bytes ≡ k.0 ++ (k.1 ++ (k.2 ++ r)) = f ∙ ap (λ (x : List ℕ). x ++ r) k.3 ∙ append_assoc k.0 (k.1 ++ k.2) r ∙ ap (λ (x : List ℕ). k.0 ++ x) (append_assoc k.1 k.2 r) in
        let one = sign_same bytes s.0 after k.0 k.1 (k.2 ++ r) s.1 k.4 k.5 split in
        let le = run_then is_digit IsTail tail_stops h.0 rest t.0 end k.1 k.2 r h.1.each h.1.stops t.1 k.5.1 k.6 (sym h.1.parts ∙ one.1) in
        omega (arith, ap length one.0, ap length k.3, length-append k.0 (k.1 ++ k.2), length-append k.1 k.2, length-append s.0 (h.0 ++ t.0), length-append h.0 t.0)

pub number_none : (bytes after : List ℕ) → IsAfter IsSign bytes after → Stops is_digit after → HasNoFront IsNumber bytes
number_none bytes after s st front r k f =
    let split : bytes ≡ k.0 ++ (k.1 ++ (k.2 ++ r)) = f ∙ ap (λ (x : List ℕ). x ++ r) k.3 ∙ append_assoc k.0 (k.1 ++ k.2) r ∙ ap (λ (x : List ℕ). k.0 ++ x) (append_assoc k.1 k.2 r) in
    no_digits after k.1 (k.2 ++ r) st k.5 (sign_same bytes s.0 after k.0 k.1 (k.2 ++ r) s.1 k.4 k.5 split).1
