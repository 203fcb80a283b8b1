-- How a walk goes back along its branch.
use Rattle.std.proofs.Common.{◌≡◌, ℕ, ◌<◌, ◌≤◌, Bool, true, false, IsTrue, not, ◌↔◌, [], ◌∷◌, ◌++◌, length, length-append, append-nil, append_assoc, refl, sym, ap, ◌∙◌, arith}
use Rattle.me_terms.specs.Values.{EntryValue, SplitLeft}
use Rattle.me_terms.specs.Context.{Context, add}
use Rattle.branch_walk.specs.Turning.{AreNotLeft, IsAllBack, IsBackAtLeft}
use Rattle.branch_walk.proofs.Ends.{longer}

-- what was taken off begins no left branch, and what is left is no shorter than the base
pub record IsBack (base : ℕ) (old now : Context) : Type 0 where
  pub above : base ≤ length now
  pub later : Context
  pub was : old ≡ now ++ later
  pub none : AreNotLeft later

pub not_yet : (base : ℕ) (old : Context) → base ≤ length old → IsBack base old old
not_yet base old le = record { above = le; later = []; was = sym (append-nil old); none = tt }

not_left : (b : Bool) (e : EntryValue) → b ≡ false → (IsTrue b ↔ (e.reason ≡ SplitLeft)) → e.reason ≡ SplitLeft → ⊥
not_left true e h test is = cc h
not_left false e h test is = let bad : IsTrue false = test.1 is in cc bad

is_left : (b : Bool) (e : EntryValue) → b ≡ true → (IsTrue b ↔ (e.reason ≡ SplitLeft)) → e.reason ≡ SplitLeft
is_left true e h test = test.0 refl
is_left false e h test = cc h

-- the last entry, which a test told to begin no left branch, is taken off
pub goes_back : (base : ℕ) (old now new : Context) → IsBack base old now → base < length now → (e : EntryValue) → now ≡ add new e → (b : Bool) → b ≡ false → ((before : Context) (last : EntryValue) → now ≡ add before last → IsTrue b ↔ (last.reason ≡ SplitLeft)) → IsBack base old new
goes_back base old now new h lt e is b isnt test =
    let many = ap length is in
    let more = longer new e in
    record {
      above = omega (arith, many, more, lt);
      later = e ∷ h.later;
      was = h.was ∙ (ap (λ (c : Context). c ++ h.later) is ∙ append_assoc new (e ∷ []) h.later);
      none = (not_left b e isnt (test new e is), h.none);
    }

pub is_shorter : (now new : Context) (e : EntryValue) → now ≡ add new e → length new < length now
is_shorter now new e is = let many = ap length is in let more = longer new e in omega (arith, many, more)

-- a context of some entries has a last one
pub ends : (context : Context) → 1 ≤ length context → (before : Context) × (last : EntryValue) × (context ≡ add before last)
ends [] some = absurd (omega (arith, some))
ends (e ∷ []) some = ([], e, refl)
ends (e ∷ (f ∷ es)) some =
    let later = ends (f ∷ es) (omega arith) in
    (e ∷ later.0, later.1, λ i. e ∷ later.2 i)

pub at_left : (base : ℕ) (old now : Context) → IsBack base old now → 1 ≤ base → base < length now → (b : Bool) → b ≡ true → ((before : Context) (last : EntryValue) → now ≡ add before last → IsTrue b ↔ (last.reason ≡ SplitLeft)) → IsBackAtLeft base old now
at_left base old now h some lt b sure test =
    let last = ends now (omega (arith, lt)) in
    let many = ap length last.2 in
    let more = longer last.0 last.1 in
    record {
      before = last.0;
      left = last.1;
      later = h.later;
      above = omega (arith, many, more, lt);
      was = h.was ∙ (ap (λ (c : Context). c ++ h.later) last.2 ∙ append_assoc last.0 (last.1 ∷ []) h.later);
      is_left = is_left b last.1 sure (test last.0 last.1 last.2);
      last = h.none;
      now_is = last.2;
    }

pub none_left : (base : ℕ) (old now : Context) → IsBack base old now → length now ≤ base → IsAllBack base old now
none_left base old now h le = let above = h.above in record { later = h.later; was = h.was; none = h.none; at_base = omega (arith, above, le) }

-- a call that takes the last entry off does so where two entries stand
pub taken_off : (r : Bool) (now new : Context) → (IsTrue r → (e : EntryValue) × (now ≡ add new e)) → (IsTrue (not r) → length now ≡ 1) → 1 < length now → (e : EntryValue) × (now ≡ add new e)
taken_off true now new f g lt = f refl
taken_off false now new f g lt = let one = g refl in absurd (omega (arith, one, lt))

-- ---- without a look at what is taken off
-- a part of the context as long as the base is still its beginning
abbrev pub Shrinks : ℕ → Context → Context → Type 0
Shrinks base old now = (before later : Context) → old ≡ before ++ later → length before ≡ base → (more : Context) × (now ≡ before ++ more)

shorter_by : (before more new : Context) (e : EntryValue) → before ++ more ≡ add new e → length before ≤ length new → (less : Context) × (new ≡ before ++ less)
shorter_by [] more new e is le = (new, refl)
shorter_by (x ∷ before) more [] e is le = absurd (omega (arith, le))
shorter_by (x ∷ before) more (y ∷ new) e is le =
    let heads = heads_of x y (before ++ more) (add new e) is in
    let later = shorter_by before more new e heads.1 (omega (arith, le)) in
    (later.0, λ i. sym heads.0 i ∷ later.1 i)
  where
    heads_of : (x y : EntryValue) (xs ys : Context) → x ∷ xs ≡ y ∷ ys → (x ≡ y) × (xs ≡ ys)
    heads_of x y xs ys h = (cc h, cc h)

pub shrinks_more : (base : ℕ) (old now new : Context) (e : EntryValue) → Shrinks base old now → base < length now → now ≡ add new e → Shrinks base old new
shrinks_more base old now new e h lt is before later was long =
    let at = h before later was long in
    let many = ap length is in
    let more = longer new e in
    shorter_by before at.0 new e (sym at.1 ∙ is) (omega (arith, many, more, lt, long))

no_more : (before more : Context) → length (before ++ more) ≤ length before → more ≡ []
no_more before [] le = refl
no_more before (e ∷ more) le = let many = length-append before (e ∷ more) in absurd (omega (arith, many, le))

pub shrunk : (base : ℕ) (old now : Context) → Shrinks base old now → length now ≤ base → (before later : Context) → old ≡ before ++ later → length before ≡ base → now ≡ before
shrunk base old now h le before later was long =
    let at = h before later was long in
    let many = ap length at.1 in
    at.1 ∙ (ap (λ (c : Context). before ++ c) (no_more before at.0 (omega (arith, many, le, long))) ∙ append-nil before)
