-- A number for each small canonical atom, below the number of atoms.
use Rattle.std.proofs.Common.{◌≡◌, ℕ, zero, suc, ◌+◌, ◌*◌, ◌^◌, ◌<◌, ◌≤◌, Bool, true, false, ◌&&◌, ◌⊎◌, inl, inr, cond, eqb, ltb, List, [], ◌∷◌, length, slice_get, Some, sum_by, IsTrue, refl, sym, subst, ap, ◌∙◌, one-add, arith}
use Rattle.std.proofs.lemmas.Bool.{eqb-true, ltb-true}
use Rattle.std.proofs.lemmas.Nat.{mul-add-lt, same_from_place}
use Rattle.std.proofs.lemmas.Option.{same_Some}
use Rattle.std.proofs.lemmas.List.Sums.{sum_by-cons}
use Rattle.std.proofs.Math.Nat.{pow-zero, pow-succ'}
use Rattle.me_terms.specs.Terms.{TermValue, Var, App, Arguments, Nil, Cons, AtomValue}
use Rattle.me_terms.specs.Variables.{variables_of, count, is_numbered_from, is_canonical}
use Rattle.me_terms.specs.Values.{SymbolValue, SignatureValue}
use Rattle.me_terms.specs.TermEqualityLaws.{both_parts}
use Rattle.me_laws_counting.specs.FunctionFree.{atoms_of}
use Rattle.me_laws_counting.proofs.Small.{is_small, are_small, IsSmall, taken}

-- ---- arguments as the digits of a number
abbrev digit : ℕ → TermValue → ℕ
digit c (Var x) = c + x
digit c (App f ts) = f

abbrev digits : ℕ → ℕ → Arguments → ℕ
digits c base Nil = 0
digits c base (Cons t ts) = digits c base ts * base + digit c t

-- each digit is below the base
abbrev Below : ℕ → ℕ → Arguments → Type 0
Below c base Nil = Unit {0}
Below c base (Cons t ts) = (digit c t < base) × Below c base ts

digits_below : (c base : ℕ) (ts : Arguments) → Below c base ts → digits c base ts < base ^ count ts
digits_below c base Nil h = let one = pow-zero base in omega (arith, one)
digits_below c base (Cons t ts) h =
    let power : base ^ (1 + count ts) ≡ base * base ^ count ts = ap (λ n. base ^ n) (one-add (count ts)) ∙ pow-succ' base (count ts) in
    let P : ℕ → Type 0 = λ n. digits c base ts * base + digit c t < n in
    subst P (sym power) (mul-add-lt (digits c base ts) base (digit c t) (base ^ count ts) (digits_below c base ts h.1) h.0)

digit_injective : (c : ℕ) (s t : TermValue) → is_small c s ≡ true → is_small c t ≡ true → digit c s ≡ digit c t → s ≡ t
digit_injective c (Var x) (Var y) f g h = let same : x ≡ y = omega arith in ap Var same
digit_injective c (Var x) (App a Nil) f g h = absurd (omega (arith, ltb-true a c g))
digit_injective c (Var x) (App a (Cons t ts)) f g h = cc g
digit_injective c (App a Nil) (Var y) f g h = absurd (omega (arith, ltb-true a c f))
digit_injective c (App a Nil) (App b Nil) f g h = ap (λ n. App n Nil) h
digit_injective c (App a Nil) (App b (Cons t ts)) f g h = cc g
digit_injective c (App a (Cons s ss)) t f g h = cc f

digits_injective : (c base : ℕ) (ss ts : Arguments) → are_small c ss ≡ true → are_small c ts ≡ true → Below c base ss → Below c base ts → count ss ≡ count ts → digits c base ss ≡ digits c base ts → ss ≡ ts
digits_injective c base Nil Nil f g p q n h = refl
digits_injective c base Nil (Cons t ts) f g p q n h = absurd (omega arith)
digits_injective c base (Cons s ss) Nil f g p q n h = absurd (omega arith)
digits_injective c base (Cons s ss) (Cons t ts) f g p q n h =
    let fs = both_parts (is_small c s) (are_small c ss) f in
    let gs = both_parts (is_small c t) (are_small c ts) g in
    let parts = same_from_place (digits c base ss) (digit c s) (digits c base ts) (digit c t) base p.0 q.0 h in
    let first = digit_injective c s t fs.0 gs.0 parts.1 in
    let later = digits_injective c base ss ts fs.1 gs.1 p.1 q.1 (omega arith) parts.0 in
    λ i. Cons (first i) (later i)

-- ---- in a canonical atom each variable is below the number of arguments
numbered : (x m : ℕ) (xs : List ℕ) (test : Bool) → ltb x m ≡ test → cond test (is_numbered_from m xs) (eqb x m && is_numbered_from (m + 1) xs) ≡ true → ((x < m) × (is_numbered_from m xs ≡ true)) ⊎ ((x ≡ m) × (is_numbered_from (m + 1) xs ≡ true))
numbered x m xs true e h = inl (ltb-true x m e, h)
numbered x m xs false e h = let parts = both_parts (eqb x m) (is_numbered_from (m + 1) xs) h in inr (eqb-true x m parts.0, parts.1)

all_below : (c m base : ℕ) (ts : Arguments) → are_small c ts ≡ true → is_numbered_from m (variables_of ts) ≡ true → c + (m + count ts) ≤ base → Below c base ts
all_below c m base Nil f h le = tt
all_below c m base (Cons (Var x) ts) f h le =
    elim (numbered x m (variables_of ts) (ltb x m) refl h) as (λ _. (c + x < base) × Below c base ts) [
      | inl old ↦ (omega (arith, old.0), all_below c m base ts f old.1 (omega arith))
      | inr new ↦ (omega (arith, new.0), all_below c (m + 1) base ts f new.1 (omega arith))
    ]
all_below c m base (Cons (App a Nil) ts) f h le =
    let parts = both_parts (ltb a c) (are_small c ts) f in
    (omega (arith, ltb-true a c parts.0), all_below c m base ts parts.1 h (omega arith))
all_below c m base (Cons (App a (Cons u us)) ts) f h le = cc f

-- ---- numbers of several kinds, one kind after the other
module _ (f : SymbolValue → ℕ) where
  abbrev pub placed : List SymbolValue → ℕ → ℕ → ℕ
  placed [] p k = k
  placed (s ∷ symbols) zero k = k
  placed (s ∷ symbols) (suc p) k = f s + placed symbols p k

  placed_below : (symbols : List SymbolValue) (p : ℕ) (s : SymbolValue) (k : ℕ) → slice_get symbols p ≡ Some s → k < f s → placed symbols p k < sum_by f symbols
  placed_below [] p s k at lt = cc at
  placed_below (t ∷ symbols) zero s k at lt =
      let same : f t ≡ f s = ap f (same_Some t s at) in
      let whole = sum_by-cons f t symbols in
      omega (arith, same, whole)
  placed_below (t ∷ symbols) (suc p) s k at lt =
      let later = placed_below symbols p s k at lt in
      let whole = sum_by-cons f t symbols in
      omega (arith, later, whole)

  placed_injective : (symbols : List SymbolValue) (p q : ℕ) (s t : SymbolValue) (k l : ℕ) → slice_get symbols p ≡ Some s → slice_get symbols q ≡ Some t → k < f s → l < f t → placed symbols p k ≡ placed symbols q l → (p ≡ q) × (k ≡ l)
  placed_injective [] p q s t k l at there lt less h = cc at
  placed_injective (r ∷ symbols) zero zero s t k l at there lt less h = (refl, h)
  placed_injective (r ∷ symbols) zero (suc q) s t k l at there lt less h =
      let same : f r ≡ f s = ap f (same_Some r s at) in absurd (omega (arith, same))
  placed_injective (r ∷ symbols) (suc p) zero s t k l at there lt less h =
      let same : f r ≡ f t = ap f (same_Some r t there) in absurd (omega (arith, same))
  placed_injective (r ∷ symbols) (suc p) (suc q) s t k l at there lt less h =
      let rest = placed_injective symbols p q s t k l at there lt less (omega arith) in (ap suc rest.0, rest.1)

-- ---- atoms
pub atom_code : SignatureValue → AtomValue → ℕ
atom_code signature a =
    let c = length signature.functions in
    placed (atoms_of c) signature.predicates a.pred (digits c (c + count a.args) a.args)

-- what is known of a small canonical atom
record Coded (signature : SignatureValue) (a : AtomValue) : Type 0 where
  symbol : SymbolValue
  at : slice_get signature.predicates a.pred ≡ Some symbol
  arity : symbol.arity ≡ count a.args
  below : Below (length signature.functions) (length signature.functions + count a.args) a.args
  fits : digits (length signature.functions) (length signature.functions + count a.args) a.args < atoms_of (length signature.functions) symbol

coded : (signature : SignatureValue) (a : AtomValue) → IsSmall signature a → IsTrue (is_canonical a) → Coded signature a
coded signature a small canonical =
    let c = length signature.functions in
    let t = taken (slice_get signature.predicates a.pred) (count a.args) small.known in
    let below : Below c (c + count a.args) a.args = all_below c 0 (c + count a.args) a.args small.small canonical (omega arith) in
    let P : ℕ → Type 0 = λ n. digits c (c + count a.args) a.args < (c + n) ^ n in
    record { symbol = t.0; at = t.1; arity = t.2; below = below; fits = subst P (sym t.2) (digits_below c (c + count a.args) a.args below) }

pub atom_code_below : (signature : SignatureValue) (a : AtomValue) → IsSmall signature a → IsTrue (is_canonical a) → atom_code signature a < sum_by (atoms_of (length signature.functions)) signature.predicates
unfolding atom_code
atom_code_below signature a small canonical =
    let c = length signature.functions in
    let k = coded signature a small canonical in
    placed_below (atoms_of c) signature.predicates a.pred k.symbol (digits c (c + count a.args) a.args) k.at k.fits

pub atom_code_injective : (signature : SignatureValue) (a b : AtomValue) → IsSmall signature a → IsSmall signature b → IsTrue (is_canonical a) → IsTrue (is_canonical b) → atom_code signature a ≡ atom_code signature b → a ≡ b
unfolding atom_code
atom_code_injective signature a b small smaller canonical canonical' h =
    let c = length signature.functions in
    let k = coded signature a small canonical in
    let l = coded signature b smaller canonical' in
    let parts = placed_injective (atoms_of c) signature.predicates a.pred b.pred k.symbol l.symbol (digits c (c + count a.args) a.args) (digits c (c + count b.args) b.args) k.at l.at k.fits l.fits h in
    let symbols : k.symbol ≡ l.symbol = same_Some k.symbol l.symbol (sym k.at ∙ (ap (slice_get signature.predicates) parts.0 ∙ l.at)) in
    let counts : count a.args ≡ count b.args = sym k.arity ∙ (ap (λ (s : SymbolValue). s.arity) symbols ∙ l.arity) in
    let P : ℕ → Type 0 = λ n. Below c (c + n) b.args × (digits c (c + count a.args) a.args ≡ digits c (c + n) b.args) in
    let there = subst P (sym counts) (l.below, parts.1) in
    let args = digits_injective c (c + count a.args) a.args b.args small.small smaller.small k.below there.0 counts there.1 in
    λ i. record { pred = parts.0 i; args = args i }
