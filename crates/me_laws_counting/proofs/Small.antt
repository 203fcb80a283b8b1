-- Terms that are variables or constants, and atoms of such terms over a signature.
use Rattle.std.proofs.Common.{◌≡◌, ℕ, ◌+◌, ◌<◌, ◌≤◌, Bool, true, false, ◌&&◌, ltb, List, length, slice_get, Option, Some, None, All, refl, sym, ap, ◌∙◌, arith}
use Rattle.std.proofs.lemmas.Bool.{eqb-true, lt-ltb}
use Rattle.std.proofs.lemmas.Option.{slice_get_within, get_or_from_slice_get}
use Rattle.me_terms.specs.Terms.{TermValue, Var, App, Arguments, Nil, Cons, AtomValue}
use Rattle.me_terms.specs.Variables.{weight, weights, depth, depths, count}
use Rattle.me_terms.specs.Substitutions.{Substitution, apply_term, apply_arguments}
use Rattle.me_terms.specs.Values.{SymbolValue, SignatureValue}
use Rattle.me_terms.specs.Signatures.{takes, is_known, are_known, is_known_atom}
use Rattle.me_terms.specs.TermEqualityLaws.{both_parts}

-- a variable, or one of so many constants
abbrev pub is_small : ℕ → TermValue → Bool
is_small c (Var x) = true
is_small c (App f Nil) = ltb f c
is_small c (App f (Cons t ts)) = false

abbrev pub are_small : ℕ → Arguments → Bool
are_small c Nil = true
are_small c (Cons t ts) = is_small c t && are_small c ts

-- the atom is one over the signature, of small terms
pub record IsSmall (signature : SignatureValue) (a : AtomValue) : Type 0 where
  pub known : takes (slice_get signature.predicates a.pred) (count a.args) ≡ true
  pub small : are_small (length signature.functions) a.args ≡ true

-- ---- what a symbol takes
pub taken : (o : Option SymbolValue) (n : ℕ) → takes o n ≡ true → (symbol : SymbolValue) × (o ≡ Some symbol) × (symbol.arity ≡ n)
taken None n h = cc h
taken (Some symbol) n h = (symbol, refl, eqb-true symbol.arity n h)

pub all_at : (P : SymbolValue → Type 0) (symbols : List SymbolValue) (k : ℕ) (symbol : SymbolValue) → All P symbols → slice_get symbols k ≡ Some symbol → P symbol
all_at P symbols k symbol all at =
    rw (← get_or_from_slice_get symbols k symbol symbol at) (all k symbol (slice_get_within symbols k symbol at))

module _ (signature : SignatureValue) (free : All (λ (symbol : SymbolValue). symbol.arity ≡ 0) signature.functions) where
  below : (f n : ℕ) → takes (slice_get signature.functions f) n ≡ true → (f < length signature.functions) × (n ≡ 0)
  below f n h =
      let t = taken (slice_get signature.functions f) n h in
      (slice_get_within signature.functions f t.0 t.1, sym t.2 ∙ all_at (λ (symbol : SymbolValue). symbol.arity ≡ 0) signature.functions f t.0 free t.1)

  known_small : (t : TermValue) → is_known signature t ≡ true → is_small (length signature.functions) t ≡ true
  known_small (Var x) h = refl
  known_small (App f Nil) h =
      let parts = both_parts (takes (slice_get signature.functions f) 0) true h in
      lt-ltb f (length signature.functions) (below f 0 parts.0).0
  known_small (App f (Cons t ts)) h =
      let parts = both_parts (takes (slice_get signature.functions f) (1 + count ts)) (are_known signature (Cons t ts)) h in
      let none = (below f (1 + count ts) parts.0).1 in absurd (omega (arith, none))

  known_all : (ts : Arguments) → are_known signature ts ≡ true → are_small (length signature.functions) ts ≡ true
  known_all Nil h = refl
  known_all (Cons t ts) h =
      let parts = both_parts (is_known signature t) (are_known signature ts) h in
      let first = known_small t parts.0 in
      let later = known_all ts parts.1 in
      λ i. first i && later i

  pub atom_small : (a : AtomValue) → is_known_atom signature a ≡ true → IsSmall signature a
  atom_small a h =
      let parts = both_parts (takes (slice_get signature.predicates a.pred) (count a.args)) (are_known signature a.args) h in
      record { known = parts.0; small = known_all a.args parts.1 }

-- ---- substitution
pub applied_small : (c : ℕ) (s : Substitution) → ((x : ℕ) → is_small c (s x) ≡ true) → (t : TermValue) → is_small c t ≡ true → is_small c (apply_term s t) ≡ true
applied_small c s h (Var x) e = h x
applied_small c s h (App f Nil) e = e
applied_small c s h (App f (Cons t ts)) e = cc e

pub applied_smalls : (c : ℕ) (s : Substitution) → ((x : ℕ) → is_small c (s x) ≡ true) → (ts : Arguments) → are_small c ts ≡ true → are_small c (apply_arguments s ts) ≡ true
applied_smalls c s h Nil e = refl
applied_smalls c s h (Cons t ts) e =
    let parts = both_parts (is_small c t) (are_small c ts) e in
    let first = applied_small c s h t parts.0 in
    let later = applied_smalls c s h ts parts.1 in
    λ i. first i && later i

pub applied_count : (s : Substitution) (ts : Arguments) → count (apply_arguments s ts) ≡ count ts
applied_count s Nil = refl
applied_count s (Cons t ts) = ap (λ n. 1 + n) (applied_count s ts)

-- ---- measures
small_depth : (c : ℕ) (t : TermValue) → is_small c t ≡ true → depth t ≡ 1
small_depth c (Var x) h = refl
small_depth c (App f Nil) h = refl
small_depth c (App f (Cons t ts)) h = cc h

pub small_depths : (c : ℕ) (ts : Arguments) → are_small c ts ≡ true → depths ts ≤ 1
small_depths c Nil h = omega arith
small_depths c (Cons t ts) h =
    let parts = both_parts (is_small c t) (are_small c ts) h in
    let first = small_depth c t parts.0 in
    let later = small_depths c ts parts.1 in
    omega (arith, first, later)

small_weight : (c : ℕ) (t : TermValue) → is_small c t ≡ true → weight t ≡ 1
small_weight c (Var x) h = refl
small_weight c (App f Nil) h = refl
small_weight c (App f (Cons t ts)) h = cc h

pub small_weights : (c : ℕ) (ts : Arguments) → are_small c ts ≡ true → weights ts ≡ count ts
small_weights c Nil h = refl
small_weights c (Cons t ts) h =
    let parts = both_parts (is_small c t) (are_small c ts) h in
    let first = small_weight c t parts.0 in
    let later = small_weights c ts parts.1 in
    omega (arith, first, later)
