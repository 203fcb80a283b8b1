-- What the index lists: each entry with an atom, and each that may generalize it.
use Rattle.std.proofs.Common.{◌≡◌, ℕ, zero, suc, ◌+◌, Bool, true, false, not, ◌&&◌, List, [], ◌∷◌, map, slice_get, Option, Some, None, refl, ap, sym, subst, ◌∙◌, arith}
use Rattle.std.specs.Prelude.{IsTrue, if◌then◌else◌}
use Rattle.std.specs.List.{Contains}
use Rattle.std.proofs.lemmas.Bool.{eq-eqb}
use Rattle.std.proofs.lemmas.List.Elements.{Contains-append_right}
use Rattle.me_terms.specs.Terms.{TermValue, Var, App, Arguments, Nil, Cons, AtomValue}
use Rattle.me_terms.specs.Variables.{is_ground, are_ground}
use Rattle.me_terms.specs.Substitutions.{Generalizes}
use Rattle.me_terms.specs.Values.{EntryValue}
use Rattle.me_terms.specs.Context.{Context, StandsAt, IsAtomWith}
use Rattle.me_terms.specs.declared.entry.Kind.{Kind}
use Rattle.me_terms.specs.declared.entry.Kind.TheVariants.{Universal}
use Rattle.me_terms.specs.declared.atom.Pattern.{Pattern}
use Rattle.me_terms.specs.declared.atom.Pattern.TheVariants.{Any, Of}
use Rattle.literal_index.specs.Postings.{is_key, positions_from, positions}
use Rattle.literal_index.specs.Index.{code_of, is_constant, are_constants, is_universal, code_in, general_in, code_key, general_key, IndexValue, IsIndex}

-- ---- positions
head_has : (b : Bool) (n : ℕ) (ks : List ℕ) → b ≡ true → Contains (if b then n ∷ ks else ks) n
head_has true n ks t = (0, omega arith, refl)
head_has false n ks t = absurd (let e : false ≡ true = t in cc)

tail_has : (b : Bool) (n k : ℕ) (ks : List ℕ) → Contains ks k → Contains (if b then n ∷ ks else ks) k
tail_has true n k ks h = Contains-append_right (n ∷ []) ks k h
tail_has false n k ks h = h

key_itself : (key : ℕ) → is_key key (Some key) ≡ true
key_itself key = eq-eqb key key refl

listed_from : (n key k : ℕ) (xs : List (Option ℕ)) → slice_get xs k ≡ Some (Some key) → Contains (positions_from n key xs) (n + k)
listed_from n key k [] at = absurd (let e : None ≡ Some (Some key) = at in cc)
listed_from n key zero (x ∷ xs) at =
    let same : x ≡ Some key = cc in
    let here : is_key key x ≡ true = ap (λ (z : Option ℕ). is_key key z) same ∙ key_itself key in
    let P : ℕ → Type 0 = λ z. Contains (positions_from n key (x ∷ xs)) z in
    subst P (let e : n ≡ n + 0 = omega arith in e) (head_has (is_key key x) n (positions_from (suc n) key xs) here)
listed_from n key (suc k) (x ∷ xs) at =
    let P : ℕ → Type 0 = λ z. Contains (positions_from (suc n) key xs) z in
    let far : suc n + k ≡ n + suc k = omega arith in
    tail_has (is_key key x) n (n + suc k) (positions_from (suc n) key xs) (subst P far (listed_from (suc n) key k xs at))

pub listed_at : (key k : ℕ) (keys : List (Option ℕ)) → slice_get keys k ≡ Some (Some key) → Contains (positions key keys) k
listed_at key k keys at =
    let P : ℕ → Type 0 = λ z. Contains (positions key keys) z in
    subst P (let e : 0 + k ≡ k = omega arith in e) (listed_from 0 key k keys at)

key_at : {A : Type 0} (f : A → Option ℕ) (k : ℕ) (xs : List A) (x : A) → slice_get xs k ≡ Some x → slice_get (map f xs) k ≡ Some (f x)
key_at f k [] x at = absurd (let e : None ≡ Some x = at in cc)
key_at f zero (y ∷ ys) x at = let same : y ≡ x = cc in ap (λ z. Some (f z)) same
key_at f (suc k) (y ∷ ys) x at = key_at f k ys x at

-- ---- entries with the atom
pub atom_listed : (context : Context) (index : IndexValue) (k : ℕ) (e : EntryValue) (a : AtomValue) → IsIndex context index → StandsAt context k e → e.atom ≡ Of a → Contains (positions (code_of a) index.atoms) k
atom_listed context index k e a h stands is =
    let key : code_key e ≡ Some (code_of a) = ap code_in is in
    let P : List (Option ℕ) → Type 0 = λ z. Contains (positions (code_of a) z) k in
    subst P (sym h.atoms) (listed_at (code_of a) k (map code_key context) (key_at code_key k context e stands ∙ ap Some key))

-- ---- Universal entries with variables
constant_is_ground : (t : TermValue) → is_constant t ≡ true → is_ground t ≡ true
constant_is_ground (Var x) c = absurd (let e : false ≡ true = c in cc)
constant_is_ground (App f Nil) c = refl
constant_is_ground (App f (Cons t ts)) c = absurd (let e : false ≡ true = c in cc)

both : (a b : Bool) → a && b ≡ true → (a ≡ true) × (b ≡ true)
both true b h = (refl, h)
both false b h = absurd (let e : false ≡ true = h in cc)

both_true : (a b : Bool) → a ≡ true → b ≡ true → a && b ≡ true
both_true true b h g = g
both_true false b h g = absurd (let e : false ≡ true = h in cc)

constants_are_ground : (ts : Arguments) → are_constants ts ≡ true → are_ground ts ≡ true
constants_are_ground Nil c = refl
constants_are_ground (Cons t ts) c =
    let h = both (is_constant t) (are_constants ts) c in
    both_true (is_ground t) (are_ground ts) (constant_is_ground t h.0) (constants_are_ground ts h.1)

not_constants : (ts : Arguments) (b : Bool) → are_constants ts ≡ b → ¬ IsTrue (are_ground ts) → b ≡ false
not_constants ts true is not_ground = absurd (not_ground (constants_are_ground ts is))
not_constants ts false is not_ground = refl

kept : (b : Bool) (pred : ℕ) → b ≡ true → (if b then Some pred else None) ≡ Some pred
kept true pred t = refl
kept false pred t = absurd (let e : false ≡ true = t in cc)

general_of : (kind : Kind) (b : AtomValue) → kind ≡ Universal → ¬ IsTrue (are_ground b.args) → general_in kind (Of b) ≡ Some b.pred
general_of kind b is not_ground =
    let universal : is_universal kind ≡ true = ap is_universal is in
    let varies : not (are_constants b.args) ≡ true = ap not (not_constants b.args (are_constants b.args) refl not_ground) in
    kept (is_universal kind && not (are_constants b.args)) b.pred (both_true (is_universal kind) (not (are_constants b.args)) universal varies)

general_by : (kind : Kind) (p : Pattern) (a : AtomValue) → kind ≡ Universal → IsAtomWith (λ b. ¬ IsTrue (are_ground b.args)) p → Generalizes p (Of a) → general_in kind p ≡ Some a.pred
general_by kind Any a is varies above = absurd varies
general_by kind (Of b) a is varies above = general_of kind b is varies ∙ ap (λ (z : AtomValue). Some z.pred) above.1

pub general_listed : (context : Context) (index : IndexValue) (k : ℕ) (e : EntryValue) (a : AtomValue) → IsIndex context index → StandsAt context k e → e.kind ≡ Universal → IsAtomWith (λ b. ¬ IsTrue (are_ground b.args)) e.atom → Generalizes e.atom (Of a)
    → Contains (positions a.pred index.general) k
general_listed context index k e a h stands is varies above =
    let key : general_key e ≡ Some a.pred = general_by e.kind e.atom a is varies above in
    let P : List (Option ℕ) → Type 0 = λ z. Contains (positions a.pred z) k in
    subst P (sym h.general) (listed_at a.pred k (map general_key context) (key_at general_key k context e stands ∙ ap Some key))
