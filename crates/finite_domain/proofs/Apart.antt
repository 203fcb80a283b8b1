-- The symbols of flattened clauses differ, so that each is added at the end.
use Rattle.std.proofs.Common.{◌≡◌, ℕ, zero, suc, ◌+◌, ◌^◌, ◌<◌, ◌≤◌, Bool, true, false, ◌||◌, cond, List, [], ◌∷◌, ◌++◌, length, map, take, drop, get_or, refl, sym, ap, ◌∙◌, arith}
use Rattle.std.proofs.lemmas.Fmt.{decimal_injective}
use Rattle.std.proofs.lemmas.List.{map-append}
use Rattle.std.specs.Prelude.{decimal, codes, eqb}
use Rattle.std.specs.List.{list_any, range_with_len, AllByRecursion, IsDistinct}
use Rattle.std.proofs.lemmas.Bool.{eqb-true}
use Rattle.std.proofs.lemmas.Map.Keys.{IsDistinct-head, IsDistinct-tail}
use Rattle.std.proofs.lemmas.Grind.{common_steps}
use Rattle.me_terms.specs.LabelEquality.{same_symbol}
use Rattle.me_terms.specs.LabelEqualityLaws.{same_symbol_sound}
use Rattle.me_terms.specs.Signatures.{with_symbol}
use Rattle.me_terms.specs.Values.{SymbolValue}
use Rattle.finite_domain.specs.Flat.{element, elements, relation, relations_from, copy_of}

false_by : (b : Bool) → (b ≡ true → ⊥) → b ≡ false
false_by true h = absurd (h refl)
false_by false h = refl

neither : (a b : Bool) → a ≡ false → b ≡ false → (a || b) ≡ false
neither true b h k = cc
neither false b h k = k

same_text : (s t : SymbolValue) → same_symbol s t ≡ true → s.label.text ≡ t.label.text
same_text s t h = ap (λ (x : SymbolValue). x.label.text) (same_symbol_sound s t h)

same_rest : (x : ℕ) (xs ys : List ℕ) → x ∷ xs ≡ x ∷ ys → xs ≡ ys
same_rest x xs ys e = cc

-- ---- elements

element_apart : (i k : ℕ) → i < k → k < 2 ^ 64 → same_symbol (element k) (element i) ≡ false
element_apart i k less small =
    false_by (same_symbol (element k) (element i)) (λ h.
    let e : decimal k ≡ decimal i = same_rest 100 (decimal k) (decimal i) (same_text (element k) (element i) h) in
    let same : k ≡ i = decimal_injective k i small (omega arith) e in
    omega arith)

elements_apart : (a n k : ℕ) → a + n ≤ k → k < 2 ^ 64 → list_any (same_symbol (element k)) (map element (range_with_len a n)) ≡ false
elements_apart a zero k past small = refl
elements_apart a (suc n) k past small =
    neither (same_symbol (element k) (element a)) (list_any (same_symbol (element k)) (map element (range_with_len (a + 1) n)))
    (element_apart a k (omega arith) small) (elements_apart (a + 1) n k (omega arith) small)

added_by : (symbols : List SymbolValue) (s : SymbolValue) (b : Bool) → b ≡ false → cond b symbols (symbols ++ s ∷ []) ≡ symbols ++ s ∷ []
added_by symbols s true h = absurd cc
added_by symbols s false h = refl

-- a symbol that does not stand among others is added at their end
pub added : (symbols : List SymbolValue) (s : SymbolValue) → list_any (same_symbol s) symbols ≡ false → with_symbol symbols s ≡ symbols ++ s ∷ []
added symbols s h = added_by symbols s (list_any (same_symbol s) symbols) h

pub next_element : (n : ℕ) → n + 1 < 2 ^ 64 → with_symbol (elements n) (element (n + 1)) ≡ elements n ++ element (n + 1) ∷ []
next_element n small = added (elements n) (element (n + 1)) (elements_apart 1 n (n + 1) (omega arith) small)

-- ---- relations

relation_apart : (i k m n : ℕ) → i < k → k < 2 ^ 64 → same_symbol (relation k m) (relation i n) ≡ false
relation_apart i k m n less small =
    false_by (same_symbol (relation k m) (relation i n)) (λ h.
    let e : decimal k ≡ decimal i = same_rest 102 (decimal k) (decimal i) (same_text (relation k m) (relation i n) h) in
    let same : k ≡ i = decimal_injective k i small (omega arith) e in
    omega arith)

relations_apart : (j k m : ℕ) (fs : List SymbolValue) → j + length fs ≤ k → k < 2 ^ 64 → list_any (same_symbol (relation k m)) (relations_from j fs) ≡ false
relations_apart j k m [] past small = refl
relations_apart j k m (f ∷ fs) past small =
    neither (same_symbol (relation k m) (relation j f.arity)) (list_any (same_symbol (relation k m)) (relations_from (j + 1) fs))
    (relation_apart j k m f.arity (omega arith) small) (relations_apart (j + 1) k m fs (omega arith) small)

pub next_relation : (k m : ℕ) (fs : List SymbolValue) → length fs ≡ k → k < 2 ^ 64 → with_symbol (relations_from 0 fs) (relation k m) ≡ relations_from 0 fs ++ relation k m ∷ []
next_relation k m fs count small = added (relations_from 0 fs) (relation k m) (relations_apart 0 k m fs (omega arith) small)

pub relations_push : (j k : ℕ) (fs : List SymbolValue) (f : SymbolValue) → j + length fs ≡ k → relations_from j (fs ++ f ∷ []) ≡ relations_from j fs ++ relation k f.arity ∷ []
relations_push j k [] f count = let e : j ≡ k = omega arith in ap (λ (x : ℕ). relation x f.arity ∷ []) e
relations_push j k (g ∷ fs) f count = ap (λ (x : List SymbolValue). relation j g.arity ∷ x) (relations_push (j + 1) k fs f (omega arith))

pub relations_length : (j : ℕ) (fs : List SymbolValue) → length (relations_from j fs) ≡ length fs
relations_length j [] = refl
relations_length j (f ∷ fs) = omega (arith, relations_length (j + 1) fs)

-- ---- predicates

copy_no_relation : (ps : List SymbolValue) (p j m : ℕ) → same_symbol (copy_of ps p) (relation j m) ≡ false
copy_no_relation ps p j m =
    false_by (same_symbol (copy_of ps p) (relation j m)) (λ h.
    let e : 113 ≡ 102 = ap (λ (xs : List ℕ). get_or xs 0 0) (same_text (copy_of ps p) (relation j m) h) in
    omega arith)

copy_no_relations : (ps : List SymbolValue) (p j : ℕ) (fs : List SymbolValue) → list_any (same_symbol (copy_of ps p)) (relations_from j fs) ≡ false
copy_no_relations ps p j [] = refl
copy_no_relations ps p j (f ∷ fs) =
    neither (same_symbol (copy_of ps p) (relation j f.arity)) (list_any (same_symbol (copy_of ps p)) (relations_from (j + 1) fs))
    (copy_no_relation ps p j f.arity) (copy_no_relations ps p (j + 1) fs)

all_at : {X : Type 0} (P : X → Type 0) (xs ys : List X) (x : X) → AllByRecursion P (xs ++ x ∷ ys) → P x
all_at P [] ys x h = h.0
all_at P (z ∷ xs) ys x h = all_at P xs ys x h.1

turned : (x z : ℕ) → eqb z x ≡ false → eqb x z ≡ false
turned x z h = false_by (eqb x z) (λ k. let e : x ≡ z = eqb-true x z k in grind (arith, common_steps))

-- a number of a list without repeats does not stand before itself
pub apart_before : (xs ys : List ℕ) (x : ℕ) → IsDistinct eqb (xs ++ x ∷ ys) → list_any (eqb x) xs ≡ false
apart_before [] ys x h = refl
apart_before (z ∷ xs) ys x h =
    neither (eqb x z) (list_any (eqb x) xs) (turned x z (all_at (λ (y : ℕ). eqb z y ≡ false) xs ys x (IsDistinct-head eqb z (xs ++ x ∷ ys) h)))
    (apart_before xs ys x (IsDistinct-tail eqb z (xs ++ x ∷ ys) h))

copy_apart : (ps : List SymbolValue) (p q : ℕ) → eqb p q ≡ false → p < 2 ^ 64 → q < 2 ^ 64 → same_symbol (copy_of ps p) (copy_of ps q) ≡ false
copy_apart ps p q differ small other =
    false_by (same_symbol (copy_of ps p) (copy_of ps q)) (λ h.
    let e : decimal p ≡ decimal q = same_rest 113 (decimal p) (decimal q) (same_text (copy_of ps p) (copy_of ps q) h) in
    let same : p ≡ q = decimal_injective p q small other e in
    grind (arith, common_steps))

parts_false : (a b : Bool) → (a || b) ≡ false → (a ≡ false) × (b ≡ false)
parts_false true b h = absurd cc
parts_false false b h = (refl, h)

copies_apart : (ps : List SymbolValue) (p : ℕ) (qs : List ℕ) → p < 2 ^ 64 → AllByRecursion (λ q. q < 2 ^ 64) qs → list_any (eqb p) qs ≡ false → list_any (same_symbol (copy_of ps p)) (map (copy_of ps) qs) ≡ false
copies_apart ps p [] small all h = refl
copies_apart ps p (q ∷ qs) small all h =
    let parts = parts_false (eqb p q) (list_any (eqb p) qs) h in
    neither (same_symbol (copy_of ps p) (copy_of ps q)) (list_any (same_symbol (copy_of ps p)) (map (copy_of ps) qs))
    (copy_apart ps p q parts.0 small all.0) (copies_apart ps p qs small all.1 parts.1)

either_any : {X : Type 0} (test : X → Bool) (xs ys : List X) → list_any test xs ≡ false → list_any test ys ≡ false → list_any test (xs ++ ys) ≡ false
either_any test [] ys h k = k
either_any test (x ∷ xs) ys h k =
    let parts = parts_false (test x) (list_any test xs) h in
    neither (test x) (list_any test (xs ++ ys)) parts.0 (either_any test xs ys parts.1 k)

-- the next predicate is added behind the relations and the predicates before it
pub next_copy : (fs ps : List SymbolValue) (before : List ℕ) (p : ℕ) → p < 2 ^ 64 → AllByRecursion (λ q. q < 2 ^ 64) before → list_any (eqb p) before ≡ false
    → with_symbol (relations_from 0 fs ++ map (copy_of ps) before) (copy_of ps p) ≡ (relations_from 0 fs ++ map (copy_of ps) before) ++ copy_of ps p ∷ []
next_copy fs ps before p small all h =
    added (relations_from 0 fs ++ map (copy_of ps) before) (copy_of ps p)
    (either_any (same_symbol (copy_of ps p)) (relations_from 0 fs) (map (copy_of ps) before) (copy_no_relations ps p 0 fs) (copies_apart ps p before small all h))
