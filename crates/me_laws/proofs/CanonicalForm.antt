-- A canonical atom is its own canonical form, so the canonical form is the only canonical variant.
use Rattle.std.proofs.Common.{◌≡◌, ℕ, zero, suc, ◌+◌, ◌<◌, ◌≤◌, Bool, true, false, ◌&&◌, ◌||◌, cond, eqb, ltb, List, [], ◌∷◌, ◌++◌, IsTrue, refl, sym, subst, ap, ◌∙◌, arith}
use Rattle.std.specs.List.{list_any}
use Rattle.std.proofs.lemmas.Bool.{eqb-true, eqb-false, ne_eqb, ltb-true}
use Rattle.me_terms.specs.Terms.{Var, AtomValue}
use Rattle.me_terms.specs.Substitutions.{Substitution, apply_arguments, IsVariant}
use Rattle.me_terms.specs.Variables.{variables_of, is_numbered_from, is_canonical, first_ones, place_of, canonical}
use Rattle.me_terms.specs.declared.atom.Pattern.TheVariants.{Of}
use Rattle.me_terms.specs.TermEqualityLaws.{both_parts}
use Rattle.me_laws.proofs.Generality.{arguments_unchanged, generalizes_transitive}
use Rattle.me_laws.proofs.Grown.{canonical_is}
use Rattle.me_laws.proofs.NoContradiction.{canonical_below, canonical_above}
use Rattle.me_laws.proofs.Renaming.{Each, each_map, variables_agree_all, canonical_same}
use Rattle.me_laws.specs.CanonicalForm.{CanonicalFormIsTheVariant}

-- ---- the numbers k, k + 1, .. as a list
abbrev rising : ℕ → ℕ → List ℕ
rising k zero = []
rising k (suc n) = k ∷ rising (suc k) n

last : (k n m : ℕ) → k + n ≡ m → rising k (suc n) ≡ rising k n ++ m ∷ []
last k zero m h = let same : k ≡ m = omega (arith, h) in ap (λ j. j ∷ []) same
last k (suc n) m h = ap (λ ks. k ∷ ks) (last (suc k) n m (omega (arith, h)))

within_by : (x k : ℕ) (ks : List ℕ) (test : Bool) → eqb x k ≡ test → k ≤ x → (k < x → list_any (eqb x) ks ≡ true) → (test || list_any (eqb x) ks) ≡ true
within_by x k ks true e le later = refl
within_by x k ks false e le later = let other = eqb-false x k e in later (omega (arith, le, other))

within : (k n x : ℕ) → k ≤ x → x < k + n → list_any (eqb x) (rising k n) ≡ true
within k zero x le lt = absurd (omega (arith, le, lt))
within k (suc n) x le lt = within_by x k (rising (suc k) n) (eqb x k) refl le (λ g. within (suc k) n x (omega (arith, g)) (omega (arith, lt)))

beyond : (k n x : ℕ) → k + n ≤ x → list_any (eqb x) (rising k n) ≡ false
beyond k zero x le = refl
beyond k (suc n) x le =
    let here = ne_eqb x k (λ h. omega (arith, h, le)) in
    let later = beyond (suc k) n x (omega (arith, le)) in
    λ i. here i || later i

placed_by : (x k : ℕ) (ks : List ℕ) (test : Bool) → eqb x k ≡ test → k ≤ x → (k < x → suc k + place_of x ks ≡ x) → k + cond test 0 (1 + place_of x ks) ≡ x
placed_by x k ks true e le later = let same = eqb-true x k e in omega (arith, same)
placed_by x k ks false e le later =
    let other = eqb-false x k e in
    let below = later (omega (arith, le, other)) in
    omega (arith, below)

placed : (k n x : ℕ) → k ≤ x → x < k + n → k + place_of x (rising k n) ≡ x
placed k zero x le lt = absurd (omega (arith, le, lt))
placed k (suc n) x le lt = placed_by x k (rising (suc k) n) (eqb x k) refl le (λ g. placed (suc k) n x (omega (arith, g)) (omega (arith, lt)))

at_its_place : (n x : ℕ) → x < n → place_of x (rising 0 n) ≡ x
at_its_place n x lt = let same = placed 0 n x (omega arith) (omega (arith, lt)) in omega (arith, same)

-- ---- what is numbered by first occurrence has its first occurrences in rising order
abbrev Numbered : ℕ → List ℕ → Type 0
Numbered n xs = (m : ℕ) × (n ≤ m) × (first_ones (rising 0 n) xs ≡ rising 0 m) × Each (λ x. x < m) xs

numbered_by : (n x : ℕ) (xs : List ℕ) (test : Bool) → ltb x n ≡ test → cond test (is_numbered_from n xs) (eqb x n && is_numbered_from (n + 1) xs) ≡ true → (is_numbered_from n xs ≡ true → Numbered n xs) → (is_numbered_from (n + 1) xs ≡ true → Numbered (n + 1) xs) → Numbered n (x ∷ xs)
unfolding Each
numbered_by n x xs true e h seen new =
    let lt = ltb-true x n e in
    let later = seen h in
    let here = within 0 n x (omega arith) (omega (arith, lt)) in
    (later.0, later.1, ap (λ t. cond t (first_ones (rising 0 n) xs) (first_ones (rising 0 n ++ x ∷ []) xs)) here ∙ later.2, (omega (arith, lt, later.1), later.3))
numbered_by n x xs false e h seen new =
    let parts = both_parts (eqb x n) (is_numbered_from (n + 1) xs) h in
    let same = eqb-true x n parts.0 in
    let later = new parts.1 in
    let here = beyond 0 n x (omega (arith, same)) in
    let one : n + 1 ≡ suc n = omega arith in
    let longer : rising 0 n ++ x ∷ [] ≡ rising 0 (n + 1) = sym (ap (rising 0) one ∙ last 0 n x (omega (arith, same))) in
    (later.0, omega (arith, later.1), ap (λ t. cond t (first_ones (rising 0 n) xs) (first_ones (rising 0 n ++ x ∷ []) xs)) here ∙ (ap (λ ys. first_ones ys xs) longer ∙ later.2), (omega (arith, same, later.1), later.3))

numbered : (n : ℕ) (xs : List ℕ) → is_numbered_from n xs ≡ true → Numbered n xs
unfolding Each
numbered n [] h = (n, omega arith, refl, tt)
numbered n (x ∷ xs) h = numbered_by n x xs (ltb x n) refl h (λ g. numbered n xs g) (λ g. numbered (n + 1) xs g)

-- ---- a canonical atom is its own canonical form
itself : (a : AtomValue) → IsTrue (is_canonical a) → canonical a ≡ a
itself a h =
    let all = numbered 0 (variables_of a.args) h in
    let σ : Substitution = λ x. Var (place_of x (first_ones [] (variables_of a.args))) in
    let keeps : (x : ℕ) → x < all.0 → σ x ≡ Var x = λ x lt. ap (λ ys. Var (place_of x ys)) all.2 ∙ ap (λ n. Var n) (at_its_place all.0 x lt) in
    let args : apply_arguments σ a.args ≡ a.args = variables_agree_all σ Var a.args (each_map (λ x. x < all.0) (λ x. σ x ≡ Var x) keeps (variables_of a.args) all.3) ∙ arguments_unchanged a.args in
    λ i. record { pred = a.pred; args = args i }

share : (a b : AtomValue) → IsVariant (Of a) (Of b) → canonical a ≡ canonical b
share a b h = canonical_same a b (record { there = h.0.0; back = h.1.0; to = h.0.1; from = h.1.1 })

variants_by : (a b : AtomValue) → canonical a ≡ canonical b → IsVariant (Of a) (Of b)
variants_by a b h =
    let P : AtomValue → Type 0 = λ c. IsVariant (Of c) (Of b) in
    let form = subst P (sym h) (canonical_above b, canonical_below b) in
    (generalizes_transitive (Of a) (Of (canonical a)) (Of b) (canonical_below a) form.0, generalizes_transitive (Of b) (Of (canonical a)) (Of a) form.1 (canonical_above a))

pub canonical_form : CanonicalFormIsTheVariant
canonical_form = record {
  form_is_canonical = canonical_is;
  form_is_variant = λ a. (canonical_above a, canonical_below a);
  form_is_only = λ a b h v. sym (itself b h) ∙ share b a v;
  variants_share_form = share;
  same_form_is_variant = variants_by;
}
