-- Variables of spaces that are numbered by first occurrence, each as one number.
use Rattle.std.proofs.Common.{arith, ◌≡◌, ℕ, zero, suc, ◌+◌, ◌<◌, length, get_or, slice_get, Some, Bool, true, false, ◌&&◌, ◌||◌, cond, eqb, List, [], ◌∷◌, ◌++◌, map, refl, ap, sym, ◌∙◌}
use Rattle.std.specs.List.{list_any, position_or_len}
use Rattle.std.proofs.lemmas.Bool.{eqb-true, eq-eqb}
use Rattle.std.proofs.lemmas.List.Recursion.{is_position_or_len}
use Rattle.std.proofs.lemmas.Option.{slice_get_within}
use Rattle.me_terms.specs.Terms.{TermValue, Cons, arguments_of}
use Rattle.me_terms.specs.Substitutions.{Substitution, apply_term, apply_arguments}
use Rattle.me_terms.specs.Variables.{first_ones, place_of}
use Rattle.me_laws.specs.Pairing.{pair, first_of_pair, second_of_pair}
use Rattle.me_laws.proofs.Apart.{pair_back}
use Rattle.me_unify.specs.Left.{numbers}

abbrev pub is_one : ℕ → ℕ → (ℕ × ℕ) → Bool
is_one space var v = eqb space v.0 && eqb var v.1

pairs_same : (s v r w : ℕ) → pair s v ≡ pair r w → (s ≡ r) × (v ≡ w)
pairs_same s v r w e =
    let p = pair_back s v in
    let q = pair_back r w in
    (sym p.0 ∙ (ap first_of_pair e ∙ q.0), sym p.1 ∙ (ap second_of_pair e ∙ q.1))

one_by : (s v r w : ℕ) (a b c : Bool) → eqb s r ≡ a → eqb v w ≡ b → eqb (pair s v) (pair r w) ≡ c → (a && b) ≡ c
one_by s v r w true true c d e f =
    let first : s ≡ r = eqb-true s r d in
    let second : v ≡ w = eqb-true v w e in
    sym (eq-eqb (pair r w) (pair r w) refl) ∙ (ap (λ z. eqb z (pair r w)) (sym (let both : pair s v ≡ pair r w = λ i. pair (first i) (second i) in both)) ∙ f)
one_by s v r w true false true d e f =
    let both = pairs_same s v r w (eqb-true (pair s v) (pair r w) f) in
    sym e ∙ (ap (λ z. eqb z w) both.1 ∙ eq-eqb w w refl)
one_by s v r w true false false d e f = refl
one_by s v r w false b true d e f =
    let both = pairs_same s v r w (eqb-true (pair s v) (pair r w) f) in
    sym d ∙ (ap (λ z. eqb z r) both.0 ∙ eq-eqb r r refl)
one_by s v r w false b false d e f = refl

same_one : (space var : ℕ) (v : ℕ × ℕ) → is_one space var v ≡ eqb (pair space var) (pair v.0 v.1)
same_one space var v = one_by space var v.0 v.1 (eqb space v.0) (eqb var v.1) (eqb (pair space var) (pair v.0 v.1)) refl refl refl

same_any : (space var : ℕ) (vs : List (ℕ × ℕ)) → list_any (is_one space var) vs ≡ list_any (eqb (pair space var)) (numbers vs)
same_any space var [] = refl
same_any space var (v ∷ vs) = λ i. same_one space var v i || same_any space var vs i

pub same_place : (space var : ℕ) (vs : List (ℕ × ℕ)) → position_or_len (is_one space var) vs ≡ place_of (pair space var) (numbers vs)
same_place space var vs =
    sym (is_position_or_len (λ ks. place_of (pair space var) (numbers ks)) (is_one space var) refl
    (λ k ks. ap (λ b. cond b 0 (1 + place_of (pair space var) (numbers ks))) (sym (same_one space var k))) vs)

numbers_push : (vs : List (ℕ × ℕ)) (v : ℕ × ℕ) → numbers (vs ++ v ∷ []) ≡ numbers vs ++ pair v.0 v.1 ∷ []
numbers_push [] v = refl
numbers_push (w ∷ vs) v = ap (λ z. pair w.0 w.1 ∷ z) (numbers_push vs v)

named_by : (vs : List (ℕ × ℕ)) (v : ℕ × ℕ) (test : Bool) → numbers (cond test vs (vs ++ v ∷ [])) ≡ cond test (numbers vs) (numbers vs ++ pair v.0 v.1 ∷ [])
named_by vs v true = refl
named_by vs v false = numbers_push vs v

pub same_names : (space var : ℕ) (vs : List (ℕ × ℕ)) → numbers (cond (list_any (is_one space var) vs) vs (vs ++ (space, var) ∷ [])) ≡ first_ones (numbers vs) (pair space var ∷ [])
same_names space var vs =
    named_by vs (space, var) (list_any (is_one space var) vs) ∙ ap (λ b. cond b (numbers vs) (numbers vs ++ pair space var ∷ [])) (same_any space var vs)

-- a node's term among those of a list
pub map_at : (h : ℕ → TermValue) (xs : List ℕ) (k : ℕ) → k < length xs → slice_get (map h xs) k ≡ Some (h (get_or xs k 0))
map_at h [] k lt = absurd (omega arith)
map_at h (x ∷ xs) zero lt = refl
map_at h (x ∷ xs) (suc k) lt = map_at h xs k (omega arith)

pub applied_at : (r : Substitution) (xs : List TermValue) (k : ℕ) (x : TermValue) → slice_get xs k ≡ Some x → slice_get (map (apply_term r) xs) k ≡ Some (apply_term r x)
applied_at r [] k x e = let z : k < 0 = slice_get_within [] k x e in absurd (omega (arith, z))
applied_at r (y ∷ xs) zero x e = let same : y ≡ x = cc in ap (λ z. Some (apply_term r z)) same
applied_at r (y ∷ xs) (suc k) x e = applied_at r xs k x e

pub applied_all : (r : Substitution) (xs : List TermValue) → arguments_of (map (apply_term r) xs) ≡ apply_arguments r (arguments_of xs)
applied_all r [] = refl
applied_all r (x ∷ xs) = ap (Cons (apply_term r x)) (applied_all r xs)
