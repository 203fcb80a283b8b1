-- Lists of clauses, one more and in two parts.
use Rattle.std.proofs.Common.{◌≡◌, ℕ, suc, ◌+◌, List, [], ◌∷◌, ◌++◌, length, refl, sym, ap, ◌∙◌, arith}
use Rattle.me_terms.specs.Values.{SymbolValue, ClauseValue}
use Rattle.me_terms.specs.declared.atom.Literal.{Literal}
use Rattle.finite_domain.specs.Flat.{labelled, numbered_from, totality, totalities_from}

pub numbered_append : (k m : ℕ) (xs ys : List (List Literal)) → k + length xs ≡ m → numbered_from k (xs ++ ys) ≡ numbered_from k xs ++ numbered_from m ys
numbered_append k m [] ys count = let e : k ≡ m = omega arith in ap (λ (v : ℕ). numbered_from v ys) e
numbered_append k m (x ∷ xs) ys count = ap (λ (v : List ClauseValue). labelled k x ∷ v) (numbered_append (k + 1) m xs ys (omega arith))

pub numbered_length : (k : ℕ) (xs : List (List Literal)) → length (numbered_from k xs) ≡ length xs
numbered_length k [] = refl
numbered_length k (x ∷ xs) = omega (arith, numbered_length (k + 1) xs)

pub totalities_push : (n j k : ℕ) (fs : List SymbolValue) (f : SymbolValue) → j + length fs ≡ k → totalities_from n j (fs ++ f ∷ []) ≡ totalities_from n j fs ++ totality n k f.arity ∷ []
totalities_push n j k [] f count = let e : j ≡ k = omega arith in ap (λ (v : ℕ). totality n v f.arity ∷ []) e
totalities_push n j k (g ∷ fs) f count = ap (λ (v : List (List Literal)). totality n j g.arity ∷ v) (totalities_push n (j + 1) k fs f (omega arith))

pub totalities_length : (n j : ℕ) (fs : List SymbolValue) → length (totalities_from n j fs) ≡ length fs
totalities_length n j [] = refl
totalities_length n j (f ∷ fs) = omega (arith, totalities_length n (j + 1) fs)
