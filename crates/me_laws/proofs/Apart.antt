-- The family that takes the variables of all spaces apart, and solves nothing more than it must.
use Rattle.std.proofs.Common.{◌≡◌, ℕ, zero, suc, ◌+◌, ◌<◌, ◌≤◌, ◌/◌, ◌%◌, List, Option, refl, ap, arith}
use Rattle.me_terms.specs.Context.{Context}
use Rattle.me_terms.specs.Unifier.{Solves, IsUnifier}
use Rattle.me_terms.specs.declared.atom.Literal.{Literal}
use Rattle.me_laws.specs.Pairing.{pair, first_in, second_in, first_of_pair, second_of_pair, apart}

even_rest : (x : ℕ) → (x + x) % 2 ≡ 0
even_rest x = omega arith

even_half : (x : ℕ) → (x + x) / 2 ≡ x
even_half x = omega arith

odd_rest : (x : ℕ) → suc (x + x) % 2 ≡ 1
odd_rest x = omega arith

odd_half : (x : ℕ) → suc (x + x) / 2 ≡ x
odd_half x = omega arith

first_back : (k i x : ℕ) → i < k → first_in k (pair i x) ≡ i
first_back zero i x h = absurd (omega arith)
first_back (suc k) zero x h = rw (even_rest x) refl
first_back (suc k) (suc i) x h = rw (odd_rest (pair i x), odd_half (pair i x)) (ap suc (first_back k i x (omega arith)))

second_back : (k i x : ℕ) → i < k → second_in k (pair i x) ≡ x
second_back zero i x h = absurd (omega arith)
second_back (suc k) zero x h = rw (even_rest x) (even_half x)
second_back (suc k) (suc i) x h = rw (odd_rest (pair i x), odd_half (pair i x)) (second_back k i x (omega arith))

above_first : (i x : ℕ) → i ≤ pair i x
above_first zero x = omega arith
above_first (suc i) x = let h = above_first i x in omega arith

pub pair_back : (i x : ℕ) → (first_of_pair (pair i x) ≡ i) × (second_of_pair (pair i x) ≡ x)
pair_back i x =
    let h = above_first i x in
    (first_back (suc (pair i x)) i x (omega arith), second_back (suc (pair i x)) i x (omega arith))

-- where it is a solution, it is a most general one
pub apart_general : (context : Context) (literals : List Literal) (positions : List (Option ℕ)) → Solves context literals positions apart → IsUnifier context literals positions apart
apart_general context literals positions solved = record {
  solves = solved;
  most_general = λ v h. (λ z. v (first_of_pair z) (second_of_pair z), λ space x. let b = pair_back space x in λ i. v (b.0 i) (b.1 i));
}
