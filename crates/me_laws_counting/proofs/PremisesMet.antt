-- The premises of the function-free case can be met.
use Rattle.std.proofs.Common.{◌≡◌, ℕ, ◌+◌, ◌≤◌, [], ◌∷◌, All, refl, arith}
use Rattle.std.proofs.lemmas.List.Elements.{All-nil, All-cons}
use Rattle.me_terms.specs.Values.{SymbolValue}
use Rattle.me_terms.specs.Validity.{IsValidClause, IsValid, IsLawful}
use Rattle.me_terms.specs.Labels.{IsFunctionSymbol, IsPredicateSymbol}
use Rattle.me_terms.specs.declared.bounds.Start.{Start}
use Rattle.me_terms.specs.declared.symbol.Form.TheVariants.{Word}
use Rattle.me_laws_counting.specs.FunctionFree.{IsFunctionFree, IsRoomy}
use Rattle.me_laws_counting.specs.Premises.{first_clause, second_clause, names, plain_problem, tight_bounds, PremisesAreMet}

one : {A : Type 0} (P : A → Type 0) (x : A) → P x → All P (x ∷ [])
one P x h = All-cons P x [] h (All-nil P)

two : {A : Type 0} (P : A → Type 0) (x y : A) → P x → P y → All P (x ∷ y ∷ [])
two P x y h g = All-cons P x (y ∷ []) h (one P y g)

-- the symbol of a letter
symbol : ℕ → ℕ → SymbolValue
symbol letter arity = record { label = record { form = Word; text = letter ∷ [] }; arity = arity }

first_valid : IsValidClause names first_clause
first_valid = record { known = refl; numbered = refl; named = ((λ h. cc h, refl), λ h. cc h); few_literals = omega arith }

second_valid : IsValidClause names second_clause
second_valid = record { known = refl; numbered = refl; named = ((λ h. cc h, refl), λ h. cc h); few_literals = omega arith }

valid : IsValid plain_problem
unfolding symbol
valid = record {
  clauses = two (IsValidClause names) first_clause second_clause first_valid second_valid;
  few_clauses = omega arith;
  functions = one IsFunctionSymbol (symbol 99 0) ((λ h. cc h, refl), tt);
  predicates = two IsPredicateSymbol (symbol 112 1) (symbol 113 2) ((λ h. cc h, refl), refl) ((λ h. cc h, refl), refl);
  c0_constant = refl;
}

free : IsFunctionFree plain_problem
unfolding symbol
free = one (λ (s : SymbolValue). s.arity ≡ 0) (symbol 99 0) refl

roomy : (begins : Start) → IsRoomy plain_problem (tight_bounds begins)
unfolding symbol
roomy begins = record {
  depth = omega arith;
  weight = two (λ (s : SymbolValue). 1 + s.arity ≤ 3) (symbol 112 1) (symbol 113 2) (omega arith) (omega arith);
  literals = omega arith;
}

lawful : (begins : Start) → IsLawful (tight_bounds begins)
lawful begins = record { depth = (omega arith, omega arith); weight = (omega arith, omega arith); literals = (omega arith, omega arith); list = (omega arith, omega arith) }

pub premises_met : PremisesAreMet
premises_met = (valid, free, λ begins. (roomy begins, lawful begins))
