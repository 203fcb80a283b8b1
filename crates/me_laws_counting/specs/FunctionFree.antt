-- Problems without functions with arguments, and bounds that no search meets there.
use Rattle.std.specs.Prelude.{◌≡◌, ℕ, ◌+◌, ◌*◌, ◌^◌, ◌≤◌, length}
use Rattle.std.specs.List.{All, sum_by}
use Rattle.me_terms.specs.Values.{ProblemValue, SymbolValue}
use Rattle.me_terms.specs.Context.{Context}
use Rattle.me_terms.specs.Next.{IsNext, Bounded}
use Rattle.me_terms.specs.Grown.{IsGrown}
use Rattle.me_terms.specs.Answer.{HasAnswer, GaveUp}
use Rattle.me_terms.specs.Validity.{IsValid}
use Rattle.me_terms.specs.declared.bounds.Bound.{Bound}
use Rattle.me_terms.specs.declared.bounds.Bound.TheVariants as bound
use Rattle.me_terms.specs.declared.bounds.Bounds.{Bounds}

-- No function has arguments.
abbrev pub IsFunctionFree : ProblemValue → Type 0
IsFunctionFree problem = All (λ (symbol : SymbolValue). symbol.arity ≡ 0) problem.signature.functions

-- Each argument of a canonical atom is a constant, or one of as many variables as there are arguments.
abbrev pub atoms_of : ℕ → SymbolValue → ℕ
atoms_of constants predicate = (constants + predicate.arity) ^ predicate.arity

-- A number that the atoms over the signature, counted up to variants, do not exceed: an atom of a predicate with n arguments has at each of them one of the constants or one of n variables.
abbrev pub most_atoms : ProblemValue → ℕ
most_atoms problem = sum_by (atoms_of (length problem.signature.functions)) problem.signature.predicates

-- Every atom over the signature is within the depth and the weight, and there is room for each atom twice, beside the pseudo-literal.
pub record IsRoomy (problem : ProblemValue) (bounds : Bounds) : Type 0 where
  pub depth : 1 ≤ bounds.depth
  pub weight : All (λ (symbol : SymbolValue). 1 + symbol.arity ≤ bounds.weight) problem.signature.predicates
  pub literals : 1 + 2 * most_atoms problem ≤ bounds.literals

-- A grown context has no more entries than that, whatever the bounds; and no search meets roomy bounds, so that only the list can be too heavy.
pub record FunctionFreeIsDecided : Type 0 where
  pub few_entries : (problem : ProblemValue) (bounds : Bounds) (context : Context) → IsValid problem → IsFunctionFree problem → IsGrown problem bounds context → length context ≤ 1 + 2 * most_atoms problem
  pub no_bound : (problem : ProblemValue) (bounds : Bounds) (context : Context) (b : Bound) → IsValid problem → IsFunctionFree problem → IsRoomy problem bounds → IsGrown problem bounds context → ¬ IsNext problem bounds context (Bounded b)
  pub only_list : (problem : ProblemValue) (bounds : Bounds) (b : Bound) → IsValid problem → IsFunctionFree problem → IsRoomy problem bounds → HasAnswer problem bounds (GaveUp b) → b ≡ bound.List
