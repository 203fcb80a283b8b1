-- The problem that is made of a seed is determined, and it is decided within wide bounds.
use Rattle.std.specs.Prelude.{◌≡◌, ℕ, ◌+◌, ◌*◌, ◌≤◌}
use Rattle.me_terms.specs.Values.{ProblemValue}
use Rattle.me_terms.specs.declared.bounds.Bounds.{Bounds}
use Rattle.me_laws_counting.specs.FunctionFree.{IsFunctionFree, IsRoomy}
use Rattle.make_problem.specs.Made.{IsMade}

-- A seed makes one problem of so many clauses over so many predicates.
abbrev pub MadeProblemIsDetermined : Type 0
MadeProblemIsDetermined =
    (seed preds clauses : ℕ) (problem other : ProblemValue) → IsMade seed preds clauses problem → IsMade seed preds clauses other → problem ≡ other

-- The bounds have room for every literal over so many predicates with one argument and two constants: each predicate has at most three such literals up to variants.
pub record AreWide (preds : ℕ) (bounds : Bounds) : Type 0 where
  pub depth : 1 ≤ bounds.depth
  pub weight : 2 ≤ bounds.weight
  pub literals : 1 + 2 * (3 * preds) ≤ bounds.literals

-- A made problem has no functions with arguments, and no search meets wide bounds.
pub record MadeIsRoomy : Type 0 where
  pub function_free : (seed preds clauses : ℕ) (problem : ProblemValue) → IsMade seed preds clauses problem → IsFunctionFree problem
  pub roomy : (seed preds clauses : ℕ) (problem : ProblemValue) (bounds : Bounds) → 1 ≤ preds → IsMade seed preds clauses problem → AreWide preds bounds → IsRoomy problem bounds
