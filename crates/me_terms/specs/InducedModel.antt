-- Contexts whose interpretation makes every clause true.
use Rattle.std.specs.Prelude.{ℕ, List}
use Rattle.std.specs.List.{Any}
use Rattle.me_terms.specs.Values.{ProblemValue}
use Rattle.me_terms.specs.Context.{Context}
use Rattle.me_terms.specs.Produces.{IsTrueIn}
use Rattle.me_terms.specs.GroundInstances.{IsGroundInstance}
use Rattle.me_terms.specs.declared.atom.Literal.{Literal}

-- Every ground instance of every clause has a literal that is true in the interpretation that the context induces.
abbrev pub IsModel : ProblemValue → Context → Type 0
IsModel problem context =
    (c : ℕ) (literals : List Literal) → IsGroundInstance problem c literals → Any (IsTrueIn context) literals
