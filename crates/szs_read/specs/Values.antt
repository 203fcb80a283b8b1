-- What contracts see of the lines of a printed answer.
use Rattle.std.specs.Prelude.{ℕ, List}
use Rattle.me_terms.specs.Values.{LabelValue}
use Rattle.me_terms.specs.declared.atom.Literal.{Literal}

-- a line of a refutation: literals, and the number and the label of the clause of which they are to be an instance
pub record InstanceLineValue : Type 0 where
  pub number : ℕ
  pub label : LabelValue
  pub literals : List Literal
