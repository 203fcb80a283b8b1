-- What contracts see of labels, clauses, entries, instances and problems.
use Rattle.std.specs.Prelude.{ℕ, Bool, List}
use Rattle.me_terms.specs.declared.symbol.Form.{Form}
use Rattle.me_terms.specs.declared.entry.Kind.{Kind}
use Rattle.me_terms.specs.declared.atom.Literal.{Literal}
use Rattle.me_terms.specs.declared.atom.Pattern.{Pattern}

-- a label: its form and its text
pub record LabelValue : Type 0 where
  pub form : Form
  pub text : List ℕ

-- a symbol: its label and its number of arguments
pub record SymbolValue : Type 0 where
  pub label : LabelValue
  pub arity : ℕ

-- a signature: its functions and its predicates, by number
pub record SignatureValue : Type 0 where
  pub functions : List SymbolValue
  pub predicates : List SymbolValue

-- a clause: the place of its formula in the file, its label and its literals
pub record ClauseValue : Type 0 where
  pub number : ℕ
  pub label : LabelValue
  pub literals : List Literal

-- a problem
pub record ProblemValue : Type 0 where
  pub clauses : List ClauseValue
  pub signature : SignatureValue
  pub c0 : ℕ

-- why an entry stands in a context; an asserted one by a clause, a place in it, and the positions for its other places
pub data ReasonValue : Type 0 where
  Pseudo : ReasonValue
  Asserted : ℕ → ℕ → List ℕ → ReasonValue
  SplitLeft : ReasonValue
  SplitRight : ReasonValue

-- an entry of a context
pub record EntryValue : Type 0 where
  pub positive : Bool
  pub atom : Pattern
  pub kind : Kind
  pub reason : ReasonValue

-- an instance of the clause of a number, from 0
pub record InstanceValue : Type 0 where
  pub clause : ℕ
  pub literals : List Literal
