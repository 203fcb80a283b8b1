-- What is still to be read, told by the signature that there is at the end. Only the private calls of the reader speak of it.
use Rattle.std.specs.Prelude.{◌≡◌, ℕ, List, ◌++◌, slice_get, Option, Some, None}
use Rattle.std.specs.List.{AllByRecursion}
use Rattle.me_terms.specs.Labels.{IsFunctionSymbol, IsPredicateSymbol}
use Rattle.me_terms.specs.Signatures.{with_symbol, number_of}
use Rattle.me_terms.specs.Values.{SymbolValue, SignatureValue}
use Rattle.me_terms.specs.declared.atom.Literal.{Literal}
use Rattle.tptp_cnf.specs.Meaning.{with_symbols}
use Rattle.tptp_cnf.specs.Plain.{symbols_at}
use Rattle.szs_read.specs.Claims.{IsLiteralOver, functions_in, predicates_in}
use Rattle.szs_read.specs.Rows.{IsNode, node_functions}
use Rattle.szs_read.specs.declared.number.Node.{Node}
use Rattle.szs_read.specs.declared.number.Node.TheVariants.{Variable, Function}

-- there is a value, of which this holds
abbrev pub IfSomeIs : {X : Type 0} → Option X → (X → Type 0) → Type 0
IfSomeIs None P = ⊥
IfSomeIs (Some x) P = P x

-- the symbol has this number, and was added where it was new
abbrev pub IsAddedAs : Option ℕ → SymbolValue → List SymbolValue → List SymbolValue → Type 0
IsAddedAs number symbol old new = (number ≡ Some (number_of symbol new)) × (new ≡ with_symbol old symbol)

-- the number of the symbol that stands there
abbrev pub renumbered_as : List SymbolValue → Option SymbolValue → ℕ
renumbered_as symbols None = 0
renumbered_as symbols (Some symbol) = number_of symbol symbols

-- the node by the first of the numbers of its function
abbrev pub renumbered : List SymbolValue → Node → Node
renumbered symbols (Variable x) = Variable x
renumbered symbols (Function f n) = Function (renumbered_as symbols (slice_get symbols f)) n

-- The functions at the end are those that there are with those of the nodes and then these others.
pub record AreNodesToCome (now end : List SymbolValue) (nodes : List Node) (others : List SymbolValue) : Type 0 where
  pub symbols : end ≡ with_symbols now (symbols_at end (node_functions nodes) ++ others)
  pub readable : AllByRecursion IsFunctionSymbol (symbols_at end (node_functions nodes))
  pub lawful : AllByRecursion (IsNode end) nodes

-- The signature at the end is the one that there is with these symbols.
pub record AreSymbolsToCome (now end : SignatureValue) (functions predicates : List SymbolValue) : Type 0 where
  pub functions_are : end.functions ≡ with_symbols now.functions functions
  pub predicates_are : end.predicates ≡ with_symbols now.predicates predicates

-- The literals are over the signature at the end, which is the one that there is with their symbols and then these others.
pub record AreLiteralsToCome (now end : SignatureValue) (brackets : ℕ) (ls : List Literal) (functions predicates : List SymbolValue) : Type 0 where
  pub over : AllByRecursion (IsLiteralOver end brackets) ls
  pub symbols : AreSymbolsToCome now end (functions_in end ls ++ functions) (predicates_in end ls ++ predicates)
  pub readable_functions : AllByRecursion IsFunctionSymbol (functions_in end ls)
  pub readable_predicates : AllByRecursion IsPredicateSymbol (predicates_in end ls)
