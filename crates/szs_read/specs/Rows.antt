-- Terms as rows of nodes. Only the private calls of the reader speak of them.
use Rattle.std.specs.Prelude.{◌≡◌, ℕ, ◌^◌, ◌<◌, List, [], ◌∷◌, ◌++◌, slice_get, IsTrue}
use Rattle.std.specs.List.{AllByRecursion}
use Rattle.me_terms.specs.Labels.{IsFunctionSymbol, IsPredicateSymbol}
use Rattle.me_terms.specs.Signatures.{takes}
use Rattle.me_terms.specs.Terms.{TermValue, Var, App, Arguments, Nil, Cons}
use Rattle.me_terms.specs.Values.{SymbolValue, SignatureValue}
use Rattle.me_terms.specs.Variables.{count}
use Rattle.me_terms.specs.declared.atom.Literal.{Literal}
use Rattle.tptp_cnf.specs.Meaning.{with_symbols}
use Rattle.tptp_cnf.specs.Plain.{symbols_at}
use Rattle.szs_read.specs.Claims.{IsLiteralOver, IsGrownBy}
use Rattle.szs_read.specs.declared.number.Node.{Node}
use Rattle.szs_read.specs.declared.number.Node.TheVariants.{Variable, Function}

-- the nodes of terms, from left to right, a function before its arguments
abbrev mutual
  pub term_nodes : TermValue → List Node
  term_nodes (Var x) = Variable x ∷ []
  term_nodes (App f ts) = Function f (count ts) ∷ nodes_of ts

  pub nodes_of : Arguments → List Node
  nodes_of Nil = []
  nodes_of (Cons t ts) = term_nodes t ++ nodes_of ts

abbrev pub node_functions : List Node → List ℕ
node_functions [] = []
node_functions (Variable x ∷ nodes) = node_functions nodes
node_functions (Function f n ∷ nodes) = f ∷ node_functions nodes

-- it is a function that takes more arguments than these
abbrev pub TakesMore : Node → ℕ → Type 0
TakesMore (Variable x) n = ⊥
TakesMore (Function f m) n = n < m

-- the variable has 32 bits, or there is such a function and it takes so many arguments
abbrev pub IsNode : List SymbolValue → Node → Type 0
IsNode functions (Variable x) = x < 2 ^ 32
IsNode functions (Function f n) = IsTrue (takes (slice_get functions f) n)

-- The new functions are the old ones with those of the nodes that are new.
pub record AreNumbered (old new : List SymbolValue) (nodes : List Node) : Type 0 where
  pub symbols : new ≡ with_symbols old (symbols_at new (node_functions nodes))
  pub readable : AllByRecursion IsFunctionSymbol (symbols_at new (node_functions nodes))
  pub lawful : AllByRecursion (IsNode new) nodes

-- The new predicates are the old ones with this one, which takes so many arguments.
pub record IsPredicateAt (old new : List SymbolValue) (p n : ℕ) : Type 0 where
  pub symbols : new ≡ with_symbols old (symbols_at new (p ∷ []))
  pub readable : AllByRecursion IsPredicateSymbol (symbols_at new (p ∷ []))
  pub takes : IsTrue (takes (slice_get new p) n)

-- The literals are over the new signature, which is the old one with their symbols.
pub record AreRead (old new : SignatureValue) (brackets : ℕ) (ls : List Literal) : Type 0 where
  pub grown : IsGrownBy old ls new
  pub over : AllByRecursion (IsLiteralOver new brackets) ls
