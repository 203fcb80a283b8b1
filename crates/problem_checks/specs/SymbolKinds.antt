-- The symbols of a kind.
use Rattle.std.specs.Prelude.{List}
use Rattle.me_terms.specs.Values.{SymbolValue, SignatureValue}
use Rattle.problem_checks.specs.declared.symbols.SymbolKind.{SymbolKind}
use Rattle.problem_checks.specs.declared.symbols.SymbolKind.TheVariants.{Function, Predicate}

-- the functions or the predicates of the signature
abbrev pub symbols_of : SymbolKind → SignatureValue → List SymbolValue
symbols_of Function signature = signature.functions
symbols_of Predicate signature = signature.predicates
