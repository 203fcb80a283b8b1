-- Which claims a printed answer can make.
use Rattle.std.specs.Prelude.{◌≡◌, ℕ, ◌-◌, ◌^◌, ◌<◌, ◌≤◌, true, List, [], ◌∷◌, map, IsTrue}
use Rattle.std.specs.List.{AllByRecursion, flat_map}
use Rattle.me_terms.specs.Labels.{IsClauseLabel, IsFunctionSymbol, IsPredicateSymbol}
use Rattle.me_terms.specs.Measures.{literal_depth}
use Rattle.me_terms.specs.Signatures.{is_known_atom}
use Rattle.me_terms.specs.Terms.{AtomValue}
use Rattle.me_terms.specs.Values.{SymbolValue, SignatureValue}
use Rattle.me_terms.specs.Variables.{variables_of}
use Rattle.me_terms.specs.declared.atom.Literal.{Literal}
use Rattle.me_terms.specs.declared.bounds.TheConstants.{MAX_ENTRIES}
use Rattle.tptp_grammar.specs.declared.limits.TheConstants.{MAX_FORMULAS}
use Rattle.tptp_cnf.specs.Meaning.{with_symbols}
use Rattle.tptp_cnf.specs.Plain.{function_numbers, symbols_at}
use Rattle.szs_read.specs.Values.{InstanceLineValue}
use Rattle.szs_read.specs.declared.claim.TheConstants.{MAX_OPEN}
use Rattle.szs_read.specs.declared.claim.EntryLine.{EntryLine}
use Rattle.szs_read.specs.declared.claim.Claim.{Claim}
use Rattle.szs_read.specs.declared.claim.Claim.TheVariants.{Refuted, Model, Open}

-- A literal over the signature, with variables of 32 bits. As many brackets are open in it as it is deep.
pub record IsLiteralOver (signature : SignatureValue) (brackets : ℕ) (l : Literal) : Type 0 where
  pub known : IsTrue (is_known_atom signature l.atom)
  pub variables : AllByRecursion (λ x. x < 2 ^ 32) (variables_of l.atom.args)
  pub few_brackets : literal_depth l ≤ brackets

-- A literal of a line, in which the bracket of `cnf(` is open too.
abbrev pub IsLineLiteral : SignatureValue → Literal → Type 0
IsLineLiteral signature l = IsLiteralOver signature (MAX_OPEN - 1) l

-- The number and the label are ones that a formula of a file can have.
pub record IsInstanceLine (signature : SignatureValue) (line : InstanceLineValue) : Type 0 where
  pub number : (1 ≤ line.number) × (line.number ≤ MAX_FORMULAS)
  pub label : IsClauseLabel line.label
  pub literals : AllByRecursion (IsLineLiteral signature) line.literals

-- The lines stand at rising positions, the first behind this one.
abbrev pub Rises : ℕ → List EntryLine → Type 0
Rises k [] = Unit {0}
Rises k (line ∷ lines) = (k < line.at) × Rises line.at lines

-- The position is one of a context, and not that of the pseudo-literal.
pub record IsEntryLine (signature : SignatureValue) (line : EntryLine) : Type 0 where
  pub at : (1 ≤ line.at) × (line.at < MAX_ENTRIES)
  pub literal : IsLineLiteral signature line.literal

abbrev pub IsClaim : SignatureValue → Claim → Type 0
IsClaim signature (Refuted lines) = AllByRecursion (IsInstanceLine signature) lines.items
IsClaim signature (Model start lines) = AllByRecursion (IsEntryLine signature) lines.items × Rises 0 lines.items
IsClaim signature (Open bound) = Unit {0}

abbrev pub instance_literals : List InstanceLineValue → List Literal
instance_literals lines = flat_map (λ line. line.literals) lines

abbrev pub entry_literals : List EntryLine → List Literal
entry_literals lines = map (λ line. line.literal) lines

-- The literals of all lines, in order.
abbrev pub claim_literals : Claim → List Literal
claim_literals (Refuted lines) = instance_literals lines.items
claim_literals (Model start lines) = entry_literals lines.items
claim_literals (Open bound) = []

-- The functions and the predicates of literals, as often as they stand, a function before its arguments.
abbrev pub functions_in : SignatureValue → List Literal → List SymbolValue
functions_in signature ls = symbols_at signature.functions (flat_map (λ l. function_numbers l.atom.args) ls)

abbrev pub predicates_in : SignatureValue → List Literal → List SymbolValue
predicates_in signature ls = symbols_at signature.predicates (map (λ l. l.atom.pred) ls)

-- The new signature is the old one with the symbols of these literals, which are over the new one: those that the old one has not stand behind it in the order in which they occur first. Each is one that a file can have.
pub record IsGrownBy (old : SignatureValue) (ls : List Literal) (new : SignatureValue) : Type 0 where
  pub functions : new.functions ≡ with_symbols old.functions (functions_in new ls)
  pub predicates : new.predicates ≡ with_symbols old.predicates (predicates_in new ls)
  pub readable_functions : AllByRecursion IsFunctionSymbol (functions_in new ls)
  pub readable_predicates : AllByRecursion IsPredicateSymbol (predicates_in new ls)

-- The atom as a literal without negation.
abbrev pub literal_of : AtomValue → Literal
literal_of a = record { positive = true; atom = a }
