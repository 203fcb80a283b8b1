use Rattle.std.proofs.Common.{List, ◌∷◌, length}
use Rattle.me_terms.specs.Values.{SymbolValue, SignatureValue}
use Rattle.me_terms.specs.declared.atom.Literal.{Literal}
use Rattle.tptp_tokens.specs.Tokens.{TokenValue}
use Rattle.szs_read.specs.Coming.{AreLiteralsToCome}
use Rattle.szs_read.specs.LineTokens.{AreLeft, comma_token, clause_then}
use Rattle.szs_read.specs.Longer.{IsLonger}
use Rattle.szs_read.specs.Rows.{AreRead}
use Rattle.szs_read.proofs.Clauses.{LiteralsLeft}
use Rattle.szs_read.proofs.literal.read_literals.Given as goal

abbrev pub invariant-literals : goal.invariant-literals
invariant-literals l = record {
  read : AreRead l.initial.signature l.signature l.brackets l.literals.items;
  longer : IsLonger l.initial.signature l.signature (length l.initial.tokens.bytes) (length l.tokens.bytes);
  left : (end : SignatureValue) (ls : List Literal) (functions predicates : List SymbolValue) (rest : List TokenValue) → AreLiteralsToCome l.initial.signature end l.brackets ls functions predicates → AreLeft l.initial.tokens.bytes (clause_then end ls (comma_token ∷ rest)) → LiteralsLeft l.signature end l.brackets functions predicates ls l.literals.items l.tokens.bytes rest;
}

abbrev pub decreases-literals : goal.decreases-literals
decreases-literals l = length l.tokens.bytes
