-- What the private calls of the reader find where a line has something to be found.
use Rattle.std.specs.Prelude.{◌≡◌, ◌<◌, ◌^◌, ℕ, List, [], ◌∷◌, Option, Some, decimal}
use Rattle.me_terms.specs.Sequences.{SequenceValue}
use Rattle.me_terms.specs.Terms.{Arguments, arguments_of, TermValue}
use Rattle.me_terms.specs.Values.{SymbolValue, SignatureValue}
use Rattle.me_terms.specs.Variables.{count}
use Rattle.me_terms.specs.declared.atom.Literal.{Literal}
use Rattle.me_terms.specs.declared.entry.Kind.{Kind}
use Rattle.cnf_text.specs.ClauseText.{literal_text, clause_text}
use Rattle.tptp_tokens.specs.Tokens.{TokenValue}
use Rattle.tptp_tokens.specs.declared.token.TokenKind.TheVariants as kinds
use Rattle.szs_print.specs.ModelText.{kind_text}
use Rattle.szs_read.specs.Claims.{IsInstanceLine, IsEntryLine}
use Rattle.szs_read.specs.ClaimText.{instance_line, entry_line}
use Rattle.szs_read.specs.Coming.{IfSomeIs, AreSymbolsToCome, AreLiteralsToCome}
use Rattle.szs_read.specs.LineTokens.{AreLeft, token, comma_token, clause_then}
use Rattle.szs_read.specs.RowItems.{IsRowOf}
use Rattle.szs_read.specs.Rows.{nodes_of}
use Rattle.szs_read.specs.Values.{InstanceLineValue}
use Rattle.szs_read.specs.declared.claim.EntryLine.{EntryLine}
use Rattle.szs_read.specs.declared.number.Node.{Node}
use Rattle.szs_read.specs.declared.row.Row.{Row}

-- the terms whose nodes these are
abbrev pub FindsTerms : List Node → ℕ → Option (SequenceValue TermValue) → Type 0
FindsTerms nodes n found = (ts : Arguments) → nodes_of ts ≡ nodes → count ts ≡ n → IfSomeIs found (λ terms. arguments_of terms.items ≡ ts)

-- a literal with the same text as the one whose names these are
abbrev pub FindsLiteral : SignatureValue → SignatureValue → ℕ → Row → Option Literal → Type 0
FindsLiteral old new brackets row found =
    (end : SignatureValue) (l : Literal) (functions predicates : List SymbolValue) → AreLiteralsToCome old end brackets (l ∷ []) functions predicates → IsRowOf end l row
    → IfSomeIs found (λ m. literal_text end m ≡ literal_text end l) × AreSymbolsToCome new end functions predicates

-- literals with the same text as those that are left before a comma
abbrev pub FindsLiterals : SignatureValue → SignatureValue → ℕ → List ℕ → List ℕ → Option (SequenceValue Literal) → Type 0
FindsLiterals old new brackets before after found =
    (end : SignatureValue) (ls : List Literal) (functions predicates : List SymbolValue) (rest : List TokenValue) → AreLiteralsToCome old end brackets ls functions predicates → AreLeft before (clause_then end ls (comma_token ∷ rest))
    → IfSomeIs found (λ ms. clause_text end ms.items ≡ clause_text end ls) × AreSymbolsToCome new end functions predicates × AreLeft after rest

-- ---- lines

-- The bytes are the k-th line of a refutation over the signature at the end, which is the one that there is with the symbols of the line and then these others.
pub record IsInstanceToCome (now end : SignatureValue) (k : ℕ) (bytes : List ℕ) (line : InstanceLineValue) (functions predicates : List SymbolValue) : Type 0 where
  pub lawful : IsInstanceLine end line
  pub coming : AreLiteralsToCome now end 999 line.literals functions predicates
  pub text : bytes ≡ instance_line end k line

abbrev pub FindsInstanceText : SignatureValue → SignatureValue → List ℕ → Option InstanceLineValue → Type 0
FindsInstanceText old new bytes found =
    (end : SignatureValue) (k : ℕ) (line : InstanceLineValue) (functions predicates : List SymbolValue) → k < 2 ^ 64 → IsInstanceToCome old end k bytes line functions predicates
    → IfSomeIs found (λ l. instance_line end k l ≡ bytes) × AreSymbolsToCome new end functions predicates

abbrev pub FindsInstance : SignatureValue → SignatureValue → ℕ → List ℕ → Type 0 → Type 0
FindsInstance old new k bytes found =
    (end : SignatureValue) (line : InstanceLineValue) (functions predicates : List SymbolValue) → IsInstanceToCome old end k bytes line functions predicates → found × AreSymbolsToCome new end functions predicates

-- The bytes are a line of a model, for a position behind the last one.
pub record IsEntryToCome (now end : SignatureValue) (last : ℕ) (bytes : List ℕ) (line : EntryLine) (functions predicates : List SymbolValue) : Type 0 where
  pub lawful : IsEntryLine end line
  pub rises : last < line.at
  pub coming : AreLiteralsToCome now end 999 (line.literal ∷ []) functions predicates
  pub text : bytes ≡ entry_line end line

abbrev pub kind_token : Kind → TokenValue
kind_token kind = token kinds.LowerWord (kind_text kind)

abbrev pub position_token : ℕ → TokenValue
position_token at = token kinds.LowerWord (101 ∷ decimal at)

abbrev pub FindsEntryText : SignatureValue → SignatureValue → ℕ → List ℕ → Option EntryLine → Type 0
FindsEntryText old new last bytes found =
    (end : SignatureValue) (line : EntryLine) (functions predicates : List SymbolValue) → IsEntryToCome old end last bytes line functions predicates
    → IfSomeIs found (λ l. (l.at ≡ line.at) × (entry_line end l ≡ bytes)) × AreSymbolsToCome new end functions predicates

abbrev pub FindsEntryAs : SignatureValue → SignatureValue → ℕ → List ℕ → Option EntryLine → Type 0
FindsEntryAs old new last bytes found =
    (end : SignatureValue) (line : EntryLine) (functions predicates : List SymbolValue) → IsEntryToCome old end last bytes line functions predicates
    → IfSomeIs found (λ l. l.at ≡ line.at) × AreSymbolsToCome new end functions predicates

abbrev pub FindsEntry : SignatureValue → SignatureValue → ℕ → List ℕ → Option ℕ → Type 0
FindsEntry old new last bytes found =
    (end : SignatureValue) (line : EntryLine) (functions predicates : List SymbolValue) → IsEntryToCome old end last bytes line functions predicates
    → (found ≡ Some line.at) × AreSymbolsToCome new end functions predicates
