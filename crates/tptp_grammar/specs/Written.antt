-- Files as they are written, with all that has syntax: the trees of the grammar.
use Rattle.std.specs.Prelude.{◌≡◌, ℕ, Bool, true, List}
use Rattle.tptp_grammar.specs.Terminals.{Terminal, is_role, is_note}

-- a name: a lower word, or any text in single quotes
pub data Name : Type 0 where
  Bare : List ℕ → Name
  Quoted : List ℕ → Name

abbrev pub name_text : Name → List ℕ
name_text (Bare text) = text
name_text (Quoted text) = text

-- a variable, a distinct object, or a name with its arguments, in any nesting
mutual
  pub data WrittenTerm : Type 0 where
    Variable : List ℕ → WrittenTerm
    Distinct : List ℕ → WrittenTerm
    Apply : Name → WrittenTerms → WrittenTerm

  pub data WrittenTerms : Type 0 where
    NoTerms : WrittenTerms
    OneMore : WrittenTerm → WrittenTerms → WrittenTerms

-- $true or $false, or a name with its arguments
pub data WrittenAtom : Type 0 where
  Truth : Bool → WrittenAtom
  Predicate : Name → WrittenTerms → WrittenAtom

-- nothing before the atom, a tilde, or a tilde with brackets round the atom
pub data Sign : Type 0 where
  Positive : Sign
  Negative : Sign
  NegativeInBrackets : Sign

pub record WrittenLiteral : Type 0 where
  pub sign : Sign
  pub atom : WrittenAtom

-- a formula is labelled by a name, or by a number of digits alone
pub data WrittenLabel : Type 0 where
  Named : Name → WrittenLabel
  Numbered : List ℕ → WrittenLabel

-- tokens with brackets that are balanced, each closed by its own kind
pub data Notes : Type 0 where
  NoNotes : Notes
  Note : (terminal : Terminal) → is_note terminal ≡ true → Notes → Notes
  InRound : Notes → Notes → Notes
  InSquare : Notes → Notes → Notes

-- A formula: its label and its role; its literals, of which there is at least one, in any number of brackets; and notes, or none.
pub record WrittenFormula : Type 0 where
  pub label : WrittenLabel
  pub role : List ℕ
  pub role_known : is_role role ≡ true
  pub brackets : ℕ
  pub first : WrittenLiteral
  pub others : List WrittenLiteral
  pub notes : Notes
