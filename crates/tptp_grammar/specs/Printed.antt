-- The tokens of a written file, each with what it is in the file.
use Rattle.std.specs.Prelude.{ℕ, zero, suc, Bool, true, false, List, [], ◌∷◌, map, codes}
use Rattle.tptp_grammar.specs.Terminals.{Terminal, LowerWord, SingleQuoted, DollarWord, Digits, OpenRound, CloseRound, OpenSquare, CloseSquare, Comma, Dot, Bar, Tilde}
use Rattle.tptp_grammar.specs.Terminals as terminal
use Rattle.tptp_grammar.specs.Written.{Name, Bare, Quoted, WrittenTerm, Variable, Distinct, Apply, WrittenTerms, NoTerms, OneMore, WrittenAtom, Truth, Predicate, Sign, Positive, Negative, NegativeInBrackets, WrittenLiteral, WrittenLabel, Named, Numbered, Notes, NoNotes, Note, InRound, InSquare, WrittenFormula}
use Rattle.tptp_grammar.specs.declared.part.Part.{Part}
use Rattle.tptp_grammar.specs.declared.part.Part.TheVariants.{Formula as FormulaPart, Role as RolePart, Negative as NegativePart, Positive as PositivePart, Atom as AtomPart, Argument as ArgumentPart, Other as OtherPart, Label as LabelPart, OpenArguments, CloseArguments, End as EndPart}

-- a token of a written file: what it is there, and whether it is the last of an atom
pub record Printed : Type 0 where
  pub terminal : Terminal
  pub part : Part
  pub ends_atom : Bool

abbrev pub plain_token : Terminal → Printed
plain_token t = record { terminal = t; part = OtherPart; ends_atom = false }

abbrev pub as_part : Part → Terminal → Printed
as_part part t = record { terminal = t; part = part; ends_atom = false }

abbrev pub printed_terminals : List Printed → List Terminal
printed_terminals tokens = map (λ p. p.terminal) tokens

abbrev pub name_terminal : Name → Terminal
name_terminal (Bare text) = LowerWord text
name_terminal (Quoted text) = SingleQuoted text

abbrev pub truth_terminal : Bool → Terminal
truth_terminal true = DollarWord (codes "$true")
truth_terminal false = DollarWord (codes "$false")

abbrev pub label_terminal : WrittenLabel → Terminal
label_terminal (Named name) = name_terminal name
label_terminal (Numbered digits) = Digits digits

-- so many of these, and then the rest
abbrev pub times_then : ℕ → Printed → List Printed → List Printed
times_then zero token rest = rest
times_then (suc n) token rest = token ∷ times_then n token rest

-- Each of the following is the tokens of a part of the file, and then the rest.
abbrev mutual
  -- the argument of a number: v, "d", f, or f(t, .., t)
  pub term_then : ℕ → WrittenTerm → List Printed → List Printed
  term_then n (Variable text) rest = as_part (ArgumentPart n) (terminal.Variable text) ∷ rest
  term_then n (Distinct text) rest = as_part (ArgumentPart n) (terminal.Distinct text) ∷ rest
  term_then n (Apply name arguments) rest = as_part (ArgumentPart n) (name_terminal name) ∷ arguments_then false arguments rest

  -- nothing, or the arguments in their brackets; the second of these ends an atom, or it does not
  pub arguments_then : Bool → WrittenTerms → List Printed → List Printed
  arguments_then ends NoTerms rest = rest
  arguments_then ends (OneMore t ts) rest = as_part OpenArguments OpenRound ∷ term_then 1 t (others_then ends 1 ts rest)

  -- the arguments behind that of this number, and the closing bracket
  pub others_then : Bool → ℕ → WrittenTerms → List Printed → List Printed
  others_then ends n NoTerms rest = record { terminal = CloseRound; part = CloseArguments n; ends_atom = ends } ∷ rest
  others_then ends n (OneMore t ts) rest = plain_token Comma ∷ term_then (suc n) t (others_then ends (suc n) ts rest)

abbrev pub has_none : WrittenTerms → Bool
has_none NoTerms = true
has_none (OneMore t ts) = false

abbrev pub atom_then : Part → WrittenAtom → List Printed → List Printed
atom_then part (Truth value) rest = record { terminal = truth_terminal value; part = part; ends_atom = true } ∷ rest
atom_then part (Predicate name arguments) rest = record { terminal = name_terminal name; part = part; ends_atom = has_none arguments } ∷ arguments_then true arguments rest

abbrev pub signed_then : Sign → WrittenAtom → List Printed → List Printed
signed_then Positive atom rest = atom_then PositivePart atom rest
signed_then Negative atom rest = as_part NegativePart Tilde ∷ atom_then AtomPart atom rest
signed_then NegativeInBrackets atom rest = as_part NegativePart Tilde ∷ plain_token OpenRound ∷ atom_then AtomPart atom (plain_token CloseRound ∷ rest)

abbrev pub literal_then : WrittenLiteral → List Printed → List Printed
literal_then literal rest = signed_then literal.sign literal.atom rest

-- each literal behind a bar
abbrev pub barred_then : List WrittenLiteral → List Printed → List Printed
barred_then [] rest = rest
barred_then (literal ∷ literals) rest = plain_token Bar ∷ literal_then literal (barred_then literals rest)

abbrev pub notes_then : Notes → List Printed → List Printed
notes_then NoNotes rest = rest
notes_then (Note t known notes) rest = plain_token t ∷ notes_then notes rest
notes_then (InRound inner notes) rest = plain_token OpenRound ∷ notes_then inner (plain_token CloseRound ∷ notes_then notes rest)
notes_then (InSquare inner notes) rest = plain_token OpenSquare ∷ notes_then inner (plain_token CloseSquare ∷ notes_then notes rest)

-- nothing, or a comma and notes
abbrev pub noted_then : Notes → List Printed → List Printed
noted_then NoNotes rest = rest
noted_then notes rest = plain_token Comma ∷ notes_then notes rest

-- cnf ( LABEL , ROLE , ( .. ( LITERALS ) .. ) , NOTES ) .
abbrev pub formula_then : WrittenFormula → List Printed → List Printed
formula_then f rest =
    as_part FormulaPart (LowerWord (codes "cnf")) ∷ plain_token OpenRound ∷ as_part LabelPart (label_terminal f.label) ∷ plain_token Comma ∷ as_part RolePart (LowerWord f.role) ∷ plain_token Comma
    ∷ times_then f.brackets (plain_token OpenRound) (literal_then f.first (barred_then f.others (times_then f.brackets (plain_token CloseRound) (noted_then f.notes (plain_token CloseRound ∷ as_part EndPart Dot ∷ rest)))))

-- the tokens of a file
abbrev pub printed : List WrittenFormula → List Printed
printed [] = []
printed (f ∷ fs) = formula_then f (printed fs)
