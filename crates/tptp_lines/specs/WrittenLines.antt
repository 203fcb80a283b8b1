-- Files that include files, as they are written: each line is a formula or an include.
use Rattle.std.specs.Prelude.{ℕ, List, [], ◌∷◌, ◌++◌, Option, Some, None, codes}
use Rattle.std.specs.List.{flat_map}
use Rattle.tptp_grammar.specs.Terminals.{Terminal, LowerWord, SingleQuoted, OpenRound, CloseRound, OpenSquare, CloseSquare, Comma, Dot}
use Rattle.tptp_grammar.specs.Written.{WrittenLabel, WrittenFormula}
use Rattle.tptp_grammar.specs.Printed.{label_terminal, printed, printed_terminals}

-- the names of a selection, of which there is at least one
pub record Selection : Type 0 where
  pub first : WrittenLabel
  pub others : List WrittenLabel

-- an include: the name of the file, and a selection, or none
pub record WrittenInclude : Type 0 where
  pub file : List ℕ
  pub selection : Option Selection

pub data WrittenLine : Type 0 where
  FormulaLine : WrittenFormula → WrittenLine
  IncludeLine : WrittenInclude → WrittenLine

-- each name behind a comma
abbrev pub commaed : List WrittenLabel → List Terminal
commaed labels = flat_map (λ label. Comma ∷ label_terminal label ∷ []) labels

-- nothing, or , [ NAME , .. , NAME ]
abbrev pub selection_terminals : Option Selection → List Terminal
selection_terminals None = []
selection_terminals (Some s) = Comma ∷ OpenSquare ∷ label_terminal s.first ∷ (commaed s.others ++ CloseSquare ∷ [])

-- include ( 'FILE' SELECTION ) .
abbrev pub include_terminals : WrittenInclude → List Terminal
include_terminals i = LowerWord (codes "include") ∷ OpenRound ∷ SingleQuoted i.file ∷ (selection_terminals i.selection ++ CloseRound ∷ Dot ∷ [])

abbrev pub line_terminals : WrittenLine → List Terminal
line_terminals (FormulaLine f) = printed_terminals (printed (f ∷ []))
line_terminals (IncludeLine i) = include_terminals i

-- the tokens of the lines
abbrev pub lines_terminals : List WrittenLine → List Terminal
lines_terminals lines = flat_map line_terminals lines

abbrev pub line_formulas : WrittenLine → List WrittenFormula
line_formulas (FormulaLine f) = f ∷ []
line_formulas (IncludeLine i) = []

-- the file that the lines are without their includes
abbrev pub formulas_of : List WrittenLine → List WrittenFormula
formulas_of lines = flat_map line_formulas lines
