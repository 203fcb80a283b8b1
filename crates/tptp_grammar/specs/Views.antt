-- What the machine of the code holds.
use Rattle.tptp_tokens.specs.declared.token.TokenKind.{TokenKind}
use Rattle.tptp_tokens.specs.declared.token.TokenKind.TheVariants.{OpenRound, OpenSquare}
use Rattle.std.specs.Prelude.{Bool, true, false, reverse}
use Rattle.tptp_tokens.specs.declared.token.Token.{Token}
use Rattle.tptp_tokens.specs.Tokens.{token_value}
use Rattle.tptp_grammar.specs.Terminals as terminals
use Rattle.tptp_grammar.specs.Machine as machine
use Rattle.tptp_grammar.specs.Machine.{State}
use Rattle.tptp_grammar.specs.declared.place.Stage.{Stage}
use Rattle.tptp_grammar.specs.declared.place.Place.{Place}
use Rattle.tptp_grammar.specs.declared.place.Stage.TheVariants.{Between, Begun, Opened, Labelled, LabelEnd, Roled, FormulaStart, LiteralStart, Negated, AtomStart, ArgumentStart, Named, Done, LiteralEnd, FormulaEnd, NotesStart, Notes, Closed}

abbrev pub state_of_stage : Stage → Place → State
state_of_stage Between p = machine.Between
state_of_stage Begun p = machine.Begun
state_of_stage Opened p = machine.Opened
state_of_stage Labelled p = machine.Labelled
state_of_stage LabelEnd p = machine.LabelEnd
state_of_stage Roled p = machine.Roled
state_of_stage FormulaStart p = machine.FormulaStart p.brackets
state_of_stage LiteralStart p = machine.LiteralStart p.brackets
state_of_stage Negated p = machine.Negated p.brackets
state_of_stage AtomStart p = machine.AtomStart p.brackets
state_of_stage ArgumentStart p = machine.ArgumentStart p.number (reverse p.arguments.items) p.in_brackets p.brackets
state_of_stage Named p = machine.Named (reverse p.arguments.items) p.in_brackets p.brackets
state_of_stage Done p = machine.Done (reverse p.arguments.items) p.in_brackets p.brackets
state_of_stage LiteralEnd p = machine.LiteralEnd p.brackets
state_of_stage FormulaEnd p = machine.FormulaEnd p.brackets
state_of_stage NotesStart p = machine.NotesStart
state_of_stage Notes p = machine.Notes (reverse p.notes.items)
state_of_stage Closed p = machine.Closed

abbrev pub state_of : Place → State
state_of p = state_of_stage p.stage p

-- a stage in which no literal has begun, or the line is closed
abbrev pub IsHeader : Stage → Type 0
IsHeader Between = Unit {0}
IsHeader Begun = Unit {0}
IsHeader Opened = Unit {0}
IsHeader Labelled = Unit {0}
IsHeader LabelEnd = Unit {0}
IsHeader Roled = Unit {0}
IsHeader Closed = Unit {0}
IsHeader stage = ⊥

abbrev pub terminal_of : Token → terminals.Terminal
terminal_of token = terminals.terminal (token_value token)

abbrev pub is_opening : TokenKind → Bool
is_opening OpenRound = true
is_opening OpenSquare = true
is_opening kind = false
