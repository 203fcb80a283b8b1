-- A literal has at most one tilde: a file with one, and tokens with two.
use Rattle.std.specs.Prelude.{List, [], ◌∷◌, ◌++◌, codes}
use Rattle.tptp_grammar.specs.Terminals.{Terminal, LowerWord, OpenRound, CloseRound, Comma, Dot, Tilde}
use Rattle.tptp_grammar.specs.Files.{BeginsFile}
use Rattle.tptp_grammar.specs.Refusals.{IsRefusalOf}
use Rattle.tptp_grammar.specs.declared.refusal.Refusal.TheVariants.{Syntax}
use Rattle.grammar_laws.specs.Verdicts.{IsSomeFile}

-- The tokens of `cnf(a,axiom,~`.
abbrev pub up_to_tilde : List Terminal
up_to_tilde = LowerWord (codes "cnf") ∷ OpenRound ∷ LowerWord (codes "a") ∷ Comma ∷ LowerWord (codes "axiom") ∷ Comma ∷ Tilde ∷ []

-- The tokens of `p).`
abbrev pub from_atom : List Terminal
from_atom = LowerWord (codes "p") ∷ CloseRound ∷ Dot ∷ []

abbrev pub OneTildeIsRead : Type 0
OneTildeIsRead = IsSomeFile (up_to_tilde ++ from_atom)

-- The second tilde is refused, so no file begins with both.
abbrev pub TwoTildesAreRefused : Type 0
TwoTildesAreRefused = IsRefusalOf Syntax up_to_tilde Tilde × ¬ BeginsFile (up_to_tilde ++ Tilde ∷ from_atom)
