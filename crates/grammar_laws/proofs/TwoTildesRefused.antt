-- `~p` is read, and `~~p` is refused.
use Rattle.std.proofs.Common.{[], ◌∷◌, ◌++◌, refl}
use Rattle.tptp_grammar.specs.Terminals.{Tilde}
use Rattle.tptp_grammar.specs.Files.{BeginsFile}
use Rattle.tptp_grammar.specs.Refusals.{IsRefusalOf}
use Rattle.tptp_grammar.specs.Machine.{Between, Negated}
use Rattle.tptp_grammar.specs.Readings.{Reading}
use Rattle.tptp_grammar.specs.declared.refusal.Refusal.TheVariants.{Syntax}
use Rattle.tptp_grammar.proofs.Judgements.{accepted, refused}
use Rattle.grammar_laws.specs.TwoTildes.{up_to_tilde, from_atom, OneTildeIsRead, TwoTildesAreRefused}

negated : Reading
negated = record { state = Negated 0; tally = record { formulas = 1; literals = 1; variables = [] } }

ended : Reading
ended = record { state = Between; tally = record { formulas = 1; literals = 1; variables = [] } }

pub one_tilde : OneTildeIsRead
unfolding ended
one_tilde = accepted (up_to_tilde ++ from_atom) ended refl refl

second_refused : IsRefusalOf Syntax up_to_tilde Tilde
unfolding negated
second_refused = refused Syntax up_to_tilde negated Tilde refl refl

no_file : BeginsFile (up_to_tilde ++ Tilde ∷ from_atom) → ⊥
no_file b = second_refused.1 (from_atom ++ b.0, b.1, b.2)

pub two_tildes : TwoTildesAreRefused
two_tildes = (second_refused, no_file)
