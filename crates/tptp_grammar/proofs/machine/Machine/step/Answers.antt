use Rattle.std.proofs.Common.{rules, sym, ap, ◌∙◌}
use Rattle.tptp_grammar.specs.Views.{terminal_of, state_of}
use Rattle.tptp_grammar.specs.MachineViews.{reading}
use Rattle.tptp_grammar.proofs.Steps.{stepped}
use Rattle.tptp_grammar.proofs.machine.Machine.step.Goals as goal

pub returns-clause-goes : goal.returns-clause-goes
returns-clause-goes c =
    stepped (reading c.args.self.now) (reading c.count.new.self) (terminal_of c.args.token.now) _ (state_of c.advance.new.self) _ c.is_too_deep-is_too_deep.result c.part-part.ensures
    (c.in_ok-advance.ensures.goes (search rules))
    (sym c.limit_of_part.ensures ∙ c.in_default.is)
    c.in_ok-note_variable.ensures.tally
    c.is_too_deep-is_too_deep.ensures
    (sym c.limit_of_all.ensures ∙ c.in_default-limit_of_all.is)
    (ap state_of (c.count.ensures.place ∙ c.in_ok-note_variable.ensures.place))
    c.count.ensures.tally
