use Rattle.std.proofs.Common.{[], ◌∷◌, sym, ◌∙◌}
use Rattle.problem_checks.proofs.Walks.{each_some, each_none, each_all}
use Rattle.problem_checks.proofs.numbering.next_in_atoms.Goals as goal

pub loop-literal-preserved : goal.loop-literal-preserved
loop-literal-preserved c =
    c.loop-literal.invariant ∙ each_some (λ l. l.atom.pred ∷ []) c.args.literals.now c.loop-literal.literal-index c.literal-item.result c.loop-literal.number c.in-Some.next c.loop-literal-test.true c.literal-item.is c.in-Some.ensures

pub returns-in-None : goal.returns-in-None
returns-in-None c =
    sym (c.loop-literal.invariant ∙ each_none (λ l. l.atom.pred ∷ []) c.args.literals.now c.loop-literal.literal-index c.literal-item.result c.loop-literal.number c.loop-literal-test.true c.literal-item.is c.in-None.ensures)

pub returns : goal.returns
returns c = sym (c.loop-literal.invariant ∙ each_all (λ l. l.atom.pred ∷ []) c.args.literals.now c.loop-literal.literal-index c.loop-literal.number c.loop-literal-test.false)
