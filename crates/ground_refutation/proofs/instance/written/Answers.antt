use Rattle.std.proofs.Common.{◌≡◌, ◌+◌, ◌++◌, ◌∷◌, [], drop, rules, ◌∙◌}
use Rattle.me_terms.specs.ListedInstances.{constant, instance_of}
use Rattle.ground_refutation.proofs.Loops.{written_more, none_left}
use Rattle.ground_refutation.proofs.instance.written.Goals as goal

pub loop-literal-preserved : goal.loop-literal-preserved
loop-literal-preserved c u most =
    let pushed : c.push.new.self.items ≡ c.loop-literal.list.items ++ c.in_ok-literal.literal ∷ [] = search rules in
    let more = written_more c.args.c0 u c.args.literals.now c.loop-literal.literal-index c.literal-item.result c.loop-literal-test.true c.literal-item.is c.loop-literal.list.items _ c.in_ok-literal.literal (c.in_ok-literal.ensures.instance u most) (c.loop-literal.invariant u most) in
    (λ i. pushed i ++ instance_of u (λ x. constant c.args.c0) (drop (c.loop-literal.literal-index + 1) c.args.literals.now)) ∙ more

pub returns : goal.returns
returns c u most = none_left u c.args.c0 c.args.literals.now c.loop-literal.list.items _ c.loop-literal.literal-index c.loop-literal-test.false (c.loop-literal.invariant u most)
