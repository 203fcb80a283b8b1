use Rattle.std.proofs.Common.{◌≡◌, true, IsTrue}
use Rattle.std.proofs.lemmas.Result.{IfOk-weaker}
use Rattle.me_unify.specs.Equations.{IsSolvable}
use Rattle.context_unifier.specs.Frozen.{asking}
use Rattle.context_unifier.proofs.frozen.Frozen.is_instance.Goals as goal

pub returns-then-not-branch-clause-exact : goal.returns-then-not-branch-clause-exact
returns-then-not-branch-clause-exact c d tells = (
  λ t. cc,
  λ q. let yes : IsTrue c.in_ok-goes_with.field-0 = c.in_ok-goes_with.ensures.exact.1 ((tells c.args.atom.now).1 q).0 in cc (yes, c.if-not-branch.true),
)

pub returns-clause-exact : goal.returns-clause-exact
returns-clause-exact c =
    let yes : c.in_ok-goes_with.field-0 ≡ true = cc (c.if-not-branch.false) in
    let first : IsSolvable (asking c.args.self.now.one c.args.atom.now c.args.literal.now.atom) = c.in_ok-goes_with.ensures.exact.0 yes in
    IfOk-weaker c.goes_with-2.result _ _ (λ b given d tells. (
      λ t. (tells c.args.atom.now).0 (first, given.0 t),
      λ q. given.1 ((tells c.args.atom.now).1 q).1,
    )) c.goes_with-2.ensures.exact
