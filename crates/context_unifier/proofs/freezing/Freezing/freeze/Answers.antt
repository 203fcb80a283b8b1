use Rattle.std.proofs.Common.{◌≡◌, ◌∷◌, [], ◌++◌, true, List, ap, ◌∙◌}
use Rattle.me_terms.specs.Terms.{TermValue, App, arguments_of}
use Rattle.me_unify.specs.Equations.{equation}
use Rattle.context_unifier.specs.Frozen.{unary}
use Rattle.context_unifier.proofs.FrozenClauses.{stays_more}
use Rattle.context_unifier.proofs.freezing.Freezing.freeze.Goals as goal

pub returns : goal.returns
returns c =
    let old = c.args.self.now.bindings in
    let next = c.args.self.now.next in
    let yes : c.in_ok-unify.field-0 ≡ true = cc (c.if-not-branch.false) in
    let constant = c.in_ok-constant.ensures ∙ ap (λ (ts : List TermValue). unary (App next (arguments_of ts))) c.new-args.ensures in
    let more = c.in_ok-unify.ensures.yes yes ∙ (λ i. old ++ equation c.args.space (c.in_ok-variable.ensures i) 0 (constant i) ∷ []) in
    stays_more old _ next c.args.space c.args.x c.requires more
