use Rattle.std.specs.declared.vec.Vec.{Vec}
use Rattle.std.specs.declared.alloc.Global.{Global}
use Rattle.me_unify.proofs.Forest.{if_ok_map}
use Rattle.candidate_keys.specs.Keys.{UnifierKeyValue}
use Rattle.candidate_store.specs.Searches.{WithPivot, PivotWithin, HaveUnifiersIn}
use Rattle.candidate_store.proofs.United.{within_none, within_pseudo}
use Rattle.candidate_store.proofs.search.Search.first_unifiers.Goals as goal

pub returns-then-from-gt0 : goal.returns-then-from-gt0
returns-then-from-gt0 g c =
    within_none c.args.self.now.problem.now c.args.self.now.bounds.now (g.V.View.context c.args.self.now.view.now) c.args.from _ c.if-from-gt0.true

pub returns : goal.returns
returns g c =
    let problem = c.args.self.now.problem.now in
    let bounds = c.args.self.now.bounds.now in
    let context = g.V.View.context c.args.self.now.view.now in
    if_ok_map c.unifiers_of_pseudo.result (λ (keys : Vec UnifierKeyValue Global). HaveUnifiersIn problem bounds context (WithPivot 0) keys.items) (λ (keys : Vec UnifierKeyValue Global). HaveUnifiersIn problem bounds context (PivotWithin c.args.from 1) keys.items)
    (λ keys h. within_pseudo problem bounds context keys.items c.args.from c.if-from-gt0.false h) c.unifiers_of_pseudo.ensures
