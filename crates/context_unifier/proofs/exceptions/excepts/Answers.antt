use Rattle.std.proofs.Common.{◌≡◌, true, sym, ap}
use Rattle.std.proofs.lemmas.Result.{IfOk-weaker}
use Rattle.me_terms.specs.Values.{EntryValue}
use Rattle.context_unifier.proofs.Asked.{excepts_by}
use Rattle.context_unifier.proofs.exceptions.excepts.Goals as goal

pub returns-clause-exact : goal.returns-clause-exact
returns-clause-exact g c =
    let context = g.V.View.context c.args.view.now in
    let seen : c.visible.result ≡ true = cc (c.if-not-visible.false) in
    let strong : c.is_stronger.result ≡ true = cc (c.if-not-is_stronger.false) in
    let same = ap (λ (e : EntryValue). e.atom) c.other.view_is in
    IfOk-weaker c.falls_under.result _ _ (λ b given d tells.
    excepts_by context c.args.j c.args.entry.now c.in-Some.other.now _ d b (sym c.in-Some.ensures.item) (c.visible.ensures.0 seen) (c.is_stronger.ensures.0 strong) same (given d tells)) c.falls_under.ensures.exact
