use Rattle.std.proofs.Common.{◌*◌, ◌<◌, sym, arith}
use Rattle.me_terms.specs.Terms.{height}
use Rattle.me_terms.specs.TermViews.{term_value}
use Rattle.me_terms.proofs.Numbered.{height_in}
use Rattle.context_unifier.proofs.FrozenClauses.{stays_twice}
use Rattle.context_unifier.proofs.freezing.Freezing.+terms.Goals as goal

pub freeze_terms-freeze_term-requires : goal.freeze_terms-freeze_term-requires
freeze_terms-freeze_term-requires t c =
    let low = height_in c.args.terms.now.items c.loop-k.k (term_value c.in-Some.term.now) (sym c.in-Some.ensures.item) in
    let falls : 2 * height (term_value c.in-Some.term.now) < t = omega (arith, low, c.decreases) in
    (falls, c.requires)

pub freeze_terms-loop-k-preserved : goal.freeze_terms-loop-k-preserved
freeze_terms-loop-k-preserved t c = stays_twice _ c.loop-k.self.bindings _ _ c.loop-k.self.next _ c.loop-k.invariant c.in_ok-freeze_term.ensures
