use Rattle.std.proofs.Common.{◌≡◌, List, map, ap, arith}
use Rattle.me_terms.specs.Terms.{arguments_of}
use Rattle.me_terms.specs.TermViews.{term_value}
use Rattle.me_terms.specs.declared.term.Term.{Term}
use Rattle.finite_domain.specs.Names.{applied_in_all}
use Rattle.finite_domain.proofs.Going.{here}
use Rattle.finite_domain.proofs.Making.{height_item}
use Rattle.finite_domain.proofs.Names.{found_more}
use Rattle.finite_domain.proofs.naming.+walk.Goals as goal

pub walk_all-walk-requires : goal.walk_all-walk-requires
walk_all-walk-requires t c =
    let low = height_item c.args.terms.now c.terms.term-index c.term-item.result c.terms-test.true c.term-item.is in
    omega (arith, low, c.decreases)

pub walk_all-terms-preserved : goal.walk_all-terms-preserved
walk_all-terms-preserved t c =
    let rest = here c.args.terms.now c.terms.term-index c.term-item.result c.terms-test.true c.term-item.is in
    found_more c.terms.found.keys c.walk.new.found.keys _ _ _ _ (ap (λ (ts : List Term). applied_in_all (arguments_of (map term_value ts))) rest) c.in_ok-walk.ensures c.terms.invariant
