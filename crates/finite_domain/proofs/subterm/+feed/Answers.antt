use Rattle.std.proofs.Common.{◌≡◌, List, map, ap, arith}
use Rattle.me_terms.specs.Terms.{TermValue, arguments_of, heights}
use Rattle.me_terms.specs.TermViews.{term_value}
use Rattle.finite_domain.proofs.Making.{height_item}
use Rattle.finite_domain.proofs.subterm.+feed.Goals as goal

pub feed_all-feed-requires : goal.feed_all-feed-requires
feed_all-feed-requires g t c κs within =
    let low = height_item c.as_slice-term-items.result.now c.loop-term.term-index c.term-item.result c.loop-term-test.true c.term-item.is in
    let same : heights (arguments_of (map term_value c.as_slice-term-items.result.now)) ≡ heights (arguments_of c.args.terms.now.items) = ap (λ (ts : List TermValue). heights (arguments_of ts)) c.as_slice-term-items.ensures in
    (omega (arith, low, same, c.decreases), within)
