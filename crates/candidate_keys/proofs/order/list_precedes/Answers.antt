use Rattle.candidate_keys.proofs.Orders.{left_short, left_greater}
use Rattle.candidate_keys.proofs.order.list_precedes.Goals as goal
use Rattle.candidate_keys.proofs.order.list_precedes.Goals.{then-k-other-via-then-k-other, then-k-other-via-else-k-other+then-list-k}

pub returns-then-k-other : goal.returns-then-k-other
returns-then-k-other c =
    let xs = c.args.list.now in
    let ys = c.args.other.now in
    let k = c.loop-k.k in
    let rest = c.loop-k.invariant.rest in
    elim c.then-k-other.branch [
      | then-k-other-via-then-k-other w ↦ (λ t. cc, λ h. absurd (left_short xs ys k c.loop-k-test.true w.if-k-other.true (rest.1 h)))
      | then-k-other-via-else-k-other+then-list-k w ↦ (λ t. cc, λ h. absurd (left_greater xs ys k c.loop-k-test.true w.if-k-other.false w.if-list-k.true (rest.1 h)))
    ]
