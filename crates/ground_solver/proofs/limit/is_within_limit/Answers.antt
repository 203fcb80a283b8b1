use Rattle.std.proofs.Common.{◌≡◌, ℕ, ◌+◌, ◌<◌, List, length, take, get_or, ap, arith, false, IsTrue}
use Rattle.me_terms.specs.declared.atom.Literal.{Literal}
use Rattle.ground_solver.specs.Assignments.{clauses_of}
use Rattle.ground_solver.specs.Named.{literal_count}
use Rattle.ground_solver.proofs.Numberings.{at_clause, count_more, count_part}
use Rattle.ground_solver.proofs.limit.is_within_limit.Goals as goal

-- the count with one clause more
counted_more : (list : List (List Literal)) (k total more : ℕ) (x : List Literal) → k < length list → get_or list k x ≡ x → total ≡ literal_count (take k list) → more ≡ length x → total + more ≡ literal_count (take (k + 1) list)
counted_more list k total more x below is so_far size =
    let item : length (get_or list k x) ≡ length x = ap length is in
    omega (arith, count_more list k x below, item, so_far, size)

pub returns-then-more-total : goal.returns-then-more-total
returns-then-more-total c =
    let x = c.literals-item.result in
    let k = c.loop-literals.literals-index in
    let list = clauses_of c.args.list.now.items in
    let at = at_clause c.as_slice-literals-items.result.now c.args.list.now.items k x c.as_slice-literals-items.ensures c.loop-literals-test.true c.literals-item.is in
    let whole : c.loop-literals.total + c.len-more.result ≡ literal_count (take (k + 1) list) = counted_more list k c.loop-literals.total c.len-more.result x.items (at.0) (at.1) c.loop-literals.invariant.counted c.len-more.ensures in
    (λ (h : IsTrue false). cc, λ few. absurd (omega (arith, whole, count_part list (k + 1), c.if-more-total.true, c.loop-literals.invariant.within)))

pub loop-literals-preserved : goal.loop-literals-preserved
loop-literals-preserved c =
    let x = c.literals-item.result in
    let k = c.loop-literals.literals-index in
    let list = clauses_of c.args.list.now.items in
    let at = at_clause c.as_slice-literals-items.result.now c.args.list.now.items k x c.as_slice-literals-items.ensures c.loop-literals-test.true c.literals-item.is in
    record {
      counted = counted_more list k c.loop-literals.total c.len-more.result x.items (at.0) (at.1) c.loop-literals.invariant.counted c.len-more.ensures;
      within = omega (arith, c.if-more-total.false, c.loop-literals.invariant.within);
    }
