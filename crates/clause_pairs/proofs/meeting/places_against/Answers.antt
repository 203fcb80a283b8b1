use Rattle.std.proofs.Common.{◌≡◌, length, arith}
use Rattle.me_laws_increments.specs.Pairs.{IsPair}
use Rattle.clause_pairs.proofs.Against.{clause_more, clauses_all, clause_read, all_read}
use Rattle.clause_pairs.proofs.meeting.places_against.Goals as goal

pub loop-c-preserved : goal.loop-c-preserved
loop-c-preserved c =
    let problem = c.args.problem.now in
    let at = clause_read problem _ c.as_slice-clause-items.result.now c.loop-c.c c.clause-item.result c.as_slice-clause-items.ensures c.problem.view_is c.loop-c-test.true c.clause-item.is in
    clause_more problem (λ m. IsPair c.args.entry.now m) c.loop-c.places.items c.in_ok-places.places.items c.loop-c.c c.clause-item.result at c.in_ok-places.ensures c.loop-c.invariant

pub returns : goal.returns
returns c =
    let problem = c.args.problem.now in
    let end : c.loop-c.c ≡ length c.as_slice-clause-items.result.now = omega (arith, c.loop-c.auto.c-end, c.loop-c-test.false) in
    clauses_all problem (λ m. IsPair c.args.entry.now m) c.loop-c.places.items c.loop-c.c (all_read problem _ c.as_slice-clause-items.result.now c.loop-c.c c.as_slice-clause-items.ensures c.problem.view_is end) c.loop-c.invariant
