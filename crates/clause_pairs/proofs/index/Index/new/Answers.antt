use Rattle.std.proofs.Common.{◌≡◌, length, arith}
use Rattle.clause_pairs.proofs.Against.{clause_read, all_read}
use Rattle.clause_pairs.proofs.Indexing.{index_step, index_end, knows_clause}
use Rattle.clause_pairs.proofs.index.Index.new.Goals as goal

pub file_clause-requires-clause-atoms : goal.file_clause-requires-clause-atoms
file_clause-requires-clause-atoms c =
    let problem = c.args.problem.now in
    let clause = c.clause-item.result in
    let at = clause_read problem _ c.as_slice-clause-items.result.now c.loop-c.c clause c.as_slice-clause-items.ensures c.problem.view_is c.loop-c-test.true c.clause-item.is in
    knows_clause problem c.loop-c.index c.loop-c.c clause c.loop-c.invariant.atoms at

pub loop-c-preserved : goal.loop-c-preserved
loop-c-preserved c =
    let problem = c.args.problem.now in
    let clause = c.clause-item.result in
    let at = clause_read problem _ c.as_slice-clause-items.result.now c.loop-c.c clause c.as_slice-clause-items.ensures c.problem.view_is c.loop-c-test.true c.clause-item.is in
    index_step problem c.loop-c.index c.file_clause.new.self c.loop-c.c clause at c.in_ok-file_clause.ensures c.loop-c.invariant

pub returns : goal.returns
returns c =
    let problem = c.args.problem.now in
    let end : c.loop-c.c ≡ length c.as_slice-clause-items.result.now = omega (arith, c.loop-c.auto.c-end, c.loop-c-test.false) in
    index_end problem c.loop-c.index c.loop-c.c (all_read problem _ c.as_slice-clause-items.result.now c.loop-c.c c.as_slice-clause-items.ensures c.problem.view_is end) c.loop-c.invariant
