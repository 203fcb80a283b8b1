use Rattle.std.proofs.Common.{subst}
use Rattle.std.specs.Prelude.{IfOk}
use Rattle.me_terms.specs.Values.{ProblemValue}
use Rattle.me_terms.specs.declared.bounds.Bounds.{Bounds}
use Rattle.branch_core.specs.Whole.{AreWholeRecords}
use Rattle.darwin_solve.proofs.pool.explore_pool.Goals as goal

pub returns : goal.returns
returns g c =
    let P : ProblemValue × Bounds → Type 0 = λ z. IfOk c.explore_nodes.result (λ records. AreWholeRecords z.0 z.1 records.items) in
    record { whole = subst P (λ i. (c.new-search.ensures.problem i, c.new-search.ensures.bounds i)) c.explore_nodes.ensures }
