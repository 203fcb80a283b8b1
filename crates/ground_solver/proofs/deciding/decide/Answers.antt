use Rattle.std.proofs.Common.{◌≡◌, ◌↔◌, List, [], Some, subst}
use Rattle.std.specs.Prelude.{slice_get}
use Rattle.me_terms.specs.Sequences.{SequenceValue}
use Rattle.me_terms.specs.declared.atom.Literal.{Literal}
use Rattle.ground_solver.specs.Assignments.{clauses_of, IsUnsatisfiable}
use Rattle.ground_solver.specs.Decisions.{IsClosed, IsClosedBy, IsDecided}
use Rattle.ground_solver.specs.declared.decision.Decision.{Decision}
use Rattle.ground_solver.proofs.Concluding.{if_ok_map, closed_by, exactly}
use Rattle.ground_solver.proofs.deciding.decide.Goals as goal

pub returns-in-Some-clause-decided : goal.returns-in-Some-clause-decided
returns-in-Some-clause-decided c =
    let clauses = clauses_of c.args.list.now.items in
    let at : slice_get clauses c.in-Some.at ≡ Some [] = subst (λ (xs : List (SequenceValue Literal)). slice_get (clauses_of xs) c.in-Some.at ≡ Some []) c.as_slice.ensures c.in-Some.ensures in
    if_ok_map (IsClosedBy c.in-Some.at) (IsDecided clauses) c.closed_at.result (λ d by. closed_by clauses c.in-Some.at d at by) c.closed_at.ensures

pub returns-in-Some-clause-exact : goal.returns-in-Some-clause-exact
returns-in-Some-clause-exact c =
    let clauses = clauses_of c.args.list.now.items in
    if_ok_map (IsDecided clauses) (λ (d : Decision). IsClosed d ↔ IsUnsatisfiable clauses) c.closed_at.result (exactly clauses) (returns-in-Some-clause-decided c)

pub returns-in-None-clause-exact : goal.returns-in-None-clause-exact
returns-in-None-clause-exact c =
    let clauses = clauses_of c.args.list.now.items in
    if_ok_map (IsDecided clauses) (λ (d : Decision). IsClosed d ↔ IsUnsatisfiable clauses) c.decide_numbered.result (exactly clauses) c.decide_numbered.ensures
