use Rattle.ground_solver.proofs.Refuting.{closing_refutes}
use Rattle.ground_solver.proofs.laws.a_closing_proof_refutes.Goals as goal

pub returns : goal.returns
returns c = closing_refutes
