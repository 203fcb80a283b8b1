use Rattle.std.proofs.Common.{subst}
use Rattle.ground_solver.specs.Turns.{IsTurn}
use Rattle.ground_solver.specs.declared.solving.Turn.{Turn}
use Rattle.ground_solver.specs.declared.solving.Turn.TheVariants.{Refuted}
use Rattle.ground_solver.proofs.solving.solve.Goals as goal

pub returns-then-not-branch : goal.returns-then-not-branch
returns-then-not-branch c =
    let clauses = c.args.clauses.now in
    let underway = c.in_ok-take_turn.ensures.underway c.args.atoms c.turns.invariant in
    let refuted : IsTurn clauses c.turns.search c.take_turn.new.search (Refuted c.in-Refuted.place) = subst (λ (t : Turn). IsTurn clauses c.turns.search c.take_turn.new.search t) c.in-Refuted.is c.in_ok-take_turn.ensures.turn in
    c.in_ok-close-in-Refuted.ensures.closing c.if-not-branch.true clauses c.args.atoms underway (refuted.0)

pub turns-preserved : goal.turns-preserved
turns-preserved c =
    let clauses = c.args.clauses.now in
    let underway = c.in_ok-take_turn.ensures.underway c.args.atoms c.turns.invariant in
    let refuted : IsTurn clauses c.turns.search c.take_turn.new.search (Refuted c.in-Refuted.place) = subst (λ (t : Turn). IsTurn clauses c.turns.search c.take_turn.new.search t) c.in-Refuted.is c.in_ok-take_turn.ensures.turn in
    c.in_ok-close-in-Refuted.ensures.underway c.if-not-branch.false clauses c.args.atoms underway (refuted.0)
