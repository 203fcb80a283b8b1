use Rattle.std.proofs.Common.{◌≡◌, List, Option, None, subst}
use Rattle.std.specs.Prelude.{IfSome}
use Rattle.me_terms.specs.Positions.{positions_of}
use Rattle.me_unify.specs.Equations.{Equation}
use Rattle.me_unify.specs.ClauseEquations.{clause_equations}
use Rattle.context_unifier.proofs.Asked.{starts}
use Rattle.context_unifier.proofs.frozen.freeze_clause.Goals as goal

pub returns : goal.returns
returns g c =
    let es = clause_equations (g.V.View.context c.args.view.now) c.args.literals.now (positions_of None c.args.tuple.now.items) in
    let given : c.in-Some.bindings ≡ es = subst (λ (o : Option (List Equation)). IfSome o (λ b. b ≡ es)) c.in-Some.is c.in_ok-bindings.ensures.equations in
    let first = starts es c.in-Some.bindings _ c.args.first _ given c.new-freezing.ensures.bindings c.new-freezing.ensures.next in
    c.in_ok-freeze_entries.ensures es c.args.first (c.in_ok-freeze_literals.ensures es c.args.first first)
