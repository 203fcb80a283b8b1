use Rattle.std.proofs.Common.{Option, None, sym, subst}
use Rattle.std.specs.Prelude.{IfSome}
use Rattle.me_terms.specs.Positions.{positions_of}
use Rattle.me_terms.specs.Substitutions.{apply_atom}
use Rattle.me_unify.specs.ClauseEquations.{clause_equations}
use Rattle.context_unifier.specs.Frozen.{IsFrozen}
use Rattle.context_unifier.specs.declared.freezing.Freezing.{Freezing}
use Rattle.context_unifier.proofs.FrozenClauses.{clause_tells}
use Rattle.context_unifier.proofs.Asked.{tells_same}
use Rattle.context_unifier.proofs.frozen.Frozen.new.Goals as goal

pub returns-then-branch-2 : goal.returns-then-branch-2
returns-then-branch-2 g c f general =
    let context = g.V.View.context c.args.view.now in
    let a = c.args.literal.now.atom in
    let ks = positions_of None c.args.tuple.now.items in
    let es = clause_equations context c.args.literals.now ks in
    let z = subst (λ (o : Option Freezing). IfSome o (λ r. IsFrozen es 0 r.bindings r.next)) c.in-Some.is c.in_ok-one.ensures in
    let z' = subst (λ (o : Option Freezing). IfSome o (λ r. IsFrozen es c.in-Some.one.next r.bindings r.next)) c.in-Some-2.is c.in_ok-other.ensures in
    let told = clause_tells context c.args.literals.now ks _ _ _ _ a c.requires.few z z' (c.in_ok-is_closed.ensures.closed c.if-branch.true) (c.in_ok-is_closed-2.ensures.closed c.if-branch-2.true) f general in
    tells_same _ _ _ _ a (apply_atom (f 0) a) (sym c.in_ok-is_closed.ensures.kept) (sym c.in_ok-is_closed-2.ensures.kept) told
