use Rattle.std.proofs.Common.{◌≡◌, List, length, subst, ap, ◌∙◌, arith}
use Rattle.me_terms.specs.Values.{ClauseValue}
use Rattle.me_terms.specs.declared.atom.Literal.{Literal}
use Rattle.clause_pairs.specs.Index.{AddsAtoms, IsGroundAtomIn}
use Rattle.clause_pairs.proofs.Against.{clause_read, all_read}
use Rattle.clause_pairs.proofs.GroundAtoms.{no_atoms, atoms_to_more, atoms_to_all}
use Rattle.clause_pairs.proofs.index.ground_atoms.Goals as goal

pub loop-clause-init : goal.loop-clause-init
loop-clause-init c = no_atoms c.args.problem.now c.new-atoms.result.keys c.new-atoms.ensures.empty

pub loop-clause-preserved : goal.loop-clause-preserved
loop-clause-preserved c =
    let problem = c.args.problem.now in
    let clause = c.clause-item.result in
    let at = clause_read problem _ c.as_slice-clause-items.result.now c.loop-clause.clause-index clause c.as_slice-clause-items.ensures c.problem.view_is c.loop-clause-test.true c.clause-item.is in
    let P : List Literal → Type 0 = λ z. AddsAtoms c.loop-clause.atoms.keys c.add_atoms.new.atoms.keys (IsGroundAtomIn z) in
    atoms_to_more problem c.loop-clause.atoms.keys c.add_atoms.new.atoms.keys c.loop-clause.clause-index clause at (subst P (c.as_slice.ensures ∙ ap (λ (z : ClauseValue). z.literals) c.clause.view_is) c.in_ok-add_atoms.ensures) c.loop-clause.invariant

pub returns : goal.returns
returns c =
    let problem = c.args.problem.now in
    let end : c.loop-clause.clause-index ≡ length c.as_slice-clause-items.result.now = omega (arith, c.loop-clause.auto.clause-index-end, c.loop-clause-test.false) in
    atoms_to_all problem c.loop-clause.atoms.keys c.loop-clause.clause-index (all_read problem _ c.as_slice-clause-items.result.now c.loop-clause.clause-index c.as_slice-clause-items.ensures c.problem.view_is end) c.loop-clause.invariant
