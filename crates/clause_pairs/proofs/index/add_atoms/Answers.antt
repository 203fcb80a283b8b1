use Rattle.std.proofs.Common.{◌≡◌, length, slice_get, Some, refl, arith}
use Rattle.std.proofs.lemmas.Option.{slice_get_read}
use Rattle.clause_pairs.proofs.GroundAtoms.{atoms_start, atoms_more, atoms_all}
use Rattle.clause_pairs.proofs.index.add_atoms.Goals as goal

pub loop-literal-init : goal.loop-literal-init
loop-literal-init c = atoms_start c.args.atoms.now.keys c.args.literals.now

pub loop-literal-preserved : goal.loop-literal-preserved
loop-literal-preserved c =
    let literals = c.args.literals.now in
    let i = c.loop-literal.literal-index in
    let l = c.literal-item.result in
    let at : slice_get literals i ≡ Some l = slice_get_read literals (length literals) i l refl c.loop-literal-test.true c.literal-item.is in
    atoms_more c.args.atoms.now.keys literals c.loop-literal.atoms.keys c.add_atom.new.atoms.keys i l at c.in_ok-add_atom.ensures c.loop-literal.invariant

pub returns : goal.returns
returns c =
    let literals = c.args.literals.now in
    let end : c.loop-literal.literal-index ≡ length literals = omega (arith, c.loop-literal.auto.literal-index-end, c.loop-literal-test.false) in
    atoms_all c.args.atoms.now.keys literals c.loop-literal.atoms.keys c.loop-literal.literal-index end c.loop-literal.invariant
