use Rattle.std.proofs.Common.{◌≡◌, false, sym, rules}
use Rattle.std.specs.List.{list_any}
use Rattle.me_terms.specs.TermEquality.{same_atom}
use Rattle.ground_solver.specs.Assignments.{with_atom}
use Rattle.ground_solver.proofs.Numberings.{found_number, new_number}
use Rattle.ground_solver.proofs.numbering.number_of.Goals as goal

pub returns-in-Some-clause-number : goal.returns-in-Some-clause-number
returns-in-Some-clause-number c = found_number c.args.atoms.now.keys c.args.atom.now c.in-Some.number (sym c.in-Some.ensures.index)

pub returns-clause-number : goal.returns-clause-number
returns-clause-number c =
    let atoms : c.insert.new.self.keys ≡ with_atom c.args.atoms.now.keys c.args.atom.now = search rules in
    let is_new : list_any (same_atom c.args.atom.now) c.args.atoms.now.keys ≡ false = search rules in
    new_number c.args.atoms.now.keys c.insert.new.self.keys c.args.atom.now c.len-number.result atoms is_new c.len-number.ensures.len
