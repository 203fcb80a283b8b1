use Rattle.std.proofs.Common.{◌≡◌, false, true, rules}
use Rattle.std.specs.List.{list_any}
use Rattle.me_terms.specs.TermEquality.{same_atom}
use Rattle.me_terms.specs.Variables.{are_ground}
use Rattle.indexmap.specs.IndexSet.{insert_key}
use Rattle.clause_pairs.proofs.GroundAtoms.{none_added, atom_there, atom_added}
use Rattle.clause_pairs.proofs.index.add_atom.Goals as goal

pub returns-then-not-is_ground : goal.returns-then-not-is_ground
returns-then-not-is_ground c =
    let varied : are_ground c.args.literal.now.atom.args ≡ false = search rules in
    none_added c.args.atoms.now.keys c.args.literal.now varied

pub returns-then-contains : goal.returns-then-contains
returns-then-contains c =
    let there : list_any (same_atom c.args.literal.now.atom) c.args.atoms.now.keys ≡ true = search rules in
    atom_there c.args.atoms.now.keys c.args.literal.now there

pub returns : goal.returns
returns c =
    let keys = c.args.atoms.now.keys in
    let literal = c.args.literal.now in
    let after : c.insert.new.self.keys ≡ insert_key same_atom keys literal.atom = search rules in
    let is_new : list_any (same_atom literal.atom) keys ≡ false = search rules in
    let plain : are_ground literal.atom.args ≡ true = search rules in
    atom_added keys literal c.insert.new.self.keys plain is_new after
