use Rattle.std.proofs.Common.{◌≡◌, ◌+◌, List, take, length, Some, refl, sym, ap, subst, ◌∙◌, arith}
use Rattle.std.specs.Prelude.{slice_get}
use Rattle.std.specs.List.{AllZip}
use Rattle.me_terms.specs.Terms.{AtomValue}
use Rattle.ground_solver.specs.Assignments.{with_atom}
use Rattle.ground_solver.specs.Named.{Names}
use Rattle.ground_solver.specs.declared.signed.Signed.{Signed}
use Rattle.ground_solver.proofs.Numberings.{clause_more, length_with_atom}
use Rattle.ground_solver.proofs.numbering.number_clause.Goals as goal

pub loop-literal-preserved : goal.loop-literal-preserved
loop-literal-preserved c =
    let m = c.literal-item.result in
    let k = c.loop-literal.literal-index in
    let literals = c.args.literals.now in
    let atoms = c.loop-literal.atoms.keys in
    let added = c.in_ok-atom.ensures.atoms in
    let l : Signed = record { positive = m.positive; atom = c.in_ok-atom.atom } in
    let here : slice_get (with_atom atoms m.atom) c.in_ok-atom.atom ≡ Some m.atom = subst (λ (keys : List AtomValue). slice_get keys c.in_ok-atom.atom ≡ Some m.atom) added c.in_ok-atom.ensures.number in
    let more = clause_more c.args.atoms.now.keys atoms c.loop-literal.clause.items literals k m l c.loop-literal-test.true (sym c.literal-item.is) c.loop-literal.invariant.atoms c.loop-literal.invariant.names (here, refl) in
    let pushed : AllZip (Names (with_atom atoms m.atom)) c.push.new.self.items (take (k + 1) literals) = subst (λ (xs : List Signed). AllZip (Names (with_atom atoms m.atom)) xs (take (k + 1) literals)) (sym c.in_ok-push.ensures.items) (more.1) in
    record {
      atoms = added ∙ more.0;
      names = subst (λ (keys : List AtomValue). AllZip (Names keys) c.push.new.self.items (take (k + 1) literals)) (sym added) pushed;
      few = omega (arith, ap length added, length_with_atom atoms m.atom, c.loop-literal.invariant.few);
    }
