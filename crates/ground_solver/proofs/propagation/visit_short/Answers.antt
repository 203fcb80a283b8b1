use Rattle.std.proofs.Common.{◌≡◌, length, Some, refl}
use Rattle.std.specs.Prelude.{slice_get}
use Rattle.std.proofs.lemmas.Option.{slice_get_read}
use Rattle.ground_solver.proofs.Onward.{last_of, refuted_of}
use Rattle.ground_solver.proofs.propagation.visit_short.Goals as goal

pub returns-in-Some-Falsified-clause-refuted : goal.returns-in-Some-Falsified-clause-refuted
returns-in-Some-Falsified-clause-refuted c =
    let clauses = c.args.clauses.now in
    let at : slice_get clauses c.args.place ≡ Some c.in-Some.clause.now = slice_get_read clauses (length clauses) c.args.place c.in-Some.clause.now refl (c.in-Some.ensures.lookup.3.0) (c.in-Some.ensures.lookup.1) in
    refuted_of clauses c.args.search.now.values.items c.deref-2.result.now c.args.place c.in-Some.clause.now c.deref.result.now at c.deref.ensures.value c.deref-2.ensures.value (rw c.in-Some-Falsified.field-0-is at c.in-Some-Falsified.ensures)

pub force_last-requires-clause-last : goal.force_last-requires-clause-last
force_last-requires-clause-last c =
    let clauses = c.args.clauses.now in
    let at : slice_get clauses c.args.place ≡ Some c.in-Some.clause.now = slice_get_read clauses (length clauses) c.args.place c.in-Some.clause.now refl (c.in-Some.ensures.lookup.3.0) (c.in-Some.ensures.lookup.1) in
    let stands = rw c.in-Some-Forcing.field-0-is at c.in-Some-Forcing.ensures in
    last_of clauses c.args.search.now.values.items c.deref-2.result.now c.args.place c.in-Some-Forcing.k c.in-Some.clause.now c.deref.result.now at c.deref.ensures.value c.deref-2.ensures.value (stands.0) (stands.1)
