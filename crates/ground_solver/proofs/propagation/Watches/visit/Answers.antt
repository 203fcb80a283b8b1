use Rattle.std.proofs.Common.{◌≡◌, length, Some, refl}
use Rattle.std.specs.Prelude.{slice_get}
use Rattle.std.proofs.lemmas.Option.{slice_get_read}
use Rattle.ground_solver.proofs.Onward.{last_of, refuted_of}
use Rattle.ground_solver.proofs.propagation.Watches.visit.Goals as goal

pub force_last-requires-clause-last : goal.force_last-requires-clause-last
force_last-requires-clause-last c =
    let clauses = c.args.clauses.now in
    let at : slice_get clauses c.args.place ≡ Some c.in-Some.clause.now = slice_get_read clauses (length clauses) c.args.place c.in-Some.clause.now refl (c.in-Some.ensures.lookup.3.0) (c.in-Some.ensures.lookup.1) in
    last_of clauses c.args.search.now.values.items c.deref-3.result.now c.args.place c.other-other.result c.in-Some.clause.now c.deref-2.result.now at c.deref-2.ensures.value c.deref-3.ensures.value (c.in-Last.ensures.0) (c.in-Last.ensures.1)

pub returns-in-Spent-clause-refuted : goal.returns-in-Spent-clause-refuted
returns-in-Spent-clause-refuted c = λ _.
    let clauses = c.args.clauses.now in
    let at : slice_get clauses c.args.place ≡ Some c.in-Some.clause.now = slice_get_read clauses (length clauses) c.args.place c.in-Some.clause.now refl (c.in-Some.ensures.lookup.3.0) (c.in-Some.ensures.lookup.1) in
    refuted_of clauses c.args.search.now.values.items c.deref-3.result.now c.args.place c.in-Some.clause.now c.deref-2.result.now at c.deref-2.ensures.value c.deref-3.ensures.value c.in-Spent.ensures
