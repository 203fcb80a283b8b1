use Rattle.std.proofs.Common.{◌<◌, length, refl, ap, arith}
use Rattle.me_terms.specs.Values.{ClauseValue}
use Rattle.clause_pairs.specs.Values.{numbers_of}
use Rattle.candidate_store.proofs.Unpaired.{empty_list, list_within}
use Rattle.candidate_store.proofs.search.Search.first_bare.Goals as goal

pub bounds-lists-i : goal.bounds-lists-i
bounds-lists-i g c =
    let same = ap (λ (z : ClauseValue). length z.literals) c.clause.view_is in
    list_within c.args.self.now.problem.now (g.V.View.context c.args.self.now.view.now) c.args.self.now.pairs.now c.requires.pairs c.args.index c.clause-clause.result.now c.clause-clause.ensures (numbers_of c.of_clause-lists.result.now) c.of_clause-lists.ensures c.loop-i.i c.of_clause-lists.result.now refl (omega (arith, same, c.len-places.ensures, c.loop-i-test.true))

pub returns-then-is_bare : goal.returns-then-is_bare
returns-then-is_bare g c =
    let rows = c.of_clause-lists.result.now in
    let same = ap (λ (z : ClauseValue). length z.literals) c.clause.view_is in
    let within : c.loop-i.i < length rows = list_within c.args.self.now.problem.now (g.V.View.context c.args.self.now.view.now) c.args.self.now.pairs.now c.requires.pairs c.args.index c.clause-clause.result.now c.clause-clause.ensures (numbers_of rows) c.of_clause-lists.ensures c.loop-i.i rows refl (omega (arith, same, c.len-places.ensures, c.loop-i-test.true)) in
    (numbers_of rows, c.of_clause-lists.ensures, empty_list rows c.loop-i.i c.index-lists-i.result within c.index-lists-i.is (c.is_bare.ensures.0 c.if-is_bare.true))
