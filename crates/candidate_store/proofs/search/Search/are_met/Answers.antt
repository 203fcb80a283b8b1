use Rattle.std.proofs.Common.{◌≡◌, List, length, slice_get, Some, refl, ap, subst, ◌∙◌, arith}
use Rattle.std.proofs.lemmas.Option.{slice_get_read}
use Rattle.me_terms.specs.Values.{ClauseValue}
use Rattle.me_terms.specs.declared.atom.Literal.{Literal}
use Rattle.clause_pairs.specs.Values.{numbers_of}
use Rattle.candidate_store.proofs.Unpaired.{empty_list, list_within, unmet}
use Rattle.candidate_store.proofs.search.Search.are_met.Goals as goal

pub bounds-lists-i : goal.bounds-lists-i
bounds-lists-i g c =
    let clause = c.clause-clause.result.now in
    let same = ap length (c.as_slice-literals.ensures ∙ ap (λ (z : ClauseValue). z.literals) c.clause.view_is) in
    list_within c.args.self.now.problem.now (g.V.View.context c.args.self.now.view.now) c.args.self.now.pairs.now c.requires.pairs c.args.index clause c.clause-clause.ensures (numbers_of c.of_clause-lists.result.now) c.of_clause-lists.ensures c.loop-i.i c.of_clause-lists.result.now refl (omega (arith, same, c.loop-i-test.true))

pub returns-then-not-is_opposed : goal.returns-then-not-is_opposed
returns-then-not-is_opposed g c =
    let problem = c.args.self.now.problem.now in
    let context = g.V.View.context c.args.self.now.view.now in
    let clause = c.clause-clause.result.now in
    let rows = c.of_clause-lists.result.now in
    let ls = c.as_slice-literals.result.now in
    let same = c.as_slice-literals.ensures ∙ ap (λ (z : ClauseValue). z.literals) c.clause.view_is in
    let l = c.index-literals-i.result in
    let at : slice_get ls c.loop-i.i ≡ Some l = slice_get_read ls (length ls) c.loop-i.i l refl c.loop-i-test.true c.index-literals-i.is in
    let P : List Literal → Type 0 = λ z. slice_get z c.loop-i.i ≡ Some l in
    let within = list_within problem context c.args.self.now.pairs.now c.requires.pairs c.args.index clause c.clause-clause.ensures (numbers_of rows) c.of_clause-lists.ensures c.loop-i.i rows refl (let many = ap length same in omega (arith, many, c.loop-i-test.true)) in
    λ h. unmet problem context c.args.self.now.pairs.now c.requires.pairs c.args.index c.loop-i.i (numbers_of rows) l c.of_clause-lists.ensures
    (empty_list rows c.loop-i.i c.index-lists-i.result within c.index-lists-i.is (c.is_bare.ensures.0 c.if-not-is_bare.false)) (clause, c.clause-clause.ensures, subst P same at) (c.is_opposed.ensures c.if-not-is_opposed.true)
