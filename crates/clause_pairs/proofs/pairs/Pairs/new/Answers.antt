use Rattle.std.proofs.Common.{◌≡◌, ◌≤◌, List, [], ◌∷◌, length, ap, ◌∙◌, arith}
use Rattle.std.proofs.lemmas.List.{take_all}
use Rattle.me_terms.specs.Values.{ProblemValue}
use Rattle.clause_pairs.specs.declared.clause_place.ClausePlace.{ClausePlace}
use Rattle.clause_pairs.specs.Values.{places_of}
use Rattle.clause_pairs.proofs.Start.{all_empty, start_pairs}
use Rattle.clause_pairs.proofs.pairs.Pairs.new.Goals as goal

pub returns : goal.returns
returns c e =
    let problem = c.args.problem.now in
    let same : c.as_slice-clause-items.result.now ≡ problem.clauses = c.as_slice-clause-items.ensures ∙ ap (λ (z : ProblemValue). z.clauses) c.problem.view_is in
    let many = ap length same in
    let le : length problem.clauses ≤ c.loop-clause.clause-index = omega (arith, many, c.loop-clause-test.false) in
    let none : places_of c.in_ok-vec.field-0.items ≡ [] ∷ [] = rw c.in_ok-vec.ensures.items (ap (λ (z : List ClausePlace). z ∷ []) c.new-none.ensures.items) in
    start_pairs problem e _ (c.loop-clause.invariant ∙ ap all_empty (take_all c.loop-clause.clause-index problem.clauses le)) none c.in_ok-new.ensures
