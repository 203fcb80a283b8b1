use Rattle.std.proofs.Common.{List, ℕ, map, ap, ◌∙◌}
use Rattle.std.specs.List.{flat_map}
use Rattle.me_terms.specs.Values.{ClauseValue}
use Rattle.me_terms.specs.Variables.{first_ones}
use Rattle.me_terms.specs.declared.atom.Literal.{Literal}
use Rattle.finite_domain.proofs.Going.{here}
use Rattle.finite_domain.proofs.Making.{ones_more}
use Rattle.finite_domain.proofs.symbols.predicate_order.Goals as goal

pub clauses-preserved : goal.clauses-preserved
clauses-preserved c =
    let rest = here c.args.clauses.now c.clauses.clause-index c.clause-item.result c.clauses-test.true c.clause-item.is in
    ones_more c.clauses.order.keys c.note_predicates.new.order.keys _ (map (λ (l : Literal). l.atom.pred) c.clause-item.result.literals) _ _ (ap (λ (cs : List ClauseValue). flat_map (λ (d : ClauseValue). map (λ (l : Literal). l.atom.pred) d.literals) cs) rest)
    (c.in_ok-note_predicates.ensures ∙ ap (λ (ls : List Literal). first_ones c.clauses.order.keys (map (λ (l : Literal). l.atom.pred) ls)) c.literals_of.ensures) c.clauses.invariant
