use Rattle.std.proofs.Common.{List, ap, ◌∙◌}
use Rattle.std.specs.List.{flat_map}
use Rattle.me_terms.specs.Terms.{Arguments}
use Rattle.me_terms.specs.declared.atom.Literal.{Literal}
use Rattle.finite_domain.specs.Names.{first_terms, applied_in_all}
use Rattle.finite_domain.proofs.Going.{here}
use Rattle.finite_domain.proofs.Names.{found_more}
use Rattle.finite_domain.proofs.naming.applied_terms.Goals as goal

pub literals-preserved : goal.literals-preserved
literals-preserved c =
    let rest = here c.args.literals.now c.literals.literal-index c.literal-item.result c.literals-test.true c.literal-item.is in
    found_more c.literals.found.keys c.walk_all.new.found.keys _ (applied_in_all c.literal-item.result.atom.args) _ _ (ap (λ (ls : List Literal). flat_map (λ (l : Literal). applied_in_all l.atom.args) ls) rest)
    (c.in_ok-walk_all.ensures ∙ ap (λ (a : Arguments). first_terms c.literals.found.keys (applied_in_all a)) c.atom_arguments.ensures) c.literals.invariant
