use Rattle.std.proofs.Common.{List, ap, ◌∙◌}
use Rattle.std.specs.List.{flat_map}
use Rattle.me_terms.specs.Terms.{TermValue, list_of}
use Rattle.me_terms.specs.declared.atom.Literal.{Literal}
use Rattle.finite_domain.specs.Names.{first_terms}
use Rattle.finite_domain.proofs.Going.{here}
use Rattle.finite_domain.proofs.Making.{list_is}
use Rattle.finite_domain.proofs.Names.{found_more}
use Rattle.finite_domain.proofs.naming.note_own.Goals as goal

pub literals-preserved : goal.literals-preserved
literals-preserved c =
    let rest = here c.args.literals.now c.literals.literal-index c.literal-item.result c.literals-test.true c.literal-item.is in
    found_more c.literals.names.keys c.note_all.new.found.keys _ (list_of c.literal-item.result.atom.args) _ _ (ap (λ (ls : List Literal). flat_map (λ (l : Literal). list_of l.atom.args) ls) rest)
    (c.in_ok-note_all.ensures ∙ ap (first_terms c.literals.names.keys) (list_is c.atom_arguments.result.now c.literal-item.result.atom.args c.atom_arguments.ensures)) c.literals.invariant
