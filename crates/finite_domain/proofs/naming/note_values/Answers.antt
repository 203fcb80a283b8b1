use Rattle.std.proofs.Common.{◌≡◌, List, [], ◌∷◌, ap, sym, ◌∙◌}
use Rattle.std.specs.List.{flat_map}
use Rattle.me_terms.specs.Heads.{arguments_in}
use Rattle.me_terms.specs.Terms.{TermValue, Arguments, list_of}
use Rattle.finite_domain.specs.Names.{first_terms, with_value}
use Rattle.finite_domain.proofs.Going.{here}
use Rattle.finite_domain.proofs.Making.{list_is}
use Rattle.finite_domain.proofs.Names.{first_append, found_more}
use Rattle.finite_domain.proofs.naming.note_values.Goals as goal

pub terms-preserved : goal.terms-preserved
terms-preserved c =
    let t : TermValue = c.subterm-item.result in
    let rest = here c.as_slice-subterm-items.result.now c.terms.subterm-index t c.terms-test.true c.subterm-item.is in
    let is = c.term-term.ensures in
    let args = list_is c.arguments.result.now (arguments_in t) (c.arguments.ensures ∙ ap arguments_in is) in
    let first : c.note_all.new.found.keys ≡ first_terms c.terms.names.keys (list_of (arguments_in t)) = c.in_ok-note_all.ensures ∙ ap (first_terms c.terms.names.keys) args in
    let second : c.note.new.found.keys ≡ first_terms (first_terms c.terms.names.keys (list_of (arguments_in t))) (t ∷ []) =
    c.in_ok-note.ensures ∙ ap (λ (v : TermValue). first_terms c.note_all.new.found.keys (v ∷ [])) is ∙ ap (λ (v : List TermValue). first_terms v (t ∷ [])) first in
    found_more c.terms.names.keys c.note.new.found.keys _ (with_value t) _ _ (ap (λ (ts : List TermValue). flat_map with_value ts) rest)
    (second ∙ sym (first_append c.terms.names.keys (list_of (arguments_in t)) (t ∷ []))) c.terms.invariant
