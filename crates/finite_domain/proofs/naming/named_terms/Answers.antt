use Rattle.std.proofs.Common.{rules, ◌≡◌, List, [], ap, sym, ◌∙◌}
use Rattle.std.specs.List.{flat_map}
use Rattle.me_terms.specs.Terms.{TermValue, list_of}
use Rattle.me_terms.specs.declared.atom.Literal.{Literal}
use Rattle.finite_domain.specs.Names.{first_terms, with_value}
use Rattle.finite_domain.proofs.Names.{first_append}
use Rattle.finite_domain.proofs.naming.named_terms.Goals as goal

pub returns : goal.returns
returns c =
    let values = flat_map with_value c.args.terms.now.keys in
    let own = flat_map (λ (l : Literal). list_of l.atom.args) c.args.literals.now in
    let start : c.new-names.result.keys ≡ [] = search rules in
    c.in_ok-note_own.ensures
    ∙ ap (λ (v : List TermValue). first_terms v own) (c.in_ok-note_values.ensures ∙ ap (λ (v : List TermValue). first_terms v values) start)
    ∙ sym (first_append [] values own)
