use Rattle.std.proofs.Common.{length, ap, ◌∙◌, arith}
use Rattle.std.proofs.lemmas.List.FromFn.{length-map-range_with_len}
use Rattle.me_terms.specs.Values.{SignatureValue}
use Rattle.finite_domain.specs.Flat.{element}
use Rattle.finite_domain.proofs.Making.{element_added}
use Rattle.finite_domain.proofs.symbols.add_elements.Goals as goal

pub add_fun-requires : goal.add_fun-requires
add_fun-requires c =
    let count = ap length c.elements.invariant.functions in
    let few = c.requires.few in
    omega (arith, count, few, length-map-range_with_len element 1 c.elements.k)

pub elements-preserved : goal.elements-preserved
elements-preserved c =
    let few = c.requires.few in
    record {
      functions = element_added c.elements.made c.add_fun.new.self c.in_ok-symbol.field-0 c.elements.k c.in_ok-add_fun.ensures.added c.in_ok-symbol.ensures c.elements.invariant.functions (omega (arith, few));
      predicates = ap (λ (s : SignatureValue). s.predicates) c.in_ok-add_fun.ensures.added ∙ c.elements.invariant.predicates;
    }
