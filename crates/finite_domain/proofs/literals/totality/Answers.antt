use Rattle.std.proofs.Common.{rules, ◌≡◌, ◌++◌, ◌∷◌, [], List, ap, sym, ◌∙◌, arith}
use Rattle.std.proofs.lemmas.List.FromFn.{map-range_with_len_more}
use Rattle.me_terms.specs.declared.atom.Literal.{Literal}
use Rattle.finite_domain.specs.Flat.{value_literal}
use Rattle.finite_domain.proofs.literals.totality.Goals as goal

pub elements-preserved : goal.elements-preserved
elements-preserved c =
    let k = c.elements.element in
    let per = value_literal c.args.j c.args.arity in
    let pushed : c.push.new.self.items ≡ c.elements.made.items ++ c.in_ok-literal.literal ∷ [] = search rules in
    pushed
    ∙ ap (λ (v : Literal). c.elements.made.items ++ v ∷ []) c.in_ok-literal.ensures
    ∙ ap (λ (v : List Literal). v ++ per k ∷ []) c.elements.invariant
    ∙ sym (map-range_with_len_more per 0 k k (omega arith))
