use Rattle.std.proofs.Common.{rules, ◌≡◌, ◌++◌, ◌∷◌, [], List, ap, sym, ◌∙◌, arith}
use Rattle.std.proofs.lemmas.List.FromFn.{map-range_with_len_more}
use Rattle.me_terms.specs.Terms.{TermValue, Var}
use Rattle.finite_domain.proofs.literals.first_variables.Goals as goal

pub variables-preserved : goal.variables-preserved
variables-preserved c =
    let x = c.variables.x in
    let pushed : c.push.new.self.items ≡ c.variables.made.items ++ Var x ∷ [] = search rules in
    pushed ∙ ap (λ (v : List TermValue). v ++ Var x ∷ []) c.variables.invariant ∙ sym (map-range_with_len_more Var 0 x x (omega arith))
