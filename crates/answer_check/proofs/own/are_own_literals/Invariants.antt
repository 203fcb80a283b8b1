use Rattle.std.proofs.Common.{◌≡◌, true, take}
use Rattle.std.specs.List.{list_all}
use Rattle.me_terms.specs.declared.atom.Literal.{Literal}
use Rattle.answer_check.specs.Own.{are_own_terms}
use Rattle.answer_check.proofs.own.are_own_literals.Given as goal

abbrev pub invariant-loop-literal : goal.invariant-loop-literal
invariant-loop-literal l =
    list_all (λ (z : Literal). are_own_terms l.functions z.atom.args) (take l.literal-index l.literals) ≡ true
