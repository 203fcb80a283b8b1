use Rattle.std.proofs.Common.{◌≡◌, drop}
use Rattle.std.specs.List.{list_all}
use Rattle.me_terms.specs.Signatures.{is_known_atom}
use Rattle.problem_checks.proofs.validity.are_known.Given as goal

-- What is left decides.
abbrev pub invariant-loop-literal : goal.invariant-loop-literal
invariant-loop-literal l = list_all (λ x. is_known_atom l.signature x.atom) l.literals ≡ list_all (λ x. is_known_atom l.signature x.atom) (drop l.literal-index l.literals)
