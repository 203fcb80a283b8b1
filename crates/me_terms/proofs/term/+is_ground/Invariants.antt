use Rattle.std.proofs.Common.{◌≡◌, drop, map}
use Rattle.me_terms.specs.TermViews.{term_value}
use Rattle.me_terms.specs.Terms.{arguments_of}
use Rattle.me_terms.specs.Variables.{are_ground}
use Rattle.me_terms.proofs.term.+is_ground.Given as goal

-- What is left decides.
abbrev pub invariant-Terms::are_ground-loop-item : goal.invariant-Terms::are_ground-loop-item
invariant-Terms::are_ground-loop-item l =
    are_ground (arguments_of l.self.items) ≡ are_ground (arguments_of (map term_value (drop l.item-index l.item-items)))
