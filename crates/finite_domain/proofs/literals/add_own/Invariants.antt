use Rattle.std.proofs.Common.{◌≡◌, ◌++◌, drop, map}
use Rattle.finite_domain.specs.Flat.{own_literal}
use Rattle.finite_domain.proofs.literals.add_own.Given as goal

-- The literals so far and those of the rest are all.
abbrev pub invariant-literals : goal.invariant-literals
invariant-literals l =
    l.made.items ++ map (own_literal l.relations l.order.keys l.names.keys) (drop l.literal-index l.literals) ≡ l.initial.made.items ++ map (own_literal l.relations l.order.keys l.names.keys) l.literals
