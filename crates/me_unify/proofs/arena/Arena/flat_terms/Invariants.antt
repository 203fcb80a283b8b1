use Rattle.std.proofs.Common.{take, map}
use Rattle.me_terms.specs.Terms.{arguments_of}
use Rattle.me_terms.specs.Substitutions.{Family, apply_term}
use Rattle.me_unify.specs.Left.{IsRead}
use Rattle.me_unify.specs.Measured.{AreMeasured}
use Rattle.me_unify.proofs.arena.Arena.flat_terms.Given as goal

abbrev pub invariant-loop-k : goal.invariant-loop-k
invariant-loop-k l = (u : Family) → IsRead l.self.nodes l.self.links u → AreMeasured (arguments_of (take l.k (map (apply_term (u l.space)) l.terms.items))) l.all
