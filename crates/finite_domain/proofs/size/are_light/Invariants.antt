use Rattle.std.proofs.Common.{ℕ, ◌<◌, ◌^◌, get_or}
use Rattle.me_terms.specs.Values.{ClauseValue}
use Rattle.me_terms.specs.Measures.{literals_weight}
use Rattle.finite_domain.proofs.size.are_light.Given as goal

abbrev pub invariant-clauses : goal.invariant-clauses
invariant-clauses l = (k : ℕ) (d : ClauseValue) → k < l.clause-index → literals_weight (get_or l.clauses k d).literals < 2 ^ 31
