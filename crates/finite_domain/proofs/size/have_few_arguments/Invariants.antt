use Rattle.std.proofs.Common.{ℕ, ◌<◌, ◌^◌, get_or}
use Rattle.me_terms.specs.Values.{SymbolValue}
use Rattle.finite_domain.proofs.size.have_few_arguments.Given as goal

abbrev pub invariant-functions : goal.invariant-functions
invariant-functions l = (k : ℕ) (d : SymbolValue) → k < l.j → (get_or l.signature.functions k d).arity < 2 ^ 31
