-- The valuations that agree with the splits of a context.
use Rattle.std.specs.Prelude.{◌≡◌, ℕ}
use Rattle.me_terms.specs.Substitutions.{apply_atom}
use Rattle.me_terms.specs.Values.{ProblemValue, EntryValue, ReasonValue, Pseudo, Asserted, SplitLeft, SplitRight}
use Rattle.me_terms.specs.Context.{Context, StandsAt, IsAtomWith}
use Rattle.me_terms.specs.Refuted.{Valuation}
use Rattle.me_terms.specs.ListedInstances.{constant}

-- An entry that was split on is true at its instance by c0; nothing is asked of another one.
abbrev pub IsSplitTrue : ProblemValue → Valuation → EntryValue → ReasonValue → Type 0
IsSplitTrue problem value e Pseudo = Unit {0}
IsSplitTrue problem value e (Asserted c place tuple) = Unit {0}
IsSplitTrue problem value e SplitLeft = IsAtomWith (λ b. value (apply_atom (λ x. constant problem.c0) b) ≡ e.positive) e.atom
IsSplitTrue problem value e SplitRight = IsAtomWith (λ b. value (apply_atom (λ x. constant problem.c0) b) ≡ e.positive) e.atom

-- Each entry of the context that was split on is true at its instance by c0.
abbrev pub AreSplitsTrue : ProblemValue → Valuation → Context → Type 0
AreSplitsTrue problem value context = (k : ℕ) (e : EntryValue) → StandsAt context k e → IsSplitTrue problem value e e.reason
