-- Laws of context unifiers.
use Rattle.std.specs.Prelude.{◌≡◌, ℕ, List, Option}
use Rattle.me_terms.specs.Substitutions.{Family}
use Rattle.me_terms.specs.Measures.{canonical_literal}
use Rattle.me_terms.specs.Context.{Context}
use Rattle.me_terms.specs.Unifier.{Solves, IsUnifier, unified}
use Rattle.me_terms.specs.Remainder.{remainder}
use Rattle.me_terms.specs.Productive.{IsProductive}
use Rattle.me_terms.specs.declared.atom.Literal.{Literal}

-- What has a solution has a most general unifier.
abbrev pub UnifiersExist : Type 0
UnifiersExist = (context : Context) (literals : List Literal) (positions : List (Option ℕ)) (v : Family) → Solves context literals positions v → (u : Family) × IsUnifier context literals positions u

-- Where the entries produce the complements of the literals under some solution, a most general unifier is productive.
abbrev pub ProductionLifts : Type 0
ProductionLifts = (context : Context) (literals : List Literal) (positions : List (Option ℕ)) (u v : Family) → IsUnifier context literals positions u → Solves context literals positions v → IsProductive context literals positions v → IsProductive context literals positions u

-- Most general unifiers of the same places share their remainder, and every literal's canonical form under them.
abbrev pub UnifiersAgree : Type 0
UnifiersAgree = (context : Context) (literals : List Literal) (positions : List (Option ℕ)) (u v : Family) → IsUnifier context literals positions u → IsUnifier context literals positions v → (remainder context positions u ≡ remainder context positions v) × ((l : Literal) → canonical_literal (unified u l) ≡ canonical_literal (unified v l))
