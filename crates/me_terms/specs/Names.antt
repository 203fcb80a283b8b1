-- Variables that are numbered by their places in a list.
use Rattle.std.specs.Prelude.{ℕ, List}
use Rattle.me_terms.specs.Terms.{Var}
use Rattle.me_terms.specs.Substitutions.{Substitution}
use Rattle.me_terms.specs.Variables.{place_of}

-- Each variable becomes the number of its place among the names.
abbrev pub by_place : List ℕ → Substitution
by_place names x = Var (place_of x names)
