-- What most general unifiers share of a literal's measures.
use Rattle.std.specs.Prelude.{◌≡◌, ℕ, List, Option}
use Rattle.me_terms.specs.Variables.{are_ground}
use Rattle.me_terms.specs.Substitutions.{Family}
use Rattle.me_terms.specs.Measures.{literal_depth, literal_weight}
use Rattle.me_terms.specs.Context.{Context}
use Rattle.me_terms.specs.Unifier.{IsUnifier, unified}
use Rattle.me_terms.specs.declared.atom.Literal.{Literal}

-- Most general unifiers of the same places give every literal the same depth and weight, and it is ground under one where it is under the other.
abbrev pub UnifiersMeasureAlike : Type 0
UnifiersMeasureAlike = (context : Context) (literals : List Literal) (positions : List (Option ℕ)) (u v : Family) → IsUnifier context literals positions u → IsUnifier context literals positions v → (l : Literal) → (literal_depth (unified u l) ≡ literal_depth (unified v l)) × (literal_weight (unified u l) ≡ literal_weight (unified v l)) × (are_ground (unified u l).atom.args ≡ are_ground (unified v l).atom.args)
