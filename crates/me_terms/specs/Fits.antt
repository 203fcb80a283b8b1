-- Which literals are within the bounds.
use Rattle.std.specs.Prelude.{◌≤◌}
use Rattle.me_terms.specs.Measures.{literal_depth, literal_weight}
use Rattle.me_terms.specs.declared.bounds.Bounds.{Bounds}
use Rattle.me_terms.specs.declared.atom.Literal.{Literal}

-- The literal's depth and weight are within the bounds.
abbrev pub Fits : Bounds → Literal → Type 0
Fits bounds l = (literal_depth l ≤ bounds.depth) × (literal_weight l ≤ bounds.weight)
