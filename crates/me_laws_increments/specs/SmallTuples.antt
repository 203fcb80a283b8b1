-- Tuples with their pivots, and places of which some are filled.
use Rattle.std.specs.Prelude.{[], ◌∷◌, Some, None}
use Rattle.me_laws_increments.specs.Pivots.{IsPivot}
use Rattle.me_laws_increments.specs.Prefixes.{IsPart}

-- The pivot of 1, 3, 3, 2 is 3 at its second place. Where only the second place is filled, with 3, that is a part of 1 and 3.
pub record SmallTuplesExample : Type 0 where
  pub pivot : IsPivot (1 ∷ 3 ∷ 3 ∷ 2 ∷ []) 3 1
  pub part : IsPart (None ∷ Some 3 ∷ []) (Some 1 ∷ Some 3 ∷ [])
