-- The entries that an Assert and a Split add: each by computing.
use Rattle.std.proofs.Common.{refl}
use Rattle.me_laws_examples.specs.AddedEntries.{AddedEntries}

pub added_entries : AddedEntries
added_entries = record {
  by_none = refl;
  by_universal = refl;
  by_parametric = refl;
  parametric_first = refl;
  by_pseudo = refl;
  ground_by_parametric = refl;
  split_open = refl;
  split_ground = refl;
  asserted = refl;
  starts_false = refl;
  starts_true = refl;
  added_last = refl;
  left = refl;
  right = refl;
  right_ground = refl;
}
