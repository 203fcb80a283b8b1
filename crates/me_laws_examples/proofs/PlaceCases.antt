-- What stands at the places of a clause: each by computing.
use Rattle.std.proofs.Common.{refl}
use Rattle.me_laws_examples.specs.Places.{Places}

pub places : Places
places = record {
  none_skipped = refl;
  first_skipped = refl;
  second_skipped = refl;
  last_skipped = refl;
  only_skipped = refl;
  at_position = refl;
  at_skipped = refl;
  constants_remain = refl;
  variables_do_not = refl;
  one_is_enough = refl;
  by_its_own_space = refl;
  no_places = refl;
  each_asks = refl;
  skipped_asks_nothing = refl;
}
