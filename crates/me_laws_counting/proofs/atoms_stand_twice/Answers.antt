use Rattle.me_laws_counting.proofs.Repeats.{repeats_sharpen, none_thrice, repeats_one, assert_sharpens, split_is_new}
use Rattle.me_laws.proofs.Grown.{grown}
use Rattle.me_laws_counting.proofs.atoms_stand_twice.Goals as goal

pub returns : goal.returns
returns c = record {
  repeats_sharpen = λ problem bounds context h. repeats_sharpen h;
  none_thrice = λ problem bounds context h. none_thrice context (repeats_sharpen h);
  assert_sharpens = assert_sharpens;
  assert_repeats_one = λ problem bounds context e h j k f g one two variant again c place tuple candidate. repeats_one context e (repeats_sharpen h) (assert_sharpens problem bounds context c place tuple e candidate) j k f g one two variant again;
  split_is_new = λ problem bounds context c place size tuple l h. split_is_new problem bounds context c place size tuple l (grown h).0;
}
