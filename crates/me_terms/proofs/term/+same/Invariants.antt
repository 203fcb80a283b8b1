use Rattle.std.proofs.Common.{◌≡◌, length, drop, map}
use Rattle.me_terms.specs.TermViews.{term_value}
use Rattle.me_terms.specs.Terms.{arguments_of}
use Rattle.me_terms.specs.TermEquality.{same_arguments}
use Rattle.me_terms.proofs.term.+same.Given as goal

-- What is left decides.
abbrev pub invariant-Terms::same-loop-i : goal.invariant-Terms::same-loop-i
invariant-Terms::same-loop-i l = record {
  decided : same_arguments (arguments_of l.self.items) (arguments_of l.other.items) ≡ same_arguments (arguments_of (map term_value (drop l.i l.mine.items))) (arguments_of (map term_value (drop l.i l.theirs.items)));
  same_len : length l.mine.items ≡ length l.theirs.items;
}
