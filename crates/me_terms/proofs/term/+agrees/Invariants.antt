use Rattle.std.proofs.Common.{◌≡◌, ℕ, length, drop, map}
use Rattle.me_terms.specs.TermViews.{term_value}
use Rattle.me_terms.specs.Terms.{arguments_of}
use Rattle.me_terms.specs.Matchers.{found_all, agree}
use Rattle.me_terms.proofs.term.+agrees.Given as goal

-- What is left decides.
abbrev pub invariant-Terms::agree-loop-i : goal.invariant-Terms::agree-loop-i
invariant-Terms::agree-loop-i l =
    let b = λ (x : ℕ). found_all x (arguments_of l.generals.items) (arguments_of l.specials.items) in record {
      decided : agree b (arguments_of l.self.items) (arguments_of l.others.items) ≡ agree b (arguments_of (map term_value (drop l.i l.mine.items))) (arguments_of (map term_value (drop l.i l.theirs.items)));
      same_len : length l.mine.items ≡ length l.theirs.items;
    }
