use Rattle.std.proofs.Common.{◌≡◌, drop, map}
use Rattle.me_terms.specs.TermViews.{term_value}
use Rattle.me_terms.specs.Terms.{arguments_of}
use Rattle.me_terms.specs.Matchers.{found_all}
use Rattle.me_terms.proofs.term.+found.Given as goal

-- What is found is found in what is left.
abbrev pub invariant-Terms::found-loop-i : goal.invariant-Terms::found-loop-i
invariant-Terms::found-loop-i l =
    found_all l.x (arguments_of l.self.items) (arguments_of l.specials.items) ≡ found_all l.x (arguments_of (map term_value (drop l.i l.mine.items))) (arguments_of (map term_value (drop l.i l.theirs.items)))
