use Rattle.std.proofs.Common.{◌≡◌, ◌-◌, ◌++◌}
use Rattle.rand_core.specs.Steps.{first_words}
use Rattle.rand_pcg.specs.Pcg.{pcg32}
use Rattle.make_problem.specs.Made.{words_of}
use Rattle.make_problem.proofs.problem.words.Given as goal

-- The words so far and those that are left are all.
abbrev pub invariant-words : goal.invariant-words
invariant-words l = l.words.items ++ first_words pcg32 (l.count - l._word) l.generator ≡ words_of l.seed l.count
