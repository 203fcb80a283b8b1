use Rattle.std.proofs.Common.{◌≡◌, ◌++◌, length, drop}
use Rattle.make_problem.specs.Drawn.{with_words, HasRoom}
use Rattle.make_problem.specs.Made.{made_literals}
use Rattle.make_problem.proofs.clauses.literals.Given as goal

-- The literals so far and those of the words that are left are all, by the numbers of the last signature. There is room for what is left.
abbrev pub invariant-words : goal.invariant-words
invariant-words l = record {
  made : l.literals.items ++ made_literals l.preds (with_words l.preds l.initial.signature l.words) (drop l.word-index l.words) ≡ made_literals l.preds (with_words l.preds l.initial.signature l.words) l.words;
  added : with_words l.preds l.signature (drop l.word-index l.words) ≡ with_words l.preds l.initial.signature l.words;
  room : HasRoom l.signature (length (drop l.word-index l.words));
}
