use Rattle.std.proofs.Common.{◌≡◌, ◌+◌, ◌-◌, ◌*◌, ◌++◌, length, drop}
use Rattle.make_problem.specs.Drawn.{with_words, HasRoom}
use Rattle.make_problem.specs.Made.{made_clauses}
use Rattle.make_problem.proofs.clauses.drawn_clauses.Given as goal

-- The clauses so far and those of the words that are left are all, by the numbers of the last signature. There is room for what is left.
abbrev pub invariant-clauses : goal.invariant-clauses
invariant-clauses l = record {
  made : l.clauses.items ++ made_clauses l.preds (with_words l.preds l.initial.signature l.words) (l.k + 1) (l.count - l.k) (drop (3 * l.k) l.words) ≡ made_clauses l.preds (with_words l.preds l.initial.signature l.words) 1 l.count l.words;
  added : with_words l.preds l.signature (drop (3 * l.k) l.words) ≡ with_words l.preds l.initial.signature l.words;
  room : HasRoom l.signature (length (drop (3 * l.k) l.words));
}
