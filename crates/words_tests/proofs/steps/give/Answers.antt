use Rattle.std.proofs.Common.{sym, subst}
use Rattle.share_words.specs.Seats.{WorkerSeatValue, Holds}
use Rattle.words_tests.proofs.steps.give.Goals as goal

pub raise-requires-clause-busy : goal.raise-requires-clause-busy
raise-requires-clause-busy c = (c.args.parent, subst (λ (s : WorkerSeatValue). Holds s c.args.parent) (sym c.offer-answer.ensures.seat) c.requires.held)
