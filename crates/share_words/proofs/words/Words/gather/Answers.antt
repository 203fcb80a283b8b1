use Rattle.std.proofs.Common.{◌∙◌, sym, ap, arith}
use Rattle.share_words.specs.Seats.{WorkerSeatValue, WordsValue}
use Rattle.share_words.proofs.Forks.{joins}
use Rattle.share_words.proofs.words.Words.gather.Goals as goal

pub join_seat-requires : goal.join_seat-requires
join_seat-requires c =
    let words = sym (ap (λ (w : WordsValue). w.id) c.self.view_is) in
    let same = ap (λ (s : WorkerSeatValue). s.words) c.into.view_is ∙ c.requires.words.0 ∙ words in
    let same_too = ap (λ (s : WorkerSeatValue). s.words) c.from.view_is ∙ c.requires.words.1 ∙ words in
    let first = ap (λ (s : WorkerSeatValue). s.number) c.into.view_is ∙ c.requires.first in
    let room = c.self.invariant.1 in
    (same, same_too, c.from.invariant.0, omega (arith, room), joins _ _ _ _ _ c.into.invariant.1 c.from.invariant.1 first)
