use Rattle.std.proofs.Common.{◌∙◌, sym, ap, arith}
use Rattle.share_words.specs.Seats.{WorkerSeatValue, WordsValue}
use Rattle.share_words.proofs.Forks.{splits}
use Rattle.share_words.proofs.words.Words.fork_seat.Goals as goal

pub split_seat-seat-requires : goal.split_seat-seat-requires
split_seat-seat-requires c =
    let same = ap (λ (s : WorkerSeatValue). s.words) c.s.view_is ∙ c.requires.words ∙ sym (ap (λ (w : WordsValue). w.id) c.self.view_is) in
    let first = ap (λ (s : WorkerSeatValue). s.number) c.s.view_is ∙ c.requires.first in
    let room = c.self.invariant.1 in
    (same, omega (arith, room), splits _ _ _ c.s.invariant.1 first)
