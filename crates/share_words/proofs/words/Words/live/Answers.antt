use Rattle.std.proofs.Common.{◌∙◌, subst, sym, ap}
use Rattle.share_words.specs.Lessons.{Learns, OwnLists}
use Rattle.share_words.specs.Seats.{WorkerSeatValue, WordsValue, GatheredAll}
use Rattle.share_words.proofs.Asked.{two_there, live_asked}
use Rattle.share_words.proofs.words.Words.live.Goals as goal

pub load-requires : goal.load-requires
load-requires c =
    let same = ap (λ (s : WorkerSeatValue). s.words) c.s.view_is ∙ c.requires.words ∙ sym (ap (λ (w : WordsValue). w.id) c.self.view_is) in
    (same, two_there _ _ c.self.invariant.1, live_asked _ _ _ _ _ c.self.invariant.0 c.s.invariant.1)

pub returns-clause-lists : goal.returns-clause-lists
returns-clause-lists c = subst OwnLists c.s.view_is (c.load.ensures.2.lists _)

pub returns-clause-own : goal.returns-clause-own
returns-clause-own c = let P : WorkerSeatValue → Type 0 = λ s. GatheredAll s → Learns s c.load.result in subst P c.s.view_is (λ all. c.load.ensures.2.own all _)
