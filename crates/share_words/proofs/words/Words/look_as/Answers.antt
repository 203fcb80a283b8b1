use Rattle.std.proofs.Common.{◌≡◌, ◌∙◌, subst, sym, ap, arith}
use Rattle.share_words.specs.Lessons.{least_of}
use Rattle.share_words.specs.Seats.{WorkerSeatValue, WordsValue, GatheredAll}
use Rattle.share_words.proofs.Asked.{two_there, look_asked}
use Rattle.share_words.proofs.LeastKey.{is_least_of}
use Rattle.share_words.proofs.words.Words.look_as.Goals as goal

pub load-requires : goal.load-requires
load-requires g c =
    let same = ap (λ (s : WorkerSeatValue). s.words) c.s.view_is ∙ c.requires.words ∙ sym (ap (λ (w : WordsValue). w.id) c.self.view_is) in
    let room = two_there _ _ c.self.invariant.1 in
    let share_name = ap (λ (w : WordsValue). w.share) c.self.view_is ∙ c.requires.named in
    (same, omega (arith, room), look_asked _ _ _ _ _ _ c.self.invariant.0 c.s.invariant.1 share_name)

pub returns-clause-own : goal.returns-clause-own
returns-clause-own g c =
    let P : WorkerSeatValue → Type 0 = λ s. GatheredAll s → c.load.result ≡ least_of s.posted in
    subst P c.s.view_is (λ all. is_least_of c.load.result _ (c.load.ensures.2.own all))
