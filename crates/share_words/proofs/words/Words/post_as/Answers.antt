use Rattle.std.proofs.Common.{rules, ◌≡◌, ◌∙◌, subst, sym, ap, arith}
use Rattle.share_words.specs.Lessons.{least_of}
use Rattle.share_words.specs.Seats.{WorkerSeatValue, WordsValue, GatheredAll}
use Rattle.share_words.proofs.Asked.{two_there, post_asked}
use Rattle.share_words.proofs.LeastKey.{is_least_of}
use Rattle.share_words.proofs.words.Words.post_as.Goals as goal

pub fetch_min-requires : goal.fetch_min-requires
fetch_min-requires g c =
    let same = ap (λ (s : WorkerSeatValue). s.words) c.s.view_is ∙ c.requires.words ∙ sym (ap (λ (w : WordsValue). w.id) c.self.view_is) in
    let room = two_there _ _ c.self.invariant.1 in
    let share_name = ap (λ (w : WordsValue). w.share) c.self.view_is ∙ c.requires.named in
    (same, omega (arith, room), post_asked _ _ _ _ _ _ _ c.self.invariant.0 c.s.invariant.1 (search rules) share_name)

pub returns-clause-own : goal.returns-clause-own
returns-clause-own g c =
    let P : WorkerSeatValue → Type 0 = λ s. GatheredAll s → c.fetch_min.result ≡ least_of s.posted in
    subst P c.s.view_is (λ all. is_least_of c.fetch_min.result _ (c.fetch_min.ensures.2.own all))
