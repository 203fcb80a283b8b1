use Rattle.std.proofs.Common.{◌∙◌, subst, sym, ap}
use Rattle.share_words.specs.Seats.{CanRaise, WorkerSeatValue, WordsValue}
use Rattle.share_words.proofs.Asked.{raise_asked, two_there}
use Rattle.share_words.proofs.words.Words.raise_as.Goals as goal

pub fetch_add-requires : goal.fetch_add-requires
fetch_add-requires g c =
    let same = ap (λ (s : WorkerSeatValue). s.words) c.s.view_is ∙ c.requires.words ∙ sym (ap (λ (w : WordsValue). w.id) c.self.view_is) in
    let listed = subst (λ (s : WorkerSeatValue). CanRaise s c.args.path) (sym c.s.view_is) c.requires.offered in
    (same, two_there _ _ c.self.invariant.1, raise_asked _ _ _ _ c.args.path _ _ c.self.invariant.0 c.s.invariant.1 listed.offered listed.not_yet c.requires.path)
