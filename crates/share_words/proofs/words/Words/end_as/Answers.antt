use Rattle.std.proofs.Common.{◌≡◌, ◌<◌, ◌∙◌, subst, sym, ap}
use Rattle.share_words.specs.Counts.{path_count}
use Rattle.share_words.specs.Seats.{WorkerSeatValue, WordsValue}
use Rattle.share_words.proofs.Asked.{end_asked, two_there}
use Rattle.share_words.proofs.words.Words.end_as.Goals as goal

pub fetch_sub-requires : goal.fetch_sub-requires
fetch_sub-requires g c =
    let same = ap (λ (s : WorkerSeatValue). s.words) c.s.view_is ∙ c.requires.words ∙ sym (ap (λ (w : WordsValue). w.id) c.self.view_is) in
    let listed = subst (λ (s : WorkerSeatValue). (0 < path_count c.args.path s.taken) × (path_count c.args.path s.ended ≡ 0)) (sym c.s.view_is) c.requires.held in
    let share_name = ap (λ (w : WordsValue). w.share) c.self.view_is ∙ c.requires.named.1 in
    (same, two_there _ _ c.self.invariant.1, end_asked _ _ _ _ _ c.args.path _ _ c.self.invariant.0 c.s.invariant.1 listed.0 listed.1 c.requires.named.0 share_name)
