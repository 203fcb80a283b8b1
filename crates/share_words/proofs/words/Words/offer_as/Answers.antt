use Rattle.std.proofs.Common.{◌≡◌, IsTrue, true, false, arith, ◌<◌, ◌∙◌, subst, sym, ap}
use Rattle.share_words.specs.Counts.{path_count}
use Rattle.branch_core.specs.Paths.{Turns}
use Rattle.share_words.specs.Answers.{is_offered}
use Rattle.share_words.specs.declared.answer.Offer.{Offer}
use Rattle.share_words.specs.Seats.{seat_of, CanRaise, WorkerSeatValue, WordsValue, MayGive}
use Rattle.share_words.proofs.Asked.{there, offer_asked}
use Rattle.share_words.proofs.words.Words.offer_as.Goals.{then-word-eq0, else-word-eq0}
use Rattle.share_words.proofs.words.Words.offer_as.Goals as goal

pub compare_exchange-word-requires : goal.compare_exchange-word-requires
compare_exchange-word-requires g c =
    let same = ap (λ (s : WorkerSeatValue). s.words) c.s.view_is ∙ c.requires.words ∙ sym (ap (λ (w : WordsValue). w.id) c.self.view_is) in
    let gift = subst (λ (w : WordsValue). MayGive w.share c.args.parent c.args.path) (sym c.self.view_is) c.requires.path in
    let held = subst (λ (s : WorkerSeatValue). (0 < path_count c.args.parent s.taken) × (path_count c.args.parent s.ended ≡ 0)) (sym c.s.view_is) c.requires.held in
    let share_name = ap (λ (w : WordsValue). w.share) c.self.view_is ∙ c.requires.named.2 in
    (same, there _ _ _ c.args.path c.self.invariant.1 gift.short c.code_of.ensures, offer_asked _ _ _ _ _ _ c.args.parent c.args.path _ _ _ c.self.invariant.0 c.s.invariant.1 held.0 held.1 gift c.requires.named.0 c.requires.named.1 share_name c.code_of.ensures)

pub returns-clause-can_raise : goal.returns-clause-can_raise
returns-clause-can_raise g c =
    elim c.if-word-eq0.branch [
      | then-word-eq0 w ↦ λ done.
          let found : c.compare_exchange-word.result ≡ 0 = omega arith in
          subst (λ (path : Turns). CanRaise (seat_of c.compare_exchange-word.new.seat.table_id c.compare_exchange-word.new.seat.me.0) path) (sym c.requires.named.1) (c.compare_exchange-word.ensures.2.can_raise found c.compare_exchange-word.new.seat.table_id)
      | else-word-eq0 w ↦ λ done. absurd (let e : false ≡ true = subst (λ (answer : Offer). IsTrue (is_offered answer)) w.result-is done in cc)
    ]
