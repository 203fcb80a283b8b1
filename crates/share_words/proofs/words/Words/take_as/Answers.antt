use Rattle.std.proofs.Common.{◌≡◌, IsTrue, true, false, arith, ◌≤◌, length, ◌∙◌, subst, sym, ap}
use Rattle.branch_core.specs.Paths.{Turns}
use Rattle.share_words.specs.Answers.{is_taken}
use Rattle.share_words.specs.declared.answer.Take.{Take}
use Rattle.share_words.specs.Seats.{seat_of, Holds, WorkerSeatValue, WordsValue}
use Rattle.share_words.proofs.Asked.{there, take_asked}
use Rattle.share_words.proofs.words.Words.take_as.Goals.{then-word-eq1, else-word-eq1}
use Rattle.share_words.proofs.words.Words.take_as.Goals as goal

pub compare_exchange-word-requires : goal.compare_exchange-word-requires
compare_exchange-word-requires g c =
    let same = ap (λ (s : WorkerSeatValue). s.words) c.s.view_is ∙ c.requires.words ∙ sym (ap (λ (w : WordsValue). w.id) c.self.view_is) in
    let short = subst (λ (w : WordsValue). length c.args.path ≤ w.share) (sym c.self.view_is) c.requires.short in
    let share_name = ap (λ (w : WordsValue). w.share) c.self.view_is ∙ c.requires.named.1 in
    (same, there _ _ _ c.args.path c.self.invariant.1 short c.code_of.ensures, take_asked _ _ _ _ _ _ c.args.path _ _ c.self.invariant.0 c.s.invariant.1 short c.requires.named.0 share_name c.code_of.ensures)

pub returns-clause-holds : goal.returns-clause-holds
returns-clause-holds g c =
    elim c.if-word-eq1.branch [
      | then-word-eq1 w ↦ λ done.
          let found : c.compare_exchange-word.result ≡ 1 = omega arith in
          subst (λ (path : Turns). Holds (seat_of c.compare_exchange-word.new.seat.table_id c.compare_exchange-word.new.seat.me.0) path) (sym c.requires.named.0) (c.compare_exchange-word.ensures.2.holds found c.compare_exchange-word.new.seat.table_id)
      | else-word-eq1 w ↦ λ done. absurd (let e : false ≡ true = subst (λ (answer : Take). IsTrue (is_taken answer)) w.result-is done in cc)
    ]
