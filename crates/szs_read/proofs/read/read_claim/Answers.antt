use Rattle.std.proofs.Common.{◌∙◌, ◌∷◌, [], sym, refl, subst}
use Rattle.std.specs.Prelude.{codes}
use Rattle.szs_print.specs.StatusText.{status_line}
use Rattle.szs_read.specs.Passes.{ArePassed}
use Rattle.szs_read.specs.declared.lines.Lines.{Lines}
use Rattle.szs_read.proofs.Listed.{answer_of}
use Rattle.szs_read.proofs.OneLines.{coded}
use Rattle.szs_read.proofs.Statuses.{refuted, model, gave_up, stuck_behind, whole_behind, stuck_status}
use Rattle.szs_read.proofs.Symbols.{some_so}
use Rattle.szs_read.proofs.Options.{none_so}
use Rattle.szs_read.proofs.read.read_claim.Goals as goal

pub returns-in-Some-clause-answer : goal.returns-in-Some-clause-answer
returns-in-Some-clause-answer c =
    some_so _ _ _ (λ x b. answer_of _ _ (codes "Unsatisfiable") c.in-Some.name.now _ _ _ x c.in-Some.ensures.named c.in-Some.ensures.parts b) c.in_ok-read.ensures.body

pub returns-in-Some-clause-whole : goal.returns-in-Some-clause-whole
returns-in-Some-clause-whole c =
    some_so _ _ _ (λ x b. whole_behind c.args.signature.now (codes "Unsatisfiable") c.in-Some.name.now _ _ _ refuted c.in-Some.ensures.named (c.in-Some.ensures.one (coded (codes "% SZS status Unsatisfiable for ") refl)) b) c.in_ok-read.ensures.whole

pub returns-in-Some-clause-stuck : goal.returns-in-Some-clause-stuck
returns-in-Some-clause-stuck c =
    none_so _ _ _ (λ b. stuck_behind c.args.signature.now (codes "Unsatisfiable") c.in-Some.name.now _ _ _ refuted c.in-Some.ensures.named (c.in-Some.ensures.one (coded (codes "% SZS status Unsatisfiable for ") refl)) b) c.in_ok-read.ensures.stuck

pub returns-in-Some-take_named-clause-answer : goal.returns-in-Some-take_named-clause-answer
returns-in-Some-take_named-clause-answer c =
    some_so _ _ _ (λ x b. answer_of _ _ (codes "Satisfiable") c.in-Some-take_named.name.now _ _ _ x c.in-Some-take_named.ensures.named (sym c.in_default.ensures.same ∙ c.in-Some-take_named.ensures.parts) b) c.in_ok-read-2.ensures.body

pub returns-in-Some-take_named-clause-whole : goal.returns-in-Some-take_named-clause-whole
returns-in-Some-take_named-clause-whole c =
    some_so _ _ _ (λ x b. whole_behind c.args.signature.now (codes "Satisfiable") c.in-Some-take_named.name.now _ _ _ model c.in-Some-take_named.ensures.named
    (subst (λ (l : Lines). ArePassed l c.take_named-2.new.self (status_line (codes "Satisfiable") c.in-Some-take_named.name.now ∷ [])) c.in_default.ensures.unchanged (c.in-Some-take_named.ensures.one (coded (codes "% SZS status Satisfiable for ") refl))) b) c.in_ok-read-2.ensures.whole

pub returns-in-Some-take_named-clause-stuck : goal.returns-in-Some-take_named-clause-stuck
returns-in-Some-take_named-clause-stuck c =
    none_so _ _ _ (λ b. stuck_behind c.args.signature.now (codes "Satisfiable") c.in-Some-take_named.name.now _ _ _ model c.in-Some-take_named.ensures.named
    (subst (λ (l : Lines). ArePassed l c.take_named-2.new.self (status_line (codes "Satisfiable") c.in-Some-take_named.name.now ∷ [])) c.in_default.ensures.unchanged (c.in-Some-take_named.ensures.one (coded (codes "% SZS status Satisfiable for ") refl))) b) c.in_ok-read-2.ensures.stuck

pub returns-in-Some-take_named-2-clause-answer : goal.returns-in-Some-take_named-2-clause-answer
returns-in-Some-take_named-2-clause-answer c =
    some_so _ _ _ (λ x f.
    answer_of c.args.signature.now c.args.signature.now (codes "GaveUp") c.in-Some-take_named-2._name.now _ _ _ x c.in-Some-take_named-2.ensures.named
    (sym c.in_default.ensures.same ∙ sym c.in_default-take_named.ensures.same ∙ c.in-Some-take_named-2.ensures.parts)
    (f c.args.signature.now c.in-Some-take_named-2._name.now)) c.read_bound-read.ensures.body

pub returns-in-Some-take_named-2-clause-whole : goal.returns-in-Some-take_named-2-clause-whole
returns-in-Some-take_named-2-clause-whole c =
    some_so _ _ _ (λ x f. whole_behind c.args.signature.now (codes "GaveUp") c.in-Some-take_named-2._name.now _ _ _ gave_up c.in-Some-take_named-2.ensures.named
    (subst (λ (l : Lines). ArePassed l c.take_named-3.new.self (status_line (codes "GaveUp") c.in-Some-take_named-2._name.now ∷ [])) (c.in_default-take_named.ensures.unchanged ∙ c.in_default.ensures.unchanged) (c.in-Some-take_named-2.ensures.one (coded (codes "% SZS status GaveUp for ") refl)))
    (f c.args.signature.now c.in-Some-take_named-2._name.now)) c.read_bound-read.ensures.whole

pub returns-in-Some-take_named-2-clause-stuck : goal.returns-in-Some-take_named-2-clause-stuck
returns-in-Some-take_named-2-clause-stuck c =
    none_so _ _ _ (λ f. stuck_behind c.args.signature.now (codes "GaveUp") c.in-Some-take_named-2._name.now _ _ _ gave_up c.in-Some-take_named-2.ensures.named
    (subst (λ (l : Lines). ArePassed l c.take_named-3.new.self (status_line (codes "GaveUp") c.in-Some-take_named-2._name.now ∷ [])) (c.in_default-take_named.ensures.unchanged ∙ c.in_default.ensures.unchanged) (c.in-Some-take_named-2.ensures.one (coded (codes "% SZS status GaveUp for ") refl)))
    (f c.args.signature.now c.in-Some-take_named-2._name.now)) c.read_bound-read.ensures.stuck

pub returns-clause-stuck : goal.returns-clause-stuck
returns-clause-stuck c =
    stuck_status c.args.signature.now _ _ (c.in_default-take_named-2.ensures.unchanged ∙ c.in_default-take_named.ensures.unchanged ∙ c.in_default.ensures.unchanged)
    (λ name rest n e. c.in_default.ensures.none name rest (coded (codes "% SZS status Unsatisfiable for ") refl) n e)
    (λ name rest n e. c.in_default-take_named.ensures.none name rest (coded (codes "% SZS status Satisfiable for ") refl) n (c.in_default.ensures.same ∙ e))
    (λ name rest n e. c.in_default-take_named-2.ensures.none name rest (coded (codes "% SZS status GaveUp for ") refl) n (c.in_default-take_named.ensures.same ∙ c.in_default.ensures.same ∙ e))
