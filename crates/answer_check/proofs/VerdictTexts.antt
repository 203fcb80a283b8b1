-- The text of a list of clauses that is satisfied, put together.
use Rattle.std.proofs.Common.{◌≡◌, ℕ, List, ◌++◌, append_assoc, sym, ap, subst, ◌∙◌}
use Rattle.std.specs.List.{flat_map}
use Rattle.std.specs.Prelude.{codes}
use Rattle.me_terms.specs.Sequences.{SequenceValue}
use Rattle.me_terms.specs.Terms.{AtomValue}
use Rattle.me_terms.specs.Values.{SignatureValue}
use Rattle.answer_check.specs.Verdicts.{true_line, verdict_text}
use Rattle.answer_check.specs.declared.verdict.Verdict.{Verdict}
use Rattle.answer_check.specs.declared.verdict.Verdict.TheVariants.{Satisfied}

pub satisfied_text : (signature : SignatureValue) (verdict : Verdict) (trues : SequenceValue AtomValue) (listed : List AtomValue) (before middle after : List ℕ) → verdict ≡ Satisfied trues → listed ≡ trues.items
    → middle ≡ before ++ codes "% check no assignment\n" → after ≡ middle ++ flat_map (true_line signature) listed → after ≡ before ++ verdict_text signature verdict
satisfied_text signature verdict trues listed before middle after is same put rest =
    let P : List AtomValue → Type 0 = λ z. after ≡ middle ++ flat_map (true_line signature) z in
    let lines = flat_map (true_line signature) trues.items in
    subst P same rest ∙ (ap (λ (z : List ℕ). z ++ lines) put ∙ (append_assoc before (codes "% check no assignment\n") lines ∙ ap (λ (z : Verdict). before ++ verdict_text signature z) (sym is)))
