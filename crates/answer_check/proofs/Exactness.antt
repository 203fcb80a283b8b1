-- What is said of a claim is a yes exactly where the claim is shown.
use Rattle.std.proofs.Common.{◌≡◌, ◌↔◌, ℕ, Bool, true, false, not, List, slice_get, Some, refl, sym, ap, subst, ◌∙◌, arith}
use Rattle.std.proofs.lemmas.Option.{slice_get_within, get_or_from_slice_get}
use Rattle.std.specs.List.{All, Any}
use Rattle.me_terms.specs.Refuted.{IsFalseUnder, Valuation}
use Rattle.me_terms.specs.Values.{ProblemValue}
use Rattle.me_terms.specs.declared.atom.Literal.{Literal}
use Rattle.me_terms.specs.declared.bounds.Start.{Start}
use Rattle.me_laws.proofs.Lists.{all_at}
use Rattle.ground_solver.specs.Assignments.{IsModel, IsTrueUnder, IsUnsatisfiable, Satisfies}
use Rattle.szs_read.specs.Values.{InstanceLineValue}
use Rattle.szs_read.specs.declared.claim.EntryLine.{EntryLine}
use Rattle.szs_read.specs.declared.claim.Claim.{Claim}
use Rattle.szs_read.specs.declared.claim.Claim.TheVariants.{Refuted, Model as ModelClaim, Open as OpenClaim}
use Rattle.answer_check.specs.Instances.{IsOwnInstance}
use Rattle.answer_check.specs.Judgements.{IsClaimJudged, IsModelJudged, IsRefutationJudged, IsShownModel, IsShownRefutation, Shown, literals_of}
use Rattle.answer_check.specs.Verdicts.{status_of}
use Rattle.answer_check.specs.declared.verdict.Verdict.{Verdict}
use Rattle.answer_check.specs.declared.verdict.Verdict.TheVariants.{Refutation, Model, WrongLine, Satisfied, Unifier, Unread, Open}

-- ---- clauses that are satisfied have an assignment

not_itself : (b : Bool) → b ≡ not b → ⊥
not_itself true h = cc h
not_itself false h = cc h

not_both : (value : Valuation) (clause : List Literal) → All (IsFalseUnder value) clause → Any (IsTrueUnder value) clause → ⊥
not_both value clause all any =
    let l = any.1 in
    let false_there = subst (IsFalseUnder value) any.3 (all any.0 l any.2) in
    not_itself l.positive (sym any.4 ∙ false_there)

not_refuted : (clauses : List (List Literal)) (value : Valuation) → Satisfies value clauses → IsUnsatisfiable clauses → ⊥
not_refuted clauses value satisfied refuted =
    let found = refuted value in
    not_both value found.1 found.4 (subst (Any (IsTrueUnder value)) found.3 (satisfied found.0 found.1 found.2))

-- ---- each judgement

refutation_exact : (problem : ProblemValue) (lines : List InstanceLineValue) (verdict : Verdict) → IsRefutationJudged problem lines verdict → (status_of verdict ≡ 0) ↔ IsShownRefutation problem lines
refutation_exact problem lines Refutation h = (λ e. h, λ shown. refl)
refutation_exact problem lines (WrongLine number) h = (λ e. absurd (omega (arith, e)), λ shown. absurd (h.wrong (all_at (IsOwnInstance problem) lines h.before h.line shown.instances h.stands)))
refutation_exact problem lines (Satisfied trues) h = (λ e. absurd (omega (arith, e)), λ shown. absurd (not_refuted (literals_of lines) h.1.0 h.1.2 shown.refuted))
refutation_exact problem lines Model h = absurd h
refutation_exact problem lines (Unifier number) h = absurd h
refutation_exact problem lines (Unread line) h = absurd h
refutation_exact problem lines Open h = absurd h

model_exact : (problem : ProblemValue) (start : Start) (lines : List EntryLine) (verdict : Verdict) → IsModelJudged problem start lines verdict → (status_of verdict ≡ 0) ↔ IsShownModel problem start lines
model_exact problem start lines Model h = (λ e. h, λ shown. refl)
model_exact problem start lines (WrongLine number) h = (λ e. absurd (omega (arith, e)), λ shown. absurd (h.wrong (shown.entries h.before h.line h.stands)))
model_exact problem start lines (Unifier number) h =
    let has = h.1.productive in
    (λ e. absurd (omega (arith, e)), λ shown. absurd (shown.none_productive (h.1.place, has.0, has.1, has.2, has.3)))
model_exact problem start lines Refutation h = absurd h
model_exact problem start lines (Satisfied trues) h = absurd h
model_exact problem start lines (Unread line) h = absurd h
model_exact problem start lines Open h = absurd h

pub claim_exact : (problem : ProblemValue) (claim : Claim) (verdict : Verdict) → IsClaimJudged problem claim verdict → (status_of verdict ≡ 0) ↔ Shown problem claim
claim_exact problem (Refuted lines) verdict h = refutation_exact problem lines.items verdict h
claim_exact problem (ModelClaim start lines) verdict h = model_exact problem start lines.items verdict h
claim_exact problem (OpenClaim bound) verdict h =
    let ten : status_of verdict ≡ 10 = ap status_of h in (λ e. absurd (omega (arith, ten, e)), λ shown. absurd shown)
