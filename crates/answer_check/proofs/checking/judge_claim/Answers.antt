use Rattle.std.proofs.Common.{sym, subst}
use Rattle.me_terms.specs.Values.{ProblemValue}
use Rattle.szs_read.specs.Claims.{IsClaim}
use Rattle.szs_read.specs.declared.claim.Claim.{Claim}
use Rattle.answer_check.specs.Instances.{IsGrown}
use Rattle.answer_check.specs.Judgements.{IsClaimJudged, IsModelJudged}
use Rattle.answer_check.specs.declared.verdict.Verdict.{Verdict}
use Rattle.answer_check.proofs.ReadClaims.{known_lines, lines_below, model_judged_of}
use Rattle.answer_check.proofs.Sources.{if_ok}
use Rattle.answer_check.proofs.checking.judge_claim.Goals as goal

pub judge_refutation-requires-clause-known : goal.judge_refutation-requires-clause-known
judge_refutation-requires-clause-known c =
    let signature = c.args.problem.now.signature in
    let P : Claim → Type 0 = λ z. IsClaim signature z in
    known_lines signature c.in-Refuted.lines.items (subst P c.in-Refuted.is c.requires.claim)

pub judge_model-requires-clause-few : goal.judge_model-requires-clause-few
judge_model-requires-clause-few c =
    let signature = c.args.problem.now.signature in
    let P : Claim → Type 0 = λ z. IsClaim signature z in
    let lawful = subst P c.in-Model.is c.requires.claim in
    lines_below signature c.in-Model.lines.items lawful.0

pub returns-in-Model : goal.returns-in-Model
returns-in-Model c =
    let problem = c.args.problem.now in
    let start = c.in-Model.start in
    let lines = c.in-Model.lines.items in
    let P : Verdict → Type 0 = λ v. IsModelJudged problem start lines v in
    let Q : Verdict → Type 0 = λ v. (own : ProblemValue) → IsGrown own problem c.args.functions → IsClaimJudged own c.args.claim v in
    if_ok c.judge_model.result P Q (λ v h own grows. subst (λ (z : Claim). IsClaimJudged own z v) (sym c.in-Model.is) (model_judged_of problem own grows.clauses start lines v h)) c.judge_model.ensures
