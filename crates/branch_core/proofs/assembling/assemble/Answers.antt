use Rattle.std.proofs.Common.{◌≡◌, ℕ, List, [], ◌++◌, Result, Ok, Err, IfOk, IsErr, refl, subst, sym, ap, ◌∙◌}
use Rattle.std.specs.declared.alloc.AllocError.{AllocError}
use Rattle.std.proofs.lemmas.Result.{IfOk-weaker}
use Rattle.me_terms.specs.Answer.{AnswerValue, HasAnswer}
use Rattle.me_terms.specs.AnswerViews.{answer_value}
use Rattle.me_terms.specs.declared.answer.Answer.{Answer}
use Rattle.branch_core.specs.Assemble.{CanAssemble, AnswersWhole, RecordsLackMemory, ArePartsOf}
use Rattle.branch_core.specs.Filled.{LacksMemory}
use Rattle.std.specs.Borrow.{Bor}
use Rattle.branch_core.specs.Parts.{PartValue, RecordValue}
use Rattle.branch_core.specs.PartViews.{part_values}
use Rattle.branch_core.specs.Paths.{Turns}
use Rattle.branch_core.specs.declared.part.Part.{Part}
use Rattle.branch_core.specs.Total.{Total, Decides, total_of}
use Rattle.branch_core.proofs.Assembly.{answer_from, lacking_loses}
use Rattle.branch_core.proofs.CutsFollow.{whole_cuts_follow}
use Rattle.branch_core.proofs.Orderly.{closed_runs, orderly_right}
use Rattle.branch_core.proofs.OneFilling.{same_parts}
use Rattle.branch_core.proofs.SettledParts.{decides_once}
use Rattle.branch_core.proofs.assembling.assemble.Goals as goal

decided_known : (n : ℕ) (filled : List PartValue) (reply : AnswerValue) → Decides (total_of n filled) reply → ¬ LacksMemory filled
decided_known n filled reply decides lacks = let P : Total → Type 0 = λ t. Decides t reply in subst P (lacking_loses n filled lacks) decides

answers_whole : (records : List RecordValue) (n : ℕ) (filled : List PartValue) (reply : AnswerValue) → ArePartsOf records [] filled → Decides (total_of n filled) reply → AnswersWhole records n reply
answers_whole records n filled reply are decides problem bounds same whole =
    let here : Decides (total_of bounds.list filled) reply = subst (λ (m : ℕ). Decides (total_of m filled) reply) (sym same) decides in
    let x = answer_from whole_cuts_follow problem bounds records are.0 filled whole are.1 are.2 are.3 (decided_known bounds.list filled reply here) in
    subst (HasAnswer problem bounds) (decides_once (total_of bounds.list filled) x.0 reply x.1 here) x.2

lacks_none : (records : List RecordValue) (n : ℕ) (filled : List PartValue) (result : Result Answer AllocError) → CanAssemble records → ArePartsOf records [] filled → IfOk result (λ answer. Decides (total_of n filled) (answer_value answer)) → RecordsLackMemory records → IsErr result
lacks_none records n filled (Ok answer) whole are decides lacks =
    let same : filled ≡ lacks.1 = same_parts records whole [] filled lacks.1 are (lacks.0, lacks.2, lacks.3, lacks.4) in
    absurd (decided_known n filled (answer_value answer) decides (subst LacksMemory (sym same) lacks.5))
lacks_none records n filled (Err e) whole are decides lacks = refl

-- the parts that were put in the list are those of the root
root_parts : (records slice : List RecordValue) (path : Turns) (filled : List PartValue) → slice ≡ records → path ≡ [] → ArePartsOf slice path filled → ArePartsOf records [] filled
root_parts records slice path filled same root are =
    subst (λ (rs : List RecordValue). ArePartsOf rs [] filled) same (subst (λ (t : Turns). ArePartsOf slice t filled) root are)

decided : (n : ℕ) (filled : List PartValue) (begun put seen : List (Bor Part)) (result : Result Answer AllocError) → begun ≡ [] → part_values put ≡ part_values begun ++ filled → seen ≡ put → IfOk result (λ answer. Decides (total_of n (part_values seen)) (answer_value answer)) → IfOk result (λ answer. Decides (total_of n filled) (answer_value answer))
decided n filled begun put seen result none all same decides =
    let e : part_values seen ≡ filled = ap part_values same ∙ (all ∙ ap (λ (ps : List (Bor Part)). part_values ps ++ filled) none) in
    subst (λ (ps : List PartValue). IfOk result (λ answer. Decides (total_of n ps) (answer_value answer))) e decides

pub returns-clause-answers : goal.returns-clause-answers
returns-clause-answers c =
    let n = c.args.list_bound in
    let filled = c.in_ok-fill.ensures.0 in
    let records = c.args.records.now.items in
    let are = root_parts records _ _ filled c.as_slice-records.ensures c.root.ensures c.in_ok-fill.ensures.1 in
    let decides = decided n filled c.new-parts.result.items c.fill.new.parts.items c.deref.result.now c.answer_of.result c.new-parts.ensures.items c.in_ok-fill.ensures.2 c.deref.ensures.value c.answer_of.ensures in
    IfOk-weaker c.answer_of.result (λ answer. Decides (total_of n filled) (answer_value answer)) (λ answer. AnswersWhole records n (answer_value answer)) (λ answer d. answers_whole records n filled (answer_value answer) are d) decides

pub returns-clause-lacking : goal.returns-clause-lacking
returns-clause-lacking c =
    let n = c.args.list_bound in
    let filled = c.in_ok-fill.ensures.0 in
    let records = c.args.records.now.items in
    let are = root_parts records _ _ filled c.as_slice-records.ensures c.root.ensures c.in_ok-fill.ensures.1 in
    let decides = decided n filled c.new-parts.result.items c.fill.new.parts.items c.deref.result.now c.answer_of.result c.new-parts.ensures.items c.in_ok-fill.ensures.2 c.deref.ensures.value c.answer_of.ensures in
    lacks_none records n filled c.answer_of.result c.requires.whole are decides

pub returns-clause-kept : goal.returns-clause-kept
returns-clause-kept c = closed_runs

pub returns-clause-spared : goal.returns-clause-spared
returns-clause-spared c = orderly_right

pub returns-in_err-places-clause-kept : goal.returns-in_err-places-clause-kept
returns-in_err-places-clause-kept c = closed_runs

pub returns-in_err-places-clause-spared : goal.returns-in_err-places-clause-spared
returns-in_err-places-clause-spared c = orderly_right

pub returns-in_err-fill-clause-kept : goal.returns-in_err-fill-clause-kept
returns-in_err-fill-clause-kept c = closed_runs

pub returns-in_err-fill-clause-spared : goal.returns-in_err-fill-clause-spared
returns-in_err-fill-clause-spared c = orderly_right
