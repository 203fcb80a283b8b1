use Rattle.std.proofs.Common.{◌≡◌, ℕ, List, ◌∷◌, sym, subst, ap, ◌∙◌}
use Rattle.me_terms.specs.Context.{Context}
use Rattle.branch_core.specs.Gathered.{AreSettledParts, IsSettledPart}
use Rattle.branch_core.specs.Parts.{PartValue, Sat}
use Rattle.branch_core.specs.PartViews.{part_value}
use Rattle.branch_core.specs.Total.{HasSat, total_of}
use Rattle.branch_core.proofs.LeftParts.{left_parts}
use Rattle.branch_core.proofs.SettledParts.{later_model}
use Rattle.branch_core.proofs.deciding.first_model.Goals as goal

model_here : (n : ℕ) (context : Context) (first : PartValue) (left parts : List PartValue) → first ≡ Sat context → left ≡ first ∷ parts → total_of n left ≡ HasSat context
model_here n context first left parts is split = ap (total_of n) (split ∙ ap (λ (p : PartValue). p ∷ parts) is)

pub returns-in-Sat : goal.returns-in-Sat
returns-in-Sat c = λ n.
    let split = left_parts c.args.parts.now c.loop-part.part-index c.part-item.result c.loop-part-test.true c.part-item.is in
    c.loop-part.invariant.decided n c.in-Sat.context.items (model_here n c.in-Sat.context.items (part_value c.part-item.result.now) _ _ (ap part_value c.in-Sat.is) split)

settled_more : (first : PartValue) (left parts : List PartValue) → left ≡ first ∷ parts → IsSettledPart first → AreSettledParts parts → AreSettledParts left
settled_more first left parts split here later = subst AreSettledParts (sym split) (here, later)

model_later : (n : ℕ) (context : Context) (first : PartValue) (left parts : List PartValue) → left ≡ first ∷ parts → IsSettledPart first → total_of n parts ≡ HasSat context → total_of n left ≡ HasSat context
model_later n context first left parts split here later = ap (total_of n) split ∙ later_model n first parts context here later

pub loop-part-preserved : goal.loop-part-preserved
loop-part-preserved c =
    let split = left_parts c.args.parts.now c.loop-part.part-index c.part-item.result c.loop-part-test.true c.part-item.is in
    let here : IsSettledPart (part_value c.part-item.result.now) = c.is_settled.ensures.0 c.if-not-is_settled.false in
    record {
      settled = λ h. c.loop-part.invariant.settled (settled_more (part_value c.part-item.result.now) _ _ split here h);
      decided = λ n context h. c.loop-part.invariant.decided n context (model_later n context (part_value c.part-item.result.now) _ _ split here h);
    }
