use Rattle.std.proofs.Common.{◌≡◌, ℕ, List, ◌∷◌, refl, subst, sym, ap, ◌∙◌}
use Rattle.me_terms.specs.declared.bounds.Bound.{Bound}
use Rattle.branch_core.specs.Gathered.{AreClosedParts, AreSettledParts, IsClosedPart, IsSettledPart}
use Rattle.branch_core.specs.declared.part.Part.{Part}
use Rattle.branch_core.specs.declared.part.Part.TheVariants as variant
use Rattle.branch_core.specs.Parts.{PartValue, Bounded}
use Rattle.branch_core.specs.PartViews.{part_value}
use Rattle.branch_core.specs.Total.{HasBound, total_of}
use Rattle.branch_core.proofs.LeftParts.{left_parts}
use Rattle.branch_core.proofs.SettledParts.{first_bound_decides, later_bound}
use Rattle.branch_core.proofs.deciding.first_bound.Goals as goal

bounded_here : (n : ℕ) (b : Bound) (first : PartValue) (left parts : List PartValue) → first ≡ Bounded b → left ≡ first ∷ parts → AreSettledParts left → total_of n left ≡ HasBound b
bounded_here n b first left parts is split settled =
    let here : left ≡ Bounded b ∷ parts = split ∙ ap (λ (p : PartValue). p ∷ parts) is in
    ap (total_of n) here ∙ first_bound_decides n b parts (subst AreSettledParts here settled).1

pub returns-in-Bounded : goal.returns-in-Bounded
returns-in-Bounded c = λ n.
    let split = left_parts c.args.parts.now c.loop-part.part-index c.part-item.result c.loop-part-test.true c.part-item.is in
    c.loop-part.invariant.decided n c.in-Bounded.bound (bounded_here n c.in-Bounded.bound (part_value c.part-item.result.now) _ _ (ap part_value c.in-Bounded.is) split c.loop-part.invariant.settled)

-- a settled part that is not bounded is closed
closed_here : (p : Part) → IsSettledPart (part_value p) → ((b : Bound) → p ≡ variant.Bounded b → ⊥) → IsClosedPart (part_value p)
closed_here (variant.Closed listed) h other = tt
closed_here (variant.Bounded b) h other = absurd (other b refl)
closed_here (variant.Sat context) h other = absurd h
closed_here (variant.Gift path) h other = absurd h
closed_here (variant.Cut key) h other = absurd h
closed_here variant.NoMemory h other = absurd h

bound_later : (n : ℕ) (b : Bound) (first : PartValue) (left parts : List PartValue) → left ≡ first ∷ parts → IsClosedPart first → total_of n parts ≡ HasBound b → total_of n left ≡ HasBound b
bound_later n b first left parts split here later = ap (total_of n) split ∙ later_bound n first parts b here later

closed_more : (first : PartValue) (left parts : List PartValue) → left ≡ first ∷ parts → IsClosedPart first → AreClosedParts parts → AreClosedParts left
closed_more first left parts split here later = subst AreClosedParts (sym split) (here, later)

pub loop-part-preserved : goal.loop-part-preserved
loop-part-preserved c =
    let split = left_parts c.args.parts.now c.loop-part.part-index c.part-item.result c.loop-part-test.true c.part-item.is in
    let settled = subst AreSettledParts split c.loop-part.invariant.settled in
    let here = closed_here c.part-item.result.now settled.0 c.in_default.not-Bounded in
    record {
      settled = settled.1;
      closed = λ h. c.loop-part.invariant.closed (closed_more (part_value c.part-item.result.now) _ _ split here h);
      decided = λ n b h. c.loop-part.invariant.decided n b (bound_later n b (part_value c.part-item.result.now) _ _ split here h);
    }
