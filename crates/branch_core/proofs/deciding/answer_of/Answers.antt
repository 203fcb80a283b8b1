use Rattle.std.proofs.Common.{◌≡◌, ℕ, List, refl, subst, sym, ap, ◌∙◌}
use Rattle.me_terms.specs.Answer.{AnswerValue, Unsatisfiable, GaveUp}
use Rattle.me_terms.specs.declared.bounds.Bound.TheVariants as bound
use Rattle.branch_core.specs.Gathered.{AreClosedParts, gathered}
use Rattle.branch_core.specs.Parts.{ListedValue, PartValue, Whole, TooHeavy}
use Rattle.branch_core.specs.PartViews.{listed_value, part_values}
use Rattle.branch_core.specs.Total.{Total, AllClosed, total_of, Decides}
use Rattle.branch_core.proofs.GatheredLists.{total_gathered}
use Rattle.branch_core.proofs.deciding.answer_of.Goals as goal

closed_decides : (n : ℕ) (parts : List PartValue) (list : ListedValue) (reply : AnswerValue) → AreClosedParts parts → list ≡ gathered n parts → Decides (AllClosed list) reply → Decides (total_of n parts) reply
closed_decides n parts list reply closed is decides =
    subst (λ (t : Total). Decides t reply) (ap AllClosed is ∙ sym (total_gathered n parts closed)) decides

pub returns-in-Whole : goal.returns-in-Whole
returns-in-Whole c =
    let list : Whole c.in-Whole.list.items ≡ gathered c.args.list_bound (part_values c.args.parts.now) = sym (ap listed_value c.in-Whole.is) ∙ c.in_ok-list.ensures in
    closed_decides c.args.list_bound (part_values c.args.parts.now) (Whole c.in-Whole.list.items) (Unsatisfiable c.in-Whole.list.items) c.in_default-first_bound.ensures list refl

pub returns-in-TooHeavy : goal.returns-in-TooHeavy
returns-in-TooHeavy c =
    let list : TooHeavy ≡ gathered c.args.list_bound (part_values c.args.parts.now) = sym (ap listed_value c.in-TooHeavy.is) ∙ c.in_ok-list.ensures in
    closed_decides c.args.list_bound (part_values c.args.parts.now) TooHeavy (GaveUp bound.List) c.in_default-first_bound.ensures list refl
