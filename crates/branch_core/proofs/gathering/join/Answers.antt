use Rattle.std.proofs.Common.{◌≡◌, ℕ, ◌<◌, ◌≤◌, true, false, List, nat_le, sym, subst, ap, ◌∙◌}
use Rattle.me_terms.specs.Sequences.{SequenceValue}
use Rattle.me_terms.specs.FirstOccurrences.{joined}
use Rattle.me_terms.specs.Measures.{list_weight}
use Rattle.me_terms.specs.Values.{InstanceValue}
use Rattle.instance_lists.specs.Merged.{merged}
use Rattle.instance_lists.proofs.Joining.{merged_is_joined}
use Rattle.branch_core.specs.Gathered.{ListedOnce}
use Rattle.branch_core.specs.Parts as parts
use Rattle.branch_core.specs.Parts.{listed}
use Rattle.branch_core.specs.PartViews.{listed_value}
use Rattle.branch_core.specs.Total.{listed_joined}
use Rattle.branch_core.specs.declared.part.Listed.{Listed}
use Rattle.branch_core.specs.declared.part.Listed.TheVariants.{Whole}
use Rattle.branch_core.proofs.GatheredLists.{le_true, le_false}
use Rattle.branch_core.proofs.gathering.join.Goals as goal

-- the first list has each instance once, so what is merged is what is joined
joins : (first : Listed) (list more : SequenceValue InstanceValue) → first ≡ Whole list → ListedOnce (listed_value first) → merged list.items more.items ≡ joined list.items more.items
joins first list more g once =
    merged_is_joined list.items more.items (subst (λ (l : Listed). ListedOnce (listed_value l)) g once)

whole_joined : (n : ℕ) (first second : Listed) (list more : SequenceValue InstanceValue) (all : List InstanceValue) → first ≡ Whole list → second ≡ Whole more → ListedOnce (listed_value first) → all ≡ merged list.items more.items → list_weight all ≤ n → parts.Whole all ≡ listed_joined n (listed_value first) (listed_value second)
whole_joined n first second list more all g h once is light =
    let fits : nat_le (list_weight all) n ≡ true = le_true (list_weight all) n light in
    let weighed : listed n all ≡ parts.Whole all = simp fits in
    sym weighed ∙ (ap (listed n) (is ∙ joins first list more g once) ∙ sym (λ i. listed_joined n (listed_value (g i)) (listed_value (h i))))

pub returns-in-Ok : goal.returns-in-Ok
returns-in-Ok c =
    whole_joined c.args.list_bound c.args.first c.args.second c.in-Whole-Whole.list c.in-Whole-Whole.more c.merge.new.into.items c.in-Whole-Whole.is-0 c.in-Whole-Whole.is-1 c.requires.once c.in-Ok.ensures.ok c.in-Ok.ensures.light

heavy_joined : (n : ℕ) (first second : Listed) (list more : SequenceValue InstanceValue) → first ≡ Whole list → second ≡ Whole more → ListedOnce (listed_value first) → n < list_weight (merged list.items more.items) → parts.TooHeavy ≡ listed_joined n (listed_value first) (listed_value second)
heavy_joined n first second list more g h once weighs =
    let passes : nat_le (list_weight (merged list.items more.items)) n ≡ false = le_false (list_weight (merged list.items more.items)) n weighs in
    let weighed : listed n (merged list.items more.items) ≡ parts.TooHeavy = simp passes in
    sym weighed ∙ (ap (listed n) (joins first list more g once) ∙ sym (λ i. listed_joined n (listed_value (g i)) (listed_value (h i))))

pub returns-in-Err-TooHeavy : goal.returns-in-Err-TooHeavy
returns-in-Err-TooHeavy c =
    heavy_joined c.args.list_bound c.args.first c.args.second c.in-Whole-Whole.list c.in-Whole-Whole.more c.in-Whole-Whole.is-0 c.in-Whole-Whole.is-1 c.requires.once (c.in-Err-TooHeavy.ensures.heavy c.in-Err-TooHeavy.field-0-is)
