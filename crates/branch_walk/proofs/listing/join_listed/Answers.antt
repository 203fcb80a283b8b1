use Rattle.std.proofs.Common.{◌≡◌, ◌<◌, ◌≤◌, List, Result, Ok, Err, OnOk, ap, sym, ◌∙◌}
use Rattle.me_terms.specs.FirstOccurrences.{joined}
use Rattle.me_terms.specs.Measures.{list_weight}
use Rattle.me_terms.specs.Values.{InstanceValue}
use Rattle.instance_lists.specs.Merged.{merged}
use Rattle.instance_lists.specs.declared.error.ListError.{ListError}
use Rattle.instance_lists.specs.declared.error.ListError.TheVariants.{TooHeavy}
use Rattle.branch_core.specs.Parts as part
use Rattle.branch_core.specs.Parts.{listed}
use Rattle.branch_core.specs.SearchTree.{EachOnce}
use Rattle.branch_core.specs.PartViews.{listed_value}
use Rattle.ground_refutation.proofs.Results.{if_err_map}
use Rattle.branch_walk.proofs.ListedLists.{heavy_behind, whole_behind, merged_heavy}
use Rattle.branch_walk.proofs.listing.join_listed.Goals as goal

pub returns-in-TooHeavy-clause-heavy : goal.returns-in-TooHeavy-clause-heavy
returns-in-TooHeavy-clause-heavy c too_heavy after once is =
    heavy_behind c.args.list_bound c.args.list.now.items after once (sym (ap listed_value c.in-TooHeavy.is) ∙ is)

both_ok : {T E : Type 0} (r : Result T E) (P Q R : Type 0) → (P → Q → R) → OnOk r P → OnOk r Q → OnOk r R
both_ok (Ok a) P Q R f h k = f h k
both_ok (Err e) P Q R f h k = h

pub returns-in-Whole-clause-whole : goal.returns-in-Whole-clause-whole
returns-in-Whole-clause-whole c =
    let n = c.args.list_bound in
    let list = c.args.list.now.items in
    let more = c.in-Whole.after.items in
    let new = c.merge.new.into.items in
    let R : Type 0 = (after : List InstanceValue) → EachOnce after → listed_value c.args.more ≡ listed n after → part.Whole new ≡ listed n (joined list after) in
    both_ok c.merge.result (new ≡ merged list more) (list_weight new ≤ n) R (λ made light after once is.
    whole_behind n list more after new c.requires.once (sym (ap listed_value c.in-Whole.is) ∙ is) made light) c.merge.ensures.ok c.merge.ensures.light

pub returns-in-Whole-clause-heavy : goal.returns-in-Whole-clause-heavy
returns-in-Whole-clause-heavy c =
    let n = c.args.list_bound in
    let list = c.args.list.now.items in
    let more = c.in-Whole.after.items in
    let P : ListError → Type 0 = λ e. e ≡ TooHeavy → n < list_weight (merged list more) in
    let Q : ListError → Type 0 = λ e. e ≡ TooHeavy → (after : List InstanceValue) → EachOnce after → listed_value c.args.more ≡ listed n after → part.TooHeavy ≡ listed n (joined list after) in
    if_err_map c.merge.result P Q (λ e weighs heavy after once is.
    merged_heavy n list more after c.requires.once (sym (ap listed_value c.in-Whole.is) ∙ is) (weighs heavy)) c.merge.ensures.heavy
