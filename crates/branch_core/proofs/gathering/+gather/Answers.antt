use Rattle.std.proofs.Common.{◌≡◌, ℕ, List, ◌++◌, subst, sym, ap, ◌∙◌}
use Rattle.std.specs.Borrow.{Bor}
use Rattle.std.proofs.lemmas.Result.{IfOk-weaker}
use Rattle.branch_core.specs.Parts.{ListedValue, PartValue}
use Rattle.branch_core.specs.PartViews.{listed_value, part_value, part_values}
use Rattle.branch_core.specs.Gathered.{gathered, ListedOnce}
use Rattle.branch_core.specs.Total.{listed_joined}
use Rattle.branch_core.specs.declared.part.Part.{Part}
use Rattle.branch_core.proofs.Assembly.{map_append}
use Rattle.branch_core.proofs.GatheredLists.{gathered_once, gathered_halves}
use Rattle.branch_core.proofs.gathering.+gather.Goals as goal

once_of : (n : ℕ) (a : ListedValue) (parts : List PartValue) → a ≡ gathered n parts → ListedOnce a
once_of n a parts e = subst ListedOnce (sym e) (gathered_once n parts)

halves_of : (n : ℕ) (all front back : List (Bor Part)) (a b c : ListedValue) → front ++ back ≡ all → a ≡ gathered n (part_values front) → b ≡ gathered n (part_values back) → c ≡ listed_joined n a b → c ≡ gathered n (part_values all)
halves_of n all front back a b c whole g h e =
    e ∙ ((λ i. listed_joined n (g i) (h i)) ∙ (gathered_halves n (part_values front) (part_values back)
    ∙ ap (gathered n) (sym (map_append (λ (p : Bor Part). part_value p.now) front back) ∙ ap part_values whole)))

pub join-requires-in_default-clause-once : goal.join-requires-in_default-clause-once
join-requires-in_default-clause-once t c =
    once_of c.args.list_bound (listed_value c.in_ok-left-in_default.left) (part_values c.split_at.result.0.now) c.in_ok-left-in_default.ensures

pub returns-in_ok-right-in_default : goal.returns-in_ok-right-in_default
returns-in_ok-right-in_default t c =
    let n = c.args.list_bound in
    let left = c.in_ok-left-in_default.left in
    let right = c.in_ok-right-in_default.right in
    IfOk-weaker c.join-in_default.result (λ list. listed_value list ≡ listed_joined n (listed_value left) (listed_value right)) (λ list. listed_value list ≡ gathered n (part_values c.args.parts.now)) (λ list e. halves_of n c.args.parts.now c.split_at.result.0.now c.split_at.result.1.now (listed_value left) (listed_value right) (listed_value list) (sym c.split_at.ensures.by_index.0) c.in_ok-left-in_default.ensures c.in_ok-right-in_default.ensures e) c.join-in_default.ensures
