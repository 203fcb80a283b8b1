use Rattle.std.proofs.Common.{◌≡◌, [], ◌∷◌, List, map, Option, Some, refl, sym, subst, ap, ◌∙◌}
use Rattle.me_terms.specs.Values.{InstanceValue}
use Rattle.me_terms.specs.FirstOccurrences.{joined}
use Rattle.branch_core.specs.Parts.{listed}
use Rattle.branch_core.specs.PartViews.{listed_value, part_value}
use Rattle.branch_core.specs.Pieces.{Closed}
use Rattle.branch_core.specs.declared.part.Part.{Part}
use Rattle.branch_core.specs.declared.part.Part.TheVariants as part
use Rattle.branch_core.specs.declared.part.Listed.TheVariants as list
use Rattle.branch_walk.specs.Tallies.{EndsApart, IsLast}
use Rattle.branch_walk.proofs.ListedLists.{leaf_once, whole_is, heavy_before}
use Rattle.branch_walk.proofs.StaysApart.{open_closed_off}
use Rattle.branch_walk.proofs.Tallied.{Takes, grows, first_closed, more_closed, keeps_bound_at}
use Rattle.branch_walk.proofs.tally.Tally.add_closed.Goals as goal

pub returns-in_ok-listed-in-None-clause-tally : goal.returns-in_ok-listed-in-None-clause-tally
returns-in_ok-listed-in-None-clause-tally g c leaves own h leaf =
    let n = c.args.bounds.now.list in
    grows n c.args.self.now _ (Closed own ∷ []) refl
    (λ tail e. first_closed n c.in_ok-listed-in-None.listed own (c.in_ok-listed-in-None.ensures own leaf) (leaf_once own leaf) tail (subst (λ (z : Option Part). IsLast n z tail) c.in-None.is e))
    (open_closed_off (map part_value c.args.self.now.parts.items) c.args.self.now.last c.requires.open)
    leaves h

pub returns-in-Ok-clause-tally : goal.returns-in-Ok-clause-tally
returns-in-Ok-clause-tally g c leaves own h leaf =
    let n = c.args.bounds.now.list in
    let w = c.in-Some-Closed-Whole in
    let was : c.args.self.now.last ≡ Some (part.Closed (list.Whole w.list)) = w.is ∙ (λ i. Some (w.field-0-is i)) ∙ (λ i. Some (part.Closed (w.field-0-0-is i))) in
    let sum = c.in-Ok.ensures.whole own (leaf_once own leaf) (c.in_ok-more-in-Some-Closed-Whole.ensures own leaf) in
    grows n c.args.self.now _ (Closed own ∷ []) refl
    (λ tail e. more_closed n (list.Whole w.list) (list.Whole c.join_listed.new.list) own
    (λ before is once. sum ∙ ap (λ (z : List InstanceValue). listed n (joined z own)) (whole_is n w.list.items before is))
    tail (subst (λ (z : Option Part). IsLast n z tail) was e))
    (open_closed_off (map part_value c.args.self.now.parts.items) c.args.self.now.last c.requires.open)
    leaves h

pub returns-in-Err-TooHeavy-clause-tally : goal.returns-in-Err-TooHeavy-clause-tally
returns-in-Err-TooHeavy-clause-tally g c leaves own h leaf =
    let n = c.args.bounds.now.list in
    let w = c.in-Some-Closed-Whole in
    let was : c.args.self.now.last ≡ Some (part.Closed (list.Whole w.list)) = w.is ∙ (λ i. Some (w.field-0-is i)) ∙ (λ i. Some (part.Closed (w.field-0-0-is i))) in
    let sum = c.in-Err-TooHeavy.ensures.heavy c.in-Err-TooHeavy.field-0-is own (leaf_once own leaf) (c.in_ok-more-in-Some-Closed-Whole.ensures own leaf) in
    grows n c.args.self.now _ (Closed own ∷ []) refl
    (λ tail e. more_closed n (list.Whole w.list) list.TooHeavy own
    (λ before is once. sum ∙ ap (λ (z : List InstanceValue). listed n (joined z own)) (whole_is n w.list.items before is))
    tail (subst (λ (z : Option Part). IsLast n z tail) was e))
    (open_closed_off (map part_value c.args.self.now.parts.items) c.args.self.now.last c.requires.open)
    leaves h

pub returns-in-Some-Closed-TooHeavy-clause-tally : goal.returns-in-Some-Closed-TooHeavy-clause-tally
returns-in-Some-Closed-TooHeavy-clause-tally g c leaves own h leaf =
    let n = c.args.bounds.now.list in
    let w = c.in-Some-Closed-TooHeavy in
    let was : c.args.self.now.last ≡ Some (part.Closed w.field-0-0) = w.is ∙ (λ i. Some (w.field-0-is i)) in
    let heavy = ap listed_value w.field-0-0-is in
    grows n c.args.self.now _ (Closed own ∷ []) refl
    (λ tail e. more_closed n w.field-0-0 w.field-0-0 own
    (λ before is once. heavy ∙ heavy_before n before own once (sym heavy ∙ is))
    tail (subst (λ (z : Option Part). IsLast n z tail) was e))
    (open_closed_off (map part_value c.args.self.now.parts.items) c.args.self.now.last c.requires.open)
    leaves h

pub returns-in-Some-Bounded-clause-tally : goal.returns-in-Some-Bounded-clause-tally
returns-in-Some-Bounded-clause-tally g c leaves own h leaf =
    let n = c.args.bounds.now.list in
    let w = c.in-Some-Bounded in
    let was : c.args.self.now.last ≡ Some (part.Bounded w.field-0-0) = w.is ∙ (λ i. Some (w.field-0-is i)) in
    grows n c.args.self.now _ (Closed own ∷ []) refl
    (λ tail e. subst (λ (z : Part). Takes n tail (Closed own ∷ []) (Some z)) (sym w.field-0-is) (keeps_bound_at n w.field-0-0 own tail (subst (λ (z : Option Part). IsLast n z tail) was e)))
    (λ apart. subst (λ (z : Option Part). EndsApart (map part_value c.args.self.now.parts.items) z) w.is apart)
    leaves h
