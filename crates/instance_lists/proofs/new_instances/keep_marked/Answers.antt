use Rattle.std.proofs.Common.{◌≡◌, ◌⊎◌, inl, inr, Bool, List, [], ◌∷◌, ◌++◌, length, append-nil, refl, sym, ap, ◌∙◌, arith}
use Rattle.std.specs.Slice.Iter.{iter_rest}
use Rattle.std.specs.Vec.Iter.{into_iter_items}
use Rattle.me_terms.specs.Values.{InstanceValue}
use Rattle.instance_lists.specs.News.{kept_by_marks}
use Rattle.instance_lists.proofs.new_instances.keep_marked.Goals as goal

none_left : (marks : List Bool) (xs : List InstanceValue) → (length xs ≡ 0) ⊎ (length marks ≡ 0) → kept_by_marks marks xs ≡ []
none_left marks [] h = refl
none_left [] (x ∷ xs) h = refl
none_left (m ∷ marks) (x ∷ xs) (inl h) = absurd (omega arith)
none_left (m ∷ marks) (x ∷ xs) (inr h) = absurd (omega arith)

all_kept : (kept all : List InstanceValue) (marks : List Bool) (xs : List InstanceValue) → (length xs ≡ 0) ⊎ (length marks ≡ 0) → kept ++ kept_by_marks marks xs ≡ all → kept ≡ all
all_kept kept all marks xs h e = sym (append-nil kept) ∙ (ap (λ (ys : List InstanceValue). kept ++ ys) (sym (none_left marks xs h)) ∙ e)

pub returns : goal.returns
returns c =
    let it = c.loop-instance.instance-iterator in
    let ended : (length (into_iter_items it.a) ≡ 0) ⊎ (length (iter_rest it.b) ≡ 0) =
    elim (c.in-None.ensures.steps) [ inl x ↦ inl (omega (arith, x.1.0, it.a.rest.ok)) | inr x ↦ inr (x.1.0) ] in
    all_kept c.loop-instance.kept.items _ (iter_rest it.b) (into_iter_items it.a) ended c.loop-instance.invariant
