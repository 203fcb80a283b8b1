use Rattle.std.proofs.Common.{◌≡◌, ℕ, ◌+◌, ◌<◌, ◌≤◌, Bool, true, false, IsTrue, ◌↔◌, inl, inr, List, ◌++◌, sym, ap, ◌∙◌, arith}
use Rattle.std.proofs.lemmas.Bool.Decides.{leb_tells}
use Rattle.me_terms.specs.Values.{InstanceValue}
use Rattle.me_terms.specs.Measures.{list_weight}
use Rattle.instance_lists.specs.Merged.{merged}
use Rattle.instance_lists.specs.News.{news, kept_by_marks}
use Rattle.instance_lists.proofs.Joining.{new_are_lacked, weight-append}
use Rattle.instance_lists.proofs.merging.merge.Goals as goal

-- the merged list, from the calls: the marks are those of the new instances, and those are added
joins : (into more added : List InstanceValue) (marks marks' : List Bool) → marks ≡ news into more → marks' ≡ marks → added ≡ kept_by_marks marks' more → merged into more ≡ into ++ added
joins into more added marks marks' found same kept =
    ap (λ (xs : List InstanceValue). into ++ xs) (sym (kept ∙ (ap (λ (ms : List Bool). kept_by_marks ms more) (same ∙ found) ∙ new_are_lacked into more)))

pub returns-clause-ok : goal.returns-clause-ok
returns-clause-ok c =
    let found : c.in_ok-marks.marks.items ≡ news c.args.into.now.items c.args.more.items = cc (c.in_ok-marks.ensures, c.as_slice.ensures, c.as_slice-2.ensures) in
    let all = joins c.args.into.now.items c.args.more.items c.in_ok-added.added.items c.in_ok-marks.marks.items _ found c.deref.ensures.value c.in_ok-added.ensures in
    c.append.ensures ∙ (ap (λ (xs : List InstanceValue). xs ++ c.in_ok-added.added.items) c.reserve.ensures.items ∙ sym all)

heavy_of : (into more added : List InstanceValue) (bound : ℕ) (fits : Bool) → fits ≡ false → (IsTrue fits ↔ (list_weight into + list_weight added ≤ bound)) → merged into more ≡ into ++ added → bound < list_weight (merged into more)
heavy_of into more added bound fits is_false tells all =
    let whole : list_weight (merged into more) ≡ list_weight into + list_weight added = ap list_weight all ∙ weight-append into added in
    elim (leb_tells (list_weight into + list_weight added) bound) as (λ _. bound < list_weight (merged into more)) [
      | inl x ↦ let here : fits ≡ true = tells.1 x.1 in cc
      | inr x ↦ omega (arith, x.1, whole)
    ]

pub returns-then-not-fits_beside-clause-heavy : goal.returns-then-not-fits_beside-clause-heavy
returns-then-not-fits_beside-clause-heavy c = λ _.
    let found : c.in_ok-marks.marks.items ≡ news c.args.into.now.items c.args.more.items = cc (c.in_ok-marks.ensures, c.as_slice.ensures, c.as_slice-2.ensures) in
    let all = joins c.args.into.now.items c.args.more.items c.in_ok-added.added.items c.in_ok-marks.marks.items _ found c.deref.ensures.value c.in_ok-added.ensures in
    heavy_of c.args.into.now.items c.args.more.items c.in_ok-added.added.items c.args.bound c.fits_beside.result c.if-not-fits_beside.true c.fits_beside.ensures all
