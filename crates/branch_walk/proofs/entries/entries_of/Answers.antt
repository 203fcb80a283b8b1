use Rattle.std.proofs.Common.{◌≡◌, ℕ, ◌+◌, ◌++◌, ◌∷◌, [], take, slice_get, Some, ap, sym, ◌∙◌}
use Rattle.std.proofs.lemmas.List.{take_more}
use Rattle.std.proofs.lemmas.Option.{slice_get_within, get_or_from_slice_get}
use Rattle.me_terms.specs.Values.{EntryValue}
use Rattle.me_terms.specs.Context.{Context}
use Rattle.branch_walk.proofs.entries.entries_of.Goals as goal

copied_more : (context : Context) (k : ℕ) (e : EntryValue) → slice_get context k ≡ Some e → take (k + 1) context ≡ take k context ++ e ∷ []
copied_more context k e at =
    take_more context k e (slice_get_within context k e at) ∙ ap (λ (x : EntryValue). take k context ++ x ∷ []) (get_or_from_slice_get context k e e at)

pub loop-k-preserved : goal.loop-k-preserved
loop-k-preserved g c =
    let context = g.V.View.context c.args.view.now in
    let item = c.in-Some.entry.now in
    let pushed = c.in-Ok.ensures.ok in
    let grew = ap (λ (x : Context). x ++ c.in_ok-copy.copy ∷ []) c.loop-k.invariant in
    let same = ap (λ (x : EntryValue). take c.loop-k.k context ++ x ∷ []) c.in_ok-copy.ensures in
    pushed ∙ (grew ∙ (same ∙ sym (copied_more context c.loop-k.k item (sym c.in-Some.ensures.item))))
