use Rattle.std.proofs.Common.{ℕ, List, ◌++◌, refl, sym, ap, subst, ◌∙◌, append_assoc, add-one}
use Rattle.szs_print.specs.ModelText.{IsTextOf}
use Rattle.szs_print.proofs.model.push_entries.Goals as goal

pub loop-k-preserved : goal.loop-k-preserved
loop-k-preserved c =
    let so_far = c.loop-k.invariant in
    let added = c.in_ok-push_entry.ensures in
    let text = so_far.0 ++ added.0 in
    let next = subst (λ (n : ℕ). IsTextOf c.args.signature.now c.args.entries.now n text) (sym (add-one c.loop-k.k)) (so_far.0, added.0, so_far.1, added.1, refl) in
    (text, next, added.2 ∙ ap (λ (xs : List ℕ). xs ++ added.0) so_far.2 ∙ append_assoc c.args.out.now.items so_far.0 added.0)
