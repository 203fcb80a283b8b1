use Rattle.std.proofs.Common.{◌+◌, sym, subst, ◌∙◌, arith}
use Rattle.std.proofs.lemmas.Bool.{false≢true}
use Rattle.szs_print.specs.SummaryText.{IsShownCount}
use Rattle.szs_print.proofs.Shown.{one_shown, none_shown}
use Rattle.szs_print.proofs.summary.shown_count.Goals as goal
use Rattle.szs_print.proofs.summary.shown_count.Goals.{then-is_shown, else-is_shown}

pub loop-k-preserved : goal.loop-k-preserved
loop-k-preserved c =
    let before = c.loop-k.invariant in
    let entries = c.args.entries.now in
    let k = c.loop-k.k in
    elim c.if-is_shown.branch [
      | then-is_shown w ↦
          record {
            counted = subst (IsShownCount entries (k + 1)) (sym w.count-is) (one_shown entries k c.loop-k.count before.counted (c.is_shown.ensures.0 w.if-is_shown.true));
            few = omega (arith, w.count-is, before.few);
          }
      | else-is_shown w ↦
          record {
            counted = subst (IsShownCount entries (k + 1)) (sym w.count-is) (none_shown entries k c.loop-k.count before.counted (λ s. false≢true (sym w.if-is_shown.false ∙ c.is_shown.ensures.1 s)));
            few = omega (arith, w.count-is, before.few);
          }
    ]
