use Rattle.std.proofs.Common.{sym, ap, ◌∙◌}
use Rattle.szs_print.proofs.Shown.{shown_by}
use Rattle.szs_print.proofs.summary.is_shown.Goals as goal

pub returns : goal.returns
returns c =
    let e = c.index-entries-k.result in
    let a = c.in-Of.field-0 in
    let atom_is = sym (ap (λ v. v.atom) c.entry.view_is) ∙ c.in-Of.is in
    shown_by c.args.entries.now c.args.k e a c.requires c.index-entries-k.is atom_is c.is_covered.result c.is_covered.ensures
