use Rattle.std.proofs.Common.{List, reverse, refl, sym, ap, ◌∙◌, arith}
use Rattle.tptp_cnf.specs.Rows.{ItemValue, Draft, with_row}
use Rattle.tptp_cnf.specs.Views.{draft}
use Rattle.tptp_cnf.proofs.Arities.{row_set, row_past, closed_last}
use Rattle.tptp_cnf.proofs.builder.Builder.close_arguments.Goals as goal

pub returns-then-place-len : goal.returns-then-place-len
returns-then-place-len c =
    let d : Draft = draft c.args.self.now in
    ap (λ (x : List ItemValue). with_row x (reverse c.pop.new.self.items) d) (row_set c.args.self.now.items.items c.in-Some.place c.args.count c.index_mut.result.now (omega arith) c.index_mut.ensures.value)
    ∙ sym (closed_last _ _ c.in-Some.place c.args.count d c.in-Some.ensures.items refl)

pub returns-else-place-len : goal.returns-else-place-len
returns-else-place-len c =
    let d : Draft = draft c.args.self.now in
    ap (λ (x : List ItemValue). with_row x (reverse c.pop.new.self.items) d) (sym (row_past c.args.self.now.items.items c.in-Some.place c.args.count (omega arith)))
    ∙ sym (closed_last _ _ c.in-Some.place c.args.count d c.in-Some.ensures.items refl)
