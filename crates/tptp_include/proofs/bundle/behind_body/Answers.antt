use Rattle.std.proofs.Common.{◌∙◌, ◌+◌, sym, refl}
use Rattle.tptp_include.proofs.Bundling.{passed_more}
use Rattle.tptp_include.proofs.bundle.behind_body.Goals as goal

pub left-preserved : goal.left-preserved
left-preserved c = passed_more c.args.bytes.now c.left.left.now c.left.lines c.split_line.result.0.now c.split_line.result.1.now (c.left.lines + 1) c.left.invariant c.split_line.ensures (sym c.is_marked.ensures ∙ c.if-is_marked.false) refl
