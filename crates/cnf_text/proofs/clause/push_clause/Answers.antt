use Rattle.cnf_text.proofs.Kept.{kept_beyond, on_err}
use Rattle.cnf_text.proofs.clause.push_clause.Goals as goal

pub returns-in_err-push_signed-2-clause-err : goal.returns-in_err-push_signed-2-clause-err
returns-in_err-push_signed-2-clause-err c =
    on_err c.from_residual-in_err-push_signed-2.result
    (kept_beyond c.args.out.now.items c.loop-literal.out.items c.extend_from_slice-in-loop-literal.new.self.items c.push_signed-in-loop-literal.new.out.items _ c.loop-literal.invariant.kept c.in_ok-extend_from_slice.ensures.items c.in_err-push_signed-2.ensures.err)
