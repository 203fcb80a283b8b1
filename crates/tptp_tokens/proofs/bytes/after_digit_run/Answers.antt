use Rattle.tptp_tokens.proofs.Runs.{run_behind}
use Rattle.tptp_tokens.proofs.bytes.after_digit_run.Goals as goal

pub returns : goal.returns
returns c = run_behind _ _ _ _ c.digit_count.ensures.count c.split_at.ensures.back
