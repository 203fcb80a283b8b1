use Rattle.tptp_tokens.proofs.Runs.{run_behind}
use Rattle.tptp_tokens.proofs.bytes.after_word.Goals as goal

pub returns : goal.returns
returns c = run_behind _ _ _ _ c.word_count.ensures.count c.split_at.ensures.back
