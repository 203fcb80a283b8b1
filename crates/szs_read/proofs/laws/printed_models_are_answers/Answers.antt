use Rattle.szs_read.proofs.Models.{printed_model}
use Rattle.szs_read.proofs.laws.printed_models_are_answers.Goals as goal

pub returns : goal.returns
returns c = printed_model
