use Rattle.me_laws.proofs.SatisfiableModel.{satisfiable_model}
use Rattle.me_laws.proofs.satisfiable_is_model.Goals as goal

pub returns : goal.returns
returns c = satisfiable_model
