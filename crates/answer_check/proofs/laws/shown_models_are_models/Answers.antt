use Rattle.answer_check.proofs.ShownModels.{shown_model}
use Rattle.answer_check.proofs.laws.shown_models_are_models.Goals as goal

pub returns : goal.returns
returns c = shown_model
