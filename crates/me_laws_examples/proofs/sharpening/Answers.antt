use Rattle.me_laws_examples.proofs.SharpeningCases.{sharpening}
use Rattle.me_laws_examples.proofs.sharpening.Goals as goal

pub returns : goal.returns
returns c = sharpening
