use Rattle.me_laws.proofs.Grown.{grown}
use Rattle.me_laws.proofs.grown_is_consistent.Goals as goal

pub returns : goal.returns
returns c = λ problem bounds context h. grown h
