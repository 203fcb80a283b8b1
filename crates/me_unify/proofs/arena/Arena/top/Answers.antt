use Rattle.std.proofs.Common.{refl, sym, ◌∙◌}
use Rattle.me_unify.proofs.Differing.{length_applied}
use Rattle.me_unify.proofs.arena.Arena.top.Goals as goal

pub returns-in-Var : goal.returns-in-Var
returns-in-Var c t h fits kept = rw c.in-Var.is (c.top_of_variable.ensures t h fits kept)

pub returns-in-App : goal.returns-in-App
returns-in-App c t h fits kept = rw c.in-App.is (refl, length_applied (t c.args.space) c.in-App.args.items ∙ sym c.len.ensures)
