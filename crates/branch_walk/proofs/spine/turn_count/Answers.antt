use Rattle.std.proofs.Common.{length, ap, sym, ◌∙◌}
use Rattle.branch_core.specs.Paths.{Turns}
use Rattle.branch_core.specs.PathLaws.{length_turns}
use Rattle.branch_walk.proofs.spine.turn_count.Goals as goal

pub returns : goal.returns
returns c = sym (length_turns c.path.inside.len c.path.inside.bits) ∙ ap (λ (t : Turns). length t) c.path.view_is
