use Rattle.std.proofs.Common.{◌∙◌}
use Rattle.literal_index.proofs.Constants.{all_constants}
use Rattle.literal_index.proofs.keys.are_constants.Goals as goal

pub returns : goal.returns
returns c = c.are_all_constants.ensures ∙ all_constants c.as_slice.result.now c.args.arguments.now.items c.as_slice.ensures
