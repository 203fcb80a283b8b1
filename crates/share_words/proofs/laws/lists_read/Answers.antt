use Rattle.share_words.proofs.Reading.{read_lists}
use Rattle.share_words.proofs.laws.lists_read.Goals as goal

pub returns : goal.returns
returns c = read_lists
