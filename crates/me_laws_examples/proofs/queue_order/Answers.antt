use Rattle.me_laws_examples.proofs.QueueOrder.{queue_order}
use Rattle.me_laws_examples.proofs.queue_order.Goals as goal

pub returns : goal.returns
returns c = queue_order
