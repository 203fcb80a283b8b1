use Rattle.nodes_tests.proofs.Entries.{form_is_canonical}
use Rattle.nodes_tests.proofs.script.put.Goals as goal

pub extend-requires-clause-literal : goal.extend-requires-clause-literal
extend-requires-clause-literal g c = (form_is_canonical c.in_ok-literal.literal _ c.in_ok-literal.ensures, c.kind_for-kind.ensures)
