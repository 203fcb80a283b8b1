use Rattle.calculus_tests.proofs.Entries.{form_is_canonical}
use Rattle.calculus_tests.proofs.contexts.put.Goals as goal

pub add-requires-clause-literal : goal.add-requires-clause-literal
add-requires-clause-literal c = (form_is_canonical c.in_ok-literal.literal _ c.in_ok-literal.ensures, c.kind_for-kind.ensures)
