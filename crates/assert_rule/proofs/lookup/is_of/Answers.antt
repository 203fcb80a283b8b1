use Rattle.std.proofs.Common.{◌≡◌, ◌↔◌, sym, subst}
use Rattle.std.specs.Prelude.{IsTrue}
use Rattle.me_terms.specs.declared.atom.Pattern.{Pattern}
use Rattle.me_terms.specs.declared.atom.Pattern.TheVariants.{Of}
use Rattle.assert_rule.proofs.Looked.{same_exactly}
use Rattle.assert_rule.proofs.lookup.is_of.Goals as goal

pub returns-in-Of : goal.returns-in-Of
returns-in-Of c =
    let P : Pattern → Type 0 = λ z. IsTrue c.is_same.result ↔ (z ≡ Of c.args.atom.now) in
    subst P (sym c.in-Of.is) (same_exactly c.in-Of.own c.args.atom.now c.is_same.result c.is_same.ensures)
