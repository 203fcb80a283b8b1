-- The literals that scripts put into a context are canonical.
use Rattle.std.proofs.Common.{◌≡◌, IsTrue, sym, subst}
use Rattle.me_terms.specs.Variables.{is_canonical}
use Rattle.me_terms.specs.Measures.{canonical_literal}
use Rattle.me_terms.specs.declared.atom.Literal.{Literal}
use Rattle.me_laws.proofs.Grown.{canonical_is}

pub form_is_canonical : (form lit : Literal) → form ≡ canonical_literal lit → IsTrue (is_canonical form.atom)
form_is_canonical form lit is = subst (λ (l : Literal). IsTrue (is_canonical l.atom)) (sym is) (canonical_is lit.atom)
