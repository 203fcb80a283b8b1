-- The canonical form of an atom, among its variants.
use Rattle.std.specs.Prelude.{◌≡◌, IsTrue}
use Rattle.me_terms.specs.Terms.{AtomValue}
use Rattle.me_terms.specs.Variables.{is_canonical, canonical}
use Rattle.me_terms.specs.Substitutions.{IsVariant}
use Rattle.me_terms.specs.declared.atom.Pattern.TheVariants.{Of}

-- An atom's canonical form is canonical, a variant of the atom, and the only atom that is both. Two atoms are variants exactly where their canonical forms are equal.
pub record CanonicalFormIsTheVariant : Type 0 where
  pub form_is_canonical : (a : AtomValue) → IsTrue (is_canonical (canonical a))
  pub form_is_variant : (a : AtomValue) → IsVariant (Of (canonical a)) (Of a)
  pub form_is_only : (a b : AtomValue) → IsTrue (is_canonical b) → IsVariant (Of b) (Of a) → b ≡ canonical a
  pub variants_share_form : (a b : AtomValue) → IsVariant (Of a) (Of b) → canonical a ≡ canonical b
  pub same_form_is_variant : (a b : AtomValue) → canonical a ≡ canonical b → IsVariant (Of a) (Of b)
