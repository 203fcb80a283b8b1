-- What is put into a context is a literal.
use Rattle.std.proofs.Common.{◌≡◌, ℕ, IsTrue, refl, sym, subst}
use Rattle.me_terms.specs.Terms.{AtomValue, App, Nil, Cons}
use Rattle.me_terms.specs.Variables.{is_canonical, are_ground}
use Rattle.me_terms.specs.Values.{EntryValue}
use Rattle.me_terms.specs.Context.{IsAtomWith, IsLiteralEntry}
use Rattle.me_terms.specs.declared.entry.Kind.TheVariants.{Universal}
use Rattle.me_terms.specs.declared.atom.Pattern.{Pattern}
use Rattle.me_terms.specs.declared.atom.Pattern.TheVariants.{Of}

-- a predicate of a constant
abbrev pub constant_atom : ℕ → ℕ → AtomValue
constant_atom pred f = record { pred = pred; args = Cons (App f Nil) Nil }

pub constant_literal : (e : EntryValue) (pred f : ℕ) → e.atom ≡ Of (constant_atom pred f) → e.kind ≡ Universal → IsLiteralEntry e
constant_literal e pred f is kind =
    let P : Pattern → Type 0 = λ p. IsAtomWith (λ b. IsTrue (is_canonical b) × (IsTrue (are_ground b.args) → e.kind ≡ Universal)) p in
    subst P (sym is) (refl, λ h. kind)
