-- A ground literal may be asserted exactly where no entry fixes its atom.
use Rattle.std.proofs.Common.{◌≡◌, ℕ, ◌↔◌, Bool, true, false, not, inl, inr, refl}
use Rattle.std.specs.Prelude.{IsTrue}
use Rattle.me_terms.specs.Variables.{are_ground}
use Rattle.me_terms.specs.Context.{Context, IsContext}
use Rattle.me_terms.specs.declared.entry.Kind.TheVariants.{Universal}
use Rattle.me_terms.specs.declared.atom.Literal.{Literal}
use Rattle.me_laws_increments.specs.Refusals.{Refuses}
use Rattle.me_laws_increments.specs.Replacement.{IsFixed}
use Rattle.me_laws_increments.proofs.Lookup.{ground_refusals}
use Rattle.assert_rule.specs.AssertedEntries.{FixesAt, MayBeAsserted}

module _ (context : Context) (l : Literal) (is_context : IsContext context) (ground : IsTrue (are_ground l.atom.args)) where
  fixes : Refuses context l Universal → (k : ℕ) × FixesAt context k l.atom
  fixes r =
      let f : IsFixed context l.atom = (ground_refusals context l is_context ground).0 r in
      (f.1.0, (f.1.1, f.1.2, f.1.3, f.1.5))

  refused : ((k : ℕ) × FixesAt context k l.atom) → Refuses context l Universal
  refused h = (ground_refusals context l is_context ground).1 (h.1.0.positive, (h.0, h.1.0, h.1.1, h.1.2, refl, h.1.3))

  pub free_is_new : (((k : ℕ) × FixesAt context k l.atom) → ⊥) → MayBeAsserted context l Universal
  free_is_new none = record {
    consistent = λ c. none (fixes (inl c));
    not_subsumed = λ s. none (fixes (inr (inl s)));
    no_variant = λ is v. none (fixes (inr (inr (is, v))));
  }

  not_refused : MayBeAsserted context l Universal → Refuses context l Universal → ⊥
  not_refused h (inl c) = h.consistent c
  not_refused h (inr (inl s)) = h.not_subsumed s
  not_refused h (inr (inr v)) = h.no_variant v.0 v.1

  pub new_is_free : MayBeAsserted context l Universal → ((k : ℕ) × FixesAt context k l.atom) → ⊥
  new_is_free h fixed = not_refused h (refused fixed)

  apart : false ≡ true → ⊥
  apart e = cc e

  pub free_exactly : (fixed : Bool) → (IsTrue fixed ↔ ((k : ℕ) × FixesAt context k l.atom)) → IsTrue (not fixed) ↔ MayBeAsserted context l Universal
  free_exactly true h = (λ e. absurd (apart e), λ m. absurd (new_is_free m (h.0 refl)))
  free_exactly false h = (λ e. free_is_new (λ fixed. apart (h.1 fixed)), λ m. refl)
