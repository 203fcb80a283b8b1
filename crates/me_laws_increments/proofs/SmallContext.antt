-- A context in which p(a), Universal, is hidden by the later p(X0), Universal.
use Rattle.std.proofs.Common.{true, false, refl, arith}
use Rattle.me_terms.specs.Terms.{App, Nil}
use Rattle.me_terms.specs.Context.{IsHidden}
use Rattle.me_terms.specs.declared.entry.Kind.TheVariants.{Universal, Parametric}
use Rattle.me_terms.specs.declared.atom.Pattern.TheVariants.{Of}
use Rattle.me_laws_increments.specs.Replacement.{IsCovered}
use Rattle.me_laws_increments.specs.SmallContext.{p_atom, instance_entry, general_entry, small_context, SmallContextExample}
use Rattle.me_laws_increments.proofs.Replacement.{replaced}
use Rattle.me_laws_increments.proofs.Lookup.{fixed_is_refused}

is_hidden : IsHidden small_context 1 instance_entry
is_hidden = (2, general_entry, record { is_later = omega arith; stands = refl; covers = record { is_universal = refl; same_sign = refl; generalizes = ((λ x. App 0 Nil), refl) } })

is_covered : IsCovered small_context true (Of (p_atom (App 0 Nil)))
is_covered = replaced small_context 1 instance_entry refl is_hidden

pub small_context_example : SmallContextExample
small_context_example = record {
  hidden = is_hidden;
  covered = is_covered;
  fixed = (true, is_covered);
  refused = fixed_is_refused small_context (record { positive = true; atom = p_atom (App 0 Nil) }) Universal (true, is_covered);
  complement_refused = fixed_is_refused small_context (record { positive = false; atom = p_atom (App 0 Nil) }) Parametric (true, is_covered);
}
