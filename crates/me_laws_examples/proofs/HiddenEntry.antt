-- Which later entries hide p(a,X0).
use Rattle.std.proofs.Common.{zero, suc, true, false, [], ◌∷◌, refl, arith}
use Rattle.me_terms.specs.Terms.{TermValue}
use Rattle.me_terms.specs.Substitutions.{Substitution}
use Rattle.me_terms.specs.Values.{SplitLeft}
use Rattle.me_terms.specs.Context.{pseudo}
use Rattle.me_terms.specs.declared.entry.Kind.TheVariants.{Universal, Parametric}
use Rattle.me_laws_examples.specs.Letters.{a, x0, x1, p, entry}
use Rattle.me_laws_examples.specs.HiddenEntry.{earlier, followed, LaterEntryHides}
use Rattle.me_laws_examples.proofs.Short.{seen, no_instance}

-- X0 as s, and every other variable as t
unfoldable pub first_then : TermValue → TermValue → Substitution
first_then s t zero = s
first_then s t (suc x) = t

pub later_entry_hides : LaterEntryHides
unfolding first_then
later_entry_hides = record {
  hidden = (2, entry true (p x0 x1) Universal SplitLeft, record { is_later = omega arith; stands = refl; covers = record { is_universal = refl; same_sign = refl; generalizes = (first_then a x0, refl) } });
  by_a_variant = (2, entry true (p a x1) Universal SplitLeft, record { is_later = omega arith; stands = refl; covers = record { is_universal = refl; same_sign = refl; generalizes = (λ x. x0, refl) } });
  other_sign = seen (followed false (p x0 x1) Universal) 1 earlier refl ((λ lt u s g. absurd (omega (arith, lt))), ((λ lt u s g. cc u), ((λ lt u s g. cc s), tt)));
  other_kind = seen (followed true (p x0 x1) Parametric) 1 earlier refl ((λ lt u s g. absurd (omega (arith, lt))), ((λ lt u s g. cc u), ((λ lt u s g. cc u), tt)));
  less_general = seen (followed true (p a a) Universal) 1 earlier refl ((λ lt u s g. absurd (omega (arith, lt))), ((λ lt u s g. cc u), ((λ lt u s g. no_instance (p a a) (p a x0) refl g), tt)));
  pseudo_visible = seen (followed false (p x0 x1) Universal) 0 (pseudo false) refl ((λ lt u s g. cc u), ((λ lt u s g. g), ((λ lt u s g. g), tt)));
  from_before = seen (pseudo false ∷ entry true (p x0 x1) Universal SplitLeft ∷ earlier ∷ []) 2 earlier refl ((λ lt u s g. absurd (omega (arith, lt))), ((λ lt u s g. absurd (omega (arith, lt))), ((λ lt u s g. cc u), tt)));
}
