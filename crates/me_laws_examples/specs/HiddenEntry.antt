-- Which later entries hide p(a,X0).
use Rattle.std.specs.Prelude.{Bool, true, false, [], ◌∷◌}
use Rattle.me_terms.specs.Terms.{AtomValue}
use Rattle.me_terms.specs.Values.{EntryValue, SplitLeft}
use Rattle.me_terms.specs.Context.{Context, pseudo, IsHidden, IsVisible}
use Rattle.me_terms.specs.declared.entry.Kind.{Kind}
use Rattle.me_terms.specs.declared.entry.Kind.TheVariants.{Universal, Parametric}
use Rattle.me_laws_examples.specs.Letters.{a, x0, x1, p, entry}

abbrev pub earlier : EntryValue
earlier = entry true (p a x0) Parametric SplitLeft

-- p(a,X0), and then the given entry
abbrev pub followed : Bool → AtomValue → Kind → Context
followed positive atom kind = pseudo false ∷ earlier ∷ entry positive atom kind SplitLeft ∷ []

-- A later Universal entry of the same sign hides what it generalizes, a variant too; the other sign, the other kind, and a less general atom do not. An earlier entry hides nothing.
pub record LaterEntryHides : Type 0 where
  pub hidden : IsHidden (followed true (p x0 x1) Universal) 1 earlier
  pub by_a_variant : IsHidden (followed true (p a x1) Universal) 1 earlier
  pub other_sign : IsVisible (followed false (p x0 x1) Universal) 1 earlier
  pub other_kind : IsVisible (followed true (p x0 x1) Parametric) 1 earlier
  pub less_general : IsVisible (followed true (p a a) Universal) 1 earlier
  pub pseudo_visible : IsVisible (followed false (p x0 x1) Universal) 0 (pseudo false)
  pub from_before : IsVisible (pseudo false ∷ entry true (p x0 x1) Universal SplitLeft ∷ earlier ∷ []) 2 earlier
