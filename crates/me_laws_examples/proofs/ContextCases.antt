-- Which lists of entries are contexts, and which contexts are consistent.
use Rattle.std.proofs.Common.{◌≡◌, ℕ, ◌<◌, true, false, not, [], ◌∷◌, refl, ap, arith}
use Rattle.std.proofs.lemmas.Option.{same_Some}
use Rattle.me_terms.specs.Terms.{AtomValue}
use Rattle.me_terms.specs.Values.{EntryValue, SplitLeft}
use Rattle.me_terms.specs.Context.{pseudo, IsLiteralEntry, IsContext, IsVisible}
use Rattle.me_terms.specs.Contradictory.{Clash, IsConsistent}
use Rattle.me_terms.specs.declared.entry.Kind.{Kind}
use Rattle.me_terms.specs.declared.entry.Kind.TheVariants.{Universal, Parametric}
use Rattle.me_terms.specs.declared.atom.Pattern.TheVariants.{Any, Of}
use Rattle.me_laws_examples.specs.Letters.{a, x0, x1, p, p_of, entry}
use Rattle.me_laws_examples.specs.Contexts.{third, opposed, Contexts}
use Rattle.me_laws_examples.proofs.Short.{each_entry, seen, no_instance}
use Rattle.me_laws_examples.proofs.HiddenEntry.{first_then}

of_third : (e : EntryValue) → IsLiteralEntry e → IsContext (third e)
of_third e good = record {
  first = (false, refl);
  later = λ k f lt at. each_entry (λ j g. 0 < j → IsLiteralEntry g) (third e) ((λ h. absurd (omega (arith, h))), ((λ h. (refl, λ g. refl)), ((λ h. good), tt))) k f at lt;
}

third_is : (e : EntryValue) → IsContext (third e) → IsLiteralEntry e
third_is e h = h.later 2 e (omega arith) refl

first_visible : (s t : AtomValue) (one other : Kind) → IsVisible (opposed s one t other) 1 (entry true s one SplitLeft)
first_visible s t one other = seen (opposed s one t other) 1 (entry true s one SplitLeft) refl ((λ lt u g h. absurd (omega (arith, lt))), ((λ lt u g h. absurd (omega (arith, lt))), ((λ lt u g h. cc g), tt)))

second_visible : (s t : AtomValue) (one other : Kind) → IsVisible (opposed s one t other) 2 (entry false t other SplitLeft)
second_visible s t one other = seen (opposed s one t other) 2 (entry false t other SplitLeft) refl ((λ lt u g h. absurd (omega (arith, lt))), ((λ lt u g h. absurd (omega (arith, lt))), ((λ lt u g h. absurd (omega (arith, lt))), tt)))

-- where the two clash, the context is not consistent
clashing : (s t : AtomValue) (one other : Kind) → Clash one (Of s) other (Of t) → ¬ IsConsistent (opposed s one t other)
clashing s t one other clash h = h 2 (entry false t other SplitLeft) (second_visible s t one other) (1, entry true s one SplitLeft, first_visible s t one other, refl, clash)

-- where neither clashes with the other, and neither with the pseudo-literal, it is
apart : (s t : AtomValue) (one other : Kind) → ¬ Clash one (Of s) other (Of t) → ¬ Clash other (Of t) one (Of s) → ¬ Clash Parametric Any one (Of s) → ¬ Clash one (Of s) Parametric Any → IsConsistent (opposed s one t other)
apart s t one other first second above below k e visible h =
    each_entry (λ i f. (j : ℕ) (g : EntryValue) → IsVisible (opposed s one t other) j g → g.positive ≡ not f.positive → Clash g.kind g.atom f.kind f.atom → ⊥) (opposed s one t other) (
      (λ j g there. each_entry (λ i f. f.positive ≡ true → Clash f.kind f.atom Parametric Any → ⊥) (opposed s one t other) ((λ u c. cc u), ((λ u c. below c), ((λ u c. cc u), tt))) j g there.0),
      (
        (λ j g there. each_entry (λ i f. f.positive ≡ false → Clash f.kind f.atom one (Of s) → ⊥) (opposed s one t other) ((λ u c. above c), ((λ u c. cc u), ((λ u c. second c), tt))) j g there.0),
        ((λ j g there. each_entry (λ i f. f.positive ≡ true → Clash f.kind f.atom other (Of t) → ⊥) (opposed s one t other) ((λ u c. cc u), ((λ u c. first c), ((λ u c. cc u), tt))) j g there.0), tt),
      ),
    )
    k e visible.0 h.0 h.1 h.2 h.3 h.4

pub contexts : Contexts
unfolding first_then
contexts = record {
  of_either_sign = λ positive. record { first = (positive, refl); later = λ k e lt at. each_entry (λ j f. 0 < j → IsLiteralEntry f) (pseudo positive ∷ []) ((λ h. absurd (omega (arith, h))), tt) k e at lt };
  open_universal = of_third (entry true (p x0 x1) Universal SplitLeft) (refl, λ g. refl);
  open_parametric = of_third (entry true (p x0 x1) Parametric SplitLeft) (refl, λ g. cc g);
  ground_universal = of_third (entry true (p a a) Universal SplitLeft) (refl, λ g. refl);
  ground_parametric = λ h. let bad = (third_is (entry true (p a a) Parametric SplitLeft) h).1 refl in cc bad;
  not_canonical = λ h. let bad : false ≡ true = (third_is (entry true (p x1 x0) Universal SplitLeft) h).0 in cc bad;
  pseudo_again = λ h. third_is (pseudo false) h;
  pseudo_second = λ h. h.later 1 (pseudo false) (omega arith) refl;
  no_entry = λ h. cc h.first.1;
  no_pseudo = λ h. let bad : Universal ≡ Parametric = ap (λ (e : EntryValue). e.kind) (same_Some (entry false (p_of x0) Universal SplitLeft) (pseudo h.first.0) h.first.1) in cc bad;
  universal_pair = clashing (p x0 a) (p a x0) Universal Universal (λ x. a, λ x. a, refl);
  parametric_pair = clashing (p x0 x1) (p x0 x1) Parametric Parametric ((first_then x0 x1, refl), (first_then x0 x1, refl));
  universal_first = clashing (p x0 x1) (p x0 a) Universal Parametric (first_then x0 a, refl);
  universal_second = clashing (p x0 a) (p x0 x1) Parametric Universal (first_then x0 a, refl);
  parametric_above = apart (p x0 x1) (p x0 x0) Parametric Parametric (λ c. no_instance (p x0 x0) (p x0 x1) refl c.1) (λ c. no_instance (p x0 x0) (p x0 x1) refl c.0) (λ c. c.1) (λ c. c.0);
  parametric_exception = apart (p x0 x1) (p a a) Parametric Universal (λ c. no_instance (p a a) (p x0 x1) refl c) (λ c. no_instance (p a a) (p x0 x1) refl c) (λ c. c.1) (λ c. c.0);
}
