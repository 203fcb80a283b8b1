-- What the context of ~v, parametric p(a,X0) and universal ~p(X0,b) produces.
use Rattle.std.proofs.Common.{◌≡◌, ◌<◌, true, false, ◌⊎◌, inl, inr, refl, arith}
use Rattle.me_terms.specs.Substitutions.{Generalizes, IsStrictlyMoreGeneral}
use Rattle.me_terms.specs.Context.{pseudo, IsLiteralEntry, IsVisible}
use Rattle.me_terms.specs.Produces.{Produces, IsProduced, HasException}
use Rattle.me_terms.specs.declared.entry.Kind.TheVariants.{Universal, Parametric}
use Rattle.me_terms.specs.declared.atom.Pattern.TheVariants.{Any, Of}
use Rattle.me_laws.proofs.Generality.{strictly_irreflexive}
use Rattle.me_laws_examples.specs.Letters.{a, b, x0, p, literal}
use Rattle.me_laws_examples.specs.TruthOfAtoms.{parametric_entry, universal_entry, three, TruthOfAtoms}
use Rattle.me_laws_examples.proofs.Short.{each_entry, seen, no_instance}

visible_0 : IsVisible three 0 (pseudo false)
visible_0 = seen three 0 (pseudo false) refl ((λ lt u s g. cc u), ((λ lt u s g. g), ((λ lt u s g. g), tt)))

visible_1 : IsVisible three 1 parametric_entry
visible_1 = seen three 1 parametric_entry refl ((λ lt u s g. absurd (omega (arith, lt))), ((λ lt u s g. cc u), ((λ lt u s g. cc s), tt)))

visible_2 : IsVisible three 2 universal_entry
visible_2 = seen three 2 universal_entry refl ((λ lt u s g. absurd (omega (arith, lt))), ((λ lt u s g. cc u), ((λ lt u s g. absurd (omega (arith, lt))), tt)))

-- entry 2 is an exception to entry 1 at p(a,b)
exception : HasException three parametric_entry (p a b)
exception = (2, universal_entry, visible_2, (λ x. a, refl), inl refl)

-- nothing is an exception to entry 1 at p(a,a)
aa_free : ¬ HasException three parametric_entry (p a a)
aa_free ex =
    each_entry (λ j f. Generalizes f.atom (Of (p a a)) → (f.kind ≡ Universal) ⊎ ((f.kind ≡ Parametric) × IsStrictlyMoreGeneral parametric_entry.atom f.atom) → ⊥) three
    ((λ g q. elim q as (λ _. ⊥) [ inl u ↦ cc u | inr w ↦ w.1.0 ]), ((λ g q. elim q as (λ _. ⊥) [ inl u ↦ cc u | inr w ↦ strictly_irreflexive parametric_entry.atom w.1 ]), ((λ g q. no_instance (p x0 b) (p a a) refl g), tt)))
    ex.0 ex.1 ex.2.0 ex.3 ex.4

-- nothing is an exception to the pseudo-literal at p(b,a)
ba_free : ¬ HasException three (pseudo false) (p b a)
ba_free ex =
    each_entry (λ j f. Generalizes f.atom (Of (p b a)) → (f.kind ≡ Universal) ⊎ ((f.kind ≡ Parametric) × IsStrictlyMoreGeneral Any f.atom) → ⊥) three
    ((λ g q. elim q as (λ _. ⊥) [ inl u ↦ cc u | inr w ↦ strictly_irreflexive Any w.1 ]), ((λ g q. no_instance (p a x0) (p b a) refl g), ((λ g q. no_instance (p x0 b) (p b a) refl g), tt)))
    ex.0 ex.1 ex.2.0 ex.3 ex.4

ab_not_produced : ¬ IsProduced three (literal true (p a b))
ab_not_produced h =
    each_entry (λ k f. Produces three k f (literal true (p a b)) → ⊥) three
    ((λ g. cc g.same_sign), ((λ g. elim g.undisputed as (λ _. ⊥) [ inl u ↦ cc u | inr free ↦ free exception ]), ((λ g. cc g.same_sign), tt)))
    h.0 h.1 h.2.visible.0 h.2

ba_not_produced : ¬ IsProduced three (literal true (p b a))
ba_not_produced h =
    each_entry (λ k f. Produces three k f (literal true (p b a)) → ⊥) three
    ((λ g. cc g.same_sign), ((λ g. no_instance (p a x0) (p b a) refl g.generalizes), ((λ g. cc g.same_sign), tt)))
    h.0 h.1 h.2.visible.0 h.2

aa_by_1 : Produces three 1 parametric_entry (literal true (p a a))
aa_by_1 = record { visible = visible_1; same_sign = refl; generalizes = (λ x. a, refl); undisputed = inr (λ ex. aa_free ex) }

pub truth_of_atoms : TruthOfAtoms
truth_of_atoms = record {
  context = record {
    first = (false, refl);
    later = λ k e lt at. each_entry (λ j f. 0 < j → IsLiteralEntry f) three ((λ h. absurd (omega (arith, h))), ((λ h. (refl, λ g. cc g)), ((λ h. (refl, λ g. refl)), tt))) k e at lt;
  };
  ab_not_produced = ab_not_produced;
  ab_by_2 = record { visible = visible_2; same_sign = refl; generalizes = (λ x. a, refl); undisputed = inl refl };
  aa_by_1 = aa_by_1;
  ba_by_0 = record { visible = visible_0; same_sign = refl; generalizes = tt; undisputed = inr (λ ex. ba_free ex) };
  ab_false = λ h. ab_not_produced h;
  aa_true = (1, parametric_entry, aa_by_1);
  ba_false = λ h. ba_not_produced h;
}
