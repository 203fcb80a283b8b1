-- Which exceptions Parametric entries have, among four entries beside the pseudo-literal.
use Rattle.std.proofs.Common.{◌≡◌, ℕ, ◌<◌, true, false, ◌⊎◌, inl, inr, refl, arith}
use Rattle.me_terms.specs.Terms.{AtomValue}
use Rattle.me_terms.specs.Substitutions.{Generalizes, IsStrictlyMoreGeneral}
use Rattle.me_terms.specs.Values.{EntryValue, SplitLeft}
use Rattle.me_terms.specs.Context.{pseudo, StandsAt, IsVisible}
use Rattle.me_terms.specs.Produces.{HasException}
use Rattle.me_terms.specs.declared.entry.Kind.TheVariants.{Universal, Parametric}
use Rattle.me_terms.specs.declared.atom.Pattern.TheVariants.{Of}
use Rattle.me_laws.proofs.Generality.{strictly_irreflexive}
use Rattle.me_laws_examples.specs.Letters.{a, b, x0, x1, p, entry}
use Rattle.me_laws_examples.specs.Exceptions.{c, widest, below_a, at_b, second_b, five, Exceptions}
use Rattle.me_laws_examples.proofs.Short.{EachEntry, each_entry, seen, no_instance}
use Rattle.me_laws_examples.proofs.HiddenEntry.{first_then}

-- the only Universal entry hides none of the others
all_visible : (k : ℕ) (e : EntryValue) → StandsAt five k e → (3 < k ⊎ (Generalizes at_b.atom e.atom → ⊥) ⊎ (k ≡ 3)) → IsVisible five k e
all_visible k e at why =
    seen five k e at
    ((λ lt u s g. cc u), ((λ lt u s g. cc u), ((λ lt u s g. cc u), ((λ lt u s g. elim why as (λ _. ⊥) [ inl more ↦ omega (arith, lt, more) | inr rest ↦ elim rest as (λ _. ⊥) [ inl none ↦ none g | inr same ↦ omega (arith, lt, same) ] ]), ((λ lt u s g. cc u), tt)))))

visible_1 : IsVisible five 1 widest
visible_1 = all_visible 1 widest refl (inr (inl (λ g. no_instance (p b b) (p x0 x1) refl g)))

visible_2 : IsVisible five 2 below_a
visible_2 = all_visible 2 below_a refl (inr (inl (λ g. no_instance (p b b) (p a x0) refl g)))

visible_3 : IsVisible five 3 at_b
visible_3 = all_visible 3 at_b refl (inr (inr refl))

visible_4 : IsVisible five 4 second_b
visible_4 = all_visible 4 second_b refl (inl (omega arith))

-- An entry of the context is no exception to e at the atom.
abbrev IsNone : EntryValue → AtomValue → EntryValue → Type 0
IsNone e s f = Generalizes f.atom (Of s) → (f.kind ≡ Universal) ⊎ ((f.kind ≡ Parametric) × IsStrictlyMoreGeneral e.atom f.atom) → ⊥

free : (e : EntryValue) (s : AtomValue) → EachEntry (λ j f. IsNone e s f) five → ¬ HasException five e s
free e s none ex = each_entry (λ j f. IsNone e s f) five none ex.0 ex.1 ex.2.0 ex.3 ex.4

-- what is Parametric and not strictly below is no exception
parametric : (e f : EntryValue) → f.kind ≡ Parametric → ¬ IsStrictlyMoreGeneral e.atom f.atom → (f.kind ≡ Universal) ⊎ ((f.kind ≡ Parametric) × IsStrictlyMoreGeneral e.atom f.atom) → ⊥
parametric e f kind none r = elim r as (λ _. ⊥) [ inl u ↦ cc (u, kind) | inr w ↦ none w.1 ]

pub exceptions : Exceptions
unfolding first_then
exceptions = record {
  undisputed = record {
    visible = visible_1;
    same_sign = refl;
    generalizes = (first_then b a, refl);
    undisputed = inr (λ ex. free widest (p b a) ((λ g. parametric widest (pseudo false) refl (λ w. w.0)), ((λ g. parametric widest widest refl (λ w. strictly_irreflexive widest.atom w)), ((λ g. absurd (no_instance (p a x0) (p b a) refl g)), ((λ g. absurd (no_instance (p b b) (p b a) refl g)), ((λ g. absurd (no_instance (p x0 b) (p b a) refl g)), tt))))) ex);
  };
  by_same_sign = λ h. elim h.undisputed as (λ _. ⊥) [ inl u ↦ cc u | inr none ↦ none (2, below_a, visible_2, (λ x. a, refl), inr (refl, ((first_then a x0, refl), λ g. no_instance (p a x0) (p x0 x1) refl g))) ];
  by_universal = λ h. elim h.undisputed as (λ _. ⊥) [ inl u ↦ cc u | inr none ↦ none (3, at_b, visible_3, (λ x. a, refl), inl refl) ];
  by_other_sign = λ h. elim h.undisputed as (λ _. ⊥) [ inl u ↦ cc u | inr none ↦ none (4, second_b, visible_4, (λ x. c, refl), inr (refl, ((first_then x0 b, refl), λ g. no_instance (p x0 b) (p x0 x1) refl g))) ];
  specific = record {
    visible = visible_2;
    same_sign = refl;
    generalizes = (λ x. a, refl);
    undisputed = inr (λ ex. free below_a (p a a) ((λ g. parametric below_a (pseudo false) refl (λ w. w.0)), ((λ g. parametric below_a widest refl (λ w. no_instance (p a x0) (p x0 x1) refl w.0)), ((λ g. parametric below_a below_a refl (λ w. strictly_irreflexive below_a.atom w)), ((λ g. absurd (no_instance (p b b) (p a a) refl g)), ((λ g. absurd (no_instance (p x0 b) (p a a) refl g)), tt))))) ex);
  };
  beside = record {
    visible = visible_2;
    same_sign = refl;
    generalizes = (λ x. b, refl);
    undisputed = inr (λ ex. free below_a (p a b) ((λ g. parametric below_a (pseudo false) refl (λ w. w.0)), ((λ g. parametric below_a widest refl (λ w. no_instance (p a x0) (p x0 x1) refl w.0)), ((λ g. parametric below_a below_a refl (λ w. strictly_irreflexive below_a.atom w)), ((λ g. absurd (no_instance (p b b) (p a b) refl g)), ((λ g. parametric below_a second_b refl (λ w. no_instance (p a x0) (p x0 b) refl w.0)), tt))))) ex);
  };
  other_beside = record {
    visible = visible_4;
    same_sign = refl;
    generalizes = (λ x. a, refl);
    undisputed = inr (λ ex. free second_b (p a b) ((λ g. parametric second_b (pseudo false) refl (λ w. w.0)), ((λ g. parametric second_b widest refl (λ w. no_instance (p x0 b) (p x0 x1) refl w.0)), ((λ g. parametric second_b below_a refl (λ w. no_instance (p x0 b) (p a x0) refl w.0)), ((λ g. absurd (no_instance (p b b) (p a b) refl g)), ((λ g. parametric second_b second_b refl (λ w. strictly_irreflexive second_b.atom w)), tt))))) ex);
  };
  universal = record { visible = visible_3; same_sign = refl; generalizes = (λ x. a, refl); undisputed = inl refl };
  by_universal_of_other_sign = λ h. elim h.undisputed as (λ _. ⊥) [ inl u ↦ cc u | inr none ↦ none (3, at_b, visible_3, (λ x. a, refl), inl refl) ];
  not_of_other_sign = λ h. cc h.same_sign;
  no_instance = λ h. no_instance (p a x0) (p b a) refl h.generalizes;
  hidden = λ h. h.visible.1 (2, entry true (p x0 x1) Universal SplitLeft, record { is_later = omega arith; stands = refl; covers = record { is_universal = refl; same_sign = refl; generalizes = (λ x. b, refl) } });
}
