-- A context with some of the entries of another one, in order: where it has all that are visible there, it has the same productive unifiers.
use Rattle.std.proofs.Common.{◌≡◌, ◌⊎◌, inl, inr, ℕ, zero, suc, ◌+◌, ◌<◌, Bool, not, List, [], ◌∷◌, length, map, slice_get, Option, None, Some, refl, sym, ap, subst, ◌∙◌, arith}
use Rattle.std.proofs.lemmas.List.{length-map}
use Rattle.std.proofs.lemmas.Option.{same_Some, slice_get-map}
use Rattle.std.specs.Option.{option_map}
use Rattle.me_terms.specs.Terms.{AtomValue}
use Rattle.me_terms.specs.Values.{ProblemValue, EntryValue}
use Rattle.me_terms.specs.Context.{Context, StandsAt, Covers, IsHidden, IsVisible}
use Rattle.me_terms.specs.Positions.{positions_of, StandsAgainst, AreOpposite}
use Rattle.me_terms.specs.Produces.{HasException, Produces}
use Rattle.me_terms.specs.Productive.{IsProductive, HasProductive}
use Rattle.me_terms.specs.Substitutions.{Substitution, Family, apply_term, Generalizes, IsStrictlyMoreGeneral}
use Rattle.me_terms.specs.Unifier.{IsSolvedBy, Solves, IsUnifier, IsContextUnifier}
use Rattle.me_terms.specs.declared.entry.Kind.{Kind}
use Rattle.me_terms.specs.declared.entry.Kind.TheVariants.{Universal, Parametric}
use Rattle.me_terms.specs.declared.atom.Literal.{Literal}
use Rattle.me_terms.specs.declared.atom.Pattern.{Pattern}
use Rattle.me_terms.specs.declared.atom.Pattern.TheVariants.{Of}

-- The entries differ in their reasons at most.
pub record AreAlike (e f : EntryValue) : Type 0 where
  pub positive : e.positive ≡ f.positive
  pub atom : e.atom ≡ f.atom
  pub kind : e.kind ≡ f.kind

-- Each entry of the second context is like a visible one of the first, at the position that p has for its own; the positions rise, and each visible entry of the first has one.
pub record IsSelection (context selected : Context) (p : ℕ → ℕ) : Type 0 where
  pub there : (j : ℕ) (e : EntryValue) → StandsAt selected j e → (f : EntryValue) × IsVisible context (p j) f × AreAlike e f
  pub back : (k : ℕ) (f : EntryValue) → IsVisible context k f → (j : ℕ) × (e : EntryValue) × (p j ≡ k) × StandsAt selected j e × AreAlike e f
  pub rises : (i j : ℕ) (e : EntryValue) → i < j → StandsAt selected j e → p i < p j

covers_alike : (u e v f : EntryValue) → AreAlike u v → AreAlike e f → Covers u e → Covers v f
covers_alike u e v f h g c = record {
  is_universal = sym h.kind ∙ c.is_universal;
  same_sign = sym h.positive ∙ (c.same_sign ∙ g.positive);
  generalizes = subst (λ (z : Pattern). Generalizes v.atom z) g.atom (subst (λ (z : Pattern). Generalizes z e.atom) h.atom c.generalizes);
}

map_some : (p : ℕ → ℕ) (tuple : List ℕ) → positions_of None (map p tuple) ≡ map (option_map p) (positions_of None tuple)
map_some p [] = refl
map_some p (k ∷ tuple) = ap (λ (z : List (Option ℕ)). Some (p k) ∷ z) (map_some p tuple)

some_mapped : (p : ℕ → ℕ) (o : Option (Option ℕ)) (k : ℕ) → option_map (option_map p) o ≡ Some (Some k) → (j : ℕ) × (o ≡ Some (Some j)) × (p j ≡ k)
some_mapped p None k h = cc h
some_mapped p (Some None) k h = cc h
some_mapped p (Some (Some j)) k h = (j, refl, same_Some (p j) k (same_Some (Some (p j)) (Some k) h))

module _ (context selected : Context) (p : ℕ → ℕ) (s : IsSelection context selected p) where
  -- ---- nothing is hidden

  pub all_visible : (j : ℕ) (e : EntryValue) → StandsAt selected j e → IsVisible selected j e
  all_visible j e at = (
    at,
    λ hidden.
        let later = s.there hidden.0 hidden.1 hidden.2.stands in
        let here = s.there j e at in
        here.1.1 (
          p hidden.0,
          later.0,
          record {
            is_later = s.rises j hidden.0 hidden.1 hidden.2.is_later hidden.2.stands;
            stands = later.1.0;
            covers = covers_alike hidden.1 e later.0 here.0 later.2 here.2 hidden.2.covers;
          },
        ),
  )

  -- ---- what stands against literals

  module _ (literals : List Literal) (tuple : List ℕ) where
    pub places : List (Option ℕ)
    places = positions_of None tuple

    pub mapped : List (Option ℕ)
    mapped = positions_of None (map p tuple)

    mapped_at : (i k : ℕ) → slice_get places i ≡ Some (Some k) → slice_get mapped i ≡ Some (Some (p k))
    unfolding places mapped
    mapped_at i k at =
        ap (λ (z : List (Option ℕ)). slice_get z i) (map_some p tuple) ∙ (slice_get-map (option_map p) (positions_of None tuple) i ∙ ap (option_map (option_map p)) at)

    place_of_mapped : (i k : ℕ) → slice_get mapped i ≡ Some (Some k) → (j : ℕ) × (slice_get places i ≡ Some (Some j)) × (p j ≡ k)
    unfolding places mapped
    place_of_mapped i k at =
        some_mapped p (slice_get (positions_of None tuple) i) k
        (sym (slice_get-map (option_map p) (positions_of None tuple) i) ∙ (ap (λ (z : List (Option ℕ)). slice_get z i) (sym (map_some p tuple)) ∙ at))

    -- An entry that stands against a literal in the first context is like one that does so in the second.
    pub record Against (i k : ℕ) (l : Literal) (f : EntryValue) : Type 0 where
      pub j : ℕ
      pub e : EntryValue
      pub against : StandsAgainst selected literals places i l j e
      pub at : p j ≡ k
      pub alike : AreAlike e f

    module _ (opposite : AreOpposite selected literals places) where
      from_first : (i k : ℕ) (l : Literal) (f : EntryValue) → StandsAgainst context literals mapped i l k f → Against i k l f
      from_first i k l f o =
          let place = place_of_mapped i k o.position in
          let seen = opposite.visible i place.0 l o.literal place.1 in
          let first = s.there place.0 seen.0 seen.1.0 in
          let at : StandsAt context k first.0 = subst (λ z. StandsAt context z first.0) place.2 first.1.0 in
          let same : first.0 ≡ f = same_Some first.0 f (sym at ∙ o.stands) in
          record {
            j = place.0;
            e = seen.0;
            against = record { literal = o.literal; position = place.1; stands = seen.1.0 };
            at = place.2;
            alike = subst (λ (z : EntryValue). AreAlike seen.0 z) same first.2;
          }

      opposite_first : AreOpposite context literals mapped
      unfolding places mapped
      opposite_first = record {
        each_place = length-map (map p tuple) Some ∙ (length-map tuple p ∙ (sym (length-map tuple Some) ∙ opposite.each_place));
        visible = λ i k l at position.
            let place = place_of_mapped i k position in
            let seen = opposite.visible i place.0 l at place.1 in
            let first = s.there place.0 seen.0 seen.1.0 in
            (first.0, subst (λ z. IsVisible context z first.0) place.2 first.1, sym first.2.positive ∙ seen.2);
      }

      -- what solves in one context solves in the other
      solves_first : (u : Family) → Solves selected literals places u → Solves context literals mapped u
      solves_first u h i k l f o =
          let a = from_first i k l f o in
          subst (λ (z : Pattern). IsSolvedBy (u (i + 1)) z (u 0) l.atom) a.alike.atom (h i a.j l a.e a.against)

      solves_second : (u : Family) → Solves context literals mapped u → Solves selected literals places u
      solves_second u h i j l e o =
          let first = s.there j e o.stands in
          subst (λ (z : Pattern). IsSolvedBy (u (i + 1)) z (u 0) l.atom) (sym first.2.atom)
          (h i (p j) l first.0 (record { literal = o.literal; position = mapped_at i j o.position; stands = first.1.0 }))

      unifier_first : (u : Family) → IsUnifier selected literals places u → IsUnifier context literals mapped u
      unifier_first u h = record {
        solves = solves_first u h.solves;
        most_general = λ v solved. h.most_general v (solves_second v solved);
      }

      -- ---- production

      no_exception : (e f : EntryValue) (a : AtomValue) → AreAlike e f → HasException context f a → HasException selected e a
      no_exception e f a alike h =
          let found = s.back h.0 h.1 h.2 in
          let g = found.1 in
          let same = found.4 in (
            found.0,
            g,
            all_visible found.0 g found.3,
            subst (λ (z : Pattern). Generalizes z (Of a)) (sym same.atom) h.3,
            elim h.4 as (λ _. (g.kind ≡ Universal) ⊎ ((g.kind ≡ Parametric) × IsStrictlyMoreGeneral e.atom g.atom)) [
              | inl universal ↦ inl (same.kind ∙ universal)
              | inr special ↦ inr (same.kind ∙ special.0, subst (λ (z : Pattern). IsStrictlyMoreGeneral e.atom z) (sym same.atom) (subst (λ (z : Pattern). IsStrictlyMoreGeneral z h.1.atom) (sym alike.atom) special.1))
            ],
          )

      produces_first : (j k : ℕ) (e f : EntryValue) (l : Literal) → p j ≡ k → AreAlike e f → StandsAt selected j e → StandsAt context k f → Produces selected j e l → Produces context k f l
      produces_first j k e f l at alike here there h =
          let first = s.there j e here in
          let stands : StandsAt context k first.0 = subst (λ z. StandsAt context z first.0) at first.1.0 in
          let same : first.0 ≡ f = same_Some first.0 f (sym stands ∙ there) in
          record {
            visible = subst (λ (z : EntryValue). IsVisible context k z) same (subst (λ z. IsVisible context z first.0) at first.1);
            same_sign = sym alike.positive ∙ h.same_sign;
            generalizes = subst (λ (z : Pattern). Generalizes z (Of l.atom)) alike.atom h.generalizes;
            undisputed = elim h.undisputed as (λ _. (f.kind ≡ Universal) ⊎ (¬ HasException context f l.atom)) [
              | inl universal ↦ inl (sym alike.kind ∙ universal)
              | inr none ↦ inr (λ exception. none (no_exception e f l.atom alike exception))
            ];
          }

      productive_first : (u : Family) → IsProductive selected literals places u → IsProductive context literals mapped u
      productive_first u h i k l f o =
          let a = from_first i k l f o in
          produces_first a.j k a.e f _ a.at a.alike a.against.stands o.stands (h i a.j l a.e a.against)

  pub productive_selected : (problem : ProblemValue) → HasProductive problem selected → HasProductive problem context
  unfolding places mapped
  productive_selected problem h =
      let found = h.4 in
      let literals = h.2.literals in
      let opposite = found.unifier.opposite in (
        h.0,
        map p h.1,
        h.2,
        h.3,
        record {
          clause_at = found.clause_at;
          unifier = record { opposite = opposite_first literals h.1 opposite; unifier = unifier_first literals h.1 opposite h.3 found.unifier.unifier };
          productive = productive_first literals h.1 opposite h.3 found.productive;
        },
      )
