-- What is chosen among places, as they are read one by one.
use Rattle.std.proofs.Common.{◌≡◌, ℕ, zero, suc, ◌<◌, length, List, [], ◌∷◌, ◌++◌, ◌⊎◌, slice_get, Option, Some, None, refl, sym, subst, ap, ◌∙◌, inl, inr, arith}
use Rattle.std.proofs.lemmas.Bool.{cases_lt}
use Rattle.std.specs.List.{Contains}
use Rattle.std.proofs.lemmas.List.Elements.{Contains-append_left, Contains-append_right, Contains-append_cases, Contains-push, Contains-push_cases}
use Rattle.std.proofs.lemmas.Option.{same_Some}
use Rattle.me_terms.specs.Substitutions.{Family}
use Rattle.me_terms.specs.Measures.{literal_weight}
use Rattle.me_terms.specs.Unifier.{unified}
use Rattle.me_terms.specs.Fits.{Fits}
use Rattle.me_terms.specs.Split.{split_kind}
use Rattle.me_terms.specs.Order.{Precedes}
use Rattle.me_terms.specs.declared.bounds.Bounds.{Bounds}
use Rattle.me_terms.specs.declared.atom.Literal.{Literal}
use Rattle.split_rule.specs.SplitChoices.{MaySplit, place_key, IsSplitChoice, IsChosen}
use Rattle.split_rule.specs.declared.choice.SplitChoice.{SplitChoice}

-- ---- keys of two numbers
pub key_same : (w p : ℕ) → Precedes (place_key w p) (place_key w p)
key_same w p = inr (refl, inr (refl, tt))

pub key_through : (w p v q x r : ℕ) → Precedes (place_key w p) (place_key v q) → Precedes (place_key v q) (place_key x r) → Precedes (place_key w p) (place_key x r)
key_through w p v q x r (inl a) (inl b) = inl (omega (arith, a, b))
key_through w p v q x r (inl a) (inr (e, b)) = inl (omega (arith, a, e))
key_through w p v q x r (inr (e, a)) (inl b) = inl (omega (arith, e, b))
key_through w p v q x r (inr (e, inl a)) (inr (g, inl b)) = inr (e ∙ g, inl (omega (arith, a, b)))
key_through w p v q x r (inr (e, inl a)) (inr (g, inr (h, b))) = inr (e ∙ g, inl (omega (arith, a, h)))
key_through w p v q x r (inr (e, inr (h, a))) (inr (g, inl b)) = inr (e ∙ g, inl (omega (arith, h, b)))
key_through w p v q x r (inr (e, inr (h, a))) (inr (g, inr (k, b))) = inr (e ∙ g, inr (h ∙ k, tt))

pub key_total : (w p v q : ℕ) → ¬ Precedes (place_key w p) (place_key v q) → Precedes (place_key v q) (place_key w p)
key_total w p v q h = elim (cases_lt v w) [
  | inl lt ↦ inl lt
  | inr le ↦ elim (cases_lt w v) [
    | inl lt ↦ absurd (h (inl lt))
    | inr ge ↦
        let same : v ≡ w = omega (arith, le, ge) in
        elim (cases_lt q p) [
          | inl lt ↦ inr (same, inl lt)
          | inr before ↦ elim (cases_lt p q) [
            | inl lt ↦ absurd (h (inr (sym same, inl lt)))
            | inr after ↦ inr (same, inr (omega (arith, before, after), tt))
          ]
        ]
  ]
]

-- ---- no place
nowhere : (k : ℕ) → ¬ Contains [] k
nowhere k h = omega (arith, h.1)

-- ---- one place
pub at_within : (literals : List Literal) (place : ℕ) → place < length literals → (l : Literal) × (slice_get literals place ≡ Some l)
at_within [] place lt = absurd (omega (arith, lt))
at_within (l ∷ literals) zero lt = (l, refl)
at_within (l ∷ literals) (suc place) lt = at_within literals place (omega (arith, lt))

only_place : (place k : ℕ) → Contains (place ∷ []) k → k ≡ place
only_place place k h = elim (Contains-push_cases [] place k h) [ inl none ↦ absurd (nowhere k none) | inr same ↦ sym same ]

-- A single place whose literal is not.
pub nothing_fits : (literals : List Literal) (place : ℕ) (bounds : Bounds) (f : Family) → ((l : Literal) → slice_get literals place ≡ Some l → ¬ Fits bounds (unified f l)) → IsChosen literals (place ∷ []) bounds f None
nothing_fits literals place bounds f apart k l may =
    let at : slice_get literals place ≡ Some l = ap (λ i. slice_get literals i) (sym (only_place place k may.remains)) ∙ may.literal_at in
    apart l at may.fits

-- A single place whose literal is within the bounds.
pub one_fits : (literals : List Literal) (bounds : Bounds) (f : Family) (choice : SplitChoice) (literal : Literal) → slice_get literals choice.place ≡ Some literal → Fits bounds (unified f literal) → choice.kind ≡ split_kind (unified f literal)
    → choice.weight ≡ literal_weight (unified f literal) → IsChosen literals (choice.place ∷ []) bounds f (Some choice)
one_fits literals bounds f choice literal at fits kind heavy = record {
  literal = literal;
  allowed = record { remains = Contains-push [] choice.place; literal_at = at; fits = fits };
  kind = kind;
  weight = heavy;
  least = λ k l may.
      let same = only_place choice.place k may.remains in
      let literal_same : literal ≡ l = same_Some literal l (sym at ∙ (ap (λ i. slice_get literals i) (sym same) ∙ may.literal_at)) in
      let weighs : choice.weight ≡ literal_weight (unified f l) = heavy ∙ ap (λ (m : Literal). literal_weight (unified f m)) literal_same in
      let P : ℕ × ℕ → Type 0 = λ z. Precedes (place_key choice.weight choice.place) (place_key z.0 z.1) in
      subst P (λ i. (weighs i, sym same i)) (key_same choice.weight choice.place);
}

-- ---- two lists of places
in_either : (literals : List Literal) (xs ys : List ℕ) (bounds : Bounds) (f : Family) (k : ℕ) (l : Literal) → MaySplit literals (xs ++ ys) bounds f k l → MaySplit literals xs bounds f k l ⊎ MaySplit literals ys bounds f k l
in_either literals xs ys bounds f k l may = elim (Contains-append_cases xs ys k may.remains) [
  | inl first ↦ inl (record { remains = first; literal_at = may.literal_at; fits = may.fits })
  | inr second ↦ inr (record { remains = second; literal_at = may.literal_at; fits = may.fits })
]

-- Nothing is within the bounds in either list.
pub neither : (literals : List Literal) (xs ys : List ℕ) (bounds : Bounds) (f : Family) → IsChosen literals xs bounds f None → IsChosen literals ys bounds f None → IsChosen literals (xs ++ ys) bounds f None
neither literals xs ys bounds f none nor k l may = elim (in_either literals xs ys bounds f k l may) [ inl first ↦ none k l first | inr second ↦ nor k l second ]

-- The choice of the first list comes before all of the second.
pub first_stays : (literals : List Literal) (xs ys : List ℕ) (bounds : Bounds) (f : Family) (choice : SplitChoice) → IsSplitChoice literals xs bounds f choice → ((k : ℕ) (l : Literal) → MaySplit literals ys bounds f k l → Precedes (place_key choice.weight choice.place) (place_key (literal_weight (unified f l)) k))
    → IsSplitChoice literals (xs ++ ys) bounds f choice
first_stays literals xs ys bounds f choice h before = record {
  literal = h.literal;
  allowed = record { remains = Contains-append_left xs ys choice.place h.allowed.remains; literal_at = h.allowed.literal_at; fits = h.allowed.fits };
  kind = h.kind;
  weight = h.weight;
  least = λ k l may. elim (in_either literals xs ys bounds f k l may) [ inl first ↦ h.least k l first | inr second ↦ before k l second ];
}

-- The choice of the second list comes before all of the first.
pub second_stays : (literals : List Literal) (xs ys : List ℕ) (bounds : Bounds) (f : Family) (choice : SplitChoice) → IsSplitChoice literals ys bounds f choice → ((k : ℕ) (l : Literal) → MaySplit literals xs bounds f k l → Precedes (place_key choice.weight choice.place) (place_key (literal_weight (unified f l)) k))
    → IsSplitChoice literals (xs ++ ys) bounds f choice
second_stays literals xs ys bounds f choice h before = record {
  literal = h.literal;
  allowed = record { remains = Contains-append_right xs ys choice.place h.allowed.remains; literal_at = h.allowed.literal_at; fits = h.allowed.fits };
  kind = h.kind;
  weight = h.weight;
  least = λ k l may. elim (in_either literals xs ys bounds f k l may) [ inl first ↦ before k l first | inr second ↦ h.least k l second ];
}

-- What is chosen of two lists is the first one of what is chosen of each.
pub first_then_none : (literals : List Literal) (xs ys : List ℕ) (bounds : Bounds) (f : Family) (chosen : Option SplitChoice) → IsChosen literals xs bounds f chosen → IsChosen literals ys bounds f None → IsChosen literals (xs ++ ys) bounds f chosen
first_then_none literals xs ys bounds f None h none = neither literals xs ys bounds f h none
first_then_none literals xs ys bounds f (Some choice) h none = first_stays literals xs ys bounds f choice h (λ k l may. absurd (none k l may))

pub none_then_second : (literals : List Literal) (xs ys : List ℕ) (bounds : Bounds) (f : Family) (next : SplitChoice) → IsChosen literals xs bounds f None → IsSplitChoice literals ys bounds f next → IsSplitChoice literals (xs ++ ys) bounds f next
none_then_second literals xs ys bounds f next none h = second_stays literals xs ys bounds f next h (λ k l may. absurd (none k l may))

pub first_before : (literals : List Literal) (xs ys : List ℕ) (bounds : Bounds) (f : Family) (choice next : SplitChoice) → Precedes (place_key choice.weight choice.place) (place_key next.weight next.place) → IsSplitChoice literals xs bounds f choice → IsSplitChoice literals ys bounds f next
    → IsSplitChoice literals (xs ++ ys) bounds f choice
first_before literals xs ys bounds f choice next before h g =
    first_stays literals xs ys bounds f choice h (λ k l may. key_through choice.weight choice.place next.weight next.place (literal_weight (unified f l)) k before (g.least k l may))

pub second_before : (literals : List Literal) (xs ys : List ℕ) (bounds : Bounds) (f : Family) (choice next : SplitChoice) → ¬ Precedes (place_key choice.weight choice.place) (place_key next.weight next.place) → IsSplitChoice literals xs bounds f choice → IsSplitChoice literals ys bounds f next
    → IsSplitChoice literals (xs ++ ys) bounds f next
second_before literals xs ys bounds f choice next after h g =
    second_stays literals xs ys bounds f next g
    (λ k l may. key_through next.weight next.place choice.weight choice.place (literal_weight (unified f l)) k (key_total choice.weight choice.place next.weight next.place after) (h.least k l may))

-- No place, nothing chosen.
pub no_place : (literals : List Literal) (bounds : Bounds) (f : Family) → IsChosen literals [] bounds f None
no_place literals bounds f k l may = nowhere k may.remains
