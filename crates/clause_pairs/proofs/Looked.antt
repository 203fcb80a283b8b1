-- The places that an index gives for an entry are those against whose literals it stands.
use Rattle.std.proofs.Common.{◌≡◌, ℕ, ◌+◌, ◌<◌, ◌⊎◌, ◌↔◌, inl, inr, Bool, true, false, not, List, [], ◌∷◌, ◌++◌, length, get_or, take, Some, refl, sym, ap, subst, ◌∙◌, arith}
use Rattle.std.specs.List.{Contains, position}
use Rattle.std.proofs.lemmas.List.{get_or_default, take_more}
use Rattle.std.proofs.lemmas.Option.{same_Some}
use Rattle.std.proofs.lemmas.List.Elements.{Contains-append_left, Contains-push, Contains-push_cases}
use Rattle.me_terms.specs.Terms.{Var, AtomValue}
use Rattle.me_terms.specs.TermEquality.{same_atom}
use Rattle.me_terms.specs.Contradictory.{Unifiable}
use Rattle.me_terms.specs.Variables.{are_ground}
use Rattle.me_terms.specs.Values.{ProblemValue, EntryValue}
use Rattle.me_terms.specs.declared.atom.Literal.{Literal}
use Rattle.me_terms.specs.declared.atom.Pattern.{Pattern}
use Rattle.me_terms.specs.declared.atom.Pattern.TheVariants.{Of}
use Rattle.me_laws.proofs.NoContradiction.{ground_atom}
use Rattle.me_laws_increments.specs.Pairs.{IsPair}
use Rattle.clause_pairs.specs.declared.clause_place.ClausePlace.{ClausePlace}
use Rattle.clause_pairs.specs.Filed.{filed}
use Rattle.clause_pairs.specs.Index.{IndexValue, IsIndex}
use Rattle.clause_pairs.specs.Meetings.{HasLiteralAt, IsAgainst, AddsPlaces}
use Rattle.clause_pairs.proofs.GroundAtoms.{found_atom, found_contains}
use Rattle.clause_pairs.proofs.Meets.{ground_meets}

-- ---- those of a list of which A holds
module _ (A : ClausePlace → Type 0) (listed before : List ClausePlace) where
  -- the place is one of the first n, and A holds of it
  abbrev pub IsAmongFirst : ℕ → ClausePlace → Type 0
  IsAmongFirst n q = Contains (take n listed) q × A q

  pub among_start : AddsPlaces before before (IsAmongFirst 0)
  among_start q = (
    λ h. inl h,
    λ h. elim h as (λ _. Contains before q) [ inl old ↦ old | inr new ↦ (let lt : new.0.0 < 0 = new.0.1 in absurd (omega (arith, lt))) ],
  )

  module _ (n : ℕ) (at : ClausePlace) (more : take (n + 1) listed ≡ take n listed ++ at ∷ []) where
    earlier : (q : ClausePlace) → Contains (take n listed) q → Contains (take (n + 1) listed) q
    earlier q h = let P : List ClausePlace → Type 0 = λ z. Contains z q in subst P (sym more) (Contains-append_left (take n listed) (at ∷ []) q h)

    last_one : Contains (take (n + 1) listed) at
    last_one = let P : List ClausePlace → Type 0 = λ z. Contains z at in subst P (sym more) (Contains-push (take n listed) at)

    earlier_or_last : (q : ClausePlace) → Contains (take (n + 1) listed) q → Contains (take n listed) q ⊎ (at ≡ q)
    earlier_or_last q h = let P : List ClausePlace → Type 0 = λ z. Contains z q in Contains-push_cases (take n listed) at q (subst P more h)

    among_more : (now : List ClausePlace) → A at → AddsPlaces before now (IsAmongFirst n) → AddsPlaces before (now ++ at ∷ []) (IsAmongFirst (n + 1))
    among_more now holds h q = (
      λ m. elim (Contains-push_cases now at q m) as (λ _. Contains before q ⊎ IsAmongFirst (n + 1) q) [
        | inl old ↦ elim ((h q).0 old) as (λ _. Contains before q ⊎ IsAmongFirst (n + 1) q) [ inl first ↦ inl first | inr s ↦ inr (earlier q s.0, s.1) ]
        | inr same ↦ (let P : ClausePlace → Type 0 = λ z. IsAmongFirst (n + 1) z in inr (subst P same (last_one, holds)))
      ],
      λ s. elim s as (λ _. Contains (now ++ at ∷ []) q) [
        | inl old ↦ Contains-append_left now (at ∷ []) q ((h q).1 (inl old))
        | inr t ↦ elim (earlier_or_last q t.0) as (λ _. Contains (now ++ at ∷ []) q) [
          | inl first ↦ Contains-append_left now (at ∷ []) q ((h q).1 (inr (first, t.1)))
          | inr same ↦ (let P : ClausePlace → Type 0 = λ z. Contains (now ++ at ∷ []) z in subst P same (Contains-push now at))
        ]
      ],
    )

    among_past : (now : List ClausePlace) → ¬ A at → AddsPlaces before now (IsAmongFirst n) → AddsPlaces before now (IsAmongFirst (n + 1))
    among_past now fails h q = (
      λ m. elim ((h q).0 m) as (λ _. Contains before q ⊎ IsAmongFirst (n + 1) q) [ inl first ↦ inl first | inr s ↦ inr (earlier q s.0, s.1) ],
      λ s. elim s as (λ _. Contains now q) [
        | inl old ↦ (h q).1 (inl old)
        | inr t ↦ elim (earlier_or_last q t.0) as (λ _. Contains now q) [
          | inl first ↦ (h q).1 (inr (first, t.1))
          | inr same ↦ (let P : ClausePlace → Type 0 = λ z. A z in absurd (fails (subst P (sym same) t.1)))
        ]
      ],
    )

  -- the place of the list that is read at n, whatever a read past the end would give
  pub among_read : (n : ℕ) (d e : ClausePlace) → n < length listed → (now : List ClausePlace) → A (get_or listed n d) → AddsPlaces before now (IsAmongFirst n) → AddsPlaces before (now ++ get_or listed n e ∷ []) (IsAmongFirst (n + 1))
  among_read n d e lt now holds h =
      let P : ClausePlace → Type 0 = λ z. A z in
      among_more n (get_or listed n e) (take_more listed n e lt) now (subst P (get_or_default listed n d e lt) holds) h

  pub among_left : (n : ℕ) (d : ClausePlace) → n < length listed → (now : List ClausePlace) → ¬ A (get_or listed n d) → AddsPlaces before now (IsAmongFirst n) → AddsPlaces before now (IsAmongFirst (n + 1))
  among_left n d lt now fails h = among_past n (get_or listed n d) (take_more listed n d lt) now fails h

  pub among_all : (now : List ClausePlace) (n : ℕ) → take n listed ≡ listed → AddsPlaces before now (IsAmongFirst n) → AddsPlaces before now (λ q. Contains listed q × A q)
  among_all now n all h = let P : List ClausePlace → Type 0 = λ z. AddsPlaces before now (λ q. Contains z q × A q) in subst P all h

-- ---- the lists in which the places are looked for
opposite : (a b : Bool) → a ≡ not b → b ≡ not a
opposite true true h = h
opposite true false h = refl
opposite false true h = refl
opposite false false h = h

module _ (problem : ProblemValue) (v : IndexValue) (index : IsIndex problem v) (e : EntryValue) (a : AtomValue) (is_atom : e.atom ≡ Of a) where
  unifies : (l : Literal) → IsPair e l → Unifiable (Of a) (Of l.atom)
  unifies l pair = let P : Pattern → Type 0 = λ z. Unifiable z (Of l.atom) in subst P is_atom pair.1

  of_predicate : (l : Literal) → IsPair e l → l.atom.pred ≡ a.pred
  of_predicate l pair = sym (ap (λ (z : AtomValue). z.pred) (unifies l pair).2)

  pub listed_by_predicate : (q : ClausePlace) → Contains (filed v.by_predicate a.pred (not e.positive)) q → HasLiteralAt problem q
  listed_by_predicate q h = let g = ((index.by_predicate a.pred (not e.positive)).exact q).0 h in (g.0, g.1)

  pub by_predicate_exact : (more : List ClausePlace) → AddsPlaces [] more (λ q. Contains (filed v.by_predicate a.pred (not e.positive)) q × IsAgainst problem e q) → (q : ClausePlace) → Contains more q ↔ IsAgainst problem e q
  by_predicate_exact more adds q = (
    λ m. elim ((adds q).0 m) as (λ _. IsAgainst problem e q) [ inl none ↦ (let lt : none.0 < 0 = none.1 in absurd (omega (arith, lt))) | inr h ↦ h.1 ],
    λ g. (adds q).1 (inr (((index.by_predicate a.pred (not e.positive)).exact q).1 (g.0, g.1, (opposite e.positive g.0.positive g.2.0, of_predicate g.0 g.2)), g)),
  )

  pub listed_nonground : (q : ClausePlace) → Contains (filed v.nonground a.pred (not e.positive)) q → HasLiteralAt problem q
  listed_nonground q h = let g = ((index.nonground a.pred (not e.positive)).exact q).0 h in (g.0, g.1)

  module _ (number : ℕ) (found : position (same_atom a) v.atoms ≡ Some number) where
    plain : are_ground a.args ≡ true
    plain = ((index.atoms a).0 (found_contains v.atoms a number found)).0

    -- a literal without variables against which the entry stands is of its atom
    of_same_atom : (l : Literal) → are_ground l.atom.args ≡ true → IsPair e l → a ≡ l.atom
    of_same_atom l ground_literal pair =
        let h = (ground_meets (Of a) l.atom ground_literal).0 (unifies l pair) in
        sym (ground_atom h.0 a plain) ∙ h.1

    stands : (l : Literal) → a ≡ l.atom → l.positive ≡ not e.positive → IsPair e l
    stands l same sign =
        let P : AtomValue → Type 0 = λ z. Unifiable (Of a) (Of z) in
        let Q : Pattern → Type 0 = λ z. Unifiable z (Of l.atom) in
        let itself : Unifiable (Of a) (Of a) = ((λ x. Var x), (λ x. Var x), refl) in
        (opposite l.positive e.positive sign, subst Q (sym is_atom) (subst P same itself))

    by_kind : (q : ClausePlace) (g : IsAgainst problem e q) (b : Bool) → are_ground g.0.atom.args ≡ b → Contains (filed v.by_atom number (not e.positive)) q ⊎ Contains (filed v.nonground a.pred (not e.positive)) q
    by_kind q g true plain_literal =
        let same = of_same_atom g.0 plain_literal g.2 in
        let P : AtomValue → Type 0 = λ z. position (same_atom z) v.atoms ≡ Some number in
        inl (((index.by_atom number (not e.positive)).exact q).1 (g.0, g.1, (opposite e.positive g.0.positive g.2.0, subst P same found)))
    by_kind q g false varied = inr (((index.nonground a.pred (not e.positive)).exact q).1 (g.0, g.1, (opposite e.positive g.0.positive g.2.0, (varied, of_predicate g.0 g.2))))

    pub by_atom_exact : (places more : List ClausePlace) → places ≡ filed v.by_atom number (not e.positive) → AddsPlaces places more (λ q. Contains (filed v.nonground a.pred (not e.positive)) q × IsAgainst problem e q) → (q : ClausePlace) → Contains more q ↔ IsAgainst problem e q
    by_atom_exact places more are adds q =
        let P : List ClausePlace → Type 0 = λ z. Contains z q in (
          λ m. elim ((adds q).0 m) as (λ _. IsAgainst problem e q) [
            | inl old ↦
                (let g = ((index.by_atom number (not e.positive)).exact q).0 (subst P are old) in
                let same : a ≡ g.0.atom = same_Some a g.0.atom (sym (found_atom v.atoms a number found) ∙ found_atom v.atoms g.0.atom number g.2.1) in
                (g.0, g.1, stands g.0 same g.2.0))
            | inr h ↦ h.1
          ],
          λ g. elim (by_kind q g (are_ground g.0.atom.args) refl) as (λ _. Contains more q) [
            | inl old ↦ (adds q).1 (inl (subst P (sym are) old))
            | inr varied ↦ (adds q).1 (inr (varied, g))
          ],
        )
