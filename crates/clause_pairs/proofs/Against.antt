-- The places against which an entry stands, as a search over the clauses collects them.
use Rattle.std.proofs.Common.{◌≡◌, ℕ, ◌+◌, ◌<◌, ◌⊎◌, ◌↔◌, inl, inr, List, [], ◌∷◌, ◌++◌, length, get_or, slice_get, Some, refl, sym, ap, subst, ◌∙◌, arith}
use Rattle.std.specs.List.{Contains}
use Rattle.std.proofs.lemmas.Bool.{cases_lt}
use Rattle.std.proofs.lemmas.Option.{slice_get_within, slice_get_read}
use Rattle.std.proofs.lemmas.List.Elements.{Contains-append_left, Contains-push, Contains-push_cases}
use Rattle.me_terms.specs.Values.{ProblemValue, ClauseValue}
use Rattle.me_terms.specs.Positions.{ClauseAt}
use Rattle.me_terms.specs.declared.atom.Literal.{Literal}
use Rattle.me_laws.proofs.Determined.{clause_same, literal_same}
use Rattle.clause_pairs.specs.declared.clause_place.ClausePlace.{ClausePlace}
use Rattle.clause_pairs.specs.Meetings.{LiteralAt, OfClause, AddsPlaces}
use Rattle.clause_pairs.proofs.Changed.{one_place}

pub number_cases : (i n : ℕ) → i < n + 1 → (i < n) ⊎ (i ≡ n)
number_cases i n h = elim (cases_lt i n) as (λ _. (i < n) ⊎ (i ≡ n)) [ inl l ↦ inl l | inr g ↦ inr (omega arith) ]

-- ---- the literals of a clause
-- the place is one of the first n literals of clause c, and R holds of its literal
abbrev pub OfFirst : (Literal → Type 0) → List Literal → ℕ → ℕ → ClausePlace → Type 0
OfFirst R literals c n q = (q.place < n) × OfClause R literals c q

module _ (R : Literal → Type 0) (literals : List Literal) (c : ℕ) (before : List ClausePlace) where
  pub first_start : AddsPlaces before before (OfFirst R literals c 0)
  first_start q = (
    λ h. inl h,
    λ h. elim h as (λ _. Contains before q) [ inl old ↦ old | inr new ↦ (let lt = new.0 in absurd (omega (arith, lt))) ],
  )

  pub first_more : (after : List ClausePlace) (i : ℕ) (l : Literal) → slice_get literals i ≡ Some l → R l → AddsPlaces before after (OfFirst R literals c i) → AddsPlaces before (after ++ record { clause = c; place = i } ∷ []) (OfFirst R literals c (i + 1))
  first_more after i l at pair h q =
      let new : ClausePlace = record { clause = c; place = i } in (
        λ m. elim (Contains-push_cases after new q m) as (λ _. Contains before q ⊎ OfFirst R literals c (i + 1) q) [
          | inl old ↦ elim ((h q).0 old) as (λ _. Contains before q ⊎ OfFirst R literals c (i + 1) q) [
            | inl first ↦ inl first
            | inr s ↦ (let lt = s.0 in inr (omega (arith, lt), s.1))
          ]
          | inr same ↦ (let P : ClausePlace → Type 0 = λ z. OfFirst R literals c (i + 1) z in inr (subst P same (omega arith, (refl, (l, at, pair)))))
        ],
        λ s. elim s as (λ _. Contains (after ++ new ∷ []) q) [
          | inl old ↦ Contains-append_left after (new ∷ []) q ((h q).1 (inl old))
          | inr t ↦ elim (number_cases q.place i t.0) as (λ _. Contains (after ++ new ∷ []) q) [
            | inl lt ↦ Contains-append_left after (new ∷ []) q ((h q).1 (inr (lt, t.1)))
            | inr here ↦ (let P : ClausePlace → Type 0 = λ z. Contains (after ++ new ∷ []) z in subst P (one_place new q (sym t.1.0) (sym here)) (Contains-push after new))
          ]
        ],
      )

  pub first_past : (after : List ClausePlace) (i : ℕ) (l : Literal) → slice_get literals i ≡ Some l → ¬ R l → AddsPlaces before after (OfFirst R literals c i) → AddsPlaces before after (OfFirst R literals c (i + 1))
  first_past after i l at none h q = (
    λ m. elim ((h q).0 m) as (λ _. Contains before q ⊎ OfFirst R literals c (i + 1) q) [
      | inl first ↦ inl first
      | inr s ↦ (let lt = s.0 in inr (omega (arith, lt), s.1))
    ],
    λ s. elim s as (λ _. Contains after q) [
      | inl old ↦ (h q).1 (inl old)
      | inr t ↦ elim (number_cases q.place i t.0) as (λ _. Contains after q) [
        | inl lt ↦ (h q).1 (inr (lt, t.1))
        | inr here ↦
            (let m = t.1.1.0 in
            let P : ℕ → Type 0 = λ z. slice_get literals z ≡ Some m in
            let Q : Literal → Type 0 = λ z. R z in
            absurd (none (subst Q (literal_same literals i m l (subst P here t.1.1.1) at) t.1.1.2)))
      ]
    ],
  )

  pub first_all : (after : List ClausePlace) (n : ℕ) → n ≡ length literals → AddsPlaces before after (OfFirst R literals c n) → AddsPlaces before after (OfClause R literals c)
  first_all after n all h q = (
    λ m. elim ((h q).0 m) as (λ _. Contains before q ⊎ OfClause R literals c q) [ inl first ↦ inl first | inr s ↦ inr s.1 ],
    λ s. elim s as (λ _. Contains after q) [
      | inl old ↦ (h q).1 (inl old)
      | inr t ↦ (let lt = slice_get_within literals q.place t.1.0 t.1.1 in (h q).1 (inr (omega (arith, all, lt), t)))
    ],
  )

-- ---- the clauses of a problem
-- the list has the places of the first n clauses of whose literals R holds, and no others
abbrev pub HasFirst : ProblemValue → (Literal → Type 0) → ℕ → List ClausePlace → Type 0
HasFirst problem R n places = (q : ClausePlace) → Contains places q ↔ ((q.clause < n) × ((l : Literal) × LiteralAt problem q l × R l))

module _ (problem : ProblemValue) (R : Literal → Type 0) where
  pub none_start : HasFirst problem R 0 []
  none_start q = (
    λ m. (let lt = m.1 in absurd (omega (arith, lt))),
    λ h. (let lt = h.0 in absurd (omega (arith, lt))),
  )

  pub clause_more : (before after : List ClausePlace) (n : ℕ) (clause : ClauseValue) → ClauseAt problem n clause → AddsPlaces before after (OfClause R clause.literals n) → HasFirst problem R n before → HasFirst problem R (n + 1) after
  clause_more before after n clause at adds h q = (
    λ m. elim ((adds q).0 m) as (λ _. (q.clause < n + 1) × ((l : Literal) × LiteralAt problem q l × R l)) [
      | inl old ↦ (let g = (h q).0 old in let lt = g.0 in (omega (arith, lt), g.1))
      | inr new ↦
          (let here = new.0 in
          let P : ℕ → Type 0 = λ z. ClauseAt problem z clause in
          (omega (arith, here), (new.1.0, (clause, subst P (sym here) at, new.1.1), new.1.2)))
    ],
    λ g. elim (number_cases q.clause n g.0) as (λ _. Contains after q) [
      | inl lt ↦ (adds q).1 (inl ((h q).1 (lt, g.1)))
      | inr here ↦
          (let other = g.1.1.0 in
          let P : ℕ → Type 0 = λ z. ClauseAt problem z other in
          let same = clause_same problem n other clause (subst P here g.1.1.1) at in
          let Q : ClauseValue → Type 0 = λ z. slice_get z.literals q.place ≡ Some g.1.0 in
          (adds q).1 (inr (here, (g.1.0, subst Q same g.1.1.2, g.1.2))))
    ],
  )

  pub clauses_all : (places : List ClausePlace) (n : ℕ) → n ≡ length problem.clauses → HasFirst problem R n places → (q : ClausePlace) → Contains places q ↔ ((l : Literal) × LiteralAt problem q l × R l)
  clauses_all places n all h q = (
    λ m. ((h q).0 m).1,
    λ g. (let lt = slice_get_within problem.clauses q.clause g.1.0 g.1.1 in (h q).1 (omega (arith, all, lt), g)),
  )

-- ---- the clauses as a loop over them reads them
pub clause_read : (problem written : ProblemValue) (items : List ClauseValue) (c : ℕ) (clause : ClauseValue) → items ≡ written.clauses → written ≡ problem → c < length items → clause ≡ get_or items c clause → ClauseAt problem c clause
clause_read problem written items c clause same is lt read =
    let P : List ClauseValue → Type 0 = λ z. slice_get z c ≡ Some clause in
    subst P (same ∙ ap (λ (z : ProblemValue). z.clauses) is) (slice_get_read items (length items) c clause refl lt read)

pub all_read : (problem written : ProblemValue) (items : List ClauseValue) (c : ℕ) → items ≡ written.clauses → written ≡ problem → c ≡ length items → c ≡ length problem.clauses
all_read problem written items c same is all = all ∙ ap length (same ∙ ap (λ (z : ProblemValue). z.clauses) is)
