-- The atoms without variables of a problem, as they are collected, and where they are found.
use Rattle.std.proofs.Common.{◌≡◌, ℕ, ◌+◌, ◌<◌, ◌≤◌, ◌⊎◌, ◌↔◌, inl, inr, Bool, true, false, List, [], ◌∷◌, ◌++◌, length, get_or, slice_get, Some, None, sym, ap, subst, ◌∙◌, arith}
use Rattle.std.specs.Prelude.{if◌then◌else◌}
use Rattle.std.specs.List.{Contains, list_any, position, position_or_len}
use Rattle.std.proofs.lemmas.Option.{slice_get_within, slice_get-get_or}
use Rattle.std.proofs.lemmas.List.Elements.{Contains-append_left, Contains-push, Contains-push_cases}
use Rattle.std.proofs.lemmas.Grind.{common_steps}
use Rattle.std.proofs.lemmas.List.Sums.{fails_before_first}
use Rattle.std.proofs.lemmas.List.Quantifiers.{position-Some}
use Rattle.indexmap.specs.IndexSet.{insert_key}
use Rattle.indexmap.proofs.CallerLemmas.{Contains-list_any}
use Rattle.me_terms.specs.Terms.{AtomValue}
use Rattle.me_terms.specs.TermEquality.{same_atom}
use Rattle.me_terms.specs.TermEqualityLaws.{same_atom_sound, same_atom_itself}
use Rattle.me_terms.specs.Variables.{are_ground}
use Rattle.me_terms.specs.Values.{ProblemValue, ClauseValue}
use Rattle.me_terms.specs.Positions.{ClauseAt}
use Rattle.me_terms.specs.declared.atom.Literal.{Literal}
use Rattle.me_laws.proofs.Determined.{clause_same, literal_same}
use Rattle.clause_pairs.specs.declared.clause_place.ClausePlace.{ClausePlace}
use Rattle.clause_pairs.specs.Index.{IsGroundAtomOf, IsGroundAtomIn, IsGroundAtomAt, AddsAtoms}
use Rattle.clause_pairs.specs.Meetings.{LiteralAt}
use Rattle.clause_pairs.proofs.Against.{number_cases}

-- ---- the number of an atom
pub found_atom : (atoms : List AtomValue) (a : AtomValue) (n : ℕ) → position (same_atom a) atoms ≡ Some n → slice_get atoms n ≡ Some a
found_atom atoms a n e =
    let at = position-Some (same_atom a) atoms n a e in
    let same : a ≡ get_or atoms n a = same_atom_sound a (get_or atoms n a) (at.1) in
    slice_get-get_or atoms n a (at.0) ∙ ap (λ (x : AtomValue). Some x) (sym same)

pub found_contains : (atoms : List AtomValue) (a : AtomValue) (n : ℕ) → position (same_atom a) atoms ≡ Some n → Contains atoms a
found_contains atoms a n e =
    let at = position-Some (same_atom a) atoms n a e in
    (n, at.0, sym (same_atom_sound a (get_or atoms n a) (at.1)))

-- an atom that is not found is not there
none_passes : {X : Type 0} (p : X → Bool) (xs : List X) → position p xs ≡ None → length xs ≤ position_or_len p xs
none_passes p xs e = grind (arith, common_steps)

pub not_found : (atoms : List AtomValue) (a : AtomValue) → position (same_atom a) atoms ≡ None → ¬ Contains atoms a
not_found atoms a e h =
    let all = none_passes (same_atom a) atoms e in
    let lt = h.1 in
    let differs : same_atom a (get_or atoms h.0 a) ≡ false = fails_before_first (same_atom a) atoms h.0 a (omega (arith, all, lt)) in
    let same : same_atom a (get_or atoms h.0 a) ≡ true = ap (same_atom a) h.2 ∙ same_atom_itself a in
    cc (differs, same)

-- ---- the atoms of a clause
-- the atom is that of one of the first n literals, which has no variables
abbrev pub IsGroundAtomOfFirst : List Literal → ℕ → AtomValue → Type 0
IsGroundAtomOfFirst literals n a = (are_ground a.args ≡ true) × ((i : ℕ) × (l : Literal) × (i < n) × (slice_get literals i ≡ Some l) × (l.atom ≡ a))

module _ (before : List AtomValue) (literals : List Literal) where
  pub atoms_start : AddsAtoms before before (IsGroundAtomOfFirst literals 0)
  atoms_start a = (
    λ h. inl h,
    λ h. elim h as (λ _. Contains before a) [ inl old ↦ old | inr new ↦ (let lt = new.1.2 in absurd (omega (arith, lt))) ],
  )

  one_more : (n : ℕ) (a : AtomValue) → IsGroundAtomOfFirst literals n a → IsGroundAtomOfFirst literals (n + 1) a
  one_more n a s = let lt = s.1.2 in (s.0, (s.1.0, s.1.1, omega (arith, lt), s.1.3, s.1.4))

  -- the atom is that of one of the first n, or of the one behind them
  first_or_last : (n : ℕ) (l : Literal) (a : AtomValue) → slice_get literals n ≡ Some l → IsGroundAtomOfFirst literals (n + 1) a → IsGroundAtomOfFirst literals n a ⊎ (l.atom ≡ a)
  first_or_last n l a at t =
      elim (number_cases t.1.0 n t.1.2) as (λ _. IsGroundAtomOfFirst literals n a ⊎ (l.atom ≡ a)) [
        | inl lt ↦ inl (t.0, (t.1.0, t.1.1, lt, t.1.3, t.1.4))
        | inr here ↦
            (let m = t.1.1 in
            let P : ℕ → Type 0 = λ z. slice_get literals z ≡ Some m in
            let same : m ≡ l = literal_same literals n m l (subst P here t.1.3) at in
            inr (ap (λ (z : Literal). z.atom) (sym same) ∙ t.1.4))
      ]

  pub atoms_more : (now next : List AtomValue) (n : ℕ) (l : Literal) → slice_get literals n ≡ Some l → AddsAtoms now next (IsGroundAtomAt l) → AddsAtoms before now (IsGroundAtomOfFirst literals n) → AddsAtoms before next (IsGroundAtomOfFirst literals (n + 1))
  atoms_more now next n l at adds h a = (
    λ m. elim ((adds a).0 m) as (λ _. Contains before a ⊎ IsGroundAtomOfFirst literals (n + 1) a) [
      | inl old ↦ elim ((h a).0 old) as (λ _. Contains before a ⊎ IsGroundAtomOfFirst literals (n + 1) a) [ inl first ↦ inl first | inr s ↦ inr (one_more n a s) ]
      | inr new ↦ inr (new.0, (n, l, omega arith, at, new.1))
    ],
    λ s. elim s as (λ _. Contains next a) [
      | inl old ↦ (adds a).1 (inl ((h a).1 (inl old)))
      | inr t ↦ elim (first_or_last n l a at t) as (λ _. Contains next a) [ inl first ↦ (adds a).1 (inl ((h a).1 (inr first))) | inr last ↦ (adds a).1 (inr (t.0, last)) ]
    ],
  )

  pub atoms_all : (after : List AtomValue) (n : ℕ) → n ≡ length literals → AddsAtoms before after (IsGroundAtomOfFirst literals n) → AddsAtoms before after (IsGroundAtomIn literals)
  atoms_all after n all h a = (
    λ m. elim ((h a).0 m) as (λ _. Contains before a ⊎ IsGroundAtomIn literals a) [ inl first ↦ inl first | inr s ↦ inr (s.0, (s.1.0, s.1.1, s.1.3, s.1.4)) ],
    λ s. elim s as (λ _. Contains after a) [
      | inl old ↦ (h a).1 (inl old)
      | inr t ↦ (let lt = slice_get_within literals t.1.0 t.1.1 t.1.2 in (h a).1 (inr (t.0, (t.1.0, t.1.1, omega (arith, all, lt), t.1.2, t.1.3))))
    ],
  )

-- ---- the atoms of a problem
-- the list has the atoms without variables of the first n clauses, and no others
abbrev pub IsGroundAtomTo : ProblemValue → ℕ → AtomValue → Type 0
IsGroundAtomTo problem n a = (are_ground a.args ≡ true) × ((q : ClausePlace) × (l : Literal) × (q.clause < n) × LiteralAt problem q l × (l.atom ≡ a))

abbrev pub HasAtomsTo : ProblemValue → ℕ → List AtomValue → Type 0
HasAtomsTo problem n atoms = (a : AtomValue) → Contains atoms a ↔ IsGroundAtomTo problem n a

module _ (problem : ProblemValue) where
  pub no_atoms : (atoms : List AtomValue) → atoms ≡ [] → HasAtomsTo problem 0 atoms
  no_atoms atoms is a = (
    λ m. (let P : List AtomValue → Type 0 = λ z. Contains z a in let none = subst P is m in let lt : none.0 < 0 = none.1 in absurd (omega (arith, lt))),
    λ h. (let lt = h.1.2 in absurd (omega (arith, lt))),
  )

  pub atoms_to_more : (now next : List AtomValue) (n : ℕ) (clause : ClauseValue) → ClauseAt problem n clause → AddsAtoms now next (IsGroundAtomIn clause.literals) → HasAtomsTo problem n now → HasAtomsTo problem (n + 1) next
  atoms_to_more now next n clause at adds h a = (
    λ m. elim ((adds a).0 m) as (λ _. IsGroundAtomTo problem (n + 1) a) [
      | inl old ↦ (let g = (h a).0 old in let lt = g.1.2 in (g.0, (g.1.0, g.1.1, omega (arith, lt), g.1.3, g.1.4)))
      | inr new ↦ (let q : ClausePlace = record { clause = n; place = new.1.0 } in (new.0, (q, new.1.1, omega arith, (clause, at, new.1.2), new.1.3)))
    ],
    λ g. elim (number_cases g.1.0.clause n g.1.2) as (λ _. Contains next a) [
      | inl lt ↦ (adds a).1 (inl ((h a).1 (g.0, (g.1.0, g.1.1, lt, g.1.3, g.1.4))))
      | inr here ↦
          (let q = g.1.0 in
          let l = g.1.1 in
          let other = g.1.3.0 in
          let P : ℕ → Type 0 = λ z. ClauseAt problem z other in
          let same = clause_same problem n other clause (subst P here g.1.3.1) at in
          let Q : ClauseValue → Type 0 = λ z. slice_get z.literals q.place ≡ Some l in
          (adds a).1 (inr (g.0, (q.place, l, subst Q same g.1.3.2, g.1.4))))
    ],
  )

  pub atoms_to_all : (atoms : List AtomValue) (n : ℕ) → n ≡ length problem.clauses → HasAtomsTo problem n atoms → (a : AtomValue) → Contains atoms a ↔ IsGroundAtomOf problem a
  atoms_to_all atoms n all h a = (
    λ m. (let g = (h a).0 m in (g.0, (g.1.0, g.1.1, g.1.3, g.1.4))),
    λ g. (let lt = slice_get_within problem.clauses g.1.0.clause g.1.2.0 g.1.2.1 in (h a).1 (g.0, (g.1.0, g.1.1, omega (arith, all, lt), g.1.2, g.1.3))),
  )

-- ---- the atom of a literal in a set of atoms
module _ (before : List AtomValue) (l : Literal) where
  pub none_added : are_ground l.atom.args ≡ false → AddsAtoms before before (IsGroundAtomAt l)
  none_added varied b = (
    λ m. inl m,
    λ s. elim s as (λ _. Contains before b) [
      | inl old ↦ old
      | inr new ↦
          (let P : AtomValue → Type 0 = λ z. are_ground z.args ≡ true in
          let plain : are_ground l.atom.args ≡ true = subst P (sym new.1) new.0 in
          absurd (cc (varied, plain)))
    ],
  )

  pub atom_there : list_any (same_atom l.atom) before ≡ true → AddsAtoms before before (IsGroundAtomAt l)
  atom_there e b =
      let R : AtomValue → Type 0 = λ z. Contains before z in
      (λ m. inl m, λ s. elim s as (λ _. Contains before b) [ inl old ↦ old | inr new ↦ subst R new.1 (Contains-list_any same_atom same_atom_sound before l.atom e) ])

  pub atom_added : (after : List AtomValue) → are_ground l.atom.args ≡ true → list_any (same_atom l.atom) before ≡ false → after ≡ insert_key same_atom before l.atom → AddsAtoms before after (IsGroundAtomAt l)
  atom_added after plain new is b =
      let Q : List AtomValue → Type 0 = λ z. Contains z b ↔ (Contains before b ⊎ IsGroundAtomAt l b) in
      let R : AtomValue → Type 0 = λ z. Contains (before ++ l.atom ∷ []) z in
      let S : AtomValue → Type 0 = λ z. are_ground z.args ≡ true in
      let pushed : after ≡ before ++ l.atom ∷ [] = is ∙ ap (λ z. if z then before else before ++ l.atom ∷ []) new in
      subst Q (sym pushed) (
        λ m. elim (Contains-push_cases before l.atom b m) as (λ _. Contains before b ⊎ IsGroundAtomAt l b) [ inl old ↦ inl old | inr same ↦ inr (subst S same plain, same) ],
        λ s. elim s as (λ _. Contains (before ++ l.atom ∷ []) b) [ inl old ↦ Contains-append_left before (l.atom ∷ []) b old | inr h ↦ subst R h.1 (Contains-push before l.atom) ],
      )
