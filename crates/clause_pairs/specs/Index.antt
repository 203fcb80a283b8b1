-- An index of a problem's literals, in which the places are found against whose literals an entry may stand.
use Rattle.std.specs.Prelude.{◌≡◌, ℕ, ◌⊎◌, ◌↔◌, Bool, true, false, List, [], ◌∷◌, ◌++◌, slice_get, Some}
use Rattle.std.specs.List.{Contains, position}
use Rattle.me_terms.specs.Terms.{AtomValue}
use Rattle.me_terms.specs.TermEquality.{same_atom}
use Rattle.me_terms.specs.Variables.{are_ground}
use Rattle.me_terms.specs.Values.{ProblemValue}
use Rattle.me_terms.specs.declared.atom.Literal.{Literal}
use Rattle.clause_pairs.specs.declared.clause_place.ClausePlace.{ClausePlace}
use Rattle.clause_pairs.specs.Filed.{BySignValue, filed}
use Rattle.clause_pairs.specs.Meetings.{LiteralAt, OfClause, AddsPlaces, ArePlacesOf, KeepsOrder}

-- The atoms without variables by numbers, and the places by predicate, those of literals with variables by predicate, and those of the others by the atom's number.
pub record IndexValue : Type 0 where
  pub atoms : List AtomValue
  pub by_predicate : List BySignValue
  pub nonground : List BySignValue
  pub by_atom : List BySignValue

-- The atom has no variables, and a literal of the problem is of it.
abbrev pub IsGroundAtomOf : ProblemValue → AtomValue → Type 0
IsGroundAtomOf problem a = (are_ground a.args ≡ true) × ((q : ClausePlace) × (l : Literal) × LiteralAt problem q l × (l.atom ≡ a))

-- The atom is that of the literal, which has no variables.
abbrev pub IsGroundAtomAt : Literal → AtomValue → Type 0
IsGroundAtomAt l a = (are_ground a.args ≡ true) × (l.atom ≡ a)

-- The atom is that of one of these literals, which has no variables.
abbrev pub IsGroundAtomIn : List Literal → AtomValue → Type 0
IsGroundAtomIn literals a = (are_ground a.args ≡ true) × ((i : ℕ) × (l : Literal) × (slice_get literals i ≡ Some l) × (l.atom ≡ a))

-- The second list has the atoms of the first, those of which P holds, and no others.
abbrev pub AddsAtoms : List AtomValue → List AtomValue → (AtomValue → Type 0) → Type 0
AddsAtoms before after P = (a : AtomValue) → Contains after a ↔ (Contains before a ⊎ P a)

-- Of these literals the list has the atoms of those without variables, and of no others.
abbrev pub KnowsGround : List AtomValue → List Literal → Type 0
KnowsGround atoms literals = (i : ℕ) (l : Literal) → slice_get literals i ≡ Some l → Contains atoms l.atom ↔ (are_ground l.atom.args ≡ true)

-- The number that a literal has is its predicate,
abbrev pub HasPredicate : Literal → ℕ → Type 0
HasPredicate l n = l.atom.pred ≡ n

-- its predicate where it has variables,
abbrev pub IsNongroundOf : Literal → ℕ → Type 0
IsNongroundOf l n = (are_ground l.atom.args ≡ false) × (l.atom.pred ≡ n)

-- or that of its atom among these.
abbrev pub HasAtom : List AtomValue → Literal → ℕ → Type 0
HasAtom atoms l n = position (same_atom l.atom) atoms ≡ Some n

-- The literal has that sign and number.
abbrev pub IsUnder : (Literal → ℕ → Type 0) → ℕ → Bool → Literal → Type 0
IsUnder Has n positive l = (l.positive ≡ positive) × Has l n

-- Under each number and sign are the places of the literals that have them, in their order, and no others.
abbrev pub AreFiled : ProblemValue → (Literal → ℕ → Type 0) → List BySignValue → Type 0
AreFiled problem Has lists = (n : ℕ) (positive : Bool) → ArePlacesOf problem (IsUnder Has n positive) (filed lists n positive)

-- The index has all atoms of the problem without variables, and all places under their numbers.
pub record IsIndex (problem : ProblemValue) (v : IndexValue) : Type 0 where
  pub atoms : (a : AtomValue) → Contains v.atoms a ↔ IsGroundAtomOf problem a
  pub by_predicate : AreFiled problem HasPredicate v.by_predicate
  pub nonground : AreFiled problem IsNongroundOf v.nonground
  pub by_atom : AreFiled problem (HasAtom v.atoms) v.by_atom

-- The place is put to those of its literal's sign and number, where it has one, and all others are as before.
abbrev pub FilesBy : (Literal → ℕ → Type 0) → Literal → ClausePlace → List BySignValue → List BySignValue → Type 0
FilesBy Has l at before after =
    (n : ℕ) (positive : Bool)
    → (IsUnder Has n positive l × (filed after n positive ≡ filed before n positive ++ at ∷ [])) ⊎ ((¬ IsUnder Has n positive l) × (filed after n positive ≡ filed before n positive))

-- The place of the literal is filed.
pub record FilesLiteral (l : Literal) (at : ClausePlace) (before after : IndexValue) : Type 0 where
  pub atoms : after.atoms ≡ before.atoms
  pub by_predicate : FilesBy HasPredicate l at before.by_predicate after.by_predicate
  pub nonground : FilesBy IsNongroundOf l at before.nonground after.nonground
  pub by_atom : FilesBy (HasAtom before.atoms) l at before.by_atom after.by_atom

-- The places of these literals, which are those of clause c, are filed behind those of earlier clauses.
abbrev pub FilesAll : (Literal → ℕ → Type 0) → List Literal → ℕ → List BySignValue → List BySignValue → Type 0
FilesAll Has literals c before after =
    (n : ℕ) (positive : Bool)
    → AddsPlaces (filed before n positive) (filed after n positive) (OfClause (IsUnder Has n positive) literals c) × KeepsOrder c (filed before n positive) (filed after n positive)

pub record FilesClause (literals : List Literal) (c : ℕ) (before after : IndexValue) : Type 0 where
  pub atoms : after.atoms ≡ before.atoms
  pub by_predicate : FilesAll HasPredicate literals c before.by_predicate after.by_predicate
  pub nonground : FilesAll IsNongroundOf literals c before.nonground after.nonground
  pub by_atom : FilesAll (HasAtom before.atoms) literals c before.by_atom after.by_atom
