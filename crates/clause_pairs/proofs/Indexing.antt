-- The index of a problem's literals as it is made, literal by literal and clause by clause.
use Rattle.std.proofs.Common.{◌≡◌, ℕ, ◌+◌, ◌↔◌, Bool, true, false, List, [], length, slice_get, Some, None, refl, sym, subst, ◌∙◌}
use Rattle.std.specs.List.{Contains, position}
use Rattle.std.proofs.lemmas.Option.{same_Some}
use Rattle.me_terms.specs.Terms.{AtomValue}
use Rattle.me_terms.specs.TermEquality.{same_atom}
use Rattle.me_terms.specs.Variables.{are_ground}
use Rattle.me_terms.specs.Values.{ProblemValue, ClauseValue}
use Rattle.me_terms.specs.Positions.{ClauseAt}
use Rattle.me_terms.specs.declared.atom.Literal.{Literal}
use Rattle.clause_pairs.specs.declared.clause_place.ClausePlace.{ClausePlace}
use Rattle.clause_pairs.specs.Filed.{Files}
use Rattle.clause_pairs.specs.Index.{IndexValue, IsGroundAtomOf, KnowsGround, HasPredicate, IsNongroundOf, HasAtom, IsIndex, FilesBy, FilesLiteral, FilesClause}
use Rattle.clause_pairs.proofs.Filing.{files_by, files_none, FilesFirst, files_start, files_more, files_all, AreFiledTo, filed_start, filed_more, filed_all}
use Rattle.clause_pairs.proofs.GroundAtoms.{found_contains, not_found}

-- ---- one literal
module _ (l : Literal) (at : ClausePlace) (before after : IndexValue) (knows : Contains before.atoms l.atom ↔ (are_ground l.atom.args ≡ true)) (same : after.atoms ≡ before.atoms) (filed : Files l.atom.pred l.positive at before.by_predicate after.by_predicate) where
  by_predicate : FilesBy HasPredicate l at before.by_predicate after.by_predicate
  by_predicate = files_by HasPredicate l at before.by_predicate after.by_predicate l.atom.pred refl (λ n h. sym h) filed

  -- a literal without variables, whose atom has the number
  pub with_number : (number : ℕ) → position (same_atom l.atom) before.atoms ≡ Some number → after.nonground ≡ before.nonground → Files number l.positive at before.by_atom after.by_atom → FilesLiteral l at before after
  with_number number found others files =
      let plain : are_ground l.atom.args ≡ true = knows.0 (found_contains before.atoms l.atom number found) in
      record {
        atoms = same;
        by_predicate = by_predicate;
        nonground = files_none IsNongroundOf l at before.nonground after.nonground (λ n h. cc (plain, h.0)) others;
        by_atom = files_by (HasAtom before.atoms) l at before.by_atom after.by_atom number found (λ n h. same_Some n number (sym h ∙ found)) files;
      }

  varied_by : (b : Bool) → are_ground l.atom.args ≡ b → ¬ Contains before.atoms l.atom → are_ground l.atom.args ≡ false
  varied_by true e none = absurd (none (knows.1 e))
  varied_by false e none = e

  -- a literal with variables
  pub without_number : position (same_atom l.atom) before.atoms ≡ None → Files l.atom.pred l.positive at before.nonground after.nonground → after.by_atom ≡ before.by_atom → FilesLiteral l at before after
  without_number none files others =
      let varied : are_ground l.atom.args ≡ false = varied_by (are_ground l.atom.args) refl (not_found before.atoms l.atom none) in
      record {
        atoms = same;
        by_predicate = by_predicate;
        nonground = files_by IsNongroundOf l at before.nonground after.nonground l.atom.pred (varied, refl) (λ n h. sym h.1) files;
        by_atom = files_none (HasAtom before.atoms) l at before.by_atom after.by_atom (λ n h. cc (none, h)) others;
      }

-- ---- the literals of a clause
-- the first i are filed
pub record AreFirstFiled (literals : List Literal) (c : ℕ) (before : IndexValue) (i : ℕ) (now : IndexValue) : Type 0 where
  pub atoms : now.atoms ≡ before.atoms
  pub by_predicate : FilesFirst HasPredicate literals c before.by_predicate i now.by_predicate
  pub nonground : FilesFirst IsNongroundOf literals c before.nonground i now.nonground
  pub by_atom : FilesFirst (HasAtom before.atoms) literals c before.by_atom i now.by_atom

module _ (literals : List Literal) (c : ℕ) (before : IndexValue) where
  pub clause_start : AreFirstFiled literals c before 0 before
  clause_start = record {
    atoms = refl;
    by_predicate = files_start HasPredicate literals c before.by_predicate;
    nonground = files_start IsNongroundOf literals c before.nonground;
    by_atom = files_start (HasAtom before.atoms) literals c before.by_atom;
  }

  pub clause_step : (now next : IndexValue) (i : ℕ) (l : Literal) → slice_get literals i ≡ Some l → FilesLiteral l (record { clause = c; place = i }) now next → AreFirstFiled literals c before i now → AreFirstFiled literals c before (i + 1) next
  clause_step now next i l at files h =
      let place : ClausePlace = record { clause = c; place = i } in
      let P : List AtomValue → Type 0 = λ z. FilesBy (HasAtom z) l place now.by_atom next.by_atom in
      record {
        atoms = files.atoms ∙ h.atoms;
        by_predicate = files_more HasPredicate literals c before.by_predicate now.by_predicate next.by_predicate i l at files.by_predicate h.by_predicate;
        nonground = files_more IsNongroundOf literals c before.nonground now.nonground next.nonground i l at files.nonground h.nonground;
        by_atom = files_more (HasAtom before.atoms) literals c before.by_atom now.by_atom next.by_atom i l at (subst P h.atoms files.by_atom) h.by_atom;
      }

  pub clause_end : (after : IndexValue) (i : ℕ) → i ≡ length literals → AreFirstFiled literals c before i after → FilesClause literals c before after
  clause_end after i all h = record {
    atoms = h.atoms;
    by_predicate = files_all HasPredicate literals c before.by_predicate after.by_predicate i all h.by_predicate;
    nonground = files_all IsNongroundOf literals c before.nonground after.nonground i all h.nonground;
    by_atom = files_all (HasAtom before.atoms) literals c before.by_atom after.by_atom i all h.by_atom;
  }

-- ---- the clauses of a problem
-- the literals of the first c are filed
pub record IsIndexTo (problem : ProblemValue) (c : ℕ) (v : IndexValue) : Type 0 where
  pub atoms : (a : AtomValue) → Contains v.atoms a ↔ IsGroundAtomOf problem a
  pub by_predicate : AreFiledTo HasPredicate problem c v.by_predicate
  pub nonground : AreFiledTo IsNongroundOf problem c v.nonground
  pub by_atom : AreFiledTo (HasAtom v.atoms) problem c v.by_atom

module _ (problem : ProblemValue) where
  pub index_start : (v : IndexValue) → ((a : AtomValue) → Contains v.atoms a ↔ IsGroundAtomOf problem a) → v.by_predicate ≡ [] → v.nonground ≡ [] → v.by_atom ≡ [] → IsIndexTo problem 0 v
  index_start v atoms p q r = record {
    atoms = atoms;
    by_predicate = filed_start HasPredicate problem v.by_predicate p;
    nonground = filed_start IsNongroundOf problem v.nonground q;
    by_atom = filed_start (HasAtom v.atoms) problem v.by_atom r;
  }

  pub index_step : (before after : IndexValue) (c : ℕ) (clause : ClauseValue) → ClauseAt problem c clause → FilesClause clause.literals c before after → IsIndexTo problem c before → IsIndexTo problem (c + 1) after
  index_step before after c clause at files h =
      let P : List AtomValue → Type 0 = λ z. (a : AtomValue) → Contains z a ↔ IsGroundAtomOf problem a in
      let Q : List AtomValue → Type 0 = λ z. AreFiledTo (HasAtom z) problem (c + 1) after.by_atom in
      record {
        atoms = subst P (sym files.atoms) h.atoms;
        by_predicate = filed_more HasPredicate problem before.by_predicate after.by_predicate c clause at files.by_predicate h.by_predicate;
        nonground = filed_more IsNongroundOf problem before.nonground after.nonground c clause at files.nonground h.nonground;
        by_atom = subst Q (sym files.atoms) (filed_more (HasAtom before.atoms) problem before.by_atom after.by_atom c clause at files.by_atom h.by_atom);
      }

  pub index_end : (v : IndexValue) (c : ℕ) → c ≡ length problem.clauses → IsIndexTo problem c v → IsIndex problem v
  index_end v c all h = record {
    atoms = h.atoms;
    by_predicate = filed_all HasPredicate problem v.by_predicate c all h.by_predicate;
    nonground = filed_all IsNongroundOf problem v.nonground c all h.nonground;
    by_atom = filed_all (HasAtom v.atoms) problem v.by_atom c all h.by_atom;
  }

  pub knows_clause : (v : IndexValue) (c : ℕ) (clause : ClauseValue) → ((a : AtomValue) → Contains v.atoms a ↔ IsGroundAtomOf problem a) → ClauseAt problem c clause → KnowsGround v.atoms clause.literals
  knows_clause v c clause atoms at i l is = (
    λ h. ((atoms l.atom).0 h).0,
    λ plain. (let q : ClausePlace = record { clause = c; place = i } in (atoms l.atom).1 (plain, (q, l, (clause, at, is), refl))),
  )
