-- Without functions with arguments, the literals of a grown context are small, and so is what may be added.
use Rattle.std.proofs.Common.{◌≡◌, ℕ, zero, suc, true, inl, inr, List, [], ◌∷◌, length, slice_get, Option, Some, None, IsTrue, refl, sym, subst, ap, ◌∙◌}
use Rattle.std.specs.List.{list_all}
use Rattle.std.proofs.lemmas.Option.{same_Some, slice_get_within, get_or_from_slice_get}
use Rattle.me_terms.specs.Terms.{Var, AtomValue}
use Rattle.me_terms.specs.Variables.{first_ones, place_of, variables_of, canonical}
use Rattle.me_terms.specs.Substitutions.{Substitution, Family, apply_atom}
use Rattle.me_terms.specs.Measures.{complement}
use Rattle.me_terms.specs.Values.{SignatureValue, ClauseValue, ProblemValue, EntryValue, SplitLeft, SplitRight}
use Rattle.me_terms.specs.Signatures.{takes, is_known_atom}
use Rattle.me_terms.specs.Context.{Context, StandsAt, pseudo, add}
use Rattle.me_terms.specs.Positions.{positions_of, ClauseAt}
use Rattle.me_terms.specs.Unifier.{unified, IsUnifier}
use Rattle.me_terms.specs.Assert.{IsAssert}
use Rattle.me_terms.specs.Split.{IsSplit}
use Rattle.me_terms.specs.Validity.{IsValid, IsValidClause}
use Rattle.me_terms.specs.Grown.{sign_of, start, split_entry, IsGrown, started, asserted, went_left, went_right}
use Rattle.me_terms.specs.declared.bounds.Bounds.{Bounds}
use Rattle.me_terms.specs.declared.bounds.Start.{Start}
use Rattle.me_terms.specs.declared.atom.Literal.{Literal}
use Rattle.me_terms.specs.declared.atom.Pattern.{Pattern}
use Rattle.me_terms.specs.declared.atom.Pattern.TheVariants.{Any, Of}
use Rattle.me_terms.specs.TermEqualityLaws.{both_parts}
use Rattle.me_laws.proofs.Added.{add_either}
use Rattle.me_laws_counting.specs.FunctionFree.{IsFunctionFree}
use Rattle.me_laws_counting.proofs.Small.{is_small, IsSmall, atom_small, applied_smalls, applied_count}
use Rattle.me_laws_counting.proofs.SmallUnifier.{IsSmallPattern, small_unifier}

-- the pseudo-atom, or a small atom
abbrev pub IsSmallOr : SignatureValue → Pattern → Type 0
IsSmallOr signature Any = Unit {0}
IsSmallOr signature (Of a) = IsSmall signature a

-- every entry is of that kind
abbrev pub AreSmall : SignatureValue → Context → Type 0
AreSmall signature context = (k : ℕ) (e : EntryValue) → StandsAt context k e → IsSmallOr signature e.atom

args_small : (signature : SignatureValue) (p : Pattern) → IsSmallOr signature p → IsSmallPattern (length signature.functions) p
args_small signature Any h = tt
args_small signature (Of a) h = h.small

applied_is_small : (signature : SignatureValue) (s : Substitution) (a : AtomValue) → ((x : ℕ) → is_small (length signature.functions) (s x) ≡ true) → IsSmall signature a → IsSmall signature (apply_atom s a)
applied_is_small signature s a h small = record {
  known = ap (takes (slice_get signature.predicates a.pred)) (applied_count s a.args) ∙ small.known;
  small = applied_smalls (length signature.functions) s h a.args small.small;
}

pub canonical_small : (signature : SignatureValue) (a : AtomValue) → IsSmall signature a → IsSmall signature (canonical a)
canonical_small signature a h = applied_is_small signature (λ x. Var (place_of x (first_ones [] (variables_of a.args)))) a (λ x. refl) h

clause_of : (problem : ProblemValue) (c : ℕ) (clause : ClauseValue) → IsValid problem → ClauseAt problem c clause → IsValidClause problem.signature clause
clause_of problem c clause valid at =
    let P : ClauseValue → Type 0 = λ x. IsValidClause problem.signature x in
    subst P (get_or_from_slice_get problem.clauses c clause clause at) (valid.clauses c clause (slice_get_within problem.clauses c clause at))

each_known : (signature : SignatureValue) (ls : List Literal) (i : ℕ) (l : Literal) → IsTrue (list_all (λ l. is_known_atom signature l.atom) ls) → slice_get ls i ≡ Some l → is_known_atom signature l.atom ≡ true
each_known signature [] i l h at = cc at
each_known signature (m ∷ ls) zero l h at =
    let P : Literal → Type 0 = λ x. is_known_atom signature x.atom ≡ true in
    subst P (same_Some m l at) (both_parts (is_known_atom signature m.atom) (list_all (λ x. is_known_atom signature x.atom) ls) h).0
each_known signature (m ∷ ls) (suc i) l h at =
    each_known signature ls i l (both_parts (is_known_atom signature m.atom) (list_all (λ x. is_known_atom signature x.atom) ls) h).1 at

module _ (problem : ProblemValue) (valid : IsValid problem) (free : IsFunctionFree problem) where
  literal_small : (c : ℕ) (clause : ClauseValue) (place : ℕ) (l : Literal) → ClauseAt problem c clause → slice_get clause.literals place ≡ Some l → IsSmall problem.signature l.atom
  literal_small c clause place l at literal_at =
      atom_small problem.signature free l.atom (each_known problem.signature clause.literals place l (clause_of problem c clause valid at).known literal_at)

  pub unified_small : (context : Context) (c : ℕ) (clause : ClauseValue) (positions : List (Option ℕ)) (family : Family) (place : ℕ) (l : Literal) → AreSmall problem.signature context → ClauseAt problem c clause → IsUnifier context clause.literals positions family → slice_get clause.literals place ≡ Some l → IsSmall problem.signature (unified family l).atom
  unified_small context c clause positions family place l entries at unifier literal_at =
      applied_is_small problem.signature (family 0) l.atom
      (small_unifier (length problem.signature.functions) context clause.literals positions family (λ i m at_i. (literal_small c clause i m at at_i).small) (λ k e stands. args_small problem.signature e.atom (entries k e stands)) unifier 0)
      (literal_small c clause place l at literal_at)

  pub assert_small : (bounds : Bounds) (context : Context) (c place : ℕ) (tuple : List ℕ) (e : EntryValue) → AreSmall problem.signature context → IsAssert problem bounds context c place tuple e → IsSmallOr problem.signature e.atom
  assert_small bounds context c place tuple e entries h =
      let small = canonical_small problem.signature (unified h.family h.literal).atom (unified_small context c h.clause (positions_of (Some place) tuple) h.family place h.literal entries h.clause_at h.unifier.unifier h.literal_at) in
      let P : EntryValue → Type 0 = λ x. IsSmallOr problem.signature x.atom in
      subst P (sym h.entry) small

  pub split_small : (bounds : Bounds) (context : Context) (c place size : ℕ) (tuple : List ℕ) (l : Literal) → AreSmall problem.signature context → IsSplit problem bounds context c place tuple size l → IsSmall problem.signature l.atom
  split_small bounds context c place size tuple l entries h =
      let small = canonical_small problem.signature (unified h.family h.literal).atom (unified_small context c h.clause (positions_of None tuple) h.family place h.literal entries h.productive.clause_at h.productive.unifier.unifier h.literal_at) in
      let P : Literal → Type 0 = λ x. IsSmall problem.signature x.atom in
      subst P (sym h.split_literal) small

  pub add_small : (context : Context) (e : EntryValue) → AreSmall problem.signature context → IsSmallOr problem.signature e.atom → AreSmall problem.signature (add context e)
  add_small context e old new k f stands =
      elim (add_either context e k f stands) as (λ _. IsSmallOr problem.signature f.atom) [
        | inl there ↦ old k f there
        | inr same ↦ let P : EntryValue → Type 0 = λ x. IsSmallOr problem.signature x.atom in subst P same new
      ]

  start_small : (begins : Start) → AreSmall problem.signature (start begins)
  start_small begins zero e h = let P : EntryValue → Type 0 = λ x. IsSmallOr problem.signature x.atom in subst P (same_Some (pseudo (sign_of begins)) e h) tt
  start_small begins (suc k) e h = cc h

  pub grown_small : {bounds : Bounds} {context : Context} → IsGrown problem bounds context → AreSmall problem.signature context
  grown_small {bounds = bounds} started = start_small bounds.start
  grown_small {bounds} (asserted {context = context} {e = e} h next) =
      let before = grown_small h in
      let least = next.2 in
      add_small context e before (assert_small bounds context least.0 least.1 least.2 e before least.3)
  grown_small {bounds} (went_left {context = context} {l = l} {kind = kind} h next) =
      let before = grown_small h in
      let least = next.3 in
      add_small context (split_entry l kind SplitLeft) before (split_small bounds context least.0 least.1 least.2 least.3 l before least.4)
  grown_small {bounds} (went_right {context = context} {l = l} {kind = kind} h next) =
      let before = grown_small h in
      let least = next.3 in
      add_small context (split_entry (complement l) kind SplitRight) before (split_small bounds context least.0 least.1 least.2 least.3 l before least.4)
