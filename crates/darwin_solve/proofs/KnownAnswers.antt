-- The instances and the contexts that are answered are over the problem's signature.
use Rattle.std.proofs.Common.{◌≡◌, ℕ, zero, suc, Bool, true, false, ◌&&◌, ◌||◌, cond, nat_le, eqb, ◌⊎◌, inl, inr, List, [], ◌∷◌, map, slice_get, get_or, Option, Some, None, refl, sym, subst, ap, ◌∙◌}
use Rattle.std.specs.Prelude.{IsTrue}
use Rattle.std.specs.List.{list_all}
use Rattle.std.proofs.lemmas.Bool.{eqb-true}
use Rattle.std.proofs.lemmas.Option.{slice_get_within, same_Some}
use Rattle.me_terms.specs.Terms.{TermValue, Var, App, Arguments, Nil, Cons, AtomValue}
use Rattle.me_terms.specs.Substitutions.{Substitution, Family, apply_arguments, apply_atom, apply_literal}
use Rattle.me_terms.specs.Variables.{variables_of, count, first_ones, place_of, canonical}
use Rattle.me_terms.specs.Measures.{complement, canonical_literal, list_weight}
use Rattle.me_terms.specs.Values.{SignatureValue, ClauseValue, ProblemValue, EntryValue, InstanceValue, SplitLeft, SplitRight}
use Rattle.me_terms.specs.Context.{Context, StandsAt, IsAtomWith, pseudo, add}
use Rattle.me_terms.specs.Positions.{positions_of, ClauseAt}
use Rattle.me_terms.specs.Unifier.{IsUnifier, unified}
use Rattle.me_terms.specs.Signatures.{is_known, are_known, is_known_atom, takes}
use Rattle.me_terms.specs.GroundInstances.{is_ground_term, are_ground_terms, IsGroundInstance}
use Rattle.me_terms.specs.Validity.{IsValidClause, IsValid}
use Rattle.me_terms.specs.TermEqualityLaws.{both_parts}
use Rattle.me_terms.specs.Next.{Assert, Split, IsNext}
use Rattle.me_terms.specs.Grown.{sign_of, start, split_entry, IsGrown, started, asserted, went_left, went_right}
use Rattle.me_terms.specs.Outcome.{TreeOutcome, Closed, Sat, Met, both, HasOutcome, closes, is_exhausted, is_bounded, asserts, splits}
use Rattle.me_terms.specs.Answer.{AnswerValue, Unsatisfiable, Satisfiable, GaveUp, answer_of, HasAnswer}
use Rattle.me_terms.specs.declared.bounds.Bound.TheVariants as bound
use Rattle.me_terms.specs.declared.bounds.Bounds.{Bounds}
use Rattle.me_terms.specs.declared.bounds.Start.{Start}
use Rattle.me_terms.specs.declared.entry.Kind.{Kind}
use Rattle.me_terms.specs.declared.atom.Literal.{Literal}
use Rattle.me_terms.specs.declared.atom.Pattern.{Pattern}
use Rattle.me_terms.specs.declared.atom.Pattern.TheVariants.{Any, Of}
use Rattle.me_laws.proofs.Added.{add_either}
use Rattle.me_laws.proofs.Grown.{grown}
use Rattle.me_laws.proofs.Lists.{all_at}
use Rattle.me_laws_refutation.proofs.Known.{both_true, count_applied, all_known_under, clause_known}
use Rattle.me_laws_refutation.proofs.Sound.{IsSound, grown_sound}
use Rattle.me_laws_refutation.proofs.UnifierKnown.{unifier_known}
use Rattle.me_laws_refutation.proofs.Answered.{unsatisfiable_refuted}
use Rattle.darwin_solve.specs.Evidence.{IsOverProblem}
use Rattle.me_terms.specs.Known.{IsKnownInstance, IsKnownContext}

-- ---- atoms under substitutions
atom_known : (names : SignatureValue) (s : Substitution) → ((x : ℕ) → is_known names (s x) ≡ true) → (a : AtomValue) → is_known_atom names a ≡ true → is_known_atom names (apply_atom s a) ≡ true
atom_known names s k a h =
    let parts = both_parts (takes (slice_get names.predicates a.pred) (count a.args)) (are_known names a.args) h in
    both_true (takes (slice_get names.predicates a.pred) (count (apply_arguments s a.args))) (are_known names (apply_arguments s a.args)) (ap (takes (slice_get names.predicates a.pred)) (count_applied s a.args) ∙ parts.0) (all_known_under names s k a.args parts.1)

canonical_atom : (names : SignatureValue) (a : AtomValue) → is_known_atom names a ≡ true → is_known_atom names (canonical a) ≡ true
canonical_atom names a h = atom_known names (λ x. Var (place_of x (first_ones [] (variables_of a.args)))) (λ x. refl) a h

literal_at : (names : SignatureValue) (ls : List Literal) (i : ℕ) (l : Literal) → list_all (λ m. is_known_atom names m.atom) ls ≡ true → slice_get ls i ≡ Some l → is_known_atom names l.atom ≡ true
literal_at names [] i l h at = cc
literal_at names (m ∷ ls) zero l h at =
    let parts = both_parts (is_known_atom names m.atom) (list_all (λ n. is_known_atom names n.atom) ls) h in
    let P : Literal → Type 0 = λ n. is_known_atom names n.atom ≡ true in
    subst P (same_Some m l at) parts.0
literal_at names (m ∷ ls) (suc i) l h at =
    let parts = both_parts (is_known_atom names m.atom) (list_all (λ n. is_known_atom names n.atom) ls) h in
    literal_at names ls i l parts.1 at

-- ---- ground terms
either : (a b : Bool) → (a || b) ≡ true → (a ≡ true) ⊎ (b ≡ true)
either true b h = inl refl
either false b h = inr h

mutual
  ground_known : (problem : ProblemValue) → IsValid problem → (t : TermValue) → is_ground_term problem t ≡ true → is_known problem.signature t ≡ true
  ground_known problem valid (Var x) h = refl
  ground_known problem valid (App f ts) h =
      let functions = problem.signature.functions in
      let test = takes (slice_get functions f) (count ts) in
      let other = eqb f problem.c0 && eqb (count ts) 0 in
      let parts = both_parts (test || other) (are_ground_terms problem ts) h in
      let later = all_ground_known problem valid ts parts.1 in
      elim (either test other parts.0) as (λ _. (takes (slice_get functions f) (count ts) && are_known problem.signature ts) ≡ true) [
        | inl here ↦ both_true test (are_known problem.signature ts) here later
        | inr here ↦
            let both = both_parts (eqb f problem.c0) (eqb (count ts) 0) here in
            let function : f ≡ problem.c0 = eqb-true f problem.c0 both.0 in
            let none : count ts ≡ 0 = eqb-true (count ts) 0 both.1 in
            let P : ℕ × ℕ → Type 0 = λ z. takes (slice_get functions z.0) z.1 ≡ true in
            both_true test (are_known problem.signature ts) (subst P (λ i. (sym function i, sym none i)) valid.c0_constant) later
      ]

  all_ground_known : (problem : ProblemValue) → IsValid problem → (ts : Arguments) → are_ground_terms problem ts ≡ true → are_known problem.signature ts ≡ true
  all_ground_known problem valid Nil h = refl
  all_ground_known problem valid (Cons t ts) h =
      let parts = both_parts (is_ground_term problem t) (are_ground_terms problem ts) h in
      both_true (is_known problem.signature t) (are_known problem.signature ts) (ground_known problem valid t parts.0) (all_ground_known problem valid ts parts.1)

-- ---- instances
literals_known : (names : SignatureValue) (s : Substitution) → ((x : ℕ) → is_known names (s x) ≡ true) → (ls : List Literal) → list_all (λ l. is_known_atom names l.atom) ls ≡ true → list_all (λ l. is_known_atom names l.atom) (map (apply_literal s) ls) ≡ true
literals_known names s k [] h = refl
literals_known names s k (l ∷ ls) h =
    let parts = both_parts (is_known_atom names l.atom) (list_all (λ m. is_known_atom names m.atom) ls) h in
    both_true (is_known_atom names (apply_atom s l.atom)) (list_all (λ m. is_known_atom names m.atom) (map (apply_literal s) ls)) (atom_known names s k l.atom parts.0) (literals_known names s k ls parts.1)

instance_known : (problem : ProblemValue) → IsValid problem → (i : InstanceValue) → IsGroundInstance problem i.clause i.literals → IsKnownInstance problem i
instance_known problem valid i h =
    let clause = h.0 in
    let s = h.1 in
    let whole : IsValidClause problem.signature clause = all_at (IsValidClause problem.signature) problem.clauses i.clause clause valid.clauses h.2 in
    let P : List Literal → Type 0 = λ ls. list_all (λ l. is_known_atom problem.signature l.atom) ls ≡ true in
    record {
      clause = slice_get_within problem.clauses i.clause clause h.2;
      literals = subst P (sym h.4) (literals_known problem.signature s (λ x. ground_known problem valid (s x) (h.3 x)) clause.literals whole.known);
    }

-- ---- contexts
abbrev IsKnownPattern : SignatureValue → Pattern → Type 0
IsKnownPattern names Any = Unit {0}
IsKnownPattern names (Of a) = is_known_atom names a ≡ true

unified_known : (problem : ProblemValue) → IsValid problem → (bounds : Bounds) (context : Context) → IsSound problem bounds context → (c : ℕ) (clause : ClauseValue) (place : ℕ) (literal : Literal) (positions : List (Option ℕ)) (family : Family) → ClauseAt problem c clause → slice_get clause.literals place ≡ Some literal → IsUnifier context clause.literals positions family → is_known_atom problem.signature (canonical_literal (unified family literal)).atom ≡ true
unified_known problem valid bounds context sound c clause place literal positions family at here unifier =
    let literals = clause_known problem valid c clause at in
    let terms = unifier_known problem.signature context clause.literals positions family sound.known literals unifier in
    let whole : IsValidClause problem.signature clause = all_at (IsValidClause problem.signature) problem.clauses c clause valid.clauses at in
    canonical_atom problem.signature (apply_atom (family 0) literal.atom) (atom_known problem.signature (family 0) (terms 0) literal.atom (literal_at problem.signature clause.literals place literal whole.known here))

added_known : (names : SignatureValue) (context : Context) (e : EntryValue) → ((k : ℕ) (f : EntryValue) → StandsAt context k f → IsKnownPattern names f.atom) → IsKnownPattern names e.atom → (k : ℕ) (f : EntryValue) → StandsAt (add context e) k f → IsKnownPattern names f.atom
added_known names context e old new k f stands =
    elim (add_either context e k f stands) as (λ _. IsKnownPattern names f.atom) [
      | inl here ↦ old k f here
      | inr same ↦ let P : EntryValue → Type 0 = λ x. IsKnownPattern names x.atom in subst P same new
    ]

split_known : (problem : ProblemValue) → IsValid problem → (bounds : Bounds) (context : Context) → IsSound problem bounds context → (l : Literal) (kind : Kind) → IsNext problem bounds context (Split l kind) → is_known_atom problem.signature l.atom ≡ true
split_known problem valid bounds context sound l kind next =
    let h = next.3.4 in
    let P : Literal → Type 0 = λ m. is_known_atom problem.signature m.atom ≡ true in
    subst P (sym h.split_literal) (unified_known problem valid bounds context sound next.3.0 h.clause next.3.1 h.literal (positions_of None next.3.3) h.family h.productive.clause_at h.literal_at h.productive.unifier.unifier)

assert_known : (problem : ProblemValue) → IsValid problem → (bounds : Bounds) (context : Context) → IsSound problem bounds context → (e : EntryValue) → IsNext problem bounds context (Assert e) → IsKnownPattern problem.signature e.atom
assert_known problem valid bounds context sound e next =
    let h = next.2.3 in
    let P : EntryValue → Type 0 = λ x. IsKnownPattern problem.signature x.atom in
    subst P (sym h.entry) (unified_known problem valid bounds context sound next.2.0 h.clause next.2.1 h.literal (positions_of (Some next.2.1) next.2.2) h.family h.clause_at h.literal_at h.unifier.unifier)

start_known : (names : SignatureValue) (begins : Start) (k : ℕ) (e : EntryValue) → StandsAt (start begins) k e → IsKnownPattern names e.atom
start_known names begins zero e h = let P : EntryValue → Type 0 = λ x. IsKnownPattern names x.atom in subst P (same_Some (pseudo (sign_of begins)) e h) tt
start_known names begins (suc k) e h = cc

atoms_known : {problem : ProblemValue} {bounds : Bounds} {context : Context} → IsValid problem → IsGrown problem bounds context → (k : ℕ) (e : EntryValue) → StandsAt context k e → IsKnownPattern problem.signature e.atom
atoms_known {problem} {bounds} valid started = start_known problem.signature bounds.start
atoms_known {problem} {bounds} valid (asserted {context = context} {e = e} h next) =
    added_known problem.signature context e (atoms_known valid h) (assert_known problem valid bounds context (grown_sound valid h) e next)
atoms_known {problem} {bounds} valid (went_left {context = context} {l = l} {kind = kind} h next) =
    added_known problem.signature context (split_entry l kind SplitLeft) (atoms_known valid h) (split_known problem valid bounds context (grown_sound valid h) l kind next)
atoms_known {problem} {bounds} valid (went_right {context = context} {l = l} {kind = kind} h next) =
    added_known problem.signature context (split_entry (complement l) kind SplitRight) (atoms_known valid h) (split_known problem valid bounds context (grown_sound valid h) l kind next)

literal_known : (names : SignatureValue) (Q : AtomValue → Type 0) (p : Pattern) → IsAtomWith Q p → IsKnownPattern names p → IsAtomWith (λ a. IsTrue (is_known_atom names a)) p
literal_known names Q Any g h = g
literal_known names Q (Of a) g h = h

context_known : {problem : ProblemValue} {bounds : Bounds} {context : Context} → IsValid problem → IsGrown problem bounds context → IsKnownContext problem.signature context
context_known {problem} {context = context} valid h =
    let is = (grown h).0 in
    record {
      first = is.first;
      later = λ k e lt stands. literal_known problem.signature _ e.atom (is.later k e lt stands) (atoms_known valid h k e stands);
    }

-- ---- answers
GivesGrown : ProblemValue → Bounds → TreeOutcome → Type 0
GivesGrown problem bounds (Sat context) = IsGrown problem bounds context
GivesGrown problem bounds (Closed list) = Unit {0}
GivesGrown problem bounds (Met b) = Unit {0}

both_give : (problem : ProblemValue) (bounds : Bounds) (left right : TreeOutcome) → GivesGrown problem bounds left → GivesGrown problem bounds right → GivesGrown problem bounds (both left right)
unfolding GivesGrown
both_give problem bounds (Sat context) right f g = f
both_give problem bounds (Closed list) (Sat context) f g = g
both_give problem bounds (Met b) (Sat context) f g = g
both_give problem bounds (Met b) (Closed list) f g = tt
both_give problem bounds (Met b) (Met c) f g = tt
both_give problem bounds (Closed list) (Met c) f g = tt
both_give problem bounds (Closed list) (Closed more) f g = tt

gives : {problem : ProblemValue} {bounds : Bounds} {context : Context} {outcome : TreeOutcome} → IsGrown problem bounds context → HasOutcome problem bounds context outcome → GivesGrown problem bounds outcome
unfolding GivesGrown
gives h (closes next leaf) = tt
gives h (is_exhausted next) = h
gives h (is_bounded next) = tt
gives h (asserts next later) = gives (asserted h next) later
gives {problem} {bounds} h (splits {left = left} {right = right} next f g e) =
    let P : TreeOutcome → Type 0 = λ o. GivesGrown problem bounds o in
    subst P (sym e) (both_give problem bounds left right (gives (went_left h next) f) (gives (went_right h next) g))

no_list : (test : Bool) (list : List InstanceValue) (context : Context) → Satisfiable context ≡ cond test (Unsatisfiable list) (GaveUp bound.List) → ⊥
no_list true list context h = cc h
no_list false list context h = cc h

by_outcome : (problem : ProblemValue) (bounds : Bounds) (context : Context) (outcome : TreeOutcome) → GivesGrown problem bounds outcome → Satisfiable context ≡ answer_of bounds outcome → IsGrown problem bounds context
unfolding GivesGrown
by_outcome problem bounds context (Sat other) h e =
    let same : context ≡ other = cc e in
    let P : Context → Type 0 = λ x. IsGrown problem bounds x in
    subst P (sym same) h
by_outcome problem bounds context (Closed list) h e = absurd (no_list (nat_le (list_weight list) bounds.list) list context e)
by_outcome problem bounds context (Met b) h e = cc e

pub answer_over : (problem : ProblemValue) (bounds : Bounds) → IsValid problem → (reply : AnswerValue) → HasAnswer problem bounds reply → IsOverProblem problem reply
answer_over problem bounds valid (Unsatisfiable list) h =
    let refuted = (unsatisfiable_refuted problem bounds list valid h).0 in
    λ k d lt. instance_known problem valid (get_or list k d) (refuted.instances k d lt)
answer_over problem bounds valid (Satisfiable context) h =
    context_known valid (by_outcome problem bounds context h.0 (gives started h.1) h.2)
answer_over problem bounds valid (GaveUp b) h = tt
