-- Terms over the signature, under substitutions and in the clauses of a valid problem.
use Rattle.std.proofs.Common.{◌≡◌, ℕ, zero, suc, ◌+◌, Bool, true, false, ◌&&◌, ◌||◌, List, [], ◌∷◌, slice_get, Some, refl, sym, subst, ap, ◌∙◌}
use Rattle.std.proofs.lemmas.Option.{same_Some}
use Rattle.std.specs.List.{list_all}
use Rattle.me_terms.specs.Terms.{TermValue, Var, App, Arguments, Nil, Cons, AtomValue}
use Rattle.me_terms.specs.Substitutions.{Substitution, apply_term, apply_arguments}
use Rattle.me_terms.specs.Variables.{variables_of, count, first_ones, place_of, canonical}
use Rattle.me_terms.specs.Values.{SignatureValue, ProblemValue, ClauseValue, EntryValue}
use Rattle.me_terms.specs.Context.{Context, StandsAt}
use Rattle.me_terms.specs.Positions.{ClauseAt}
use Rattle.me_terms.specs.Signatures.{is_known, are_known, is_known_atom, takes}
use Rattle.me_terms.specs.Validity.{IsValidClause, IsValid}
use Rattle.me_terms.specs.TermEqualityLaws.{both_parts}
use Rattle.me_terms.specs.declared.atom.Literal.{Literal}
use Rattle.me_terms.specs.declared.atom.Pattern.{Pattern}
use Rattle.me_terms.specs.declared.atom.Pattern.TheVariants.{Any, Of}
use Rattle.me_laws.proofs.Lists.{all_at}

pub both_true : (a b : Bool) → a ≡ true → b ≡ true → (a && b) ≡ true
both_true true b f g = g
both_true false b f g = cc

pub left_true : (a b : Bool) → a ≡ true → (a || b) ≡ true
left_true true b h = refl
left_true false b h = cc

pub count_applied : (s : Substitution) (ts : Arguments) → count (apply_arguments s ts) ≡ count ts
count_applied s Nil = refl
count_applied s (Cons t ts) = ap (λ n. 1 + n) (count_applied s ts)

-- what has a known instance is known
mutual
  pub known_above : (names : SignatureValue) (r : Substitution) (t : TermValue) → is_known names (apply_term r t) ≡ true → is_known names t ≡ true
  known_above names r (Var x) h = refl
  known_above names r (App f ts) h =
      let parts = both_parts (takes (slice_get names.functions f) (count (apply_arguments r ts))) (are_known names (apply_arguments r ts)) h in
      both_true (takes (slice_get names.functions f) (count ts)) (are_known names ts) (ap (takes (slice_get names.functions f)) (sym (count_applied r ts)) ∙ parts.0) (all_known_above names r ts parts.1)

  all_known_above : (names : SignatureValue) (r : Substitution) (ts : Arguments) → are_known names (apply_arguments r ts) ≡ true → are_known names ts ≡ true
  all_known_above names r Nil h = refl
  all_known_above names r (Cons t ts) h =
      let parts = both_parts (is_known names (apply_term r t)) (are_known names (apply_arguments r ts)) h in
      both_true (is_known names t) (are_known names ts) (known_above names r t parts.0) (all_known_above names r ts parts.1)

-- a known term under known terms is known
mutual
  known_under : (names : SignatureValue) (s : Substitution) → ((x : ℕ) → is_known names (s x) ≡ true) → (t : TermValue) → is_known names t ≡ true → is_known names (apply_term s t) ≡ true
  known_under names s k (Var x) h = k x
  known_under names s k (App f ts) h =
      let parts = both_parts (takes (slice_get names.functions f) (count ts)) (are_known names ts) h in
      both_true (takes (slice_get names.functions f) (count (apply_arguments s ts))) (are_known names (apply_arguments s ts)) (ap (takes (slice_get names.functions f)) (count_applied s ts) ∙ parts.0) (all_known_under names s k ts parts.1)

  pub all_known_under : (names : SignatureValue) (s : Substitution) → ((x : ℕ) → is_known names (s x) ≡ true) → (ts : Arguments) → are_known names ts ≡ true → are_known names (apply_arguments s ts) ≡ true
  all_known_under names s k Nil h = refl
  all_known_under names s k (Cons t ts) h =
      let parts = both_parts (is_known names t) (are_known names ts) h in
      both_true (is_known names (apply_term s t)) (are_known names (apply_arguments s ts)) (known_under names s k t parts.0) (all_known_under names s k ts parts.1)

pub canonical_known : (names : SignatureValue) (a : AtomValue) → are_known names a.args ≡ true → are_known names (canonical a).args ≡ true
canonical_known names a h = all_known_under names (λ x. Var (place_of x (first_ones [] (variables_of a.args)))) (λ x. refl) a.args h

-- ---- patterns, contexts and clauses
abbrev pub IsKnownPattern : SignatureValue → Pattern → Type 0
IsKnownPattern names Any = Unit {0}
IsKnownPattern names (Of a) = are_known names a.args ≡ true

abbrev pub AreKnown : SignatureValue → Context → Type 0
AreKnown names context = (k : ℕ) (e : EntryValue) → StandsAt context k e → IsKnownPattern names e.atom

abbrev pub AreKnownLiterals : SignatureValue → List Literal → Type 0
AreKnownLiterals names literals = (i : ℕ) (l : Literal) → slice_get literals i ≡ Some l → are_known names l.atom.args ≡ true

known_literal : (names : SignatureValue) (ls : List Literal) (i : ℕ) (l : Literal) → list_all (λ m. is_known_atom names m.atom) ls ≡ true → slice_get ls i ≡ Some l → are_known names l.atom.args ≡ true
known_literal names [] i l h at = cc
known_literal names (m ∷ ls) zero l h at =
    let parts = both_parts (is_known_atom names m.atom) (list_all (λ n. is_known_atom names n.atom) ls) h in
    let whole = both_parts (takes (slice_get names.predicates m.atom.pred) (count m.atom.args)) (are_known names m.atom.args) parts.0 in
    let P : Literal → Type 0 = λ n. are_known names n.atom.args ≡ true in
    subst P (same_Some m l at) whole.1
known_literal names (m ∷ ls) (suc i) l h at =
    let parts = both_parts (is_known_atom names m.atom) (list_all (λ n. is_known_atom names n.atom) ls) h in
    known_literal names ls i l parts.1 at

pub clause_known : (problem : ProblemValue) → IsValid problem → (c : ℕ) (clause : ClauseValue) → ClauseAt problem c clause → AreKnownLiterals problem.signature clause.literals
clause_known problem valid c clause at = λ i l here.
    let whole : IsValidClause problem.signature clause = all_at (IsValidClause problem.signature) problem.clauses c clause valid.clauses at in
    known_literal problem.signature clause.literals i l whole.known here
