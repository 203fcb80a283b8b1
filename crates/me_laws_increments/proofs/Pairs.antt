-- Each place of a candidate has a pair.
use Rattle.std.proofs.Common.{◌≡◌, ℕ, zero, suc, ◌+◌, ◌<◌, Bool, true, false, not, cond, ◌&&◌, ◌||◌, ◌⊎◌, inl, inr, IsTrue, List, [], ◌∷◌, ◌++◌, slice_get, Option, Some, None, refl, sym, subst, ap, ◌∙◌, arith}
use Rattle.std.specs.List.{list_any, Contains}
use Rattle.std.proofs.lemmas.Option.{same_Some, slice_get_within}
use Rattle.me_terms.specs.Substitutions.{Substitution, Family, apply_term, apply_arguments}
use Rattle.me_terms.specs.Terms.{TermValue, Var, App, Arguments, Nil, Cons, AtomValue}
use Rattle.me_terms.specs.Variables.{term_variables, variables_of, is_ground, are_ground, is_canonical}
use Rattle.me_terms.specs.Values.{ProblemValue, ClauseValue, EntryValue}
use Rattle.me_terms.specs.Context.{Context, StandsAt, IsContext, IsAtomWith, IsVisible, pseudo}
use Rattle.me_terms.specs.Contradictory.{Unifiable}
use Rattle.me_terms.specs.Positions.{ClauseAt, positions_of, entry_at}
use Rattle.me_terms.specs.Unifier.{IsSolvedBy, IsContextUnifier}
use Rattle.me_terms.specs.Remainder.{is_variable, is_remaining, remains_at, remainder_from, remainder}
use Rattle.me_terms.specs.Assert.{is_universal}
use Rattle.me_terms.specs.declared.entry.Kind.{Kind}
use Rattle.me_terms.specs.declared.entry.Kind.TheVariants.{Universal, Parametric}
use Rattle.me_terms.specs.declared.atom.Literal.{Literal}
use Rattle.me_terms.specs.declared.atom.Pattern.{Pattern}
use Rattle.me_terms.specs.declared.atom.Pattern.TheVariants.{Any, Of}
use Rattle.me_terms.specs.TermEqualityLaws.{both_parts}
use Rattle.me_laws.proofs.Determined.{clause_same}
use Rattle.me_laws.proofs.NoContradiction.{ground_atom}
use Rattle.me_laws_increments.specs.Pairs.{IsPair, HasLiteralPair, CloseUsesLiterals, AssertUsesLiterals, ProductiveNeedsPairs, CloseNeedsPairs, AssertNeedsPairs, GroundPlacesByKind}
use Rattle.me_laws_increments.proofs.Tuples.{got_position}
use Rattle.me_laws_increments.proofs.Places.{placed, filled, filled_beside}

solved_unifies : (s t : Substitution) (p : Pattern) (a : AtomValue) → IsSolvedBy s p t a → Unifiable p (Of a)
solved_unifies s t Any a h = tt
solved_unifies s t (Of b) a h = (s, t, h)

-- the entry at a place of a context unifier
pair_at : (context : Context) (literals : List Literal) (skip : Option ℕ) (tuple : List ℕ) (u : Family) (i k : ℕ) (l : Literal) → IsContextUnifier context literals skip tuple u → slice_get literals i ≡ Some l → slice_get (positions_of skip tuple) i ≡ Some (Some k) → (e : EntryValue) × IsVisible context k e × IsPair e l
pair_at context literals skip tuple u i k l h at there =
    let seen = h.opposite.visible i k l at there in
    let solved = h.unifier.solves i k l seen.0 (record { literal = at; position = there; stands = seen.1.0 }) in
    (seen.0, seen.1, (seen.2, solved_unifies (u (i + 1)) (u 0) seen.0.atom l.atom solved))

-- ---- the pseudo-literal remains
none_by : (i : ℕ) (context : Context) (o : Option ℕ) (ks : List (Option ℕ)) (u : Family) (test : Bool) → remains_at (entry_at context o) (u (i + 1)) ≡ test → cond test (i ∷ remainder_from (i + 1) context ks u) (remainder_from (i + 1) context ks u) ≡ [] → (remains_at (entry_at context o) (u (i + 1)) ≡ false) × (remainder_from (i + 1) context ks u ≡ [])
none_by i context o ks u true e h = cc h
none_by i context o ks u false e h = (e, h)

not_remaining : (i : ℕ) (context : Context) (ks : List (Option ℕ)) (u : Family) → remainder_from i context ks u ≡ [] → (j k : ℕ) → slice_get ks j ≡ Some (Some k) → (s : Substitution) × (remains_at (slice_get context k) s ≡ false)
not_remaining i context [] u h j k at = cc at
not_remaining i context (o ∷ ks) u h zero k at =
    let parts = none_by i context o ks u (remains_at (entry_at context o) (u (i + 1))) refl h in
    let P : Option ℕ → Type 0 = λ x. remains_at (entry_at context x) (u (i + 1)) ≡ false in
    (u (i + 1), subst P (same_Some o (Some k) at) parts.0)
not_remaining i context (o ∷ ks) u h (suc j) k at =
    let parts = none_by i context o ks u (remains_at (entry_at context o) (u (i + 1))) refl h in
    not_remaining (i + 1) context ks u parts.1 j k at

pseudo_remains : (context : Context) → IsContext context → (s : Substitution) → remains_at (slice_get context 0) s ≡ false → ⊥
pseudo_remains context h s e =
    let P : Option EntryValue → Type 0 = λ x. remains_at x s ≡ false in
    let bad : true ≡ false = subst P h.first.1 e in cc bad

no_pseudo : (context : Context) (skip : Option ℕ) (tuple : List ℕ) (u : Family) → IsContext context → remainder context (positions_of skip tuple) u ≡ [] → ¬ Contains tuple 0
no_pseudo context skip tuple u is none used =
    let place = placed skip tuple 0 used in
    let at = not_remaining 0 context (positions_of skip tuple) u none place.0 0 place.1 in
    pseudo_remains context is at.0 at.1

positive_by : (k : ℕ) → ¬ (k ≡ 0) → 0 < k
positive_by zero h = absurd (h refl)
positive_by (suc k) h = omega arith

literal_pair : (context : Context) (literals : List Literal) (skip : Option ℕ) (tuple : List ℕ) (u : Family) (i k : ℕ) (l : Literal) → IsContextUnifier context literals skip tuple u → ¬ Contains tuple 0 → slice_get literals i ≡ Some l → slice_get (positions_of skip tuple) i ≡ Some (Some k) → HasLiteralPair context l
literal_pair context literals skip tuple u i k l h none at there =
    let pair = pair_at context literals skip tuple u i k l h at there in
    let P : ℕ → Type 0 = λ n. Contains tuple n in
    (k, pair.0, positive_by k (λ e. none (subst P e (got_position skip tuple i k there))), pair.1, pair.2)

pub productive_needs_pairs : ProductiveNeedsPairs
productive_needs_pairs problem context c tuple clause family i l h at =
    let lt = slice_get_within clause.literals i l at in
    let long = h.unifier.opposite.each_place in
    let k = filled tuple i (omega (arith, lt, long)) in
    let pair = pair_at context clause.literals None tuple family i k.0 l h.unifier at k.1 in (k.0, pair.0, pair.1, pair.2)

moved : (problem : ProblemValue) (c : ℕ) (x y : ClauseValue) (i : ℕ) (l : Literal) → ClauseAt problem c x → ClauseAt problem c y → slice_get x.literals i ≡ Some l → slice_get y.literals i ≡ Some l
moved problem c x y i l f g at =
    let P : ClauseValue → Type 0 = λ z. slice_get z.literals i ≡ Some l in subst P (clause_same problem c x y f g) at

pub close_uses_literals : CloseUsesLiterals
close_uses_literals problem context c tuple is h = no_pseudo context None tuple h.family is h.no_remainder

pub assert_uses_literals : AssertUsesLiterals
assert_uses_literals problem bounds context c place tuple e is h = no_pseudo context (Some place) tuple h.family is h.no_remainder

pub close_needs_pairs : CloseNeedsPairs
close_needs_pairs problem context c tuple clause i l is h clause_at at =
    let mine = moved problem c clause h.clause i l clause_at h.clause_at at in
    let lt = slice_get_within h.clause.literals i l mine in
    let long = h.unifier.opposite.each_place in
    let k = filled tuple i (omega (arith, lt, long)) in
    literal_pair context h.clause.literals None tuple h.family i k.0 l h.unifier (close_uses_literals problem context c tuple is h) mine k.1

pub assert_needs_pairs : AssertNeedsPairs
assert_needs_pairs problem bounds context c place tuple e clause i l is h clause_at at other =
    let mine = moved problem c clause h.clause i l clause_at h.clause_at at in
    let lt = slice_get_within h.clause.literals i l mine in
    let skipped = slice_get_within h.clause.literals place h.literal h.literal_at in
    let long = h.unifier.opposite.each_place in
    let k = filled_beside tuple place i (omega (arith, skipped, long)) (omega (arith, lt, long)) other in
    literal_pair context h.clause.literals (Some place) tuple h.family i k.0 l h.unifier (assert_uses_literals problem bounds context c place tuple e is h) mine k.1

-- ---- ground literals
one_leaves : (s : Substitution) (x : ℕ) (t : TermValue) → s x ≡ t → is_ground t ≡ true → list_any (λ y. not (is_variable (s y))) (x ∷ []) ≡ true
one_leaves s x (Var y) e h = cc h
one_leaves s x (App f ts) e h = ap (λ t. not (is_variable t) || false) e

any_by : (a whole left right : Bool) → whole ≡ (left || right) → (a || whole) ≡ ((a || left) || right)
any_by true whole left right h = refl
any_by false whole left right h = h

or_true : (b : Bool) → (b || true) ≡ true
or_true true = refl
or_true false = refl

any_append : (f : ℕ → Bool) (xs ys : List ℕ) → list_any f (xs ++ ys) ≡ (list_any f xs || list_any f ys)
any_append f [] ys = refl
any_append f (x ∷ xs) ys = any_by (f x) (list_any f (xs ++ ys)) (list_any f xs) (list_any f ys) (any_append f xs ys)

joined : (s : Substitution) (t : TermValue) (ts : Arguments) → (is_ground t ≡ true) ⊎ (list_any (λ x. not (is_variable (s x))) (term_variables t) ≡ true) → (are_ground ts ≡ true) ⊎ (list_any (λ x. not (is_variable (s x))) (variables_of ts) ≡ true) → (are_ground (Cons t ts) ≡ true) ⊎ (list_any (λ x. not (is_variable (s x))) (term_variables t ++ variables_of ts) ≡ true)
joined s t ts (inl g) (inl h) = inl (λ i. g i && h i)
joined s t ts (inl g) (inr h) = inr (any_append (λ x. not (is_variable (s x))) (term_variables t) (variables_of ts) ∙ (ap (λ b. list_any (λ x. not (is_variable (s x))) (term_variables t) || b) h ∙ or_true (list_any (λ x. not (is_variable (s x))) (term_variables t))))
joined s t ts (inr g) h = inr (any_append (λ x. not (is_variable (s x))) (term_variables t) (variables_of ts) ∙ ap (λ b. b || list_any (λ x. not (is_variable (s x))) (variables_of ts)) g)

-- where an instance is ground, a variable became a term that is none, or there was none
mutual
  ground_or : (s : Substitution) (t : TermValue) → is_ground (apply_term s t) ≡ true → (is_ground t ≡ true) ⊎ (list_any (λ x. not (is_variable (s x))) (term_variables t) ≡ true)
  ground_or s (Var x) h = inr (one_leaves s x (s x) refl h)
  ground_or s (App f ts) h = all_ground_or s ts h

  all_ground_or : (s : Substitution) (ts : Arguments) → are_ground (apply_arguments s ts) ≡ true → (are_ground ts ≡ true) ⊎ (list_any (λ x. not (is_variable (s x))) (variables_of ts) ≡ true)
  all_ground_or s Nil h = inl refl
  all_ground_or s (Cons t ts) h =
      let parts = both_parts (is_ground (apply_term s t)) (are_ground (apply_arguments s ts)) h in
      joined s t ts (ground_or s t parts.0) (all_ground_or s ts parts.1)

abbrev Literary : Kind → Pattern → Type 0
Literary kind p = IsAtomWith (λ a. IsTrue (is_canonical a) × (IsTrue (are_ground a.args) → kind ≡ Universal)) p

by_kind_of : (own : Kind) (p : Pattern) (s t : Substitution) (a : AtomValue) → (p ≡ Any → own ≡ Parametric) → (¬ (p ≡ Any) → Literary own p) → IsSolvedBy s p t a → are_ground a.args ≡ true → is_remaining own p s ≡ not (is_universal own)
by_kind_of own Any s t a pseudo_kind literary solved ground = sym (ap (λ k. not (is_universal k)) (pseudo_kind refl))
by_kind_of Universal (Of b) s t a pseudo_kind literary solved ground = refl
by_kind_of Parametric (Of b) s t a pseudo_kind literary solved ground =
    let P : AtomValue → Type 0 = λ x. are_ground x.args ≡ true in
    let instance_ground : are_ground (apply_arguments s b.args) ≡ true = subst P (sym (solved ∙ ground_atom t a ground)) ground in
    elim (all_ground_or s b.args instance_ground) as (λ _. list_any (λ x. not (is_variable (s x))) (variables_of b.args) ≡ true) [
      | inl whole ↦ let kinds : Parametric ≡ Universal = (literary (λ e. cc e)).1 whole in cc kinds
      | inr some ↦ some
    ]

any_kind : (context : Context) → IsContext context → (k : ℕ) (e : EntryValue) → StandsAt context k e → e.atom ≡ Any → e.kind ≡ Parametric
any_kind context h zero e stands is =
    let same : pseudo h.first.0 ≡ e = same_Some (pseudo h.first.0) e (sym h.first.1 ∙ stands) in sym (ap (λ (f : EntryValue). f.kind) same)
any_kind context h (suc k) e stands is =
    let P : Pattern → Type 0 = λ p. Literary e.kind p in absurd (subst P is (h.later (suc k) e (omega arith) stands))

literal_kind : (context : Context) → IsContext context → (k : ℕ) (e : EntryValue) → StandsAt context k e → ¬ (e.atom ≡ Any) → Literary e.kind e.atom
literal_kind context h zero e stands other =
    let same : pseudo h.first.0 ≡ e = same_Some (pseudo h.first.0) e (sym h.first.1 ∙ stands) in absurd (other (sym (ap (λ (f : EntryValue). f.atom) same)))
literal_kind context h (suc k) e stands other = h.later (suc k) e (omega arith) stands

pub ground_places_by_kind : GroundPlacesByKind
ground_places_by_kind = λ context literals positions u i k l e is solves at ground.
    by_kind_of e.kind e.atom (u (i + 1)) (u 0) l.atom (any_kind context is k e at.stands) (literal_kind context is k e at.stands) (solves i k l e at) ground
