-- The next step of a context is determined: it does not depend on which most general unifiers are taken.
use Rattle.std.proofs.Common.{◌≡◌, ℕ, ◌+◌, not, cond, inl, inr, List, [], ◌∷◌, ◌++◌, slice_get, Option, Some, None, refl, sym, subst, ap, ◌∙◌, arith}
use Rattle.std.proofs.lemmas.Option.{same_Some}
use Rattle.std.specs.List.{list_any}
use Rattle.me_terms.specs.Terms.{TermValue, Var, App, AtomValue}
use Rattle.me_terms.specs.Substitutions.{Substitution, Family, apply_term, apply_atom}
use Rattle.me_terms.specs.Variables.{variables_of}
use Rattle.me_terms.specs.Measures.{canonical_literal, literal_depth, literal_weight}
use Rattle.me_terms.specs.Values.{ProblemValue, ClauseValue, EntryValue}
use Rattle.me_terms.specs.Context.{Context}
use Rattle.me_terms.specs.Unifier.{IsUnifier, IsContextUnifier, unified}
use Rattle.me_terms.specs.Positions.{positions_of, entry_at, ClauseAt}
use Rattle.me_terms.specs.Remainder.{is_variable, is_remaining, remains_at, remainder_from, remainder}
use Rattle.me_terms.specs.Assert.{IsAssert, asserted_entry, HasAssert}
use Rattle.me_terms.specs.Productive.{IsProductiveUnifier, HasProductive}
use Rattle.me_terms.specs.Split.{IsSplit, split_kind, HasSplit}
use Rattle.me_terms.specs.Next.{NextValue, Close, Assert, Split, Exhausted, Bounded, HasRoom, IsFirstRemaining, IsFull, IsStopped, MeetsBound, IsNext}
use Rattle.me_terms.specs.Order.{Precedes, clause_key, assert_key, split_key, IsLeastClose, IsLeastAssert, IsLeastSplit}
use Rattle.me_terms.specs.Close.{HasClose}
use Rattle.me_terms.specs.declared.bounds.Bound.{Bound}
use Rattle.me_terms.specs.declared.bounds.Bound.TheVariants as bound
use Rattle.me_terms.specs.declared.bounds.Bounds.{Bounds}
use Rattle.me_terms.specs.declared.entry.Kind.{Kind}
use Rattle.me_terms.specs.declared.entry.Kind.TheVariants.{Universal, Parametric}
use Rattle.me_terms.specs.declared.atom.Literal.{Literal}
use Rattle.me_terms.specs.declared.atom.Pattern.{Pattern}
use Rattle.me_terms.specs.declared.atom.Pattern.TheVariants.{Any, Of}
use Rattle.me_laws.proofs.Lifting.{atom_along}
use Rattle.me_laws.proofs.Renaming.{Variants, canonical_same, depth_same, weight_same}

-- each family is the other, followed by a substitution
pub record Renamed (u v : Family) : Type 0 where
  pub there : Substitution
  pub back : Substitution
  pub to : (space x : ℕ) → apply_term there (u space x) ≡ v space x
  pub from : (space x : ℕ) → apply_term back (v space x) ≡ u space x

pub renamed : (context : Context) (literals : List Literal) (positions : List (Option ℕ)) (u v : Family) → IsUnifier context literals positions u → IsUnifier context literals positions v → Renamed u v
renamed context literals positions u v f g =
    let a = f.most_general v g.solves in
    let b = g.most_general u f.solves in
    record { there = a.0; back = b.0; to = a.1; from = b.1 }

unfoldable pub unified_variants : (u v : Family) → Renamed u v → (a : AtomValue) → Variants (apply_atom (u 0) a) (apply_atom (v 0) a)
unified_variants u v h a = record {
  there = h.there;
  back = h.back;
  to = atom_along (u 0) (v 0) h.there (h.to 0) a;
  from = atom_along (v 0) (u 0) h.back (h.from 0) a;
}

pub canonical_unified : (u v : Family) → Renamed u v → (l : Literal) → canonical_literal (unified u l) ≡ canonical_literal (unified v l)
canonical_unified u v h l =
    let same = canonical_same (apply_atom (u 0) l.atom) (apply_atom (v 0) l.atom) (unified_variants u v h l.atom) in
    λ i. record { positive = l.positive; atom = same i }

-- ---- the remainder
variable_same : (s t : TermValue) (there back : Substitution) → apply_term there s ≡ t → apply_term back t ≡ s → is_variable s ≡ is_variable t
variable_same (Var x) (Var y) there back h g = refl
variable_same (App f ss) (App g ts) there back h e = refl
variable_same (Var x) (App g ts) there back h e = cc
variable_same (App f ss) (Var y) there back h e = cc

remaining_same : (kind : Kind) (p : Pattern) (s t : Substitution) → ((x : ℕ) → is_variable (s x) ≡ is_variable (t x)) → is_remaining kind p s ≡ is_remaining kind p t
remaining_same kind Any s t h = refl
remaining_same Universal (Of a) s t h = refl
remaining_same Parametric (Of a) s t h = λ i. list_any (λ x. not (h x i)) (variables_of a.args)

remains_same : (o : Option EntryValue) (s t : Substitution) → ((x : ℕ) → is_variable (s x) ≡ is_variable (t x)) → remains_at o s ≡ remains_at o t
remains_same None s t h = refl
remains_same (Some e) s t h = remaining_same e.kind e.atom s t h

from_same : (i : ℕ) (context : Context) (positions : List (Option ℕ)) (u v : Family) → Renamed u v → remainder_from i context positions u ≡ remainder_from i context positions v
from_same i context [] u v h = refl
from_same i context (k ∷ ks) u v h =
    let later = from_same (i + 1) context ks u v h in
    let here = remains_same (entry_at context k) (u (i + 1)) (v (i + 1)) (λ x. variable_same (u (i + 1) x) (v (i + 1) x) h.there h.back (h.to (i + 1) x) (h.from (i + 1) x)) in
    λ j. cond (here j) (i ∷ later j) (later j)

pub remainder_same : (context : Context) (positions : List (Option ℕ)) (u v : Family) → Renamed u v → remainder context positions u ≡ remainder context positions v
remainder_same context positions u v h = from_same 0 context positions u v h

-- ---- what the candidates add
pub clause_same : (problem : ProblemValue) (c : ℕ) (x y : ClauseValue) → ClauseAt problem c x → ClauseAt problem c y → x ≡ y
clause_same problem c x y f g = same_Some x y (sym f ∙ g)

pub literal_same : (literals : List Literal) (k : ℕ) (l m : Literal) → slice_get literals k ≡ Some l → slice_get literals k ≡ Some m → l ≡ m
literal_same literals k l m f g = same_Some l m (sym f ∙ g)

-- the literals at a place, under two most general unifiers of two equal clauses
pub unified_same : (context : Context) (skip : Option ℕ) (tuple : List ℕ) (place : ℕ) (x y : ClauseValue) (l m : Literal) (u v : Family) → x ≡ y → slice_get x.literals place ≡ Some l → slice_get y.literals place ≡ Some m → IsContextUnifier context x.literals skip tuple u → IsContextUnifier context y.literals skip tuple v → Renamed u v × (l ≡ m)
unified_same context skip tuple place x y l m u v e at at' f g =
    let P : ClauseValue → Type 0 = λ z. IsContextUnifier context z.literals skip tuple v in
    let Q : ClauseValue → Type 0 = λ z. slice_get z.literals place ≡ Some m in
    let theirs = subst P (sym e) g in
    (renamed context x.literals (positions_of skip tuple) u v f.unifier theirs.unifier, literal_same x.literals place l m at (subst Q (sym e) at'))

pub assert_determined : (problem : ProblemValue) (bounds : Bounds) (context : Context) (c place : ℕ) (tuple : List ℕ) (e e' : EntryValue) → IsAssert problem bounds context c place tuple e → IsAssert problem bounds context c place tuple e' → e ≡ e'
assert_determined problem bounds context c place tuple e e' f g =
    let both = unified_same context (Some place) tuple place f.clause g.clause f.literal g.literal f.family g.family (clause_same problem c f.clause g.clause f.clause_at g.clause_at) f.literal_at g.literal_at f.unifier g.unifier in
    let same : canonical_literal (unified f.family f.literal) ≡ canonical_literal (unified g.family g.literal) = canonical_unified f.family g.family both.0 f.literal ∙ ap (λ l. canonical_literal (unified g.family l)) both.1 in
    f.entry ∙ (ap (asserted_entry context c place tuple) same ∙ sym g.entry)

pub split_determined : (problem : ProblemValue) (bounds : Bounds) (context : Context) (c : ℕ) (tuple : List ℕ) (place size size' : ℕ) (l l' : Literal) → IsSplit problem bounds context c place tuple size l → IsSplit problem bounds context c place tuple size' l' → l ≡ l'
split_determined problem bounds context c tuple place size size' l l' f g =
    let both = unified_same context None tuple place f.clause g.clause f.literal g.literal f.family g.family (clause_same problem c f.clause g.clause f.productive.clause_at g.productive.clause_at) f.literal_at g.literal_at f.productive.unifier g.productive.unifier in
    let same : canonical_literal (unified f.family f.literal) ≡ canonical_literal (unified g.family g.literal) = canonical_unified f.family g.family both.0 f.literal ∙ ap (λ m. canonical_literal (unified g.family m)) both.1 in
    f.split_literal ∙ (same ∙ sym g.split_literal)

-- ---- least keys
pub precedes_antisymmetric : (key other : List ℕ) → Precedes key other → Precedes other key → key ≡ other
precedes_antisymmetric [] [] f g = refl
precedes_antisymmetric [] (y ∷ other) f g = absurd g
precedes_antisymmetric (x ∷ key) [] f g = absurd f
precedes_antisymmetric (x ∷ key) (y ∷ other) (inl f) (inl g) = absurd (omega arith)
precedes_antisymmetric (x ∷ key) (y ∷ other) (inl f) (inr g) = absurd (omega (arith, g.0))
precedes_antisymmetric (x ∷ key) (y ∷ other) (inr f) (inl g) = absurd (omega (arith, f.0))
precedes_antisymmetric (x ∷ key) (y ∷ other) (inr f) (inr g) = cc (f.0, precedes_antisymmetric key other f.1 g.1)

no_nil : (xs : List ℕ) (x : ℕ) → [] ≡ xs ++ x ∷ [] → ⊥
no_nil [] x h = cc
no_nil (y ∷ xs) x h = cc

last_injective : (xs ys : List ℕ) (x y : ℕ) → xs ++ x ∷ [] ≡ ys ++ y ∷ [] → (xs ≡ ys) × (x ≡ y)
last_injective [] [] x y h = (refl, cc)
last_injective [] (b ∷ ys) x y h = let e : [] ≡ ys ++ y ∷ [] = cc h in absurd (no_nil ys y e)
last_injective (a ∷ xs) [] x y h = let e : [] ≡ xs ++ x ∷ [] = cc h in absurd (no_nil xs x e)
last_injective (a ∷ xs) (b ∷ ys) x y h =
    let rest : xs ++ x ∷ [] ≡ ys ++ y ∷ [] = cc h in
    let both = last_injective xs ys x y rest in
    (cc (h, both.0), both.1)

pub close_unique : (problem : ProblemValue) (context : Context) (c c' : ℕ) (tuple tuple' : List ℕ) → IsLeastClose problem context c tuple → IsLeastClose problem context c' tuple' → Close c tuple ≡ Close c' tuple'
close_unique problem context c c' tuple tuple' f g =
    cc (precedes_antisymmetric (clause_key c tuple) (clause_key c' tuple') (f.1 c' tuple' g.0) (g.1 c tuple f.0))

carried_assert : (problem : ProblemValue) (bounds : Bounds) (context : Context) (e : EntryValue) {c c' place place' : ℕ} {tuple tuple' : List ℕ} → c ≡ c' → place ≡ place' → tuple ≡ tuple' → IsAssert problem bounds context c place tuple e → IsAssert problem bounds context c' place' tuple' e
carried_assert problem bounds context e h i j f =
    let P : ℕ × ℕ × List ℕ → Type 0 = λ k. IsAssert problem bounds context k.0 k.1 k.2 e in
    subst P (λ n. (h n, i n, j n)) f

carried_split : (problem : ProblemValue) (bounds : Bounds) (context : Context) (size : ℕ) (l : Literal) {c c' place place' : ℕ} {tuple tuple' : List ℕ} → c ≡ c' → tuple ≡ tuple' → place ≡ place' → IsSplit problem bounds context c place tuple size l → IsSplit problem bounds context c' place' tuple' size l
carried_split problem bounds context size l h i j f =
    let P : ℕ × List ℕ × ℕ → Type 0 = λ k. IsSplit problem bounds context k.0 k.2 k.1 size l in
    subst P (λ n. (h n, i n, j n)) f

pub assert_unique : (problem : ProblemValue) (bounds : Bounds) (context : Context) (e e' : EntryValue) → IsLeastAssert problem bounds context e → IsLeastAssert problem bounds context e' → e ≡ e'
assert_unique problem bounds context e e' f g =
    let key = precedes_antisymmetric (assert_key f.0 f.1 f.2 e) (assert_key g.0 g.1 g.2 e') (f.4 g.0 g.1 g.2 e' g.3) (g.4 f.0 f.1 f.2 e f.3) in
    let c : f.0 ≡ g.0 = cc key in
    let place : f.1 ≡ g.1 = cc key in
    let tuple : f.2 ≡ g.2 = cc key in
    let moved : IsAssert problem bounds context g.0 g.1 g.2 e = carried_assert problem bounds context e c place tuple f.3 in
    assert_determined problem bounds context g.0 g.1 g.2 e e' moved g.3

pub split_unique : (problem : ProblemValue) (bounds : Bounds) (context : Context) (l l' : Literal) → IsLeastSplit problem bounds context l → IsLeastSplit problem bounds context l' → l ≡ l'
split_unique problem bounds context l l' f g =
    let key = precedes_antisymmetric (split_key f.0 f.3 f.1 f.2 l) (split_key g.0 g.3 g.1 g.2 l') (f.5 g.0 g.1 g.2 g.3 l' g.4) (g.5 f.0 f.1 f.2 f.3 l f.4) in
    let c : f.0 ≡ g.0 = cc key in
    let rest : f.3 ++ f.1 ∷ [] ≡ g.3 ++ g.1 ∷ [] = cc key in
    let both = last_injective f.3 g.3 f.1 g.1 rest in
    let moved : IsSplit problem bounds context g.0 g.1 g.3 f.2 l = carried_split problem bounds context f.2 l c both.0 both.1 f.4 in
    split_determined problem bounds context g.0 g.3 g.1 f.2 g.2 l l' moved g.4

-- ---- the bound that stops a search
carried_productive : (problem : ProblemValue) (context : Context) (clause : ClauseValue) (family : Family) {c c' : ℕ} {tuple tuple' : List ℕ} → c ≡ c' → tuple ≡ tuple' → IsProductiveUnifier problem context c tuple clause family → IsProductiveUnifier problem context c' tuple' clause family
carried_productive problem context clause family h i f =
    let P : ℕ × List ℕ → Type 0 = λ k. IsProductiveUnifier problem context k.0 k.1 clause family in
    subst P (λ n. (h n, i n)) f

-- the literals at the first remainder places of two unifiers of the same clause and tuple
alike_there : (problem : ProblemValue) (context : Context) (c : ℕ) (tuple : List ℕ) (x y : ClauseValue) (u v : Family) (i j : ℕ) (is js : List ℕ) (l m : Literal) → IsProductiveUnifier problem context c tuple x u → IsProductiveUnifier problem context c tuple y v → remainder context (positions_of None tuple) u ≡ i ∷ is → remainder context (positions_of None tuple) v ≡ j ∷ js → slice_get x.literals i ≡ Some l → slice_get y.literals j ≡ Some m → (literal_depth (unified u l) ≡ literal_depth (unified v m)) × (literal_weight (unified u l) ≡ literal_weight (unified v m))
alike_there problem context c tuple x y u v i j is js l m f g first first' at at' =
    let same = clause_same problem c x y f.clause_at g.clause_at in
    let P : ClauseValue → Type 0 = λ z. IsContextUnifier context z.literals None tuple v in
    let moved = subst P (sym same) g.unifier in
    let turn = renamed context x.literals (positions_of None tuple) u v f.unifier.unifier moved.unifier in
    let places : i ∷ is ≡ j ∷ js = sym first ∙ (remainder_same context (positions_of None tuple) u v turn ∙ first') in
    let place : i ≡ j = cc places in
    let Q : ClauseValue × ℕ → Type 0 = λ z. slice_get z.0.literals z.1 ≡ Some m in
    let there : slice_get x.literals i ≡ Some m = subst Q (λ n. (sym same n, sym place n)) at' in
    let literals : l ≡ m = literal_same x.literals i l m at there in
    let variants = unified_variants u v turn l.atom in (
      depth_same (apply_atom (u 0) l.atom) (apply_atom (v 0) l.atom) variants ∙ ap (λ n. literal_depth (unified v n)) literals,
      ap (λ n. 1 + n) (weight_same (apply_atom (u 0) l.atom) (apply_atom (v 0) l.atom) variants) ∙ ap (λ n. literal_weight (unified v n)) literals,
    )

pub left_alike : (problem : ProblemValue) (context : Context) (l m : Literal) → IsFirstRemaining problem context l → IsFirstRemaining problem context m → (literal_depth l ≡ literal_depth m) × (literal_weight l ≡ literal_weight m)
left_alike problem context l m f g =
    let key = precedes_antisymmetric (clause_key f.c f.tuple) (clause_key g.c g.tuple) (f.first g.c g.tuple g.clause g.family g.productive) (g.first f.c f.tuple f.clause f.family f.productive) in
    let c : f.c ≡ g.c = cc key in
    let tuple : f.tuple ≡ g.tuple = cc key in
    let mine = carried_productive problem context f.clause f.family c tuple f.productive in
    let P : List ℕ → Type 0 = λ t. remainder context (positions_of None t) f.family ≡ f.place ∷ f.others in
    let both = alike_there problem context g.c g.tuple f.clause g.clause f.family g.family f.place g.place f.others g.others f.literal g.literal mine g.productive (subst P tuple f.first_place) g.first_place f.literal_at g.literal_at in
    (ap literal_depth f.unified_literal ∙ (both.0 ∙ ap literal_depth (sym g.unified_literal)), ap literal_weight f.unified_literal ∙ (both.1 ∙ ap literal_weight (sym g.unified_literal)))

split_is_productive : (problem : ProblemValue) (bounds : Bounds) (context : Context) → HasSplit problem bounds context → HasProductive problem context
split_is_productive problem bounds context h = (h.0, h.3, h.5.clause, h.5.family, h.5.productive)

left_is_productive : (problem : ProblemValue) (context : Context) (l : Literal) → IsFirstRemaining problem context l → HasProductive problem context
left_is_productive problem context l h = (h.c, h.tuple, h.clause, h.family, h.productive)

-- ---- the next step
depth_or_weight : (problem : ProblemValue) (bounds : Bounds) (context : Context) → IsStopped problem bounds context bound.Depth → IsStopped problem bounds context bound.Weight → ⊥
depth_or_weight problem bounds context f g =
    let same = left_alike problem context f.2.0 g.2.0 f.2.1 g.2.1 in omega (arith, same.0, f.2.2, g.2.2.0)

stopped_or_full : (problem : ProblemValue) (bounds : Bounds) (context : Context) (b : Bound) → IsStopped problem bounds context b → IsFull problem bounds context → ⊥
stopped_or_full problem bounds context b f g = elim g.1 as (λ _. ⊥) [ inl a ↦ f.0 a | inr s ↦ f.1 s ]

bound_unique : (problem : ProblemValue) (bounds : Bounds) (context : Context) (b b' : Bound) → MeetsBound problem bounds context b → MeetsBound problem bounds context b' → b ≡ b'
bound_unique problem bounds context bound.Depth bound.Depth f g = refl
bound_unique problem bounds context bound.Weight bound.Weight f g = refl
bound_unique problem bounds context bound.Literals bound.Literals f g = refl
bound_unique problem bounds context bound.List b' f g = absurd f
bound_unique problem bounds context bound.Depth bound.List f g = absurd g
bound_unique problem bounds context bound.Weight bound.List f g = absurd g
bound_unique problem bounds context bound.Literals bound.List f g = absurd g
bound_unique problem bounds context bound.Depth bound.Weight f g = absurd (depth_or_weight problem bounds context f g)
bound_unique problem bounds context bound.Weight bound.Depth f g = absurd (depth_or_weight problem bounds context g f)
bound_unique problem bounds context bound.Depth bound.Literals f g = absurd (stopped_or_full problem bounds context bound.Depth f g)
bound_unique problem bounds context bound.Weight bound.Literals f g = absurd (stopped_or_full problem bounds context bound.Weight f g)
bound_unique problem bounds context bound.Literals bound.Depth f g = absurd (stopped_or_full problem bounds context bound.Depth g f)
bound_unique problem bounds context bound.Literals bound.Weight f g = absurd (stopped_or_full problem bounds context bound.Weight g f)

-- what a bound rules out beside it
no_assert_room : (problem : ProblemValue) (bounds : Bounds) (context : Context) (b : Bound) → MeetsBound problem bounds context b → HasAssert problem bounds context → HasRoom bounds context → ⊥
no_assert_room problem bounds context bound.Depth f h room = f.0 h
no_assert_room problem bounds context bound.Weight f h room = f.0 h
no_assert_room problem bounds context bound.Literals f h room = f.0 room
no_assert_room problem bounds context bound.List f h room = f

no_split_room : (problem : ProblemValue) (bounds : Bounds) (context : Context) (b : Bound) → MeetsBound problem bounds context b → HasSplit problem bounds context → HasRoom bounds context → ⊥
no_split_room problem bounds context bound.Depth f h room = f.1 h
no_split_room problem bounds context bound.Weight f h room = f.1 h
no_split_room problem bounds context bound.Literals f h room = f.0 room
no_split_room problem bounds context bound.List f h room = f

not_exhausted : (problem : ProblemValue) (bounds : Bounds) (context : Context) (b : Bound) → MeetsBound problem bounds context b → ¬ HasAssert problem bounds context → ¬ HasProductive problem context → ⊥
not_exhausted problem bounds context bound.Depth f h g = g (left_is_productive problem context f.2.0 f.2.1)
not_exhausted problem bounds context bound.Weight f h g = g (left_is_productive problem context f.2.0 f.2.1)
not_exhausted problem bounds context bound.Literals f h g =
    elim f.1 as (λ _. ⊥) [ inl a ↦ h a | inr s ↦ g (split_is_productive problem bounds context s) ]
not_exhausted problem bounds context bound.List f h g = f

has_close : (problem : ProblemValue) (context : Context) (c : ℕ) (tuple : List ℕ) → IsLeastClose problem context c tuple → HasClose problem context
has_close problem context c tuple h = (c, tuple, h.0)

has_assert : (problem : ProblemValue) (bounds : Bounds) (context : Context) (e : EntryValue) → IsLeastAssert problem bounds context e → HasAssert problem bounds context
has_assert problem bounds context e h = (h.0, h.1, h.2, e, h.3)

has_split : (problem : ProblemValue) (bounds : Bounds) (context : Context) (l : Literal) → IsLeastSplit problem bounds context l → HasSplit problem bounds context
has_split problem bounds context l h = (h.0, h.1, h.2, h.3, l, h.4)

pub next_unique : (problem : ProblemValue) (bounds : Bounds) (context : Context) (s t : NextValue) → IsNext problem bounds context s → IsNext problem bounds context t → s ≡ t
next_unique problem bounds context (Close c tuple) (Close c' tuple') f g = close_unique problem context c c' tuple tuple' f g
next_unique problem bounds context (Close c tuple) (Assert e) f g = absurd (g.0 (has_close problem context c tuple f))
next_unique problem bounds context (Close c tuple) (Split l kind) f g = absurd (g.0 (has_close problem context c tuple f))
next_unique problem bounds context (Close c tuple) Exhausted f g = absurd (g.0 (has_close problem context c tuple f))
next_unique problem bounds context (Close c tuple) (Bounded b) f g = absurd (g.0 (has_close problem context c tuple f))
next_unique problem bounds context (Assert e) (Close c tuple) f g = absurd (f.0 (has_close problem context c tuple g))
next_unique problem bounds context (Split l kind) (Close c tuple) f g = absurd (f.0 (has_close problem context c tuple g))
next_unique problem bounds context Exhausted (Close c tuple) f g = absurd (f.0 (has_close problem context c tuple g))
next_unique problem bounds context (Bounded b) (Close c tuple) f g = absurd (f.0 (has_close problem context c tuple g))
next_unique problem bounds context (Assert e) (Assert e') f g = ap (λ (x : EntryValue). Assert x) (assert_unique problem bounds context e e' f.2 g.2)
next_unique problem bounds context (Assert e) (Split l kind) f g = absurd (g.1 (has_assert problem bounds context e f.2))
next_unique problem bounds context (Assert e) Exhausted f g = absurd (g.1 (has_assert problem bounds context e f.2))
next_unique problem bounds context (Assert e) (Bounded b) f g = absurd (no_assert_room problem bounds context b g.1 (has_assert problem bounds context e f.2) f.1)
next_unique problem bounds context (Split l kind) (Assert e) f g = absurd (f.1 (has_assert problem bounds context e g.2))
next_unique problem bounds context Exhausted (Assert e) f g = absurd (f.1 (has_assert problem bounds context e g.2))
next_unique problem bounds context (Bounded b) (Assert e) f g = absurd (no_assert_room problem bounds context b f.1 (has_assert problem bounds context e g.2) g.1)
next_unique problem bounds context (Split l kind) (Split l' kind') f g =
    let same = split_unique problem bounds context l l' f.3 g.3 in
    let kinds : kind ≡ kind' = f.4 ∙ (ap split_kind same ∙ sym g.4) in
    λ i. Split (same i) (kinds i)
next_unique problem bounds context (Split l kind) Exhausted f g = absurd (g.2 (split_is_productive problem bounds context (has_split problem bounds context l f.3)))
next_unique problem bounds context Exhausted (Split l kind) f g = absurd (f.2 (split_is_productive problem bounds context (has_split problem bounds context l g.3)))
next_unique problem bounds context (Split l kind) (Bounded b) f g = absurd (no_split_room problem bounds context b g.1 (has_split problem bounds context l f.3) f.2)
next_unique problem bounds context (Bounded b) (Split l kind) f g = absurd (no_split_room problem bounds context b f.1 (has_split problem bounds context l g.3) g.2)
next_unique problem bounds context Exhausted Exhausted f g = refl
next_unique problem bounds context Exhausted (Bounded b) f g = absurd (not_exhausted problem bounds context b g.1 f.1 f.2)
next_unique problem bounds context (Bounded b) Exhausted f g = absurd (not_exhausted problem bounds context b f.1 g.1 g.2)
next_unique problem bounds context (Bounded b) (Bounded b') f g = ap (λ (x : Bound). Bounded x) (bound_unique problem bounds context b b' f.1 g.1)
