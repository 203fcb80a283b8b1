-- Neither the literal of a Split nor its complement contradicts the context.
use Rattle.std.proofs.Common.{◌≡◌, ℕ, zero, suc, ◌+◌, ◌<◌, Bool, true, false, not, ◌||◌, cond, eqb, ◌⊎◌, inl, inr, List, [], ◌∷◌, ◌++◌, length, get_or, slice_get, Option, Some, None, IsTrue, refl, sym, subst, ap, ◌∙◌, one-add, arith}
use Rattle.std.proofs.lemmas.Option.{same_Some}
use Rattle.std.specs.List.{list_any}
use Rattle.std.proofs.lemmas.Bool.{eqb-true}
use Rattle.std.proofs.lemmas.Grind.{common_steps}
use Rattle.me_terms.specs.Terms.{TermValue, Var, App, Arguments, Nil, Cons, AtomValue}
use Rattle.me_terms.specs.Substitutions.{Substitution, Family, apply_term, apply_arguments, apply_atom, followed_by, Generalizes, IsVariant}
use Rattle.me_terms.specs.Variables.{variables_of, is_ground, are_ground, first_ones, place_of, is_canonical, canonical}
use Rattle.me_terms.specs.Measures.{complement}
use Rattle.me_terms.specs.Values.{ProblemValue, EntryValue}
use Rattle.me_terms.specs.Context.{Context, StandsAt, pseudo, IsContext, IsAtomWith, IsVisible}
use Rattle.me_terms.specs.Contradictory.{Unifiable, Clash, IsContradictory}
use Rattle.me_terms.specs.Produces.{HasException}
use Rattle.me_terms.specs.Positions.{StandsAgainst, positions_of, entry_at}
use Rattle.me_terms.specs.Unifier.{IsSolvedBy, unified}
use Rattle.me_terms.specs.Remainder.{is_variable, is_remaining, remains_at, remainder_from}
use Rattle.me_terms.specs.Split.{IsSplit, split_kind}
use Rattle.me_terms.specs.declared.bounds.Bounds.{Bounds}
use Rattle.me_terms.specs.declared.entry.Kind.{Kind}
use Rattle.me_terms.specs.declared.entry.Kind.TheVariants.{Universal, Parametric}
use Rattle.me_terms.specs.declared.atom.Literal.{Literal}
use Rattle.me_terms.specs.declared.atom.Pattern.{Pattern}
use Rattle.me_terms.specs.declared.atom.Pattern.TheVariants.{Any, Of}
use Rattle.me_terms.specs.TermEqualityLaws.{both_parts}
use Rattle.me_laws.proofs.Generality.{arguments_unchanged, arguments_followed, generalizes_transitive}
use Rattle.me_laws.proofs.Renaming.{Each, each_map, Good, good_variables, variables_agree_all}

-- ---- a canonical form is a variant
Named : List ℕ → ℕ → Type 0
Named ys x = get_or ys (place_of x ys) 0 ≡ x

eqb_itself : (x : ℕ) → eqb x x ≡ true
eqb_itself x = grind (arith, common_steps)

StandsIn : List ℕ → ℕ → Type 0
StandsIn [] x = ⊥
StandsIn (y ∷ ys) x = (y ≡ x) ⊎ StandsIn ys x

in_left : (ys zs : List ℕ) (x : ℕ) → StandsIn ys x → StandsIn (ys ++ zs) x
unfolding StandsIn
in_left [] zs x h = absurd h
in_left (y ∷ ys) zs x (inl h) = inl h
in_left (y ∷ ys) zs x (inr h) = inr (in_left ys zs x h)

in_last : (ys : List ℕ) (x : ℕ) → StandsIn (ys ++ x ∷ []) x
unfolding StandsIn
in_last [] x = inl refl
in_last (y ∷ ys) x = inr (in_last ys x)

in_any_by : (ys : List ℕ) (x y : ℕ) (test : Bool) → eqb x y ≡ test → (test || list_any (eqb x) ys) ≡ true → (list_any (eqb x) ys ≡ true → StandsIn ys x) → StandsIn (y ∷ ys) x
unfolding StandsIn
in_any_by ys x y true e h later = inl (sym (eqb-true x y e))
in_any_by ys x y false e h later = inr (later h)

in_any : (ys : List ℕ) (x : ℕ) → list_any (eqb x) ys ≡ true → StandsIn ys x
unfolding StandsIn
in_any [] x h = cc
in_any (y ∷ ys) x h = in_any_by ys x y (eqb x y) refl h (λ k. in_any ys x k)

in_seen : (seen xs : List ℕ) (x : ℕ) → StandsIn seen x → StandsIn (first_ones seen xs) x
in_seen seen [] x h = h
in_seen seen (y ∷ xs) x h =
    elim (list_any (eqb y) seen) as (λ v. StandsIn (cond v (first_ones seen xs) (first_ones (seen ++ y ∷ []) xs)) x) [
      | true ↦ in_seen seen xs x h
      | false ↦ in_seen (seen ++ y ∷ []) xs x (in_left seen (y ∷ []) x h)
    ]

in_first : (seen xs : List ℕ) (y : ℕ) (test : Bool) → list_any (eqb y) seen ≡ test → StandsIn (cond test (first_ones seen xs) (first_ones (seen ++ y ∷ []) xs)) y
in_first seen xs y true e = in_seen seen xs y (in_any seen y e)
in_first seen xs y false e = in_seen (seen ++ y ∷ []) xs y (in_last seen y)

each_in : (seen xs : List ℕ) → Each (StandsIn (first_ones seen xs)) xs
unfolding Each
each_in seen [] = tt
each_in seen (y ∷ xs) = (
  in_first seen xs y (list_any (eqb y) seen) refl,
  elim (list_any (eqb y) seen) as (λ v. Each (StandsIn (cond v (first_ones seen xs) (first_ones (seen ++ y ∷ []) xs))) xs) [ true ↦ each_in seen xs | false ↦ each_in (seen ++ y ∷ []) xs ],
)

not_equal : (x y : ℕ) → eqb x y ≡ false → y ≡ x → ⊥
not_equal x y e h = let same : eqb x y ≡ true = ap (eqb x) h ∙ eqb_itself x in cc

nothing_in : (x : ℕ) → StandsIn [] x → ⊥
unfolding StandsIn
nothing_in x h = h

named_by : (ys : List ℕ) (x y : ℕ) (test : Bool) → eqb x y ≡ test → StandsIn (y ∷ ys) x → (StandsIn ys x → Named ys x) → get_or (y ∷ ys) (cond test 0 (1 + place_of x ys)) 0 ≡ x
unfolding StandsIn Named
named_by ys x y true e h later = sym (eqb-true x y e)
named_by ys x y false e (inl h) later = absurd (not_equal x y e h)
named_by ys x y false e (inr h) later = rw (one-add (place_of x ys)) (later h)

named : (ys : List ℕ) (x : ℕ) → StandsIn ys x → Named ys x
unfolding Named
named [] x h = absurd (nothing_in x h)
named (y ∷ ys) x h = named_by ys x y (eqb x y) refl h (λ k. named ys x k)

back_args : (ts : Arguments) → apply_arguments (λ k. Var (get_or (first_ones [] (variables_of ts)) k 0)) (apply_arguments (λ x. Var (place_of x (first_ones [] (variables_of ts)))) ts) ≡ ts
unfolding Named
back_args ts =
    let ys = first_ones [] (variables_of ts) in
    let σ : Substitution = λ x. Var (place_of x ys) in
    let τ : Substitution = λ k. Var (get_or ys k 0) in
    sym (arguments_followed σ τ ts)
    ∙ (variables_agree_all (followed_by σ τ) Var ts (each_map (StandsIn ys) (λ x. followed_by σ τ x ≡ Var x) (λ x h. ap (λ n. Var n) (named ys x h)) (variables_of ts) (each_in [] (variables_of ts)))
    ∙ arguments_unchanged ts)

pub canonical_below : (a : AtomValue) → Generalizes (Of a) (Of (canonical a))
canonical_below a = (λ x. Var (place_of x (first_ones [] (variables_of a.args))), refl)

pub canonical_above : (a : AtomValue) → Generalizes (Of (canonical a)) (Of a)
canonical_above a =
    let args = back_args a.args in
    (λ k. Var (get_or (first_ones [] (variables_of a.args)) k 0), λ i. record { pred = a.pred; args = args i })

-- ---- where a variable becomes a term that is none, the atom is strictly more general
all_variables : (s : Substitution) (xs : List ℕ) → Each (λ x. is_variable (s x) ≡ true) xs → list_any (λ x. not (is_variable (s x))) xs ≡ false
unfolding Each
all_variables s [] h = refl
all_variables s (x ∷ xs) h = λ i. not (h.0 i) || all_variables s xs h.1 i

good_variable : (s back : Substitution) (x : ℕ) → Good s back x → is_variable (s x) ≡ true
unfolding Good
good_variable s back x h = ap is_variable h.0

strict : (s : Substitution) (a : AtomValue) → list_any (λ x. not (is_variable (s x))) (variables_of a.args) ≡ true → ¬ Generalizes (Of (apply_atom s a)) (Of a)
strict s a some h =
    let goods = good_variables s h.0 a.args (ap (λ (c : AtomValue). c.args) h.1) in
    let none = all_variables s (variables_of a.args) (each_map (Good s h.0) (λ x. is_variable (s x) ≡ true) (good_variable s h.0) (variables_of a.args) goods) in
    cc (some, none)

-- ---- a ground atom is its only instance
mutual
  ground_same : (s : Substitution) (t : TermValue) → is_ground t ≡ true → apply_term s t ≡ t
  ground_same s (Var x) h = cc
  ground_same s (App f ts) h = ap (App f) (ground_all s ts h)

  ground_all : (s : Substitution) (ts : Arguments) → are_ground ts ≡ true → apply_arguments s ts ≡ ts
  ground_all s Nil h = refl
  ground_all s (Cons t ts) h =
      let parts = both_parts (is_ground t) (are_ground ts) h in
      let first = ground_same s t parts.0 in
      let later = ground_all s ts parts.1 in
      λ i. Cons (first i) (later i)

pub ground_atom : (s : Substitution) (a : AtomValue) → are_ground a.args ≡ true → apply_atom s a ≡ a
ground_atom s a h = let args = ground_all s a.args h in λ i. record { pred = a.pred; args = args i }

-- ---- the entry of a remainder place
-- an entry at a position of the remainder
pub record Left (context : Context) (positions : List (Option ℕ)) (u : Family) (place : ℕ) (i j : ℕ) : Type 0 where
  pub k : ℕ
  pub entry : EntryValue
  pub at : place ≡ i + j
  pub position : slice_get positions j ≡ Some (Some k)
  pub stands : StandsAt context k entry
  pub remains : is_remaining entry.kind entry.atom (u (place + 1)) ≡ true

left_by : (context : Context) (k : ℕ) (ks : List (Option ℕ)) (u : Family) (i : ℕ) (o : Option EntryValue) → slice_get context k ≡ o → remains_at o (u (i + 1)) ≡ true → Left context (Some k ∷ ks) u i i 0
left_by context k ks u i None e h = cc h
left_by context k ks u i (Some f) e h = record { k = k; entry = f; at = omega arith; position = refl; stands = e; remains = h }

left_here : (context : Context) (o : Option ℕ) (ks : List (Option ℕ)) (u : Family) (i : ℕ) → remains_at (entry_at context o) (u (i + 1)) ≡ true → Left context (o ∷ ks) u i i 0
left_here context None ks u i h = cc
left_here context (Some k) ks u i h = left_by context k ks u i (slice_get context k) refl h

left_later : (context : Context) (o : Option ℕ) (ks : List (Option ℕ)) (u : Family) (place i : ℕ) → (j : ℕ) × Left context ks u place (i + 1) j → (j : ℕ) × Left context (o ∷ ks) u place i j
left_later context o ks u place i h =
    (suc h.0, record { k = h.1.k; entry = h.1.entry; at = omega (arith, h.1.at); position = h.1.position; stands = h.1.stands; remains = h.1.remains })

left_cases : (context : Context) (o : Option ℕ) (ks : List (Option ℕ)) (u : Family) (place i : ℕ) (test : Bool) → remains_at (entry_at context o) (u (i + 1)) ≡ test → (StandsIn (remainder_from (i + 1) context ks u) place → (j : ℕ) × Left context ks u place (i + 1) j) → StandsIn (cond test (i ∷ remainder_from (i + 1) context ks u) (remainder_from (i + 1) context ks u)) place → (j : ℕ) × Left context (o ∷ ks) u place i j
unfolding StandsIn
left_cases context o ks u place i true e later (inl h) =
    let P : ℕ → Type 0 = λ n. (j : ℕ) × Left context (o ∷ ks) u n i j in subst P h (0, left_here context o ks u i e)
left_cases context o ks u place i true e later (inr h) = left_later context o ks u place i (later h)
left_cases context o ks u place i false e later h = left_later context o ks u place i (later h)

left_of_remainder : (context : Context) (ks : List (Option ℕ)) (u : Family) (place i : ℕ) → StandsIn (remainder_from i context ks u) place → (j : ℕ) × Left context ks u place i j
left_of_remainder context [] u place i h = absurd (nothing_in place h)
left_of_remainder context (o ∷ ks) u place i h =
    left_cases context o ks u place i (remains_at (entry_at context o) (u (i + 1))) refl (λ g. left_of_remainder context ks u place (i + 1) g) h

in_contains : (xs : List ℕ) (x k : ℕ) → k < length xs → get_or xs k x ≡ x → StandsIn xs x
unfolding StandsIn
in_contains [] x k lt h = absurd (omega arith)
in_contains (y ∷ ys) x zero lt h = inl h
in_contains (y ∷ ys) x (suc k) lt h = inr (in_contains ys x k (omega arith) h)

-- ---- the law
-- an entry that remains is Parametric, and strictly more general than what it meets
parametric_by : (kind : Kind) (p : Pattern) (s : Substitution) (own : Kind) → is_remaining kind p s ≡ true → kind ≡ Universal → IsAtomWith (λ a. IsTrue (is_canonical a) × (IsTrue (are_ground a.args) → own ≡ Universal)) p → ⊥
parametric_by kind Any s own remains u h = h
parametric_by Universal (Of a) s own remains u h = cc remains
parametric_by Parametric (Of a) s own remains u h = cc u

-- a ground entry is Universal
ground_by : (p : Pattern) (own : Kind) (c : AtomValue) → own ≡ Parametric → are_ground c.args ≡ true → Generalizes (Of c) p → IsAtomWith (λ a. IsTrue (is_canonical a) × (IsTrue (are_ground a.args) → own ≡ Universal)) p → ⊥
ground_by Any own c k g h at = h
ground_by (Of b) own c k g h at =
    let same : c ≡ b = sym (ground_atom h.0 c g) ∙ h.1 in
    let P : AtomValue → Type 0 = λ a. are_ground a.args ≡ true in
    let kinds : Universal ≡ Parametric = sym (at.1 (subst P same g)) ∙ k in cc kinds

ground_entry : (context : Context) → IsContext context → (j : ℕ) (f : EntryValue) (c : AtomValue) → StandsAt context j f → f.kind ≡ Parametric → are_ground c.args ≡ true → Generalizes (Of c) f.atom → ⊥
ground_entry context h zero f c stands k g below =
    let same : pseudo h.first.0 ≡ f = same_Some (pseudo h.first.0) f (sym h.first.1 ∙ stands) in
    let P : EntryValue → Type 0 = λ e. Generalizes (Of c) e.atom in subst P (sym same) below
ground_entry context h (suc j) f c stands k g below = ground_by f.atom f.kind c k g below (h.later (suc j) f (omega arith) stands)

parametric : (context : Context) → IsContext context → (k : ℕ) (e : EntryValue) → StandsAt context k e → (s : Substitution) → is_remaining e.kind e.atom s ≡ true → ¬ (e.kind ≡ Universal)
parametric context h zero e stands s remains u =
    let same : pseudo h.first.0 ≡ e = same_Some (pseudo h.first.0) e (sym h.first.1 ∙ stands) in
    let kinds : Parametric ≡ Universal = ap (λ (f : EntryValue). f.kind) same ∙ u in cc kinds
parametric context h (suc k) e stands s remains u = parametric_by e.kind e.atom s e.kind remains u (h.later (suc k) e (omega arith) stands)

above : (p : Pattern) (kind : Kind) (s t : Substitution) (a : AtomValue) → is_remaining kind p s ≡ true → IsSolvedBy s p t a → ¬ Generalizes (Of (apply_atom t a)) p
above Any kind s t a remains meets h = h
above (Of b) Universal s t a remains meets h = cc remains
above (Of b) Parametric s t a remains meets h =
    let P : AtomValue → Type 0 = λ c. Generalizes (Of c) (Of b) in strict s b remains (subst P (sym meets) h)

-- what would contradict is an exception
module _ (context : Context) (context_is : IsContext context) (e : EntryValue) (x : AtomValue) (c : AtomValue) (up : Generalizes (Of c) (Of x)) (down : Generalizes (Of x) (Of c)) (general : Generalizes e.atom (Of x)) (strictly : ¬ Generalizes (Of x) e.atom) (free : ¬ HasException context e x) where
  by_universal : (j : ℕ) (f : EntryValue) → IsVisible context j f → f.kind ≡ Universal → Generalizes f.atom (Of c) → ⊥
  by_universal j f visible u g = free (j, f, visible, generalizes_transitive f.atom (Of c) (Of x) g up, inl u)

  by_variant : (j : ℕ) (f : EntryValue) → IsVisible context j f → f.kind ≡ Parametric → IsVariant f.atom (Of c) → ⊥
  by_variant j f visible q g =
      let below : Generalizes (Of x) f.atom = generalizes_transitive (Of x) (Of c) f.atom down g.1 in
      free (j, f, visible, generalizes_transitive f.atom (Of c) (Of x) g.0 up, inr (q, (generalizes_transitive e.atom (Of x) f.atom general below, λ back. strictly (generalizes_transitive (Of x) f.atom e.atom below back))))

  unified_ground : (p : Pattern) → are_ground c.args ≡ true → Unifiable p (Of c) → Generalizes p (Of c)
  unified_ground Any g h = tt
  unified_ground (Of b) g h = (h.0, h.2 ∙ ground_atom h.1 c g)

  clash : (j : ℕ) (f : EntryValue) → IsVisible context j f → (kind other : Kind) → f.kind ≡ other → ((kind ≡ Universal) → are_ground c.args ≡ true) → Clash other f.atom kind (Of c) → ⊥
  clash j f visible Universal Universal k g h = by_universal j f visible k (unified_ground f.atom (g refl) h)
  clash j f visible Parametric Universal k g h = by_universal j f visible k h
  clash j f visible Parametric Parametric k g h = by_variant j f visible k h
  clash j f visible Universal Parametric k g h = ground_entry context context_is j f c visible.0 k (g refl) h

  pub apart_from : (l : Literal) → l.atom ≡ c → (kind : Kind) → ((kind ≡ Universal) → are_ground c.args ≡ true) → ¬ IsContradictory context l kind
  apart_from l same kind g h =
      let P : AtomValue → Type 0 = λ a. Clash h.1.kind h.1.atom kind (Of a) in
      clash h.0 h.1 h.2 kind h.1.kind refl g (subst P same h.4)

split_ground : (l : Literal) (test : Bool) → are_ground l.atom.args ≡ test → (cond test Universal Parametric ≡ Universal) → are_ground l.atom.args ≡ true
split_ground l true e h = e
split_ground l false e h = cc h

pub split_apart : (problem : ProblemValue) (bounds : Bounds) (context : Context) (c : ℕ) (tuple : List ℕ) (place size : ℕ) (l : Literal) → IsContext context → IsSplit problem bounds context c place tuple size l → (¬ IsContradictory context l (split_kind l)) × (¬ IsContradictory context (complement l) (split_kind l))
split_apart problem bounds context c tuple place size l context_is h =
    let found = left_of_remainder context (positions_of None tuple) h.family place 0 (in_contains _ place h.remains.0 h.remains.1 h.remains.2) in
    let left = found.1 in
    let same_place : found.0 ≡ place = omega (arith, left.at) in
    let P : ℕ → Type 0 = λ n. slice_get (positions_of None tuple) n ≡ Some (Some left.k) in
    let opposed : StandsAgainst context h.clause.literals (positions_of None tuple) place h.literal left.k left.entry = record { literal = h.literal_at; position = subst P same_place left.position; stands = left.stands } in
    let produces = h.productive.productive place left.k h.literal left.entry opposed in
    let meets = h.productive.unifier.unifier.solves place left.k h.literal left.entry opposed in
    let x = (unified h.family h.literal).atom in
    let free : ¬ HasException context left.entry x = elim produces.undisputed as (λ _. ¬ HasException context left.entry x) [ inl u ↦ absurd (parametric context context_is left.k left.entry left.stands (h.family (place + 1)) left.remains u) | inr free ↦ free ] in
    let atoms : l.atom ≡ canonical x = ap (λ (m : Literal). m.atom) h.split_literal in
    let Q : AtomValue → Type 0 = λ a. (split_kind l ≡ Universal) → are_ground a.args ≡ true in
    let ground_if = subst Q atoms (split_ground l (are_ground l.atom.args) refl) in
    let strictly = above left.entry.atom left.entry.kind (h.family (place + 1)) (h.family 0) h.literal.atom left.remains meets in (
      apart_from context context_is left.entry x (canonical x) (canonical_above x) (canonical_below x) produces.generalizes strictly free l atoms (split_kind l) ground_if,
      apart_from context context_is left.entry x (canonical x) (canonical_above x) (canonical_below x) produces.generalizes strictly free (complement l) atoms (split_kind l) ground_if,
    )
