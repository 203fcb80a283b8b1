-- The equations of a clause's places against its unifiers.
use Rattle.std.proofs.Common.{◌≡◌, ℕ, zero, suc, ◌+◌, ◌↔◌, List, [], ◌∷◌, ◌++◌, slice_get, Option, Some, None, refl, subst, ap, arith}
use Rattle.std.proofs.lemmas.List.{get_or_append_left, length-append}
use Rattle.std.proofs.lemmas.List.Elements.{All-append, All-nil}
use Rattle.std.proofs.lemmas.Option.{same_Some}
use Rattle.me_terms.specs.Substitutions.{Family}
use Rattle.me_terms.specs.Values.{EntryValue}
use Rattle.me_terms.specs.Context.{Context, StandsAt}
use Rattle.me_terms.specs.Positions.{entry_at}
use Rattle.me_terms.specs.Unifier.{IsSolvedBy, Solves, IsUnifier}
use Rattle.me_terms.specs.declared.atom.Literal.{Literal}
use Rattle.me_terms.specs.declared.atom.Pattern.{Pattern}
use Rattle.me_terms.specs.declared.atom.Pattern.TheVariants.{Any, Of}
use Rattle.me_laws.proofs.UnifiersExist.{unifiers_exist}
use Rattle.me_unify.specs.Equations.{Equation, equation, SolvesOne, SolvesAll, IsSolvable, IsMostGeneral}
use Rattle.me_unify.specs.ClauseEquations.{equations_with, equations_at, equations_from, clause_equations}

-- ---- solutions of lists of equations in parts
pub solves_first : (u : Family) (es fs : List Equation) → SolvesAll u (es ++ fs) → SolvesAll u es
solves_first u es fs h k d lt = subst (SolvesOne u) (get_or_append_left es fs d k lt) (h k d (omega (arith, length-append es fs)))

pub solves_later : (u : Family) (es fs : List Equation) → SolvesAll u (es ++ fs) → SolvesAll u fs
solves_later u [] fs h = h
solves_later u (e ∷ es) fs h = solves_later u es fs (λ k d lt. h (suc k) d (omega arith))

pub solves_one : (u : Family) (e : Equation) → SolvesOne u e → SolvesAll u (e ∷ [])
solves_one u e h zero d lt = h
solves_one u e h (suc k) d lt = absurd (omega arith)

-- ---- one place
with_solved : (u : Family) (n : ℕ) (p : Pattern) (l : Literal) → SolvesAll u (equations_with n p l) → IsSolvedBy (u n) p (u 0) l.atom
with_solved u n Any l h = tt
with_solved u n (Of a) l h = h 0 (equation n a 0 l.atom) (omega arith)

solved_with : (u : Family) (n : ℕ) (p : Pattern) (l : Literal) → IsSolvedBy (u n) p (u 0) l.atom → SolvesAll u (equations_with n p l)
solved_with u n Any l h = All-nil (SolvesOne u)
solved_with u n (Of a) l h = solves_one u (equation n a 0 l.atom) h

by_entry : (u : Family) (n : ℕ) (o : Option EntryValue) (l : Literal) → ((e : EntryValue) → o ≡ Some e → IsSolvedBy (u n) e.atom (u 0) l.atom) → SolvesAll u (equations_at n o l)
by_entry u n None l h = All-nil (SolvesOne u)
by_entry u n (Some e) l h = solved_with u n e.atom l (h e refl)

by_position : (u : Family) (n : ℕ) (context : Context) (o : Option ℕ) (l : Literal) → ((k : ℕ) (e : EntryValue) → o ≡ Some k → StandsAt context k e → IsSolvedBy (u n) e.atom (u 0) l.atom) → SolvesAll u (equations_at n (entry_at context o) l)
by_position u n context None l h = All-nil (SolvesOne u)
by_position u n context (Some k) l h = by_entry u n (slice_get context k) l (λ e stands. h k e refl stands)

-- ---- all places
each_solved : (u : Family) (i : ℕ) (context : Context) (ls : List Literal) (ks : List (Option ℕ)) → SolvesAll u (equations_from i context ls ks)
    → (j k n : ℕ) (l : Literal) (e : EntryValue) → slice_get ls j ≡ Some l → slice_get ks j ≡ Some (Some k) → StandsAt context k e → n ≡ (i + 1) + j → IsSolvedBy (u n) e.atom (u 0) l.atom
each_solved u i context [] ks h j k n l e at pos stands number = cc
each_solved u i context (m ∷ ls) [] h j k n l e at pos stands number = cc
each_solved u i context (m ∷ ls) (o ∷ ks) h zero k n l e at pos stands number =
    let here = solves_first u (equations_at (i + 1) (entry_at context o) m) (equations_from (i + 1) context ls ks) h in
    let P : Option ℕ → Type 0 = λ z. SolvesAll u (equations_at (i + 1) (entry_at context z) m) in
    let Q : Option EntryValue → Type 0 = λ z. SolvesAll u (equations_at (i + 1) z m) in
    let there = with_solved u (i + 1) e.atom m (subst Q stands (subst P (same_Some o (Some k) pos) here)) in
    let place : i + 1 ≡ n = omega (arith, number) in
    let R : ℕ × Literal → Type 0 = λ z. IsSolvedBy (u z.0) e.atom (u 0) z.1.atom in
    subst R (λ t. (place t, same_Some m l at t)) there
each_solved u i context (m ∷ ls) (o ∷ ks) h (suc j) k n l e at pos stands number =
    each_solved u (i + 1) context ls ks (solves_later u (equations_at (i + 1) (entry_at context o) m) (equations_from (i + 1) context ls ks) h) j k n l e at pos stands (omega (arith, number))

all_solved : (u : Family) (i : ℕ) (context : Context) (ls : List Literal) (ks : List (Option ℕ))
    → ((j k n : ℕ) (l : Literal) (e : EntryValue) → slice_get ls j ≡ Some l → slice_get ks j ≡ Some (Some k) → StandsAt context k e → n ≡ (i + 1) + j → IsSolvedBy (u n) e.atom (u 0) l.atom) → SolvesAll u (equations_from i context ls ks)
all_solved u i context [] ks h = All-nil (SolvesOne u)
all_solved u i context (m ∷ ls) [] h = All-nil (SolvesOne u)
all_solved u i context (m ∷ ls) (o ∷ ks) h =
    All-append (SolvesOne u) (equations_at (i + 1) (entry_at context o) m) (equations_from (i + 1) context ls ks)
    (by_position u (i + 1) context o m (λ k e same stands. h 0 k (i + 1) m e refl (ap (λ (z : Option ℕ). Some z) same) stands (omega arith)))
    (all_solved u (i + 1) context ls ks (λ j k n l e at pos stands number. h (suc j) k n l e at pos stands (omega (arith, number))))

-- ---- the bridge
-- A family solves the clause's equations exactly where it solves that of each place.
pub solves_of : (context : Context) (ls : List Literal) (ks : List (Option ℕ)) (u : Family) → SolvesAll u (clause_equations context ls ks) → Solves context ls ks u
solves_of context ls ks u h i k l e o = each_solved u 0 context ls ks h i k (i + 1) l e o.literal o.position o.stands (omega arith)

pub of_solves : (context : Context) (ls : List Literal) (ks : List (Option ℕ)) (u : Family) → Solves context ls ks u → SolvesAll u (clause_equations context ls ks)
of_solves context ls ks u h =
    all_solved u 0 context ls ks (λ j k n l e at pos stands number.
    let P : ℕ → Type 0 = λ z. IsSolvedBy (u z) e.atom (u 0) l.atom in
    let place : j + 1 ≡ n = omega (arith, number) in
    subst P place (h j k l e (record { literal = at; position = pos; stands = stands })))

-- What is most general for the clause's equations is exactly a unifier of the clause and the positions.
pub unifier_iff : (context : Context) (ls : List Literal) (ks : List (Option ℕ)) (u : Family) → IsMostGeneral (clause_equations context ls ks) u ↔ IsUnifier context ls ks u
unifier_iff context ls ks u = (
  λ h. record {
    solves = solves_of context ls ks u h.solves;
    most_general = λ v s. h.most_general v (of_solves context ls ks v s);
  },
  λ h. record {
    solves = of_solves context ls ks u h.solves;
    most_general = λ v s. h.most_general v (solves_of context ls ks v s);
  },
)

-- Equations of a clause that have a solution have a most general one.
pub general_of : (context : Context) (ls : List Literal) (ks : List (Option ℕ)) → IsSolvable (clause_equations context ls ks) → (u : Family) × IsMostGeneral (clause_equations context ls ks) u
general_of context ls ks h =
    let found = unifiers_exist context ls ks h.0 (solves_of context ls ks h.0 h.1) in
    (found.0, (unifier_iff context ls ks found.0).1 found.1)
