-- What solves the equations of a clause's places is what solves the clause's equations with the entries.
use Rattle.std.proofs.Common.{◌≡◌, ℕ, zero, suc, ◌+◌, List, [], ◌∷◌, slice_get, Option, Some, None, refl, sym, subst, ap, ◌∙◌, arith}
use Rattle.std.specs.List.{All}
use Rattle.std.proofs.lemmas.Option.{same_Some}
use Rattle.me_terms.specs.Substitutions.{Substitution, Family, apply_atom, followed_by}
use Rattle.me_terms.specs.Values.{EntryValue}
use Rattle.me_terms.specs.Context.{Context, StandsAt}
use Rattle.me_terms.specs.Positions.{entry_at}
use Rattle.me_terms.specs.Unifier.{IsSolvedBy, Solves, IsUnifier}
use Rattle.me_terms.specs.declared.atom.Literal.{Literal}
use Rattle.me_terms.specs.declared.atom.Pattern.{Pattern}
use Rattle.me_terms.specs.declared.atom.Pattern.TheVariants.{Any, Of}
use Rattle.me_laws.proofs.Generality.{atom_followed}
use Rattle.me_laws.proofs.Lists.{EachOf, each_append, each_left, each_right, all_of}
use Rattle.me_unify.specs.Equations.{Equation, SolvesOne, IsSolvable, IsMostGeneral}
use Rattle.me_unify.specs.ClauseEquations.{equations_with, equations_at, equations_from}

pub each_of : {A : Type 0} (P : A → Type 0) (xs : List A) → All P xs → EachOf P xs
each_of P [] h = tt
each_of P (x ∷ xs) h = (h 0 x (omega arith), each_of P xs (λ k d lt. h (suc k) d (omega arith)))

-- ---- one place
pattern_solved : (u : Family) (i : ℕ) (p : Pattern) (l : Literal) → EachOf (SolvesOne u) (equations_with (i + 1) p l) → IsSolvedBy (u (i + 1)) p (u 0) l.atom
pattern_solved u i Any l h = tt
pattern_solved u i (Of b) l h = h.0

pattern_solves : (u : Family) (i : ℕ) (p : Pattern) (l : Literal) → IsSolvedBy (u (i + 1)) p (u 0) l.atom → EachOf (SolvesOne u) (equations_with (i + 1) p l)
pattern_solves u i Any l h = tt
pattern_solves u i (Of b) l h = (h, tt)

by_entry : (u : Family) (i : ℕ) (l : Literal) (o : Option EntryValue) → ((e : EntryValue) → o ≡ Some e → IsSolvedBy (u (i + 1)) e.atom (u 0) l.atom) → EachOf (SolvesOne u) (equations_at (i + 1) o l)
by_entry u i l None h = tt
by_entry u i l (Some e) h = pattern_solves u i e.atom l (h e refl)

by_position : (u : Family) (i : ℕ) (context : Context) (o : Option ℕ) (l : Literal) → ((k : ℕ) (e : EntryValue) → o ≡ Some k → StandsAt context k e → IsSolvedBy (u (i + 1)) e.atom (u 0) l.atom) → EachOf (SolvesOne u) (equations_at (i + 1) (entry_at context o) l)
by_position u i context None l h = tt
by_position u i context (Some k) l h = by_entry u i l (slice_get context k) (λ e stands. h k e refl stands)

-- ---- all places
place_solved : (u : Family) (i : ℕ) (context : Context) (ls : List Literal) (ks : List (Option ℕ)) → EachOf (SolvesOne u) (equations_from i context ls ks) → (j k n : ℕ) (l : Literal) (e : EntryValue) → slice_get ls j ≡ Some l → slice_get ks j ≡ Some (Some k) → StandsAt context k e → n ≡ i + j → IsSolvedBy (u (n + 1)) e.atom (u 0) l.atom
place_solved u i context [] ks h j k n l e at pos stands number = cc
place_solved u i context (m ∷ ls) [] h j k n l e at pos stands number = cc
place_solved u i context (m ∷ ls) (o ∷ ks) h zero k n l e at pos stands number =
    let here = each_left (SolvesOne u) (equations_at (i + 1) (entry_at context o) m) (equations_from (i + 1) context ls ks) h in
    let P : Option ℕ → Type 0 = λ z. EachOf (SolvesOne u) (equations_at (i + 1) (entry_at context z) m) in
    let Q : Option EntryValue → Type 0 = λ z. EachOf (SolvesOne u) (equations_at (i + 1) z m) in
    let there = pattern_solved u i e.atom m (subst Q stands (subst P (same_Some o (Some k) pos) here)) in
    let place : i ≡ n = omega (arith, number) in
    let R : ℕ × Literal → Type 0 = λ z. IsSolvedBy (u (z.0 + 1)) e.atom (u 0) z.1.atom in
    subst R (λ t. (place t, same_Some m l at t)) there
place_solved u i context (m ∷ ls) (o ∷ ks) h (suc j) k n l e at pos stands number =
    place_solved u (i + 1) context ls ks (each_right (SolvesOne u) (equations_at (i + 1) (entry_at context o) m) (equations_from (i + 1) context ls ks) h) j k n l e at pos stands (omega (arith, number))

places_solve : (u : Family) (i : ℕ) (context : Context) (ls : List Literal) (ks : List (Option ℕ)) → ((j k n : ℕ) (l : Literal) (e : EntryValue) → slice_get ls j ≡ Some l → slice_get ks j ≡ Some (Some k) → StandsAt context k e → n ≡ i + j → IsSolvedBy (u (n + 1)) e.atom (u 0) l.atom) → EachOf (SolvesOne u) (equations_from i context ls ks)
places_solve u i context [] ks h = tt
places_solve u i context (m ∷ ls) [] h = tt
places_solve u i context (m ∷ ls) (o ∷ ks) h =
    each_append (SolvesOne u) (equations_at (i + 1) (entry_at context o) m) (equations_from (i + 1) context ls ks)
    (by_position u i context o m (λ k e same stands. h 0 k i m e refl (ap (λ (z : Option ℕ). Some z) same) stands (omega arith)))
    (places_solve u (i + 1) context ls ks (λ j k n l e at pos stands number. h (suc j) k n l e at pos stands (omega (arith, number))))

pub solves_places : (u : Family) (context : Context) (ls : List Literal) (ks : List (Option ℕ)) → Solves context ls ks u → EachOf (SolvesOne u) (equations_from 0 context ls ks)
solves_places u context ls ks h =
    places_solve u 0 context ls ks (λ j k n l e at pos stands number.
    let place : j ≡ n = omega (arith, number) in
    let P : ℕ → Type 0 = λ z. IsSolvedBy (u (z + 1)) e.atom (u 0) l.atom in
    subst P place (h j k l e (record { literal = at; position = pos; stands = stands })))

pub places_solved : (u : Family) (context : Context) (ls : List Literal) (ks : List (Option ℕ)) → EachOf (SolvesOne u) (equations_from 0 context ls ks) → Solves context ls ks u
places_solved u context ls ks h = λ j k l e o. place_solved u 0 context ls ks h j k j l e o.literal o.position o.stands (omega arith)

-- ---- most general ones
pub is_unifier : (u : Family) (context : Context) (ls : List Literal) (ks : List (Option ℕ)) → IsMostGeneral (equations_from 0 context ls ks) u → IsUnifier context ls ks u
is_unifier u context ls ks h =
    let qs = equations_from 0 context ls ks in
    record {
      solves = places_solved u context ls ks (each_of (SolvesOne u) qs h.solves);
      most_general = λ v solved. h.most_general v (all_of (SolvesOne v) qs (solves_places v context ls ks solved));
    }

pub is_most_general : (u : Family) (context : Context) (ls : List Literal) (ks : List (Option ℕ)) → IsUnifier context ls ks u → IsMostGeneral (equations_from 0 context ls ks) u
is_most_general u context ls ks h =
    let qs = equations_from 0 context ls ks in
    record {
      solves = all_of (SolvesOne u) qs (solves_places u context ls ks h.solves);
      most_general = λ v solved. h.most_general v (places_solved v context ls ks (each_of (SolvesOne v) qs solved));
    }

pub is_solvable : (u : Family) (context : Context) (ls : List Literal) (ks : List (Option ℕ)) → IsUnifier context ls ks u → IsSolvable (equations_from 0 context ls ks)
is_solvable u context ls ks h = (u, all_of (SolvesOne u) (equations_from 0 context ls ks) (solves_places u context ls ks h.solves))

-- ---- what follows a solution
pub one_followed : (u : Family) (r : Substitution) (e : Equation) → SolvesOne u e → SolvesOne (λ space. followed_by (u space) r) e
one_followed u r e h = atom_followed (u e.left_space) r e.left ∙ (ap (apply_atom r) h ∙ sym (atom_followed (u e.right_space) r e.right))
