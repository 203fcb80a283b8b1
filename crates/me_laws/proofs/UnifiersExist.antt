-- What solves the equations of a clause with entries has a most general unifier.
use Rattle.std.proofs.Common.{◌≡◌, ℕ, zero, suc, ◌+◌, List, [], ◌∷◌, ◌++◌, slice_get, Option, Some, None, refl, sym, subst, ap, ◌∙◌, arith}
use Rattle.std.proofs.lemmas.Option.{same_Some}
use Rattle.me_terms.specs.Terms.{TermValue, Var, App, AtomValue}
use Rattle.me_terms.specs.Substitutions.{Substitution, Family, apply_term}
use Rattle.me_laws.specs.Pairing.{pair, first_of_pair, second_of_pair, apart}
use Rattle.me_terms.specs.Values.{EntryValue}
use Rattle.me_terms.specs.Context.{Context, StandsAt}
use Rattle.me_terms.specs.Unifier.{IsSolvedBy, Solves, IsUnifier}
use Rattle.me_terms.specs.Positions.{entry_at}
use Rattle.me_terms.specs.declared.atom.Literal.{Literal}
use Rattle.me_terms.specs.declared.atom.Pattern.{Pattern}
use Rattle.me_terms.specs.declared.atom.Pattern.TheVariants.{Any, Of}
use Rattle.me_laws.proofs.Generality.{term_followed}
use Rattle.me_laws.proofs.Renaming.{args_of}
use Rattle.me_laws.proofs.Apart.{pair_back}
use Rattle.me_laws.proofs.Existence.{Equations, HoldsAll, most_general_of}

-- an atom as a term
abbrev pub term_of : AtomValue → TermValue
term_of a = App a.pred a.args

abbrev pub equation_of : ℕ → Pattern → AtomValue → Equations
equation_of n Any a = []
equation_of n (Of b) a = (apply_term (apart n) (term_of b), apply_term (apart 0) (term_of a)) ∷ []

abbrev pub equation_at : ℕ → Option EntryValue → AtomValue → Equations
equation_at n None a = []
equation_at n (Some e) a = equation_of n e.atom a

-- the equations of the places from place i on
abbrev pub equations_from : ℕ → Context → List Literal → List (Option ℕ) → Equations
equations_from i context [] ks = []
equations_from i context (l ∷ ls) [] = []
equations_from i context (l ∷ ls) (k ∷ ks) =
    equation_at (i + 1) (entry_at context k) l.atom ++ equations_from (i + 1) context ls ks

append_holds : (w : Substitution) (qs rs : Equations) → HoldsAll w qs → HoldsAll w rs → HoldsAll w (qs ++ rs)
append_holds w [] rs f g = g
append_holds w (q ∷ qs) rs f g = (f.0, append_holds w qs rs f.1 g)

holds_first : (w : Substitution) (qs rs : Equations) → HoldsAll w (qs ++ rs) → HoldsAll w qs
holds_first w [] rs h = tt
holds_first w (q ∷ qs) rs h = (h.0, holds_first w qs rs h.1)

holds_later : (w : Substitution) (qs rs : Equations) → HoldsAll w (qs ++ rs) → HoldsAll w rs
holds_later w [] rs h = h
holds_later w (q ∷ qs) rs h = holds_later w qs rs h.1

-- one substitution as a family, and a family as one substitution
abbrev pub spread : Substitution → Family
spread w space x = w (pair space x)

abbrev pub flat : Family → Substitution
flat v z = v (first_of_pair z) (second_of_pair z)

pub spread_flat : (v : Family) → spread (flat v) ≡ v
spread_flat v = λ i space x. let b = pair_back space x in v (b.0 i) (b.1 i)

in_space : (w : Substitution) (space : ℕ) (t : TermValue) → apply_term w (apply_term (apart space) t) ≡ apply_term (spread w space) t
in_space w space t = sym (term_followed (apart space) w t)

pred_of : TermValue → ℕ
pred_of (Var x) = 0
pred_of (App f ts) = f

pub meets : (w : Substitution) (n : ℕ) (p : Pattern) (a : AtomValue) → HoldsAll w (equation_of n p a) → IsSolvedBy (spread w n) p (spread w 0) a
unfolding pred_of args_of
meets w n Any a h = tt
meets w n (Of b) a h =
    let whole : apply_term (spread w n) (term_of b) ≡ apply_term (spread w 0) (term_of a) = sym (in_space w n (term_of b)) ∙ (h.0 ∙ in_space w 0 (term_of a)) in
    λ i. record { pred = pred_of (whole i); args = args_of (whole i) }

pub holds : (w : Substitution) (n : ℕ) (p : Pattern) (a : AtomValue) → IsSolvedBy (spread w n) p (spread w 0) a → HoldsAll w (equation_of n p a)
holds w n Any a h = tt
holds w n (Of b) a h =
    let whole : apply_term (spread w n) (term_of b) ≡ apply_term (spread w 0) (term_of a) = λ i. App (h i).pred (h i).args in
    (in_space w n (term_of b) ∙ (whole ∙ sym (in_space w 0 (term_of a))), tt)

-- each place's equation is among them
pub each_meets : (w : Substitution) (i : ℕ) (context : Context) (ls : List Literal) (ks : List (Option ℕ)) → HoldsAll w (equations_from i context ls ks) → (j k n : ℕ) (l : Literal) (e : EntryValue) → slice_get ls j ≡ Some l → slice_get ks j ≡ Some (Some k) → StandsAt context k e → n ≡ (i + 1) + j → IsSolvedBy (spread w n) e.atom (spread w 0) l.atom
each_meets w i context [] ks h j k n l e at pos stands number = cc
each_meets w i context (m ∷ ls) [] h j k n l e at pos stands number = cc
each_meets w i context (m ∷ ls) (o ∷ ks) h zero k n l e at pos stands number =
    let here = holds_first w (equation_at (i + 1) (entry_at context o) m.atom) (equations_from (i + 1) context ls ks) h in
    let P : Option ℕ → Type 0 = λ z. HoldsAll w (equation_at (i + 1) (entry_at context z) m.atom) in
    let Q : Option EntryValue → Type 0 = λ z. HoldsAll w (equation_at (i + 1) z m.atom) in
    let there = meets w (i + 1) e.atom m.atom (subst Q stands (subst P (same_Some o (Some k) pos) here)) in
    let place : i + 1 ≡ n = omega (arith, number) in
    let R : ℕ × Literal → Type 0 = λ z. IsSolvedBy (spread w z.0) e.atom (spread w 0) z.1.atom in
    subst R (λ t. (place t, same_Some m l at t)) there
each_meets w i context (m ∷ ls) (o ∷ ks) h (suc j) k n l e at pos stands number =
    each_meets w (i + 1) context ls ks (holds_later w (equation_at (i + 1) (entry_at context o) m.atom) (equations_from (i + 1) context ls ks) h) j k n l e at pos stands (omega (arith, number))

by_entry : (w : Substitution) (n : ℕ) (a : AtomValue) (o : Option EntryValue) → ((e : EntryValue) → o ≡ Some e → IsSolvedBy (spread w n) e.atom (spread w 0) a) → HoldsAll w (equation_at n o a)
by_entry w n a None h = tt
by_entry w n a (Some e) h = holds w n e.atom a (h e refl)

here_holds : (w : Substitution) (n : ℕ) (context : Context) (o : Option ℕ) (a : AtomValue) → ((k : ℕ) (e : EntryValue) → o ≡ Some k → StandsAt context k e → IsSolvedBy (spread w n) e.atom (spread w 0) a) → HoldsAll w (equation_at n (entry_at context o) a)
here_holds w n context None a h = tt
here_holds w n context (Some k) a h = by_entry w n a (slice_get context k) (λ e stands. h k e refl stands)

-- they hold where each place's equation does
all_hold : (w : Substitution) (i : ℕ) (context : Context) (ls : List Literal) (ks : List (Option ℕ)) → ((j k n : ℕ) (l : Literal) (e : EntryValue) → slice_get ls j ≡ Some l → slice_get ks j ≡ Some (Some k) → StandsAt context k e → n ≡ (i + 1) + j → IsSolvedBy (spread w n) e.atom (spread w 0) l.atom) → HoldsAll w (equations_from i context ls ks)
all_hold w i context [] ks h = tt
all_hold w i context (m ∷ ls) [] h = tt
all_hold w i context (m ∷ ls) (o ∷ ks) h =
    append_holds w (equation_at (i + 1) (entry_at context o) m.atom) (equations_from (i + 1) context ls ks)
    (here_holds w (i + 1) context o m.atom (λ k e same stands. h 0 k (i + 1) m e refl (ap (λ (z : Option ℕ). Some z) same) stands (omega arith)))
    (all_hold w (i + 1) context ls ks (λ j k n l e at pos stands number. h (suc j) k n l e at pos stands (omega (arith, number))))

pub flat_holds : (context : Context) (ls : List Literal) (ks : List (Option ℕ)) (v : Family) → Solves context ls ks v → HoldsAll (flat v) (equations_from 0 context ls ks)
flat_holds context ls ks v solved =
    all_hold (flat v) 0 context ls ks (λ j k n l e at pos stands number.
    let there : IsSolvedBy (v (j + 1)) e.atom (v 0) l.atom = solved j k l e (record { literal = at; position = pos; stands = stands }) in
    let place : j + 1 ≡ n = omega (arith, number) in
    let P : Family × ℕ → Type 0 = λ z. IsSolvedBy (z.0 z.1) e.atom (z.0 0) l.atom in
    subst P (λ t. (sym (spread_flat v) t, place t)) there)

pub unifiers_exist : (context : Context) (ls : List Literal) (ks : List (Option ℕ)) (v : Family) → Solves context ls ks v → (u : Family) × IsUnifier context ls ks u
unifiers_exist context ls ks v solved =
    let m = most_general_of (flat v) (equations_from 0 context ls ks) (flat_holds context ls ks v solved) in (
      spread m.substitution,
      record {
        solves = λ i k l e o. each_meets m.substitution 0 context ls ks m.holds i k (i + 1) l e o.literal o.position o.stands (omega arith);
        most_general = λ w holds_w. (flat w, λ space x. m.general (flat w) (flat_holds context ls ks w holds_w) (pair space x) ∙ (λ t. spread_flat w t space x));
      },
    )
