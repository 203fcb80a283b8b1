-- The test of equality decides equality.
use Rattle.std.specs.Cmp.{IsEquivalence}
use Rattle.std.proofs.Common.{subst, ap, ◌↔◌}
use Rattle.me_terms.specs.Terms.{AtomValue}
use Rattle.me_terms.specs.TermEquality.{same_atom}
use Rattle.std.proofs.Common.{◌≡◌, ◌≢◌, Bool, true, false, ◌&&◌, eqb, List, [], ◌∷◌, length, refl, ap, arith}
use Rattle.std.proofs.lemmas.Bool.{eqb-true}
use Rattle.std.proofs.Math.Bool.{and-false}
use Rattle.std.proofs.lemmas.Grind.{common_steps}
use Rattle.me_terms.specs.Terms.{TermValue, Var, App, Arguments, Nil, Cons, arguments_of}
use Rattle.me_terms.specs.TermEquality.{same_term, same_arguments}

pub same_arguments_lengths : (xs ys : List TermValue) → length xs ≢ length ys → same_arguments (arguments_of xs) (arguments_of ys) ≡ false
same_arguments_lengths [] [] h = absurd (h refl)
same_arguments_lengths [] (y ∷ ys) h = refl
same_arguments_lengths (x ∷ xs) [] h = refl
same_arguments_lengths (x ∷ xs) (y ∷ ys) h =
    let shorter : length xs ≢ length ys = omega arith in rw (same_arguments_lengths xs ys shorter, and-false)

pub both_parts : (a b : Bool) → (a && b) ≡ true → (a ≡ true) × (b ≡ true)
both_parts true true h = (refl, refl)
both_parts true false h = cc
both_parts false b h = cc

mutual
  pub same_term_sound : (s t : TermValue) → same_term s t ≡ true → s ≡ t
  same_term_sound (Var x) (Var y) h = ap Var (eqb-true x y h)
  same_term_sound (Var x) (App g ts) h = cc
  same_term_sound (App f ss) (Var y) h = cc
  same_term_sound (App f ss) (App g ts) h =
      let parts = both_parts (eqb f g) (same_arguments ss ts) h in
      cc (eqb-true f g parts.0, same_arguments_sound ss ts parts.1)

  pub same_arguments_sound : (ss ts : Arguments) → same_arguments ss ts ≡ true → ss ≡ ts
  same_arguments_sound Nil Nil h = refl
  same_arguments_sound Nil (Cons t ts) h = cc
  same_arguments_sound (Cons s ss) Nil h = cc
  same_arguments_sound (Cons s ss) (Cons t ts) h =
      let parts = both_parts (same_term s t) (same_arguments ss ts) h in
      cc (same_term_sound s t parts.0, same_arguments_sound ss ts parts.1)

mutual
  pub same_term_itself : (t : TermValue) → same_term t t ≡ true
  same_term_itself (Var x) = grind (arith, common_steps)
  same_term_itself (App f ts) = grind (arith, common_steps, same_arguments_itself ts)

  pub same_arguments_itself : (ts : Arguments) → same_arguments ts ts ≡ true
  same_arguments_itself Nil = refl
  same_arguments_itself (Cons t ts) = rw (same_term_itself t, same_arguments_itself ts)

-- ---- the laws of `==`
same_either : (a b : Bool) → (a ≡ true → b ≡ true) → (b ≡ true → a ≡ true) → a ≡ b
same_either true true f g = refl
same_either false false f g = refl
same_either true false f g = cc (f refl)
same_either false true f g = cc (g refl)

-- a test that decides equality is an equivalence
pub deciding : {A : Type 0} (E : A → A → Bool) → ((x y : A) → E x y ≡ true → x ≡ y) → ((x : A) → E x x ≡ true) → IsEquivalence E
deciding {A} E sound same =
    let turn : (x y : A) → E x y ≡ true → E y x ≡ true = λ x y h. let P : A → Type 0 = λ z. E z x ≡ true in subst P (sound x y h) (same x) in
    record {
      refl = same;
      symm = λ x y. same_either (E x y) (E y x) (turn x y) (turn y x);
      congr = λ x y z h. ap (λ (w : A). E w z) (sound x y h);
    }

pub term_laws : IsEquivalence same_term
term_laws = deciding same_term same_term_sound same_term_itself

pub same_atom_sound : (a b : AtomValue) → same_atom a b ≡ true → a ≡ b
same_atom_sound a b h =
    let parts = both_parts (eqb a.pred b.pred) (same_arguments a.args b.args) h in
    λ i. record { pred = eqb-true a.pred b.pred parts.0 i; args = same_arguments_sound a.args b.args parts.1 i }

pub same_atom_itself : (a : AtomValue) → same_atom a a ≡ true
same_atom_itself a = grind (arith, common_steps, same_arguments_itself a.args)

pub atom_laws : IsEquivalence same_atom
atom_laws = deciding same_atom same_atom_sound same_atom_itself

pub same_iff : (s t : TermValue) → (same_term s t ≡ true) ↔ (s ≡ t)
same_iff s t = (same_term_sound s t, λ e. let P : TermValue → Type 0 = λ z. same_term s z ≡ true in subst P e (same_term_itself s))
