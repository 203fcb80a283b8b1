-- Terms as mathematical trees.
use Rattle.std.specs.Prelude.{◌≡◌, ℕ, ◌+◌, max, List, [], ◌∷◌, refl}
use Rattle.std.specs.Coded.{Coded, code_by, coded×, coded_ℕ}
use Rattle.std.proofs.Common.{ap, sym}
use base.Stored.{Gv, gnil, gnum, gcons, num}
use native.Mathlib.Nat.{suc-ne-zero}

mutual
  pub data TermValue : Type 0 where
    Var : ℕ → TermValue
    App : ℕ → Arguments → TermValue

  pub data Arguments : Type 0 where
    Nil : Arguments
    Cons : TermValue → Arguments → Arguments

abbrev pub list_of : Arguments → List TermValue
list_of Nil = []
list_of (Cons t ts) = t ∷ list_of ts

abbrev pub arguments_of : List TermValue → Arguments
arguments_of [] = Nil
arguments_of (t ∷ ts) = Cons t (arguments_of ts)

-- how deep, as the measure of a recursion
abbrev mutual
  pub height : TermValue → ℕ
  height (Var x) = 0
  height (App f ts) = 1 + heights ts

  pub heights : Arguments → ℕ
  heights Nil = 0
  heights (Cons t ts) = max (height t) (heights ts)

-- a term as a ghost value
abbrev head : Gv → Gv
head gnil = gnil
head (gnum n) = gnil
head (gcons a b) = a

abbrev tail : Gv → Gv
tail gnil = gnil
tail (gnum n) = gnil
tail (gcons a b) = b

abbrev mutual
  pub term_stored : TermValue → Gv
  term_stored (Var x) = gcons (gnum 0) (gnum x)
  term_stored (App f ts) = gcons (gnum 1) (gcons (gnum f) (arguments_stored ts))

  pub arguments_stored : Arguments → Gv
  arguments_stored Nil = gcons (gnum 0) gnil
  arguments_stored (Cons t ts) = gcons (gnum 1) (gcons (term_stored t) (arguments_stored ts))

mutual
  pub term_stored-inj : (s t : TermValue) → term_stored s ≡ term_stored t → s ≡ t
  term_stored-inj (Var x) (Var y) e = ap (λ g. Var (num (tail g))) e
  term_stored-inj (Var x) (App g ts) e = absurd (suc-ne-zero 0 (ap (λ g. num (head g)) (sym e)))
  term_stored-inj (App f ss) (Var y) e = absurd (suc-ne-zero 0 (ap (λ g. num (head g)) e))
  term_stored-inj (App f ss) (App g ts) e = λ i. App (num (head (tail (e i)))) (arguments_stored-inj ss ts (ap (λ g. tail (tail g)) e) i)

  pub arguments_stored-inj : (ss ts : Arguments) → arguments_stored ss ≡ arguments_stored ts → ss ≡ ts
  arguments_stored-inj Nil Nil e = refl
  arguments_stored-inj Nil (Cons t ts) e = absurd (suc-ne-zero 0 (ap (λ g. num (head g)) (sym e)))
  arguments_stored-inj (Cons s ss) Nil e = absurd (suc-ne-zero 0 (ap (λ g. num (head g)) e))
  arguments_stored-inj (Cons s ss) (Cons t ts) e = λ i. Cons (term_stored-inj s t (ap (λ g. head (tail g)) e) i) (arguments_stored-inj ss ts (ap (λ g. tail (tail g)) e) i)

abbrev pub term_code : Coded TermValue
term_code = record { code = term_stored; inj = term_stored-inj }

abbrev pub arguments_code : Coded Arguments
arguments_code = record { code = arguments_stored; inj = arguments_stored-inj }

-- A predicate with its arguments, and a function that takes them.
pub record AtomValue : Type 0 where
  pub pred : ℕ
  pub args : Arguments

abbrev pub atom_code : Coded AtomValue
atom_code = code_by (ℕ × Arguments) (coded× coded_ℕ arguments_code) (λ a. (a.pred, a.args)) (λ p. record { pred = p.0; args = p.1 }) (λ _. refl)
