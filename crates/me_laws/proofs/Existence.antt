-- Equations with a solution have a most general one. The solution measures the work: each step takes weight from what the equations are under it.
use Rattle.std.proofs.Common.{◌≡◌, ℕ, zero, suc, ◌+◌, ◌≤◌, Bool, true, false, cond, eqb, ◌⊎◌, inl, inr, List, [], ◌∷◌, ◌++◌, refl, sym, subst, ap, ◌∙◌, arith}
use Rattle.std.proofs.lemmas.Bool.{eqb-true}
use Rattle.std.proofs.lemmas.Grind.{common_steps}
use Rattle.me_terms.specs.Terms.{TermValue, Var, App, Arguments, Nil, Cons}
use Rattle.me_terms.specs.Substitutions.{Substitution, apply_term, apply_arguments, followed_by}
use Rattle.me_terms.specs.Variables.{term_variables, variables_of, weight, weights}
use Rattle.me_laws.proofs.Generality.{term_unchanged, term_followed}
use Rattle.me_laws.proofs.Renaming.{Each, each_append, each_map, args_of, head_of, rest_of, variables_agree}

abbrev pub Equations : Type 0
Equations = List (TermValue × TermValue)

abbrev pub HoldsAll : Substitution → Equations → Type 0
HoldsAll w [] = Unit {0}
HoldsAll w (q ∷ qs) = (apply_term w q.0 ≡ apply_term w q.1) × HoldsAll w qs

abbrev total : Substitution → Equations → ℕ
total v [] = 0
total v (q ∷ qs) = weight (apply_term v q.0) + total v qs

-- a solution that every solution is an instance of
pub record MostGeneral (qs : Equations) : Type 0 where
  pub substitution : Substitution
  pub holds : HoldsAll substitution qs
  pub general : (w : Substitution) → HoldsAll w qs → (x : ℕ) → apply_term w (substitution x) ≡ w x

pub weighs : (t : TermValue) → 1 ≤ weight t
weighs (Var x) = omega arith
weighs (App f ts) = omega arith

-- ---- a variable replaced by a term
abbrev pub replace : ℕ → TermValue → Substitution
replace x t y = cond (eqb y x) t (Var y)

keeps_by : (w : Substitution) (x : ℕ) (t : TermValue) (y : ℕ) (test : Bool) → eqb y x ≡ test → w x ≡ apply_term w t → apply_term w (cond test t (Var y)) ≡ w y
keeps_by w x t y true e h = sym h ∙ ap w (sym (eqb-true y x e))
keeps_by w x t y false e h = refl

pub keeps : (w : Substitution) (x : ℕ) (t : TermValue) → w x ≡ apply_term w t → followed_by (replace x t) w ≡ w
keeps w x t h = λ i y. keeps_by w x t y (eqb y x) refl h i

pub eqb_itself : (x : ℕ) → eqb x x ≡ true
eqb_itself x = grind (arith, common_steps)

abbrev pub Other : ℕ → ℕ → Type 0
Other x y = eqb y x ≡ false

untouched : (x : ℕ) (t s : TermValue) → Each (Other x) (term_variables s) → apply_term (replace x t) s ≡ s
untouched x t s h =
    variables_agree (replace x t) Var s (each_map (Other x) (λ y. replace x t y ≡ Var y) (λ y e. ap (λ b. cond b t (Var y)) e) (term_variables s) h) ∙ term_unchanged s

at_self : (x : ℕ) (t : TermValue) → replace x t x ≡ t
at_self x t = ap (λ b. cond b t (Var x)) (eqb_itself x)

abbrev pub replaced : Substitution → Equations → Equations
replaced d [] = []
replaced d (q ∷ qs) = (apply_term d q.0, apply_term d q.1) ∷ replaced d qs

pub replaced_holds : (d w : Substitution) (qs : Equations) → HoldsAll (followed_by d w) qs → HoldsAll w (replaced d qs)
replaced_holds d w [] h = tt
replaced_holds d w (q ∷ qs) h =
    (sym (term_followed d w q.0) ∙ (h.0 ∙ term_followed d w q.1), replaced_holds d w qs h.1)

holds_replaced : (d w : Substitution) (qs : Equations) → HoldsAll w (replaced d qs) → HoldsAll (followed_by d w) qs
holds_replaced d w [] h = tt
holds_replaced d w (q ∷ qs) h =
    (term_followed d w q.0 ∙ (h.0 ∙ sym (term_followed d w q.1)), holds_replaced d w qs h.1)

replaced_total : (d v : Substitution) (qs : Equations) → total v (replaced d qs) ≡ total (followed_by d v) qs
replaced_total d v [] = refl
replaced_total d v (q ∷ qs) =
    let first = sym (term_followed d v q.0) in λ i. weight (first i) + replaced_total d v qs i

pub eliminate : (x : ℕ) (t : TermValue) (qs : Equations) → Each (Other x) (term_variables t) → MostGeneral (replaced (replace x t) qs) → MostGeneral ((Var x, t) ∷ qs)
eliminate x t qs free m =
    let d : Substitution = replace x t in
    record {
      substitution = followed_by d m.substitution;
      holds = (ap (apply_term m.substitution) (at_self x t) ∙ (ap (apply_term m.substitution) (sym (untouched x t t free)) ∙ sym (term_followed d m.substitution t)), holds_replaced d m.substitution qs m.holds);
      general = λ w h y.
          let same : followed_by d w ≡ w = keeps w x t h.0 in
          let P : Substitution → Type 0 = λ s. HoldsAll s qs in
          let below = m.general w (replaced_holds d w qs (subst P (sym same) h.1)) in
          sym (term_followed m.substitution w (d y)) ∙ ((λ i. apply_term (λ z. below z i) (d y)) ∙ (λ i. same i y));
    }

pub turned : (s t : TermValue) (qs : Equations) → MostGeneral ((s, t) ∷ qs) → MostGeneral ((t, s) ∷ qs)
turned s t qs m = record { substitution = m.substitution; holds = (sym m.holds.0, m.holds.1); general = λ w h x. m.general w (sym h.0, h.1) x }

pub dropped : (x y : ℕ) (qs : Equations) → x ≡ y → MostGeneral qs → MostGeneral ((Var x, Var y) ∷ qs)
dropped x y qs e m = record { substitution = m.substitution; holds = (ap m.substitution e, m.holds); general = λ w h z. m.general w h.1 z }

pub none_there : (P : ℕ → Type 0) → Each P []
unfolding Each
none_there P = tt

pub one_there : (x y : ℕ) → eqb y x ≡ false → Each (Other x) (y ∷ [])
unfolding Each
one_there x y e = (e, tt)

occurs_by : (v : Substitution) (x y : ℕ) (test : Bool) → eqb y x ≡ test → Each (Other x) (y ∷ []) ⊎ (weight (v x) ≤ weight (v y))
occurs_by v x y true e = let same : weight (v y) ≡ weight (v x) = ap (λ z. weight (v z)) (eqb-true y x e) in inr (omega (arith, same))
occurs_by v x y false e = inl (one_there x y e)

-- ---- a variable in a term is no heavier than the term, and is lighter where the term is no variable
mutual
  occurs_in : (v : Substitution) (x : ℕ) (t : TermValue) → Each (Other x) (term_variables t) ⊎ (weight (v x) ≤ weight (apply_term v t))
  occurs_in v x (Var y) = occurs_by v x y (eqb y x) refl
  occurs_in v x (App f ts) =
      elim (occurs_all v x ts) as (λ _. Each (Other x) (variables_of ts) ⊎ (weight (v x) ≤ 1 + weights (apply_arguments v ts))) [ inl h ↦ inl h | inr h ↦ inr (omega (arith, h)) ]

  occurs_all : (v : Substitution) (x : ℕ) (ts : Arguments) → Each (Other x) (variables_of ts) ⊎ (weight (v x) ≤ weights (apply_arguments v ts))
  occurs_all v x Nil = inl (none_there (Other x))
  occurs_all v x (Cons t ts) =
      elim (occurs_in v x t) as (λ _. Each (Other x) (term_variables t ++ variables_of ts) ⊎ (weight (v x) ≤ weight (apply_term v t) + weights (apply_arguments v ts))) [
        | inl h ↦ elim (occurs_all v x ts) as (λ _. Each (Other x) (term_variables t ++ variables_of ts) ⊎ (weight (v x) ≤ weight (apply_term v t) + weights (apply_arguments v ts))) [
          | inl g ↦ inl (each_append (Other x) (term_variables t) (variables_of ts) h g)
          | inr g ↦ inr (omega (arith, g))
        ]
        | inr h ↦ inr (omega (arith, h))
      ]

-- ---- arguments in pairs
abbrev pub pairs : Arguments → Arguments → Equations
pairs Nil Nil = []
pairs Nil (Cons t ts) = []
pairs (Cons s ss) Nil = []
pairs (Cons s ss) (Cons t ts) = (s, t) ∷ pairs ss ts

-- the pairs, and then more, hold where the arguments are equal and more hold
pub pairs_hold : (w : Substitution) (ss ts : Arguments) (qs : Equations) → apply_arguments w ss ≡ apply_arguments w ts → HoldsAll w qs → HoldsAll w (pairs ss ts ++ qs)
unfolding head_of rest_of
pairs_hold w Nil Nil qs h g = g
pairs_hold w Nil (Cons t ts) qs h g = g
pairs_hold w (Cons s ss) Nil qs h g = g
pairs_hold w (Cons s ss) (Cons t ts) qs h g = (ap head_of h, pairs_hold w ss ts qs (ap rest_of h) g)

-- v shows that there are as many arguments
hold_pairs : (v w : Substitution) (ss ts : Arguments) (qs : Equations) → apply_arguments v ss ≡ apply_arguments v ts → HoldsAll w (pairs ss ts ++ qs) → (apply_arguments w ss ≡ apply_arguments w ts) × HoldsAll w qs
unfolding head_of rest_of
hold_pairs v w Nil Nil qs h g = (refl, g)
hold_pairs v w Nil (Cons t ts) qs h g = cc
hold_pairs v w (Cons s ss) Nil qs h g = cc
hold_pairs v w (Cons s ss) (Cons t ts) qs h g =
    let later = hold_pairs v w ss ts qs (ap rest_of h) g.1 in
    (λ i. Cons (g.0 i) (later.0 i), later.1)

pairs_total : (v : Substitution) (ss ts : Arguments) (qs : Equations) → total v (pairs ss ts ++ qs) ≤ weights (apply_arguments v ss) + total v qs
pairs_total v Nil Nil qs = omega arith
pairs_total v Nil (Cons t ts) qs = omega arith
pairs_total v (Cons s ss) Nil qs = omega arith
pairs_total v (Cons s ss) (Cons t ts) qs = omega (arith, pairs_total v ss ts qs)

decompose : (v : Substitution) (f g : ℕ) (ss ts : Arguments) (qs : Equations) → f ≡ g → apply_arguments v ss ≡ apply_arguments v ts → MostGeneral (pairs ss ts ++ qs) → MostGeneral ((App f ss, App g ts) ∷ qs)
unfolding args_of
decompose v f g ss ts qs e h m =
    let held = hold_pairs v m.substitution ss ts qs h m.holds in
    record {
      substitution = m.substitution;
      holds = (λ i. App (e i) (held.0 i), held.1);
      general = λ w k x. m.general w (pairs_hold w ss ts qs (ap args_of k.0) k.1) x;
    }

-- ---- the steps
module _ (n : ℕ) (v : Substitution) (later : (qs : Equations) → HoldsAll v qs → total v qs ≤ n → MostGeneral qs) where
  by_elimination : (x : ℕ) (t : TermValue) (qs : Equations) → Each (Other x) (term_variables t) → v x ≡ apply_term v t → HoldsAll v qs → total v qs ≤ n → MostGeneral ((Var x, t) ∷ qs)
  by_elimination x t qs free h rest le =
      let same : followed_by (replace x t) v ≡ v = keeps v x t h in
      let P : Substitution → Type 0 = λ s. HoldsAll s qs in
      let weighed : total v (replaced (replace x t) qs) ≡ total v qs = replaced_total (replace x t) v qs ∙ ap (λ (s : Substitution). total s qs) same in
      eliminate x t qs free (later (replaced (replace x t) qs) (replaced_holds (replace x t) v qs (subst P (sym same) rest)) (omega (arith, weighed, le)))

  of_variables : (x y : ℕ) (qs : Equations) (test : Bool) → eqb y x ≡ test → v x ≡ v y → HoldsAll v qs → total v qs ≤ n → MostGeneral ((Var x, Var y) ∷ qs)
  of_variables x y qs true e h rest le = dropped x y qs (sym (eqb-true y x e)) (later qs rest le)
  of_variables x y qs false e h rest le = by_elimination x (Var y) qs (one_there x y e) h rest le

  of_variable : (x f : ℕ) (ts : Arguments) (qs : Equations) → v x ≡ App f (apply_arguments v ts) → HoldsAll v qs → total v qs ≤ n → MostGeneral ((Var x, App f ts) ∷ qs)
  of_variable x f ts qs h rest le =
      elim (occurs_all v x ts) as (λ _. MostGeneral ((Var x, App f ts) ∷ qs)) [
        | inl free ↦ by_elimination x (App f ts) qs free h rest le
        | inr heavy ↦ let same : weight (v x) ≡ 1 + weights (apply_arguments v ts) = ap weight h in absurd (omega (arith, heavy, same))
      ]

  step : (s t : TermValue) (qs : Equations) → apply_term v s ≡ apply_term v t → HoldsAll v qs → weight (apply_term v s) + total v qs ≤ suc n → MostGeneral ((s, t) ∷ qs)
  unfolding args_of
  step (Var x) (Var y) qs h rest le = let w = weighs (v x) in of_variables x y qs (eqb y x) refl h rest (omega (arith, w, le))
  step (Var x) (App f ts) qs h rest le = let w = weighs (v x) in of_variable x f ts qs h rest (omega (arith, w, le))
  step (App f ss) (Var y) qs h rest le = turned (Var y) (App f ss) qs (of_variable y f ss qs (sym h) rest (omega arith))
  step (App f ss) (App g ts) qs h rest le =
      let args : apply_arguments v ss ≡ apply_arguments v ts = ap args_of h in
      let bound = pairs_total v ss ts qs in
      decompose v f g ss ts qs (cc h) args (later (pairs ss ts ++ qs) (pairs_hold v ss ts qs args rest) (omega (arith, bound, le)))

unify_within : (n : ℕ) (v : Substitution) (qs : Equations) → HoldsAll v qs → total v qs ≤ n → MostGeneral qs
unify_within n v [] h le = record { substitution = Var; holds = tt; general = λ w g x. refl }
unify_within zero v (q ∷ qs) h le = let w = weighs (apply_term v q.0) in absurd (omega (arith, w, le))
unify_within (suc n) v (q ∷ qs) h le = step n v (λ rs g m. unify_within n v rs g m) q.0 q.1 qs h.0 h.1 le

pub most_general_of : (v : Substitution) (qs : Equations) → HoldsAll v qs → MostGeneral qs
most_general_of v qs h = unify_within (total v qs) v qs h (omega arith)
