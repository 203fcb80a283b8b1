-- Whether equations have a solution is decided: each step takes a variable away, or else weight.
use Rattle.std.proofs.Common.{◌≡◌, ℕ, zero, suc, ◌+◌, ◌<◌, ◌≤◌, Bool, true, false, cond, eqb, ◌⊎◌, inl, inr, List, [], ◌∷◌, ◌++◌, length, refl, sym, subst, ap, ◌∙◌, arith}
use Rattle.std.proofs.lemmas.Bool.{eqb-true}
use Rattle.me_terms.specs.Terms.{TermValue, Var, App, Arguments, Nil, Cons}
use Rattle.me_terms.specs.Substitutions.{Substitution, apply_term, apply_arguments}
use Rattle.me_terms.specs.Variables.{term_variables, variables_of, weight, weights, count}
use Rattle.me_laws.proofs.Existence.{Equations, HoldsAll, MostGeneral, replace, replaced, replaced_holds, keeps, eliminate, turned, dropped, Other, one_there, none_there, pairs, pairs_hold, weighs, eqb_itself}
use Rattle.me_laws.proofs.Renaming.{Each, each_append, each_left, each_right, each_map, args_of}
use Rattle.me_laws_existence.proofs.Without.{StandsIn, without, shorter, stays, each_stays, in_left, in_right, each_self}

abbrev pub Decided : Equations → Type 0
Decided qs = MostGeneral qs ⊎ ((w : Substitution) → ¬ HoldsAll w qs)

-- all variables of the equations are among these
abbrev pub Over : List ℕ → Equations → Type 0
Over xs [] = Unit {0}
Over xs (q ∷ qs) = Each (StandsIn xs) (term_variables q.0) × Each (StandsIn xs) (term_variables q.1) × Over xs qs

abbrev pub size : Equations → ℕ
size [] = 0
size (q ∷ qs) = weight q.0 + size qs

-- ---- a variable that is replaced is gone
over_by : (x : ℕ) (t : TermValue) (xs : List ℕ) → Each (StandsIn (without x xs)) (term_variables t) → (y : ℕ) → StandsIn xs y → (test : Bool) → eqb y x ≡ test → Each (StandsIn (without x xs)) (term_variables (cond test t (Var y)))
unfolding Each
over_by x t xs free y h true e = free
over_by x t xs free y h false e = (stays y x xs h e, tt)

first_in : (xs : List ℕ) (y : ℕ) → Each (StandsIn xs) (y ∷ []) → StandsIn xs y
unfolding Each
first_in xs y h = h.0

module _ (x : ℕ) (t : TermValue) (xs : List ℕ) (free : Each (StandsIn (without x xs)) (term_variables t)) where
  mutual
    over_in : (s : TermValue) → Each (StandsIn xs) (term_variables s) → Each (StandsIn (without x xs)) (term_variables (apply_term (replace x t) s))
    over_in (Var y) h = over_by x t xs free y (first_in xs y h) (eqb y x) refl
    over_in (App f ss) h = over_all ss h

    over_all : (ss : Arguments) → Each (StandsIn xs) (variables_of ss) → Each (StandsIn (without x xs)) (variables_of (apply_arguments (replace x t) ss))
    over_all Nil h = none_there (StandsIn (without x xs))
    over_all (Cons s ss) h =
        each_append (StandsIn (without x xs)) (term_variables (apply_term (replace x t) s)) (variables_of (apply_arguments (replace x t) ss))
        (over_in s (each_left (StandsIn xs) (term_variables s) (variables_of ss) h))
        (over_all ss (each_right (StandsIn xs) (term_variables s) (variables_of ss) h))

  replaced_over : (qs : Equations) → Over xs qs → Over (without x xs) (replaced (replace x t) qs)
  replaced_over [] h = tt
  replaced_over (q ∷ qs) h = (over_in q.0 h.0, over_in q.1 h.1, replaced_over qs h.2)

-- ---- a variable in a term is no heavier than the term, under every substitution
heavy_by : (x y : ℕ) (test : Bool) → eqb y x ≡ test → Each (Other x) (y ∷ []) ⊎ ((v : Substitution) → weight (v x) ≤ weight (v y))
heavy_by x y true e = inr (λ v. let same : weight (v y) ≡ weight (v x) = ap (λ z. weight (v z)) (eqb-true y x e) in omega (arith, same))
heavy_by x y false e = inl (one_there x y e)

mutual
  heavy_in : (x : ℕ) (t : TermValue) → Each (Other x) (term_variables t) ⊎ ((v : Substitution) → weight (v x) ≤ weight (apply_term v t))
  heavy_in x (Var y) = heavy_by x y (eqb y x) refl
  heavy_in x (App f ts) =
      elim (heavy_all x ts) as (λ _. Each (Other x) (variables_of ts) ⊎ ((v : Substitution) → weight (v x) ≤ 1 + weights (apply_arguments v ts))) [ inl h ↦ inl h | inr h ↦ inr (λ v. let here = h v in omega (arith, here)) ]

  heavy_all : (x : ℕ) (ts : Arguments) → Each (Other x) (variables_of ts) ⊎ ((v : Substitution) → weight (v x) ≤ weights (apply_arguments v ts))
  heavy_all x Nil = inl (none_there (Other x))
  heavy_all x (Cons t ts) =
      elim (heavy_in x t) as (λ _. Each (Other x) (term_variables t ++ variables_of ts) ⊎ ((v : Substitution) → weight (v x) ≤ weight (apply_term v t) + weights (apply_arguments v ts))) [
        | inl h ↦ elim (heavy_all x ts) as (λ _. Each (Other x) (term_variables t ++ variables_of ts) ⊎ ((v : Substitution) → weight (v x) ≤ weight (apply_term v t) + weights (apply_arguments v ts))) [
          | inl g ↦ inl (each_append (Other x) (term_variables t) (variables_of ts) h g)
          | inr g ↦ inr (λ v. let here = g v in omega (arith, here))
        ]
        | inr h ↦ inr (λ v. let here = h v in omega (arith, here))
      ]

-- ---- arguments in pairs
pairs_over : (xs : List ℕ) (ss ts : Arguments) (qs : Equations) → Each (StandsIn xs) (variables_of ss) → Each (StandsIn xs) (variables_of ts) → Over xs qs → Over xs (pairs ss ts ++ qs)
pairs_over xs Nil Nil qs f g h = h
pairs_over xs Nil (Cons t ts) qs f g h = h
pairs_over xs (Cons s ss) Nil qs f g h = h
pairs_over xs (Cons s ss) (Cons t ts) qs f g h = (
  each_left (StandsIn xs) (term_variables s) (variables_of ss) f,
  each_left (StandsIn xs) (term_variables t) (variables_of ts) g,
  pairs_over xs ss ts qs (each_right (StandsIn xs) (term_variables s) (variables_of ss) f) (each_right (StandsIn xs) (term_variables t) (variables_of ts) g) h,
)

pairs_size : (ss ts : Arguments) (qs : Equations) → size (pairs ss ts ++ qs) ≤ weights ss + size qs
pairs_size Nil Nil qs = omega arith
pairs_size Nil (Cons t ts) qs = omega arith
pairs_size (Cons s ss) Nil qs = omega arith
pairs_size (Cons s ss) (Cons t ts) qs = omega (arith, pairs_size ss ts qs)

hold_counted : (w : Substitution) (ss ts : Arguments) (qs : Equations) → count ss ≡ count ts → HoldsAll w (pairs ss ts ++ qs) → (apply_arguments w ss ≡ apply_arguments w ts) × HoldsAll w qs
hold_counted w Nil Nil qs e g = (refl, g)
hold_counted w Nil (Cons t ts) qs e g = absurd (omega (arith, e))
hold_counted w (Cons s ss) Nil qs e g = absurd (omega (arith, e))
hold_counted w (Cons s ss) (Cons t ts) qs e g =
    let later = hold_counted w ss ts qs (omega (arith, e)) g.1 in
    (λ i. Cons (g.0 i) (later.0 i), later.1)

count_kept : (w : Substitution) (ts : Arguments) → count (apply_arguments w ts) ≡ count ts
count_kept w Nil = refl
count_kept w (Cons t ts) = ap (λ n. 1 + n) (count_kept w ts)

differ : (m n : ℕ) → eqb m n ≡ false → ¬ (m ≡ n)
differ m n e h = let same : eqb m m ≡ false = ap (eqb m) h ∙ e in cc (same, eqb_itself m)

number_decided : (m n : ℕ) (test : Bool) → eqb m n ≡ test → (m ≡ n) ⊎ (¬ (m ≡ n))
number_decided m n true e = inl (eqb-true m n e)
number_decided m n false e = inr (λ h. differ m n e h)

pub same_number : (m n : ℕ) → (m ≡ n) ⊎ (¬ (m ≡ n))
same_number m n = number_decided m n (eqb m n) refl

decomposed : (f g : ℕ) (ss ts : Arguments) (qs : Equations) → f ≡ g → count ss ≡ count ts → Decided (pairs ss ts ++ qs) → Decided ((App f ss, App g ts) ∷ qs)
unfolding args_of
decomposed f g ss ts qs e n (inl m) =
    let held = hold_counted m.substitution ss ts qs n m.holds in
    inl (record {
      substitution = m.substitution;
      holds = (λ i. App (e i) (held.0 i), held.1);
      general = λ w k x. m.general w (pairs_hold w ss ts qs (ap args_of k.0) k.1) x;
    })
decomposed f g ss ts qs e n (inr never) = inr (λ w h. never w (pairs_hold w ss ts qs (ap args_of h.0) h.1))

app_head : (f g : ℕ) (ss ts : Arguments) → App f ss ≡ App g ts → f ≡ g
app_head f g ss ts h = cc

turned_too : (s t : TermValue) (qs : Equations) → Decided ((s, t) ∷ qs) → Decided ((t, s) ∷ qs)
turned_too s t qs (inl m) = inl (turned s t qs m)
turned_too s t qs (inr never) = inr (λ w h. never w (sym h.0, h.1))

-- ---- the steps
module _ (xs : List ℕ) (fewer : (ys : List ℕ) → length ys < length xs → (qs : Equations) → Over ys qs → Decided qs) (n : ℕ) (later : (qs : Equations) → Over xs qs → size qs ≤ n → Decided qs) where
  by_elimination : (x : ℕ) (t : TermValue) (qs : Equations) → Each (Other x) (term_variables t) → StandsIn xs x → Each (StandsIn xs) (term_variables t) → Over xs qs → Decided ((Var x, t) ∷ qs)
  by_elimination x t qs free here there rest =
      let gone = each_stays x xs (term_variables t) there free in
      elim (fewer (without x xs) (shorter x xs here) (replaced (replace x t) qs) (replaced_over x t xs gone qs rest)) as (λ _. Decided ((Var x, t) ∷ qs)) [
        | inl m ↦ inl (eliminate x t qs free m)
        | inr never ↦ inr (λ w h. let P : Substitution → Type 0 = λ s. HoldsAll s qs in never w (replaced_holds (replace x t) w qs (subst P (sym (keeps w x t h.0)) h.1)))
      ]

  of_variables : (x y : ℕ) (qs : Equations) (test : Bool) → eqb y x ≡ test → StandsIn xs x → Each (StandsIn xs) (term_variables (Var y)) → Over xs qs → size qs ≤ n → Decided ((Var x, Var y) ∷ qs)
  of_variables x y qs true e here there rest le =
      elim (later qs rest le) as (λ _. Decided ((Var x, Var y) ∷ qs)) [
        | inl m ↦ inl (dropped x y qs (sym (eqb-true y x e)) m)
        | inr never ↦ inr (λ w h. never w h.1)
      ]
  of_variables x y qs false e here there rest le = by_elimination x (Var y) qs (one_there x y e) here there rest

  of_variable : (x f : ℕ) (ts : Arguments) (qs : Equations) → StandsIn xs x → Each (StandsIn xs) (variables_of ts) → Over xs qs → Decided ((Var x, App f ts) ∷ qs)
  of_variable x f ts qs here there rest =
      elim (heavy_all x ts) as (λ _. Decided ((Var x, App f ts) ∷ qs)) [
        | inl free ↦ by_elimination x (App f ts) qs free here there rest
        | inr heavy ↦ inr (λ w h. let same : weight (w x) ≡ 1 + weights (apply_arguments w ts) = ap weight h.0 in let more = heavy w in omega (arith, more, same))
      ]

  of_functions : (f g : ℕ) (ss ts : Arguments) (qs : Equations) → (f ≡ g) ⊎ (¬ (f ≡ g)) → (count ss ≡ count ts) ⊎ (¬ (count ss ≡ count ts)) → Over xs ((App f ss, App g ts) ∷ qs) → weights ss + size qs ≤ n → Decided ((App f ss, App g ts) ∷ qs)
  unfolding args_of
  of_functions f g ss ts qs (inr never) d over le = inr (λ w h. never (app_head f g (apply_arguments w ss) (apply_arguments w ts) h.0))
  of_functions f g ss ts qs (inl e) (inr never) over le =
      inr (λ w h. never (sym (count_kept w ss) ∙ (ap (λ z. count (args_of z)) h.0 ∙ count_kept w ts)))
  of_functions f g ss ts qs (inl e) (inl n') over le =
      let bound = pairs_size ss ts qs in
      decomposed f g ss ts qs e n' (later (pairs ss ts ++ qs) (pairs_over xs ss ts qs over.0 over.1 over.2) (omega (arith, bound, le)))

  step : (s t : TermValue) (qs : Equations) → Over xs ((s, t) ∷ qs) → weight s + size qs ≤ suc n → Decided ((s, t) ∷ qs)
  step (Var x) (Var y) qs over le = of_variables x y qs (eqb y x) refl (first_in xs x over.0) over.1 over.2 (omega (arith, le))
  step (Var x) (App f ts) qs over le = of_variable x f ts qs (first_in xs x over.0) over.1 over.2
  step (App f ss) (Var y) qs over le = turned_too (Var y) (App f ss) qs (of_variable y f ss qs (first_in xs y over.1) over.0 over.2)
  step (App f ss) (App g ts) qs over le = of_functions f g ss ts qs (same_number f g) (same_number (count ss) (count ts)) over (omega (arith, le))

by_size : (xs : List ℕ) → ((ys : List ℕ) → length ys < length xs → (qs : Equations) → Over ys qs → Decided qs) → (n : ℕ) (qs : Equations) → Over xs qs → size qs ≤ n → Decided qs
by_size xs fewer n [] over le = inl (record { substitution = Var; holds = tt; general = λ w g x. refl })
by_size xs fewer zero (q ∷ qs) over le = let w = weighs q.0 in absurd (omega (arith, w, le))
by_size xs fewer (suc n) (q ∷ qs) over le = step xs fewer n (λ rs o l. by_size xs fewer n rs o l) q.0 q.1 qs over le

by_variables : (m : ℕ) (xs : List ℕ) → length xs ≤ m → (qs : Equations) → Over xs qs → Decided qs
by_variables zero xs le qs over = by_size xs (λ ys less rs o. absurd (omega (arith, less, le))) (size qs) qs over (omega arith)
by_variables (suc m) xs le qs over = by_size xs (λ ys less rs o. by_variables m ys (omega (arith, less, le)) rs o) (size qs) qs over (omega arith)

-- ---- the variables of equations
abbrev all_variables : Equations → List ℕ
all_variables [] = []
all_variables (q ∷ qs) = (term_variables q.0 ++ term_variables q.1) ++ all_variables qs

widen : (xs ys : List ℕ) → ((z : ℕ) → StandsIn xs z → StandsIn ys z) → (qs : Equations) → Over xs qs → Over ys qs
widen xs ys f [] h = tt
widen xs ys f (q ∷ qs) h = (each_map (StandsIn xs) (StandsIn ys) f (term_variables q.0) h.0, each_map (StandsIn xs) (StandsIn ys) f (term_variables q.1) h.1, widen xs ys f qs h.2)

all_over : (qs : Equations) → Over (all_variables qs) qs
all_over [] = tt
all_over (q ∷ qs) =
    let here : List ℕ = term_variables q.0 ++ term_variables q.1 in (
      each_map (StandsIn (term_variables q.0)) (StandsIn (here ++ all_variables qs)) (λ z h. in_left here (all_variables qs) z (in_left (term_variables q.0) (term_variables q.1) z h)) (term_variables q.0) (each_self (term_variables q.0)),
      each_map (StandsIn (term_variables q.1)) (StandsIn (here ++ all_variables qs)) (λ z h. in_left here (all_variables qs) z (in_right (term_variables q.0) (term_variables q.1) z h)) (term_variables q.1) (each_self (term_variables q.1)),
      widen (all_variables qs) (here ++ all_variables qs) (in_right here (all_variables qs)) qs (all_over qs),
    )

pub solvable : (qs : Equations) → Decided qs
solvable qs = by_variables (length (all_variables qs)) (all_variables qs) (omega arith) qs (all_over qs)
