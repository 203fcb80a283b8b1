-- A term of which two freezings are known is found again.
use Rattle.std.proofs.Common.{◌≡◌, ℕ, zero, suc, ◌<◌, ◌⊎◌, inl, inr, Bool, true, false, eqb, cond, List, [], ◌∷◌, refl, ap, subst, ◌∙◌, arith}
use Rattle.std.proofs.lemmas.Bool.{cases_eq, cases_lt, ne_eqb}
use Rattle.me_terms.specs.Terms.{TermValue, Var, App, Arguments, Nil, Cons}
use Rattle.me_terms.specs.Substitutions.{Substitution, apply_term, apply_arguments}
use Rattle.me_terms.specs.Variables.{term_variables, variables_of, is_ground, are_ground}
use Rattle.me_terms.specs.TermEqualityLaws.{both_parts}
use Rattle.me_laws.proofs.Existence.{eqb_itself}
use Rattle.me_laws.proofs.Renaming.{Each, each_append, name_of}

-- Where the two have different symbols, the variable of the first symbol stood.
abbrev mutual
  pub unfrozen : (ℕ → TermValue) → TermValue → TermValue → TermValue
  unfrozen g (Var x) t = Var 0
  unfrozen g (App f ss) (Var y) = Var 0
  unfrozen g (App f ss) (App h ts) = cond (eqb f h) (App f (unfrozen_all g ss ts)) (g f)

  pub unfrozen_all : (ℕ → TermValue) → Arguments → Arguments → Arguments
  unfrozen_all g Nil ts = Nil
  unfrozen_all g (Cons s ss) Nil = Nil
  unfrozen_all g (Cons s ss) (Cons t ts) = Cons (unfrozen g s t) (unfrozen_all g ss ts)

mutual
  pub unfrozen_term : (g : ℕ → TermValue) (s r : Substitution) (t : TermValue) → unfrozen g (apply_term s t) (apply_term r t) ≡ apply_term (λ x. unfrozen g (s x) (r x)) t
  unfrozen_term g s r (Var x) = refl
  unfrozen_term g s r (App f ts) =
      ap (λ (b : Bool). cond b (App f (unfrozen_all g (apply_arguments s ts) (apply_arguments r ts))) (g f)) (eqb_itself f) ∙ ap (App f) (unfrozen_arguments g s r ts)

  pub unfrozen_arguments : (g : ℕ → TermValue) (s r : Substitution) (ts : Arguments) → unfrozen_all g (apply_arguments s ts) (apply_arguments r ts) ≡ apply_arguments (λ x. unfrozen g (s x) (r x)) ts
  unfrozen_arguments g s r Nil = refl
  unfrozen_arguments g s r (Cons t ts) = λ i. Cons (unfrozen_term g s r t i) (unfrozen_arguments g s r ts i)

pub unfrozen_constants : (g : ℕ → TermValue) (m n : ℕ) (s t : TermValue) → m < n → s ≡ App m Nil → t ≡ App n Nil → unfrozen g s t ≡ g m
unfrozen_constants g m n s t less e d =
    let other : eqb m n ≡ false = ne_eqb m n (λ q. absurd (omega (arith, q, less))) in
    (λ i. unfrozen g (e i) (d i)) ∙ ap (λ (b : Bool). cond b (App m Nil) (g m)) other

-- ---- the variables of which something is so
pub each_with : (P Q R : ℕ → Type 0) → ((x : ℕ) → P x → Q x → R x) → (xs : List ℕ) → Each P xs → Each Q xs → Each R xs
unfolding Each
each_with P Q R f [] h k = tt
each_with P Q R f (x ∷ xs) h k = (f x h.0 k.0, each_with P Q R f xs h.1 k.1)

-- what becomes ground has only variables that become ground
mutual
  unfolding Each

  ground_each : (s : Substitution) (t : TermValue) → is_ground (apply_term s t) ≡ true → Each (λ y. is_ground (s y) ≡ true) (term_variables t)
  ground_each s (Var x) h = (h, tt)
  ground_each s (App f ts) h = ground_each_all s ts h

  pub ground_each_all : (s : Substitution) (ts : Arguments) → are_ground (apply_arguments s ts) ≡ true → Each (λ y. is_ground (s y) ≡ true) (variables_of ts)
  ground_each_all s Nil h = tt
  ground_each_all s (Cons t ts) h =
      let parts = both_parts (is_ground (apply_term s t)) (are_ground (apply_arguments s ts)) h in
      each_append (λ y. is_ground (s y) ≡ true) (term_variables t) (variables_of ts) (ground_each s t parts.0) (ground_each_all s ts parts.1)

-- ---- the terms that are a variable
is_var : (t : TermValue) (y : ℕ) → (t ≡ Var y) ⊎ (¬ (t ≡ Var y))
unfolding name_of
is_var (Var x) y = elim (cases_eq x y) as (λ _. (Var x ≡ Var y) ⊎ (¬ (Var x ≡ Var y))) [ inl e ↦ inl (ap Var e) | inr d ↦ inr (λ q. d (ap name_of q)) ]
is_var (App f ts) y = inr (λ q. let z : App f ts ≡ Var y = q in cc)

abbrev pub IsOneOf : (ℕ → TermValue) → ℕ → ℕ → Type 0
IsOneOf t n y = (i : ℕ) × ((i < n) × (t i ≡ Var y))

abbrev pub IsNoneOf : (ℕ → TermValue) → ℕ → ℕ → Type 0
IsNoneOf t n y = (i : ℕ) → i < n → ¬ (t i ≡ Var y)

none_more : (t : ℕ → TermValue) (n y : ℕ) → IsNoneOf t n y → ¬ (t n ≡ Var y) → IsNoneOf t (suc n) y
none_more t n y none last i h =
    elim (cases_lt i n) as (λ _. ¬ (t i ≡ Var y)) [ inl lt ↦ none i lt | inr ge ↦ (let same : n ≡ i = omega (arith, ge, h) in subst (λ (k : ℕ). ¬ (t k ≡ Var y)) same last) ]

one_or_more : (t : ℕ → TermValue) (n y : ℕ) → ((t n ≡ Var y) ⊎ (¬ (t n ≡ Var y))) → (IsOneOf t n y ⊎ IsNoneOf t n y) → IsOneOf t (suc n) y ⊎ IsNoneOf t (suc n) y
one_or_more t n y (inl e) rest = inl (n, (omega arith, e))
one_or_more t n y (inr d) (inl f) = let lt = f.1.0 in inl (f.0, (omega (arith, lt), f.1.1))
one_or_more t n y (inr d) (inr none) = inr (none_more t n y none d)

pub one_or_none : (t : ℕ → TermValue) (n y : ℕ) → IsOneOf t n y ⊎ IsNoneOf t n y
one_or_none t zero y = inr (λ i h. absurd (omega (arith, h)))
one_or_none t (suc n) y = one_or_more t n y (is_var (t n) y) (one_or_none t n y)

-- a term where some are found, and else a variable
pub kept : {A B : Type 0} → A ⊎ B → TermValue → TermValue
kept (inl a) t = t
kept (inr b) t = Var 0

kept_by : (t : ℕ → TermValue) (n y i : ℕ) (s : TermValue) (f : IsOneOf t n y ⊎ IsNoneOf t n y) → i < n → t i ≡ Var y → kept f s ≡ s
unfolding kept
kept_by t n y i s (inl a) h e = refl
kept_by t n y i s (inr none) h e = absurd (none i h e)

pub kept_at : (t : ℕ → TermValue) (n y i : ℕ) (s : TermValue) → i < n → t i ≡ Var y → kept (one_or_none t n y) s ≡ s
kept_at t n y i s h e = kept_by t n y i s (one_or_none t n y) h e

kept_ground_by : (t : ℕ → TermValue) (n y : ℕ) (s : TermValue) (f : IsOneOf t n y ⊎ IsNoneOf t n y) → is_ground (kept f s) ≡ true → IsOneOf t n y
unfolding kept
kept_ground_by t n y s (inl a) h = a
kept_ground_by t n y s (inr none) h = let z : false ≡ true = h in cc

pub kept_ground : (t : ℕ → TermValue) (n y : ℕ) (s : TermValue) → is_ground (kept (one_or_none t n y) s) ≡ true → IsOneOf t n y
kept_ground t n y s h = kept_ground_by t n y s (one_or_none t n y) h

-- what becomes a constant by one substitution, does by another that agrees where it is a variable
pub constant_kept : (r s : Substitution) (t : TermValue) (m : ℕ) → ((y : ℕ) → t ≡ Var y → s y ≡ r y) → apply_term r t ≡ App m Nil → apply_term s t ≡ App m Nil
constant_kept r s (Var y) m h e = h y refl ∙ e
constant_kept r s (App f Nil) m h e = e
constant_kept r s (App f (Cons t ts)) m h e = let z : App f (Cons (apply_term r t) (apply_arguments r ts)) ≡ App m Nil = e in cc
