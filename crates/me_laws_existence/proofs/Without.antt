-- Lists of variables, and a list without a variable.
use Rattle.std.proofs.Common.{◌≡◌, ℕ, suc, ◌<◌, ◌≤◌, Bool, true, false, cond, eqb, ◌⊎◌, inl, inr, List, [], ◌∷◌, ◌++◌, length, sym, subst, ap, ◌∙◌, arith}
use Rattle.std.proofs.lemmas.Bool.{eqb-true}
use Rattle.me_laws.proofs.Existence.{eqb_itself, Other}
use Rattle.me_laws.proofs.Renaming.{Each, each_map}

-- y is one of these
abbrev pub StandsIn : List ℕ → ℕ → Type 0
StandsIn [] y = ⊥
StandsIn (x ∷ xs) y = (eqb x y ≡ true) ⊎ StandsIn xs y

abbrev pub without : ℕ → List ℕ → List ℕ
without y [] = []
without y (x ∷ xs) = cond (eqb x y) (without y xs) (x ∷ without y xs)

no_longer : (y : ℕ) (xs : List ℕ) → length (without y xs) ≤ length xs
no_longer y [] = omega arith
no_longer y (x ∷ xs) =
    let later = no_longer y xs in
    elim (eqb x y) as (λ b. length (cond b (without y xs) (x ∷ without y xs)) ≤ suc (length xs)) [ true ↦ omega (arith, later) | false ↦ omega (arith, later) ]

pub shorter : (y : ℕ) (xs : List ℕ) → StandsIn xs y → length (without y xs) < length xs
shorter y [] h = absurd h
shorter y (x ∷ xs) (inl e) =
    let later = no_longer y xs in
    let P : Bool → Type 0 = λ b. length (cond b (without y xs) (x ∷ without y xs)) < suc (length xs) in
    subst P (sym e) (omega (arith, later))
shorter y (x ∷ xs) (inr h) =
    let later = shorter y xs h in
    elim (eqb x y) as (λ b. length (cond b (without y xs) (x ∷ without y xs)) < suc (length xs)) [ true ↦ omega (arith, later) | false ↦ omega (arith, later) ]

pub stays : (z y : ℕ) (xs : List ℕ) → StandsIn xs z → Other y z → StandsIn (without y xs) z
stays z y [] h other = absurd h
stays z y (x ∷ xs) (inl e) other =
    let P : Bool → Type 0 = λ b. StandsIn (cond b (without y xs) (x ∷ without y xs)) z in
    let test : eqb x y ≡ false = ap (λ t. eqb t y) (eqb-true x z e) ∙ other in
    subst P (sym test) (inl e)
stays z y (x ∷ xs) (inr h) other =
    elim (eqb x y) as (λ b. StandsIn (cond b (without y xs) (x ∷ without y xs)) z) [ true ↦ stays z y xs h other | false ↦ inr (stays z y xs h other) ]

pub each_stays : (y : ℕ) (xs zs : List ℕ) → Each (StandsIn xs) zs → Each (Other y) zs → Each (StandsIn (without y xs)) zs
unfolding Each
each_stays y xs [] f g = tt
each_stays y xs (z ∷ zs) f g = (stays z y xs f.0 g.0, each_stays y xs zs f.1 g.1)

pub in_left : (xs ys : List ℕ) (z : ℕ) → StandsIn xs z → StandsIn (xs ++ ys) z
in_left [] ys z h = absurd h
in_left (x ∷ xs) ys z (inl e) = inl e
in_left (x ∷ xs) ys z (inr h) = inr (in_left xs ys z h)

pub in_right : (xs ys : List ℕ) (z : ℕ) → StandsIn ys z → StandsIn (xs ++ ys) z
in_right [] ys z h = h
in_right (x ∷ xs) ys z h = inr (in_right xs ys z h)

pub each_self : (xs : List ℕ) → Each (StandsIn xs) xs
unfolding Each
each_self [] = tt
each_self (x ∷ xs) = (inl (eqb_itself x), each_map (StandsIn xs) (StandsIn (x ∷ xs)) (λ y h. inr h) xs (each_self xs))
