-- Atoms that are instances of each other have the same canonical form, depth and weight.
use Rattle.std.proofs.Common.{◌≡◌, ℕ, ◌+◌, max, Bool, true, false, eqb, ◌||◌, cond, List, [], ◌∷◌, ◌++◌, map, refl, sym, ap, ◌∙◌, arith}
use Rattle.std.specs.List.{list_any}
use Rattle.std.proofs.lemmas.Bool.{eqb-true}
use Rattle.std.proofs.lemmas.Grind.{common_steps}
use Rattle.me_terms.specs.Terms.{TermValue, Var, App, Arguments, Nil, Cons, AtomValue}
use Rattle.me_terms.specs.Substitutions.{Substitution, apply_term, apply_arguments, apply_atom, followed_by}
use Rattle.me_terms.specs.Variables.{term_variables, variables_of, weight, weights, depth, depths, first_ones, place_of, canonical}
use Rattle.me_laws.proofs.Generality.{arguments_unchanged, arguments_followed}

-- P holds of each
unfoldable pub Each : (ℕ → Type 0) → List ℕ → Type 0
Each P [] = Unit {0}
Each P (x ∷ xs) = P x × Each P xs

pub each_append : (P : ℕ → Type 0) (xs ys : List ℕ) → Each P xs → Each P ys → Each P (xs ++ ys)
unfolding Each
each_append P [] ys f g = g
each_append P (x ∷ xs) ys f g = (f.0, each_append P xs ys f.1 g)

pub each_left : (P : ℕ → Type 0) (xs ys : List ℕ) → Each P (xs ++ ys) → Each P xs
unfolding Each
each_left P [] ys h = tt
each_left P (x ∷ xs) ys h = (h.0, each_left P xs ys h.1)

pub each_right : (P : ℕ → Type 0) (xs ys : List ℕ) → Each P (xs ++ ys) → Each P ys
unfolding Each
each_right P [] ys h = h
each_right P (x ∷ xs) ys h = each_right P xs ys h.1

pub each_map : (P Q : ℕ → Type 0) → ((x : ℕ) → P x → Q x) → (xs : List ℕ) → Each P xs → Each Q xs
unfolding Each
each_map P Q f [] h = tt
each_map P Q f (x ∷ xs) h = (f x h.0, each_map P Q f xs h.1)

unfoldable pub args_of : TermValue → Arguments
args_of (Var x) = Nil
args_of (App f ts) = ts

unfoldable pub head_of : Arguments → TermValue
head_of Nil = Var 0
head_of (Cons t ts) = t

unfoldable pub rest_of : Arguments → Arguments
rest_of Nil = Nil
rest_of (Cons t ts) = ts

-- substitutions that agree on a term agree on its variables
mutual
  unfolding Each args_of head_of rest_of

  pub agree_variables : (s r : Substitution) (t : TermValue) → apply_term s t ≡ apply_term r t → Each (λ x. s x ≡ r x) (term_variables t)
  agree_variables s r (Var x) h = (h, tt)
  agree_variables s r (App f ts) h = agree_variables_all s r ts (ap args_of h)

  pub agree_variables_all : (s r : Substitution) (ts : Arguments) → apply_arguments s ts ≡ apply_arguments r ts → Each (λ x. s x ≡ r x) (variables_of ts)
  agree_variables_all s r Nil h = tt
  agree_variables_all s r (Cons t ts) h =
      each_append (λ x. s x ≡ r x) (term_variables t) (variables_of ts) (agree_variables s r t (ap head_of h)) (agree_variables_all s r ts (ap rest_of h))

-- and the other way round
mutual
  unfolding Each

  pub variables_agree : (s r : Substitution) (t : TermValue) → Each (λ x. s x ≡ r x) (term_variables t) → apply_term s t ≡ apply_term r t
  variables_agree s r (Var x) h = h.0
  variables_agree s r (App f ts) h = ap (App f) (variables_agree_all s r ts h)

  pub variables_agree_all : (s r : Substitution) (ts : Arguments) → Each (λ x. s x ≡ r x) (variables_of ts) → apply_arguments s ts ≡ apply_arguments r ts
  variables_agree_all s r Nil h = refl
  variables_agree_all s r (Cons t ts) h =
      let first = variables_agree s r t (each_left (λ x. s x ≡ r x) (term_variables t) (variables_of ts) h) in
      let later = variables_agree_all s r ts (each_right (λ x. s x ≡ r x) (term_variables t) (variables_of ts) h) in
      λ i. Cons (first i) (later i)

-- the variable that a term is
unfoldable pub name_of : TermValue → ℕ
name_of (Var x) = x
name_of (App f ts) = 0

-- r takes the variable to a variable, and the other substitution takes that back
module _ (r back : Substitution) where
  unfoldable pub name : ℕ → ℕ
  name x = name_of (r x)

  unfoldable pub Good : ℕ → Type 0
  Good x = (r x ≡ Var (name_of (r x))) × (back (name_of (r x)) ≡ Var x)

  good_by : (x : ℕ) (t : TermValue) → apply_term back t ≡ Var x → (t ≡ Var (name_of t)) × (back (name_of t) ≡ Var x)
  unfolding name_of
  good_by x (Var y) h = (refl, h)
  good_by x (App f ts) h = cc

  good : (x : ℕ) → apply_term back (r x) ≡ Var x → Good x
  unfolding Good
  good x h = good_by x (r x) h

  pub name_injective : (x y : ℕ) → Good x → Good y → name x ≡ name y → x ≡ y
  unfolding Good name name_of
  name_injective x y f g h = ap name_of (sym f.1 ∙ (ap back h ∙ g.1))

  both_true : (a b : Bool) → (a ≡ true → b ≡ true) → (b ≡ true → a ≡ true) → a ≡ b
  both_true true b f g = sym (f refl)
  both_true false true f g = g refl
  both_true false false f g = refl

  eqb_itself : (x y : ℕ) → x ≡ y → eqb x y ≡ true
  eqb_itself x y h = grind (arith, common_steps)

  same_test : (x y : ℕ) → Good x → Good y → eqb (name x) (name y) ≡ eqb x y
  same_test x y f g =
      both_true (eqb (name x) (name y)) (eqb x y) (λ h. eqb_itself x y (name_injective x y f g (eqb-true (name x) (name y) h)))
      (λ h. eqb_itself (name x) (name y) (ap name (eqb-true x y h)))

  same_any : (x : ℕ) (ys : List ℕ) → Good x → Each Good ys → list_any (eqb (name x)) (map name ys) ≡ list_any (eqb x) ys
  unfolding Each
  same_any x [] f g = refl
  same_any x (y ∷ ys) f g = λ i. same_test x y f g.0 i || same_any x ys f g.1 i

  map_last : (ys : List ℕ) (x : ℕ) → map name (ys ++ x ∷ []) ≡ map name ys ++ name x ∷ []
  map_last [] x = refl
  map_last (y ∷ ys) x = ap (λ zs. name y ∷ zs) (map_last ys x)

  map_append : (xs ys : List ℕ) → map name (xs ++ ys) ≡ map name xs ++ map name ys
  map_append [] ys = refl
  map_append (x ∷ xs) ys = ap (λ zs. name x ∷ zs) (map_append xs ys)

  good_firsts : (seen xs : List ℕ) → Each Good seen → Each Good xs → Each Good (first_ones seen xs)
  unfolding Each
  good_firsts seen [] f g = f
  good_firsts seen (x ∷ xs) f g =
      elim (list_any (eqb x) seen) as (λ v. Each Good (cond v (first_ones seen xs) (first_ones (seen ++ x ∷ []) xs))) [
        | true ↦ good_firsts seen xs f g.1
        | false ↦ good_firsts (seen ++ x ∷ []) xs (each_append Good seen (x ∷ []) f (g.0, tt)) g.1
      ]

  same_firsts : (seen xs : List ℕ) → Each Good seen → Each Good xs → first_ones (map name seen) (map name xs) ≡ map name (first_ones seen xs)
  unfolding Each
  same_firsts seen [] f g = refl
  same_firsts seen (x ∷ xs) f g =
      let later = same_firsts (seen ++ x ∷ []) xs (each_append Good seen (x ∷ []) f (g.0, tt)) g.1 in
      let turned : first_ones (map name seen ++ name x ∷ []) (map name xs) ≡ map name (first_ones (seen ++ x ∷ []) xs) = ap (λ zs. first_ones zs (map name xs)) (sym (map_last seen x)) ∙ later in
      ap (λ v. cond v (first_ones (map name seen) (map name xs)) (first_ones (map name seen ++ name x ∷ []) (map name xs))) (same_any x seen g.0 f)
      ∙ (elim (list_any (eqb x) seen) as (λ v. cond v (first_ones (map name seen) (map name xs)) (first_ones (map name seen ++ name x ∷ []) (map name xs)) ≡ map name (cond v (first_ones seen xs) (first_ones (seen ++ x ∷ []) xs))) [
        | true ↦ same_firsts seen xs f g.1
        | false ↦ turned
      ])

  same_place : (x : ℕ) (ys : List ℕ) → Good x → Each Good ys → place_of (name x) (map name ys) ≡ place_of x ys
  unfolding Each
  same_place x [] f g = refl
  same_place x (y ∷ ys) f g = λ i. cond (same_test x y f g.0 i) 0 (1 + same_place x ys f g.1 i)

  mutual
    unfolding Each Good name

    renamed_variables : (t : TermValue) → Each Good (term_variables t) → term_variables (apply_term r t) ≡ map name (term_variables t)
    renamed_variables (Var x) h = ap term_variables h.0.0
    renamed_variables (App f ts) h = renamed_variables_all ts h

    pub renamed_variables_all : (ts : Arguments) → Each Good (variables_of ts) → variables_of (apply_arguments r ts) ≡ map name (variables_of ts)
    renamed_variables_all Nil h = refl
    renamed_variables_all (Cons t ts) h =
        let first = renamed_variables t (each_left Good (term_variables t) (variables_of ts) h) in
        let later = renamed_variables_all ts (each_right Good (term_variables t) (variables_of ts) h) in
        (λ i. first i ++ later i) ∙ sym (map_append (term_variables t) (variables_of ts))

  mutual
    unfolding Each Good

    renamed_depth : (t : TermValue) → Each Good (term_variables t) → depth (apply_term r t) ≡ depth t
    renamed_depth (Var x) h = ap depth h.0.0
    renamed_depth (App f ts) h = ap (λ n. 1 + n) (renamed_depths ts h)

    pub renamed_depths : (ts : Arguments) → Each Good (variables_of ts) → depths (apply_arguments r ts) ≡ depths ts
    renamed_depths Nil h = refl
    renamed_depths (Cons t ts) h =
        let first = renamed_depth t (each_left Good (term_variables t) (variables_of ts) h) in
        let later = renamed_depths ts (each_right Good (term_variables t) (variables_of ts) h) in
        λ i. max (first i) (later i)

  mutual
    unfolding Each Good

    renamed_weight : (t : TermValue) → Each Good (term_variables t) → weight (apply_term r t) ≡ weight t
    renamed_weight (Var x) h = ap weight h.0.0
    renamed_weight (App f ts) h = ap (λ n. 1 + n) (renamed_weights ts h)

    pub renamed_weights : (ts : Arguments) → Each Good (variables_of ts) → weights (apply_arguments r ts) ≡ weights ts
    renamed_weights Nil h = refl
    renamed_weights (Cons t ts) h =
        let first = renamed_weight t (each_left Good (term_variables t) (variables_of ts) h) in
        let later = renamed_weights ts (each_right Good (term_variables t) (variables_of ts) h) in
        λ i. first i + later i

  -- numbering the variables of the renamed atom and of the atom gives the same
  numbered : (ts : Arguments) → Each Good (variables_of ts) → (x : ℕ) → Good x → apply_term (λ y. Var (place_of y (first_ones [] (variables_of (apply_arguments r ts))))) (r x) ≡ Var (place_of x (first_ones [] (variables_of ts)))
  unfolding Good name Each
  numbered ts all x g =
      let names = first_ones [] (variables_of ts) in
      let theirs = first_ones [] (variables_of (apply_arguments r ts)) in
      let renamed : theirs ≡ map name names = ap (first_ones []) (renamed_variables_all ts all) ∙ same_firsts [] (variables_of ts) tt all in
      ap (apply_term (λ y. Var (place_of y theirs))) g.0
      ∙ (ap (λ ns. Var (place_of (name x) ns)) renamed ∙ ap (λ n. Var n) (same_place x names g (good_firsts [] (variables_of ts) tt all)))

  pub canonical_args : (ts : Arguments) → Each Good (variables_of ts) → apply_arguments (λ y. Var (place_of y (first_ones [] (variables_of (apply_arguments r ts))))) (apply_arguments r ts) ≡ apply_arguments (λ x. Var (place_of x (first_ones [] (variables_of ts)))) ts
  canonical_args ts all =
      let σ : Substitution = λ y. Var (place_of y (first_ones [] (variables_of (apply_arguments r ts)))) in
      let τ : Substitution = λ x. Var (place_of x (first_ones [] (variables_of ts))) in
      sym (arguments_followed r σ ts)
      ∙ variables_agree_all (followed_by r σ) τ ts (each_map Good (λ x. followed_by r σ x ≡ τ x) (numbered ts all) (variables_of ts) all)

  pub good_variables : (ts : Arguments) → apply_arguments back (apply_arguments r ts) ≡ ts → Each Good (variables_of ts)
  good_variables ts h =
      let there : apply_arguments (followed_by r back) ts ≡ apply_arguments Var ts = arguments_followed r back ts ∙ (h ∙ sym (arguments_unchanged ts)) in
      each_map (λ x. followed_by r back x ≡ Var x) Good good (variables_of ts) (agree_variables_all (followed_by r back) Var ts there)

-- what stands between two atoms that are instances of each other
pub record Variants (a b : AtomValue) : Type 0 where
  pub there : Substitution
  pub back : Substitution
  pub to : apply_atom there a ≡ b
  pub from : apply_atom back b ≡ a

pub args_back : (a b : AtomValue) (v : Variants a b) → apply_arguments v.back (apply_arguments v.there a.args) ≡ a.args
args_back a b v = ap (λ (c : AtomValue). apply_arguments v.back c.args) v.to ∙ ap (λ (c : AtomValue). c.args) v.from

pub all_good : (a b : AtomValue) (v : Variants a b) → Each (Good v.there v.back) (variables_of a.args)
all_good a b v = good_variables v.there v.back a.args (args_back a b v)

pub canonical_same : (a b : AtomValue) → Variants a b → canonical a ≡ canonical b
canonical_same a b v =
    let args = canonical_args v.there v.back a.args (all_good a b v) in
    let here : canonical (apply_atom v.there a) ≡ canonical a = λ i. record { pred = a.pred; args = args i } in
    sym here ∙ ap canonical v.to

pub depth_same : (a b : AtomValue) → Variants a b → depths a.args ≡ depths b.args
depth_same a b v =
    sym (renamed_depths v.there v.back a.args (all_good a b v)) ∙ ap (λ (c : AtomValue). depths c.args) v.to

pub weight_same : (a b : AtomValue) → Variants a b → weights a.args ≡ weights b.args
weight_same a b v =
    sym (renamed_weights v.there v.back a.args (all_good a b v)) ∙ ap (λ (c : AtomValue). weights c.args) v.to
