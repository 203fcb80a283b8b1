-- How often something stands in a list, and numbers of all seats added up.
use Rattle.std.proofs.Common.{◌≡◌, ◌≢◌, ℕ, zero, suc, ◌+◌, ◌≤◌, ◌⊎◌, inl, inr, Bool, true, false, cond, nat_eq, List, [], ◌∷◌, ◌++◌, set, refl, sym, subst, ap, ◌∙◌, ⊎_elim, arith, eq-eqb, ne_eqb, ◌<◌}
use mathlib.Core.Option.{some, some-ne-none, some-injective}
use lib.ListN.{get_elem?}
use Rattle.atomic_table.proofs.Lists.{at_set, at_snoc}
use Rattle.branch_core.specs.Paths.{Turns}
use Rattle.branch_core.specs.Core.{turns_eq}
use Rattle.branch_core.proofs.Orderly.{turns_same}
use Rattle.share_words.proofs.Cases.{none_or_some}
use Rattle.share_words.specs.Counts.{many, path_count, number_count, total, Each}

-- ---- lists
module _ {A : Type 0} (test : A → Bool) where
  pub many_append : (xs ys : List A) → many test (xs ++ ys) ≡ many test xs + many test ys
  many_append [] ys = omega arith
  many_append (x ∷ xs) ys = let t = many_append xs ys in let g : cond (test x) 1 0 + many test (xs ++ ys) ≡ (cond (test x) 1 0 + many test xs) + many test ys = omega arith in g

  pub many_yes : (xs : List A) (x : A) → test x ≡ true → many test (xs ++ x ∷ []) ≡ many test xs + 1
  many_yes xs x is = let one : cond (test x) 1 0 + 0 ≡ 1 = ap (λ (b : Bool). cond b 1 0 + 0) is in many_append xs (x ∷ []) ∙ ap (λ (k : ℕ). many test xs + k) one

  pub many_no : (xs : List A) (x : A) → test x ≡ false → many test (xs ++ x ∷ []) ≡ many test xs
  many_no xs x is = let none_here : cond (test x) 1 0 + 0 ≡ 0 = ap (λ (b : Bool). cond b 1 0 + 0) is in many_append xs (x ∷ []) ∙ ap (λ (k : ℕ). many test xs + k) none_here ∙ omega arith

-- Two paths are one, or the test tells them apart.
pub one_or_other : (s t : Turns) → (s ≡ t) ⊎ (turns_eq s t ≡ false)
one_or_other [] [] = inl refl
one_or_other [] (b ∷ t) = inr refl
one_or_other (a ∷ s) [] = inr refl
one_or_other (true ∷ s) (true ∷ t) = ⊎_elim (λ e. inl (ap (λ (r : Turns). true ∷ r) e)) (λ n. inr n) (one_or_other s t)
one_or_other (false ∷ s) (false ∷ t) = ⊎_elim (λ e. inl (ap (λ (r : Turns). false ∷ r) e)) (λ n. inr n) (one_or_other s t)
one_or_other (true ∷ s) (false ∷ t) = inr refl
one_or_other (false ∷ s) (true ∷ t) = inr refl

-- The test tells different paths apart.
pub turns_other : (s t : Turns) → turns_eq s t ≡ false → s ≢ t
turns_other s t n e = let P : Turns → Type 0 = λ r. turns_eq s r ≡ true in cc (subst P e (turns_same s))

pub path_count_here : (path : Turns) (paths : List Turns) → path_count path (paths ++ path ∷ []) ≡ path_count path paths + 1
path_count_here path paths = many_yes (turns_eq path) paths path (turns_same path)

pub path_count_else : (path other : Turns) (paths : List Turns) → turns_eq other path ≡ false → path_count other (paths ++ path ∷ []) ≡ path_count other paths
path_count_else path other paths n = many_no (turns_eq other) paths path n

pub number_count_here : (n : ℕ) (ns : List ℕ) → number_count n (ns ++ n ∷ []) ≡ number_count n ns + 1
number_count_here n ns = many_yes (nat_eq n) ns n (eq-eqb n n refl)

pub number_count_else : (n other : ℕ) (ns : List ℕ) → other ≢ n → number_count other (ns ++ n ∷ []) ≡ number_count other ns
number_count_else n other ns h = many_no (nat_eq other) ns n (ne_eqb other n h)

-- ---- all seats
module _ {V : Type 0} where
  -- The total after a change of one view.
  pub total_set : (f : V → ℕ) (views : List V) (id : ℕ) (v w : V) → get_elem? views id ≡ some v → total f (set views id w) + f v ≡ total f views + f w
  total_set f [] id v w e = absurd (some-ne-none v (sym e))
  total_set f (u ∷ us) zero v w e = let is_same : f u ≡ f v = ap f (some-injective u v e) in let g : (f w + total f us) + f v ≡ (f u + total f us) + f w = omega arith in g
  total_set f (u ∷ us) (suc id) v w e = let t = total_set f us id v w e in let g : (f u + total f (set us id w)) + f v ≡ (f u + total f us) + f w = omega arith in g

  pub more : (f : V → ℕ) (views : List V) (id a : ℕ) (v w : V) → get_elem? views id ≡ some v → f w ≡ f v + a → total f (set views id w) ≡ total f views + a
  more f views id a v w at e = let t = total_set f views id v w at in omega arith

  pub same : (f : V → ℕ) (views : List V) (id : ℕ) (v w : V) → get_elem? views id ≡ some v → f w ≡ f v → total f (set views id w) ≡ total f views
  same f views id v w at e = let t = total_set f views id v w at in omega arith

  pub at_le_total : (f : V → ℕ) (views : List V) (id : ℕ) (v : V) → get_elem? views id ≡ some v → f v ≤ total f views
  at_le_total f [] id v e = absurd (some-ne-none v (sym e))
  at_le_total f (u ∷ us) zero v e = let same_one : f u ≡ f v = ap f (some-injective u v e) in let g : f v ≤ f u + total f us = omega arith in g
  at_le_total f (u ∷ us) (suc id) v e = let t = at_le_total f us id v e in let g : f v ≤ f u + total f us = omega arith in g

  -- Where the total is more than 0, some view has more than 0.
  pub someone : (f : V → ℕ) (views : List V) → 0 < total f views → (id : ℕ) × (v : V) × (get_elem? views id ≡ some v) × (0 < f v)
  someone f [] h = absurd (let g : 0 < 0 = h in omega arith)
  someone f (u ∷ us) h =
      ⊎_elim
      (λ (none : f u ≡ 0). let g : 0 < f u + total f us = h in let r = someone f us (omega arith) in (suc r.0, r.1, r.2, r.3))
      (λ (some_here : 0 < f u). (0, u, refl, some_here))
      (none_or_some (f u))

  -- Two views count both.
  pub both_le_total : (f : V → ℕ) (views : List V) (id j : ℕ) (v u : V) → j ≢ id → get_elem? views id ≡ some v → get_elem? views j ≡ some u → f v + f u ≤ total f views
  both_le_total f [] id j v u n e h = absurd (some-ne-none v (sym e))
  both_le_total f (x ∷ xs) zero zero v u n e h = absurd (n refl)
  both_le_total f (x ∷ xs) zero (suc j) v u n e h = let s : f x ≡ f v = ap f (some-injective x v e) in let t = at_le_total f xs j u h in let g : f v + f u ≤ f x + total f xs = omega arith in g
  both_le_total f (x ∷ xs) (suc id) zero v u n e h = let s : f x ≡ f u = ap f (some-injective x u h) in let t = at_le_total f xs id v e in let g : f v + f u ≤ f x + total f xs = omega arith in g
  both_le_total f (x ∷ xs) (suc id) (suc j) v u n e h = let t = both_le_total f xs id j v u (λ d. n (ap suc d)) e h in let g : f v + f u ≤ f x + total f xs = omega arith in g

  nothing : (f : V → ℕ) (views : List V) → Each (λ u. f u ≡ 0) views → total f views ≡ 0
  nothing f [] none_has = refl
  nothing f (u ∷ us) none_has = let h = none_has 0 u refl in let t = nothing f us (λ j w e. none_has (suc j) w e) in let g : f u + total f us ≡ 0 = omega arith in g

  -- Where the others have nothing, the number of one view is the total.
  pub alone : (f : V → ℕ) (views : List V) (id : ℕ) (v : V) → get_elem? views id ≡ some v → ((j : ℕ) (u : V) → j ≢ id → get_elem? views j ≡ some u → f u ≡ 0) → total f views ≡ f v
  alone f [] id v e others = absurd (some-ne-none v (sym e))
  alone f (u ∷ us) zero v e others =
      let r : f u ≡ f v = ap f (some-injective u v e) in
      let t = nothing f us (λ j w h. others (suc j) w (λ d. absurd (omega arith)) h) in
      let g : f u + total f us ≡ f v = omega arith in g
  alone f (u ∷ us) (suc id) v e others =
      let h = others 0 u (λ d. absurd (omega arith)) refl in
      let t = alone f us id v e (λ j w n at. others (suc j) w (λ d. n (omega arith)) at) in
      let g : f u + total f us ≡ f v = omega arith in g

  total_snoc : (f : V → ℕ) (views : List V) (v : V) → total f (views ++ v ∷ []) ≡ total f views + f v
  total_snoc f [] v = let g : f v + 0 ≡ 0 + f v = omega arith in g
  total_snoc f (u ∷ us) v = let t = total_snoc f us v in let g : f u + total f (us ++ v ∷ []) ≡ (f u + total f us) + f v = omega arith in g

  -- One view becomes two.
  pub cut : (f : V → ℕ) (views : List V) (id a : ℕ) (v l r : V) → get_elem? views id ≡ some v → f l + f r ≡ f v + a → total f (set views id l ++ r ∷ []) ≡ total f views + a
  cut f views id a v l r at whole = let s = total_set f views id v l at in let b = total_snoc f (set views id l) r in omega arith

  -- Two views become one.
  pub merged : (f : V → ℕ) (views : List V) (id other a b : ℕ) (v w x spent : V) → get_elem? views id ≡ some v → get_elem? (set views id x) other ≡ some w → f x + f spent + a ≡ f v + f w + b
      → total f (set (set views id x) other spent) + a ≡ total f views + b
  merged f views id other a b v w x spent at there whole = let s = total_set f views id v x at in let t = total_set f (set views id x) other w spent there in omega arith

  -- The view that was put there stands there.
  pub set_place : (views : List V) (id : ℕ) (v w : V) → get_elem? views id ≡ some v → get_elem? (set views id w) id ≡ some w
  set_place [] id v w e = absurd (some-ne-none v (sym e))
  set_place (u ∷ us) zero v w e = refl
  set_place (u ∷ us) (suc id) v w e = set_place us id v w e

  pub each_set : {IsSo : V → Type 0} (views : List V) (id : ℕ) (w : V) → IsSo w → Each IsSo views → Each IsSo (set views id w)
  each_set {IsSo} views id w so each j u e =
      ⊎_elim (λ (t : (j ≡ id) × (w ≡ u)). subst IsSo t.1 so) (λ (t : (j ≢ id) × (get_elem? views j ≡ some u)). each j u t.1) (at_set views id j w u e)

  pub each_snoc : {IsSo : V → Type 0} (views : List V) (r : V) → IsSo r → Each IsSo views → Each IsSo (views ++ r ∷ [])
  each_snoc {IsSo} views r so each j u e = ⊎_elim (λ was. each j u was) (λ (is : r ≡ u). subst IsSo is so) (at_snoc views r u j e)
