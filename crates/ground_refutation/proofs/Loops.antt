-- What one place or literal more does to what is left.
use Rattle.std.proofs.Common.{◌≡◌, ℕ, ◌+◌, ◌-◌, ◌<◌, ◌≤◌, min, ◌⊎◌, inl, inr, List, [], ◌∷◌, ◌++◌, append_assoc, length, get_or, drop, drop-cons, add-one, Option, Some, None, refl, sym, subst, ap, ◌∙◌, arith}
use Rattle.std.proofs.lemmas.Bool.{cases_lt}
use Rattle.std.proofs.lemmas.List.{append-nil}
use Rattle.std.proofs.lemmas.List.Sums.{sum_by-cons}
use Rattle.std.proofs.Math.ListN.{drop_of_length-le}
use Rattle.me_terms.specs.Substitutions.{Family, apply_atom, apply_literal}
use Rattle.me_terms.specs.Variables.{weights}
use Rattle.me_terms.specs.Measures.{literal_weight, literals_weight, capped, GREATEST_U64}
use Rattle.me_terms.specs.Unifier.{unified}
use Rattle.me_terms.specs.Context.{Context}
use Rattle.me_terms.specs.Positions.{entry_at}
use Rattle.me_terms.specs.ListedInstances.{constant, instance_of}
use Rattle.me_terms.specs.LeafList.{Demand, demands}
use Rattle.me_terms.specs.declared.atom.Literal.{Literal}
use Rattle.me_unify.specs.Equations.{Equation, IsSolvable, SolvesOne}
use Rattle.me_laws.proofs.Lists.{each_left, all_of}
use Rattle.me_unify.specs.ClauseEquations.{equations_at, equations_from}
use Rattle.ground_refutation.proofs.Solving.{each_of}
use Rattle.ground_refutation.proofs.Weights.{instance_literal_weight}

next_at : {A : Type 0} (xs : List A) (k : ℕ) (x : A) → k < length xs → drop k xs ≡ get_or xs k x ∷ drop (k + 1) xs
next_at xs k x lt = drop-cons xs k x lt ∙ (λ i. get_or xs k x ∷ drop (sym (add-one k) i) xs)

pub next_item : {A : Type 0} (xs : List A) (k : ℕ) (x : A) → k < length xs → x ≡ get_or xs k x → drop k xs ≡ x ∷ drop (k + 1) xs
next_item xs k x lt is = next_at xs k x lt ∙ (λ i. sym is i ∷ drop (k + 1) xs)

-- ---- an instance
module _ (c : ℕ) (u : Family) (ls : List Literal) (k : ℕ) (l : Literal) (lt : k < length ls) (is : l ≡ get_or ls k l) where
  abbrev left : ℕ
  left = literals_weight (instance_of u (λ x. constant c) (drop (k + 1) ls))

  left_weight : literals_weight (instance_of u (λ x. constant c) (drop k ls)) ≡ (1 + weights (apply_atom (u 0) l.atom).args) + left
  left_weight =
      ap (λ (ms : List Literal). literals_weight (instance_of u (λ x. constant c) ms)) (next_item ls k l lt is)
      ∙ (sum_by-cons literal_weight (apply_literal (λ x. constant c) (unified u l)) (instance_of u (λ x. constant c) (drop (k + 1) ls)) ∙ ap (λ n. n + left) (instance_literal_weight c u l))

  -- a literal that fits is counted
  pub counted_more : (bound before more whole : ℕ) → bound < GREATEST_U64 → before ≤ bound → more ≡ capped (1 + weights (apply_atom (u 0) l.atom).args) → more ≤ bound - before → before + literals_weight (instance_of u (λ x. constant c) (drop k ls)) ≡ whole → (before + more) + left ≡ whole
  counted_more bound before more whole small light is_capped fits h = let sum = left_weight in omega (arith, small, light, is_capped, fits, h, sum)

  -- one that does not makes the instance heavier than the bound
  pub counted_over : (bound before more whole : ℕ) → before ≤ bound → more ≡ capped (1 + weights (apply_atom (u 0) l.atom).args) → bound - before < more → before + literals_weight (instance_of u (λ x. constant c) (drop k ls)) ≡ whole → bound < whole
  counted_over bound before more whole light is_capped over h = let sum = left_weight in omega (arith, light, is_capped, over, h, sum)

  pub written_more : (before whole : List Literal) (m : Literal) → m ≡ apply_literal (λ x. constant c) (unified u l) → before ++ instance_of u (λ x. constant c) (drop k ls) ≡ whole → (before ++ m ∷ []) ++ instance_of u (λ x. constant c) (drop (k + 1) ls) ≡ whole
  written_more before whole m is_written h =
      append_assoc before (m ∷ []) (instance_of u (λ x. constant c) (drop (k + 1) ls))
      ∙ ((λ i. before ++ is_written i ∷ instance_of u (λ x. constant c) (drop (k + 1) ls))
      ∙ (ap (λ (ms : List Literal). before ++ instance_of u (λ x. constant c) ms) (sym (next_item ls k l lt is)) ∙ h))

pub none_left : (u : Family) (c : ℕ) (ls before whole : List Literal) (k : ℕ) → length ls ≤ k → before ++ instance_of u (λ x. constant c) (drop k ls) ≡ whole → before ≡ whole
none_left u c ls before whole k le h =
    sym (append-nil before) ∙ (ap (λ (ms : List Literal). before ++ instance_of u (λ x. constant c) ms) (sym (drop_of_length-le ls le)) ∙ h)

-- ---- the places of a clause
module _ (context : Context) (ls : List Literal) (ks : List (Option ℕ)) (i : ℕ) where
  abbrev later : List Equation
  later = equations_from (i + 1) context (drop (i + 1) ls) (drop (i + 1) ks)

  module _ (l : Literal) (lt : i < length ls) (lt' : i < length ks) (is : l ≡ get_or ls i l) where
    abbrev here : List Equation
    here = equations_at (i + 1) (entry_at context (get_or ks i None)) l

    left_equations : equations_from i context (drop i ls) (drop i ks) ≡ here ++ later
    left_equations = λ t. equations_from i context (next_item ls i l lt is t) (next_at ks i None lt' t)

    pub bound_more : (before whole : List Equation) → before ++ equations_from i context (drop i ls) (drop i ks) ≡ whole → (before ++ here) ++ later ≡ whole
    bound_more before whole h = append_assoc before here later ∙ (ap (λ (qs : List Equation). before ++ qs) (sym left_equations) ∙ h)

    -- its equation has a solution with those before it
    pub still_solvable : (before whole : List Equation) → before ++ equations_from i context (drop i ls) (drop i ks) ≡ whole → IsSolvable whole → IsSolvable (before ++ here)
    still_solvable before whole h solvable =
        let s = subst IsSolvable (sym (bound_more before whole h)) solvable in
        (s.0, all_of (SolvesOne s.0) (before ++ here) (each_left (SolvesOne s.0) (before ++ here) later (each_of (SolvesOne s.0) ((before ++ here) ++ later) s.1)))

  no_literals : (ms : List Literal) → ms ≡ [] → equations_from i context ms (drop i ks) ≡ []
  no_literals ms h = ap (λ (ns : List Literal). equations_from i context ns (drop i ks)) h

  no_positions : (ms : List Literal) (os : List (Option ℕ)) → os ≡ [] → equations_from i context ms os ≡ []
  no_positions [] os h = refl
  no_positions (m ∷ ms) [] h = refl
  no_positions (m ∷ ms) (o ∷ os) h = cc

  pub all_bound : (before whole : List Equation) → min (length ls) (length ks) ≤ i → before ++ equations_from i context (drop i ls) (drop i ks) ≡ whole → before ≡ whole
  all_bound before whole le h =
      let none : equations_from i context (drop i ls) (drop i ks) ≡ [] =
      elim (cases_lt i (length ls)) as (λ _. equations_from i context (drop i ls) (drop i ks) ≡ []) [
        | inl lt ↦ no_positions (drop i ls) (drop i ks) (drop_of_length-le ks (omega (arith, le, lt)))
        | inr ge ↦ no_literals (drop i ls) (drop_of_length-le ls ge)
      ] in
      sym (append-nil before) ∙ (ap (λ (qs : List Equation). before ++ qs) (sym none) ∙ h)

-- ---- demands
split : (o : Option ℕ) (l : Literal) (ls : List Literal) (ks : List (Option ℕ)) → demands (l ∷ ls) (o ∷ ks) ≡ demands (l ∷ []) (o ∷ []) ++ demands ls ks
split None l ls ks = refl
split (Some k) l ls ks = refl

pub asked_more : (ls : List Literal) (ks : List (Option ℕ)) (i : ℕ) (l : Literal) → i < length ls → i < length ks → l ≡ get_or ls i l → (before whole : List Demand) → before ++ demands (drop i ls) (drop i ks) ≡ whole → (before ++ demands (l ∷ []) (get_or ks i None ∷ [])) ++ demands (drop (i + 1) ls) (drop (i + 1) ks) ≡ whole
asked_more ls ks i l lt lt' is before whole h =
    let turned : demands (drop i ls) (drop i ks) ≡ demands (l ∷ []) (get_or ks i None ∷ []) ++ demands (drop (i + 1) ls) (drop (i + 1) ks) =
    (λ t. demands (next_item ls i l lt is t) (next_at ks i None lt' t)) ∙ split (get_or ks i None) l (drop (i + 1) ls) (drop (i + 1) ks) in
    append_assoc before (demands (l ∷ []) (get_or ks i None ∷ [])) (demands (drop (i + 1) ls) (drop (i + 1) ks)) ∙ (ap (λ (ds : List Demand). before ++ ds) (sym turned) ∙ h)

no_demands : (ls : List Literal) (ks : List (Option ℕ)) → (ls ≡ []) ⊎ (ks ≡ []) → demands ls ks ≡ []
no_demands [] ks h = refl
no_demands (l ∷ ls) [] h = refl
no_demands (l ∷ ls) (k ∷ ks) (inl h) = cc
no_demands (l ∷ ls) (k ∷ ks) (inr h) = cc

pub all_asked : (ls : List Literal) (ks : List (Option ℕ)) (i : ℕ) (before whole : List Demand) → min (length ls) (length ks) ≤ i → before ++ demands (drop i ls) (drop i ks) ≡ whole → before ≡ whole
all_asked ls ks i before whole le h =
    let none : demands (drop i ls) (drop i ks) ≡ [] =
    elim (cases_lt i (length ls)) as (λ _. demands (drop i ls) (drop i ks) ≡ []) [
      | inl lt ↦ no_demands (drop i ls) (drop i ks) (inr (drop_of_length-le ks (omega (arith, le, lt))))
      | inr ge ↦ no_demands (drop i ls) (drop i ks) (inl (drop_of_length-le ls ge))
    ] in
    sym (append-nil before) ∙ (ap (λ (ds : List Demand). before ++ ds) (sym none) ∙ h)
