-- The instance by which an asserted entry holds at a ground literal: a most general unifier of the other places and of its own literal with the one asked for, with c0 for all that is left.
use Rattle.std.proofs.Common.{◌≡◌, ℕ, suc, true, ◌⊎◌, inl, inr, List, [], ◌∷◌, Option, Some, refl, sym, ap, ◌∙◌, arith}
use Rattle.std.specs.List.{Contains}
use Rattle.me_terms.specs.Terms.{TermValue, Var, App, AtomValue}
use Rattle.me_terms.specs.Variables.{variables_of, are_ground}
use Rattle.me_terms.specs.Substitutions.{Substitution, Family, apply_term, apply_arguments, apply_atom, followed_by}
use Rattle.me_terms.specs.Values.{ProblemValue}
use Rattle.me_terms.specs.Context.{Context}
use Rattle.me_terms.specs.Positions.{positions_of}
use Rattle.me_terms.specs.ListedInstances.{constant, instance_of, IsAskedInstance}
use Rattle.me_terms.specs.declared.atom.Literal.{Literal}
use Rattle.me_laws.proofs.Generality.{arguments_followed, atom_followed}
use Rattle.me_laws.proofs.Lifting.{atom_along}
use Rattle.me_laws.proofs.Lists.{EachOf, each_map, each_append, each_left, each_right, all_of}
use Rattle.me_laws.proofs.Renaming as names
use Rattle.me_laws.proofs.Renaming.{Each, agree_variables_all, variables_agree_all}
use Rattle.me_laws.proofs.NoContradiction.{ground_atom}
use Rattle.me_laws.proofs.OutcomeDetermined.{has_decided, each_has, lacks}
use Rattle.me_laws_existence.proofs.Splits.{contains_decided}
use Rattle.me_unify.specs.Equations.{Equation, equation, SolvesOne, IsSolvable, IsMostGeneral}
use Rattle.me_unify.specs.ClauseEquations.{equations_from}
use Rattle.ground_refutation.specs.AskedEquations.{asked_equations}
use Rattle.ground_refutation.proofs.Solving.{each_of, solves_places, places_solved, one_followed}

-- ---- a substitution that leaves all variables alone but those of a list
chosen : TermValue → TermValue → {A B : Type 0} → A ⊎ B → TermValue
chosen s t (inl h) = s
chosen s t (inr h) = t

chosen_in : (s t : TermValue) (A : Type 0) (d : A ⊎ (¬ A)) → A → chosen s t d ≡ s
unfolding chosen
chosen_in s t A (inl h) a = refl
chosen_in s t A (inr never) a = absurd (never a)

chosen_out : (s t : TermValue) (A : Type 0) (d : A ⊎ (¬ A)) → ¬ A → chosen s t d ≡ t
unfolding chosen
chosen_out s t A (inl h) lack = absurd (lack h)
chosen_out s t A (inr never) lack = refl

-- the variables of the list go to their terms
kept : Substitution → List ℕ → Substitution
kept m xs x = chosen (m x) (Var x) (contains_decided xs x)

each_contained : (xs : List ℕ) → Each (Contains xs) xs
unfolding Each
each_contained [] = tt
each_contained (x ∷ xs) = ((0, omega arith, refl), names.each_map (Contains xs) (Contains (x ∷ xs)) (λ y h. let lt = h.1 in (suc h.0, omega (arith, lt), h.2)) xs (each_contained xs))

kept_in : (m : Substitution) (xs : List ℕ) (x : ℕ) → Contains xs x → kept m xs x ≡ m x
unfolding kept
kept_in m xs x h = chosen_in (m x) (Var x) (Contains xs x) (contains_decided xs x) h

kept_out : (m : Substitution) (xs : List ℕ) (x : ℕ) → ¬ Contains xs x → kept m xs x ≡ Var x
unfolding kept
kept_out m xs x h = chosen_out (m x) (Var x) (Contains xs x) (contains_decided xs x) h

kept_same : (m : Substitution) (a : AtomValue) → apply_atom (kept m (variables_of a.args)) a ≡ apply_atom m a
kept_same m a =
    let xs = variables_of a.args in
    let args : apply_arguments (kept m xs) a.args ≡ apply_arguments m a.args = variables_agree_all (kept m xs) m a.args (names.each_map (Contains xs) (λ x. kept m xs x ≡ m x) (λ x h. kept_in m xs x h) xs (each_contained xs)) in
    λ i. record { pred = a.pred; args = args i }

-- ---- what becomes a variable is a variable, and is read as the constant
read_variable : (r : Substitution) (c t : TermValue) (x : ℕ) → apply_term r t ≡ Var x → apply_term (λ y. c) t ≡ c
read_variable r c (Var y) x h = refl
read_variable r c (App f ts) x h = cc

module _ (problem : ProblemValue) (context : Context) (c place : ℕ) (tuple : List ℕ) (g : Literal) (literals : List Literal) (q : IsAskedInstance problem context c place tuple g literals) (ground : are_ground g.atom.args ≡ true) where
  abbrev ls : List Literal
  ls = q.clause.literals

  abbrev ks : List (Option ℕ)
  ks = positions_of (Some place) tuple

  abbrev own : AtomValue
  own = apply_atom (q.family 0) q.literal.atom

  abbrev qs : List Equation
  qs = equations_from 0 context ls ks

  abbrev last : Equation
  last = equation 0 q.literal.atom 0 g.atom

  -- the unifier of the other places, followed by the matching, which leaves other variables alone
  abbrev mine : Substitution
  mine = kept q.matching (variables_of own.args)

  abbrev matched : Family
  matched space = followed_by (q.family space) mine

  matched_own : apply_atom (matched 0) q.literal.atom ≡ g.atom
  matched_own = atom_followed (q.family 0) mine q.literal.atom ∙ (kept_same q.matching own ∙ ap (λ (l : Literal). l.atom) q.matches)

  matched_solves : EachOf (SolvesOne matched) (asked_equations context ls ks q.literal g)
  matched_solves =
      let places = solves_places q.family context ls ks q.unifier.solves in
      each_append (SolvesOne matched) qs (last ∷ [])
      (each_map (SolvesOne q.family) (SolvesOne matched) (λ e h. one_followed q.family mine e h) qs places)
      (matched_own ∙ sym (ground_atom (matched 0) g.atom ground), tt)

  pub asked_solvable : IsSolvable (asked_equations context ls ks q.literal g)
  asked_solvable = (matched, all_of (SolvesOne matched) (asked_equations context ls ks q.literal g) matched_solves)

  pub others_solvable : IsSolvable qs
  others_solvable = (q.family, all_of (SolvesOne q.family) qs (solves_places q.family context ls ks q.unifier.solves))

  module _ (v : Family) (most : IsMostGeneral (asked_equations context ls ks q.literal g) v) where
    abbrev reading : Substitution
    reading x = constant problem.c0

    solved : EachOf (SolvesOne v) (asked_equations context ls ks q.literal g)
    solved = each_of (SolvesOne v) (asked_equations context ls ks q.literal g) most.solves

    onwards : (r : Substitution) × ((space x : ℕ) → apply_term r (q.family space x) ≡ v space x)
    onwards = q.unifier.most_general v (places_solved v context ls ks (each_left (SolvesOne v) qs (last ∷ []) solved))

    back : (r : Substitution) × ((space x : ℕ) → apply_term r (v space x) ≡ matched space x)
    back = most.most_general matched (all_of (SolvesOne matched) (asked_equations context ls ks q.literal g) matched_solves)

    -- an atom of the clause under v
    along : (a : AtomValue) → apply_atom onwards.0 (apply_atom (q.family 0) a) ≡ apply_atom (v 0) a
    along a = atom_along (q.family 0) (v 0) onwards.0 (onwards.1 0) a

    own_v : apply_atom (v 0) q.literal.atom ≡ g.atom
    own_v = (each_right (SolvesOne v) qs (last ∷ []) solved).0 ∙ ground_atom (v 0) g.atom ground

    -- the variables of the entry's own literal are read as the matching takes them
    own_read : Each (λ y. followed_by onwards.0 reading y ≡ q.matching y) (variables_of own.args)
    own_read =
        let whole : apply_atom (followed_by onwards.0 reading) own ≡ apply_atom q.matching own =
        atom_followed onwards.0 reading own ∙ (ap (apply_atom reading) (along q.literal.atom ∙ own_v) ∙ (ground_atom reading g.atom ground ∙ sym (ap (λ (l : Literal). l.atom) q.matches))) in
        agree_variables_all (followed_by onwards.0 reading) q.matching own.args (ap (λ (a : AtomValue). a.args) whole)

    -- every variable of the clause's literals is
    read_at : (y : ℕ) → followed_by onwards.0 back.0 y ≡ mine y → followed_by onwards.0 reading y ≡ q.matching y
    read_at y h =
        elim (has_decided (variables_of own.args) y) as (λ _. followed_by onwards.0 reading y ≡ q.matching y) [
          | inl there ↦ each_has (λ z. followed_by onwards.0 reading z ≡ q.matching z) (variables_of own.args) y own_read there
          | inr lack ↦
              let free = lacks (variables_of own.args) y lack in
              read_variable back.0 (constant problem.c0) (onwards.0 y) y (h ∙ kept_out q.matching (variables_of own.args) y free) ∙ sym (q.others y free)
        ]

    read_args : (a : AtomValue) → apply_arguments reading (apply_atom (v 0) a).args ≡ apply_arguments q.matching (apply_atom (q.family 0) a).args
    read_args a =
        let under = (apply_atom (q.family 0) a).args in
        let there : apply_atom back.0 (apply_atom (v 0) a) ≡ apply_atom (matched 0) a = atom_along (v 0) (matched 0) back.0 (back.1 0) a in
        let turned : apply_arguments (followed_by onwards.0 back.0) under ≡ apply_arguments mine under =
        arguments_followed onwards.0 back.0 under ∙ (ap (λ (b : AtomValue). apply_arguments back.0 b.args) (along a) ∙ (ap (λ (b : AtomValue). b.args) there ∙ ap (λ (b : AtomValue). b.args) (atom_followed (q.family 0) mine a))) in
        let each = names.each_map (λ y. followed_by onwards.0 back.0 y ≡ mine y) (λ y. followed_by onwards.0 reading y ≡ q.matching y) read_at (variables_of under) (agree_variables_all (followed_by onwards.0 back.0) mine under turned) in
        ap (λ (b : AtomValue). apply_arguments reading b.args) (sym (along a)) ∙ (sym (arguments_followed onwards.0 reading under) ∙ variables_agree_all (followed_by onwards.0 reading) q.matching under each)

    all_read : (ms : List Literal) → instance_of v reading ms ≡ instance_of q.family q.matching ms
    all_read [] = refl
    all_read (m ∷ ms) =
        let args = read_args m.atom in
        let later = all_read ms in
        λ i. record { positive = m.positive; atom = record { pred = m.atom.pred; args = args i } } ∷ later i

    pub asked_is : instance_of v (λ x. constant problem.c0) ls ≡ literals
    asked_is = all_read ls ∙ sym q.is_instance
