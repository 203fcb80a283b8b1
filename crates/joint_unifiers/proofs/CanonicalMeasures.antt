-- A literal's canonical form is as deep, as heavy and as ground as the literal: variables alone are replaced, and by variables.
use Rattle.std.proofs.Common.{◌≡◌, ℕ, ◌+◌, ◌&&◌, max, List, [], refl, ap}
use Rattle.me_terms.specs.Terms.{TermValue, Var, App, Arguments, Nil, Cons}
use Rattle.me_terms.specs.Names.{by_place}
use Rattle.me_terms.specs.Substitutions.{apply_term, apply_arguments}
use Rattle.me_terms.specs.Variables.{variables_of, first_ones, is_ground, are_ground, weight, weights, depth, depths}
use Rattle.me_terms.specs.Measures.{literal_depth, literal_weight, canonical_literal}
use Rattle.me_terms.specs.declared.atom.Literal.{Literal}

mutual
  named_weight : (names : List ℕ) (t : TermValue) → weight (apply_term (by_place names) t) ≡ weight t
  named_weight names (Var x) = refl
  named_weight names (App f ts) = ap (λ n. 1 + n) (named_weights names ts)

  named_weights : (names : List ℕ) (ts : Arguments) → weights (apply_arguments (by_place names) ts) ≡ weights ts
  named_weights names Nil = refl
  named_weights names (Cons t ts) =
      let first = named_weight names t in
      let later = named_weights names ts in
      λ i. first i + later i

mutual
  named_depth : (names : List ℕ) (t : TermValue) → depth (apply_term (by_place names) t) ≡ depth t
  named_depth names (Var x) = refl
  named_depth names (App f ts) = ap (λ n. 1 + n) (named_depths names ts)

  named_depths : (names : List ℕ) (ts : Arguments) → depths (apply_arguments (by_place names) ts) ≡ depths ts
  named_depths names Nil = refl
  named_depths names (Cons t ts) =
      let first = named_depth names t in
      let later = named_depths names ts in
      λ i. max (first i) (later i)

mutual
  named_ground : (names : List ℕ) (t : TermValue) → is_ground (apply_term (by_place names) t) ≡ is_ground t
  named_ground names (Var x) = refl
  named_ground names (App f ts) = all_named_ground names ts

  all_named_ground : (names : List ℕ) (ts : Arguments) → are_ground (apply_arguments (by_place names) ts) ≡ are_ground ts
  all_named_ground names Nil = refl
  all_named_ground names (Cons t ts) =
      let first = named_ground names t in
      let later = all_named_ground names ts in
      λ i. first i && later i

pub canonical_weight : (l : Literal) → literal_weight (canonical_literal l) ≡ literal_weight l
canonical_weight l = ap (λ n. 1 + n) (named_weights (first_ones [] (variables_of l.atom.args)) l.atom.args)

pub canonical_depth : (l : Literal) → literal_depth (canonical_literal l) ≡ literal_depth l
canonical_depth l = named_depths (first_ones [] (variables_of l.atom.args)) l.atom.args

pub canonical_ground : (l : Literal) → are_ground (canonical_literal l).atom.args ≡ are_ground l.atom.args
canonical_ground l = all_named_ground (first_ones [] (variables_of l.atom.args)) l.atom.args
