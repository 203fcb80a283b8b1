-- Which terms are ground over a problem, where c0 is no function of its signature; and instances of the clause p(X,Y).
use Rattle.std.specs.Prelude.{◌≡◌, true, false, [], ◌∷◌}
use Rattle.me_terms.specs.Terms.{TermValue}
use Rattle.me_terms.specs.Values.{ProblemValue}
use Rattle.me_terms.specs.GroundInstances.{is_ground_term, IsGroundInstance}
use Rattle.me_laws_examples.specs.Letters.{x0, x1, p, literal}
use Rattle.me_laws_examples.specs.SmallAnswers.{clause_of}
use Rattle.me_laws_examples.specs.ValidProblems.{functions, predicates, problem_of, alone, of_one}

-- The signature has f of one argument as function 0 and a constant as function 1, and c0 is function 5.
abbrev pub one_pair : ProblemValue
one_pair = problem_of functions predicates (clause_of [] ∷ clause_of (literal true (p x0 x1) ∷ []) ∷ []) 5

abbrev pub constant : TermValue
constant = alone 1

abbrev pub f : TermValue → TermValue
f t = of_one 0 t

-- A ground term is made of the signature's functions with as many arguments as they take, and of c0 without arguments. In a ground instance every variable is replaced by one.
pub record GroundTerms : Type 0 where
  pub of_signature : is_ground_term one_pair (f (f constant)) ≡ true
  pub c0_alone : is_ground_term one_pair (f (alone 5)) ≡ true
  pub c0_of_one : is_ground_term one_pair (of_one 5 constant) ≡ false
  pub variable : is_ground_term one_pair x0 ≡ false
  pub variable_inside : is_ground_term one_pair (f x0) ≡ false
  pub function_alone : is_ground_term one_pair (alone 0) ≡ false
  pub constant_of_one : is_ground_term one_pair (of_one 1 constant) ≡ false
  pub unknown : is_ground_term one_pair (alone 3) ≡ false
  pub unknown_inside : is_ground_term one_pair (f (alone 3)) ≡ false
  pub instance : IsGroundInstance one_pair 1 (literal true (p constant (alone 5)) ∷ [])
  pub first_open : ¬ IsGroundInstance one_pair 1 (literal true (p x0 constant) ∷ [])
  pub second_open : ¬ IsGroundInstance one_pair 1 (literal true (p constant x0) ∷ [])
  pub of_no_clause : ¬ IsGroundInstance one_pair 2 (literal true (p constant constant) ∷ [])
  pub of_another_clause : ¬ IsGroundInstance one_pair 0 (literal true (p constant constant) ∷ [])
