-- What terms weigh, how deep they are, how their variables are numbered, and what a substitution makes of them.
use Rattle.std.specs.Prelude.{◌≡◌, true, false, [], ◌∷◌}
use Rattle.me_terms.specs.Terms.{TermValue, Var, App, Nil, Cons}
use Rattle.me_terms.specs.Values.{InstanceValue}
use Rattle.me_terms.specs.Substitutions.{Substitution, apply_literal, followed_by}
use Rattle.me_terms.specs.Variables.{variables_of, are_ground, is_canonical, canonical}
use Rattle.me_terms.specs.Measures.{literal_depth, literal_weight, literals_weight, list_weight, complement, canonical_literal}
use Rattle.me_laws_examples.specs.Letters.{a, b, x0, x1, p, p_of, literal}
use Rattle.me_laws_examples.specs.ValidProblems.{bare}

abbrev pub x3 : TermValue
x3 = Var 3

-- a function of two arguments
abbrev pub f : TermValue → TermValue → TermValue
f s t = App 2 (Cons s (Cons t Nil))

-- each variable x becomes f(x,a)
abbrev pub wrapped : Substitution
wrapped x = f (Var x) a

-- p and p(a) of one clause
abbrev pub two_literals : InstanceValue
two_literals = record { clause = 0; literals = literal true bare ∷ literal false (p_of a) ∷ [] }

-- A variable and a constant have depth 1 and weight 1. Every symbol and every variable weighs 1, and so does the predicate.
pub record MeasuredTerms : Type 0 where
  pub depth_bare : literal_depth (literal true bare) ≡ 0
  pub depth_constant : literal_depth (literal true (p_of a)) ≡ 1
  pub depth_variable : literal_depth (literal true (p_of x0)) ≡ 1
  pub deep_first : literal_depth (literal true (p (f (f a a) x0) x0)) ≡ 3
  pub deep_last : literal_depth (literal true (p x0 (f x0 (f a a)))) ≡ 3
  pub weight_bare : literal_weight (literal true bare) ≡ 1
  pub weight_constant : literal_weight (literal true (p_of a)) ≡ 2
  pub weight_variable : literal_weight (literal true (p_of x0)) ≡ 2
  pub weight_nested : literal_weight (literal true (p (f a x0) (f x0 x0))) ≡ 7
  pub weight_of_none : literals_weight [] ≡ 0
  pub weight_of_list : list_weight (two_literals ∷ two_literals ∷ []) ≡ 6
  pub ground_bare : are_ground bare.args ≡ true
  pub ground : are_ground (p (f a b) a).args ≡ true
  pub not_ground_first : are_ground (p (f a x0) a).args ≡ false
  pub not_ground_last : are_ground (p a (f x0 a)).args ≡ false
  pub variables : variables_of (p (f x3 x1) x3).args ≡ 3 ∷ 1 ∷ 3 ∷ []
  pub renumbered : canonical (p (f x3 x1) x3) ≡ p (f x0 x1) x0
  pub sign_stays : canonical_literal (literal false (p_of x3)) ≡ literal false (p_of x0)
  pub is_numbered : is_canonical (p (f x0 x1) x0) ≡ true
  pub ground_is_numbered : is_canonical (p a b) ≡ true
  pub not_from_zero : is_canonical (p x1 x0) ≡ false
  pub not_the_next : is_canonical (p x0 x3) ≡ false
  pub late_gap : is_canonical (p (f x0 x0) x3) ≡ false
  pub complement_negative : complement (literal true (p_of x3)) ≡ literal false (p_of x3)
  pub complement_positive : complement (literal false (p_of x3)) ≡ literal true (p_of x3)
  pub applied : apply_literal wrapped (literal false (p (f x0 b) x1)) ≡ literal false (p (f (f x0 a) b) (f x1 a))
  pub one_after_the_other : followed_by wrapped (λ x. b) 0 ≡ f b a
