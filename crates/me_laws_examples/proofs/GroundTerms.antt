-- Which terms are ground over a problem, and which lists are ground instances.
use Rattle.std.proofs.Common.{◌≡◌, ℕ, zero, suc, true, false, List, [], ◌∷◌, map, length, refl, sym, subst, ap, ◌∙◌, arith}
use Rattle.std.proofs.lemmas.Option.{same_Some}
use Rattle.me_terms.specs.Terms.{TermValue, Arguments, Nil}
use Rattle.me_terms.specs.Substitutions.{apply_literal}
use Rattle.me_terms.specs.Values.{ClauseValue}
use Rattle.me_terms.specs.GroundInstances.{is_ground_term, IsGroundInstance}
use Rattle.me_terms.specs.declared.atom.Literal.{Literal}
use Rattle.me_laws_examples.specs.Letters.{x0, x1, p, literal}
use Rattle.me_laws_examples.specs.SmallAnswers.{clause_of}
use Rattle.me_laws_examples.specs.ValidProblems.{alone}
use Rattle.me_laws_examples.specs.GroundTerms.{one_pair, constant, GroundTerms}
use Rattle.me_laws_examples.proofs.HiddenEntry.{first_then}
use Rattle.me_laws_examples.proofs.MergedVariables.{first_of, second_of}

arguments : List Literal → Arguments
arguments [] = Nil
arguments (l ∷ ls) = l.atom.args

-- the literals of an instance of clause 1
instance_is : (s t : TermValue) (h : IsGroundInstance one_pair 1 (literal true (p s t) ∷ [])) → literal true (p s t) ∷ [] ≡ map (apply_literal h.1) (literal true (p x0 x1) ∷ [])
instance_is s t h = h.4 ∙ ap (λ (z : ClauseValue). map (apply_literal h.1) z.literals) (sym (same_Some (clause_of (literal true (p x0 x1) ∷ [])) h.0 h.2))

first_ground : (s t : TermValue) → IsGroundInstance one_pair 1 (literal true (p s t) ∷ []) → is_ground_term one_pair s ≡ true
unfolding arguments first_of
first_ground s t h =
    let P : TermValue → Type 0 = λ z. is_ground_term one_pair z ≡ true in
    subst P (sym (ap (λ ls. first_of (arguments ls)) (instance_is s t h))) (h.3 0)

second_ground : (s t : TermValue) → IsGroundInstance one_pair 1 (literal true (p s t) ∷ []) → is_ground_term one_pair t ≡ true
unfolding arguments first_of second_of
second_ground s t h =
    let P : TermValue → Type 0 = λ z. is_ground_term one_pair z ≡ true in
    subst P (sym (ap (λ ls. second_of (arguments ls)) (instance_is s t h))) (h.3 1)

of_another : ¬ IsGroundInstance one_pair 0 (literal true (p constant constant) ∷ [])
of_another h =
    let empty : [] ≡ h.0.literals = ap (λ (z : ClauseValue). z.literals) (same_Some (clause_of []) h.0 h.2) in
    let moved : suc zero ≡ zero = ap length (h.4 ∙ ap (map (apply_literal h.1)) (sym empty)) in
    absurd (omega (arith, moved))

each_ground : (x : ℕ) → is_ground_term one_pair (first_then constant (alone 5) x) ≡ true
unfolding first_then
each_ground zero = refl
each_ground (suc x) = refl

pub ground_terms : GroundTerms
unfolding first_then
ground_terms = record {
  of_signature = refl;
  c0_alone = refl;
  c0_of_one = refl;
  variable = refl;
  variable_inside = refl;
  function_alone = refl;
  constant_of_one = refl;
  unknown = refl;
  unknown_inside = refl;
  instance = (clause_of (literal true (p x0 x1) ∷ []), first_then constant (alone 5), refl, each_ground, refl);
  first_open = λ h. let bad : false ≡ true = first_ground x0 constant h in cc bad;
  second_open = λ h. let bad : false ≡ true = second_ground constant x0 h in cc bad;
  of_no_clause = λ h. cc h.2;
  of_another_clause = λ h. of_another h;
}
