-- Ground terms over the signature and c0.
use Rattle.std.proofs.Common.{◌≡◌, ℕ, true, ◌&&◌, eqb, [], ◌∷◌, slice_get, refl, ap, ◌∙◌}
use Rattle.me_terms.specs.Terms.{TermValue, Var, App, Arguments, Nil, Cons}
use Rattle.me_terms.specs.Substitutions.{Substitution, apply_term, apply_arguments}
use Rattle.me_terms.specs.Variables.{term_variables, variables_of, count}
use Rattle.me_terms.specs.Values.{ProblemValue}
use Rattle.me_terms.specs.Signatures.{is_known, are_known, takes}
use Rattle.me_terms.specs.Validity.{IsValid}
use Rattle.me_terms.specs.GroundInstances.{is_ground_term, are_ground_terms}
use Rattle.me_terms.specs.ListedInstances.{constant}
use Rattle.me_terms.specs.TermEqualityLaws.{both_parts}
use Rattle.me_laws.proofs.Renaming.{Each, each_append}
use Rattle.me_laws_refutation.proofs.Known.{both_true, left_true, count_applied}

pub constant_ground : (problem : ProblemValue) → IsValid problem → is_ground_term problem (constant problem.c0) ≡ true
constant_ground problem valid =
    both_true _ true (left_true (takes (slice_get problem.signature.functions problem.c0) 0) (eqb problem.c0 problem.c0 && eqb 0 0) valid.c0_constant) refl

mutual
  pub ground_under : (problem : ProblemValue) (s : Substitution) → ((x : ℕ) → is_ground_term problem (s x) ≡ true) → (t : TermValue) → is_known problem.signature t ≡ true → is_ground_term problem (apply_term s t) ≡ true
  ground_under problem s k (Var x) h = k x
  ground_under problem s k (App f ts) h =
      let parts = both_parts (takes (slice_get problem.signature.functions f) (count ts)) (are_known problem.signature ts) h in
      let test : takes (slice_get problem.signature.functions f) (count (apply_arguments s ts)) ≡ true = ap (takes (slice_get problem.signature.functions f)) (count_applied s ts) ∙ parts.0 in
      both_true _ (are_ground_terms problem (apply_arguments s ts)) (left_true (takes (slice_get problem.signature.functions f) (count (apply_arguments s ts))) (eqb f problem.c0 && eqb (count (apply_arguments s ts)) 0) test) (all_ground_under problem s k ts parts.1)

  pub all_ground_under : (problem : ProblemValue) (s : Substitution) → ((x : ℕ) → is_ground_term problem (s x) ≡ true) → (ts : Arguments) → are_known problem.signature ts ≡ true → are_ground_terms problem (apply_arguments s ts) ≡ true
  all_ground_under problem s k Nil h = refl
  all_ground_under problem s k (Cons t ts) h =
      let parts = both_parts (is_known problem.signature t) (are_known problem.signature ts) h in
      both_true (is_ground_term problem (apply_term s t)) (are_ground_terms problem (apply_arguments s ts)) (ground_under problem s k t parts.0) (all_ground_under problem s k ts parts.1)

-- what makes a term ground is ground on its variables
one_there : (P : ℕ → Type 0) (x : ℕ) → P x → Each P (x ∷ [])
unfolding Each
one_there P x h = (h, tt)

none_there : (P : ℕ → Type 0) → Each P []
unfolding Each
none_there P = tt

mutual
  ground_variables : (problem : ProblemValue) (s : Substitution) (t : TermValue) → is_ground_term problem (apply_term s t) ≡ true → Each (λ x. is_ground_term problem (s x) ≡ true) (term_variables t)
  ground_variables problem s (Var x) h = one_there (λ y. is_ground_term problem (s y) ≡ true) x h
  ground_variables problem s (App f ts) h = all_ground_variables problem s ts (both_parts _ (are_ground_terms problem (apply_arguments s ts)) h).1

  pub all_ground_variables : (problem : ProblemValue) (s : Substitution) (ts : Arguments) → are_ground_terms problem (apply_arguments s ts) ≡ true → Each (λ x. is_ground_term problem (s x) ≡ true) (variables_of ts)
  all_ground_variables problem s Nil h = none_there (λ y. is_ground_term problem (s y) ≡ true)
  all_ground_variables problem s (Cons t ts) h =
      let parts = both_parts (is_ground_term problem (apply_term s t)) (are_ground_terms problem (apply_arguments s ts)) h in
      each_append (λ y. is_ground_term problem (s y) ≡ true) (term_variables t) (variables_of ts) (ground_variables problem s t parts.0) (all_ground_variables problem s ts parts.1)
