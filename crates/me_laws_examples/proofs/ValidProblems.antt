-- Which problems are valid.
use Rattle.std.proofs.Common.{◌≡◌, ℕ, zero, suc, ◌-◌, ◌^◌, ◌<◌, true, false, List, [], ◌∷◌, ◌++◌, length, replicate, refl, subst, sym, arith}
use Rattle.std.specs.List.{list_all}
use Rattle.std.proofs.lemmas.List.{length-replicate}
use Rattle.me_terms.specs.Values.{ClauseValue}
use Rattle.me_terms.specs.Signatures.{is_known_atom}
use Rattle.me_terms.specs.Variables.{is_numbered_from}
use Rattle.me_terms.specs.Labels.{IsFunctionSymbol, IsPredicateSymbol}
use Rattle.me_terms.specs.Validity.{clause_variables, IsValidClause, IsValid}
use Rattle.me_terms.specs.declared.symbol.Form.TheVariants.{Distinct, Number}
use Rattle.me_terms.specs.declared.atom.Literal.{Literal}
use Rattle.me_laws.proofs.Lists.{EachOf, all_of, all_at}
use Rattle.me_laws_examples.specs.Letters.{x0, x1, p_of, q_of, literal}
use Rattle.me_laws_examples.specs.SmallAnswers.{clause_of}
use Rattle.me_laws_examples.specs.ValidProblems.{digit, symbol, functions, predicates, problem_of, one_clause, alone, of_one, bare, named, ValidProblems}

functions_valid : EachOf IsFunctionSymbol functions
functions_valid = (((λ h. cc h, refl), tt), ((refl, refl), tt))

predicates_valid : EachOf IsPredicateSymbol predicates
predicates_valid = (((λ h. cc h, refl), refl), tt)

-- the clause of a valid problem of one clause
clause_valid : (literals : List Literal) → IsValid (one_clause literals) → IsValidClause (one_clause literals).signature (clause_of literals)
clause_valid literals h = all_at (IsValidClause (one_clause literals).signature) (clause_of literals ∷ []) 0 (clause_of literals) h.clauses refl

-- what is valid beside its clauses
with_clauses : (clauses : List ClauseValue) → EachOf (IsValidClause (one_clause []).signature) clauses → length clauses < 2 ^ 32 - 1 → IsValid (problem_of functions predicates clauses 1)
with_clauses clauses each few = record {
  clauses = all_of (IsValidClause (one_clause []).signature) clauses each;
  few_clauses = few;
  functions = all_of IsFunctionSymbol functions functions_valid;
  predicates = all_of IsPredicateSymbol predicates predicates_valid;
  c0_constant = refl;
}

with_literals : (literals : List Literal) → list_all (λ l. is_known_atom (one_clause []).signature l.atom) literals ≡ true → is_numbered_from 0 (clause_variables literals) ≡ true → length literals < 2 ^ 32 - 1 → IsValidClause (one_clause []).signature (clause_of literals)
with_literals literals known numbered few = record { known = known; numbered = numbered; named = ((λ h. cc h, refl), λ h. cc h); few_literals = few }

p_of_one : Literal
p_of_one = literal true (p_of (alone 1))

known_all : (n : ℕ) → list_all (λ l. is_known_atom (one_clause []).signature l.atom) (replicate n p_of_one) ≡ true
unfolding p_of_one
known_all zero = refl
known_all (suc n) = known_all n

no_variables : (n : ℕ) → clause_variables (replicate n p_of_one) ≡ []
unfolding p_of_one
no_variables zero = refl
no_variables (suc n) = no_variables n

each_empty : (n : ℕ) → EachOf (IsValidClause (one_clause []).signature) (replicate n (clause_of []))
each_empty zero = tt
each_empty (suc n) = (with_literals [] refl refl (omega arith), each_empty n)

pub valid_problems : ValidProblems
unfolding p_of_one
valid_problems = record {
  valid = with_clauses (clause_of (literal true (p_of x0) ∷ literal false (p_of x1) ∷ literal true (p_of (of_one 0 x0)) ∷ literal true (p_of (alone 1)) ∷ []) ∷ []) (with_literals (literal true (p_of x0) ∷ literal false (p_of x1) ∷ literal true (p_of (of_one 0 x0)) ∷ literal true (p_of (alone 1)) ∷ []) refl refl (omega arith), tt) (omega arith);
  empty_clause = with_clauses (clause_of [] ∷ []) (with_literals [] refl refl (omega arith), tt) (omega arith);
  no_clauses = with_clauses [] tt (omega arith);
  not_from_zero = λ h. let bad : false ≡ true = (clause_valid (literal true (p_of x1) ∷ []) h).numbered in cc bad;
  wrong_order = λ h. let bad : false ≡ true = (clause_valid (literal true (p_of x1) ∷ literal true (p_of x0) ∷ []) h).numbered in cc bad;
  unknown_predicate = λ h. let bad : false ≡ true = (clause_valid (literal true (q_of (alone 1)) ∷ []) h).known in cc bad;
  unknown_function = λ h. let bad : false ≡ true = (clause_valid (literal true (p_of (of_one 2 (alone 1))) ∷ []) h).known in cc bad;
  bare_predicate = λ h. let bad : false ≡ true = (clause_valid (literal true bare ∷ []) h).known in cc bad;
  bare_function = λ h. let bad : false ≡ true = (clause_valid (literal true (p_of (of_one 0 (alone 0))) ∷ []) h).known in cc bad;
  c0_takes_one = λ h. let bad : false ≡ true = h.c0_constant in cc bad;
  c0_unknown = λ h. let bad : false ≡ true = h.c0_constant in cc bad;
  numbered_clause = with_clauses (named (digit Number) ∷ []) (record { known = refl; numbered = refl; named = ((λ h. cc h, refl), λ h. cc h); few_literals = omega arith }, tt) (omega arith);
  distinct_clause = λ h. (all_at (IsValidClause (one_clause []).signature) (named (digit Distinct) ∷ []) 0 (named (digit Distinct)) h.clauses refl).named.1 refl;
  numbered_function = λ h. (all_at IsFunctionSymbol (functions ++ symbol (digit Number) 0 ∷ []) 2 (symbol (digit Number) 0) h.functions refl).1;
  distinct_function = λ h. let bad : 1 ≡ 0 = (all_at IsFunctionSymbol (functions ++ symbol (digit Distinct) 1 ∷ []) 2 (symbol (digit Distinct) 1) h.functions refl).1 in absurd (omega (arith, bad));
  distinct_predicate = λ h. let bad = (all_at IsPredicateSymbol (symbol (digit Distinct) 0 ∷ []) 0 (symbol (digit Distinct) 0) h.predicates refl).1 in cc bad;
  clauses = λ n few. let P : ℕ → Type 0 = λ m. m < 2 ^ 32 - 1 in with_clauses (replicate n (clause_of [])) (each_empty n) (subst P (sym (length-replicate n (clause_of []))) few);
  too_many_clauses = λ n many h. let P : ℕ → Type 0 = λ m. m < 2 ^ 32 - 1 in many (subst P (length-replicate n (clause_of [])) h.few_clauses);
  literals = λ n few.
      let P : ℕ → Type 0 = λ m. m < 2 ^ 32 - 1 in
      let Q : List ℕ → Type 0 = λ xs. is_numbered_from 0 xs ≡ true in
      with_clauses (clause_of (replicate n p_of_one) ∷ []) (with_literals (replicate n p_of_one) (known_all n) (subst Q (sym (no_variables n)) refl) (subst P (sym (length-replicate n p_of_one)) few), tt) (omega arith);
  too_many_literals = λ n many h. let P : ℕ → Type 0 = λ m. m < 2 ^ 32 - 1 in many (subst P (length-replicate n p_of_one) (clause_valid (replicate n p_of_one) h).few_literals);
}
