-- The clauses p and ~p: the problem is valid, and by the refutation theorem the list of its answer is refuted.
use Rattle.std.proofs.Common.{refl, arith}
use Rattle.me_laws_examples.specs.FirstRun.{clause_p, clause_not_p, names, usual_bounds, first_list, FirstRun}
use Rattle.me_laws_examples.specs.FirstRun.{first_run as problem}
use Rattle.me_terms.specs.Validity.{IsValidClause, IsValid}
use Rattle.me_terms.specs.Grown.{started, asserted}
use Rattle.me_terms.specs.Labels.{IsFunctionSymbol, IsPredicateSymbol}
use Rattle.me_laws_examples.proofs.FirstRunAnswer.{first_step, first_run_refuted}
use Rattle.me_laws.proofs.Lists.{all_of}
use Rattle.me_laws_refutation.proofs.Answered.{unsatisfiable_refuted}

p_valid : IsValidClause names clause_p
p_valid = record { known = refl; numbered = refl; named = ((λ h. cc h, refl), λ h. cc h); few_literals = omega arith }

not_p_valid : IsValidClause names clause_not_p
not_p_valid = record { known = refl; numbered = refl; named = ((λ h. cc h, refl), λ h. cc h); few_literals = omega arith }

first_valid : IsValid problem
first_valid = record {
  clauses = all_of (IsValidClause names) problem.clauses (p_valid, (not_p_valid, tt));
  few_clauses = omega arith;
  functions = all_of IsFunctionSymbol names.functions (((λ h. cc h, refl), tt), tt);
  predicates = all_of IsPredicateSymbol names.predicates (((λ h. cc h, refl), refl), tt);
  c0_constant = refl;
}

pub first_run : FirstRun
first_run = record {
  valid = first_valid;
  grown = λ begins. started;
  grown_after = asserted started first_step;
  reply = first_run_refuted;
  refuted = (unsatisfiable_refuted problem usual_bounds first_list first_valid first_run_refuted).0.refuted;
}
