-- The search of a problem's clauses for one that has a productive unifier.
use Rattle.std.proofs.Common.{◌≡◌, ◌↔◌, ◌⊎◌, inl, inr, ℕ, ◌+◌, ◌<◌, ◌≤◌, Bool, true, false, List, length, slice_get, Some, sym, subst, ◌∙◌, arith}
use Rattle.std.proofs.lemmas.Bool.{cases_lt}
use Rattle.std.proofs.lemmas.Option.{same_Some, slice_get_within}
use Rattle.me_terms.specs.Context.{Context}
use Rattle.me_terms.specs.Positions.{ClauseAt}
use Rattle.me_terms.specs.Productive.{HasProductive}
use Rattle.me_terms.specs.Values.{ClauseValue, ProblemValue}
use Rattle.answer_check.specs.Entries.{HasProductiveUnifier}
use Rattle.answer_check.specs.Judgements.{IsFirstProductive, IsProductiveAt}

module _ (problem : ProblemValue) (context : Context) where
  -- No clause before this place has a productive unifier.
  abbrev pub NoneBefore : ℕ → Type 0
  NoneBefore n = (c : ℕ) → c < n → ¬ IsProductiveAt problem context c

  pub productive_here : (c : ℕ) (clause : ClauseValue) → ClauseAt problem c clause → HasProductiveUnifier context clause.literals ↔ IsProductiveAt problem context c
  productive_here c clause at = (
    λ h. (h.0, clause, h.1.0, record { clause_at = at; unifier = h.1.1; productive = h.1.2 }),
    λ h.
        let same : h.1 ≡ clause = same_Some h.1 clause (sym h.3.clause_at ∙ at) in
        subst (λ (z : ClauseValue). HasProductiveUnifier context z.literals) same (h.0, (h.2, h.3.unifier, h.3.productive)),
  )

  pub none_more : (n : ℕ) (clause : ClauseValue) → ClauseAt problem n clause → NoneBefore n → ¬ HasProductiveUnifier context clause.literals → NoneBefore (n + 1)
  none_more n clause at before none c lt h =
      elim (cases_lt c n) as (λ _. ⊥) [
        | inl below ↦ before c below h
        | inr above ↦ let here : c ≡ n = omega arith in none ((productive_here n clause at).1 (subst (IsProductiveAt problem context) here h))
      ]

  pub first_here : (n : ℕ) (clause : ClauseValue) → ClauseAt problem n clause → NoneBefore n → HasProductiveUnifier context clause.literals → IsFirstProductive problem context clause.number
  first_here n clause at before has = record {
    place = n;
    clause = clause;
    clause_at = at;
    number_is = λ _. clause.number;
    productive = (productive_here n clause at).0 has;
    first = before;
  }

  pub none_at_all : (n : ℕ) → length problem.clauses ≤ n → NoneBefore n → ¬ HasProductive problem context
  none_at_all n past none h =
      let within = slice_get_within problem.clauses h.0 h.2 h.4.clause_at in
      none h.0 (omega (arith, within)) (h.1, h.2, h.3, h.4)
