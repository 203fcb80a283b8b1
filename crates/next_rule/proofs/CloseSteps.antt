-- The steps of the search for the least Close.
use Rattle.std.proofs.Common.{ℕ, ◌+◌, ◌<◌, inl, inr, List, ◌∷◌, length, Some, None, sym, subst, arith}
use Rattle.std.proofs.lemmas.Option.{slice_get_within}
use Rattle.std.proofs.lemmas.Bool.{cases_lt}
use Rattle.me_terms.specs.Values.{ProblemValue, ClauseValue}
use Rattle.me_terms.specs.Context.{Context}
use Rattle.me_terms.specs.Positions.{ClauseAt}
use Rattle.me_terms.specs.Close.{IsClose, HasClose}
use Rattle.me_terms.specs.Order.{Precedes, IsLeastClose}
use Rattle.me_laws.proofs.Determined.{clause_same}
use Rattle.me_laws_existence.proofs.Best.{compared}
use Rattle.tuple_search.specs.Enumeration.{remainder_limit, HasUnifier, IsNextTuple, IsLastTuple}
use Rattle.next_rule.proofs.Sizes.{none_within, within_none}

module _ (problem : ProblemValue) (context : Context) where
  -- None of the first so many clauses closes.
  abbrev pub NoneCloses : ℕ → Type 0
  NoneCloses n = (c : ℕ) (tuple : List ℕ) → c < n → ¬ IsClose problem context c tuple

  unifier_of : (c : ℕ) (clause : ClauseValue) (tuple : List ℕ) → ClauseAt problem c clause → IsClose problem context c tuple → HasUnifier context clause.literals None (remainder_limit (Some 0)) tuple
  unifier_of c clause tuple at h =
      let Q : ClauseValue → Type 0 = λ z. HasUnifier context z.literals None (remainder_limit (Some 0)) tuple in
      subst Q (clause_same problem c h.clause clause h.clause_at at) (h.family, h.unifier, record { remains = none_within h.no_remainder; weighs = tt; pivot = tt })

  pub none_closes : (n : ℕ) (clause : ClauseValue) → ClauseAt problem n clause → IsLastTuple context clause.literals None (remainder_limit (Some 0)) None → NoneCloses n → NoneCloses (n + 1)
  none_closes n clause at last before c tuple lt h =
      elim (cases_lt c n) as (λ _. ⊥) [
        | inl less ↦ before c tuple less h
        | inr more ↦ let P : ℕ → Type 0 = λ z. IsClose problem context z tuple in last tuple (unifier_of n clause tuple at (subst P (omega arith) h)) tt
      ]

  pub least_close : (n : ℕ) (clause : ClauseValue) (tuple : List ℕ) → ClauseAt problem n clause → IsNextTuple context clause.literals None (remainder_limit (Some 0)) None tuple → NoneCloses n → IsLeastClose problem context n tuple
  least_close n clause tuple at is_next before =
      let u = is_next.unifier in (
        record { clause = clause; family = u.0; clause_at = at; unifier = u.1; no_remainder = within_none u.2.remains },
        λ c other h. elim (compared n c) as (λ _. Precedes (n ∷ tuple) (c ∷ other)) [
          | inl less ↦ inl less
          | inr g ↦ elim g as (λ _. Precedes (n ∷ tuple) (c ∷ other)) [
            | inl same ↦ let P : ℕ → Type 0 = λ z. IsClose problem context z other in inr (same, is_next.least other (unifier_of n clause other at (subst P (sym same) h)) tt)
            | inr more ↦ absurd (before c other more h)
          ]
        ],
      )

  pub no_close : NoneCloses (length problem.clauses) → ¬ HasClose problem context
  no_close never has = never has.0 has.1 (slice_get_within problem.clauses has.0 has.2.clause has.2.clause_at) has.2
