-- Whether a family solves the equations of a clause with entries is decided.
use Rattle.std.proofs.Common.{ℕ, ◌+◌, ◌⊎◌, inl, inr, List, Option, arith}
use Rattle.me_terms.specs.Substitutions.{Family}
use Rattle.me_terms.specs.Context.{Context}
use Rattle.me_terms.specs.Unifier.{Solves, IsUnifier}
use Rattle.me_terms.specs.declared.atom.Literal.{Literal}
use Rattle.me_laws.proofs.UnifiersExist.{equations_from, flat, spread, flat_holds, each_meets, unifiers_exist}
use Rattle.me_laws_existence.proofs.Solvable.{Decided, solvable}

by_equations : (context : Context) (ls : List Literal) (ks : List (Option ℕ)) → Decided (equations_from 0 context ls ks) → ((u : Family) × Solves context ls ks u) ⊎ (¬ ((u : Family) × Solves context ls ks u))
by_equations context ls ks (inl m) = inl (spread m.substitution, λ i k l e o. each_meets m.substitution 0 context ls ks m.holds i k (i + 1) l e o.literal o.position o.stands (omega arith))
by_equations context ls ks (inr never) = inr (λ h. never (flat h.0) (flat_holds context ls ks h.0 h.1))

pub solves_decided : (context : Context) (ls : List Literal) (ks : List (Option ℕ)) → ((u : Family) × Solves context ls ks u) ⊎ (¬ ((u : Family) × Solves context ls ks u))
solves_decided context ls ks = by_equations context ls ks (solvable (equations_from 0 context ls ks))

pub unifier_decided : (context : Context) (ls : List Literal) (ks : List (Option ℕ)) → ((u : Family) × IsUnifier context ls ks u) ⊎ (¬ ((u : Family) × IsUnifier context ls ks u))
unifier_decided context ls ks =
    elim (solves_decided context ls ks) as (λ _. ((u : Family) × IsUnifier context ls ks u) ⊎ (¬ ((u : Family) × IsUnifier context ls ks u))) [
      | inl h ↦ inl (unifiers_exist context ls ks h.0 h.1)
      | inr never ↦ inr (λ h. never (h.0, h.1.solves))
    ]
