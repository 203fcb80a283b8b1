-- Context unifiers as solutions of a clause's equations.
use Rattle.std.proofs.Common.{◌≡◌, ℕ, ◌↔◌, List, Option, sym, subst}
use Rattle.me_terms.specs.Substitutions.{Family}
use Rattle.me_terms.specs.Context.{Context}
use Rattle.me_terms.specs.Positions.{positions_of, AreOpposite}
use Rattle.me_terms.specs.Unifier.{IsUnifier, IsContextUnifier}
use Rattle.me_terms.specs.Remainder.{remainder}
use Rattle.me_terms.specs.declared.atom.Literal.{Literal}
use Rattle.me_unify.specs.Equations.{Equation, IsSolvable, IsMostGeneral}
use Rattle.me_unify.specs.ClauseEquations.{clause_equations}
use Rattle.joint_unifiers.specs.ClauseUnifiers.{UnifierValue, IsUnifierOf}
use Rattle.joint_unifiers.proofs.Bridge.{of_solves, unifier_iff, general_of}

pub some_unifier : (context : Context) (clause : List Literal) (skip : Option ℕ) (tuple : List ℕ) → AreOpposite context clause (positions_of skip tuple) → IsSolvable (clause_equations context clause (positions_of skip tuple))
    → (f : Family) × IsContextUnifier context clause skip tuple f
some_unifier context clause skip tuple opposite h =
    let found = general_of context clause (positions_of skip tuple) h in
    (found.0, record { opposite = opposite; unifier = (unifier_iff context clause (positions_of skip tuple) found.0).0 found.1 })

pub some_solution : (context : Context) (clause : List Literal) (skip : Option ℕ) (tuple : List ℕ) → ((f : Family) × IsContextUnifier context clause skip tuple f) → IsSolvable (clause_equations context clause (positions_of skip tuple))
some_solution context clause skip tuple h = (h.0, of_solves context clause (positions_of skip tuple) h.0 h.1.unifier.solves)

pub is_unifier : (context : Context) (clause : List Literal) (skip : Option ℕ) (tuple : List ℕ) (u : UnifierValue) → u.literals ≡ clause → u.tuple ≡ tuple → u.equations ≡ clause_equations context clause (positions_of skip tuple)
    → ((f : Family) → IsMostGeneral u.equations f → u.remainder ≡ remainder context (positions_of skip tuple) f) → IsUnifierOf context clause skip tuple u
is_unifier context clause skip tuple u literals positions equations remaining =
    let P : List Equation → Type 0 = λ es. (f : Family) → IsMostGeneral es f ↔ IsUnifier context clause (positions_of skip tuple) f in
    let families : (f : Family) → IsMostGeneral u.equations f ↔ IsUnifier context clause (positions_of skip tuple) f = subst P (sym equations) (unifier_iff context clause (positions_of skip tuple)) in
    record {
      literals = literals;
      tuple = positions;
      families = families;
      remainder = λ f h. remaining f ((families f).1 h);
    }
