-- The clause ~p(X)|q(X), beside the parametric p(X0).
use Rattle.std.proofs.Common.{◌≡◌, true, false, [], ◌∷◌, Some, refl, ap, arith}
use Rattle.me_terms.specs.Terms.{AtomValue}
use Rattle.me_terms.specs.Substitutions.{IsVariant}
use Rattle.me_terms.specs.Contradictory.{Clash}
use Rattle.me_terms.specs.Positions.{positions_of}
use Rattle.me_terms.specs.declared.entry.Kind.TheVariants.{Universal, Parametric}
use Rattle.me_terms.specs.declared.atom.Pattern.TheVariants.{Of}
use Rattle.me_laws_examples.specs.Letters.{x0, p_of, q_of, literal}
use Rattle.me_laws_examples.specs.SmallAnswers.{clause_of}
use Rattle.me_laws_examples.specs.Sharpening.{beside, parametric_p}
use Rattle.me_laws_examples.specs.ParametricAssert.{AssertsParametric}
use Rattle.me_laws_examples.proofs.Short.{each_entry, no_instance, opposite_by, solves_by}
use Rattle.me_laws_examples.proofs.MergedVariables.{reading}
use Rattle.me_laws_examples.proofs.OneVariable.{one_variable, one_variable_general, only_argument}
use Rattle.me_laws_examples.proofs.SharpeningCases.{last_visible}

pub asserts_parametric : AssertsParametric
unfolding one_variable only_argument
asserts_parametric = record {
  clause = clause_of (literal false (p_of x0) ∷ literal true (q_of x0) ∷ []);
  literal = literal true (q_of x0);
  family = one_variable;
  clause_at = refl;
  literal_at = refl;
  unifier = record {
    opposite = opposite_by (beside parametric_p) (literal false (p_of x0) ∷ literal true (q_of x0) ∷ []) (positions_of (Some 1) (1 ∷ [])) one_variable refl ((parametric_p, last_visible parametric_p, refl), tt);
    unifier = record {
      solves = solves_by (beside parametric_p) (literal false (p_of x0) ∷ literal true (q_of x0) ∷ []) (positions_of (Some 1) (1 ∷ [])) one_variable ((parametric_p, refl, refl), tt);
      most_general = λ v h.
          let same = h 0 1 (literal false (p_of x0)) parametric_p (record { literal = refl; position = refl; stands = refl }) in
          (reading v, one_variable_general v (ap (λ (c : AtomValue). only_argument c.args) same));
    };
  };
  no_remainder = refl;
  entry = refl;
  allowed = record {
    fits = (omega arith, omega arith);
    consistent = λ h. each_entry (λ k e. e.positive ≡ false → Clash e.kind e.atom Parametric (Of (q_of x0)) → ⊥) (beside parametric_p) ((λ s g. g.1), ((λ s g. cc s), tt)) h.0 h.1 h.2.0 h.3 h.4;
    not_subsumed = λ h. each_entry (λ k e. e.kind ≡ Universal → ⊥) (beside parametric_p) ((λ u. cc u), ((λ u. cc u), tt)) h.0 h.1 h.2.0 h.3;
    no_variant = λ g h. each_entry (λ k e. e.positive ≡ true → IsVariant e.atom (Of (q_of x0)) → ⊥) (beside parametric_p) ((λ s w. cc s), ((λ s w. no_instance (p_of x0) (q_of x0) refl w.0), tt)) h.0 h.1 h.2.0 h.3 h.4;
  };
}
