-- The clause ~p(X)|q(X) beside the universal p(X0), with the pseudo-literal against q(X).
use Rattle.std.proofs.Common.{◌≡◌, ℕ, zero, suc, ◌<◌, true, false, ◌⊎◌, inl, inr, [], ◌∷◌, get_or, None, refl, ap, ◌∙◌, arith}
use Rattle.me_terms.specs.Terms.{AtomValue}
use Rattle.me_terms.specs.Substitutions.{IsStrictlyMoreGeneral, Generalizes}
use Rattle.me_terms.specs.Context.{pseudo, IsVisible}
use Rattle.me_terms.specs.Produces.{HasException}
use Rattle.me_terms.specs.Positions.{positions_of}
use Rattle.me_terms.specs.Productive.{IsProductiveUnifier}
use Rattle.me_terms.specs.declared.entry.Kind.TheVariants.{Universal, Parametric}
use Rattle.me_terms.specs.declared.atom.Pattern.TheVariants.{Any, Of}
use Rattle.me_laws.proofs.Generality.{strictly_irreflexive}
use Rattle.me_laws_examples.specs.Letters.{x0, p_of, q_of, literal}
use Rattle.me_laws_examples.specs.SmallAnswers.{clause_of}
use Rattle.me_laws_examples.specs.Sharpening.{beside, universal_p}
use Rattle.me_laws_examples.specs.ParametricAssert.{p_implies_q}
use Rattle.me_laws_examples.specs.PartialRemainder.{PartialRemainder}
use Rattle.me_laws_examples.proofs.Short.{each_entry, seen, opposite_by, solves_by, productive_by}
use Rattle.me_laws_examples.proofs.MergedVariables.{reading}
use Rattle.me_laws_examples.proofs.OneVariable.{one_variable, one_variable_general, only_argument}
use Rattle.me_laws_examples.proofs.SharpeningCases.{last_visible}

pseudo_visible : IsVisible (beside universal_p) 0 (pseudo false)
pseudo_visible = seen (beside universal_p) 0 (pseudo false) refl ((λ lt u s g. cc u), ((λ lt u s g. g), tt))

-- p(X0) makes no exception at an atom of q
free : (atom : AtomValue) → atom.pred ≡ 1 → ¬ HasException (beside universal_p) (pseudo false) atom
free atom other ex =
    each_entry (λ j f. Generalizes f.atom (Of atom) → (f.kind ≡ Universal) ⊎ ((f.kind ≡ Parametric) × IsStrictlyMoreGeneral Any f.atom) → ⊥) (beside universal_p)
    ((λ g r. elim r as (λ _. ⊥) [ inl u ↦ cc u | inr w ↦ strictly_irreflexive Any w.1 ]), ((λ g r. let same : 0 ≡ 1 = ap (λ (s : AtomValue). s.pred) g.1 ∙ other in absurd (omega (arith, same))), tt))
    ex.0 ex.1 ex.2.0 ex.3 ex.4

productive : IsProductiveUnifier p_implies_q (beside universal_p) 0 (1 ∷ 0 ∷ []) (clause_of (literal false (p_of x0) ∷ literal true (q_of x0) ∷ [])) one_variable
unfolding one_variable only_argument
productive = record {
  clause_at = refl;
  unifier = record {
    opposite = opposite_by (beside universal_p) (literal false (p_of x0) ∷ literal true (q_of x0) ∷ []) (positions_of None (1 ∷ 0 ∷ [])) one_variable refl ((universal_p, last_visible universal_p, refl), ((pseudo false, pseudo_visible, refl), tt));
    unifier = record {
      solves = solves_by (beside universal_p) (literal false (p_of x0) ∷ literal true (q_of x0) ∷ []) (positions_of None (1 ∷ 0 ∷ [])) one_variable ((universal_p, refl, refl), ((pseudo false, refl, tt), tt));
      most_general = λ v h.
          let same = h 0 1 (literal false (p_of x0)) universal_p (record { literal = refl; position = refl; stands = refl }) in
          (reading v, one_variable_general v (ap (λ (c : AtomValue). only_argument c.args) same));
    };
  };
  productive = productive_by (beside universal_p) (literal false (p_of x0) ∷ literal true (q_of x0) ∷ []) (positions_of None (1 ∷ 0 ∷ [])) one_variable
      ((universal_p, record { visible = last_visible universal_p; same_sign = refl; generalizes = (λ x. one_variable 0 0, refl); undisputed = inl refl }), ((pseudo false, record { visible = pseudo_visible; same_sign = refl; generalizes = tt; undisputed = inr (λ ex. free (q_of (one_variable 0 0)) refl ex) }), tt));
}

-- 0 does not stand in the list of 1 alone
not_there : (k : ℕ) → k < 1 → get_or {A = ℕ} (1 ∷ []) k 0 ≡ 0 → ⊥
not_there zero lt at = absurd (omega (arith, at))
not_there (suc k) lt at = absurd (omega (arith, lt))

pub partial_remainder : PartialRemainder
unfolding one_variable
partial_remainder = record {
  splits_q = record {
    clause = clause_of (literal false (p_of x0) ∷ literal true (q_of x0) ∷ []);
    literal = literal true (q_of x0);
    family = one_variable;
    productive = productive;
    literal_at = refl;
    remains = (0, omega arith, refl);
    size_of = refl;
    split_literal = refl;
    fits = (omega arith, omega arith);
  };
  not_by_universal = λ size l h. let found = h.remains in not_there found.0 found.1 found.2;
  not_of_two = λ place l h. let bad : 2 ≡ 1 = h.size_of in absurd (omega (arith, bad));
}
