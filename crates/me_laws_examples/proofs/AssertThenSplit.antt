-- The clauses p(X)|q(X), ~p(a) and ~q(b): an Assert, a Split, and what the left branch's context produces.
use Rattle.std.proofs.Common.{◌≡◌, ℕ, zero, suc, ◌<◌, true, false, ◌⊎◌, inl, inr, [], ◌∷◌, Some, None, refl, ap, arith}
use Rattle.me_terms.specs.Terms.{TermValue, Arguments, Nil, Cons, AtomValue}
use Rattle.me_terms.specs.Substitutions.{Family, Generalizes, IsStrictlyMoreGeneral, apply_term}
use Rattle.me_terms.specs.Context.{pseudo, IsContext, IsLiteralEntry, IsVisible}
use Rattle.me_terms.specs.Contradictory.{Unifiable, Clash}
use Rattle.me_terms.specs.Produces.{Produces, IsProduced, HasException}
use Rattle.me_terms.specs.Positions.{positions_of}
use Rattle.me_terms.specs.Assert.{MayAssert, IsAssert}
use Rattle.me_terms.specs.Split.{IsSplit}
use Rattle.me_terms.specs.Productive.{IsProductiveUnifier}
use Rattle.me_laws.specs.Pairing.{apart}
use Rattle.me_terms.specs.declared.entry.Kind.TheVariants.{Universal, Parametric}
use Rattle.me_terms.specs.declared.atom.Pattern.TheVariants.{Any, Of}
use Rattle.me_laws.proofs.Apart.{apart_general}
use Rattle.me_laws.proofs.Generality.{strictly_irreflexive}
use Rattle.me_laws_examples.specs.Letters.{a, b, x0, p_of, q_of, literal}
use Rattle.me_laws_examples.specs.AssertThenSplit.{p_or_q, problem, bounds, no_p, yes_q, no_q, yes_p, split_p, first_context, four_asserted, left_context, AssertsThenSplits}
use Rattle.me_laws_examples.proofs.Short.{each_entry, seen, no_instance, opposite_by, solves_by, productive_by}
use Rattle.me_laws_examples.proofs.MergedVariables.{reading, read_back}

-- ---- q(a) is asserted
-- the variable of the clause is a, and all others are apart
at_a : Family
at_a zero zero = a
at_a zero (suc x) = apart 0 (suc x)
at_a (suc space) x = apart (suc space) x

at_a_general : (v : Family) → a ≡ v 0 0 → (space x : ℕ) → apply_term (reading v) (at_a space x) ≡ v space x
unfolding at_a
at_a_general v same zero zero = same
at_a_general v same zero (suc x) = read_back v 0 (suc x)
at_a_general v same (suc space) x = read_back v (suc space) x

argument_of : Arguments → TermValue
argument_of Nil = a
argument_of (Cons t ts) = t

no_p_visible : IsVisible first_context 1 no_p
no_p_visible = seen first_context 1 no_p refl ((λ lt u s g. absurd (omega (arith, lt))), ((λ lt u s g. absurd (omega (arith, lt))), tt))

-- atoms of different predicates have no common instance
unlike : ¬ Unifiable (Of (p_of a)) (Of (q_of a))
unlike h = let same : 0 ≡ 1 = ap (λ (c : AtomValue). c.pred) h.2 in absurd (omega (arith, same))

q_allowed : MayAssert bounds first_context (literal true (q_of a)) Universal
q_allowed = record {
  fits = (omega arith, omega arith);
  consistent = λ h. each_entry (λ j e. Clash e.kind e.atom Universal (Of (q_of a)) → ⊥) first_context ((λ g. g), ((λ g. unlike g), tt)) h.0 h.1 h.2.0 h.4;
  not_subsumed = λ h. each_entry (λ j e. e.kind ≡ Universal → e.positive ≡ true → ⊥) first_context ((λ u s. cc s), ((λ u s. cc s), tt)) h.0 h.1 h.2.0 h.3 h.4;
  no_variant = λ g. cc g;
}

asserts_q : IsAssert problem bounds first_context 0 1 (1 ∷ []) yes_q
unfolding at_a argument_of
asserts_q = record {
  clause = p_or_q;
  literal = literal true (q_of x0);
  family = at_a;
  clause_at = refl;
  literal_at = refl;
  unifier = record {
    opposite = opposite_by first_context p_or_q.literals (positions_of (Some 1) (1 ∷ [])) at_a refl ((no_p, no_p_visible, refl), tt);
    unifier = record {
      solves = solves_by first_context p_or_q.literals (positions_of (Some 1) (1 ∷ [])) at_a ((no_p, refl, refl), tt);
      most_general = λ v h.
          let same = h 0 1 (literal true (p_of x0)) no_p (record { literal = refl; position = refl; stands = refl }) in
          (reading v, at_a_general v (ap (λ (c : AtomValue). argument_of c.args) same));
    };
  };
  no_remainder = refl;
  entry = refl;
  allowed = q_allowed;
}

-- ---- p(X0) is split on
pseudo_visible : IsVisible four_asserted 0 (pseudo false)
pseudo_visible = seen four_asserted 0 (pseudo false) refl ((λ lt u s g. cc u), ((λ lt u s g. g), ((λ lt u s g. g), ((λ lt u s g. g), ((λ lt u s g. g), tt)))))

p_free : ¬ HasException four_asserted (pseudo false) (p_of x0)
p_free ex =
    each_entry (λ j f. Generalizes f.atom (Of (p_of x0)) → (f.kind ≡ Universal) ⊎ ((f.kind ≡ Parametric) × IsStrictlyMoreGeneral Any f.atom) → ⊥) four_asserted
    ((λ g r. elim r as (λ _. ⊥) [ inl u ↦ cc u | inr w ↦ strictly_irreflexive Any w.1 ]), ((λ g r. no_instance (p_of a) (p_of x0) refl g), ((λ g r. no_instance (q_of a) (p_of x0) refl g), ((λ g r. no_instance (q_of b) (p_of x0) refl g), ((λ g r. no_instance (p_of b) (p_of x0) refl g), tt)))))
    ex.0 ex.1 ex.2.0 ex.3 ex.4

q_free : ¬ HasException four_asserted (pseudo false) (q_of x0)
q_free ex =
    each_entry (λ j f. Generalizes f.atom (Of (q_of x0)) → (f.kind ≡ Universal) ⊎ ((f.kind ≡ Parametric) × IsStrictlyMoreGeneral Any f.atom) → ⊥) four_asserted
    ((λ g r. elim r as (λ _. ⊥) [ inl u ↦ cc u | inr w ↦ strictly_irreflexive Any w.1 ]), ((λ g r. no_instance (p_of a) (q_of x0) refl g), ((λ g r. no_instance (q_of a) (q_of x0) refl g), ((λ g r. no_instance (q_of b) (q_of x0) refl g), ((λ g r. no_instance (p_of b) (q_of x0) refl g), tt)))))
    ex.0 ex.1 ex.2.0 ex.3 ex.4

-- the pseudo-literal at both places
both_pseudo : IsProductiveUnifier problem four_asserted 0 (0 ∷ 0 ∷ []) p_or_q apart
both_pseudo = record {
  clause_at = refl;
  unifier = record {
    opposite = opposite_by four_asserted p_or_q.literals (positions_of None (0 ∷ 0 ∷ [])) apart refl ((pseudo false, pseudo_visible, refl), ((pseudo false, pseudo_visible, refl), tt));
    unifier = apart_general four_asserted p_or_q.literals (positions_of None (0 ∷ 0 ∷ [])) (solves_by four_asserted p_or_q.literals (positions_of None (0 ∷ 0 ∷ [])) apart ((pseudo false, refl, tt), ((pseudo false, refl, tt), tt)));
  };
  productive = productive_by four_asserted p_or_q.literals (positions_of None (0 ∷ 0 ∷ [])) apart
      ((pseudo false, record { visible = pseudo_visible; same_sign = refl; generalizes = tt; undisputed = inr (λ ex. p_free ex) }), ((pseudo false, record { visible = pseudo_visible; same_sign = refl; generalizes = tt; undisputed = inr (λ ex. q_free ex) }), tt));
}

splits_p : IsSplit problem bounds four_asserted 0 0 (0 ∷ 0 ∷ []) 2 (literal true (p_of x0))
splits_p = record {
  clause = p_or_q;
  literal = literal true (p_of x0);
  family = apart;
  productive = both_pseudo;
  literal_at = refl;
  remains = (0, omega arith, refl);
  size_of = refl;
  split_literal = refl;
  fits = (omega arith, omega arith);
}

splits_q : IsSplit problem bounds four_asserted 0 1 (0 ∷ 0 ∷ []) 2 (literal true (q_of x0))
splits_q = record {
  clause = p_or_q;
  literal = literal true (q_of x0);
  family = apart;
  productive = both_pseudo;
  literal_at = refl;
  remains = (1, omega arith, refl);
  size_of = refl;
  split_literal = refl;
  fits = (omega arith, omega arith);
}

-- ---- the left branch
left_is_context : IsContext left_context
left_is_context = record {
  first = (false, refl);
  later = λ k e lt at. each_entry (λ j f. 0 < j → IsLiteralEntry f) left_context ((λ h. absurd (omega (arith, h))), ((λ h. (refl, λ g. refl)), ((λ h. (refl, λ g. refl)), ((λ h. (refl, λ g. refl)), ((λ h. (refl, λ g. refl)), ((λ h. (refl, λ g. cc g)), tt)))))) k e at lt;
}

visible_1 : IsVisible left_context 1 no_p
visible_1 = seen left_context 1 no_p refl ((λ lt u s g. absurd (omega (arith, lt))), ((λ lt u s g. absurd (omega (arith, lt))), ((λ lt u s g. cc s), ((λ lt u s g. no_instance (q_of b) (p_of a) refl g), ((λ lt u s g. cc s), ((λ lt u s g. cc u), tt))))))

visible_2 : IsVisible left_context 2 yes_q
visible_2 = seen left_context 2 yes_q refl ((λ lt u s g. absurd (omega (arith, lt))), ((λ lt u s g. cc s), ((λ lt u s g. absurd (omega (arith, lt))), ((λ lt u s g. cc s), ((λ lt u s g. no_instance (p_of b) (q_of a) refl g), ((λ lt u s g. cc u), tt))))))

visible_3 : IsVisible left_context 3 no_q
visible_3 = seen left_context 3 no_q refl ((λ lt u s g. absurd (omega (arith, lt))), ((λ lt u s g. no_instance (p_of a) (q_of b) refl g), ((λ lt u s g. cc s), ((λ lt u s g. absurd (omega (arith, lt))), ((λ lt u s g. cc s), ((λ lt u s g. cc u), tt))))))

visible_4 : IsVisible left_context 4 yes_p
visible_4 = seen left_context 4 yes_p refl ((λ lt u s g. absurd (omega (arith, lt))), ((λ lt u s g. cc s), ((λ lt u s g. no_instance (q_of a) (p_of b) refl g), ((λ lt u s g. cc s), ((λ lt u s g. absurd (omega (arith, lt))), ((λ lt u s g. cc u), tt))))))

visible_5 : IsVisible left_context 5 split_p
visible_5 = seen left_context 5 split_p refl ((λ lt u s g. absurd (omega (arith, lt))), ((λ lt u s g. cc s), ((λ lt u s g. no_instance (q_of a) (p_of x0) refl g), ((λ lt u s g. cc s), ((λ lt u s g. no_instance (p_of b) (p_of x0) refl g), ((λ lt u s g. cc u), tt))))))

p_not_of_a : ¬ IsProduced left_context (literal true (p_of a))
p_not_of_a h =
    each_entry (λ k f. Produces left_context k f (literal true (p_of a)) → ⊥) left_context
    ((λ g. cc g.same_sign), ((λ g. cc g.same_sign), ((λ g. no_instance (q_of a) (p_of a) refl g.generalizes), ((λ g. cc g.same_sign), ((λ g. no_instance (p_of b) (p_of a) refl g.generalizes), ((λ g. elim g.undisputed as (λ _. ⊥) [ inl u ↦ cc u | inr free ↦ free (1, no_p, visible_1, (λ x. a, refl), inl refl) ]), tt))))))
    h.0 h.1 h.2.visible.0 h.2

split_free : ¬ HasException left_context split_p (p_of x0)
split_free ex =
    each_entry (λ j f. Generalizes f.atom (Of (p_of x0)) → (f.kind ≡ Universal) ⊎ ((f.kind ≡ Parametric) × IsStrictlyMoreGeneral split_p.atom f.atom) → ⊥) left_context
    ((λ g r. elim r as (λ _. ⊥) [ inl u ↦ cc u | inr w ↦ w.1.0 ]), ((λ g r. no_instance (p_of a) (p_of x0) refl g), ((λ g r. no_instance (q_of a) (p_of x0) refl g), ((λ g r. no_instance (q_of b) (p_of x0) refl g), ((λ g r. no_instance (p_of b) (p_of x0) refl g), ((λ g r. elim r as (λ _. ⊥) [ inl u ↦ cc u | inr w ↦ strictly_irreflexive split_p.atom w.1 ]), tt))))))
    ex.0 ex.1 ex.2.0 ex.3 ex.4

pub asserts_then_splits : AssertsThenSplits
asserts_then_splits = record {
  asserts_q = asserts_q;
  splits_p = splits_p;
  splits_q = splits_q;
  split_parametric = refl;
  context = left_is_context;
  p_false_of_a = record { visible = visible_1; same_sign = refl; generalizes = (λ x. a, refl); undisputed = inl refl };
  p_not_of_a = λ h. p_not_of_a h;
  p_true_of_b = record { visible = visible_4; same_sign = refl; generalizes = (λ x. a, refl); undisputed = inl refl };
  q_true_of_a = record { visible = visible_2; same_sign = refl; generalizes = (λ x. a, refl); undisputed = inl refl };
  q_false_of_b = record { visible = visible_3; same_sign = refl; generalizes = (λ x. a, refl); undisputed = inl refl };
  p_true_of_all = record { visible = visible_5; same_sign = refl; generalizes = (λ x. x0, refl); undisputed = inr (λ ex. split_free ex) };
}
