-- The clauses p(a), p(X) and q(X), where p(X0) hides p(a) in a context of three entries.
use Rattle.std.proofs.Common.{◌≡◌, ℕ, true, false, List, [], ◌∷◌, None, inl, refl, subst, arith}
use Rattle.me_terms.specs.Terms.{AtomValue}
use Rattle.me_terms.specs.Substitutions.{Family, Generalizes}
use Rattle.me_terms.specs.Values.{ClauseValue, Asserted}
use Rattle.me_terms.specs.Contradictory.{Clash}
use Rattle.me_terms.specs.Positions.{positions_of}
use Rattle.me_terms.specs.Unifier.{IsContextUnifier}
use Rattle.me_terms.specs.Remainder.{remainder}
use Rattle.me_terms.specs.Close.{HasClose}
use Rattle.me_terms.specs.Assert.{IsAssert}
use Rattle.me_laws.specs.Pairing.{apart}
use Rattle.me_terms.specs.declared.entry.Kind.TheVariants.{Universal}
use Rattle.me_terms.specs.declared.atom.Pattern.TheVariants.{Of}
use Rattle.me_laws.proofs.Lists.{all_of, all_at}
use Rattle.me_laws_examples.specs.Letters.{a, x0, p_of, q_of, literal, entry}
use Rattle.me_laws_examples.specs.SmallAnswers.{clause_of}
use Rattle.me_laws_examples.specs.HiddenCounted.{three_facts, three_literals, p_of_any, crowded, HiddenIsCounted}
use Rattle.me_laws_examples.proofs.Short.{each_entry, no_instance, one_place, skipped_opposite, skipped_unifier}

-- a positive literal meets the pseudo-literal alone, which is in every remainder
positive_stays : (atom : AtomValue) (tuple : List ℕ) (family : Family) → IsContextUnifier crowded (literal true atom ∷ []) None tuple family → remainder crowded (positions_of None tuple) family ≡ [] → ⊥
positive_stays atom tuple family h rest =
    let one = one_place crowded (literal true atom) tuple family h in
    let P : List ℕ → Type 0 = λ t. remainder crowded (positions_of None t) family ≡ [] in
    each_entry (λ k e. e.positive ≡ false → remainder crowded (positions_of None (k ∷ [])) family ≡ [] → ⊥) crowded
    ((λ s bad. cc bad), ((λ s bad. cc s), ((λ s bad. cc s), tt)))
    one.0 one.2.0 one.2.1.0 one.2.2 (subst P one.1 rest)

-- no tuple closes the clause
abbrev StaysOpen : ClauseValue → Type 0
StaysOpen clause = (tuple : List ℕ) (family : Family) → IsContextUnifier crowded clause.literals None tuple family → remainder crowded (positions_of None tuple) family ≡ [] → ⊥

no_close : ¬ HasClose three_facts crowded
no_close h =
    all_at StaysOpen three_facts.clauses h.0 h.2.clause (all_of StaysOpen three_facts.clauses (positive_stays (p_of a), (positive_stays (p_of x0), (positive_stays (q_of x0), tt)))) h.2.clause_at
    h.1 h.2.family h.2.unifier h.2.no_remainder

asserts_q : IsAssert three_facts three_literals crowded 2 0 [] (entry true (q_of x0) Universal (Asserted 2 0 []))
asserts_q = record {
  clause = clause_of (literal true (q_of x0) ∷ []);
  literal = literal true (q_of x0);
  family = apart;
  clause_at = refl;
  literal_at = refl;
  unifier = record { opposite = skipped_opposite crowded (literal true (q_of x0)); unifier = skipped_unifier crowded (literal true (q_of x0)) };
  no_remainder = refl;
  entry = refl;
  allowed = record {
    fits = (omega arith, omega arith);
    consistent = λ h. each_entry (λ k e. e.positive ≡ false → Clash e.kind e.atom Universal (Of (q_of x0)) → ⊥) crowded ((λ s g. g), ((λ s g. cc s), ((λ s g. cc s), tt))) h.0 h.1 h.2.0 h.3 h.4;
    not_subsumed = λ h. each_entry (λ k e. e.kind ≡ Universal → Generalizes e.atom (Of (q_of x0)) → ⊥) crowded ((λ u g. cc u), ((λ u g. no_instance (p_of a) (q_of x0) refl g), ((λ u g. no_instance (p_of x0) (q_of x0) refl g), tt))) h.0 h.1 h.2.0 h.3 h.5;
    no_variant = λ g. cc g;
  };
}

pub hidden_is_counted : HiddenIsCounted
hidden_is_counted = record {
  hidden = (2, p_of_any, record { is_later = omega arith; stands = refl; covers = record { is_universal = refl; same_sign = refl; generalizes = (λ x. a, refl) } });
  met = (no_close, ((λ h. omega (arith, h)), inl (2, 0, [], entry true (q_of x0) Universal (Asserted 2 0 []), asserts_q)));
  room_without = omega arith;
}
