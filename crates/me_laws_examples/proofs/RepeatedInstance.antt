-- The clauses r(a,X), r(X,a), ~r(X,Y)|p(X,Y) and ~p(a,a)|~p(a,a): two entries of one clause whose instances coincide.
use Rattle.std.proofs.Common.{◌≡◌, ℕ, zero, suc, true, false, List, [], ◌∷◌, None, Some, refl, sym, ap, ◌∙◌, arith}
use Rattle.me_terms.specs.Terms.{Var, AtomValue}
use Rattle.me_terms.specs.Substitutions.{Family, apply_term}
use Rattle.me_terms.specs.Context.{IsVisible}
use Rattle.me_terms.specs.Positions.{positions_of}
use Rattle.me_terms.specs.Unifier.{IsUnifier}
use Rattle.me_terms.specs.ListedInstances.{constant, IsClosingInstance, IsAskedInstance}
use Rattle.me_terms.specs.LeafList.{none_waits, adds}
use Rattle.me_laws.specs.Pairing.{pair, apart}
use Rattle.me_terms.specs.declared.atom.Literal.{Literal}
use Rattle.me_laws_examples.specs.Letters.{a, x0, x1, p, literal}
use Rattle.me_laws_examples.specs.SmallAnswers.{clause_of}
use Rattle.me_laws_examples.specs.QueueOrder.{instance_of}
use Rattle.me_laws_examples.specs.RepeatedInstance.{r, two_ways, r_first, r_second, p_first, p_second, both_ways, RepeatIsDropped}
use Rattle.me_laws_examples.proofs.Short.{seen, no_instance, opposite_by, solves_by, skipped_unifier}
use Rattle.me_laws_examples.proofs.MergedVariables.{first_of, second_of, reading, read_back}
use Rattle.me_laws_examples.proofs.QueueOrder.{fresh}

-- ---- the closing instance: the variables of both entries are a
both_a : Family
both_a zero x = apart 0 x
both_a (suc zero) zero = a
both_a (suc zero) (suc x) = apart 1 (suc x)
both_a (suc (suc zero)) zero = a
both_a (suc (suc zero)) (suc x) = apart 2 (suc x)
both_a (suc (suc (suc space))) x = apart (suc (suc (suc space))) x

both_a_general : (v : Family) → v 1 0 ≡ a → v 2 0 ≡ a → (space x : ℕ) → apply_term (reading v) (both_a space x) ≡ v space x
unfolding both_a
both_a_general v one two zero x = read_back v 0 x
both_a_general v one two (suc zero) zero = sym one
both_a_general v one two (suc zero) (suc x) = read_back v 1 (suc x)
both_a_general v one two (suc (suc zero)) zero = sym two
both_a_general v one two (suc (suc zero)) (suc x) = read_back v 2 (suc x)
both_a_general v one two (suc (suc (suc space))) x = read_back v (suc (suc (suc space))) x

abbrev denials : List Literal
denials = literal false (p a a) ∷ literal false (p a a) ∷ []

closing_unifier : IsUnifier both_ways denials (positions_of None (3 ∷ 4 ∷ [])) both_a
unfolding both_a first_of second_of
closing_unifier = record {
  solves = solves_by both_ways denials (positions_of None (3 ∷ 4 ∷ [])) both_a ((p_first, refl, refl), ((p_second, refl, refl), tt));
  most_general = λ v h.
      let one = h 0 3 (literal false (p a a)) p_first (record { literal = refl; position = refl; stands = refl }) in
      let two = h 1 4 (literal false (p a a)) p_second (record { literal = refl; position = refl; stands = refl }) in
      (reading v, both_a_general v (ap (λ (c : AtomValue). second_of c.args) one) (ap (λ (c : AtomValue). first_of c.args) two));
}

closing : IsClosingInstance two_ways both_ways 3 (3 ∷ 4 ∷ []) (literal false (p a a) ∷ literal false (p a a) ∷ [])
closing = record {
  clause = clause_of (literal false (p a a) ∷ literal false (p a a) ∷ []);
  family = both_a;
  clause_at = refl;
  unifier = closing_unifier;
  is_instance = refl;
}

visible_3 : IsVisible both_ways 3 p_first
visible_3 = seen both_ways 3 p_first refl ((λ lt u s g. absurd (omega (arith, lt))), ((λ lt u s g. absurd (omega (arith, lt))), ((λ lt u s g. absurd (omega (arith, lt))), ((λ lt u s g. absurd (omega (arith, lt))), ((λ lt u s g. no_instance (p x0 a) (p a x0) refl g), tt)))))

visible_4 : IsVisible both_ways 4 p_second
visible_4 = seen both_ways 4 p_second refl ((λ lt u s g. absurd (omega (arith, lt))), ((λ lt u s g. absurd (omega (arith, lt))), ((λ lt u s g. absurd (omega (arith, lt))), ((λ lt u s g. absurd (omega (arith, lt))), ((λ lt u s g. absurd (omega (arith, lt))), tt)))))

-- ---- the clause of both entries, by each entry of r
abbrev rule : List Literal
rule = literal false (r x0 x1) ∷ literal true (p x0 x1) ∷ []

by_first : Family
by_first zero zero = a
by_first zero (suc zero) = Var (pair 1 0)
by_first zero (suc (suc x)) = apart 0 (suc (suc x))
by_first (suc space) x = apart (suc space) x

by_first_general : (v : Family) → v 0 0 ≡ a → v 1 0 ≡ v 0 1 → (space x : ℕ) → apply_term (reading v) (by_first space x) ≡ v space x
unfolding by_first
by_first_general v one two zero zero = sym one
by_first_general v one two zero (suc zero) = read_back v 1 0 ∙ two
by_first_general v one two zero (suc (suc x)) = read_back v 0 (suc (suc x))
by_first_general v one two (suc space) x = read_back v (suc space) x

by_second : Family
by_second zero zero = Var (pair 1 0)
by_second zero (suc zero) = a
by_second zero (suc (suc x)) = apart 0 (suc (suc x))
by_second (suc space) x = apart (suc space) x

by_second_general : (v : Family) → v 1 0 ≡ v 0 0 → v 0 1 ≡ a → (space x : ℕ) → apply_term (reading v) (by_second space x) ≡ v space x
unfolding by_second
by_second_general v one two zero zero = read_back v 1 0 ∙ one
by_second_general v one two zero (suc zero) = sym two
by_second_general v one two zero (suc (suc x)) = read_back v 0 (suc (suc x))
by_second_general v one two (suc space) x = read_back v (suc space) x

first_unifier : IsUnifier both_ways rule (positions_of (Some 1) (1 ∷ [])) by_first
unfolding by_first first_of second_of
first_unifier = record {
  solves = solves_by both_ways rule (positions_of (Some 1) (1 ∷ [])) by_first ((r_first, refl, refl), tt);
  most_general = λ v h.
      let same = h 0 1 (literal false (r x0 x1)) r_first (record { literal = refl; position = refl; stands = refl }) in
      (reading v, by_first_general v (sym (ap (λ (c : AtomValue). first_of c.args) same)) (ap (λ (c : AtomValue). second_of c.args) same));
}

second_unifier : IsUnifier both_ways rule (positions_of (Some 1) (2 ∷ [])) by_second
unfolding by_second first_of second_of
second_unifier = record {
  solves = solves_by both_ways rule (positions_of (Some 1) (2 ∷ [])) by_second ((r_second, refl, refl), tt);
  most_general = λ v h.
      let same = h 0 2 (literal false (r x0 x1)) r_second (record { literal = refl; position = refl; stands = refl }) in
      (reading v, by_second_general v (ap (λ (c : AtomValue). first_of c.args) same) (sym (ap (λ (c : AtomValue). second_of c.args) same)));
}

first_asked : IsAskedInstance two_ways both_ways 2 1 (1 ∷ []) (literal true (p a a)) (literal false (r a a) ∷ literal true (p a a) ∷ [])
unfolding by_first
first_asked = record {
  clause = clause_of (literal false (r x0 x1) ∷ literal true (p x0 x1) ∷ []);
  literal = literal true (p x0 x1);
  family = by_first;
  matching = λ x. constant 0;
  clause_at = refl;
  literal_at = refl;
  unifier = first_unifier;
  matches = refl;
  others = λ x h. refl;
  is_instance = refl;
}

second_asked : IsAskedInstance two_ways both_ways 2 1 (2 ∷ []) (literal true (p a a)) (literal false (r a a) ∷ literal true (p a a) ∷ [])
unfolding by_second
second_asked = record {
  clause = clause_of (literal false (r x0 x1) ∷ literal true (p x0 x1) ∷ []);
  literal = literal true (p x0 x1);
  family = by_second;
  matching = λ x. constant 0;
  clause_at = refl;
  literal_at = refl;
  unifier = second_unifier;
  matches = refl;
  others = λ x h. refl;
  is_instance = refl;
}

-- ---- the clauses of r
r_first_asked : IsAskedInstance two_ways both_ways 0 0 [] (literal true (r a a)) (literal true (r a a) ∷ [])
r_first_asked = record {
  clause = clause_of (literal true (r a x0) ∷ []);
  literal = literal true (r a x0);
  family = apart;
  matching = λ x. constant 0;
  clause_at = refl;
  literal_at = refl;
  unifier = skipped_unifier both_ways (literal true (r a x0));
  matches = refl;
  others = λ x h. refl;
  is_instance = refl;
}

r_second_asked : IsAskedInstance two_ways both_ways 1 0 [] (literal true (r a a)) (literal true (r a a) ∷ [])
r_second_asked = record {
  clause = clause_of (literal true (r x0 a) ∷ []);
  literal = literal true (r x0 a);
  family = apart;
  matching = λ x. constant 0;
  clause_at = refl;
  literal_at = refl;
  unifier = skipped_unifier both_ways (literal true (r x0 a));
  matches = refl;
  others = λ x h. refl;
  is_instance = refl;
}

pub repeat_is_dropped : RepeatIsDropped
repeat_is_dropped = record {
  closes = record {
    clause = clause_of (literal false (p a a) ∷ literal false (p a a) ∷ []);
    family = both_a;
    clause_at = refl;
    unifier = record {
      opposite = opposite_by both_ways denials (positions_of None (3 ∷ 4 ∷ [])) both_a refl ((p_first, visible_3, refl), ((p_second, visible_4, refl), tt));
      unifier = closing_unifier;
    };
    no_remainder = refl;
  };
  listed = (
    literal false (p a a) ∷ literal false (p a a) ∷ [],
    instance_of 2 (literal false (r a a) ∷ literal true (p a a) ∷ []) ∷ instance_of 2 (literal false (r a a) ∷ literal true (p a a) ∷ []) ∷ instance_of 0 (literal true (r a a) ∷ []) ∷ instance_of 1 (literal true (r a a) ∷ []) ∷ [],
    closing,
    adds {d = (3, literal true (p a a))} {place = 1} {tuple = 1 ∷ []} (fresh [] (3, literal true (p a a)) tt) (p_first, refl, refl) first_asked
        (adds {d = (4, literal true (p a a))} {place = 1} {tuple = 2 ∷ []} (fresh ((3, literal true (p a a)) ∷ []) (4, literal true (p a a)) ((λ e. omega (arith, e)), tt)) (p_second, refl, refl) second_asked
        (adds {d = (1, literal true (r a a))} {place = 0} {tuple = []} (fresh ((4, literal true (p a a)) ∷ (3, literal true (p a a)) ∷ []) (1, literal true (r a a)) ((λ e. omega (arith, e)), ((λ e. omega (arith, e)), tt))) (r_first, refl, refl) r_first_asked
        (adds {d = (2, literal true (r a a))} {place = 0} {tuple = []} (fresh ((1, literal true (r a a)) ∷ (4, literal true (p a a)) ∷ (3, literal true (p a a)) ∷ []) (2, literal true (r a a)) ((λ e. omega (arith, e)), ((λ e. omega (arith, e)), ((λ e. omega (arith, e)), tt)))) (r_second, refl, refl) r_second_asked none_waits))),
    refl,
  );
}
