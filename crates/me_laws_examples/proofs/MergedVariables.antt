-- The parametric p(X0,X1) against ~p(X0,X0) and against ~p(X0,a).
use Rattle.std.proofs.Common.{◌≡◌, ℕ, zero, suc, Bool, true, false, not, ◌||◌, cond, List, [], ◌∷◌, None, refl, sym, subst, ap, ◌∙◌, arith}
use Rattle.std.proofs.lemmas.Option.{same_Some}
use Rattle.me_terms.specs.Terms.{TermValue, Var, Arguments, Nil, Cons, AtomValue}
use Rattle.me_terms.specs.Substitutions.{Substitution, Family, apply_term}
use Rattle.me_terms.specs.Values.{ClauseValue}
use Rattle.me_terms.specs.Context.{IsVisible}
use Rattle.me_terms.specs.Positions.{positions_of}
use Rattle.me_terms.specs.Unifier.{IsContextUnifier}
use Rattle.me_terms.specs.Remainder.{is_variable, remainder}
use Rattle.me_terms.specs.Close.{IsClose}
use Rattle.me_laws.specs.Pairing.{pair, first_of_pair, second_of_pair, apart}
use Rattle.me_laws.proofs.Apart.{pair_back}
use Rattle.me_laws_examples.specs.Letters.{a, x0, p, literal, word}
use Rattle.me_laws_examples.specs.MergedVariables.{denying, wide_entry, wide_context, MergedVariablesClose}
use Rattle.me_laws_examples.proofs.Short.{seen, opposite_by, solves_by}

wide_visible : IsVisible wide_context 1 wide_entry
wide_visible = seen wide_context 1 wide_entry refl ((λ lt u s g. absurd (omega (arith, lt))), ((λ lt u s g. cc u), tt))

-- the variables of all spaces apart, but for those of the atoms, which are one
merged : Family
merged zero zero = Var (pair 1 0)
merged zero (suc x) = apart 0 (suc x)
merged (suc zero) zero = Var (pair 1 0)
merged (suc zero) (suc zero) = Var (pair 1 0)
merged (suc zero) (suc (suc x)) = apart 1 (suc (suc x))
merged (suc (suc space)) x = apart (suc (suc space)) x

unfoldable pub first_of : Arguments → TermValue
first_of Nil = a
first_of (Cons t ts) = t

unfoldable pub second_of : Arguments → TermValue
second_of Nil = a
second_of (Cons t ts) = first_of ts

pub reading : Family → Substitution
reading v z = v (first_of_pair z) (second_of_pair z)

pub read_back : (v : Family) (space x : ℕ) → reading v (pair space x) ≡ v space x
unfolding reading
read_back v space x = let back = pair_back space x in λ i. v (back.0 i) (back.1 i)

merged_general : (v : Family) → v 1 0 ≡ v 0 0 → v 1 1 ≡ v 0 0 → (space x : ℕ) → apply_term (reading v) (merged space x) ≡ v space x
unfolding merged
merged_general v one two zero zero = read_back v 1 0 ∙ one
merged_general v one two zero (suc x) = read_back v 0 (suc x)
merged_general v one two (suc zero) zero = read_back v 1 0
merged_general v one two (suc zero) (suc zero) = read_back v 1 0 ∙ (one ∙ sym two)
merged_general v one two (suc zero) (suc (suc x)) = read_back v 1 (suc (suc x))
merged_general v one two (suc (suc space)) x = read_back v (suc (suc space)) x

closes : IsClose (denying (p x0 x0)) wide_context 0 (1 ∷ [])
unfolding merged first_of second_of
closes = record {
  clause = record { number = 1; label = word 99; literals = literal false (p x0 x0) ∷ [] };
  family = merged;
  clause_at = refl;
  unifier = record {
    opposite = opposite_by wide_context (literal false (p x0 x0) ∷ []) (positions_of None (1 ∷ [])) merged refl ((wide_entry, wide_visible, refl), tt);
    unifier = record {
      solves = solves_by wide_context (literal false (p x0 x0) ∷ []) (positions_of None (1 ∷ [])) merged ((wide_entry, refl, refl), tt);
      most_general = λ v h.
          let same = h 0 1 (literal false (p x0 x0)) wide_entry (record { literal = refl; position = refl; stands = refl }) in
          (reading v, merged_general v (ap (λ (c : AtomValue). first_of c.args) same) (ap (λ (c : AtomValue). second_of c.args) same));
    };
  };
  no_remainder = refl;
}

some_left : (test : Bool) → cond {A = List ℕ} (test || true) (0 ∷ []) [] ≡ [] → ⊥
some_left true h = cc h
some_left false h = cc h

-- the variable that becomes a constant puts the place in the remainder
constant_stays : (u : Family) → u 1 1 ≡ a → remainder wide_context (positions_of None (1 ∷ [])) u ≡ [] → ⊥
constant_stays u same h =
    let P : TermValue → Type 0 = λ t. cond {A = List ℕ} (not (is_variable (u 1 0)) || (not (is_variable t) || false)) (0 ∷ []) [] ≡ [] in
    some_left (not (is_variable (u 1 0))) (subst P same h)

no_close : ¬ IsClose (denying (p x0 a)) wide_context 0 (1 ∷ [])
unfolding first_of second_of
no_close h =
    let P : ClauseValue → Type 0 = λ z. IsContextUnifier wide_context z.literals None (1 ∷ []) h.family in
    let unifier = subst P (sym (same_Some _ h.clause h.clause_at)) h.unifier in
    let same = unifier.unifier.solves 0 1 (literal false (p x0 a)) wide_entry (record { literal = refl; position = refl; stands = refl }) in
    constant_stays h.family (ap (λ (c : AtomValue). second_of c.args) same) h.no_remainder

pub merged_variables_close : MergedVariablesClose
merged_variables_close = record { merged = closes; constant = no_close }
