-- The clauses p(X) and ~p(X), where c0 is b.
use Rattle.std.proofs.Common.{true, false, [], ◌∷◌, None, refl, ap}
use Rattle.me_terms.specs.Terms.{AtomValue}
use Rattle.me_terms.specs.Positions.{positions_of}
use Rattle.me_terms.specs.Unifier.{IsUnifier}
use Rattle.me_terms.specs.ListedInstances.{constant, IsClosingInstance, IsAskedInstance}
use Rattle.me_terms.specs.LeafList.{none_waits, adds}
use Rattle.me_laws.specs.Pairing.{apart}
use Rattle.me_laws_examples.specs.Letters.{b, x0, p_of, literal}
use Rattle.me_laws_examples.specs.SmallAnswers.{clause_of}
use Rattle.me_laws_examples.specs.QueueOrder.{instance_of}
use Rattle.me_laws_examples.specs.Sharpening.{beside, universal_p}
use Rattle.me_laws_examples.specs.LeftVariable.{p_and_not_p, LeftVariableIsRead}
use Rattle.me_laws_examples.proofs.Short.{opposite_by, solves_by, skipped_unifier}
use Rattle.me_laws_examples.proofs.MergedVariables.{reading}
use Rattle.me_laws_examples.proofs.OneVariable.{one_variable, one_variable_general, only_argument}
use Rattle.me_laws_examples.proofs.QueueOrder.{fresh}
use Rattle.me_laws_examples.proofs.SharpeningCases.{last_visible}

unifier : IsUnifier (beside universal_p) (literal false (p_of x0) ∷ []) (positions_of None (1 ∷ [])) one_variable
unfolding one_variable only_argument
unifier = record {
  solves = solves_by (beside universal_p) (literal false (p_of x0) ∷ []) (positions_of None (1 ∷ [])) one_variable ((universal_p, refl, refl), tt);
  most_general = λ v h.
      let same = h 0 1 (literal false (p_of x0)) universal_p (record { literal = refl; position = refl; stands = refl }) in
      (reading v, one_variable_general v (ap (λ (c : AtomValue). only_argument c.args) same));
}

closing : IsClosingInstance p_and_not_p (beside universal_p) 1 (1 ∷ []) (literal false (p_of b) ∷ [])
unfolding one_variable
closing = record {
  clause = clause_of (literal false (p_of x0) ∷ []);
  family = one_variable;
  clause_at = refl;
  unifier = unifier;
  is_instance = refl;
}

asked : IsAskedInstance p_and_not_p (beside universal_p) 0 0 [] (literal true (p_of b)) (literal true (p_of b) ∷ [])
asked = record {
  clause = clause_of (literal true (p_of x0) ∷ []);
  literal = literal true (p_of x0);
  family = apart;
  matching = λ x. constant 1;
  clause_at = refl;
  literal_at = refl;
  unifier = skipped_unifier (beside universal_p) (literal true (p_of x0));
  matches = refl;
  others = λ x h. refl;
  is_instance = refl;
}

pub left_variable_is_read : LeftVariableIsRead
left_variable_is_read = record {
  closes = record {
    clause = clause_of (literal false (p_of x0) ∷ []);
    family = one_variable;
    clause_at = refl;
    unifier = record {
      opposite = opposite_by (beside universal_p) (literal false (p_of x0) ∷ []) (positions_of None (1 ∷ [])) one_variable refl ((universal_p, last_visible universal_p, refl), tt);
      unifier = unifier;
    };
    no_remainder = refl;
  };
  listed = (
    literal false (p_of b) ∷ [],
    instance_of 0 (literal true (p_of b) ∷ []) ∷ [],
    closing,
    adds {d = (1, literal true (p_of b))} {place = 0} {tuple = []} (fresh [] (1, literal true (p_of b)) tt) (universal_p, refl, refl) asked none_waits,
    refl,
  );
}
