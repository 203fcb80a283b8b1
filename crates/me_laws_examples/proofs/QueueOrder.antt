-- The clauses p, ~p|q, r and ~q|~r: in which order a leaf lists its instances.
use Rattle.std.proofs.Common.{◌≡◌, true, false, List, [], ◌∷◌, None, Some, refl, arith}
use Rattle.std.specs.List.{Contains}
use Rattle.me_terms.specs.Positions.{positions_of}
use Rattle.me_terms.specs.ListedInstances.{constant, IsClosingInstance, IsAskedInstance}
use Rattle.me_terms.specs.LeafList.{Demand, none_waits, adds}
use Rattle.me_laws.specs.Pairing.{apart}
use Rattle.me_laws.proofs.Apart.{apart_general}
use Rattle.me_laws.proofs.Lists.{EachOf, each_contains}
use Rattle.me_laws_examples.specs.Letters.{literal}
use Rattle.me_laws_examples.specs.QueueOrder.{p, q, r, clause_of, chain, p_entry, q_entry, r_entry, chained, instance_of, QueueOrder}
use Rattle.me_laws_examples.proofs.Short.{solves_by, skipped_unifier}

closing : IsClosingInstance chain chained 3 (2 ∷ 3 ∷ []) (literal false q ∷ literal false r ∷ [])
closing = record {
  clause = clause_of 4 (literal false q ∷ literal false r ∷ []);
  family = apart;
  clause_at = refl;
  unifier = apart_general chained (literal false q ∷ literal false r ∷ []) (positions_of None (2 ∷ 3 ∷ [])) (solves_by chained (literal false q ∷ literal false r ∷ []) (positions_of None (2 ∷ 3 ∷ [])) apart ((q_entry, refl, refl), ((r_entry, refl, refl), tt)));
  is_instance = refl;
}

q_asked : IsAskedInstance chain chained 1 1 (1 ∷ []) (literal true q) (literal false p ∷ literal true q ∷ [])
q_asked = record {
  clause = clause_of 2 (literal false p ∷ literal true q ∷ []);
  literal = literal true q;
  family = apart;
  matching = λ x. constant 0;
  clause_at = refl;
  literal_at = refl;
  unifier = apart_general chained (literal false p ∷ literal true q ∷ []) (positions_of (Some 1) (1 ∷ [])) (solves_by chained (literal false p ∷ literal true q ∷ []) (positions_of (Some 1) (1 ∷ [])) apart ((p_entry, refl, refl), tt));
  matches = refl;
  others = λ x h. refl;
  is_instance = refl;
}

r_asked : IsAskedInstance chain chained 2 0 [] (literal true r) (literal true r ∷ [])
r_asked = record {
  clause = clause_of 3 (literal true r ∷ []);
  literal = literal true r;
  family = apart;
  matching = λ x. constant 0;
  clause_at = refl;
  literal_at = refl;
  unifier = skipped_unifier chained (literal true r);
  matches = refl;
  others = λ x h. refl;
  is_instance = refl;
}

p_asked : IsAskedInstance chain chained 0 0 [] (literal true p) (literal true p ∷ [])
p_asked = record {
  clause = clause_of 1 (literal true p ∷ []);
  literal = literal true p;
  family = apart;
  matching = λ x. constant 0;
  clause_at = refl;
  literal_at = refl;
  unifier = skipped_unifier chained (literal true p);
  matches = refl;
  others = λ x h. refl;
  is_instance = refl;
}

-- what was asked for at other positions alone was not asked for
pub fresh : (before : List Demand) (d : Demand) → EachOf (λ (x : Demand). x.0 ≡ d.0 → ⊥) before → ¬ Contains before d
fresh before d others h = each_contains (λ (x : Demand). x.0 ≡ d.0 → ⊥) before d others h refl

pub queue_order : QueueOrder
queue_order = (
  literal false q ∷ literal false r ∷ [],
  instance_of 1 (literal false p ∷ literal true q ∷ []) ∷ instance_of 2 (literal true r ∷ []) ∷ instance_of 0 (literal true p ∷ []) ∷ [],
  closing,
  adds {d = (2, literal true q)} {place = 1} {tuple = 1 ∷ []} (fresh [] (2, literal true q) tt) (q_entry, refl, refl) q_asked
      (adds {d = (3, literal true r)} {place = 0} {tuple = []} (fresh ((2, literal true q) ∷ []) (3, literal true r) ((λ e. omega (arith, e)), tt)) (r_entry, refl, refl) r_asked
      (adds {d = (1, literal true p)} {place = 0} {tuple = []} (fresh ((3, literal true r) ∷ (2, literal true q) ∷ []) (1, literal true p) ((λ e. omega (arith, e)), ((λ e. omega (arith, e)), tt))) (p_entry, refl, refl) p_asked none_waits)),
  refl,
)
