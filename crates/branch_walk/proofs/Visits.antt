-- What a visit of a node adds to the tally.
use Rattle.std.proofs.Common.{◌≡◌, ℕ, List, [], ◌∷◌, ◌++◌, Option, append-nil, refl, sym, ap, ◌∙◌}
use Rattle.std.specs.Prelude.{option_to_list}
use Rattle.me_terms.specs.Values.{ProblemValue, InstanceValue}
use Rattle.me_terms.specs.Context.{Context}
use Rattle.me_terms.specs.Grown.{IsGrown}
use Rattle.me_terms.specs.LeafList.{IsLeafList}
use Rattle.me_terms.specs.Next.{Close, Bounded, IsNext}
use Rattle.me_terms.specs.Outcome as outcome
use Rattle.me_terms.specs.declared.bounds.Bound.{Bound}
use Rattle.me_terms.specs.declared.bounds.Bounds.{Bounds}
use Rattle.me_laws.proofs.Backed.{grown_backed}
use Rattle.me_laws_existence.proofs.Outcomes.{leaf_list}
use Rattle.branch_core.specs.Hooks.{ExtendsBy, History, after_look, after_post}
use Rattle.branch_core.specs.Paths.{Turns}
use Rattle.branch_core.specs.Pieces.{Piece}
use Rattle.branch_core.specs.Pieces as piece
use Rattle.branch_core.specs.SearchTree.{closes, is_bounded}
use Rattle.branch_walk.specs.Tallies.{IsTally, TakesOwnLeaf}
use Rattle.branch_walk.specs.Walks.{HasLeaf}
use Rattle.branch_walk.specs.declared.tally.Tally.{Tally}

pub extends_then : {a b c : History} {told sent : List ℕ} → ExtendsBy a b [] told [] → ExtendsBy b c [] [] sent → ExtendsBy a c [] told sent
extends_then {a} {b} {c} {told} {sent} f g = record {
  given_are = g.given_are ∙ (ap (λ (x : List Turns). x ++ []) f.given_are ∙ append-nil (a.given ++ []));
  told_are = g.told_are ∙ (ap (λ (x : List ℕ). x ++ []) f.told_are ∙ append-nil (a.told ++ told));
  posted_are = g.posted_are ∙ (ap (λ (x : List ℕ). x ++ sent) f.posted_are ∙ ap (λ (x : List ℕ). x ++ sent) (append-nil a.posted));
}

-- the walk asked for the least key
pub extends_look : {a b : History} (least : Option ℕ) → b ≡ after_look a least → ExtendsBy a b [] (option_to_list least) []
extends_look {a} {b} least is = record {
  given_are = ap (λ (h : History). h.given) is ∙ sym (append-nil a.given);
  told_are = ap (λ (h : History). h.told) is;
  posted_are = ap (λ (h : History). h.posted) is ∙ sym (append-nil a.posted);
}

-- the walk posted a key
pub extends_post : {a b : History} (k : ℕ) → b ≡ after_post a k → ExtendsBy a b [] [] (k ∷ [])
extends_post {a} {b} k is = record {
  given_are = ap (λ (h : History). h.given) is ∙ sym (append-nil a.given);
  told_are = ap (λ (h : History). h.told) is ∙ sym (append-nil a.told);
  posted_are = ap (λ (h : History). h.posted) is;
}

pub closed_leaf : (problem : ProblemValue) (bounds : Bounds) (context : Context) → IsGrown problem bounds context → (c : ℕ) (tuple : List ℕ) → IsNext problem bounds context (Close c tuple) → (old new : Tally) → TakesOwnLeaf new → ((leaves : List Piece) (list : List InstanceValue) → IsTally bounds.list old leaves → IsLeafList problem context c tuple list → IsTally bounds.list new (leaves ++ piece.Closed list ∷ [])) → HasLeaf problem bounds context old new
closed_leaf problem bounds context grown c tuple next old new is_open adds =
    let more = leaf_list problem bounds context (grown_backed grown) c tuple next.0 in
    record {
      outcome = outcome.Closed more.0;
      tree = closes next more.1;
      no_sat = refl;
      is_open = is_open;
      tally = λ before h. adds before more.0 h more.1;
    }

pub bounded_leaf : (problem : ProblemValue) (bounds : Bounds) (context : Context) (b : Bound) → IsNext problem bounds context (Bounded b) → (old new : Tally) → TakesOwnLeaf new → ((n : ℕ) (leaves : List Piece) → IsTally n old leaves → IsTally n new (leaves ++ piece.Bounded b ∷ [])) → HasLeaf problem bounds context old new
bounded_leaf problem bounds context b next old new is_open adds = record {
  outcome = outcome.Met b;
  tree = is_bounded next;
  no_sat = refl;
  is_open = is_open;
  tally = λ before h. adds bounds.list before h;
}
