-- The example's log holds the walks of its two portions.
use Rattle.std.proofs.Common.{◌≡◌, ◌<◌, ◌≤◌, ℕ, zero, suc, inl, inr, true, List, [], ◌∷◌, Some, refl, sym, ap, arith}
use Rattle.std.specs.List.{All}
use Rattle.me_terms.specs.Context.{Context}
use Rattle.me_terms.specs.Outcome.{TreeOutcome}
use Rattle.branch_core.specs.Joined.{as_they_are}
use Rattle.branch_core.specs.Paths.{Turns, key}
use Rattle.branch_core.specs.Pieces.{Piece, Sat, Gift, Cut}
use Rattle.branch_core.specs.Portions.{MayBeGiven, IsJoinedThrough, MayCut}
use Rattle.branch_core.specs.Replaced.{own_leaf, own_node, given, cut}
use Rattle.branch_core.specs.Runs.{Offering, Posting}
use Rattle.branch_core.specs.SearchTree.{Leaf}
use Rattle.branch_core.specs.Whole.{IsIn}
use Rattle.run_laws.specs.ClosedRun.{left_child, right_child, one_split}
use Rattle.run_laws.specs.WalksInRun.{HoldsRootWalk, HoldsGiftWalk, RunHoldsWalks}
use Rattle.run_laws.proofs.Members.{none_in, only, either}
use Rattle.run_laws.proofs.SmallPortion.{no_gift_joins}

module _ (list_bound : ℕ) (context : Context) (other : TreeOutcome) where
  abbrev offering : Offering
  offering = record { parent = []; path = right_child }

  abbrev posting : Posting
  posting = record { path = []; leaf = left_child; context = context }

  -- ---- the walk of the root

  abbrev pieces : List Piece
  pieces = Sat left_child context ∷ Gift right_child ∷ []

  none_joins : IsJoinedThrough pieces
  none_joins [] after first second e h = let is_gift : second ≡ Gift right_child = cc in no_gift_joins right_child h.1 is_gift
  none_joins (p ∷ []) after first second e h = absurd cc
  none_joins (p ∷ q ∷ []) after first second e h = absurd cc
  none_joins (p ∷ q ∷ r ∷ before) after first second e h = absurd cc

  lawful : All (MayBeGiven 1 []) (right_child ∷ [])
  lawful zero d lt = record { below = (true, [], refl); right = ([], refl); few = one; beside_left = (0, refl) }
    where
      one : 1 ≤ 1
      one = omega arith
  lawful (suc k) d lt = absurd (omega (arith, lt))

  the_sat : (leaf : Turns) (more : Context) → IsIn (Sat leaf more) pieces → Sat leaf more ≡ Sat left_child context
  the_sat leaf more h = elim (either _ _ _ h) as (λ _. Sat leaf more ≡ Sat left_child context) [ inl e ↦ e | inr e ↦ absurd (no_gift e) ]
    where
      no_gift : Sat leaf more ≡ Gift right_child → ⊥
      no_gift e = cc

  posting_of : (leaf : Turns) (more : Context) → Sat leaf more ≡ Sat left_child context → record { path = []; leaf = leaf; context = more } ≡ posting
  posting_of leaf more e =
      let leaves : leaf ≡ left_child = cc in
      let contexts : more ≡ context = cc in
      λ i. record { path = []; leaf = leaves i; context = contexts i }

  root_walk : HoldsRootWalk list_bound context other
  root_walk = record {
    portion = record {
      pieces = pieces;
      record_is = refl;
      stands = record { own = one_split context other; leaves = pieces; at_path = refl; replaced = own_node own_leaf given; joined = as_they_are };
      joined_through = none_joins;
      gifts_are = refl;
      lawful = lawful;
      posted_are = refl;
      one_sat = few;
    };
    held = record {
      offered = λ gift. (λ h. (0, ap (λ (o : Offering). Some o.path) (sym (only _ offering h))), λ h. (0, ap (λ (t : Turns). Some (record { parent = []; path = t })) (sym (only _ _ h))));
      posted = λ leaf more. (λ h. (0, ap (λ (p : Posting). Some (Sat p.leaf p.context)) (sym (only _ posting h))), λ h. (0, ap (λ (p : Posting). Some p) (sym (posting_of leaf more (the_sat leaf more h)))));
      told_posted = λ k h. absurd (none_in h);
    };
  }
    where
      few : 1 ≤ 1
      few = omega arith

  -- ---- the walk of the gift

  abbrev dropped : List Piece
  dropped = Cut right_child (key left_child) ∷ []

  alone : IsJoinedThrough dropped
  alone [] after first second e h = absurd cc
  alone (p ∷ []) after first second e h = absurd cc
  alone (p ∷ q ∷ before) after first second e h = absurd cc

  may_cut : MayCut (key left_child ∷ []) dropped (key left_child) right_child
  may_cut = inl ((0, refl), less)
    where
      less : 0 < 32768
      less = omega arith

  nothing_given : All (MayBeGiven 1 right_child) []
  nothing_given k d lt = absurd (omega (arith, lt))

  elsewhere : [] ≡ right_child → ⊥
  elsewhere e = cc

  gift_walk : HoldsGiftWalk list_bound context other
  gift_walk = record {
    portion = record {
      pieces = dropped;
      record_is = refl;
      stands = record { own = Leaf other; leaves = dropped; at_path = refl; replaced = cut may_cut; joined = as_they_are };
      joined_through = alone;
      gifts_are = refl;
      lawful = nothing_given;
      posted_are = refl;
      one_sat = none;
    };
    held = record {
      offered = λ gift. (λ h. absurd (elsewhere (ap (λ (o : Offering). o.parent) (sym (only _ offering h)))), λ h. absurd (none_in h));
      posted = λ leaf more. (λ h. absurd (elsewhere (ap (λ (p : Posting). p.path) (sym (only _ posting h)))), λ h. absurd (no_sat leaf more (only _ _ h)));
      told_posted = λ k h. (posting, (0, refl), sym (only k (key left_child) h));
    };
  }
    where
      none : 0 ≤ 1
      none = omega arith

      no_sat : (leaf : Turns) (more : Context) → Sat leaf more ≡ Cut right_child (key left_child) → ⊥
      no_sat leaf more e = cc

pub run_holds_walks : RunHoldsWalks
run_holds_walks list_bound context other = (root_walk list_bound context other, gift_walk list_bound context other)
