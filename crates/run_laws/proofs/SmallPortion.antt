-- The example's record is a portion.
use Rattle.std.proofs.Common.{◌≡◌, ◌<◌, zero, suc, inl, true, false, List, [], ◌∷◌, refl, subst, arith}
use Rattle.std.specs.List.{All}
use Rattle.branch_core.specs.Joined.{Joins, SatTakes, NoMemoryTakes, as_they_are, sat_takes, takes_later, takes_earlier, closed_closed, closed_bounded, bounded_closed, bounded_bounded, closed_sat, bounded_sat, cut_cut}
use Rattle.branch_core.specs.Paths.{Turns}
use Rattle.branch_core.specs.Pieces.{Piece, Gift, Cut}
use Rattle.branch_core.specs.Portions.{MayBeGiven, IsJoinedThrough, MayCut}
use Rattle.branch_core.specs.Replaced.{own_node, given, cut}
use Rattle.branch_core.specs.SearchTree.{Leaf, Node}
use Rattle.run_laws.specs.SmallPortion.{walked, gift, told_key, SmallPortionIsOne}

abbrev dropped : Turns
dropped = true ∷ false ∷ []

abbrev pieces : List Piece
pieces = Cut dropped told_key ∷ Gift gift ∷ []

-- nothing is joined with a gift behind it
pub no_gift_joins : {first second one : Piece} (other : Turns) → Joins first second one → second ≡ Gift other → ⊥
no_gift_joins other closed_closed e = cc
no_gift_joins other closed_bounded e = cc
no_gift_joins other bounded_closed e = cc
no_gift_joins other bounded_bounded e = cc
no_gift_joins other closed_sat e = cc
no_gift_joins other bounded_sat e = cc
no_gift_joins other (sat_takes t) e = subst SatTakes e t
no_gift_joins other (takes_later t) e = subst NoMemoryTakes e t
no_gift_joins other (takes_earlier t) e = cc
no_gift_joins other cut_cut e = cc

none_joins : IsJoinedThrough pieces
none_joins [] after first second e h = let is_gift : second ≡ Gift gift = cc in no_gift_joins gift h.1 is_gift
none_joins (p ∷ []) after first second e h = absurd cc
none_joins (p ∷ q ∷ []) after first second e h = absurd cc
none_joins (p ∷ q ∷ r ∷ before) after first second e h = absurd cc

lawful : All (MayBeGiven 2 walked) (gift ∷ [])
lawful zero d lt = record { below = (true, [], refl); right = (true ∷ [], refl); few = omega arith; beside_left = (0, refl) }
lawful (suc k) d lt = absurd (omega (arith, lt))

may_cut : MayCut (told_key ∷ []) pieces told_key dropped
may_cut = inl ((0, refl), less)
  where
    less : 0 < 32768
    less = omega arith

pub small_portion : SmallPortionIsOne
small_portion list_bound context first second = record {
  pieces = pieces;
  record_is = refl;
  stands = record {
    own = Node (Leaf first) (Leaf second);
    leaves = pieces;
    at_path = refl;
    replaced = own_node (cut may_cut) given;
    joined = as_they_are;
  };
  joined_through = none_joins;
  gifts_are = refl;
  lawful = lawful;
  posted_are = refl;
  one_sat = omega arith;
}
