-- Where the pieces of a path stand in the tree.
use Rattle.std.proofs.Common.{◌≡◌, ℕ, zero, suc, ◌⊎◌, inl, inr, true, false, List, [], ◌∷◌, ◌++◌, Some, refl, sym, ap, subst, ◌∙◌, append_assoc, append-nil}
use Rattle.std.proofs.lemmas.List.{append_cancel_left}
use Rattle.me_terms.specs.Context.{Context}
use Rattle.me_terms.specs.Outcome.{TreeOutcome}
use Rattle.me_terms.specs.Outcome as outcome
use Rattle.branch_core.specs.Paths.{Turns}
use Rattle.branch_core.specs.Pieces.{Piece, Closed, Bounded, Sat, Gift, Cut, NoMemory, leaf_piece, go_left, go_right}
use Rattle.branch_core.specs.Joined.{Joins, Joined, as_they_are, join, closed_closed, closed_bounded, bounded_closed, bounded_bounded, closed_sat, bounded_sat, sat_takes, takes_later, takes_earlier, cut_cut}
use Rattle.branch_core.specs.Portions.{lefts}
use Rattle.branch_core.specs.Replaced.{Replaced, own_leaf, own_node, given, cut, no_memory}
use Rattle.branch_core.specs.Runs.{Begins}
use Rattle.branch_core.specs.SearchTree.{SearchTree, Leaf, Node, subtree}
use Rattle.run_laws.proofs.Members.{Has, has_either}

-- ---- subtrees

-- there is a subtree at these turns
abbrev pub IsThere : SearchTree → Turns → Type 0
IsThere search turns = (below : SearchTree) × (subtree search turns ≡ Some below)

subtree_on : (search own : SearchTree) (turns more : Turns) → subtree search turns ≡ Some own → subtree search (turns ++ more) ≡ subtree own more
subtree_on search own [] more e = let same : search ≡ own = cc in ap (λ (s : SearchTree). subtree s more) same
subtree_on (Leaf o) own (t ∷ turns) more e = absurd cc
subtree_on (Node left right) own (false ∷ turns) more e = subtree_on left own turns more e
subtree_on (Node left right) own (true ∷ turns) more e = subtree_on right own turns more e

-- where there is a right child, there is a node
pub parent_of : (search below : SearchTree) (node : Turns) → subtree search (go_right node) ≡ Some below → (left : SearchTree) × (right : SearchTree) × (subtree search node ≡ Some (Node left right))
parent_of (Leaf o) below [] e = absurd cc
parent_of (Node left right) below [] e = (left, right, refl)
parent_of (Leaf o) below (t ∷ node) e = absurd cc
parent_of (Node left right) below (false ∷ node) e = parent_of left below node e
parent_of (Node left right) below (true ∷ node) e = parent_of right below node e

-- ---- turns that begin others

begins_more : (turns more other : Turns) → Begins (turns ++ more) other → Begins turns other
begins_more turns more other b = (more ++ b.0, b.1 ∙ append_assoc turns more b.0)

-- nothing begins with both children of a node
not_both : (turns other : Turns) → Begins (go_left turns) other → Begins (go_right turns) other → ⊥
not_both turns other left right =
    let tails : false ∷ left.0 ≡ true ∷ right.0 =
    append_cancel_left turns (false ∷ left.0) (true ∷ right.0) (sym (append_assoc turns (false ∷ []) left.0) ∙ sym left.1 ∙ right.1 ∙ append_assoc turns (true ∷ []) right.0) in cc

begins_through : (first second third : Turns) → Begins first second → Begins second third → Begins first third
begins_through first second third b c = (b.0 ++ c.0, c.1 ∙ ap (λ (t : Turns). t ++ c.0) b.1 ∙ append_assoc first b.0 c.0)

-- left turns have no turn to the right among them
no_right : (n m : ℕ) (rest : Turns) → lefts n ≡ lefts m ++ true ∷ rest → ⊥
no_right zero zero rest e = cc
no_right zero (suc m) rest e = cc
no_right (suc n) zero rest e = cc
no_right (suc n) (suc m) rest e = let tails : lefts n ≡ lefts m ++ true ∷ rest = cc in no_right n m rest tails

-- a node to which left turns alone lead is below no right child of another such
pub not_beside : (path : Turns) (n m : ℕ) → ¬ Begins (path ++ (lefts m ++ true ∷ [])) (path ++ lefts n)
not_beside path n m b =
    no_right n m b.0 (append_cancel_left path (lefts n) (lefts m ++ true ∷ b.0) (b.1 ∙ append_assoc path (lefts m ++ true ∷ []) b.0 ∙ ap (λ (t : Turns). path ++ t) (append_assoc (lefts m) (true ∷ []) b.0)))

-- ---- what stands among the pieces of a subtree

-- what a leaf's piece is
leaf_is : (turns leaf : Turns) (context : Context) (o : TreeOutcome) → Sat leaf context ≡ leaf_piece turns o → (leaf ≡ turns) × (o ≡ outcome.Sat context)
leaf_is turns leaf context (outcome.Closed list) e = absurd cc
leaf_is turns leaf context (outcome.Sat other) e = let same : context ≡ other = cc in (cc, ap (λ (c : Context). outcome.Sat c) (sym same))
leaf_is turns leaf context (outcome.Met b) e = absurd cc

no_gift_leaf : (turns gift : Turns) (o : TreeOutcome) → Gift gift ≡ leaf_piece turns o → ⊥
no_gift_leaf turns gift (outcome.Closed list) e = cc
no_gift_leaf turns gift (outcome.Sat other) e = cc
no_gift_leaf turns gift (outcome.Met b) e = cc

the_one : {x y : Piece} → Has x (y ∷ []) → x ≡ y
the_one (inl e) = e
the_one (inr none) = absurd none

-- an exhausted leaf below these turns
pub record LeafBelow (whole : SearchTree) (turns leaf : Turns) (context : Context) : Type 0 where
  pub below : Begins turns leaf
  pub at : subtree whole leaf ≡ Some (Leaf (outcome.Sat context))

-- a gift below these turns
pub record GiftBelow (whole : SearchTree) (turns gift : Turns) : Type 0 where
  pub below : Begins turns gift
  pub at : IsThere whole gift

child_there : (whole search child : SearchTree) (turns more : Turns) → subtree whole turns ≡ Some search → subtree search more ≡ Some child → subtree whole (turns ++ more) ≡ Some child
child_there whole search child turns more at e = subtree_on whole search turns more at ∙ e

module _ {MayCut : ℕ → Turns → Type 0} (whole : SearchTree) where
  pub sat_stands : {turns : Turns} {search : SearchTree} {ps : List Piece} → Replaced MayCut turns search ps → subtree whole turns ≡ Some search → (leaf : Turns) (context : Context) → Has (Sat leaf context) ps → LeafBelow whole turns leaf context
  sat_stands (own_leaf {turns = turns} {outcome = o}) at leaf context h =
      let is = leaf_is turns leaf context o (the_one h) in
      record { below = ([], is.0 ∙ sym (append-nil turns)); at = ap (subtree whole) is.0 ∙ at ∙ ap (λ (x : TreeOutcome). Some (Leaf x)) is.1 }
  sat_stands (own_node {turns = turns} {left = left} {right = right} {before = before} {after = after} first second) at leaf context h =
      elim (has_either (Sat leaf context) before after h) as (λ _. LeafBelow whole turns leaf context) [
        | inl a ↦
            let x = sat_stands first (child_there whole (Node left right) left turns (false ∷ []) at refl) leaf context a in record { below = begins_more turns (false ∷ []) leaf x.below; at = x.at }
        | inr b ↦
            let x = sat_stands second (child_there whole (Node left right) right turns (true ∷ []) at refl) leaf context b in record { below = begins_more turns (true ∷ []) leaf x.below; at = x.at }
      ]
  sat_stands (given {turns = turns}) at leaf context h = absurd (no_sat_gift (the_one h))
    where
      no_sat_gift : Sat leaf context ≡ Gift turns → ⊥
      no_sat_gift e = cc
  sat_stands (cut {turns = turns} {key = k} m) at leaf context h = absurd (no_sat_cut (the_one h))
    where
      no_sat_cut : Sat leaf context ≡ Cut turns k → ⊥
      no_sat_cut e = cc
  sat_stands no_memory at leaf context h = absurd (no_sat_lost (the_one h))
    where
      no_sat_lost : Sat leaf context ≡ NoMemory → ⊥
      no_sat_lost e = cc

  pub gift_stands : {turns : Turns} {search : SearchTree} {ps : List Piece} → Replaced MayCut turns search ps → subtree whole turns ≡ Some search → (gift : Turns) → Has (Gift gift) ps → GiftBelow whole turns gift
  gift_stands (own_leaf {turns = turns} {outcome = o}) at gift h = absurd (no_gift_leaf turns gift o (the_one h))
  gift_stands (own_node {turns = turns} {left = left} {right = right} {before = before} {after = after} first second) at gift h =
      elim (has_either (Gift gift) before after h) as (λ _. GiftBelow whole turns gift) [
        | inl a ↦
            let x = gift_stands first (child_there whole (Node left right) left turns (false ∷ []) at refl) gift a in record { below = begins_more turns (false ∷ []) gift x.below; at = x.at }
        | inr b ↦
            let x = gift_stands second (child_there whole (Node left right) right turns (true ∷ []) at refl) gift b in record { below = begins_more turns (true ∷ []) gift x.below; at = x.at }
      ]
  gift_stands (given {turns = turns} {search = search}) at gift h =
      let same : gift ≡ turns = is_gift (the_one h) in
      record { below = ([], same ∙ sym (append-nil turns)); at = (search, ap (subtree whole) same ∙ at) }
    where
      is_gift : Gift gift ≡ Gift turns → gift ≡ turns
      is_gift e = cc
  gift_stands (cut {turns = turns} {key = k} m) at gift h = absurd (no_gift_cut (the_one h))
    where
      no_gift_cut : Gift gift ≡ Cut turns k → ⊥
      no_gift_cut e = cc
  gift_stands no_memory at gift h = absurd (no_gift_lost (the_one h))
    where
      no_gift_lost : Gift gift ≡ NoMemory → ⊥
      no_gift_lost e = cc

  -- no exhausted leaf among the pieces is below a gift among them
  pub apart : {turns : Turns} {search : SearchTree} {ps : List Piece} → Replaced MayCut turns search ps → subtree whole turns ≡ Some search
      → (leaf gift : Turns) (context : Context) → Has (Sat leaf context) ps → Has (Gift gift) ps → ¬ Begins gift leaf
  apart (own_leaf {turns = turns} {outcome = o}) at leaf gift context h g b = no_gift_leaf turns gift o (the_one g)
  apart (own_node {turns = turns} {left = left} {right = right} {before = before} {after = after} first second) at leaf gift context h g b =
      let at_left = child_there whole (Node left right) left turns (false ∷ []) at refl in
      let at_right = child_there whole (Node left right) right turns (true ∷ []) at refl in
      elim (has_either (Sat leaf context) before after h) as (λ _. ⊥) [
        | inl a ↦ elim (has_either (Gift gift) before after g) as (λ _. ⊥) [
          | inl c ↦ apart first at_left leaf gift context a c b
          | inr d ↦ not_both turns leaf (sat_stands first at_left leaf context a).below (begins_through (go_right turns) gift leaf (gift_stands second at_right gift d).below b)
        ]
        | inr e ↦ elim (has_either (Gift gift) before after g) as (λ _. ⊥) [
          | inl c ↦ not_both turns leaf (begins_through (go_left turns) gift leaf (gift_stands first at_left gift c).below b) (sat_stands second at_right leaf context e).below
          | inr d ↦ apart second at_right leaf gift context e d b
        ]
      ]
  apart (given {turns = turns}) at leaf gift context h g b = no_sat_gift (the_one h)
    where
      no_sat_gift : Sat leaf context ≡ Gift turns → ⊥
      no_sat_gift e = cc
  apart (cut {turns = turns} {key = k} m) at leaf gift context h g b = no_sat_cut (the_one h)
    where
      no_sat_cut : Sat leaf context ≡ Cut turns k → ⊥
      no_sat_cut e = cc
  apart no_memory at leaf gift context h g b = no_sat_lost (the_one h)
    where
      no_sat_lost : Sat leaf context ≡ NoMemory → ⊥
      no_sat_lost e = cc

  -- what may cut at subtrees of the tree, may cut otherwise
  pub replaced_otherwise : {Other : ℕ → Turns → Type 0} → ((k : ℕ) (t : Turns) → IsThere whole t → MayCut k t → Other k t)
      → {turns : Turns} {search : SearchTree} {ps : List Piece} → Replaced MayCut turns search ps → subtree whole turns ≡ Some search → Replaced Other turns search ps
  replaced_otherwise f own_leaf at = own_leaf
  replaced_otherwise f (own_node {turns = turns} {left = left} {right = right} first second) at =
      own_node (replaced_otherwise f first (child_there whole (Node left right) left turns (false ∷ []) at refl)) (replaced_otherwise f second (child_there whole (Node left right) right turns (true ∷ []) at refl))
  replaced_otherwise f given at = given
  replaced_otherwise f (cut {turns = turns} {search = search} {key = k} m) at = cut (f k turns (search, at) m)
  replaced_otherwise f no_memory at = no_memory

-- ---- what stands among joined pieces stood among the leaves

-- an exhausted leaf or a gift
abbrev pub IsKept : Piece → Type 0
IsKept (Closed list) = ⊥
IsKept (Bounded b) = ⊥
IsKept (Sat leaf context) = Unit {0}
IsKept (Gift gift) = Unit {0}
IsKept (Cut turns k) = ⊥
IsKept NoMemory = ⊥

joins_keep : {first second one : Piece} → Joins first second one → IsKept one → (one ≡ first) ⊎ (one ≡ second)
joins_keep closed_closed h = absurd h
joins_keep closed_bounded h = absurd h
joins_keep bounded_closed h = absurd h
joins_keep bounded_bounded h = absurd h
joins_keep closed_sat h = inr refl
joins_keep bounded_sat h = inr refl
joins_keep (sat_takes t) h = inl refl
joins_keep (takes_later t) h = absurd h
joins_keep (takes_earlier t) h = absurd h
joins_keep cut_cut h = absurd h

join_keeps : (before after : List Piece) (first second one : Piece) → Joins first second one → (x : Piece) → IsKept x → Has x (before ++ one ∷ after) → Has x (before ++ first ∷ second ∷ after)
join_keeps [] after first second one j x k (inr h) = inr (inr h)
join_keeps [] after first second one j x k (inl e) =
    elim (joins_keep j (subst IsKept e k)) as (λ _. Has x (first ∷ second ∷ after)) [ inl f ↦ inl (e ∙ f) | inr s ↦ inr (inl (e ∙ s)) ]
join_keeps (b ∷ before) after first second one j x k (inl e) = inl e
join_keeps (b ∷ before) after first second one j x k (inr h) = inr (join_keeps before after first second one j x k h)

pub joined_keeps : {leaves pieces : List Piece} → Joined leaves pieces → (x : Piece) → IsKept x → Has x pieces → Has x leaves
joined_keeps as_they_are x k h = h
joined_keeps (join before after others first second one j rest) x k h = join_keeps before after first second one j x k (joined_keeps rest x k h)
