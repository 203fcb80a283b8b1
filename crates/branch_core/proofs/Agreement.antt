-- What the pieces of whole records add up to agrees with the outcome of the tree.
use Rattle.std.proofs.Common.{◌≡◌, ℕ, true, false, List, [], ◌∷◌, ◌++◌, Some, None, refl, sym, subst, ap, ◌∙◌}
use Rattle.me_terms.specs.Outcome.{TreeOutcome, Closed, Sat, Met, both}
use Rattle.branch_core.specs.Paths.{Turns}
use Rattle.branch_core.specs.SearchTree.{SearchTree, Leaf, Node, outcome_of, subtree, ListsOnce, LeavesListOnce}
use Rattle.branch_core.specs.Pieces.{Piece, leaf_piece, go_left, go_right}
use Rattle.branch_core.specs.Replaced.{Replaced, own_leaf, own_node, given, cut, no_memory}
use Rattle.branch_core.specs.Joined.{SatTakes, NoMemoryTakes, Joins, closed_closed, closed_bounded, bounded_closed, bounded_bounded, closed_sat, bounded_sat, sat_takes, takes_later, takes_earlier, cut_cut, Joined, as_they_are, join}
use Rattle.branch_core.specs.Pieces as piece
use Rattle.branch_core.proofs.Values.{Value, none_yet, plus, Once, once_plus, plus-assoc, none-plus, plus-none, PieceOnce, PiecesOnce, once-append}

-- A value is this outcome, if it is one.
abbrev pub Agrees : Value → TreeOutcome → Type 0
Agrees None outcome = Unit {0}
Agrees (Some r) outcome = r ≡ outcome

agrees_plus : (v w : Value) (r s : TreeOutcome) → Agrees v r → Agrees w s → Agrees (plus v w) (both r s)
agrees_plus None w r s g h = tt
agrees_plus (Some (Sat context)) w r s g h = ap (λ (z : TreeOutcome). both z s) g
agrees_plus (Some (Closed list)) None r s g h = tt
agrees_plus (Some (Closed list)) (Some t) r s g h = λ i. both (g i) (h i)
agrees_plus (Some (Met b)) None r s g h = tt
agrees_plus (Some (Met b)) (Some t) r s g h = λ i. both (g i) (h i)

some_same : {A : Type 0} (x y : A) → Some x ≡ Some y → x ≡ y
some_same x y e = cc

-- ---- the tree
subtree-snoc : (search : SearchTree) (turns : Turns) (left right : SearchTree) → subtree search turns ≡ Some (Node left right) → (subtree search (go_left turns) ≡ Some left) × (subtree search (go_right turns) ≡ Some right)
subtree-snoc search [] left right h =
    let same : search ≡ Node left right = some_same search (Node left right) h in
    (ap (λ (z : SearchTree). subtree z (false ∷ [])) same, ap (λ (z : SearchTree). subtree z (true ∷ [])) same)
subtree-snoc (Leaf outcome) (turn ∷ turns) left right h = cc
subtree-snoc (Node a b) (false ∷ turns) left right h = subtree-snoc a turns left right h
subtree-snoc (Node a b) (true ∷ turns) left right h = subtree-snoc b turns left right h

module _ (whole : SearchTree) where
  -- A value for the gift at these turns that has its list once, and agrees with the subtree there.
  abbrev pub GiftValue : Turns → Value → Type 0
  GiftValue turns v = Once v × ((search : SearchTree) → subtree whole turns ≡ Some search → Agrees v (outcome_of search))

  abbrev pub PieceValue : Piece → Value → Type 0
  PieceValue (piece.Closed list) v = v ≡ Some (Closed list)
  PieceValue (piece.Bounded b) v = v ≡ Some (Met b)
  PieceValue (piece.Sat turns context) v = v ≡ Some (Sat context)
  PieceValue (piece.Gift turns) v = GiftValue turns v
  PieceValue (piece.Cut turns key) v = v ≡ None
  PieceValue piece.NoMemory v = v ≡ None

  abbrev pub Sums : List Piece → Value → Type 0
  Sums [] v = v ≡ none_yet
  Sums (p ∷ ps) v = (w : Value) × (rest : Value) × PieceValue p w × Sums ps rest × (v ≡ plus w rest)

  pub sums_once : (ps : List Piece) (v : Value) → PiecesOnce ps → Sums ps v → Once v
  sums_once [] v g h = subst Once (sym h) refl
  sums_once (p ∷ ps) v g h = subst Once (sym h.4) (once_plus h.0 h.1 (sums_once ps h.1 g.1 h.3) (piece_once p h.0 g.0 h.2))
    where
      piece_once : (p : Piece) (w : Value) → PieceOnce p → PieceValue p w → Once w
      piece_once (piece.Closed list) w g h = subst Once (sym h) g
      piece_once (piece.Bounded b) w g h = subst Once (sym h) tt
      piece_once (piece.Sat turns context) w g h = subst Once (sym h) tt
      piece_once (piece.Gift turns) w g h = h.0
      piece_once (piece.Cut turns key) w g h = subst Once (sym h) tt
      piece_once piece.NoMemory w g h = subst Once (sym h) tt

  sums_append : (ps qs : List Piece) (v : Value) → PiecesOnce qs → Sums (ps ++ qs) v → (a : Value) × (b : Value) × Sums ps a × Sums qs b × (v ≡ plus a b)
  sums_append [] qs v g h = (none_yet, v, refl, h, sym (none-plus v (sums_once qs v g h)))
  sums_append (p ∷ ps) qs v g h =
      let later = sums_append ps qs h.1 g h.3 in
      (plus h.0 later.0, later.1, (h.0, later.0, h.2, later.2, refl), later.3, h.4 ∙ (ap (plus h.0) later.4 ∙ sym (plus-assoc h.0 later.0 later.1)))

  -- ---- joining keeps the sum
  sat_later : (p : Piece) → SatTakes p → (w : Value) × PieceValue p w
  sat_later (piece.Closed list) h = (Some (Closed list), refl)
  sat_later (piece.Bounded b) h = (Some (Met b), refl)
  sat_later (piece.Sat turns context) h = (Some (Sat context), refl)
  sat_later (piece.Gift turns) h = absurd h
  sat_later (piece.Cut turns key) h = (None, refl)
  sat_later piece.NoMemory h = (None, refl)

  memory_near : (p : Piece) → NoMemoryTakes p → (w : Value) × PieceValue p w × (plus w None ≡ None)
  memory_near (piece.Closed list) h = (Some (Closed list), refl, refl)
  memory_near (piece.Bounded b) h = (Some (Met b), refl, refl)
  memory_near (piece.Sat turns context) h = absurd h
  memory_near (piece.Gift turns) h = absurd h
  memory_near (piece.Cut turns key) h = (None, refl, refl)
  memory_near piece.NoMemory h = (None, refl, refl)

  -- the values of two pieces that were joined to a piece of this value
  joins_values : {p q one : Piece} → Joins p q one → (w : Value) → PieceValue one w → (a : Value) × (b : Value) × PieceValue p a × PieceValue q b × (w ≡ plus a b)
  joins_values (closed_closed {list = list} {more = more}) w h = (Some (Closed list), Some (Closed more), refl, refl, h)
  joins_values (closed_bounded {list = list} {b = b}) w h = (Some (Closed list), Some (Met b), refl, refl, h)
  joins_values (bounded_closed {b = b} {list = list}) w h = (Some (Met b), Some (Closed list), refl, refl, h)
  joins_values (bounded_bounded {b = b} {c = c}) w h = (Some (Met b), Some (Met c), refl, refl, h)
  joins_values (closed_sat {list = list} {context = context}) w h = (Some (Closed list), Some (Sat context), refl, refl, h)
  joins_values (bounded_sat {b = b} {context = context}) w h = (Some (Met b), Some (Sat context), refl, refl, h)
  joins_values (sat_takes {context = context} {later = later} takes) w h =
      let x = sat_later later takes in (Some (Sat context), x.0, refl, x.1, h)
  joins_values (takes_later {later = later} takes) w h =
      let x = memory_near later takes in (None, x.0, refl, x.1, h)
  joins_values (takes_earlier {earlier = earlier} takes) w h =
      let x = memory_near earlier takes in (x.0, None, x.1, refl, h ∙ sym x.2)
  joins_values (cut_cut {turns = turns}) w h = (None, None, refl, refl, h)

  joins_sums : (before after : List Piece) (p q one : Piece) (v : Value) → Joins p q one → Sums (before ++ one ∷ after) v → Sums (before ++ p ∷ q ∷ after) v
  joins_sums [] after p q one v j h =
      let x = joins_values j h.0 h.2 in
      (x.0, plus x.1 h.1, x.2, (x.1, h.1, x.3, h.3, refl), h.4 ∙ (ap (λ (z : Value). plus z h.1) x.4 ∙ plus-assoc x.0 x.1 h.1))
  joins_sums (b ∷ before) after p q one v j h = (h.0, h.1, h.2, joins_sums before after p q one h.1 j h.3, h.4)

  pub joined_sums : {ps qs : List Piece} → Joined ps qs → (v : Value) → Sums qs v → Sums ps v
  joined_sums as_they_are v h = h
  joined_sums (join before after others first second one j later) v h = joins_sums before after first second one v j (joined_sums later v h)

  -- ---- replacing keeps agreement
  leaf_agrees : (turns : Turns) (outcome : TreeOutcome) (v : Value) → ListsOnce outcome → Sums (leaf_piece turns outcome ∷ []) v → Agrees v outcome
  leaf_agrees turns (Closed list) v once h =
      let e : v ≡ Some (Closed list) = h.4 ∙ ((λ i. plus (h.2 i) (h.3 i)) ∙ plus-none (Some (Closed list)) once) in
      subst (λ (z : Value). Agrees z (Closed list)) (sym e) refl
  leaf_agrees turns (Sat context) v once h =
      let e : v ≡ Some (Sat context) = h.4 ∙ (λ i. plus (h.2 i) (h.3 i)) in
      subst (λ (z : Value). Agrees z (Sat context)) (sym e) refl
  leaf_agrees turns (Met b) v once h =
      let e : v ≡ Some (Met b) = h.4 ∙ (λ i. plus (h.2 i) (h.3 i)) in
      subst (λ (z : Value). Agrees z (Met b)) (sym e) refl

  lost_agrees : (v w rest : Value) (outcome : TreeOutcome) → v ≡ plus w rest → w ≡ None → Agrees v outcome
  lost_agrees v w rest outcome e h =
      let lost : v ≡ None = e ∙ ap (λ (z : Value). plus z rest) h in
      subst (λ (z : Value). Agrees z outcome) (sym lost) tt

  pub replaced_once : {MayCut : ℕ → Turns → Type 0} {turns : Turns} {search : SearchTree} {ps : List Piece} → Replaced MayCut turns search ps → LeavesListOnce search → PiecesOnce ps
  replaced_once (own_leaf {turns = turns} {outcome = outcome}) h = (leaf_once turns outcome h, tt)
    where
      leaf_once : (turns : Turns) (outcome : TreeOutcome) → ListsOnce outcome → PieceOnce (leaf_piece turns outcome)
      leaf_once turns (Closed list) h = h
      leaf_once turns (Sat context) h = tt
      leaf_once turns (Met b) h = tt
  replaced_once (own_node {before = before} {after = after} f g) h = once-append before after (replaced_once f h.0) (replaced_once g h.1)
  replaced_once given h = (tt, tt)
  replaced_once (cut m) h = (tt, tt)
  replaced_once no_memory h = (tt, tt)

  pub replaced_agrees : {MayCut : ℕ → Turns → Type 0} {turns : Turns} {search : SearchTree} {ps : List Piece} → Replaced MayCut turns search ps → LeavesListOnce search → subtree whole turns ≡ Some search → (v : Value) → Sums ps v → Agrees v (outcome_of search)
  replaced_agrees (own_leaf {turns = turns} {outcome = outcome}) once at v h = leaf_agrees turns outcome v once h
  replaced_agrees (own_node {turns = turns} {left = left} {right = right} {before = before} {after = after} f g) once at v h =
      let down = subtree-snoc whole turns left right at in
      let x = sums_append before after v (replaced_once g once.1) h in
      let here = agrees_plus x.0 x.1 (outcome_of left) (outcome_of right) (replaced_agrees f once.0 down.0 x.0 x.2) (replaced_agrees g once.1 down.1 x.1 x.3) in
      subst (λ (z : Value). Agrees z (both (outcome_of left) (outcome_of right))) (sym x.4) here
  replaced_agrees (given {turns = turns} {search = search}) once at v h =
      let e : v ≡ h.0 = h.4 ∙ (ap (plus h.0) h.3 ∙ plus-none h.0 h.2.0) in
      subst (λ (z : Value). Agrees z (outcome_of search)) (sym e) (h.2.1 search at)
  replaced_agrees (cut {search = search} m) once at v h = lost_agrees v h.0 h.1 (outcome_of search) h.4 h.2
  replaced_agrees (no_memory {search = search}) once at v h = lost_agrees v h.0 h.1 (outcome_of search) h.4 h.2
