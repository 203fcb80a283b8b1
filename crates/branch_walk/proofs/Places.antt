-- A walk's place in the tree of its root: what the pieces of the tree there, and of the right branches that wait, make of those passed.
use Rattle.std.proofs.Common.{◌≡◌, ℕ, zero, suc, true, false, List, [], ◌∷◌, ◌++◌, slice_get, Some, inl, inr, append-nil, append_assoc, refl, sym, subst, ap, ◌∙◌}
use Rattle.me_terms.specs.Outcome.{TreeOutcome}
use Rattle.branch_core.proofs.Orderly.{none_in}
use Rattle.branch_core.specs.Paths.{Turns}
use Rattle.branch_core.specs.Pieces.{Piece, Sat, leaf_piece}
use Rattle.branch_core.specs.Replaced.{Replaced, own_leaf, own_node}
use Rattle.branch_core.specs.SearchTree.{SearchTree, Leaf, Node}
use Rattle.branch_core.specs.Whole.{IsIn}
use Rattle.branch_core.specs.Portions.{MayCut}

-- ---- items of lists
pub in_there : {A : Type 0} (y x : A) (xs : List A) → IsIn x xs → IsIn x (y ∷ xs)
in_there y x xs h = (suc h.0, h.1)

in_left_at : {A : Type 0} (x : A) (xs ys : List A) (k : ℕ) → slice_get xs k ≡ Some x → IsIn x (xs ++ ys)
in_left_at x [] ys k h = absurd (none_in x k h)
in_left_at x (y ∷ xs) ys zero h = (0, h)
in_left_at x (y ∷ xs) ys (suc k) h = in_there y x (xs ++ ys) (in_left_at x xs ys k h)

pub in_left : {A : Type 0} (x : A) (xs ys : List A) → IsIn x xs → IsIn x (xs ++ ys)
in_left x xs ys h = in_left_at x xs ys h.0 h.1

pub in_right : {A : Type 0} (x : A) (xs ys : List A) → IsIn x ys → IsIn x (xs ++ ys)
in_right x [] ys h = h
in_right x (y ∷ xs) ys h = in_there y x (xs ++ ys) (in_right x xs ys h)

-- ---- more keys may cut
pub may_more : (told more_told : List ℕ) (ps qs : List Piece) → ((x : ℕ) → IsIn x told → IsIn x more_told) → ((p : Piece) → IsIn p ps → IsIn p qs) → (k : ℕ) (t : Turns) → MayCut told ps k t → MayCut more_told qs k t
may_more told more_told ps qs f g k t may =
    elim may as (λ _. MayCut more_told qs k t) [
      | inl a ↦ inl (f k a.0, a.1)
      | inr b ↦ inr (b.0, b.1, g (Sat b.0 b.1) b.2, b.3, b.4)
    ]

pub may_left : (told told' : List ℕ) (ps qs : List Piece) (k : ℕ) (t : Turns) → MayCut told ps k t → MayCut (told ++ told') (ps ++ qs) k t
may_left told told' ps qs = may_more told (told ++ told') ps (ps ++ qs) (λ x h. in_left x told told' h) (λ p h. in_left p ps qs h)

pub may_right : (told told' : List ℕ) (ps qs : List Piece) (k : ℕ) (t : Turns) → MayCut told' qs k t → MayCut (told ++ told') (ps ++ qs) k t
may_right told told' ps qs = may_more told' (told ++ told') qs (ps ++ qs) (λ x h. in_right x told told' h) (λ p h. in_right p ps qs h)

-- ---- what waits
-- a right branch that was not walked yet
pub record Branch : Type 0 where
  pub turns : Turns
  pub tree : SearchTree

-- the trees of the branches are replaced by these pieces
abbrev pub AllReplaced : List ℕ → List Piece → List Branch → List Piece → Type 0
AllReplaced told pieces [] rest = rest ≡ []
AllReplaced told pieces (b ∷ bs) rest =
    (here : List Piece) × (later : List Piece)
    × Replaced (MayCut told pieces) b.turns b.tree here × AllReplaced told pieces bs later × (rest ≡ here ++ later)

-- with the pieces passed, those of the tree here and of what waits make those of the whole tree
pub record IsPlace (root : Turns) (whole : SearchTree) (turns : Turns) (own : SearchTree) (passed : List Piece) (waiting : List Branch) : Type 0 where
  pub complete : (told : List ℕ) (pieces here rest : List Piece) → Replaced (MayCut told pieces) turns own here → AllReplaced told pieces waiting rest → Replaced (MayCut told pieces) root whole (passed ++ (here ++ rest))

pub place_root : (root : Turns) (whole : SearchTree) → IsPlace root whole root whole [] []
place_root root whole = record {
  complete = λ told pieces here rest h none.
      let P : List Piece → Type 0 = λ ps. Replaced (MayCut told pieces) root whole ps in
      subst P (sym (ap (λ (ps : List Piece). here ++ ps) none ∙ append-nil here)) h;
}

pub place_at : {root turns now : Turns} {whole own : SearchTree} {passed : List Piece} {waiting : List Branch} → now ≡ turns → IsPlace root whole turns own passed waiting → IsPlace root whole now own passed waiting
place_at {root} {turns} {now} {whole} {own} {passed} {waiting} same at =
    let P : Turns → Type 0 = λ t. IsPlace root whole t own passed waiting in subst P (sym same) at

pub place_left : (root turns : Turns) (whole own left right : SearchTree) (passed : List Piece) (waiting : List Branch) → own ≡ Node left right → IsPlace root whole turns own passed waiting → IsPlace root whole (turns ++ false ∷ []) left passed (record { turns = turns ++ true ∷ []; tree = right } ∷ waiting)
place_left root turns whole own left right passed waiting is at = record {
  complete = λ told pieces here rest h more.
      let Q : SearchTree → Type 0 = λ s. Replaced (MayCut told pieces) turns s (here ++ more.0) in
      let node = subst Q (sym is) (own_node h more.2) in
      let all = at.complete told pieces (here ++ more.0) more.1 node more.3 in
      let P : List Piece → Type 0 = λ ps. Replaced (MayCut told pieces) root whole (passed ++ ps) in
      subst P (append_assoc here more.0 more.1 ∙ ap (λ (ps : List Piece). here ++ ps) (sym more.4)) all;
}

pub place_right : (root turns : Turns) (whole own : SearchTree) (passed : List Piece) (outcome : TreeOutcome) (b : Branch) (waiting : List Branch) → own ≡ Leaf outcome → IsPlace root whole turns own passed (b ∷ waiting) → IsPlace root whole b.turns b.tree (passed ++ leaf_piece turns outcome ∷ []) waiting
place_right root turns whole own passed outcome b waiting is at = record {
  complete = λ told pieces here rest h more.
      let leaf : List Piece = leaf_piece turns outcome ∷ [] in
      let Q : SearchTree → Type 0 = λ s. Replaced (MayCut told pieces) turns s leaf in
      let all = at.complete told pieces leaf (here ++ rest) (subst Q (sym is) own_leaf) (here, rest, h, more, refl) in
      let P : List Piece → Type 0 = λ ps. Replaced (MayCut told pieces) root whole ps in
      subst P (sym (append_assoc passed leaf (here ++ rest))) all;
}
