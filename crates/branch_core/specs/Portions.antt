-- Portions: what a walk of a path may give away, and what it hands back.
use Rattle.std.specs.Prelude.{◌≡◌, ◌⊎◌, ◌<◌, ◌≤◌, ℕ, zero, suc, true, false, List, [], ◌∷◌, ◌++◌, length, reverse}
use Rattle.std.specs.List.{All, flat_map}
use Rattle.me_terms.specs.Values.{ProblemValue}
use Rattle.me_terms.specs.Context.{Context}
use Rattle.me_terms.specs.Grown.{start}
use Rattle.me_terms.specs.declared.bounds.Bounds.{Bounds}
use Rattle.branch_core.specs.Hooks.{History, ExtendsBy}
use Rattle.branch_core.specs.Joined.{Joins}
use Rattle.branch_core.specs.Core.{EndsRight}
use Rattle.branch_core.specs.Paths.{Turns, key, IsLeftOf, ProperlyBegins}
use Rattle.branch_core.specs.Parts.{RecordValue}
use Rattle.branch_core.specs.Pieces.{Piece, Closed, Bounded, Sat, Gift, Cut, NoMemory}
use Rattle.branch_core.specs.SearchTree.{SearchTree, IsSearchTree}
use Rattle.branch_core.specs.StandsFor.{record_of, StandsFor}
use Rattle.branch_core.specs.Whole.{IsIn}

-- So many turns to the left.
abbrev pub lefts : ℕ → Turns
lefts zero = []
lefts (suc n) = false ∷ lefts n

-- What a walk of the path may give away: the right child of a node to which left turns alone lead from the path, of at most `share` turns.
pub record MayBeGiven (share : ℕ) (path gift : Turns) : Type 0 where
  pub below : ProperlyBegins path gift
  pub right : EndsRight gift
  pub few : length gift ≤ share
  pub beside_left : (n : ℕ) × (gift ≡ path ++ (lefts n ++ true ∷ []))

-- Whatever a walk of the path may give away is taken, with each work that can be walked there and names it.
pub record TakesGifts {J : Type 0} (share : ℕ) (path : Turns) (path_of : J → Turns) (is_job may_give : Turns → J → Type 0) : Type 0 where
  pub takes : (gift : Turns) (work : J) → MayBeGiven share path gift → is_job gift work → path_of work ≡ gift → may_give gift work

-- The path that a Gift names. Other pieces name none.
abbrev pub gift_of : Piece → List Turns
gift_of (Closed list) = []
gift_of (Bounded b) = []
gift_of (Sat leaf context) = []
gift_of (Gift gift) = gift ∷ []
gift_of (Cut turns k) = []
gift_of NoMemory = []

-- The key of the exhausted leaf of a Sat. Other pieces have none.
abbrev pub sat_key_of : Piece → List ℕ
sat_key_of (Closed list) = []
sat_key_of (Bounded b) = []
sat_key_of (Sat leaf context) = key leaf ∷ []
sat_key_of (Gift gift) = []
sat_key_of (Cut turns k) = []
sat_key_of NoMemory = []

-- The gifts among pieces, from left to right.
abbrev pub gifts : List Piece → List Turns
gifts pieces = flat_map gift_of pieces

-- The keys of the exhausted leaves among pieces, from left to right.
abbrev pub sat_keys : List Piece → List ℕ
sat_keys pieces = flat_map sat_key_of pieces

-- A key may cut the subtree at these turns: it was told, and is smaller than the key of the node there; or it is that of an exhausted leaf to the left, whose Sat is one of the pieces.
abbrev pub MayCut : List ℕ → List Piece → ℕ → Turns → Type 0
MayCut told pieces cut_key turns =
    (IsIn cut_key told × (cut_key < key turns))
    ⊎ ((leaf : Turns) × (context : Context) × IsIn (Sat leaf context) pieces × (key leaf ≡ cut_key) × IsLeftOf leaf turns)

-- Two neighbours can be joined: there is a piece to which they are.
abbrev pub CanJoin : Piece → Piece → Type 0
CanJoin first second = (one : Piece) × Joins first second one

-- Nothing is left to be joined: no two neighbours among the pieces can be.
abbrev pub IsJoinedThrough : List Piece → Type 0
IsJoinedThrough pieces = (before after : List Piece) (first second : Piece) → pieces ≡ before ++ first ∷ second ∷ after → ¬ CanJoin first second

-- The record stands for the path, over the tree of the whole search, and its neighbours are joined wherever they can be. Its Cuts have keys that were told, or that of its own Sat. Its gifts are those that were given away, each a right child below the path; the deepest stands first, and was given away last. What was posted is the key of its Sat, of which it has at most one.
pub record IsPortion (list_bound share : ℕ) (search : SearchTree) (path : Turns) (told : List ℕ) (given : List Turns) (posted : List ℕ) (record' : RecordValue) : Type 0 where
  pub pieces : List Piece
  pub record_is : record' ≡ record_of list_bound (record { path = path; pieces = pieces })
  pub stands : StandsFor (MayCut told pieces) search (record { path = path; pieces = pieces })
  pub joined_through : IsJoinedThrough pieces
  pub gifts_are : given ≡ reverse (gifts pieces)
  pub lawful : All (MayBeGiven share path) given
  pub posted_are : posted ≡ sat_keys pieces
  pub one_sat : length posted ≤ 1

-- A walk of the path handed the record back. With what the walk gave away, was told and posted, by which the new history extends the old one, it is a portion of the problem's tree within the bounds.
pub record HandsBackPortion (problem : ProblemValue) (bounds : Bounds) (share : ℕ) (path : Turns) (old new : History) (record' : RecordValue) : Type 0 where
  pub given : List Turns
  pub told : List ℕ
  pub posted : List ℕ
  pub extends : ExtendsBy old new given told posted
  pub portion : (search : SearchTree) → IsSearchTree problem bounds (start bounds.start) search → IsPortion bounds.list share search path told given posted record'
