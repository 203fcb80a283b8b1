-- What a walk of a context's tree does: to the hook, to the tally, and what its pieces stand for.
use Rattle.std.specs.Prelude.{◌≡◌, ◌<◌, ◌≤◌, ℕ, Bool, true, false, List, [], ◌∷◌, ◌++◌, length, reverse}
use Rattle.std.specs.List.{All}
use Rattle.me_terms.specs.Values.{ProblemValue, EntryValue}
use Rattle.me_terms.specs.Context.{Context, add}
use Rattle.me_terms.specs.Grown.{IsGrown, left_of}
use Rattle.me_terms.specs.Next.{IsNext}
use Rattle.me_terms.specs.Next as step
use Rattle.me_terms.specs.Outcome.{TreeOutcome}
use Rattle.me_terms.specs.declared.bounds.Bounds.{Bounds}
use Rattle.me_terms.specs.declared.entry.Kind.{Kind}
use Rattle.me_terms.specs.declared.atom.Literal.{Literal}
use Rattle.branch_core.specs.Hooks.{ExtendsBy, History}
use Rattle.branch_core.specs.Paths.{Turns, key, IsLeftOf}
use Rattle.branch_core.specs.Pieces.{Piece, Sat, leaf_piece}
use Rattle.branch_core.specs.Replaced.{Replaced}
use Rattle.branch_core.specs.SearchTree.{SearchTree, Leaf, IsSearchTree}
use Rattle.branch_core.specs.Whole.{IsIn}
use Rattle.branch_walk.specs.Jobs.{turns_taken}
use Rattle.branch_core.specs.Portions.{MayBeGiven, gifts, sat_key_of, sat_keys, MayCut}
use Rattle.branch_walk.specs.Tallies.{IsTally, TakesOwnLeaf, TakesCut, TakesLoss, IsSated}
use Rattle.branch_walk.specs.declared.tally.Tally.{Tally}
use Rattle.branch_walk.specs.declared.state.State.{State}
use Rattle.branch_walk.specs.declared.state.State.TheVariants.{Going, Cutting, Lost}
use Rattle.branch_walk.specs.declared.state.Visit.{Visit}
use Rattle.branch_walk.specs.declared.state.Visit.TheVariants as visit

-- The tally takes in what follows in this state.
abbrev pub IsReady : State → Tally → Type 0
IsReady Going tally = TakesOwnLeaf tally
IsReady (Cutting cut_key) tally = TakesCut cut_key tally
IsReady Lost tally = TakesLoss tally

-- In this state: no leaf was exhausted; or the key may cut all that stands right of the turns; or memory is out.
abbrev pub GoesOn : State → List ℕ → List Piece → Turns → Type 0
GoesOn Going told pieces turns = sat_keys pieces ≡ []
GoesOn (Cutting cut_key) told pieces turns = (other : Turns) → IsLeftOf turns other → MayCut told pieces cut_key other
GoesOn Lost told pieces turns = Unit {0}

-- The tree of the context was walked and ended in this state. Its pieces came to the tally, and say what was given away and posted.
pub record IsWalked (problem : ProblemValue) (bounds : Bounds) (share : ℕ) (context : Context) (state : State) (history now_history : History) (old new : Tally) : Type 0 where
  pub own : SearchTree
  pub tree : IsSearchTree problem bounds context own
  pub more : List Piece
  pub gave : List Turns
  pub told : List ℕ
  pub sent : List ℕ
  pub extends : ExtendsBy history now_history gave told sent
  pub replaced : Replaced (MayCut told more) (turns_taken context) own more
  pub gifts_are : gave ≡ reverse (gifts more)
  pub lawful : All (MayBeGiven share (turns_taken context)) gave
  pub sent_is : sent ≡ sat_keys more
  pub one_sat : length sent ≤ 1
  pub goes_on : GoesOn state told more (turns_taken context)
  pub tally : (before : List Piece) → IsTally bounds.list old before → IsTally bounds.list new (before ++ more)

-- A leaf that is not exhausted came to the tally.
pub record HasLeaf (problem : ProblemValue) (bounds : Bounds) (context : Context) (old new : Tally) : Type 0 where
  pub outcome : TreeOutcome
  pub tree : IsSearchTree problem bounds context (Leaf outcome)
  pub no_sat : sat_key_of (leaf_piece (turns_taken context) outcome) ≡ []
  pub is_open : TakesOwnLeaf new
  pub tally : (before : List Piece) → IsTally bounds.list old before → IsTally bounds.list new (before ++ leaf_piece (turns_taken context) outcome ∷ [])

-- An exhausted leaf came to the tally.
pub record HasSat (problem : ProblemValue) (bounds : Bounds) (context : Context) (cut_key : ℕ) (old new : Tally) : Type 0 where
  pub next : IsNext problem bounds context step.Exhausted
  pub key_is : cut_key ≡ key (turns_taken context)
  pub sated : IsSated new
  pub tally : (before : List Piece) → IsTally bounds.list old before → IsTally bounds.list new (before ++ Sat (turns_taken context) context ∷ [])

-- What a visit of a node did, where these keys were told and posted: the branch has the entry of an Assert or of the left branch of a Split more; or a leaf came to the tally; or nothing did, since a smaller key was told, or memory is out.
abbrev pub IsVisited : ProblemValue → Bounds → Context → Context → Tally → Tally → List ℕ → List ℕ → Visit → Type 0
IsVisited problem bounds from to old new told sent visit.Asserted =
    (e : EntryValue) × IsNext problem bounds from (step.Assert e) × (to ≡ add from e) × (new ≡ old) × (sent ≡ [])
IsVisited problem bounds from to old new told sent visit.Left =
    (l : Literal) × (kind : Kind) × IsNext problem bounds from (step.Split l kind) × (to ≡ left_of from l kind) × (new ≡ old) × (sent ≡ [])
IsVisited problem bounds from to old new told sent visit.Leaf = HasLeaf problem bounds from old new × (to ≡ from) × (sent ≡ [])
IsVisited problem bounds from to old new told sent (visit.Exhausted cut_key) =
    HasSat problem bounds from cut_key old new × (to ≡ from) × (sent ≡ cut_key ∷ [])
IsVisited problem bounds from to old new told sent (visit.Cut cut_key) =
    IsIn cut_key told × (cut_key < key (turns_taken from)) × (new ≡ old) × (sent ≡ [])
IsVisited problem bounds from to old new told sent visit.Lost = (new ≡ old) × (sent ≡ [])

-- The node is reached from the context by Asserts: both have the same tree and turns.
pub record LeadsTo (problem : ProblemValue) (bounds : Bounds) (context node : Context) : Type 0 where
  pub grown : IsGrown problem bounds node
  pub turns : turns_taken node ≡ turns_taken context
  pub tree : (own : SearchTree) → IsSearchTree problem bounds node own → IsSearchTree problem bounds context own

-- The context is that of the left branch of a Split at the node.
pub record IsLeftOfSplit (problem : ProblemValue) (bounds : Bounds) (node context : Context) : Type 0 where
  pub l : Literal
  pub kind : Kind
  pub next : IsNext problem bounds node (step.Split l kind)
  pub is : context ≡ left_of node l kind

-- The path is that of the right branch beside the left branch that ends the context.
pub record IsBeside (problem : ProblemValue) (bounds : Bounds) (right : Turns) (context : Context) : Type 0 where
  pub node : Context
  pub grown : IsGrown problem bounds node
  pub split : IsLeftOfSplit problem bounds node context
  pub right_is : right ≡ turns_taken node ++ true ∷ []

-- What is given away where a child goes away.
abbrev pub gift_if : Bool → Turns → List Turns
gift_if true right = right ∷ []
gift_if false right = []

-- A walk went from the node into the left branch of its Split, which begins at the base, and ended there in this state. Before that the right child went away, or did not.
pub record HasWalkedLeft (problem : ProblemValue) (bounds : Bounds) (share : ℕ) (away : Bool) (right : Turns) (base : ℕ) (state : State) (stands_at node : Context) (start now_history : History) (first now : Tally) : Type 0 where
  pub left : Context
  pub history : History
  pub grown : IsGrown problem bounds node
  pub split : IsLeftOfSplit problem bounds node left
  pub right_is : right ≡ turns_taken node ++ true ∷ []
  pub few : length right ≤ share
  pub at_base : length left ≡ base
  pub went : ExtendsBy start history (gift_if away right) [] []
  pub stands : state ≡ Going → (later : Context) × (stands_at ≡ left ++ later)
  pub walked : IsWalked problem bounds share left state history now_history first now
