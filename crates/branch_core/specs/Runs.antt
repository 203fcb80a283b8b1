-- Orderly runs of the core over a tree, and closed ones.
use Rattle.std.specs.Prelude.{◌≡◌, ℕ, List, [], ◌∷◌, ◌++◌, map, Some}
use Rattle.me_terms.specs.Context.{Context}
use Rattle.me_terms.specs.Outcome as outcome
use Rattle.branch_core.specs.Paths.{Turns, key, IsLeftOf}
use Rattle.branch_core.specs.Parts.{RecordValue}
use Rattle.branch_core.specs.SearchTree.{SearchTree, Leaf, Node, subtree}
use Rattle.branch_core.specs.Pieces.{Gift, Sat, go_right}
use Rattle.branch_core.specs.StandsFor.{part_of, Account, StandsFor}
use Rattle.branch_core.specs.Whole.{IsIn}
use Rattle.branch_core.specs.Core.{Actor, Offered, Held, CoreValue, first_core, Offer, Take, Post, Cut, End, IsLegal, after}

-- A path that was offered, with its parent.
pub record Offering : Type 0 where
  pub parent : Turns
  pub path : Turns

-- A key that was posted: it is that of an exhausted leaf, of a path that the poster held.
pub record Posting : Type 0 where
  pub path : Turns
  pub leaf : Turns
  pub context : Context

-- The first turns begin the second, which may be the same.
abbrev pub Begins : Turns → Turns → Type 0
Begins shorter longer = (rest : Turns) × (longer ≡ shorter ++ rest)

-- The node stands in the own region of the path: below it, and below no gift that was offered for it.
pub record IsOwnNode (offerings : List Offering) (path node : Turns) : Type 0 where
  pub below : Begins path node
  pub not_given : (gift : Turns) → IsIn (record { parent = path; path = gift }) offerings → ¬ Begins gift node

-- The path is the right child of a Split in the own region of its parent.
abbrev pub OffersRightChild : SearchTree → List Offering → Turns → Turns → Type 0
OffersRightChild search offerings parent path =
    (node : Turns) × (left : SearchTree) × (right : SearchTree) × IsOwnNode offerings parent node
    × (subtree search node ≡ Some (Node left right)) × (path ≡ go_right node)

-- The posting's leaf is an exhausted own leaf of its path.
abbrev pub PostsOwnLeaf : SearchTree → List Offering → Posting → Type 0
PostsOwnLeaf search offerings posting =
    IsOwnNode offerings posting.path posting.leaf × (subtree search posting.leaf ≡ Some (Leaf (outcome.Sat posting.context)))

-- A key may cut the subtree at these turns: it was posted, for a leaf that stands left of it.
abbrev pub IsPosted : List Posting → ℕ → Turns → Type 0
IsPosted postings cut_key turns = (posting : Posting) × IsIn posting postings × (key posting.leaf ≡ cut_key) × IsLeftOf posting.leaf turns

-- What the pieces of an End keep to: they stand for the path, with Cuts by keys that were posted before; they have exactly the gifts that were offered for it, and the Sat of each key that was posted for it.
pub record EndsOrderly (search : SearchTree) (offerings : List Offering) (postings : List Posting) (account : Account) : Type 0 where
  pub stands : StandsFor (IsPosted postings) search account
  pub gifts_offered : (gift : Turns) → IsIn (Gift gift) account.pieces → IsIn (record { parent = account.path; path = gift }) offerings
  pub offered_given : (gift : Turns) → IsIn (record { parent = account.path; path = gift }) offerings → IsIn (Gift gift) account.pieces
  pub posted_found : (posting : Posting) → IsIn posting postings → posting.path ≡ account.path → IsIn (Sat posting.leaf posting.context) account.pieces

-- What was taken, offered, posted and ended in a run, in order.
pub record Log : Type 0 where
  pub taken : List Turns
  pub offerings : List Offering
  pub postings : List Posting
  pub accounts : List Account

-- The log before any event.
abbrev pub no_log : Log
no_log = record { taken = []; offerings = []; postings = []; accounts = [] }

-- An orderly run that leads to a core, with its log.
pub data IsOrderly (list_bound share : ℕ) (search : SearchTree) : CoreValue → Log → Type 0 where
  begins : IsOrderly list_bound share search (first_core share) no_log
  offers : {core : CoreValue} {log : Log} (by : Actor) (parent path : Turns) → IsOrderly list_bound share search core log → IsLegal core (Offer by parent path) → OffersRightChild search log.offerings parent path → IsOrderly list_bound share search (after core (Offer by parent path)) (record log { offerings = log.offerings ++ record { parent = parent; path = path } ∷ [] })
  takes : {core : CoreValue} {log : Log} (by : Actor) (path : Turns) → IsOrderly list_bound share search core log → IsLegal core (Take by path) → IsOrderly list_bound share search (after core (Take by path)) (record log { taken = log.taken ++ path ∷ [] })
  posts : {core : CoreValue} {log : Log} (by : Actor) (posting : Posting) → IsOrderly list_bound share search core log → core.states posting.path ≡ Held by → PostsOwnLeaf search log.offerings posting → IsOrderly list_bound share search (after core (Post by (key posting.leaf))) (record log { postings = log.postings ++ posting ∷ [] })
  cuts : {core : CoreValue} {log : Log} (by : Actor) (node : Turns) (least : ℕ) → IsOrderly list_bound share search core log → IsLegal core (Cut by node least) → IsOrderly list_bound share search (after core (Cut by node least)) log
  ends : {core : CoreValue} {log : Log} (by : Actor) (account : Account) → IsOrderly list_bound share search core log → IsLegal core (End by account.path (map (part_of list_bound) account.pieces)) → EndsOrderly search log.offerings log.postings account → IsOrderly list_bound share search (after core (End by account.path (map (part_of list_bound) account.pieces))) (record log { accounts = log.accounts ++ account ∷ [] })

-- No path is Offered or Held.
pub record HasNoneLeft (core : CoreValue) : Type 0 where
  pub none_offered : (path : Turns) → ¬ (core.states path ≡ Offered)
  pub none_held : (path : Turns) (by : Actor) → ¬ (core.states path ≡ Held by)

-- A closed orderly run that keeps these records.
abbrev pub KeepsClosed : ℕ → SearchTree → List RecordValue → Type 0
KeepsClosed list_bound search records =
    (share : ℕ) × (core : CoreValue) × (log : Log) × IsOrderly list_bound share search core log × HasNoneLeft core × (records ≡ core.kept)

-- The leaf is exhausted, and no exhausted leaf stands left of it.
pub record IsFirstSat (search : SearchTree) (leaf : Turns) : Type 0 where
  pub context : Context
  pub exhausted : subtree search leaf ≡ Some (Leaf (outcome.Sat context))
  pub first : (other : Turns) (more : Context) → subtree search other ≡ Some (Leaf (outcome.Sat more)) → ¬ IsLeftOf other leaf

-- A Cut at these turns replaces no exhausted leaf that has none left of it.
abbrev pub SparesFirst : SearchTree → ℕ → Turns → Type 0
SparesFirst search cut_key turns = (leaf : Turns) → IsFirstSat search leaf → ¬ Begins turns leaf
