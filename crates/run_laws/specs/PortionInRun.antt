-- The portion of a walk keeps to an orderly run.
use Rattle.std.specs.Prelude.{◌≡◌, ◌↔◌, ℕ, List}
use Rattle.me_terms.specs.Context.{Context}
use Rattle.branch_core.specs.Core.{CoreValue}
use Rattle.branch_core.specs.Parts.{RecordValue}
use Rattle.branch_core.specs.Paths.{Turns, key}
use Rattle.branch_core.specs.Pieces.{Piece, Sat}
use Rattle.branch_core.specs.Portions.{IsPortion, sat_keys}
use Rattle.branch_core.specs.Runs.{Offering, Posting, Log, OffersRightChild, PostsOwnLeaf, EndsOrderly, IsOrderly}
use Rattle.branch_core.specs.SearchTree.{SearchTree}
use Rattle.branch_core.specs.StandsFor.{Account, record_of}
use Rattle.branch_core.specs.Whole.{IsIn}

-- What was offered for the path is among its gifts.
abbrev pub OffersOnly : (path : Turns) (given : List Turns) → List Offering → Type 0
OffersOnly path given offerings = (gift : Turns) → IsIn (record { parent = path; path = gift }) offerings → IsIn gift given

-- The log holds the walk of a path: for it the gifts were offered, and no others; for it the exhausted leaves among the pieces were posted, and no others; and each key that the walk was told was posted.
pub record HoldsWalk (log : Log) (path : Turns) (told : List ℕ) (given : List Turns) (pieces : List Piece) : Type 0 where
  pub offered : (gift : Turns) → IsIn (record { parent = path; path = gift }) log.offerings ↔ IsIn gift given
  pub posted : (leaf : Turns) (context : Context) → IsIn (record { path = path; leaf = leaf; context = context }) log.postings ↔ IsIn (Sat leaf context) pieces
  pub told_posted : (told_key : ℕ) → IsIn told_key told → (posting : Posting) × IsIn posting log.postings × (key posting.leaf ≡ told_key)

-- The record is that of an account of the path: its gifts may be offered and its exhausted leaves posted, whenever only gifts of the walk were offered for the path before; and it may be handed back in every orderly run that holds the walk.
pub record FitsRuns (list_bound : ℕ) (search : SearchTree) (path : Turns) (told : List ℕ) (given : List Turns) (posted : List ℕ) (record' : RecordValue) : Type 0 where
  pub account : Account
  pub path_is : account.path ≡ path
  pub record_is : record' ≡ record_of list_bound account
  pub posted_are : posted ≡ sat_keys account.pieces
  pub offers : (offerings : List Offering) (gift : Turns) → OffersOnly path given offerings → IsIn gift given → OffersRightChild search offerings path gift
  pub posts : (offerings : List Offering) (leaf : Turns) (context : Context) → OffersOnly path given offerings → IsIn (Sat leaf context) account.pieces → PostsOwnLeaf search offerings (record { path = path; leaf = leaf; context = context })
  pub ends : (share : ℕ) (core : CoreValue) (log : Log) → IsOrderly list_bound share search core log → HoldsWalk log path told given account.pieces → EndsOrderly search log.offerings log.postings account

-- So it is of every portion.
abbrev pub PortionsFitRuns : Type 0
PortionsFitRuns =
    (list_bound share : ℕ) (search : SearchTree) (path : Turns) (told : List ℕ) (given : List Turns) (posted : List ℕ) (record' : RecordValue)
    → IsPortion list_bound share search path told given posted record' → FitsRuns list_bound search path told given posted record'
