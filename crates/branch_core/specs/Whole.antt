-- Whole records.
use Rattle.std.specs.Prelude.{◌≡◌, ℕ, List, [], map, slice_get, Some, ◌⊎◌}
use Rattle.me_terms.specs.Values.{ProblemValue}
use Rattle.me_terms.specs.Context.{Context}
use Rattle.me_terms.specs.Grown.{start}
use Rattle.me_terms.specs.declared.bounds.Bounds.{Bounds}
use Rattle.branch_core.specs.Paths.{Turns, key, IsLeftOf, ProperlyBegins}
use Rattle.branch_core.specs.Parts.{RecordValue}
use Rattle.branch_core.specs.Pieces.{Gift, Sat}
use Rattle.branch_core.specs.StandsFor.{Account, record_of, StandsFor}
use Rattle.branch_core.specs.SearchTree.{SearchTree, IsSearchTree}

-- The item stands somewhere in the list.
abbrev pub IsIn : {A : Type 0} → A → List A → Type 0
IsIn item items = (k : ℕ) × (slice_get items k ≡ Some item)

-- A key may cut the subtree at these turns: an exhausted leaf with that key stands left of it, and the record of that leaf's path has a Sat for it.
abbrev pub IsLicensed : List Account → ℕ → Turns → Type 0
IsLicensed accounts cut_key turns =
    (account : Account) × (leaf : Turns) × (context : Context)
    × IsIn account accounts × IsIn (Sat leaf context) account.pieces × (key leaf ≡ cut_key) × IsLeftOf leaf turns

-- There is one account of the root and one of each gift, and no other; each path has one; a gift extends the path that gave it; each account's pieces stand for its path, with licensed Cuts alone.
pub record AreWhole (search : SearchTree) (accounts : List Account) : Type 0 where
  pub root : (account : Account) × IsIn account accounts × (account.path ≡ [])
  pub gifts : (account : Account) (gift : Turns) → IsIn account accounts → IsIn (Gift gift) account.pieces → (other : Account) × IsIn other accounts × (other.path ≡ gift)
  pub no_other : (account : Account) → IsIn account accounts → (account.path ≡ []) ⊎ ((giver : Account) × IsIn giver accounts × IsIn (Gift account.path) giver.pieces)
  pub once : (account other : Account) (j k : ℕ) → slice_get accounts j ≡ Some account → slice_get accounts k ≡ Some other → account.path ≡ other.path → j ≡ k
  pub extends : (account : Account) (gift : Turns) → IsIn account accounts → IsIn (Gift gift) account.pieces → ProperlyBegins account.path gift
  pub stands : (account : Account) → IsIn account accounts → StandsFor (IsLicensed accounts) search account

-- Records are whole over a tree where they are those of whole accounts.
abbrev pub AreWholeOver : ℕ → SearchTree → List RecordValue → Type 0
AreWholeOver list_bound search records =
    (accounts : List Account) × AreWhole search accounts × (records ≡ map (record_of list_bound) accounts)

-- Records are whole for a problem within bounds where they are whole over the tree that the rules make from the bounds' start.
abbrev pub AreWholeRecords : ProblemValue → Bounds → List RecordValue → Type 0
AreWholeRecords problem bounds records = (search : SearchTree) × IsSearchTree problem bounds (start bounds.start) search × AreWholeOver bounds.list search records
