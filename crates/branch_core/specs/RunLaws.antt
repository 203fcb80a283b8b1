-- Laws of orderly runs.
use Rattle.std.specs.Prelude.{◌≡◌, ℕ, List, slice_get, Some}
use Rattle.branch_core.specs.Parts.{RecordValue}
use Rattle.branch_core.specs.Whole.{IsIn, AreWholeOver}
use Rattle.branch_core.specs.Runs.{Log, IsOrderly, KeepsClosed, SparesFirst}
use Rattle.branch_core.specs.Core.{CoreValue}
use Rattle.branch_core.specs.Paths.{Turns}
use Rattle.branch_core.specs.StandsFor.{Account, StandsFor}
use Rattle.branch_core.specs.SearchTree.{SearchTree}

-- The records that a closed orderly run keeps are whole.
abbrev pub ClosedRunsKeepWhole : Type 0
ClosedRunsKeepWhole = (list_bound : ℕ) (search : SearchTree) (records : List RecordValue) → KeepsClosed list_bound search records → AreWholeOver list_bound search records

-- In an orderly run each path is taken at most once, and no exhausted leaf that has none left of it is replaced by a Cut.
pub record OrderlyRunsSpare (list_bound share : ℕ) (search : SearchTree) (core : CoreValue) (log : Log) : Type 0 where
  pub taken_once : (path : Turns) (j k : ℕ) → slice_get log.taken j ≡ Some path → slice_get log.taken k ≡ Some path → j ≡ k
  pub first_spared : (account : Account) → IsIn account log.accounts → StandsFor (SparesFirst search) search account

-- So it is in every orderly run.
abbrev pub OrderlyRunsAreRight : Type 0
OrderlyRunsAreRight = (list_bound share : ℕ) (search : SearchTree) (core : CoreValue) (log : Log) → IsOrderly list_bound share search core log → OrderlyRunsSpare list_bound share search core log
