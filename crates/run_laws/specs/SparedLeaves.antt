-- In an orderly run no Cut ever drops the first exhausted leaf.
use Rattle.std.specs.Prelude.{◌≡◌, ℕ, Some}
use Rattle.branch_core.specs.Core.{Actor, CoreValue, Cut, IsLegal}
use Rattle.branch_core.specs.Paths.{Turns}
use Rattle.branch_core.specs.Runs.{Log, IsPosted, IsOrderly, SparesFirst}
use Rattle.branch_core.specs.SearchTree.{SearchTree, subtree}

-- For every key that was posted, and all turns at which it may cut, the first exhausted leaf is spared.
abbrev pub PostedKeysSpare : Type 0
PostedKeysSpare =
    (list_bound share : ℕ) (search : SearchTree) (core : CoreValue) (log : Log) (cut_key : ℕ) (turns : Turns)
    → IsOrderly list_bound share search core log → IsPosted log.postings cut_key turns → SparesFirst search cut_key turns

-- For every Cut that is legal at a node of the tree, the first exhausted leaf is spared.
abbrev pub LegalCutsSpare : Type 0
LegalCutsSpare =
    (list_bound share : ℕ) (search below : SearchTree) (core : CoreValue) (log : Log) (by : Actor) (node : Turns) (least : ℕ)
    → IsOrderly list_bound share search core log → IsLegal core (Cut by node least) → subtree search node ≡ Some below → SparesFirst search least node
