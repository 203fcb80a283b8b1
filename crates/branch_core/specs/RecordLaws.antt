-- Laws of whole records.
use Rattle.std.specs.Prelude.{◌≡◌, ℕ, List, []}
use Rattle.me_terms.specs.Values.{ProblemValue}
use Rattle.me_terms.specs.Answer.{AnswerValue, HasAnswer}
use Rattle.me_terms.specs.declared.bounds.Bounds.{Bounds}
use Rattle.branch_core.specs.Parts.{PartValue, RecordValue}
use Rattle.branch_core.specs.Whole.{IsIn, AreWholeRecords}
use Rattle.branch_core.specs.Assemble.{CanAssemble}
use Rattle.branch_core.specs.Filled.{Filled, LacksMemory, CutsFollowSat}
use Rattle.branch_core.specs.Total.{Lost, Decides, total_of}

-- Whole records with their gifts filled in decide the answer, unless a part NoMemory has no Sat left of it.
abbrev pub WholeRecordsAnswer : Type 0
WholeRecordsAnswer = (problem : ProblemValue) (bounds : Bounds) (records : List RecordValue) (root : RecordValue) (filled : List PartValue) → AreWholeRecords problem bounds records → IsIn root records → root.path ≡ [] → Filled records root.parts filled → ¬ LacksMemory filled → (reply : AnswerValue) × Decides (total_of bounds.list filled) reply × HasAnswer problem bounds reply

-- In whole records with their gifts filled in each Cut has a Sat left of it.
abbrev pub WholeCutsFollowSat : Type 0
WholeCutsFollowSat = (problem : ProblemValue) (bounds : Bounds) (records : List RecordValue) (root : RecordValue) (filled : List PartValue) → AreWholeRecords problem bounds records → IsIn root records → root.path ≡ [] → Filled records root.parts filled → CutsFollowSat filled

-- Where a part NoMemory has no Sat left of it, the total is lost, and decides no answer.
abbrev pub LackingLoses : Type 0
LackingLoses = (list_bound : ℕ) (filled : List PartValue) → LacksMemory filled → total_of list_bound filled ≡ Lost

-- Whole records can be filled in.
abbrev pub WholeRecordsFill : Type 0
WholeRecordsFill = (problem : ProblemValue) (bounds : Bounds) (records : List RecordValue) → AreWholeRecords problem bounds records → (root : RecordValue) × (filled : List PartValue) × IsIn root records × (root.path ≡ []) × Filled records root.parts filled

-- Whole records can be put together.
abbrev pub WholeCanAssemble : Type 0
WholeCanAssemble = (problem : ProblemValue) (bounds : Bounds) (records : List RecordValue) → AreWholeRecords problem bounds records → CanAssemble records
