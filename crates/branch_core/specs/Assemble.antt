-- What putting records together needs, and what it gives.
use Rattle.std.specs.Prelude.{◌≡◌, ℕ, List, [], slice_get, Some}
use Rattle.me_terms.specs.Values.{ProblemValue}
use Rattle.me_terms.specs.Answer.{AnswerValue, HasAnswer}
use Rattle.me_terms.specs.declared.bounds.Bounds.{Bounds}
use Rattle.branch_core.specs.Paths.{Turns, ProperlyBegins}
use Rattle.branch_core.specs.Parts.{PartValue, Gift, RecordValue}
use Rattle.branch_core.specs.Whole.{IsIn, AreWholeRecords}
use Rattle.branch_core.specs.Filled.{Filled, LacksMemory, CutsFollowSat}

-- There is one record for the root and one for each gift, a gift extends the path of its record, and a Cut stands right of a Sat alone.
pub record CanAssemble (records : List RecordValue) : Type 0 where
  pub root : (record' : RecordValue) × IsIn record' records × (record'.path ≡ [])
  pub gifts : (record' : RecordValue) (gift : Turns) → IsIn record' records → IsIn (Gift gift) record'.parts → (other : RecordValue) × IsIn other records × (other.path ≡ gift)
  pub once : (record' other : RecordValue) (j k : ℕ) → slice_get records j ≡ Some record' → slice_get records k ≡ Some other → record'.path ≡ other.path → j ≡ k
  pub extends : (record' : RecordValue) (gift : Turns) → IsIn record' records → IsIn (Gift gift) record'.parts → ProperlyBegins record'.path gift
  pub cuts : (record' : RecordValue) (filled : List PartValue) → IsIn record' records → record'.path ≡ [] → Filled records record'.parts filled → CutsFollowSat filled

-- For every problem and bounds for which the records are whole it is the answer, whatever the start.
abbrev pub AnswersWhole : List RecordValue → ℕ → AnswerValue → Type 0
AnswersWhole records list_bound reply =
    (problem : ProblemValue) (bounds : Bounds) → bounds.list ≡ list_bound → AreWholeRecords problem bounds records → HasAnswer problem bounds reply

-- Once the gifts are filled in, a part NoMemory stands left of the first Sat, or anywhere where there is no Sat.
abbrev pub RecordsLackMemory : List RecordValue → Type 0
RecordsLackMemory records =
    (root : RecordValue) × (filled : List PartValue) × IsIn root records × (root.path ≡ []) × Filled records root.parts filled × LacksMemory filled

-- The record of this path is one of them.
abbrev pub HasRecord : List RecordValue → Turns → Type 0
HasRecord records path = (record' : RecordValue) × IsIn record' records × (record'.path ≡ path)

-- They are the parts of the record of this path, with the gifts filled in.
abbrev pub ArePartsOf : List RecordValue → Turns → List PartValue → Type 0
ArePartsOf records path filled = (record' : RecordValue) × IsIn record' records × (record'.path ≡ path) × Filled records record'.parts filled
