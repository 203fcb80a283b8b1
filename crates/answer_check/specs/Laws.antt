-- What an answer that is shown says of its problem, and which answers are shown.
use Rattle.std.specs.Prelude.{◌≡◌, ◌↔◌, ℕ, Bool, List, map, length}
use Rattle.std.specs.List.{All}
use Rattle.me_terms.specs.Values.{ProblemValue, InstanceValue}
use Rattle.me_terms.specs.Answer.{Unsatisfiable, Satisfiable}
use Rattle.me_terms.specs.Context.{Context, StandsAt, IsContext, pseudo}
use Rattle.me_terms.specs.Deepening.{HasAnswerFrom}
use Rattle.me_terms.specs.GroundInstances.{IsGroundInstance}
use Rattle.me_terms.specs.InducedModel.{IsModel}
use Rattle.me_terms.specs.Refuted.{IsRefuted}
use Rattle.me_terms.specs.Validity.{IsValid}
use Rattle.me_terms.specs.declared.bounds.Bounds.{Bounds}
use Rattle.me_terms.specs.declared.bounds.Start.{Start}
use Rattle.szs_read.specs.Printed.{AreEntryLinesOf, AreLinesOf, start_of}
use Rattle.szs_read.specs.Values.{InstanceLineValue}
use Rattle.szs_read.specs.declared.claim.Claim.{Claim}
use Rattle.szs_read.specs.declared.claim.EntryLine.{EntryLine}
use Rattle.answer_check.specs.Judgements.{IsClaimJudged, IsShownRefutation, IsShownModel, Shown, context_of, literals_of}
use Rattle.answer_check.specs.Verdicts.{status_of}
use Rattle.answer_check.specs.declared.verdict.Verdict.{Verdict}

-- A refutation that is shown has the literals of ground instances of the problem's clauses that no choice of truth values makes true.
abbrev pub ShownRefutationsAreRefuted : Type 0
ShownRefutationsAreRefuted = (problem : ProblemValue) (lines : List InstanceLineValue) → IsShownRefutation problem lines
    → (list : List InstanceValue) × (map (λ (i : InstanceValue). i.literals) list ≡ literals_of lines)
    × All (λ i. IsGroundInstance problem i.clause i.literals) list × IsRefuted list

-- A model that is shown is a context in whose interpretation every ground instance of every clause has a true literal.
abbrev pub ShownModelsAreModels : Type 0
ShownModelsAreModels = (problem : ProblemValue) (start : Start) (lines : List EntryLine) → IsShownModel problem start lines
    → IsContext (context_of start lines) × IsModel problem (context_of start lines)

-- What is said of a claim has status 0 exactly where the claim is shown.
abbrev pub YesIsShown : Type 0
YesIsShown = (problem : ProblemValue) (claim : Claim) (verdict : Verdict) → IsClaimJudged problem claim verdict → (status_of verdict ≡ 0) ↔ Shown problem claim

-- The lines that are printed for the answer Unsatisfiable show a refutation.
abbrev pub PrintedRefutationsAreShown : Type 0
PrintedRefutationsAreShown = (problem : ProblemValue) (bounds : Bounds) (from : ℕ) (list : List InstanceValue) (lines : List InstanceLineValue) → IsValid problem
    → HasAnswerFrom problem bounds from (Unsatisfiable list) → AreLinesOf problem list lines → IsShownRefutation problem lines

-- The lines that are printed for the answer Satisfiable show a model.
abbrev pub PrintedModelsAreShown : Type 0
PrintedModelsAreShown = (problem : ProblemValue) (bounds : Bounds) (from : ℕ) (context : Context) (positive : Bool) (lines : List EntryLine)
    → HasAnswerFrom problem bounds from (Satisfiable context) → StandsAt context 0 (pseudo positive) → AreEntryLinesOf context (length context) lines
    → IsShownModel problem (start_of positive) lines
