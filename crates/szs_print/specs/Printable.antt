-- What can be printed: names, and answers to a problem.
use Rattle.std.specs.Prelude.{ℕ, ◌≤◌, List, length, ⊤}
use Rattle.std.specs.List.{All}
use Rattle.me_terms.specs.Values.{ProblemValue}
use Rattle.me_terms.specs.Known.{IsKnownInstance, IsKnownContext}
use Rattle.me_terms.specs.declared.answer.Answer.{Answer}
use Rattle.me_terms.specs.declared.answer.Answer.TheVariants.{Unsatisfiable, Satisfiable, GaveUp}
use Rattle.szs_print.specs.declared.answer.TheConstants.{MAX_NAME_BYTES}

-- A name of 1 to MAX_NAME_BYTES bytes that are printed and are no blanks.
pub record IsName (name : List ℕ) : Type 0 where
  pub some : 1 ≤ length name
  pub few : length name ≤ MAX_NAME_BYTES
  pub printed : All (λ byte. (33 ≤ byte) × (byte ≤ 126)) name

-- An answer that speaks of the problem.
abbrev pub IsPrintable : ProblemValue → Answer → Type 0
IsPrintable problem (Unsatisfiable list) = All (IsKnownInstance problem) list.items
IsPrintable problem (Satisfiable context) = IsKnownContext problem.signature context.items
IsPrintable problem (GaveUp b) = ⊤
