-- The text of what a printed answer claims.
use Rattle.std.specs.Prelude.{ℕ, ◌+◌, List, [], ◌∷◌, ◌++◌, codes, decimal}
use Rattle.std.specs.List.{flat_map}
use Rattle.me_terms.specs.Values.{SignatureValue}
use Rattle.me_terms.specs.declared.bounds.Start.{Start}
use Rattle.me_terms.specs.declared.bounds.Start.TheVariants.{Negative, Positive}
use Rattle.cnf_text.specs.ClauseText.{clause_text}
use Rattle.cnf_text.specs.LabelText.{label_text}
use Rattle.szs_print.specs.AnswerText.{bound_text}
use Rattle.szs_print.specs.ModelText.{literal_line}
use Rattle.szs_print.specs.StatusText.{status_line, output_line, reason_line}
use Rattle.szs_read.specs.Values.{InstanceLineValue}
use Rattle.szs_read.specs.declared.claim.EntryLine.{EntryLine}
use Rattle.szs_read.specs.declared.claim.Claim.{Claim}
use Rattle.szs_read.specs.declared.claim.Claim.TheVariants.{Refuted, Model, Open}

-- The k-th line of a refutation.
abbrev pub instance_line : SignatureValue → ℕ → InstanceLineValue → List ℕ
instance_line signature k line =
    codes "cnf(i" ++ decimal k ++ codes ",plain," ++ clause_text signature line.literals ++ codes ",instance(" ++ (decimal line.number ++ codes "," ++ label_text line.label) ++ codes ")).\n"

-- The lines of a refutation, numbered from k on.
abbrev pub instance_lines : SignatureValue → ℕ → List InstanceLineValue → List ℕ
instance_lines signature k [] = []
instance_lines signature k (line ∷ lines) = instance_line signature k line ++ instance_lines signature (k + 1) lines

-- The line of a literal of a model.
abbrev pub entry_line : SignatureValue → EntryLine → List ℕ
entry_line signature line = literal_line signature line.at line.literal.positive line.literal.atom line.kind

abbrev pub entry_lines : SignatureValue → List EntryLine → List ℕ
entry_lines signature lines = flat_map (λ line. entry_line signature line) lines

-- What is true of an atom of which no line of a model speaks.
abbrev pub start_text : Start → List ℕ
start_text Negative = codes "false"
start_text Positive = codes "true"

abbrev pub start_line : Start → List ℕ
start_line start = codes "% default " ++ start_text start ++ codes "\n"

-- The SZS word of the status.
abbrev pub claim_word : Claim → List ℕ
claim_word (Refuted lines) = codes "Unsatisfiable"
claim_word (Model start lines) = codes "Satisfiable"
claim_word (Open bound) = codes "GaveUp"

-- What comes behind the line of the status.
abbrev pub claim_body : SignatureValue → List ℕ → Claim → List ℕ
claim_body signature name (Refuted lines) = output_line (codes "start Refutation") name ++ instance_lines signature 1 lines.items ++ output_line (codes "end Refutation") name
claim_body signature name (Model start lines) = output_line (codes "start Model") name ++ start_line start ++ entry_lines signature lines.items ++ output_line (codes "end Model") name
claim_body signature name (Open bound) = reason_line (bound_text bound)

-- The text under a name.
abbrev pub claim_text : SignatureValue → List ℕ → Claim → List ℕ
claim_text signature name claim = status_line (claim_word claim) name ++ claim_body signature name claim
