-- What is said of an answer: its text and its exit status.
use Rattle.std.specs.Prelude.{ℕ, List, ◌++◌, codes, decimal}
use Rattle.std.specs.List.{flat_map}
use Rattle.me_terms.specs.Terms.{AtomValue}
use Rattle.me_terms.specs.Values.{SignatureValue}
use Rattle.cnf_text.specs.ClauseText.{atom_text}
use Rattle.answer_check.specs.declared.verdict.Verdict.{Verdict}
use Rattle.answer_check.specs.declared.verdict.Verdict.TheVariants.{Refutation, Model, WrongLine, Satisfied, Unifier, Unread, Open}

-- The line of an atom that is true.
abbrev pub true_line : SignatureValue → AtomValue → List ℕ
true_line signature a = codes "% true " ++ (atom_text signature a ++ codes "\n")

-- The words, then the number.
abbrev pub numbered_line : List ℕ → ℕ → List ℕ
numbered_line words number = words ++ (decimal number ++ codes "\n")

abbrev pub verdict_text : SignatureValue → Verdict → List ℕ
verdict_text signature Refutation = codes "% check yes refutation\n"
verdict_text signature Model = codes "% check yes model\n"
verdict_text signature (WrongLine line) = numbered_line (codes "% check no line ") line
verdict_text signature (Satisfied trues) = codes "% check no assignment\n" ++ flat_map (true_line signature) trues.items
verdict_text signature (Unifier number) = numbered_line (codes "% check no unifier in clause ") number
verdict_text signature (Unread line) = numbered_line (codes "% check answer line ") line
verdict_text signature Open = codes "% check none\n"

abbrev pub status_of : Verdict → ℕ
status_of Refutation = 0
status_of Model = 0
status_of (WrongLine line) = 8
status_of (Satisfied trues) = 8
status_of (Unifier number) = 8
status_of (Unread line) = 9
status_of Open = 10
