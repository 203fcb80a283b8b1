-- A text that claims a refutation is at least as long as the refutation has literals.
use Rattle.std.proofs.Common.{◌≡◌, ℕ, ◌+◌, ◌-◌, ◌^◌, ◌<◌, ◌≤◌, List, [], ◌∷◌, ◌++◌, length, map, refl, sym, ap, subst, ◌∙◌, arith}
use Rattle.std.proofs.lemmas.List.{length-append}
use Rattle.std.proofs.lemmas.List.Sums.{sum_by-cons}
use Rattle.std.specs.Prelude.{codes, decimal}
use Rattle.me_terms.specs.Values.{SignatureValue}
use Rattle.me_terms.specs.declared.atom.Literal.{Literal}
use Rattle.cnf_text.specs.ClauseText.{barred_text, clause_text, literal_text}
use Rattle.cnf_text.specs.LabelText.{label_text}
use Rattle.szs_print.specs.StatusText.{output_line, status_line}
use Rattle.ground_solver.specs.Named.{literal_count}
use Rattle.szs_read.specs.Answers.{IsAnswer}
use Rattle.szs_read.specs.Claims.{instance_literals}
use Rattle.szs_read.specs.ClaimText.{claim_text, instance_line, instance_lines}
use Rattle.szs_read.specs.Values.{InstanceLineValue}
use Rattle.szs_read.specs.declared.claim.Claim.{Claim}
use Rattle.szs_read.specs.declared.claim.Claim.TheVariants.{Refuted, Model, Open}
use Rattle.answer_check.specs.Judgements.{HasFewLiterals, literals_of}

-- ---- what stands in a text is no longer than the text

in_front : (a b : List ℕ) → length a ≤ length (a ++ b)
in_front a b = omega (arith, length-append a b)

behind : (a b : List ℕ) → length a + length b ≤ length (a ++ b)
behind a b = omega (arith, length-append a b)

barred_long : (s : SignatureValue) (ls : List Literal) → length ls ≤ length (barred_text s ls)
barred_long s [] = omega arith
barred_long s (l ∷ ls) =
    omega (arith, barred_long s ls, behind (codes " | " ++ literal_text s l) (barred_text s ls), behind (codes " | ") (literal_text s l))

clause_long : (s : SignatureValue) (ls : List Literal) → length ls ≤ 1 + length (clause_text s ls)
clause_long s [] = omega arith
clause_long s (l ∷ ls) = omega (arith, barred_long s ls, behind (literal_text s l) (barred_text s ls))

line_long : (s : SignatureValue) (k : ℕ) (line : InstanceLineValue) → length line.literals ≤ length (instance_line s k line)
line_long s k line =
    let head = codes "cnf(i" ++ decimal k in
    let front = head ++ codes ",plain," in
    let with_clause = front ++ clause_text s line.literals in
    let with_bracket = with_clause ++ codes ",instance(" in
    let of_clause = decimal line.number ++ codes "," ++ label_text line.label in
    let plain : 7 ≤ length front = omega (arith, behind head (codes ",plain,")) in
    let a = behind front (clause_text s line.literals) in
    let b = in_front with_clause (codes ",instance(") in
    let c = in_front with_bracket of_clause in
    let d = in_front (with_bracket ++ of_clause) (codes ")).\n") in
    omega (arith, clause_long s line.literals, plain, a, b, c, d)

lines_long : (s : SignatureValue) (k : ℕ) (lines : List InstanceLineValue) → length (instance_literals lines) ≤ length (instance_lines s k lines)
lines_long s k [] = omega arith
lines_long s k (line ∷ lines) =
    omega (arith, line_long s k line, lines_long s (k + 1) lines, behind (instance_line s k line) (instance_lines s (k + 1) lines), length-append line.literals (instance_literals lines))

refutation_long : (s : SignatureValue) (name : List ℕ) (lines : List InstanceLineValue) → length (instance_literals lines) ≤ length (status_line (codes "Unsatisfiable") name ++ (output_line (codes "start Refutation") name ++ instance_lines s 1 lines ++ output_line (codes "end Refutation") name))
refutation_long s name lines =
    let start = output_line (codes "start Refutation") name in
    let end = output_line (codes "end Refutation") name in
    let a = behind start (instance_lines s 1 lines) in
    let b = in_front (start ++ instance_lines s 1 lines) end in
    let c = behind (status_line (codes "Unsatisfiable") name) (start ++ instance_lines s 1 lines ++ end) in
    omega (arith, lines_long s 1 lines, a, b, c)

counted : (lines : List InstanceLineValue) → literal_count (literals_of lines) ≡ length (instance_literals lines)
counted [] = refl
counted (line ∷ lines) =
    omega (arith, sum_by-cons length line.literals (literals_of lines), counted lines, length-append line.literals (instance_literals lines))

pub few_literals : (old new : SignatureValue) (bytes : List ℕ) (claim : Claim) → length bytes < 2 ^ 32 - 1 → IsAnswer old bytes new claim → HasFewLiterals claim
few_literals old new bytes (Refuted lines) few h =
    omega (arith, few, counted lines.items, refutation_long new h.name lines.items, ap length h.text)
few_literals old new bytes (Model start lines) few h = tt
few_literals old new bytes (Open bound) few h = tt
