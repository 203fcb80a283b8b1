-- A seed makes one problem.
use Rattle.std.proofs.Common.{◌≡◌, ℕ, ◌*◌, sym, ap, ◌∙◌}
use Rattle.std.specs.List.{position_or_len}
use Rattle.me_terms.specs.Values.{SignatureValue, ProblemValue}
use Rattle.tptp_cnf.specs.Meaning.{is_constant}
use Rattle.make_problem.specs.Made.{words_of, made_clauses, IsMade}

pub made_once : (seed preds clauses : ℕ) (problem other : ProblemValue) → IsMade seed preds clauses problem → IsMade seed preds clauses other → problem ≡ other
made_once seed preds clauses problem other made again =
    let functions = made.functions ∙ sym again.functions in
    let predicates = made.predicates ∙ sym again.predicates in
    let signature : problem.signature ≡ other.signature = λ i. record { functions = functions i; predicates = predicates i } in
    let listed = made.clauses_are ∙ ap (λ (s : SignatureValue). made_clauses preds s 1 clauses (words_of seed (3 * clauses))) signature ∙ sym again.clauses_are in
    let c0 = made.c0 ∙ ap (position_or_len is_constant) functions ∙ sym again.c0 in
    λ i. record { clauses = listed i; signature = signature i; c0 = c0 i }
