use Rattle.std.proofs.Common.{◌-◌, ◌++◌, ◌∷◌, ◌∙◌, ℕ, List, [], length, map, ap}
use Rattle.std.proofs.lemmas.Result.{err_from_is_err_and}
use Rattle.me_terms.specs.Sequences.{SequenceValue}
use Rattle.tptp_include.specs.Outcomes.{Flat, Stops, IsOutcome}
use Rattle.tptp_include.specs.Views.{names_of, IsStopOf}
use Rattle.tptp_include.specs.declared.limits.TheConstants.{MAX_CHAIN}
use Rattle.tptp_include.proofs.Coming.{IsFileGivenStop, tells_on, on_err, main_gives}
use Rattle.tptp_include.proofs.flatten.flatten_file.Goals as goal

pub returns-in_err-flat-clause-stops : goal.returns-in_err-flat-clause-stops
returns-in_err-flat-clause-stops g c = λ files held.
    let main = c.args.main.now.items in
    let chain = c.in_ok-chain.ensures ∙ ap (λ (xs : List (SequenceValue ℕ)). map (λ name. name.items) xs ++ main ∷ []) c.new.ensures in
    let p = err_from_is_err_and c.from_residual-in_err-flat.result c.from_residual-in_err-flat.ensures.1 in
    on_err c.from_residual-in_err-flat.result (IsStopOf files main) _ _ p.1 p.2
    (tells_on (IsFileGivenStop (MAX_CHAIN - length (names_of c.in_ok-chain.chain)) files (names_of c.in_ok-chain.chain) main 0) (λ why. IsOutcome files main (Stops why))
    (λ why h. main_gives files (names_of c.in_ok-chain.chain) main (Stops why) h.0 chain h.1) _ (c.in_err-flat.ensures.stops files held))

pub returns-clause-text : goal.returns-clause-text
returns-clause-text g c = λ files held.
    let main = c.args.main.now.items in
    let chain = c.in_ok-chain.ensures ∙ ap (λ (xs : List (SequenceValue ℕ)). map (λ name. name.items) xs ++ main ∷ []) c.new.ensures in
    (c.in_ok-flat.flat, main_gives files (names_of c.in_ok-chain.chain) main (Flat c.in_ok-flat.flat) c.flat_file.new.includes chain (c.in_ok-flat.ensures.goes files held), c.in_ok-text.ensures)
