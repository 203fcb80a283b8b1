use Rattle.me_terms.specs.declared.bounds.TheConstants.{MAX_DEPTH, MAX_WEIGHT, MAX_ENTRIES, MAX_LIST}
use Rattle.darwin_options.specs.Settings.{Depth, Weight, Literals, ListWeight, StartSign, AreInForm}
use Rattle.darwin_options.specs.OptionsCommand.{value_found}
use Rattle.darwin_options.proofs.ValueForms.{on_any_error, outside_not, no_start_not}
use Rattle.darwin_options.proofs.values.bounds_in.Goals as goal

pub returns-in_err-depth-clause-usage : goal.returns-in_err-depth-clause-usage
returns-in_err-depth-clause-usage c =
    on_any_error c.from_residual.result (¬ AreInForm (value_found c.args.matches.now)) (λ form. outside_not 1 MAX_DEPTH (value_found c.args.matches.now Depth) c.in_err-depth.ensures.usage (form Depth))

pub returns-in_err-weight-clause-usage : goal.returns-in_err-weight-clause-usage
returns-in_err-weight-clause-usage c =
    on_any_error c.from_residual-in_err-weight.result (¬ AreInForm (value_found c.args.matches.now)) (λ form. outside_not 1 MAX_WEIGHT (value_found c.args.matches.now Weight) c.in_err-weight.ensures.usage (form Weight))

pub returns-in_err-literals-clause-usage : goal.returns-in_err-literals-clause-usage
returns-in_err-literals-clause-usage c =
    on_any_error c.from_residual-in_err-literals.result (¬ AreInForm (value_found c.args.matches.now)) (λ form. outside_not 1 MAX_ENTRIES (value_found c.args.matches.now Literals) c.in_err-literals.ensures.usage (form Literals))

pub returns-in_err-list-clause-usage : goal.returns-in_err-list-clause-usage
returns-in_err-list-clause-usage c =
    on_any_error c.from_residual-in_err-list.result (¬ AreInForm (value_found c.args.matches.now)) (λ form. outside_not 1 MAX_LIST (value_found c.args.matches.now ListWeight) c.in_err-list.ensures.usage (form ListWeight))

pub returns-in_err-start_in-clause-usage : goal.returns-in_err-start_in-clause-usage
returns-in_err-start_in-clause-usage c =
    on_any_error c.from_residual-in_err-start_in.result (¬ AreInForm (value_found c.args.matches.now)) (λ form. no_start_not (value_found c.args.matches.now StartSign) c.in_err-start_in.ensures.usage (form StartSign))
