use Rattle.std.proofs.Common.{rules, ◌≡◌, ◌∙◌, sym}
use Rattle.std.specs.Prelude.{IfErr}
use Rattle.std.proofs.lemmas.Result.{IfErr-weaker}
use Rattle.darwin_options.specs.declared.options.TheConstants.{MAX_WORKERS, MAX_SHARE, MAX_SEED}
use Rattle.darwin_options.specs.Settings.{Name, Depth, From, Workers, Share, Make, AreInForm}
use Rattle.darwin_options.specs.OptionsCommand.{value_found}
use Rattle.darwin_options.specs.declared.error.WordsError.{WordsError}
use Rattle.darwin_options.specs.declared.error.WordsError.TheVariants.{Usage}
use Rattle.darwin_options.proofs.ValueForms.{if_any_error, outside_not, no_name_not, too_deep_not}
use Rattle.darwin_options.proofs.values.options_in.Goals as goal

pub returns-in_err-name-clause-usage : goal.returns-in_err-name-clause-usage
returns-in_err-name-clause-usage c =
    let same : IfErr c.from_residual.result (λ (e : WordsError). e ≡ c.in_err-name.field-0.0) = search rules in
    IfErr-weaker c.from_residual.result _ _ (λ e is usage form. no_name_not (value_found c.args.matches.now Name) (c.in_err-name.ensures.usage (sym is ∙ usage)) (form Name)) same

pub returns-in_err-bounds-clause-usage : goal.returns-in_err-bounds-clause-usage
returns-in_err-bounds-clause-usage c =
    if_any_error c.from_residual-in_err-bounds.result (λ (e : WordsError). e ≡ Usage) (¬ AreInForm (value_found c.args.matches.now)) c.in_err-bounds.ensures.usage

pub returns-in_err-from-clause-usage : goal.returns-in_err-from-clause-usage
returns-in_err-from-clause-usage c =
    let values = value_found c.args.matches.now in
    if_any_error c.from_residual-in_err-from.result (λ (e : WordsError). e ≡ Usage) (¬ AreInForm values)
    (λ form. too_deep_not c.in_ok-bounds.bounds.depth (values Depth) (values From) c.in_ok-bounds.ensures.ok.depth c.in_err-from.ensures.usage (form From))

pub returns-in_err-workers-clause-usage : goal.returns-in_err-workers-clause-usage
returns-in_err-workers-clause-usage c =
    if_any_error c.from_residual-in_err-workers.result (λ (e : WordsError). e ≡ Usage) (¬ AreInForm (value_found c.args.matches.now))
    (λ form. outside_not 1 MAX_WORKERS (value_found c.args.matches.now Workers) c.in_err-workers.ensures.usage (form Workers))

pub returns-in_err-share-clause-usage : goal.returns-in_err-share-clause-usage
returns-in_err-share-clause-usage c =
    if_any_error c.from_residual-in_err-share.result (λ (e : WordsError). e ≡ Usage) (¬ AreInForm (value_found c.args.matches.now))
    (λ form. outside_not 0 MAX_SHARE (value_found c.args.matches.now Share) c.in_err-share.ensures.usage (form Share))

pub returns-in_err-make-clause-usage : goal.returns-in_err-make-clause-usage
returns-in_err-make-clause-usage c =
    if_any_error c.from_residual-in_err-make.result (λ (e : WordsError). e ≡ Usage) (¬ AreInForm (value_found c.args.matches.now))
    (λ form. outside_not 0 MAX_SEED (value_found c.args.matches.now Make) c.in_err-make.ensures.usage (form Make))
