use Rattle.std.proofs.Common.{rules, ◌≡◌, ◌∙◌, sym}
use Rattle.std.specs.Prelude.{IfErr}
use Rattle.std.proofs.lemmas.Result.{IfErr-weaker}
use Rattle.darwin_options.specs.declared.error.WordsError.{WordsError}
use Rattle.darwin_options.proofs.Asked.{asked_of, not_in_form_of, no_settings_of}
use Rattle.darwin_options.proofs.words.read_words.Goals as goal

pub returns-in_err-matches-clause-usage : goal.returns-in_err-matches-clause-usage
returns-in_err-matches-clause-usage c =
    let same : IfErr c.from_residual.result (λ (e : WordsError). e ≡ c.in_err-matches.field-0.0) = search rules in
    IfErr-weaker c.from_residual.result _ _ (λ e is usage. no_settings_of c.as_slice.result.now c.args.words.now.items c.as_slice.ensures.value (c.in_err-matches.ensures.usage (sym is ∙ usage))) same

pub returns-clause-asked : goal.returns-clause-asked
returns-clause-asked c =
    asked_of c.as_slice.result.now c.args.words.now.items c.as_slice.ensures.value c.in_ok-matches.matches c.options_in.result c.in_ok-matches.ensures.found c.options_in.ensures.asked

pub returns-clause-usage : goal.returns-clause-usage
returns-clause-usage c =
    not_in_form_of c.as_slice.result.now c.args.words.now.items c.as_slice.ensures.value c.in_ok-matches.matches c.options_in.result c.in_ok-matches.ensures.same c.options_in.ensures.usage
