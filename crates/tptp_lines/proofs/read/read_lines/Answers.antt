use Rattle.std.proofs.Common.{◌≡◌, Result, Err, refl, sym, subst}
use Rattle.std.specs.Prelude.{IfErr}
use Rattle.std.proofs.lemmas.Result.{err_from_is_err_and}
use Rattle.tptp_cnf.specs.declared.error.CnfError.{CnfError}
use Rattle.tptp_lines.specs.Lines.{AreLines}
use Rattle.tptp_lines.specs.LineCauses.{IsLinesCause}
use Rattle.tptp_lines.proofs.Reached.{none_read, counts_few, place_few, one_more, stopped, ended_early, are_lines, not_whole}
use Rattle.tptp_lines.proofs.read.read_lines.Goals as goal

on_err : {A : Type 0} (r : Result A CnfError) (P : CnfError → Type 0) (y e : CnfError) → r ≡ Err y → y ≡ e → P e → IfErr r P
on_err {A} r P y e h k p = subst (λ (x : Result A CnfError). IfErr x P) (sym h) (subst P (sym k) p)

pub tokens-init : goal.tokens-init
tokens-init c = none_read _ _ _ c.new-tokenizer.ensures c.new-reader.ensures

pub step-requires-clause-counts : goal.step-requires-clause-counts
step-requires-clause-counts c = counts_few _ _ _ c.requires c.tokens.invariant

pub step-requires-clause-place : goal.step-requires-clause-place
step-requires-clause-place c = place_few _ _ _ _ _ c.requires c.tokens.invariant c.in-Some.ensures.some

pub tokens-preserved : goal.tokens-preserved
tokens-preserved c = one_more _ _ _ _ _ _ c.tokens.invariant c.in-Some.ensures.some c.in-Some.ensures.shorter c.in_ok-step.ensures.goes

pub returns-in_err-step-clause-cause : goal.returns-in_err-step-clause-cause
returns-in_err-step-clause-cause c =
    let p = err_from_is_err_and c.from_residual.result c.from_residual.ensures.1 in
    on_err c.from_residual.result (IsLinesCause c.args.bytes.now) _ _ p.1 p.2 (stopped _ _ _ _ _ _ c.tokens.invariant c.in-Some.ensures.some c.in_err-step.ensures.refused)

pub returns-then-not-is_whole-clause-cause : goal.returns-then-not-is_whole-clause-cause
returns-then-not-is_whole-clause-cause c = ended_early _ _ _ _ c.tokens.invariant c.in_default.ensures.none (not_whole _ _ c.is_whole.ensures c.if-not-is_whole.true) refl

pub returns-clause-lines : goal.returns-clause-lines
returns-clause-lines c = subst (AreLines c.args.bytes.now) (sym c.into_lines.ensures) (are_lines _ _ _ c.tokens.invariant c.in_default.ensures.none (c.is_whole.ensures.0 c.if-not-is_whole.false))
