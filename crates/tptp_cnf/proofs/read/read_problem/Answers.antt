use Rattle.std.proofs.Common.{◌≡◌, Result, Err, refl, sym, subst, arith}
use Rattle.std.specs.Prelude.{IfErr}
use Rattle.std.proofs.lemmas.Result.{err_from_is_err_and}
use Rattle.tptp_cnf.specs.declared.error.CnfError.{CnfError}
use Rattle.tptp_cnf.specs.Causes.{IsErrorCause}
use Rattle.tptp_cnf.proofs.Reached.{reached_more, stopped, ended_early, means, not_between}
use Rattle.tptp_cnf.specs.Files.{IsFile}
use Rattle.tptp_cnf.proofs.Rooms.{counts_few, numberable}
use Rattle.tptp_cnf.proofs.Sizes.{small}
use Rattle.tptp_cnf.proofs.Valid.{valid}
use Rattle.tptp_cnf.proofs.read.read_problem.Goals as goal

on_err : {A : Type 0} (r : Result A CnfError) (P : CnfError → Type 0) (y e : CnfError) → r ≡ Err y → y ≡ e → P e → IfErr r P
on_err {A} r P y e h k p = subst (λ (x : Result A CnfError). IfErr x P) (sym h) (subst P (sym k) p)

pub step-requires-clause-counts : goal.step-requires-clause-counts
step-requires-clause-counts c = counts_few _ _ _ _ c.requires c.tokens.invariant

pub step-requires-clause-numbers : goal.step-requires-clause-numbers
step-requires-clause-numbers c = numberable _ _ _ _ c.requires c.tokens.invariant

pub finish-requires : goal.finish-requires
finish-requires c = numberable _ _ _ _ c.requires c.tokens.invariant

pub tokens-preserved : goal.tokens-preserved
tokens-preserved c = reached_more _ _ _ _ _ _ _ _ c.tokens.invariant c.in-Some.ensures.some c.in_ok-step.ensures.goes c.in_ok-step.ensures.fed

pub returns-in_err-step-clause-cause : goal.returns-in_err-step-clause-cause
returns-in_err-step-clause-cause c =
    let p = err_from_is_err_and c.from_residual.result c.from_residual.ensures.1 in
    on_err c.from_residual.result (IsErrorCause c.args.bytes.now) _ _ p.1 p.2 (stopped _ _ _ _ _ _ _ c.tokens.invariant c.in-Some.ensures.some c.in_err-step.ensures.refused)

pub returns-then-not-is_whole-clause-cause : goal.returns-then-not-is_whole-clause-cause
returns-then-not-is_whole-clause-cause c = ended_early _ _ _ _ _ c.tokens.invariant c.in_default.ensures.none (not_between _ _ c.is_whole.ensures c.if-not-is_whole.true) refl

pub returns-clause-valid : goal.returns-clause-valid
returns-clause-valid c =
    let f : IsFile c.args.bytes.now c.in_ok-finish.field-0 = means _ _ _ _ _ c.tokens.invariant c.in_default.ensures.none (c.is_whole.ensures.0 c.if-not-is_whole.false) c.in_ok-finish.ensures in
    valid c.args.bytes.now c.in_ok-finish.field-0 f (small c.args.bytes.now c.in_ok-finish.field-0 f) c.requires

pub returns-clause-weight : goal.returns-clause-weight
returns-clause-weight c =
    let f : IsFile c.args.bytes.now c.in_ok-finish.field-0 = means _ _ _ _ _ c.tokens.invariant c.in_default.ensures.none (c.is_whole.ensures.0 c.if-not-is_whole.false) c.in_ok-finish.ensures in
    let s = small c.args.bytes.now c.in_ok-finish.field-0 f in
    omega (arith, s.clauses)

pub returns-clause-functions : goal.returns-clause-functions
returns-clause-functions c =
    let f : IsFile c.args.bytes.now c.in_ok-finish.field-0 = means _ _ _ _ _ c.tokens.invariant c.in_default.ensures.none (c.is_whole.ensures.0 c.if-not-is_whole.false) c.in_ok-finish.ensures in
    (small c.args.bytes.now c.in_ok-finish.field-0 f).functions

pub returns-clause-predicates : goal.returns-clause-predicates
returns-clause-predicates c =
    let f : IsFile c.args.bytes.now c.in_ok-finish.field-0 = means _ _ _ _ _ c.tokens.invariant c.in_default.ensures.none (c.is_whole.ensures.0 c.if-not-is_whole.false) c.in_ok-finish.ensures in
    (small c.args.bytes.now c.in_ok-finish.field-0 f).predicates

pub returns-clause-means : goal.returns-clause-means
returns-clause-means c = means _ _ _ _ _ c.tokens.invariant c.in_default.ensures.none (c.is_whole.ensures.0 c.if-not-is_whole.false) c.in_ok-finish.ensures
