use Rattle.std.proofs.Common.{Option, subst}
use Rattle.tptp_tokens.specs.Tokens.{token_value}
use Rattle.szs_read.specs.RowItems.{row_value, IsTaken}
use Rattle.szs_read.specs.declared.row.Stop.{Stop}
use Rattle.szs_read.specs.declared.row.Stop.TheVariants.{Other}
use Rattle.szs_read.proofs.RowRuns.{ends_at, ends_none, literal_ended, false_ended}
use Rattle.szs_read.proofs.row.read_row.Goals as goal

pub returns-in-Some-2-clause-literal : goal.returns-in-Some-2-clause-literal
returns-in-Some-2-clause-literal c =
    let taken = subst (λ (o : Option Stop). IsTaken (row_value c.tokens.row) (token_value c.in-Some.token) (row_value c.take.new.self) o) c.in-Some-2.is c.in_ok-stop.ensures.value in
    literal_ended c.args.tokens.now.bytes c.next_token.new.tokens.bytes c.take.new.self c.in-Some-2.stop
    (λ ts h. ends_at c.tokens.tokens.bytes c.next_token.new.tokens.bytes ts (row_value c.tokens.row) (row_value c.take.new.self) c.in-Some.token c.in-Some-2.stop c.in-Some.ensures.next taken (c.tokens.invariant.ran ts h))

pub returns-in-Some-2-clause-falsity : goal.returns-in-Some-2-clause-falsity
returns-in-Some-2-clause-falsity c =
    let taken = subst (λ (o : Option Stop). IsTaken (row_value c.tokens.row) (token_value c.in-Some.token) (row_value c.take.new.self) o) c.in-Some-2.is c.in_ok-stop.ensures.value in
    false_ended c.args.tokens.now.bytes c.next_token.new.tokens.bytes c.take.new.self c.in-Some-2.stop
    (λ ts h. ends_at c.tokens.tokens.bytes c.next_token.new.tokens.bytes ts (row_value c.tokens.row) (row_value c.take.new.self) c.in-Some.token c.in-Some-2.stop c.in-Some.ensures.next taken (c.tokens.invariant.ran ts h))

pub returns-clause-literal : goal.returns-clause-literal
returns-clause-literal c =
    literal_ended c.args.tokens.now.bytes c.next_token.new.tokens.bytes c.tokens.row Other
    (λ ts h. ends_none c.tokens.tokens.bytes c.next_token.new.tokens.bytes ts (row_value c.tokens.row) c.in_default.ensures.next (c.tokens.invariant.ran ts h))

pub returns-clause-falsity : goal.returns-clause-falsity
returns-clause-falsity c =
    false_ended c.args.tokens.now.bytes c.next_token.new.tokens.bytes c.tokens.row Other
    (λ ts h. ends_none c.tokens.tokens.bytes c.next_token.new.tokens.bytes ts (row_value c.tokens.row) c.in_default.ensures.next (c.tokens.invariant.ran ts h))
