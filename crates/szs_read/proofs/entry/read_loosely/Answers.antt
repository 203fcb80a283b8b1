use Rattle.std.proofs.Common.{◌<◌, ◌^◌, ℕ, Option, length, ap, subst, arith}
use Rattle.me_terms.specs.declared.atom.Literal.{Literal}
use Rattle.me_terms.specs.declared.entry.Kind.{Kind}
use Rattle.tptp_tokens.specs.Remainders.{Remainder}
use Rattle.szs_read.specs.Finds.{FindsLiteral}
use Rattle.szs_read.proofs.FindingLines.{Skips, FindsPosition, FindsKind, no_position, no_literal, no_kind, entry_is}
use Rattle.szs_read.proofs.entry.read_loosely.Goals as goal

pub returns-in_default-clause-same : goal.returns-in_default-clause-same
returns-in_default-clause-same c =
    no_position c.args.signature.now c.args.signature.now c.args.last c.args.line.now c.skip.new.tokens.bytes c.read_position.new.tokens.bytes
    (subst (λ (r : Remainder). Skips 2 r.bytes c.skip.new.tokens.bytes) c.new-tokens.ensures c.skip.ensures.left)
    (subst (λ (o : Option ℕ). FindsPosition c.args.last c.skip.new.tokens.bytes c.read_position.new.tokens.bytes o) c.in_default.is c.read_position.ensures.same)

pub returns-in_default-2-clause-same : goal.returns-in_default-2-clause-same
returns-in_default-2-clause-same c =
    let small : length c.skip-2.new.tokens.bytes < 2 ^ 32 = omega (arith, c.skip-2.ensures.shorter, c.read_position.ensures.shorter, c.skip.ensures.shorter, ap (λ (r : Remainder). length r.bytes) c.new-tokens.ensures, c.requires.room) in
    no_literal c.args.signature.now c.literal_of.new.signature c.args.last c.args.line.now c.skip.new.tokens.bytes c.read_position.new.tokens.bytes c.skip-2.new.tokens.bytes c.read_row.new.tokens.bytes c.read_position.result c.in_ok-row.row c.in_ok-row.field-0-1
    (subst (λ (r : Remainder). Skips 2 r.bytes c.skip.new.tokens.bytes) c.new-tokens.ensures c.skip.ensures.left)
    c.read_position.ensures.same c.skip-2.ensures.left small c.in_ok-row.ensures.literal
    (subst (λ (o : Option Literal). FindsLiteral c.args.signature.now c.literal_of.new.signature 999 c.in_ok-row.row o) c.in_default-2.is c.in_ok-literal.ensures.same)

pub returns-in_default-read_kind-clause-same : goal.returns-in_default-read_kind-clause-same
returns-in_default-read_kind-clause-same c =
    let small : length c.skip-2.new.tokens.bytes < 2 ^ 32 = omega (arith, c.skip-2.ensures.shorter, c.read_position.ensures.shorter, c.skip.ensures.shorter, ap (λ (r : Remainder). length r.bytes) c.new-tokens.ensures, c.requires.room) in
    no_kind c.args.signature.now c.literal_of.new.signature c.args.last c.args.line.now c.skip.new.tokens.bytes c.read_position.new.tokens.bytes c.skip-2.new.tokens.bytes c.read_row.new.tokens.bytes c.read_position.result c.in_ok-row.row c.in_ok-row.field-0-1
    (subst (λ (r : Remainder). Skips 2 r.bytes c.skip.new.tokens.bytes) c.new-tokens.ensures c.skip.ensures.left)
    c.read_position.ensures.same c.skip-2.ensures.left small c.in_ok-row.ensures.literal
    (subst (λ (o : Option Kind). FindsKind c.read_row.new.tokens.bytes o) c.in_default-read_kind.is c.read_kind.ensures)

pub returns-clause-same : goal.returns-clause-same
returns-clause-same c =
    let small : length c.skip-2.new.tokens.bytes < 2 ^ 32 = omega (arith, c.skip-2.ensures.shorter, c.read_position.ensures.shorter, c.skip.ensures.shorter, ap (λ (r : Remainder). length r.bytes) c.new-tokens.ensures, c.requires.room) in
    entry_is c.args.signature.now c.literal_of.new.signature c.args.last c.args.line.now c.skip.new.tokens.bytes c.read_position.new.tokens.bytes c.skip-2.new.tokens.bytes c.read_row.new.tokens.bytes c.in-Some.at c.in_ok-row.row c.in_ok-row.field-0-1 c.in-Some-2.literal c.in-Some-read_kind.kind
    (subst (λ (r : Remainder). Skips 2 r.bytes c.skip.new.tokens.bytes) c.new-tokens.ensures c.skip.ensures.left)
    (subst (λ (o : Option ℕ). FindsPosition c.args.last c.skip.new.tokens.bytes c.read_position.new.tokens.bytes o) c.in-Some.is c.read_position.ensures.same)
    c.skip-2.ensures.left small c.in_ok-row.ensures.literal
    (subst (λ (o : Option Literal). FindsLiteral c.args.signature.now c.literal_of.new.signature 999 c.in_ok-row.row o) c.in-Some-2.is c.in_ok-literal.ensures.same)
    (subst (λ (o : Option Kind). FindsKind c.read_row.new.tokens.bytes o) c.in-Some-read_kind.is c.read_kind.ensures)
