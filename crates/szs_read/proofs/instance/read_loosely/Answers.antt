use Rattle.std.proofs.Common.{ℕ, Option, subst}
use Rattle.me_terms.specs.Sequences.{SequenceValue}
use Rattle.me_terms.specs.Values.{LabelValue}
use Rattle.me_terms.specs.declared.atom.Literal.{Literal}
use Rattle.tptp_tokens.specs.Remainders.{Remainder}
use Rattle.szs_read.specs.Finds.{FindsLiterals}
use Rattle.szs_read.proofs.FindingLines.{Skips, FindsNumber, FindsLabel, no_literals, no_number, no_label, instance_is}
use Rattle.szs_read.proofs.instance.read_loosely.Goals as goal

pub returns-in_default-clause-same : goal.returns-in_default-clause-same
returns-in_default-clause-same c =
    no_literals c.args.signature.now c.read_literals.new.signature c.args.line.now c.skip.new.tokens.bytes c.read_literals.new.tokens.bytes
    (subst (λ (r : Remainder). Skips 6 r.bytes c.skip.new.tokens.bytes) c.new-tokens.ensures c.skip.ensures.left)
    (subst (λ (o : Option (SequenceValue Literal)). FindsLiterals c.args.signature.now c.read_literals.new.signature 999 c.skip.new.tokens.bytes c.read_literals.new.tokens.bytes o) c.in_default.is c.in_ok-literals.ensures.same)

pub returns-in_default-read_number-clause-same : goal.returns-in_default-read_number-clause-same
returns-in_default-read_number-clause-same c =
    no_number c.args.signature.now c.read_literals.new.signature c.args.line.now c.skip.new.tokens.bytes c.read_literals.new.tokens.bytes c.skip-2.new.tokens.bytes c.read_number.new.tokens.bytes c.in_ok-literals.field-0
    (subst (λ (r : Remainder). Skips 6 r.bytes c.skip.new.tokens.bytes) c.new-tokens.ensures c.skip.ensures.left)
    c.in_ok-literals.ensures.same c.skip-2.ensures.left
    (subst (λ (o : Option ℕ). FindsNumber c.skip-2.new.tokens.bytes c.read_number.new.tokens.bytes o) c.in_default-read_number.is c.read_number.ensures.same)

pub returns-in_default-2-clause-same : goal.returns-in_default-2-clause-same
returns-in_default-2-clause-same c =
    no_label c.args.signature.now c.read_literals.new.signature c.args.line.now c.skip.new.tokens.bytes c.read_literals.new.tokens.bytes c.skip-2.new.tokens.bytes c.read_number.new.tokens.bytes c.skip-3.new.tokens.bytes c.in_ok-literals.field-0 c.read_number.result
    (subst (λ (r : Remainder). Skips 6 r.bytes c.skip.new.tokens.bytes) c.new-tokens.ensures c.skip.ensures.left)
    c.in_ok-literals.ensures.same c.skip-2.ensures.left c.read_number.ensures.same c.skip-3.ensures.left
    (subst (λ (o : Option LabelValue). FindsLabel c.skip-3.new.tokens.bytes o) c.in_default-2.is c.in_ok-label.ensures.same)

pub returns-clause-same : goal.returns-clause-same
returns-clause-same c =
    instance_is c.args.signature.now c.read_literals.new.signature c.args.line.now c.skip.new.tokens.bytes c.read_literals.new.tokens.bytes c.skip-2.new.tokens.bytes c.read_number.new.tokens.bytes c.skip-3.new.tokens.bytes c.in-Some.literals c.in-Some-read_number.number c.in-Some-2.label
    (subst (λ (r : Remainder). Skips 6 r.bytes c.skip.new.tokens.bytes) c.new-tokens.ensures c.skip.ensures.left)
    (subst (λ (o : Option (SequenceValue Literal)). FindsLiterals c.args.signature.now c.read_literals.new.signature 999 c.skip.new.tokens.bytes c.read_literals.new.tokens.bytes o) c.in-Some.is c.in_ok-literals.ensures.same)
    c.skip-2.ensures.left
    (subst (λ (o : Option ℕ). FindsNumber c.skip-2.new.tokens.bytes c.read_number.new.tokens.bytes o) c.in-Some-read_number.is c.read_number.ensures.same)
    c.skip-3.ensures.left
    (subst (λ (o : Option LabelValue). FindsLabel c.skip-3.new.tokens.bytes o) c.in-Some-2.is c.in_ok-label.ensures.same)
