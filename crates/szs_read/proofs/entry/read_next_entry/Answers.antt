use Rattle.std.proofs.Common.{ℕ, Option, Some, refl, ap, subst}
use Rattle.szs_read.specs.Finds.{FindsEntryAs}
use Rattle.szs_read.specs.declared.claim.EntryLine.{EntryLine}
use Rattle.szs_read.proofs.Listed.{one_entry}
use Rattle.szs_read.proofs.Symbols.{if_some}
use Rattle.szs_read.proofs.entry.read_next_entry.Goals as goal

pub returns-in_ok-push-in-Some-clause-read : goal.returns-in_ok-push-in-Some-clause-read
returns-in_ok-push-in-Some-clause-read c = λ old bytes h.
    one_entry old _ _ _ _ bytes _ _ _ _ (if_some _ _ _ c.in-Some.is c.in_ok-entry.ensures.read) refl c.in_ok-push-in-Some.ensures h

pub returns-in_ok-push-in-Some-clause-same : goal.returns-in_ok-push-in-Some-clause-same
returns-in_ok-push-in-Some-clause-same c = λ end line functions predicates h.
    let finds = subst (λ (o : Option EntryLine). FindsEntryAs c.args.signature.now c.read_entry.new.signature c.args.last c.args.line.now o) c.in-Some.is c.in_ok-entry.ensures.same in
    let found = finds end line functions predicates h in
    (ap (λ (n : ℕ). Some n) found.0, found.1)

pub returns-in-None-clause-same : goal.returns-in-None-clause-same
returns-in-None-clause-same c = λ end line functions predicates h.
    let finds = subst (λ (o : Option EntryLine). FindsEntryAs c.args.signature.now c.read_entry.new.signature c.args.last c.args.line.now o) c.in-None.is c.in_ok-entry.ensures.same in
    absurd (finds end line functions predicates h).0
