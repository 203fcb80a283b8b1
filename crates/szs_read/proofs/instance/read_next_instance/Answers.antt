use Rattle.std.proofs.Common.{◌+◌, ℕ, Option, refl, ap, sym, subst}
use Rattle.std.specs.Prelude.{IsSome}
use Rattle.szs_read.specs.Finds.{IsInstanceToCome}
use Rattle.szs_read.specs.Values.{InstanceLineValue}
use Rattle.szs_read.specs.Reads.{IsReadInstance}
use Rattle.szs_read.proofs.Listed.{one_instance}
use Rattle.szs_read.proofs.Symbols.{if_some}
use Rattle.szs_read.proofs.instance.read_next_instance.Goals as goal

pub returns-in_ok-push-in-Some-clause-read : goal.returns-in_ok-push-in-Some-clause-read
returns-in_ok-push-in-Some-clause-read c = λ _ old bytes h.
    one_instance old _ _ bytes _ _ _ _
    (subst (λ (k : ℕ). IsReadInstance c.args.signature.now c.read_instance.new.signature k c.args.line.now c.in-Some.instance) (ap (λ (n : ℕ). n + 1) c.len.ensures) (if_some _ _ _ c.in-Some.is c.in_ok-instance.ensures.read))
    c.in_ok-push-in-Some.ensures h

pub returns-in_ok-push-in-Some-clause-same : goal.returns-in_ok-push-in-Some-clause-same
returns-in_ok-push-in-Some-clause-same c = λ end line functions predicates h.
    (refl, (c.in_ok-instance.ensures.same end line functions predicates (subst (λ (n : ℕ). IsInstanceToCome c.args.signature.now end (n + 1) c.args.line.now line functions predicates) (sym c.len.ensures) h)).1)

pub returns-in-None-clause-same : goal.returns-in-None-clause-same
returns-in-None-clause-same c = λ end line functions predicates h.
    let found = c.in_ok-instance.ensures.same end line functions predicates (subst (λ (n : ℕ). IsInstanceToCome c.args.signature.now end (n + 1) c.args.line.now line functions predicates) (sym c.len.ensures) h) in
    (subst (λ (o : Option InstanceLineValue). IsSome o) c.in-None.is found.0, found.1)
