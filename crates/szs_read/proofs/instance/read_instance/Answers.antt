use Rattle.std.proofs.Common.{◌∙◌, ◌<◌, ◌^◌, ◌++◌, ℕ, List, Option, refl, ap, subst, arith}
use Rattle.std.specs.Cmp.Lexicographic.{other_text}
use Rattle.szs_read.specs.ClaimText.{instance_line}
use Rattle.szs_read.specs.Finds.{FindsInstanceText}
use Rattle.szs_read.specs.Values.{InstanceLineValue}
use Rattle.szs_read.proofs.FindingLines.{same_instance}
use Rattle.szs_read.proofs.Symbols.{if_some}
use Rattle.szs_read.proofs.instance.read_instance.Goals as goal

pub returns-in_default-clause-same : goal.returns-in_default-clause-same
returns-in_default-clause-same c = λ end line functions predicates h.
    let small : c.args.k < 2 ^ 64 = omega arith in
    let finds = subst (λ (o : Option InstanceLineValue). FindsInstanceText c.args.signature.now c.read_loosely.new.signature c.args.line.now o) c.in_default.is c.in_ok-instance.ensures.same in
    let found = finds end c.args.k line functions predicates small h in
    (absurd found.0, found.1)

pub returns-then-eq-clause-same : goal.returns-then-eq-clause-same
returns-then-eq-clause-same c = λ end line functions predicates h.
    let small : c.args.k < 2 ^ 64 = omega arith in
    let finds = subst (λ (o : Option InstanceLineValue). FindsInstanceText c.args.signature.now c.read_loosely.new.signature c.args.line.now o) c.in-Some.is c.in_ok-instance.ensures.same in
    (refl, (same_instance c.args.signature.now c.read_loosely.new.signature end c.args.k c.args.line.now line c.in-Some.instance functions predicates small finds (if_some _ _ _ c.in-Some.is c.in_ok-instance.ensures.lawful) h).1)

pub returns-else-eq-clause-same : goal.returns-else-eq-clause-same
returns-else-eq-clause-same c = λ end line functions predicates h.
    let small : c.args.k < 2 ^ 64 = omega arith in
    let finds = subst (λ (o : Option InstanceLineValue). FindsInstanceText c.args.signature.now c.read_loosely.new.signature c.args.line.now o) c.in-Some.is c.in_ok-instance.ensures.same in
    let same = same_instance c.args.signature.now c.read_loosely.new.signature end c.args.k c.args.line.now line c.in-Some.instance functions predicates small finds (if_some _ _ _ c.in-Some.is c.in_ok-instance.ensures.lawful) h in (
      absurd (other_text _ _ c.if-eq.ensures (c.as_slice.ensures.value ∙ c.in_ok-push_instance.ensures ∙ ap (λ (v : List ℕ). v ++ instance_line c.read_loosely.new.signature c.args.k c.in-Some.instance) c.new-text.ensures.items ∙ same.0)),
      same.1,
    )
