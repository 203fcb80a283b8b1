use Rattle.std.proofs.Common.{◌∙◌, ◌++◌, ℕ, List, Option, ap, subst}
use Rattle.std.specs.Cmp.Lexicographic.{other_text}
use Rattle.szs_read.specs.ClaimText.{entry_line}
use Rattle.szs_read.specs.Finds.{FindsEntryText}
use Rattle.szs_read.specs.declared.claim.EntryLine.{EntryLine}
use Rattle.szs_read.proofs.FindingLines.{same_entry}
use Rattle.szs_read.proofs.Symbols.{if_some}
use Rattle.szs_read.proofs.entry.read_entry.Goals as goal

pub returns-in_default-clause-same : goal.returns-in_default-clause-same
returns-in_default-clause-same c = λ end line functions predicates h.
    let finds = subst (λ (o : Option EntryLine). FindsEntryText c.args.signature.now c.read_loosely.new.signature c.args.last c.args.line.now o) c.in_default.is c.in_ok-entry.ensures.same in
    finds end line functions predicates h

pub returns-then-eq-clause-same : goal.returns-then-eq-clause-same
returns-then-eq-clause-same c = λ end line functions predicates h.
    let finds = subst (λ (o : Option EntryLine). FindsEntryText c.args.signature.now c.read_loosely.new.signature c.args.last c.args.line.now o) c.in-Some.is c.in_ok-entry.ensures.same in
    let same = same_entry c.args.signature.now c.read_loosely.new.signature end c.args.last c.args.line.now line c.in-Some.entry functions predicates finds (if_some _ _ _ c.in-Some.is c.in_ok-entry.ensures.lawful) h in
    (same.0, same.2)

pub returns-else-eq-clause-same : goal.returns-else-eq-clause-same
returns-else-eq-clause-same c = λ end line functions predicates h.
    let finds = subst (λ (o : Option EntryLine). FindsEntryText c.args.signature.now c.read_loosely.new.signature c.args.last c.args.line.now o) c.in-Some.is c.in_ok-entry.ensures.same in
    let same = same_entry c.args.signature.now c.read_loosely.new.signature end c.args.last c.args.line.now line c.in-Some.entry functions predicates finds (if_some _ _ _ c.in-Some.is c.in_ok-entry.ensures.lawful) h in (
      other_text _ _ c.if-eq.ensures (c.as_slice.ensures.value ∙ c.in_ok-push_entry.ensures ∙ ap (λ (v : List ℕ). v ++ entry_line c.read_loosely.new.signature c.in-Some.entry) c.new-text.ensures.items ∙ same.1),
      same.2,
    )
