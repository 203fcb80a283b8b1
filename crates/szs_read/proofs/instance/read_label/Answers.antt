use Rattle.std.proofs.Common.{◌∙◌, ◌∷◌, sym}
use Rattle.szs_read.specs.LineTokens.{label_token}
use Rattle.szs_read.proofs.Advances.{next_is, some_next, no_label, refused_label}
use Rattle.szs_read.proofs.instance.read_label.Goals as goal
use Rattle.szs_read.proofs.instance.read_label.Goals.{in_default-2-via-in-Some-2+else-is_formula_label, in_default-2-via-in_default-2}

pub returns-in_default-clause-same : goal.returns-in_default-clause-same
returns-in_default-clause-same c = λ label ts lawful h. absurd (some_next (label_token label) ts (c.in_default.ensures.next (label_token label ∷ ts) h).0)

pub returns-in-Some-2-clause-same : goal.returns-in-Some-2-clause-same
returns-in-Some-2-clause-same c = λ label ts lawful h.
    let next = c.in-Some.ensures.next (label_token label ∷ ts) h in
    sym c.in-Some-2.is ∙ c.in_ok-label.ensures.same label (next_is (label_token label) ts c.in-Some.token next.0)

pub returns-in_default-2-clause-same : goal.returns-in_default-2-clause-same
returns-in_default-2-clause-same c = λ label ts lawful h.
    let next = c.in-Some.ensures.next (label_token label ∷ ts) h in
    let same = c.in_ok-label.ensures.same label (next_is (label_token label) ts c.in-Some.token next.0) in
    elim c.in_default-2.branch [
      | in_default-2-via-in-Some-2+else-is_formula_label w ↦ absurd (refused_label c.in_ok-label.field-0 w.in-Some-2.label label w.is_formula_label.result w.in-Some-2.is same w.is_formula_label.ensures.all w.if-is_formula_label.false lawful.1)
      | in_default-2-via-in_default-2 w ↦ absurd (no_label c.in_ok-label.field-0 label w.in_default-2.is same)
    ]
