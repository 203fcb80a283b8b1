use Rattle.std.proofs.Common.{◌≡◌, ◌⊎◌, ℕ, List, subst}
use Rattle.std.specs.Prelude.{IfOk, IfErr}
use Rattle.szs_print.specs.declared.refusal.Refusal.{Refusal}
use Rattle.szs_print.specs.declared.refusal.Refusal.TheVariants.{Memory}
use Rattle.answer_check.specs.Checks.{IsChecked, IsInputCause, IsInputChecked}
use Rattle.answer_check.specs.declared.checking.Checked.{Checked}
use Rattle.answer_check.proofs.Sources.{if_ok, read_gave_all, cause_of_input}
use Rattle.answer_check.proofs.top.check_source.Goals as goal

pub returns-in-Ok-clause-checked : goal.returns-in-Ok-clause-checked
returns-in-Ok-clause-checked g c =
    let read = c.in-Ok.ensures in
    let old = c.args.source.now in
    let new = c.read_all.new.source in
    let bytes = c.in-Ok.input.items in
    let all = read_gave_all g.S.Source.left g.S.Source.given g.S.Source.ended g.S.Source.faults old new bytes read.whole read.end read.front read.count read.ended read.size in
    let P : Checked → Type 0 = λ checked. IsInputChecked c.deref.result.now checked.status checked.text.items in
    let Q : Checked → Type 0 = λ checked. IsChecked g.S.Source.left g.S.Source.given g.S.Source.ended old new checked.status checked.text.items in
    if_ok c.check_input.result P Q (λ checked h. (bytes, all, subst (λ (z : List ℕ). IsInputChecked z checked.status checked.text.items) c.deref.ensures.value h)) c.check_input.ensures.checked

pub returns-in-Ok-clause-refused : goal.returns-in-Ok-clause-refused
returns-in-Ok-clause-refused g c =
    let read = c.in-Ok.ensures in
    let old = c.args.source.now in
    let new = c.read_all.new.source in
    let bytes = c.in-Ok.input.items in
    let all = read_gave_all g.S.Source.left g.S.Source.given g.S.Source.ended g.S.Source.faults old new bytes read.whole read.end read.front read.count read.ended read.size in
    let P : List ℕ → Type 0 = λ xs. IfErr c.check_input.result (λ r. (r ≡ Memory) ⊎ IsInputCause xs r) in
    cause_of_input g.S.Source.left g.S.Source.given g.S.Source.ended g.S.Source.faults old new bytes c.check_input.result all (subst P c.deref.ensures.value c.check_input.ensures.refused)
