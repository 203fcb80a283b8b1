use Rattle.std.proofs.Common.{◌≡◌, ◌++◌, List, ℕ, refl}
use Rattle.darwin_steps.specs.HiddenText.{IsHiddenText, hides_line}
use Rattle.darwin_steps.proofs.Results.{told}
use Rattle.darwin_steps.proofs.hidden.push_hidden.Goals as goal

pub returns : goal.returns
returns c =
    let names = c.in_ok-names.names.items in
    let P : Type 0 = c.push_names.new.out.items ≡ c.args.out.now.items ++ hides_line names in
    let Q : Type 0 = (x : List ℕ) × IsHiddenText c.args.context.now c.args.new.now x × (c.push_names.new.out.items ≡ c.args.out.now.items ++ x) in
    told c.push_names.result P Q (λ printed. (hides_line names, (names, c.in_ok-names.ensures, refl), printed)) (rw c.as_slice.ensures.value at c.push_names.ensures)
