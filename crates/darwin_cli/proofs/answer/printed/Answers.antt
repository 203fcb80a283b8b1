use Rattle.std.proofs.Common.{ℕ, sym, subst}
use Rattle.std.specs.Prelude.{Option, Vec, IfOk}
use Rattle.std.specs.declared.alloc.Global.{Global}
use Rattle.darwin_cli.specs.Outcome.{IsTextFor}
use Rattle.darwin_cli.proofs.answer.printed.Goals as goal

pub returns-in-Some : goal.returns-in-Some
returns-in-Some c =
    let options = c.args.options.now in
    let P : Option ℕ → Type 0 = λ make. IfOk c.print_summary.result (λ (text : Vec ℕ Global). IsTextFor make options.name.items c.args.problem.now c.args.answer.now text.items) in
    subst P (sym c.in-Some.is) c.print_summary.ensures

pub returns-in-None : goal.returns-in-None
returns-in-None c =
    let options = c.args.options.now in
    let P : Option ℕ → Type 0 = λ make. IfOk c.print_answer.result (λ (text : Vec ℕ Global). IsTextFor make options.name.items c.args.problem.now c.args.answer.now text.items) in
    subst P (sym c.in-None.is) c.print_answer.ensures
