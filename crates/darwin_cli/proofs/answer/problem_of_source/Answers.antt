use Rattle.std.proofs.Common.{ℕ, List, subst, ◌≡◌, ◌⊎◌}
use Rattle.std.specs.Prelude.{IfOk, IfErr}
use Rattle.me_terms.specs.Values.{ProblemValue}
use Rattle.szs_print.specs.declared.refusal.Refusal.TheVariants.{Memory}
use Rattle.tptp_cnf.specs.Files.{IsFile}
use Rattle.darwin_cli.specs.Outcome.{IsFileCause, IsAskedFor}
use Rattle.darwin_cli.proofs.Causes.{if_ok, asked_of_bytes, cause_of_solved, read_gave_all}
use Rattle.darwin_cli.proofs.answer.problem_of_source.Goals as goal

pub returns-in-Ok-clause-refused : goal.returns-in-Ok-clause-refused
returns-in-Ok-clause-refused g c =
    let read = c.in-Ok.ensures in
    let all = read_gave_all g.S.Source.left g.S.Source.given g.S.Source.ended g.S.Source.faults c.args.options.now c.args.source.now c.read_all.new.source c.in-Ok.bytes.items read.whole read.end read.front read.count read.ended read.size in
    let P : List ℕ → Type 0 = λ xs. IfErr c.problem_of_file.result (λ r. (r ≡ Memory) ⊎ IsFileCause xs r) in
    cause_of_solved g.S.Source.left g.S.Source.given g.S.Source.ended g.S.Source.faults c.args.options.now c.args.source.now c.read_all.new.source c.in-Ok.bytes.items c.problem_of_file.result c.requires all (subst P c.deref.ensures.value c.problem_of_file.ensures.refused)

pub returns-in-Ok-clause-asked : goal.returns-in-Ok-clause-asked
returns-in-Ok-clause-asked g c =
    let options = c.args.options.now in
    let read = c.in-Ok.ensures in
    let all = read_gave_all g.S.Source.left g.S.Source.given g.S.Source.ended g.S.Source.faults options c.args.source.now c.read_all.new.source c.in-Ok.bytes.items read.whole read.end read.front read.count read.ended read.size in
    let P : ProblemValue → Type 0 = λ problem. IsFile c.deref.result.now problem in
    let Q : ProblemValue → Type 0 = λ problem. IsAskedFor g.S.Source.left g.S.Source.given g.S.Source.ended g.S.Source.faults options c.args.source.now c.read_all.new.source options.make problem in
    let means = λ (problem : ProblemValue) (is : IsFile c.deref.result.now problem).
    asked_of_bytes g.S.Source.left g.S.Source.given g.S.Source.ended g.S.Source.faults options c.args.source.now c.read_all.new.source c.in-Ok.bytes.items problem c.requires all (subst (λ (bytes : List ℕ). IsFile bytes problem) c.deref.ensures.value is) in
    if_ok c.problem_of_file.result P Q means c.problem_of_file.ensures.means
