use Rattle.std.proofs.Common.{◌≡◌, ◌++◌, List, ℕ, Bool}
use Rattle.me_terms.specs.AnswerViews.{next_value}
use Rattle.darwin_steps.specs.Told.{IsFollowed, IsTold}
use Rattle.darwin_steps.proofs.Results.{told_of}
use Rattle.darwin_steps.proofs.Walking.{told_step}
use Rattle.darwin_steps.proofs.walk.step.Goals as goal

pub returns-clause-told : goal.returns-clause-told
returns-clause-told c =
    let problem = c.args.search.now.problem.now in
    let bounds = c.args.search.now.bounds.now in
    let old = c.args.context.now in
    let new = c.follow.new.context in
    let next = next_value c.in_ok-next.next in
    let out = c.args.out.now.items in
    let line = c.push_step.new.out.items in
    let end = c.follow.new.out.items in
    let P : Bool → Type 0 = λ b. (text : List ℕ) × IsFollowed problem old next b new text × (end ≡ line ++ text) in
    let Q : Bool → Type 0 = λ b. (text : List ℕ) × IsTold problem bounds old b new text × (end ≡ out ++ text) in
    told_of c.follow.result P Q (λ b h. told_step problem bounds old new next c.len.result out line end b c.in_ok-next.ensures.next c.len.ensures.number c.in_ok-push_step.ensures h) c.follow.ensures.told
