use Rattle.std.proofs.Common.{[], refl, sym, subst}
use Rattle.me_terms.specs.Grown.{IsGrown}
use Rattle.me_terms.specs.Next.{IsNext}
use Rattle.me_terms.specs.AnswerViews.{next_value}
use Rattle.me_terms.specs.declared.bounds.Bounds.{Bounds}
use Rattle.next_rule.specs.NextLaws.{MayBeAdded}
use Rattle.branch_walk.specs.Along.{BranchValue, IsOf}
use Rattle.branch_walk.specs.Walks.{IsVisited}
use Rattle.branch_walk.proofs.Alongside.{next_of}
use Rattle.branch_walk.proofs.Visits.{extends_then}
use Rattle.branch_walk.proofs.turning.Search.visit.Goals as goal

pub returns-in-Some-clause-visited : goal.returns-in-Some-clause-visited
returns-in-Some-clause-visited g c =
    let t = c.in-Some.ensures.told in
    (t.0, [], t.1, (t.2.0, t.2.1, refl, refl))

pub enter-requires-clause-of : goal.enter-requires-clause-of
enter-requires-clause-of g c =
    let O : BranchValue → Type 0 = λ k. IsOf c.args.self.now.problem.now c.args.self.now.bounds.now k in
    subst O (sym c.next.ensures.same) c.requires.of

pub enter-requires-clause-grown : goal.enter-requires-clause-grown
enter-requires-clause-grown g c =
    let G : BranchValue → Type 0 = λ k. IsGrown c.args.self.now.problem.now c.args.self.now.bounds.now k.context in
    subst G (sym c.next.ensures.same) c.requires.grown

pub enter-requires-clause-next : goal.enter-requires-clause-next
enter-requires-clause-next g c =
    let problem = c.args.self.now.problem.now in
    let bounds = c.args.self.now.bounds.now in
    let step = next_value c.in-Ok.next in
    let N : BranchValue → Type 0 = λ k. IsNext problem bounds k.context step in
    subst N (sym c.next.ensures.same) (next_of problem bounds c.args.branch.now step c.requires.of c.in-Ok.ensures.next)

pub enter-requires-clause-added : goal.enter-requires-clause-added
enter-requires-clause-added g c = λ e added.
    let M : BranchValue → Type 0 = λ k. MayBeAdded c.args.self.now.bounds.now k.context e in
    let B : Bounds → Type 0 = λ b. MayBeAdded b c.args.branch.now.context e in
    subst M (sym c.next.ensures.same) (subst B c.requires.of.same_bounds (c.in-Ok.ensures.added e added))

pub returns-in-Ok-clause-visited : goal.returns-in-Ok-clause-visited
returns-in-Ok-clause-visited g c =
    let t = c.told_cut.ensures.told in
    let e = c.enter.ensures.visited in
    let V : BranchValue → Type 0 = λ k. IsVisited c.args.self.now.problem.now c.args.self.now.bounds.now k.context c.enter.new.branch.context c.args.tally.now c.enter.new.tally t.0 e.0 c.enter.result in
    (t.0, e.0, extends_then t.1 e.1, subst V c.next.ensures.same (e.2 t.0))

pub returns-in-Err-clause-visited : goal.returns-in-Err-clause-visited
returns-in-Err-clause-visited g c =
    let t = c.told_cut.ensures.told in
    (t.0, [], t.1, (refl, refl))

pub returns-in-Err-clause-of : goal.returns-in-Err-clause-of
returns-in-Err-clause-of g c =
    let O : BranchValue → Type 0 = λ k. IsOf c.args.self.now.problem.now c.args.self.now.bounds.now k in
    subst O (sym c.next.ensures.same) c.requires.of
