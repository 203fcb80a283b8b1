use Rattle.std.proofs.Common.{List, [], ◌∷◌, ◌++◌, length, append-nil, refl, sym, subst, ◌∙◌}
use Rattle.branch_core.specs.Hooks.{History}
use Rattle.branch_core.specs.Paths.{Turns}
use Rattle.branch_core.specs.Pieces.{Piece}
use Rattle.branch_walk.specs.Tallies.{IsTally, TakesOwnLeaf, TakesLoss, cuts, losses}
use Rattle.branch_walk.specs.declared.state.State.TheVariants as state
use Rattle.branch_walk.specs.declared.state.Visit.TheVariants as visit
use Rattle.branch_walk.specs.declared.tally.Tally.{Tally}
use Rattle.branch_walk.specs.Turning.{IsAllBack}
use Rattle.branch_walk.proofs.Descents.{descends, lifted}
use Rattle.branch_walk.proofs.Pushes.{open_loses, sated_takes}
use Rattle.branch_walk.proofs.Spines.{same_gifts}
use Rattle.branch_walk.proofs.Subtrees.{ends_cut, ends_exhausted, ends_going, ends_lost, visited_at, walk_begins}
use Rattle.branch_walk.proofs.Tallied.{sated_takes_cuts}
use Rattle.branch_walk.proofs.turning.Search.to_split.Goals as goal

pub down-preserved : goal.down-preserved
down-preserved g c =
    let problem = c.args.self.now.problem.now in
    let bounds = c.args.self.now.bounds.now in
    let context = c.args.branch.now.context in
    let from = c.down.branch.context in
    let to = c.visit.new.branch.context in
    let first : History = g.H.Hook.history c.args.hook.now in
    let h : History = g.H.Hook.history c.down.hook in
    let now : History = g.H.Hook.history c.visit.new.hook in
    let d = c.down.invariant.walking in
    let v = c.visit.ensures.visited in
    let O : Tally → Type 0 = λ t. TakesOwnLeaf t in
    let w = walk_begins problem bounds from h c.down.tally d.leads.grown (subst O (sym d.same) c.requires.open) in
    let at = visited_at problem bounds from to c.down.tally c.visit.new.tally v.0 v.1 c.visit.result visit.Asserted c.in-Asserted.is v.3 in
    record {
      of = c.visit.ensures.of;
      walking = descends problem bounds context first c.args.tally.now from to h now c.down.tally c.visit.new.tally v.0 v.1 d v.2 at;
      condition = same_gifts c.down.invariant.condition c.visit.ensures.condition;
    }

pub returns-in-Leaf-clause-ended : goal.returns-in-Leaf-clause-ended
returns-in-Leaf-clause-ended g c =
    let problem = c.args.self.now.problem.now in
    let bounds = c.args.self.now.bounds.now in
    let context = c.args.branch.now.context in
    let from = c.down.branch.context in
    let to = c.visit.new.branch.context in
    let first : History = g.H.Hook.history c.args.hook.now in
    let h : History = g.H.Hook.history c.down.hook in
    let now : History = g.H.Hook.history c.visit.new.hook in
    let d = c.down.invariant.walking in
    let v = c.visit.ensures.visited in
    let O : Tally → Type 0 = λ t. TakesOwnLeaf t in
    let w = walk_begins problem bounds from h c.down.tally d.leads.grown (subst O (sym d.same) c.requires.open) in
    let at = visited_at problem bounds from to c.down.tally c.visit.new.tally v.0 v.1 c.visit.result visit.Leaf c.in-Leaf.is v.3 in
    let gone : IsAllBack (length from) from from = record { later = []; was = sym (append-nil from); none = tt; at_base = refl } in (
      λ share. lifted problem bounds context from first h now c.args.tally.now c.down.tally c.visit.new.tally state.Going share d.told d.leads d.extends d.same (ends_going problem bounds from h c.down.tally from from h now c.down.tally c.visit.new.tally v.0 v.1 w v.2 at.2 at.0 gone share),
      at.0.is_open,
      λ _. (d.below.0, at.1 ∙ d.below.1),
    )

pub returns-in-Exhausted-clause-ended : goal.returns-in-Exhausted-clause-ended
returns-in-Exhausted-clause-ended g c =
    let problem = c.args.self.now.problem.now in
    let bounds = c.args.self.now.bounds.now in
    let context = c.args.branch.now.context in
    let from = c.down.branch.context in
    let to = c.visit.new.branch.context in
    let first : History = g.H.Hook.history c.args.hook.now in
    let h : History = g.H.Hook.history c.down.hook in
    let now : History = g.H.Hook.history c.visit.new.hook in
    let d = c.down.invariant.walking in
    let v = c.visit.ensures.visited in
    let O : Tally → Type 0 = λ t. TakesOwnLeaf t in
    let w = walk_begins problem bounds from h c.down.tally d.leads.grown (subst O (sym d.same) c.requires.open) in
    let at = visited_at problem bounds from to c.down.tally c.visit.new.tally v.0 v.1 c.visit.result (visit.Exhausted c.in-Exhausted.key) c.in-Exhausted.is v.3 in (
      λ share. lifted problem bounds context from first h now c.args.tally.now c.down.tally c.visit.new.tally (state.Cutting c.in-Exhausted.key) share d.told d.leads d.extends d.same (ends_exhausted problem bounds from h c.down.tally from h now c.down.tally c.visit.new.tally v.0 v.1 c.in-Exhausted.key w v.2 at.2 at.0 (λ leaves nodes t. sated_takes_cuts bounds.list c.visit.new.tally c.in-Exhausted.key nodes at.0.sated leaves t) share),
      sated_takes c.in-Exhausted.key c.visit.new.tally.last at.0.sated,
      λ is. cc is,
    )

pub returns-in-Cut-clause-ended : goal.returns-in-Cut-clause-ended
returns-in-Cut-clause-ended g c =
    let problem = c.args.self.now.problem.now in
    let bounds = c.args.self.now.bounds.now in
    let context = c.args.branch.now.context in
    let from = c.down.branch.context in
    let to = c.visit.new.branch.context in
    let first : History = g.H.Hook.history c.args.hook.now in
    let h : History = g.H.Hook.history c.down.hook in
    let now : History = g.H.Hook.history c.visit.new.hook in
    let d = c.down.invariant.walking in
    let v = c.visit.ensures.visited in
    let O : Tally → Type 0 = λ t. TakesOwnLeaf t in
    let w = walk_begins problem bounds from h c.down.tally d.leads.grown (subst O (sym d.same) c.requires.open) in
    let at = visited_at problem bounds from to c.down.tally c.visit.new.tally v.0 v.1 c.visit.result (visit.Cut c.in-Cut.key) c.in-Cut.is v.3 in
    let T : Tally → Type 0 = λ t. (leaves : List Piece) (node : Turns) (nodes : List Turns) → IsTally bounds.list t leaves → IsTally bounds.list c.cut.new.self (leaves ++ cuts c.in-Cut.key (node ∷ nodes)) in (
      λ share. lifted problem bounds context from first h now c.args.tally.now c.down.tally c.cut.new.self (state.Cutting c.in-Cut.key) share d.told d.leads d.extends d.same (ends_cut problem bounds from h c.down.tally from h now c.down.tally c.cut.new.self v.0 v.1 c.in-Cut.key w v.2 at.3 at.0 at.1 (subst T at.2 (λ leaves node nodes t. c.cut.ensures.tally bounds.list leaves node nodes t)) share),
      c.cut.ensures.takes,
      λ is. cc is,
    )

pub returns-in-Lost-clause-ended : goal.returns-in-Lost-clause-ended
returns-in-Lost-clause-ended g c =
    let problem = c.args.self.now.problem.now in
    let bounds = c.args.self.now.bounds.now in
    let context = c.args.branch.now.context in
    let from = c.down.branch.context in
    let to = c.visit.new.branch.context in
    let first : History = g.H.Hook.history c.args.hook.now in
    let h : History = g.H.Hook.history c.down.hook in
    let now : History = g.H.Hook.history c.visit.new.hook in
    let d = c.down.invariant.walking in
    let v = c.visit.ensures.visited in
    let O : Tally → Type 0 = λ t. TakesOwnLeaf t in
    let w = walk_begins problem bounds from h c.down.tally d.leads.grown (subst O (sym d.same) c.requires.open) in
    let at = visited_at problem bounds from to c.down.tally c.visit.new.tally v.0 v.1 c.visit.result visit.Lost c.in-Lost.is v.3 in
    let T : Tally → Type 0 = λ t. (leaves : List Piece) (node : Turns) (nodes : List Turns) → IsTally bounds.list t leaves → IsTally bounds.list c.lose.new.self (leaves ++ losses (node ∷ nodes)) in (
      λ share. lifted problem bounds context from first h now c.args.tally.now c.down.tally c.lose.new.self state.Lost share d.told d.leads d.extends d.same (ends_lost problem bounds from h c.down.tally from h now c.down.tally c.lose.new.self v.0 v.1 w v.2 at.1 (subst T at.0 (λ leaves node nodes t. c.lose.ensures.tally bounds.list leaves node nodes t)) share),
      c.lose.ensures.takes,
      λ is. cc is,
    )

pub lose-requires : goal.lose-requires
lose-requires g c =
    let problem = c.args.self.now.problem.now in
    let bounds = c.args.self.now.bounds.now in
    let context = c.args.branch.now.context in
    let from = c.down.branch.context in
    let to = c.visit.new.branch.context in
    let first : History = g.H.Hook.history c.args.hook.now in
    let h : History = g.H.Hook.history c.down.hook in
    let now : History = g.H.Hook.history c.visit.new.hook in
    let d = c.down.invariant.walking in
    let v = c.visit.ensures.visited in
    let at = visited_at problem bounds from to c.down.tally c.visit.new.tally v.0 v.1 c.visit.result visit.Lost c.in-Lost.is v.3 in
    let L : Tally → Type 0 = λ t. TakesLoss t in
    subst L (sym (at.0 ∙ d.same)) (open_loses c.args.tally.now.last c.requires.open)
