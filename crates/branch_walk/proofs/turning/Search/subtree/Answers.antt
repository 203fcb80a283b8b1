use Rattle.std.proofs.Common.{ℕ, ◌≤◌, List, ◌∷◌, ◌++◌, length, sym, subst, arith}
use Rattle.me_terms.specs.Context.{Context}
use Rattle.branch_core.specs.Hooks.{History}
use Rattle.branch_core.specs.Pieces.{Piece}
use Rattle.branch_walk.specs.Tallies.{IsTally, TakesLoss, cuts, losses}
use Rattle.branch_walk.specs.Turning.{IsAllBack, IsBackAtLeft}
use Rattle.branch_core.specs.Paths.{Turns}
use Rattle.branch_walk.specs.declared.state.Visit.TheVariants as visit
use Rattle.branch_walk.specs.declared.tally.Tally.{Tally}
use Rattle.branch_walk.proofs.Alongside.{grown_of, still_of}
use Rattle.branch_walk.proofs.OwnParts.{told_longer}
use Rattle.branch_walk.proofs.Pushes.{adds_none, adds_then, open_loses}
use Rattle.me_terms.specs.Grown.{IsGrown}
use Rattle.branch_walk.proofs.Reasons.{left_grown}
use Rattle.branch_walk.proofs.Spines.{same_gifts}
use Rattle.branch_walk.proofs.Subtrees.{ends_cut, ends_exhausted, ends_going, ends_lost, ends_lost_behind, grown_some, less_asserted, less_left, less_turned, visited_at, walk_asserts, walk_begins, walk_left, walk_turns}
use Rattle.branch_walk.proofs.Tallied.{sated_takes_cuts}
use Rattle.branch_walk.proofs.Waiting.{back_at_root, long}
use Rattle.branch_walk.proofs.turning.Search.subtree.Goals as goal

pub walk-init : goal.walk-init
walk-init g c =
    let first : History = g.H.Hook.history c.args.hook.now in
    record {
      of = c.requires.of;
      walking = walk_begins c.args.self.now.problem.now c.args.self.now.bounds.now (c.args.branch.now.context) first c.args.tally.now c.requires.grown c.requires.open;
      pushes = adds_none c.args.tally.now;
      condition = λ path work. (λ h. h, λ h. h);
    }

pub visit-requires-clause-kept : goal.visit-requires-clause-kept
visit-requires-clause-kept g c = (_, c.walk.invariant.walking.tally c.requires.kept.0 c.requires.kept.1)

pub walk-smaller-in-Asserted : goal.walk-smaller-in-Asserted
walk-smaller-in-Asserted g c =
    let problem = c.args.self.now.problem.now in
    let bounds = c.args.self.now.bounds.now in
    let root = c.args.branch.now.context in
    let from = c.walk.branch.context in
    let to = c.visit.new.branch.context in
    let first : History = g.H.Hook.history c.args.hook.now in
    let h : History = g.H.Hook.history c.walk.hook in
    let now : History = g.H.Hook.history c.visit.new.hook in
    let w = c.walk.invariant.walking in
    let v = c.visit.ensures.visited in
    let at = visited_at problem bounds from to c.walk.tally c.visit.new.tally v.0 v.1 c.visit.result visit.Asserted c.in-Asserted.is v.3 in
    less_asserted problem bounds from to c.walk.tally c.visit.new.tally v.0 v.1 at

pub walk-preserved-in-Asserted : goal.walk-preserved-in-Asserted
walk-preserved-in-Asserted g c =
    let problem = c.args.self.now.problem.now in
    let bounds = c.args.self.now.bounds.now in
    let root = c.args.branch.now.context in
    let from = c.walk.branch.context in
    let to = c.visit.new.branch.context in
    let first : History = g.H.Hook.history c.args.hook.now in
    let h : History = g.H.Hook.history c.walk.hook in
    let now : History = g.H.Hook.history c.visit.new.hook in
    let w = c.walk.invariant.walking in
    let v = c.visit.ensures.visited in
    let at = visited_at problem bounds from to c.walk.tally c.visit.new.tally v.0 v.1 c.visit.result visit.Asserted c.in-Asserted.is v.3 in
    record {
      of = c.visit.ensures.of;
      walking = walk_asserts problem bounds root first c.args.tally.now from to h now c.walk.tally c.visit.new.tally v.0 v.1 w v.2 at;
      pushes = adds_then c.walk.invariant.pushes c.visit.ensures.pushes;
      condition = same_gifts c.walk.invariant.condition c.visit.ensures.condition;
    }

pub walk-smaller-in-Left : goal.walk-smaller-in-Left
walk-smaller-in-Left g c =
    let problem = c.args.self.now.problem.now in
    let bounds = c.args.self.now.bounds.now in
    let root = c.args.branch.now.context in
    let from = c.walk.branch.context in
    let to = c.visit.new.branch.context in
    let first : History = g.H.Hook.history c.args.hook.now in
    let h : History = g.H.Hook.history c.walk.hook in
    let now : History = g.H.Hook.history c.visit.new.hook in
    let w = c.walk.invariant.walking in
    let v = c.visit.ensures.visited in
    let at = visited_at problem bounds from to c.walk.tally c.visit.new.tally v.0 v.1 c.visit.result visit.Left c.in-Left.is v.3 in
    less_left problem bounds from to c.walk.tally c.visit.new.tally v.0 v.1 at

pub walk-preserved-in-Left : goal.walk-preserved-in-Left
walk-preserved-in-Left g c =
    let problem = c.args.self.now.problem.now in
    let bounds = c.args.self.now.bounds.now in
    let root = c.args.branch.now.context in
    let from = c.walk.branch.context in
    let to = c.visit.new.branch.context in
    let first : History = g.H.Hook.history c.args.hook.now in
    let h : History = g.H.Hook.history c.walk.hook in
    let now : History = g.H.Hook.history c.visit.new.hook in
    let w = c.walk.invariant.walking in
    let v = c.visit.ensures.visited in
    let at = visited_at problem bounds from to c.walk.tally c.visit.new.tally v.0 v.1 c.visit.result visit.Left c.in-Left.is v.3 in
    record {
      of = c.visit.ensures.of;
      walking = walk_left problem bounds root first c.args.tally.now from to h now c.walk.tally c.visit.new.tally v.0 v.1 w v.2 at;
      pushes = adds_then c.walk.invariant.pushes c.visit.ensures.pushes;
      condition = same_gifts c.walk.invariant.condition c.visit.ensures.condition;
    }

pub back-requires : goal.back-requires
back-requires g c =
    let problem = c.args.self.now.problem.now in
    let bounds = c.args.self.now.bounds.now in
    let root = c.args.branch.now.context in
    let from = c.walk.branch.context in
    let to = c.visit.new.branch.context in
    let first : History = g.H.Hook.history c.args.hook.now in
    let h : History = g.H.Hook.history c.walk.hook in
    let now : History = g.H.Hook.history c.visit.new.hook in
    let w = c.walk.invariant.walking in
    let v = c.visit.ensures.visited in
    let at = visited_at problem bounds from to c.walk.tally c.visit.new.tally v.0 v.1 c.visit.result visit.Leaf c.in-Leaf.is v.3 in
    let number = c.len-base.ensures.number in
    let some = grown_some c.requires.grown in
    let P : Context → Type 0 = λ x. length root ≤ length x in
    let above = subst P (sym at.1) (long problem bounds root w.waits) in
    record { base = (omega (arith, number, some), omega (arith, number, above)) }

pub returns-then-not-back-clause-walked : goal.returns-then-not-back-clause-walked
returns-then-not-back-clause-walked g c =
    let problem = c.args.self.now.problem.now in
    let bounds = c.args.self.now.bounds.now in
    let root = c.args.branch.now.context in
    let from = c.walk.branch.context in
    let to = c.visit.new.branch.context in
    let first : History = g.H.Hook.history c.args.hook.now in
    let h : History = g.H.Hook.history c.walk.hook in
    let now : History = g.H.Hook.history c.visit.new.hook in
    let w = c.walk.invariant.walking in
    let v = c.visit.ensures.visited in
    let at = visited_at problem bounds from to c.walk.tally c.visit.new.tally v.0 v.1 c.visit.result visit.Leaf c.in-Leaf.is v.3 in
    let end = c.back.new.self.context in
    let B : ℕ × Context → Type 0 = λ z. IsAllBack z.0 z.1 end in
    let number = c.len-base.ensures.number in
    let gone = subst B (λ i. (number i, at.1 i)) (c.back.ensures.none c.if-not-back.true) in
    ends_going problem bounds root first c.args.tally.now from end h now c.walk.tally c.visit.new.tally v.0 v.1 w v.2 at.2 at.0 gone

pub returns-then-not-back-clause-stands : goal.returns-then-not-back-clause-stands
returns-then-not-back-clause-stands g c =
    let problem = c.args.self.now.problem.now in
    let bounds = c.args.self.now.bounds.now in
    let root = c.args.branch.now.context in
    let from = c.walk.branch.context in
    let to = c.visit.new.branch.context in
    let first : History = g.H.Hook.history c.args.hook.now in
    let h : History = g.H.Hook.history c.walk.hook in
    let now : History = g.H.Hook.history c.visit.new.hook in
    let w = c.walk.invariant.walking in
    let v = c.visit.ensures.visited in
    let at = visited_at problem bounds from to c.walk.tally c.visit.new.tally v.0 v.1 c.visit.result visit.Leaf c.in-Leaf.is v.3 in
    let end = c.back.new.self.context in
    let B : ℕ × Context → Type 0 = λ z. IsAllBack z.0 z.1 end in
    let number = c.len-base.ensures.number in
    let gone = subst B (λ i. (number i, at.1 i)) (c.back.ensures.none c.if-not-back.true) in
    λ _. (back_at_root problem bounds root from end w.waiting w.waits gone).1

pub turn_right-requires-clause-grown : goal.turn_right-requires-clause-grown
turn_right-requires-clause-grown g c =
    let problem = c.args.self.now.problem.now in
    let bounds = c.args.self.now.bounds.now in
    let root = c.args.branch.now.context in
    let from = c.walk.branch.context in
    let to = c.visit.new.branch.context in
    let first : History = g.H.Hook.history c.args.hook.now in
    let h : History = g.H.Hook.history c.walk.hook in
    let now : History = g.H.Hook.history c.visit.new.hook in
    let w = c.walk.invariant.walking in
    let v = c.visit.ensures.visited in
    let at = visited_at problem bounds from to c.walk.tally c.visit.new.tally v.0 v.1 c.visit.result visit.Leaf c.in-Leaf.is v.3 in
    let end = c.back.new.self.context in
    let B : ℕ × Context → Type 0 = λ z. IsBackAtLeft z.0 z.1 end in
    let number = c.len-base.ensures.number in
    let there = subst B (λ i. (number i, at.1 i)) (c.back.ensures.left c.if-not-back.false) in
    let above = there.above in
    let some = grown_some c.requires.grown in
    let G : Context → Type 0 = λ x. IsGrown problem bounds x in
    let of = still_of problem bounds c.visit.new.branch c.back.new.self c.visit.ensures.of c.back.ensures.same in
    grown_of problem bounds c.back.new.self of (subst G (sym there.now_is) (left_grown problem bounds from there.before there.later there.left w.grown there.was (omega (arith, above, some)) there.is_left))

pub turn_right-requires-clause-left : goal.turn_right-requires-clause-left
turn_right-requires-clause-left g c =
    let problem = c.args.self.now.problem.now in
    let bounds = c.args.self.now.bounds.now in
    let root = c.args.branch.now.context in
    let from = c.walk.branch.context in
    let to = c.visit.new.branch.context in
    let first : History = g.H.Hook.history c.args.hook.now in
    let h : History = g.H.Hook.history c.walk.hook in
    let now : History = g.H.Hook.history c.visit.new.hook in
    let w = c.walk.invariant.walking in
    let v = c.visit.ensures.visited in
    let at = visited_at problem bounds from to c.walk.tally c.visit.new.tally v.0 v.1 c.visit.result visit.Leaf c.in-Leaf.is v.3 in
    let end = c.back.new.self.context in
    let B : ℕ × Context → Type 0 = λ z. IsBackAtLeft z.0 z.1 end in
    let number = c.len-base.ensures.number in
    let there = subst B (λ i. (number i, at.1 i)) (c.back.ensures.left c.if-not-back.false) in
    let above = there.above in
    let some = grown_some c.requires.grown in
    record { before = there.before; left = there.left; some = omega (arith, above, some); is = there.now_is; is_left = there.is_left }

pub returns-in-Err-clause-walked : goal.returns-in-Err-clause-walked
returns-in-Err-clause-walked g c =
    let problem = c.args.self.now.problem.now in
    let bounds = c.args.self.now.bounds.now in
    let root = c.args.branch.now.context in
    let from = c.walk.branch.context in
    let to = c.visit.new.branch.context in
    let first : History = g.H.Hook.history c.args.hook.now in
    let h : History = g.H.Hook.history c.walk.hook in
    let now : History = g.H.Hook.history c.visit.new.hook in
    let w = c.walk.invariant.walking in
    let v = c.visit.ensures.visited in
    let at = visited_at problem bounds from to c.walk.tally c.visit.new.tally v.0 v.1 c.visit.result visit.Leaf c.in-Leaf.is v.3 in
    let end = c.back.new.self.context in
    let B : ℕ × Context → Type 0 = λ z. IsBackAtLeft z.0 z.1 end in
    let number = c.len-base.ensures.number in
    let there = subst B (λ i. (number i, at.1 i)) (c.back.ensures.left c.if-not-back.false) in
    ends_lost_behind problem bounds root first c.args.tally.now from end h now c.walk.tally c.visit.new.tally c.lose.new.self v.0 v.1 w v.2 at.2 at.0 there (λ leaves node nodes t. c.lose.ensures.tally bounds.list leaves node nodes t)

pub walk-smaller : goal.walk-smaller
walk-smaller g c =
    let problem = c.args.self.now.problem.now in
    let bounds = c.args.self.now.bounds.now in
    let root = c.args.branch.now.context in
    let from = c.walk.branch.context in
    let to = c.visit.new.branch.context in
    let first : History = g.H.Hook.history c.args.hook.now in
    let h : History = g.H.Hook.history c.walk.hook in
    let now : History = g.H.Hook.history c.visit.new.hook in
    let w = c.walk.invariant.walking in
    let v = c.visit.ensures.visited in
    let at = visited_at problem bounds from to c.walk.tally c.visit.new.tally v.0 v.1 c.visit.result visit.Leaf c.in-Leaf.is v.3 in
    let end = c.back.new.self.context in
    let turned = c.turn_right.new.self.context in
    let B : ℕ × Context → Type 0 = λ z. IsBackAtLeft z.0 z.1 end in
    let number = c.len-base.ensures.number in
    let there = subst B (λ i. (number i, at.1 i)) (c.back.ensures.left c.if-not-back.false) in
    less_turned problem bounds from end turned (length root) (grown_some c.requires.grown) w.grown there (c.in-Ok.ensures.turned there.before there.left there.now_is)

pub walk-preserved : goal.walk-preserved
walk-preserved g c =
    let problem = c.args.self.now.problem.now in
    let bounds = c.args.self.now.bounds.now in
    let root = c.args.branch.now.context in
    let from = c.walk.branch.context in
    let to = c.visit.new.branch.context in
    let first : History = g.H.Hook.history c.args.hook.now in
    let h : History = g.H.Hook.history c.walk.hook in
    let now : History = g.H.Hook.history c.visit.new.hook in
    let w = c.walk.invariant.walking in
    let v = c.visit.ensures.visited in
    let at = visited_at problem bounds from to c.walk.tally c.visit.new.tally v.0 v.1 c.visit.result visit.Leaf c.in-Leaf.is v.3 in
    let end = c.back.new.self.context in
    let turned = c.turn_right.new.self.context in
    let B : ℕ × Context → Type 0 = λ z. IsBackAtLeft z.0 z.1 end in
    let number = c.len-base.ensures.number in
    let there = subst B (λ i. (number i, at.1 i)) (c.back.ensures.left c.if-not-back.false) in
    record {
      of = still_of problem bounds c.back.new.self c.turn_right.new.self (still_of problem bounds c.visit.new.branch c.back.new.self c.visit.ensures.of c.back.ensures.same) c.turn_right.ensures.same;
      walking = walk_turns problem bounds root first c.args.tally.now from end turned h now c.walk.tally c.visit.new.tally v.0 v.1 (grown_some c.requires.grown) w v.2 at.2 at.0 there (c.in-Ok.ensures.turned there.before there.left there.now_is);
      pushes = adds_then c.walk.invariant.pushes c.visit.ensures.pushes;
      condition = same_gifts c.walk.invariant.condition c.visit.ensures.condition;
    }

pub returns-in-Exhausted-clause-walked : goal.returns-in-Exhausted-clause-walked
returns-in-Exhausted-clause-walked g c =
    let problem = c.args.self.now.problem.now in
    let bounds = c.args.self.now.bounds.now in
    let root = c.args.branch.now.context in
    let from = c.walk.branch.context in
    let to = c.visit.new.branch.context in
    let first : History = g.H.Hook.history c.args.hook.now in
    let h : History = g.H.Hook.history c.walk.hook in
    let now : History = g.H.Hook.history c.visit.new.hook in
    let w = c.walk.invariant.walking in
    let v = c.visit.ensures.visited in
    let at = visited_at problem bounds from to c.walk.tally c.visit.new.tally v.0 v.1 c.visit.result (visit.Exhausted c.in-Exhausted.key) c.in-Exhausted.is v.3 in
    ends_exhausted problem bounds root first c.args.tally.now from h now c.walk.tally c.visit.new.tally v.0 v.1 c.in-Exhausted.key w v.2 at.2 at.0 (λ leaves nodes t. sated_takes_cuts bounds.list c.visit.new.tally c.in-Exhausted.key nodes at.0.sated leaves t)

pub returns-in-Cut-clause-walked : goal.returns-in-Cut-clause-walked
returns-in-Cut-clause-walked g c =
    let problem = c.args.self.now.problem.now in
    let bounds = c.args.self.now.bounds.now in
    let root = c.args.branch.now.context in
    let from = c.walk.branch.context in
    let to = c.visit.new.branch.context in
    let first : History = g.H.Hook.history c.args.hook.now in
    let h : History = g.H.Hook.history c.walk.hook in
    let now : History = g.H.Hook.history c.visit.new.hook in
    let w = c.walk.invariant.walking in
    let v = c.visit.ensures.visited in
    let at = visited_at problem bounds from to c.walk.tally c.visit.new.tally v.0 v.1 c.visit.result (visit.Cut c.in-Cut.key) c.in-Cut.is v.3 in
    let T : Tally → Type 0 = λ t. (leaves : List Piece) (node : Turns) (nodes : List Turns) → IsTally bounds.list t leaves → IsTally bounds.list c.cut.new.self (leaves ++ cuts c.in-Cut.key (node ∷ nodes)) in
    ends_cut problem bounds root first c.args.tally.now from h now c.walk.tally c.cut.new.self v.0 v.1 c.in-Cut.key w v.2 at.3 at.0 at.1 (subst T at.2 (λ leaves node nodes t. c.cut.ensures.tally bounds.list leaves node nodes t))

pub returns-in-Lost-clause-walked : goal.returns-in-Lost-clause-walked
returns-in-Lost-clause-walked g c =
    let problem = c.args.self.now.problem.now in
    let bounds = c.args.self.now.bounds.now in
    let root = c.args.branch.now.context in
    let from = c.walk.branch.context in
    let to = c.visit.new.branch.context in
    let first : History = g.H.Hook.history c.args.hook.now in
    let h : History = g.H.Hook.history c.walk.hook in
    let now : History = g.H.Hook.history c.visit.new.hook in
    let w = c.walk.invariant.walking in
    let v = c.visit.ensures.visited in
    let at = visited_at problem bounds from to c.walk.tally c.visit.new.tally v.0 v.1 c.visit.result visit.Lost c.in-Lost.is v.3 in
    let T : Tally → Type 0 = λ t. (leaves : List Piece) (node : Turns) (nodes : List Turns) → IsTally bounds.list t leaves → IsTally bounds.list c.lose-in-Lost.new.self (leaves ++ losses (node ∷ nodes)) in
    ends_lost problem bounds root first c.args.tally.now from h now c.walk.tally c.lose-in-Lost.new.self v.0 v.1 w v.2 at.1 (subst T at.0 (λ leaves node nodes t. c.lose-in-Lost.ensures.tally bounds.list leaves node nodes t))

pub returns-in-Cut-clause-quiet : goal.returns-in-Cut-clause-quiet
returns-in-Cut-clause-quiet g c = λ unheard.
    let problem = c.args.self.now.problem.now in
    let bounds = c.args.self.now.bounds.now in
    let root = c.args.branch.now.context in
    let from = c.walk.branch.context in
    let to = c.visit.new.branch.context in
    let first : History = g.H.Hook.history c.args.hook.now in
    let h : History = g.H.Hook.history c.walk.hook in
    let now : History = g.H.Hook.history c.visit.new.hook in
    let w = c.walk.invariant.walking in
    let v = c.visit.ensures.visited in
    let at = visited_at problem bounds from to c.walk.tally c.visit.new.tally v.0 v.1 c.visit.result (visit.Cut c.in-Cut.key) c.in-Cut.is v.3 in
    absurd (told_longer c.in-Cut.key first.told h.told now.told w.told v.0 w.extends.told_are v.2.told_are at.0 unheard)

pub lose-requires : goal.lose-requires
lose-requires g c =
    let problem = c.args.self.now.problem.now in
    let bounds = c.args.self.now.bounds.now in
    let root = c.args.branch.now.context in
    let from = c.walk.branch.context in
    let to = c.visit.new.branch.context in
    let first : History = g.H.Hook.history c.args.hook.now in
    let h : History = g.H.Hook.history c.walk.hook in
    let now : History = g.H.Hook.history c.visit.new.hook in
    let w = c.walk.invariant.walking in
    let v = c.visit.ensures.visited in
    let at = visited_at problem bounds from to c.walk.tally c.visit.new.tally v.0 v.1 c.visit.result visit.Leaf c.in-Leaf.is v.3 in
    open_loses c.visit.new.tally.last at.0.is_open

pub lose-requires-in-Lost : goal.lose-requires-in-Lost
lose-requires-in-Lost g c =
    let problem = c.args.self.now.problem.now in
    let bounds = c.args.self.now.bounds.now in
    let root = c.args.branch.now.context in
    let from = c.walk.branch.context in
    let to = c.visit.new.branch.context in
    let first : History = g.H.Hook.history c.args.hook.now in
    let h : History = g.H.Hook.history c.walk.hook in
    let now : History = g.H.Hook.history c.visit.new.hook in
    let w = c.walk.invariant.walking in
    let v = c.visit.ensures.visited in
    let at = visited_at problem bounds from to c.walk.tally c.visit.new.tally v.0 v.1 c.visit.result visit.Lost c.in-Lost.is v.3 in
    let L : Tally → Type 0 = λ t. TakesLoss t in
    subst L (sym at.0) (open_loses c.walk.tally.last w.is_open)

pub returns-then-not-back-clause-of : goal.returns-then-not-back-clause-of
returns-then-not-back-clause-of g c = still_of c.args.self.now.problem.now c.args.self.now.bounds.now c.visit.new.branch c.back.new.self c.visit.ensures.of c.back.ensures.same

pub returns-in-Err-clause-of : goal.returns-in-Err-clause-of
returns-in-Err-clause-of g c =
    let problem = c.args.self.now.problem.now in
    let bounds = c.args.self.now.bounds.now in
    still_of problem bounds c.back.new.self c.turn_right.new.self (still_of problem bounds c.visit.new.branch c.back.new.self c.visit.ensures.of c.back.ensures.same) c.turn_right.ensures.same
