use Rattle.std.proofs.Common.{rules, ◌++◌, ◌∷◌, [], refl, sym, subst, List}
use Rattle.me_unify.specs.Equations.{Equation, equation, IsSolvable}
use Rattle.me_unify.proofs.Bound.{IsStepOf, IsAdded, added, bound_back, not_solvable}
use Rattle.me_unify.proofs.bindings.Bindings.unify.Goals as goal

pub invariant_of-self-in_err-sides : goal.invariant_of-self-in_err-sides
invariant_of-self-in_err-sides c =
    rw c.reserve.ensures.items (bound_back c.self.inside.arena.nodes c.pose.new.self.nodes c.self.inside.arena.links c.pose.new.self.links c.self.inside.steps.items c.self.invariant c.pose.ensures.arena c.in_err-sides.ensures.err)

pub invariant_of-self-in-None : goal.invariant_of-self-in-None
invariant_of-self-in-None c =
    rw c.reserve.ensures.items (bound_back c.self.inside.arena.nodes c.pose.new.self.nodes c.self.inside.arena.links c.pose.new.self.links c.self.inside.steps.items c.self.invariant c.pose.ensures.arena (c.in_ok-sides.ensures.kept c.in-None.is))

pub invariant_of-self-in-Some : goal.invariant_of-self-in-Some
invariant_of-self-in-Some c =
    let is : IsStepOf c.self.inside.arena.nodes c.self.inside.arena.links (equation c.args.ls c.args.left.now c.args.rs c.args.right.now) c.in-Some.sides
    (record { left_space = c.args.ls; left = c.in-Some.sides.left; right_space = c.args.rs; right = c.in-Some.sides.right; nodes = c.len-nodes.result; links = c.len-links.result }) =
    record { left_space = refl; left = refl; right_space = refl; right = refl; nodes_are = search (rules, c.len-nodes.ensures); links_are = search (rules, c.len-links.ensures) } in
    let q : IsAdded c.pose.new.self.nodes c.pose.new.self.links c.push_reserved.new.self.items c.args.self.now (equation c.args.ls c.args.left.now c.args.rs c.args.right.now) =
    added c.self.inside.arena.nodes c.self.inside.arena.links c.pose.new.self.nodes c.pose.new.self.links c.self.inside.steps.items c.reserve.new.self.items c.push_reserved.new.self.items
    (equation c.args.ls c.args.left.now c.args.rs c.args.right.now) c.in-Some.sides (record { left_space = c.args.ls; left = c.in-Some.sides.left; right_space = c.args.rs; right = c.in-Some.sides.right; nodes = c.len-nodes.result; links = c.len-links.result })
    c.args.self.now c.self.invariant c.self.view_is c.pose.ensures.arena (rw c.in-Some.is at c.in_ok-sides.ensures.some) is c.reserve.ensures.items c.push_reserved.ensures.items in
    q.bound

pub returns-in-Some-clause-exact : goal.returns-in-Some-clause-exact
returns-in-Some-clause-exact c =
    let is : IsStepOf c.self.inside.arena.nodes c.self.inside.arena.links (equation c.args.ls c.args.left.now c.args.rs c.args.right.now) c.in-Some.sides
    (record { left_space = c.args.ls; left = c.in-Some.sides.left; right_space = c.args.rs; right = c.in-Some.sides.right; nodes = c.len-nodes.result; links = c.len-links.result }) =
    record { left_space = refl; left = refl; right_space = refl; right = refl; nodes_are = search (rules, c.len-nodes.ensures); links_are = search (rules, c.len-links.ensures) } in
    let q : IsAdded c.pose.new.self.nodes c.pose.new.self.links c.push_reserved.new.self.items c.args.self.now (equation c.args.ls c.args.left.now c.args.rs c.args.right.now) =
    added c.self.inside.arena.nodes c.self.inside.arena.links c.pose.new.self.nodes c.pose.new.self.links c.self.inside.steps.items c.reserve.new.self.items c.push_reserved.new.self.items
    (equation c.args.ls c.args.left.now c.args.rs c.args.right.now) c.in-Some.sides (record { left_space = c.args.ls; left = c.in-Some.sides.left; right_space = c.args.rs; right = c.in-Some.sides.right; nodes = c.len-nodes.result; links = c.len-links.result })
    c.args.self.now c.self.invariant c.self.view_is c.pose.ensures.arena (rw c.in-Some.is at c.in_ok-sides.ensures.some) is c.reserve.ensures.items c.push_reserved.ensures.items in
    (λ z. q.solvable, λ z. refl)

pub returns-in-Some-clause-yes : goal.returns-in-Some-clause-yes
returns-in-Some-clause-yes c z =
    let is : IsStepOf c.self.inside.arena.nodes c.self.inside.arena.links (equation c.args.ls c.args.left.now c.args.rs c.args.right.now) c.in-Some.sides
    (record { left_space = c.args.ls; left = c.in-Some.sides.left; right_space = c.args.rs; right = c.in-Some.sides.right; nodes = c.len-nodes.result; links = c.len-links.result }) =
    record { left_space = refl; left = refl; right_space = refl; right = refl; nodes_are = search (rules, c.len-nodes.ensures); links_are = search (rules, c.len-links.ensures) } in
    let q : IsAdded c.pose.new.self.nodes c.pose.new.self.links c.push_reserved.new.self.items c.args.self.now (equation c.args.ls c.args.left.now c.args.rs c.args.right.now) =
    added c.self.inside.arena.nodes c.self.inside.arena.links c.pose.new.self.nodes c.pose.new.self.links c.self.inside.steps.items c.reserve.new.self.items c.push_reserved.new.self.items
    (equation c.args.ls c.args.left.now c.args.rs c.args.right.now) c.in-Some.sides (record { left_space = c.args.ls; left = c.in-Some.sides.left; right_space = c.args.rs; right = c.in-Some.sides.right; nodes = c.len-nodes.result; links = c.len-links.result })
    c.args.self.now c.self.invariant c.self.view_is c.pose.ensures.arena (rw c.in-Some.is at c.in_ok-sides.ensures.some) is c.reserve.ensures.items c.push_reserved.ensures.items in
    q.view

pub returns-in-Some-clause-unifier : goal.returns-in-Some-clause-unifier
returns-in-Some-clause-unifier c z =
    let is : IsStepOf c.self.inside.arena.nodes c.self.inside.arena.links (equation c.args.ls c.args.left.now c.args.rs c.args.right.now) c.in-Some.sides
    (record { left_space = c.args.ls; left = c.in-Some.sides.left; right_space = c.args.rs; right = c.in-Some.sides.right; nodes = c.len-nodes.result; links = c.len-links.result }) =
    record { left_space = refl; left = refl; right_space = refl; right = refl; nodes_are = search (rules, c.len-nodes.ensures); links_are = search (rules, c.len-links.ensures) } in
    let q : IsAdded c.pose.new.self.nodes c.pose.new.self.links c.push_reserved.new.self.items c.args.self.now (equation c.args.ls c.args.left.now c.args.rs c.args.right.now) =
    added c.self.inside.arena.nodes c.self.inside.arena.links c.pose.new.self.nodes c.pose.new.self.links c.self.inside.steps.items c.reserve.new.self.items c.push_reserved.new.self.items
    (equation c.args.ls c.args.left.now c.args.rs c.args.right.now) c.in-Some.sides (record { left_space = c.args.ls; left = c.in-Some.sides.left; right_space = c.args.rs; right = c.in-Some.sides.right; nodes = c.len-nodes.result; links = c.len-links.result })
    c.args.self.now c.self.invariant c.self.view_is c.pose.ensures.arena (rw c.in-Some.is at c.in_ok-sides.ensures.some) is c.reserve.ensures.items c.push_reserved.ensures.items in
    q.unifier

pub returns-in-None-clause-exact : goal.returns-in-None-clause-exact
returns-in-None-clause-exact c =
    let P : List Equation → Type 0 = λ z. IsSolvable (z ++ equation c.args.ls c.args.left.now c.args.rs c.args.right.now ∷ []) in
    let never = not_solvable c.self.inside.arena.nodes c.self.inside.arena.links c.self.inside.steps.items (equation c.args.ls c.args.left.now c.args.rs c.args.right.now) c.self.invariant (c.in_ok-sides.ensures.none c.in-None.is) in
    (λ z. cc, λ s. absurd (never (subst P (sym c.self.view_is) s)))

pub returns-then-are_apart-clause-exact : goal.returns-then-are_apart-clause-exact
returns-then-are_apart-clause-exact c =
    let P : List Equation → Type 0 = λ z. IsSolvable (z ++ equation c.args.ls c.args.left.now c.args.rs c.args.right.now ∷ []) in
    let never = not_solvable c.self.inside.arena.nodes c.self.inside.arena.links c.self.inside.steps.items (equation c.args.ls c.args.left.now c.args.rs c.args.right.now) c.self.invariant (c.are_apart.ensures c.if-are_apart.true) in
    (λ z. cc, λ s. absurd (never (subst P (sym c.self.view_is) s)))
