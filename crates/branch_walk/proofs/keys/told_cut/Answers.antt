use Rattle.std.proofs.Common.{ℕ, ◌<◌, ◌∷◌, [], Some, None, refl, subst}
use Rattle.branch_walk.proofs.Visits.{extends_look}
use Rattle.branch_walk.proofs.keys.told_cut.Goals as goal

pub returns-then-least-node_key-clause-told : goal.returns-then-least-node_key-clause-told
returns-then-least-node_key-clause-told g c =
    let P : ℕ → Type 0 = λ k. c.in-Some.least < k in
    (c.in-Some.least ∷ [], extends_look (Some c.in-Some.least) c.in-Some.ensures.history, ((0, refl), subst P c.node_key.ensures c.if-least-node_key.true))

pub returns-else-least-node_key-clause-told : goal.returns-else-least-node_key-clause-told
returns-else-least-node_key-clause-told g c = (c.in-Some.least ∷ [], extends_look (Some c.in-Some.least) c.in-Some.ensures.history, tt)

pub returns-in-None-clause-told : goal.returns-in-None-clause-told
returns-in-None-clause-told g c = ([], extends_look None c.in-None.ensures.history, tt)
