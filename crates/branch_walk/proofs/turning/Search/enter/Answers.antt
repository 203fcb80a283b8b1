use Rattle.std.proofs.Common.{[], refl, subst, ap, inl, ◌∙◌}
use Rattle.me_terms.specs.Values.{EntryValue}
use Rattle.me_terms.specs.Context.{add}
use Rattle.me_terms.specs.Next.{IsNext}
use Rattle.me_terms.specs.AnswerViews.{next_value}
use Rattle.me_terms.specs.declared.answer.Next.{Next}
use Rattle.next_rule.specs.NextLaws.{IsAddedBy, MayBeAdded}
use Rattle.branch_core.specs.Hooks.{History}
use Rattle.branch_walk.proofs.Alongside.{still_of}
use Rattle.branch_walk.proofs.Subtrees.{extends_none}
use Rattle.branch_walk.proofs.Visits.{closed_leaf, bounded_leaf}
use Rattle.branch_walk.proofs.turning.Search.enter.Goals as goal

pub grow-requires-clause-literal : goal.grow-requires-clause-literal
grow-requires-clause-literal g c =
    let P : Next → Type 0 = λ x. (e : EntryValue) → IsAddedBy (next_value x) e → MayBeAdded c.args.self.now.bounds.now (c.args.branch.now.context) e in
    (subst P c.in-Assert.is c.requires.added c.in-Assert.entry refl).literal

pub grow-requires-clause-apart : goal.grow-requires-clause-apart
grow-requires-clause-apart g c =
    let P : Next → Type 0 = λ x. (e : EntryValue) → IsAddedBy (next_value x) e → MayBeAdded c.args.self.now.bounds.now (c.args.branch.now.context) e in
    (subst P c.in-Assert.is c.requires.added c.in-Assert.entry refl).apart

pub returns-in-Ok-clause-visited : goal.returns-in-Ok-clause-visited
returns-in-Ok-clause-visited g c =
    let here : History = g.H.Hook.history c.args.hook.now in
    let N : Next → Type 0 = λ x. IsNext c.args.self.now.problem.now c.args.self.now.bounds.now (c.args.branch.now.context) (next_value x) in
    ([], extends_none here, λ told. (c.in-Assert.entry, subst N c.in-Assert.is c.requires.next, c.in-Ok.ensures.grown, refl, refl))

pub grow-requires-in-Split-clause-literal : goal.grow-requires-in-Split-clause-literal
grow-requires-in-Split-clause-literal g c =
    let P : Next → Type 0 = λ x. (e : EntryValue) → IsAddedBy (next_value x) e → MayBeAdded c.args.self.now.bounds.now (c.args.branch.now.context) e in
    (subst P c.in-Split.is c.requires.added c.left_entry.result (inl c.left_entry.ensures)).literal

pub grow-requires-in-Split-clause-apart : goal.grow-requires-in-Split-clause-apart
grow-requires-in-Split-clause-apart g c =
    let P : Next → Type 0 = λ x. (e : EntryValue) → IsAddedBy (next_value x) e → MayBeAdded c.args.self.now.bounds.now (c.args.branch.now.context) e in
    (subst P c.in-Split.is c.requires.added c.left_entry.result (inl c.left_entry.ensures)).apart

pub returns-in-Ok-grow-clause-visited : goal.returns-in-Ok-grow-clause-visited
returns-in-Ok-grow-clause-visited g c =
    let here : History = g.H.Hook.history c.args.hook.now in
    let context = c.args.branch.now.context in
    let N : Next → Type 0 = λ x. IsNext c.args.self.now.problem.now c.args.self.now.bounds.now context (next_value x) in
    ([], extends_none here, λ told. (c.in-Split.literal, c.in-Split.kind, subst N c.in-Split.is c.requires.next, c.in-Ok-grow.ensures.grown ∙ ap (λ (e : EntryValue). add context e) c.left_entry.ensures, refl, refl))

pub returns-in-Ok-add_closed-clause-visited : goal.returns-in-Ok-add_closed-clause-visited
returns-in-Ok-add_closed-clause-visited g c =
    let here : History = g.H.Hook.history c.args.hook.now in
    let problem = c.args.self.now.problem.now in
    let bounds = c.args.self.now.bounds.now in
    let context = c.args.branch.now.context in
    let N : Next → Type 0 = λ x. IsNext problem bounds context (next_value x) in
    let grown = c.requires.grown in
    let leaf = closed_leaf problem bounds context grown c.in-Close.clause c.in-Close.tuple.items (subst N c.in-Close.is c.requires.next) c.args.tally.now c.add_closed.new.self c.in-Ok-add_closed.ensures.open c.in-Ok-add_closed.ensures.tally in
    ([], extends_none here, λ told. (leaf, refl, refl))

pub returns-in-Bounded-clause-visited : goal.returns-in-Bounded-clause-visited
returns-in-Bounded-clause-visited g c =
    let here : History = g.H.Hook.history c.args.hook.now in
    let problem = c.args.self.now.problem.now in
    let bounds = c.args.self.now.bounds.now in
    let context = c.args.branch.now.context in
    let N : Next → Type 0 = λ x. IsNext problem bounds context (next_value x) in
    let leaf = bounded_leaf problem bounds context c.in-Bounded.bound (subst N c.in-Bounded.is c.requires.next) c.args.tally.now c.add_bound.new.self c.add_bound.ensures.open c.add_bound.ensures.tally in
    ([], extends_none here, λ told. (leaf, refl, refl))

pub returns-in-Ok-clause-of : goal.returns-in-Ok-clause-of
returns-in-Ok-clause-of g c = still_of c.args.self.now.problem.now c.args.self.now.bounds.now c.args.branch.now c.grow.new.self c.requires.of c.grow.ensures.same

pub returns-in-Ok-grow-clause-of : goal.returns-in-Ok-grow-clause-of
returns-in-Ok-grow-clause-of g c = still_of c.args.self.now.problem.now c.args.self.now.bounds.now c.args.branch.now c.grow-in-Split.new.self c.requires.of c.grow-in-Split.ensures.same
