use Rattle.std.proofs.Common.{◌≡◌, length, subst, ap, ◌∙◌, arith}
use Rattle.me_terms.specs.Values.{EntryValue}
use Rattle.me_terms.specs.Context.{Context, add}
use Rattle.me_terms.specs.Validity.{IsLawful}
use Rattle.me_terms.specs.declared.bounds.Bounds.{Bounds}
use Rattle.ground_refutation.proofs.Results.{on_ok_map}
use Rattle.branch_walk.specs.Along.{BranchValue}
use Rattle.branch_walk.specs.Turning.{beside}
use Rattle.branch_walk.proofs.Alongside.{still_of}
use Rattle.branch_walk.proofs.Ends.{longer}
use Rattle.branch_walk.proofs.Reasons.{can_turn, has_turned}
use Rattle.branch_walk.proofs.kept.KeptBranch.turn_right.Goals as goal

pub beside_last-requires : goal.beside_last-requires
beside_last-requires g c = rw (← c.self.view_is) at c.requires.left

pub shrink-requires : goal.shrink-requires
shrink-requires g c =
    let s = c.requires.left in
    let many = ap length s.is in
    let more = longer s.before s.left in
    let some = s.some in
    record { some = omega (arith, many, more, some) }

pub grow-requires-clause-literal : goal.grow-requires-clause-literal
grow-requires-clause-literal g c =
    let k = c.args.self.now in
    let same = ap (λ (z : BranchValue). z.context) c.self.view_is in
    let test : (before : Context) (last : EntryValue) → k.context ≡ add before last → c.in_ok-entry.entry ≡ beside last = λ before last is. c.in_ok-entry.ensures before last (same ∙ is) in
    (can_turn k.problem k.bounds k.context c.shrink.new.self.context c.in_ok-entry.entry c.requires.grown c.requires.left c.shrink.ensures.taken test).literal

pub grow-requires-clause-apart : goal.grow-requires-clause-apart
grow-requires-clause-apart g c =
    let k = c.args.self.now in
    let same = ap (λ (z : BranchValue). z.context) c.self.view_is in
    let test : (before : Context) (last : EntryValue) → k.context ≡ add before last → c.in_ok-entry.entry ≡ beside last = λ before last is. c.in_ok-entry.ensures before last (same ∙ is) in
    (can_turn k.problem k.bounds k.context c.shrink.new.self.context c.in_ok-entry.entry c.requires.grown c.requires.left c.shrink.ensures.taken test).apart

pub grow-requires-clause-room : goal.grow-requires-clause-room
grow-requires-clause-room g c =
    let k = c.args.self.now in
    let same = ap (λ (z : BranchValue). z.context) c.self.view_is in
    let test : (before : Context) (last : EntryValue) → k.context ≡ add before last → c.in_ok-entry.entry ≡ beside last = λ before last is. c.in_ok-entry.ensures before last (same ∙ is) in
    let room = (can_turn k.problem k.bounds k.context c.shrink.new.self.context c.in_ok-entry.entry c.requires.grown c.requires.left c.shrink.ensures.taken test).room in
    let P : Bounds → Type 0 = λ z. IsLawful z in
    let lawful = (subst P (ap (λ (z : BranchValue). z.bounds) c.self.view_is) c.self.invariant.1).literals.1 in
    omega (arith, room, lawful)

pub returns-clause-turned : goal.returns-clause-turned
returns-clause-turned g c =
    let k = c.args.self.now in
    let same = ap (λ (z : BranchValue). z.context) c.self.view_is in
    let test : (before : Context) (last : EntryValue) → k.context ≡ add before last → c.in_ok-entry.entry ≡ beside last = λ before last is. c.in_ok-entry.ensures before last (same ∙ is) in
    on_ok_map c.grow.result _ _ (λ grew. has_turned k.context c.shrink.new.self.context c.grow.new.self.context c.in_ok-entry.entry c.shrink.ensures.taken test grew) c.grow.ensures.grown

pub returns-clause-same : goal.returns-clause-same
returns-clause-same g c = still_of c.args.self.now.problem c.args.self.now.bounds c.shrink.new.self c.grow.new.self c.shrink.ensures.same c.grow.ensures.same
