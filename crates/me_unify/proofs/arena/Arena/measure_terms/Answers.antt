use Rattle.std.proofs.Common.{ℕ, ◌<◌, get_or, length, sym}
use Rattle.me_unify.specs.Measured.{IsHeld}
use Rattle.me_unify.proofs.MoreNodes.{same_links}
use Rattle.me_unify.proofs.Forest.{respects_less}
use Rattle.me_unify.proofs.Written.{colour_fits, extended}
use Rattle.me_unify.specs.Ordered.{colour}
use Rattle.me_unify.proofs.arena.Arena.measure_terms.Goals as goal

pub unreachable-requires : goal.unreachable-requires
unreachable-requires c =
    let s = c.requires.solution in
    let new = c.add_all.new.self.nodes in
    let fit = c.add_all.ensures.arena.fit in
    let kept = extended c.args.self.now.nodes c.add_all.new.self.nodes c.args.self.now.links s.0 s.1.0 c.requires.arena fit c.add_all.ensures.grown s.1.1.0 s.1.1.1 in
    let holds = respects_less c.add_all.new.self.links c.args.self.now.links (colour c.add_all.new.self.nodes s.0) (same_links c.add_all.new.self.links c.args.self.now.links (sym c.add_all.ensures.froms) (sym c.add_all.ensures.tos)) kept in
    let none = rw c.as_slice.ensures at (c.in_ok-list.ensures.none c.in_default.is) in
    none s.0 (colour c.add_all.new.self.nodes s.0) (colour_fits c.add_all.new.self.nodes s.0 fit) holds

pub returns-clause-measure : goal.returns-clause-measure
returns-clause-measure c t h fits reading =
    let args = c.in_ok-xs.ensures.made t h fits in
    let held = rw c.as_slice-2.ensures at (c.in_ok-measures.ensures.held h) in
    let each : (i : ℕ) → i < length c.in_ok-xs.xs.items → IsHeld h c.in_ok-measures.measures.items (get_or c.in_ok-xs.xs.items i 0) = λ i lt. held reading (get_or c.in_ok-xs.xs.items i 0) (c.in_ok-xs.ensures.within i lt) in
    let all = rw (c.deref-2.ensures.value, c.deref-3.ensures.value) at (c.measure_all.ensures h) in
    rw (sym args) (all each)
