use Rattle.std.proofs.Common.{◌≡◌, arith, false, Bool, ◌↔◌}
use Rattle.std.specs.Prelude.{IsTrue}
use Rattle.me_terms.specs.Substitutions.{Family}
use Rattle.me_unify.specs.Linked.{Colouring, IsColoured, Respects}
use Rattle.me_unify.proofs.Forest.{respects_less, if_ok_map, if_ok_all}
use Rattle.me_unify.proofs.Later.{order_before}
use Rattle.me_unify.proofs.Steps.{closed_kept, longer_twice}
use Rattle.me_unify.proofs.links.Links.try_equate.Goals as goal

pub close-requires-clause-closed : goal.close-requires-clause-closed
close-requires-clause-closed c =
    closed_kept c.args.nodes.now c.args.self.now c.join.new.self c.len-mark.result c.join.ensures.more (omega arith) (λ k p q lt. c.requires.closed k p q (omega arith))

pub returns-then-not-branch-clause-no : goal.returns-then-not-branch-clause-no
returns-then-not-branch-clause-no c z t h fits old same = c.in_ok-close.ensures.no c.if-not-branch.true t h fits (c.join.ensures.same h old same)

pub returns-clause-yes : goal.returns-clause-yes
returns-clause-yes c =
    let Q : Bool → Type 0 = λ a. IsTrue a → (t : Family) (h : Colouring) → IsColoured c.args.nodes.now t h → (Respects c.args.self.now h × (h c.args.x ≡ h c.args.y)) ↔ Respects c.close.new.self h in
    if_ok_all c.is_ordered.result Q (λ a z t h fits. (
      λ p. c.close.ensures.same t h fits (c.join.ensures.same h p.0 p.1),
      λ new. let mid = respects_less c.join.new.self c.close.new.self h c.close.ensures.more new in
          (respects_less c.args.self.now c.join.new.self h c.join.ensures.more mid, c.in_ok-join.ensures.alike h mid),
    ))

pub returns-clause-no : goal.returns-clause-no
returns-clause-no c =
    let P : Bool → Type 0 = λ a. a ≡ false → (t : Family) (h : Colouring) → IsColoured c.args.nodes.now t h → ¬ Respects c.close.new.self h in
    let Q : Bool → Type 0 = λ a. a ≡ false → (t : Family) (h : Colouring) → IsColoured c.args.nodes.now t h → Respects c.args.self.now h → ¬ (h c.args.x ≡ h c.args.y) in
    if_ok_map c.is_ordered.result P Q (λ a p z t h fits old same. p z t h fits (c.close.ensures.same t h fits (c.join.ensures.same h old same))) c.is_ordered.ensures.no

pub is_ordered-requires-clause-before : goal.is_ordered-requires-clause-before
is_ordered-requires-clause-before c =
    order_before c.args.nodes.now c.args.self.now c.close.new.self c.len-mark.result c.close.ensures.forest (omega (arith, c.requires.nodes, c.join.ensures.size, c.close.ensures.size)) (longer_twice c.args.self.now c.join.new.self c.close.new.self c.join.ensures.more c.close.ensures.more) (omega (arith, c.len-mark.ensures)) c.requires.order
