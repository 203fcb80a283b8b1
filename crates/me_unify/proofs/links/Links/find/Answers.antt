use Rattle.std.proofs.Common.{◌≡◌, ℕ, ◌<◌, ◌≢◌, length, get_or, ap, sym, ◌∙◌, arith}
use Rattle.me_unify.specs.Linked.{NONE}
use Rattle.me_unify.specs.FlatEnds.{end_of}
use Rattle.me_unify.proofs.FlatEnds.{end_free, end_next}
use Rattle.me_unify.proofs.Steps.{at_zero}
use Rattle.me_unify.proofs.links.Links.find.Goals as goal

pub returns-then-k-clause-last : goal.returns-then-k-clause-last
returns-then-k-clause-last c =
    let free : get_or c.args.self.now.place.items c.walk.at 0 ≡ NONE = sym (at_zero c.args.self.now.place.items c.walk.at _ c.walk.invariant.within c.index-k.ensures) ∙ c.if-k.true in
    sym (end_free c.args.self.now c.walk.at free) ∙ c.walk.invariant.last

pub walk-preserved : goal.walk-preserved
walk-preserved c =
    let k : c.index-k.result.now ≡ get_or c.args.self.now.place.items c.walk.at 0 = at_zero c.args.self.now.place.items c.walk.at _ c.walk.invariant.within c.index-k.ensures in
    let ne : get_or c.args.self.now.place.items c.walk.at 0 ≢ NONE = λ e. c.if-k.false (k ∙ e) in
    let r = c.requires.forest.linked c.walk.at c.walk.invariant.within ne in
    let lt : c.index-k.result.now < length c.args.self.now.tos.items = omega (arith, k, r.stands, c.requires.forest.paired) in
    let to : c.index-at.result.now ≡ get_or c.args.self.now.tos.items (get_or c.args.self.now.place.items c.walk.at 0) 0 =
    at_zero c.args.self.now.tos.items c.index-k.result.now _ lt c.index-at.ensures ∙ ap (λ z. get_or c.args.self.now.tos.items z 0) k in
    record {
      within = omega (arith, to, c.requires.forest.to_within (get_or c.args.self.now.place.items c.walk.at 0) r.stands);
      alike = λ h same. c.walk.invariant.alike h same ∙ (ap h (sym r.from) ∙ (same (get_or c.args.self.now.place.items c.walk.at 0) r.stands ∙ ap h (sym to)));
      last = ap (end_of c.args.self.now) to ∙ (sym (end_next c.args.self.now c.walk.at c.requires.forest c.walk.invariant.within ne) ∙ c.walk.invariant.last);
    }
