use Rattle.std.proofs.Common.{◌≡◌, ◌+◌, ◌-◌, ◌/◌, length, take, refl, ap, sym, ◌∙◌, arith}
use Rattle.std.specs.List.{fold}
use Rattle.std.specs.Hash.{HashWrites}
use Rattle.me_terms.specs.Hashed.{arguments_fed}
use Rattle.me_terms.proofs.Waiting.{values}
use Rattle.me_terms.proofs.Parts.{fed_is, weighs, arguments_fed_length, behind, inside_first, half_fed}
use Rattle.me_terms.proofs.hash.+feed_part.Goals as goal

pub symbols-preserved-then-inner-at : goal.symbols-preserved-then-inner-at
symbols-preserved-then-inner-at g t c =
    let inner = c.weight_beside-inner.result in
    let parts = fed_is c.symbols.rest.now c.in-Some.others.now c.inside-inside.result.now c.in-Some.first.now c.in-Some.ensures.cases.0 c.inside-inside.ensures in
    let weight = weighs c.symbols.rest.now c.in-Some.others.now c.inside-inside.result.now c.in-Some.first.now c.in-Some.ensures.cases.0 c.inside-inside.ensures in
    let long : length (arguments_fed (values c.inside-inside.result.now)) ≡ inner = arguments_fed_length (values c.inside-inside.result.now) ∙ sym c.weight_beside-inner.ensures in
    record {
      total = omega (arith, weight, c.weight_beside-inner.ensures, c.symbols.invariant.total);
      within = omega (arith, c.symbols.invariant.within, c.if-inner-at.true);
      fewer = c.symbols.invariant.fewer;
      fed = ap (λ (ws : HashWrites). fold g.H.Hasher.write c.symbols.state (take c.symbols.left ws)) (behind _ c.symbols.at (c.symbols.at - (1 + inner)) inner (arguments_fed (values c.symbols.rest.now)) (arguments_fed (values c.inside-inside.result.now)) (arguments_fed (values c.in-Some.others.now)) parts long (omega (arith, c.if-inner-at.true)))
          ∙ c.symbols.invariant.fed;
    }

pub symbols-preserved-then-at-left : goal.symbols-preserved-then-at-left
symbols-preserved-then-at-left g t c =
    let inner = c.weight_beside-inner.result in
    let parts = fed_is c.symbols.rest.now c.in-Some.others.now c.inside-inside.result.now c.in-Some.first.now c.in-Some.ensures.cases.0 c.inside-inside.ensures in
    let long : length (arguments_fed (values c.inside-inside.result.now)) ≡ inner = arguments_fed_length (values c.inside-inside.result.now) ∙ sym c.weight_beside-inner.ensures in
    record {
      total = c.weight_beside-inner.ensures;
      within = omega (arith, c.if-at-left.true, c.if-at-eq0.false);
      fewer = c.symbols.invariant.fewer;
      fed = ap (λ (ws : HashWrites). fold g.H.Hasher.write c.symbols.state ws) (inside_first _ c.symbols.at (c.symbols.at - 1) inner c.symbols.left (arguments_fed (values c.symbols.rest.now)) (arguments_fed (values c.inside-inside.result.now)) (arguments_fed (values c.in-Some.others.now)) parts long (omega (arith, c.if-at-eq0.false)) (omega (arith, c.if-at-left.true)))
          ∙ c.symbols.invariant.fed;
    }

pub symbols-preserved : goal.symbols-preserved
symbols-preserved g t c = record {
  total = c.symbols.invariant.total;
  within = omega (arith, c.symbols.invariant.within);
  fewer = omega (arith, c.symbols.invariant.fewer);
  fed = half_fed g.H.Hasher.write c.symbols.state c.feed_part.new.state c.symbols.at (c.symbols.left / 2) c.symbols.left (c.symbols.left - c.symbols.left / 2) (c.symbols.at + c.symbols.left / 2) (arguments_fed (values c.symbols.rest.now)) c.feed_part.ensures (omega arith) refl
      ∙ c.symbols.invariant.fed;
}
