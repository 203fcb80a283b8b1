use Rattle.std.proofs.Common.{◌≡◌, not, ap}
use Rattle.me_terms.specs.Measures.{complement, canonical_literal}
use Rattle.me_terms.specs.Unifier.{unified}
use Rattle.me_terms.specs.declared.atom.Literal.{Literal}
use Rattle.context_unifier.proofs.Produced.{produces_by, by_produces}
use Rattle.context_unifier.proofs.productive.produces_place.Goals as goal

pub returns : goal.returns
returns g c f l general at =
    let context = g.V.View.context c.args.view.now in
    let m : Literal = record { positive = not c.in_ok-literal.literal.positive; atom = c.in_ok-literal.literal.atom } in
    let same : m ≡ complement (canonical_literal (unified f l)) = ap complement (c.in_ok-literal.ensures f l general at) in (
      λ h. produces_by context c.args.k (unified f l) m same (c.produces.ensures.0 h),
      λ p. c.produces.ensures.1 (by_produces context c.args.k (unified f l) m same p),
    )
