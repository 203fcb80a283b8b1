use Rattle.std.proofs.Common.{◌≡◌, length, slice_get, Some, refl, sym, ◌∙◌, arith}
use Rattle.std.proofs.lemmas.Option.{slice_get_read}
use Rattle.me_terms.specs.Positions.{positions_of}
use Rattle.kept_asserts.proofs.Opposed.{opposed_more, opposite_all, count_is}
use Rattle.kept_asserts.proofs.opposing.are_opposite.Goals as goal

pub loop-place-preserved : goal.loop-place-preserved
loop-place-preserved g c =
    let ls = c.args.literals.now in
    let l = c.index-literals-place.result in
    let at : slice_get ls c.loop-place.place ≡ Some l = slice_get_read ls (length ls) c.loop-place.place l refl c.loop-place-test.true c.index-literals-place.is in
    opposed_more (g.V.View.context c.args.view.now) ls (positions_of c.args.skip c.as_slice-positions.result.now) c.loop-place.place l at
    (c.opposes_at.ensures.0 c.if-not-opposes_at.false) c.loop-place.invariant

pub returns-then-not-opposes_at : goal.returns-then-not-opposes_at
returns-then-not-opposes_at g c =
    let ls = c.args.literals.now in
    let l = c.index-literals-place.result in
    let at : slice_get ls c.loop-place.place ≡ Some l = slice_get_read ls (length ls) c.loop-place.place l refl c.loop-place-test.true c.index-literals-place.is in
    ((λ t. absurd (cc t)), (λ h. absurd (let t = c.opposes_at.ensures.1 (λ k p. h.visible c.loop-place.place k l at (rw c.as_slice-positions.ensures at p)) in cc (t, c.if-not-opposes_at.true))))

pub returns : goal.returns
returns g c =
    let positions = positions_of c.args.skip c.as_slice-positions.result.now in
    ((λ t. rw (← c.as_slice-positions.ensures) (opposite_all (g.V.View.context c.args.view.now) c.args.literals.now positions c.loop-place.place (count_is c.args.skip c.as_slice-positions.result.now ∙ (sym c.count_of.ensures ∙ c.if-count_of-literals.false)) (omega arith) c.loop-place.invariant)), (λ h. refl))
