use Rattle.std.proofs.Common.{◌≡◌, List, [], ◌∷◌, ◌++◌, map, length, append-nil, refl, sym, subst, ap, ◌∙◌, arith}
use Rattle.std.specs.Borrow.{Bor}
use Rattle.branch_core.specs.Filled.{Filled}
use Rattle.branch_core.specs.Parts.{PartValue, RecordValue}
use Rattle.branch_core.specs.PartViews.{part_value, part_values}
use Rattle.branch_core.specs.PathLaws.{length_turns}
use Rattle.branch_core.specs.declared.part.Part.{Part}
use Rattle.branch_core.proofs.Assembly.{map_append}
use Rattle.branch_core.proofs.FillingIn.{gift_known, longer, put_more, own_more, moved, none_more}
use Rattle.branch_core.proofs.assembling.+fill.Goals as goal
use Rattle.branch_core.proofs.assembling.+fill.Goals.{in-Gift+else-prove+in_ok-fill-in-Gift, in_default-part+in_ok-push-in_default-part}

parts_of : (view record' : RecordValue) (slice items : List Part) → view ≡ record' → view.parts ≡ map part_value items → slice ≡ items → map part_value slice ≡ record'.parts
parts_of view record' slice items is parts same = ap (map part_value) same ∙ (sym parts ∙ ap (λ (r : RecordValue). r.parts) is)

pub fill-requires : goal.fill-requires
fill-requires t c =
    let turns = c.path.view_is in
    let parts = parts_of _ c.in-Some.record.now c.as_slice-part-items.result.now c.record.inside.parts.items c.record.view_is refl c.as_slice-part-items.ensures in
    let known = gift_known c.args.records.now c.requires.whole c.in-Some.record.now c.as_slice-part-items.result.now c.loop-part.part-index c.part-item.result c.in-Gift.path _ c.in-Some.ensures.0 parts c.loop-part-test.true c.part-item.is c.in-Gift.is turns in
    let long = longer _ c.in-Some.record.now.path known.1 in
    let same : length c.in-Some.record.now.path ≡ length c.args.path = ap length c.in-Some.ensures.1 in
    let few = length_turns c.path.inside.len c.path.inside.bits in
    (omega (arith, c.decreases, long, same, few, c.if-prove.false), (c.requires.whole, (c.requires.index, known.0)))

pub loop-part-preserved : goal.loop-part-preserved
loop-part-preserved t c = λ rest fills.
    elim c.match-part.branch [
      | in-Gift+else-prove+in_ok-fill-in-Gift w ↦
          let inner = w.in_ok-fill-in-Gift.ensures in
          let more = put_more c.args.records.now c.as_slice-part-items.result.now c.loop-part.part-index c.part-item.result w.in-Gift.path _ inner.0 rest c.loop-part-test.true c.part-item.is w.in-Gift.is w.path.view_is inner.1 fills in
          let all = c.loop-part.invariant (inner.0 ++ rest) more in
          let put : part_values c.match-part.parts.items ≡ part_values c.loop-part.parts.items ++ inner.0 = ap (λ v. part_values v.items) w.parts-is ∙ inner.2 in
          (all.0, all.1, moved (part_values c.args.parts.now.items ++ all.0) (part_values c.loop-part.parts.items) inner.0 rest (part_values c.match-part.parts.items) all.2 put)
      | in_default-part+in_ok-push-in_default-part w ↦
          let more = own_more c.args.records.now c.as_slice-part-items.result.now c.loop-part.part-index c.part-item.result rest c.loop-part-test.true c.part-item.is w.in_default-part.not-Gift fills in
          let all = c.loop-part.invariant (part_value c.part-item.result ∷ rest) more in
          let put : part_values c.match-part.parts.items ≡ part_values c.loop-part.parts.items ++ part_value c.part-item.result ∷ [] =
          ap (λ v. part_values v.items) w.parts-is ∙ (ap part_values w.in_ok-push-in_default-part.ensures.items ∙ map_append (λ (q : Bor Part). part_value q.now) c.loop-part.parts.items _) in
          (all.0, all.1, moved (part_values c.args.parts.now.items ++ all.0) (part_values c.loop-part.parts.items) (part_value c.part-item.result ∷ []) rest (part_values c.match-part.parts.items) all.2 put)
    ]

pub returns : goal.returns
returns t c =
    let all = c.loop-part.invariant [] (none_more c.args.records.now c.as_slice-part-items.result.now c.loop-part.part-index c.loop-part-test.false) in
    let parts = parts_of _ c.in-Some.record.now c.as_slice-part-items.result.now c.record.inside.parts.items c.record.view_is refl c.as_slice-part-items.ensures in
    (all.0, (c.in-Some.record.now, c.in-Some.ensures.0, c.in-Some.ensures.1, subst (λ (ps : List PartValue). Filled c.args.records.now ps all.0) parts all.1), sym (all.2 ∙ append-nil (part_values c.loop-part.parts.items)))
