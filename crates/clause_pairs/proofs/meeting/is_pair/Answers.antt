use Rattle.std.proofs.Common.{◌↔◌, IsTrue, Bool, subst, ap}
use Rattle.std.specs.Prelude.{IfOk}
use Rattle.me_terms.specs.Values.{EntryValue}
use Rattle.me_terms.specs.Contradictory.{Unifiable}
use Rattle.me_terms.specs.declared.atom.Pattern.{Pattern}
use Rattle.me_terms.specs.declared.atom.Pattern.TheVariants.{Of}
use Rattle.me_unify.proofs.Forest.{if_ok_map}
use Rattle.me_laws_increments.specs.Pairs.{IsPair}
use Rattle.clause_pairs.proofs.meeting.is_pair.Goals as goal

pub returns-then-is_opposite : goal.returns-then-is_opposite
returns-then-is_opposite c =
    let e = c.args.entry.now in
    let l = c.args.literal.now in
    let P : Bool → Type 0 = λ answer. IsTrue answer ↔ Unifiable e.atom (Of l.atom) in
    let Q : Bool → Type 0 = λ answer. IsTrue answer ↔ IsPair e l in
    let R : Pattern → Type 0 = λ a. IfOk c.meets.result (λ answer. IsTrue answer ↔ Unifiable a (Of l.atom)) in
    let opposite = c.is_opposite.ensures.0 c.if-is_opposite.true in
    if_ok_map c.meets.result P Q (λ answer h. (λ t. (opposite, h.0 t), λ p. h.1 p.1)) (subst R (ap (λ (z : EntryValue). z.atom) c.entry.view_is) c.meets.ensures)
