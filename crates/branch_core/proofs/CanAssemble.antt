-- Whole records can be put together.
use Rattle.std.proofs.Common.{◌≡◌, List, Some, slice_get, sym, subst, ap, ◌∙◌}
use Rattle.branch_core.specs.Paths.{Turns, ProperlyBegins}
use Rattle.branch_core.specs.Parts.{PartValue, RecordValue}
use Rattle.branch_core.specs.Parts as part
use Rattle.branch_core.specs.Pieces.{Piece, Gift}
use Rattle.branch_core.specs.StandsFor.{part_of, Account, record_of}
use Rattle.branch_core.specs.Whole.{IsIn, AreWhole}
use Rattle.branch_core.specs.RecordLaws.{WholeCanAssemble}
use Rattle.branch_core.proofs.Assembly.{in_map, gift_piece}
use Rattle.branch_core.proofs.Filling.{map_get}
use Rattle.branch_core.proofs.CutsFollow.{whole_cuts_follow}

pub whole_can : WholeCanAssemble
whole_can problem bounds records whole =
    let n = bounds.list in
    let accounts = whole.2.0 in
    let are = whole.2.2 in
    let w : AreWhole whole.0 accounts = whole.2.1 in
    let back : (r : RecordValue) → IsIn r records → (a : Account) × IsIn a accounts × (r ≡ record_of n a) =
    λ r h.
    let P : List RecordValue → Type 0 = λ rs. slice_get rs h.0 ≡ Some r in
    let x = in_map (record_of n) accounts h.0 r (subst P are h.1) in (x.0, (h.0, x.1), x.2) in
    let there : (a : Account) → IsIn a accounts → IsIn (record_of n a) records =
    λ a h. let P : List RecordValue → Type 0 = λ rs. slice_get rs h.0 ≡ Some (record_of n a) in (h.0, subst P (sym are) (map_get (record_of n) accounts h.0 a h.1)) in
    let given : (r : RecordValue) (a : Account) (gift : Turns) → r ≡ record_of n a → IsIn (part.Gift gift) r.parts → IsIn (Gift gift) a.pieces =
    λ r a gift e h.
    let P : RecordValue → Type 0 = λ z. slice_get z.parts h.0 ≡ Some (part.Gift gift) in
    let x = in_map (part_of n) a.pieces h.0 (part.Gift gift) (subst P e h.1) in
    (h.0, x.1 ∙ ap (λ (z : Piece). Some z) (gift_piece n x.0 gift x.2)) in
    record {
      root = (record_of n w.root.0, there w.root.0 w.root.1, w.root.2);
      gifts = λ r gift h g.
          let a = back r h in
          let b = w.gifts a.0 gift a.1 (given r a.0 gift a.2 g) in
          (record_of n b.0, there b.0 b.1, b.2);
      once = λ r s j k g h e.
          let a = back r (j, g) in
          let b = back s (k, h) in
          w.once a.0 b.0 j k a.1.1 b.1.1 (ap (λ (z : RecordValue). z.path) (sym a.2) ∙ (e ∙ ap (λ (z : RecordValue). z.path) b.2));
      extends = λ r gift h g.
          let a = back r h in
          let P : Turns → Type 0 = λ t. ProperlyBegins t gift in
          subst P (ap (λ (z : RecordValue). z.path) (sym a.2)) (w.extends a.0 gift a.1 (given r a.0 gift a.2 g));
      cuts = λ r filled h e f. whole_cuts_follow problem bounds records r filled whole h e f;
    }
