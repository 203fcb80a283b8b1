use Rattle.std.proofs.Common.{◌↔◌, IsTrue, Bool, [], ◌∷◌, ◌++◌}
use Rattle.me_terms.specs.Contradictory.{Unifiable}
use Rattle.me_terms.specs.declared.atom.Pattern.TheVariants.{Of}
use Rattle.me_unify.specs.Equations.{equation, IsSolvable}
use Rattle.me_unify.proofs.Forest.{if_ok_map}
use Rattle.joint_unifiers.proofs.Contradictions.{unifiable_iff}
use Rattle.clause_pairs.proofs.meeting.unifies.Goals as goal

pub returns : goal.returns
returns c =
    let P : Bool → Type 0 = λ answer. IsTrue answer ↔ IsSolvable ([] ++ equation 0 c.args.atom.now 1 c.args.other.now ∷ []) in
    let Q : Bool → Type 0 = λ answer. IsTrue answer ↔ Unifiable (Of c.args.atom.now) (Of c.args.other.now) in
    let iff = unifiable_iff c.args.atom.now c.args.other.now in
    if_ok_map c.unify.result P Q (λ answer h. (λ t. iff.0 (h.0 t), λ m. h.1 (iff.1 m))) (rw c.new.ensures at c.unify.ensures.exact)
