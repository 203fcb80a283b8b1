use Rattle.std.proofs.Common.{◌↔◌, IsTrue, Bool, [], ◌∷◌, ◌++◌}
use Rattle.me_terms.specs.Contradictory.{Unifiable}
use Rattle.me_terms.specs.declared.atom.Pattern.TheVariants.{Of}
use Rattle.me_unify.specs.Equations.{equation, IsSolvable}
use Rattle.me_unify.proofs.Forest.{if_ok_map}
use Rattle.joint_unifiers.proofs.Contradictions.{unifiable_iff}
use Rattle.joint_unifiers.proofs.contradiction.unifiable.Goals as goal

pub returns-in-Of : goal.returns-in-Of
returns-in-Of c =
    let P : Bool → Type 0 = λ answer. IsTrue answer ↔ IsSolvable ([] ++ equation 0 c.in-Of.other 1 c.args.atom.now ∷ []) in
    let Q : Bool → Type 0 = λ answer. IsTrue answer ↔ Unifiable (Of c.in-Of.other) (Of c.args.atom.now) in
    let iff = unifiable_iff c.in-Of.other c.args.atom.now in
    rw c.in-Of.is (if_ok_map c.unify.result P Q (λ answer h. (λ t. iff.0 (h.0 t), λ m. h.1 (iff.1 m))) (rw c.new.ensures at c.unify.ensures.exact))
