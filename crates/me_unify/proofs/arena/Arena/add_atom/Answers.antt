use Rattle.std.proofs.Common.{◌≡◌, ℕ, slice_get, Some, ap, subst, ◌∙◌}
use Rattle.std.specs.Prelude.{IfOk}
use Rattle.me_terms.specs.Substitutions.{apply_arguments}
use Rattle.me_terms.specs.Terms as tree
use Rattle.me_terms.specs.Terms.{AtomValue, arguments_of}
use Rattle.me_unify.specs.declared.node.Node.TheVariants.{App}
use Rattle.me_unify.proofs.Forest.{if_ok_map}
use Rattle.me_unify.proofs.Made.{fits_less}
use Rattle.me_unify.proofs.arena.Arena.add_atom.Goals as goal

pub returns-clause-made : goal.returns-clause-made
returns-clause-made c f h fits =
    let before = fits_less c.add_all.new.self.nodes c.push.new.self.nodes f h c.push.ensures.grown fits in
    let args = c.in_ok-args.ensures.made f h before in
    let P : ℕ → Type 0 = λ x. slice_get c.push.new.self.nodes x ≡ Some (App c.atom.inside.pred c.in_ok-args.args) in
    let Q : ℕ → Type 0 = λ x. h x ≡ tree.App c.atom.inside.pred (apply_arguments (f c.args.space) (arguments_of c.atom.inside.args.items)) in
    let R : AtomValue → Type 0 = λ a. IfOk c.push.result (λ x. h x ≡ tree.App a.pred (apply_arguments (f c.args.space) a.args)) in
    subst R c.atom.view_is (if_ok_map c.push.result P Q (λ x at. fits x (App c.atom.inside.pred c.in_ok-args.args) at ∙ ap (tree.App c.atom.inside.pred) args) c.push.ensures.at)
