use Rattle.std.proofs.Common.{◌≡◌, ap, sym, ◌∙◌}
use Rattle.me_terms.specs.Terms.{AtomValue, arguments_of}
use Rattle.me_terms.specs.Substitutions.{apply_arguments}
use Rattle.me_unify.proofs.arena.Arena.are_apart.Goals as goal

pub returns-else-left-right : goal.returns-else-left-right
returns-else-left-right c z t h fits kept e =
    let same : apply_arguments (t c.args.ls) (arguments_of c.left.inside.args.items) ≡ apply_arguments (t c.args.rs) (arguments_of c.right.inside.args.items) =
    ap (λ (a : AtomValue). apply_arguments (t c.args.ls) a.args) c.left.view_is ∙ (ap (λ (a : AtomValue). a.args) e ∙ sym (ap (λ (a : AtomValue). apply_arguments (t c.args.rs) a.args) c.right.view_is)) in
    c.differ_among.ensures z t h fits kept same
