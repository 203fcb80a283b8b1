use Rattle.std.proofs.Common.{ap, sym, ◌∙◌, length}
use Rattle.me_terms.specs.Terms.{Arguments, list_of}
use Rattle.me_terms.specs.TermViews.{term_value}
use Rattle.me_unify.proofs.Differing.{length_applied, argument_same}
use Rattle.me_unify.proofs.arena.Arena.differ_among.Goals as goal

pub returns-then-len : goal.returns-then-len
returns-then-len c z t h fits kept e =
    c.if-len.true (c.len.ensures ∙ (sym (length_applied (t c.args.ls) c.args.left.now.items) ∙ (ap (λ (u : Arguments). length (list_of u)) e ∙ (length_applied (t c.args.rs) c.args.right.now.items ∙ sym c.len-2.ensures))))

pub returns-then-differ : goal.returns-then-differ
returns-then-differ c z t h fits kept e =
    c.differ.ensures c.if-differ.true t h fits kept
    (argument_same (t c.args.ls) (t c.args.rs) c.args.left.now.items c.args.right.now.items c.loop-k.k (term_value c.in-Some.one.now) (term_value c.in-Some-get.other.now) e (sym c.in-Some.ensures.item) (sym c.in-Some-get.ensures.item))
