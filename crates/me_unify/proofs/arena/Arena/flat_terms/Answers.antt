use Rattle.std.proofs.Common.{map, ap, sym, subst, ◌∙◌, arith}
use Rattle.std.proofs.lemmas.List.{take_all, length-map}
use Rattle.me_terms.specs.Terms.{Arguments, arguments_of}
use Rattle.me_terms.specs.TermViews.{term_value}
use Rattle.me_terms.specs.Substitutions.{apply_term}
use Rattle.me_unify.specs.Measured.{AreMeasured}
use Rattle.me_unify.proofs.Names.{applied_at, applied_all}
use Rattle.me_unify.proofs.Measures.{measured_next}
use Rattle.me_unify.proofs.arena.Arena.flat_terms.Goals as goal

pub loop-k-preserved : goal.loop-k-preserved
loop-k-preserved c u read =
    measured_next (map (apply_term (u c.args.space)) c.args.terms.now.items) c.loop-k.k (apply_term (u c.args.space) (term_value c.in-Some.term.now)) c.loop-k.all c.in_ok-one.one c.both-all.result
    (applied_at (u c.args.space) c.args.terms.now.items c.loop-k.k (term_value c.in-Some.term.now) (sym c.in-Some.ensures.item)) (c.loop-k.invariant u read) (c.in_ok-one.ensures u read)
    c.both-all.ensures.weight c.both-all.ensures.depth c.both-all.ensures.ground

pub returns : goal.returns
returns c u read =
    let whole = take_all c.loop-k.k (map (apply_term (u c.args.space)) c.args.terms.now.items) (omega (arith, length-map c.args.terms.now.items (apply_term (u c.args.space)))) in
    let P : Arguments → Type 0 = λ z. AreMeasured z c.loop-k.all in
    subst P (ap arguments_of whole ∙ applied_all (u c.args.space) c.args.terms.now.items) (c.loop-k.invariant u read)
