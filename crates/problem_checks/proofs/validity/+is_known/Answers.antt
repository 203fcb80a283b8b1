use Rattle.std.proofs.Common.{sym, ◌∙◌, arith}
use Rattle.me_terms.specs.TermViews.{term_value}
use Rattle.me_terms.proofs.Numbered.{height_in}
use Rattle.problem_checks.proofs.ValidityTests.{known_here, unknown_here, known_all}
use Rattle.problem_checks.proofs.validity.+is_known.Goals as goal

pub are_known_terms-is_known_term-requires : goal.are_known_terms-is_known_term-requires
are_known_terms-is_known_term-requires t c =
    let low = height_in c.args.terms.now.items c.loop-k.k (term_value c.in-Some.term.now) (sym c.in-Some.ensures.item) in
    omega (arith, low, c.decreases)

pub are_known_terms-returns-then-not-is_known_term : goal.are_known_terms-returns-then-not-is_known_term
are_known_terms-returns-then-not-is_known_term t c =
    sym (c.loop-k.invariant ∙ unknown_here c.args.signature.now c.args.terms.now.items c.loop-k.k (term_value c.in-Some.term.now) (sym c.in-Some.ensures.item) (sym c.is_known_term.ensures ∙ c.if-not-is_known_term.true))

pub are_known_terms-loop-k-preserved : goal.are_known_terms-loop-k-preserved
are_known_terms-loop-k-preserved t c =
    c.loop-k.invariant ∙ known_here c.args.signature.now c.args.terms.now.items c.loop-k.k (term_value c.in-Some.term.now) (sym c.in-Some.ensures.item) (sym c.is_known_term.ensures ∙ c.if-not-is_known_term.false)

pub are_known_terms-returns : goal.are_known_terms-returns
are_known_terms-returns t c = sym (c.loop-k.invariant ∙ known_all c.args.signature.now c.args.terms.now.items c.loop-k.k (omega arith))
