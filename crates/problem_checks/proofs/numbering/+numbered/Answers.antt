use Rattle.std.proofs.Common.{sym, ◌∙◌, arith}
use Rattle.me_terms.specs.TermViews.{term_value}
use Rattle.me_terms.proofs.Numbered.{height_in}
use Rattle.problem_checks.proofs.Walks.{left_some, left_none, left_all}
use Rattle.problem_checks.proofs.numbering.+numbered.Goals as goal

pub next_in_terms-next_in_term-requires : goal.next_in_terms-next_in_term-requires
next_in_terms-next_in_term-requires t c =
    let low = height_in c.args.terms.now.items c.loop-k.k (term_value c.in-Some.term.now) (sym c.in-Some.ensures.item) in
    omega (arith, low, c.decreases)

pub next_in_terms-returns-in-None : goal.next_in_terms-returns-in-None
next_in_terms-returns-in-None t c =
    sym (c.loop-k.invariant ∙ left_none c.args.counted c.args.terms.now.items c.loop-k.k (term_value c.in-Some.term.now) c.loop-k.number (sym c.in-Some.ensures.item) c.in-None.ensures)

pub next_in_terms-loop-k-preserved : goal.next_in_terms-loop-k-preserved
next_in_terms-loop-k-preserved t c =
    c.loop-k.invariant
    ∙ left_some c.args.counted c.args.terms.now.items c.loop-k.k (term_value c.in-Some.term.now) c.loop-k.number c.in-Some-next_in_term.next (sym c.in-Some.ensures.item) c.in-Some-next_in_term.ensures

pub next_in_terms-returns : goal.next_in_terms-returns
next_in_terms-returns t c = sym (c.loop-k.invariant ∙ left_all c.args.counted c.args.terms.now.items c.loop-k.k c.loop-k.number (omega arith))
