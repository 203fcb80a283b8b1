use Rattle.std.proofs.Common.{sym, ◌∙◌, arith}
use Rattle.me_terms.specs.TermViews.{term_value}
use Rattle.me_terms.proofs.Numbered.{height_in}
use Rattle.answer_check.proofs.OwnTerms.{own_false, own_later, own_end}
use Rattle.answer_check.proofs.own.+is_own.Goals as goal

pub are_own_terms-is_own_term-requires : goal.are_own_terms-is_own_term-requires
are_own_terms-is_own_term-requires t c =
    let low = height_in c.args.terms.now.items c.loop-k.k (term_value c.in-Some.term.now) (sym c.in-Some.ensures.item) in
    omega (arith, low, c.decreases)

pub are_own_terms-returns-then-not-is_own_term : goal.are_own_terms-returns-then-not-is_own_term
are_own_terms-returns-then-not-is_own_term t c =
    own_false c.args.functions c.args.terms.now.items c.loop-k.k _ (term_value c.in-Some.term.now) (sym c.in-Some.ensures.item) c.loop-k.invariant (sym c.if-not-is_own_term.true ∙ c.is_own_term.ensures)

pub are_own_terms-loop-k-preserved : goal.are_own_terms-loop-k-preserved
are_own_terms-loop-k-preserved t c =
    own_later c.args.functions c.args.terms.now.items c.loop-k.k _ (term_value c.in-Some.term.now) (sym c.in-Some.ensures.item) c.loop-k.invariant (sym c.if-not-is_own_term.false ∙ c.is_own_term.ensures)

pub are_own_terms-returns : goal.are_own_terms-returns
are_own_terms-returns t c =
    own_end c.args.functions c.args.terms.now.items c.loop-k.k _ c.loop-k.invariant (omega (arith, c.loop-k-test.false, c.len-k-end.ensures))
