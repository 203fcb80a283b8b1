use Rattle.std.proofs.Common.{ℕ, not, sym, ◌∙◌, arith}
use Rattle.me_terms.specs.TermViews.{term_value}
use Rattle.me_terms.specs.Remainder.{is_variable}
use Rattle.me_terms.proofs.Numbered.{height_in}
use Rattle.joint_unifiers.proofs.Remaining.{any_here, any_later, any_none}
use Rattle.joint_unifiers.proofs.remainder.+binds.Goals as goal

pub binds_in-returns-in-App : goal.binds_in-returns-in-App
binds_in-returns-in-App t c u general = rw c.in-App.is (c.binds_among.ensures u general)

pub binds_among-binds_in-requires : goal.binds_among-binds_in-requires
binds_among-binds_in-requires t c =
    let low = height_in c.args.terms.now.items c.loop-k.k (term_value c.in-Some.term.now) (sym c.in-Some.ensures.item) in
    omega (arith, low, c.decreases)

pub binds_among-returns-then-binds_in : goal.binds_among-returns-then-binds_in
binds_among-returns-then-binds_in t c u general =
    any_here (λ (x : ℕ). not (is_variable (u c.args.space x))) c.args.terms.now.items c.loop-k.k (term_value c.in-Some.term.now) _ (sym c.in-Some.ensures.item) (c.loop-k.invariant u general) (sym c.if-binds_in.true ∙ c.binds_in.ensures u general)

pub binds_among-loop-k-preserved : goal.binds_among-loop-k-preserved
binds_among-loop-k-preserved t c u general =
    any_later (λ (x : ℕ). not (is_variable (u c.args.space x))) c.args.terms.now.items c.loop-k.k (term_value c.in-Some.term.now) _ (sym c.in-Some.ensures.item) (c.loop-k.invariant u general) (sym c.if-binds_in.false ∙ c.binds_in.ensures u general)

pub binds_among-returns : goal.binds_among-returns
binds_among-returns t c u general =
    any_none (λ (x : ℕ). not (is_variable (u c.args.space x))) c.args.terms.now.items c.loop-k.k _ (omega (arith, c.loop-k-test.false, c.len-k-end.ensures)) (c.loop-k.invariant u general)
