use Rattle.std.proofs.Common.{sym, arith}
use Rattle.me_terms.specs.TermViews.{term_value}
use Rattle.me_terms.proofs.Numbered.{height_in, names_step, made_step, made_all, names_all}
use Rattle.me_terms.proofs.canonical_form.+numbered.Goals as goal

pub numbered_all-numbered-requires : goal.numbered_all-numbered-requires
numbered_all-numbered-requires t c =
    let low = height_in c.args.terms.now.items c.loop-k.k (term_value c.in-Some.term.now) (sym c.in-Some.ensures.item) in
    omega (arith, low, c.decreases)

pub numbered_all-loop-k-preserved : goal.numbered_all-loop-k-preserved
numbered_all-loop-k-preserved t c = record {
  names = names_step _ c.loop-k.names.keys c.numbered.new.names.keys c.args.terms.now.items c.loop-k.k (term_value c.in-Some.term.now) (sym c.in-Some.ensures.item) c.in_ok-form.ensures.names c.loop-k.invariant.names;
  made = made_step c.loop-k.names.keys c.numbered.new.names.keys c.loop-k.made.items c.push.new.self.items c.args.terms.now.items c.loop-k.k (term_value c.in-Some.term.now) (term_value c.in_ok-form.form) c.in-Ok.ensures.ok (sym c.in-Some.ensures.item) c.in_ok-form.ensures.names c.in_ok-form.ensures.term c.loop-k.invariant.made;
  small = c.in_ok-form.ensures.small;
}

pub numbered_all-returns-clause-names : goal.numbered_all-returns-clause-names
numbered_all-returns-clause-names t c = sym (names_all _ c.loop-k.names.keys c.args.terms.now.items c.loop-k.k (omega arith) c.loop-k.invariant.names)

pub numbered_all-returns-clause-terms : goal.numbered_all-returns-clause-terms
numbered_all-returns-clause-terms t c later = made_all c.loop-k.names.keys c.loop-k.made.items c.args.terms.now.items c.loop-k.k (omega arith) c.loop-k.invariant.made later
