use Rattle.std.proofs.Common.{◌*◌, ◌<◌, ◌++◌, map, ap, sym, ◌∙◌, arith}
use Rattle.std.proofs.lemmas.List.{length-map}
use Rattle.me_terms.specs.Terms.{height}
use Rattle.me_terms.specs.TermViews.{term_value}
use Rattle.me_terms.specs.Substitutions.{apply_term, apply_arguments}
use Rattle.me_terms.specs.Variables.{variables_of, first_ones}
use Rattle.me_terms.specs.Names.{by_place}
use Rattle.me_terms.proofs.Numbered.{height_in, names_step, made_step, made_all, names_all}
use Rattle.me_unify.specs.Left.{numbers}
use Rattle.me_unify.proofs.Names.{applied_at, applied_all}
use Rattle.me_unify.proofs.arena.Arena.+write_term.Goals as goal

pub write_terms-write_term-requires : goal.write_terms-write_term-requires
write_terms-write_term-requires t c =
    let low = height_in c.args.terms.now.items c.loop-k.k (term_value c.in-Some.term.now) (sym c.in-Some.ensures.item) in
    let falls : 2 * height (term_value c.in-Some.term.now) < t = omega (arith, low, c.decreases) in
    (falls, (c.requires.arena, c.requires.solution))

pub write_terms-loop-k-preserved : goal.write_terms-loop-k-preserved
write_terms-loop-k-preserved t c = record {
  names = λ u read. names_step _ (numbers c.loop-k.names.keys) (numbers c.write_term.new.names.keys) (map (apply_term (u c.args.space)) c.args.terms.now.items) c.loop-k.k (apply_term (u c.args.space) (term_value c.in-Some.term.now))
      (applied_at (u c.args.space) c.args.terms.now.items c.loop-k.k (term_value c.in-Some.term.now) (sym c.in-Some.ensures.item)) (c.in_ok-form.ensures.names u read) (c.loop-k.invariant.names u read);
  made = λ u read. made_step (numbers c.loop-k.names.keys) (numbers c.write_term.new.names.keys) c.loop-k.made.items c.push.new.self.items (map (apply_term (u c.args.space)) c.args.terms.now.items) c.loop-k.k (apply_term (u c.args.space) (term_value c.in-Some.term.now)) (term_value c.in_ok-form.form) c.in-Ok.ensures.ok
      (applied_at (u c.args.space) c.args.terms.now.items c.loop-k.k (term_value c.in-Some.term.now) (sym c.in-Some.ensures.item)) (c.in_ok-form.ensures.names u read) (c.in_ok-form.ensures.term u read) (c.loop-k.invariant.made u read);
}

pub write_terms-returns-clause-names : goal.write_terms-returns-clause-names
write_terms-returns-clause-names t c u read =
    sym (names_all _ (numbers c.loop-k.names.keys) (map (apply_term (u c.args.space)) c.args.terms.now.items) c.loop-k.k (omega (arith, length-map c.args.terms.now.items (apply_term (u c.args.space)))) (c.loop-k.invariant.names u read))
    ∙ ap (λ z. first_ones (numbers c.args.names.now.keys) (variables_of z)) (applied_all (u c.args.space) c.args.terms.now.items)

pub write_terms-returns-clause-terms : goal.write_terms-returns-clause-terms
write_terms-returns-clause-terms t c u read later =
    made_all (numbers c.loop-k.names.keys) c.loop-k.made.items (map (apply_term (u c.args.space)) c.args.terms.now.items) c.loop-k.k (omega (arith, length-map c.args.terms.now.items (apply_term (u c.args.space)))) (c.loop-k.invariant.made u read) later
    ∙ ap (apply_arguments (by_place (numbers c.loop-k.names.keys ++ later))) (applied_all (u c.args.space) c.args.terms.now.items)
