use Rattle.std.proofs.Common.{rules, refl, sym, ◌∙◌, ◌∷◌, []}
use Rattle.std.proofs.Transfers.{starts_with_of_eq}
use Rattle.cnf_text.proofs.Kept.{kept_behind, kept_beyond, on_err}
use Rattle.cnf_text.proofs.Waiting.{begun_text, opened_text, opened_less, closed_text, closed_less}
use Rattle.cnf_text.proofs.term.push_arguments.Goals as goal

pub terms-init : goal.terms-init
terms-init c = record {
  printed = begun_text c.args.signature.now c.as_slice-terms.result.now c.args.args.now.items c.new-later.result.items c.args.out.now.items c.as_slice-terms.ensures (sym c.is_empty.ensures ∙ c.if-is_empty.false) c.new-later.ensures.items;
  kept = starts_with_of_eq c.args.out.now.items c.args.out.now.items refl;
}

pub returns-in_err-inner-clause-err : goal.returns-in_err-inner-clause-err
returns-in_err-inner-clause-err c =
    on_err c.from_residual-in_err-inner.result
    (kept_beyond c.args.out.now.items c.terms.out.items c.push.new.self.items c.push_head.new.out.items (c.terms.separator ∷ []) c.terms.invariant.kept c.in_ok-push.ensures.items c.push_head.ensures.kept)

pub returns-in_err-push-2-clause-err : goal.returns-in_err-push-2-clause-err
returns-in_err-push-2-clause-err c =
    on_err c.from_residual-in_err-push-2.result
    (kept_beyond c.args.out.now.items c.terms.out.items c.push.new.self.items c.push_head.new.out.items (c.terms.separator ∷ []) c.terms.invariant.kept c.in_ok-push.ensures.items c.push_head.ensures.kept)

pub terms-smaller-else-is_empty-2 : goal.terms-smaller-else-is_empty-2
terms-smaller-else-is_empty-2 c =
    opened_less c.terms.terms.now c.in_ok-inner.inner.now c.in-Some.first.now c.terms.later.items c.push-else-is_empty-2.new.self.items (record { terms = c.in-Some.others })
    c.in-Some.ensures.cases.0 c.in_ok-push-2.ensures.items c.in_ok-inner.ensures.lighter

pub terms-preserved-else-is_empty-2 : goal.terms-preserved-else-is_empty-2
terms-preserved-else-is_empty-2 c = record {
  printed =
      opened_text c.args.signature.now c.terms.separator c.terms.terms.now c.in_ok-inner.inner.now c.in-Some.first.now c.terms.later.items c.push-else-is_empty-2.new.self.items (record { terms = c.in-Some.others })
      c.terms.out.items c.push.new.self.items c.push_head.new.out.items _ c.in-Some.ensures.cases.0 (search rules) c.in_ok-push.ensures.items c.in_ok-push-2.ensures.items c.in_ok-inner.ensures.ok c.terms.invariant.printed;
  kept = kept_beyond c.args.out.now.items c.terms.out.items c.push.new.self.items c.push_head.new.out.items (c.terms.separator ∷ []) c.terms.invariant.kept c.in_ok-push.ensures.items c.push_head.ensures.kept;
}

pub terms-smaller : goal.terms-smaller
terms-smaller c = closed_less c.terms.later.items c.pop.new.self.items c.in-Some-pop.next _ c.in-Some-pop.ensures.items

pub terms-preserved : goal.terms-preserved
terms-preserved c = record {
  printed =
      closed_text c.args.signature.now c.terms.separator c.terms.terms.now c.terms.later.items c.pop.new.self.items c.in-Some-pop.next c.terms.out.items c.push-in_default.new.self.items _
      (search rules) c.in-Some-pop.ensures.items c.in_ok-push-3.ensures.items c.terms.invariant.printed;
  kept = kept_behind c.args.out.now.items c.terms.out.items c.push-in_default.new.self.items (41 ∷ []) c.terms.invariant.kept c.in_ok-push-3.ensures.items;
}
