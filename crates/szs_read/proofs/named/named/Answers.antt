use Rattle.std.proofs.Common.{◌∙◌, ◌++◌, ap, sym, append_assoc, subst, None, Some}
use Rattle.std.specs.Prelude.{codes}
use Rattle.std.proofs.lemmas.Bool.Decides.{Decides-eqb}
use Rattle.std.proofs.lemmas.Slice.Eq.{strip_prefix_is, strip_suffix_is}
use Rattle.szs_read.proofs.Cutting.{same_back}
use Rattle.szs_read.proofs.Passing.{same_front, if_unnamed}
use Rattle.szs_print.specs.Printable.{IsName}
use Rattle.szs_read.proofs.named.named.Goals as goal

pub returns-then-is_name-clause-some : goal.returns-then-is_name-clause-some
returns-then-is_name-clause-some c = record {
  named = c.is_name.ensures.0 c.if-is_name.true;
  text =
      strip_prefix_is Decides-eqb _ _ (Some c.in_ok-rest.rest) c.in_ok-rest.ensures.cases
      ∙ ap (λ v. c.args.head.now ++ v) (strip_suffix_is Decides-eqb _ _ (Some c.in_ok-name.name) c.in_ok-name.ensures.cases)
      ∙ ap (λ v. c.args.head.now ++ (c.in_ok-name.name.now ++ v)) c.as_slice.ensures
      ∙ sym (append_assoc c.args.head.now c.in_ok-name.name.now (codes "\n"));
}

pub returns-in_err-rest-clause-none : goal.returns-in_err-rest-clause-none
returns-in_err-rest-clause-none c = if_unnamed _ c.args.line.now c.args.head.now (λ name h. strip_prefix_is Decides-eqb _ _ None c.in_err-rest.ensures.cases (name ++ codes "\n") (h.text ∙ append_assoc c.args.head.now name (codes "\n")))

pub returns-in_err-name-clause-none : goal.returns-in_err-name-clause-none
returns-in_err-name-clause-none c = if_unnamed _ c.args.line.now c.args.head.now (λ name h.
    let front = strip_prefix_is Decides-eqb _ _ (Some c.in_ok-rest.rest) c.in_ok-rest.ensures.cases in
    let back = same_back c.args.head.now c.in_ok-rest.rest.now (name ++ codes "\n") (sym front ∙ h.text ∙ append_assoc c.args.head.now name (codes "\n")) in
    strip_suffix_is Decides-eqb _ _ None c.in_err-name.ensures.cases name (back ∙ ap (λ v. name ++ v) (sym c.as_slice.ensures)))

pub returns-else-is_name-clause-none : goal.returns-else-is_name-clause-none
returns-else-is_name-clause-none c = λ name h.
    let front = strip_prefix_is Decides-eqb _ _ (Some c.in_ok-rest.rest) c.in_ok-rest.ensures.cases in
    let back = same_back c.args.head.now c.in_ok-rest.rest.now (name ++ codes "\n") (sym front ∙ h.text ∙ append_assoc c.args.head.now name (codes "\n")) in
    let tail = strip_suffix_is Decides-eqb _ _ (Some c.in_ok-name.name) c.in_ok-name.ensures.cases in
    let same = same_front c.in_ok-name.name.now name (codes "\n") (ap (λ v. c.in_ok-name.name.now ++ v) (sym c.as_slice.ensures) ∙ sym tail ∙ back) in
    let is = c.is_name.ensures.1 (subst IsName (sym same) h.named) in
    absurd (cc (is, c.if-is_name.false))
