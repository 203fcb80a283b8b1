use Rattle.std.proofs.Common.{sym, ap, subst, ◌∙◌}
use Rattle.me_terms.specs.Values.{SignatureValue, ProblemValue}
use Rattle.problem_checks.specs.PlainTests.{HaveOwnNumbers, have_few_arguments}
use Rattle.problem_checks.proofs.FirstOccurrence.{clash}
use Rattle.problem_checks.proofs.Passes.{plain_has_few, plain_is}
use Rattle.problem_checks.proofs.plainness.is_plain.Goals as goal

pub returns-then-not-is_valid : goal.returns-then-not-is_valid
returns-then-not-is_valid c = ((λ e. absurd cc), (λ x. absurd (clash _ (c.is_valid.ensures.1 x.valid) c.if-not-is_valid.true)))

pub returns-then-not-symbols_have_few : goal.returns-then-not-symbols_have_few
returns-then-not-symbols_have_few c =
    let is = ap (λ (p : ProblemValue). p.signature) c.problem.view_is in
    ((λ e. absurd cc), (λ x. absurd (clash _ (c.symbols_have_few.ensures.few ∙ ap have_few_arguments is ∙ plain_has_few c.args.problem.now x) c.if-not-symbols_have_few.true)))

pub returns : goal.returns
returns c =
    let is = ap (λ (p : ProblemValue). p.signature) c.problem.view_is in
    let yes = c.if-not-symbols_have_few.false in
    let functions = subst (λ (s : SignatureValue). HaveOwnNumbers s.functions) is (c.symbols_have_few.ensures.functions yes) in
    let predicates = subst (λ (s : SignatureValue). HaveOwnNumbers s.predicates) is (c.symbols_have_few.ensures.predicates yes) in
    let few = sym (c.symbols_have_few.ensures.few ∙ ap have_few_arguments is) ∙ yes in
    rw c.passes_tests.ensures (plain_is c.args.problem.now functions predicates (c.is_valid.ensures.0 c.if-not-is_valid.false) few)
