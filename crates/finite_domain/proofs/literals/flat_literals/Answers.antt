use Rattle.std.proofs.Common.{◌≡◌, ◌<◌, ◌^◌, List, length, ap, ◌∙◌, arith}
use Rattle.me_terms.specs.Terms.{TermValue}
use Rattle.finite_domain.specs.Names.{applied_terms, named_terms}
use Rattle.finite_domain.proofs.Names.{few_names}
use Rattle.finite_domain.proofs.literals.flat_literals.Goals as goal

pub term_literals-requires : goal.term_literals-requires
term_literals-requires c =
    let ls = c.args.literals.now in
    let is : c.in_ok-names.names.keys ≡ named_terms (applied_terms ls) ls = c.in_ok-names.ensures ∙ ap (λ (v : List TermValue). named_terms v ls) c.in_ok-terms.ensures in
    let same = ap length is in
    omega (arith, same, few_names ls, c.requires.light)

pub add_own-requires-clause-names : goal.add_own-requires-clause-names
add_own-requires-clause-names c =
    let ls = c.args.literals.now in
    let is : c.in_ok-names.names.keys ≡ named_terms (applied_terms ls) ls = c.in_ok-names.ensures ∙ ap (λ (v : List TermValue). named_terms v ls) c.in_ok-terms.ensures in
    let same = ap length is in
    omega (arith, same, few_names ls, c.requires.light)
