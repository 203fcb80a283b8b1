use Rattle.std.proofs.Common.{rules, ◌≡◌, ◌++◌, ◌∷◌, []}
use Rattle.me_terms.specs.TermViews.{term_value}
use Rattle.finite_domain.proofs.Making.{term_made}
use Rattle.finite_domain.proofs.literals.term_literal.Goals as goal

pub returns : goal.returns
returns c =
    let pushed : c.push.new.self.items ≡ c.in_ok-args.args.items ++ term_value c.variable_of.result ∷ [] = search rules in
    term_made c.args.names.now.keys (term_value c.args.term.now) (term_value c.variable_of.result) c.arguments.result.now c.in_ok-args.args.items c.push.new.self.items c.symbol.result
    c.arguments.ensures c.in_ok-args.ensures pushed c.variable_of.ensures c.symbol.ensures
