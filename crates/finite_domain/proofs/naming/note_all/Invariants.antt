use Rattle.std.proofs.Common.{◌≡◌, drop, map}
use Rattle.me_terms.specs.TermViews.{term_value}
use Rattle.finite_domain.specs.Names.{first_terms}
use Rattle.finite_domain.proofs.naming.note_all.Given as goal

-- What is found so far leads with the rest to what all lead to.
abbrev pub invariant-terms : goal.invariant-terms
invariant-terms l =
    first_terms l.found.keys (map term_value (drop l.term-index l.terms)) ≡ first_terms l.initial.found.keys (map term_value l.terms)
