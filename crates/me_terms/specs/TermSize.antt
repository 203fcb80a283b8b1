-- Each argument of a term is less high than the term.
use Rattle.std.specs.Prelude.{◌≤◌, List, [], ◌∷◌, map}
use Rattle.std.proofs.Common.{arith}
use Rattle.me_terms.specs.Terms.{heights, arguments_of}
use Rattle.me_terms.specs.TermViews.{term_value, terms_value}
use Rattle.me_terms.specs.declared.term.Term.{Term}
use Rattle.me_terms.specs.declared.term.Term.TheVariants.{Var, App}
use Rattle.me_terms.specs.declared.term.Terms.TheDeep.{deep-Term, deep-Terms}
use Rattle.me_terms.specs.declared.term.Terms.TheInside.{Inside}
use denote.Param.Weighed.{most}

pub most_falls : (ts : List Term) → most deep-Term ts ≤ heights (arguments_of (map term_value ts))
most_falls [] = omega arith
most_falls (Var x ∷ ts) = omega (arith, most_falls ts)
most_falls (App f args ∷ ts) = omega (arith, most_falls ts)

pub falls : (s : Inside) → deep-Terms s ≤ heights (arguments_of (terms_value s.items).items)
falls s = omega (arith, most_falls s.items.items)
