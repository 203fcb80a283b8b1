-- The clauses p(X)|q(f(X)) and q(f(X))|p(X), each alone, within depth 1 and weight 1.
use Rattle.std.specs.Prelude.{true, [], ◌∷◌}
use Rattle.me_terms.specs.Terms.{App, Nil, Cons, AtomValue}
use Rattle.me_terms.specs.Values.{SignatureValue, ClauseValue, ProblemValue}
use Rattle.me_terms.specs.Answer.{HasAnswer, GaveUp}
use Rattle.me_terms.specs.declared.bounds.Bound.TheVariants as bound
use Rattle.me_terms.specs.declared.bounds.Bounds.{Bounds}
use Rattle.me_terms.specs.declared.bounds.Start.TheVariants.{Negative}
use Rattle.me_laws_examples.specs.Letters.{x0, p_of, q_of, literal, word}

-- a, f of one argument, p and q of one, and r of two
abbrev pub names : SignatureValue
names = record {
  functions = record { label = word 97; arity = 0 } ∷ record { label = word 102; arity = 1 } ∷ [];
  predicates = record { label = word 112; arity = 1 } ∷ record { label = word 113; arity = 1 } ∷ record { label = word 114; arity = 2 } ∷ [];
}

-- q(f(X0))
abbrev pub deep : AtomValue
deep = q_of (App 1 (Cons x0 Nil))

-- the problem of one clause of two positive literals
abbrev pub either : AtomValue → AtomValue → ClauseValue
either s t = record { number = 1; label = word 99; literals = literal true s ∷ literal true t ∷ [] }

abbrev pub one_clause : AtomValue → AtomValue → ProblemValue
one_clause s t = record { clauses = either s t ∷ []; signature = names; c0 = 0 }

abbrev pub tight : Bounds
tight = record { depth = 1; weight = 1; literals = 2000; list = 10000000; start = Negative }

-- The first literal of the remainder says which bound was met, and depth goes before weight: p(X0) is too heavy alone, and q(f(X0)) too deep and too heavy.
pub record BoundByFirstPlace : Type 0 where
  pub weight_first : HasAnswer (one_clause (p_of x0) deep) tight (GaveUp bound.Weight)
  pub depth_first : HasAnswer (one_clause deep (p_of x0)) tight (GaveUp bound.Depth)
