-- A problem and lawful bounds, of either start, that meet the premises of the function-free case, with no more room than they ask for.
use Rattle.std.specs.Prelude.{true, false, [], ◌∷◌}
use Rattle.me_terms.specs.Terms.{Var, App, Nil, Cons}
use Rattle.me_terms.specs.Values.{SignatureValue, ClauseValue, ProblemValue}
use Rattle.me_terms.specs.Validity.{IsValid, IsLawful}
use Rattle.me_terms.specs.declared.bounds.Bounds.{Bounds}
use Rattle.me_terms.specs.declared.bounds.Start.{Start}
use Rattle.me_terms.specs.declared.symbol.Form.TheVariants.{Word}
use Rattle.me_terms.specs.declared.atom.Literal.{Literal}
use Rattle.me_laws_counting.specs.FunctionFree.{IsFunctionFree, IsRoomy}

-- p(X0)
abbrev pub p_of_x : Literal
p_of_x = record { positive = true; atom = record { pred = 0; args = Cons (Var 0) Nil } }

-- ~q(X0,X1)
abbrev pub not_q : Literal
not_q = record { positive = false; atom = record { pred = 1; args = Cons (Var 0) (Cons (Var 1) Nil) } }

-- q(c,X0)
abbrev pub q_of_c : Literal
q_of_c = record { positive = true; atom = record { pred = 1; args = Cons (App 0 Nil) (Cons (Var 0) Nil) } }

abbrev pub first_clause : ClauseValue
first_clause = record { number = 1; label = record { form = Word; text = 97 ∷ [] }; literals = p_of_x ∷ not_q ∷ [] }

abbrev pub second_clause : ClauseValue
second_clause = record { number = 2; label = record { form = Word; text = 98 ∷ [] }; literals = q_of_c ∷ [] }

abbrev pub names : SignatureValue
names = record {
  functions = record { label = record { form = Word; text = 99 ∷ [] }; arity = 0 } ∷ [];
  predicates = record { label = record { form = Word; text = 112 ∷ [] }; arity = 1 } ∷ record { label = record { form = Word; text = 113 ∷ [] }; arity = 2 } ∷ [];
}

abbrev pub plain_problem : ProblemValue
plain_problem = record { clauses = first_clause ∷ second_clause ∷ []; signature = names; c0 = 0 }

-- 23 is 1 + 2 * ((1 + 1)^1 + (1 + 2)^2)
abbrev pub tight_bounds : Start → Bounds
tight_bounds begins = record { depth = 1; weight = 3; literals = 23; list = 1; start = begins }

abbrev pub PremisesAreMet : Type 0
PremisesAreMet = IsValid plain_problem × IsFunctionFree plain_problem × ((begins : Start) → IsRoomy plain_problem (tight_bounds begins) × IsLawful (tight_bounds begins))
