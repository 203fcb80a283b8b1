-- The clauses p(X)|q(X), ~p(a) and ~q(b): an Assert, a Split, and the context in which the left branch is exhausted.
use Rattle.std.specs.Prelude.{◌≡◌, true, false, [], ◌∷◌}
use Rattle.me_terms.specs.Values.{SignatureValue, ClauseValue, ProblemValue, EntryValue, Asserted, SplitLeft}
use Rattle.me_terms.specs.Context.{Context, pseudo, add, IsContext}
use Rattle.me_terms.specs.Produces.{Produces, IsProduced}
use Rattle.me_terms.specs.Assert.{IsAssert}
use Rattle.me_terms.specs.Split.{IsSplit, split_kind}
use Rattle.me_terms.specs.declared.bounds.Bounds.{Bounds}
use Rattle.me_terms.specs.declared.bounds.Start.TheVariants.{Negative}
use Rattle.me_terms.specs.declared.entry.Kind.TheVariants.{Universal, Parametric}
use Rattle.me_laws_examples.specs.Letters.{a, b, x0, p_of, q_of, literal, entry, word, usual_from}

abbrev pub names : SignatureValue
names = record {
  functions = record { label = word 97; arity = 0 } ∷ record { label = word 98; arity = 0 } ∷ [];
  predicates = record { label = word 112; arity = 1 } ∷ record { label = word 113; arity = 1 } ∷ [];
}

abbrev pub p_or_q : ClauseValue
p_or_q = record { number = 1; label = word 99; literals = literal true (p_of x0) ∷ literal true (q_of x0) ∷ [] }

abbrev pub not_p : ClauseValue
not_p = record { number = 2; label = word 100; literals = literal false (p_of a) ∷ [] }

abbrev pub not_q : ClauseValue
not_q = record { number = 3; label = word 101; literals = literal false (q_of b) ∷ [] }

abbrev pub problem : ProblemValue
problem = record { clauses = p_or_q ∷ not_p ∷ not_q ∷ []; signature = names; c0 = 0 }

abbrev pub bounds : Bounds
bounds = usual_from Negative

abbrev pub no_p : EntryValue
no_p = entry false (p_of a) Universal (Asserted 1 0 [])

abbrev pub yes_q : EntryValue
yes_q = entry true (q_of a) Universal (Asserted 0 1 (1 ∷ []))

abbrev pub no_q : EntryValue
no_q = entry false (q_of b) Universal (Asserted 2 0 [])

abbrev pub yes_p : EntryValue
yes_p = entry true (p_of b) Universal (Asserted 0 0 (3 ∷ []))

abbrev pub split_p : EntryValue
split_p = entry true (p_of x0) Parametric SplitLeft

-- the context of ~p(a) alone, of all four that are asserted, and of the left branch
abbrev pub first_context : Context
first_context = pseudo false ∷ no_p ∷ []

abbrev pub four_asserted : Context
four_asserted = pseudo false ∷ no_p ∷ yes_q ∷ no_q ∷ yes_p ∷ []

abbrev pub left_context : Context
left_context = add four_asserted split_p

-- With ~p(a) the first clause asserts q(a). With all four, p(X0) or q(X0) may be split on, against the pseudo-literal at both places. In the left branch p is false of a alone, and q is true of a alone.
pub record AssertsThenSplits : Type 0 where
  pub asserts_q : IsAssert problem bounds first_context 0 1 (1 ∷ []) yes_q
  pub splits_p : IsSplit problem bounds four_asserted 0 0 (0 ∷ 0 ∷ []) 2 (literal true (p_of x0))
  pub splits_q : IsSplit problem bounds four_asserted 0 1 (0 ∷ 0 ∷ []) 2 (literal true (q_of x0))
  pub split_parametric : split_kind (literal true (p_of x0)) ≡ Parametric
  pub context : IsContext left_context
  pub p_false_of_a : Produces left_context 1 no_p (literal false (p_of a))
  pub p_not_of_a : ¬ IsProduced left_context (literal true (p_of a))
  pub p_true_of_b : Produces left_context 4 yes_p (literal true (p_of b))
  pub q_true_of_a : Produces left_context 2 yes_q (literal true (q_of a))
  pub q_false_of_b : Produces left_context 3 no_q (literal false (q_of b))
  pub p_true_of_all : Produces left_context 5 split_p (literal true (p_of x0))
