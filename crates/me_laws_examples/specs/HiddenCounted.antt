-- The clauses p(a), p(X) and q(X), where p(X0) hides p(a) in a context of three entries.
use Rattle.std.specs.Prelude.{true, false, [], ◌∷◌}
use Rattle.me_terms.specs.Values.{ProblemValue, EntryValue, Asserted}
use Rattle.me_terms.specs.Context.{Context, pseudo, IsHidden}
use Rattle.me_terms.specs.Next.{IsNext, Bounded, HasRoom}
use Rattle.me_terms.specs.declared.bounds.Bound.TheVariants as bound
use Rattle.me_terms.specs.declared.bounds.Bounds.{Bounds}
use Rattle.me_terms.specs.declared.bounds.Start.TheVariants.{Negative}
use Rattle.me_terms.specs.declared.entry.Kind.TheVariants.{Universal}
use Rattle.me_laws_examples.specs.Letters.{a, x0, p_of, q_of, literal, entry}
use Rattle.me_laws_examples.specs.AssertThenSplit.{names}
use Rattle.me_laws_examples.specs.SmallAnswers.{clause_of}

abbrev pub three_facts : ProblemValue
three_facts = record {
  clauses = clause_of (literal true (p_of a) ∷ []) ∷ clause_of (literal true (p_of x0) ∷ []) ∷ clause_of (literal true (q_of x0) ∷ []) ∷ [];
  signature = names;
  c0 = 0;
}

-- a context has room for one entry more where it has at most two
abbrev pub three_literals : Bounds
three_literals = record { depth = 6; weight = 1000; literals = 3; list = 10000000; start = Negative }

abbrev pub p_of_a : EntryValue
p_of_a = entry true (p_of a) Universal (Asserted 0 0 [])

abbrev pub p_of_any : EntryValue
p_of_any = entry true (p_of x0) Universal (Asserted 1 0 [])

abbrev pub crowded : Context
crowded = pseudo false ∷ p_of_a ∷ p_of_any ∷ []

-- The hidden p(a) counts: with it there is no room for q(X0) and the bound on literals is met, and without it there would be room.
pub record HiddenIsCounted : Type 0 where
  pub hidden : IsHidden crowded 1 p_of_a
  pub met : IsNext three_facts three_literals crowded (Bounded bound.Literals)
  pub room_without : HasRoom three_literals (pseudo false ∷ p_of_any ∷ [])
