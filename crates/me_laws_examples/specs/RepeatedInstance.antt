-- The clauses r(a,X), r(X,a), ~r(X,Y)|p(X,Y) and ~p(a,a)|~p(a,a): two entries of one clause whose instances coincide.
use Rattle.std.specs.Prelude.{true, false, [], ◌∷◌}
use Rattle.me_terms.specs.Terms.{TermValue, Nil, Cons, AtomValue}
use Rattle.me_terms.specs.Values.{SignatureValue, ProblemValue, EntryValue, Asserted}
use Rattle.me_terms.specs.Context.{Context, pseudo}
use Rattle.me_terms.specs.LeafList.{IsLeafList}
use Rattle.me_terms.specs.Close.{IsClose}
use Rattle.me_terms.specs.declared.entry.Kind.TheVariants.{Universal}
use Rattle.me_laws_examples.specs.Letters.{a, x0, x1, p, literal, entry, word}
use Rattle.me_laws_examples.specs.SmallAnswers.{clause_of}
use Rattle.me_laws_examples.specs.QueueOrder.{instance_of}

abbrev pub names : SignatureValue
names = record {
  functions = record { label = word 97; arity = 0 } ∷ [];
  predicates = record { label = word 112; arity = 2 } ∷ record { label = word 114; arity = 2 } ∷ [];
}

abbrev pub r : TermValue → TermValue → AtomValue
r s t = record { pred = 1; args = Cons s (Cons t Nil) }

abbrev pub two_ways : ProblemValue
two_ways = record {
  clauses = clause_of (literal true (r a x0) ∷ []) ∷ clause_of (literal true (r x0 a) ∷ []) ∷ clause_of (literal false (r x0 x1) ∷ literal true (p x0 x1) ∷ []) ∷ clause_of (literal false (p a a) ∷ literal false (p a a) ∷ []) ∷ [];
  signature = names;
  c0 = 0;
}

abbrev pub r_first : EntryValue
r_first = entry true (r a x0) Universal (Asserted 0 0 [])

abbrev pub r_second : EntryValue
r_second = entry true (r x0 a) Universal (Asserted 1 0 [])

abbrev pub p_first : EntryValue
p_first = entry true (p a x0) Universal (Asserted 2 1 (1 ∷ []))

abbrev pub p_second : EntryValue
p_second = entry true (p x0 a) Universal (Asserted 2 1 (2 ∷ []))

abbrev pub both_ways : Context
both_ways = pseudo false ∷ r_first ∷ r_second ∷ p_first ∷ p_second ∷ []

-- Both entries of p are asked at p(a,a) and add the same instance of their clause, which the leaf's list has once. The repeat is worked all the same: it alone asks for the second entry of r.
pub record RepeatIsDropped : Type 0 where
  pub closes : IsClose two_ways both_ways 3 (3 ∷ 4 ∷ [])
  pub listed : IsLeafList two_ways both_ways 3 (3 ∷ 4 ∷ []) (instance_of 3 (literal false (p a a) ∷ literal false (p a a) ∷ []) ∷ instance_of 2 (literal false (r a a) ∷ literal true (p a a) ∷ []) ∷ instance_of 0 (literal true (r a a) ∷ []) ∷ instance_of 1 (literal true (r a a) ∷ []) ∷ [])
