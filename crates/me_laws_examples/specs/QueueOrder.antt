-- The clauses p, ~p|q, r and ~q|~r: in which order a leaf lists its instances.
use Rattle.std.specs.Prelude.{ℕ, true, false, List, [], ◌∷◌}
use Rattle.me_terms.specs.Terms.{Nil, AtomValue}
use Rattle.me_terms.specs.Values.{SignatureValue, ClauseValue, ProblemValue, InstanceValue, EntryValue, Asserted}
use Rattle.me_terms.specs.Context.{Context, pseudo}
use Rattle.me_terms.specs.LeafList.{IsLeafList}
use Rattle.me_terms.specs.declared.entry.Kind.TheVariants.{Universal}
use Rattle.me_terms.specs.declared.atom.Literal.{Literal}
use Rattle.me_laws_examples.specs.Letters.{literal, entry, word}

-- the predicate of that number, without arguments
abbrev pub plain : ℕ → AtomValue
plain n = record { pred = n; args = Nil }

abbrev pub p : AtomValue
p = plain 0

abbrev pub q : AtomValue
q = plain 1

abbrev pub r : AtomValue
r = plain 2

abbrev pub names : SignatureValue
names = record {
  functions = record { label = word 97; arity = 0 } ∷ [];
  predicates = record { label = word 112; arity = 0 } ∷ record { label = word 113; arity = 0 } ∷ record { label = word 114; arity = 0 } ∷ [];
}

abbrev pub clause_of : ℕ → List Literal → ClauseValue
clause_of number literals = record { number = number; label = word 99; literals = literals }

abbrev pub chain : ProblemValue
chain = record {
  clauses = clause_of 1 (literal true p ∷ []) ∷ clause_of 2 (literal false p ∷ literal true q ∷ []) ∷ clause_of 3 (literal true r ∷ []) ∷ clause_of 4 (literal false q ∷ literal false r ∷ []) ∷ [];
  signature = names;
  c0 = 0;
}

abbrev pub p_entry : EntryValue
p_entry = entry true p Universal (Asserted 0 0 [])

abbrev pub q_entry : EntryValue
q_entry = entry true q Universal (Asserted 1 1 (1 ∷ []))

abbrev pub r_entry : EntryValue
r_entry = entry true r Universal (Asserted 2 0 [])

abbrev pub chained : Context
chained = pseudo false ∷ p_entry ∷ q_entry ∷ r_entry ∷ []

abbrev pub instance_of : ℕ → List Literal → InstanceValue
instance_of clause literals = record { clause = clause; literals = literals }

-- What the closing clause asks for comes first, q and then r; what q's clause asks for comes after both.
abbrev pub QueueOrder : Type 0
QueueOrder = IsLeafList chain chained 3 (2 ∷ 3 ∷ []) (instance_of 3 (literal false q ∷ literal false r ∷ []) ∷ instance_of 1 (literal false p ∷ literal true q ∷ []) ∷ instance_of 2 (literal true r ∷ []) ∷ instance_of 0 (literal true p ∷ []) ∷ [])
