-- What speaks of a problem alone: instances of its clauses, and contexts over its signature.
use Rattle.std.specs.Prelude.{ℕ, ◌<◌, Bool, length, IsTrue}
use Rattle.std.specs.List.{list_all}
use Rattle.me_terms.specs.Signatures.{is_known_atom}
use Rattle.me_terms.specs.Values.{SignatureValue, ProblemValue, EntryValue, InstanceValue}
use Rattle.me_terms.specs.Context.{Context, StandsAt, pseudo, IsAtomWith}

-- An instance of one of the problem's clauses, over its signature.
pub record IsKnownInstance (problem : ProblemValue) (i : InstanceValue) : Type 0 where
  pub clause : i.clause < length problem.clauses
  pub literals : IsTrue (list_all (λ l. is_known_atom problem.signature l.atom) i.literals)

-- A context over the signature, with the pseudo-literal at position 0 and nowhere else.
pub record IsKnownContext (signature : SignatureValue) (context : Context) : Type 0 where
  pub first : (positive : Bool) × StandsAt context 0 (pseudo positive)
  pub later : (k : ℕ) (e : EntryValue) → 0 < k → StandsAt context k e → IsAtomWith (λ a. IsTrue (is_known_atom signature a)) e.atom
