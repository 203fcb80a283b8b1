-- The clauses p and ~p: p is asserted, and ~p closes.
use Rattle.std.specs.Prelude.{true, false, List, [], ◌∷◌}
use Rattle.me_terms.specs.Terms.{Nil, AtomValue}
use Rattle.me_terms.specs.Values.{SignatureValue, ClauseValue, ProblemValue, InstanceValue, EntryValue, Asserted}
use Rattle.me_terms.specs.Validity.{IsValid}
use Rattle.me_terms.specs.Refuted.{IsRefuted}
use Rattle.me_terms.specs.Context.{Context, add}
use Rattle.me_terms.specs.Grown.{start, IsGrown}
use Rattle.me_terms.specs.Answer.{HasAnswer, Unsatisfiable}
use Rattle.me_terms.specs.declared.bounds.Bounds.{Bounds}
use Rattle.me_terms.specs.declared.bounds.Start.{Start}
use Rattle.me_terms.specs.declared.bounds.Start.TheVariants.{Negative}
use Rattle.me_terms.specs.declared.symbol.Form.TheVariants.{Word}
use Rattle.me_terms.specs.declared.entry.Kind.TheVariants.{Universal}
use Rattle.me_terms.specs.declared.atom.Literal.{Literal}
use Rattle.me_terms.specs.declared.atom.Pattern.TheVariants.{Of}
use Rattle.me_laws_examples.specs.Letters.{usual_from}

abbrev pub p : AtomValue
p = record { pred = 0; args = Nil }

abbrev pub positive_p : Literal
positive_p = record { positive = true; atom = p }

abbrev pub negative_p : Literal
negative_p = record { positive = false; atom = p }

abbrev pub clause_p : ClauseValue
clause_p = record { number = 1; label = record { form = Word; text = 97 ∷ [] }; literals = positive_p ∷ [] }

abbrev pub clause_not_p : ClauseValue
clause_not_p = record { number = 2; label = record { form = Word; text = 98 ∷ [] }; literals = negative_p ∷ [] }

abbrev pub names : SignatureValue
names = record {
  functions = record { label = record { form = Word; text = 99 ∷ 48 ∷ [] }; arity = 0 } ∷ [];
  predicates = record { label = record { form = Word; text = 112 ∷ [] }; arity = 0 } ∷ [];
}

abbrev pub first_run : ProblemValue
first_run = record { clauses = clause_p ∷ clause_not_p ∷ []; signature = names; c0 = 0 }

abbrev pub usual_bounds : Bounds
usual_bounds = usual_from Negative

abbrev pub entry_p : EntryValue
entry_p = record { positive = true; atom = Of p; kind = Universal; reason = Asserted 0 0 [] }

abbrev pub after : Context
after = add (start Negative) entry_p

abbrev pub first_list : List InstanceValue
first_list = record { clause = 1; literals = negative_p ∷ [] } ∷ record { clause = 0; literals = positive_p ∷ [] } ∷ []

-- p and ~p are unsatisfiable by their only instances: the problem is valid, the answer is the list of these two, and no choice of truth values makes both true. The context in which the search begins is grown, whatever the start, and so is that with p from the negative one.
pub record FirstRun : Type 0 where
  pub valid : IsValid first_run
  pub grown : (begins : Start) → IsGrown first_run (usual_from begins) (start begins)
  pub grown_after : IsGrown first_run usual_bounds after
  pub reply : HasAnswer first_run usual_bounds (Unsatisfiable first_list)
  pub refuted : IsRefuted first_list
