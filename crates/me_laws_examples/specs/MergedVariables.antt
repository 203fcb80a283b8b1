-- The parametric p(X0,X1) against ~p(X0,X0) and against ~p(X0,a).
use Rattle.std.specs.Prelude.{true, false, [], ◌∷◌}
use Rattle.me_terms.specs.Terms.{AtomValue}
use Rattle.me_terms.specs.Values.{SignatureValue, ProblemValue, EntryValue, SplitLeft}
use Rattle.me_terms.specs.Context.{Context, pseudo}
use Rattle.me_terms.specs.Close.{IsClose}
use Rattle.me_terms.specs.declared.entry.Kind.TheVariants.{Parametric}
use Rattle.me_laws_examples.specs.Letters.{a, x0, x1, p, literal, entry, word}

abbrev pub names : SignatureValue
names = record { functions = record { label = word 97; arity = 0 } ∷ []; predicates = record { label = word 112; arity = 2 } ∷ [] }

-- the clause of the negative literal of that atom alone
abbrev pub denying : AtomValue → ProblemValue
denying atom = record { clauses = record { number = 1; label = word 99; literals = literal false atom ∷ [] } ∷ []; signature = names; c0 = 0 }

abbrev pub wide_entry : EntryValue
wide_entry = entry true (p x0 x1) Parametric SplitLeft

abbrev pub wide_context : Context
wide_context = pseudo false ∷ wide_entry ∷ []

-- Where two variables become one variable, nothing is in the remainder and the clause closes. Where a variable becomes a constant, the place is in the remainder of every unifier, and it does not.
pub record MergedVariablesClose : Type 0 where
  pub merged : IsClose (denying (p x0 x0)) wide_context 0 (1 ∷ [])
  pub constant : ¬ IsClose (denying (p x0 a)) wide_context 0 (1 ∷ [])
