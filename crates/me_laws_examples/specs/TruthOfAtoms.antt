-- What the context of ~v, parametric p(a,X0) and universal ~p(X0,b) produces.
use Rattle.std.specs.Prelude.{true, false, [], ◌∷◌}
use Rattle.me_terms.specs.Values.{EntryValue, Asserted, SplitLeft}
use Rattle.me_terms.specs.Context.{Context, pseudo, IsContext}
use Rattle.me_terms.specs.Produces.{Produces, IsProduced, IsTrueIn}
use Rattle.me_terms.specs.declared.entry.Kind.TheVariants.{Universal, Parametric}
use Rattle.me_laws_examples.specs.Letters.{a, b, x0, p, literal, entry}

abbrev pub parametric_entry : EntryValue
parametric_entry = entry true (p a x0) Parametric SplitLeft

abbrev pub universal_entry : EntryValue
universal_entry = entry false (p x0 b) Universal (Asserted 0 0 [])

abbrev pub three : Context
three = pseudo false ∷ parametric_entry ∷ universal_entry ∷ []

-- p(a,b) is false by entry 2, p(a,a) true by entry 1, and p(b,a) false by entry 0.
pub record TruthOfAtoms : Type 0 where
  pub context : IsContext three
  pub ab_not_produced : ¬ IsProduced three (literal true (p a b))
  pub ab_by_2 : Produces three 2 universal_entry (literal false (p a b))
  pub aa_by_1 : Produces three 1 parametric_entry (literal true (p a a))
  pub ba_by_0 : Produces three 0 (pseudo false) (literal false (p b a))
  pub ab_false : IsTrueIn three (literal false (p a b))
  pub aa_true : IsTrueIn three (literal true (p a a))
  pub ba_false : IsTrueIn three (literal false (p b a))
