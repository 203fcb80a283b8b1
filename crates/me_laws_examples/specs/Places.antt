-- What stands at the places of a clause: positions, what is left in the remainder, and what an instance asks for.
use Rattle.std.specs.Prelude.{◌≡◌, eqb, true, false, [], ◌∷◌, Some, None, if◌then◌else◌}
use Rattle.me_terms.specs.Terms.{Var}
use Rattle.me_terms.specs.Substitutions.{Family}
use Rattle.me_terms.specs.Values.{EntryValue, SplitLeft}
use Rattle.me_terms.specs.Context.{Context, pseudo}
use Rattle.me_terms.specs.Positions.{positions_of, entry_at}
use Rattle.me_terms.specs.Remainder.{remainder}
use Rattle.me_terms.specs.LeafList.{demands}
use Rattle.me_terms.specs.declared.entry.Kind.TheVariants.{Universal, Parametric}
use Rattle.me_laws_examples.specs.Letters.{a, b, x0, x1, p, p_of, q_of, literal, entry}

abbrev pub wide : EntryValue
wide = entry true (p x0 x1) Parametric SplitLeft

-- the pseudo-literal, the universal p(X0) and the parametric p(X0,X1)
abbrev pub three : Context
three = pseudo false ∷ entry true (p_of x0) Universal SplitLeft ∷ wide ∷ []

-- every variable becomes a, or all become one variable, or only X1 becomes a, or only those of the second place do
abbrev pub all_constant : Family
all_constant space x = a

abbrev pub all_one : Family
all_one space x = Var 7

abbrev pub second_variable : Family
second_variable space x = if eqb x 1 then a else Var x

abbrev pub second_place : Family
second_place space x = if eqb space 2 then a else Var x

-- A skipped place has no position. The pseudo-literal is always in the remainder, and a Parametric entry where one of its variables becomes a term that is no variable. Each literal asks at its complement, and a skipped place asks nothing.
pub record Places : Type 0 where
  pub none_skipped : positions_of None (5 ∷ 7 ∷ []) ≡ Some 5 ∷ Some 7 ∷ []
  pub first_skipped : positions_of (Some 0) (5 ∷ 7 ∷ []) ≡ None ∷ Some 5 ∷ Some 7 ∷ []
  pub second_skipped : positions_of (Some 1) (5 ∷ 7 ∷ []) ≡ Some 5 ∷ None ∷ Some 7 ∷ []
  pub last_skipped : positions_of (Some 2) (5 ∷ 7 ∷ []) ≡ Some 5 ∷ Some 7 ∷ None ∷ []
  pub only_skipped : positions_of (Some 0) [] ≡ None ∷ []
  pub at_position : entry_at three (Some 2) ≡ Some wide
  pub at_skipped : entry_at three None ≡ None
  pub constants_remain : remainder three (Some 2 ∷ Some 0 ∷ None ∷ Some 1 ∷ Some 2 ∷ []) all_constant ≡ 0 ∷ 1 ∷ 4 ∷ []
  pub variables_do_not : remainder three (Some 2 ∷ Some 0 ∷ None ∷ Some 1 ∷ Some 2 ∷ []) all_one ≡ 1 ∷ []
  pub one_is_enough : remainder three (Some 2 ∷ []) second_variable ≡ 0 ∷ []
  pub by_its_own_space : remainder three (Some 2 ∷ Some 2 ∷ Some 2 ∷ []) second_place ≡ 1 ∷ []
  pub no_places : remainder three [] all_constant ≡ []
  pub each_asks : demands (literal true (p_of a) ∷ literal false (q_of b) ∷ []) (Some 3 ∷ Some 0 ∷ []) ≡ (3, literal false (p_of a)) ∷ (0, literal true (q_of b)) ∷ []
  pub skipped_asks_nothing : demands (literal true (p_of a) ∷ literal false (q_of b) ∷ []) (None ∷ Some 1 ∷ []) ≡ (1, literal true (q_of b)) ∷ []
