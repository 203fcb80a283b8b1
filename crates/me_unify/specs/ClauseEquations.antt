-- The equations of a clause's literals with the entries that are set against them.
use Rattle.std.specs.Prelude.{ℕ, ◌+◌, List, [], ◌∷◌, ◌++◌, Option, Some, None}
use Rattle.me_terms.specs.Values.{EntryValue}
use Rattle.me_terms.specs.Context.{Context}
use Rattle.me_terms.specs.Positions.{entry_at}
use Rattle.me_terms.specs.declared.atom.Literal.{Literal}
use Rattle.me_terms.specs.declared.atom.Pattern.{Pattern}
use Rattle.me_terms.specs.declared.atom.Pattern.TheVariants.{Any, Of}
use Rattle.me_unify.specs.Equations.{Equation, equation}

-- The equation of a pattern, with the variables of its space, and a literal's atom with those of space 0. The pseudo-atom gives none.
abbrev pub equations_with : ℕ → Pattern → Literal → List Equation
equations_with space Any l = []
equations_with space (Of a) l = equation space a 0 l.atom ∷ []

-- The same of what stands at a position, if anything does.
abbrev pub equations_at : ℕ → Option EntryValue → Literal → List Equation
equations_at space None l = []
equations_at space (Some e) l = equations_with space e.atom l

-- The equations of the places, rising, where the first literal stands at place i.
abbrev pub equations_from : ℕ → Context → List Literal → List (Option ℕ) → List Equation
equations_from i context [] ks = []
equations_from i context (l ∷ ls) [] = []
equations_from i context (l ∷ ls) (k ∷ ks) = equations_at (i + 1) (entry_at context k) l ++ equations_from (i + 1) context ls ks

-- The equations of a clause's places, rising. A skipped place gives none.
abbrev pub clause_equations : Context → List Literal → List (Option ℕ) → List Equation
clause_equations context literals positions = equations_from 0 context literals positions
