-- Jobs: a path, and the context at which its walk begins.
use Rattle.std.specs.Prelude.{◌≡◌, true, false, [], ◌∷◌, ◌++◌}
use Rattle.me_terms.specs.Values.{ProblemValue, ReasonValue, Pseudo, Asserted, SplitLeft, SplitRight}
use Rattle.me_terms.specs.Context.{Context}
use Rattle.me_terms.specs.Grown.{IsGrown}
use Rattle.me_terms.specs.declared.bounds.Bounds.{Bounds}
use Rattle.branch_core.specs.Paths.{Turns}

-- The turn that an entry of a Split stands for. Other entries stand for none.
abbrev pub turn_of : ReasonValue → Turns
turn_of SplitLeft = false ∷ []
turn_of SplitRight = true ∷ []
turn_of Pseudo = []
turn_of (Asserted c place tuple) = []

-- The turns by which a context came about: those of its entries, in order.
abbrev pub turns_taken : Context → Turns
turns_taken [] = []
turns_taken (e ∷ later) = turn_of e.reason ++ turns_taken later

-- A walk of the path may begin at the context: it is one to which the rules lead from the bounds' start, by the turns of the path and no more.
pub record IsJob (problem : ProblemValue) (bounds : Bounds) (path : Turns) (context : Context) : Type 0 where
  pub grown : IsGrown problem bounds context
  pub turns : turns_taken context ≡ path
