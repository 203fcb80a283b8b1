-- What a context unifier uses at a place.
use Rattle.std.specs.Prelude.{◌≡◌, ℕ, ◌+◌, not}
use Rattle.me_terms.specs.Substitutions.{Family}
use Rattle.me_terms.specs.Values.{EntryValue}
use Rattle.me_terms.specs.Context.{Context, IsVisible}
use Rattle.me_terms.specs.Unifier.{IsSolvedBy}
use Rattle.me_terms.specs.declared.atom.Literal.{Literal}

-- The visible entry e at position k is used against the literal l at that place of a clause: it has the opposite sign, and the family solves their equation.
pub record IsUsed (context : Context) (k : ℕ) (e : EntryValue) (f : Family) (place : ℕ) (l : Literal) : Type 0 where
  pub visible : IsVisible context k e
  pub opposite : e.positive ≡ not l.positive
  pub solved : IsSolvedBy (f (place + 1)) e.atom (f 0) l.atom
