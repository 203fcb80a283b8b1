-- What is fed to a hash for terms and atoms: their symbols and variables, in the order in which they stand.
use Rattle.std.specs.Prelude.{[], ◌++◌}
use Rattle.std.specs.Hash.{HashWrites, u32}
use Rattle.me_terms.specs.Terms.{TermValue, Var, App, Arguments, Nil, Cons, AtomValue}

abbrev mutual
  pub term_fed : TermValue → HashWrites
  term_fed (Var x) = u32 x
  term_fed (App f ts) = u32 f ++ arguments_fed ts

  pub arguments_fed : Arguments → HashWrites
  arguments_fed Nil = []
  arguments_fed (Cons t ts) = term_fed t ++ arguments_fed ts

abbrev pub atom_fed : AtomValue → HashWrites
atom_fed a = u32 a.pred ++ arguments_fed a.args
