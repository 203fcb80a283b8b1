-- What stands at the top of a term.
use Rattle.std.specs.Prelude.{◌≡◌, length}
use Rattle.me_terms.specs.Terms.{TermValue, Var, App, list_of}
use Rattle.me_unify.specs.declared.apart.Top.{Top}

-- The term is that function of as many arguments.
abbrev pub HasTop : TermValue → Top → Type 0
HasTop (Var x) top = ⊥
HasTop (App f ts) top = (f ≡ top.f) × (length (list_of ts) ≡ top.arity)
