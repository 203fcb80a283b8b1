-- The head of a term, and what stands in it.
use Rattle.std.specs.Prelude.{ℕ}
use Rattle.me_terms.specs.Terms.{TermValue, Var, App, Arguments, Nil}

-- The function or the variable at a term's head.
abbrev pub symbol_of : TermValue → ℕ
symbol_of (Var x) = x
symbol_of (App f ts) = f

-- A term's arguments. A variable has none.
abbrev pub arguments_in : TermValue → Arguments
arguments_in (Var x) = Nil
arguments_in (App f ts) = ts
