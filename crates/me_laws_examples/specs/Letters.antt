-- The constants, variables, atoms and bounds of which the examples speak.
use Rattle.std.specs.Prelude.{ℕ, Bool, [], ◌∷◌}
use Rattle.me_terms.specs.Terms.{TermValue, Var, App, Nil, Cons, AtomValue}
use Rattle.me_terms.specs.Values.{LabelValue, EntryValue, ReasonValue}
use Rattle.me_terms.specs.declared.bounds.Bounds.{Bounds}
use Rattle.me_terms.specs.declared.bounds.Start.{Start}
use Rattle.me_terms.specs.declared.symbol.Form.TheVariants.{Word}
use Rattle.me_terms.specs.declared.entry.Kind.{Kind}
use Rattle.me_terms.specs.declared.atom.Literal.{Literal}
use Rattle.me_terms.specs.declared.atom.Pattern.TheVariants.{Of}

abbrev pub a : TermValue
a = App 0 Nil

abbrev pub b : TermValue
b = App 1 Nil

abbrev pub x0 : TermValue
x0 = Var 0

abbrev pub x1 : TermValue
x1 = Var 1

-- the first predicate, of two arguments and of one
abbrev pub p : TermValue → TermValue → AtomValue
p s t = record { pred = 0; args = Cons s (Cons t Nil) }

abbrev pub p_of : TermValue → AtomValue
p_of t = record { pred = 0; args = Cons t Nil }

-- the second predicate, of one argument
abbrev pub q_of : TermValue → AtomValue
q_of t = record { pred = 1; args = Cons t Nil }

abbrev pub literal : Bool → AtomValue → Literal
literal positive atom = record { positive = positive; atom = atom }

abbrev pub entry : Bool → AtomValue → Kind → ReasonValue → EntryValue
entry positive atom kind reason = record { positive = positive; atom = Of atom; kind = kind; reason = reason }

-- a word of one letter
abbrev pub word : ℕ → LabelValue
word letter = record { form = Word; text = letter ∷ [] }

-- bounds that no search of the examples meets, and its start
abbrev pub usual_from : Start → Bounds
usual_from begins = record { depth = 6; weight = 1000; literals = 2000; list = 10000000; start = begins }
