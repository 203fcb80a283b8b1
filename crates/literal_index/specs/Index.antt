-- What an index of a context's entries lists, by keys.
use Rattle.std.specs.Prelude.{◌≡◌, ℕ, Bool, true, false, ◌&&◌, not, List, map, Option, None, Some, if◌then◌else◌}
use Rattle.std.specs.List.{fold}
use Rattle.std.specs.Hash.FoldHasher as hasher
use Rattle.me_terms.specs.Terms.{TermValue, Var, App, Arguments, Nil, Cons, AtomValue}
use Rattle.me_terms.specs.Hashed.{atom_fed}
use Rattle.me_terms.specs.Values.{EntryValue}
use Rattle.me_terms.specs.Context.{Context}
use Rattle.me_terms.specs.declared.entry.Kind.{Kind}
use Rattle.me_terms.specs.declared.entry.Kind.TheVariants.{Universal, Parametric}
use Rattle.me_terms.specs.declared.atom.Pattern.{Pattern}
use Rattle.me_terms.specs.declared.atom.Pattern.TheVariants.{Any, Of}

-- the hash code of an atom: equal atoms have one code
abbrev pub code_of : AtomValue → ℕ
code_of a = hasher.finish (fold hasher.write hasher.initial (atom_fed a))

-- The term is a constant.
abbrev pub is_constant : TermValue → Bool
is_constant (Var x) = false
is_constant (App f Nil) = true
is_constant (App f (Cons t ts)) = false

-- Each argument is a constant; so the atom is ground.
abbrev pub are_constants : Arguments → Bool
are_constants Nil = true
are_constants (Cons t ts) = is_constant t && are_constants ts

abbrev pub is_universal : Kind → Bool
is_universal Universal = true
is_universal Parametric = false

-- the code of the entry's atom; the pseudo-literal has none
abbrev pub code_in : Pattern → Option ℕ
code_in Any = None
code_in (Of a) = Some (code_of a)

-- the predicate of an entry that may be more general than other atoms: a Universal one with an argument that is no constant
abbrev pub general_in : Kind → Pattern → Option ℕ
general_in kind Any = None
general_in kind (Of a) = if is_universal kind && not (are_constants a.args) then Some a.pred else None

abbrev pub code_key : EntryValue → Option ℕ
code_key e = code_in e.atom

abbrev pub general_key : EntryValue → Option ℕ
general_key e = general_in e.kind e.atom

-- What a contract sees of an index: for each position the keys by which it is listed.
pub record IndexValue : Type 0 where
  pub atoms : List (Option ℕ)
  pub general : List (Option ℕ)

-- The index is that of the context: it lists each entry, hidden or not, by the code of its atom, and by its predicate where it may be more general than other atoms.
pub record IsIndex (context : Context) (index : IndexValue) : Type 0 where
  pub atoms : index.atoms ≡ map code_key context
  pub general : index.general ≡ map general_key context
