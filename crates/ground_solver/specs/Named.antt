-- What clauses over numbers stand for, where the atoms are listed by number.
use Rattle.std.specs.Prelude.{◌≡◌, ℕ, Bool, false, List, length, Option, Some, None, slice_get, slice_index_or}
use Rattle.std.specs.List.{AllZip, position_or_len, sum_by}
use Rattle.std.specs.declared.vec.Vec.{Vec}
use Rattle.std.specs.declared.alloc.Global.{Global}
use Rattle.me_terms.specs.Terms.{AtomValue, Nil}
use Rattle.me_terms.specs.TermEquality.{same_atom}
use Rattle.me_terms.specs.Refuted.{Valuation}
use Rattle.me_terms.specs.declared.atom.Literal.{Literal}
use Rattle.ground_solver.specs.Numbered.{Clauses}
use Rattle.ground_solver.specs.Standings.{value_at}
use Rattle.ground_solver.specs.declared.decision.Split.{Split}
use Rattle.ground_solver.specs.declared.decision.Split.TheVariants as split
use Rattle.ground_solver.specs.declared.signed.Signed.{Signed}
use Rattle.ground_solver.specs.declared.signed.Step.{Step}
use Rattle.ground_solver.specs.declared.signed.Step.TheVariants.{Branch, Leaf}

-- The literal over a number stands for the literal.
abbrev pub Names : List AtomValue → Signed → Literal → Type 0
Names atoms l m = (slice_get atoms l.atom ≡ Some m.atom) × (l.positive ≡ m.positive)

abbrev pub NameAll : List AtomValue → Clauses → List (List Literal) → Type 0
NameAll atoms clauses list = AllZip (λ (clause : Vec Signed Global) (literals : List Literal). AllZip (Names atoms) clause.items literals) clauses list

-- The atom of a number, and some atom past the list.
abbrev pub named : List AtomValue → ℕ → AtomValue
named atoms n = slice_index_or atoms n (record { pred = 0; args = Nil })

-- The node with the atom that its number stands for.
abbrev pub named_node : List AtomValue → Step → Split
named_node atoms (Branch n) = split.Branch (named atoms n)
named_node atoms (Leaf at) = split.Leaf at

abbrev pub is_true : Option Bool → Bool
is_true None = false
is_true (Some b) = b

-- An atom is true where its number has the value true.
abbrev pub valuation : List AtomValue → List (Option Bool) → Valuation
valuation atoms values atom = is_true (value_at values (position_or_len (same_atom atom) atoms))

-- How many literals the clauses have.
abbrev pub literal_count : List (List Literal) → ℕ
literal_count clauses = sum_by length clauses
