-- Depth and weight of literals, clauses and instances, and a literal's complement and canonical form.
use Rattle.std.specs.Prelude.{ℕ, ◌+◌, min, not, List}
use Rattle.std.specs.List.{sum_by}
use Rattle.me_terms.specs.Variables.{depths, weights, canonical}
use Rattle.me_terms.specs.Values.{InstanceValue}
use Rattle.me_terms.specs.declared.atom.Literal.{Literal}

-- The greatest number that a u64 holds.
abbrev pub GREATEST_U64 : ℕ
GREATEST_U64 = 0xffff_ffff_ffff_ffff

-- A count as a u64 shows it: it stops at the greatest u64.
abbrev pub capped : ℕ → ℕ
capped n = min n GREATEST_U64

-- An atom has the greatest depth of its arguments, or 0 without any.
abbrev pub literal_depth : Literal → ℕ
literal_depth l = depths l.atom.args

-- The predicate counts, and each occurrence of a function or a variable.
abbrev pub literal_weight : Literal → ℕ
literal_weight l = 1 + weights l.atom.args

-- The sum of the literals' weights.
abbrev pub literals_weight : List Literal → ℕ
literals_weight ls = sum_by literal_weight ls

-- The sum of the instances' weights.
abbrev pub list_weight : List InstanceValue → ℕ
list_weight list = sum_by (λ i. literals_weight i.literals) list

-- The same atom with the other sign.
abbrev pub complement : Literal → Literal
complement l = record { positive = not l.positive; atom = l.atom }

-- The variant whose variables are numbered 0, 1, .. by first occurrence.
abbrev pub canonical_literal : Literal → Literal
canonical_literal l = record { positive = l.positive; atom = canonical l.atom }
