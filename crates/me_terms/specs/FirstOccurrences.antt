-- Lists of instances in which each stands once.
use Rattle.std.specs.Prelude.{◌++◌, Bool, true, false, not, ◌&&◌, eqb, List, [], ◌∷◌}
use Rattle.std.specs.List.{filter}
use Rattle.std.specs.Cmp.Lexicographic.{pointwise}
use Rattle.me_terms.specs.TermEquality.{same_atom}
use Rattle.me_terms.specs.Values.{InstanceValue}
use Rattle.me_terms.specs.declared.atom.Literal.{Literal}

-- Both are true, or both are false.
abbrev pub same_sign_as : Bool → Bool → Bool
same_sign_as true b = b
same_sign_as false b = not b

-- The same sign and the same atom.
abbrev pub same_literal : Literal → Literal → Bool
same_literal l m = same_sign_as l.positive m.positive && same_atom l.atom m.atom

-- Of the same clause, and with the same literals.
abbrev pub same_instance : InstanceValue → InstanceValue → Bool
same_instance i j = eqb i.clause j.clause && pointwise same_literal i.literals j.literals

-- The first occurrence of each instance.
abbrev pub first_occurrences : List InstanceValue → List InstanceValue
first_occurrences [] = []
first_occurrences (i ∷ later) = i ∷ filter (λ j. not (same_instance i j)) (first_occurrences later)

-- Two lists as one, with the first occurrence of each instance.
abbrev pub joined : List InstanceValue → List InstanceValue → List InstanceValue
joined list more = first_occurrences (list ++ more)
