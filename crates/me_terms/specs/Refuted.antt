-- Lists of instances that no choice of truth values makes true.
use Rattle.std.specs.Prelude.{◌≡◌, Bool, not, List}
use Rattle.std.specs.List.{All, Any}
use Rattle.me_terms.specs.Terms.{AtomValue}
use Rattle.me_terms.specs.Values.{InstanceValue}
use Rattle.me_terms.specs.declared.atom.Literal.{Literal}

-- A truth value for each atom.
abbrev pub Valuation : Type 0
Valuation = AtomValue → Bool

-- The atom has the truth value that makes the literal false.
abbrev pub IsFalseUnder : Valuation → Literal → Type 0
IsFalseUnder value l = value l.atom ≡ not l.positive

-- Under every choice of truth values some clause of the list has only false literals.
abbrev pub IsRefuted : List InstanceValue → Type 0
IsRefuted list = (value : Valuation) → Any (λ i. All (IsFalseUnder value) i.literals) list
