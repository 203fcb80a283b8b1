-- Choices of truth values, and the clauses that they make true.
use Rattle.std.specs.Prelude.{◌≡◌, List, [], ◌∷◌, ◌++◌, map, cond}
use Rattle.std.specs.List.{All, Any, fold, filter, list_any}
use Rattle.me_terms.specs.Terms.{AtomValue}
use Rattle.me_terms.specs.TermEquality.{same_atom}
use Rattle.me_terms.specs.Sequences.{SequenceValue}
use Rattle.me_terms.specs.Refuted.{Valuation, IsFalseUnder}
use Rattle.me_terms.specs.declared.atom.Literal.{Literal}

-- The clauses of a list, each as its literals.
abbrev pub clauses_of : List (SequenceValue Literal) → List (List Literal)
clauses_of list = map (λ (clause : SequenceValue Literal). clause.items) list

-- Under every choice of truth values some clause has only false literals.
abbrev pub IsUnsatisfiable : List (List Literal) → Type 0
IsUnsatisfiable clauses = (value : Valuation) → Any (λ clause. All (IsFalseUnder value) clause) clauses

-- The literal is true under the choice.
abbrev pub IsTrueUnder : Valuation → Literal → Type 0
IsTrueUnder value l = value l.atom ≡ l.positive

-- Each clause has a literal that is true under the choice.
abbrev pub Satisfies : Valuation → List (List Literal) → Type 0
Satisfies value clauses = All (λ clause. Any (IsTrueUnder value) clause) clauses

-- The atoms, with one more at the end where it does not stand among them yet.
abbrev pub with_atom : List AtomValue → AtomValue → List AtomValue
with_atom atoms atom = cond (list_any (same_atom atom) atoms) atoms (atoms ++ atom ∷ [])

-- The atoms, and then those of the literals that do not stand among them yet.
abbrev pub with_atoms : List AtomValue → List Literal → List AtomValue
with_atoms atoms literals = fold (λ (known : List AtomValue) (l : Literal). with_atom known l.atom) atoms literals

-- The atoms of the clauses, each once, in order of first occurrence.
abbrev pub atoms_of : List (List Literal) → List AtomValue
atoms_of clauses = fold with_atoms [] clauses

-- These atoms are true and the others of the clauses false under a choice that satisfies the clauses.
abbrev pub IsModel : List (List Literal) → List AtomValue → Type 0
IsModel clauses trues = (value : Valuation) × (trues ≡ filter value (atoms_of clauses)) × Satisfies value clauses
