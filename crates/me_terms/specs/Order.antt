-- Which candidate is the least. A candidate's key is a list of numbers, and keys are compared lexicographically.
use Rattle.std.specs.Prelude.{◌≡◌, ℕ, ◌+◌, ◌<◌, List, [], ◌∷◌, ◌++◌, ◌⊎◌, ⊤}
use Rattle.me_terms.specs.Variables.{weights}
use Rattle.me_terms.specs.Measures.{literal_weight}
use Rattle.me_terms.specs.Values.{ProblemValue, EntryValue}
use Rattle.me_terms.specs.Context.{Context}
use Rattle.me_terms.specs.Close.{IsClose}
use Rattle.me_terms.specs.Assert.{IsAssert}
use Rattle.me_terms.specs.Split.{IsSplit}
use Rattle.me_terms.specs.declared.bounds.Bounds.{Bounds}
use Rattle.me_terms.specs.declared.entry.Kind.{Kind}
use Rattle.me_terms.specs.declared.entry.Kind.TheVariants.{Universal, Parametric}
use Rattle.me_terms.specs.declared.atom.Literal.{Literal}
use Rattle.me_terms.specs.declared.atom.Pattern.{Pattern}
use Rattle.me_terms.specs.declared.atom.Pattern.TheVariants.{Any, Of}

-- The key stands at or before the other one lexicographically: at the first place where they differ it has the smaller number, or it ends there or before.
abbrev pub Precedes : List ℕ → List ℕ → Type 0
Precedes [] other = ⊤
Precedes (x ∷ key) [] = ⊥
Precedes (x ∷ key) (y ∷ other) = (x < y) ⊎ ((x ≡ y) × Precedes key other)

-- By clause, then tuple.
abbrev pub clause_key : ℕ → List ℕ → List ℕ
clause_key c tuple = c ∷ tuple

-- Universal stands before Parametric.
abbrev pub kind_rank : Kind → ℕ
kind_rank Universal = 0
kind_rank Parametric = 1

-- An atom's weight. The pseudo-atom has none, and is never asserted.
abbrev pub pattern_weight : Pattern → ℕ
pattern_weight Any = 0
pattern_weight (Of a) = 1 + weights a.args

-- Universal before Parametric; then by weight, clause, place and tuple.
abbrev pub assert_key : ℕ → ℕ → List ℕ → EntryValue → List ℕ
assert_key c place tuple e = kind_rank e.kind ∷ pattern_weight e.atom ∷ c ∷ place ∷ tuple

-- By the size of the remainder, then by weight, clause, tuple and place.
abbrev pub split_key : ℕ → List ℕ → ℕ → ℕ → Literal → List ℕ
split_key c tuple place size l = size ∷ literal_weight l ∷ c ∷ tuple ++ place ∷ []

-- No Close comes before this one.
abbrev pub IsLeastClose : ProblemValue → Context → ℕ → List ℕ → Type 0
IsLeastClose problem context c tuple =
    IsClose problem context c tuple
    × ((c' : ℕ) (tuple' : List ℕ) → IsClose problem context c' tuple' → Precedes (clause_key c tuple) (clause_key c' tuple'))

-- No Assert comes before that of the entry e.
abbrev pub IsLeastAssert : ProblemValue → Bounds → Context → EntryValue → Type 0
IsLeastAssert problem bounds context e =
    (c place : ℕ) × (tuple : List ℕ) × IsAssert problem bounds context c place tuple e
    × ((c' place' : ℕ) (tuple' : List ℕ) (e' : EntryValue) → IsAssert problem bounds context c' place' tuple' e' → Precedes (assert_key c place tuple e) (assert_key c' place' tuple' e'))

-- No Split comes before one on the literal l.
abbrev pub IsLeastSplit : ProblemValue → Bounds → Context → Literal → Type 0
IsLeastSplit problem bounds context l =
    (c place size : ℕ) × (tuple : List ℕ) × IsSplit problem bounds context c place tuple size l
    × ((c' place' size' : ℕ) (tuple' : List ℕ) (l' : Literal) → IsSplit problem bounds context c' place' tuple' size' l' → Precedes (split_key c tuple place size l) (split_key c' tuple' place' size' l'))
