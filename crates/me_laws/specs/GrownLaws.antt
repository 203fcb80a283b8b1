-- Laws of the contexts to which the rules lead.
use Rattle.std.specs.Prelude.{◌≡◌, ℕ, List, [], ◌∷◌, ◌++◌}
use Rattle.me_terms.specs.Measures.{complement}
use Rattle.me_terms.specs.Values.{ProblemValue, EntryValue, ReasonValue, Pseudo, Asserted, SplitLeft, SplitRight}
use Rattle.me_terms.specs.Context.{Context, pseudo, IsContext}
use Rattle.me_terms.specs.Contradictory.{IsContradictory, IsConsistent}
use Rattle.me_terms.specs.Assert.{IsAssert}
use Rattle.me_terms.specs.Split.{IsSplit, split_kind}
use Rattle.me_terms.specs.Next.{IsNext, Assert, Split}
use Rattle.me_terms.specs.Grown.{sign_of, split_entry, IsGrown}
use Rattle.me_terms.specs.declared.bounds.Bounds.{Bounds}
use Rattle.me_terms.specs.declared.entry.Kind.{Kind}
use Rattle.me_terms.specs.declared.atom.Literal.{Literal}

-- Neither the literal of a Split nor its complement contradicts the context.
abbrev pub SplitIsApart : Type 0
SplitIsApart = (problem : ProblemValue) (bounds : Bounds) (context : Context) (c : ℕ) (tuple : List ℕ) (place size : ℕ) (l : Literal) → IsContext context → IsSplit problem bounds context c place tuple size l → (¬ IsContradictory context l (split_kind l)) × (¬ IsContradictory context (complement l) (split_kind l))

-- Every context to which the rules lead is a context, and consistent.
abbrev pub GrownIsConsistent : Type 0
GrownIsConsistent = (problem : ProblemValue) (bounds : Bounds) (context : Context) → IsGrown problem bounds context → IsContext context × IsConsistent context

-- What the reason of an entry says of the entries before it: there are none and the entry is the pseudo-literal of the bounds' start; or it is the Assert, or a side of the Split, that was next there.
abbrev pub ReasonHolds : ProblemValue → Bounds → Context → EntryValue → ReasonValue → Type 0
ReasonHolds problem bounds before e Pseudo = (before ≡ []) × (e ≡ pseudo (sign_of bounds.start))
ReasonHolds problem bounds before e (Asserted c place tuple) =
    IsGrown problem bounds before × IsNext problem bounds before (Assert e) × IsAssert problem bounds before c place tuple e
ReasonHolds problem bounds before e SplitLeft =
    IsGrown problem bounds before
    × ((l : Literal) × (kind : Kind) × IsNext problem bounds before (Split l kind) × (e ≡ split_entry l kind SplitLeft))
ReasonHolds problem bounds before e SplitRight =
    IsGrown problem bounds before
    × ((l : Literal) × (kind : Kind) × IsNext problem bounds before (Split l kind) × (e ≡ split_entry (complement l) kind SplitRight))

-- In a grown context the reason of every entry holds of the entries before it.
abbrev pub ReasonsHold : Type 0
ReasonsHold = (problem : ProblemValue) (bounds : Bounds) (before later : Context) (e : EntryValue) → IsGrown problem bounds (before ++ e ∷ later) → ReasonHolds problem bounds before e e.reason
