-- What a context refuses it refuses for good.
use Rattle.std.specs.Prelude.{◌≡◌, ◌⊎◌, ◌↔◌, ◌++◌}
use Rattle.me_terms.specs.Context.{Context}
use Rattle.me_terms.specs.Contradictory.{IsContradictory}
use Rattle.me_terms.specs.Fits.{Fits}
use Rattle.me_terms.specs.Assert.{IsSubsumed, HasVariant, MayAssert}
use Rattle.me_terms.specs.declared.bounds.Bounds.{Bounds}
use Rattle.me_terms.specs.declared.entry.Kind.{Kind}
use Rattle.me_terms.specs.declared.entry.Kind.TheVariants.{Parametric}
use Rattle.me_terms.specs.declared.atom.Literal.{Literal}

-- The context refuses the literal with this kind: it is contradictory, subsumed, or Parametric with a variant.
abbrev pub Refuses : Context → Literal → Kind → Type 0
Refuses context l kind =
    IsContradictory context l kind ⊎ (IsSubsumed context l ⊎ ((kind ≡ Parametric) × HasVariant context l))

-- A literal may be asserted exactly where it fits and is not refused.
abbrev pub AllowedWhereNotRefused : Type 0
AllowedWhereNotRefused = (bounds : Bounds) (context : Context) (l : Literal) (kind : Kind) → MayAssert bounds context l kind ↔ (Fits bounds l × ¬ Refuses context l kind)

-- What is refused stays refused.
abbrev pub RefusedStaysRefused : Type 0
RefusedStaysRefused = (context more : Context) (l : Literal) (kind : Kind) → Refuses context l kind → Refuses (context ++ more) l kind

-- What may be asserted later may be asserted before.
abbrev pub AllowedBefore : Type 0
AllowedBefore = (bounds : Bounds) (context more : Context) (l : Literal) (kind : Kind) → MayAssert bounds (context ++ more) l kind → MayAssert bounds context l kind
