-- The contexts to which the rules lead.
use Rattle.std.specs.Prelude.{Bool, true, false, [], ◌∷◌}
use Rattle.me_terms.specs.Measures.{complement}
use Rattle.me_terms.specs.Values.{ProblemValue, EntryValue, ReasonValue, SplitLeft, SplitRight}
use Rattle.me_terms.specs.Context.{Context, pseudo, add}
use Rattle.me_terms.specs.Next.{IsNext, Assert, Split}
use Rattle.me_terms.specs.declared.bounds.Bounds.{Bounds}
use Rattle.me_terms.specs.declared.bounds.Start.{Start}
use Rattle.me_terms.specs.declared.bounds.Start.TheVariants as choice
use Rattle.me_terms.specs.declared.entry.Kind.{Kind}
use Rattle.me_terms.specs.declared.atom.Literal.{Literal}
use Rattle.me_terms.specs.declared.atom.Pattern.TheVariants.{Of}

-- The sign of the pseudo-literal that a search starts with.
abbrev pub sign_of : Start → Bool
sign_of choice.Negative = false
sign_of choice.Positive = true

-- The context in which a search begins: the pseudo-literal of the start's sign alone.
abbrev pub start : Start → Context
start begins = pseudo (sign_of begins) ∷ []

-- The entry of a split literal.
abbrev pub split_entry : Literal → Kind → ReasonValue → EntryValue
split_entry l kind why = record { positive = l.positive; atom = Of l.atom; kind = kind; reason = why }

-- The left branch gets the literal that is split on.
abbrev pub left_of : Context → Literal → Kind → Context
left_of context l kind = add context (split_entry l kind SplitLeft)

-- The right branch gets its complement, of the same kind.
abbrev pub right_of : Context → Literal → Kind → Context
right_of context l kind = add context (split_entry (complement l) kind SplitRight)

-- A context is grown where it is the bounds' start, or where a next step adds its last entry to a grown one.
pub data IsGrown (problem : ProblemValue) (bounds : Bounds) : Context → Type 0 where
  started : IsGrown problem bounds (start bounds.start)
  asserted : {context : Context} {e : EntryValue} → IsGrown problem bounds context → IsNext problem bounds context (Assert e) → IsGrown problem bounds (add context e)
  went_left : {context : Context} {l : Literal} {kind : Kind} → IsGrown problem bounds context → IsNext problem bounds context (Split l kind) → IsGrown problem bounds (left_of context l kind)
  went_right : {context : Context} {l : Literal} {kind : Kind} → IsGrown problem bounds context → IsNext problem bounds context (Split l kind) → IsGrown problem bounds (right_of context l kind)
