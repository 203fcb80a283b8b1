-- Which of two entries an Assert adds first.
use Rattle.std.specs.Prelude.{◌≡◌, ℕ, ◌<◌, ◌⊎◌, Option, Some, None, ⊤}
use Rattle.me_terms.specs.Values.{EntryValue}
use Rattle.me_terms.specs.Order.{kind_rank, pattern_weight}
use Rattle.me_terms.specs.declared.entry.Kind.{Kind}

-- What has the first kind and weight comes before what has the second: by kind, then weight.
abbrev pub IsAssertedBefore : Kind → ℕ → Kind → ℕ → Type 0
IsAssertedBefore kind weight other_kind other_weight =
    (kind_rank kind < kind_rank other_kind) ⊎ ((kind_rank kind ≡ kind_rank other_kind) × (weight < other_weight))

-- What has this kind and weight comes before the best entry so far; where there is none, anything does.
abbrev pub IsBeforeBest : Kind → ℕ → Option EntryValue → Type 0
IsBeforeBest kind weight None = ⊤
IsBeforeBest kind weight (Some best) = IsAssertedBefore kind weight best.kind (pattern_weight best.atom)

-- The entry comes strictly before the best one so far, by kind and then weight.
abbrev pub ComesBeforeBest : EntryValue → Option EntryValue → Type 0
ComesBeforeBest e best = IsBeforeBest e.kind (pattern_weight e.atom) best
