-- Which literals an entry at a position contradicts.
use Rattle.std.specs.Prelude.{◌≡◌, ℕ, not}
use Rattle.me_terms.specs.Values.{EntryValue}
use Rattle.me_terms.specs.Context.{Context, IsVisible}
use Rattle.me_terms.specs.Contradictory.{Clash}
use Rattle.me_terms.specs.declared.entry.Kind.{Kind}
use Rattle.me_terms.specs.declared.atom.Literal.{Literal}
use Rattle.me_terms.specs.declared.atom.Pattern.TheVariants.{Of}

-- The entry at position k is visible, has the opposite sign, and contradicts the literal, which is of that kind.
abbrev pub ContradictsAt : Context → ℕ → Literal → Kind → Type 0
ContradictsAt context k l kind =
    (e : EntryValue) × IsVisible context k e × (e.positive ≡ not l.positive) × Clash e.kind e.atom kind (Of l.atom)
