-- What a search may rely on at a next step.
use Rattle.std.specs.Prelude.{◌≡◌, ◌⊎◌}
use Rattle.me_terms.specs.Measures.{complement}
use Rattle.me_terms.specs.Values.{EntryValue, SplitLeft, SplitRight}
use Rattle.me_terms.specs.Context.{Context, IsLiteralEntry}
use Rattle.me_terms.specs.Contradictory.{Contradicts}
use Rattle.me_terms.specs.Next.{NextValue, Close, Assert, Split, Exhausted, Bounded, HasRoom}
use Rattle.me_terms.specs.Grown.{split_entry}
use Rattle.me_terms.specs.declared.bounds.Bounds.{Bounds}

-- The step adds the entry: an Assert its own; a Split its literal on the left, and the complement of it on the right.
abbrev pub IsAddedBy : NextValue → EntryValue → Type 0
IsAddedBy (Close c tuple) e = ⊥
IsAddedBy (Assert entry) e = e ≡ entry
IsAddedBy (Split l kind) e = (e ≡ split_entry l kind SplitLeft) ⊎ (e ≡ split_entry (complement l) kind SplitRight)
IsAddedBy Exhausted e = ⊥
IsAddedBy (Bounded b) e = ⊥

-- The entry may be added to the context: it is a literal, does not contradict the context, and there is room for it.
pub record MayBeAdded (bounds : Bounds) (context : Context) (e : EntryValue) : Type 0 where
  pub literal : IsLiteralEntry e
  pub apart : ¬ Contradicts context e.positive e.kind e.atom
  pub room : HasRoom bounds context
