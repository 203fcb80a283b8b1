-- The newest literal of a grown context was not fixed by what stood there before.
use Rattle.std.specs.Prelude.{◌≡◌, ℕ, length, IsTrue}
use Rattle.me_terms.specs.Terms.{AtomValue}
use Rattle.me_terms.specs.Variables.{are_ground}
use Rattle.me_terms.specs.Values.{ProblemValue, EntryValue}
use Rattle.me_terms.specs.Context.{Context, StandsAt, Hides, add}
use Rattle.me_terms.specs.Grown.{IsGrown}
use Rattle.me_terms.specs.declared.bounds.Bounds.{Bounds}
use Rattle.me_terms.specs.declared.atom.Pattern.TheVariants.{Of}
use Rattle.me_laws_increments.specs.Replacement.{IsFixed}
use Rattle.me_laws_increments.specs.Lookup.{StandsSomewhere}

-- The atom of the newest entry was not fixed before.
abbrev pub NewestWasNotFixed : Type 0
NewestWasNotFixed = (problem : ProblemValue) (bounds : Bounds) (context : Context) (new : EntryValue) (a : AtomValue) → IsGrown problem bounds (add context new) → new.atom ≡ Of a → ¬ IsFixed context a

-- Where the atom of the newest entry is ground, no entry had it, hidden or not.
abbrev pub GroundStandsOnce : Type 0
GroundStandsOnce = (problem : ProblemValue) (bounds : Bounds) (context : Context) (new : EntryValue) (a : AtomValue) → IsGrown problem bounds (add context new) → new.atom ≡ Of a → IsTrue (are_ground a.args) → ¬ StandsSomewhere context a

-- A ground entry, when it comes, hides none.
abbrev pub GroundHidesNone : Type 0
GroundHidesNone = (problem : ProblemValue) (bounds : Bounds) (context : Context) (new : EntryValue) (a : AtomValue) (k : ℕ) (e : EntryValue) → IsGrown problem bounds (add context new) → new.atom ≡ Of a → IsTrue (are_ground a.args) → StandsAt context k e → ¬ Hides (add context new) k e (length context) new
