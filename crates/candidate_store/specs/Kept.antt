-- What is kept of a context, and when a store stands for one.
use Rattle.std.specs.Prelude.{◌≡◌, ℕ, suc, ◌≤◌, ◌<◌, ◌⊎◌, Bool, true, false, List, ◌∷◌, length, take, slice_get, Some}
use Rattle.std.specs.List.{Contains}
use Rattle.me_terms.specs.Substitutions.{Family}
use Rattle.me_terms.specs.Values.{ProblemValue, ClauseValue}
use Rattle.me_terms.specs.Context.{Context}
use Rattle.me_terms.specs.Productive.{IsProductiveUnifier}
use Rattle.me_terms.specs.Split.{IsSplit}
use Rattle.me_terms.specs.Order.{Precedes, split_key}
use Rattle.me_terms.specs.Close.{HasClose}
use Rattle.me_terms.specs.Assert.{HasAssert}
use Rattle.me_terms.specs.Next.{NextValue, Close, Assert, Split, Exhausted, Bounded, IsNext}
use Rattle.me_terms.specs.declared.bounds.Bounds.{Bounds}
use Rattle.me_terms.specs.declared.atom.Literal.{Literal}
use Rattle.me_laws_increments.specs.Pivots.{IsPivot}
use Rattle.clause_pairs.specs.Values.{PairsValue}
use Rattle.clause_pairs.specs.Pairs.{ArePairs}
use Rattle.candidate_keys.specs.Keys.{AssertKeyValue, UnifierKeyValue, unifier_code}
use Rattle.kept_asserts.specs.Held.{HoldsAsserts}
use Rattle.candidate_store.specs.Notes.{NotesValue, AreNotes}

-- The key is of the clause and the tuple, and comes at or before each Split of them.
pub record IsKeyOf (problem : ProblemValue) (bounds : Bounds) (context : Context) (c : ℕ) (tuple : List ℕ) (key : UnifierKeyValue) : Type 0 where
  pub of_clause : key.clause ≡ c
  pub of_tuple : key.tuple ≡ tuple
  pub first : (place size : ℕ) (l : Literal) → IsSplit problem bounds context c place tuple size l → Precedes (unifier_code key) (0 ∷ split_key c tuple place size l)

-- What is kept of a node: the next step, the unifiers that were found there, and how many positions were searched as their pivots.
pub record FrameValue : Type 0 where
  pub step : NextValue
  pub unifiers : List UnifierKeyValue
  pub searched : ℕ

-- Some frame has a key of which P holds.
abbrev pub HasKey : List FrameValue → (UnifierKeyValue → Type 0) → Type 0
HasKey frames P =
    (n : ℕ) × (f : FrameValue) × (key : UnifierKeyValue) × (slice_get frames n ≡ Some f) × Contains f.unifiers key × P key

-- The pivot of the tuple is a position before n.
abbrev pub HasPivotBefore : ℕ → List ℕ → Type 0
HasPivotBefore n tuple = (p i : ℕ) × IsPivot tuple p i × (p < n)

-- The frames have the keys of all productive unifiers of the context whose pivots were searched.
abbrev pub HoldUnifiers : ProblemValue → Bounds → Context → List FrameValue → ℕ → Type 0
HoldUnifiers problem bounds context frames searched =
    (c : ℕ) (tuple : List ℕ) (clause : ClauseValue) (family : Family) → IsProductiveUnifier problem context c tuple clause family → HasPivotBefore searched tuple → HasKey frames (λ key. IsKeyOf problem bounds context c tuple key)

-- The last of the frames is right for the context.
pub record IsFrame (problem : ProblemValue) (bounds : Bounds) (context : Context) (frames : List FrameValue) (f : FrameValue) : Type 0 where
  pub next : IsNext problem bounds context f.step
  pub unifiers : HoldUnifiers problem bounds context frames f.searched
  pub within : f.searched ≤ length context

-- There is a frame for each entry, and each is right for the entries up to its own.
pub record AreFrames (problem : ProblemValue) (bounds : Bounds) (context : Context) (frames : List FrameValue) : Type 0 where
  pub each : length frames ≡ length context
  pub right : (n : ℕ) (f : FrameValue) → slice_get frames n ≡ Some f → IsFrame problem bounds (take (suc n) context) (take (suc n) frames) f

-- Whether the step closes the context.
abbrev pub is_close : NextValue → Bool
is_close (Close c tuple) = true
is_close (Assert e) = false
is_close (Split l kind) = false
is_close Exhausted = false
is_close (Bounded b) = false

-- The context has no Close, and the Asserts that are kept are fresh or it has none.
abbrev pub IsSettled : ProblemValue → Bounds → Context → Bool → Type 0
IsSettled problem bounds context is_fresh = (¬ HasClose problem context) × ((is_fresh ≡ true) ⊎ (¬ HasAssert problem bounds context))

-- What is kept of the first entries of a context.
pub record StoreValue : Type 0 where
  pub bounds : Bounds
  pub notes : NotesValue
  pub pairs : PairsValue
  pub asserts : List AssertKeyValue
  pub is_fresh : Bool
  pub frames : List FrameValue

-- All Asserts of the context are kept.
abbrev pub AreAsserts : ProblemValue → Context → StoreValue → Type 0
AreAsserts problem context s = HoldsAsserts problem s.bounds context s.asserts

-- What notes and pairs have is of the second context, and all else of the first.
pub record IsBeside (problem : ProblemValue) (context noted : Context) (s : StoreValue) : Type 0 where
  pub some : 0 < length context
  pub notes : AreNotes noted s.notes
  pub pairs : ArePairs problem noted s.pairs
  pub frames : AreFrames problem s.bounds context s.frames
  pub asserts : s.is_fresh ≡ true → AreAsserts problem context s

-- All that is kept is of the context.
abbrev pub IsKept : ProblemValue → Context → StoreValue → Type 0
IsKept problem context s = IsBeside problem context context s

-- Notes and pairs are those of the context now, and all else is as before.
pub record IsNoted (problem : ProblemValue) (noted : Context) (old new : StoreValue) : Type 0 where
  pub notes : AreNotes noted new.notes
  pub pairs : ArePairs problem noted new.pairs
  pub rest : new ≡ record old { notes = new.notes; pairs = new.pairs }

-- The store stands for the context of the problem within the bounds.
pub record StandsFor (problem : ProblemValue) (bounds : Bounds) (context : Context) (s : StoreValue) : Type 0 where
  pub same_bounds : s.bounds ≡ bounds
  pub kept : IsKept problem context s
