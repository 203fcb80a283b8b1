-- The first of the unifiers that were found.
use Rattle.std.specs.Prelude.{◌≡◌, ℕ, List, ◌∷◌, slice_get, Option, Some, None, IfSome, ◌⊎◌}
use Rattle.std.specs.List.{Contains}
use Rattle.me_terms.specs.Substitutions.{Family}
use Rattle.me_terms.specs.Values.{ProblemValue, ClauseValue}
use Rattle.me_terms.specs.Context.{Context}
use Rattle.me_terms.specs.Measures.{canonical_literal}
use Rattle.me_terms.specs.Unifier.{unified}
use Rattle.me_terms.specs.Productive.{IsProductiveUnifier}
use Rattle.me_terms.specs.Split.{IsSplit}
use Rattle.me_terms.specs.Order.{Precedes, split_key}
use Rattle.me_terms.specs.Next.{NextValue, Split, Bounded, IsNext, HasRoom}
use Rattle.me_terms.specs.declared.bounds.Bound.{Bound}
use Rattle.me_terms.specs.declared.bounds.Bound.TheVariants as bound
use Rattle.me_terms.specs.declared.bounds.Bounds.{Bounds}
use Rattle.me_terms.specs.declared.atom.Literal.{Literal}
use Rattle.me_unify.specs.Equations.{IsMostGeneral}
use Rattle.joint_unifiers.specs.ClauseUnifiers.{UnifierValue, IsUnifierOf}
use Rattle.split_rule.specs.declared.choice.SplitChoice.{SplitChoice}
use Rattle.next_rule.specs.SplitSearches.{IsFirstBeyond}
use Rattle.candidate_keys.specs.declared.unifier_key.Fit.{Fit}
use Rattle.candidate_keys.specs.Keys.{UnifierKeyValue, unifier_code}
use Rattle.candidate_store.specs.Kept.{IsKeyOf, FrameValue, HasKey}

-- What is chosen of a remainder of that size, as a part of a key.
abbrev pub fit_of : ℕ → Option SplitChoice → Option Fit
fit_of size None = None
fit_of size (Some choice) = Some (record { size = size; weight = choice.weight; place = choice.place })

-- The step that a unifier gives by what is chosen of its remainder: the Split of the literal that is chosen, where there is room; or the bound that its first literal is beyond.
abbrev pub GivesStep : Bounds → Context → UnifierValue → Option SplitChoice → NextValue → Type 0
GivesStep bounds context u None next = (b : Bound) × (next ≡ Bounded b) × IsFirstBeyond u bounds b
GivesStep bounds context u (Some choice) next =
    (HasRoom bounds context × ((l : Literal) × (next ≡ Split l choice.kind) × ((f : Family) (m : Literal) → IsMostGeneral u.equations f → slice_get u.literals choice.place ≡ Some m → l ≡ canonical_literal (unified f m))))
    ⊎ ((¬ HasRoom bounds context) × (next ≡ Bounded bound.Literals))

-- The unifier is that of the clause and the tuple, and it is productive.
abbrev pub IsProductiveOf : ProblemValue → Context → ℕ → List ℕ → UnifierValue → Type 0
IsProductiveOf problem context c tuple u =
    (clause : ClauseValue) × (f : Family) × IsProductiveUnifier problem context c tuple clause f × IsUnifierOf context clause.literals None tuple u

-- A unifier's key, and the step that it gives.
pub record FoundValue : Type 0 where
  pub key : UnifierKeyValue
  pub step : NextValue

-- The code comes at or before each Split of the clause and the tuple, and before what tells that none of their literals fits.
pub record IsBelow (problem : ProblemValue) (bounds : Bounds) (context : Context) (code : List ℕ) (c : ℕ) (tuple : List ℕ) : Type 0 where
  pub splits : (place size : ℕ) (l : Literal) → IsSplit problem bounds context c place tuple size l → Precedes code (0 ∷ split_key c tuple place size l)
  pub unfit : Precedes code (1 ∷ c ∷ tuple)

-- The code comes at or before all productive unifiers.
abbrev pub IsBelowAll : ProblemValue → Bounds → Context → List ℕ → Type 0
IsBelowAll problem bounds context code =
    (c : ℕ) (tuple : List ℕ) (clause : ClauseValue) (family : Family) → IsProductiveUnifier problem context c tuple clause family → IsBelow problem bounds context code c tuple

-- The step is the next one, if no productive unifier comes before.
abbrev pub IsFound : ProblemValue → Bounds → Context → FoundValue → Type 0
IsFound problem bounds context f = IsBelowAll problem bounds context (unifier_code f.key) → IsNext problem bounds context f.step

-- Of what was found before and what is found next, each if anything is, it is the one that comes first.
pub record IsFirstFound (best next found : Option FoundValue) : Type 0 where
  pub one : (found ≡ best) ⊎ (found ≡ next)
  pub old : IfSome best (λ b. (f : FoundValue) × (found ≡ Some f) × Precedes (unifier_code f.key) (unifier_code b.key))
  pub new : IfSome next (λ b. (f : FoundValue) × (found ≡ Some f) × Precedes (unifier_code f.key) (unifier_code b.key))

-- What is found, if anything is, is right.
abbrev pub IsBest : ProblemValue → Bounds → Context → Option FoundValue → Type 0
IsBest problem bounds context None = Unit {0}
IsBest problem bounds context (Some f) = IsFound problem bounds context f

-- Something is found that comes at or before the clause and tuple.
abbrev pub IsMet : ProblemValue → Bounds → Context → Option FoundValue → ℕ → List ℕ → Type 0
IsMet problem bounds context best c tuple = (f : FoundValue) × (best ≡ Some f) × IsBelow problem bounds context (unifier_code f.key) c tuple

-- Each productive unifier of which a key is among these is met.
abbrev pub AreMet : ProblemValue → Bounds → Context → List UnifierKeyValue → Option FoundValue → Type 0
AreMet problem bounds context keys best =
    (c : ℕ) (tuple : List ℕ) (clause : ClauseValue) (family : Family) (key : UnifierKeyValue) → IsProductiveUnifier problem context c tuple clause family → Contains keys key → IsKeyOf problem bounds context c tuple key → IsMet problem bounds context best c tuple

-- What was met is met still.
abbrev pub MeetsMore : ProblemValue → Bounds → Context → Option FoundValue → Option FoundValue → Type 0
MeetsMore problem bounds context best better =
    (c : ℕ) (tuple : List ℕ) → IsMet problem bounds context best c tuple → IsMet problem bounds context better c tuple

-- The same of the keys of each frame.
abbrev pub AreAllMet : ProblemValue → Bounds → Context → List FrameValue → Option FoundValue → Type 0
AreAllMet problem bounds context frames best = (n : ℕ) (f : FrameValue) → slice_get frames n ≡ Some f → AreMet problem bounds context f.unifiers best

-- Of two that were found it is the one that comes first.
abbrev pub IsFirstOfTwo : FoundValue → FoundValue → FoundValue → Type 0
IsFirstOfTwo best next found =
    ((found ≡ best) × Precedes (unifier_code best.key) (unifier_code next.key)) ⊎ ((found ≡ next) × ¬ Precedes (unifier_code best.key) (unifier_code next.key))

-- Each productive unifier has a key among those of the frames and these.
abbrev pub HaveAll : ProblemValue → Bounds → Context → List FrameValue → List UnifierKeyValue → Type 0
HaveAll problem bounds context frames keys =
    (c : ℕ) (tuple : List ℕ) (clause : ClauseValue) (family : Family) → IsProductiveUnifier problem context c tuple clause family
    → HasKey frames (λ key. IsKeyOf problem bounds context c tuple key) ⊎ ((key : UnifierKeyValue) × Contains keys key × IsKeyOf problem bounds context c tuple key)
