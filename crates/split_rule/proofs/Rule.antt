-- What is chosen of a productive unifier's remainder is rule Split's.
use Rattle.std.proofs.Common.{◌≡◌, ℕ, ◌<◌, List, [], ◌∷◌, ◌++◌, ◌⊎◌, ◌↔◌, Bool, cond, length, slice_get, Option, Some, None, IsSome, IfSome, refl, sym, subst, ap, ◌∙◌, inl, inr, arith}
use Rattle.std.specs.List.{Contains}
use Rattle.me_terms.specs.Substitutions.{Family}
use Rattle.me_terms.specs.Measures.{literal_weight, canonical_literal}
use Rattle.me_terms.specs.Values.{ProblemValue, ClauseValue}
use Rattle.me_terms.specs.Context.{Context}
use Rattle.me_terms.specs.Positions.{ClauseAt, positions_of}
use Rattle.me_terms.specs.Unifier.{IsUnifier, IsContextUnifier, unified}
use Rattle.me_terms.specs.Productive.{IsProductiveUnifier}
use Rattle.me_terms.specs.Fits.{Fits}
use Rattle.me_terms.specs.Split.{IsSplit, split_kind}
use Rattle.me_terms.specs.Order.{Precedes}
use Rattle.me_terms.specs.declared.bounds.Bounds.{Bounds}
use Rattle.me_terms.specs.declared.entry.Kind.TheVariants.{Universal, Parametric}
use Rattle.me_terms.specs.declared.atom.Literal.{Literal}
use Rattle.me_laws.proofs.Determined.{clause_same}
use Rattle.me_unify.specs.Equations.{IsMostGeneral}
use Rattle.joint_unifiers.specs.ClauseUnifiers.{UnifierValue, IsUnifierOf}
use Rattle.joint_unifiers.specs.Places.{ArePlaces}
use Rattle.joint_unifiers.proofs.Remaining.{are_places}
use Rattle.joint_unifiers.proofs.CanonicalMeasures.{canonical_weight, canonical_ground}
use Rattle.joint_unifiers.proofs.Fitting.{canonical_fits, fits_canonical}
use Rattle.split_rule.specs.SplitChoices.{MaySplit, place_key, IsChosen, IsByRule, FollowsRule}
use Rattle.split_rule.specs.declared.choice.SplitChoice.{SplitChoice}

-- ---- a Split of the clause and the tuple, as one of the unifier's remainder
record Remaining (u : UnifierValue) (bounds : Bounds) (place other : ℕ) (l : Literal) : Type 0 where
  literal : Literal
  family : Family
  general : IsMostGeneral u.equations family
  allowed : MaySplit u.literals u.remainder bounds family place literal
  size : length u.remainder ≡ other
  is : l ≡ canonical_literal (unified family literal)

remaining : (u : UnifierValue) (problem : ProblemValue) (bounds : Bounds) (context : Context) (c place other : ℕ) (tuple : List ℕ) (clause : ClauseValue) (l : Literal) → IsUnifierOf context clause.literals None tuple u → ClauseAt problem c clause → IsSplit problem bounds context c place tuple other l → Remaining u bounds place other l
remaining u problem bounds context c place other tuple clause l of at split =
    let same : split.clause ≡ clause = clause_same problem c split.clause clause split.productive.clause_at at in
    let P : ClauseValue → Type 0 = λ k. IsUnifier context k.literals (positions_of None tuple) split.family in
    let unifier : IsUnifier context clause.literals (positions_of None tuple) split.family = subst P same split.productive.unifier.unifier in
    let places = of.remainder split.family unifier in
    let literals : u.literals ≡ split.clause.literals = of.literals ∙ ap (λ (k : ClauseValue). k.literals) (sym same) in
    let Q : List ℕ → Type 0 = λ ps. Contains ps place in
    let R : Literal → Type 0 = λ m. Fits bounds m in
    record {
      literal = split.literal;
      family = split.family;
      general = (of.families split.family).1 unifier;
      allowed = record {
        remains = subst Q (sym places) split.remains;
        literal_at = ap (λ (ls : List Literal). slice_get ls place) literals ∙ split.literal_at;
        fits = fits_canonical bounds (unified split.family split.literal) (subst R split.split_literal split.fits);
      };
      size = ap length places ∙ sym split.size_of;
      is = split.split_literal;
    }

-- ---- the order of the Splits of one clause and tuple
later_place : (tuple : List ℕ) (p q : ℕ) → ((p < q) ⊎ ((p ≡ q) × Unit {0})) → Precedes (tuple ++ p ∷ []) (tuple ++ q ∷ [])
later_place [] p q h = h
later_place (x ∷ tuple) p q h = inr (refl, later_place tuple p q h)

in_order : (c : ℕ) (tuple : List ℕ) (size other w v x y p q : ℕ) → size ≡ other → w ≡ x → v ≡ y → Precedes (place_key x p) (place_key y q) → Precedes (size ∷ w ∷ c ∷ tuple ++ p ∷ []) (other ∷ v ∷ c ∷ tuple ++ q ∷ [])
in_order c tuple size other w v x y p q same heavy weighs (inl lt) = inr (same, inl (omega (arith, heavy, weighs, lt)))
in_order c tuple size other w v x y p q same heavy weighs (inr (e, h)) = inr (same, inr (heavy ∙ e ∙ sym weighs, inr (refl, later_place tuple p q h)))

-- ---- the choice is a Split
kind_same : (l : Literal) → split_kind l ≡ split_kind (canonical_literal l)
kind_same l = ap (λ (b : Bool). cond b Universal Parametric) (sym (canonical_ground l))

by_rule : (u : UnifierValue) (problem : ProblemValue) (bounds : Bounds) (context : Context) (c : ℕ) (tuple : List ℕ) (clause : ClauseValue) (f : Family) (chosen : Option SplitChoice) → IsUnifierOf context clause.literals None tuple u → IsProductiveUnifier problem context c tuple clause f
    → ((g : Family) → IsMostGeneral u.equations g → IsChosen u.literals u.remainder bounds g chosen) → IsByRule problem bounds context c tuple clause f (length u.remainder) chosen
by_rule u problem bounds context c tuple clause f None of productive h = λ place other l split.
    let r = remaining u problem bounds context c place other tuple clause l of productive.clause_at split in
    h r.family r.general place r.literal r.allowed
by_rule u problem bounds context c tuple clause f (Some choice) of productive h =
    let unifier = productive.unifier.unifier in
    let here = h f ((of.families f).1 unifier) in
    let places = of.remainder f unifier in
    let at : slice_get clause.literals choice.place ≡ Some here.literal = ap (λ (ls : List Literal). slice_get ls choice.place) (sym of.literals) ∙ here.allowed.literal_at in
    let Q : List ℕ → Type 0 = λ ps. Contains ps choice.place in
    let weighs = here.weight ∙ sym (canonical_weight (unified f here.literal)) in
    record {
      literal = here.literal;
      literal_at = at;
      split = record {
        clause = clause;
        literal = here.literal;
        family = f;
        productive = productive;
        literal_at = at;
        remains = subst Q places here.allowed.remains;
        size_of = ap length places;
        split_literal = refl;
        fits = canonical_fits bounds (unified f here.literal) here.allowed.fits;
      };
      kind = here.kind ∙ kind_same (unified f here.literal);
      weight = weighs;
      least = λ place other l split.
          let r = remaining u problem bounds context c place other tuple clause l of productive.clause_at split in
          let there = h r.family r.general in
          in_order c tuple (length u.remainder) other (literal_weight (canonical_literal (unified f here.literal))) (literal_weight l) choice.weight (literal_weight (unified r.family r.literal)) choice.place place r.size (sym weighs)
          (ap literal_weight r.is ∙ canonical_weight (unified r.family r.literal)) (there.least place r.literal r.allowed);
    }

-- What is chosen of a unifier's remainder is rule Split's wherever the unifier is productive.
pub follows_rule : (u : UnifierValue) (bounds : Bounds) (chosen : Option SplitChoice) → ((g : Family) → IsMostGeneral u.equations g → IsChosen u.literals u.remainder bounds g chosen) → FollowsRule u bounds chosen
follows_rule u bounds chosen h = λ problem context c tuple clause f of productive. by_rule u problem bounds context c tuple clause f chosen of productive h

-- ---- what remains are places
-- The remainder of a context unifier has places of the clause.
pub remainder_places : (context : Context) (literals : List Literal) (skip : Option ℕ) (tuple : List ℕ) (u : UnifierValue) (f : Family) → IsContextUnifier context literals skip tuple f → IsUnifierOf context literals skip tuple u → ArePlaces u.literals u.remainder
remainder_places context literals skip tuple u f unifier of =
    let number : length (positions_of skip tuple) ≡ length u.literals = unifier.opposite.each_place ∙ ap length (sym of.literals) in
    are_places context (positions_of skip tuple) f u.literals u.remainder number (of.remainder f unifier.unifier)

-- The same of what a clause's unifiers are known by.
pub places_of_unifier : (context : Context) (literals : List Literal) (skip : Option ℕ) (tuple : List ℕ) (o : Option UnifierValue) (u : UnifierValue) → o ≡ Some u → (IsSome o ↔ ((f : Family) × IsContextUnifier context literals skip tuple f)) → IfSome o (IsUnifierOf context literals skip tuple)
    → ArePlaces u.literals u.remainder
places_of_unifier context literals skip tuple o u is exact of =
    let P : Option UnifierValue → Type 0 = λ p. IsSome p ↔ ((f : Family) × IsContextUnifier context literals skip tuple f) in
    let Q : Option UnifierValue → Type 0 = λ p. IfSome p (IsUnifierOf context literals skip tuple) in
    let found = (subst P is exact).0 refl in
    remainder_places context literals skip tuple u found.0 found.1 (subst Q is of)
