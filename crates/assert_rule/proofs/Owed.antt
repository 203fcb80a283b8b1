-- What a clause's unifier asserts, against what is measured of it, and against rule Assert.
use Rattle.std.proofs.Common.{◌≡◌, ℕ, zero, suc, ◌<◌, length, arith, ◌||◌, Bool, cond, List, [], ◌∷◌, map, take, drop, slice_get, Option, Some, None, IfSome, IfNone, refl, sym, subst, ap, ◌∙◌}
use Rattle.std.specs.Prelude.{Result, Ok, Err, IfOk}
use Rattle.std.specs.List.{list_all}
use Rattle.std.proofs.lemmas.List.{take-append-drop}
use Rattle.std.proofs.lemmas.List.Folds.{list_all-append, list_all-map}
use Rattle.me_terms.specs.Substitutions.{Family}
use Rattle.me_terms.specs.Variables.{are_ground}
use Rattle.me_terms.specs.Measures.{capped, literal_weight, canonical_literal}
use Rattle.me_terms.specs.Values.{ProblemValue, ClauseValue, EntryValue, Asserted}
use Rattle.me_terms.specs.Context.{Context}
use Rattle.me_terms.specs.Positions.{ClauseAt, positions_of, entry_at, AreOpposite}
use Rattle.me_terms.specs.Unifier.{IsUnifier, IsContextUnifier, unified}
use Rattle.me_terms.specs.Fits.{Fits}
use Rattle.me_terms.specs.Validity.{IsLawful}
use Rattle.me_terms.specs.Assert.{uses_universal, asserted_kind, asserted_entry, IsAssert}
use Rattle.me_terms.specs.Order.{pattern_weight}
use Rattle.me_terms.specs.declared.bounds.Bounds.{Bounds}
use Rattle.me_terms.specs.declared.entry.Kind.{Kind}
use Rattle.me_terms.specs.declared.entry.Kind.TheVariants.{Universal, Parametric}
use Rattle.me_terms.specs.declared.atom.Literal.{Literal}
use Rattle.me_terms.specs.declared.atom.Pattern.TheVariants.{Of}
use Rattle.me_laws.proofs.Determined.{clause_same}
use Rattle.me_unify.specs.Equations.{IsMostGeneral}
use Rattle.joint_unifiers.specs.ClauseUnifiers.{UnifierValue, IsUnifierOf}
use Rattle.joint_unifiers.proofs.CanonicalMeasures.{canonical_weight, canonical_ground}
use Rattle.joint_unifiers.proofs.Fitting.{fitting_weight, canonical_fits, fits_canonical}
use Rattle.assert_rule.specs.AssertOrder.{IsBeforeBest, ComesBeforeBest}
use Rattle.assert_rule.specs.AssertedEntries.{Asserts, AssertsBy, MayBeAsserted}

-- ---- the literal of a place
pub at_within : (literals : List Literal) (place : ℕ) → place < length literals → (l : Literal) × (slice_get literals place ≡ Some l)
at_within [] place lt = absurd (omega (arith, lt))
at_within (l ∷ literals) zero lt = (l, refl)
at_within (l ∷ literals) (suc place) lt = at_within literals place (omega (arith, lt))

-- ---- the kind
-- A skipped place uses no entry.
universal_positions : (context : Context) (place : ℕ) (tuple : List ℕ) → list_all (λ k. uses_universal (entry_at context k)) (positions_of (Some place) tuple) ≡ list_all (λ k. uses_universal (slice_get context k)) tuple
universal_positions context place tuple =
    let p : Option ℕ → Bool = λ k. uses_universal (entry_at context k) in
    let ks : List (Option ℕ) = map Some tuple in
    list_all-append p (take place ks) (None ∷ drop place ks) ∙ (sym (list_all-append p (take place ks) (drop place ks)) ∙ (ap (λ (xs : List (Option ℕ)). list_all p xs) (take-append-drop place ks) ∙ list_all-map p Some tuple))

-- The kind by the tuple's entries and the literal's groundness under the unifier is that of the canonical literal.
pub kind_is : (context : Context) (place : ℕ) (items tuple : List ℕ) (l : Literal) (kind : Kind) (ground : Bool) → items ≡ tuple → kind ≡ cond (list_all (λ k. uses_universal (slice_get context k)) items || ground) Universal Parametric → ground ≡ are_ground l.atom.args
    → kind ≡ asserted_kind context (positions_of (Some place) tuple) (canonical_literal l)
kind_is context place items tuple l kind ground copied is same =
    let all = ap (λ (ks : List ℕ). list_all (λ k. uses_universal (slice_get context k)) ks) copied ∙ sym (universal_positions context place tuple) in
    let one = same ∙ sym (canonical_ground l) in
    is ∙ ap (λ (b : Bool). cond b Universal Parametric) (λ i. all i || one i)

-- ---- the weight
-- The weight of a literal that fits is that of its canonical form.
pub weight_is : (bounds : Bounds) (l form : Literal) (weight : ℕ) → IsLawful bounds → weight ≡ capped (literal_weight l) → Fits bounds l → form ≡ canonical_literal l → weight ≡ literal_weight form
weight_is bounds l form weight lawful heavy fits is = fitting_weight bounds l weight lawful heavy fits ∙ (sym (canonical_weight l) ∙ ap literal_weight (sym is))

pub none_left : (places : List ℕ) → length places ≡ 0 → places ≡ []
none_left [] h = refl
none_left (x ∷ places) h = absurd (omega (arith, h))

-- ---- what an asserted entry owes
module _ (u : UnifierValue) (bounds : Bounds) (context : Context) (c place : ℕ) (e : EntryValue) (a : AssertsBy u bounds context c place e) where
  -- its literal is within the bounds
  pub must_fit : Fits bounds (unified a.family a.literal)
  must_fit = fits_canonical bounds (unified a.family a.literal) a.allowed.fits

  -- it comes before the best one where its kind and weight do
  pub must_be_before : (kind : Kind) (weight : ℕ) (best : Option EntryValue) → IsLawful bounds → kind ≡ asserted_kind context (positions_of (Some place) u.tuple) (canonical_literal (unified a.family a.literal)) → weight ≡ capped (literal_weight (unified a.family a.literal)) → ComesBeforeBest e best → IsBeforeBest kind weight best
  must_be_before kind weight best lawful kind_of heavy better =
      let same_kind : e.kind ≡ kind = ap (λ (x : EntryValue). x.kind) a.entry ∙ sym kind_of in
      let exact : weight ≡ literal_weight (unified a.family a.literal) = fitting_weight bounds (unified a.family a.literal) weight lawful heavy must_fit in
      let same_weight : pattern_weight e.atom ≡ weight = ap (λ (x : EntryValue). pattern_weight x.atom) a.entry ∙ (canonical_weight (unified a.family a.literal) ∙ sym exact) in
      let P : Kind × ℕ → Type 0 = λ z. IsBeforeBest z.0 z.1 best in
      subst P (λ i. (same_kind i, same_weight i)) better

  -- its literal is new
  pub must_be_new : (kind : Kind) (l : Literal) → kind ≡ asserted_kind context (positions_of (Some place) u.tuple) (canonical_literal (unified a.family a.literal)) → l ≡ canonical_literal (unified a.family a.literal) → MayBeAsserted context l kind
  must_be_new kind l kind_of is =
      let same_kind : e.kind ≡ kind = ap (λ (x : EntryValue). x.kind) a.entry ∙ sym kind_of in
      let new : MayBeAsserted context (canonical_literal (unified a.family a.literal)) e.kind = record { consistent = a.allowed.consistent; not_subsumed = a.allowed.not_subsumed; no_variant = a.allowed.no_variant } in
      let same_literal = sym is in
      let P : Literal × Kind → Type 0 = λ z. MayBeAsserted context z.0 z.1 in
      subst P (λ i. (same_literal i, same_kind i)) new

-- ---- what is written out
abbrev pub written : Literal → Kind → ℕ → ℕ → List ℕ → EntryValue
written l kind c place tuple = record { positive = l.positive; atom = Of l.atom; kind = kind; reason = Asserted c place tuple }

pub asserted : (u : UnifierValue) (bounds : Bounds) (context : Context) (c place : ℕ) (literal : Literal) (f : Family) (l : Literal) (kind : Kind) → slice_get u.literals place ≡ Some literal → IsMostGeneral u.equations f → u.remainder ≡ [] → Fits bounds (unified f literal)
    → l ≡ canonical_literal (unified f literal) → kind ≡ asserted_kind context (positions_of (Some place) u.tuple) (canonical_literal (unified f literal)) → MayBeAsserted context l kind → AssertsBy u bounds context c place (written l kind c place u.tuple)
asserted u bounds context c place literal f l kind at general none fits is kind_of new =
    let P : Literal → Type 0 = λ m. MayBeAsserted context m kind in
    let moved = subst P is new in
    record {
      literal = literal;
      family = f;
      literal_at = at;
      general = general;
      no_remainder = none;
      entry = λ i. written (is i) (kind_of i) c place u.tuple;
      allowed = record {
        fits = canonical_fits bounds (unified f literal) fits;
        consistent = moved.consistent;
        not_subsumed = moved.not_subsumed;
        no_variant = moved.no_variant;
      };
    }

-- ---- rule Assert
pub asserts_of : (u : UnifierValue) (bounds : Bounds) (context : Context) (clause : ClauseValue) (c place : ℕ) (tuple : List ℕ) (e : EntryValue) → IsUnifierOf context clause.literals (Some place) tuple u → AreOpposite context clause.literals (positions_of (Some place) tuple) → AssertsBy u bounds context c place e
    → Asserts bounds context clause c place tuple e
asserts_of u bounds context clause c place tuple e of opposite a = λ problem at.
    let unifier = (of.families a.family).0 a.general in
    record {
      clause = clause;
      literal = a.literal;
      family = a.family;
      clause_at = at;
      literal_at = ap (λ (ls : List Literal). slice_get ls place) (sym of.literals) ∙ a.literal_at;
      unifier = record { opposite = opposite; unifier = unifier };
      no_remainder = sym (of.remainder a.family unifier) ∙ a.no_remainder;
      entry = a.entry ∙ ap (λ (t : List ℕ). asserted_entry context c place t (canonical_literal (unified a.family a.literal))) of.tuple;
      allowed = a.allowed;
    }

pub of_asserts : (u : UnifierValue) (problem : ProblemValue) (bounds : Bounds) (context : Context) (clause : ClauseValue) (c place : ℕ) (tuple : List ℕ) (e : EntryValue) → IsUnifierOf context clause.literals (Some place) tuple u → ClauseAt problem c clause → IsAssert problem bounds context c place tuple e
    → AssertsBy u bounds context c place e
of_asserts u problem bounds context clause c place tuple e of at a =
    let same : a.clause ≡ clause = clause_same problem c a.clause clause a.clause_at at in
    let P : ClauseValue → Type 0 = λ k. IsUnifier context k.literals (positions_of (Some place) tuple) a.family in
    let unifier : IsUnifier context clause.literals (positions_of (Some place) tuple) a.family = subst P same a.unifier.unifier in
    let literals : u.literals ≡ a.clause.literals = of.literals ∙ ap (λ (k : ClauseValue). k.literals) (sym same) in
    record {
      literal = a.literal;
      family = a.family;
      literal_at = ap (λ (ls : List Literal). slice_get ls place) literals ∙ a.literal_at;
      general = (of.families a.family).1 unifier;
      no_remainder = of.remainder a.family unifier ∙ a.no_remainder;
      entry = a.entry ∙ ap (λ (t : List ℕ). asserted_entry context c place t (canonical_literal (unified a.family a.literal))) (sym of.tuple);
      allowed = a.allowed;
    }

-- What is asserted has a unifier.
pub has_unifier : (problem : ProblemValue) (bounds : Bounds) (context : Context) (clause : ClauseValue) (c place : ℕ) (tuple : List ℕ) (e : EntryValue) → ClauseAt problem c clause → IsAssert problem bounds context c place tuple e → (f : Family) × IsContextUnifier context clause.literals (Some place) tuple f
has_unifier problem bounds context clause c place tuple e at a =
    let same : a.clause ≡ clause = clause_same problem c a.clause clause a.clause_at at in
    let P : ClauseValue → Type 0 = λ k. IsContextUnifier context k.literals (Some place) tuple a.family in
    (a.family, subst P same a.unifier)

-- ---- options
pub some_map : {A : Type 0} (o : Option A) (P Q : A → Type 0) → ((x : A) → P x → Q x) → IfSome o P → IfSome o Q
some_map None P Q f h = tt
some_map (Some x) P Q f h = f x h

pub none_map : {A : Type 0} (o : Option A) (P Q : Type 0) → (P → Q) → IfNone o P → IfNone o Q
none_map None P Q f h = f h
none_map (Some x) P Q f h = tt

pub if_none_map : {A E : Type 0} (r : Result (Option A) E) (P Q : Type 0) → (P → Q) → IfOk r (λ o. IfNone o P) → IfOk r (λ o. IfNone o Q)
if_none_map (Ok o) P Q f h = none_map o P Q f h
if_none_map (Err x) P Q f h = tt
