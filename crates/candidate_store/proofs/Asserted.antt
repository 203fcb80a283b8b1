-- The steps of the search for the Asserts of a place.
use Rattle.std.proofs.Common.{◌≡◌, ℕ, ◌≤◌, inl, inr, List, [], ◌∷◌, ◌++◌, Option, Some, None, sym, subst, ap, ◌∙◌, arith}
use Rattle.std.specs.List.{Contains}
use Rattle.std.proofs.lemmas.Option.{same_Some}
use Rattle.std.proofs.lemmas.List.Elements.{Contains-push}
use Rattle.me_terms.specs.Values.{ProblemValue, ClauseValue, EntryValue}
use Rattle.me_terms.specs.Measures.{capped, literal_weight}
use Rattle.me_terms.specs.Unifier.{unified}
use Rattle.me_terms.specs.Context.{Context}
use Rattle.me_terms.specs.Positions.{ClauseAt}
use Rattle.me_terms.specs.Assert.{IsAssert}
use Rattle.me_terms.specs.Order.{assert_key}
use Rattle.me_terms.specs.declared.bounds.Bounds.{Bounds}
use Rattle.me_terms.specs.declared.atom.Literal.{Literal}
use Rattle.me_laws.proofs.Determined.{clause_same, assert_determined}
use Rattle.joint_unifiers.proofs.CanonicalMeasures.{canonical_weight}
use Rattle.tuple_search.specs.declared.limits.Limits.{Limits}
use Rattle.tuple_search.specs.declared.limits.Pivot.{Pivot}
use Rattle.tuple_search.specs.Enumeration.{IsLater, HasPivot, IsWithinCursorLimits, HasUnifier, IsLastTuple}
use Rattle.tuple_search.specs.Cursors.{CursorValue}
use Rattle.next_rule.proofs.Cursors.{IsCursor, Advances}
use Rattle.next_rule.proofs.Sizes.{none_within}
use Rattle.next_rule.proofs.Tuples.{passed_or_here}
use Rattle.candidate_keys.specs.Keys.{AssertKeyValue, assert_code, HasCode}
use Rattle.candidate_store.specs.Searches.{Keeps, HoldsAssertsIn, ByPlace}
use Rattle.candidate_store.proofs.Collected.{keeps_on, keeps_push}

-- What a search for the Asserts of a place asks of a unifier.
abbrev pub asked_of : Bounds → Option Pivot → Limits
asked_of bounds pivot = record { remaining = Some 0; weight = Some bounds.weight; pivot = pivot }

-- The cursor has passed no Assert whose key is not among these.
pub record Passes (problem : ProblemValue) (bounds : Bounds) (context : Context) (c place : ℕ) (clause : ClauseValue) (pivot : Option Pivot) (cursor : CursorValue) (first keys : List AssertKeyValue) : Type 0 where
  pub over : IsCursor context clause.literals (Some place) (asked_of bounds pivot) cursor
  pub kept : Keeps first keys
  pub held : (tuple : List ℕ) (e : EntryValue) → HasPivot pivot tuple → ¬ IsLater cursor.at tuple → IsAssert problem bounds context c place tuple e → HasCode keys (assert_key c place tuple e)

module _ (problem : ProblemValue) (bounds : Bounds) (context : Context) (c place : ℕ) (clause : ClauseValue) (pivot : Option Pivot) (clause_at : ClauseAt problem c clause) where
  abbrev Passed : CursorValue → List AssertKeyValue → List AssertKeyValue → Type 0
  Passed cursor first keys = Passes problem bounds context c place clause pivot cursor first keys

  capped_within : (n most : ℕ) → n ≤ most → capped n ≤ most
  capped_within n most h = omega (arith, h)

  within_limits : (tuple : List ℕ) (e : EntryValue) → HasPivot pivot tuple → (h : IsAssert problem bounds context c place tuple e) → IsWithinCursorLimits (asked_of bounds pivot) context h.clause.literals (Some place) tuple h.family
  within_limits tuple e has h = record {
    remains = none_within h.no_remainder;
    pivot = has;
    weighs = λ l at.
        let P : ℕ → Type 0 = λ z. z ≤ bounds.weight in
        let Q : Literal → Type 0 = λ z. capped (literal_weight (unified h.family z)) ≤ bounds.weight in
        subst Q (same_Some h.literal l (sym h.literal_at ∙ at)) (capped_within (literal_weight (unified h.family h.literal)) bounds.weight (subst P (canonical_weight (unified h.family h.literal)) h.allowed.fits.1));
  }

  asserted_unifier : (tuple : List ℕ) (e : EntryValue) → HasPivot pivot tuple → IsAssert problem bounds context c place tuple e → HasUnifier context clause.literals (Some place) (asked_of bounds pivot) tuple
  asserted_unifier tuple e has h =
      let Q : ClauseValue → Type 0 = λ z. HasUnifier context z.literals (Some place) (asked_of bounds pivot) tuple in
      subst Q (clause_same problem c h.clause clause h.clause_at clause_at) (h.family, h.unifier, within_limits tuple e has h)

  pub passes_none : (cursor : CursorValue) (keys : List AssertKeyValue) → IsCursor context clause.literals (Some place) (asked_of bounds pivot) cursor → cursor.at ≡ None → Keeps keys keys → Passed cursor keys keys
  passes_none cursor keys over before keeps = record {
    over = over;
    kept = keeps;
    held = λ tuple e has passed h. (let P : Option (List ℕ) → Type 0 = λ z. ¬ IsLater z tuple in absurd (subst P before passed tt));
  }

  pub passes_more : (old new : CursorValue) (first keys more : List AssertKeyValue) (tuple : List ℕ) → Advances context clause.literals (Some place) (asked_of bounds pivot) old new → new.at ≡ Some tuple → Keeps keys more → ((e : EntryValue) → IsAssert problem bounds context c place tuple e → HasCode more (assert_key c place tuple e)) → Passed old first keys → Passed new first more
  passes_more old new first keys more tuple moves at keeps added h = record {
    over = moves.over;
    kept = keeps_on first keys more h.kept keeps;
    held = λ other e has passed g.
        let P : Option (List ℕ) → Type 0 = λ z. ¬ IsLater z other in
        let still = subst P moves.stands passed in
        elim (passed_or_here context clause.literals (Some place) (asked_of bounds pivot) old.at moves.tuple other moves.is_next (asserted_unifier other e has g) still) as (λ _. HasCode more (assert_key c place other e)) [
          | inl before ↦ (let k = h.held other e has before g in (k.0, keeps k.0 k.1, k.2))
          | inr here ↦
              (let same : other ≡ tuple = here ∙ same_Some moves.tuple tuple (sym moves.stands ∙ at) in
              let Q : List ℕ → Type 0 = λ z. IsAssert problem bounds context c place z e in
              let R : List ℕ → Type 0 = λ z. HasCode more (assert_key c place z e) in
              subst R (sym same) (added e (subst Q same g)))
        ];
  }

  pub passes_all : (cursor : CursorValue) (first keys : List AssertKeyValue) → Passed cursor first keys → IsLastTuple context clause.literals (Some place) (asked_of bounds pivot) cursor.at → HoldsAssertsIn problem bounds context (ByPlace c place pivot) keys
  passes_all cursor first keys h last c' place' tuple e region g =
      let P : ℕ × ℕ → Type 0 = λ z. IsAssert problem bounds context z.0 z.1 tuple e in
      let Q : ℕ × ℕ → Type 0 = λ z. HasCode keys (assert_key z.0 z.1 tuple e) in
      let same : (c', place') ≡ (c, place) = (let a = region.0 in let b = region.1 in λ i. (a i, b i)) in
      let mine = subst P same g in
      subst Q (sym same) (h.held tuple e region.2 (last tuple (asserted_unifier tuple e region.2 mine)) mine)

-- the key of what was found is put to the others
pub key_added : (problem : ProblemValue) (bounds : Bounds) (context : Context) (c place : ℕ) (tuple : List ℕ) (old new : List AssertKeyValue) (key : AssertKeyValue) (found : EntryValue) → new ≡ old ++ key ∷ [] → IsAssert problem bounds context c place tuple found → assert_code key ≡ assert_key c place tuple found → (e : EntryValue) → IsAssert problem bounds context c place tuple e → HasCode new (assert_key c place tuple e)
key_added problem bounds context c place tuple old new key found is h code e g =
    let same = assert_determined problem bounds context c place tuple found e h g in
    let P : List AssertKeyValue → Type 0 = λ z. Contains z key in
    (key, subst P (sym is) (Contains-push old key), code ∙ ap (λ (z : EntryValue). assert_key c place tuple z) same)

pub key_kept : (old new : List AssertKeyValue) (key : AssertKeyValue) → new ≡ old ++ key ∷ [] → Keeps old new
key_kept old new key is = let P : List AssertKeyValue → Type 0 = λ z. Keeps old z in subst P (sym is) (keeps_push old key)
