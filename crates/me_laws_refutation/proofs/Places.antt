-- Where the true literal of an instance stands.
use Rattle.std.proofs.Common.{◌≡◌, ℕ, zero, suc, ◌<◌, Bool, true, false, not, inl, inr, List, [], ◌∷◌, length, slice_get, Option, Some, None, refl, sym, subst, ap, ◌∙◌, arith}
use Rattle.std.proofs.lemmas.Option.{same_Some}
use Rattle.me_terms.specs.Values.{ProblemValue, InstanceValue}
use Rattle.me_terms.specs.Context.{Context}
use Rattle.me_terms.specs.Positions.{positions_of}
use Rattle.me_terms.specs.Refuted.{Valuation}
use Rattle.me_terms.specs.GroundInstances.{IsGroundInstance}
use Rattle.me_terms.specs.LeafList.{demands}
use Rattle.me_terms.specs.declared.atom.Literal.{Literal}
use Rattle.me_laws.proofs.Lists.{EachOf, SomeOf}
use Rattle.me_laws_refutation.proofs.Asked.{AskedFacts}

abbrev pub IsTrueUnder : Valuation → Literal → Type 0
IsTrueUnder value l = value l.atom ≡ l.positive

abbrev pub HasTrue : Valuation → InstanceValue → Type 0
HasTrue value i = SomeOf (IsTrueUnder value) i.literals

abbrev pub IsGroundOf : ProblemValue → InstanceValue → Type 0
IsGroundOf problem i = IsGroundInstance problem i.clause i.literals

-- ---- the true literal of an instance
opposite_signs : (v positive : Bool) → v ≡ positive → v ≡ not positive → ⊥
opposite_signs v true h g = cc
opposite_signs v false h g = cc

-- where all demands are true, the true literal stands at a place that asks nothing
pub true_place : (value : Valuation) (ls : List Literal) (ks : List (Option ℕ)) → length ks ≡ length ls → EachOf (λ d. IsTrueUnder value d.1) (demands ls ks) → SomeOf (IsTrueUnder value) ls → (j : ℕ) × (l : Literal) × (slice_get ls j ≡ Some l) × (slice_get ks j ≡ Some None) × IsTrueUnder value l
true_place value [] ks long each h = absurd h
true_place value (l ∷ ls) [] long each h = absurd (omega arith)
true_place value (l ∷ ls) (None ∷ ks) long each (inl h) = (0, l, refl, refl, h)
true_place value (l ∷ ls) (None ∷ ks) long each (inr h) =
    let later = true_place value ls ks (omega arith) each h in (suc later.0, later.1, later.2, later.3, later.4)
true_place value (l ∷ ls) (Some k ∷ ks) long each (inl h) = absurd (opposite_signs (value l.atom) l.positive h each.0)
true_place value (l ∷ ls) (Some k ∷ ks) long each (inr h) =
    let later = true_place value ls ks (omega arith) each.1 h in (suc later.0, later.1, later.2, later.3, later.4)

-- only a skipped place asks nothing
pub never_none : (tuple : List ℕ) (j : ℕ) → slice_get (positions_of None tuple) j ≡ Some None → ⊥
never_none [] j h = cc
never_none (k ∷ tuple) zero h = cc
never_none (k ∷ tuple) (suc j) h = never_none tuple j h

only_skipped : (tuple : List ℕ) (skip j : ℕ) → skip < length (positions_of (Some skip) tuple) → slice_get (positions_of (Some skip) tuple) j ≡ Some None → j ≡ skip
only_skipped [] zero zero lt h = refl
only_skipped [] zero (suc j) lt h = cc
only_skipped [] (suc skip) j lt h = absurd (omega arith)
only_skipped (k ∷ tuple) zero zero lt h = refl
only_skipped (k ∷ tuple) zero (suc j) lt h = absurd (never_none (k ∷ tuple) j h)
only_skipped (k ∷ tuple) (suc skip) zero lt h = cc
only_skipped (k ∷ tuple) (suc skip) (suc j) lt h = ap suc (only_skipped tuple skip j (omega arith) h)

pub asked_true : (problem : ProblemValue) (context : Context) (value : Valuation) (k c place : ℕ) (tuple : List ℕ) (g : Literal) (literals : List Literal) → AskedFacts problem context k c place tuple g literals → EachOf (λ d. IsTrueUnder value d.1) (demands literals (positions_of (Some place) tuple)) → SomeOf (IsTrueUnder value) literals → IsTrueUnder value g
asked_true problem context value k c place tuple g literals facts each h =
    let found = true_place value literals (positions_of (Some place) tuple) facts.each_place each h in
    let same = only_skipped tuple place found.0 (omega (arith, facts.each_place, facts.place_within)) found.3 in
    let P : ℕ → Type 0 = λ n. slice_get literals n ≡ Some found.1 in
    let Q : Literal → Type 0 = λ l. IsTrueUnder value l in
    subst Q (same_Some found.1 g (sym (subst P same found.2) ∙ facts.own)) found.4
