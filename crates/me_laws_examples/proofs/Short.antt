-- Short contexts, looked through entry by entry.
use Rattle.std.proofs.Common.{◌≡◌, ℕ, zero, suc, ◌+◌, ◌<◌, false, not, List, [], ◌∷◌, length, map, slice_get, Option, Some, None, refl, sym, subst, ◌∙◌, arith}
use Rattle.std.proofs.lemmas.Option.{same_Some}
use Rattle.me_terms.specs.Terms.{AtomValue}
use Rattle.me_terms.specs.Substitutions.{Family, IsInstance, Generalizes}
use Rattle.me_terms.specs.Values.{EntryValue}
use Rattle.me_terms.specs.Context.{Context, StandsAt, pseudo, IsVisible}
use Rattle.me_terms.specs.Positions.{positions_of, AreOpposite}
use Rattle.me_terms.specs.Unifier.{IsSolvedBy, Solves, IsUnifier, IsContextUnifier, unified}
use Rattle.me_terms.specs.Productive.{IsProductive}
use Rattle.me_terms.specs.Produces.{Produces}
use Rattle.me_terms.specs.Measures.{complement}
use Rattle.me_laws.specs.Pairing.{apart}
use Rattle.me_terms.specs.Remainder.{remainder}
use Rattle.me_terms.specs.Grown.{sign_of, start}
use Rattle.me_terms.specs.declared.bounds.Start.{Start}
use Rattle.me_terms.specs.declared.entry.Kind.TheVariants.{Universal}
use Rattle.me_terms.specs.declared.atom.Literal.{Literal}
use Rattle.me_terms.proofs.Matchers.{at_matches, at_matches_complete}
use Rattle.me_laws.proofs.Apart.{apart_general}

-- P holds of each entry at its position.
abbrev pub EachEntry : (ℕ → EntryValue → Type 0) → Context → Type 0
EachEntry P [] = Unit {0}
EachEntry P (e ∷ es) = P 0 e × EachEntry (λ k. P (suc k)) es

pub each_entry : (P : ℕ → EntryValue → Type 0) (context : Context) → EachEntry P context → (k : ℕ) (e : EntryValue) → StandsAt context k e → P k e
each_entry P [] h k e at = cc at
each_entry P (x ∷ xs) h zero e at = subst (P 0) (same_Some x e at) h.0
each_entry P (x ∷ xs) h (suc k) e at = each_entry (λ j. P (suc j)) xs h.1 k e at

-- The entry at position j does not hide e, the entry at position k.
abbrev pub Leaves : ℕ → EntryValue → ℕ → EntryValue → Type 0
Leaves k e j later = k < j → later.kind ≡ Universal → later.positive ≡ e.positive → Generalizes later.atom e.atom → ⊥

-- what no entry hides is visible
pub seen : (context : Context) (k : ℕ) (e : EntryValue) → StandsAt context k e → EachEntry (Leaves k e) context → IsVisible context k e
seen context k e at none = (at, λ h. each_entry (Leaves k e) context none h.0 h.1 h.2.stands h.2.is_later h.2.covers.is_universal h.2.covers.same_sign h.2.covers.generalizes)

-- what does not match is no instance
pub no_instance : (s t : AtomValue) → at_matches s t ≡ false → ¬ IsInstance s t
no_instance s t e h = let found = at_matches_complete s t h in cc (e, found)

pub of_start : (begins : Start) (P : ℕ → EntryValue → Type 0) → P 0 (pseudo (sign_of begins)) → (k : ℕ) (e : EntryValue) → StandsAt (start begins) k e → P k e
of_start begins P first zero e h = subst (P 0) (same_Some (pseudo (sign_of begins)) e h) first
of_start begins P first (suc k) e h = cc

-- a context unifier of one literal has one position, of an entry of the other sign
pub one_place : (context : Context) (l : Literal) (tuple : List ℕ) (family : Family) → IsContextUnifier context (l ∷ []) None tuple family → (k : ℕ) × (tuple ≡ k ∷ []) × ((e : EntryValue) × IsVisible context k e × (e.positive ≡ not l.positive))
one_place context l [] family h = let bad : zero ≡ suc zero = h.opposite.each_place in absurd (omega (arith, bad))
one_place context l (k ∷ []) family h = (k, refl, h.opposite.visible 0 k l refl refl)
one_place context l (k ∷ j ∷ tuple) family h =
    let bad : suc (suc (length (map {A = ℕ} {B = Option ℕ} (λ x. Some x) tuple))) ≡ suc zero = h.opposite.each_place in absurd (omega (arith, bad))

-- with the pseudo-literal alone there is always a remainder
pub only_pseudo : (begins : Start) (l : Literal) (tuple : List ℕ) (family : Family) → IsContextUnifier (start begins) (l ∷ []) None tuple family → remainder (start begins) (positions_of None tuple) family ≡ [] → ⊥
only_pseudo begins l tuple family h rest =
    let one = one_place (start begins) l tuple family h in
    let P : List ℕ → Type 0 = λ t. remainder (start begins) (positions_of None t) family ≡ [] in
    of_start begins (λ k e. remainder (start begins) (positions_of None (k ∷ [])) family ≡ [] → ⊥) (λ bad. cc bad) one.0 one.2.0 one.2.1.0 (subst P one.1 rest)

-- ---- the places of a clause
-- Q holds at each place that has a position.
abbrev pub EachPlace : (ℕ → ℕ → Literal → Type 0) → List Literal → List (Option ℕ) → Type 0
EachPlace Q [] ks = Unit {0}
EachPlace Q (l ∷ ls) [] = Unit {0}
EachPlace Q (l ∷ ls) (None ∷ ks) = EachPlace (λ i. Q (suc i)) ls ks
EachPlace Q (l ∷ ls) (Some k ∷ ks) = Q 0 k l × EachPlace (λ i. Q (suc i)) ls ks

pub each_place : (Q : ℕ → ℕ → Literal → Type 0) (ls : List Literal) (ks : List (Option ℕ)) → EachPlace Q ls ks → (i k : ℕ) (l : Literal) → slice_get ls i ≡ Some l → slice_get ks i ≡ Some (Some k) → Q i k l
each_place Q [] ks h i k l at pos = cc at
each_place Q (m ∷ ls) [] h i k l at pos = cc pos
each_place Q (m ∷ ls) (None ∷ ks) h zero k l at pos = cc pos
each_place Q (m ∷ ls) (None ∷ ks) h (suc i) k l at pos = each_place (λ j. Q (suc j)) ls ks h i k l at pos
each_place Q (m ∷ ls) (Some n ∷ ks) h zero k l at pos =
    let number : n ≡ k = same_Some n k (same_Some (Some n) (Some k) pos) in
    let same : m ≡ l = same_Some m l at in
    let P : ℕ × Literal → Type 0 = λ z. Q 0 z.0 z.1 in
    subst P (λ j. (number j, same j)) h.0
each_place Q (m ∷ ls) (Some n ∷ ks) h (suc i) k l at pos = each_place (λ j. Q (suc j)) ls ks h.1 i k l at pos

module _ (context : Context) (ls : List Literal) (ks : List (Option ℕ)) (u : Family) where
  pub opposite_by : length ks ≡ length ls → EachPlace (λ i k l. (e : EntryValue) × IsVisible context k e × (e.positive ≡ not l.positive)) ls ks → AreOpposite context ls ks
  opposite_by long h = record {
    each_place = long;
    visible = λ i k l at pos. each_place (λ i k l. (e : EntryValue) × IsVisible context k e × (e.positive ≡ not l.positive)) ls ks h i k l at pos;
  }

  pub solves_by : EachPlace (λ i k l. (e : EntryValue) × StandsAt context k e × IsSolvedBy (u (i + 1)) e.atom (u 0) l.atom) ls ks → Solves context ls ks u
  solves_by h = λ i k l e o.
      let found = each_place (λ i k l. (e : EntryValue) × StandsAt context k e × IsSolvedBy (u (i + 1)) e.atom (u 0) l.atom) ls ks h i k l o.literal o.position in
      let P : EntryValue → Type 0 = λ f. IsSolvedBy (u (i + 1)) f.atom (u 0) l.atom in
      subst P (same_Some found.0 e (sym found.1 ∙ o.stands)) found.2

  pub productive_by : EachPlace (λ i k l. (e : EntryValue) × Produces context k e (complement (unified u l))) ls ks → IsProductive context ls ks u
  productive_by h = λ i k l e o.
      let found = each_place (λ i k l. (e : EntryValue) × Produces context k e (complement (unified u l))) ls ks h i k l o.literal o.position in
      let P : EntryValue → Type 0 = λ f. Produces context k f (complement (unified u l)) in
      subst P (same_Some found.0 e (sym found.1.visible.0 ∙ o.stands)) found.1

-- ---- a clause of one literal, whose place is skipped
none_there : (i k : ℕ) → slice_get (positions_of (Some 0) []) i ≡ Some (Some k) → ⊥
none_there zero k h = cc
none_there (suc i) k h = cc

pub skipped_opposite : (context : Context) (l : Literal) → AreOpposite context (l ∷ []) (positions_of (Some 0) [])
skipped_opposite context l = record { each_place = refl; visible = λ i k m at pos. absurd (none_there i k pos) }

pub skipped_unifier : (context : Context) (l : Literal) → IsUnifier context (l ∷ []) (positions_of (Some 0) []) apart
skipped_unifier context l = apart_general context (l ∷ []) (positions_of (Some 0) []) (λ i k m e o. absurd (none_there i k o.position))
