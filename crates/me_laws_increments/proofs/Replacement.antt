-- What is hidden is generalized by a visible Universal entry of its sign.
use Rattle.std.proofs.Common.{◌≡◌, ℕ, zero, suc, ◌<◌, ◌⊎◌, inl, inr, [], ◌∷◌, ◌++◌, length, slice_get, refl, sym, ◌∙◌, arith}
use Rattle.std.proofs.lemmas.Option.{slice_get_within}
use Rattle.me_terms.specs.Substitutions.{Generalizes}
use Rattle.me_terms.specs.Values.{EntryValue}
use Rattle.me_terms.specs.Context.{Context, StandsAt, Hides, IsVisible}
use Rattle.me_terms.specs.declared.entry.Kind.TheVariants.{Universal}
use Rattle.me_terms.specs.declared.atom.Pattern.TheVariants.{Of}
use Rattle.me_laws.proofs.Generality.{generalizes_transitive, generalizes_decided}
use Rattle.me_laws.proofs.Totality.{Last, last_of}
use Rattle.me_laws.proofs.Decisions.{both_decided, sign_decided, kind_decided, hidden_decided}
use Rattle.me_laws_increments.specs.Replacement.{IsCovered, HiddenStaysHidden, VisibleOrCovered, CoveredStaysCovered, FixedStaysFixed, HiddenIsCovered}

-- what comes after changes no earlier position
pub get_below : (context more : Context) (k : ℕ) → k < length context → slice_get context k ≡ slice_get (context ++ more) k
get_below [] more k lt = absurd (omega arith)
get_below (x ∷ xs) more zero lt = refl
get_below (x ∷ xs) more (suc k) lt = get_below xs more k (omega arith)

pub stands_later : (context more : Context) (k : ℕ) (e : EntryValue) → StandsAt context k e → StandsAt (context ++ more) k e
stands_later context more k e h =
    sym (get_below context more k (slice_get_within context k e h)) ∙ h

Above : EntryValue → EntryValue → Type 0
Above e later = (later.kind ≡ Universal) × ((later.positive ≡ e.positive) × Generalizes later.atom e.atom)

above_decided : (e later : EntryValue) → Above e later ⊎ (¬ Above e later)
unfolding Above
above_decided e later =
    both_decided _ _ (kind_decided later.kind Universal) (both_decided _ _ (sign_decided later.positive e.positive) (generalizes_decided later.atom e.atom))

-- the last entry above e is visible
last_visible : (context : Context) (e : EntryValue) → (l : Last (Above e) context) → IsCovered context e.positive e.atom
unfolding Above
last_visible context e l = (
  l.at,
  l.entry,
  (l.stands, λ hidden. l.last hidden.0 hidden.1 hidden.2.is_later hidden.2.stands (hidden.2.covers.is_universal, (hidden.2.covers.same_sign ∙ l.holds.1.0, generalizes_transitive hidden.1.atom l.entry.atom e.atom hidden.2.covers.generalizes l.holds.1.1))),
  l.holds.0,
  l.holds.1.0,
  l.holds.1.1,
)

pub replaced : HiddenIsCovered
unfolding Above
replaced context k e stands h =
    elim (last_of (Above e) (above_decided e) context) as (λ _. IsCovered context e.positive e.atom) [
      | inl l ↦ last_visible context e l
      | inr none ↦ absurd (none h.0 h.1 h.2.stands (h.2.covers.is_universal, (h.2.covers.same_sign, h.2.covers.generalizes)))
    ]

-- what was visible is visible still, or replaced
pub kept_or_replaced : VisibleOrCovered
kept_or_replaced context more k e h =
    let stands = stands_later context more k e h.0 in
    elim (hidden_decided (context ++ more) k e) as (λ _. IsVisible (context ++ more) k e ⊎ IsCovered (context ++ more) e.positive e.atom) [
      | inl hidden ↦ inr (replaced (context ++ more) k e stands hidden)
      | inr not_hidden ↦ inl (stands, not_hidden)
    ]

pub hides_on : (context more : Context) (k : ℕ) (e : EntryValue) (j : ℕ) (later : EntryValue) → Hides context k e j later → Hides (context ++ more) k e j later
hides_on context more k e j later h = record {
  is_later = h.is_later;
  stands = stands_later context more j later h.stands;
  covers = h.covers;
}

pub seen_before : (context more : Context) (k : ℕ) (e : EntryValue) → StandsAt context k e → IsVisible (context ++ more) k e → IsVisible context k e
seen_before context more k e stands h =
    (stands, λ hidden. h.1 (hidden.0, hidden.1, hides_on context more k e hidden.0 hidden.1 hidden.2))

-- what is above an entry that is replaced is above what the entry is above
pub covered_later : CoveredStaysCovered
covered_later context more positive p at =
    elim (kept_or_replaced context more at.0 at.1 at.2) as (λ _. IsCovered (context ++ more) positive p) [
      | inl still ↦ (at.0, at.1, still, at.3, at.4, at.5)
      | inr by ↦ (by.0, by.1, by.2, by.3, by.4 ∙ at.4, generalizes_transitive by.1.atom at.1.atom p by.5 at.5)
    ]

pub hidden_later : HiddenStaysHidden
hidden_later context more k e h = (h.0, h.1, hides_on context more k e h.0 h.1 h.2)

pub fixed_later : FixedStaysFixed
fixed_later context more a h = (h.0, covered_later context more h.0 (Of a) h.1)
