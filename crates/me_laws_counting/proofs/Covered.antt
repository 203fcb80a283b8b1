-- What stands in a context is visible, or a visible Universal entry of its sign generalizes it; and what it then rules out.
use Rattle.std.proofs.Common.{◌≡◌, ℕ, Bool, not, ◌⊎◌, inl, inr, refl, sym, subst, ◌∙◌}
use Rattle.me_terms.specs.Terms.{Var}
use Rattle.me_terms.specs.Substitutions.{Generalizes, IsVariant}
use Rattle.me_terms.specs.Values.{EntryValue}
use Rattle.me_terms.specs.Context.{Context, StandsAt, Covers, IsVisible}
use Rattle.me_terms.specs.Contradictory.{Unifiable, Clash, Contradicts}
use Rattle.me_terms.specs.Assert.{IsSubsumed, HasVariant}
use Rattle.me_terms.specs.declared.entry.Kind.{Kind}
use Rattle.me_terms.specs.declared.entry.Kind.TheVariants.{Universal, Parametric}
use Rattle.me_terms.specs.declared.atom.Literal.{Literal}
use Rattle.me_terms.specs.declared.atom.Pattern.{Pattern}
use Rattle.me_terms.specs.declared.atom.Pattern.TheVariants.{Any, Of}
use Rattle.me_laws.proofs.Generality.{atom_unchanged, generalizes_transitive, generalizes_decided}
use Rattle.me_laws.proofs.Totality.{Last, last_of}
use Rattle.me_laws.proofs.Decisions.{both_decided, sign_decided, kind_decided}

covers_decided : (e f : EntryValue) → Covers f e ⊎ (¬ Covers f e)
covers_decided e f =
    elim (both_decided _ _ (kind_decided f.kind Universal) (both_decided _ _ (sign_decided f.positive e.positive) (generalizes_decided f.atom e.atom))) as (λ _. Covers f e ⊎ (¬ Covers f e)) [
      | inl h ↦ inl (record { is_universal = h.0; same_sign = h.1.0; generalizes = h.1.1 })
      | inr never ↦ inr (λ h. never (h.is_universal, (h.same_sign, h.generalizes)))
    ]

-- what covers an entry that covers e covers e too
covers_on : (first second e : EntryValue) → Covers first second → Covers second e → Covers first e
covers_on first second e h g = record {
  is_universal = h.is_universal;
  same_sign = h.same_sign ∙ g.same_sign;
  generalizes = generalizes_transitive first.atom second.atom e.atom h.generalizes g.generalizes;
}

-- a visible entry that covers e
pub record Cover (context : Context) (e : EntryValue) : Type 0 where
  pub at : ℕ
  pub entry : EntryValue
  pub visible : IsVisible context at entry
  pub covers : Covers entry e

by_last : (context : Context) (e : EntryValue) → Last (λ f. Covers f e) context → Cover context e
by_last context e l = record {
  at = l.at;
  entry = l.entry;
  visible = (l.stands, λ hidden. l.last hidden.0 hidden.1 hidden.2.is_later hidden.2.stands (covers_on hidden.1 l.entry e hidden.2.covers l.holds));
  covers = l.holds;
}

pub covered : (context : Context) (k : ℕ) (e : EntryValue) → StandsAt context k e → IsVisible context k e ⊎ Cover context e
covered context k e stands =
    elim (last_of (λ f. Covers f e) (covers_decided e) context) as (λ _. IsVisible context k e ⊎ Cover context e) [
      | inl l ↦ inr (by_last context e l)
      | inr none ↦ inl (stands, λ hidden. none hidden.0 hidden.1 hidden.2.stands hidden.2.covers)
    ]

-- ---- what is at least as general contradicts, as Universal; and a variant does, whatever the kinds
above_unifies : (p q : Pattern) → Generalizes p q → Unifiable p q
above_unifies Any q h = tt
above_unifies (Of a) Any h = absurd h
above_unifies (Of a) (Of b) h = (h.0, Var, h.1 ∙ sym (atom_unchanged b))

above_clash : (p : Pattern) (kind : Kind) (q : Pattern) → Generalizes p q → Clash Universal p kind q
above_clash p Universal q h = above_unifies p q h
above_clash p Parametric q h = h

variant_clash : (own : Kind) (p : Pattern) (kind : Kind) (q : Pattern) → IsVariant p q → Clash own p kind q
variant_clash Universal p kind q h = above_clash p kind q h.0
variant_clash Parametric p Universal q h = h.1
variant_clash Parametric p Parametric q h = h

-- what does not contradict is a variant of no entry of the opposite sign
pub opposite : (context : Context) (positive : Bool) (kind : Kind) (q : Pattern) → ¬ Contradicts context positive kind q → (k : ℕ) (e : EntryValue) → StandsAt context k e → e.positive ≡ not positive → ¬ IsVariant e.atom q
opposite context positive kind q apart k e stands sign variant =
    elim (covered context k e stands) as (λ _. ⊥) [
      | inl visible ↦ apart (k, e, visible, sign, variant_clash e.kind e.atom kind q variant)
      | inr c ↦ let P : Kind → Type 0 = λ x. Clash x c.entry.atom kind q in
          apart (c.at, c.entry, c.visible, c.covers.same_sign ∙ sign, subst P (sym c.covers.is_universal) (above_clash c.entry.atom kind q (generalizes_transitive c.entry.atom e.atom q c.covers.generalizes variant.0)))
    ]

kind_by : (kind other : Kind) → (kind ≡ other → ⊥) → other ≡ Universal → kind ≡ Parametric
kind_by Universal other h e = absurd (h (sym e))
kind_by Parametric other h e = refl

kind_of : (kind : Kind) → (kind ≡ Parametric → ⊥) → kind ≡ Universal
kind_of Universal h = refl
kind_of Parametric h = absurd (h refl)

-- what is neither subsumed nor, if Parametric, a variant of a visible entry is a variant only of Parametric entries of its sign, and Universal there
pub own_sign : (context : Context) (l : Literal) (kind : Kind) → ¬ IsSubsumed context l → (kind ≡ Parametric → ¬ HasVariant context l) → (k : ℕ) (e : EntryValue) → StandsAt context k e → e.positive ≡ l.positive → IsVariant e.atom (Of l.atom) → (e.kind ≡ Parametric) × (kind ≡ Universal)
own_sign context l kind not_subsumed no_variant k e stands sign variant =
    elim (covered context k e stands) as (λ _. (e.kind ≡ Parametric) × (kind ≡ Universal)) [
      | inl visible ↦ (kind_by e.kind Universal (λ u. not_subsumed (k, e, visible, u, sign, variant.0)) refl, kind_of kind (λ q. no_variant q (k, e, visible, sign, variant)))
      | inr c ↦ absurd (not_subsumed (c.at, c.entry, c.visible, c.covers.is_universal, c.covers.same_sign ∙ sign, generalizes_transitive c.entry.atom e.atom (Of l.atom) c.covers.generalizes variant.0))
    ]
