-- What is refused stays refused.
use Rattle.std.proofs.Common.{◌≡◌, ◌⊎◌, inl, inr, ◌++◌, sym, subst, ap, ◌∙◌}
use Rattle.me_terms.specs.Substitutions.{Generalizes, followed_by, apply_atom}
use Rattle.me_terms.specs.Context.{Context}
use Rattle.me_terms.specs.Contradictory.{Unifiable, Clash, IsContradictory}
use Rattle.me_terms.specs.Fits.{Fits}
use Rattle.me_terms.specs.Assert.{IsSubsumed, HasVariant, MayAssert}
use Rattle.me_terms.specs.declared.bounds.Bounds.{Bounds}
use Rattle.me_terms.specs.declared.entry.Kind.{Kind}
use Rattle.me_terms.specs.declared.entry.Kind.TheVariants.{Universal, Parametric}
use Rattle.me_terms.specs.declared.atom.Literal.{Literal}
use Rattle.me_terms.specs.declared.atom.Pattern.{Pattern}
use Rattle.me_terms.specs.declared.atom.Pattern.TheVariants.{Any, Of}
use Rattle.me_laws.proofs.Generality.{generalizes_transitive, atom_followed}
use Rattle.me_laws_increments.specs.Refusals.{Refuses, AllowedWhereNotRefused, AllowedBefore}
use Rattle.me_laws_increments.proofs.Replacement.{kept_or_replaced}

-- what is above something that unifies unifies
pub unifiable_above : (p q r : Pattern) → Generalizes p q → Unifiable q r → Unifiable p r
unifiable_above Any q r g h = tt
unifiable_above (Of a) Any r g h = absurd g
unifiable_above (Of a) (Of b) Any g h = tt
unifiable_above (Of a) (Of b) (Of c) g h =
    (followed_by g.0 h.0, h.1, atom_followed g.0 h.0 a ∙ (ap (apply_atom h.0) g.1 ∙ h.2))

-- two patterns above one unify
pub unifiable_by : (p q r : Pattern) → Generalizes p r → Generalizes q r → Unifiable p q
unifiable_by Any q r g h = tt
unifiable_by (Of a) Any r g h = tt
unifiable_by (Of a) (Of b) Any g h = absurd g
unifiable_by (Of a) (Of b) (Of c) g h = (g.0, h.0, g.1 ∙ sym h.1)

-- a Universal pattern above one that contradicts does
pub clash_above : (p : Pattern) (own : Kind) (q : Pattern) (kind : Kind) (r : Pattern) → Generalizes p q → Clash own q kind r → Clash Universal p kind r
clash_above p Universal q Universal r g h = unifiable_above p q r g h
clash_above p Universal q Parametric r g h = generalizes_transitive p q r g h
clash_above p Parametric q Universal r g h = unifiable_by p r q g h
clash_above p Parametric q Parametric r g h = generalizes_transitive p q r g h.0

pub by_kind : (p q : Pattern) (own other kind : Kind) → other ≡ own → Clash own p kind q → Clash other p kind q
by_kind p q own other kind same h =
    let P : Kind → Type 0 = λ x. Clash x p kind q in subst P (sym same) h

still_contradictory : (context more : Context) (l : Literal) (kind : Kind) → IsContradictory context l kind → IsContradictory (context ++ more) l kind
still_contradictory context more l kind h =
    elim (kept_or_replaced context more h.0 h.1 h.2) as (λ _. IsContradictory (context ++ more) l kind) [
      | inl still ↦ (h.0, h.1, still, h.3, h.4)
      | inr by ↦ (by.0, by.1, by.2, by.4 ∙ h.3, by_kind by.1.atom (Of l.atom) Universal by.1.kind kind by.3 (clash_above by.1.atom h.1.kind h.1.atom kind (Of l.atom) by.5 h.4))
    ]

still_subsumed : (context more : Context) (l : Literal) → IsSubsumed context l → IsSubsumed (context ++ more) l
still_subsumed context more l h =
    elim (kept_or_replaced context more h.0 h.1 h.2) as (λ _. IsSubsumed (context ++ more) l) [
      | inl still ↦ (h.0, h.1, still, h.3, h.4, h.5)
      | inr by ↦ (by.0, by.1, by.2, by.3, by.4 ∙ h.4, generalizes_transitive by.1.atom h.1.atom (Of l.atom) by.5 h.5)
    ]

still_variant : (context more : Context) (l : Literal) → HasVariant context l → IsSubsumed (context ++ more) l ⊎ HasVariant (context ++ more) l
still_variant context more l h =
    elim (kept_or_replaced context more h.0 h.1 h.2) as (λ _. IsSubsumed (context ++ more) l ⊎ HasVariant (context ++ more) l) [
      | inl still ↦ inr (h.0, h.1, still, h.3, h.4)
      | inr by ↦ inl (by.0, by.1, by.2, by.3, by.4 ∙ h.3, generalizes_transitive by.1.atom h.1.atom (Of l.atom) by.5 h.4.0)
    ]

pub still_refused : (context more : Context) (l : Literal) (kind : Kind) → Refuses context l kind → Refuses (context ++ more) l kind
still_refused context more l kind (inl h) = inl (still_contradictory context more l kind h)
still_refused context more l kind (inr (inl h)) = inr (inl (still_subsumed context more l h))
still_refused context more l kind (inr (inr h)) =
    elim (still_variant context more l h.1) as (λ _. Refuses (context ++ more) l kind) [ inl s ↦ inr (inl s) | inr v ↦ inr (inr (h.0, v)) ]

pub allowed : (bounds : Bounds) (context : Context) (l : Literal) (kind : Kind) → Fits bounds l → ¬ Refuses context l kind → MayAssert bounds context l kind
allowed bounds context l kind fits h = record {
  fits = fits;
  consistent = λ c. h (inl c);
  not_subsumed = λ s. h (inr (inl s));
  no_variant = λ k v. h (inr (inr (k, v)));
}

pub not_refused : (bounds : Bounds) (context : Context) (l : Literal) (kind : Kind) → MayAssert bounds context l kind → ¬ Refuses context l kind
not_refused bounds context l kind h (inl c) = h.consistent c
not_refused bounds context l kind h (inr (inl s)) = h.not_subsumed s
not_refused bounds context l kind h (inr (inr v)) = h.no_variant v.0 v.1

pub allowed_before : AllowedBefore
allowed_before bounds context more l kind h =
    allowed bounds context l kind h.fits (λ r. not_refused bounds (context ++ more) l kind h (still_refused context more l kind r))

pub allowed_where_not_refused : AllowedWhereNotRefused
allowed_where_not_refused bounds context l kind = ((λ may. (may.fits, not_refused bounds context l kind may)), (λ h. allowed bounds context l kind h.0 h.1))
