-- An exception stays one, and a unifier without exceptions is productive.
use Rattle.std.proofs.lemmas.Option.{same_Some}
use Rattle.std.proofs.Common.{◌≡◌, ℕ, ◌+◌, List, ◌++◌, Option, not, ◌⊎◌, inl, inr, sym, subst, ◌∙◌}
use Rattle.me_terms.specs.Terms.{AtomValue}
use Rattle.me_terms.specs.Substitutions.{Family}
use Rattle.me_terms.specs.Values.{EntryValue}
use Rattle.me_terms.specs.Context.{Context, IsVisible}
use Rattle.me_terms.specs.Produces.{HasException}
use Rattle.me_terms.specs.Positions.{positions_of}
use Rattle.me_terms.specs.Unifier.{IsContextUnifier}
use Rattle.me_terms.specs.Productive.{IsProductive}
use Rattle.me_terms.specs.declared.entry.Kind.TheVariants.{Universal}
use Rattle.me_terms.specs.declared.atom.Literal.{Literal}
use Rattle.me_terms.specs.declared.atom.Pattern.TheVariants.{Of}
use Rattle.me_laws.proofs.Generality.{generalizes_transitive}
use Rattle.me_laws.proofs.Lifting.{met}
use Rattle.me_laws_increments.specs.Exceptions.{IsFree, ExceptionsStay, ProducedBefore, ProductiveWhereFree}
use Rattle.me_laws_increments.proofs.Replacement.{kept_or_replaced, seen_before}

pub still_excepted : ExceptionsStay
still_excepted context more e a h =
    elim (kept_or_replaced context more h.0 h.1 h.2) as (λ _. HasException (context ++ more) e a) [
      | inl still ↦ (h.0, h.1, still, h.3, h.4)
      | inr by ↦ (by.0, by.1, by.2, generalizes_transitive by.1.atom h.1.atom (Of a) by.5 h.3, inl by.3)
    ]

undisputed_before : (context more : Context) (e : EntryValue) (a : AtomValue) → (e.kind ≡ Universal) ⊎ (¬ HasException (context ++ more) e a) → (e.kind ≡ Universal) ⊎ (¬ HasException context e a)
undisputed_before context more e a (inl u) = inl u
undisputed_before context more e a (inr free) = inr (λ h. free (still_excepted context more e a h))

pub produced_before : ProducedBefore
produced_before context more k e l stands h = record {
  visible = seen_before context more k e stands h.visible;
  same_sign = h.same_sign;
  generalizes = h.generalizes;
  undisputed = undisputed_before context more e l.atom h.undisputed;
}

productive_by : (context : Context) (literals : List Literal) (skip : Option ℕ) (tuple : List ℕ) (u : Family) → IsContextUnifier context literals skip tuple u → IsFree context literals (positions_of skip tuple) u → IsProductive context literals (positions_of skip tuple) u
productive_by context literals skip tuple u h free = λ i k l e at.
    let seen = h.opposite.visible i k l at.literal at.position in
    let same : seen.0 ≡ e = same_Some seen.0 e (sym seen.1.0 ∙ at.stands) in
    let P : EntryValue → Type 0 = λ x. IsVisible context k x × (x.positive ≡ not l.positive) in
    let mine = subst P same (seen.1, seen.2) in
    record {
      visible = mine.0;
      same_sign = mine.1;
      generalizes = met (u (i + 1)) e.atom (u 0) l.atom (h.unifier.solves i k l e at);
      undisputed = free i k l e at;
    }

pub productive_where_free : ProductiveWhereFree
productive_where_free context literals skip tuple u h = ((λ productive i k l e at. (productive i k l e at).undisputed), productive_by context literals skip tuple u h)
