-- What the newest entry of a grown context is not below.
use Rattle.std.proofs.Common.{◌≡◌, ℕ, not, ◌⊎◌, inl, inr, length, IsTrue, sym, subst, ap, ◌∙◌}
use Rattle.me_terms.specs.Terms.{AtomValue}
use Rattle.me_terms.specs.Variables.{are_ground}
use Rattle.me_terms.specs.Substitutions.{Generalizes}
use Rattle.me_terms.specs.Measures.{complement}
use Rattle.me_terms.specs.Values.{ProblemValue, EntryValue, ReasonValue, Pseudo, Asserted, SplitLeft, SplitRight}
use Rattle.me_terms.specs.Context.{Context, StandsAt, IsContext, Hides, add}
use Rattle.me_terms.specs.Contradictory.{IsContradictory}
use Rattle.me_terms.specs.Split.{split_kind}
use Rattle.me_terms.specs.Next.{IsNext, Split}
use Rattle.me_terms.specs.Grown.{IsGrown}
use Rattle.me_terms.specs.declared.bounds.Bounds.{Bounds}
use Rattle.me_terms.specs.declared.entry.Kind.{Kind}
use Rattle.me_terms.specs.declared.entry.Kind.TheVariants.{Universal}
use Rattle.me_terms.specs.declared.atom.Literal.{Literal}
use Rattle.me_terms.specs.declared.atom.Pattern.{Pattern}
use Rattle.me_terms.specs.declared.atom.Pattern.TheVariants.{Any, Of}
use Rattle.me_laws.specs.GrownLaws.{ReasonHolds}
use Rattle.me_laws.proofs.Grown.{grown}
use Rattle.me_laws.proofs.Decisions.{sign_decided}
use Rattle.me_laws.proofs.NoContradiction.{split_apart, ground_atom}
use Rattle.me_laws_increments.specs.Replacement.{IsFixed}
use Rattle.me_laws_increments.specs.Lookup.{StandsSomewhere}
use Rattle.me_laws_increments.specs.NewEntries.{NewestWasNotFixed, GroundStandsOnce, GroundHidesNone}
use Rattle.me_laws_increments.proofs.Refusals.{not_refused, by_kind}
use Rattle.me_laws_increments.proofs.Lookup.{fixed_is_refused, other_sign, above_clashes, somewhere_fixed}
use Rattle.me_laws_increments.proofs.Phases.{reason_of}

-- what covers a literal contradicts it or its complement
covered_contradicts : (context : Context) (l : Literal) (kind : Kind) → IsFixed context l.atom → IsContradictory context l kind ⊎ IsContradictory context (complement l) kind
covered_contradicts context l kind h =
    let at = h.1 in
    let clash = by_kind at.1.atom (Of l.atom) Universal at.1.kind kind at.3 (above_clashes at.1.atom l.atom kind at.5) in
    elim (sign_decided at.1.positive (not l.positive)) as (λ _. IsContradictory context l kind ⊎ IsContradictory context (complement l) kind) [
      | inl opposite ↦ inl (at.0, at.1, at.2, opposite, clash)
      | inr other ↦ inr (at.0, at.1, at.2, other_sign at.1.positive (not l.positive) other, clash)
    ]

split_uncovered : (problem : ProblemValue) (bounds : Bounds) (context : Context) (l : Literal) (kind : Kind) → IsContext context → IsNext problem bounds context (Split l kind) → ¬ IsFixed context l.atom
split_uncovered problem bounds context l kind is next covered =
    let least = next.3 in
    let apart = split_apart problem bounds context least.0 least.3 least.1 least.2 l is least.4 in
    elim (covered_contradicts context l (split_kind l) covered) as (λ _. ⊥) [ inl h ↦ apart.0 h | inr h ↦ apart.1 h ]

same_atoms : (a b : AtomValue) → Of a ≡ Of b → a ≡ b
same_atoms a b h = cc h

uncovered_by : (problem : ProblemValue) (bounds : Bounds) (context : Context) (new : EntryValue) (a : AtomValue) (why : ReasonValue) → ReasonHolds problem bounds context new why → new.atom ≡ Of a → ¬ IsFixed context a
uncovered_by problem bounds context new a Pseudo h is covered =
    let atoms : Any ≡ Of a = sym (ap (λ (e : EntryValue). e.atom) h.1) ∙ is in cc atoms
uncovered_by problem bounds context new a (Asserted c place tuple) h is covered =
    let assert = h.2 in
    let atoms = ap (λ (e : EntryValue). e.atom) assert.entry in
    let same = same_atoms a _ (sym is ∙ atoms) in
    let P : AtomValue → Type 0 = λ x. IsFixed context x in
    not_refused bounds context _ new.kind assert.allowed (fixed_is_refused context _ new.kind (subst P same covered))
uncovered_by problem bounds context new a SplitLeft h is covered =
    let at = h.1 in
    let atoms = ap (λ (e : EntryValue). e.atom) at.3 in
    let same = same_atoms a at.0.atom (sym is ∙ atoms) in
    let P : AtomValue → Type 0 = λ x. IsFixed context x in
    split_uncovered problem bounds context at.0 at.1 (grown h.0).0 at.2 (subst P same covered)
uncovered_by problem bounds context new a SplitRight h is covered =
    let at = h.1 in
    let atoms = ap (λ (e : EntryValue). e.atom) at.3 in
    let same = same_atoms a at.0.atom (sym is ∙ atoms) in
    let P : AtomValue → Type 0 = λ x. IsFixed context x in
    split_uncovered problem bounds context at.0 at.1 (grown h.0).0 at.2 (subst P same covered)

before_by : (problem : ProblemValue) (bounds : Bounds) (context : Context) (new : EntryValue) (a : AtomValue) (why : ReasonValue) → ReasonHolds problem bounds context new why → new.atom ≡ Of a → IsContext context
before_by problem bounds context new a Pseudo h is =
    let atoms : Any ≡ Of a = sym (ap (λ (e : EntryValue). e.atom) h.1) ∙ is in cc atoms
before_by problem bounds context new a (Asserted c place tuple) h is = (grown h.0).0
before_by problem bounds context new a SplitLeft h is = (grown h.0).0
before_by problem bounds context new a SplitRight h is = (grown h.0).0

module _ (problem : ProblemValue) (bounds : Bounds) (context : Context) (new : EntryValue) (a : AtomValue) (h : IsGrown problem bounds (add context new)) (is : new.atom ≡ Of a) where
  uncovered : ¬ IsFixed context a
  uncovered = uncovered_by problem bounds context new a new.reason (reason_of problem bounds context new h) is

  context_is : IsContext context
  context_is = before_by problem bounds context new a new.reason (reason_of problem bounds context new h) is

  ground_once : IsTrue (are_ground a.args) → ¬ StandsSomewhere context a
  ground_once ground at = uncovered (somewhere_fixed context a context_is ground at)

  same_as : IsTrue (are_ground a.args) → (p : Pattern) → Generalizes new.atom p → p ≡ Of a
  same_as ground Any g = let P : Pattern → Type 0 = λ q. Generalizes q Any in absurd (subst P is g)
  same_as ground (Of b) g =
      let P : Pattern → Type 0 = λ q. Generalizes q (Of b) in
      let at : Generalizes (Of a) (Of b) = subst P is g in
      ap (λ (x : AtomValue). Of x) (sym (sym (ground_atom at.0 a ground) ∙ at.1))

  hides_none : IsTrue (are_ground a.args) → (k : ℕ) (e : EntryValue) → StandsAt context k e → ¬ Hides (add context new) k e (length context) new
  hides_none ground k e stands hides =
      ground_once ground (k, e, stands, same_as ground e.atom hides.covers.generalizes)

pub newest_was_not_fixed : NewestWasNotFixed
newest_was_not_fixed = uncovered

pub ground_stands_once : GroundStandsOnce
ground_stands_once = ground_once

pub ground_hides_none : GroundHidesNone
ground_hides_none problem bounds context new a k e h is ground = hides_none problem bounds context new a h is ground k e
