-- Which literals contradict a context that has one entry beside the pseudo-literal.
use Rattle.std.proofs.Common.{◌≡◌, true, false, not, refl, sym, ap, ◌∙◌, arith}
use Rattle.me_terms.specs.Terms.{TermValue, Arguments, Nil, Cons, AtomValue}
use Rattle.me_terms.specs.Values.{SplitLeft}
use Rattle.me_terms.specs.Contradictory.{Unifiable, Clash, IsContradictory}
use Rattle.me_terms.specs.declared.entry.Kind.{Kind}
use Rattle.me_terms.specs.declared.entry.Kind.TheVariants.{Universal, Parametric}
use Rattle.me_terms.specs.declared.atom.Literal.{Literal}
use Rattle.me_terms.specs.declared.atom.Pattern.TheVariants.{Of}
use Rattle.me_laws_examples.specs.Letters.{a, b, x0, x1, p, literal, entry}
use Rattle.me_laws_examples.specs.Contradictions.{having, Contradictions}
use Rattle.me_laws_examples.proofs.Short.{each_entry, seen, no_instance}
use Rattle.me_laws_examples.proofs.HiddenEntry.{first_then}

contradicts : (atom : AtomValue) (kind : Kind) (l : Literal) (other : Kind) → l.positive ≡ false → Clash kind (Of atom) other (Of l.atom) → IsContradictory (having atom kind) l other
contradicts atom kind l other sign clash =
    let e = entry true atom kind SplitLeft in
    (1, e, seen (having atom kind) 1 e refl ((λ lt u s g. absurd (omega (arith, lt))), ((λ lt u s g. absurd (omega (arith, lt))), tt)), sym (ap not sign), clash)

contradicts_not : (atom : AtomValue) (kind : Kind) (l : Literal) (other : Kind) → l.positive ≡ false → ¬ Clash kind (Of atom) other (Of l.atom) → ¬ IsContradictory (having atom kind) l other
contradicts_not atom kind l other sign none h =
    each_entry (λ j e. e.positive ≡ not l.positive → Clash e.kind e.atom other (Of l.atom) → ⊥) (having atom kind)
    ((λ s g. let bad : false ≡ true = s ∙ ap not sign in cc bad), ((λ s g. none g), tt))
    h.0 h.1 h.2.0 h.3 h.4

last_of : Arguments → TermValue
last_of Nil = a
last_of (Cons s Nil) = s
last_of (Cons s (Cons t ts)) = t

-- no instance of p(X0,b) is one of p(X0,a)
apart : ¬ Unifiable (Of (p x0 b)) (Of (p x0 a))
unfolding last_of
apart h = let same : b ≡ a = ap (λ (c : AtomValue). last_of c.args) h.2 in cc same

pub contradictions : Contradictions
unfolding first_then
contradictions = record {
  unifiable = contradicts (p x0 b) Universal (literal false (p a x0)) Universal refl (λ x. a, λ x. b, refl);
  not_unifiable = contradicts_not (p x0 b) Universal (literal false (p x0 a)) Universal refl apart;
  below_universal = contradicts (p x0 x1) Universal (literal false (p x0 b)) Parametric refl (first_then x0 b, refl);
  beside_universal = contradicts_not (p x0 b) Universal (literal false (p a x0)) Parametric refl (λ g. no_instance (p x0 b) (p a x0) refl g);
  above_parametric = contradicts (p a x0) Parametric (literal false (p x0 x1)) Universal refl (first_then a x0, refl);
  beside_parametric = contradicts_not (p a x0) Parametric (literal false (p x0 b)) Universal refl (λ g. no_instance (p x0 b) (p a x0) refl g);
  variants = contradicts (p a x0) Parametric (literal false (p a x1)) Parametric refl ((λ x. x1, refl), (λ x. x0, refl));
  no_variants = contradicts_not (p a x0) Parametric (literal false (p x0 x1)) Parametric refl (λ g. no_instance (p a x0) (p x0 x1) refl g.0);
  same_sign = λ h. each_entry (λ j e. e.positive ≡ false → Clash e.kind e.atom Universal (Of (p a x0)) → ⊥) (having (p x0 b) Universal) ((λ s g. g), ((λ s g. cc s), tt)) h.0 h.1 h.2.0 h.3 h.4;
}
