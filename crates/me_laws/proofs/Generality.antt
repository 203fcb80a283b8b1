-- The order by generality: reflexive, transitive, decided; strictly more general: irreflexive, transitive.
use Rattle.std.proofs.Common.{◌≡◌, Bool, true, false, ◌⊎◌, inl, inr, refl, sym, ap, ◌∙◌}
use Rattle.me_terms.specs.Terms.{TermValue, Var, App, Arguments, Nil, Cons, AtomValue}
use Rattle.me_terms.specs.Substitutions.{Substitution, apply_term, apply_arguments, apply_atom, followed_by, IsInstance, Generalizes, IsStrictlyMoreGeneral}
use Rattle.me_terms.specs.Contradictory.{Unifiable, Clash}
use Rattle.me_terms.specs.declared.entry.Kind.{Kind}
use Rattle.me_terms.specs.declared.entry.Kind.TheVariants.{Universal, Parametric}
use Rattle.me_terms.specs.declared.atom.Pattern.{Pattern}
use Rattle.me_terms.specs.declared.atom.Pattern.TheVariants.{Any, Of}
use Rattle.me_terms.proofs.Matchers.{at_matches, at_matches_sound, at_matches_complete}

mutual
  pub term_unchanged : (t : TermValue) → apply_term Var t ≡ t
  term_unchanged (Var x) = refl
  term_unchanged (App f ts) = ap (App f) (arguments_unchanged ts)

  pub arguments_unchanged : (ts : Arguments) → apply_arguments Var ts ≡ ts
  arguments_unchanged Nil = refl
  arguments_unchanged (Cons t ts) = λ i. Cons (term_unchanged t i) (arguments_unchanged ts i)

-- s and then r is one substitution
mutual
  pub term_followed : (s r : Substitution) (t : TermValue) → apply_term (followed_by s r) t ≡ apply_term r (apply_term s t)
  term_followed s r (Var x) = refl
  term_followed s r (App f ts) = ap (App f) (arguments_followed s r ts)

  pub arguments_followed : (s r : Substitution) (ts : Arguments) → apply_arguments (followed_by s r) ts ≡ apply_arguments r (apply_arguments s ts)
  arguments_followed s r Nil = refl
  arguments_followed s r (Cons t ts) = λ i. Cons (term_followed s r t i) (arguments_followed s r ts i)

pub atom_unchanged : (a : AtomValue) → apply_atom Var a ≡ a
atom_unchanged a = λ i. record { pred = a.pred; args = arguments_unchanged a.args i }

pub atom_followed : (s r : Substitution) (a : AtomValue) → apply_atom (followed_by s r) a ≡ apply_atom r (apply_atom s a)
atom_followed s r a = λ i. record { pred = a.pred; args = arguments_followed s r a.args i }

pub generalizes_reflexive : (p : Pattern) → Generalizes p p
generalizes_reflexive Any = tt
generalizes_reflexive (Of a) = (Var, atom_unchanged a)

pub generalizes_transitive : (p q r : Pattern) → Generalizes p q → Generalizes q r → Generalizes p r
generalizes_transitive Any q r f g = tt
generalizes_transitive (Of a) Any r f g = absurd f
generalizes_transitive (Of a) (Of b) Any f g = absurd g
generalizes_transitive (Of a) (Of b) (Of c) f g =
    (followed_by f.0 g.0, atom_followed f.0 g.0 a ∙ (ap (apply_atom g.0) f.1 ∙ g.1))

decided_by : (a b : AtomValue) (test : Bool) → at_matches a b ≡ test → IsInstance a b ⊎ (¬ IsInstance a b)
decided_by a b true e = inl (at_matches_sound a b e)
decided_by a b false e = inr (λ h. cc (e, at_matches_complete a b h))

pub generalizes_decided : (p q : Pattern) → Generalizes p q ⊎ (¬ Generalizes p q)
generalizes_decided Any q = inl tt
generalizes_decided (Of a) Any = inr (λ h. h)
generalizes_decided (Of a) (Of b) = decided_by a b (at_matches a b) refl

pub strictly_irreflexive : (p : Pattern) → ¬ IsStrictlyMoreGeneral p p
strictly_irreflexive p h = h.1 h.0

pub strictly_transitive : (p q r : Pattern) → IsStrictlyMoreGeneral p q → IsStrictlyMoreGeneral q r → IsStrictlyMoreGeneral p r
strictly_transitive p q r f g = (generalizes_transitive p q r f.0 g.0, λ back. f.1 (generalizes_transitive q r p g.0 back))

pub strictly_decided : (p q : Pattern) → IsStrictlyMoreGeneral p q ⊎ (¬ IsStrictlyMoreGeneral p q)
strictly_decided p q =
    elim (generalizes_decided p q) as (λ _. IsStrictlyMoreGeneral p q ⊎ (¬ IsStrictlyMoreGeneral p q)) [
      | inl f ↦ elim (generalizes_decided q p) as (λ _. IsStrictlyMoreGeneral p q ⊎ (¬ IsStrictlyMoreGeneral p q)) [ inl g ↦ inr (λ h. h.1 g) | inr g ↦ inl (f, g) ]
      | inr f ↦ inr (λ h. f h.0)
    ]

pub unifiable_symmetric : (p q : Pattern) → Unifiable p q → Unifiable q p
unifiable_symmetric Any Any h = tt
unifiable_symmetric Any (Of b) h = tt
unifiable_symmetric (Of a) Any h = tt
unifiable_symmetric (Of a) (Of b) h = (h.1, h.0, sym h.2)

-- contradiction reads the same from both sides
pub clash_symmetric : (j : Kind) (p : Pattern) (k : Kind) (q : Pattern) → Clash j p k q → Clash k q j p
clash_symmetric Universal p Universal q h = unifiable_symmetric p q h
clash_symmetric Universal p Parametric q h = h
clash_symmetric Parametric p Universal q h = h
clash_symmetric Parametric p Parametric q h = (h.1, h.0)
