-- What a Parametric entry that is used produces, where no exception stands in the way.
use Rattle.std.proofs.Common.{◌≡◌, ℕ, ◌+◌, ◌↔◌, inl, inr, Bool, true, false, not, IsTrue, refl, sym, subst, ◌∙◌}
use Rattle.me_terms.specs.Substitutions.{Family, apply_atom}
use Rattle.me_terms.specs.Measures.{complement}
use Rattle.me_terms.specs.Values.{EntryValue}
use Rattle.me_terms.specs.Context.{Context}
use Rattle.me_terms.specs.Unifier.{unified}
use Rattle.me_terms.specs.Produces.{HasException, Produces}
use Rattle.me_terms.specs.declared.atom.Literal.{Literal}
use Rattle.me_terms.specs.declared.entry.Kind.TheVariants.{Universal, Parametric}
use Rattle.me_laws.proofs.Lifting.{met}
use Rattle.context_unifier.specs.Production.{IsUsed}

pub used_undisputed : (context : Context) (k : ℕ) (e : EntryValue) (f : Family) (place : ℕ) (l : Literal) → IsUsed context k e f place l → ¬ HasException context e (unified f l).atom → Produces context k e (complement (unified f l))
used_undisputed context k e f place l used free =
    record { visible = used.visible; same_sign = used.opposite; generalizes = met (f (place + 1)) e.atom (f 0) l.atom used.solved; undisputed = inr free }

pub parametric_undisputed : (context : Context) (k : ℕ) (e : EntryValue) (l : Literal) → e.kind ≡ Parametric → Produces context k e l → ¬ HasException context e l.atom
parametric_undisputed context k e l parametric p =
    elim p.undisputed as (λ _. ¬ HasException context e l.atom) [ inl universal ↦ (let z : Universal ≡ Parametric = sym universal ∙ parametric in cc) | inr free ↦ free ]

-- exactly where none does
unless : (context : Context) (k : ℕ) (e : EntryValue) (f : Family) (place : ℕ) (l : Literal) (b : Bool) → IsUsed context k e f place l → e.kind ≡ Parametric → (IsTrue b ↔ HasException context e (unified f l).atom) → IsTrue (not b) ↔ Produces context k e (complement (unified f l))
unless context k e f place l true used parametric h =
    (λ t. (let z : false ≡ true = t in cc), λ p. absurd (parametric_undisputed context k e (complement (unified f l)) parametric p (h.0 refl)))
unless context k e f place l false used parametric h =
    (λ t. used_undisputed context k e f place l used (λ x. let z : false ≡ true = h.1 x in cc), λ p. refl)

pub unwritten : (context : Context) (k : ℕ) (e : EntryValue) (f : Family) (place : ℕ) (l m : Literal) (b : Bool) → IsUsed context k e f place l → e.kind ≡ Parametric → m ≡ l → (IsTrue b ↔ HasException context e (apply_atom (f 0) m.atom)) → IsTrue (not b) ↔ Produces context k e (complement (unified f l))
unwritten context k e f place l m b used parametric same h =
    unless context k e f place l b used parametric (subst (λ (n : Literal). IsTrue b ↔ HasException context e (apply_atom (f 0) n.atom)) same h)
