-- Lifting: where every entry produces the complement of its literal under some solution, the most general unifier is productive.
use Rattle.std.proofs.Common.{◌≡◌, ℕ, ◌+◌, ◌⊎◌, inl, inr, List, Option, sym, ◌∙◌}
use Rattle.me_terms.specs.Terms.{AtomValue}
use Rattle.me_terms.specs.Substitutions.{Substitution, Family, apply_term, apply_atom, Generalizes}
use Rattle.me_terms.specs.Values.{EntryValue}
use Rattle.me_terms.specs.Context.{Context}
use Rattle.me_terms.specs.Produces.{HasException}
use Rattle.me_terms.specs.Unifier.{IsSolvedBy, Solves, IsUnifier}
use Rattle.me_terms.specs.Productive.{IsProductive}
use Rattle.me_terms.specs.declared.entry.Kind.TheVariants.{Universal}
use Rattle.me_terms.specs.declared.atom.Literal.{Literal}
use Rattle.me_terms.specs.declared.atom.Pattern.{Pattern}
use Rattle.me_terms.specs.declared.atom.Pattern.TheVariants.{Any, Of}
use Rattle.me_laws.proofs.Generality.{generalizes_transitive, atom_followed}

-- s and then r is v
pub atom_along : (s v r : Substitution) → ((x : ℕ) → apply_term r (s x) ≡ v x) → (a : AtomValue) → apply_atom r (apply_atom s a) ≡ apply_atom v a
atom_along s v r h a = sym (atom_followed s r a) ∙ (λ i. apply_atom (λ x. h x i) a)

-- an entry is more general than what it meets
pub met : (t : Substitution) (q : Pattern) (s : Substitution) (a : AtomValue) → IsSolvedBy t q s a → Generalizes q (Of (apply_atom s a))
met t Any s a m = tt
met t (Of b) s a m = (t, m)

-- an exception at an atom is one at its instances
pub exception_below : (context : Context) (e : EntryValue) (a b : AtomValue) → Generalizes (Of a) (Of b) → HasException context e a → HasException context e b
exception_below context e a b g ex =
    (ex.0, ex.1, ex.2, generalizes_transitive ex.1.atom (Of a) (Of b) ex.3 g, ex.4)

-- what is undisputed at an instance is undisputed
pub lower : (context : Context) (e : EntryValue) (a b : AtomValue) → Generalizes (Of a) (Of b) → (e.kind ≡ Universal) ⊎ (¬ HasException context e b) → (e.kind ≡ Universal) ⊎ (¬ HasException context e a)
lower context e a b g (inl u) = inl u
lower context e a b g (inr free) = inr (λ ex. free (exception_below context e a b g ex))

pub lifted : (context : Context) (literals : List Literal) (positions : List (Option ℕ)) (u v : Family) → IsUnifier context literals positions u → Solves context literals positions v → IsProductive context literals positions v → IsProductive context literals positions u
lifted context literals positions u v unifier solved productive =
    λ i k l e opposed.
    let below = unifier.most_general v solved in
    let there = productive i k l e opposed in
    let instance_is : Generalizes (Of (apply_atom (u 0) l.atom)) (Of (apply_atom (v 0) l.atom)) = (below.0, atom_along (u 0) (v 0) below.0 (below.1 0) l.atom) in
    record {
      visible = there.visible;
      same_sign = there.same_sign;
      generalizes = met (u (i + 1)) e.atom (u 0) l.atom (unifier.solves i k l e opposed);
      undisputed = lower context e (apply_atom (u 0) l.atom) (apply_atom (v 0) l.atom) instance_is there.undisputed;
    }
