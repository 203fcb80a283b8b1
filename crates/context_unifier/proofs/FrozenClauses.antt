-- The equations of a clause that is frozen twice, and what they tell of the clause's unifiers.
use Rattle.std.proofs.Common.{◌≡◌, ℕ, ◌+◌, ◌<◌, List, [], ◌∷◌, ◌++◌, length, Option, sym, subst, arith}
use Rattle.std.proofs.lemmas.Option.{slice_get_within}
use Rattle.me_terms.specs.Terms.{AtomValue}
use Rattle.me_terms.specs.Substitutions.{Substitution, Family, apply_atom}
use Rattle.me_terms.specs.Context.{Context}
use Rattle.me_terms.specs.Unifier.{IsSolvedBy}
use Rattle.me_terms.specs.declared.atom.Literal.{Literal}
use Rattle.me_unify.specs.Equations.{Equation, IsMostGeneral}
use Rattle.me_unify.specs.ClauseEquations.{clause_equations}
use Rattle.joint_unifiers.proofs.Bridge.{solves_of, of_solves}
use Rattle.context_unifier.specs.Frozen.{ASKED, frozen_as, IsFrozen, LeavesGround, TellInstances, StaysFrozen}
use Rattle.context_unifier.proofs.FrozenSolutions.{AreBelow, tells, one_more}

-- No equation of a clause has the space of an atom that is asked for.
clause_below : (context : Context) (ls : List Literal) (ks : List (Option ℕ)) → length ls < ASKED → AreBelow ASKED (clause_equations context ls ks)
clause_below context ls ks few v w same h =
    of_solves context ls ks w (λ i k l e against.
    let solved = solves_of context ls ks v h i k l e against in
    let within = slice_get_within ls i l against.literal in
    let here : v (i + 1) ≡ w (i + 1) = same (i + 1) (omega (arith, within, few)) in
    let zeroth : v 0 ≡ w 0 = same 0 (omega arith) in
    let second : IsSolvedBy (w (i + 1)) e.atom (v 0) l.atom = subst (λ (s : Substitution). IsSolvedBy s e.atom (v 0) l.atom) here solved in
    subst (λ (s : Substitution). IsSolvedBy (w (i + 1)) e.atom s l.atom) zeroth second)

pub clause_tells : (context : Context) (ls : List Literal) (ks : List (Option ℕ)) (one other : List Equation) (n m : ℕ) (a : AtomValue) → length ls < ASKED → IsFrozen (clause_equations context ls ks) 0 one n → IsFrozen (clause_equations context ls ks) n other m
    → LeavesGround one a → LeavesGround other a → (f : Family) → IsMostGeneral (clause_equations context ls ks) f → TellInstances one other a (apply_atom (f 0) a)
clause_tells context ls ks one other n m a few z z' closed closed' f general =
    tells (clause_equations context ls ks) one other n m f a general (clause_below context ls ks few) z z' closed closed'

-- ---- variables that are frozen one after another
pub stays : (es : List Equation) (n : ℕ) → StaysFrozen es n es n
stays es n equations first z = z

pub stays_twice : (es fs gs : List Equation) (n m k : ℕ) → StaysFrozen es n fs m → StaysFrozen fs m gs k → StaysFrozen es n gs k
stays_twice es fs gs n m k h g equations first z = g equations first (h equations first z)

pub stays_more : (es fs : List Equation) (n space x : ℕ) → space < ASKED → fs ≡ es ++ frozen_as space x n ∷ [] → StaysFrozen es n fs (n + 1)
stays_more es fs n space x h e equations first z =
    subst (λ (gs : List Equation). IsFrozen equations first gs (n + 1)) (sym e) (one_more equations first es n z space x h)
