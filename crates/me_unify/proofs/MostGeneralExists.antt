-- Equations that have a solution have a most general unifier: they are taken as equations of terms over one space.
use Rattle.std.proofs.Common.{◌≡◌, ℕ, zero, suc, ◌<◌, List, [], ◌∷◌, length, map, sym, subst, ◌∙◌, arith}
use Rattle.std.specs.List.{All}
use Rattle.me_terms.specs.Terms.{TermValue, Var, App, AtomValue}
use Rattle.me_terms.specs.Substitutions.{Substitution, Family, apply_term, apply_atom}
use Rattle.me_laws.specs.Pairing.{pair, apart}
use Rattle.me_laws.proofs.Existence.{Equations, HoldsAll, most_general_of}
use Rattle.me_laws.proofs.Generality.{term_followed}
use Rattle.me_laws.proofs.Renaming.{args_of}
use Rattle.me_laws.proofs.UnifiersExist.{spread, flat, spread_flat}
use Rattle.me_unify.specs.Equations.{Equation, SolvesOne, SolvesAll, IsSolvable, IsMostGeneral}

abbrev term_of : AtomValue → TermValue
term_of a = App a.pred a.args

pred_of : TermValue → ℕ
pred_of (Var x) = 0
pred_of (App f ts) = f

abbrev sides : Equation → TermValue × TermValue
sides e = (apply_term (apart e.left_space) (term_of e.left), apply_term (apart e.right_space) (term_of e.right))

in_space : (w : Substitution) (space : ℕ) (t : TermValue) → apply_term w (apply_term (apart space) t) ≡ apply_term (spread w space) t
in_space w space t = sym (term_followed (apart space) w t)

holds_one : (w : Substitution) (e : Equation) → SolvesOne (spread w) e → apply_term w (sides e).0 ≡ apply_term w (sides e).1
holds_one w e h =
    let whole : apply_term (spread w e.left_space) (term_of e.left) ≡ apply_term (spread w e.right_space) (term_of e.right) = λ i. App (h i).pred (h i).args in
    in_space w e.left_space (term_of e.left) ∙ (whole ∙ sym (in_space w e.right_space (term_of e.right)))

solves_one : (w : Substitution) (e : Equation) → apply_term w (sides e).0 ≡ apply_term w (sides e).1 → SolvesOne (spread w) e
unfolding pred_of args_of
solves_one w e h =
    let whole : apply_term (spread w e.left_space) (term_of e.left) ≡ apply_term (spread w e.right_space) (term_of e.right) = sym (in_space w e.left_space (term_of e.left)) ∙ (h ∙ in_space w e.right_space (term_of e.right)) in
    λ i. record { pred = pred_of (whole i); args = args_of (whole i) }

all_hold : (w : Substitution) (es : List Equation) → SolvesAll (spread w) es → HoldsAll w (map sides es)
all_hold w [] h = tt
all_hold w (e ∷ es) h = (holds_one w e (h 0 e (omega arith)), all_hold w es (λ k d lt. h (suc k) d (omega (arith, lt))))

more_solve : (w : Substitution) (e : Equation) (es : List Equation) → SolvesOne (spread w) e → SolvesAll (spread w) es → SolvesAll (spread w) (e ∷ es)
more_solve w e es here later zero d lt = here
more_solve w e es here later (suc k) d lt = later k d (omega (arith, lt))

all_solve : (w : Substitution) (es : List Equation) → HoldsAll w (map sides es) → SolvesAll (spread w) es
all_solve w [] h = λ k d lt. absurd (omega (arith, lt))
all_solve w (e ∷ es) h = more_solve w e es (solves_one w e h.0) (all_solve w es h.1)

flat_holds : (v : Family) (es : List Equation) → SolvesAll v es → HoldsAll (flat v) (map sides es)
flat_holds v es h = all_hold (flat v) es (subst (λ (u : Family). SolvesAll u es) (sym (spread_flat v)) h)

pub most_general_exists : (es : List Equation) → IsSolvable es → (u : Family) × IsMostGeneral es u
most_general_exists es s =
    let m = most_general_of (flat s.0) (map sides es) (flat_holds s.0 es s.1) in (
      spread m.substitution,
      record {
        solves = all_solve m.substitution es m.holds;
        most_general = λ v h. (flat v, λ space x. m.general (flat v) (flat_holds v es h) (pair space x) ∙ (λ t. spread_flat v t space x));
      },
    )
