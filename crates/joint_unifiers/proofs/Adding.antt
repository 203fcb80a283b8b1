-- The equations of a clause's places, one place more.
use Rattle.std.proofs.Common.{◌≡◌, ℕ, ◌+◌, ◌<◌, List, [], ◌∷◌, ◌++◌, length, drop, slice_get, Option, Some, refl, sym, subst, ap, ◌∙◌, append_assoc, arith}
use Rattle.std.proofs.lemmas.List.{drop_more}
use Rattle.std.proofs.lemmas.Option.{slice_get_within, get_or_from_slice_get}
use Rattle.me_terms.specs.Terms.{Var}
use Rattle.me_terms.specs.Context.{Context}
use Rattle.me_terms.specs.Positions.{entry_at}
use Rattle.me_terms.specs.declared.atom.Literal.{Literal}
use Rattle.me_unify.specs.Equations.{Equation, SolvesAll, IsSolvable}
use Rattle.me_unify.specs.ClauseEquations.{equations_at, equations_from}
use Rattle.joint_unifiers.proofs.Bridge.{solves_first}

pub drop_at : {A : Type 0} (xs : List A) (k : ℕ) (x : A) → slice_get xs k ≡ Some x → drop k xs ≡ x ∷ drop (k + 1) xs
drop_at xs k x e =
    let within : k < length xs = slice_get_within xs k x e in
    drop_more xs k x within ∙ ap (λ z. z ∷ drop (k + 1) xs) (get_or_from_slice_get xs k x x e)

-- ---- what is left
abbrev pub left_from : ℕ → Context → List Literal → List (Option ℕ) → List Equation
left_from i context ls ks = equations_from i context (drop i ls) (drop i ks)

pub left_step : (i : ℕ) (context : Context) (ls : List Literal) (ks : List (Option ℕ)) (l : Literal) (k : Option ℕ) → slice_get ls i ≡ Some l → slice_get ks i ≡ Some k
    → left_from i context ls ks ≡ equations_at (i + 1) (entry_at context k) l ++ left_from (i + 1) context ls ks
left_step i context ls ks l k at pos = λ t. equations_from i context (drop_at ls i l at t) (drop_at ks i k pos t)

-- one place more is added
pub added : (whole old new : List Equation) (i : ℕ) (context : Context) (ls : List Literal) (ks : List (Option ℕ)) (l : Literal) (k : Option ℕ) → slice_get ls i ≡ Some l → slice_get ks i ≡ Some k
    → whole ≡ old ++ left_from i context ls ks → new ≡ old ++ equations_at (i + 1) (entry_at context k) l → whole ≡ new ++ left_from (i + 1) context ls ks
added whole old new i context ls ks l k at pos is more =
    let here = equations_at (i + 1) (entry_at context k) l in
    let later = left_from (i + 1) context ls ks in
    is ∙ (ap (λ z. old ++ z) (left_step i context ls ks l k at pos) ∙ (sym (append_assoc old here later) ∙ ap (λ z. z ++ later) (sym more)))

-- the whole has no solution where the equations up to a place have none
pub refuted : (whole old : List Equation) (i : ℕ) (context : Context) (ls : List Literal) (ks : List (Option ℕ)) (l : Literal) (k : Option ℕ) → slice_get ls i ≡ Some l → slice_get ks i ≡ Some k
    → whole ≡ old ++ left_from i context ls ks → IsSolvable whole → IsSolvable (old ++ equations_at (i + 1) (entry_at context k) l)
refuted whole old i context ls ks l k at pos is h =
    let now = old ++ equations_at (i + 1) (entry_at context k) l in
    let e = added whole old now i context ls ks l k at pos is refl in
    (h.0, solves_first h.0 now (left_from (i + 1) context ls ks) (subst (λ (z : List Equation). SolvesAll h.0 z) e h.1))

pub none_solvable : (es : List Equation) → es ≡ [] → IsSolvable es
none_solvable [] e = ((λ space x. Var x), λ k d lt. absurd (omega arith))
none_solvable (f ∷ es) e = cc
