-- Variables that become terms that are no variables, and the places that remain, one by one.
use Rattle.std.proofs.Common.{◌≡◌, ℕ, suc, ◌+◌, ◌<◌, ◌≤◌, Bool, true, false, ◌||◌, cond, List, [], ◌∷◌, ◌++◌, length, drop, slice_get, Option, Some, refl, sym, subst, ap, ◌∙◌, arith, append_assoc}
use Rattle.std.specs.List.{list_any}
use Rattle.std.proofs.lemmas.List.{drop_all, append-nil}
use Rattle.std.proofs.lemmas.List.Folds.{list_any-append}
use Rattle.me_terms.specs.Terms.{TermValue, arguments_of}
use Rattle.me_terms.specs.Variables.{term_variables, variables_of}
use Rattle.me_terms.specs.Substitutions.{Family}
use Rattle.me_terms.specs.Context.{Context}
use Rattle.me_terms.specs.Positions.{entry_at}
use Rattle.me_terms.specs.Remainder.{remains_at, remainder_from, remainder}
use Rattle.me_terms.specs.declared.atom.Literal.{Literal}
use Rattle.me_laws.proofs.Lists.{EachOf, all_of, each_map}
use Rattle.joint_unifiers.specs.Places.{ArePlaces}
use Rattle.joint_unifiers.proofs.Adding.{drop_at}

-- ---- a variable that passes a test, in a term or in those after it
abbrev pub has_any : (ℕ → Bool) → List TermValue → Bool
has_any p ts = list_any p (variables_of (arguments_of ts))

any_step : (p : ℕ → Bool) (ts : List TermValue) (k : ℕ) (t : TermValue) (whole : Bool) → slice_get ts k ≡ Some t → whole ≡ has_any p (drop k ts) → whole ≡ (list_any p (term_variables t) || has_any p (drop (k + 1) ts))
any_step p ts k t whole at is =
    is ∙ (ap (λ z. has_any p z) (drop_at ts k t at) ∙ list_any-append p (term_variables t) (variables_of (arguments_of (drop (k + 1) ts))))

pub any_here : (p : ℕ → Bool) (ts : List TermValue) (k : ℕ) (t : TermValue) (whole : Bool) → slice_get ts k ≡ Some t → whole ≡ has_any p (drop k ts) → true ≡ list_any p (term_variables t) → true ≡ whole
any_here p ts k t whole at is here = sym (any_step p ts k t whole at is ∙ ap (λ b. b || has_any p (drop (k + 1) ts)) (sym here))

pub any_later : (p : ℕ → Bool) (ts : List TermValue) (k : ℕ) (t : TermValue) (whole : Bool) → slice_get ts k ≡ Some t → whole ≡ has_any p (drop k ts) → false ≡ list_any p (term_variables t) → whole ≡ has_any p (drop (k + 1) ts)
any_later p ts k t whole at is here = any_step p ts k t whole at is ∙ ap (λ b. b || has_any p (drop (k + 1) ts)) (sym here)

pub any_none : (p : ℕ → Bool) (ts : List TermValue) (k : ℕ) (whole : Bool) → length ts ≤ k → whole ≡ has_any p (drop k ts) → false ≡ whole
any_none p ts k whole past is = sym (is ∙ ap (λ z. has_any p z) (drop_all k ts past))

-- ---- the places that remain
abbrev pub left_places : ℕ → Context → List (Option ℕ) → Family → List ℕ
left_places i context ks u = remainder_from i context (drop i ks) u

joined : (old later : List ℕ) (i : ℕ) (b : Bool) → old ++ cond b (i ∷ later) later ≡ cond b (old ++ i ∷ []) old ++ later
joined old later i true = sym (append_assoc old (i ∷ []) later)
joined old later i false = refl

pub places_step : (whole old new : List ℕ) (i : ℕ) (context : Context) (ks : List (Option ℕ)) (u : Family) (k : Option ℕ) (b : Bool) → slice_get ks i ≡ Some k → b ≡ remains_at (entry_at context k) (u (i + 1))
    → new ≡ cond b (old ++ i ∷ []) old → whole ≡ old ++ left_places i context ks u → whole ≡ new ++ left_places (i + 1) context ks u
places_step whole old new i context ks u k b at remains is q =
    let later = left_places (i + 1) context ks u in
    q ∙ (ap (λ z. old ++ remainder_from i context z u) (drop_at ks i k at)
    ∙ (ap (λ z. old ++ cond z (i ∷ later) later) (sym remains)
    ∙ (joined old later i b ∙ ap (λ z. z ++ later) (sym is))))

pub places_all : (whole new : List ℕ) (i : ℕ) (context : Context) (ks : List (Option ℕ)) (u : Family) → length ks ≤ i → whole ≡ new ++ left_places i context ks u → new ≡ whole
places_all whole new i context ks u past q = sym (q ∙ (ap (λ z. new ++ remainder_from i context z u) (drop_all i ks past) ∙ append-nil new))

-- ---- what remains are places
from_here : (test : Bool) (i n : ℕ) (later : List ℕ) → EachOf (λ place. place < (i + 1) + n) later → EachOf (λ place. place < i + suc n) (cond test (i ∷ later) later)
from_here test i n later h =
    let moved = each_map (λ place. place < (i + 1) + n) (λ place. place < i + suc n) (λ place lt. omega (arith, lt)) later h in
    elim test as (λ t. EachOf (λ place. place < i + suc n) (cond t (i ∷ later) later)) [ true ↦ (omega arith, moved) | false ↦ moved ]

remaining_from : (i : ℕ) (context : Context) (ks : List (Option ℕ)) (u : Family) → EachOf (λ place. place < i + length ks) (remainder_from i context ks u)
remaining_from i context [] u = tt
remaining_from i context (k ∷ ks) u = from_here (remains_at (entry_at context k) (u (i + 1))) i (length ks) (remainder_from (i + 1) context ks u) (remaining_from (i + 1) context ks u)

-- the remainder of positions, one for each literal, has places of the literals
pub are_places : (context : Context) (ks : List (Option ℕ)) (u : Family) (literals : List Literal) (places : List ℕ) → length ks ≡ length literals → places ≡ remainder context ks u → ArePlaces literals places
are_places context ks u literals places number is =
    let P : ℕ → Type 0 = λ place. place < length literals in
    let each : EachOf P (remainder context ks u) = each_map (λ place. place < 0 + length ks) P (λ place lt. omega (arith, lt, number)) (remainder context ks u) (remaining_from 0 context ks u) in
    let Q : List ℕ → Type 0 = λ ps. EachOf P ps in
    all_of P places (subst Q (sym is) each)
