-- Lists by clause and place, as those of some places are changed.
use Rattle.std.proofs.Common.{◌≡◌, ℕ, zero, suc, ◌+◌, ◌<◌, ◌⊎◌, ◌↔◌, inl, inr, List, [], ◌∷◌, ◌++◌, length, get_or, take, drop, refl, sym, ap, subst, ◌∙◌, arith}
use Rattle.std.specs.List.{All, Contains}
use Rattle.std.specs.Prelude.{slice_set}
use Rattle.std.proofs.lemmas.List.{length-set, get_or-set_same, get_or-set_other, drop_more, take_more}
use Rattle.std.proofs.lemmas.List.Elements.{All-head, All-tail, All-weaker, All-get_or}
use Rattle.clause_pairs.specs.declared.clause_place.ClausePlace.{ClausePlace}
use Rattle.clause_pairs.specs.Lists.{HasPlace, list_at, put, put_all}

pub same_or_not : (i j : ℕ) → (i ≡ j) ⊎ (¬ (i ≡ j))
same_or_not zero zero = inl refl
same_or_not zero (suc j) = inr (λ e. omega arith)
same_or_not (suc i) zero = inr (λ e. omega arith)
same_or_not (suc i) (suc j) =
    elim (same_or_not i j) as (λ _. (suc i ≡ suc j) ⊎ (¬ (suc i ≡ suc j))) [ inl e ↦ inl (ap suc e) | inr other ↦ inr (λ e. other (omega arith)) ]

pub one_place : (p q : ClausePlace) → p.clause ≡ q.clause → p.place ≡ q.place → p ≡ q
one_place p q e f = λ i. record { clause = e i; place = f i }

-- both parts are the same, or they are two places
pub place_cases : (p q : ClausePlace) → (p ≡ q) ⊎ (¬ (p ≡ q))
place_cases p q =
    elim (same_or_not p.clause q.clause) as (λ _. (p ≡ q) ⊎ (¬ (p ≡ q))) [
      | inl e ↦ elim (same_or_not p.place q.place) as (λ _. (p ≡ q) ⊎ (¬ (p ≡ q))) [
        | inl f ↦ inl (one_place p q e f)
        | inr other ↦ inr (λ h. other (ap (λ (z : ClausePlace). z.place) h))
      ]
      | inr other ↦ inr (λ h. other (ap (λ (z : ClausePlace). z.clause) h))
    ]

-- ---- one place
module _ (f : List ℕ → List ℕ) (lists : List (List (List ℕ))) (p : ClausePlace) (has : HasPlace lists p) where
  abbrev row : List (List ℕ)
  row = slice_set (get_or lists p.clause []) p.place (f (list_at lists p))

  pub put_here : list_at (put f lists p) p ≡ f (list_at lists p)
  put_here =
      ap (λ (z : List (List ℕ)). get_or z p.place []) (get_or-set_same lists p.clause row [] has.0)
      ∙ get_or-set_same (get_or lists p.clause []) p.place (f (list_at lists p)) [] has.1

  row_at : (c : ℕ) → c ≡ p.clause → get_or (put f lists p) c [] ≡ row
  row_at c e = ap (λ z. get_or (put f lists p) z []) e ∙ get_or-set_same lists p.clause row [] has.0

  pub put_other : (q : ClausePlace) → ¬ (p ≡ q) → list_at (put f lists p) q ≡ list_at lists q
  put_other q other =
      elim (same_or_not q.clause p.clause) as (λ _. list_at (put f lists p) q ≡ list_at lists q) [
        | inl e ↦
            let apart : ¬ (q.place ≡ p.place) = λ h. other (one_place p q (sym e) (sym h)) in
            ap (λ (z : List (List ℕ)). get_or z q.place []) (row_at q.clause e)
            ∙ (get_or-set_other (get_or lists p.clause []) p.place q.place (f (list_at lists p)) [] apart
            ∙ ap (λ z. get_or (get_or lists z []) q.place []) (sym e))
        | inr apart ↦ ap (λ (z : List (List ℕ)). get_or z q.place []) (get_or-set_other lists p.clause q.clause row [] apart)
      ]

  pub put_length : length (put f lists p) ≡ length lists
  put_length = length-set lists p.clause row

  row_length : (c : ℕ) → length (get_or (put f lists p) c []) ≡ length (get_or lists c [])
  row_length c =
      elim (same_or_not c p.clause) as (λ _. length (get_or (put f lists p) c []) ≡ length (get_or lists c [])) [
        | inl e ↦ ap length (row_at c e) ∙ (length-set (get_or lists p.clause []) p.place (f (list_at lists p)) ∙ ap (λ z. length (get_or lists z [])) (sym e))
        | inr apart ↦ ap length (get_or-set_other lists p.clause c row [] apart)
      ]

  pub put_place : (q : ClausePlace) → HasPlace (put f lists p) q ↔ HasPlace lists q
  put_place q =
      let n = put_length in
      let m = row_length q.clause in (
        λ h. let a = h.0 in let b = h.1 in (omega (arith, n, a), omega (arith, m, b)),
        λ h. let a = h.0 in let b = h.1 in (omega (arith, n, a), omega (arith, m, b)),
      )

-- ---- some places
-- the place is one of these
abbrev pub IsIn : ClausePlace → List ClausePlace → Type 0
IsIn q [] = ⊥
IsIn q (p ∷ qs) = (p ≡ q) ⊎ IsIn q qs

in_at : (q : ClausePlace) (qs : List ClausePlace) (k : ℕ) → k < length qs → get_or qs k q ≡ q → IsIn q qs
in_at q [] k lt e = absurd (omega arith)
in_at q (p ∷ qs) zero lt e = inl e
in_at q (p ∷ qs) (suc k) lt e = inr (in_at q qs k (omega arith) e)

pub contains_in : (q : ClausePlace) (qs : List ClausePlace) → Contains qs q → IsIn q qs
contains_in q qs h = in_at q qs h.0 h.1 h.2

pub in_contains : (q : ClausePlace) (qs : List ClausePlace) → IsIn q qs → Contains qs q
in_contains q [] h = absurd h
in_contains q (p ∷ qs) (inl e) = (zero, omega arith, e)
in_contains q (p ∷ qs) (inr h) = let later = in_contains q qs h in let lt = later.1 in (suc later.0, omega (arith, lt), later.2)

pub in_cases : (q : ClausePlace) (qs : List ClausePlace) → IsIn q qs ⊎ (¬ IsIn q qs)
in_cases q [] = inr (λ h. h)
in_cases q (p ∷ qs) =
    elim (place_cases p q) as (λ _. IsIn q (p ∷ qs) ⊎ (¬ IsIn q (p ∷ qs))) [
      | inl e ↦ inl (inl e)
      | inr other ↦ elim (in_cases q qs) as (λ _. IsIn q (p ∷ qs) ⊎ (¬ IsIn q (p ∷ qs))) [
        | inl h ↦ inl (inr h)
        | inr none ↦ inr (λ h. elim h as (λ _. ⊥) [ inl e ↦ other e | inr later ↦ none later ])
      ]
    ]

all_after : (f : List ℕ → List ℕ) (lists : List (List (List ℕ))) (p : ClausePlace) (qs : List ClausePlace) → HasPlace lists p → All (HasPlace lists) qs → All (HasPlace (put f lists p)) qs
all_after f lists p qs has all = All-weaker (HasPlace lists) (HasPlace (put f lists p)) (λ q h. (put_place f lists p has q).1 h) qs all

pub all_length : (f : List ℕ → List ℕ) (qs : List ClausePlace) (lists : List (List (List ℕ))) → All (HasPlace lists) qs → length (put_all f lists qs) ≡ length lists
all_length f [] lists all = refl
all_length f (p ∷ qs) lists all =
    let has = All-head (HasPlace lists) p qs all in
    all_length f qs (put f lists p) (all_after f lists p qs has (All-tail (HasPlace lists) p qs all)) ∙ put_length f lists p has

pub all_place : (f : List ℕ → List ℕ) (qs : List ClausePlace) (lists : List (List (List ℕ))) → All (HasPlace lists) qs → (q : ClausePlace) → HasPlace (put_all f lists qs) q ↔ HasPlace lists q
all_place f [] lists all q = (λ h. h, λ h. h)
all_place f (p ∷ qs) lists all q =
    let has = All-head (HasPlace lists) p qs all in
    let first = put_place f lists p has q in
    let later = all_place f qs (put f lists p) (all_after f lists p qs has (All-tail (HasPlace lists) p qs all)) q in
    (λ h. first.0 (later.0 h), λ h. later.1 (first.1 h))

-- no list but those of these places changes
pub all_other : (f : List ℕ → List ℕ) (qs : List ClausePlace) (lists : List (List (List ℕ))) → All (HasPlace lists) qs → (q : ClausePlace) → ¬ IsIn q qs → list_at (put_all f lists qs) q ≡ list_at lists q
all_other f [] lists all q none = refl
all_other f (p ∷ qs) lists all q none =
    let has = All-head (HasPlace lists) p qs all in
    all_other f qs (put f lists p) (all_after f lists p qs has (All-tail (HasPlace lists) p qs all)) q (λ h. none (inr h))
    ∙ put_other f lists p has q (λ e. none (inl e))

-- a list is changed once, where a second change would be none
pub all_here : (f : List ℕ → List ℕ) (qs : List ClausePlace) (lists : List (List (List ℕ))) → All (HasPlace lists) qs → (q : ClausePlace) → f (f (list_at lists q)) ≡ f (list_at lists q) → IsIn q qs → list_at (put_all f lists qs) q ≡ f (list_at lists q)
all_here f [] lists all q once h = absurd h
all_here f (p ∷ qs) lists all q once h =
    let has = All-head (HasPlace lists) p qs all in
    let rest = all_after f lists p qs has (All-tail (HasPlace lists) p qs all) in
    elim (place_cases p q) as (λ _. list_at (put_all f lists (p ∷ qs)) q ≡ f (list_at lists q)) [
      | inl e ↦
          (let now : list_at (put f lists p) q ≡ f (list_at lists q) = ap (λ z. list_at (put f lists p) z) (sym e) ∙ (put_here f lists p has ∙ ap (λ z. f (list_at lists z)) e) in
          elim (in_cases q qs) as (λ _. list_at (put_all f (put f lists p) qs) q ≡ f (list_at lists q)) [
            | inl later ↦ all_here f qs (put f lists p) rest q (ap (λ z. f (f z)) now ∙ (ap f once ∙ sym (ap f now))) later ∙ (ap f now ∙ once)
            | inr none ↦ all_other f qs (put f lists p) rest q none ∙ now
          ])
      | inr other ↦
          (let now : list_at (put f lists p) q ≡ list_at lists q = put_other f lists p has q other in
          elim h as (λ _. list_at (put_all f (put f lists p) qs) q ≡ f (list_at lists q)) [
            | inl e ↦ absurd (other e)
            | inr later ↦ all_here f qs (put f lists p) rest q (ap (λ z. f (f z)) now ∙ (once ∙ sym (ap f now))) later ∙ ap f now
          ])
    ]

-- ---- the steps of a loop over the places
pub all_push : (f : List ℕ → List ℕ) (qs : List ClausePlace) (lists : List (List (List ℕ))) (q : ClausePlace) → put_all f lists (qs ++ q ∷ []) ≡ put f (put_all f lists qs) q
all_push f [] lists q = refl
all_push f (p ∷ qs) lists q = all_push f qs (put f lists p) q

module _ (f : List ℕ → List ℕ) (lists now next whole : List (List (List ℕ))) (qs : List ClausePlace) (i : ℕ) (d : ClausePlace) (lt : i < length qs) (is : next ≡ put f now (get_or qs i d)) where
  pub all_rest : put_all f now (drop i qs) ≡ whole → put_all f next (drop (i + 1) qs) ≡ whole
  all_rest h =
      let P : List (List (List ℕ)) → Type 0 = λ z. put_all f z (drop (i + 1) qs) ≡ whole in
      let Q : List ClausePlace → Type 0 = λ z. put_all f now z ≡ whole in
      let step : put_all f (put f now (get_or qs i d)) (drop (i + 1) qs) ≡ whole = subst Q (drop_more qs i d lt) h in
      subst P (sym is) step

  pub all_front : now ≡ put_all f lists (take i qs) → next ≡ put_all f lists (take (i + 1) qs)
  all_front h = is ∙ (ap (λ z. put f z (get_or qs i d)) h ∙ (sym (all_push f (take i qs) lists (get_or qs i d)) ∙ ap (put_all f lists) (sym (take_more qs i d lt))))

  pub all_still : All (HasPlace now) qs → All (HasPlace next) qs
  all_still all =
      let P : List (List (List ℕ)) → Type 0 = λ z. All (HasPlace z) qs in
      subst P (sym is) (all_after f now (get_or qs i d) qs (All-get_or (HasPlace now) qs i d lt all) all)
