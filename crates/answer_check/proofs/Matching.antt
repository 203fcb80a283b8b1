-- Two lists of literals, matched place by place.
use Rattle.std.proofs.Common.{◌≡◌, ◌↔◌, ℕ, zero, suc, ◌+◌, ◌<◌, ◌≤◌, Bool, true, false, ◌⊎◌, inl, inr, List, [], ◌∷◌, ◌++◌, length, map, get_or, Some, refl, sym, ap, subst, ◌∙◌, arith, IsTrue}
use Rattle.std.proofs.lemmas.Bool.{cases_lt}
use Rattle.std.proofs.lemmas.List.{get_or_default, length-map}
use Rattle.std.proofs.lemmas.List.Elements.{All-push, All-pop, All-nil}
use Rattle.me_terms.specs.Terms.{Var}
use Rattle.me_terms.specs.Substitutions.{Family, apply_atom, apply_literal}
use Rattle.me_terms.specs.declared.atom.Literal.{Literal}
use Rattle.me_unify.specs.Equations.{Equation, equation, SolvesOne, SolvesAll, IsSolvable}
use Rattle.answer_check.specs.Instances.{IsMatched, SolvesWith}

-- ---- one place

pub with_one : (u : Family) (old : List Equation) (l m : Literal) → l.positive ≡ m.positive
    → SolvesAll u (old ++ equation 0 l.atom 1 m.atom ∷ []) ↔ SolvesWith u old l m
with_one u old l m same =
    let e = equation 0 l.atom 1 m.atom in (
      λ h. let both = All-pop (SolvesOne u) (old ++ e ∷ []) old (Some e) refl h in (both.0, λ i. record { positive = same i; atom = both.1 i }),
      λ h. All-push (SolvesOne u) old e h.0 (ap (λ (z : Literal). z.atom) h.1),
    )

-- ---- the first places

-- The family takes the literals at each of the first k places to the same one.
abbrev pub AgreeBelow : Family → List Literal → List Literal → ℕ → Type 0
AgreeBelow u ls ms k = (i : ℕ) (d e : Literal) → i < k → apply_literal (u 0) (get_or ls i d) ≡ apply_literal (u 1) (get_or ms i e)

-- The equations have a solution, and what solves them is what takes the first k places to the same literals.
pub record MatchedSoFar (ls ms : List Literal) (k : ℕ) (equations : List Equation) : Type 0 where
  pub solvable : IsSolvable equations
  pub agree : (u : Family) → SolvesAll u equations ↔ AgreeBelow u ls ms k

pub none_matched : (ls ms : List Literal) (equations : List Equation) → equations ≡ [] → MatchedSoFar ls ms 0 equations
none_matched ls ms equations e =
    let P : List Equation → Type 0 = λ z. MatchedSoFar ls ms 0 z in
    subst P (sym e) (record {
      solvable = (λ s. Var, All-nil (SolvesOne (λ s. Var)));
      agree = λ u. (λ h i d e' lt. absurd (omega arith), λ h. All-nil (SolvesOne u));
    })

module _ (ls ms : List Literal) (k : ℕ) (l m : Literal) (within : k < length ls) (long : length ls ≡ length ms) (at : l ≡ get_or ls k l) (at' : m ≡ get_or ms k m) where
  at_left : (d : Literal) → get_or ls k d ≡ l
  at_left d = get_or_default ls k d l within ∙ sym at

  at_right : (d : Literal) → get_or ms k d ≡ m
  at_right d = get_or_default ms k d m (omega arith) ∙ sym at'

  one_more : (u : Family) → AgreeBelow u ls ms k → apply_literal (u 0) l ≡ apply_literal (u 1) m → AgreeBelow u ls ms (k + 1)
  one_more u h same i d e lt =
      elim (cases_lt i k) as (λ _. apply_literal (u 0) (get_or ls i d) ≡ apply_literal (u 1) (get_or ms i e)) [
        | inl before ↦ h i d e before
        | inr behind ↦
            let here : k ≡ i = omega arith in
            let P : ℕ → Type 0 = λ z. apply_literal (u 0) (get_or ls z d) ≡ apply_literal (u 1) (get_or ms z e) in
            subst P here (ap (apply_literal (u 0)) (at_left d) ∙ (same ∙ ap (apply_literal (u 1)) (sym (at_right e))))
      ]

  one_less : (u : Family) → AgreeBelow u ls ms (k + 1) → AgreeBelow u ls ms k × (apply_literal (u 0) l ≡ apply_literal (u 1) m)
  one_less u h =
      (λ i d e lt. h i d e (omega arith), ap (apply_literal (u 0)) (sym (at_left l)) ∙ (h k l m (omega arith) ∙ ap (apply_literal (u 1)) (at_right m)))

  pub matched_more : (old new : List Equation) → MatchedSoFar ls ms k old → ((u : Family) × SolvesWith u old l m) → ((u : Family) → SolvesAll u new ↔ SolvesWith u old l m) → MatchedSoFar ls ms (k + 1) new
  matched_more old new so_far here step = record {
    solvable = (here.0, (step here.0).1 here.1);
    agree = λ u. (
      λ h. let parts = (step u).0 h in one_more u ((so_far.agree u).0 parts.0) parts.1,
      λ h. let parts = one_less u h in (step u).1 ((so_far.agree u).1 parts.0, parts.1),
    );
  }

-- ---- all places

all_agree : (u : Family) (ls ms : List Literal) → length ls ≡ length ms → AgreeBelow u ls ms (length ls) → map (apply_literal (u 0)) ls ≡ map (apply_literal (u 1)) ms
all_agree u [] [] long h = refl
all_agree u [] (m ∷ ms) long h = absurd (omega arith)
all_agree u (l ∷ ls) [] long h = absurd (omega arith)
all_agree u (l ∷ ls) (m ∷ ms) long h =
    λ i. h 0 l m (omega arith) i ∷ all_agree u ls ms (omega arith) (λ j d e lt. h (suc j) d e (omega arith)) i

agree_all : (u : Family) (ls ms : List Literal) → map (apply_literal (u 0)) ls ≡ map (apply_literal (u 1)) ms → AgreeBelow u ls ms (length ls)
agree_all u [] ms h i d e lt = absurd (omega arith)
agree_all u (l ∷ ls) [] h i d e lt = cc
agree_all u (l ∷ ls) (m ∷ ms) h zero d e lt = cc
agree_all u (l ∷ ls) (m ∷ ms) h (suc i) d e lt =
    let rest : map (apply_literal (u 0)) ls ≡ map (apply_literal (u 1)) ms = cc in
    agree_all u ls ms rest i d e (omega arith)

pub matched_all : (ls ms : List Literal) (equations : List Equation) → length ls ≡ length ms → MatchedSoFar ls ms (length ls) equations → IsMatched ls ms
matched_all ls ms equations long so_far =
    let u = so_far.solvable.0 in (u, all_agree u ls ms long ((so_far.agree u).0 so_far.solvable.1))

pub matched_long : (ls ms : List Literal) → IsMatched ls ms → length ls ≡ length ms
matched_long ls ms h =
    sym (length-map ls (apply_literal (h.0 0))) ∙ (ap length h.1 ∙ length-map ms (apply_literal (h.0 1)))

-- Lists that match do so at each place.
pub matched_there : (ls ms : List Literal) (k : ℕ) (l m : Literal) (old : List Equation) → k < length ls → length ls ≡ length ms → l ≡ get_or ls k l → m ≡ get_or ms k m
    → MatchedSoFar ls ms k old → IsMatched ls ms → (u : Family) × SolvesWith u old l m
matched_there ls ms k l m old within long at at' so_far h =
    let all = agree_all h.0 ls ms h.1 in
    let parts = one_less ls ms k l m within long at at' h.0 (λ i d e lt. all i d e (omega arith)) in
    (h.0, ((so_far.agree h.0).1 parts.0, parts.1))
