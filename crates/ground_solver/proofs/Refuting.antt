-- A closing proof leaves no choice that satisfies the clauses, and a model is such a choice.
use Rattle.std.proofs.Common.{◌≡◌, ◌⊎◌, inl, inr, ℕ, ◌<◌, Bool, true, false, not, List, [], ◌∷◌, length, Some, get_or, refl, sym, ap, subst, ◌∙◌}
use Rattle.std.specs.Prelude.{slice_get}
use Rattle.std.specs.List.{All, Any}
use Rattle.std.proofs.lemmas.Option.{slice_get_cases}
use Rattle.me_terms.specs.Terms.{AtomValue}
use Rattle.me_terms.specs.Refuted.{Valuation, IsFalseUnder}
use Rattle.me_terms.specs.declared.atom.Literal.{Literal}
use Rattle.ground_solver.specs.Assignments.{IsUnsatisfiable, Satisfies, IsModel}
use Rattle.ground_solver.specs.ClosingProofs.{Cases, LeafAt, BranchOn, Fixes, Closes, IsClosingProof}
use Rattle.ground_solver.specs.declared.decision.Split.{Split}

-- an item that a list has at a place
pub got_at : {X : Type 0} (xs : List X) (n : ℕ) (x : X) → slice_get xs n ≡ Some x → (n < length xs) × (get_or xs n x ≡ x)
got_at {X} xs n x e =
    elim ((slice_get_cases xs n).1) [
      | inl y ↦
          let same : Some y.0 ≡ Some x = sym (y.2) ∙ e in
          let value : y.0 ≡ x = cc in
          (y.1, subst (λ (z : X). get_or xs n z ≡ z) value (y.3))
      | inr past ↦ absurd cc
    ]

-- the choice gives each atom the value that the path fixes
abbrev Agrees : Valuation → List (AtomValue × Bool) → Type 0
Agrees value path = (a : AtomValue) (b : Bool) → Fixes path a b → value a ≡ b

agrees_more : (value : Valuation) (path : List (AtomValue × Bool)) (a : AtomValue) (b : Bool) → Agrees value path → value a ≡ b → Agrees value ((a, b) ∷ path)
agrees_more value path a b agrees is c d fixed = elim fixed [ inl p ↦ ap value (sym (p.0)) ∙ (is ∙ p.1) | inr later ↦ agrees c d later ]

bool_cases : (b : Bool) → (b ≡ true) ⊎ (b ≡ false)
bool_cases true = inl refl
bool_cases false = inr refl

closed_false : (clauses : List (List Literal)) (value : Valuation) (path : List (AtomValue × Bool)) (tree : Cases AtomValue) → Closes clauses path tree → Agrees value path → Any (λ clause. All (IsFalseUnder value) clause) clauses
closed_false clauses value path (LeafAt n) closes agrees =
    let at = got_at clauses n (closes.0) (closes.1) in
    (n, closes.0, at.0, at.1, λ k d below. agrees _ _ (closes.2 k d below))
closed_false clauses value path (BranchOn a t f) closes agrees =
    elim (bool_cases (value a)) [
      | inl is ↦ closed_false clauses value ((a, true) ∷ path) t (closes.0) (agrees_more value path a true agrees is)
      | inr is ↦ closed_false clauses value ((a, false) ∷ path) f (closes.1) (agrees_more value path a false agrees is)
    ]

pub closing_refutes : (clauses : List (List Literal)) (proof : List Split) → IsClosingProof clauses proof → IsUnsatisfiable clauses
closing_refutes clauses proof closing = λ value. closed_false clauses value [] (closing.0) (closing.2) (λ a b none. absurd none)

not_both : (b : Bool) → b ≡ not b → ⊥
not_both true e = cc
not_both false e = cc

pub satisfied_not_refuted : (clauses : List (List Literal)) (value : Valuation) → Satisfies value clauses → IsUnsatisfiable clauses → ⊥
satisfied_not_refuted clauses value satisfied refuted =
    let bad = refuted value in
    let k = bad.0 in
    let clause = bad.1 in
    let good : Any (λ (l : Literal). value l.atom ≡ l.positive) clause = subst (λ (c : List Literal). Any (λ (l : Literal). value l.atom ≡ l.positive) c) (bad.3) (satisfied k clause (bad.2)) in
    let l = good.1 in
    let wrong : value l.atom ≡ not l.positive = subst (λ (m : Literal). value m.atom ≡ not m.positive) (good.3) (bad.4 (good.0) l (good.2)) in
    not_both l.positive (sym (good.4) ∙ wrong)

pub model_not_refuted : (clauses : List (List Literal)) (trues : List AtomValue) → IsModel clauses trues → IsUnsatisfiable clauses → ⊥
model_not_refuted clauses trues model refuted = satisfied_not_refuted clauses (model.0) (model.2) refuted
