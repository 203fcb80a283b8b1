-- How the nodes so far keep up with the branch.
use Rattle.std.proofs.Common.{◌≡◌, inl, inr, ℕ, Bool, true, false, not, List, [], ◌∷◌, ◌++◌, Option, refl, sym, ap, subst, ◌∙◌, append_assoc}
use Rattle.ground_solver.specs.ClosingProofs.{LeafAt, BranchOn}
use Rattle.ground_solver.specs.Numbered.{Clauses, IsFalseAt, AreClosing, nodes}
use Rattle.ground_solver.specs.Standings.{IsReasonFor, IsRefutedAt}
use Rattle.ground_solver.specs.Underway.{path_of, AreBefore, IsClosedHere, AreFixed}
use Rattle.ground_solver.specs.declared.signed.Signed.{Signed}
use Rattle.ground_solver.specs.declared.signed.Step.{Step}
use Rattle.ground_solver.specs.declared.signed.Step.TheVariants.{Branch, Leaf}
use Rattle.ground_solver.specs.declared.search.Fixed.{Fixed}
use Rattle.ground_solver.specs.declared.search.Fixed.TheVariants.{Tried, Forced, Refuted}

-- a clause whose literals are false in the values closes the branch
pub leaf_closes : (clauses : Clauses) (branch : List Fixed) (steps : List Step) (values : List (Option Bool)) (n : ℕ) → AreBefore clauses branch steps → AreFixed values (path_of branch) → IsRefutedAt clauses values n → IsClosedHere clauses branch (steps ++ Leaf n ∷ [])
leaf_closes clauses branch steps values n before fixed refuted =
    (steps, LeafAt n, before, (refuted.0, refuted.1, λ k d below. fixed _ _ (refuted.2 k d below)), refl)

pub turn_back : (clauses : Clauses) (rest : List Fixed) (steps : List Step) (a from : ℕ) → IsClosedHere clauses (Tried a from ∷ rest) steps → AreBefore clauses (Refuted a ∷ rest) steps
turn_back clauses rest steps a from (before, tree, (earlier, so_far, here), closes, e) =
    (earlier, tree, so_far, closes, e ∙ ap (λ (xs : List Step). xs ++ nodes tree) here)

pub close_forced : (clauses : Clauses) (rest : List Fixed) (steps : List Step) (a by : ℕ) → IsClosedHere clauses (Forced a by ∷ rest) steps → IsClosedHere clauses rest (steps ++ Leaf by ∷ [])
close_forced clauses rest steps a by (before, tree, (earlier, so_far, here, false_here), closes, e) =
    let shown : steps ++ Leaf by ∷ [] ≡ earlier ++ (Branch a ∷ nodes tree ++ Leaf by ∷ []) =
    ap (λ (xs : List Step). xs ++ Leaf by ∷ []) (e ∙ ap (λ (xs : List Step). xs ++ nodes tree) here) ∙ simp append_assoc in
    (earlier, BranchOn a tree (LeafAt by), so_far, (closes, false_here), shown)

pub close_refuted : (clauses : Clauses) (rest : List Fixed) (steps : List Step) (a : ℕ) → IsClosedHere clauses (Refuted a ∷ rest) steps → IsClosedHere clauses rest steps
close_refuted clauses rest steps a (before, tree, (earlier, first, so_far, first_closes, here), closes, e) =
    let shown : steps ≡ earlier ++ (Branch a ∷ nodes first ++ nodes tree) = e ∙ (ap (λ (xs : List Step). xs ++ nodes tree) here ∙ simp append_assoc) in
    (earlier, BranchOn a first tree, so_far, (first_closes, closes), shown)

pub all_closed : (clauses : Clauses) (steps : List Step) → IsClosedHere clauses [] steps → AreClosing clauses steps
all_closed clauses steps (before, tree, none, closes, e) = (tree, sym (e ∙ ap (λ (xs : List Step). xs ++ nodes tree) none), closes)

-- the reason of a forced literal is false in the other case
reason_false : (clauses : Clauses) (values : List (Option Bool)) (path : List (ℕ × Bool)) (l : Signed) (n : ℕ) → AreFixed values path → IsReasonFor clauses values l n → IsFalseAt clauses ((l.atom, not l.positive) ∷ path) n
reason_false clauses values path l n fixed (clause, at, others) = (
  clause,
  at,
  λ k d below. elim (others k d below) [
    | inl same ↦ inl (ap (λ (m : Signed). m.atom) (sym same), ap (λ (m : Signed). not m.positive) (sym same))
    | inr is_false ↦ inr (fixed _ _ is_false)
  ],
)

pub try_next : (clauses : Clauses) (branch : List Fixed) (steps : List Step) (a from : ℕ) → AreBefore clauses branch steps → AreBefore clauses (Tried a from ∷ branch) (steps ++ Branch a ∷ [])
try_next clauses branch steps a from before = (steps, before, refl)

pub force_true : (clauses : Clauses) (values : List (Option Bool)) (branch : List Fixed) (steps : List Step) (l : Signed) (by : ℕ) → l.positive ≡ true → AreFixed values (path_of branch) → IsReasonFor clauses values l by → AreBefore clauses branch steps → AreBefore clauses (Forced l.atom by ∷ branch) (steps ++ Branch l.atom ∷ [])
force_true clauses values branch steps l by positive fixed reason before =
    let wrong : IsFalseAt clauses ((l.atom, false) ∷ path_of branch) by =
    subst (λ (b : Bool). IsFalseAt clauses ((l.atom, not b) ∷ path_of branch) by) positive (reason_false clauses values (path_of branch) l by fixed reason) in
    (steps, before, refl, wrong)

pub force_false : (clauses : Clauses) (values : List (Option Bool)) (branch : List Fixed) (steps : List Step) (l : Signed) (by : ℕ) → l.positive ≡ false → AreFixed values (path_of branch) → IsReasonFor clauses values l by → AreBefore clauses branch steps → AreBefore clauses (Refuted l.atom ∷ branch) ((steps ++ Branch l.atom ∷ []) ++ Leaf by ∷ [])
force_false clauses values branch steps l by negative fixed reason before =
    let wrong : IsFalseAt clauses ((l.atom, true) ∷ path_of branch) by =
    subst (λ (b : Bool). IsFalseAt clauses ((l.atom, not b) ∷ path_of branch) by) negative (reason_false clauses values (path_of branch) l by fixed reason) in
    (steps, LeafAt by, before, wrong, refl)
