-- Settled links have a most general family, over every variable of every space.
use Rattle.std.proofs.Common.{◌≡◌, ℕ, zero, suc, ◌<◌, List, [], ◌∷◌, length, Some, slice_get, refl, ap, ◌∙◌, arith, inl, inr}
use Rattle.std.specs.Prelude.{◌⊎◌}
use Rattle.std.proofs.lemmas.Bool.{cases_eq}
use Rattle.std.proofs.lemmas.Option.{slice_get_within}
use Rattle.me_terms.specs.Terms.{TermValue}
use Rattle.me_terms.specs.Substitutions.{Substitution, Family, apply_term}
use Rattle.me_unify.specs.declared.links.Links.{Links}
use Rattle.me_unify.specs.declared.node.Node.{Node}
use Rattle.me_unify.specs.declared.node.Node.TheVariants.{Var, App}
use Rattle.me_unify.specs.Linked.{NONE, Colouring, Respects, IsColoured, IsTermOf}
use Rattle.me_unify.specs.Nodes.{AreSingle}
use Rattle.me_unify.specs.Ordered.{solved, IsSettled}
use Rattle.me_unify.proofs.Solved.{settled_app, general}

is_var : (n : Node) (s v : ℕ) → (n ≡ Var s v) ⊎ (n ≡ Var s v → ⊥)
is_var (App f args) s v = inr (λ e. let q : App f args ≡ Var s v = e in cc)
is_var (Var a b) s v = elim (cases_eq a s) [
  | inl e ↦ (elim (cases_eq b v) [ inl d ↦ inl (λ i. Var (e i) (d i)) | inr d ↦ inr (λ q. let z : b ≡ v = cc in d z) ])
  | inr e ↦ inr (λ q. let z : a ≡ s = cc in e z)
]

abbrev pub Found : List Node → ℕ → ℕ → Type 0
Found nodes s v = ((x : ℕ) × (slice_get nodes x ≡ Some (Var s v))) ⊎ ((x : ℕ) → slice_get nodes x ≡ Some (Var s v) → ⊥)

not_there : (n : Node) (ns : List Node) (s v : ℕ) → (n ≡ Var s v → ⊥) → ((x : ℕ) → slice_get ns x ≡ Some (Var s v) → ⊥) → (x : ℕ) → slice_get (n ∷ ns) x ≡ Some (Var s v) → ⊥
not_there n ns s v e none zero q = let z : n ≡ Var s v = cc in e z
not_there n ns s v e none (suc x) q = none x q

first_or : (n : Node) (ns : List Node) (s v : ℕ) → ((n ≡ Var s v) ⊎ (n ≡ Var s v → ⊥)) → Found ns s v → Found (n ∷ ns) s v
first_or n ns s v (inl e) rest = inl (0, ap Some e)
first_or n ns s v (inr e) (inl p) = inl (suc p.0, p.1)
first_or n ns s v (inr e) (inr none) = inr (λ x. not_there n ns s v e none x)

pub found : (nodes : List Node) (s v : ℕ) → Found nodes s v
found [] s v = inr (λ x q. let z : x < 0 = slice_get_within [] x (Var s v) q in omega (arith, z))
found (n ∷ ns) s v = first_or n ns s v (is_var n s v) (found ns s v)

pick : (nodes : List Node) (n : Family) (h : Colouring) (s v : ℕ) → Found nodes s v → TermValue
pick nodes n h s v (inl p) = h p.0
pick nodes n h s v (inr none) = n s v

-- The family that the settled links stand for.
pub family_of : List Node → Links → Family → ℕ → Family
family_of nodes l n limit s v = pick nodes n (solved nodes l n limit) s v (found nodes s v)

pick_at : (nodes : List Node) (n : Family) (h : Colouring) (s v x : ℕ) (f : Found nodes s v) → AreSingle nodes → slice_get nodes x ≡ Some (Var s v) → h x ≡ pick nodes n h s v f
unfolding pick
pick_at nodes n h s v x (inl p) single at = ap h (single x p.0 s v at p.1)
pick_at nodes n h s v x (inr none) single at = absurd (none x at)

made_at : (nodes : List Node) (l : Links) (rank : ℕ → ℕ) (limit : ℕ) (n : Family) → IsSettled nodes l rank limit → AreSingle nodes → (x : ℕ) (v : Node) → slice_get nodes x ≡ Some v → IsTermOf (family_of nodes l n limit) (solved nodes l n limit) x v
unfolding family_of
made_at nodes l rank limit n o single x (Var s v) at = pick_at nodes n (solved nodes l n limit) s v x (found nodes s v) single at
made_at nodes l rank limit n o single x (App f args) at = settled_app nodes l rank limit n o NONE x (slice_get_within nodes x (App f args) at) (omega arith) f args at

pick_keeps : (nodes : List Node) (n : Family) (h k : Colouring) (t : Family) (r : Substitution) (s v : ℕ) (f : Found nodes s v) → IsColoured nodes t k → apply_term r (n s v) ≡ t s v
    → ((x : ℕ) → x < length nodes → apply_term r (h x) ≡ k x) → apply_term r (pick nodes n h s v f) ≡ t s v
unfolding pick
pick_keeps nodes n h k t r s v (inl p) fits name keep = keep p.0 (slice_get_within nodes p.0 (Var s v) p.1) ∙ fits p.0 (Var s v) p.1
pick_keeps nodes n h k t r s v (inr none) fits name keep = name

-- The family's own terms, and how any other solution comes of it.
pub settled_fits : (nodes : List Node) (l : Links) (rank : ℕ → ℕ) (limit : ℕ) (n : Family) → IsSettled nodes l rank limit → AreSingle nodes → IsColoured nodes (family_of nodes l n limit) (solved nodes l n limit)
settled_fits nodes l rank limit n o single = made_at nodes l rank limit n o single

pub settled_general : (nodes : List Node) (l : Links) (rank : ℕ → ℕ) (limit : ℕ) (n : Family) → IsSettled nodes l rank limit → (t : Family) (h : Colouring) (r : Substitution) → IsColoured nodes t h → Respects l h
    → ((s y : ℕ) → apply_term r (n s y) ≡ t s y) → (s v : ℕ) → apply_term r (family_of nodes l n limit s v) ≡ t s v
unfolding family_of
settled_general nodes l rank limit n o t h r fits same names s v =
    pick_keeps nodes n (solved nodes l n limit) h t r s v (found nodes s v) fits (names s v) (λ x w. general nodes l rank limit n o t h r fits same names limit x w (o.below x w))

pick_none : (nodes : List Node) (n : Family) (h : Colouring) (s v : ℕ) (f : Found nodes s v) → ((x : ℕ) → slice_get nodes x ≡ Some (Var s v) → ⊥) → pick nodes n h s v f ≡ n s v
unfolding pick
pick_none nodes n h s v (inl p) none = absurd (none p.0 p.1)
pick_none nodes n h s v (inr q) none = refl

-- a variable that has no node keeps its name
pub family_others : (nodes : List Node) (l : Links) (n : Family) (limit s v : ℕ) → ((x : ℕ) → slice_get nodes x ≡ Some (Var s v) → ⊥) → family_of nodes l n limit s v ≡ n s v
unfolding family_of
family_others nodes l n limit s v none = pick_none nodes n (solved nodes l n limit) s v (found nodes s v) none
