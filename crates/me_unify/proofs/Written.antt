-- Each family has its terms for the nodes, and they are the only ones.
use Rattle.std.proofs.Common.{◌≡◌, ℕ, zero, suc, ◌+◌, ◌<◌, ◌≤◌, List, length, get_or, Some, slice_get, Vec, Global, ap, sym, ◌∙◌, arith}
use Rattle.std.proofs.lemmas.Option.{slice_get-get_or}
use Rattle.me_terms.specs.Terms as tree
use Rattle.me_terms.specs.Substitutions.{Family}
use Rattle.me_unify.specs.declared.links.Links.{Links}
use Rattle.me_unify.specs.declared.node.Node.{Node}
use Rattle.me_unify.specs.declared.node.Node.TheVariants.{Var, App}
use Rattle.me_unify.specs.Linked.{Colouring, IsColoured, IsTermOf, Respects, AreNodes}
use Rattle.me_unify.specs.Ordered.{of_node, written_out, colour}
use Rattle.me_unify.specs.Nodes.{IsArena, KeepsNodes}
use Rattle.me_unify.proofs.Solved.{of_node_same, colours_same}
use Rattle.me_unify.proofs.Made.{fits_less}

written_stable : (nodes : List Node) (t : Family) → AreNodes nodes → (k j x : ℕ) → x < k → x < j → written_out nodes t k x ≡ written_out nodes t j x
written_stable nodes t fit zero j x a b = absurd (omega arith)
written_stable nodes t fit (suc k) zero x a b = absurd (omega arith)
written_stable nodes t fit (suc k) (suc j) x a b = of_node_same t (written_out nodes t k) (written_out nodes t j) (slice_get nodes x)
    (λ f args e i lt. let low : get_or args.items i 0 < x = fit x (App f args) e i lt in written_stable nodes t fit k j (get_or args.items i 0) (omega arith) (omega arith))

made : (nodes : List Node) (t : Family) → AreNodes nodes → (x : ℕ) (v : Node) → slice_get nodes x ≡ Some v → IsTermOf t (colour nodes t) x v
made nodes t fit x (Var s v) at = ap (of_node t (written_out nodes t x)) at
made nodes t fit x (App f args) at =
    ap (of_node t (written_out nodes t x)) at
    ∙ ap (tree.App f) (colours_same (written_out nodes t x) (colour nodes t) args.items
    (λ i lt. let low : get_or args.items i 0 < x = fit x (App f args) at i lt in written_stable nodes t fit x (suc (get_or args.items i 0)) (get_or args.items i 0) low (omega arith)))

pub colour_fits : (nodes : List Node) (t : Family) → AreNodes nodes → IsColoured nodes t (colour nodes t)
colour_fits nodes t fit x v at = made nodes t fit x v at

made_same : (t : Family) (h g : Colouring) (x : ℕ) (n : Node) → IsTermOf t h x n → IsTermOf t g x n
    → ((f : ℕ) (args : Vec ℕ Global) → n ≡ App f args → (i : ℕ) → i < length args.items → h (get_or args.items i 0) ≡ g (get_or args.items i 0)) → h x ≡ g x
made_same t h g x (Var s v) p q each = p ∙ sym q
made_same t h g x (App f args) p q each = p ∙ (ap (tree.App f) (colours_same h g args.items (each f args Rattle.std.proofs.Common.refl)) ∙ sym q)

same_below : (nodes : List Node) (t : Family) (h g : Colouring) → AreNodes nodes → IsColoured nodes t h → IsColoured nodes t g → (k x : ℕ) → x < k → x < length nodes → h x ≡ g x
same_below nodes t h g fit p q zero x lt w = absurd (omega arith)
same_below nodes t h g fit p q (suc k) x lt w =
    let v : Node = get_or nodes x (Var 0 0) in
    let is : slice_get nodes x ≡ Some (get_or nodes x (Var 0 0)) = slice_get-get_or nodes x (Var 0 0) w in
    made_same t h g x v (p x v is) (q x v is) (λ f args e i b.
    let low : get_or args.items i 0 < x = fit x (App f args) (is ∙ ap Some e) i b in
    same_below nodes t h g fit p q k (get_or args.items i 0) (omega arith) (omega arith))

pub same_terms : (nodes : List Node) (t : Family) (h g : Colouring) → AreNodes nodes → IsColoured nodes t h → IsColoured nodes t g → (x : ℕ) → x < length nodes → h x ≡ g x
same_terms nodes t h g fit p q x w = same_below nodes t h g fit p q (suc x) x (omega arith) w

-- what stood, has the terms that it had
pub colour_grown : (old new : List Node) (t : Family) → AreNodes old → AreNodes new → KeepsNodes old new → (x : ℕ) → x < length old → colour new t x ≡ colour old t x
colour_grown old new t p q g x w =
    same_terms old t (colour new t) (colour old t) p (fits_less old new t (colour new t) g (colour_fits new t q)) (colour_fits old t p) x w

-- a solution of the old links, with the terms of more nodes
pub extended : (old new : List Node) (l : Links) (t : Family) (h : Colouring) → IsArena old l → AreNodes new → KeepsNodes old new → IsColoured old t h → Respects l h → Respects l (colour new t)
extended old new l t h a fit g p r k lt =
    let same : (x : ℕ) → x < length old → colour new t x ≡ h x = λ x w. same_terms old t (colour new t) h a.fit (fits_less old new t (colour new t) g (colour_fits new t fit)) p x w in
    let from : get_or l.froms.items k 0 < length old = rw a.sized (a.forest.from_within k lt) in
    let to : get_or l.tos.items k 0 < length old = rw a.sized (a.forest.to_within k lt) in
    same (get_or l.froms.items k 0) from ∙ (r k lt ∙ sym (same (get_or l.tos.items k 0) to))
