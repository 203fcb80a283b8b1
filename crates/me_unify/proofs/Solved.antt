-- Ordered nodes whose links are closed have a most general solution.
use Rattle.std.proofs.Common.{◌≡◌, ℕ, zero, suc, ◌+◌, ◌<◌, ◌≤◌, ◌≢◌, List, [], ◌∷◌, length, get_or, Option, Some, None, slice_get, Vec, Global, false, eqb, refl, ap, sym, ◌∙◌, arith, inl, inr}
use Rattle.std.specs.Prelude.{if◌then◌else◌}
use Rattle.std.proofs.lemmas.Bool.{cases_eq}
use Rattle.std.proofs.lemmas.Option.{slice_get-get_or}
use Rattle.me_terms.specs.Terms as tree
use Rattle.me_terms.specs.Terms.{TermValue, Arguments, Nil, Cons, arguments_of}
use Rattle.me_terms.specs.Substitutions.{Substitution, Family, apply_term, apply_arguments}
use Rattle.me_unify.specs.declared.links.Links.{Links}
use Rattle.me_unify.specs.declared.node.Node.{Node}
use Rattle.me_unify.specs.declared.node.Node.TheVariants.{Var, App}
use Rattle.me_unify.specs.Linked.{NONE, IsForest, Colouring, Respects, ArgumentsAreAlike, coloured, IsColoured, IsTermOf}
use Rattle.me_unify.specs.Ordered.{of_node, solved, IsSettled}
use Rattle.std.proofs.lemmas.Grind.{common_steps}
use Rattle.me_unify.proofs.Steps.{coloured_same}

-- ---- one step of a solution
eqb_not : (p q : ℕ) → p ≢ q → eqb p q ≡ false
eqb_not p q ne = grind (arith, common_steps)

linked_if : (p : ℕ) (a b : TermValue) → p ≢ NONE → (if (eqb p NONE) then a else b) ≡ b
linked_if p a b ne = rw (eqb_not p NONE ne) refl

free_if : (p : ℕ) (a b : TermValue) → p ≡ NONE → (if (eqb p NONE) then a else b) ≡ a
free_if p a b e = rw e refl

pub solved_linked : (nodes : List Node) (l : Links) (n : Family) (k x : ℕ) → get_or l.place.items x 0 ≢ NONE
    → solved nodes l n (suc k) x ≡ solved nodes l n k (get_or l.tos.items (get_or l.place.items x 0) 0)
solved_linked nodes l n k x ne = linked_if _ _ _ ne

pub solved_free : (nodes : List Node) (l : Links) (n : Family) (k x : ℕ) → get_or l.place.items x 0 ≡ NONE
    → solved nodes l n (suc k) x ≡ of_node n (solved nodes l n k) (slice_get nodes x)
solved_free nodes l n k x e = free_if _ _ _ e

-- ---- depth does not matter behind the node's place
pub colours_same : (g h : Colouring) (xs : List ℕ) → ((i : ℕ) → i < length xs → g (get_or xs i 0) ≡ h (get_or xs i 0)) → coloured g xs ≡ coloured h xs
colours_same g h [] e = refl
colours_same g h (x ∷ xs) e =
    let first : g x ≡ h x = e 0 (omega arith) in
    let others = colours_same g h xs (λ i lt. e (suc i) (omega arith)) in
    λ i. Cons (first i) (others i)

pub of_node_same : (n : Family) (g h : Colouring) (o : Option Node)
    → ((f : ℕ) (args : Vec ℕ Global) → o ≡ Some (App f args) → (i : ℕ) → i < length args.items → g (get_or args.items i 0) ≡ h (get_or args.items i 0))
    → of_node n g o ≡ of_node n h o
of_node_same n g h None e = refl
of_node_same n g h (Some (Var s v)) e = refl
of_node_same n g h (Some (App f args)) e = ap (tree.App f) (colours_same g h args.items (e f args refl))

-- a linked node stands before the end
before_end : (l : Links) (x : ℕ) → IsForest l → x < length l.place.items → get_or l.place.items x 0 ≢ NONE → get_or l.place.items x 0 < NONE
before_end l x r within ne = let q = r.linked x within ne in omega (arith, q.stands, r.total, r.small)

pub stable : (nodes : List Node) (l : Links) (rank : ℕ → ℕ) (limit : ℕ) (n : Family) → IsSettled nodes l rank limit
    → (k x : ℕ) → x < length nodes → rank x < k → solved nodes l n (suc k) x ≡ solved nodes l n k x
stable nodes l rank limit n o zero x within lt = absurd (omega arith)
stable nodes l rank limit n o (suc k) x within lt =
    elim (cases_eq (get_or l.place.items x 0) NONE) [
      | inl e ↦
          (let same = of_node_same n (solved nodes l n (suc k)) (solved nodes l n k) (slice_get nodes x)
          (λ f args at i b. let q = o.apps x within e f args at i b in let a : get_or args.items i 0 < x = o.fit x (App f args) at i b in stable nodes l rank limit n o k (get_or args.items i 0) (omega arith) (omega arith)) in
          solved_free nodes l n (suc k) x e ∙ (same ∙ sym (solved_free nodes l n k x e)))
      | inr ne ↦
          (let q = o.linked x within ne in
          let w : x < length l.place.items = omega (arith, o.sized) in
          let r = o.forest.linked x w ne in
          let to : get_or l.tos.items (get_or l.place.items x 0) 0 < length nodes = rw o.sized (o.forest.to_within (get_or l.place.items x 0) r.stands) in
          solved_linked nodes l n (suc k) x ne ∙ (stable nodes l rank limit n o k (get_or l.tos.items (get_or l.place.items x 0) 0) to (omega (arith, q)) ∙ sym (solved_linked nodes l n k x ne)))
    ]

pub settled_linked : (nodes : List Node) (l : Links) (rank : ℕ → ℕ) (limit : ℕ) (n : Family) → IsSettled nodes l rank limit → (x : ℕ) → x < length nodes
    → get_or l.place.items x 0 ≢ NONE → solved nodes l n limit x ≡ solved nodes l n limit (get_or l.tos.items (get_or l.place.items x 0) 0)
settled_linked nodes l rank limit n o x within ne =
    sym (stable nodes l rank limit n o limit x within (o.below x within)) ∙ solved_linked nodes l n limit x ne

pub settled_free : (nodes : List Node) (l : Links) (rank : ℕ → ℕ) (limit : ℕ) (n : Family) → IsSettled nodes l rank limit → (x : ℕ) → x < length nodes
    → get_or l.place.items x 0 ≡ NONE → solved nodes l n limit x ≡ of_node n (solved nodes l n limit) (slice_get nodes x)
settled_free nodes l rank limit n o x within e =
    sym (stable nodes l rank limit n o limit x within (o.below x within)) ∙ solved_free nodes l n limit x e

-- ---- it is a solution
pub settled_respects : (nodes : List Node) (l : Links) (rank : ℕ → ℕ) (limit : ℕ) (n : Family) → IsSettled nodes l rank limit → Respects l (solved nodes l n limit)
settled_respects nodes l rank limit n o k lt =
    let w : get_or l.froms.items k 0 < length nodes = rw o.sized (o.forest.from_within k lt) in
    let b : get_or l.place.items (get_or l.froms.items k 0) 0 ≡ k = o.forest.back k lt in
    let ne : get_or l.place.items (get_or l.froms.items k 0) 0 ≢ NONE = λ e. let z : k ≡ NONE = sym b ∙ e in omega (arith, z, o.forest.total, o.forest.small) in
    settled_linked nodes l rank limit n o (get_or l.froms.items k 0) w ne ∙ ap (λ z. solved nodes l n limit (get_or l.tos.items z 0)) b

joined_down : (l : Links) (h : Colouring) (f : ℕ) (args : Vec ℕ Global) (q : Node) (x p : ℕ) → Respects l h → ArgumentsAreAlike l (App f args) q → h x ≡ h p
    → ((g : ℕ) (others : Vec ℕ Global) → q ≡ App g others → h p ≡ tree.App g (coloured h others.items)) → h x ≡ tree.App f (coloured h args.items)
joined_down l h f args (Var s v) x p r closed e down = absurd closed
joined_down l h f args (App g others) x p r closed e down =
    let same : coloured h args.items ≡ coloured h others.items = coloured_same h args.items others.items closed.lengths (λ i lt. closed.each i lt h r) in
    e ∙ (down g others refl ∙ sym (let whole : tree.App f (coloured h args.items) ≡ tree.App g (coloured h others.items) = λ i. tree.App (closed.symbol i) (same i) in whole))

settled_app_linked : (nodes : List Node) (l : Links) (rank : ℕ → ℕ) (limit : ℕ) (n : Family) → IsSettled nodes l rank limit → (x : ℕ) → x < length nodes
    → get_or l.place.items x 0 ≢ NONE → (f : ℕ) (args : Vec ℕ Global) → slice_get nodes x ≡ Some (App f args)
    → ((p : ℕ) → p < length nodes → get_or l.place.items x 0 < get_or l.place.items p 0 → (g : ℕ) (others : Vec ℕ Global) → slice_get nodes p ≡ Some (App g others)
    → solved nodes l n limit p ≡ tree.App g (coloured (solved nodes l n limit) others.items))
    → solved nodes l n limit x ≡ tree.App f (coloured (solved nodes l n limit) args.items)
settled_app_linked nodes l rank limit n o x within ne f args at down =
    let w : x < length l.place.items = omega (arith, o.sized) in
    let r = o.forest.linked x w ne in
    let k = get_or l.place.items x 0 in
    let to : get_or l.tos.items (get_or l.place.items x 0) 0 < length nodes = rw o.sized (o.forest.to_within (get_or l.place.items x 0) r.stands) in
    let q : Node = get_or nodes (get_or l.tos.items (get_or l.place.items x 0) 0) (Var 0 0) in
    let is : slice_get nodes (get_or l.tos.items (get_or l.place.items x 0) 0) ≡ Some (get_or nodes (get_or l.tos.items (get_or l.place.items x 0) 0) (Var 0 0)) = slice_get-get_or nodes (get_or l.tos.items (get_or l.place.items x 0) 0) (Var 0 0) to in
    let from : slice_get nodes (get_or l.froms.items (get_or l.place.items x 0) 0) ≡ Some (App f args) = rw r.from at in
    joined_down l (solved nodes l n limit) f args q x (get_or l.tos.items (get_or l.place.items x 0) 0) (settled_respects nodes l rank limit n o)
    (o.closed (get_or l.place.items x 0) (App f args) q r.stands from is)
    (settled_linked nodes l rank limit n o x within ne)
    (λ g others e. down (get_or l.tos.items (get_or l.place.items x 0) 0) to r.later g others (is ∙ ap Some e))

pub settled_app : (nodes : List Node) (l : Links) (rank : ℕ → ℕ) (limit : ℕ) (n : Family) → IsSettled nodes l rank limit → (d x : ℕ) → x < length nodes
    → NONE ≤ get_or l.place.items x 0 + d → (f : ℕ) (args : Vec ℕ Global) → slice_get nodes x ≡ Some (App f args) → solved nodes l n limit x ≡ tree.App f (coloured (solved nodes l n limit) args.items)
settled_app nodes l rank limit n o zero x within far f args at = elim (cases_eq (get_or l.place.items x 0) NONE) [
  | inl e ↦ settled_free nodes l rank limit n o x within e ∙ ap (λ z. of_node n (solved nodes l n limit) z) at
  | inr ne ↦ (let w : x < length l.place.items = omega (arith, o.sized) in let b = before_end l x o.forest w ne in absurd (omega arith))
]
settled_app nodes l rank limit n o (suc d) x within far f args at = elim (cases_eq (get_or l.place.items x 0) NONE) [
  | inl e ↦ settled_free nodes l rank limit n o x within e ∙ ap (λ z. of_node n (solved nodes l n limit) z) at
  | inr ne ↦ settled_app_linked nodes l rank limit n o x within ne f args at (λ p b later g others is. settled_app nodes l rank limit n o d p b (omega arith) g others is)
]

-- ---- and no other is more general
subst_coloured : (r : Substitution) (g h : Colouring) (xs : List ℕ) → ((i : ℕ) → i < length xs → apply_term r (g (get_or xs i 0)) ≡ h (get_or xs i 0)) → apply_arguments r (coloured g xs) ≡ coloured h xs
subst_coloured r g h [] e = refl
subst_coloured r g h (x ∷ xs) e =
    let first : apply_term r (g x) ≡ h x = e 0 (omega arith) in
    let others = subst_coloured r g h xs (λ i lt. e (suc i) (omega arith)) in
    λ i. Cons (first i) (others i)

subst_node : (r : Substitution) (n : Family) (t : Family) (g h : Colouring) (x : ℕ) (v : Node) → ((s y : ℕ) → apply_term r (n s y) ≡ t s y) → IsTermOf t h x v
    → ((f : ℕ) (args : Vec ℕ Global) → v ≡ App f args → (i : ℕ) → i < length args.items → apply_term r (g (get_or args.items i 0)) ≡ h (get_or args.items i 0))
    → apply_term r (of_node n g (Some v)) ≡ h x
subst_node r n t g h x (Var s y) names made each = names s y ∙ sym made
subst_node r n t g h x (App f args) names made each = ap (tree.App f) (subst_coloured r g h args.items (each f args refl)) ∙ sym made

pub general : (nodes : List Node) (l : Links) (rank : ℕ → ℕ) (limit : ℕ) (n : Family) → IsSettled nodes l rank limit
    → (t : Family) (h : Colouring) (r : Substitution) → IsColoured nodes t h → Respects l h → ((s y : ℕ) → apply_term r (n s y) ≡ t s y)
    → (k x : ℕ) → x < length nodes → rank x < k → apply_term r (solved nodes l n k x) ≡ h x
general nodes l rank limit n o t h r fits same names zero x within lt = absurd (omega arith)
general nodes l rank limit n o t h r fits same names (suc k) x within lt =
    let v : Node = get_or nodes x (Var 0 0) in
    let is : slice_get nodes x ≡ Some (get_or nodes x (Var 0 0)) = slice_get-get_or nodes x (Var 0 0) within in
    elim (cases_eq (get_or l.place.items x 0) NONE) [
      | inl e ↦
          (ap (apply_term r) (solved_free nodes l n k x e ∙ ap (λ z. of_node n (solved nodes l n k) z) is)
          ∙ subst_node r n t (solved nodes l n k) h x v names (fits x v is)
          (λ f args at i b. let there : slice_get nodes x ≡ Some (App f args) = is ∙ ap Some at in
          let q = o.apps x within e f args there i b in
          let a : get_or args.items i 0 < x = o.fit x (App f args) there i b in
          general nodes l rank limit n o t h r fits same names k (get_or args.items i 0) (omega arith) (omega arith)))
      | inr ne ↦
          (let q = o.linked x within ne in
          let w : x < length l.place.items = omega (arith, o.sized) in
          let j = o.forest.linked x w ne in
          let to : get_or l.tos.items (get_or l.place.items x 0) 0 < length nodes = rw o.sized (o.forest.to_within (get_or l.place.items x 0) j.stands) in
          ap (apply_term r) (solved_linked nodes l n k x ne)
          ∙ (general nodes l rank limit n o t h r fits same names k (get_or l.tos.items (get_or l.place.items x 0) 0) to (omega (arith, q))
          ∙ (sym (same (get_or l.place.items x 0) j.stands) ∙ ap h j.from)))
    ]
