-- One node more.
use Rattle.std.proofs.Common.{◌≡◌, ℕ, zero, suc, ◌+◌, ◌<◌, List, [], ◌∷◌, ◌++◌, length, get_or, Some, slice_get, refl, ap, sym, subst, ◌∙◌, arith, inl, inr}
use Rattle.std.specs.Prelude.{◌⊎◌}
use Rattle.std.proofs.lemmas.List.{length_push}
use Rattle.std.proofs.lemmas.Option.{slice_get_within}
use Rattle.me_unify.specs.declared.links.Links.{Links}
use Rattle.me_unify.specs.declared.node.Node.{Node}
use Rattle.me_unify.specs.declared.node.Node.TheVariants.{Var, App}
use Rattle.me_unify.specs.Linked.{IsForest, IsLonger, ArgumentsStandBefore}
use Rattle.me_unify.specs.Nodes.{IsArena, IsFresh, KeepsNodes}
use Rattle.me_unify.proofs.Steps.{closed_longer}

pub push_at : (nodes : List Node) (n : Node) (x : ℕ) (p : Node) → slice_get (nodes ++ n ∷ []) x ≡ Some p → (slice_get nodes x ≡ Some p) ⊎ ((x ≡ length nodes) × (p ≡ n))
push_at [] n zero p e = let q : p ≡ n = cc in inr (refl, q)
push_at [] n (suc x) p e = let z : x < 0 = slice_get_within [] x p e in absurd (omega (arith, z))
push_at (m ∷ nodes) n zero p e = inl e
push_at (m ∷ nodes) n (suc x) p e = elim (push_at nodes n x p e) [ inl q ↦ inl q | inr q ↦ inr (let z : x ≡ length nodes = q.0 in omega arith, q.1) ]

pub grown_push : (nodes : List Node) (n : Node) → KeepsNodes nodes (nodes ++ n ∷ [])
grown_push [] n x p e = let z : x < 0 = slice_get_within [] x p e in absurd (omega (arith, z))
grown_push (m ∷ nodes) n zero p e = e
grown_push (m ∷ nodes) n (suc x) p e = grown_push nodes n x p e

pub last_push : (nodes : List Node) (n : Node) → slice_get (nodes ++ n ∷ []) (length nodes) ≡ Some n
last_push [] n = refl
last_push (m ∷ nodes) n = last_push nodes n

old_at : (nodes : List Node) (n : Node) (x : ℕ) (p : Node) → x < length nodes → slice_get (nodes ++ n ∷ []) x ≡ Some p → slice_get nodes x ≡ Some p
old_at nodes n x p lt e = elim (push_at nodes n x p e) [ inl q ↦ q | inr q ↦ (let z : x ≡ length nodes = q.0 in absurd (omega arith)) ]

fresh_at : (nodes : List Node) (n : Node) (x s v : ℕ) → IsFresh nodes n → Var s v ≡ n → slice_get nodes x ≡ Some (Var s v) → ⊥
fresh_at nodes (Var a b) x s v fresh e at = fresh x (at ∙ ap Some e)
fresh_at nodes (App f args) x s v fresh e at = cc

pub same_links : (l m : Links) → m.froms.items ≡ l.froms.items → m.tos.items ≡ l.tos.items → IsLonger l m
same_links l m fs ts = record {
  longer = let e : length m.froms.items ≡ length l.froms.items = ap length fs in omega arith;
  froms = λ k lt. ap (λ z. get_or z k 0) fs;
  tos = λ k lt. ap (λ z. get_or z k 0) ts;
}

pub arena_same : (nodes : List Node) (l m : Links) → IsArena nodes l → IsForest m → m.place.items ≡ l.place.items → m.froms.items ≡ l.froms.items → m.tos.items ≡ l.tos.items → IsArena nodes m
arena_same nodes l m a forest ps fs ts =
    let more = same_links l m fs ts in
    let lens : length m.froms.items ≡ length l.froms.items = ap length fs in
    record {
      forest = forest;
      sized = a.sized ∙ sym (ap length ps);
      fit = a.fit;
      directed = λ i p q z lt. let b : i < length l.froms.items = omega arith in rw (more.froms i b, more.tos i b) (a.directed i p q z b);
      closed = λ i p q lt. let b : i < length l.froms.items = omega arith in rw (more.froms i b, more.tos i b) (λ e d. closed_longer l m p q more (a.closed i p q b e d));
      single = a.single;
    }

pub arena_push : (nodes : List Node) (n : Node) (l m : Links) → IsArena nodes l → IsForest m → length m.place.items ≡ length l.place.items + 1 → m.froms.items ≡ l.froms.items → m.tos.items ≡ l.tos.items
    → ArgumentsStandBefore (length nodes) n → IsFresh nodes n → IsArena (nodes ++ n ∷ []) m
arena_push nodes n l m a forest len fs ts room fresh =
    let lp = length_push nodes n in
    let more = same_links l m fs ts in
    let lens : length m.froms.items ≡ length l.froms.items = ap length fs in
    let from_in : (k : ℕ) → k < length l.froms.items → get_or l.froms.items k 0 < length nodes = λ k lt. rw a.sized (a.forest.from_within k lt) in
    let to_in : (k : ℕ) → k < length l.froms.items → get_or l.tos.items k 0 < length nodes = λ k lt. rw a.sized (a.forest.to_within k lt) in
    record {
      forest = forest;
      sized = omega (arith, a.sized);
      fit = λ x p at. elim (push_at nodes n x p at) [
        | inl q ↦ a.fit x p q
        | inr q ↦ (let at_end : ArgumentsStandBefore x n = rw q.0 room in let P : Node → Type 0 = λ z. ArgumentsStandBefore x z in subst P (sym q.1) at_end)
      ];
      directed = λ i p q z lt. let b : i < length l.froms.items = omega arith in
          rw (more.froms i b, more.tos i b) (λ e d. a.directed i p q z b (old_at nodes n (get_or l.froms.items i 0) p (from_in i b) e) (old_at nodes n (get_or l.tos.items i 0) q (to_in i b) d));
      closed = λ i p q lt. let b : i < length l.froms.items = omega arith in
          rw (more.froms i b, more.tos i b) (λ e d. closed_longer l m p q more (a.closed i p q b (old_at nodes n (get_or l.froms.items i 0) p (from_in i b) e) (old_at nodes n (get_or l.tos.items i 0) q (to_in i b) d)));
      single = λ x y s v left right. elim (push_at nodes n x (Var s v) left) [
        | inl q ↦ (elim (push_at nodes n y (Var s v) right) [ inl r ↦ a.single x y s v q r | inr r ↦ absurd (fresh_at nodes n x s v fresh r.1 q) ])
        | inr q ↦ (elim (push_at nodes n y (Var s v) right) [ inl r ↦ absurd (fresh_at nodes n y s v fresh q.1 r) | inr r ↦ q.0 ∙ sym r.0 ])
      ];
    }
