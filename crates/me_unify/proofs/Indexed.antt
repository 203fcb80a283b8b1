-- The look-up of the nodes of variables, as nodes come and go.
use Rattle.std.proofs.Common.{◌≡◌, ◌↔◌, ℕ, suc, ◌-◌, ◌<◌, Bool, true, false, List, [], ◌∷◌, ◌++◌, length, take, slice_get, Option, Some, None, refl, ap, sym, subst, ◌∙◌, arith, inl, inr}
use Rattle.std.specs.Prelude.{IfSome, if◌then◌else◌}
use Rattle.std.proofs.lemmas.Bool.{eqb-true, eq-eqb, and_parts, and_from}
use Rattle.std.proofs.lemmas.List.{length_push}
use Rattle.std.proofs.lemmas.Option.{slice_get_within}
use Rattle.me_unify.specs.declared.node.Node.{Node}
use Rattle.me_unify.specs.declared.node.Node.TheVariants.{Var, App}
use Rattle.me_unify.specs.Nodes.{IsFresh}
use Rattle.me_unify.specs.Indexed.{is_one, Lookup, IsIndexed, IsNodeNoted, IsForgotten}
use Rattle.me_unify.proofs.MoreNodes.{push_at, grown_push, last_push}

one_itself : (v : ℕ × ℕ) → is_one v v ≡ true
one_itself v = and_from _ _ (eq-eqb v.0 v.0 refl) (eq-eqb v.1 v.1 refl)

one_same : (a b s v : ℕ) → is_one (a, b) (s, v) ≡ true → Var a b ≡ Var s v
one_same a b s v e =
    let both = and_parts _ _ e in
    let first : a ≡ s = eqb-true a s both.0 in
    let second : b ≡ v = eqb-true b v both.1 in
    λ i. Var (first i) (second i)

one_of : (a b s v : ℕ) → Var s v ≡ Var a b → is_one (a, b) (s, v) ≡ true
one_of a b s v e =
    let first : a ≡ s = cc in
    let second : b ≡ v = cc in
    and_from _ _ (eq-eqb a s first) (eq-eqb b v second)

pub none_indexed : (nodes : List Node) (found : Lookup) → nodes ≡ [] → ((v : ℕ × ℕ) → found v ≡ None) → IsIndexed nodes found
none_indexed nodes found e none s v x = (
  λ f. let z : None ≡ Some x = sym (none (s, v)) ∙ f in cc,
  λ at. let z : x < 0 = slice_get_within [] x (Var s v) (ap (λ p. slice_get p x) (sym e) ∙ at) in absurd (omega (arith, z)),
)

-- ---- a node more
push_by : (nodes : List Node) (a b s v x : ℕ) (old new : Lookup) (test : Bool) → IsIndexed nodes old → IsFresh nodes (Var a b) → is_one (a, b) (s, v) ≡ test
    → new (s, v) ≡ (if test then Some (length nodes) else old (s, v)) → (new (s, v) ≡ Some x) ↔ (slice_get (nodes ++ Var a b ∷ []) x ≡ Some (Var s v))
push_by nodes a b s v x old new true q fresh t e = (
  λ f.
      let place : length nodes ≡ x = cc in
      let P : ℕ → Type 0 = λ z. slice_get (nodes ++ Var a b ∷ []) z ≡ Some (Var s v) in
      subst P place (last_push nodes (Var a b) ∙ ap Some (one_same a b s v t)),
  λ at. elim (push_at nodes (Var a b) x (Var s v) at) [
    | inl there ↦ absurd (fresh x (there ∙ ap Some (sym (one_same a b s v t))))
    | inr last ↦ e ∙ ap Some (sym last.0)
  ],
)
push_by nodes a b s v x old new false q fresh t e = (
  λ f. grown_push nodes (Var a b) x (Var s v) ((q s v x).0 (sym e ∙ f)),
  λ at. elim (push_at nodes (Var a b) x (Var s v) at) [
    | inl there ↦ e ∙ (q s v x).1 there
    | inr last ↦ (let z : true ≡ false = sym (one_of a b s v last.1) ∙ t in cc)
  ],
)

pub push_indexed : (nodes : List Node) (n : Node) (x : ℕ) (old new : Lookup) → IsIndexed nodes old → IsFresh nodes n → x ≡ length nodes → IsNodeNoted n x old new → IsIndexed (nodes ++ n ∷ []) new
push_indexed nodes (Var a b) y old new q fresh is noted s v x =
    push_by nodes a b s v x old new (is_one (a, b) (s, v)) q fresh refl (noted (s, v) ∙ ap (λ z. if (is_one (a, b) (s, v)) then Some z else old (s, v)) is)
push_indexed nodes (App f args) y old new q fresh is same s v x = (
  λ at. grown_push nodes (App f args) x (Var s v) ((q s v x).0 (sym (same (s, v)) ∙ at)),
  λ at. elim (push_at nodes (App f args) x (Var s v) at) [
    | inl there ↦ same (s, v) ∙ (q s v x).1 there
    | inr last ↦ (let z : Var s v ≡ App f args = last.1 in cc)
  ],
)

pub same_indexed : (nodes same : List Node) (old new : Lookup) → same ≡ nodes → IsIndexed nodes old → ((v : ℕ × ℕ) → new v ≡ old v) → IsIndexed same new
same_indexed nodes same old new is q e s v x = (
  λ f. ap (λ p. slice_get p x) is ∙ (q s v x).0 (sym (e (s, v)) ∙ f),
  λ at. e (s, v) ∙ (q s v x).1 (ap (λ p. slice_get p x) (sym is) ∙ at),
)

-- ---- a node less
pop_by : (nodes : List Node) (a b s v x : ℕ) (old new : Lookup) (test : Bool) → IsIndexed (nodes ++ Var a b ∷ []) old → is_one (a, b) (s, v) ≡ test
    → new (s, v) ≡ (if test then None else old (s, v)) → (new (s, v) ≡ Some x) ↔ (slice_get nodes x ≡ Some (Var s v))
pop_by nodes a b s v x old new true q t e = (
  λ f. cc,
  λ at.
      let here = (q s v x).1 (grown_push nodes (Var a b) x (Var s v) at) in
      let last = (q s v (length nodes)).1 (last_push nodes (Var a b) ∙ ap Some (one_same a b s v t)) in
      let same : x ≡ length nodes = cc in
      let within = slice_get_within nodes x (Var s v) at in
      absurd (omega (arith, same, within)),
)
pop_by nodes a b s v x old new false q t e = (
  λ f. elim (push_at nodes (Var a b) x (Var s v) ((q s v x).0 (sym e ∙ f))) [
    | inl there ↦ there
    | inr last ↦ (let z : true ≡ false = sym (one_of a b s v last.1) ∙ t in cc)
  ],
  λ at. e ∙ (q s v x).1 (grown_push nodes (Var a b) x (Var s v) at),
)

pub pop_indexed : (whole nodes : List Node) (n : Node) (old new : Lookup) → whole ≡ nodes ++ n ∷ [] → IsIndexed whole old → IsForgotten n old new → IsIndexed nodes new
pop_indexed whole nodes (Var a b) old new is q forgotten s v x =
    let P : List Node → Type 0 = λ z. IsIndexed z old in
    pop_by nodes a b s v x old new (is_one (a, b) (s, v)) (subst P is q) refl (forgotten (s, v))
pop_indexed whole nodes (App f args) old new is q same s v x =
    let P : List Node → Type 0 = λ z. IsIndexed z old in
    let r = subst P is q in (
      λ at. elim (push_at nodes (App f args) x (Var s v) ((r s v x).0 (sym (same (s, v)) ∙ at))) [
        | inl there ↦ there
        | inr last ↦ (let z : Var s v ≡ App f args = last.1 in cc)
      ],
      λ at. same (s, v) ∙ (r s v x).1 (grown_push nodes (App f args) x (Var s v) at),
    )

-- ---- what is found
pub found_some : (nodes : List Node) (found : Lookup) (s v : ℕ) (r : Option ℕ) → IsIndexed nodes found → r ≡ found (s, v) → IfSome r (λ x. slice_get nodes x ≡ Some (Var s v))
found_some nodes found s v None q e = tt
found_some nodes found s v (Some x) q e = (q s v x).0 (sym e)

pub found_none : (nodes : List Node) (found : Lookup) (s v : ℕ) (r : Option ℕ) → IsIndexed nodes found → r ≡ found (s, v) → r ≡ None → IsFresh nodes (Var s v)
found_none nodes found s v r q e none x at = let z : Some x ≡ None = sym ((q s v x).1 at) ∙ (sym e ∙ none) in cc

-- ---- the first nodes
take_front : (xs : List Node) (n : Node) → take (length (xs ++ n ∷ []) - 1) (xs ++ n ∷ []) ≡ xs
take_front [] n = refl
take_front (x ∷ xs) n = rw (let e : length (x ∷ (xs ++ n ∷ [])) - 1 ≡ suc (length (xs ++ n ∷ []) - 1) = omega (arith, length_push xs n) in e) (ap (λ z. x ∷ z) (take_front xs n))

pub put_back : (old new last : List Node) (n : Node) (x : ℕ) → new ≡ old ++ n ∷ [] → x ≡ length old → last ≡ take x new → last ≡ old
put_back old new last n x is at cut = cut ∙ (ap (λ z. take x z) is ∙ (ap (λ z. take z (old ++ n ∷ [])) (at ∙ (let e : length old ≡ length (old ++ n ∷ []) - 1 = omega (arith, length_push old n) in e)) ∙ take_front old n))
