-- Terms that are copied into nodes.
use Rattle.std.proofs.Common.{◌≡◌, ℕ, ◌+◌, ◌<◌, List, [], ◌∷◌, ◌++◌, length, get_or, ap, sym, ◌∙◌, arith}
use Rattle.std.proofs.lemmas.List.{get_or_append_left, get_or_push, length_push}
use Rattle.std.proofs.lemmas.Option.{slice_get_within, slice_get-get_or}
use Rattle.std.proofs.Common.{inl, inr}
use Rattle.std.proofs.lemmas.Bool.{cases_lt}
use Rattle.std.proofs.Common.{subst, ◌↔◌}
use Rattle.me_terms.specs.Terms.{AtomValue, App, TermValue}
use Rattle.me_terms.specs.Substitutions.{Family}
use Rattle.me_unify.specs.declared.node.Node.{Node}
use Rattle.me_unify.specs.declared.node.Node.TheVariants.{Var}
use Rattle.me_unify.specs.Linked.{Colouring, IsColoured}
use Rattle.me_unify.specs.Nodes.{KeepsNodes}

pub fits_less : (old new : List Node) (t : Family) (h : Colouring) → KeepsNodes old new → IsColoured new t h → IsColoured old t h
fits_less old new t h g f x n at = f x n (g x n at)

pub grown_twice : (a b c : List Node) → KeepsNodes a b → KeepsNodes b c → KeepsNodes a c
grown_twice a b c p q x n at = q x n (p x n at)

pub grown_within : (old new : List Node) (y : ℕ) → KeepsNodes old new → y < length old → y < length new
grown_within old new y g lt = slice_get_within new y (get_or old y (Var 0 0)) (g y (get_or old y (Var 0 0)) (slice_get-get_or old y (Var 0 0) lt))

pub within_push : (old new : List Node) (made next : List ℕ) (x : ℕ) → KeepsNodes old new → next ≡ made ++ x ∷ [] → ((i : ℕ) → i < length made → get_or made i 0 < length old) → x < length new
    → (i : ℕ) → i < length next → get_or next i 0 < length new
within_push old new made next x g is each here i lt =
    let len : length next ≡ length made + 1 = ap length is ∙ length_push made x in
    elim (cases_lt i (length made)) [
      | inl below ↦ rw (is, get_or_append_left made (x ∷ []) 0 i below) (grown_within old new (get_or made i 0) g (each i below))
      | inr ge ↦ (let e : length made ≡ i = omega arith in rw (is, get_or_push made x 0 i e) here)
    ]

pub atoms_same : (a b : AtomValue) (u v : TermValue) → u ≡ App a.pred a.args → v ≡ App b.pred b.args → (a ≡ b) ↔ (u ≡ v)
atoms_same a b u v l r = (
  λ e. l ∙ (ap (λ z. App z.pred z.args) e ∙ sym r),
  λ e. let w : App a.pred a.args ≡ App b.pred b.args = sym l ∙ (e ∙ r) in
      let p : a.pred ≡ b.pred = cc in
      let q : a.args ≡ b.args = cc in
      λ i. record { pred = p i; args = q i },
)

pub fits_along : (a b : List Node) (t : Family) (h : Colouring) → a ≡ b → IsColoured a t h → IsColoured b t h
fits_along a b t h e f = let P : List Node → Type 0 = λ z. IsColoured z t h in subst P e f
