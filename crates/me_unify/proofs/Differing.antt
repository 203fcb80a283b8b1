-- Terms that differ at their tops.
use Rattle.std.proofs.Common.{◌≡◌, ℕ, zero, suc, List, [], ◌∷◌, length, map, slice_get, Some, Vec, Global, refl, ap, sym, subst, ◌∙◌, arith}
use Rattle.std.proofs.lemmas.List.{length-map}
use Rattle.me_terms.specs.Terms.{TermValue, list_of, arguments_of}
use Rattle.me_terms.specs.Terms as tree
use Rattle.me_terms.specs.Substitutions.{Substitution, Family, apply_term, apply_arguments}
use Rattle.me_unify.specs.declared.links.Links.{Links}
use Rattle.me_unify.specs.declared.node.Node.{Node}
use Rattle.me_unify.specs.declared.node.Node.TheVariants.{Var, App}
use Rattle.me_unify.specs.Linked.{Colouring, IsColoured, Respects, Alike, coloured}
use Rattle.me_unify.specs.Tops.{HasTop}

length_listed : (ts : List TermValue) → length (list_of (arguments_of ts)) ≡ length ts
length_listed [] = refl
length_listed (t ∷ ts) = omega (arith, length_listed ts)

pub length_applied : (s : Substitution) (ts : List TermValue) → length (list_of (apply_arguments s (arguments_of ts))) ≡ length ts
length_applied s [] = refl
length_applied s (t ∷ ts) = omega (arith, length_applied s ts)

-- a variable whose links end at a function
pub top_of_last : (nodes : List Node) (l : Links) (t : Family) (h : Colouring) (space var x last f n : ℕ) (v : Node) (args : Vec ℕ Global)
    → slice_get nodes x ≡ Some (Var space var) → Alike l x last → slice_get nodes last ≡ Some v → v ≡ App f args → n ≡ length args.items → IsColoured nodes t h → Respects l h
    → HasTop (t space var) (record { f = f; arity = n })
top_of_last nodes l t h space var x last f n v args at alike there is len fits kept =
    let e : tree.App f (coloured h args.items) ≡ t space var = sym (fits last (App f args) (there ∙ ap Some is)) ∙ (sym (alike h kept) ∙ fits x (Var space var) at) in
    let P : TermValue → Type 0 = λ z. HasTop z (record { f = f; arity = n }) in
    subst P e (refl, length_listed (map h args.items) ∙ (length-map args.items h ∙ sym len))

-- Equal lists have equal terms at each place.
pub argument_same : (s r : Substitution) (xs ys : List TermValue) (k : ℕ) (x y : TermValue) → apply_arguments s (arguments_of xs) ≡ apply_arguments r (arguments_of ys) → slice_get xs k ≡ Some x → slice_get ys k ≡ Some y
    → apply_term s x ≡ apply_term r y
argument_same s r [] ys k x y e one other = cc
argument_same s r (a ∷ xs) [] k x y e one other = cc
argument_same s r (a ∷ xs) (b ∷ ys) zero x y e one other =
    let first : apply_term s a ≡ apply_term r b = cc in
    let p : a ≡ x = cc in
    let q : b ≡ y = cc in
    ap (apply_term s) (sym p) ∙ (first ∙ ap (apply_term r) q)
argument_same s r (a ∷ xs) (b ∷ ys) (suc k) x y e one other =
    let rest : apply_arguments s (arguments_of xs) ≡ apply_arguments r (arguments_of ys) = cc in
    argument_same s r xs ys k x y rest one other
