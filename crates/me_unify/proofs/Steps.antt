-- Steps that follow links into arguments.
use Rattle.std.proofs.Common.{◌≡◌, ℕ, zero, suc, ◌+◌, ◌<◌, ◌≤◌, List, [], ◌∷◌, length, get_or, Some, slice_get, Vec, Global, refl, ap, sym, subst, ◌∙◌, arith, inl, inr}
use Rattle.std.proofs.lemmas.Bool.{cases_lt}
use Rattle.std.proofs.lemmas.Option.{slice_get-get_or, get_or_from_slice_get}
use Rattle.me_terms.specs.Terms as tree
use Rattle.me_terms.specs.Terms.{TermValue, Arguments, Nil, Cons}
use Rattle.me_terms.specs.Substitutions.{Family}
use Rattle.me_unify.specs.declared.links.Links.{Links}
use Rattle.me_unify.specs.declared.node.Node.{Node}
use Rattle.me_unify.specs.declared.node.Node.TheVariants.{Var, App}
use Rattle.me_unify.specs.Linked.{Colouring, Alike, IsLonger, AreJoined, ArgumentsAreAlike, AreClosed, ArePairClosed, IsUnder, AreDirected, coloured, IsColoured, AreNodes}
use Rattle.me_unify.proofs.Forest.{respects_less}

pub alike_longer : (l m : Links) (x y : ℕ) → IsLonger l m → Alike l x y → Alike m x y
alike_longer l m x y q same h r = same h (respects_less l m h q r)

pub longer_twice : (l m n : Links) → IsLonger l m → IsLonger m n → IsLonger l n
longer_twice l m n p q = record {
  longer = omega (arith, p.longer, q.longer);
  froms = λ k lt. let b : k < length m.froms.items = omega (arith, p.longer) in q.froms k b ∙ p.froms k lt;
  tos = λ k lt. let b : k < length m.froms.items = omega (arith, p.longer) in q.tos k b ∙ p.tos k lt;
}

pub closed_longer : (l m : Links) (p q : Node) → IsLonger l m → ArgumentsAreAlike l p q → ArgumentsAreAlike m p q
closed_longer l m (Var s v) q more h = tt
closed_longer l m (App f xs) (Var s v) more h = h
closed_longer l m (App f xs) (App g ys) more h = record {
  symbol = h.symbol;
  lengths = h.lengths;
  each = λ i lt. alike_longer l m _ _ more (h.each i lt);
}

pub closed_more : (nodes : List Node) (l m : Links) (k : ℕ) → IsLonger l m → k < length l.froms.items
    → AreClosed nodes l k → ArePairClosed nodes m (get_or l.froms.items k 0) (get_or l.tos.items k 0)
    → ((p q : Node) → slice_get nodes (get_or l.froms.items k 0) ≡ Some p → slice_get nodes (get_or l.tos.items k 0) ≡ Some q → IsUnder p q)
    → AreClosed nodes m (k + 1)
closed_more nodes l m k more within old new under j p q lt = elim (cases_lt j k) [
  | inl below ↦ (let b : j < length l.froms.items = omega arith in
      rw (more.froms j b, more.tos j b) (λ a b. closed_longer l m p q more (old j p q below a b)))
  | inr ge ↦ (let e : j ≡ k = omega arith in
      let P : ℕ → Type 0 = λ z. slice_get nodes (get_or m.froms.items z 0) ≡ Some p → slice_get nodes (get_or m.tos.items z 0) ≡ Some q → ArgumentsAreAlike m p q in
      subst P (sym e) (rw (more.froms k within, more.tos k within) (λ a b. new p q a b (under p q a b))))
]

-- ---- arguments
pub record AreParts (h : Colouring) (f g : ℕ) (xs ys : List ℕ) : Type 0 where
  pub symbol : f ≡ g
  pub lengths : length xs ≡ length ys
  pub each : (i : ℕ) → i < length xs → h (get_or xs i 0) ≡ h (get_or ys i 0)

each_more : (h : Colouring) (x y : ℕ) (xs ys : List ℕ) → h x ≡ h y → ((i : ℕ) → i < length xs → h (get_or xs i 0) ≡ h (get_or ys i 0))
    → (i : ℕ) → i < length (x ∷ xs) → h (get_or (x ∷ xs) i 0) ≡ h (get_or (y ∷ ys) i 0)
each_more h x y xs ys e rest zero lt = e
each_more h x y xs ys e rest (suc i) lt = rest i (omega arith)

pub coloured_parts : (h : Colouring) (xs ys : List ℕ) → coloured h xs ≡ coloured h ys → AreParts h 0 0 xs ys
coloured_parts h [] [] e = record { symbol = refl; lengths = refl; each = λ i lt. refl }
coloured_parts h [] (y ∷ ys) e = cc
coloured_parts h (x ∷ xs) [] e = cc
coloured_parts h (x ∷ xs) (y ∷ ys) e =
    let first : h x ≡ h y = cc in
    let others : coloured h xs ≡ coloured h ys = cc in
    let r = coloured_parts h xs ys others in
    record { symbol = refl; lengths = omega (arith, r.lengths); each = each_more h x y xs ys first r.each }

pub coloured_same : (h : Colouring) (xs ys : List ℕ) → length xs ≡ length ys → ((i : ℕ) → i < length xs → h (get_or xs i 0) ≡ h (get_or ys i 0)) → coloured h xs ≡ coloured h ys
coloured_same h [] [] e each = refl
coloured_same h [] (y ∷ ys) e each = absurd (omega arith)
coloured_same h (x ∷ xs) [] e each = absurd (omega arith)
coloured_same h (x ∷ xs) (y ∷ ys) e each =
    let first : h x ≡ h y = each 0 (omega arith) in
    let others = coloured_same h xs ys (omega arith) (λ i lt. each (suc i) (omega arith)) in
    λ i. Cons (first i) (others i)

pub fits_app : (nodes : List Node) (t : Family) (h : Colouring) (x : ℕ) (v : Node) (f : ℕ) (args : Vec ℕ Global) → x < length nodes → v ≡ get_or nodes x v → v ≡ App f args → IsColoured nodes t h
    → h x ≡ tree.App f (coloured h args.items)
fits_app nodes t h x v f args within is app fits =
    let there : slice_get nodes x ≡ Some (App f args) = slice_get-get_or nodes x v within ∙ ap Some (sym is ∙ app) in
    fits x (App f args) there

pub room_app : (nodes : List Node) (x : ℕ) (v : Node) (f : ℕ) (args : Vec ℕ Global) → x < length nodes → v ≡ get_or nodes x v → v ≡ App f args → AreNodes nodes
    → (i : ℕ) → i < length args.items → get_or args.items i 0 < length nodes
room_app nodes x v f args within is app fit =
    let there : slice_get nodes x ≡ Some (App f args) = slice_get-get_or nodes x v within ∙ ap Some (sym is ∙ app) in
    λ i lt. let a : get_or args.items i 0 < x = fit x (App f args) there i lt in omega arith

pub step_parts : (nodes : List Node) (t : Family) (h : Colouring) (a b : ℕ) (v w : Node) (f g : ℕ) (xs ys : Vec ℕ Global) → a < length nodes → b < length nodes
    → v ≡ get_or nodes a v → w ≡ get_or nodes b w → v ≡ App f xs → w ≡ App g ys → IsColoured nodes t h → h a ≡ h b → AreParts h f g xs.items ys.items
step_parts nodes t h a b v w f g xs ys ha hb va wb va' wb' fits e =
    let left = fits_app nodes t h a v f xs ha va va' fits in
    let right = fits_app nodes t h b w g ys hb wb wb' fits in
    let whole : tree.App f (coloured h xs.items) ≡ tree.App g (coloured h ys.items) = sym left ∙ (e ∙ right) in
    let symbol : f ≡ g = cc in
    let args : coloured h xs.items ≡ coloured h ys.items = cc in
    let r = coloured_parts h xs.items ys.items args in
    record { symbol = symbol; lengths = r.lengths; each = r.each }

pub there : (nodes : List Node) (x : ℕ) (v p w : Node) → v ≡ get_or nodes x v → v ≡ w → slice_get nodes x ≡ Some p → p ≡ w
there nodes x v p w is app at = sym (get_or_from_slice_get nodes x p v at) ∙ (sym is ∙ app)

pub closed_apps : (m : Links) (p q : Node) (f g : ℕ) (xs ys : Vec ℕ Global) → p ≡ App f xs → q ≡ App g ys → AreJoined m f g xs.items ys.items → ArgumentsAreAlike m p q
closed_apps m p q f g xs ys e d j = rw (e, d) j

pub closed_var : (m : Links) (p q : Node) (s v : ℕ) → p ≡ Var s v → ArgumentsAreAlike m p q
closed_var m p q s v e = rw e tt

pub closed_never : (m : Links) (p q : Node) (f s v : ℕ) (xs : Vec ℕ Global) → p ≡ App f xs → q ≡ Var s v → IsUnder p q → ArgumentsAreAlike m p q
closed_never m p q f s v xs e d u = absurd (rw (e, d) at u)

any_default : (xs : List ℕ) (k d e : ℕ) → k < length xs → get_or xs k d ≡ get_or xs k e
any_default [] k d e lt = absurd (omega arith)
any_default (x ∷ xs) zero d e lt = refl
any_default (x ∷ xs) (suc k) d e lt = any_default xs k d e (omega arith)

pub at_zero : (xs : List ℕ) (k v : ℕ) → k < length xs → v ≡ get_or xs k v → v ≡ get_or xs k 0
at_zero xs k v lt is = is ∙ any_default xs k v 0 lt

pub closed_kept : (nodes : List Node) (l m : Links) (n : ℕ) → IsLonger l m → n ≤ length l.froms.items → AreClosed nodes l n → AreClosed nodes m n
closed_kept nodes l m n more within old j p q lt =
    let b : j < length l.froms.items = omega arith in
    rw (more.froms j b, more.tos j b) (λ a c. closed_longer l m p q more (old j p q lt a c))

pub longer_back : (l m n : Links) → IsLonger l m → IsLonger n m → length n.froms.items ≡ length l.froms.items → IsLonger l n
longer_back l m n p q e = record {
  longer = omega arith;
  froms = λ k lt. let b : k < length n.froms.items = omega arith in sym (q.froms k b) ∙ p.froms k lt;
  tos = λ k lt. let b : k < length n.froms.items = omega arith in sym (q.tos k b) ∙ p.tos k lt;
}

pub shorter_back : (l m n : Links) → IsLonger l m → IsLonger n m → length n.froms.items ≡ length l.froms.items → IsLonger n l
shorter_back l m n p q e = longer_back n m l q p (sym e)

pub directed_back : (nodes : List Node) (l n : Links) → IsLonger n l → AreDirected nodes l → AreDirected nodes n
directed_back nodes l n q d i v w z lt =
    let b : i < length l.froms.items = omega (arith, q.longer) in
    rw (sym (q.froms i lt), sym (q.tos i lt)) (d i v w z b)
