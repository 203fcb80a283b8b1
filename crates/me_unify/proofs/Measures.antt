-- Sums and greatest depths of lists of terms.
use Rattle.std.proofs.Common.{◌≡◌, ℕ, ◌+◌, ◌<◌, ◌≤◌, max, min, Bool, true, false, ◌&&◌, List, [], ◌∷◌, ◌++◌, length, map, take, set, get_or, slice_get, Some, refl, ap, sym, subst, ◌∙◌, arith, inl, inr}
use Rattle.std.proofs.lemmas.List.{take_more, get_or-set_same, get_or-set_other, length-set}
use Rattle.std.proofs.lemmas.Option.{slice_get_within, slice_get-get_or, get_or_from_slice_get}
use Rattle.std.proofs.lemmas.Bool.{cases_eq}
use Rattle.me_terms.specs.Terms as tree
use Rattle.me_terms.specs.Terms.{TermValue, Arguments, Nil, Cons, arguments_of}
use Rattle.me_terms.specs.Variables.{weight, weights, depth, depths, is_ground, are_ground}
use Rattle.me_unify.specs.declared.links.Links.{Links}
use Rattle.me_unify.specs.declared.node.Node.{Node}
use Rattle.me_unify.specs.declared.measure.Measure.{Measure}
use Rattle.me_unify.specs.Linked.{Colouring, coloured}
use Rattle.me_unify.specs.Ordered.{IsSequence}
use Rattle.me_unify.specs.Measured.{IsMeasure, AreMeasured, IsReading, IsHeld, IsHeldBelow}

weights_push : (ts : List TermValue) (t : TermValue) → weights (arguments_of (ts ++ t ∷ [])) ≡ weights (arguments_of ts) + weight t
weights_push [] t = omega arith
weights_push (s ∷ ts) t = let rest = weights_push ts t in omega arith

depths_push : (ts : List TermValue) (t : TermValue) → depths (arguments_of (ts ++ t ∷ [])) ≡ max (depths (arguments_of ts)) (depth t)
depths_push [] t = omega arith
depths_push (s ∷ ts) t = let rest = depths_push ts t in omega arith

and_assoc : (a b c : Bool) → (a && (b && c)) ≡ ((a && b) && c)
and_assoc true b c = refl
and_assoc false b c = refl

and_true : (a : Bool) → (a && true) ≡ a
and_true true = refl
and_true false = refl

ground_push : (ts : List TermValue) (t : TermValue) → are_ground (arguments_of (ts ++ t ∷ [])) ≡ (are_ground (arguments_of ts) && is_ground t)
ground_push [] t = and_true (is_ground t)
ground_push (s ∷ ts) t = ap (λ b. is_ground s && b) (ground_push ts t) ∙ and_assoc (is_ground s) (are_ground (arguments_of ts)) (is_ground t)

map_push : (h : Colouring) (xs : List ℕ) (x : ℕ) → map h (xs ++ x ∷ []) ≡ map h xs ++ h x ∷ []
map_push h [] x = refl
map_push h (y ∷ xs) x = ap (λ z. h y ∷ z) (map_push h xs x)

-- one more
pub measured_more : (h : Colouring) (xs : List ℕ) (i x : ℕ) (all one next : Measure) → i < length xs → x ≡ get_or xs i 0 → AreMeasured (coloured h (take i xs)) all → IsMeasure (h x) one
    → next.weight ≡ min (all.weight + one.weight) 18446744073709551615 → next.depth ≡ max all.depth one.depth → next.ground ≡ (all.ground && one.ground) → AreMeasured (coloured h (take (i + 1) xs)) next
measured_more h xs i x all one next lt is a m w d g =
    let list : map h (take (i + 1) xs) ≡ map h (take i xs) ++ h x ∷ [] = ap (map h) (take_more xs i 0 lt) ∙ (map_push h (take i xs) (get_or xs i 0) ∙ ap (λ z. map h (take i xs) ++ h z ∷ []) (sym is)) in
    let args : coloured h (take (i + 1) xs) ≡ arguments_of (map h (take i xs) ++ h x ∷ []) = ap arguments_of list in
    rw args (record {
      weight = omega (arith, w, a.weight, m.weight, weights_push (map h (take i xs)) (h x));
      depth = omega (arith, d, a.depth, m.depth, depths_push (map h (take i xs)) (h x));
      ground = g ∙ ((λ j. a.ground j && m.ground j) ∙ sym (ground_push (map h (take i xs)) (h x)));
    })

-- one term more of a list
pub measured_next : (ts : List TermValue) (k : ℕ) (t : TermValue) (all one next : Measure) → slice_get ts k ≡ Some t → AreMeasured (arguments_of (take k ts)) all → IsMeasure t one
    → next.weight ≡ min (all.weight + one.weight) 18446744073709551615 → next.depth ≡ max all.depth one.depth → next.ground ≡ (all.ground && one.ground) → AreMeasured (arguments_of (take (k + 1) ts)) next
measured_next ts k t all one next at a m w d g =
    let list : take (k + 1) ts ≡ take k ts ++ t ∷ [] = take_more ts k t (slice_get_within ts k t at) ∙ ap (λ z. take k ts ++ z ∷ []) (get_or_from_slice_get ts k t t at) in
    let P : List TermValue → Type 0 = λ z. AreMeasured (arguments_of z) next in
    subst P (sym list) (record {
      weight = omega (arith, w, a.weight, m.weight, weights_push (take k ts) t);
      depth = omega (arith, d, a.depth, m.depth, depths_push (take k ts) t);
      ground = g ∙ ((λ j. a.ground j && m.ground j) ∙ sym (ground_push (take k ts) t));
    })

-- what is held after a write
held_after : (h : Colouring) (measures : List Measure) (x y : ℕ) (m : Measure) → x < length measures → IsMeasure (h x) m → IsHeld h measures y → IsHeld h (set measures x m) y
held_after h measures x y m lt new old n at =
    let is : get_or (set measures x m) y n ≡ n = get_or_from_slice_get (set measures x m) y n n at in
    let within : y < length measures = omega (arith, slice_get_within (set measures x m) y n at, length-set measures x m) in
    elim (cases_eq y x) [
      | inl e ↦
          (let same : get_or (set measures x m) x n ≡ m = get_or-set_same measures x m n lt in
          let val : n ≡ m = sym is ∙ (ap (λ z. get_or (set measures x m) z n) e ∙ same) in
          let P : ℕ → Type 0 = λ z. IsMeasure (h z) n in
          let Q : Measure → Type 0 = λ z. IsMeasure (h x) z in
          subst P (sym e) (subst Q (sym val) new))
      | inr ne ↦
          (let kept : get_or (set measures x m) y n ≡ get_or measures y n = get_or-set_other measures x y m n ne in
          let there : slice_get measures y ≡ Some n = slice_get-get_or measures y n within ∙ ap Some (sym kept ∙ is) in
          old n there)
    ]

-- where no measure is held yet, the new one is
held_new : (h : Colouring) (measures : List Measure) (x : ℕ) (m : Measure) → x < length measures → IsMeasure (h x) m → IsHeld h (set measures x m) x
held_new h measures x m lt new n at =
    let is : get_or (set measures x m) x n ≡ n = get_or_from_slice_get (set measures x m) x n n at in
    let same : get_or (set measures x m) x n ≡ m = get_or-set_same measures x m n lt in
    let Q : Measure → Type 0 = λ z. IsMeasure (h x) z in
    subst Q (sym same ∙ is) new

abbrev pub AreHeld : List Node → Links → List Measure → List ℕ → ℕ → Type 0
AreHeld nodes l measures list i = (h : Colouring) → IsReading nodes l h → (p : ℕ) → p < i → IsHeld h measures (get_or list p 0)

-- what the node at a place leads to stands before it
pub held_below : (nodes : List Node) (l : Links) (h : Colouring) (measures : List Measure) (list : List ℕ) (i : ℕ) → IsSequence nodes l list → i < length list → ((p : ℕ) → p < i → IsHeld h measures (get_or list p 0)) → IsHeldBelow nodes l h measures (get_or list i 0)
held_below nodes l h measures list i q lt held =
    let here = q.placed i lt in
    let x = get_or list i 0 in
    let by_rank : (y : ℕ) → y < length nodes → q.rank y < i → IsHeld h measures y = λ y w b. (let P : ℕ → Type 0 = λ z. IsHeld h measures z in subst P (q.listed y w) (held (q.rank y) b)) in
    record {
      linked = λ ne.
          let low = q.settled.linked (get_or list i 0) here.0 ne in
          let r = q.settled.forest.linked (get_or list i 0) (omega (arith, here.0, q.settled.sized)) ne in
          let to = q.settled.forest.to_within (get_or l.place.items (get_or list i 0) 0) r.stands in
          by_rank (get_or l.tos.items (get_or l.place.items (get_or list i 0) 0) 0) (omega (arith, to, q.settled.sized)) (omega (arith, low, here.1));
      apps = λ e f args at j b.
          let low = q.settled.apps (get_or list i 0) here.0 e f args at j b in
          let small = q.settled.fit (get_or list i 0) _ at j b in
          by_rank (get_or args.items j 0) (omega (arith, small, here.0)) (omega (arith, low, here.1));
    }

pub held_more : (nodes : List Node) (l : Links) (measures next : List Measure) (list : List ℕ) (i x : ℕ) (m : Measure) → IsSequence nodes l list → i < length list → x ≡ get_or list i 0 → length measures ≡ length nodes → next ≡ set measures x m
    → ((h : Colouring) → IsReading nodes l h → IsHeldBelow nodes l h measures x → IsMeasure (h x) m) → AreHeld nodes l measures list i → AreHeld nodes l next list (i + 1)
held_more nodes l measures next list i x m q lt is size write new old h reading p b =
    let here = q.placed i lt in
    let xw : x < length measures = omega (arith, here.0, size, is) in
    let below : IsHeldBelow nodes l h measures x = rw is (held_below nodes l h measures list i q lt (old h reading)) in
    let measured : IsMeasure (h x) m = new h reading below in
    rw write (elim (cases_eq p i) [
      | inl e ↦ (let P : ℕ → Type 0 = λ z. IsHeld h (set measures x m) z in let at : get_or list p 0 ≡ x = ap (λ z. get_or list z 0) e ∙ sym is in subst P (sym at) (held_new h measures x m xw measured))
      | inr ne ↦ held_after h measures x (get_or list p 0) m xw measured (old h reading p (omega arith))
    ])

pub held_all : (nodes : List Node) (l : Links) (measures : List Measure) (list : List ℕ) (i : ℕ) → IsSequence nodes l list → length list ≤ i → AreHeld nodes l measures list i → (h : Colouring) → IsReading nodes l h → (x : ℕ) → x < length nodes → IsHeld h measures x
held_all nodes l measures list i q past held h reading x w =
    let P : ℕ → Type 0 = λ z. IsHeld h measures z in
    subst P (q.listed x w) (held h reading (q.rank x) (omega (arith, q.settled.below x w)))

-- ---- one node
pub var_measure : (t : TermValue) (y : ℕ) (m : Measure) → t ≡ tree.Var y → m.weight ≡ 1 → m.depth ≡ 1 → m.ground ≡ false → IsMeasure t m
var_measure t y m e w d g = rw e (record { weight = w; depth = d; ground = g })

pub constant_measure : (t : TermValue) (f : ℕ) (h : Colouring) (xs : List ℕ) → t ≡ tree.App f (coloured h xs) → length xs ≡ 0 → IsMeasure t (record { weight = 1; depth = 1; ground = true })
constant_measure t f h [] e none = rw e (record { weight = refl; depth = refl; ground = refl })
constant_measure t f h (x ∷ xs) e none = absurd (omega (arith, none))

pub app_measure : (t : TermValue) (f : ℕ) (ts : Arguments) (all m : Measure) → t ≡ tree.App f ts → AreMeasured ts all → m.weight ≡ min (all.weight + 1) 18446744073709551615 → m.depth ≡ min (all.depth + 1) 18446744073709551615 → m.ground ≡ all.ground → IsMeasure t m
app_measure t f ts all m e a w d g = rw e (record { weight = omega (arith, w, a.weight); depth = omega (arith, d, a.depth); ground = g ∙ a.ground })
