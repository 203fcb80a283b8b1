-- Links that end at flat terms keep the nodes in an order.
use Rattle.std.proofs.Common.{◌≡◌, ℕ, zero, suc, ◌+◌, ◌-◌, ◌*◌, ◌<◌, ◌≤◌, ◌≢◌, Bool, true, false, eqb, if◌then◌else◌, List, [], ◌∷◌, length, get_or, Option, Some, None, slice_get, Vec, Global, refl, ap, sym, subst, ◌∙◌, arith, inl, inr}
use Rattle.std.proofs.lemmas.Bool.{cases_eq, cases_lt, cases_Bool, eq-eqb, ne_eqb, eqb-true, false≢true}
use Rattle.me_unify.specs.declared.links.Links.{Links}
use Rattle.me_unify.specs.declared.node.Node.{Node}
use Rattle.me_unify.specs.declared.node.Node.TheVariants.{Var, App}
use Rattle.me_unify.specs.Linked.{NONE, IsForest, AreNodes, AreClosed}
use Rattle.me_unify.specs.Ordered.{HasOrder, HasOrderBefore}
use Rattle.me_unify.specs.FlatEnds.{after, end_of, is_leaf, ends_at_leaf, all_end_at_leaves, is_flat, ends_flat}

-- ---- where links end
abbrev next : Links → ℕ → ℕ
next l x = get_or l.tos.items (get_or l.place.items x 0) 0

number_free : (p a b : ℕ) → p ≡ NONE → (if (eqb p NONE) then a else b) ≡ a
number_free p a b e = ap (λ (c : Bool). if c then a else b) (eq-eqb p NONE e)

number_linked : (p a b : ℕ) → p ≢ NONE → (if (eqb p NONE) then a else b) ≡ b
number_linked p a b ne = ap (λ (c : Bool). if c then a else b) (ne_eqb p NONE ne)

after_free : (l : Links) (n x : ℕ) → get_or l.place.items x 0 ≡ NONE → after l n x ≡ x
after_free l zero x e = refl
after_free l (suc n) x e = number_free (get_or l.place.items x 0) x (after l n (next l x)) e

after_linked : (l : Links) (n x : ℕ) → get_or l.place.items x 0 ≢ NONE → after l (suc n) x ≡ after l n (next l x)
after_linked l n x ne = number_linked (get_or l.place.items x 0) x (after l n (next l x)) ne

next_within : (l : Links) (x : ℕ) → IsForest l → x < length l.place.items → get_or l.place.items x 0 ≢ NONE → next l x < length l.place.items
next_within l x q within ne = let r = q.linked x within ne in q.to_within (get_or l.place.items x 0) r.stands

-- more links change nothing where these suffice
after_enough : (l : Links) (n x : ℕ) → IsForest l → x < length l.place.items → (get_or l.place.items x 0 ≢ NONE → length l.froms.items ≤ n + get_or l.place.items x 0) → after l (suc n) x ≡ after l n x
after_enough l zero x q within enough = elim (cases_eq (get_or l.place.items x 0) NONE) [
  | inl e ↦ after_free l 1 x e
  | inr ne ↦ (let r = q.linked x within ne in absurd (omega (arith, r.stands, enough ne)))
]
after_enough l (suc n) x q within enough = elim (cases_eq (get_or l.place.items x 0) NONE) [
  | inl e ↦ after_free l (suc (suc n)) x e ∙ sym (after_free l (suc n) x e)
  | inr ne ↦
      (let r = q.linked x within ne in
      after_linked l (suc n) x ne
      ∙ (after_enough l n (next l x) q (next_within l x q within ne) (λ other. omega (arith, r.later, enough ne)) ∙ sym (after_linked l n x ne)))
]

next_enough : (l : Links) (n x : ℕ) → IsForest l → x < length l.place.items → get_or l.place.items x 0 ≢ NONE → length l.froms.items ≤ n → after l n x ≡ after l n (next l x)
next_enough l zero x q within ne le = let r = q.linked x within ne in absurd (omega (arith, r.stands, le))
next_enough l (suc n) x q within ne le =
    let r = q.linked x within ne in
    after_linked l n x ne ∙ sym (after_enough l n (next l x) q (next_within l x q within ne) (λ other. omega (arith, r.later, le)))

-- a linked node ends where the next one does
pub end_next : (l : Links) (x : ℕ) → IsForest l → x < length l.place.items → get_or l.place.items x 0 ≢ NONE → end_of l x ≡ end_of l (next l x)
end_next l x q within ne = next_enough l (length l.froms.items) x q within ne (omega arith)

pub end_free : (l : Links) (x : ℕ) → get_or l.place.items x 0 ≡ NONE → end_of l x ≡ x
end_free l x e = after_free l (length l.froms.items) x e

-- ---- what stands at an end
pub leaf_of : (nodes : List Node) (l : Links) (x last : ℕ) (v : Node) (b : Bool) → last ≡ end_of l x → slice_get nodes last ≡ Some v → is_leaf (Some v) ≡ b → b ≡ ends_at_leaf nodes l x
leaf_of nodes l x last v b e at is = sym is ∙ (ap is_leaf (sym at) ∙ ap (λ z. is_leaf (slice_get nodes z)) e)

pub flat_of : (nodes : List Node) (l : Links) (x last : ℕ) (v : Node) → last ≡ end_of l x → slice_get nodes last ≡ Some v → is_flat nodes l (Some v) ≡ true → ends_flat nodes l x ≡ true
flat_of nodes l x last v e at is = sym (ap (is_flat nodes l) (sym at) ∙ ap (λ z. is_flat nodes l (slice_get nodes z)) e) ∙ is

pub all_leaves : (nodes : List Node) (l : Links) (xs : List ℕ) → ((i : ℕ) → i < length xs → ends_at_leaf nodes l (get_or xs i 0) ≡ true) → all_end_at_leaves nodes l xs ≡ true
all_leaves nodes l [] each = refl
all_leaves nodes l (x ∷ xs) each = ap (λ (b : Bool). if b then all_end_at_leaves nodes l xs else false) (each 0 (omega arith)) ∙ all_leaves nodes l xs (λ i lt. each (suc i) (omega arith))

first_leaf : (b c : Bool) → (if b then c else false) ≡ true → (b ≡ true) × (c ≡ true)
first_leaf true c e = (refl, e)
first_leaf false c e = absurd (false≢true e)

leaf_at : (nodes : List Node) (l : Links) (xs : List ℕ) (i : ℕ) → all_end_at_leaves nodes l xs ≡ true → i < length xs → ends_at_leaf nodes l (get_or xs i 0) ≡ true
leaf_at nodes l [] i e lt = absurd (omega arith)
leaf_at nodes l (x ∷ xs) zero e lt = (first_leaf (ends_at_leaf nodes l x) (all_end_at_leaves nodes l xs) e).0
leaf_at nodes l (x ∷ xs) (suc i) e lt = leaf_at nodes l xs i (first_leaf (ends_at_leaf nodes l x) (all_end_at_leaves nodes l xs) e).1 (omega arith)

no_arguments : (nodes : List Node) (l : Links) (xs : List ℕ) → eqb (length xs) 0 ≡ true → all_end_at_leaves nodes l xs ≡ true
no_arguments nodes l [] e = refl
no_arguments nodes l (x ∷ xs) e = let none : length (x ∷ xs) ≡ 0 = eqb-true (length (x ∷ xs)) 0 e in absurd (omega (arith, none))

leaf_flat : (nodes : List Node) (l : Links) (o : Option Node) → is_leaf o ≡ true → is_flat nodes l o ≡ true
leaf_flat nodes l None e = absurd (false≢true e)
leaf_flat nodes l (Some (Var s v)) e = refl
leaf_flat nodes l (Some (App f args)) e = no_arguments nodes l args.items e

-- ---- ranks
abbrev high : Bool → ℕ → ℕ
high true m = 0
high false m = m

high_most : (b : Bool) (m : ℕ) → high b m ≤ m
high_most true m = omega arith
high_most false m = omega arith

-- how many links are behind a node's own at most
abbrev behind : Links → ℕ → ℕ
behind l x = if (eqb (get_or l.place.items x 0) NONE) then 0 else (length l.froms.items - get_or l.place.items x 0)

behind_free : (l : Links) (x : ℕ) → get_or l.place.items x 0 ≡ NONE → behind l x ≡ 0
behind_free l x e = number_free (get_or l.place.items x 0) 0 (length l.froms.items - get_or l.place.items x 0) e

behind_linked : (l : Links) (x : ℕ) → get_or l.place.items x 0 ≢ NONE → behind l x ≡ length l.froms.items - get_or l.place.items x 0
behind_linked l x ne = number_linked (get_or l.place.items x 0) 0 (length l.froms.items - get_or l.place.items x 0) ne

behind_most : (l : Links) (x : ℕ) → behind l x ≤ length l.froms.items
behind_most l x = elim (cases_eq (get_or l.place.items x 0) NONE) [
  | inl e ↦ omega (arith, behind_free l x e)
  | inr ne ↦ omega (arith, behind_linked l x ne)
]

behind_next : (l : Links) (x : ℕ) → IsForest l → x < length l.place.items → get_or l.place.items x 0 ≢ NONE → behind l (next l x) < behind l x
behind_next l x q within ne =
    let r = q.linked x within ne in
    elim (cases_eq (get_or l.place.items (next l x) 0) NONE) [
      | inl e ↦ omega (arith, behind_free l (next l x) e, behind_linked l x ne, r.stands)
      | inr other ↦ omega (arith, behind_linked l (next l x) other, behind_linked l x ne, r.stands, r.later)
    ]

-- of a node that ends at a flat term
abbrev low : List Node → Links → ℕ → ℕ
low nodes l x = high (ends_at_leaf nodes l x) (suc (length l.froms.items)) + behind l x

low_most : (nodes : List Node) (l : Links) (x : ℕ) → low nodes l x < 2 * length l.froms.items + 2
low_most nodes l x = omega (arith, high_most (ends_at_leaf nodes l x) (suc (length l.froms.items)), behind_most l x)

abbrev either : Bool → ℕ → ℕ → ℕ
either true a b = a
either false a b = b

-- The nodes that end at flat terms stand before all others.
abbrev rank_of : List Node → Links → (ℕ → ℕ) → ℕ → ℕ
rank_of nodes l r x = either (ends_flat nodes l x) (low nodes l x) (2 * length l.froms.items + 2 + r x)

rank_low : (nodes : List Node) (l : Links) (r : ℕ → ℕ) (x : ℕ) → ends_flat nodes l x ≡ true → rank_of nodes l r x ≡ low nodes l x
rank_low nodes l r x e = ap (λ b. either b (low nodes l x) (2 * length l.froms.items + 2 + r x)) e

rank_high : (nodes : List Node) (l : Links) (r : ℕ → ℕ) (x : ℕ) → ends_flat nodes l x ≡ false → rank_of nodes l r x ≡ 2 * length l.froms.items + 2 + r x
rank_high nodes l r x e = ap (λ b. either b (low nodes l x) (2 * length l.froms.items + 2 + r x)) e

-- where the old rank falls, and where what has a low rank is alone
falls : (nodes : List Node) (l : Links) (r : ℕ → ℕ) (x y : ℕ) → ends_flat nodes l x ≡ false → r y < r x → rank_of nodes l r y < rank_of nodes l r x
falls nodes l r x y e lt = elim (cases_Bool (ends_flat nodes l y)) [
  | inl flat ↦ omega (arith, rank_low nodes l r y flat, rank_high nodes l r x e, low_most nodes l y)
  | inr other ↦ omega (arith, rank_high nodes l r y other, rank_high nodes l r x e, lt)
]

falls_link : (nodes : List Node) (l : Links) (r : ℕ → ℕ) (x : ℕ) → IsForest l → x < length l.place.items → get_or l.place.items x 0 ≢ NONE → ends_flat nodes l x ≡ true → rank_of nodes l r (next l x) < rank_of nodes l r x
falls_link nodes l r x q within ne flat =
    let e = end_next l x q within ne in
    let there : ends_flat nodes l (next l x) ≡ true = ap (λ z. is_flat nodes l (slice_get nodes z)) (sym e) ∙ flat in
    let level : high (ends_at_leaf nodes l x) (suc (length l.froms.items)) ≡ high (ends_at_leaf nodes l (next l x)) (suc (length l.froms.items)) =
    ap (λ z. high (is_leaf (slice_get nodes z)) (suc (length l.froms.items))) e in
    omega (arith, rank_low nodes l r x flat, rank_low nodes l r (next l x) there, level, behind_next l x q within ne)

falls_app : (nodes : List Node) (l : Links) (r : ℕ → ℕ) (x f i : ℕ) (args : Vec ℕ Global) → get_or l.place.items x 0 ≡ NONE → slice_get nodes x ≡ Some (App f args) → i < length args.items → ends_flat nodes l x ≡ true
    → rank_of nodes l r (get_or args.items i 0) < rank_of nodes l r x
falls_app nodes l r x f i args free at lt flat =
    let here : slice_get nodes (end_of l x) ≡ Some (App f args) = ap (λ z. slice_get nodes z) (end_free l x free) ∙ at in
    let all : all_end_at_leaves nodes l args.items ≡ true = sym (ap (is_flat nodes l) here) ∙ flat in
    let leaf : ends_at_leaf nodes l (get_or args.items i 0) ≡ true = leaf_at nodes l args.items i all lt in
    let there : ends_flat nodes l (get_or args.items i 0) ≡ true = leaf_flat nodes l (slice_get nodes (end_of l (get_or args.items i 0))) leaf in
    let none : ends_at_leaf nodes l x ≡ false = ap is_leaf here ∙ ne_eqb (length args.items) 0 (λ e. absurd (omega (arith, e, lt))) in
    let top : high (ends_at_leaf nodes l x) (suc (length l.froms.items)) ≡ suc (length l.froms.items) = ap (λ b. high b (suc (length l.froms.items))) none in
    let bottom : high (ends_at_leaf nodes l (get_or args.items i 0)) (suc (length l.froms.items)) ≡ 0 = ap (λ b. high b (suc (length l.froms.items))) leaf in
    omega (arith, rank_low nodes l r x flat, rank_low nodes l r (get_or args.items i 0) there, top, bottom, behind_most l (get_or args.items i 0))

pub order_shallow : (nodes : List Node) (l : Links) (mark : ℕ) → IsForest l → length nodes ≡ length l.place.items → AreNodes nodes → AreClosed nodes l (length l.froms.items) → HasOrderBefore nodes l mark
    → ((k : ℕ) → mark ≤ k → k < length l.froms.items → ends_flat nodes l (get_or l.froms.items k 0) ≡ true) → HasOrder nodes l
order_shallow nodes l mark forest sized fit closed before flat =
    let r = before.0 in
    let old = before.1.1 in (
      rank_of nodes l before.0,
      (
        2 * length l.froms.items + 2 + before.1.0,
        record {
          forest = forest;
          sized = sized;
          fit = fit;
          closed = closed;
          below = λ x w. elim (cases_Bool (ends_flat nodes l x)) [
            | inl yes_flat ↦ omega (arith, rank_low nodes l before.0 x yes_flat, low_most nodes l x)
            | inr other ↦ omega (arith, rank_high nodes l before.0 x other, old.below x w)
          ];
          linked = λ x w ne.
              let q = forest.linked x (omega (arith, w, sized)) ne in
              elim (cases_Bool (ends_flat nodes l x)) [
                | inl yes_flat ↦ falls_link nodes l before.0 x forest (omega (arith, w, sized)) ne yes_flat
                | inr other ↦ elim (cases_lt (get_or l.place.items x 0) mark) [
                  | inl early ↦ falls nodes l before.0 x (next l x) other (old.linked x w early)
                  | inr late ↦
                      (let here : ends_flat nodes l x ≡ true = ap (ends_flat nodes l) (sym q.from) ∙ flat (get_or l.place.items x 0) late q.stands in
                      absurd (false≢true (sym other ∙ here)))
                ]
              ];
          apps = λ x w free f args at i lt. elim (cases_Bool (ends_flat nodes l x)) [
            | inl yes_flat ↦ falls_app nodes l before.0 x f i args free at lt yes_flat
            | inr other ↦ falls nodes l before.0 x (get_or args.items i 0) other (old.apps x w free f args at i lt)
          ];
        },
      ),
    )
