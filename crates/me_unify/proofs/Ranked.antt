-- The heights of a solution's terms order the nodes.
use Rattle.std.proofs.Common.{◌≡◌, ℕ, zero, suc, ◌+◌, ◌*◌, ◌-◌, ◌<◌, ◌≤◌, Bool, true, false, ltb, max, List, length, get_or, ap, arith, inl, inr}
use Rattle.std.proofs.lemmas.Bool.{cases_eq, cases_lt, lt-ltb, le-ltb}
use Rattle.me_terms.specs.Terms.{height}
use Rattle.me_terms.specs.Substitutions.{Family}
use Rattle.me_unify.specs.declared.links.Links.{Links}
use Rattle.me_unify.specs.declared.node.Node.{Node}
use Rattle.me_unify.specs.declared.node.Node.TheVariants.{App}
use Rattle.me_unify.specs.Linked.{NONE, Colouring, IsColoured, Respects}
use Rattle.me_unify.specs.Ordered.{HasOrder, IsSettled}
use Rattle.me_unify.specs.Nodes.{IsArena}
use Rattle.me_unify.proofs.Visit.{app_lower}

abbrev most : (ℕ → ℕ) → ℕ → ℕ
most f zero = 0
most f (suc n) = max (suc (f n)) (most f n)

below_most : (f : ℕ → ℕ) (n x : ℕ) → x < n → f x < most f n
below_most f zero x lt = absurd (omega arith)
below_most f (suc n) x lt = elim (cases_eq x n) [
  | inl e ↦ (let same : f x ≡ f n = ap f e in omega arith)
  | inr ne ↦ (let r = below_most f n x (omega arith) in omega arith)
]

-- the height, and then how late the node is linked
abbrev rank_of : Links → Colouring → ℕ → ℕ
rank_of l h x = height (h x) * 18446744073709551616 + (NONE - get_or l.place.items x 0)

pub ordered_by : (nodes : List Node) (l : Links) → IsArena nodes l → (u : Family) (h : Colouring) → IsColoured nodes u h → Respects l h → HasOrder nodes l
ordered_by nodes l a u h fits same = (
  rank_of l h,
  (
    most (rank_of l h) (length nodes),
    record {
      forest = a.forest;
      sized = a.sized;
      fit = a.fit;
      closed = a.closed;
      below = λ x w. below_most (rank_of l h) (length nodes) x w;
      linked = λ x w ne.
          let r = a.forest.linked x (omega (arith, a.sized)) ne in
          let first : height (h (get_or l.froms.items (get_or l.place.items x 0) 0)) ≡ height (h x) = ap (λ z. height (h z)) r.from in
          let level : height (h (get_or l.froms.items (get_or l.place.items x 0) 0)) ≡ height (h (get_or l.tos.items (get_or l.place.items x 0) 0)) = ap height (same (get_or l.place.items x 0) r.stands) in
          omega (arith, r.later, r.stands, a.forest.total, a.forest.small);
      apps = λ x w e f args at i lt.
          let low = app_lower h x f args.items i (fits x (App f args) at) lt in
          omega arith;
    },
  ),
)

-- ---- ranks below the number of nodes
abbrev one_if : Bool → ℕ
one_if true = 1
one_if false = 0

counts : (a b : ℕ) → a < b → one_if (ltb a b) ≡ 1
counts a b lt = ap one_if (lt-ltb a b lt)

counts_not : (a b : ℕ) → b ≤ a → one_if (ltb a b) ≡ 0
counts_not a b le = ap one_if (le-ltb a b le)

counts_once : (a b : ℕ) → one_if (ltb a b) ≤ 1
counts_once a b = elim (cases_lt a b) [
  | inl lt ↦ (let e = counts a b lt in omega (arith, e))
  | inr ge ↦ (let e = counts_not a b ge in omega (arith, e))
]

counts_more : (a b c : ℕ) → b ≤ c → one_if (ltb a b) ≤ one_if (ltb a c)
counts_more a b c le = elim (cases_lt a b) [
  | inl lt ↦ (let e = counts a b lt in let f = counts a c (omega arith) in omega (arith, e, f))
  | inr ge ↦ (let e = counts_not a b ge in omega (arith, e))
]

-- how many of the first n nodes have a rank below r
abbrev lower : (ℕ → ℕ) → ℕ → ℕ → ℕ
lower rank zero r = 0
lower rank (suc n) r = lower rank n r + one_if (ltb (rank n) r)

lower_all : (rank : ℕ → ℕ) (n r : ℕ) → lower rank n r ≤ n
lower_all rank zero r = omega arith
lower_all rank (suc n) r = omega (arith, lower_all rank n r, counts_once (rank n) r)

lower_more : (rank : ℕ → ℕ) (n r s : ℕ) → r ≤ s → lower rank n r ≤ lower rank n s
lower_more rank zero r s le = omega arith
lower_more rank (suc n) r s le = omega (arith, lower_more rank n r s le, counts_more (rank n) r s le)

lower_less : (rank : ℕ → ℕ) (n x s : ℕ) → x < n → rank x < s → lower rank n (rank x) < lower rank n s
lower_less rank zero x s within lt = absurd (omega arith)
lower_less rank (suc n) x s within lt = elim (cases_eq x n) [
  | inl e ↦
      (let same : rank x ≡ rank n = ap rank e in
      omega (arith, lower_more rank n (rank x) s (omega arith), counts_not (rank n) (rank x) (omega arith), counts (rank n) s (omega arith)))
  | inr ne ↦ omega (arith, lower_less rank n x s (omega arith) lt, counts_more (rank n) (rank x) s (omega arith))
]

lower_most : (rank : ℕ → ℕ) (n x : ℕ) → x < n → lower rank n (rank x) < n
lower_most rank zero x within = absurd (omega arith)
lower_most rank (suc n) x within = elim (cases_eq x n) [
  | inl e ↦ (let same : rank x ≡ rank n = ap rank e in omega (arith, lower_all rank n (rank x), counts_not (rank n) (rank x) (omega arith)))
  | inr ne ↦ omega (arith, lower_most rank n x (omega arith), counts_once (rank n) (rank x))
]

short : (nodes : List Node) (l : Links) (rank : ℕ → ℕ) (limit : ℕ) → IsSettled nodes l rank limit → IsSettled nodes l (λ x. lower rank (length nodes) (rank x)) (length nodes)
short nodes l rank limit o = record {
  forest = o.forest;
  sized = o.sized;
  fit = o.fit;
  closed = o.closed;
  below = λ x w. lower_most rank (length nodes) x w;
  linked = λ x w ne.
      let r = o.forest.linked x (omega (arith, o.sized)) ne in
      let to : get_or l.tos.items (get_or l.place.items x 0) 0 < length nodes = rw o.sized (o.forest.to_within (get_or l.place.items x 0) r.stands) in
      lower_less rank (length nodes) (get_or l.tos.items (get_or l.place.items x 0) 0) (rank x) to (o.linked x w ne);
  apps = λ x w e f args at i lt.
      let low : get_or args.items i 0 < x = o.fit x (App f args) at i lt in
      lower_less rank (length nodes) (get_or args.items i 0) (rank x) (omega arith) (o.apps x w e f args at i lt);
}

-- a solution orders the nodes by ranks below their number
pub settled_by : (nodes : List Node) (l : Links) → IsArena nodes l → (u : Family) (h : Colouring) → IsColoured nodes u h → Respects l h → (rank : ℕ → ℕ) × IsSettled nodes l rank (length nodes)
settled_by nodes l a u h fits same =
    let o = ordered_by nodes l a u h fits same in
    (λ x. lower o.0 (length nodes) (o.0 x), short nodes l o.0 o.1.0 o.1.1)
