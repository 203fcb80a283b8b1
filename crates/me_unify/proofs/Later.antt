-- An order of the nodes, where links are added behind a mark.
use Rattle.std.proofs.Common.{◌≡◌, ℕ, ◌+◌, ◌<◌, ◌≤◌, ◌≢◌, Bool, ltb, if◌then◌else◌, List, length, get_or, refl, ap, sym, subst, ◌∙◌, arith, inl, inr}
use Rattle.std.proofs.lemmas.Bool.{cases_eq, cases_lt, lt-ltb, le-ltb}
use Rattle.me_terms.specs.Terms.{AtomValue}
use Rattle.me_terms.specs.Terms as tree
use Rattle.me_terms.specs.Substitutions.{Substitution, apply_atom}
use Rattle.me_unify.specs.declared.links.Links.{Links}
use Rattle.me_unify.specs.declared.node.Node.{Node}
use Rattle.me_unify.specs.declared.node.Node.TheVariants.{App}
use Rattle.me_unify.specs.Linked.{NONE, IsForest, AreNodes, AreClosed, IsLonger, Respects}
use Rattle.me_unify.specs.Nodes.{IsArena, KeepsNodes}
use Rattle.me_unify.specs.Ordered.{IsOrdered, HasOrder, HasOrderBefore, colour}
use Rattle.me_unify.specs.Walked.{AreOpen}
use Rattle.me_unify.specs.Equations.{equation}
use Rattle.me_unify.specs.Marks.{IsSolved, IsPosed}
use Rattle.me_unify.proofs.Forest.{respects_less}
use Rattle.me_unify.proofs.MoreNodes.{same_links}
use Rattle.me_unify.proofs.Posed.{IsAtom}
use Rattle.me_unify.proofs.Ranked.{ordered_by}
use Rattle.me_unify.proofs.Walking.{all_done}
use Rattle.me_unify.proofs.Written.{colour_fits, extended}

-- ---- what stands when links are added
-- a link from before the mark was there
place_before : (l m : Links) (x k : ℕ) → IsForest l → IsForest m → IsLonger l m → x < length m.place.items → get_or m.place.items x 0 ≡ k → k < length l.froms.items → get_or l.place.items x 0 ≡ k
place_before l m x k p q more within at lt =
    let most : k < NONE = omega (arith, lt, more.longer, q.total, q.small) in
    let ne : get_or m.place.items x 0 ≢ NONE = λ e. absurd (omega (arith, at, e, most)) in
    let r = q.linked x within ne in
    let from : get_or m.froms.items k 0 ≡ x = ap (λ z. get_or m.froms.items z 0) (sym at) ∙ r.from in
    let same : get_or l.froms.items k 0 ≡ x = sym (more.froms k lt) ∙ from in
    ap (λ z. get_or l.place.items z 0) (sym same) ∙ p.back k lt

-- a node that is not linked was not
free_before : (l m : Links) (x : ℕ) → IsForest l → IsForest m → IsLonger l m → x < length l.place.items → get_or m.place.items x 0 ≡ NONE → get_or l.place.items x 0 ≡ NONE
free_before l m x p q more within free = elim (cases_eq (get_or l.place.items x 0) NONE) [
  | inl e ↦ e
  | inr ne ↦
      (let r = p.linked x within ne in
      let k = get_or l.place.items x 0 in
      let from : get_or m.froms.items (get_or l.place.items x 0) 0 ≡ x = more.froms (get_or l.place.items x 0) r.stands ∙ r.from in
      let there : get_or l.place.items x 0 < length m.froms.items = omega (arith, r.stands, more.longer) in
      let back : get_or m.place.items (get_or m.froms.items (get_or l.place.items x 0) 0) 0 ≡ get_or l.place.items x 0 = q.back (get_or l.place.items x 0) there in
      let at : get_or m.place.items x 0 ≡ get_or l.place.items x 0 = ap (λ z. get_or m.place.items z 0) (sym from) ∙ back in
      sym at ∙ free)
]

pub order_before : (nodes : List Node) (l m : Links) (mark : ℕ) → IsForest m → length nodes ≡ length m.place.items → IsLonger l m → mark ≡ length l.froms.items → HasOrder nodes l → HasOrderBefore nodes m mark
order_before nodes l m mark q size more is o =
    let s = o.1.1 in (
      o.0,
      (
        o.1.0,
        record {
          below = s.below;
          linked = λ x w lt.
              let k : get_or l.place.items x 0 ≡ get_or m.place.items x 0 = place_before l m x (get_or m.place.items x 0) s.forest q more (omega (arith, w, size)) (λ i. get_or m.place.items x 0) (omega (arith, lt, is)) in
              let ne : get_or l.place.items x 0 ≢ NONE = λ e. absurd (omega (arith, k, e, lt, is, more.longer, q.total, q.small)) in
              let low = s.linked x w ne in
              let to : get_or l.tos.items (get_or l.place.items x 0) 0 ≡ get_or m.tos.items (get_or m.place.items x 0) 0 = ap (λ z. get_or l.tos.items z 0) k ∙ sym (more.tos (get_or m.place.items x 0) (omega (arith, lt, is))) in
              let P : ℕ → Type 0 = λ z. o.0 z < o.0 x in
              subst P to low;
          apps = λ x w free f args at i lt. s.apps x w (free_before l m x s.forest q more (omega (arith, w, s.sized)) free) f args at i lt;
        },
      ),
    )

-- a solution orders the nodes, and more nodes too
pub order_grown : (nodes : List Node) (l : Links) (new : List Node) (m : Links) → IsArena nodes l → IsSolved nodes l → IsArena new m → KeepsNodes nodes new → m.froms.items ≡ l.froms.items → m.tos.items ≡ l.tos.items → HasOrder new m
order_grown nodes l new m a s b g fs ts =
    let kept : Respects l (colour new s.0) = extended nodes new l s.0 s.1.0 a b.fit g s.1.1.0 s.1.1.1 in
    ordered_by new m b s.0 (colour new s.0) (colour_fits new s.0 b.fit) (respects_less m l (colour new s.0) (same_links m l (sym fs) (sym ts)) kept)

-- ---- an equation of atoms that are one
pub posed_once : (nodes : List Node) (l : Links) (new : List Node) (m : Links) (ls : ℕ) (left : AtomValue) (rs : ℕ) (right : AtomValue) (x : ℕ) → IsArena nodes l → IsSolved nodes l → IsArena new m → KeepsNodes nodes new → m.froms.items ≡ l.froms.items → m.tos.items ≡ l.tos.items
    → x < length new → IsAtom new x ls left → ((s r : Substitution) → apply_atom s left ≡ apply_atom r right) → IsPosed nodes l new m (equation ls left rs right) (record { left = x; right = x })
posed_once nodes l new m ls left rs right x a s b g fs ts within made one = record {
  grown = g;
  more = same_links l m fs ts;
  order = order_grown nodes l new m a s b g fs ts;
  left_within = within;
  right_within = within;
  left = made;
  right = λ t h f. made t h f ∙ ap (λ (z : AtomValue). tree.App z.pred z.args) (one (t ls) (t rs));
  same = λ t h f. (λ p. respects_less m l h (same_links m l (sym fs) (sym ts)) p.0, λ r. (respects_less l m h (same_links l m fs ts) r, refl));
}

-- ---- a walk from the links behind the mark
-- the place of a node that was come to, and behind them the others by their ranks
abbrev placed : ℕ → ℕ → ℕ → ℕ
placed count o r = if ltb o 2 then count + r else o

placed_done : (count o r : ℕ) → 2 ≤ o → placed count o r ≡ o
placed_done count o r ge = ap (λ (b : Bool). if b then count + r else o) (le-ltb o 2 ge)

placed_new : (count o r : ℕ) → o < 2 → placed count o r ≡ count + r
placed_new count o r lt = ap (λ (b : Bool). if b then count + r else o) (lt-ltb o 2 lt)

falls_done : (count o p r s : ℕ) → 2 ≤ o → 2 ≤ p → p < o → placed count p s < placed count o r
falls_done count o p r s x y lt = omega (arith, placed_done count o r x, placed_done count p s y)

falls_new : (count o p r s : ℕ) → o < 2 → s < r → (2 ≤ p → p < count) → placed count p s < placed count o r
falls_new count o p r s x lt below = elim (cases_lt p 2) [
  | inl new ↦ omega (arith, placed_new count o r x, placed_new count p s new, lt)
  | inr ge ↦ (let b = below ge in omega (arith, placed_new count o r x, placed_done count p s ge, b))
]

pub order_behind : (nodes : List Node) (l : Links) (mark : ℕ) (o : List ℕ) (count : ℕ) (list st : List ℕ) → IsForest l → length nodes ≡ length l.place.items → AreNodes nodes → AreClosed nodes l (length l.froms.items) → IsOrdered nodes l o count list
    → HasOrderBefore nodes l mark → AreOpen nodes l o st → st ≡ Rattle.std.specs.Prelude.[] → ((k : ℕ) → mark ≤ k → k < length l.froms.items → 1 ≤ get_or o (get_or l.froms.items k 0) 0) → HasOrder nodes l
order_behind nodes l mark o count list st forest sized fit closed q before opened none seen =
    let rank = before.0 in
    let falls = before.1.1 in
    let within : (x : ℕ) → x < length nodes → x < length o = λ x w. omega (arith, q.sized) in (
      λ x. placed count (get_or o x 0) (before.0 x),
      (
        count + before.1.0,
        record {
          forest = forest;
          sized = sized;
          fit = fit;
          closed = closed;
          below = λ x w. elim (cases_lt (get_or o x 0) 2) [
            | inl new ↦ omega (arith, placed_new count (get_or o x 0) (before.0 x) new, falls.below x w)
            | inr ge ↦ omega (arith, placed_done count (get_or o x 0) (before.0 x) ge, q.below x (within x w) ge)
          ];
          linked = λ x w ne.
              let r = forest.linked x (omega (arith, w, sized)) ne in
              let to : get_or l.tos.items (get_or l.place.items x 0) 0 < length nodes = rw sized (forest.to_within (get_or l.place.items x 0) r.stands) in
              elim (cases_lt (get_or o x 0) 2) [
                | inl new ↦ elim (cases_lt (get_or l.place.items x 0) mark) [
                  | inl early ↦ falls_new count (get_or o x 0) (get_or o (get_or l.tos.items (get_or l.place.items x 0) 0) 0) (before.0 x) (before.0 (get_or l.tos.items (get_or l.place.items x 0) 0)) new (falls.linked x w early)
                      (λ ge. q.below (get_or l.tos.items (get_or l.place.items x 0) 0) (within (get_or l.tos.items (get_or l.place.items x 0) 0) to) ge)
                  | inr late ↦
                      (let P : ℕ → Type 0 = λ z. 1 ≤ get_or o z 0 in
                      let here : 1 ≤ get_or o x 0 = subst P r.from (seen (get_or l.place.items x 0) late r.stands) in
                      let done = all_done nodes l o st x opened none w here in
                      absurd (omega (arith, done, new)))
                ]
                | inr ge ↦
                    (let d = q.done x (within x w) ge in
                    let b = d.linked ne in
                    falls_done count (get_or o x 0) (get_or o (get_or l.tos.items (get_or l.place.items x 0) 0) 0) (before.0 x) (before.0 (get_or l.tos.items (get_or l.place.items x 0) 0)) ge b.0 b.1)
              ];
          apps = λ x w free f args at i lt.
              let low : get_or args.items i 0 < x = fit x (App f args) at i lt in
              let y : get_or args.items i 0 < length nodes = omega (arith, low, w) in
              elim (cases_lt (get_or o x 0) 2) [
                | inl new ↦ falls_new count (get_or o x 0) (get_or o (get_or args.items i 0) 0) (before.0 x) (before.0 (get_or args.items i 0)) new (falls.apps x w free f args at i lt) (λ ge. q.below (get_or args.items i 0) (within (get_or args.items i 0) y) ge)
                | inr ge ↦
                    (let d = q.done x (within x w) ge in
                    let b = d.apps free f args at i lt in
                    falls_done count (get_or o x 0) (get_or o (get_or args.items i 0) 0) (before.0 x) (before.0 (get_or args.items i 0)) ge b.0 b.1)
              ];
        },
      ),
    )
