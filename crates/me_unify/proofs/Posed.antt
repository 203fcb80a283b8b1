-- An equation whose atoms have nodes.
use Rattle.std.proofs.Common.{◌≡◌, ℕ, ◌<◌, ◌↔◌, List, length, sym}
use Rattle.me_terms.specs.Terms.{AtomValue, App}
use Rattle.me_terms.specs.Substitutions.{Family, apply_atom, apply_arguments}
use Rattle.me_unify.specs.declared.links.Links.{Links}
use Rattle.me_unify.specs.declared.node.Node.{Node}
use Rattle.me_unify.specs.Linked.{Colouring, IsColoured, Respects, IsLonger, AreNodes}
use Rattle.me_unify.specs.Ordered.{HasOrder, colour}
use Rattle.me_unify.specs.Nodes.{IsArena, KeepsNodes}
use Rattle.me_unify.specs.Equations.{equation}
use Rattle.me_unify.specs.Marks.{IsPosed, AreApart}
use Rattle.me_unify.proofs.MoreNodes.{same_links}
use Rattle.me_unify.proofs.Forest.{respects_less}
use Rattle.me_unify.proofs.Steps.{longer_twice}
use Rattle.me_unify.proofs.Made.{atoms_same}
use Rattle.me_unify.proofs.Written.{extended, colour_fits}

-- a node is the atom under the family
abbrev pub IsAtom : List Node → ℕ → ℕ → AtomValue → Type 0
IsAtom nodes x space a = (t : Family) (h : Colouring) → IsColoured nodes t h → h x ≡ App a.pred (apply_arguments (t space) a.args)

pub posed : (nodes : List Node) (l : Links) (new : List Node) (mid m : Links) (ls : ℕ) (left : AtomValue) (rs : ℕ) (right : AtomValue) (x y : ℕ) → KeepsNodes nodes new → mid.froms.items ≡ l.froms.items → mid.tos.items ≡ l.tos.items
    → IsLonger mid m → HasOrder new m → x < length new → y < length new → IsAtom new x ls left → IsAtom new y rs right
    → ((t : Family) (h : Colouring) → IsColoured new t h → (Respects mid h × (h x ≡ h y)) ↔ Respects m h)
    → IsPosed nodes l new m (equation ls left rs right) (record { left = x; right = y })
posed nodes l new mid m ls left rs right x y g fs ts more order xw yw lx ry same = record {
  grown = g;
  more = longer_twice l mid m (same_links l mid fs ts) more;
  order = order;
  left_within = xw;
  right_within = yw;
  left = lx;
  right = ry;
  same = λ t h f. let q = same t h f in (
    λ w. q.0 (respects_less mid l h (same_links mid l (sym fs) (sym ts)) w.0, w.1),
    λ n. let w = q.1 n in (respects_less l mid h (same_links l mid fs ts) w.0, w.1),
  );
}

pub apart_by : (nodes : List Node) (l : Links) (new : List Node) (mid : Links) (ls : ℕ) (left : AtomValue) (rs : ℕ) (right : AtomValue) (x y : ℕ) → IsArena nodes l → KeepsNodes nodes new → AreNodes new → mid.froms.items ≡ l.froms.items → mid.tos.items ≡ l.tos.items
    → IsAtom new x ls left → IsAtom new y rs right → ((t : Family) (h : Colouring) → IsColoured new t h → Respects mid h → ¬ (h x ≡ h y)) → AreApart nodes l (equation ls left rs right)
apart_by nodes l new mid ls left rs right x y a g fit fs ts lx ry never t h f r e =
    let k : Colouring = colour new t in
    let made : IsColoured new t (colour new t) = colour_fits new t fit in
    let kept : Respects l (colour new t) = extended nodes new l t h a fit g f r in
    let there : Respects mid (colour new t) = respects_less mid l (colour new t) (same_links mid l (sym fs) (sym ts)) kept in
    let both = atoms_same (apply_atom (t ls) left) (apply_atom (t rs) right) (colour new t x) (colour new t y) (lx t (colour new t) made) (ry t (colour new t) made) in
    never t (colour new t) made there (both.0 e)
