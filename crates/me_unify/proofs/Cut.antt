-- Nodes and links that are taken away again.
use Rattle.std.proofs.Common.{◌≡◌, ℕ, zero, suc, ◌+◌, ◌<◌, ◌≤◌, List, [], ◌∷◌, length, take, get_or, slice_get, Some, eqb, cond, refl, ap, sym, ◌∙◌, arith}
use Rattle.std.specs.List.{count_by}
use Rattle.std.proofs.lemmas.List.{get_or-take, length-take-le}
use Rattle.std.proofs.lemmas.List.Sums.{sum_by-cons}
use Rattle.std.proofs.lemmas.Option.{slice_get_within, slice_get-get_or}
use Rattle.std.proofs.lemmas.Bool.{cases_eq}
use Rattle.std.proofs.Common.{inl, inr}
use Rattle.me_unify.specs.declared.links.Links.{Links}
use Rattle.me_unify.specs.declared.node.Node.{Node}
use Rattle.me_unify.specs.declared.node.Node.TheVariants.{Var}
use Rattle.me_unify.specs.Linked.{NONE, AreLinks, IsForest, IsLonger}
use Rattle.me_unify.specs.Nodes.{IsArena, KeepsNodes}
use Rattle.me_unify.specs.Marks.{IsCutBack, IsMark, IsBack}
use Rattle.me_unify.proofs.Steps.{longer_twice, closed_kept, directed_back, longer_back, shorter_back}
use Rattle.me_unify.proofs.MoreNodes.{same_links}

-- ---- nodes that are not linked are forgotten
count_first : (p : List ℕ) (n : ℕ) → n ≤ length p → ((x : ℕ) → n ≤ x → x < length p → get_or p x 0 ≡ NONE) → count_by (λ q. eqb q NONE) (take n p) + length p ≡ count_by (λ q. eqb q NONE) p + n
count_first [] zero le free = refl
count_first [] (suc n) le free = absurd (omega arith)
count_first (q ∷ p) zero le free =
    let first : q ≡ NONE = free 0 (omega arith) (omega arith) in
    let rest = count_first p zero (omega arith) (λ x a b. free (suc x) (omega arith) (omega arith)) in
    let whole = rw first at (sum_by-cons (λ z. cond (eqb z NONE) 1 0) q p) in
    rw first (omega (arith, rest, whole))
count_first (q ∷ p) (suc n) le free =
    let rest = count_first p n (omega arith) (λ x a b. free (suc x) (omega arith) (omega arith)) in
    omega (arith, rest, sum_by-cons (λ z. cond (eqb z NONE) 1 0) q p, sum_by-cons (λ z. cond (eqb z NONE) 1 0) q (take n p))

pub links_shrunk : (p fs ts : List ℕ) (n : ℕ) → AreLinks p fs ts → n ≤ length p → ((k : ℕ) → k < length fs → get_or fs k 0 < n) → ((k : ℕ) → k < length fs → get_or ts k 0 < n) → AreLinks (take n p) fs ts
links_shrunk p fs ts n r le from to =
    let len : length (take n p) ≡ n = length-take-le n p le in
    let keep : (x : ℕ) → x < n → get_or (take n p) x 0 ≡ get_or p x 0 = λ x b. get_or-take n p x 0 b in
    let free : (x : ℕ) → n ≤ x → x < length p → get_or p x 0 ≡ NONE = λ x a b. elim (cases_eq (get_or p x 0) NONE) [
      | inl e ↦ e
      | inr ne ↦ (let q = r.linked x b ne in let z : get_or fs (get_or p x 0) 0 < n = from (get_or p x 0) q.stands in let w : get_or fs (get_or p x 0) 0 ≡ x = q.from in absurd (omega arith))
    ] in
    let counted = count_first p n le free in
    record {
      small = omega (arith, r.small);
      total = omega (arith, r.total, counted);
      paired = r.paired;
      from_within = λ k b. rw len (from k b);
      to_within = λ k b. rw len (to k b);
      linked = λ x b bound.
          let c : x < n = omega arith in
          let q = r.linked x (omega arith) (λ e. bound (keep x c ∙ e)) in
          record {
            stands = rw (keep x c) q.stands;
            from = rw (keep x c) q.from;
            later = rw (keep x c) (rw (keep (get_or ts (get_or p x 0) 0) (to (get_or p x 0) q.stands)) q.later);
          };
      back = λ k b. rw (keep (get_or fs k 0) (from k b)) (r.back k b);
    }

-- ---- the first nodes
pub take_at : {A : Type 0} (n : ℕ) (xs : List A) (x : ℕ) → x < n → slice_get (take n xs) x ≡ slice_get xs x
take_at zero xs x lt = absurd (omega arith)
take_at (suc n) [] x lt = refl
take_at (suc n) (y ∷ xs) zero lt = refl
take_at (suc n) (y ∷ xs) (suc x) lt = take_at n xs x (omega arith)

pub take_grown : (n : ℕ) (nodes : List Node) → KeepsNodes (take n nodes) nodes
take_grown zero nodes x v e = let z : x < 0 = slice_get_within [] x v e in absurd (omega (arith, z))
take_grown (suc n) [] x v e = e
take_grown (suc n) (y ∷ nodes) zero v e = e
take_grown (suc n) (y ∷ nodes) (suc x) v e = take_grown n nodes x v e

pub grown_take : (old new : List Node) → KeepsNodes old new → take (length old) new ≡ old
grown_take [] new g = refl
grown_take (n ∷ old) [] g = let z : 0 < 0 = slice_get_within [] 0 n (g 0 n refl) in absurd (omega (arith, z))
grown_take (n ∷ old) (m ∷ new) g =
    let first : m ≡ n = cc (g 0 n refl) in
    let rest : take (length old) new ≡ old = grown_take old new (λ x v e. g (suc x) v e) in
    λ i. first i ∷ rest i

pub grown_length : (old new : List Node) → KeepsNodes old new → length old ≤ length new
grown_length [] new g = omega arith
grown_length (n ∷ old) [] g = let z : 0 < 0 = slice_get_within [] 0 n (g 0 n refl) in absurd (omega (arith, z))
grown_length (n ∷ old) (m ∷ new) g = let rest = grown_length old new (λ x v e. g (suc x) v e) in omega (arith, rest)

-- what stands in the longer list at a place of the shorter, stands there
pub grown_back : (old new : List Node) (x : ℕ) (v : Node) → KeepsNodes old new → x < length old → slice_get new x ≡ Some v → slice_get old x ≡ Some v
grown_back old new x v g lt e =
    let w : Node = get_or old x (Var 0 0) in
    let is : slice_get old x ≡ Some (get_or old x (Var 0 0)) = slice_get-get_or old x (Var 0 0) lt in
    let at : slice_get new x ≡ Some (get_or old x (Var 0 0)) = g x (get_or old x (Var 0 0)) is in
    is ∙ (sym at ∙ e)

-- ---- marks
pub cut_itself : (l : Links) → IsCutBack l (length l.froms.items) l
cut_itself l = record { less = record { longer = omega arith; froms = λ k lt. refl; tos = λ k lt. refl }; size = refl }

pub longer_of_cut : (l c : Links) → IsCutBack l (length l.froms.items) c → IsLonger l c
longer_of_cut l c q = record {
  longer = omega (arith, q.size);
  froms = λ k lt. let b : k < length c.froms.items = omega (arith, q.size) in sym (q.less.froms k b);
  tos = λ k lt. let b : k < length c.froms.items = omega (arith, q.size) in sym (q.less.tos k b);
}

-- a cut of more links is one of the links
pub cut_back : (l m : Links) (n : ℕ) (c : Links) → IsLonger l m → n ≤ length l.froms.items → IsCutBack m n c → IsCutBack l n c
cut_back l m n c more le q = record {
  less = record {
    longer = omega (arith, q.size);
    froms = λ k lt. let b : k < length l.froms.items = omega (arith, q.size) in sym (more.froms k b) ∙ q.less.froms k lt;
    tos = λ k lt. let b : k < length l.froms.items = omega (arith, q.size) in sym (more.tos k b) ∙ q.less.tos k lt;
  };
  size = q.size;
}

pub cut_twice : (l c d : Links) (n m : ℕ) → IsCutBack l n c → IsCutBack c m d → IsCutBack l m d
cut_twice l c d n m p q = record { less = longer_twice d c l q.less p.less; size = q.size }

pub mark_now : (nodes : List Node) (l : Links) → IsArena nodes l → IsMark nodes l (length nodes) (length l.froms.items)
mark_now nodes l a = record {
  nodes_within = omega arith;
  links_within = omega arith;
  from_within = λ k lt. rw a.sized (a.forest.from_within k lt);
  to_within = λ k lt. rw a.sized (a.forest.to_within k lt);
  closed = λ c q. closed_kept nodes l c (length l.froms.items) (longer_of_cut l c q) (omega arith) a.closed;
}

pub mark_kept : (old new : List Node) (l m : Links) (n k : ℕ) → IsMark old l n k → KeepsNodes old new → IsLonger l m → IsMark new m n k
mark_kept old new l m n k q g more = record {
  nodes_within = omega (arith, q.nodes_within, grown_length old new g);
  links_within = omega (arith, q.links_within, more.longer);
  from_within = λ j lt. rw (more.froms j (omega (arith, q.links_within))) (q.from_within j lt);
  to_within = λ j lt. rw (more.tos j (omega (arith, q.links_within))) (q.to_within j lt);
  closed = λ c cut j p r lt a b.
      let back = cut_back l m k c more q.links_within cut in
      let j_in : j < length c.froms.items = omega (arith, back.size) in
      let f : get_or c.froms.items j 0 < length old = rw (sym (back.less.froms j j_in)) (omega (arith, q.from_within j lt, q.nodes_within)) in
      let t : get_or c.tos.items j 0 < length old = rw (sym (back.less.tos j j_in)) (omega (arith, q.to_within j lt, q.nodes_within)) in
      q.closed c back j p r lt (grown_back old new (get_or c.froms.items j 0) p g f a) (grown_back old new (get_or c.tos.items j 0) r g t b);
}

-- an earlier mark, after a cut at a later one
pub mark_cut : (nodes : List Node) (l c : Links) (n m j k : ℕ) → IsCutBack l m c → n ≤ length nodes → j ≤ n → k ≤ m → IsMark nodes l j k → IsMark (take n nodes) c j k
mark_cut nodes l c n m j k cut le jn km q = record {
  nodes_within = omega (arith, length-take-le n nodes le);
  links_within = omega (arith, cut.size);
  from_within = λ i lt. let b : i < length c.froms.items = omega (arith, cut.size) in rw (cut.less.froms i b) at (q.from_within i lt);
  to_within = λ i lt. let b : i < length c.froms.items = omega (arith, cut.size) in rw (cut.less.tos i b) at (q.to_within i lt);
  closed = λ d e i p r lt a b. q.closed d (cut_twice l c d m k cut e) i p r lt (take_grown n nodes (get_or d.froms.items i 0) p a) (take_grown n nodes (get_or d.tos.items i 0) r b);
}

pub arena_cut : (nodes : List Node) (l c : Links) (n m : ℕ) → IsArena nodes l → IsMark nodes l n m → IsCutBack l m c → IsForest c → length c.place.items ≡ n → IsArena (take n nodes) c
arena_cut nodes l c n m a q cut forest size = record {
  forest = forest;
  sized = length-take-le n nodes q.nodes_within ∙ sym size;
  fit = λ x v e. a.fit x v (take_grown n nodes x v e);
  directed = λ i v w z lt e f. directed_back nodes l c cut.less a.directed i v w z lt (take_grown n nodes (get_or c.froms.items i 0) v e) (take_grown n nodes (get_or c.tos.items i 0) w f);
  closed = λ i v w lt e f. q.closed c cut i v w (omega (arith, cut.size)) (take_grown n nodes (get_or c.froms.items i 0) v e) (take_grown n nodes (get_or c.tos.items i 0) w f);
  single = λ x y s v e f. a.single x y s v (take_grown n nodes x (Var s v) e) (take_grown n nodes y (Var s v) f);
}

-- ---- all as before
pub mark_before : (old new : List Node) (l m : Links) (n k : ℕ) → IsArena old l → KeepsNodes old new → IsLonger l m → n ≡ length old → k ≡ length l.froms.items → IsMark new m n k
mark_before old new l m n k a g more e d = rw (e, d) (mark_kept old new l m (length old) (length l.froms.items) (mark_now old l a) g more)

pub back_by : (old new last : List Node) (l m c : Links) (n k : ℕ) → KeepsNodes old new → IsLonger l m → n ≡ length old → k ≡ length l.froms.items → last ≡ take n new → IsCutBack m k c → IsBack old l last c
back_by old new last l m c n k g more e d is cut = record {
  nodes_are = is ∙ (ap (λ z. take z new) e ∙ grown_take old new g);
  more = longer_back l m c more cut.less (cut.size ∙ d);
  less = shorter_back l m c more cut.less (cut.size ∙ d);
}

pub cut_by : (l m c : Links) (k : ℕ) → IsLonger m l → length m.froms.items ≡ k → c.froms.items ≡ m.froms.items → c.tos.items ≡ m.tos.items → IsCutBack l k c
cut_by l m c k less size fs ts = record { less = longer_twice c m l (same_links c m (sym fs) (sym ts)) less; size = ap length fs ∙ size }
