-- The open nodes of a walk as one is opened and as the last one is done.
use Rattle.std.proofs.Common.{◌≡◌, ℕ, ◌+◌, ◌-◌, ◌<◌, ◌≤◌, ◌≢◌, List, [], ◌∷◌, ◌++◌, length, set, take, get_or, Some, slice_get, Vec, Global, refl, ap, sym, subst, ◌∙◌, arith, inl, inr}
use Rattle.std.proofs.lemmas.List.{get_or-set_same, get_or-set_other, get_or_append_left, get_or_push, length_push, get_or-take, length-take-le}
use Rattle.std.proofs.lemmas.Bool.{cases_eq, cases_lt}
use Rattle.std.proofs.lemmas.Option.{slice_get-get_or}
use Rattle.me_terms.specs.Substitutions.{Family}
use Rattle.me_unify.specs.declared.links.Links.{Links}
use Rattle.me_unify.specs.declared.node.Node.{Node}
use Rattle.me_unify.specs.declared.node.Node.TheVariants.{App}
use Rattle.me_unify.specs.declared.walk.Walk.{Walk}
use Rattle.me_unify.specs.Linked.{NONE, Colouring, IsColoured, Respects}
use Rattle.me_unify.specs.Ordered.{IsHigher, IsOrdered, LeadsBefore}
use Rattle.me_unify.specs.Walked.{AreReached, AreBefore, AreOpen, IsAbove, IsWalk}
use Rattle.me_unify.proofs.Visit.{entered, finished, leads_app, app_lower}

-- ---- marks
apart_from : (o : List ℕ) (x y : ℕ) → get_or o x 0 ≢ get_or o y 0 → x ≢ y
apart_from o x y ne e = ne (ap (λ w. get_or o w 0) e)

pub done_set : (o : List ℕ) (x c y : ℕ) → get_or o x 0 < 2 → 2 ≤ get_or o y 0 → 2 ≤ get_or (set o x c) y 0
done_set o x c y small big =
    let ne : y ≢ x = apart_from o y x (λ e. omega arith) in
    rw (get_or-set_other o x y c 0 ne) big

pub seen_set : (o : List ℕ) (x c y : ℕ) → x < length o → 1 ≤ c → 1 ≤ get_or o y 0 → 1 ≤ get_or (set o x c) y 0
seen_set o x c y h one seen = elim (cases_eq y x) [
  | inl e ↦ (let P : ℕ → Type 0 = λ z. 1 ≤ get_or (set o x c) z 0 in subst P (sym e) (rw (get_or-set_same o x c 0 h) one))
  | inr ne ↦ rw (get_or-set_other o x y c 0 ne) seen
]

pub reached_set : (nodes : List Node) (o r : List ℕ) (x c : ℕ) → get_or o x 0 < 2 → AreReached nodes o r → AreReached nodes (set o x c) r
reached_set nodes o r x c small q z f args at i lt le = done_set o x c (get_or args.items i 0) small (q z f args at i lt le)

-- ---- what is above what
pub over_twice : (l : Links) (h : Colouring) (x y z : ℕ) → IsHigher l h x y → IsHigher l h y z → IsHigher l h x z
over_twice l h x y z (inl a) (inl b) = inl (omega arith)
over_twice l h x y z (inl a) (inr b) = inl (omega (arith, b.0))
over_twice l h x y z (inr a) (inl b) = inl (omega (arith, a.0))
over_twice l h x y z (inr a) (inr b) = inr (omega (arith, a.0, b.0), omega (arith, a.1, b.1))

pub over_never : (l : Links) (h : Colouring) (x : ℕ) → IsHigher l h x x → ⊥
over_never l h x (inl a) = omega arith
over_never l h x (inr a) = omega (arith, a.1)

pub above_twice : (nodes : List Node) (l : Links) (x y z : ℕ) → IsAbove nodes l x y → IsAbove nodes l y z → IsAbove nodes l x z
above_twice nodes l x y z a b t h fits same = over_twice l h x y z (a t h fits same) (b t h fits same)

-- All that is open is above what the last one is above.
pub above_all : (nodes : List Node) (l : Links) (o st : List ℕ) (last x y : ℕ) → AreOpen nodes l o st → last + 1 ≡ length st → x ≡ get_or st last 0 → IsAbove nodes l x y
    → (i : ℕ) → i < length st → IsAbove nodes l (get_or st i 0) y
above_all nodes l o st last x y q len is low i lt =
    let at : IsAbove nodes l (get_or st last 0) y = let P : ℕ → Type 0 = λ z. IsAbove nodes l z y in subst P is low in
    elim (cases_eq i last) [
      | inl e ↦ (let P : ℕ → Type 0 = λ z. IsAbove nodes l (get_or st z 0) y in subst P (sym e) at)
      | inr ne ↦ above_twice nodes l (get_or st i 0) (get_or st last 0) y (q.falling i last (omega arith) (omega arith)) at
    ]

-- The last open node is above none that is open.
pub no_circle : (nodes : List Node) (l : Links) (o st : List ℕ) (last x y : ℕ) → AreOpen nodes l o st → last + 1 ≡ length st → x ≡ get_or st last 0 → IsAbove nodes l x y
    → y < length nodes → get_or o y 0 ≡ 1 → (t : Family) (h : Colouring) → IsColoured nodes t h → Respects l h → ⊥
no_circle nodes l o st last x y q len is low within grey t h fits same =
    let r = q.listed y within grey in
    let P : ℕ → Type 0 = λ z. IsHigher l h z y in
    over_never l h y (subst P r.1.1 (above_all nodes l o st last x y q len is low r.0 r.1.0 t h fits same))

-- ---- one more is open
pub open_push : (nodes : List Node) (l : Links) (o st : List ℕ) (y : ℕ) → AreOpen nodes l o st → length o ≡ length nodes → y < length nodes → get_or o y 0 ≡ 0
    → ((i : ℕ) → i < length st → IsAbove nodes l (get_or st i 0) y) → AreOpen nodes l (set o y 1) (st ++ y ∷ [])
open_push nodes l o st y q sized within white above =
    let len : length (st ++ y ∷ []) ≡ length st + 1 = length_push st y in
    let in_order : y < length o = omega arith in
    let top : get_or (st ++ y ∷ []) (length st) 0 ≡ y = get_or_push st y 0 (length st) refl in
    let front : (i : ℕ) → i < length st → get_or (st ++ y ∷ []) i 0 ≡ get_or st i 0 = λ i lt. get_or_append_left st (y ∷ []) 0 i lt in
    let ne : (i : ℕ) → i < length st → get_or st i 0 ≢ y = λ i lt. apart_from o (get_or st i 0) y (λ e. let m = q.marked i lt in omega arith) in
    let cases : (i : ℕ) → i < length (st ++ y ∷ []) → (P : ℕ → Type 0) → (i < length st → P (get_or st i 0)) → (i ≡ length st → P y) → P (get_or (st ++ y ∷ []) i 0) =
    λ i lt P old new. elim (cases_lt i (length st)) [
      | inl less ↦ subst P (sym (front i less)) (old less)
      | inr ge ↦ (let e : i ≡ length st = omega arith in let is : get_or (st ++ y ∷ []) i 0 ≡ y = ap (λ z. get_or (st ++ y ∷ []) z 0) e ∙ top in subst P (sym is) (new e))
    ] in
    record {
      within = λ i lt. let P : ℕ → Type 0 = λ z. z < length nodes in cases i lt P (λ less. q.within i less) (λ e. within);
      marked = λ i lt. let P : ℕ → Type 0 = λ z. get_or (set o y 1) z 0 ≡ 1 in
          cases i lt P (λ less. get_or-set_other o y (get_or st i 0) 1 0 (ne i less) ∙ q.marked i less) (λ e. get_or-set_same o y 1 0 in_order);
      apart = λ i j less lt. let b : i < length st = omega arith in
          let P : ℕ → Type 0 = λ z. get_or (st ++ y ∷ []) i 0 ≢ z in
          let Q : ℕ → Type 0 = λ z. z ≢ get_or (st ++ y ∷ []) j 0 in
          cases j lt P (λ in_front e. q.apart i j less in_front (sym (front i b) ∙ e)) (λ is e. ne i b (sym (front i b) ∙ e));
      listed = λ x w grey. elim (cases_eq x y) [
        | inl e ↦ (length st, (omega arith, top ∙ sym e))
        | inr other ↦ (let r = q.listed x w (sym (get_or-set_other o y x 1 0 other) ∙ grey) in (r.0, (omega (arith, r.1.0), front r.0 r.1.0 ∙ r.1.1)))
      ];
      falling = λ i j less lt. let b : i < length st = omega arith in
          let P : ℕ → Type 0 = λ z. IsAbove nodes l (get_or (st ++ y ∷ []) i 0) z in
          let Q : ℕ → ℕ → Type 0 = λ z w. IsAbove nodes l w z in
          cases j lt P (λ in_front. subst (Q (get_or st j 0)) (sym (front i b)) (q.falling i j less in_front)) (λ is. subst (Q y) (sym (front i b)) (above i b));
    }

-- ---- the last one is done
pub open_pop : (nodes : List Node) (l : Links) (o st : List ℕ) (last x c : ℕ) → AreOpen nodes l o st → length o ≡ length nodes → last + 1 ≡ length st → x ≡ get_or st last 0 → 2 ≤ c
    → AreOpen nodes l (set o x c) (take last st)
open_pop nodes l o st last x c q sized len is big =
    let size : length (take last st) ≡ last = length-take-le last st (omega arith) in
    let front : (i : ℕ) → i < last → get_or (take last st) i 0 ≡ get_or st i 0 = λ i lt. get_or-take last st i 0 lt in
    let in_order : x < length o = let w = q.within last (omega arith) in omega arith in
    let ne : (i : ℕ) → i < last → get_or st i 0 ≢ x = λ i lt e. q.apart i last lt (omega arith) (e ∙ is) in
    record {
      within = λ i lt. let b : i < last = rw size at lt in rw (front i b) (q.within i (omega arith));
      marked = λ i lt. let b : i < last = rw size at lt in rw (front i b) (get_or-set_other o x (get_or st i 0) c 0 (ne i b) ∙ q.marked i (omega arith));
      apart = λ i j less lt e. let b : j < last = rw size at lt in let a : i < last = omega arith in
          q.apart i j less (omega arith) (sym (front i a) ∙ (e ∙ front j b));
      listed = λ y w grey. elim (cases_eq y x) [
        | inl e ↦ (let z : get_or (set o x c) y 0 ≡ get_or (set o x c) x 0 = ap (λ v. get_or (set o x c) v 0) e in let here = get_or-set_same o x c 0 in_order in absurd (omega arith))
        | inr other ↦
            (let r = q.listed y w (sym (get_or-set_other o x y c 0 other) ∙ grey) in
            let apart_last : r.0 ≢ last = λ e. other (sym r.1.1 ∙ (ap (λ v. get_or st v 0) e ∙ sym is)) in
            let b : r.0 < last = omega (arith, r.1.0) in
            (r.0, (rw size b, front r.0 b ∙ r.1.1)))
      ];
      falling = λ i j less lt. let b : j < last = rw size at lt in let a : i < last = omega arith in
          rw (front i a, front j b) (q.falling i j less (omega arith));
    }

-- ---- what a node leads to
pub app_at : (nodes : List Node) (x : ℕ) (v : Node) (f : ℕ) (args : Vec ℕ Global) → x < length nodes → v ≡ get_or nodes x v → v ≡ App f args → slice_get nodes x ≡ Some (App f args)
app_at nodes x v f args within is app = slice_get-get_or nodes x v within ∙ ap Some (sym is ∙ app)

-- More arguments of one node are done.
pub reached_more : (nodes : List Node) (o r : List ℕ) (x n f : ℕ) (args : Vec ℕ Global) → x < length r → slice_get nodes x ≡ Some (App f args) → AreReached nodes o r
    → ((i : ℕ) → i < n → i < length args.items → 2 ≤ get_or o (get_or args.items i 0) 0) → AreReached nodes o (set r x n)
reached_more nodes o r x n f args within at q each z g others is i lt le = elim (cases_eq z x) [
  | inl e ↦
      (let there : slice_get nodes z ≡ Some (App f args) = ap (λ w. slice_get nodes w) e ∙ at in
      let both : Some (App g others) ≡ Some (App f args) = sym is ∙ there in
      let same : others ≡ args = cc in
      let P : Vec ℕ Global → Type 0 = λ v. i < length v.items → 2 ≤ get_or o (get_or v.items i 0) 0 in
      let here : get_or (set r x n) z 0 ≡ n = ap (λ w. get_or (set r x n) w 0) e ∙ get_or-set_same r x n 0 within in
      subst P (sym same) (each i (omega arith)) le)
  | inr ne ↦ (let here : get_or (set r x n) z 0 ≡ get_or r z 0 = get_or-set_other r x z n 0 ne in q z g others is i (omega arith) le)
]

pub leads_all : (nodes : List Node) (l : Links) (o : List ℕ) (n x f : ℕ) (args : Vec ℕ Global) → length o ≡ length nodes → get_or l.place.items x 0 ≡ NONE → ((w : Node) → slice_get nodes x ≡ Some w → w ≡ App f args)
    → ((i : ℕ) → i < length args.items → get_or args.items i 0 < length nodes) → ((i : ℕ) → i < length args.items → 2 ≤ get_or o (get_or args.items i 0) 0)
    → AreBefore o n → LeadsBefore nodes l o n x
leads_all nodes l o n x f args sized free is room each before =
    leads_app nodes l o n x f args free is (λ i lt. let a : get_or args.items i 0 < length o = let r = room i lt in omega arith in (each i lt, before (get_or args.items i 0) a (each i lt)))

pub above_app : (nodes : List Node) (l : Links) (x f i : ℕ) (args : Vec ℕ Global) → slice_get nodes x ≡ Some (App f args) → i < length args.items → IsAbove nodes l x (get_or args.items i 0)
above_app nodes l x f i args at lt t h fits same = inl (app_lower h x f args.items i (fits x (App f args) at) lt)

-- ---- the whole walk
pub walk_enter : (nodes : List Node) (l : Links) (w : Walk) (o li r st : List ℕ) (count y : ℕ) → IsOrdered nodes l o count li → length r ≡ length nodes → AreReached nodes o r → AreOpen nodes l o st
    → w.order.items ≡ set o y 1 → w.stack.items ≡ st ++ y ∷ [] → w.list.items ≡ li → w.count ≡ count → w.reached.items ≡ r
    → y < length nodes → get_or o y 0 ≡ 0 → ((i : ℕ) → i < length st → IsAbove nodes l (get_or st i 0) y) → IsWalk nodes l w
walk_enter nodes l w o li r st count y ordered sized reached opened eo es el ec er within white above =
    let so = ordered.sized in
    let h : y < length o = omega arith in
    record {
      ordered = rw (eo, el, ec) (entered nodes l o count y li ordered h white);
      sized = rw er sized;
      reached = rw (eo, er) (reached_set nodes o r y 1 (omega arith) reached);
      opened = rw (eo, es) (open_push nodes l o st y opened so within white above);
    }

pub walk_leave : (nodes : List Node) (l : Links) (w : Walk) (o li r st : List ℕ) (count last x : ℕ) → IsOrdered nodes l o count li → length r ≡ length nodes → AreReached nodes o r → AreOpen nodes l o st
    → last + 1 ≡ length st → x ≡ get_or st last 0 → LeadsBefore nodes l o count x
    → w.order.items ≡ set o x count → w.list.items ≡ set li (count - 2) x → w.count ≡ count + 1 → w.reached.items ≡ r → w.stack.items ≡ take last st → IsWalk nodes l w
walk_leave nodes l w o li r st count last x ordered sized reached opened len is leads eo el ec er es =
    let grey : get_or o x 0 ≡ 1 = ap (λ z. get_or o z 0) is ∙ opened.marked last (omega arith) in
    let within : x < length o = omega (arith, is, opened.within last (omega arith), ordered.sized) in
    record {
      ordered = rw (eo, el, ec) (finished nodes l o count x li ordered within grey leads);
      sized = rw er sized;
      reached = rw (eo, er) (reached_set nodes o r x count (omega arith) reached);
      opened = rw (eo, es) (open_pop nodes l o st last x count opened ordered.sized len is ordered.above);
    }

-- Where none is open, what was seen is done.
pub all_done : (nodes : List Node) (l : Links) (o st : List ℕ) (x : ℕ) → AreOpen nodes l o st → st ≡ [] → x < length nodes → 1 ≤ get_or o x 0 → 2 ≤ get_or o x 0
all_done nodes l o st x q none within seen = elim (cases_eq (get_or o x 0) 1) [
  | inl grey ↦ (let r = q.listed x within grey in absurd (omega (arith, ap length none, r.1.0)))
  | inr ne ↦ omega arith
]
