-- Marks as a node is opened and done.
use Rattle.std.proofs.Common.{◌≡◌, ℕ, zero, suc, ◌+◌, ◌-◌, ◌*◌, ◌<◌, ◌≤◌, ◌≢◌, List, [], ◌∷◌, length, set, take, get_or, Some, slice_get, Vec, Global, eqb, ltb, cond, max, refl, ap, sym, subst, ◌∙◌, arith, inl, inr}
use Rattle.std.specs.List.{count_by}
use Rattle.std.proofs.lemmas.List.{get_or-set_same, get_or-set_other, length-set, get_or-take, length-take-le}
use Rattle.std.proofs.lemmas.List.Sums.{sum_by-set}
use Rattle.std.proofs.lemmas.Bool.{cases_eq}
use Rattle.std.proofs.lemmas.Grind.{common_steps}
use Rattle.me_terms.specs.Terms as tree
use Rattle.me_terms.specs.Terms.{TermValue, height, heights}
use Rattle.me_unify.specs.declared.links.Links.{Links}
use Rattle.me_unify.specs.declared.node.Node.{Node}
use Rattle.me_unify.specs.declared.node.Node.TheVariants.{Var, App}
use Rattle.me_unify.specs.Linked.{NONE, IsForest, AreNodes, AreClosed, Colouring, coloured}
use Rattle.me_unify.specs.Ordered.{IsDoneBefore, LeadsBefore, IsOrdered, HasOrder, IsSequence}

pub white_less : (o : List ℕ) (x : ℕ) → x < length o → get_or o x 0 ≡ 0 → count_by (λ m. eqb m 0) (set o x 1) + 1 ≡ count_by (λ m. eqb m 0) o
white_less o x h white =
    let e = sum_by-set (λ m. cond (eqb m 0) 1 0) o x 1 0 h in
    let f = rw white at e in
    omega (arith, f)

same_room : (o : List ℕ) (x : ℕ) → x < length o → get_or o x 0 ≡ 0 → count_by (λ m. ltb m 2) (set o x 1) ≡ count_by (λ m. ltb m 2) o
same_room o x h white =
    let e = sum_by-set (λ m. cond (ltb m 2) 1 0) o x 1 0 h in
    let f = rw white at e in
    omega (arith, f)

less_room : (o : List ℕ) (x c : ℕ) → x < length o → get_or o x 0 ≡ 1 → 2 ≤ c → count_by (λ m. ltb m 2) (set o x c) + 1 ≡ count_by (λ m. ltb m 2) o
less_room o x c h open_one big =
    let e = sum_by-set (λ m. cond (ltb m 2) 1 0) o x c 0 h in
    let f = rw open_one at e in
    let small : ltb c 2 ≡ Rattle.std.proofs.Common.false = grind (arith, common_steps) in
    let g = rw small at f in
    omega (arith, g)

pub fewer_white : (o : List ℕ) (x c : ℕ) → x < length o → get_or o x 0 ≡ 1 → 2 ≤ c → count_by (λ m. eqb m 0) (set o x c) ≡ count_by (λ m. eqb m 0) o
fewer_white o x c h open_one big =
    let e = sum_by-set (λ m. cond (eqb m 0) 1 0) o x c 0 h in
    let f = rw open_one at e in
    let small : eqb c 0 ≡ Rattle.std.proofs.Common.false = grind (arith, common_steps) in
    let g = rw small at f in
    omega (arith, g)

before_set : (o : List ℕ) (x c n y : ℕ) → x < length o → get_or o x 0 < 2 → IsDoneBefore o n y → IsDoneBefore (set o x c) n y
before_set o x c n y h small b =
    let ne : y ≢ x = λ e. let z : get_or o y 0 ≡ get_or o x 0 = ap (λ w. get_or o w 0) e in omega (arith, b.0, z) in
    rw (get_or-set_other o x y c 0 ne) b

leads_set : (nodes : List Node) (l : Links) (o : List ℕ) (x c n y : ℕ) → x < length o → get_or o x 0 < 2 → LeadsBefore nodes l o n y → LeadsBefore nodes l (set o x c) n y
leads_set nodes l o x c n y h small q = record {
  linked = λ ne. before_set o x c n _ h small (q.linked ne);
  apps = λ e f args at i lt. before_set o x c n _ h small (q.apps e f args at i lt);
}

pub entered : (nodes : List Node) (l : Links) (o : List ℕ) (count x : ℕ) (list : List ℕ) → IsOrdered nodes l o count list → x < length o → get_or o x 0 ≡ 0 → IsOrdered nodes l (set o x 1) count list
entered nodes l o count x list q h white =
    let len : length (set o x 1) ≡ length o = length-set o x 1 in
    let here : get_or (set o x 1) x 0 ≡ 1 = get_or-set_same o x 1 0 h in
    let apart : (y : ℕ) → 2 ≤ get_or (set o x 1) y 0 → y ≢ x = λ y b e. let z : get_or (set o x 1) y 0 ≡ get_or (set o x 1) x 0 = ap (λ w. get_or (set o x 1) w 0) e in omega (arith, z, here, b) in
    record {
      sized = len ∙ q.sized;
      above = q.above;
      room = omega (arith, q.room, len, same_room o x h white);
      below = λ y w b. let ne = apart y b in let k = get_or-set_other o x y 1 0 ne in rw k (q.below y (omega arith) (rw k at b));
      done = λ y w b. let ne = apart y b in let k = get_or-set_other o x y 1 0 ne in
          rw k (leads_set nodes l o x 1 (get_or o y 0) y h (omega arith) (q.done y (omega arith) (rw k at b)));
      listed_size = q.listed_size;
      listed = λ y w b. let ne = apart y b in let k = get_or-set_other o x y 1 0 ne in rw k (q.listed y (omega arith) (rw k at b));
      placed = λ p lt. let r = q.placed p lt in
          let ne : get_or list p 0 ≢ x = λ e. let z : get_or o (get_or list p 0) 0 ≡ get_or o x 0 = ap (λ w. get_or o w 0) e in omega (arith, z, r.1) in
          (omega (arith, r.0, len), get_or-set_other o x (get_or list p 0) 1 0 ne ∙ r.1);
    }

-- there is room for one place more
pub room_left : (nodes : List Node) (l : Links) (o : List ℕ) (count x : ℕ) (list : List ℕ) → IsOrdered nodes l o count list → x < length o → get_or o x 0 ≡ 1 → count < length list + 2
room_left nodes l o count x list q h grey = omega (arith, q.room, q.sized, q.listed_size, less_room o x count h grey q.above)

pub finished : (nodes : List Node) (l : Links) (o : List ℕ) (count x : ℕ) (list : List ℕ) → IsOrdered nodes l o count list → x < length o → get_or o x 0 ≡ 1 → LeadsBefore nodes l o count x
    → IsOrdered nodes l (set o x count) (count + 1) (set list (count - 2) x)
finished nodes l o count x list q h grey leads =
    let len : length (set o x count) ≡ length o = length-set o x count in
    let wide : length (set list (count - 2) x) ≡ length list = length-set list (count - 2) x in
    let here : get_or (set o x count) x 0 ≡ count = get_or-set_same o x count 0 h in
    let two : 2 ≤ count = q.above in
    let left : count < length list + 2 = room_left nodes l o count x list q h grey in
    let there : get_or (set list (count - 2) x) (count - 2) 0 ≡ x = get_or-set_same list (count - 2) x 0 (omega arith) in
    let r = less_room o x count h grey q.above in
    record {
      sized = len ∙ q.sized;
      above = omega (arith, q.above);
      room = omega (arith, q.room, len, r);
      below = λ y w b. elim (cases_eq y x) [
        | inl e ↦ (let P : ℕ → Type 0 = λ z. get_or (set o x count) z 0 < count + 1 in subst P (sym e) (rw here (omega arith)))
        | inr ne ↦ (let k = get_or-set_other o x y count 0 ne in let f = q.below y (omega arith) (rw k at b) in rw k (omega arith))
      ];
      done = λ y w b. elim (cases_eq y x) [
        | inl e ↦ (let P : ℕ → Type 0 = λ z. LeadsBefore nodes l (set o x count) (get_or (set o x count) z 0) z in
            subst P (sym e) (rw here (leads_set nodes l o x count count x h (omega arith) leads)))
        | inr ne ↦ (let k = get_or-set_other o x y count 0 ne in
            rw k (leads_set nodes l o x count (get_or o y 0) y h (omega arith) (q.done y (omega arith) (rw k at b))))
      ];
      listed_size = wide ∙ q.listed_size;
      listed = λ y w b. elim (cases_eq y x) [
        | inl e ↦ (let P : ℕ → Type 0 = λ z. get_or (set list (count - 2) x) (get_or (set o x count) z 0 - 2) 0 ≡ z in subst P (sym e) (rw here there))
        | inr ne ↦
            (let k = get_or-set_other o x y count 0 ne in
            let big : 2 ≤ get_or o y 0 = rw k at b in
            let f = q.below y (omega arith) big in
            let other : get_or o y 0 - 2 ≢ count - 2 = λ e. omega arith in
            rw k (get_or-set_other list (count - 2) (get_or o y 0 - 2) x 0 other ∙ q.listed y (omega arith) big))
      ];
      placed = λ p lt. elim (cases_eq p (count - 2)) [
        | inl e ↦
            (let P : ℕ → Type 0 = λ z. (get_or (set list (count - 2) x) z 0 < length (set o x count)) × (get_or (set o x count) (get_or (set list (count - 2) x) z 0) 0 ≡ z + 2) in
            subst P (sym e) (rw there (omega (arith, len)), rw there (rw here (omega arith))))
        | inr ne ↦
            (let r = q.placed p (omega arith) in
            let same : get_or (set list (count - 2) x) p 0 ≡ get_or list p 0 = get_or-set_other list (count - 2) p x 0 ne in
            let other : get_or list p 0 ≢ x = λ e. let z : get_or o (get_or list p 0) 0 ≡ get_or o x 0 = ap (λ w. get_or o w 0) e in omega (arith, z, r.1) in
            (rw same (omega (arith, r.0, len)), rw same (get_or-set_other o x (get_or list p 0) count 0 other ∙ r.1)))
      ];
    }

-- ---- an argument is lower
pub arg_lower : (h : Colouring) (xs : List ℕ) (i : ℕ) → i < length xs → height (h (get_or xs i 0)) ≤ heights (coloured h xs)
arg_lower h [] i lt = absurd (omega arith)
arg_lower h (x ∷ xs) zero lt = omega arith
arg_lower h (x ∷ xs) (suc i) lt = let r = arg_lower h xs i (omega arith) in omega arith

pub app_lower : (h : Colouring) (x f : ℕ) (args : List ℕ) (i : ℕ) → h x ≡ tree.App f (coloured h args) → i < length args → height (h (get_or args i 0)) < height (h x)
app_lower h x f args i e lt = let z : height (h x) ≡ 1 + heights (coloured h args) = ap height e in let r = arg_lower h args i lt in omega arith

pub leads_var : (nodes : List Node) (l : Links) (o : List ℕ) (n x s v : ℕ) → get_or l.place.items x 0 ≡ NONE → ((w : Node) → slice_get nodes x ≡ Some w → w ≡ Var s v) → LeadsBefore nodes l o n x
leads_var nodes l o n x s v e is = record {
  linked = λ ne. absurd (ne e);
  apps = λ z f args at i lt. let q : App f args ≡ Var s v = is (App f args) at in cc;
}

pub leads_app : (nodes : List Node) (l : Links) (o : List ℕ) (n x f : ℕ) (args : Vec ℕ Global) → get_or l.place.items x 0 ≡ NONE → ((w : Node) → slice_get nodes x ≡ Some w → w ≡ App f args)
    → ((i : ℕ) → i < length args.items → IsDoneBefore o n (get_or args.items i 0)) → LeadsBefore nodes l o n x
leads_app nodes l o n x f args e is each = record {
  linked = λ ne. absurd (ne e);
  apps = λ z g others at i lt. let q : App g others ≡ App f args = is (App g others) at in
      let same : others ≡ args = cc in
      let P : Vec ℕ Global → Type 0 = λ v. i < length v.items → IsDoneBefore o n (get_or v.items i 0) in
      subst P (sym same) (each i) lt;
}

-- ---- when every node is done
pub sequence_of : (nodes : List Node) (l : Links) (o : List ℕ) (count : ℕ) (list : List ℕ) → IsForest l → length nodes ≡ length l.place.items → AreNodes nodes → AreClosed nodes l (length l.froms.items) → IsOrdered nodes l o count list
    → ((x : ℕ) → x < length nodes → 2 ≤ get_or o x 0) → IsSequence nodes l (take (count - 2) list)
sequence_of nodes l o count list forest sized fit closed q done =
    let within : (x : ℕ) → x < length nodes → x < length o = λ x w. omega (arith, q.sized) in
    let two : 2 ≤ count = q.above in
    let most : count ≤ length o + 2 = omega (arith, q.room) in
    let size : length (take (count - 2) list) ≡ count - 2 = length-take-le (count - 2) list (omega (arith, q.listed_size, q.sized)) in
    let low : (x : ℕ) → x < length nodes → get_or o x 0 - 2 < count - 2 = λ x w. let a = q.below x (within x w) (done x w) in let d = done x w in omega arith in
    record {
      rank = λ x. get_or o x 0 - 2;
      settled = record {
        forest = forest;
        sized = sized;
        fit = fit;
        closed = closed;
        below = λ x w. rw size (low x w);
        linked = λ x w ne. let d = q.done x (within x w) (done x w) in let b = d.linked ne in omega (arith, b.0, b.1);
        apps = λ x w e f args at i lt. let d = q.done x (within x w) (done x w) in let b = d.apps e f args at i lt in omega (arith, b.0, b.1);
      };
      listed = λ x w. get_or-take (count - 2) list (get_or o x 0 - 2) 0 (low x w) ∙ q.listed x (within x w) (done x w);
      placed = λ p lt.
          let b : p < count - 2 = rw size at lt in
          let r = q.placed p (omega arith) in
          let same : get_or (take (count - 2) list) p 0 ≡ get_or list p 0 = get_or-take (count - 2) list p 0 b in
          (rw same (omega (arith, r.0, q.sized)), rw same (let z : get_or o (get_or list p 0) 0 ≡ p + 2 = r.1 in omega arith));
    }

pub order_of : (nodes : List Node) (l : Links) (list : List ℕ) → IsSequence nodes l list → HasOrder nodes l
order_of nodes l list q = (q.rank, (length list, q.settled))
