-- One more link.
use Rattle.std.proofs.Common.{◌≡◌, ℕ, ◌+◌, ◌<◌, ◌≤◌, ◌≢◌, List, [], ◌∷◌, ◌++◌, length, set, take, get_or, eqb, cond, true, refl, ap, sym, subst, ◌∙◌, arith}
use Rattle.std.proofs.lemmas.List.{get_or-set_same, get_or-set_other, get_or_append_left, get_or_push, length-set, length_push, length-take-le, get_or-take}
use Rattle.std.proofs.lemmas.List.Sums.{sum_by-set}
use Rattle.std.proofs.lemmas.Bool.{cases_lt, cases_eq}
use Rattle.std.proofs.lemmas.Grind.{common_steps}
use Rattle.std.specs.List.{count_by}
use Rattle.std.proofs.Common.{inl, inr}
use Rattle.std.specs.Prelude.{Result, Ok, Err, OnOk, OnErr, IfOk}
use Rattle.me_unify.specs.Linked.{IsLonger, AreLinks, IsLinked, NONE, Colouring, Respects, Alike, IsUnder, AreDirectedAt}
use Rattle.std.proofs.Common.{slice_get, Some}
use Rattle.me_unify.specs.declared.links.Links.{Links}
use Rattle.me_unify.specs.declared.node.Node.{Node}
use Rattle.me_unify.specs.declared.node.Node.TheVariants.{Var, App}
use Rattle.std.proofs.Common.{Vec, Global}
use Rattle.std.proofs.lemmas.Option.{get_or_from_slice_get}

is_free : ℕ → ℕ
is_free p = cond (eqb p NONE) 1 0

pub some_free : (p : List ℕ) (a : ℕ) → a < length p → get_or p a 0 ≡ NONE → 1 ≤ count_by (λ q. eqb q NONE) p
some_free p a h free =
    let e = sum_by-set (λ q. cond (eqb q NONE) 1 0) p a 0 0 h in
    let f = rw free at e in
    omega (arith, f)

pub count_set : (p : List ℕ) (a k : ℕ) → a < length p → get_or p a 0 ≡ NONE → k < NONE → count_by (λ q. eqb q NONE) (set p a k) + 1 ≡ count_by (λ q. eqb q NONE) p
count_set p a k h free lt =
    let e = sum_by-set (λ q. cond (eqb q NONE) 1 0) p a k 0 h in
    let f = rw free at e in
    grind (arith, common_steps, f)

other_linked : (p fs ts : List ℕ) (a b k x : ℕ) → AreLinks p fs ts → a < length p → x ≢ a → get_or (set p a k) x 0 ≡ get_or p x 0 → IsLinked p fs ts x
    → k ≡ length fs → k < NONE → get_or (set p a k) a 0 ≡ k → IsLinked (set p a k) (fs ++ a ∷ []) (ts ++ b ∷ []) x
other_linked p fs ts a b k x r ha other keep old is lt at_a =
    let i = get_or p x 0 in
    let lf : length (fs ++ a ∷ []) ≡ length fs + 1 = length_push fs a in
    let within : get_or p x 0 < length fs = old.stands in
    let wt : get_or p x 0 < length ts = rw r.paired within in
    let f : get_or (fs ++ a ∷ []) (get_or p x 0) 0 ≡ get_or fs (get_or p x 0) 0 = get_or_append_left fs (a ∷ []) 0 (get_or p x 0) within in
    let t : get_or (ts ++ b ∷ []) (get_or p x 0) 0 ≡ get_or ts (get_or p x 0) 0 = get_or_append_left ts (b ∷ []) 0 (get_or p x 0) wt in
    record {
      stands = rw keep (omega arith);
      from = rw (keep, f) old.from;
      later = rw (keep, t) (elim (cases_eq (get_or ts (get_or p x 0) 0) a) [
        | inl e ↦ rw (e, at_a) (omega arith)
        | inr ne ↦ rw (get_or-set_other p a (get_or ts (get_or p x 0) 0) k 0 ne) old.later
      ]);
    }

pub links_more : (p fs ts : List ℕ) (a b k : ℕ) → AreLinks p fs ts → a < length p → b < length p → a ≢ b → get_or p a 0 ≡ NONE → get_or p b 0 ≡ NONE
    → k ≡ length fs → AreLinks (set p a k) (fs ++ a ∷ []) (ts ++ b ∷ [])
links_more p fs ts a b k r ha hb ne fa fb is =
    let free = some_free p a ha fa in
    let lt : k < NONE = omega arith in
    let len : length (set p a k) ≡ length p = length-set p a k in
    let lf : length (fs ++ a ∷ []) ≡ length fs + 1 = length_push fs a in
    let lts : length (ts ++ b ∷ []) ≡ length ts + 1 = length_push ts b in
    let cs = count_set p a k ha fa lt in
    let at_a : get_or (set p a k) a 0 ≡ k = get_or-set_same p a k 0 ha in
    let ba : b ≢ a = λ e. ne (sym e) in
    let at_b : get_or (set p a k) b 0 ≡ NONE = get_or-set_other p a b k 0 ba ∙ fb in
    let last_f : get_or (fs ++ a ∷ []) k 0 ≡ a = get_or_push fs a 0 k (sym is) in
    let last_t : get_or (ts ++ b ∷ []) k 0 ≡ b = get_or_push ts b 0 k (r.paired ∙ sym is) in
    record {
      small = omega arith;
      total = omega arith;
      paired = omega arith;
      from_within = λ i h. grind (arith, common_steps, r.from_within i, get_or_append_left fs (a ∷ []) 0 i);
      to_within = λ i h. grind (arith, common_steps, r.to_within i, get_or_append_left ts (b ∷ []) 0 i);
      linked = λ x h bound.
          elim (cases_eq x a) [
            | inl e ↦
                (let P : ℕ → Type 0 = λ z. IsLinked (set p a k) (fs ++ a ∷ []) (ts ++ b ∷ []) z in
                subst P (sym e) (record { stands = rw at_a (omega arith); from = rw at_a last_f; later = rw (at_a, last_t, at_b) lt }))
            | inr other ↦
                (let keep : get_or (set p a k) x 0 ≡ get_or p x 0 = get_or-set_other p a x k 0 other in
                let bound' : get_or p x 0 ≢ NONE = λ e. bound (keep ∙ e) in
                let old : IsLinked p fs ts x = r.linked x (omega arith) bound' in
                other_linked p fs ts a b k x r ha other keep old is lt at_a)
          ];
      back = λ i h. elim (cases_lt i k) [
        | inl below ↦ (let small : i < length fs = omega arith in
            let e : get_or (fs ++ a ∷ []) i 0 ≡ get_or fs i 0 = get_or_append_left fs (a ∷ []) 0 i small in
            let was : get_or p (get_or fs i 0) 0 ≡ i = r.back i small in
            let apart : get_or fs i 0 ≢ a = λ q. let z : i ≡ NONE = sym was ∙ (ap (λ w. get_or p w 0) q ∙ fa) in absurd (omega arith) in
            rw (e, get_or-set_other p a (get_or fs i 0) k 0 apart) was)
        | inr ge ↦ (let e : i ≡ k = omega arith in
            let P : ℕ → Type 0 = λ z. get_or (set p a k) (get_or (fs ++ a ∷ []) z 0) 0 ≡ z in
            subst P (sym e) (rw last_f at_a))
      ];
    }

-- ---- what one more link says
abbrev pub RespectsAt : List ℕ → List ℕ → Colouring → Type 0
RespectsAt fs ts h = (k : ℕ) → k < length fs → h (get_or fs k 0) ≡ h (get_or ts k 0)

pub respects_more : (fs ts gs us : List ℕ) (a b : ℕ) (h : Colouring) → length ts ≡ length fs → gs ≡ fs ++ a ∷ [] → us ≡ ts ++ b ∷ []
    → RespectsAt fs ts h → h a ≡ h b → RespectsAt gs us h
respects_more fs ts gs us a b h paired fe te old same = rw (fe, te) (λ k lt. elim (cases_lt k (length fs)) [
  | inl below ↦ (let bt : k < length ts = omega arith in
      rw (get_or_append_left fs (a ∷ []) 0 k below, get_or_append_left ts (b ∷ []) 0 k bt) (old k below))
  | inr ge ↦ (let lf = length_push fs a in let e : length fs ≡ k = omega arith in
      let et : length ts ≡ k = paired ∙ e in
      rw (get_or_push fs a 0 k e, get_or_push ts b 0 k et) same)
])

pub alike_more : (fs ts gs us : List ℕ) (a b : ℕ) (h : Colouring) → length ts ≡ length fs → gs ≡ fs ++ a ∷ [] → us ≡ ts ++ b ∷ [] → RespectsAt gs us h → h a ≡ h b
alike_more fs ts gs us a b h paired fe te r =
    let lf = length_push fs a in
    let lm = ap length fe in
    let at : length fs < length gs = omega arith in
    let q : h (get_or gs (length fs) 0) ≡ h (get_or us (length fs) 0) = r (length fs) at in
    rw (get_or_push fs a 0 (length fs) refl, get_or_push ts b 0 (length fs) paired) at (rw (fe, te) at q)

-- ---- a step that adds a link or fails
pub directed_after : (nodes : List Node) (fs ts gs us : List ℕ) (a b : ℕ) → length ts ≡ length fs → gs ≡ fs ++ a ∷ [] → us ≡ ts ++ b ∷ []
    → ((m n : Node) → slice_get nodes b ≡ Some n → IsUnder m n) → AreDirectedAt nodes fs ts → AreDirectedAt nodes gs us
directed_after nodes fs ts gs us a b paired fe te new old = rw (fe, te) (λ i m n z lt. elim (cases_lt i (length fs)) [
  | inl below ↦ (let bt : i < length ts = omega arith in
      rw (get_or_append_left fs (a ∷ []) 0 i below, get_or_append_left ts (b ∷ []) 0 i bt) (old i m n z below))
  | inr ge ↦ (let lf = length_push fs a in let e : length fs ≡ i = omega arith in
      let et : length ts ≡ i = paired ∙ e in
      rw (get_or_push fs a 0 i e, get_or_push ts b 0 i et) (λ p q. new m n q))
])

pub under_app : (m n : Node) (f : ℕ) (args : Vec ℕ Global) → n ≡ App f args → IsUnder m n
under_app (Var s v) n f args e = tt
under_app (App g others) n f args e = rw e tt

pub respects_less : (l m : Links) (h : Colouring) → IsLonger l m → Respects m h → Respects l h
respects_less l m h q r k lt =
    let below : k < length m.froms.items = omega (arith, q.longer) in
    rw (q.froms k lt, q.tos k lt) at (r k below)

pub on_ok : {T E : Type 0} (r : Result T E) (P Q : Type 0) → (P → Q) → OnOk r P → OnOk r Q
on_ok (Ok x) P Q f p = f p
on_ok (Err e) P Q f p = tt

pub directed_either : {T E : Type 0} (r : Result T E) (nodes : List Node) (fs ts gs us : List ℕ) (a b : ℕ) → length ts ≡ length fs
    → OnErr r ((gs ≡ fs) × (us ≡ ts)) → OnOk r (gs ≡ fs ++ a ∷ []) → OnOk r (us ≡ ts ++ b ∷ [])
    → ((m n : Node) → slice_get nodes b ≡ Some n → IsUnder m n) → AreDirectedAt nodes fs ts → AreDirectedAt nodes gs us
directed_either (Ok x) nodes fs ts gs us a b paired e f t new old = directed_after nodes fs ts gs us a b paired f t new old
directed_either (Err d) nodes fs ts gs us a b paired e f t new old = rw (e.0, e.1) old

pub alike_either : {T E : Type 0} (r : Result T E) (l m : Links) (x y a b : ℕ) → IsLonger l m → Alike l x a → Alike l y b → OnOk r (Alike m a b) → OnOk r (Alike m x y)
alike_either (Ok v) l m x y a b q left right same =
    λ h r. let old = respects_less l m h q r in left h old ∙ (same h r ∙ sym (right h old))
alike_either (Err d) l m x y a b q left right same = tt

pub app_there : (nodes : List Node) (x : ℕ) (v n : Node) (f : ℕ) (args : Vec ℕ Global) → v ≡ get_or nodes x v → v ≡ App f args → slice_get nodes x ≡ Some n → n ≡ App f args
app_there nodes x v n f args is app there = sym (get_or_from_slice_get nodes x n v there) ∙ (sym is ∙ app)

pub alike_back : {T E : Type 0} (r : Result T E) (m : Links) (a b : ℕ) → OnOk r (Alike m a b) → OnOk r (Alike m b a)
alike_back (Ok v) m a b same = λ h r. sym (same h r)
alike_back (Err d) m a b same = tt

-- ---- one link less
count_free : (p : List ℕ) (a k : ℕ) → a < length p → get_or p a 0 ≡ k → k < NONE → count_by (λ q. eqb q NONE) (set p a NONE) ≡ count_by (λ q. eqb q NONE) p + 1
count_free p a k h is lt =
    let e = sum_by-set (λ q. cond (eqb q NONE) 1 0) p a NONE 0 h in
    let not : eqb k NONE ≡ Rattle.std.proofs.Common.false = grind (arith, common_steps) in
    let f = rw (is, not) at e in
    omega (arith, f)

pub links_less : (p fs ts : List ℕ) (a k : ℕ) → AreLinks p fs ts → length fs ≡ k + 1 → a ≡ get_or fs k 0 → AreLinks (set p a NONE) (take k fs) (take k ts)
links_less p fs ts a k r len is =
    let last : k < length fs = omega arith in
    let ha : a < length p = rw is (r.from_within k last) in
    let pa : get_or p a 0 ≡ k = rw is (r.back k last) in
    let lt : k < NONE = omega (arith, r.total, r.small) in
    let lp : length (set p a NONE) ≡ length p = length-set p a NONE in
    let lf : length (take k fs) ≡ k = length-take-le k fs (omega arith) in
    let lts : length (take k ts) ≡ k = length-take-le k ts (omega (arith, r.paired)) in
    let gf : (i : ℕ) → i < k → get_or (take k fs) i 0 ≡ get_or fs i 0 = λ i b. get_or-take k fs i 0 b in
    let gt : (i : ℕ) → i < k → get_or (take k ts) i 0 ≡ get_or ts i 0 = λ i b. get_or-take k ts i 0 b in
    let free_a : get_or (set p a NONE) a 0 ≡ NONE = get_or-set_same p a NONE 0 ha in
    let cf = count_free p a k ha pa lt in
    record {
      small = omega (arith, r.small);
      total = omega (arith, r.total);
      paired = omega arith;
      from_within = λ i b. let c : i < k = omega arith in rw (gf i c, lp) (r.from_within i (omega arith));
      to_within = λ i b. let c : i < k = omega arith in rw (gt i c, lp) (r.to_within i (omega arith));
      linked = λ x b bound.
          let other : x ≢ a = λ e. bound (ap (λ z. get_or (set p a NONE) z 0) e ∙ free_a) in
          let keep : get_or (set p a NONE) x 0 ≡ get_or p x 0 = get_or-set_other p a x NONE 0 other in
          let q = r.linked x (omega arith) (λ e. bound (keep ∙ e)) in
          let apart : get_or p x 0 ≢ k = λ e. other (sym q.from ∙ (ap (λ z. get_or fs z 0) e ∙ sym is)) in
          let c : get_or p x 0 < k = omega (arith, q.stands) in
          record {
            stands = rw keep (omega arith);
            from = rw (keep, gf (get_or p x 0) c) q.from;
            later = rw (keep, gt (get_or p x 0) c) (elim (cases_eq (get_or ts (get_or p x 0) 0) a) [
              | inl e ↦ rw (e, free_a) (omega arith)
              | inr ne ↦ rw (get_or-set_other p a (get_or ts (get_or p x 0) 0) NONE 0 ne) q.later
            ]);
          };
      back = λ i b.
          let c : i < k = omega arith in
          let bi : get_or p (get_or fs i 0) 0 ≡ i = r.back i (omega arith) in
          let ne : get_or fs i 0 ≢ a = λ e. let z : i ≡ k = sym bi ∙ (ap (λ w. get_or p w 0) e ∙ pa) in omega (arith, z) in
          rw (gf i c, get_or-set_other p a (get_or fs i 0) NONE 0 ne) bi;
    }

pub if_ok_map : {T E : Type 0} (r : Result T E) (P Q : T → Type 0) → ((a : T) → P a → Q a) → IfOk r P → IfOk r Q
if_ok_map (Ok x) P Q f p = f x p
if_ok_map (Err e) P Q f p = tt

pub if_ok_all : {T E : Type 0} (r : Result T E) (Q : T → Type 0) → ((a : T) → Q a) → IfOk r Q
if_ok_all (Ok x) Q f = f x
if_ok_all (Err e) Q f = tt
