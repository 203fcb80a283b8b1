-- Lists of instances in which each stands once: what one instance more does to first occurrences and to the weight.
use Rattle.std.proofs.Common.{◌≡◌, ℕ, ◌+◌, ◌≤◌, Bool, true, false, ◌||◌, cond, inl, inr, List, [], ◌∷◌, ◌++◌, append_assoc, refl, sym, subst, ap, ◌∙◌, arith}
use Rattle.std.specs.List.{filter, list_any}
use Rattle.std.proofs.lemmas.List.Elements.{filter-append}
use Rattle.std.proofs.lemmas.List.Folds.{list_any-append}
use Rattle.std.proofs.lemmas.List.Sums.{sum_by-cons, sum_by-append}
use Rattle.indexmap.specs.IndexSet.{insert_key}
use Rattle.me_terms.specs.Measures.{literals_weight, list_weight}
use Rattle.me_terms.specs.Values.{InstanceValue}
use Rattle.me_terms.specs.FirstOccurrences.{same_instance, first_occurrences}
use Rattle.me_terms.specs.InstanceEqualityLaws.{instance_sound, instance_itself}
use Rattle.instance_lists.proofs.FirstOccurrences.{bool_cases, filter_swap, filter_again, others}
use Rattle.ground_refutation.specs.Queue.{AreDistinctInstances, IsListing}

or_false : (a b : Bool) → (a || b) ≡ false → (a ≡ false) × (b ≡ false)
or_false true b h = cc
or_false false b h = (refl, h)

-- what stands nowhere is not filtered away
filter_none : (i : InstanceValue) (xs : List InstanceValue) → list_any (same_instance i) xs ≡ false → filter (others i) xs ≡ xs
filter_none i [] h = refl
filter_none i (x ∷ xs) h =
    let parts = or_false (same_instance i x) (list_any (same_instance i) xs) h in
    let here = parts.0 in
    simp here (λ n. x ∷ filter_none i xs parts.1 n)

-- ---- a repeat
without_repeat : (i : InstanceValue) (xs zs : List InstanceValue) → filter (others i) (first_occurrences (xs ++ i ∷ zs)) ≡ filter (others i) (first_occurrences (xs ++ zs))
without_repeat i [] zs =
    let same : same_instance i i ≡ true = instance_itself i in simp same (filter_again (others i) (first_occurrences zs))
without_repeat i (x ∷ xs) zs =
    let F = first_occurrences (xs ++ i ∷ zs) in
    let G = first_occurrences (xs ++ zs) in
    let inner : filter (others i) (filter (others x) F) ≡ filter (others i) (filter (others x) G) =
    filter_swap (others i) (others x) F ∙ (ap (filter (others x)) (without_repeat i xs zs) ∙ filter_swap (others x) (others i) G) in
    λ n. cond (others i x) (x ∷ inner n) (inner n)

pub repeat_adds_none : (i : InstanceValue) (xs zs : List InstanceValue) → list_any (same_instance i) xs ≡ true → first_occurrences (xs ++ i ∷ zs) ≡ first_occurrences (xs ++ zs)
repeat_adds_none i [] zs h = cc
repeat_adds_none i (x ∷ xs) zs h =
    elim (bool_cases (same_instance i x)) as (λ _. first_occurrences ((x ∷ xs) ++ i ∷ zs) ≡ first_occurrences ((x ∷ xs) ++ zs)) [
      | inl e ↦
          let P : InstanceValue → Type 0 = λ y. filter (others y) (first_occurrences (xs ++ i ∷ zs)) ≡ filter (others y) (first_occurrences (xs ++ zs)) in
          let inner = subst P (instance_sound i x e) (without_repeat i xs zs) in λ n. x ∷ inner n
      | inr e ↦
          let there : list_any (same_instance i) xs ≡ true = sym (ap (λ (b : Bool). b || list_any (same_instance i) xs) e) ∙ h in
          λ n. x ∷ filter (others x) (repeat_adds_none i xs zs there n)
    ]

-- ---- distinct instances
not_same : (x i : InstanceValue) → same_instance i x ≡ false → same_instance x i ≡ false
not_same x i h =
    elim (bool_cases (same_instance x i)) as (λ _. same_instance x i ≡ false) [
      | inl e ↦
          let P : InstanceValue → Type 0 = λ y. same_instance i y ≡ false in
          let away : same_instance i i ≡ false = subst P (instance_sound x i e) h in
          cc (away, instance_itself i)
      | inr e ↦ e
    ]

both_false : (a b : Bool) → a ≡ false → b ≡ false → (a || b) ≡ false
both_false a b f g = λ n. f n || g n

pub distinct_more : (i : InstanceValue) (xs : List InstanceValue) → AreDistinctInstances xs → list_any (same_instance i) xs ≡ false → AreDistinctInstances (xs ++ i ∷ [])
distinct_more i [] d h = (refl, tt)
distinct_more i (x ∷ xs) d h =
    let parts = or_false (same_instance i x) (list_any (same_instance i) xs) h in
    let last : list_any (same_instance x) (i ∷ []) ≡ false = both_false (same_instance x i) false (not_same x i parts.0) refl in
    (list_any-append (same_instance x) xs (i ∷ []) ∙ both_false (list_any (same_instance x) xs) (list_any (same_instance x) (i ∷ [])) d.0 last, distinct_more i xs d.1 parts.1)

-- distinct instances stand in front of the first occurrences
pub distinct_front : (xs zs : List InstanceValue) → AreDistinctInstances xs → (ys : List InstanceValue) × (first_occurrences (xs ++ zs) ≡ xs ++ ys)
distinct_front [] zs d = (first_occurrences zs, refl)
distinct_front (x ∷ xs) zs d =
    let later = distinct_front xs zs d.1 in
    let inner : filter (others x) (first_occurrences (xs ++ zs)) ≡ xs ++ filter (others x) later.0 =
    ap (filter (others x)) later.1 ∙ (filter-append (others x) xs later.0 ∙ ap (λ (ws : List InstanceValue). ws ++ filter (others x) later.0) (filter_none x xs d.0)) in
    (filter (others x) later.0, λ n. x ∷ inner n)

pub distinct_first : (xs : List InstanceValue) → AreDistinctInstances xs → first_occurrences xs ≡ xs
distinct_first [] d = refl
distinct_first (x ∷ xs) d = let inner = ap (filter (others x)) (distinct_first xs d.1) ∙ filter_none x xs d.0 in λ n. x ∷ inner n

-- ---- one instance more
cons_append : (xs : List InstanceValue) (i : InstanceValue) (zs : List InstanceValue) → (xs ++ i ∷ []) ++ zs ≡ xs ++ i ∷ zs
cons_append xs i zs = append_assoc xs (i ∷ []) zs

pub one_more : (xs : List InstanceValue) (i : InstanceValue) (zs : List InstanceValue) → first_occurrences (xs ++ i ∷ zs) ≡ first_occurrences (insert_key same_instance xs i ++ zs)
one_more xs i zs =
    elim (bool_cases (list_any (same_instance i) xs)) as (λ _. first_occurrences (xs ++ i ∷ zs) ≡ first_occurrences (insert_key same_instance xs i ++ zs)) [
      | inl e ↦ simp e (repeat_adds_none i xs zs e)
      | inr e ↦ simp e (ap first_occurrences (sym (cons_append xs i zs)))
    ]

-- ---- weights
weight_append : (xs ys : List InstanceValue) → list_weight (xs ++ ys) ≡ list_weight xs + list_weight ys
weight_append xs ys = sum_by-append (λ (i : InstanceValue). literals_weight i.literals) xs ys

pub weight_more : (xs : List InstanceValue) (i : InstanceValue) → list_weight (xs ++ i ∷ []) ≡ list_weight xs + literals_weight i.literals
weight_more xs i = let whole = weight_append xs (i ∷ []) in omega (arith, whole)

member_weight : (i : InstanceValue) (xs : List InstanceValue) → list_any (same_instance i) xs ≡ true → literals_weight i.literals ≤ list_weight xs
member_weight i [] h = cc
member_weight i (x ∷ xs) h =
    let whole : list_weight (x ∷ xs) ≡ literals_weight x.literals + list_weight xs = sum_by-cons (λ (j : InstanceValue). literals_weight j.literals) x xs in
    elim (bool_cases (same_instance i x)) as (λ _. literals_weight i.literals ≤ list_weight (x ∷ xs)) [
      | inl e ↦ let same = ap (λ (j : InstanceValue). literals_weight j.literals) (instance_sound i x e) in omega (arith, same, whole)
      | inr e ↦
          let there : list_any (same_instance i) xs ≡ true = sym (ap (λ (b : Bool). b || list_any (same_instance i) xs) e) ∙ h in
          let below = member_weight i xs there in omega (arith, below, whole)
    ]

-- the list weighs what is listed, at least
pub front_weight : (xs zs list : List InstanceValue) → AreDistinctInstances xs → list ≡ first_occurrences (xs ++ zs) → list_weight xs ≤ list_weight list
front_weight xs zs list d h =
    let front = distinct_front xs zs d in
    let whole : list_weight list ≡ list_weight xs + list_weight front.0 = ap list_weight (h ∙ front.1) ∙ weight_append xs front.0 in
    omega (arith, whole)

-- and an instance more where that is new
pub new_weight : (xs : List InstanceValue) (i : InstanceValue) (zs list : List InstanceValue) → AreDistinctInstances xs → list_any (same_instance i) xs ≡ false → list ≡ first_occurrences (xs ++ i ∷ zs) → list_weight xs + literals_weight i.literals ≤ list_weight list
new_weight xs i zs list d lack h =
    let turned : list ≡ first_occurrences ((xs ++ i ∷ []) ++ zs) = h ∙ ap first_occurrences (sym (cons_append xs i zs)) in
    let least = front_weight (xs ++ i ∷ []) zs list (distinct_more i xs d lack) turned in
    let more = weight_more xs i in omega (arith, least, more)

-- no instance is heavier than the list
pub one_weight : (xs : List InstanceValue) (i : InstanceValue) (zs list : List InstanceValue) → AreDistinctInstances xs → list ≡ first_occurrences (xs ++ i ∷ zs) → literals_weight i.literals ≤ list_weight list
one_weight xs i zs list d h =
    elim (bool_cases (list_any (same_instance i) xs)) as (λ _. literals_weight i.literals ≤ list_weight list) [
      | inl e ↦ let least = front_weight xs (i ∷ zs) list d h in let own = member_weight i xs e in omega (arith, least, own)
      | inr e ↦ let least = new_weight xs i zs list d e h in omega (arith, least)
    ]

-- ---- what is listed
pub listed_more : (bound weight more : ℕ) (xs : List InstanceValue) (i : InstanceValue) → IsListing bound xs weight → list_any (same_instance i) xs ≡ false → more ≡ literals_weight i.literals → weight + more ≤ bound → IsListing bound (xs ++ i ∷ []) (weight + more)
listed_more bound weight more xs i h lack own le =
    let sum = weight_more xs i in
    let before = h.weighed in
    record { distinct = distinct_more i xs h.distinct lack; weighed = omega (arith, sum, before, own); light = le }

-- a new instance goes to the end
pub inserted_new : (xs : List InstanceValue) (i : InstanceValue) → list_any (same_instance i) xs ≡ false → insert_key same_instance xs i ≡ xs ++ i ∷ []
inserted_new xs i h = simp h
