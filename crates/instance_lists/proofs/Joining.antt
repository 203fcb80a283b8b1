-- The first occurrences of two lists are those of the first one, and then the new instances of the second one.
use Rattle.std.proofs.Common.{◌≡◌, ◌+◌, Bool, true, false, not, List, [], ◌∷◌, ◌++◌, ◌⊎◌, inl, inr, refl, sym, ap, ◌∙◌}
use Rattle.std.specs.List.{filter}
use Rattle.std.proofs.lemmas.List.Sums.{sum_by-append}
use Rattle.me_terms.specs.Values.{InstanceValue}
use Rattle.me_terms.specs.Measures.{literals_weight, list_weight}
use Rattle.me_terms.specs.FirstOccurrences.{same_instance, first_occurrences, joined}
use Rattle.me_terms.specs.InstanceEqualityLaws.{instance_laws}
use Rattle.instance_lists.specs.News.{stands_in, news, kept_by_marks}
use Rattle.instance_lists.specs.Merged.{lacked, merged}
use Rattle.instance_lists.proofs.FirstOccurrences.{others, filter_all}

bool_cases : (b : Bool) → (b ≡ true) ⊎ (b ≡ false)
bool_cases true = inl refl
bool_cases false = inr refl

-- what is new beside a list with one instance more before it is what is new beside the list, without that instance
one_before : (x : InstanceValue) (list more : List InstanceValue) → filter (others x) (kept_by_marks (news list more) more) ≡ kept_by_marks (news (x ∷ list) more) more
one_before x list [] = refl
one_before x list (i ∷ more) =
    let turn : same_instance x i ≡ same_instance i x = instance_laws.symm x i in
    let later : filter (others x) (kept_by_marks (news (list ++ i ∷ []) more) more) ≡ kept_by_marks (news (x ∷ (list ++ i ∷ [])) more) more = one_before x (list ++ i ∷ []) more in
    elim (bool_cases (stands_in list i)) as (λ _. filter (others x) (kept_by_marks (news list (i ∷ more)) (i ∷ more)) ≡ kept_by_marks (news (x ∷ list) (i ∷ more)) (i ∷ more)) [
      | inl known ↦ elim (bool_cases (same_instance i x)) as (λ _. filter (others x) (kept_by_marks (news list (i ∷ more)) (i ∷ more)) ≡ kept_by_marks (news (x ∷ list) (i ∷ more)) (i ∷ more)) [
        | inl e ↦ simp (known, e) later
        | inr e ↦ simp (known, e) later
      ]
      | inr fresh ↦ elim (bool_cases (same_instance i x)) as (λ _. filter (others x) (kept_by_marks (news list (i ∷ more)) (i ∷ more)) ≡ kept_by_marks (news (x ∷ list) (i ∷ more)) (i ∷ more)) [
        | inl e ↦ simp (fresh, e, turn) later
        | inr e ↦ simp (fresh, e, turn) (λ n. i ∷ later n)
      ]
    ]

none_before : (more : List InstanceValue) → first_occurrences more ≡ kept_by_marks (news [] more) more
none_before [] = refl
none_before (i ∷ more) = λ n. i ∷ (ap (filter (others i)) (none_before more) ∙ one_before i [] more) n

append_filter : {A : Type 0} (p : A → Bool) (xs ys : List A) → filter p (xs ++ ys) ≡ filter p xs ++ filter p ys
append_filter p [] ys = refl
append_filter p (x ∷ xs) ys =
    elim (bool_cases (p x)) as (λ _. filter p ((x ∷ xs) ++ ys) ≡ filter p (x ∷ xs) ++ filter p ys) [
      | inl e ↦ simp e (λ i. x ∷ append_filter p xs ys i)
      | inr e ↦ simp e (append_filter p xs ys)
    ]

first_and_new : (list more : List InstanceValue) → first_occurrences (list ++ more) ≡ first_occurrences list ++ kept_by_marks (news list more) more
first_and_new [] more = none_before more
first_and_new (x ∷ list) more =
    λ n. x ∷ (ap (filter (others x)) (first_and_new list more) ∙ (append_filter (others x) (first_occurrences list) (kept_by_marks (news list more) more) ∙ ap (λ (ys : List InstanceValue). filter (others x) (first_occurrences list) ++ ys) (one_before x list more))) n

-- ---- what a list lacks
lacked_by_both : (x : InstanceValue) (list xs : List InstanceValue) → filter (others x) (filter (λ i. not (stands_in list i)) xs) ≡ filter (λ i. not (stands_in (x ∷ list) i)) xs
lacked_by_both x list [] = refl
lacked_by_both x list (y ∷ ys) =
    let turn : same_instance x y ≡ same_instance y x = instance_laws.symm x y in
    let later = lacked_by_both x list ys in
    let Goal : Type 0 = filter (others x) (filter (λ i. not (stands_in list i)) (y ∷ ys)) ≡ filter (λ i. not (stands_in (x ∷ list) i)) (y ∷ ys) in
    elim (bool_cases (stands_in list y)) as (λ _. Goal) [
      | inl known ↦ elim (bool_cases (same_instance y x)) as (λ _. Goal) [
        | inl e ↦ simp (known, e) later
        | inr e ↦ simp (known, e) later
      ]
      | inr fresh ↦ elim (bool_cases (same_instance y x)) as (λ _. Goal) [
        | inl e ↦ simp (fresh, e, turn) later
        | inr e ↦ simp (fresh, e, turn) (λ n. y ∷ later n)
      ]
    ]

pub new_are_lacked : (list more : List InstanceValue) → kept_by_marks (news list more) more ≡ lacked list more
new_are_lacked [] more = sym (none_before more) ∙ sym (filter_all (first_occurrences more))
new_are_lacked (x ∷ list) more =
    sym (one_before x list more) ∙ (ap (filter (others x)) (new_are_lacked list more) ∙ lacked_by_both x list (first_occurrences more))

-- to a list in which each instance stands once, what it lacks of another one is added as the two are joined
pub merged_is_joined : (list more : List InstanceValue) → first_occurrences list ≡ list → merged list more ≡ joined list more
merged_is_joined list more once =
    ap (λ (xs : List InstanceValue). list ++ xs) (sym (new_are_lacked list more))
    ∙ sym (first_and_new list more ∙ ap (λ (xs : List InstanceValue). xs ++ kept_by_marks (news list more) more) once)

pub weight-append : (xs ys : List InstanceValue) → list_weight (xs ++ ys) ≡ list_weight xs + list_weight ys
weight-append xs ys = sum_by-append (λ (i : InstanceValue). literals_weight i.literals) xs ys
