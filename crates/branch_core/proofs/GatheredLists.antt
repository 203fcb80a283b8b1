-- The lists of closed parts as one: how they are gathered from the left and the right half, and that they are what the parts add up to.
use Rattle.std.proofs.Common.{◌≡◌, ℕ, ◌≤◌, ◌<◌, true, false, inl, inr, List, [], ◌∷◌, ◌++◌, append-nil, refl, sym, subst, ap, ◌∙◌, arith, nat_le}
use Rattle.std.proofs.lemmas.Bool.Decides.{leb_tells}
use Rattle.me_terms.specs.Measures.{list_weight}
use Rattle.me_terms.specs.Values.{InstanceValue}
use Rattle.me_terms.specs.FirstOccurrences.{first_occurrences, joined}
use Rattle.branch_core.specs.SearchTree.{EachOnce}
use Rattle.branch_core.specs.Parts.{ListedValue, Whole, TooHeavy, PartValue, Closed, Bounded, Sat, Gift, Cut, NoMemory, listed}
use Rattle.branch_core.specs.Total.{listed_joined, total_with, total_of, AllClosed}
use Rattle.branch_core.specs.Gathered.{AreClosedParts, listed_of, gathered, ListedOnce}
use Rattle.instance_lists.proofs.FirstOccurrences.{first-again, joined-assoc, weight-left, weight-right}

-- ---- what the parts add up to
pub total_gathered : (n : ℕ) (parts : List PartValue) → AreClosedParts parts → total_of n parts ≡ AllClosed (gathered n parts)
total_gathered n [] h = refl
total_gathered n (Closed list ∷ parts) h = ap (total_with n (AllClosed list)) (total_gathered n parts h.1)
total_gathered n (Bounded b ∷ parts) h = absurd h.0
total_gathered n (Sat context ∷ parts) h = absurd h.0
total_gathered n (Gift turns ∷ parts) h = absurd h.0
total_gathered n (Cut key ∷ parts) h = absurd h.0
total_gathered n (NoMemory ∷ parts) h = absurd h.0

-- ---- light lists
pub le_true : (a b : ℕ) → a ≤ b → nat_le a b ≡ true
le_true a b h = elim (leb_tells a b) as (λ _. nat_le a b ≡ true) [ inl x ↦ x.0 | inr x ↦ absurd (omega (arith, x.1, h)) ]

pub le_false : (a b : ℕ) → b < a → nat_le a b ≡ false
le_false a b h = elim (leb_tells a b) as (λ _. nat_le a b ≡ false) [ inl x ↦ absurd (omega (arith, x.1, h)) | inr x ↦ x.0 ]

-- the list has each instance once and weighs no more than the bound
abbrev IsLight : ℕ → ListedValue → Type 0
IsLight n (Whole list) = EachOnce list × (list_weight list ≤ n)
IsLight n TooHeavy = Unit {0}

listed_light : (n : ℕ) (list : List InstanceValue) → EachOnce list → IsLight n (listed n list)
listed_light n list once =
    elim (leb_tells (list_weight list) n) as (λ _. IsLight n (listed n list)) [
      | inl x ↦ simp (x.0) (once, x.1)
      | inr x ↦ simp (x.0) tt
    ]

joined_light : (n : ℕ) (a b : ListedValue) → IsLight n (listed_joined n a b)
joined_light n (Whole list) (Whole more) = listed_light n (joined list more) (first-again (list ++ more))
joined_light n (Whole list) TooHeavy = tt
joined_light n TooHeavy b = tt

gathered_light : (n : ℕ) (parts : List PartValue) → IsLight n (gathered n parts)
gathered_light n [] = (refl, omega arith)
gathered_light n (first ∷ parts) = joined_light n (listed_of first) (gathered n parts)

light_once : (n : ℕ) (a : ListedValue) → IsLight n a → ListedOnce a
light_once n (Whole list) h = h.0
light_once n TooHeavy h = tt

pub gathered_once : (n : ℕ) (parts : List PartValue) → ListedOnce (gathered n parts)
gathered_once n parts = light_once n (gathered n parts) (gathered_light n parts)

-- ---- the empty list
empty_joined : (n : ℕ) (a : ListedValue) → IsLight n a → listed_joined n (Whole []) a ≡ a
empty_joined n (Whole list) h = ap (listed n) h.0 ∙ (let light : nat_le (list_weight list) n ≡ true = le_true (list_weight list) n h.1 in simp light)
empty_joined n TooHeavy h = refl

pub joined_empty : (n : ℕ) (a : ListedValue) → listed_joined n (Whole []) a ≡ listed_joined n a (Whole [])
joined_empty n (Whole list) = ap (λ (xs : List InstanceValue). listed n (first_occurrences xs)) (sym (append-nil list))
joined_empty n TooHeavy = refl

-- ---- three lists
front_weighs : (a b c : List InstanceValue) → list_weight (joined a b) ≤ list_weight (joined (joined a b) c)
front_weighs a b c =
    let P : List InstanceValue → Type 0 = λ xs. list_weight xs ≤ list_weight (joined (joined a b) c) in
    subst P (first-again (a ++ b)) (weight-left (joined a b) c)

back_weighs : (a b c : List InstanceValue) → list_weight (joined b c) ≤ list_weight (joined a (joined b c))
back_weighs a b c =
    let P : List InstanceValue → Type 0 = λ xs. list_weight xs ≤ list_weight (joined a (joined b c)) in
    subst P (first-again (b ++ c)) (weight-right a (joined b c))

three_joined : (n : ℕ) (a b c : List InstanceValue) → listed_joined n (listed n (joined a b)) (Whole c) ≡ listed_joined n (Whole a) (listed n (joined b c))
three_joined n a b c =
    let same : list_weight (joined (joined a b) c) ≡ list_weight (joined a (joined b c)) = ap list_weight (joined-assoc a b c) in
    let Goal : Type 0 = listed_joined n (listed n (joined a b)) (Whole c) ≡ listed_joined n (Whole a) (listed n (joined b c)) in
    elim (leb_tells (list_weight (joined a b)) n) as (λ _. Goal) [
      | inl x ↦ elim (leb_tells (list_weight (joined b c)) n) as (λ _. Goal) [
        | inl y ↦ simp (x.0, y.0) (ap (listed n) (joined-assoc a b c))
        | inr y ↦
            let heavy : nat_le (list_weight (joined (joined a b) c)) n ≡ false = le_false (list_weight (joined (joined a b) c)) n (omega (arith, y.1, same, back_weighs a b c)) in
            simp (x.0, y.0, heavy)
      ]
      | inr x ↦ elim (leb_tells (list_weight (joined b c)) n) as (λ _. Goal) [
        | inl y ↦
            let heavy : nat_le (list_weight (joined a (joined b c))) n ≡ false = le_false (list_weight (joined a (joined b c))) n (omega (arith, x.1, same, front_weighs a b c)) in
            simp (x.0, y.0, heavy)
        | inr y ↦ simp (x.0, y.0)
      ]
    ]

none_joined : (n : ℕ) (list : List InstanceValue) → listed_joined n (listed n list) TooHeavy ≡ TooHeavy
none_joined n list =
    elim (leb_tells (list_weight list) n) as (λ _. listed_joined n (listed n list) TooHeavy ≡ TooHeavy) [ inl x ↦ simp (x.0) | inr x ↦ simp (x.0) ]

listed-joined-assoc : (n : ℕ) (a b c : ListedValue) → listed_joined n (listed_joined n a b) c ≡ listed_joined n a (listed_joined n b c)
listed-joined-assoc n TooHeavy b c = refl
listed-joined-assoc n (Whole a) TooHeavy c = refl
listed-joined-assoc n (Whole a) (Whole b) TooHeavy = none_joined n (joined a b)
listed-joined-assoc n (Whole a) (Whole b) (Whole c) = three_joined n a b c

-- ---- two halves
pub gathered_halves : (n : ℕ) (left right : List PartValue) → listed_joined n (gathered n left) (gathered n right) ≡ gathered n (left ++ right)
gathered_halves n [] right = empty_joined n (gathered n right) (gathered_light n right)
gathered_halves n (first ∷ left) right =
    listed-joined-assoc n (listed_of first) (gathered n left) (gathered n right) ∙ ap (listed_joined n (listed_of first)) (gathered_halves n left right)
