-- Places and counts in lists.
use Rattle.std.proofs.Common.{◌≡◌, ℕ, zero, suc, ◌+◌, ◌<◌, ◌≤◌, ◌⊎◌, inl, inr, Bool, true, false, cond, nat_eq, List, [], ◌∷◌, ◌++◌, Some, map, length, reverse, flat_map, slice_get, refl, sym, subst, ap, ◌∙◌, ⊎_elim, arith}
use Rattle.std.proofs.lemmas.Bool.Decides.{eqb_tells}
use Rattle.std.proofs.lemmas.List.{reverse-append, reverse-reverse}
use Rattle.std.specs.List.{All}
use Rattle.branch_core.specs.Paths.{Turns}
use Rattle.branch_core.specs.Core.{turns_eq}
use Rattle.branch_core.specs.StandsFor.{Account}
use Rattle.branch_core.specs.Whole.{IsIn}
use Rattle.branch_core.proofs.Orderly.{none_in, turns_same, turns_sound}
use Rattle.share_words.specs.Counts.{many, path_count, number_count}
use Rattle.share_words.proofs.Counts.{many_append}
use Rattle.steal_pool.specs.Ledger.{account_paths}

get_left : {A : Type 0} (xs ys : List A) (x : A) (k : ℕ) → slice_get xs k ≡ Some x → slice_get (xs ++ ys) k ≡ Some x
get_left [] ys x k h = absurd (none_in x k h)
get_left (z ∷ xs) ys x zero h = h
get_left (z ∷ xs) ys x (suc k) h = get_left xs ys x k h

pub in_here : {A : Type 0} (x : A) (xs : List A) → IsIn x (x ∷ xs)
in_here x xs = (0, refl)

pub in_later : {A : Type 0} (y x : A) (xs : List A) → IsIn x xs → IsIn x (y ∷ xs)
in_later y x xs h = (suc h.0, h.1)

pub in_left : {A : Type 0} (xs ys : List A) (x : A) → IsIn x xs → IsIn x (xs ++ ys)
in_left xs ys x h = (h.0, get_left xs ys x h.0 h.1)

pub in_right : {A : Type 0} (xs ys : List A) (x : A) → IsIn x ys → IsIn x (xs ++ ys)
in_right [] ys x h = h
in_right (z ∷ xs) ys x h = in_later z x (xs ++ ys) (in_right xs ys x h)

pub in_split : {A : Type 0} (xs ys : List A) (x : A) → IsIn x (xs ++ ys) → IsIn x xs ⊎ IsIn x ys
in_split [] ys x h = inr h
in_split (z ∷ xs) ys x (zero, e) = inl (zero, e)
in_split (z ∷ xs) ys x (suc k, e) = ⊎_elim (λ a. inl (in_later z x xs a)) (λ b. inr b) (in_split xs ys x (k, e))

pub in_one : {A : Type 0} (y x : A) → IsIn x (y ∷ []) → x ≡ y
in_one y x (zero, e) = cc e
in_one y x (suc k, e) = absurd (none_in x k e)

pub all_in : {A : Type 0} (P : A → Type 0) (xs : List A) (x : A) → All P xs → IsIn x xs → P x
all_in P [] x all (k, e) = absurd (none_in x k e)
all_in P (y ∷ xs) x all (zero, e) = let same : y ≡ x = cc e in subst P same (all 0 y (omega arith))
all_in P (y ∷ xs) x all (suc k, e) = all_in P xs x (λ i d less. all (suc i) d (omega arith)) (k, e)

-- ---- lists turned round, and lists of lists
turned : {A : Type 0} (x : A) (xs : List A) → reverse (x ∷ xs) ≡ reverse xs ++ x ∷ []
turned x xs = reverse-append (x ∷ []) xs

pub in_reverse : {A : Type 0} (xs : List A) (x : A) → IsIn x xs → IsIn x (reverse xs)
in_reverse [] x h = h
in_reverse (y ∷ xs) x h =
    let both : IsIn x (reverse xs ++ y ∷ []) = elim (in_split (y ∷ []) xs x h) as (λ _. IsIn x (reverse xs ++ y ∷ [])) [
      | inl a ↦ in_right (reverse xs) (y ∷ []) x a
      | inr b ↦ in_left (reverse xs) (y ∷ []) x (in_reverse xs x b)
    ] in
    subst (IsIn x) (sym (turned y xs)) both

pub reverse_in : {A : Type 0} (xs : List A) (x : A) → IsIn x (reverse xs) → IsIn x xs
reverse_in xs x h = subst (IsIn x) (reverse-reverse xs) (in_reverse (reverse xs) x h)

pub in_flat : {A B : Type 0} (f : A → List B) (xs : List A) (y : B) → IsIn y (flat_map f xs) → (x : A) × IsIn x xs × IsIn y (f x)
in_flat f [] y h = absurd (none_in y h.0 h.1)
in_flat {A = A} f (x ∷ xs) y h = elim (in_split (f x) (flat_map f xs) y h) as (λ _. (z : A) × IsIn z (x ∷ xs) × IsIn y (f z)) [
  | inl a ↦ (x, in_here x xs, a)
  | inr b ↦ let r = in_flat f xs y b in (r.0, in_later x r.0 xs r.1, r.2)
]

pub flat_in : {A B : Type 0} (f : A → List B) (xs : List A) (x : A) (y : B) → IsIn x xs → IsIn y (f x) → IsIn y (flat_map f xs)
flat_in f [] x y (k, e) g = absurd (none_in x k e)
flat_in f (z ∷ xs) x y (zero, e) g =
    let same : z ≡ x = cc e in in_left (f z) (flat_map f xs) y (subst (λ w. IsIn y (f w)) (sym same) g)
flat_in f (z ∷ xs) x y (suc k, e) g = in_right (f z) (flat_map f xs) y (flat_in f xs x y (k, e) g)

-- ---- counts
pub path_count_append : (path : Turns) (xs ys : List Turns) → path_count path (xs ++ ys) ≡ path_count path xs + path_count path ys
path_count_append path xs ys = many_append (turns_eq path) xs ys

pub number_count_append : (n : ℕ) (xs ys : List ℕ) → number_count n (xs ++ ys) ≡ number_count n xs + number_count n ys
number_count_append n xs ys = many_append (nat_eq n) xs ys

module _ {A : Type 0} (test : A → Bool) where
  many_in : (xs : List A) → 0 < many test xs → (x : A) × IsIn x xs × (test x ≡ true)
  many_in [] h = absurd (omega arith)
  many_in (x ∷ xs) h = go (test x) refl (λ rest. many_in xs rest)
    where
      go : (b : Bool) → test x ≡ b → (0 < many test xs → (y : A) × IsIn y xs × (test y ≡ true)) → (y : A) × IsIn y (x ∷ xs) × (test y ≡ true)
      go true e later = (x, in_here x xs, e)
      go false e later =
          let all : 0 < cond (test x) 1 0 + many test xs = h in
          let none : cond (test x) 1 0 + 0 ≡ 0 = ap (λ (b : Bool). cond b 1 0 + 0) e in
          let rest : 0 < many test xs = omega (arith, all, none) in
          let r = later rest in (r.0, in_later x r.0 xs r.1, r.2)

  in_many : (xs : List A) (x : A) → IsIn x xs → test x ≡ true → 0 < many test xs
  in_many [] x (k, e) t = absurd (none_in x k e)
  in_many (z ∷ xs) x (zero, e) t =
      let same : z ≡ x = cc e in
      let one : cond (test z) 1 0 + 0 ≡ 1 = ap (λ (b : Bool). cond b 1 0 + 0) (ap test same ∙ t) in
      let g : 0 < cond (test z) 1 0 + many test xs = omega (arith, one) in g
  in_many (z ∷ xs) x (suc k, e) t =
      let r = in_many xs x (k, e) t in let g : 0 < cond (test z) 1 0 + many test xs = omega (arith, r) in g

-- A path or a number that is counted stands in the list.
pub counted_path : (path : Turns) (paths : List Turns) → 0 < path_count path paths → IsIn path paths
counted_path path paths h = let r = many_in (turns_eq path) paths h in subst (λ t. IsIn t paths) (sym (turns_sound path r.0 r.2)) r.1

pub path_counted : (path : Turns) (paths : List Turns) → IsIn path paths → 0 < path_count path paths
path_counted path paths h = in_many (turns_eq path) paths path h (turns_same path)

nat_sound : (m n : ℕ) → nat_eq m n ≡ true → m ≡ n
nat_sound m n h = elim (eqb_tells m n) as (λ _. m ≡ n) [ inl x ↦ x.1 | inr x ↦ cc (sym h ∙ x.0) ]

nat_same : (n : ℕ) → nat_eq n n ≡ true
nat_same n = elim (eqb_tells n n) as (λ _. nat_eq n n ≡ true) [ inl x ↦ x.0 | inr x ↦ absurd (x.1 refl) ]

pub counted_number : (n : ℕ) (ns : List ℕ) → 0 < number_count n ns → IsIn n ns
counted_number n ns h = let r = many_in (nat_eq n) ns h in subst (λ m. IsIn m ns) (sym (nat_sound n r.0 r.2)) r.1

pub number_counted : (n : ℕ) (ns : List ℕ) → IsIn n ns → 0 < number_count n ns
number_counted n ns h = in_many (nat_eq n) ns n h (nat_same n)

-- ---- accounts
-- A path that is counted is that of an account.
pub counted_account : (path : Turns) (accounts : List Account) → 0 < path_count path (account_paths accounts) → (account : Account) × IsIn account accounts × (account.path ≡ path)
counted_account path accounts h = go accounts (counted_path path (account_paths accounts) h)
  where
    go : (accounts : List Account) → IsIn path (account_paths accounts) → (account : Account) × IsIn account accounts × (account.path ≡ path)
    go [] (k, e) = absurd (none_in path k e)
    go (a ∷ rest) (zero, e) = (a, in_here a rest, cc e)
    go (a ∷ rest) (suc k, e) = let r = go rest (k, e) in (r.0, in_later a r.0 rest r.1, r.2)

pub path_at : (path : Turns) (accounts : List Account) (a : Account) (k : ℕ) → slice_get accounts k ≡ Some a → a.path ≡ path → 0 < path_count path (account_paths accounts)
path_at path accounts a k h e = path_counted path (account_paths accounts) (go accounts k h)
  where
    go : (accounts : List Account) (k : ℕ) → slice_get accounts k ≡ Some a → IsIn path (account_paths accounts)
    go [] k h = absurd (none_in a k h)
    go (b ∷ rest) zero h = let same : b ≡ a = cc h in (0, ap Some (ap (λ (z : Account). z.path) same ∙ e))
    go (b ∷ rest) (suc k) h = in_later b.path path (account_paths rest) (go rest k h)

pub account_counted : (accounts : List Account) (a : Account) → IsIn a accounts → 0 < path_count a.path (account_paths accounts)
account_counted accounts a h = path_at a.path accounts a h.0 h.1 refl

one_here : (path : Turns) (a : Account) → a.path ≡ path → cond (turns_eq path a.path) 1 0 + 0 ≡ 1
one_here path a e = ap (λ (t : Turns). cond (turns_eq path t) 1 0 + 0) e ∙ ap (λ (t : Bool). cond t 1 0 + 0) (turns_same path)

-- A path that stands once stands at one place.
pub once_at : (path : Turns) (accounts : List Account) → path_count path (account_paths accounts) ≤ 1 → (a b : Account) (j k : ℕ) → slice_get accounts j ≡ Some a → slice_get accounts k ≡ Some b → a.path ≡ path → b.path ≡ path → j ≡ k
once_at path [] few a b j k g h d e = absurd (none_in a j g)
once_at path (c ∷ rest) few a b zero zero g h d e = refl
once_at path (c ∷ rest) few a b zero (suc k) g h d e =
    let all : cond (turns_eq path c.path) 1 0 + path_count path (account_paths rest) ≤ 1 = few in
    let t = path_at path rest b k h e in
    let same : c ≡ a = cc g in
    let one = one_here path c (ap (λ (z : Account). z.path) same ∙ d) in
    absurd (omega (arith, one, t, all))
once_at path (c ∷ rest) few a b (suc j) zero g h d e =
    let all : cond (turns_eq path c.path) 1 0 + path_count path (account_paths rest) ≤ 1 = few in
    let t = path_at path rest a j g d in
    let same : c ≡ b = cc h in
    let one = one_here path c (ap (λ (z : Account). z.path) same ∙ e) in
    absurd (omega (arith, one, t, all))
once_at path (c ∷ rest) few a b (suc j) (suc k) g h d e =
    let all : cond (turns_eq path c.path) 1 0 + path_count path (account_paths rest) ≤ 1 = few in
    let less : path_count path (account_paths rest) ≤ 1 = omega (arith, all) in ap suc (once_at path rest less a b j k g h d e)
