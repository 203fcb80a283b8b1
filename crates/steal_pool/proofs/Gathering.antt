-- What seat 0 has once it took in the others.
use Rattle.std.proofs.Common.{◌≡◌, ℕ, zero, suc, ◌<◌, ◌≤◌, ◌⊎◌, inl, inr, Bool, true, false, ◌||◌, List, [], ◌∷◌, ◌++◌, map, length, slice_index_or, refl, sym, subst, ap, ◌∙◌, arith}
use Rattle.std.proofs.lemmas.Bool.Decides.{leb_tells}
use Rattle.std.proofs.lemmas.List.{map-append}
use Rattle.me_terms.specs.Values.{ProblemValue}
use Rattle.me_terms.specs.Grown.{start, started}
use Rattle.me_terms.specs.declared.bounds.Bounds.{Bounds}
use Rattle.me_laws_existence.proofs.Outcomes as exists
use Rattle.branch_core.proofs.Trees.{searches_are_trees}
use Rattle.branch_core.specs.Paths.{Turns}
use Rattle.branch_core.specs.Parts.{RecordValue}
use Rattle.branch_core.specs.StandsFor.{Account, record_of}
use Rattle.branch_core.specs.Whole.{AreWholeRecords}
use Rattle.share_words.specs.Counts.{number_count}
use Rattle.share_words.specs.Lessons.{OwnLists, Learns}
use Rattle.share_words.specs.Seats.{WorkerSeatValue, WordsValue, with_gathered, seat_of, GatheredAll}
use Rattle.share_words.specs.Views.{new_view}
use Rattle.share_words.proofs.Counts.{number_count_here}
use Rattle.steal_pool.specs.Ledger.{ExplorerTree, explorer_tree, told_of, account_paths, record_paths, HasAccounts, IsKept, IsSameSeat}
use Rattle.steal_pool.specs.Explored.{AreExplored}
use Rattle.steal_pool.specs.Crew.{up_to, HasNumbers}
use Rattle.steal_pool.proofs.Booking.{accounts_both, no_accounts}
use Rattle.steal_pool.proofs.Lists.{number_count_append}
use Rattle.steal_pool.proofs.Told.{told_append, told_posted}
use Rattle.steal_pool.proofs.Wholeness.{whole, fit}

-- ---- seats
-- A new seat has no records.
pub new_kept : (q : ExplorerTree) (words : WordsValue) (n : ℕ) → IsKept q words false [] (seat_of words.id (new_view n))
new_kept q words n = record { of_words = refl; raised = refl; booked = λ h. record { taken = refl; ended = refl; accounts = no_accounts q } }

or_left : (a b : Bool) → (a || b) ≡ false → a ≡ false
or_left false b h = refl
or_left true b h = cc h

or_right : (a b : Bool) → (a || b) ≡ false → b ≡ false
or_right false b h = h
or_right true b h = cc h

-- Two seats as one.
pub join_books : (q : ExplorerTree) (words : WordsValue) (lacks more : Bool) (ours theirs : List RecordValue) (a b : WorkerSeatValue) → IsKept q words lacks ours a → IsKept q words more theirs b → IsKept q words (lacks || more) (ours ++ theirs) (with_gathered a b)
join_books q words lacks more ours theirs a b h g =
    let raised : a.raised ++ b.raised ≡ a.offered ++ b.offered = (λ i. h.raised i ++ g.raised i) in
    record {
      of_words = h.of_words;
      raised = raised;
      booked = λ none.
          let x = h.booked (or_left lacks more none) in
          let y = g.booked (or_right lacks more none) in
          let paths = sym (map-append (λ (z : RecordValue). z.path) ours theirs) in
          let both = accounts_both q ours theirs a.offered b.offered a.posted b.posted (told_of a.looked) (told_of b.looked) x.accounts y.accounts in
          record {
            taken = (λ i. x.taken i ++ y.taken i) ∙ paths;
            ended = (λ i. x.ended i ++ y.ended i) ∙ paths;
            accounts = subst (HasAccounts q (ours ++ theirs) (a.offered ++ b.offered) (a.posted ++ b.posted)) (sym (told_append a.looked b.looked)) both;
          };
    }

-- ---- numbers
-- Lists of one length with the same numbers at each place.
pub same_map : {A B : Type 0} (f : A → ℕ) (g : B → ℕ) (xs : List A) (ys : List B) → length xs ≡ length ys → ((i : ℕ) (d : A) (e : B) → i < length ys → f (slice_index_or xs i d) ≡ g (slice_index_or ys i e)) → map f xs ≡ map g ys
same_map f g [] [] n h = refl
same_map f g [] (y ∷ ys) n h = absurd (omega arith)
same_map f g (x ∷ xs) [] n h = absurd (omega arith)
same_map f g (x ∷ xs) (y ∷ ys) n h =
    let head : f x ≡ g y = h 0 x y (omega arith) in
    let tail = same_map f g xs ys (omega arith) (λ i d e less. h (suc i) d e (omega arith)) in (λ i. head i ∷ tail i)

count_one : (n : ℕ) → number_count n (n ∷ []) ≡ 1
count_one n = number_count_here n []

pub has_up_to : (k : ℕ) → HasNumbers k (up_to k)
has_up_to zero n some few = absurd (omega arith)
has_up_to (suc k) n some few =
    let a = number_count_append n (up_to k) (suc k ∷ []) in
    elim (order n k) as (λ _. 0 < number_count n (up_to k ++ suc k ∷ [])) [
      | inl past ↦
          let is : n ≡ suc k = omega arith in
          let one : number_count n (suc k ∷ []) ≡ 1 = subst (λ m. number_count n (m ∷ []) ≡ 1) is (count_one n) in omega (arith, a, one)
      | inr within ↦ let h = has_up_to k n some within in omega (arith, a, h)
    ]
  where
    order : (n k : ℕ) → (k < n) ⊎ (n ≤ k)
    order n k = elim (leb_tells n k) as (λ _. (k < n) ⊎ (n ≤ k)) [ inl x ↦ inr x.1 | inr x ↦ inl x.1 ]

-- A seat that takes in the last of the others has all numbers that they had.
pub has_moved : (forks : ℕ) (gathered others rest : List ℕ) (x : ℕ) → others ≡ rest ++ x ∷ [] → HasNumbers forks (gathered ++ others) → HasNumbers forks ((gathered ++ x ∷ []) ++ rest)
has_moved forks gathered others rest x e all n some few =
    let h = all n some few in
    let a = number_count_append n gathered others in
    let b = ap (number_count n) e ∙ number_count_append n rest (x ∷ []) in
    let c = number_count_append n gathered (x ∷ []) in
    let d = number_count_append n (gathered ++ x ∷ []) rest in
    omega (arith, h, a, b, c, d)

-- ---- the whole
paths_are : (n : ℕ) (accounts : List Account) → record_paths (map (record_of n) accounts) ≡ account_paths accounts
paths_are n [] = refl
paths_are n (a ∷ accounts) = ap (λ (l : List Turns). a.path ∷ l) (paths_are n accounts)

pub explored : (problem : ProblemValue) (bounds : Bounds) (share : ℕ) (words : WordsValue) (records : List RecordValue) (seat : WorkerSeatValue) → IsKept (explorer_tree problem bounds share) words false records seat → OwnLists seat → Learns seat 0 → AreExplored problem bounds records seat
explored problem bounds share words records seat kept lists learns =
    let o = exists.outcome problem bounds (start bounds.start) started in
    let t = (searches_are_trees problem bounds (start bounds.start)).has_search o.0 o.1 in
    let booked = kept.booked refl in
    let a = booked.accounts t.0 t.1 in
    let paths : record_paths records ≡ account_paths a.0 = ap record_paths a.2 ∙ paths_are bounds.list a.0 in
    let taken = booked.taken ∙ paths in
    let ended = booked.ended ∙ paths in
    let told = told_posted seat.looked seat.posted learns.looked in
    record {
      search = t.0;
      tree = t.1;
      accounts = a.0;
      whole = whole t.0 a.0 seat taken ended kept.raised lists learns a.1 told;
      records_are = a.2;
      fit = fit t.0 a.0 seat taken ended kept.raised lists learns a.1 told;
    }

-- Records of whole accounts over the tree are whole.
pub whole_records : (problem : ProblemValue) (bounds : Bounds) (records : List RecordValue) (seat : WorkerSeatValue) → AreExplored problem bounds records seat → AreWholeRecords problem bounds records
whole_records problem bounds records seat e = (e.search, e.tree, (e.accounts, e.whole, e.records_are))

-- A seat that gathered all has done so while its lists grow.
pub still_gathered : (old new : WorkerSeatValue) → IsSameSeat old new → GatheredAll old → GatheredAll new
still_gathered old new same all =
    record { first = same.number ∙ all.first; all = λ n some few. subst (λ l. 0 < number_count n l) (sym same.gathered) (all.all n some (subst (λ m. n ≤ m) same.forks few)) }

-- Seat 0 has no records before it takes in the others.
pub lead_kept : (q : ExplorerTree) (words : WordsValue) (n : ℕ) (start now : WorkerSeatValue) → start ≡ seat_of words.id (new_view 0) → now ≡ record start { forks = n } → IsKept q words false [] now
lead_kept q words n start now is forked =
    let P : WorkerSeatValue → Type 0 = λ s. IsKept q words false [] (record s { forks = n }) in
    subst (IsKept q words false []) (sym forked) (subst P (sym is) (record { of_words = refl; raised = refl; booked = λ h. record { taken = refl; ended = refl; accounts = no_accounts q } }))

-- All numbers of the seats that were made station among those that came back.
pub lead_numbers : (words : WordsValue) (n : ℕ) (start now : WorkerSeatValue) (backs stands : List ℕ) → start ≡ seat_of words.id (new_view 0) → now ≡ record start { forks = n } → stands ≡ up_to n → backs ≡ stands → HasNumbers now.forks (now.gathered ++ backs)
lead_numbers words n start now backs stands is forked up same =
    let forks : now.forks ≡ n = ap (λ (s : WorkerSeatValue). s.forks) forked in
    let none : now.gathered ≡ [] = ap (λ (s : WorkerSeatValue). s.gathered) forked ∙ ap (λ (s : WorkerSeatValue). s.gathered) is in
    let lists : now.gathered ++ backs ≡ up_to n = (λ i. none i ++ backs) ∙ same ∙ up in
    let P : List ℕ → Type 0 = λ l. HasNumbers now.forks l in
    let Q : ℕ → Type 0 = λ m. HasNumbers m (up_to n) in
    subst P (sym lists) (subst Q (sym forks) (has_up_to n))
