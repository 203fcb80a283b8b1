-- Whole records, put together, give the answer.
use Rattle.std.proofs.Common.{◌≡◌, ℕ, zero, suc, true, false, ◌⊎◌, inl, inr, List, [], ◌∷◌, ◌++◌, map, Some, None, slice_get, refl, sym, subst, ap, ◌∙◌}
use Rattle.std.proofs.lemmas.Bool.Decides.{leb_tells}
use Rattle.me_terms.specs.Measures.{list_weight}
use Rattle.me_terms.specs.Values.{ProblemValue}
use Rattle.me_terms.specs.Context.{Context}
use Rattle.me_terms.specs.FirstOccurrences.{first_occurrences}
use Rattle.me_terms.specs.Outcome.{TreeOutcome, Closed, Sat, Met, both, HasOutcome}
use Rattle.me_terms.specs.Answer.{AnswerValue, answer_of, HasAnswer}
use Rattle.me_terms.specs.Outcome as outcome
use Rattle.me_terms.specs.declared.bounds.Bound.{Bound}
use Rattle.me_terms.specs.declared.bounds.Bounds.{Bounds}
use Rattle.branch_core.specs.Paths.{Turns}
use Rattle.branch_core.specs.SearchTree.{SearchTree, Leaf, Node, IsSearchTree, closes, is_exhausted, is_bounded, asserts, splits, outcome_of, subtree, LeavesListOnce}
use Rattle.branch_core.specs.Parts.{ListedValue, PartValue, RecordValue, listed}
use Rattle.branch_core.specs.Parts as part
use Rattle.branch_core.specs.Pieces.{Piece}
use Rattle.branch_core.specs.Joined.{Joins, closed_closed, closed_bounded, bounded_closed, bounded_bounded, closed_sat, bounded_sat, sat_takes, takes_later, takes_earlier, cut_cut, Joined, as_they_are, join}
use Rattle.branch_core.specs.StandsFor.{part_of, Account, record_of}
use Rattle.branch_core.specs.RecordLaws.{WholeRecordsAnswer, WholeCutsFollowSat, LackingLoses}
use Rattle.branch_core.specs.Pieces as piece
use Rattle.branch_core.specs.Whole.{IsIn, AreWhole}
use Rattle.branch_core.specs.Filled.{IsNoGift, Filled, none_left, own, put, LacksMemory, no_memory, after_closed, after_bounded, CutsFollowSat}
use Rattle.branch_core.specs.Total.{Total, AllClosed, HasBound, HasSat, Lost, total_with, total_of, Decides}
use Rattle.instance_lists.proofs.FirstOccurrences.{first-again}
use Rattle.branch_core.proofs.Values.{Value, none_yet, plus, value_of, sum_of, PieceOnce, PiecesOnce, sum-append, once-append, weighed, total_weighed}
use Rattle.branch_core.proofs.Agreement.{Agrees, GiftValue, PieceValue, Sums, sums_once, joined_sums, replaced_once, replaced_agrees}

-- ---- joined pieces list once
joins_once : {p q one : Piece} → Joins p q one → PieceOnce p → PieceOnce q → PieceOnce one
joins_once (closed_closed {list = list} {more = more}) g h = first-again (list ++ more)
joins_once closed_bounded g h = tt
joins_once bounded_closed g h = tt
joins_once bounded_bounded g h = tt
joins_once closed_sat g h = tt
joins_once bounded_sat g h = tt
joins_once (sat_takes t) g h = tt
joins_once (takes_later t) g h = tt
joins_once (takes_earlier t) g h = tt
joins_once cut_cut g h = tt

join_once : (before after : List Piece) (p q one : Piece) → Joins p q one → PiecesOnce (before ++ p ∷ q ∷ after) → PiecesOnce (before ++ one ∷ after)
join_once [] after p q one j h = (joins_once j h.0 h.1.0, h.1.1)
join_once (b ∷ before) after p q one j h = (h.0, join_once before after p q one j h.1)

joined_once : {ps qs : List Piece} → Joined ps qs → PiecesOnce ps → PiecesOnce qs
joined_once as_they_are h = h
joined_once (join before after others first second one j later) h = joined_once later (join_once before after first second one j h)

-- ---- lists
pub in_map : {A B : Type 0} (f : A → B) (xs : List A) (k : ℕ) (y : B) → slice_get (map f xs) k ≡ Some y → (x : A) × (slice_get xs k ≡ Some x) × (y ≡ f x)
in_map f [] zero y h = cc
in_map f [] (suc k) y h = cc
in_map f (x ∷ xs) zero y h = (x, refl, cc h)
in_map f (x ∷ xs) (suc k) y h = in_map f xs k y h

-- ---- filling
record Filling (whole : SearchTree) (list_bound : ℕ) (ps : List Piece) (filled : List PartValue) : Type 0 where
  value : Value
  flat : List Piece
  sums : Sums whole ps value
  parts : filled ≡ map (part_of list_bound) flat
  once : PiecesOnce flat
  sum : sum_of flat ≡ value

pub map_append : {A B : Type 0} (f : A → B) (xs ys : List A) → map f (xs ++ ys) ≡ map f xs ++ map f ys
map_append f [] ys = refl
map_append f (x ∷ xs) ys = λ i. f x ∷ map_append f xs ys i

own_value : (whole : SearchTree) (n : ℕ) (p : Piece) → IsNoGift (part_of n p) → PieceValue whole p (value_of p)
own_value whole n (piece.Closed list) h = refl
own_value whole n (piece.Bounded b) h = refl
own_value whole n (piece.Sat turns context) h = refl
own_value whole n (piece.Gift turns) h = absurd h
own_value whole n (piece.Cut turns key) h = refl
own_value whole n piece.NoMemory h = refl

pub gift_piece : (n : ℕ) (p : Piece) (turns : Turns) → part.Gift turns ≡ part_of n p → p ≡ piece.Gift turns
gift_piece n (piece.Closed list) turns h = cc
gift_piece n (piece.Bounded b) turns h = cc
gift_piece n (piece.Sat more context) turns h = cc
gift_piece n (piece.Gift more) turns h = cc
gift_piece n (piece.Cut more key) turns h = cc
gift_piece n piece.NoMemory turns h = cc

pub heads : {A : Type 0} (x y : A) (xs ys : List A) → x ∷ xs ≡ y ∷ ys → (x ≡ y) × (xs ≡ ys)
heads x y xs ys h = (cc, cc)

module _ (search : SearchTree) (once : LeavesListOnce search) (n : ℕ) (accounts : List Account) (whole : AreWhole search accounts) (records : List RecordValue) (are : records ≡ map (record_of n) accounts) where
  sub_once : (s : SearchTree) (turns : Turns) (sub : SearchTree) → LeavesListOnce s → subtree s turns ≡ Some sub → LeavesListOnce sub
  sub_once s [] sub h e = let same : s ≡ sub = cc e in subst LeavesListOnce same h
  sub_once (Leaf o) (t ∷ turns) sub h e = cc
  sub_once (Node a b) (false ∷ turns) sub h e = sub_once a turns sub h.0 e
  sub_once (Node a b) (true ∷ turns) sub h e = sub_once b turns sub h.1 e

  account_once : (account : Account) → IsIn account accounts → PiecesOnce account.pieces
  account_once account h =
      let stands = whole.stands account h in
      joined_once stands.joined (replaced_once search stands.replaced (sub_once search account.path stands.own once stands.at_path))

  -- what an account's pieces add up to agrees with the subtree of its path
  account_agrees : (account : Account) → IsIn account accounts → (v : Value) → Sums search account.pieces v → GiftValue search account.path v
  account_agrees account h v sums =
      let stands = whole.stands account h in (
        sums_once search account.pieces v (account_once account h) sums,
        λ s at.
            let same : stands.own ≡ s = cc (sym stands.at_path ∙ at) in
            let agrees = replaced_agrees search stands.replaced (sub_once search account.path stands.own once stands.at_path) stands.at_path v (joined_sums search stands.joined v sums) in
            subst (λ (z : SearchTree). Agrees v (outcome_of z)) same agrees,
      )

  record_account : (r : RecordValue) → IsIn r records → (account : Account) × IsIn account accounts × (r ≡ record_of n account)
  record_account r h =
      let P : List RecordValue → Type 0 = λ rs. slice_get rs h.0 ≡ Some r in
      let x = in_map (record_of n) accounts h.0 r (subst P are h.1) in
      (x.0, (h.0, x.1), x.2)

  filling : {parts filled : List PartValue} → Filled records parts filled → (ps : List Piece) → parts ≡ map (part_of n) ps → PiecesOnce ps → Filling search n ps filled
  filling none_left [] e g = record { value = none_yet; flat = []; sums = refl; parts = refl; once = tt; sum = refl }
  filling none_left (p ∷ ps) e g = cc
  filling (own {first = first} {parts = parts} {filled = filled} plain later) [] e g = cc
  filling (own {first = first} {parts = parts} {filled = filled} plain later) (p ∷ ps) e g =
      let same = heads first (part_of n p) parts (map (part_of n) ps) e in
      let x = filling later ps same.1 g.1 in
      record {
        value = plus (value_of p) x.value;
        flat = p ∷ x.flat;
        sums = (value_of p, x.value, own_value search n p (subst IsNoGift same.0 plain), x.sums, refl);
        parts = λ i. same.0 i ∷ x.parts i;
        once = (g.0, x.once);
        sum = ap (plus (value_of p)) x.sum;
      }
  filling (put {gift = gift} {parts = parts} {inner = inner} {outer = outer} is_in inside later) [] e g = cc
  filling (put {gift = gift} {parts = parts} {inner = inner} {outer = outer} is_in inside later) (p ∷ ps) e g =
      let same = heads (part.Gift gift.path) (part_of n p) parts (map (part_of n) ps) e in
      let is_gift : p ≡ piece.Gift gift.path = gift_piece n p gift.path same.0 in
      let a = record_account gift is_in in
      let x = filling inside a.0.pieces (ap (λ (r : RecordValue). r.parts) a.2) (account_once a.0 a.1) in
      let y = filling later ps same.1 g.1 in
      let at_account : GiftValue search a.0.path x.value = account_agrees a.0 a.1 x.value x.sums in
      let path : a.0.path ≡ gift.path = sym (ap (λ (r : RecordValue). r.path) a.2) in
      let at_gift : GiftValue search gift.path x.value = subst (λ (t : Turns). GiftValue search t x.value) path at_account in
      record {
        value = plus x.value y.value;
        flat = x.flat ++ y.flat;
        sums = (x.value, y.value, subst (λ (z : Piece). PieceValue search z x.value) (sym is_gift) at_gift, y.sums, refl);
        parts = (λ i. x.parts i ++ y.parts i) ∙ sym (map_append (part_of n) x.flat y.flat);
        once = once-append x.flat y.flat x.once y.once;
        sum = sum-append x.flat y.flat y.once ∙ (λ i. plus (x.sum i) (y.sum i));
      }

  -- the total of the root's record, with its gifts filled in
  pub total_agrees : (root : RecordValue) (filled : List PartValue) → IsIn root records → root.path ≡ [] → Filled records root.parts filled → (v : Value) × Agrees v (outcome_of search) × (total_of n filled ≡ weighed n v)
  total_agrees root filled is_in is_root h =
      let a = record_account root is_in in
      let x = filling h a.0.pieces (ap (λ (r : RecordValue). r.parts) a.2) (account_once a.0 a.1) in
      let at_account = account_agrees a.0 a.1 x.value x.sums in
      let path : [] ≡ a.0.path = sym is_root ∙ ap (λ (r : RecordValue). r.path) a.2 in
      let at : subtree search a.0.path ≡ Some search = ap (subtree search) (sym path) in
      (x.value, at_account.1 search at, ap (total_of n) x.parts ∙ (total_weighed n x.flat x.once ∙ ap (weighed n) x.sum))

-- ---- the tree of a context
pub search_outcome : {problem : ProblemValue} {bounds : Bounds} {context : Context} {search : SearchTree} → IsSearchTree problem bounds context search → HasOutcome problem bounds context (outcome_of search)
search_outcome (closes next leaf) = outcome.closes next leaf
search_outcome (is_exhausted next) = outcome.is_exhausted next
search_outcome (is_bounded next) = outcome.is_bounded next
search_outcome (asserts next later) = outcome.asserts next (search_outcome later)
search_outcome (splits next f g) = outcome.splits next (search_outcome f) (search_outcome g) refl

pub search_once : {problem : ProblemValue} {bounds : Bounds} {context : Context} {search : SearchTree} → IsSearchTree problem bounds context search → LeavesListOnce search
search_once (closes {list = list} next leaf) =
    ap first_occurrences leaf.4 ∙ (first-again (record { clause = _; literals = leaf.0 } ∷ leaf.1) ∙ sym leaf.4)
search_once (is_exhausted next) = tt
search_once (is_bounded next) = tt
search_once (asserts next later) = search_once later
search_once (splits next f g) = (search_once f, search_once g)

-- ---- the answer
decides_weighed : (bounds : Bounds) (v : Value) (r : TreeOutcome) → Agrees v r → (weighed bounds.list v ≡ Lost) ⊎ Decides (weighed bounds.list v) (answer_of bounds r)
decides_weighed bounds None r h = inl refl
decides_weighed bounds (Some (Sat context)) r h = inr (ap (answer_of bounds) (sym h))
decides_weighed bounds (Some (Met b)) r h = inr (ap (answer_of bounds) (sym h))
decides_weighed bounds (Some (Closed list)) r h =
    inr (subst (λ (z : TreeOutcome). Decides (weighed bounds.list (Some (Closed list))) (answer_of bounds z)) h
    (elim (leb_tells (list_weight list) bounds.list) as (λ _. Decides (weighed bounds.list (Some (Closed list))) (answer_of bounds (Closed list))) [
      | inl x ↦ simp (x.0) refl
      | inr x ↦ simp (x.0) refl
    ]))

closed_lost : (n : ℕ) (list : ListedValue) (t : Total) → total_with n (AllClosed list) t ≡ Lost → t ≡ Lost
closed_lost n list (AllClosed more) h = cc
closed_lost n list (HasBound b) h = cc
closed_lost n list (HasSat context) h = cc
closed_lost n list Lost h = refl

bound_lost : (n : ℕ) (b : Bound) (t : Total) → total_with n (HasBound b) t ≡ Lost → t ≡ Lost
bound_lost n b (AllClosed more) h = cc
bound_lost n b (HasBound c) h = cc
bound_lost n b (HasSat context) h = cc
bound_lost n b Lost h = refl

abbrev pub NoGifts : List PartValue → Type 0
NoGifts [] = Unit {0}
NoGifts (p ∷ ps) = IsNoGift p × NoGifts ps

no_gifts_append : (ps qs : List PartValue) → NoGifts ps → NoGifts qs → NoGifts (ps ++ qs)
no_gifts_append [] qs g h = h
no_gifts_append (p ∷ ps) qs g h = (g.0, no_gifts_append ps qs g.1 h)

pub filled_own : {records : List RecordValue} {parts filled : List PartValue} → Filled records parts filled → NoGifts filled
filled_own none_left = tt
filled_own (own plain later) = (plain, filled_own later)
filled_own (put {inner = inner} {outer = outer} is_in inside later) = no_gifts_append inner outer (filled_own inside) (filled_own later)

lost_total : (n : ℕ) (parts : List PartValue) → NoGifts parts → CutsFollowSat parts → total_of n parts ≡ Lost → LacksMemory parts
lost_total n [] g f h = cc
lost_total n (part.Closed list ∷ parts) g f h = after_closed (lost_total n parts g.1 f (closed_lost n list (total_of n parts) h))
lost_total n (part.Bounded b ∷ parts) g f h = after_bounded (lost_total n parts g.1 f (bound_lost n b (total_of n parts) h))
lost_total n (part.Sat context ∷ parts) g f h = cc
lost_total n (part.Gift turns ∷ parts) g f h = absurd g.0
lost_total n (part.Cut key ∷ parts) g f h = absurd f
lost_total n (part.NoMemory ∷ parts) g f h = no_memory

pub lacking_loses : LackingLoses
lacking_loses n filled no_memory = refl
lacking_loses n filled (after_closed {list = list} later) = ap (total_with n (AllClosed list)) (lacking_loses n _ later)
lacking_loses n filled (after_bounded {b = b} later) = ap (total_with n (HasBound b)) (lacking_loses n _ later)

pub answer_from : WholeCutsFollowSat → WholeRecordsAnswer
answer_from follow problem bounds records root filled whole is_in is_root h found =
    let search = whole.0 in
    let once = search_once whole.1 in
    let x = total_agrees search once bounds.list whole.2.0 whole.2.1 records whole.2.2 root filled is_in is_root h in
    let follows = follow problem bounds records root filled whole is_in is_root h in
    elim (decides_weighed bounds x.0 (outcome_of search) x.1) as (λ _. (reply : AnswerValue) × Decides (total_of bounds.list filled) reply × HasAnswer problem bounds reply) [
      | inl lost ↦ absurd (found (lost_total bounds.list filled (filled_own h) follows (x.2 ∙ lost)))
      | inr d ↦ (
        answer_of bounds (outcome_of search),
        subst (λ (t : Total). Decides t (answer_of bounds (outcome_of search))) (sym x.2) d,
        (outcome_of search, search_outcome whole.1, refl),
      )
    ]
