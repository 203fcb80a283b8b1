-- Accounts that fit the lists of a seat that took in all others, where none is alive, are whole.
use Rattle.std.proofs.Common.{◌≡◌, ℕ, zero, suc, ◌+◌, ◌<◌, ◌≤◌, ◌⊎◌, inl, inr, true, false, List, [], ◌∷◌, ◌++◌, Some, refl, sym, subst, ap, ◌∙◌, arith}
use Rattle.me_terms.specs.Outcome as outcome
use Rattle.branch_core.specs.Paths.{Turns, key}
use Rattle.branch_core.specs.Pieces.{Piece, Closed, Bounded, Sat, Gift, Cut, NoMemory, leaf_piece, go_left, go_right}
use Rattle.branch_core.specs.Portions.{MayCut}
use Rattle.branch_core.specs.Replaced.{Replaced, own_leaf, own_node, given, cut, no_memory}
use Rattle.branch_core.specs.Joined.{Joins, closed_closed, closed_bounded, bounded_closed, bounded_bounded, closed_sat, bounded_sat, sat_takes, takes_later, takes_earlier, cut_cut, Joined, as_they_are, join}
use Rattle.branch_core.specs.SearchTree.{SearchTree, Leaf, Node, subtree}
use Rattle.branch_core.specs.StandsFor.{Account, StandsFor}
use Rattle.branch_core.specs.Whole.{IsIn, IsLicensed, AreWhole}
use Rattle.branch_core.proofs.PathOrder.{keys_order}
use Rattle.share_words.specs.Counts.{path_count}
use Rattle.share_words.specs.Lessons.{OwnLists, Learns}
use Rattle.share_words.specs.Rule.{at_root}
use Rattle.share_words.specs.Seats.{WorkerSeatValue}
use Rattle.steal_pool.specs.Ledger.{account_paths, told_of, gifts_given, sats_posted, FitsSeat}
use Rattle.steal_pool.specs.Explored.{FitTheSeat}
use Rattle.steal_pool.proofs.Lists.{counted_account, counted_path, path_counted, account_counted, once_at}
use Rattle.steal_pool.proofs.Pieces.{gift_given, given_gift, sat_posted, posted_sat}

-- ---- subtrees
sub_left : (search : SearchTree) (turns : Turns) (left right : SearchTree) → subtree search turns ≡ Some (Node left right) → subtree search (go_left turns) ≡ Some left
sub_left (Leaf o) [] left right h = cc
sub_left (Node l r) [] left right h = cc h
sub_left (Leaf o) (t ∷ turns) left right h = cc
sub_left (Node l r) (false ∷ turns) left right h = sub_left l turns left right h
sub_left (Node l r) (true ∷ turns) left right h = sub_left r turns left right h

sub_right : (search : SearchTree) (turns : Turns) (left right : SearchTree) → subtree search turns ≡ Some (Node left right) → subtree search (go_right turns) ≡ Some right
sub_right (Leaf o) [] left right h = cc
sub_right (Node l r) [] left right h = cc h
sub_right (Leaf o) (t ∷ turns) left right h = cc
sub_right (Node l r) (false ∷ turns) left right h = sub_right l turns left right h
sub_right (Node l r) (true ∷ turns) left right h = sub_right r turns left right h

module _ (search : SearchTree) where
  replaced_more : {P Q : ℕ → Turns → Type 0} → ((k : ℕ) (t : Turns) (below : SearchTree) → subtree search t ≡ Some below → P k t → Q k t) → {turns : Turns} {own : SearchTree} {ps : List Piece} → subtree search turns ≡ Some own → Replaced P turns own ps → Replaced Q turns own ps
  replaced_more f at own_leaf = own_leaf
  replaced_more f {turns = turns} at (own_node {left = l} {right = r} a b) = own_node (replaced_more f (sub_left search turns l r at) a) (replaced_more f (sub_right search turns l r at) b)
  replaced_more f at given = given
  replaced_more f {turns = turns} {own = own} at (cut {key = k} p) = cut (f k turns own at p)
  replaced_more f at no_memory = no_memory

  -- Another condition on Cuts, where it follows at nodes of the tree.
  pub stands_at_nodes : {P Q : ℕ → Turns → Type 0} → ((k : ℕ) (t : Turns) (below : SearchTree) → subtree search t ≡ Some below → P k t → Q k t) → (account : Account) → StandsFor P search account → StandsFor Q search account
  stands_at_nodes f account s = record { own = s.own; leaves = s.leaves; at_path = s.at_path; replaced = replaced_more f s.at_path s.replaced; joined = s.joined }

  -- ---- where pieces come from
  -- A Sat is that of an exhausted leaf, and a Cut that of a node that may be cut.
  abbrev pub IsFound : (ℕ → Turns → Type 0) → Piece → Type 0
  IsFound P (Closed list) = Unit {0}
  IsFound P (Bounded b) = Unit {0}
  IsFound P (Sat leaf context) = subtree search leaf ≡ Some (Leaf (outcome.Sat context))
  IsFound P (Gift gift) = Unit {0}
  IsFound P (Cut turns k) = P k turns × ((below : SearchTree) × (subtree search turns ≡ Some below))
  IsFound P NoMemory = Unit {0}

  abbrev pub AllFound : (ℕ → Turns → Type 0) → List Piece → Type 0
  AllFound P [] = Unit {0}
  AllFound P (p ∷ ps) = IsFound P p × AllFound P ps

  module _ (P : ℕ → Turns → Type 0) where
    found_append : (xs ys : List Piece) → AllFound P xs → AllFound P ys → AllFound P (xs ++ ys)
    found_append [] ys h g = g
    found_append (x ∷ xs) ys h g = (h.0, found_append xs ys h.1 g)

    found_leaf : (turns : Turns) (o : outcome.TreeOutcome) → subtree search turns ≡ Some (Leaf o) → IsFound P (leaf_piece turns o)
    found_leaf turns (outcome.Closed list) at = tt
    found_leaf turns (outcome.Sat context) at = at
    found_leaf turns (outcome.Met b) at = tt

    found_replaced : {turns : Turns} {own : SearchTree} {ps : List Piece} → subtree search turns ≡ Some own → Replaced P turns own ps → AllFound P ps
    found_replaced {turns = turns} at (own_leaf {outcome = o}) = (found_leaf turns o at, tt)
    found_replaced {turns = turns} at (own_node {left = l} {right = r} {before = before} {after = after} a b) =
        found_append before after (found_replaced (sub_left search turns l r at) a) (found_replaced (sub_right search turns l r at) b)
    found_replaced at given = (tt, tt)
    found_replaced {turns = turns} {own = own} at (cut p) = ((p, (own, at)), tt)
    found_replaced at no_memory = (tt, tt)

    found_joins : {p q one : Piece} → Joins p q one → IsFound P p → IsFound P q → IsFound P one
    found_joins closed_closed h g = tt
    found_joins closed_bounded h g = tt
    found_joins bounded_closed h g = tt
    found_joins bounded_bounded h g = tt
    found_joins closed_sat h g = g
    found_joins bounded_sat h g = g
    found_joins (sat_takes t) h g = h
    found_joins (takes_later t) h g = tt
    found_joins (takes_earlier t) h g = tt
    found_joins cut_cut h g = h

    found_join : (before after : List Piece) (p q one : Piece) → Joins p q one → AllFound P (before ++ p ∷ q ∷ after) → AllFound P (before ++ one ∷ after)
    found_join [] after p q one j h = (found_joins j h.0 h.1.0, h.1.1)
    found_join (x ∷ before) after p q one j h = (h.0, found_join before after p q one j h.1)

    found_joined : {xs ys : List Piece} → Joined xs ys → AllFound P xs → AllFound P ys
    found_joined as_they_are h = h
    found_joined (join before after others first second one j more) h = found_joined more (found_join before after first second one j h)

    found_in : (ps : List Piece) (p : Piece) → AllFound P ps → IsIn p ps → IsFound P p
    found_in [] p h (zero, e) = cc
    found_in [] p h (suc k, e) = cc
    found_in (x ∷ ps) p h (zero, e) = let same : x ≡ p = cc e in subst (IsFound P) same h.0
    found_in (x ∷ ps) p h (suc k, e) = found_in ps p h.1 (k, e)

    -- What the pieces of an account were found at.
    pub found : (account : Account) → StandsFor P search account → (p : Piece) → IsIn p account.pieces → IsFound P p
    found account s p h = found_in account.pieces p (found_joined s.joined (found_replaced s.at_path s.replaced)) h

-- ---- whole
module _ (search : SearchTree) (accounts : List Account) (seat : WorkerSeatValue) (taken : seat.taken ≡ account_paths accounts) (ended : seat.ended ≡ account_paths accounts) (raised : seat.raised ≡ seat.offered)
    (lists : OwnLists seat) (learns : Learns seat 0) (fits : FitsSeat search accounts seat.offered seat.posted (told_of seat.looked)) (told_posted : (k : ℕ) → IsIn k (told_of seat.looked) → IsIn k seat.posted) where
  same_times : (path : Turns) → path_count path seat.raised ≡ path_count path seat.offered
  same_times path = ap (path_count path) raised

  settled : (path : Turns) → path_count path seat.ended ≡ at_root path + path_count path seat.raised
  settled = learns.settled refl (λ path h. let a = lists.ended path in let b = learns.taken path in let c = same_times path in omega arith)

  at_end : (path : Turns) → 0 < at_root path + path_count path seat.offered → (account : Account) × IsIn account accounts × (account.path ≡ path)
  at_end path h =
      let a = settled path in
      let c = same_times path in
      let some : 0 < path_count path seat.ended = omega arith in
      counted_account path accounts (subst (λ l. 0 < path_count path l) ended some)

  gift_end : (account : Account) (gift : Turns) → IsIn account accounts → IsIn (Gift gift) account.pieces → (other : Account) × IsIn other accounts × (other.path ≡ gift)
  gift_end account gift is has =
      let given : IsIn gift seat.offered = subst (IsIn gift) (sym fits.offered_are) (gift_given accounts account gift is has) in
      let h = path_counted gift seat.offered given in
      at_end gift (omega (arith, h))

  once : (path : Turns) → path_count path (account_paths accounts) ≤ 1
  once path = subst (λ l. path_count path l ≤ 1) taken (lists.taken_once path)

  licensed : (account : Account) → IsIn account accounts → (k : ℕ) (t : Turns) (below : SearchTree) → subtree search t ≡ Some below → MayCut (told_of seat.looked) account.pieces k t → IsLicensed accounts k t
  licensed account is k t below at may =
      elim may as (λ _. IsLicensed accounts k t) [
        | inl told ↦
            let s = posted_sat accounts k (subst (IsIn k) fits.posted_are (told_posted k told.0)) in
            let sat = s.2 in
            let leaf_at = found search (MayCut (told_of seat.looked) s.0.pieces) s.0 (fits.stands s.0 s.1) (Sat sat.0 sat.1) sat.2 in
            let less : key sat.0 < key t = subst (λ n. n < key t) (sym sat.3) told.1 in
            (s.0, sat.0, sat.1, s.1, sat.2, sat.3, keys_order search sat.0 t (outcome.Sat sat.1) below leaf_at at less)
        | inr own ↦ (account, own.0, own.1, is, own.2, own.3, own.4)
      ]

  no_other : (account : Account) → IsIn account accounts → (account.path ≡ []) ⊎ ((giver : Account) × IsIn giver accounts × IsIn (Gift account.path) giver.pieces)
  no_other account is =
      go account.path (let t = subst (λ l. 0 < path_count account.path l) (sym ended) (account_counted accounts account is) in let s = settled account.path in let c = same_times account.path in omega arith)
    where
      go : (path : Turns) → 0 < at_root path + path_count path seat.offered → (path ≡ []) ⊎ ((giver : Account) × IsIn giver accounts × IsIn (Gift path) giver.pieces)
      go [] h = inl refl
      go (t ∷ path) h =
          let all : 0 < 0 + path_count (t ∷ path) seat.offered = h in
          let given = counted_path (t ∷ path) seat.offered (omega (arith, all)) in
          inr (given_gift accounts (t ∷ path) (subst (IsIn (t ∷ path)) fits.offered_are given))

  pub whole : AreWhole search accounts
  whole = record {
    root = at_end [] (omega arith);
    gifts = gift_end;
    no_other = no_other;
    once = λ a b j k g h e. once_at b.path accounts (once b.path) a b j k g h e refl;
    extends = fits.extends;
    stands = λ a is. stands_at_nodes search (licensed a is) a (fits.stands a is);
  }

  cuts_posted : (account : Account) (turns : Turns) (cut_key : ℕ) → IsIn account accounts → IsIn (Cut turns cut_key) account.pieces → IsIn cut_key seat.posted
  cuts_posted account turns cut_key is has =
      let f = found search (MayCut (told_of seat.looked) account.pieces) account (fits.stands account is) (Cut turns cut_key) has in
      elim f.0 as (λ _. IsIn cut_key seat.posted) [
        | inl told ↦ told_posted cut_key told.0
        | inr own ↦
            let posted : IsIn (key own.0) seat.posted = subst (IsIn (key own.0)) (sym fits.posted_are) (sat_posted accounts account own.0 own.1 is own.2) in subst (λ n. IsIn n seat.posted) own.3 posted
      ]

  pub fit : FitTheSeat accounts seat
  fit = record {
    taken = taken;
    ended = ended;
    taken_once = lists.taken_once;
    offered = fits.offered_are;
    raised = raised ∙ fits.offered_are;
    offered_once = lists.offered_once;
    posted = fits.posted_are;
    cuts_posted = cuts_posted;
  }
