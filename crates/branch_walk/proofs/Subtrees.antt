-- The walk of a whole tree without gifts: where it stands, and how it ends.
use Rattle.std.proofs.Common.{◌≡◌, ℕ, ◌<◌, ◌≤◌, true, List, [], ◌∷◌, ◌++◌, length, map, reverse, inl, inr, append-nil, append_assoc, refl, sym, subst, ap, ◌∙◌, arith}
use Rattle.std.proofs.lemmas.Grind.{flat_map-append}
use Rattle.std.proofs.lemmas.List.Elements.{All-nil}
use Rattle.me_terms.specs.Values.{ProblemValue, EntryValue, Asserted, SplitLeft}
use Rattle.me_terms.specs.Context.{Context, pseudo, add}
use Rattle.me_terms.specs.Grown.{IsGrown, split_entry, asserted, went_left}
use Rattle.me_terms.specs.Outcome.{TreeOutcome, Closed, Sat, Met}
use Rattle.me_terms.specs.declared.bounds.Bounds.{Bounds}
use Rattle.branch_core.specs.Hooks.{ExtendsBy, History}
use Rattle.branch_core.specs.Paths.{Turns, key, IsLeftOf}
use Rattle.branch_core.specs.Pieces.{Piece, leaf_piece}
use Rattle.branch_core.specs.Pieces as piece
use Rattle.branch_core.specs.Replaced.{Replaced, own_leaf, cut, no_memory}
use Rattle.branch_core.specs.SearchTree.{SearchTree, Leaf, IsSearchTree, is_exhausted}
use Rattle.branch_core.specs.Whole.{IsIn}
use Rattle.branch_walk.specs.Jobs.{turns_taken}
use Rattle.branch_core.specs.Portions.{MayBeGiven, gift_of, sat_key_of, gifts, sat_keys, MayCut}
use Rattle.branch_walk.specs.Tallies.{IsTally, TakesOwnLeaf, cuts, losses}
use Rattle.branch_walk.specs.Turning.{IsAllBack, IsBackAtLeft, beside}
use Rattle.branch_walk.specs.Walks.{GoesOn, HasLeaf, HasSat, IsWalked, IsVisited}
use Rattle.branch_walk.specs.declared.state.State.{State}
use Rattle.branch_walk.specs.declared.state.State.TheVariants.{Going, Cutting, Lost}
use Rattle.branch_walk.specs.declared.state.Visit.{Visit}
use Rattle.branch_walk.specs.declared.state.Visit.TheVariants as visit
use Rattle.branch_walk.specs.declared.tally.Tally.{Tally}
use Rattle.branch_walk.proofs.LeftRight.{below_left, keys_rise}
use Rattle.branch_walk.proofs.Places.{Branch, AllReplaced, IsPlace, place_root, place_at, place_left, place_right, in_right}
use Rattle.branch_walk.proofs.Reasons.{turns}
use Rattle.branch_walk.proofs.TreesBelow.{tree_of, same_tree, assert_tree, split_tree}
use Rattle.branch_walk.proofs.TurnsTaken.{asserted_reason, turns_append, turns_assert, turns_beside, turns_left}
use Rattle.branch_walk.proofs.Work.{work, work_add, work_turn}
use Rattle.me_laws.proofs.Grown.{grown}
use Rattle.std.proofs.lemmas.Option.{slice_get_within}
use Rattle.branch_walk.proofs.Waiting.{Waiting, at_root, beside_none, beside_left, begins, AllRight, wait_right, waits_beside, back_at_root}

-- ---- what passes between a walk and its hook
pub extends_none : (history : History) → ExtendsBy history history [] [] []
extends_none history = record { given_are = sym (append-nil history.given); told_are = sym (append-nil history.told); posted_are = sym (append-nil history.posted) }

pub extends_more : {a b c : History} {gave gave' : List Turns} {told told' sent sent' : List ℕ} → ExtendsBy a b gave told sent → ExtendsBy b c gave' told' sent' → ExtendsBy a c (gave ++ gave') (told ++ told') (sent ++ sent')
extends_more {a} {b} {c} {gave} {gave'} {told} {told'} {sent} {sent'} f g = record {
  given_are = g.given_are ∙ (ap (λ (x : List Turns). x ++ gave') f.given_are ∙ append_assoc a.given gave gave');
  told_are = g.told_are ∙ (ap (λ (x : List ℕ). x ++ told') f.told_are ∙ append_assoc a.told told told');
  posted_are = g.posted_are ∙ (ap (λ (x : List ℕ). x ++ sent') f.posted_are ∙ append_assoc a.posted sent sent');
}

pub extends_sent : {a b : History} {gave : List Turns} {told sent sent' : List ℕ} → sent ≡ sent' → ExtendsBy a b gave told sent → ExtendsBy a b gave told sent'
extends_sent {a} {b} {gave} {told} same h = let P : List ℕ → Type 0 = λ s. ExtendsBy a b gave told s in subst P same h

-- ---- gifts and exhausted leaves among pieces
pub gifts_append : (ps qs : List Piece) → gifts (ps ++ qs) ≡ gifts ps ++ gifts qs
gifts_append ps qs = flat_map-append gift_of ps qs

pub sats_append : (ps qs : List Piece) → sat_keys (ps ++ qs) ≡ sat_keys ps ++ sat_keys qs
sats_append ps qs = flat_map-append sat_key_of ps qs

pub gifts_cuts : (k : ℕ) (nodes : List Turns) → gifts (cuts k nodes) ≡ []
gifts_cuts k [] = refl
gifts_cuts k (t ∷ ts) = gifts_cuts k ts

pub sats_cuts : (k : ℕ) (nodes : List Turns) → sat_keys (cuts k nodes) ≡ []
sats_cuts k [] = refl
sats_cuts k (t ∷ ts) = sats_cuts k ts

pub gifts_losses : (nodes : List Turns) → gifts (losses nodes) ≡ []
gifts_losses [] = refl
gifts_losses (t ∷ ts) = gifts_losses ts

pub sats_losses : (nodes : List Turns) → sat_keys (losses nodes) ≡ []
sats_losses [] = refl
sats_losses (t ∷ ts) = sats_losses ts

leaf_gift : (t : Turns) (o : TreeOutcome) → gift_of (leaf_piece t o) ≡ []
leaf_gift t (Closed list) = refl
leaf_gift t (Sat context) = refl
leaf_gift t (Met b) = refl

gifts_leaf : (t : Turns) (o : TreeOutcome) → gifts (leaf_piece t o ∷ []) ≡ []
gifts_leaf t o = ap (λ (g : List Turns). g ++ []) (leaf_gift t o)

sats_leaf : (t : Turns) (o : TreeOutcome) → sat_key_of (leaf_piece t o) ≡ [] → sat_keys (leaf_piece t o ∷ []) ≡ []
sats_leaf t o h = ap (λ (g : List ℕ). g ++ []) h

none_both : {A : Type 0} (xs ys zs : List A) → zs ≡ xs ++ ys → xs ≡ [] → ys ≡ [] → zs ≡ []
none_both xs ys zs is f g = is ∙ (λ i. f i ++ g i)

-- ---- what waits is left out
abbrev pub nodes_of : List Branch → List Turns
nodes_of waiting = map (λ (b : Branch). b.turns) waiting

cut_rest : (told : List ℕ) (pieces : List Piece) (cut_key : ℕ) (here : Turns) → ((t : Turns) → IsLeftOf here t → MayCut told pieces cut_key t) → (waiting : List Branch) → AllRight here waiting → AllReplaced told pieces waiting (cuts cut_key (nodes_of waiting))
cut_rest told pieces cut_key here may [] h = refl
cut_rest told pieces cut_key here may (b ∷ bs) h =
    (piece.Cut b.turns cut_key ∷ [], cuts cut_key (nodes_of bs), cut (may b.turns h.0), cut_rest told pieces cut_key here may bs h.1, refl)

lose_rest : (told : List ℕ) (pieces : List Piece) (waiting : List Branch) → AllReplaced told pieces waiting (losses (nodes_of waiting))
lose_rest told pieces [] = refl
lose_rest told pieces (b ∷ bs) = (piece.NoMemory ∷ [], losses (nodes_of bs), no_memory, lose_rest told pieces bs, refl)

-- ---- where the walk stands
-- the leaves left of the walk's node came to the tally, and none is exhausted
pub record IsWalking (problem : ProblemValue) (bounds : Bounds) (root context : Context) (history now_history : History) (old new : Tally) : Type 0 where
  pub whole : SearchTree
  pub own : SearchTree
  pub passed : List Piece
  pub waiting : List Branch
  pub told : List ℕ
  pub grown : IsGrown problem bounds context
  pub whole_tree : IsSearchTree problem bounds root whole
  pub tree : IsSearchTree problem bounds context own
  pub waits : Waiting problem bounds root context waiting
  pub place : IsPlace (turns_taken root) whole (turns_taken context) own passed waiting
  pub no_gifts : gifts passed ≡ []
  pub no_sats : sat_keys passed ≡ []
  pub extends : ExtendsBy history now_history [] told []
  pub tally : (before : List Piece) → IsTally bounds.list old before → IsTally bounds.list new (before ++ passed)
  pub is_open : TakesOwnLeaf new

module _ (problem : ProblemValue) (bounds : Bounds) (root : Context) (history : History) (old : Tally) where
  pub walk_begins : IsGrown problem bounds root → TakesOwnLeaf old → IsWalking problem bounds root root history history old old
  walk_begins grown first =
      let own = tree_of problem bounds root grown in
      record {
        whole = own.0;
        own = own.0;
        passed = [];
        waiting = [];
        told = [];
        grown = grown;
        whole_tree = own.1;
        tree = own.1;
        waits = at_root refl refl;
        place = place_root (turns_taken root) own.0;
        no_gifts = refl;
        no_sats = refl;
        extends = extends_none history;
        tally = λ before h. let P : List Piece → Type 0 = λ ps. IsTally bounds.list old ps in subst P (sym (append-nil before)) h;
        is_open = first;
      }

  -- the tally is as before
  kept : (before : List Piece) (was now : Tally) → now ≡ was → IsTally bounds.list was before → IsTally bounds.list now before
  kept before was now same h = let P : Tally → Type 0 = λ t. IsTally bounds.list t before in subst P (sym same) h

  opened : (was now : Tally) → now ≡ was → TakesOwnLeaf was → TakesOwnLeaf now
  opened was now same h = let P : Tally → Type 0 = λ t. TakesOwnLeaf t in subst P (sym same) h

  no_left : (e : EntryValue) (c place : ℕ) (tuple : List ℕ) → e.reason ≡ Asserted c place tuple → e.reason ≡ SplitLeft → ⊥
  no_left e c place tuple why is = let bad : Asserted c place tuple ≡ SplitLeft = sym why ∙ is in cc bad

  pub walk_asserts : (from to : Context) (h now : History) (was new : Tally) (told sent : List ℕ) → IsWalking problem bounds root from history h old was → ExtendsBy h now [] told sent → IsVisited problem bounds from to was new told sent visit.Asserted → IsWalking problem bounds root to history now old new
  walk_asserts from to h now was new told sent w extends v =
      let e = v.0 in
      let next = v.1 in
      let is = v.2 in
      let why = asserted_reason problem bounds from e next in
      let G : Context → Type 0 = λ c. IsGrown problem bounds c in
      let S : Context → Type 0 = λ c. IsSearchTree problem bounds c w.own in
      record {
        whole = w.whole;
        own = w.own;
        passed = w.passed;
        waiting = w.waiting;
        told = w.told ++ told;
        grown = subst G (sym is) (asserted w.grown next);
        whole_tree = w.whole_tree;
        tree = subst S (sym is) (assert_tree problem bounds from e w.grown next w.own w.tree);
        waits = beside_none e is (no_left e why.0 why.1 why.2 why.3) w.waits;
        place = place_at (ap turns_taken is ∙ turns_assert problem bounds from e next) w.place;
        no_gifts = w.no_gifts;
        no_sats = w.no_sats;
        extends = extends_more w.extends (extends_sent v.4 extends);
        tally = λ before t. kept (before ++ w.passed) was new v.3 (w.tally before t);
        is_open = opened was new v.3 w.is_open;
      }

  pub walk_left : (from to : Context) (h now : History) (was new : Tally) (told sent : List ℕ) → IsWalking problem bounds root from history h old was → ExtendsBy h now [] told sent → IsVisited problem bounds from to was new told sent visit.Left → IsWalking problem bounds root to history now old new
  walk_left from to h now was new told sent w extends v =
      let l = v.0 in
      let kind = v.1 in
      let next = v.2 in
      let is = v.3 in
      let children = split_tree problem bounds from l kind w.grown next w.own w.tree in
      let G : Context → Type 0 = λ c. IsGrown problem bounds c in
      let S : Context → Type 0 = λ c. IsSearchTree problem bounds c children.left in
      record {
        whole = w.whole;
        own = children.left;
        passed = w.passed;
        waiting = record { turns = turns_taken from ++ true ∷ []; tree = children.right } ∷ w.waiting;
        told = w.told ++ told;
        grown = subst G (sym is) (went_left w.grown next);
        whole_tree = w.whole_tree;
        tree = subst S (sym is) children.left_tree;
        waits = beside_left (split_entry l kind SplitLeft) is refl refl children.right_tree w.waits;
        place = place_at (ap turns_taken is ∙ turns_left from l kind) (place_left (turns_taken root) (turns_taken from) w.whole w.own children.left children.right w.passed w.waiting children.is w.place);
        no_gifts = w.no_gifts;
        no_sats = w.no_sats;
        extends = extends_more w.extends (extends_sent v.5 extends);
        tally = λ before t. kept (before ++ w.passed) was new v.4 (w.tally before t);
        is_open = opened was new v.4 w.is_open;
      }

  pub walk_turns : (from mid to : Context) (h now : History) (was new : Tally) (told sent : List ℕ) → 1 ≤ length root → IsWalking problem bounds root from history h old was → ExtendsBy h now [] told sent → sent ≡ [] → HasLeaf problem bounds from was new → (b : IsBackAtLeft (length root) from mid) → to ≡ add b.before (beside b.left) → IsWalking problem bounds root to history now old new
  walk_turns from mid to h now was new told sent some w extends none leaf b turned =
      let above = b.above in
      let beside_it = waits_beside problem bounds root from mid w.waiting w.waits b in
      let G : Context → Type 0 = λ c. IsGrown problem bounds c in
      let S : Context → Type 0 = λ c. IsSearchTree problem bounds c beside_it.right in
      let one : Branch = record { turns = turns_taken b.before ++ true ∷ []; tree = beside_it.right } in
      let piece_here : Piece = leaf_piece (turns_taken from) leaf.outcome in
      let own_is = same_tree problem bounds from w.own (Leaf leaf.outcome) w.tree leaf.tree in
      let Q : List Branch → Type 0 = λ bs. IsPlace (turns_taken root) w.whole (turns_taken from) w.own w.passed bs in
      let T : List Piece → Type 0 = λ ps. IsTally bounds.list new ps in
      record {
        whole = w.whole;
        own = beside_it.right;
        passed = w.passed ++ piece_here ∷ [];
        waiting = beside_it.later;
        told = w.told ++ told;
        grown = subst G (sym turned) (turns problem bounds from b.before b.later b.left w.grown b.was (omega (arith, some, above)) b.is_left).turned;
        whole_tree = w.whole_tree;
        tree = subst S (sym turned) beside_it.tree;
        waits = beside_none (beside b.left) turned (λ is. cc is) beside_it.waits;
        place = place_at (ap turns_taken turned ∙ turns_beside b.before b.left) (place_right (turns_taken root) (turns_taken from) w.whole w.own w.passed leaf.outcome one beside_it.later own_is (subst Q beside_it.first w.place));
        no_gifts = none_both (gifts w.passed) (gifts (piece_here ∷ [])) (gifts (w.passed ++ piece_here ∷ [])) (gifts_append w.passed (piece_here ∷ [])) w.no_gifts (gifts_leaf (turns_taken from) leaf.outcome);
        no_sats = none_both (sat_keys w.passed) (sat_keys (piece_here ∷ [])) (sat_keys (w.passed ++ piece_here ∷ [])) (sats_append w.passed (piece_here ∷ [])) w.no_sats (sats_leaf (turns_taken from) leaf.outcome leaf.no_sat);
        extends = extends_more w.extends (extends_sent none extends);
        tally = λ before t. subst T (append_assoc before w.passed (piece_here ∷ [])) (leaf.tally (before ++ w.passed) (w.tally before t));
        is_open = leaf.is_open;
      }

  -- ---- how it ends
  pub finish : (context : Context) (h now : History) (was new : Tally) (state : State) (share : ℕ) (here rest : List Piece) (told sent : List ℕ) → (w : IsWalking problem bounds root context history h old was) → ExtendsBy h now [] told sent → Replaced (MayCut (w.told ++ told) (w.passed ++ (here ++ rest))) (turns_taken context) w.own here → AllReplaced (w.told ++ told) (w.passed ++ (here ++ rest)) w.waiting rest → gifts here ≡ [] → gifts rest ≡ [] → sat_keys here ≡ sent → sat_keys rest ≡ [] → length sent ≤ 1 → GoesOn state (w.told ++ told) (w.passed ++ (here ++ rest)) (turns_taken root) → ((before : List Piece) → IsTally bounds.list was before → IsTally bounds.list new (before ++ (here ++ rest))) → IsWalked problem bounds share root state history now old new
  finish context h now was new state share here rest told sent w extends own_here all_rest no_gift no_gifts sat_is no_sats one on add_all =
      let more : List Piece = w.passed ++ (here ++ rest) in
      let T : List Piece → Type 0 = λ ps. IsTally bounds.list new ps in
      let none : gifts more ≡ [] = none_both (gifts w.passed) (gifts (here ++ rest)) (gifts more) (gifts_append w.passed (here ++ rest)) w.no_gifts (none_both (gifts here) (gifts rest) (gifts (here ++ rest)) (gifts_append here rest) no_gift no_gifts) in
      let sats : sat_keys more ≡ sent =
      sats_append w.passed (here ++ rest)
      ∙ (ap (λ (ks : List ℕ). ks ++ sat_keys (here ++ rest)) w.no_sats ∙ (sats_append here rest ∙ (ap (λ (ks : List ℕ). sat_keys here ++ ks) no_sats ∙ (append-nil (sat_keys here) ∙ sat_is)))) in
      record {
        own = w.whole;
        tree = w.whole_tree;
        more = more;
        gave = [];
        told = w.told ++ told;
        sent = sent;
        extends = extends_more w.extends extends;
        replaced = w.place.complete (w.told ++ told) more here rest own_here all_rest;
        gifts_are = ap (λ (g : List Turns). reverse g) (sym none);
        lawful = All-nil (MayBeGiven share (turns_taken root));
        sent_is = sym sats;
        one_sat = one;
        goes_on = on;
        tally = λ before t. subst T (append_assoc before w.passed (here ++ rest)) (add_all (before ++ w.passed) (w.tally before t));
      }

  -- all to the right of the root is right of where the walk is
  right_of_root : {context : Context} {waiting : List Branch} → Waiting problem bounds root context waiting → (other : Turns) → IsLeftOf (turns_taken root) other → IsLeftOf (turns_taken context) other
  right_of_root {context} waits other left =
      let more = begins problem bounds root waits in
      let is : turns_taken context ≡ turns_taken root ++ turns_taken more.0 = ap turns_taken more.1 ∙ turns_append root more.0 in
      let P : Turns → Type 0 = λ t. IsLeftOf t other in
      subst P (sym is) (below_left (turns_taken root) (turns_taken more.0) other left)

  leaf_replaced : (told : List ℕ) (pieces : List Piece) (context : Context) (own : SearchTree) (outcome : TreeOutcome) → IsSearchTree problem bounds context own → IsSearchTree problem bounds context (Leaf outcome) → Replaced (MayCut told pieces) (turns_taken context) own (leaf_piece (turns_taken context) outcome ∷ [])
  leaf_replaced told pieces context own outcome f g =
      let P : SearchTree → Type 0 = λ s. Replaced (MayCut told pieces) (turns_taken context) s (leaf_piece (turns_taken context) outcome ∷ []) in
      subst P (sym (same_tree problem bounds context own (Leaf outcome) f g)) own_leaf

  -- the last leaf is not exhausted, and nothing waits
  pub ends_going : (context after : Context) (h now : History) (was new : Tally) (told sent : List ℕ) → IsWalking problem bounds root context history h old was → ExtendsBy h now [] told sent → sent ≡ [] → HasLeaf problem bounds context was new → IsAllBack (length root) context after → (share : ℕ) → IsWalked problem bounds share root Going history now old new
  ends_going context after h now was new told sent w extends none leaf b share =
      let here : List Piece = leaf_piece (turns_taken context) leaf.outcome ∷ [] in
      let nothing = (back_at_root problem bounds root context after w.waiting w.waits b).0 in
      let all_told = w.told ++ told in
      let more : List Piece = w.passed ++ (here ++ []) in
      let P : List Branch → Type 0 = λ bs. AllReplaced all_told more bs [] in
      let no_sat = sats_leaf (turns_taken context) leaf.outcome leaf.no_sat in
      let sats : sat_keys more ≡ [] = none_both (sat_keys w.passed) (sat_keys (here ++ [])) (sat_keys more) (sats_append w.passed (here ++ [])) w.no_sats no_sat in
      finish context h now was new Going share here [] told [] w (extends_sent none extends) (leaf_replaced all_told more context w.own leaf.outcome w.tree leaf.tree) (subst P (sym nothing) refl) (gifts_leaf (turns_taken context) leaf.outcome) refl no_sat refl (omega arith) sats leaf.tally

  -- an exhausted leaf cuts what waits
  pub ends_exhausted : (context : Context) (h now : History) (was new : Tally) (told sent : List ℕ) (cut_key : ℕ) → (w : IsWalking problem bounds root context history h old was) → ExtendsBy h now [] told sent → sent ≡ cut_key ∷ [] → HasSat problem bounds context cut_key was new → ((leaves : List Piece) (nodes : List Turns) → IsTally bounds.list new leaves → IsTally bounds.list new (leaves ++ cuts cut_key nodes)) → (share : ℕ) → IsWalked problem bounds share root (Cutting cut_key) history now old new
  ends_exhausted context h now was new told sent cut_key w extends is sat takes share =
      let turns_here = turns_taken context in
      let here : List Piece = piece.Sat turns_here context ∷ [] in
      let rest = cuts cut_key (nodes_of w.waiting) in
      let all_told = w.told ++ told in
      let more : List Piece = w.passed ++ (here ++ rest) in
      let stands : IsIn (piece.Sat turns_here context) more = in_right (piece.Sat turns_here context) w.passed (here ++ rest) (0, refl) in
      let may : (t : Turns) → IsLeftOf turns_here t → MayCut all_told more cut_key t = λ t left. inr (turns_here, context, stands, sym sat.key_is, left) in
      let T : List Piece → Type 0 = λ ps. IsTally bounds.list new ps in
      finish context h now was new (Cutting cut_key) share here rest told (cut_key ∷ []) w (extends_sent is extends) (leaf_replaced all_told more context w.own (Sat context) w.tree (is_exhausted sat.next)) (cut_rest all_told more cut_key turns_here may w.waiting (wait_right problem bounds root w.waits)) refl (gifts_cuts cut_key (nodes_of w.waiting)) (ap (λ (k : ℕ). k ∷ []) (sym sat.key_is)) (sats_cuts cut_key (nodes_of w.waiting)) (omega arith) (λ other left. may other (right_of_root w.waits other left))
      (λ before t. subst T (append_assoc before here rest) (takes (before ++ here) (nodes_of w.waiting) (sat.tally before t)))

  -- a key that was told cuts the node and what waits
  pub ends_cut : (context : Context) (h now : History) (was new : Tally) (told sent : List ℕ) (cut_key : ℕ) → (w : IsWalking problem bounds root context history h old was) → ExtendsBy h now [] told sent → sent ≡ [] → IsIn cut_key told → cut_key < key (turns_taken context) → ((leaves : List Piece) (node : Turns) (nodes : List Turns) → IsTally bounds.list was leaves → IsTally bounds.list new (leaves ++ cuts cut_key (node ∷ nodes))) → (share : ℕ) → IsWalked problem bounds share root (Cutting cut_key) history now old new
  ends_cut context h now was new told sent cut_key w extends none in_told less takes share =
      let turns_here = turns_taken context in
      let here : List Piece = piece.Cut turns_here cut_key ∷ [] in
      let rest = cuts cut_key (nodes_of w.waiting) in
      let all_told = w.told ++ told in
      let more : List Piece = w.passed ++ (here ++ rest) in
      let known : IsIn cut_key all_told = in_right cut_key w.told told in_told in
      let may : (t : Turns) → IsLeftOf turns_here t → MayCut all_told more cut_key t = λ t left. let rise = keys_rise turns_here t left in inl (known, omega (arith, less, rise)) in
      finish context h now was new (Cutting cut_key) share here rest told [] w (extends_sent none extends) (cut (inl (known, less))) (cut_rest all_told more cut_key turns_here may w.waiting (wait_right problem bounds root w.waits)) refl (gifts_cuts cut_key (nodes_of w.waiting)) refl (sats_cuts cut_key (nodes_of w.waiting)) (omega arith) (λ other left. may other (right_of_root w.waits other left))
      (λ before t. takes before turns_here (nodes_of w.waiting) t)

  -- memory is out at the node
  pub ends_lost : (context : Context) (h now : History) (was new : Tally) (told sent : List ℕ) → (w : IsWalking problem bounds root context history h old was) → ExtendsBy h now [] told sent → sent ≡ [] → ((leaves : List Piece) (node : Turns) (nodes : List Turns) → IsTally bounds.list was leaves → IsTally bounds.list new (leaves ++ losses (node ∷ nodes))) → (share : ℕ) → IsWalked problem bounds share root Lost history now old new
  ends_lost context h now was new told sent w extends none takes share =
      let here : List Piece = piece.NoMemory ∷ [] in
      let rest = losses (nodes_of w.waiting) in
      let all_told = w.told ++ told in
      let more : List Piece = w.passed ++ (here ++ rest) in
      finish context h now was new Lost share here rest told [] w (extends_sent none extends) no_memory (lose_rest all_told more w.waiting) refl (gifts_losses (nodes_of w.waiting)) refl (sats_losses (nodes_of w.waiting)) (omega arith) tt
      (λ before t. takes before (turns_taken context) (nodes_of w.waiting) t)

  -- memory is out at the turn to the right
  pub ends_lost_behind : (context mid : Context) (h now : History) (was new end : Tally) (told sent : List ℕ) → (w : IsWalking problem bounds root context history h old was) → ExtendsBy h now [] told sent → sent ≡ [] → HasLeaf problem bounds context was new → IsBackAtLeft (length root) context mid → ((leaves : List Piece) (node : Turns) (nodes : List Turns) → IsTally bounds.list new leaves → IsTally bounds.list end (leaves ++ losses (node ∷ nodes))) → (share : ℕ) → IsWalked problem bounds share root Lost history now old end
  ends_lost_behind context mid h now was new end told sent w extends none leaf b takes share =
      let here : List Piece = leaf_piece (turns_taken context) leaf.outcome ∷ [] in
      let rest = losses (nodes_of w.waiting) in
      let all_told = w.told ++ told in
      let more : List Piece = w.passed ++ (here ++ rest) in
      let beside_it = waits_beside problem bounds root context mid w.waiting w.waits b in
      let one : Turns = turns_taken b.before ++ true ∷ [] in
      let nodes : one ∷ nodes_of beside_it.later ≡ nodes_of w.waiting = ap nodes_of (sym beside_it.first) in
      let T : List Piece → Type 0 = λ ps. IsTally bounds.list end ps in
      let N : List Turns → Type 0 = λ ts. (before : List Piece) → IsTally bounds.list was before → IsTally bounds.list end ((before ++ here) ++ losses ts) in
      let add_all = subst N nodes (λ before t. takes (before ++ here) one (nodes_of beside_it.later) (leaf.tally before t)) in
      finish context h now was end Lost share here rest told [] w (extends_sent none extends) (leaf_replaced all_told more context w.own leaf.outcome w.tree leaf.tree) (lose_rest all_told more w.waiting) (gifts_leaf (turns_taken context) leaf.outcome) (gifts_losses (nodes_of w.waiting)) (sats_leaf (turns_taken context) leaf.outcome leaf.no_sat) (sats_losses (nodes_of w.waiting)) (omega arith) tt
      (λ before t. subst T (append_assoc before here rest) (add_all before t))

-- ---- less is left
module _ (problem : ProblemValue) (bounds : Bounds) where
  pub less_asserted : (from to : Context) (was new : Tally) (told sent : List ℕ) → IsVisited problem bounds from to was new told sent visit.Asserted → work bounds.literals to < work bounds.literals from
  less_asserted from to was new told sent v =
      let is = ap (work bounds.literals) v.2 in
      let less = work_add bounds.literals from v.0 v.1.1 in
      omega (arith, is, less)

  pub less_left : (from to : Context) (was new : Tally) (told sent : List ℕ) → IsVisited problem bounds from to was new told sent visit.Left → work bounds.literals to < work bounds.literals from
  less_left from to was new told sent v =
      let is = ap (work bounds.literals) v.3 in
      let less = work_add bounds.literals from (split_entry v.0 v.1 SplitLeft) v.2.2 in
      omega (arith, is, less)

  pub less_turned : (from mid to : Context) (base : ℕ) → 1 ≤ base → IsGrown problem bounds from → (b : IsBackAtLeft base from mid) → to ≡ add b.before (beside b.left) → work bounds.literals to < work bounds.literals from
  less_turned from mid to base some grown b turned =
      let above = b.above in
      let can = (turns problem bounds from b.before b.later b.left grown b.was (omega (arith, some, above)) b.is_left).can in
      let less = work_turn bounds.literals b.before b.left (beside b.left) b.later can.room b.is_left refl in
      let is = ap (work bounds.literals) turned in
      let was = ap (work bounds.literals) b.was in
      omega (arith, less, is, was)

-- a grown context has an entry
pub grown_some : {problem : ProblemValue} {bounds : Bounds} {context : Context} → IsGrown problem bounds context → 1 ≤ length context
grown_some {problem} {bounds} {context} h =
    let first = (grown h).0.first in
    slice_get_within context 0 (pseudo first.0) first.1

pub visited_at : (problem : ProblemValue) (bounds : Bounds) (from to : Context) (was new : Tally) (told sent : List ℕ) (r s : Visit) → r ≡ s → IsVisited problem bounds from to was new told sent r → IsVisited problem bounds from to was new told sent s
visited_at problem bounds from to was new told sent r s same h = let P : Visit → Type 0 = λ v. IsVisited problem bounds from to was new told sent v in subst P same h
