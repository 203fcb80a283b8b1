-- The walk of a node whose left branch was walked: with what became of the right one.
use Rattle.std.proofs.Common.{◌≡◌, ℕ, suc, ◌≤◌, Bool, true, false, List, [], ◌∷◌, ◌++◌, length, reverse, length-append, append-nil, append_assoc, refl, sym, subst, ap, ◌∙◌, arith}
use Rattle.std.specs.List.{All}
use Rattle.std.proofs.lemmas.List.Elements.{All-append, All-cons, All-head, All-nil, All-weaker}
use Rattle.std.proofs.lemmas.List.{length-reverse, reverse-append}
use Rattle.me_terms.specs.Values.{ProblemValue, SplitLeft}
use Rattle.me_terms.specs.Context.{Context, add}
use Rattle.me_terms.specs.Grown.{IsGrown, split_entry, right_of, went_left, went_right}
use Rattle.me_terms.specs.declared.bounds.Bounds.{Bounds}
use Rattle.branch_core.proofs.Orderly.{replaced_more}
use Rattle.branch_core.specs.Paths.{Turns, IsLeftOf}
use Rattle.branch_core.specs.Hooks.{ExtendsBy, History, SameGifts}
use Rattle.branch_core.specs.Pieces.{Piece, Gift, Cut, NoMemory}
use Rattle.branch_core.specs.Replaced.{Replaced, own_node, given, cut, no_memory}
use Rattle.branch_core.specs.SearchTree.{SearchTree, Node, IsSearchTree, splits}
use Rattle.branch_walk.specs.Jobs.{turns_taken}
use Rattle.branch_core.specs.Portions.{lefts, MayBeGiven, gifts, sat_keys, MayCut}
use Rattle.branch_walk.specs.Tallies.{IsTally, TakesOwnLeaf}
use Rattle.branch_walk.specs.Turning.{EndsLeft, beside}
use Rattle.branch_walk.specs.Walks.{GoesOn, IsReady, IsWalked, HasWalkedLeft, gift_if}
use Rattle.branch_walk.specs.declared.state.State.{State}
use Rattle.branch_walk.specs.declared.state.State.TheVariants.{Going, Cutting, Lost}
use Rattle.branch_walk.specs.declared.tally.Tally.{Tally}
use Rattle.branch_walk.proofs.Descents.{goes_more}
use Rattle.branch_walk.proofs.Ends.{longer}
use Rattle.branch_walk.proofs.Pushes.{open_loses, open_takes}
use Rattle.branch_walk.proofs.LeftRight.{below_left, children_apart}
use Rattle.branch_walk.proofs.Places.{may_left, may_right}
use Rattle.branch_walk.proofs.Subtrees.{extends_more, extends_none, gifts_append, sats_append, grown_some}
use Rattle.branch_walk.proofs.TreesBelow.{tree_of}
use Rattle.branch_walk.proofs.TurnsTaken.{turns_left, turns_right}

-- ---- lists of gifts
reverse_gift : (away : Bool) (right : Turns) → reverse (gift_if away right) ≡ gift_if away right
reverse_gift true right = refl
reverse_gift false right = refl

-- what may be given below a left child may be given below its parent
pub given_deeper : (share : ℕ) (path turns gift : Turns) → turns ≡ path ++ false ∷ [] → MayBeGiven share turns gift → MayBeGiven share path gift
given_deeper share path turns gift is may =
    let n = may.beside_left.0 in
    let end : Turns = lefts n ++ true ∷ [] in
    record {
      below = (false, may.below.0 ∷ may.below.1, may.below.2 ∙ (ap (λ (t : Turns). t ++ may.below.0 ∷ may.below.1) is ∙ append_assoc path (false ∷ []) (may.below.0 ∷ may.below.1)));
      right = may.right;
      few = may.few;
      beside_left = (suc n, may.beside_left.1 ∙ (ap (λ (t : Turns). t ++ end) is ∙ append_assoc path (false ∷ []) end));
    }

pub right_given : (share : ℕ) (path right : Turns) → right ≡ path ++ true ∷ [] → length right ≤ share → MayBeGiven share path right
right_given share path right is few = record { below = (true, [], is); right = (path, is); few = few; beside_left = (0, is) }

gift_lawful : (share : ℕ) (path right : Turns) (away : Bool) → right ≡ path ++ true ∷ [] → length right ≤ share → All (MayBeGiven share path) (gift_if away right)
gift_lawful share path right true is few = All-cons (MayBeGiven share path) right [] (right_given share path right is few) (All-nil (MayBeGiven share path))
gift_lawful share path right false is few = All-nil (MayBeGiven share path)

-- where nothing may be given, nothing was
pub none_given : (turns gift : Turns) → MayBeGiven 0 turns gift → ⊥
none_given turns gift may =
    let many = ap length may.below.2 in
    let more = length-append turns (may.below.0 ∷ may.below.1) in
    let few = may.few in
    omega (arith, many, more, few)

pub no_gifts : (turns : Turns) (gave : List Turns) → All (MayBeGiven 0 turns) gave → gave ≡ []
no_gifts turns [] h = refl
no_gifts turns (g ∷ gs) h = absurd (none_given turns g (All-head (MayBeGiven 0 turns) g gs h))

no_length : {A : Type 0} (xs : List A) → length xs ≡ 0 → xs ≡ []
no_length [] h = refl
no_length (x ∷ xs) h = absurd (omega (arith, h))

pub no_reverse : {A : Type 0} (xs : List A) → [] ≡ reverse xs → xs ≡ []
no_reverse {A} xs h =
    let none : List A = [] in
    let same : none ≡ reverse xs = h in
    let many = ap (λ (ys : List A). length ys) same in
    let long = length-reverse xs in
    no_length xs (omega (arith, many, long))

-- ---- what follows a state, seen from the node
pub goes_up : (state : State) (told : List ℕ) (pieces : List Piece) (node turns : Turns) (turn : Bool) → turns ≡ node ++ turn ∷ [] → GoesOn state told pieces turns → GoesOn state told pieces node
goes_up Going told pieces node turns turn is h = h
goes_up (Cutting cut_key) told pieces node turns turn is h =
    λ other left. let P : Turns → Type 0 = λ t. IsLeftOf t other in h other (subst P (sym is) (below_left node (turn ∷ []) other left))
goes_up Lost told pieces node turns turn is h = tt

module _ (problem : ProblemValue) (bounds : Bounds) (share : ℕ) (away : Bool) (right : Turns) (base : ℕ) (state : State) (stands_at node : Context) (start mid : History) (first was : Tally) where
  pub combine : (hl : HasWalkedLeft problem bounds share away right base state stands_at node start mid first was) → (now : History) (new : Tally) (result : State) (tree : SearchTree) → IsSearchTree problem bounds (right_of node hl.split.l hl.split.kind) tree → (more : List Piece) (told sent : List ℕ) → ExtendsBy mid now [] told sent → Replaced (MayCut (hl.walked.told ++ told) (hl.walked.more ++ more)) (turns_taken node ++ true ∷ []) tree more → gifts more ≡ gift_if away right → sat_keys more ≡ sent → length (hl.walked.sent ++ sent) ≤ 1 → GoesOn result (hl.walked.told ++ told) (hl.walked.more ++ more) (turns_taken node) → ((before : List Piece) → IsTally bounds.list was before → IsTally bounds.list new (before ++ more)) → IsWalked problem bounds share node result start now first new
  combine hl now new result tree is_tree more told sent extends replaced gift_is sent_is one on add_all =
      let w = hl.walked in
      let l = hl.split.l in
      let kind = hl.split.kind in
      let here = turns_taken node in
      let gift = gift_if away right in
      let all : List Piece = w.more ++ more in
      let C : Context → Type 0 = λ c. IsSearchTree problem bounds c w.own in
      let left_turns : turns_taken hl.left ≡ here ++ false ∷ [] = ap turns_taken hl.split.is ∙ turns_left node l kind in
      let R : Turns → Type 0 = λ t. Replaced (MayCut (w.told ++ told) all) t w.own w.more in
      let left_replaced = subst R left_turns (replaced_more (may_left w.told told w.more more) w.replaced) in
      let T : List Piece → Type 0 = λ ps. IsTally bounds.list new ps in
      let H : List Turns → Type 0 = λ g. ExtendsBy start now g (w.told ++ told) (w.sent ++ sent) in
      let gave : List Turns = gift ++ w.gave in
      let no_more : gift ++ (w.gave ++ []) ≡ gave = ap (λ (g : List Turns). gift ++ g) (append-nil w.gave) in
      let reversed : reverse (gifts all) ≡ gave =
      ap (λ (g : List Turns). reverse g) (gifts_append w.more more)
      ∙ (reverse-append (gifts w.more) (gifts more)
      ∙ (ap (λ (g : List Turns). reverse g ++ reverse (gifts w.more)) gift_is
      ∙ (ap (λ (g : List Turns). g ++ reverse (gifts w.more)) (reverse_gift away right)
      ∙ ap (λ (g : List Turns). gift ++ g) (sym w.gifts_are)))) in
      record {
        own = Node w.own tree;
        tree = splits hl.split.next (subst C hl.split.is w.tree) is_tree;
        more = all;
        gave = gave;
        told = w.told ++ told;
        sent = w.sent ++ sent;
        extends = subst H no_more (extends_more hl.went (extends_more w.extends extends));
        replaced = own_node left_replaced replaced;
        gifts_are = sym reversed;
        lawful = All-append (MayBeGiven share here) gift w.gave (gift_lawful share here right away hl.right_is hl.few) (All-weaker (MayBeGiven share (turns_taken hl.left)) (MayBeGiven share here) (λ g may. given_deeper share here (turns_taken hl.left) g left_turns may) w.gave w.lawful);
        sent_is = sym (sats_append w.more more ∙ (λ i. sym w.sent_is i ++ sent_is i));
        one_sat = one;
        goes_on = on;
        tally = λ before t. subst T (append_assoc before w.more more) (add_all (before ++ w.more) (w.tally before t));
      }

  right_tree : (hl : HasWalkedLeft problem bounds share away right base state stands_at node start mid first was) → (tree : SearchTree) × IsSearchTree problem bounds (right_of node hl.split.l hl.split.kind) tree
  right_tree hl = tree_of problem bounds (right_of node hl.split.l hl.split.kind) (went_right hl.grown hl.split.next)

  left_state : (hl : HasWalkedLeft problem bounds share away right base state stands_at node start mid first was) → (told : List ℕ) (more : List Piece) → sat_keys more ≡ [] → GoesOn state (hl.walked.told ++ told) (hl.walked.more ++ more) (turns_taken node)
  left_state hl told more none =
      let w = hl.walked in
      let left_turns = ap turns_taken hl.split.is ∙ turns_left node hl.split.l hl.split.kind in
      let same : sat_keys (w.more ++ more) ≡ sat_keys w.more = sats_append w.more more ∙ (ap (λ (ks : List ℕ). sat_keys w.more ++ ks) none ∙ append-nil (sat_keys w.more)) in
      goes_up state (w.told ++ told) (w.more ++ more) (turns_taken node) (turns_taken hl.left) false left_turns (goes_more state w.told (w.told ++ told) w.more (w.more ++ more) (turns_taken hl.left) (may_left w.told told w.more more) same w.goes_on)

  sent_one : (hl : HasWalkedLeft problem bounds share away right base state stands_at node start mid first was) → length (hl.walked.sent ++ []) ≤ 1
  sent_one hl = let P : List ℕ → Type 0 = λ s. length s ≤ 1 in subst P (sym (append-nil hl.walked.sent)) hl.walked.one_sat

  -- the right child went away
  pub gave_away : (hl : HasWalkedLeft problem bounds share away right base state stands_at node start mid first was) → away ≡ true → (new : Tally) → ((before : List Piece) → IsTally bounds.list was before → IsTally bounds.list new (before ++ Gift right ∷ [])) → IsWalked problem bounds share node state start mid first new
  gave_away hl yes_away new add_all =
      let tree = right_tree hl in
      let M = MayCut (hl.walked.told ++ []) (hl.walked.more ++ Gift right ∷ []) in
      let R : Turns → Type 0 = λ t. Replaced M t tree.0 (Gift right ∷ []) in
      combine hl mid new state tree.0 tree.1 (Gift right ∷ []) [] [] (extends_none mid) (subst R hl.right_is given) (ap (λ b. gift_if b right) (sym yes_away)) refl (sent_one hl) (left_state hl [] (Gift right ∷ []) refl) add_all

  -- it is cut with the key that cut the left one
  pub cut_right : (hl : HasWalkedLeft problem bounds share away right base state stands_at node start mid first was) → away ≡ false → (cut_key : ℕ) → state ≡ Cutting cut_key → (new : Tally) → ((before : List Piece) → IsTally bounds.list was before → IsTally bounds.list new (before ++ Cut right cut_key ∷ [])) → IsWalked problem bounds share node (Cutting cut_key) start mid first new
  cut_right hl stays cut_key is new add_all =
      let w = hl.walked in
      let tree = right_tree hl in
      let more : List Piece = Cut right cut_key ∷ [] in
      let M = MayCut (w.told ++ []) (w.more ++ more) in
      let G : State → Type 0 = λ s. GoesOn s w.told w.more (turns_taken hl.left) in
      let left_turns = ap turns_taken hl.split.is ∙ turns_left node hl.split.l hl.split.kind in
      let L : Turns → Type 0 = λ t. IsLeftOf t right in
      let N : Turns → Type 0 = λ t. IsLeftOf (turns_taken node ++ false ∷ []) t in
      let apart : IsLeftOf (turns_taken hl.left) right = subst L (sym left_turns) (subst N (sym hl.right_is) (children_apart (turns_taken node) [] [])) in
      let on = subst G is w.goes_on in
      let may = may_left w.told [] w.more more cut_key right (on right apart) in
      let R : Turns → Type 0 = λ t. Replaced M t tree.0 more in
      let S : State → Type 0 = λ s. GoesOn s (w.told ++ []) (w.more ++ more) (turns_taken node) in
      combine hl mid new (Cutting cut_key) tree.0 tree.1 more [] [] (extends_none mid) (subst R hl.right_is (cut may)) (ap (λ b. gift_if b right) (sym stays)) refl (sent_one hl) (subst S is (left_state hl [] more refl)) add_all

  -- it is lost
  pub lost_right : (hl : HasWalkedLeft problem bounds share away right base state stands_at node start mid first was) → away ≡ false → (new : Tally) → ((before : List Piece) → IsTally bounds.list was before → IsTally bounds.list new (before ++ NoMemory ∷ [])) → IsWalked problem bounds share node Lost start mid first new
  lost_right hl stays new add_all =
      let tree = right_tree hl in
      combine hl mid new Lost tree.0 tree.1 (NoMemory ∷ []) [] [] (extends_none mid) no_memory (ap (λ b. gift_if b right) (sym stays)) refl (sent_one hl) tt add_all

  -- it was walked too
  pub walked_right : (hl : HasWalkedLeft problem bounds share away right base state stands_at node start mid first was) → away ≡ false → state ≡ Going → (turned : Context) → turned ≡ right_of node hl.split.l hl.split.kind → (result : State) (now : History) (new : Tally) → IsWalked problem bounds 0 turned result mid now was new → IsWalked problem bounds share node result start now first new
  walked_right hl stays going turned is result now new r =
      let w = hl.walked in
      let l = hl.split.l in
      let kind = hl.split.kind in
      let turns_are : turns_taken turned ≡ turns_taken node ++ true ∷ [] = ap turns_taken is ∙ turns_right node l kind in
      let nothing = no_gifts (turns_taken turned) r.gave r.lawful in
      let no_gift : gifts r.more ≡ [] = no_reverse (gifts r.more) (sym nothing ∙ r.gifts_are) in
      let C : Context → Type 0 = λ c. IsSearchTree problem bounds c r.own in
      let H : List Turns → Type 0 = λ g. ExtendsBy mid now g r.told r.sent in
      let told = w.told ++ r.told in
      let more : List Piece = w.more ++ r.more in
      let may = may_right w.told r.told w.more r.more in
      let R : Turns → Type 0 = λ t. Replaced (MayCut told more) t r.own r.more in
      let G : State → Type 0 = λ s. GoesOn s w.told w.more (turns_taken hl.left) in
      let no_sat : sat_keys w.more ≡ [] = subst G going w.goes_on in
      let no_sent : w.sent ≡ [] = w.sent_is ∙ no_sat in
      let L : List ℕ → Type 0 = λ s. length (s ++ r.sent) ≤ 1 in
      let same : sat_keys more ≡ sat_keys r.more = sats_append w.more r.more ∙ ap (λ (ks : List ℕ). ks ++ sat_keys r.more) no_sat in
      combine hl now new result r.own (subst C is r.tree) r.more r.told r.sent (subst H nothing r.extends) (subst R turns_are (replaced_more may r.replaced)) (no_gift ∙ ap (λ b. gift_if b right) (sym stays)) (sym r.sent_is) (subst L (sym no_sent) r.one_sat)
      (goes_up result told more (turns_taken node) (turns_taken turned) true turns_are (goes_more result r.told told r.more more (turns_taken turned) may same r.goes_on)) r.tally

-- ---- which gifts are admitted
pub same_gifts : {J : Type 0} {a b c : Turns → J → Type 0} → SameGifts a b → SameGifts b c → SameGifts a c
same_gifts f g path work = (λ h. (g path work).0 ((f path work).0 h), λ h. (f path work).1 ((g path work).1 h))

-- ---- the left branch that was walked
pub ready_open : (state : State) (tally : Tally) → TakesOwnLeaf tally → IsReady state tally
ready_open Going tally h = h
ready_open (Cutting cut_key) tally h = open_takes cut_key tally.last h
ready_open Lost tally h = open_loses tally.last h

module _ (problem : ProblemValue) (bounds : Bounds) (share : ℕ) (away : Bool) (right : Turns) (base : ℕ) (state : State) (stands_at node : Context) (start mid : History) (first was : Tally) (hl : HasWalkedLeft problem bounds share away right base state stands_at node start mid first was) where
  pub left_ends : EndsLeft hl.left
  left_ends = record { before = node; left = split_entry hl.split.l hl.split.kind SplitLeft; some = grown_some hl.grown; is = hl.split.is; is_left = refl }

  pub left_is_grown : IsGrown problem bounds hl.left
  left_is_grown =
      let P : Context → Type 0 = λ c. IsGrown problem bounds c in
      subst P (sym hl.split.is) (went_left hl.grown hl.split.next)

  pub base_some : 1 ≤ base
  base_some =
      let many = ap length hl.split.is in
      let more = longer node (split_entry hl.split.l hl.split.kind SplitLeft) in
      let same = hl.at_base in
      omega (arith, many, more, same)

  pub right_grown : (turned : Context) → turned ≡ add node (beside (split_entry hl.split.l hl.split.kind SplitLeft)) → IsGrown problem bounds turned
  right_grown turned is =
      let P : Context → Type 0 = λ c. IsGrown problem bounds c in
      subst P (sym is) (went_right hl.grown hl.split.next)
