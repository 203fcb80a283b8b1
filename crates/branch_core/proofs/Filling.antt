-- Whole records can be filled in: a gift's path is longer than its giver's, and no path is longer than the tree is high.
use Rattle.std.proofs.Common.{◌≡◌, ℕ, zero, suc, ◌+◌, ◌≤◌, true, false, List, [], ◌∷◌, ◌++◌, map, length, length-append, Some, slice_get, refl, sym, subst, ap, arith}
use Rattle.branch_core.specs.Paths.{Turns}
use Rattle.branch_core.specs.SearchTree.{SearchTree, Leaf, Node, subtree}
use Rattle.branch_core.specs.Parts.{PartValue, RecordValue}
use Rattle.branch_core.specs.Pieces.{Piece, Closed, Bounded, Sat, Gift, Cut, NoMemory}
use Rattle.branch_core.specs.StandsFor.{part_of, Account, record_of}
use Rattle.branch_core.specs.Whole.{IsIn, AreWhole}
use Rattle.branch_core.specs.Filled.{Filled, none_left, own, put}
use Rattle.branch_core.specs.RecordLaws.{WholeRecordsFill}

height : SearchTree → ℕ
height (Leaf outcome) = 0
height (Node left right) = suc (height left + height right)

path_short : (search : SearchTree) (turns : Turns) (sub : SearchTree) → subtree search turns ≡ Some sub → length turns ≤ height search
unfolding height
path_short search [] sub h = omega arith
path_short (Leaf outcome) (t ∷ turns) sub h = cc
path_short (Node left right) (false ∷ turns) sub h = omega (arith, path_short left turns sub h)
path_short (Node left right) (true ∷ turns) sub h = omega (arith, path_short right turns sub h)

pub map_get : {A B : Type 0} (f : A → B) (xs : List A) (k : ℕ) (x : A) → slice_get xs k ≡ Some x → slice_get (map f xs) k ≡ Some (f x)
map_get f [] zero x h = cc
map_get f [] (suc k) x h = cc
map_get f (y ∷ xs) zero x h = let same : y ≡ x = cc h in λ i. Some (f (same i))
map_get f (y ∷ xs) (suc k) x h = map_get f xs k x h

-- a record of this path, with its gifts filled in
record Ready (records : List RecordValue) (path : Turns) : Type 0 where
  gift : RecordValue
  inner : List PartValue
  is_in : IsIn gift records
  at : gift.path ≡ path
  fills : Filled records gift.parts inner

fill_list : (n : ℕ) (records : List RecordValue) (ps : List Piece) → ((g : Turns) → IsIn (Gift g) ps → Ready records g) → (filled : List PartValue) × Filled records (map (part_of n) ps) filled
fill_list n records [] h = ([], none_left)
fill_list n records (p ∷ ps) h =
    let later = fill_list n records ps (λ g m. h g (suc m.0, m.1)) in
    first p (λ g e. h g (0, ap (λ (z : Piece). Some z) e)) later.0 later.1
  where
    first : (p : Piece) → ((g : Turns) → p ≡ Gift g → Ready records g) → (outer : List PartValue) → Filled records (map (part_of n) ps) outer → (filled : List PartValue) × Filled records (part_of n p ∷ map (part_of n) ps) filled
    first (Closed list) h outer later = (_, own tt later)
    first (Bounded b) h outer later = (_, own tt later)
    first (Sat turns context) h outer later = (_, own tt later)
    first (Gift turns) h outer later =
        let r = h turns refl in
        let P : Turns → Type 0 = λ t. Filled records (part_of n (Gift t) ∷ map (part_of n) ps) (r.inner ++ outer) in
        (r.inner ++ outer, subst P r.at (put r.is_in r.fills later))
    first (Cut turns key) h outer later = (_, own tt later)
    first NoMemory h outer later = (_, own tt later)

module _ (search : SearchTree) (n : ℕ) (accounts : List Account) (whole : AreWhole search accounts) where
  further : (a b : Account) → IsIn a accounts → IsIn b accounts → IsIn (Gift b.path) a.pieces → (length a.path + 1 ≤ length b.path) × (length b.path ≤ height search)
  further a b g h m =
      let e = whole.extends a b.path g m in
      let stands = whole.stands b h in
      (omega (arith, ap length e.2, length-append a.path (e.0 ∷ e.1)), path_short search b.path stands.own stands.at_path)

  fill_account : (room : ℕ) (a : Account) → height search ≤ length a.path + room → IsIn a accounts → (filled : List PartValue) × Filled (map (record_of n) accounts) (map (part_of n) a.pieces) filled
  fill_account zero a short h =
      fill_list n (map (record_of n) accounts) a.pieces (λ g m.
      let b = whole.gifts a g h m in
      let less = further a b.0 h b.1 (subst (λ (t : Turns). IsIn (Gift t) a.pieces) (sym b.2) m) in absurd (omega (arith, less.0, less.1, short)))
  fill_account (suc room) a short h =
      fill_list n (map (record_of n) accounts) a.pieces (λ g m.
      let b = whole.gifts a g h m in
      let less = further a b.0 h b.1 (subst (λ (t : Turns). IsIn (Gift t) a.pieces) (sym b.2) m) in
      let x = fill_account room b.0 (omega (arith, less.0, short)) b.1 in
      record { gift = record_of n b.0; inner = x.0; is_in = (b.1.0, map_get (record_of n) accounts b.1.0 b.0 b.1.1); at = b.2; fills = x.1 })

pub whole_fill : WholeRecordsFill
whole_fill problem bounds records whole =
    let search = whole.0 in
    let accounts = whole.2.0 in
    let root = whole.2.1.root in
    let x = fill_account search bounds.list accounts whole.2.1 (height search) root.0 (omega arith) root.1 in
    let P : List RecordValue → Type 0 = λ rs. IsIn (record_of bounds.list root.0) rs × Filled rs (map (part_of bounds.list) root.0.pieces) x.0 in
    let moved = subst P (sym whole.2.2) ((root.1.0, map_get (record_of bounds.list) accounts root.1.0 root.0 root.1.1), x.1) in
    (record_of bounds.list root.0, x.0, moved.0, root.2, moved.1)
