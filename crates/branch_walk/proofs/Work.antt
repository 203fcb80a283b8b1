-- How much is left to walk: it falls with each entry more, and where a left branch makes way for the right one beside it.
use Rattle.std.proofs.Common.{◌≡◌, ℕ, zero, suc, ◌+◌, ◌<◌, ◌≤◌, [], ◌∷◌, ◌++◌, length, ap, arith}
use Rattle.me_terms.specs.Values.{EntryValue, ReasonValue, Pseudo, Asserted, SplitLeft, SplitRight}
use Rattle.me_terms.specs.Context.{Context, add}

-- the nodes of a whole binary tree
abbrev pub tree : ℕ → ℕ
tree zero = 1
tree (suc n) = 1 + (tree n + tree n)

-- beside a left branch waits a whole tree
abbrev pub pending : ReasonValue → ℕ → ℕ
pending SplitLeft n = tree n
pending SplitRight n = 0
pending Pseudo n = 0
pending (Asserted c place tuple) n = 0

-- what waits beside the entries of a context, which may grow to n entries, and below it
abbrev pub work : ℕ → Context → ℕ
work n [] = tree n
work zero (e ∷ es) = 1
work (suc n) (e ∷ es) = pending e.reason n + work n es

tree_some : (n : ℕ) → 1 ≤ tree n
tree_some zero = omega arith
tree_some (suc n) = omega arith

pending_most : (why : ReasonValue) (n : ℕ) → pending why n ≤ tree n
pending_most SplitLeft n = omega arith
pending_most SplitRight n = omega arith
pending_most Pseudo n = omega arith
pending_most (Asserted c place tuple) n = omega arith

work_some : (n : ℕ) (context : Context) → 1 ≤ work n context
work_some n [] = tree_some n
work_some zero (e ∷ es) = omega arith
work_some (suc n) (e ∷ es) = let later = work_some n es in omega (arith, later)

pub work_add : (n : ℕ) (context : Context) (e : EntryValue) → length context < n → work n (add context e) < work n context
work_add zero context e lt = absurd (omega (arith, lt))
work_add (suc n) [] e lt = let most = pending_most e.reason n in omega (arith, most)
work_add (suc n) (x ∷ xs) e lt = let later = work_add n xs e (omega (arith, lt)) in omega (arith, later)

pub work_turn : (n : ℕ) (before : Context) (left right : EntryValue) (later : Context) → length before < n → left.reason ≡ SplitLeft → right.reason ≡ SplitRight → work n (add before right) < work n (before ++ left ∷ later)
work_turn zero before left right later lt g h = absurd (omega (arith, lt))
work_turn (suc n) [] left right later lt g h =
    let waits = ap (λ why. pending why n) g in
    let gone = ap (λ why. pending why n) h in
    let some = work_some n later in
    omega (arith, waits, gone, some)
work_turn (suc n) (x ∷ xs) left right later lt g h = let less = work_turn n xs left right later (omega (arith, lt)) g h in omega (arith, less)
