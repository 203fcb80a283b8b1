-- Pieces that are joined, among others: what is joined stays so with more on either side, and one joining follows another.
use Rattle.std.proofs.Common.{ℕ, List, [], ◌∷◌, ◌++◌, sym, subst, append_assoc}
use Rattle.me_terms.specs.Context.{Context}
use Rattle.branch_core.specs.Paths.{Turns}
use Rattle.branch_core.specs.Pieces.{Piece, Sat, Cut, NoMemory}
use Rattle.branch_core.specs.Joined.{Joins, Joined, as_they_are, join, sat_takes, takes_later, cut_cut}
use Rattle.branch_walk.specs.Tallies.{cuts, losses}

pub joined_then : {a b c : List Piece} → Joined a b → Joined b c → Joined a c
joined_then as_they_are h = h
joined_then {c = c} (join before after others first second one j g) h = join before after c first second one j (joined_then g h)

pub joined_more : {a b : List Piece} (more : List Piece) → Joined a b → Joined (a ++ more) (b ++ more)
joined_more more as_they_are = as_they_are
joined_more more (join before after others first second one j g) =
    let P : List Piece → Type 0 = λ x. Joined x (others ++ more) in
    subst P (sym (append_assoc before (first ∷ second ∷ after) more)) (join before (after ++ more) (others ++ more) first second one j (subst P (append_assoc before (one ∷ after) more) (joined_more more g)))

pub joined_behind : {a b : List Piece} (more : List Piece) → Joined a b → Joined (more ++ a) (more ++ b)
joined_behind more as_they_are = as_they_are
joined_behind more (join before after others first second one j g) =
    let P : List Piece → Type 0 = λ x. Joined x (more ++ others) in
    subst P (append_assoc more before (first ∷ second ∷ after)) (join (more ++ before) after (more ++ others) first second one j (subst P (sym (append_assoc more before (one ∷ after))) (joined_behind more g)))

-- two pieces as one
pub joined_pair : {first second one : Piece} → Joins first second one → Joined (first ∷ second ∷ []) (one ∷ [])
joined_pair {first} {second} {one} j = join [] [] (one ∷ []) first second one j as_they_are

-- where the last pieces may be joined with those that follow, so are the whole
pub joined_last : {leaves : List Piece} (earlier tail more new_tail : List Piece) → Joined leaves (earlier ++ tail) → Joined (tail ++ more) new_tail → Joined (leaves ++ more) (earlier ++ new_tail)
joined_last {leaves} earlier tail more new_tail g h =
    let P : List Piece → Type 0 = λ x. Joined (leaves ++ more) x in
    joined_then (subst P (append_assoc earlier tail more) (joined_more more g)) (joined_behind earlier h)

pub cuts_joined : (key : ℕ) (turns : Turns) (later : List Turns) → Joined (Cut turns key ∷ cuts key later) (Cut turns key ∷ [])
cuts_joined key turns [] = as_they_are
cuts_joined key turns (next ∷ later) = join [] (cuts key later) (Cut turns key ∷ []) (Cut turns key) (Cut next key) (Cut turns key) cut_cut (cuts_joined key turns later)

pub sat_takes_cuts : (leaf : Turns) (context : Context) (key : ℕ) (nodes : List Turns) → Joined (Sat leaf context ∷ cuts key nodes) (Sat leaf context ∷ [])
sat_takes_cuts leaf context key [] = as_they_are
sat_takes_cuts leaf context key (next ∷ later) =
    join [] (cuts key later) (Sat leaf context ∷ []) (Sat leaf context) (Cut next key) (Sat leaf context) (sat_takes tt) (sat_takes_cuts leaf context key later)

pub losses_joined : (nodes : List Turns) → Joined (NoMemory ∷ losses nodes) (NoMemory ∷ [])
losses_joined [] = as_they_are
losses_joined (next ∷ later) = join [] (losses later) (NoMemory ∷ []) NoMemory NoMemory NoMemory (takes_later tt) (losses_joined later)

pub sat_takes_losses : (leaf : Turns) (context : Context) (nodes : List Turns) → Joined (Sat leaf context ∷ losses nodes) (Sat leaf context ∷ [])
sat_takes_losses leaf context [] = as_they_are
sat_takes_losses leaf context (next ∷ later) =
    join [] (losses later) (Sat leaf context ∷ []) (Sat leaf context) NoMemory (Sat leaf context) (sat_takes tt) (sat_takes_losses leaf context later)
