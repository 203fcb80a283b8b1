-- What pieces add up to, with the outcomes of leaves that are known and of those that are not.
use Rattle.std.proofs.Common.{◌≡◌, ℕ, ◌≤◌, ◌<◌, true, false, ◌⊎◌, inl, inr, List, [], ◌∷◌, ◌++◌, map, append-nil, Option, Some, None, refl, sym, subst, ap, ◌∙◌, arith, nat_le}
use Rattle.std.proofs.Math.Dec.{leb-zero}
use Rattle.std.proofs.lemmas.Bool.Decides.{leb_tells}
use Rattle.me_terms.specs.Measures.{list_weight}
use Rattle.me_terms.specs.Values.{InstanceValue}
use Rattle.me_terms.specs.FirstOccurrences.{first_occurrences, joined}
use Rattle.me_terms.specs.Outcome.{TreeOutcome, Closed, Sat, Met, both}
use Rattle.branch_core.specs.SearchTree.{EachOnce, ListsOnce}
use Rattle.branch_core.specs.Parts.{listed}
use Rattle.branch_core.specs.Pieces.{Piece}
use Rattle.branch_core.specs.StandsFor.{part_of}
use Rattle.branch_core.specs.Pieces as piece
use Rattle.branch_core.specs.Total.{Total, AllClosed, HasBound, HasSat, Lost, total_with, part_total, total_of, listed_joined}
use Rattle.instance_lists.proofs.FirstOccurrences.{first-again, joined-assoc, weight-left, weight-right}

-- An outcome, or none where leaves that count are not known.
abbrev pub Value : Type 0
Value = Option TreeOutcome

abbrev pub none_yet : Value
none_yet = Some (Closed [])

abbrev pub plus : Value → Value → Value
plus None later = None
plus (Some (Sat context)) later = Some (Sat context)
plus (Some (Closed list)) None = None
plus (Some (Closed list)) (Some r) = Some (both (Closed list) r)
plus (Some (Met b)) None = None
plus (Some (Met b)) (Some r) = Some (both (Met b) r)

abbrev pub Once : Value → Type 0
Once None = Unit {0}
Once (Some r) = ListsOnce r

pub once_plus : (v w : Value) → Once w → Once v → Once (plus v w)
once_plus None w g h = tt
once_plus (Some (Sat context)) w g h = tt
once_plus (Some (Closed list)) None g h = tt
once_plus (Some (Closed list)) (Some (Closed more)) g h = first-again (list ++ more)
once_plus (Some (Closed list)) (Some (Sat context)) g h = tt
once_plus (Some (Closed list)) (Some (Met b)) g h = tt
once_plus (Some (Met b)) None g h = tt
once_plus (Some (Met b)) (Some (Closed more)) g h = tt
once_plus (Some (Met b)) (Some (Sat context)) g h = tt
once_plus (Some (Met b)) (Some (Met c)) g h = tt

pub plus-assoc : (u v w : Value) → plus (plus u v) w ≡ plus u (plus v w)
plus-assoc None v w = refl
plus-assoc (Some (Sat context)) v w = refl
plus-assoc (Some (Closed a)) None w = refl
plus-assoc (Some (Closed a)) (Some (Sat context)) w = refl
plus-assoc (Some (Closed a)) (Some (Closed b)) None = refl
plus-assoc (Some (Closed a)) (Some (Closed b)) (Some (Closed c)) = λ i. Some (Closed (joined-assoc a b c i))
plus-assoc (Some (Closed a)) (Some (Closed b)) (Some (Sat context)) = refl
plus-assoc (Some (Closed a)) (Some (Closed b)) (Some (Met c)) = refl
plus-assoc (Some (Closed a)) (Some (Met b)) None = refl
plus-assoc (Some (Closed a)) (Some (Met b)) (Some (Closed c)) = refl
plus-assoc (Some (Closed a)) (Some (Met b)) (Some (Sat context)) = refl
plus-assoc (Some (Closed a)) (Some (Met b)) (Some (Met c)) = refl
plus-assoc (Some (Met a)) None w = refl
plus-assoc (Some (Met a)) (Some (Sat context)) w = refl
plus-assoc (Some (Met a)) (Some (Closed b)) None = refl
plus-assoc (Some (Met a)) (Some (Closed b)) (Some (Closed c)) = refl
plus-assoc (Some (Met a)) (Some (Closed b)) (Some (Sat context)) = refl
plus-assoc (Some (Met a)) (Some (Closed b)) (Some (Met c)) = refl
plus-assoc (Some (Met a)) (Some (Met b)) None = refl
plus-assoc (Some (Met a)) (Some (Met b)) (Some (Closed c)) = refl
plus-assoc (Some (Met a)) (Some (Met b)) (Some (Sat context)) = refl
plus-assoc (Some (Met a)) (Some (Met b)) (Some (Met c)) = refl

pub none-plus : (v : Value) → Once v → plus none_yet v ≡ v
none-plus None h = refl
none-plus (Some (Closed list)) h = λ i. Some (Closed (h i))
none-plus (Some (Sat context)) h = refl
none-plus (Some (Met b)) h = refl

pub plus-none : (v : Value) → Once v → plus v none_yet ≡ v
plus-none None h = refl
plus-none (Some (Closed list)) h = λ i. Some (Closed ((ap first_occurrences (append-nil list) ∙ h) i))
plus-none (Some (Sat context)) h = refl
plus-none (Some (Met b)) h = refl

-- ---- pieces without gifts
abbrev pub value_of : Piece → Value
value_of (piece.Closed list) = Some (Closed list)
value_of (piece.Bounded b) = Some (Met b)
value_of (piece.Sat turns context) = Some (Sat context)
value_of (piece.Gift turns) = None
value_of (piece.Cut turns key) = None
value_of piece.NoMemory = None

abbrev pub sum_of : List Piece → Value
sum_of [] = none_yet
sum_of (p ∷ ps) = plus (value_of p) (sum_of ps)

abbrev pub PieceOnce : Piece → Type 0
PieceOnce (piece.Closed list) = EachOnce list
PieceOnce (piece.Bounded b) = Unit {0}
PieceOnce (piece.Sat turns context) = Unit {0}
PieceOnce (piece.Gift turns) = Unit {0}
PieceOnce (piece.Cut turns key) = Unit {0}
PieceOnce piece.NoMemory = Unit {0}

abbrev pub PiecesOnce : List Piece → Type 0
PiecesOnce [] = Unit {0}
PiecesOnce (p ∷ ps) = PieceOnce p × PiecesOnce ps

pub once_value : (p : Piece) → PieceOnce p → Once (value_of p)
once_value (piece.Closed list) h = h
once_value (piece.Bounded b) h = tt
once_value (piece.Sat turns context) h = tt
once_value (piece.Gift turns) h = tt
once_value (piece.Cut turns key) h = tt
once_value piece.NoMemory h = tt

pub once_sum : (ps : List Piece) → PiecesOnce ps → Once (sum_of ps)
once_sum [] h = refl
once_sum (p ∷ ps) h = once_plus (value_of p) (sum_of ps) (once_sum ps h.1) (once_value p h.0)

pub sum-append : (ps qs : List Piece) → PiecesOnce qs → sum_of (ps ++ qs) ≡ plus (sum_of ps) (sum_of qs)
sum-append [] qs h = sym (none-plus (sum_of qs) (once_sum qs h))
sum-append (p ∷ ps) qs h = ap (plus (value_of p)) (sum-append ps qs h) ∙ sym (plus-assoc (value_of p) (sum_of ps) (sum_of qs))

pub once-append : (ps qs : List Piece) → PiecesOnce ps → PiecesOnce qs → PiecesOnce (ps ++ qs)
once-append [] qs g h = h
once-append (p ∷ ps) qs g h = (g.0, once-append ps qs g.1 h)

-- ---- weighed
abbrev pub weighed : ℕ → Value → Total
weighed list_bound None = Lost
weighed list_bound (Some (Closed list)) = AllClosed (listed list_bound list)
weighed list_bound (Some (Sat context)) = HasSat context
weighed list_bound (Some (Met b)) = HasBound b

le_cases : (a b : ℕ) → ((nat_le a b ≡ true) × (a ≤ b)) ⊎ ((nat_le a b ≡ false) × (b < a))
le_cases a b = leb_tells a b

le_false : (a b : ℕ) → b < a → nat_le a b ≡ false
le_false a b h = elim (leb_tells a b) as (λ _. nat_le a b ≡ false) [ inl x ↦ absurd (omega (arith, x.1, h)) | inr x ↦ x.0 ]

listed-joined : (list_bound : ℕ) (list more : List InstanceValue) → EachOnce list → EachOnce more → listed_joined list_bound (listed list_bound list) (listed list_bound more) ≡ listed list_bound (joined list more)
listed-joined n list more g h =
    let left : list_weight list ≤ list_weight (joined list more) =
    let P : List InstanceValue → Type 0 = λ ls. list_weight ls ≤ list_weight (joined list more) in subst P g (weight-left list more) in
    let right : list_weight more ≤ list_weight (joined list more) =
    let P : List InstanceValue → Type 0 = λ ls. list_weight ls ≤ list_weight (joined list more) in subst P h (weight-right list more) in
    elim (le_cases (list_weight list) n) as (λ _. listed_joined n (listed n list) (listed n more) ≡ listed n (joined list more)) [
      | inl x ↦ elim (le_cases (list_weight more) n) as (λ _. listed_joined n (listed n list) (listed n more) ≡ listed n (joined list more)) [
        | inl y ↦ simp (x.0, y.0)
        | inr y ↦
            let heavy : nat_le (list_weight (joined list more)) n ≡ false = le_false (list_weight (joined list more)) n (omega (arith, y.1, right)) in
            simp (x.0, y.0, heavy)
      ]
      | inr x ↦
          let heavy : nat_le (list_weight (joined list more)) n ≡ false = le_false (list_weight (joined list more)) n (omega (arith, x.1, left)) in
          simp (x.0, heavy)
    ]

weighed-plus : (n : ℕ) (v w : Value) → Once v → Once w → total_with n (weighed n v) (weighed n w) ≡ weighed n (plus v w)
weighed-plus n None w g h = refl
weighed-plus n (Some (Sat context)) w g h = refl
weighed-plus n (Some (Closed list)) None g h = refl
weighed-plus n (Some (Closed list)) (Some (Closed more)) g h = λ i. AllClosed (listed-joined n list more g h i)
weighed-plus n (Some (Closed list)) (Some (Sat context)) g h = refl
weighed-plus n (Some (Closed list)) (Some (Met b)) g h = refl
weighed-plus n (Some (Met b)) None g h = refl
weighed-plus n (Some (Met b)) (Some (Closed more)) g h = refl
weighed-plus n (Some (Met b)) (Some (Sat context)) g h = refl
weighed-plus n (Some (Met b)) (Some (Met c)) g h = refl

part_weighed : (n : ℕ) (p : Piece) → part_total (part_of n p) ≡ weighed n (value_of p)
part_weighed n (piece.Closed list) = refl
part_weighed n (piece.Bounded b) = refl
part_weighed n (piece.Sat turns context) = refl
part_weighed n (piece.Gift turns) = refl
part_weighed n (piece.Cut turns key) = refl
part_weighed n piece.NoMemory = refl

pub total_weighed : (n : ℕ) (ps : List Piece) → PiecesOnce ps → total_of n (map (part_of n) ps) ≡ weighed n (sum_of ps)
total_weighed n [] h = simp (leb-zero n)
total_weighed n (p ∷ ps) h =
    (λ i. total_with n (part_weighed n p i) (total_weighed n ps h.1 i))
    ∙ weighed-plus n (value_of p) (sum_of ps) (once_value p h.0) (once_sum ps h.1)
