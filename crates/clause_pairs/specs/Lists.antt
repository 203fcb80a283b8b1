-- Lists of numbers by clause and place, and one number put to some of them or taken off.
use Rattle.std.specs.Prelude.{ℕ, ◌-◌, ◌<◌, Bool, false, List, [], ◌∷◌, ◌++◌, length, take, eqb, slice_set, slice_index_or, if◌then◌else◌}
use Rattle.clause_pairs.specs.declared.clause_place.ClausePlace.{ClausePlace}

-- The number is the last one.
abbrev pub ends_with : ℕ → List ℕ → Bool
ends_with k [] = false
ends_with k (x ∷ []) = eqb x k
ends_with k (x ∷ y ∷ xs) = ends_with k (y ∷ xs)

-- with the number at the end, once
abbrev pub put_to : ℕ → List ℕ → List ℕ
put_to k xs = if ends_with k xs then xs else xs ++ k ∷ []

-- without the number at the end, if it stands there
abbrev pub without : ℕ → List ℕ → List ℕ
without k xs = if ends_with k xs then take (length xs - 1) xs else xs

-- Each number is smaller than each behind it.
abbrev pub IsRising : List ℕ → Type 0
IsRising xs = (i j d : ℕ) → i < j → j < length xs → slice_index_or xs i d < slice_index_or xs j d

-- The place has a list.
abbrev pub HasPlace : List (List (List ℕ)) → ClausePlace → Type 0
HasPlace lists q = (q.clause < length lists) × (q.place < length (slice_index_or lists q.clause []))

-- the list of that place
abbrev pub list_at : List (List (List ℕ)) → ClausePlace → List ℕ
list_at lists q = slice_index_or (slice_index_or lists q.clause []) q.place []

-- the lists with that of the place changed by the function
abbrev pub put : (List ℕ → List ℕ) → List (List (List ℕ)) → ClausePlace → List (List (List ℕ))
put f lists q = slice_set lists q.clause (slice_set (slice_index_or lists q.clause []) q.place (f (list_at lists q)))

-- the same for each of these places
abbrev pub put_all : (List ℕ → List ℕ) → List (List (List ℕ)) → List ClausePlace → List (List (List ℕ))
put_all f lists [] = lists
put_all f lists (q ∷ qs) = put_all f (put f lists q) qs
