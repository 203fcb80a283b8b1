-- At which positions of a list of keys a key stands, and how that is kept as a list for each key.
use Rattle.std.specs.Prelude.{◌≡◌, ℕ, suc, ◌-◌, Bool, false, List, [], ◌∷◌, ◌++◌, length, take, Option, None, Some, eqb, if◌then◌else◌}
use Rattle.std.specs.Map.{lookup}
use Rattle.std.specs.declared.vec.Vec.{Vec}
use Rattle.std.specs.declared.alloc.Global.{Global}

-- The key is this one.
abbrev pub is_key : ℕ → Option ℕ → Bool
is_key key None = false
is_key key (Some other) = eqb other key

-- the positions at which the key stands, rising, where the first key stands at position n
abbrev pub positions_from : ℕ → ℕ → List (Option ℕ) → List ℕ
positions_from n key [] = []
positions_from n key (x ∷ xs) = if is_key key x then n ∷ positions_from (suc n) key xs else positions_from (suc n) key xs

-- the same from position 0 on
abbrev pub positions : ℕ → List (Option ℕ) → List ℕ
positions key xs = positions_from 0 key xs

-- keys with their lists
abbrev pub Lists : Type 0
Lists = List (ℕ × Vec ℕ Global)

-- the items of a list, if there is one
abbrev pub items_of : Option (Vec ℕ Global) → List ℕ
items_of None = []
items_of (Some list) = list.items

-- what the list of the key has; a key without one has nothing
abbrev pub listed : Lists → ℕ → List ℕ
listed lists key = items_of (lookup (eqb key) lists)

-- Each key is listed at just the positions at which it stands.
abbrev pub AreListed : List (Option ℕ) → Lists → Type 0
AreListed keys lists = (key : ℕ) → listed lists key ≡ positions key keys

-- The key has no list.
abbrev pub HasNoList : ℕ → Lists → Type 0
HasNoList key lists = lookup (eqb key) lists ≡ None

-- The position is put to the end of the key's list, and the others have what they had.
abbrev pub PutsTo : ℕ → ℕ → Lists → Lists → Type 0
PutsTo key k old new = (other : ℕ) → listed new other ≡ (if eqb key other then listed old other ++ k ∷ [] else listed old other)

-- The last position is taken off the key's list, and the others have what they had.
abbrev pub TakesFrom : ℕ → Lists → Lists → Type 0
TakesFrom key old new = (other : ℕ) → listed new other ≡ (if eqb key other then take (length (listed old other) - 1) (listed old other) else listed old other)

-- Each key's list has what it had.
abbrev pub IsSame : Lists → Lists → Type 0
IsSame old new = (other : ℕ) → listed new other ≡ listed old other

-- The same of a key that may be none, which is put to no list.
abbrev pub PutsKey : Option ℕ → ℕ → Lists → Lists → Type 0
PutsKey None k old new = IsSame old new
PutsKey (Some key) k old new = PutsTo key k old new

-- the same of taking off
abbrev pub TakesKey : Option ℕ → Lists → Lists → Type 0
TakesKey None old new = IsSame old new
TakesKey (Some key) old new = TakesFrom key old new
