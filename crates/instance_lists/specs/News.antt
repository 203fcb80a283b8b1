-- Which instances of a list are new.
use Rattle.std.specs.Prelude.{Bool, not, List, [], ◌∷◌, ◌++◌, if◌then◌else◌}
use Rattle.std.specs.List.{list_any}
use Rattle.me_terms.specs.Values.{InstanceValue}
use Rattle.me_terms.specs.FirstOccurrences.{same_instance}

-- The instance equals one of the list.
abbrev pub stands_in : List InstanceValue → InstanceValue → Bool
stands_in list i = list_any (same_instance i) list

-- An instance of the second list is new where it stands neither in the first list nor earlier in the second.
abbrev pub news : List InstanceValue → List InstanceValue → List Bool
news list [] = []
news list (i ∷ more) = not (stands_in list i) ∷ news (list ++ i ∷ []) more

-- The items whose mark is true.
abbrev pub kept_by_marks : {A : Type 0} → List Bool → List A → List A
kept_by_marks marks [] = []
kept_by_marks [] (x ∷ xs) = []
kept_by_marks (mark ∷ marks) (x ∷ xs) = if mark then x ∷ kept_by_marks marks xs else kept_by_marks marks xs
