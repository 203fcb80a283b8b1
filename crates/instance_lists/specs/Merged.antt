-- A list with what it lacks of another one.
use Rattle.std.specs.Prelude.{not, List, ◌++◌}
use Rattle.std.specs.List.{filter}
use Rattle.me_terms.specs.Values.{InstanceValue}
use Rattle.me_terms.specs.FirstOccurrences.{first_occurrences}
use Rattle.instance_lists.specs.News.{stands_in}

-- The instances of the second list that the first one lacks, each once and in order.
abbrev pub lacked : List InstanceValue → List InstanceValue → List InstanceValue
lacked list more = filter (λ i. not (stands_in list i)) (first_occurrences more)

-- The first list as it is, and what it lacks of the second one at its end.
abbrev pub merged : List InstanceValue → List InstanceValue → List InstanceValue
merged list more = list ++ lacked list more
