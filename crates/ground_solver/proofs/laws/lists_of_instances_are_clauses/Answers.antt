use Rattle.std.proofs.Common.{◌≡◌, ◌<◌, List, length, map, sym, ap, subst, ◌∙◌, arith}
use Rattle.std.specs.List.{All, Any}
use Rattle.std.proofs.lemmas.List.{get_or-map, length-map}
use Rattle.me_terms.specs.Refuted.{IsFalseUnder}
use Rattle.me_terms.specs.Values.{InstanceValue}
use Rattle.me_terms.specs.declared.atom.Literal.{Literal}
use Rattle.ground_solver.proofs.Modelling.{get_or_read_of}
use Rattle.ground_solver.proofs.laws.lists_of_instances_are_clauses.Goals as goal

-- of the literals of instances, and of the instances
from_clauses : (P : List Literal → Type 0) (list : List InstanceValue) → Any P (map (λ (i : InstanceValue). i.literals) list) → Any (λ (i : InstanceValue). P i.literals) list
from_clauses P list found =
    let k = found.0 in
    let clause = found.1 in
    let below : k < length list = omega (arith, found.2, length-map list (λ (i : InstanceValue). i.literals)) in
    let at = get_or_read_of list k below in
    let i = at.0 in
    let same : clause ≡ i.literals = sym (found.3) ∙ (get_or-map (λ (x : InstanceValue). x.literals) list k i clause below ∙ ap (λ (x : InstanceValue). x.literals) (at.2)) in
    (k, i, below, at.2, subst P same (found.4))

to_clauses : (P : List Literal → Type 0) (list : List InstanceValue) → Any (λ (i : InstanceValue). P i.literals) list → Any P (map (λ (i : InstanceValue). i.literals) list)
to_clauses P list found =
    let k = found.0 in
    let i = found.1 in
    let below : k < length (map (λ (x : InstanceValue). x.literals) list) = omega (arith, found.2, length-map list (λ (x : InstanceValue). x.literals)) in
    (k, i.literals, below, get_or-map (λ (x : InstanceValue). x.literals) list k i i.literals (found.2) ∙ ap (λ (x : InstanceValue). x.literals) (found.3), found.4)

pub returns : goal.returns
returns c = λ list. (λ refuted value. from_clauses (All (IsFalseUnder value)) list (refuted value), λ refuted value. to_clauses (All (IsFalseUnder value)) list (refuted value))
