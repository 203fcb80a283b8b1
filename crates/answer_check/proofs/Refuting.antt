-- The lines of a refutation that is shown, as a list of instances.
use Rattle.std.proofs.Common.{◌≡◌, ◌↔◌, ◌∷◌, [], List, map, refl, sym, ap, subst}
use Rattle.std.specs.List.{All, AllByRecursion}
use Rattle.std.proofs.lemmas.List.Elements.{recursion_from_All, All-from_recursion}
use Rattle.me_terms.specs.GroundInstances.{IsGroundInstance}
use Rattle.me_terms.specs.Refuted.{IsRefuted}
use Rattle.me_terms.specs.Values.{ProblemValue, InstanceValue}
use Rattle.me_terms.specs.declared.atom.Literal.{Literal}
use Rattle.ground_solver.specs.Assignments.{IsUnsatisfiable}
use Rattle.ground_solver.specs.Laws.{ListsOfInstancesAreClauses}
use Rattle.szs_read.specs.Values.{InstanceLineValue}
use Rattle.answer_check.specs.Instances.{IsOwnInstance}
use Rattle.answer_check.specs.Judgements.{IsShownRefutation, literals_of}

module _ (problem : ProblemValue) where
  -- the same lines as instances
  pub record Listed (lines : List InstanceLineValue) : Type 0 where
    pub list : List InstanceValue
    pub same : map (λ (i : InstanceValue). i.literals) list ≡ literals_of lines
    pub ground : AllByRecursion (λ (i : InstanceValue). IsGroundInstance problem i.clause i.literals) list

  pub listed : (lines : List InstanceLineValue) → AllByRecursion (IsOwnInstance problem) lines → Listed lines
  listed [] h = record { list = []; same = refl; ground = tt }
  listed (line ∷ lines) h =
      let rest = listed lines h.1 in
      record {
        list = (record { clause = h.0.place; literals = line.literals }) ∷ rest.list;
        same = ap (λ (ls : List (List Literal)). line.literals ∷ ls) rest.same;
        ground = (h.0.instance, rest.ground);
      }

  pub refuted : (lines : List InstanceLineValue) → ListsOfInstancesAreClauses → IsShownRefutation problem lines
      → (list : List InstanceValue) × (map (λ (i : InstanceValue). i.literals) list ≡ literals_of lines)
      × All (λ (i : InstanceValue). IsGroundInstance problem i.clause i.literals) list × IsRefuted list
  refuted lines law shown =
      let made = listed lines (recursion_from_All (IsOwnInstance problem) lines shown.instances) in
      (made.list, made.same, All-from_recursion (λ (i : InstanceValue). IsGroundInstance problem i.clause i.literals) made.list made.ground, (law made.list).0 (subst (λ (clauses : List (List Literal)). IsUnsatisfiable clauses) (sym made.same) shown.refuted))
