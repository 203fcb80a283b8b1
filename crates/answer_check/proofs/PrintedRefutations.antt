-- The lines of a printed refutation show that it is one.
use Rattle.std.proofs.Common.{◌≡◌, List, [], ◌∷◌, map, refl, sym, ap, subst, ◌∙◌}
use Rattle.std.specs.List.{All, AllByRecursion}
use Rattle.std.proofs.lemmas.List.Elements.{recursion_from_All, All-from_recursion}
use Rattle.me_terms.specs.GroundInstances.{IsGroundInstance}
use Rattle.me_terms.specs.Values.{ProblemValue, InstanceValue}
use Rattle.me_terms.specs.declared.atom.Literal.{Literal}
use Rattle.me_laws_refutation.specs.Refutation.{ClosedIsRefutedBy}
use Rattle.ground_solver.specs.Assignments.{IsUnsatisfiable}
use Rattle.ground_solver.specs.Laws.{ListsOfInstancesAreClauses}
use Rattle.szs_read.specs.Printed.{AreLinesOf, IsLineOf}
use Rattle.szs_read.specs.Values.{InstanceLineValue}
use Rattle.answer_check.specs.Instances.{IsOwnInstance}
use Rattle.answer_check.specs.Judgements.{IsShownRefutation, literals_of}

module _ (problem : ProblemValue) where
  same_literals : (list : List InstanceValue) (lines : List InstanceLineValue) → AreLinesOf problem list lines → map (λ (i : InstanceValue). i.literals) list ≡ literals_of lines
  same_literals [] lines h = sym (ap literals_of h)
  same_literals (i ∷ list) lines h =
      let first : i.literals ≡ h.0.literals = sym (ap (λ (z : InstanceLineValue). z.literals) h.3.2) in
      let rest = same_literals list h.1 h.4 in
      (λ k. first k ∷ rest k) ∙ sym (ap literals_of h.2)

  own_line : (i : InstanceValue) (line : InstanceLineValue) → IsGroundInstance problem i.clause i.literals → IsLineOf problem i line → IsOwnInstance problem line
  own_line i line ground h = subst (λ (z : InstanceLineValue). IsOwnInstance problem z) (sym h.2)
      (record { place = i.clause; clause = h.0; clause_at = h.1; number = refl; label = refl; instance = ground })

  own_lines : (list : List InstanceValue) (lines : List InstanceLineValue) → AllByRecursion (λ (i : InstanceValue). IsGroundInstance problem i.clause i.literals) list → AreLinesOf problem list lines → AllByRecursion (IsOwnInstance problem) lines
  own_lines [] lines ground h = subst (λ (z : List InstanceLineValue). AllByRecursion (IsOwnInstance problem) z) (sym h) tt
  own_lines (i ∷ list) lines ground h =
      subst (λ (z : List InstanceLineValue). AllByRecursion (IsOwnInstance problem) z) (sym h.2) (own_line i h.0 ground.0 h.3, own_lines list h.1 ground.1 h.4)

  pub printed_refutation : ListsOfInstancesAreClauses → (list : List InstanceValue) (lines : List InstanceLineValue) → ClosedIsRefutedBy problem list → AreLinesOf problem list lines → IsShownRefutation problem lines
  printed_refutation law list lines closed are =
      let ground = recursion_from_All (λ (i : InstanceValue). IsGroundInstance problem i.clause i.literals) list closed.instances in
      record {
        instances = All-from_recursion (IsOwnInstance problem) lines (own_lines list lines ground are);
        refuted = subst (λ (z : List (List Literal)). IsUnsatisfiable z) (same_literals list lines are) ((law list).1 closed.refuted);
      }
