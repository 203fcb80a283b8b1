-- The tree of each grown context has an outcome, and each problem exactly one answer.
use Rattle.std.proofs.Common.{◌≡◌, ℕ, zero, suc, ◌+◌, ◌≤◌, List, [], ◌∷◌, length, None, refl, arith}
use Rattle.me_terms.specs.Substitutions.{Substitution}
use Rattle.me_terms.specs.Measures.{complement}
use Rattle.me_terms.specs.Values.{ProblemValue, EntryValue, InstanceValue, SplitLeft, SplitRight}
use Rattle.me_terms.specs.Context.{Context, add}
use Rattle.me_terms.specs.Positions.{positions_of}
use Rattle.me_terms.specs.Close.{IsClose}
use Rattle.me_terms.specs.ListedInstances.{constant, instance_of}
use Rattle.me_terms.specs.LeafList.{demands, IsLeafList}
use Rattle.me_terms.specs.FirstOccurrences.{first_occurrences}
use Rattle.me_terms.specs.Next.{NextValue, Close, Assert, Split, Exhausted, Bounded, IsNext, HasRoom}
use Rattle.me_terms.specs.Grown.{start, split_entry, IsGrown, started, asserted, went_left, went_right}
use Rattle.me_terms.specs.Outcome.{TreeOutcome, Closed, Sat, Met, both, HasOutcome, closes, is_exhausted, is_bounded, asserts, splits}
use Rattle.me_terms.specs.Answer.{AnswerValue, answer_of, HasAnswer}
use Rattle.me_terms.specs.declared.bounds.Bounds.{Bounds}
use Rattle.me_laws.proofs.OutcomeDetermined.{answer_unique}
use Rattle.me_laws_existence.proofs.NextStep.{next_step}
use Rattle.me_laws.proofs.Backed.{AreBacked, grown_backed}
use Rattle.me_laws_existence.proofs.Asked.{instance_met}
use Rattle.me_laws_existence.proofs.Queue.{ends}

pub leaf_list : (problem : ProblemValue) (bounds : Bounds) (context : Context) → AreBacked problem bounds context → (c : ℕ) (tuple : List ℕ) → IsClose problem context c tuple → (list : List InstanceValue) × IsLeafList problem context c tuple list
leaf_list problem bounds context backed c tuple h =
    let reading : Substitution = λ x. constant problem.c0 in
    let literals = instance_of h.family reading h.clause.literals in
    let met = instance_met context context h.clause.literals (positions_of None tuple) h.family reading (λ k lt. refl) h.unifier.opposite h.unifier.unifier.solves in
    let added = ends problem bounds context backed (demands literals (positions_of None tuple)) met in
    let instances : List InstanceValue = record { clause = c; literals = literals } ∷ added.0 in
    (first_occurrences instances, (literals, added.0, record { clause = h.clause; family = h.family; clause_at = h.clause_at; unifier = h.unifier.unifier; is_instance = refl }, added.1, refl))

longer : (context : Context) (e : EntryValue) → length (add context e) ≡ length context + 1
longer [] e = omega arith
longer (x ∷ xs) e = let later = longer xs e in omega (arith, later)

module _ (problem : ProblemValue) (bounds : Bounds) where
  abbrev Ends : Context → Type 0
  Ends context = (outcome : TreeOutcome) × HasOutcome problem bounds context outcome

  by_step : (context : Context) → IsGrown problem bounds context → (HasRoom bounds context → (e : EntryValue) → IsGrown problem bounds (add context e) → Ends (add context e)) → (step : NextValue) → IsNext problem bounds context step → Ends context
  by_step context grown later (Close c tuple) next =
      let leaf = leaf_list problem bounds context (grown_backed grown) c tuple next.0 in
      (Closed leaf.0, closes next leaf.1)
  by_step context grown later (Assert e) next =
      let below = later next.1 e (asserted grown next) in (below.0, asserts next below.1)
  by_step context grown later (Split l kind) next =
      let left = later next.2 (split_entry l kind SplitLeft) (went_left grown next) in
      let right = later next.2 (split_entry (complement l) kind SplitRight) (went_right grown next) in
      (both left.0 right.0, splits next left.1 right.1 refl)
  by_step context grown later Exhausted next = (Sat context, is_exhausted next)
  by_step context grown later (Bounded b) next = (Met b, is_bounded next)

  outcome_within : (n : ℕ) (context : Context) → IsGrown problem bounds context → bounds.literals ≤ length context + n → Ends context
  outcome_within zero context grown le =
      let step = next_step problem bounds context in
      by_step context grown (λ room e g. absurd (omega (arith, room, le))) step.0 step.1
  outcome_within (suc n) context grown le =
      let step = next_step problem bounds context in
      by_step context grown (λ room e g. let more = longer context e in outcome_within n (add context e) g (omega (arith, more, le))) step.0 step.1

  pub outcome : (context : Context) → IsGrown problem bounds context → (outcome : TreeOutcome) × HasOutcome problem bounds context outcome
  outcome context grown = outcome_within bounds.literals context grown (omega arith)

  pub answer : (reply : AnswerValue) × HasAnswer problem bounds reply
  answer = let whole = outcome (start bounds.start) started in (answer_of bounds whole.0, (whole.0, whole.1, refl))

  pub only_answer : (reply : AnswerValue) × HasAnswer problem bounds reply × ((other : AnswerValue) → HasAnswer problem bounds other → other ≡ reply)
  only_answer = (answer.0, answer.1, λ other h. answer_unique problem bounds other answer.0 h answer.1)
