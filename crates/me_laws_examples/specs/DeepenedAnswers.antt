-- The clause r(f(a),f(a))|q(f(f(a))) with weights up to 4 and one entry a context, searched within one depth after another.
use Rattle.std.specs.Prelude.{ℕ, ◌<◌}
use Rattle.me_terms.specs.Terms.{TermValue, App, Nil, Cons, AtomValue}
use Rattle.me_terms.specs.Values.{ProblemValue}
use Rattle.me_terms.specs.Grown.{start}
use Rattle.me_terms.specs.Answer.{AnswerValue, HasAnswer, Satisfiable, GaveUp}
use Rattle.me_terms.specs.Deepening.{HasAnswerFrom}
use Rattle.me_terms.specs.declared.bounds.Bound.TheVariants as bound
use Rattle.me_terms.specs.declared.bounds.Bounds.{Bounds}
use Rattle.me_terms.specs.declared.bounds.Start.{Start}
use Rattle.me_terms.specs.declared.bounds.Start.TheVariants.{Negative, Positive}
use Rattle.me_laws_examples.specs.Letters.{a, q_of}
use Rattle.me_laws_examples.specs.BoundByFirstPlace.{one_clause}

abbrev pub f_of : TermValue → TermValue
f_of t = App 1 (Cons t Nil)

-- r(f(a),f(a)), of depth 2 and weight 5
abbrev pub flat_and_heavy : AtomValue
flat_and_heavy = record { pred = 2; args = Cons (f_of a) (Cons (f_of a) Nil) }

-- q(f(f(a))), of depth 3 and weight 4
abbrev pub deep_and_light : AtomValue
deep_and_light = q_of (f_of (f_of a))

abbrev pub flat_or_deep : ProblemValue
flat_or_deep = one_clause flat_and_heavy deep_and_light

abbrev pub within_depth : ℕ → Start → Bounds
within_depth depth begins = record { depth = depth; weight = 4; literals = 1; list = 10000000; start = begins }

-- From the negative start: within depth 1 both literals are too deep, within depth 2 the first is too heavy, and within depth 3 the second may be split on, which the context has no room for. So a search from depth 1 or 2 on stops at depth 2, where a bound other than depth is met, and its answer is neither that of the first depth nor that of the last. Where the last depth meets the bound of depth, that is the answer; and no search begins beyond it. The positive start is a model, so from there the search stops at once.
pub record DeepenedAnswers : Type 0 where
  pub within_one : HasAnswer flat_or_deep (within_depth 1 Negative) (GaveUp bound.Depth)
  pub within_two : HasAnswer flat_or_deep (within_depth 2 Negative) (GaveUp bound.Weight)
  pub within_three : HasAnswer flat_or_deep (within_depth 3 Negative) (GaveUp bound.Literals)
  pub from_one : HasAnswerFrom flat_or_deep (within_depth 3 Negative) 1 (GaveUp bound.Weight)
  pub from_two : HasAnswerFrom flat_or_deep (within_depth 3 Negative) 2 (GaveUp bound.Weight)
  pub from_three : HasAnswerFrom flat_or_deep (within_depth 3 Negative) 3 (GaveUp bound.Literals)
  pub not_the_first : ¬ HasAnswerFrom flat_or_deep (within_depth 3 Negative) 1 (GaveUp bound.Depth)
  pub not_the_last : ¬ HasAnswerFrom flat_or_deep (within_depth 3 Negative) 1 (GaveUp bound.Literals)
  pub none_before_it_begins : ¬ HasAnswerFrom flat_or_deep (within_depth 3 Negative) 3 (GaveUp bound.Weight)
  pub last_met : HasAnswerFrom flat_or_deep (within_depth 1 Negative) 1 (GaveUp bound.Depth)
  pub none_beyond_the_last : ¬ HasAnswerFrom flat_or_deep (within_depth 1 Negative) 1 (GaveUp bound.Weight)
  pub none_from_beyond : (from : ℕ) (reply : AnswerValue) → 3 < from → ¬ HasAnswerFrom flat_or_deep (within_depth 3 Negative) from reply
  pub at_once : HasAnswerFrom flat_or_deep (within_depth 3 Positive) 1 (Satisfiable (start Positive))
