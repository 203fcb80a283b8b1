-- What the list of a leaf shows of the valuations that agree with the splits on its branch.
use Rattle.std.specs.Prelude.{ℕ, List}
use Rattle.std.specs.List.{All, Any}
use Rattle.me_terms.specs.Values.{ProblemValue, InstanceValue}
use Rattle.me_terms.specs.Context.{Context}
use Rattle.me_terms.specs.Validity.{IsValid}
use Rattle.me_terms.specs.Close.{IsClose}
use Rattle.me_terms.specs.Refuted.{Valuation, IsFalseUnder}
use Rattle.me_terms.specs.LeafList.{IsLeafList}
use Rattle.me_terms.specs.Grown.{IsGrown}
use Rattle.me_terms.specs.declared.bounds.Bounds.{Bounds}
use Rattle.me_laws_refutation.specs.SplitsTrue.{AreSplitsTrue}

-- Where a valuation makes each split entry of a closed leaf true at its instance by c0, some instance of the leaf's list has only false literals.
abbrev pub LeafIsRefuted : Type 0
LeafIsRefuted = (problem : ProblemValue) (bounds : Bounds) (context : Context) (c : ℕ) (tuple : List ℕ) (list : List InstanceValue) (value : Valuation) → IsValid problem → IsGrown problem bounds context → IsClose problem context c tuple → IsLeafList problem context c tuple list → AreSplitsTrue problem value context → Any (λ i. All (IsFalseUnder value) i.literals) list
