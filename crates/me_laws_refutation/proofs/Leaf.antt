-- The list of a closed leaf.
use Rattle.std.proofs.Common.{◌≡◌, ℕ, suc, ◌<◌, Bool, true, false, not, ◌⊎◌, inl, inr, List, [], ◌∷◌, length, None, refl, sym, subst, ap, ◌∙◌}
use Rattle.me_terms.specs.Substitutions.{Substitution, Family, apply_term}
use Rattle.me_terms.specs.Values.{ProblemValue, ClauseValue, InstanceValue}
use Rattle.me_terms.specs.Context.{Context}
use Rattle.me_terms.specs.Positions.{positions_of}
use Rattle.me_terms.specs.Unifier.{IsContextUnifier}
use Rattle.me_terms.specs.Close.{IsClose}
use Rattle.me_terms.specs.Validity.{IsValid}
use Rattle.me_terms.specs.GroundInstances.{is_ground_term, IsGroundInstance}
use Rattle.me_terms.specs.Refuted.{Valuation, IsFalseUnder}
use Rattle.me_terms.specs.ListedInstances.{constant, instance_of, IsClosingInstance}
use Rattle.me_terms.specs.LeafList.{Demand, demands, IsLeafList}
use Rattle.me_terms.specs.declared.bounds.Bounds.{Bounds}
use Rattle.me_terms.specs.declared.atom.Literal.{Literal}
use Rattle.me_laws.proofs.Determined.{clause_same}
use Rattle.me_laws.proofs.Lists.{EachOf, SomeOf, each_map, either_of}
use Rattle.me_laws_refutation.proofs.Joined.{some_first, each_first}
use Rattle.me_laws_refutation.proofs.Known.{clause_known}
use Rattle.me_laws_refutation.proofs.UnifierKnown.{unifier_known}
use Rattle.me_laws_refutation.proofs.GroundTerms.{constant_ground, ground_under}
use Rattle.me_laws_refutation.proofs.Sound.{IsSound}
use Rattle.me_laws_refutation.specs.RightDemands.{IsRight}
use Rattle.me_laws_refutation.proofs.Demands.{IsRightBelow, right_demands}
use Rattle.me_laws_refutation.proofs.NoRemainder.{still_none}
use Rattle.me_laws_refutation.proofs.Asked.{instance_ground}
use Rattle.me_laws_refutation.proofs.Places.{IsTrueUnder, HasTrue, IsGroundOf, true_place, never_none}
use Rattle.me_laws_refutation.specs.SplitsTrue.{AreSplitsTrue}
use Rattle.me_laws_refutation.proofs.Truth.{all_ground, truths}

abbrev pub IsFalse : Valuation → InstanceValue → Type 0
IsFalse value i = EachOf (IsFalseUnder value) i.literals

-- What the closing instance is.
pub record ClosingFacts (problem : ProblemValue) (context : Context) (c : ℕ) (tuple : List ℕ) (literals : List Literal) : Type 0 where
  pub demands_right : EachOf (IsRightBelow problem context (length context)) (demands literals (positions_of None tuple))
  pub is_ground : IsGroundInstance problem c literals
  pub each_place : length (positions_of None tuple) ≡ length literals

long_instance : (u : Family) (m : Substitution) (ls : List Literal) → length (instance_of u m ls) ≡ length ls
long_instance u m [] = refl
long_instance u m (l ∷ ls) = ap suc (long_instance u m ls)

pub closing_facts : (problem : ProblemValue) → IsValid problem → (bounds : Bounds) (context : Context) → IsSound problem bounds context → (c : ℕ) (tuple : List ℕ) (literals : List Literal) → IsClose problem context c tuple → IsClosingInstance problem context c tuple literals → ClosingFacts problem context c tuple literals
closing_facts problem valid bounds context sound c tuple literals close q =
    let m : Substitution = λ x. constant problem.c0 in
    let ls = q.clause.literals in
    let P : ClauseValue → Type 0 = λ z. IsContextUnifier context z.literals None tuple close.family in
    let own = subst P (clause_same problem c close.clause q.clause close.clause_at q.clause_at) close.unifier in
    let none = still_none context ls None tuple close.family q.family own close.no_remainder q.unifier in
    let known = clause_known problem valid c q.clause q.clause_at in
    let terms = unifier_known problem.signature context ls (positions_of None tuple) q.family sound.known known q.unifier in
    let constants : (x : ℕ) → is_ground_term problem (m x) ≡ true = λ x. constant_ground problem valid in
    let ground : (x : ℕ) → is_ground_term problem (apply_term m (q.family 0 x)) ≡ true = λ x. ground_under problem m constants (q.family 0 x) (terms 0 x) in
    let D : List Literal → Type 0 = λ ms. EachOf (IsRightBelow problem context (length context)) (demands ms (positions_of None tuple)) in
    let L : List Literal → Type 0 = λ ms. length (positions_of None tuple) ≡ length ms in
    record {
      demands_right = subst D (sym q.is_instance) (right_demands problem context context ls (positions_of None tuple) q.family m (λ k lt. refl) own.opposite q.unifier.solves none (λ i k l e o p y. refl) known ground);
      is_ground = instance_ground problem c q.clause q.family m literals q.clause_at ground q.is_instance;
      each_place = subst L (sym q.is_instance) (own.opposite.each_place ∙ sym (long_instance q.family m ls));
    }

pub sign_cases : (v positive : Bool) → (v ≡ not positive) ⊎ (v ≡ positive)
sign_cases true true = inr refl
sign_cases true false = inl refl
sign_cases false true = inl refl
sign_cases false false = inr refl

turned_over : (A B : Type 0) → A ⊎ B → B ⊎ A
turned_over A B (inl a) = inr a
turned_over A B (inr b) = inl b

true_or_false : (value : Valuation) (i : InstanceValue) → IsFalse value i ⊎ HasTrue value i
true_or_false value i =
    turned_over (HasTrue value i) (IsFalse value i) (either_of (IsTrueUnder value) (IsFalseUnder value) (λ l. turned_over (IsFalseUnder value l) (IsTrueUnder value l) (sign_cases (value l.atom) l.positive)) i.literals)

all_true : (problem : ProblemValue) (context : Context) (value : Valuation) (n : ℕ) (ds : List Demand) → EachOf (IsRightBelow problem context n) ds → EachOf (λ (d : Demand). d.0 < n → IsTrueUnder value d.1) ds → EachOf (λ (d : Demand). IsTrueUnder value d.1) ds
all_true problem context value n [] f g = tt
all_true problem context value n (d ∷ ds) f g = (g.0 f.0.0, all_true problem context value n ds f.1 g.1)

module _ (problem : ProblemValue) (valid : IsValid problem) (bounds : Bounds) (context : Context) (sound : IsSound problem bounds context) (c : ℕ) (tuple : List ℕ) (list : List InstanceValue) (close : IsClose problem context c tuple) (leaf : IsLeafList problem context c tuple list) where
  abbrev closing : InstanceValue
  closing = record { clause = c; literals = leaf.0 }

  facts : ClosingFacts problem context c tuple leaf.0
  facts = closing_facts problem valid bounds context sound c tuple leaf.0 close leaf.2

  rights : EachOf (IsRight problem context) (demands leaf.0 (positions_of None tuple))
  rights = each_map (IsRightBelow problem context (length context)) (IsRight problem context) (λ d h. h.1) (demands leaf.0 (positions_of None tuple)) facts.demands_right

  pub leaf_ground : EachOf (IsGroundOf problem) list
  leaf_ground =
      let P : List InstanceValue → Type 0 = λ is. EachOf (IsGroundOf problem) is in
      subst P (sym leaf.4) (each_first (IsGroundOf problem) (closing ∷ leaf.1) (facts.is_ground, all_ground problem valid bounds context sound leaf.3 rights))

  -- not every instance has a true literal
  none_false : (value : Valuation) → AreSplitsTrue problem value context → EachOf (HasTrue value) (closing ∷ leaf.1) → ⊥
  none_false value there h =
      let below = truths problem valid bounds context sound value there (length context) [] (demands leaf.0 (positions_of None tuple)) leaf.1 leaf.3 tt rights h.1 in
      let each = all_true problem context value (length context) (demands leaf.0 (positions_of None tuple)) facts.demands_right below in
      let found = true_place value leaf.0 (positions_of None tuple) facts.each_place each h.0 in
      never_none tuple found.0 found.3

  pub leaf_refuted : (value : Valuation) → AreSplitsTrue problem value context → SomeOf (IsFalse value) list
  leaf_refuted value there =
      let P : List InstanceValue → Type 0 = λ is. SomeOf (IsFalse value) is in
      let some : SomeOf (IsFalse value) (closing ∷ leaf.1) = elim (either_of (IsFalse value) (HasTrue value) (true_or_false value) (closing ∷ leaf.1)) as (λ _. SomeOf (IsFalse value) (closing ∷ leaf.1)) [
        | inl found ↦ found
        | inr all ↦ absurd (none_false value there all)
      ] in
      subst P (sym leaf.4) (some_first (IsFalse value) (closing ∷ leaf.1) some)
