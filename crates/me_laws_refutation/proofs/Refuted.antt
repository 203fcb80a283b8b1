-- A closed tree's list is refuted, and its instances are ground instances.
use Rattle.std.proofs.Common.{ℕ, zero, suc, inl, inr, List, sym, subst, ap}
use Rattle.std.proofs.lemmas.Option.{same_Some}
use Rattle.std.specs.List.{All}
use Rattle.me_terms.specs.Substitutions.{apply_atom}
use Rattle.me_terms.specs.Measures.{complement}
use Rattle.me_terms.specs.Values.{ProblemValue, EntryValue, InstanceValue, ReasonValue, SplitLeft, SplitRight}
use Rattle.me_terms.specs.Context.{Context, StandsAt, pseudo, add}
use Rattle.me_terms.specs.Next.{Assert, IsNext}
use Rattle.me_terms.specs.Grown.{sign_of, start, split_entry}
use Rattle.me_terms.specs.Outcome.{TreeOutcome, Closed, Sat, Met, both, HasOutcome, closes, is_exhausted, is_bounded, asserts, splits}
use Rattle.me_terms.specs.Validity.{IsValid}
use Rattle.me_terms.specs.Refuted.{Valuation, IsFalseUnder}
use Rattle.me_terms.specs.ListedInstances.{constant}
use Rattle.me_terms.specs.declared.bounds.Bounds.{Bounds}
use Rattle.me_terms.specs.declared.bounds.Start.{Start}
use Rattle.me_laws_refutation.specs.Refutation.{ClosedIsRefutedBy}
use Rattle.me_laws.proofs.Lists.{EachOf, SomeOf, all_of, any_of, some_map}
use Rattle.me_laws.proofs.Added.{add_cases}
use Rattle.me_laws_refutation.proofs.Joined.{some_joined_left, some_joined_right, each_joined}
use Rattle.me_laws_refutation.proofs.Sound.{IsSound, start_sound, next_assert, next_left, next_right}
use Rattle.me_laws_refutation.proofs.Places.{IsGroundOf}
use Rattle.me_laws_refutation.specs.SplitsTrue.{IsSplitTrue, AreSplitsTrue}
use Rattle.me_laws_refutation.proofs.Leaf.{IsFalse, sign_cases, leaf_ground, leaf_refuted}

-- ---- the walk
splits_add : (problem : ProblemValue) (value : Valuation) (context : Context) (e : EntryValue) → AreSplitsTrue problem value context → IsSplitTrue problem value e e.reason → AreSplitsTrue problem value (add context e)
splits_add problem value context e there new = λ k f stands.
    elim (add_cases context e k f stands) as (λ _. IsSplitTrue problem value f f.reason) [
      | inl old ↦ there k f old
      | inr same ↦ let P : EntryValue → Type 0 = λ x. IsSplitTrue problem value x x.reason in subst P same.1 new
    ]

splits_start : (problem : ProblemValue) (value : Valuation) (begins : Start) (k : ℕ) (e : EntryValue) → StandsAt (start begins) k e → IsSplitTrue problem value e e.reason
splits_start problem value begins zero e h =
    let P : EntryValue → Type 0 = λ x. IsSplitTrue problem value x x.reason in subst P (same_Some (pseudo (sign_of begins)) e h) tt
splits_start problem value begins (suc k) e h = cc

assert_split : (problem : ProblemValue) (bounds : Bounds) (context : Context) (value : Valuation) (e : EntryValue) → IsNext problem bounds context (Assert e) → IsSplitTrue problem value e e.reason
assert_split problem bounds context value e next =
    let P : ReasonValue → Type 0 = λ w. IsSplitTrue problem value e w in subst P (sym (ap (λ (x : EntryValue). x.reason) next.2.3.entry)) tt

-- What an outcome says under a valuation.
IsFalsified : Valuation → TreeOutcome → Type 0
IsFalsified value (Closed list) = SomeOf (IsFalse value) list
IsFalsified value (Sat context) = Unit {0}
IsFalsified value (Met b) = Unit {0}

falsified_left : (value : Valuation) (left right : TreeOutcome) → IsFalsified value left → IsFalsified value (both left right)
unfolding IsFalsified
falsified_left value (Sat context) right h = tt
falsified_left value (Closed list) (Sat context) h = tt
falsified_left value (Closed list) (Met c) h = tt
falsified_left value (Closed list) (Closed more) h = some_joined_left (IsFalse value) list more h
falsified_left value (Met b) (Sat context) h = tt
falsified_left value (Met b) (Closed more) h = tt
falsified_left value (Met b) (Met c) h = tt

falsified_right : (value : Valuation) (left right : TreeOutcome) → IsFalsified value right → IsFalsified value (both left right)
unfolding IsFalsified
falsified_right value (Sat context) right h = tt
falsified_right value (Closed list) (Sat context) h = tt
falsified_right value (Closed list) (Met c) h = tt
falsified_right value (Closed list) (Closed more) h = some_joined_right (IsFalse value) list more h
falsified_right value (Met b) (Sat context) h = tt
falsified_right value (Met b) (Closed more) h = tt
falsified_right value (Met b) (Met c) h = tt

walked : {problem : ProblemValue} {bounds : Bounds} {context : Context} {outcome : TreeOutcome} → IsValid problem → (value : Valuation) → HasOutcome problem bounds context outcome → IsSound problem bounds context → AreSplitsTrue problem value context → IsFalsified value outcome
unfolding IsFalsified
walked {problem} {bounds} valid value (closes {context = context} {c = c} {tuple = tuple} {list = list} next leaf) sound there =
    leaf_refuted problem valid bounds context sound c tuple list next.0 leaf value there
walked {problem} {bounds} valid value (is_exhausted next) sound there = tt
walked {problem} {bounds} valid value (is_bounded next) sound there = tt
walked {problem} {bounds} valid value (asserts {context = context} {e = e} next later) sound there =
    walked valid value later (next_assert problem valid bounds context sound e next) (splits_add problem value context e there (assert_split problem bounds context value e next))
walked {problem} {bounds} valid value (splits {context = context} {l = l} {kind = kind} {left = left} {right = right} next f g e) sound there =
    let P : TreeOutcome → Type 0 = λ o. IsFalsified value o in
    subst P (sym e)
    (elim (sign_cases (value (apply_atom (λ x. constant problem.c0) l.atom)) l.positive) as (λ _. IsFalsified value (both left right)) [
      | inl other ↦ falsified_right value left right (walked valid value g (next_right problem valid bounds context sound l kind next) (splits_add problem value context (split_entry (complement l) kind SplitRight) there other))
      | inr same ↦ falsified_left value left right (walked valid value f (next_left problem valid bounds context sound l kind next) (splits_add problem value context (split_entry l kind SplitLeft) there same))
    ])

-- ---- the instances of all leaves
IsOfGround : ProblemValue → TreeOutcome → Type 0
IsOfGround problem (Closed list) = EachOf (IsGroundOf problem) list
IsOfGround problem (Sat context) = Unit {0}
IsOfGround problem (Met b) = Unit {0}

ground_both : (problem : ProblemValue) (left right : TreeOutcome) → IsOfGround problem left → IsOfGround problem right → IsOfGround problem (both left right)
unfolding IsOfGround
ground_both problem (Sat context) right f g = tt
ground_both problem (Closed list) (Sat context) f g = tt
ground_both problem (Closed list) (Met c) f g = tt
ground_both problem (Closed list) (Closed more) f g = each_joined (IsGroundOf problem) list more f g
ground_both problem (Met b) (Sat context) f g = tt
ground_both problem (Met b) (Closed more) f g = tt
ground_both problem (Met b) (Met c) f g = tt

grounded : {problem : ProblemValue} {bounds : Bounds} {context : Context} {outcome : TreeOutcome} → IsValid problem → HasOutcome problem bounds context outcome → IsSound problem bounds context → IsOfGround problem outcome
unfolding IsOfGround
grounded {problem} {bounds} valid (closes {context = context} {c = c} {tuple = tuple} {list = list} next leaf) sound =
    leaf_ground problem valid bounds context sound c tuple list next.0 leaf
grounded {problem} {bounds} valid (is_exhausted next) sound = tt
grounded {problem} {bounds} valid (is_bounded next) sound = tt
grounded {problem} {bounds} valid (asserts {context = context} {e = e} next later) sound = grounded valid later (next_assert problem valid bounds context sound e next)
grounded {problem} {bounds} valid (splits {context = context} {l = l} {kind = kind} {left = left} {right = right} next f g e) sound =
    let P : TreeOutcome → Type 0 = λ o. IsOfGround problem o in
    subst P (sym e) (ground_both problem left right (grounded valid f (next_left problem valid bounds context sound l kind next)) (grounded valid g (next_right problem valid bounds context sound l kind next)))

pub closed_refuted : (problem : ProblemValue) (bounds : Bounds) (list : List InstanceValue) → IsValid problem → HasOutcome problem bounds (start bounds.start) (Closed list) → ClosedIsRefutedBy problem list
unfolding IsFalsified IsOfGround
closed_refuted problem bounds list valid h =
    let sound = start_sound problem bounds bounds.start in record {
      refuted = λ value. any_of (λ i. All (IsFalseUnder value) i.literals) list (some_map (IsFalse value) (λ i. All (IsFalseUnder value) i.literals) (λ i f. all_of (IsFalseUnder value) i.literals f) list (walked valid value h sound (splits_start problem value bounds.start)));
      instances = all_of (IsGroundOf problem) list (grounded valid h sound);
    }
