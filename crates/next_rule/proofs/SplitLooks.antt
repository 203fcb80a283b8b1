-- What a search for the least Split learns of one unifier.
use Rattle.std.proofs.Common.{◌≡◌, ℕ, ◌<◌, ◌⊎◌, inl, inr, ◌↔◌, List, [], ◌∷◌, ◌++◌, length, slice_get, Option, Some, None, refl, sym, subst, ap, ◌∙◌, arith}
use Rattle.std.specs.Prelude.{IsSome, IfSome}
use Rattle.std.proofs.lemmas.List.Elements.{All-head}
use Rattle.std.proofs.lemmas.Option.{slice_get_within}
use Rattle.me_terms.specs.Substitutions.{Family}
use Rattle.me_terms.specs.Measures.{literal_weight, canonical_literal}
use Rattle.me_terms.specs.Values.{ProblemValue, ClauseValue}
use Rattle.me_terms.specs.Context.{Context}
use Rattle.me_terms.specs.Positions.{ClauseAt, positions_of}
use Rattle.me_terms.specs.Unifier.{IsUnifier, IsContextUnifier, unified}
use Rattle.me_terms.specs.Productive.{IsProductive, IsProductiveUnifier}
use Rattle.me_terms.specs.Split.{IsSplit}
use Rattle.me_terms.specs.Close.{HasClose}
use Rattle.me_terms.specs.Order.{Precedes, clause_key, split_key}
use Rattle.me_terms.specs.Next.{IsBeyond}
use Rattle.me_terms.specs.declared.bounds.Bound.{Bound}
use Rattle.me_terms.specs.declared.bounds.Bounds.{Bounds}
use Rattle.me_terms.specs.declared.atom.Literal.{Literal}
use Rattle.me_unify.specs.Equations.{IsMostGeneral}
use Rattle.me_laws.proofs.Determined.{clause_same}
use Rattle.me_laws_existence.proofs.Best.{precedes_itself}
use Rattle.me_laws_existence.proofs.Opposed.{there}
use Rattle.joint_unifiers.specs.ClauseUnifiers.{UnifierValue, IsUnifierOf}
use Rattle.split_rule.specs.SplitChoices.{IsChosen, IsRuleChoice, FollowsRule}
use Rattle.split_rule.specs.declared.choice.SplitChoice.{SplitChoice}
use Rattle.joint_unifiers.specs.Places.{ArePlaces}
use Rattle.split_rule.proofs.Rule.{remainder_places}
use Rattle.next_rule.specs.Best.{Improves}
use Rattle.next_rule.specs.SplitSearches.{SplitAt, split_rank, IsSmaller, SplitTuple, NoneProductive, IsFirstRemainingIn, Looks, IsUnifying, IsFirstBeyond}
use Rattle.next_rule.specs.declared.split_state.SplitCandidate.{SplitCandidate}
use Rattle.next_rule.specs.declared.split_state.SplitState.{SplitState}
use Rattle.next_rule.proofs.Keys.{before_to, before_from, rank_of_key, transitive_before}
use Rattle.next_rule.proofs.SplitSteps.{given}

-- ---- the two forms of the order of ranks
smaller_improves : (e : SplitCandidate) (best : Option SplitCandidate) → IsSmaller e.size e.weight best → Improves split_rank best e
smaller_improves e None h = tt
smaller_improves e (Some b) h = before_to e.size e.weight b.size b.weight h

improves_smaller : (size weight : ℕ) (e : SplitCandidate) (best : Option SplitCandidate) → Precedes (size ∷ weight ∷ []) (split_rank e) → Improves split_rank best e → IsSmaller size weight best
improves_smaller size weight e None le h = tt
improves_smaller size weight e (Some b) le h = before_from size weight b.size b.weight (transitive_before (size ∷ weight ∷ []) (split_rank e) (split_rank b) le h)

any_smaller : (size weight : ℕ) (best : Option SplitCandidate) → best ≡ None → IsSmaller size weight best
any_smaller size weight best e = let P : Option SplitCandidate → Type 0 = λ z. IsSmaller size weight z in subst P (sym e) tt

none_of : {A : Type 0} (a : Option A) → ¬ IsSome a → a ≡ None
none_of None h = refl
none_of (Some x) h = absurd (h refl)

not_none : {A : Type 0} (a : Option A) → IsSome a → a ≡ None → ⊥
not_none {A} a some e = let P : Option A → Type 0 = λ z. IsSome z in let h = subst P e some in cc h

-- ---- what a joint unifier is
module _ (context : Context) (clause : ClauseValue) (tuple : List ℕ) (found : Option UnifierValue) (u : UnifierValue) (is : found ≡ Some u) (exact : IsSome found ↔ ((f : Family) × IsContextUnifier context clause.literals None tuple f)) (unifier : IfSome found (λ v. IsUnifierOf context clause.literals None tuple v)) where
  found_one : (f : Family) × IsContextUnifier context clause.literals None tuple f
  found_one = let P : Option UnifierValue → Type 0 = λ z. IsSome z in exact.0 (subst P (sym is) refl)

  found_of : IsUnifierOf context clause.literals None tuple u
  found_of = let P : Option UnifierValue → Type 0 = λ z. IfSome z (λ v. IsUnifierOf context clause.literals None tuple v) in subst P is unifier

  pub found_unifying : IsUnifying context clause u
  found_unifying =
      let of = found_of in
      let one = found_one in
      let P : List ℕ → Type 0 = λ z. IsUnifierOf context clause.literals None z u in
      let Q : List ℕ → Type 0 = λ z. IsContextUnifier context clause.literals None z one.0 in
      record { of = subst P (sym of.tuple) of; family = one.0; unifier = subst Q (sym of.tuple) one.1 }

  pub chosen_place : (bounds : Bounds) (choice : SplitChoice) → ((f : Family) → IsMostGeneral u.equations f → IsChosen u.literals u.remainder bounds f (Some choice)) → choice.place < length u.literals
  chosen_place bounds choice chosen =
      let one = found_one in
      let of = found_of in
      let r = chosen one.0 ((of.families one.0).1 one.1.unifier) in
      slice_get_within u.literals choice.place r.literal r.allowed.literal_at

module _ (problem : ProblemValue) (bounds : Bounds) (context : Context) (c : ℕ) (clause : ClauseValue) (u : UnifierValue) (at_clause : ClauseAt problem c clause) (unifying : IsUnifying context clause u) where
  abbrev Candidate : Type 0
  Candidate = SplitAt problem bounds context

  abbrev Here : Candidate → Type 0
  Here x = SplitTuple c u.tuple x.clause x.tuple

  abbrev Looked : SplitState → SplitState → Type 0
  Looked old new = Looks problem bounds context (SplitTuple c u.tuple) old new

  -- ---- a Split of this clause and tuple
  split_here : (x : Candidate) → Here x → IsSplit problem bounds context c x.place u.tuple x.size x.literal
  split_here x here =
      let P : ℕ × List ℕ → Type 0 = λ z. IsSplit problem bounds context z.0 x.place z.1 x.size x.literal in
      subst P (λ i. (here.0 i, here.1 i)) x.holds

  of_clause : (other : ClauseValue) → ClauseAt problem c other → IsUnifierOf context other.literals None u.tuple u
  of_clause other at =
      let P : ClauseValue → Type 0 = λ z. IsUnifierOf context z.literals None u.tuple u in
      subst P (clause_same problem c clause other at_clause at) unifying.of

  -- what no clause closes leaves a remainder
  pub some_remains : (HasClose problem context → ⊥) → u.remainder ≡ [] → ⊥
  some_remains not_closed none =
      not_closed (
        c,
        u.tuple,
        record {
          clause = clause;
          family = unifying.family;
          clause_at = at_clause;
          unifier = unifying.unifier;
          no_remainder = sym (unifying.of.remainder unifying.family unifying.unifier.unifier) ∙ none;
        },
      )

  -- ---- where a literal was chosen
  module _ (choice : SplitChoice) (rule : FollowsRule u bounds (Some choice)) where
    choice_of : (other : ClauseValue) (f : Family) → IsProductiveUnifier problem context c u.tuple other f → IsRuleChoice problem bounds context c u.tuple other f (length u.remainder) choice
    choice_of other f p = rule problem context c u.tuple other f (of_clause other p.clause_at) p

    not_smaller : (best : Option SplitCandidate) → ¬ IsSmaller (length u.remainder) choice.weight best → (x : Candidate) → Here x → ¬ Improves split_rank best (given problem bounds context x)
    not_smaller best never x here improves =
        let s = split_here x here in
        let r = choice_of s.clause s.family s.productive in
        let l = canonical_literal (unified s.family r.literal) in
        let after = r.least x.place x.size x.literal s in
        let ranks = rank_of_key (length u.remainder) (literal_weight l) x.size (literal_weight x.literal) (c ∷ (u.tuple ++ choice.place ∷ [])) (c ∷ (u.tuple ++ x.place ∷ [])) after in
        let P : ℕ → Type 0 = λ z. IsSmaller (length u.remainder) z best in
        never (subst P (sym r.weight) (improves_smaller (length u.remainder) (literal_weight l) (given problem bounds context x) best ranks improves))

    pub look_later : (state : SplitState) → ¬ IsSmaller (length u.remainder) choice.weight state.best → Looked state state
    look_later state never = record {
      takes = inl (refl, not_smaller state.best never);
      meets = λ e. absurd (never (any_smaller (length u.remainder) choice.weight state.best e));
    }

    module _ (productive : IsProductive context clause.literals (positions_of None u.tuple) unifying.family) where
      own : IsProductiveUnifier problem context c u.tuple clause unifying.family
      own = record { clause_at = at_clause; unifier = unifying.unifier; productive = productive }

      own_choice : IsRuleChoice problem bounds context c u.tuple clause unifying.family (length u.remainder) choice
      own_choice = choice_of clause unifying.family own

      pub look_taken : (state : SplitState) (size : ℕ) (literal : Literal) → size ≡ length u.remainder → ((f : Family) (l : Literal) → IsMostGeneral u.equations f → slice_get u.literals choice.place ≡ Some l → literal ≡ canonical_literal (unified f l)) → IsSmaller size choice.weight state.best → Looked state (record { best = Some (record { size = size; weight = choice.weight; literal = literal; kind = choice.kind }); met = state.met })
      look_taken state size literal long written smaller =
          let r = own_choice in
          let general = (unifying.of.families unifying.family).1 unifying.unifier.unifier in
          let Q : List Literal → Type 0 = λ z. slice_get z choice.place ≡ Some r.literal in
          let is = written unifying.family r.literal general (subst Q (sym unifying.of.literals) r.literal_at) in
          record {
            takes = inr (
              record { size = size; weight = choice.weight; literal = literal; kind = choice.kind },
              refl,
              record {
                at = record { clause = c; place = choice.place; tuple = u.tuple; size = length u.remainder; literal = canonical_literal (unified unifying.family r.literal); holds = r.split };
                among = (refl, refl);
                gives = λ i. record { size = long i; weight = r.weight i; literal = is i; kind = r.kind i };
                least = λ x here.
                    let P : ℕ × List ℕ → Type 0 = λ z. Precedes (split_key c u.tuple choice.place (length u.remainder) (canonical_literal (unified unifying.family r.literal))) (split_key z.0 z.1 x.place x.size x.literal) in
                    subst P (λ i. (sym here.0 i, sym here.1 i)) (r.least x.place x.size x.literal (split_here x here));
              },
              smaller_improves (record { size = size; weight = choice.weight; literal = literal; kind = choice.kind }) state.best smaller,
            );
            meets = λ e. cc e;
          }

  -- ---- where the unifier is not productive
  module _ (never : (f : Family) → IsUnifier context clause.literals (positions_of None u.tuple) f → ¬ IsProductive context clause.literals (positions_of None u.tuple) f) where
    none_productive : NoneProductive problem context (SplitTuple c u.tuple)
    none_productive c' tuple other f here p =
        let P : ℕ × List ℕ → Type 0 = λ z. IsProductiveUnifier problem context z.0 z.1 other f in
        let q = subst P (λ i. (here.0 i, here.1 i)) p in
        let Q : ClauseValue → Type 0 = λ z. IsProductiveUnifier problem context c u.tuple z f in
        let r = subst Q (clause_same problem c other clause q.clause_at at_clause) q in
        never f r.unifier.unifier r.productive

    pub look_unproductive : (state : SplitState) → Looked state state
    look_unproductive state = record {
      takes = inl (refl, λ x here improves. none_productive x.clause x.tuple x.holds.clause x.holds.family here x.holds.productive);
      meets = λ e. inl (refl, inr none_productive);
    }

  -- ---- where no literal was chosen
  module _ (rule : FollowsRule u bounds None) where
    none_splits : (best : Option SplitCandidate) (x : Candidate) → Here x → ¬ Improves split_rank best (given problem bounds context x)
    none_splits best x here improves =
        let s = split_here x here in
        rule problem context c u.tuple s.clause s.family (of_clause s.clause s.productive.clause_at) s.productive x.place x.size x.literal s

    settled_met : (state : SplitState) → IsSome state.best ⊎ IsSome state.met → state.best ≡ None → IsSome state.met
    settled_met state (inl some) e = absurd (not_none state.best some e)
    settled_met state (inr some) e = some

    pub look_settled : (state : SplitState) → IsSome state.best ⊎ IsSome state.met → Looked state state
    look_settled state settled = record { takes = inl (refl, none_splits state.best); meets = λ e. inl (refl, inl (settled_met state settled e)) }

    module _ (productive : IsProductive context clause.literals (positions_of None u.tuple) unifying.family) where
      first_of : (place : ℕ) (others : List ℕ) (l : Literal) → u.remainder ≡ place ∷ others → slice_get clause.literals place ≡ Some l → IsFirstRemainingIn problem context (SplitTuple c u.tuple) (unified unifying.family l)
      first_of place others l is here = record {
        c = c;
        tuple = u.tuple;
        clause = clause;
        family = unifying.family;
        place = place;
        others = others;
        literal = l;
        among = (refl, refl);
        productive = record { clause_at = at_clause; unifier = unifying.unifier; productive = productive };
        first = λ c' tuple other f at p.
            let P : ℕ × List ℕ → Type 0 = λ z. Precedes (clause_key c u.tuple) (clause_key z.0 z.1) in
            subst P (λ i. (sym at.0 i, sym at.1 i)) (precedes_itself (clause_key c u.tuple));
        first_place = sym (unifying.of.remainder unifying.family unifying.unifier.unifier) ∙ is;
        literal_at = here;
        unified_literal = refl;
      }

      first_met : (b : Bound) (rest : List ℕ) → u.remainder ≡ rest → (u.remainder ≡ [] → ⊥) → IsFirstBeyond u bounds b → (l : Literal) × IsFirstRemainingIn problem context (SplitTuple c u.tuple) l × IsBeyond b bounds l
      first_met b [] is some beyond = absurd (some is)
      first_met b (place ∷ others) is some beyond =
          let general = (unifying.of.families unifying.family).1 unifying.unifier.unifier in
          let places = remainder_places context clause.literals None u.tuple u unifying.family unifying.unifier unifying.of in
          let S : List ℕ → Type 0 = λ z. ArePlaces u.literals z in
          let first : place < length u.literals = All-head (λ (p : ℕ). p < length u.literals) place others (subst S is places) in
          let same : length u.literals ≡ length clause.literals = ap length unifying.of.literals in
          let lt : place < length clause.literals = omega (arith, first, same) in
          let l = there clause.literals place lt in
          let Q : List Literal → Type 0 = λ z. slice_get z place ≡ Some l.0 in
          (unified unifying.family l.0, first_of place others l.0 is l.1, beyond unifying.family place others l.0 general is (subst Q (sym unifying.of.literals) l.1))

      pub look_met : (state : SplitState) (b : Bound) → ¬ (IsSome state.best ⊎ IsSome state.met) → (u.remainder ≡ [] → ⊥) → IsFirstBeyond u bounds b → Looked state (record { best = None; met = Some b })
      look_met state b unsettled some beyond =
          let no_best = none_of state.best (λ h. unsettled (inl h)) in
          record {
            takes = inl (sym no_best, none_splits state.best);
            meets = λ e. inr (none_of state.met (λ h. unsettled (inr h)), (b, refl, first_met b u.remainder refl some beyond));
          }
