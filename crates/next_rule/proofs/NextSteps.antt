-- What holds of a next step.
use Rattle.std.proofs.Common.{◌≡◌, inl, inr, IsTrue, refl, sym, subst, ◌∙◌}
use Rattle.me_terms.specs.Terms.{AtomValue}
use Rattle.me_terms.specs.Variables.{is_canonical, are_ground}
use Rattle.me_terms.specs.Measures.{complement}
use Rattle.me_terms.specs.Values.{ProblemValue, EntryValue, ReasonValue, SplitLeft, SplitRight}
use Rattle.me_terms.specs.Contradictory.{IsContradictory}
use Rattle.me_terms.specs.Unifier.{unified}
use Rattle.me_terms.specs.Context.{Context, IsContext}
use Rattle.me_terms.specs.Next.{NextValue, Close, Assert, Split, Exhausted, Bounded, IsNext, HasRoom, IsFirstRemaining, IsBeyond}
use Rattle.me_terms.specs.Validity.{IsValid}
use Rattle.me_terms.specs.Grown.{split_entry}
use Rattle.me_terms.specs.Close.{HasClose}
use Rattle.me_terms.specs.Assert.{HasAssert}
use Rattle.me_terms.specs.Split.{HasSplit, split_kind}
use Rattle.me_terms.specs.Order.{IsLeastAssert, IsLeastSplit}
use Rattle.me_terms.specs.InducedModel.{IsModel}
use Rattle.me_terms.specs.declared.bounds.Bound.{Bound}
use Rattle.me_terms.specs.declared.bounds.Bound.TheVariants as bound
use Rattle.me_terms.specs.declared.bounds.Bounds.{Bounds}
use Rattle.me_terms.specs.declared.entry.Kind.{Kind}
use Rattle.me_terms.specs.declared.atom.Literal.{Literal}
use Rattle.me_laws.proofs.Grown.{canonical_is, asserted_literal, split_by, assert_apart}
use Rattle.me_laws.proofs.NoContradiction.{split_apart}
use Rattle.me_laws.proofs.Model.{exhausted_model}
use Rattle.next_rule.specs.FewPlaces.{HasFewPlaces}
use Rattle.next_rule.specs.NextLaws.{IsAddedBy, MayBeAdded}

pub valid_places : (problem : ProblemValue) → IsValid problem → HasFewPlaces problem
valid_places problem valid = record { clauses = valid.few_clauses; literals = λ k other lt. (valid.clauses k other lt).few_literals }

module _ (problem : ProblemValue) (bounds : Bounds) (context : Context) where
  pub bound_met : (b : Bound) → ¬ HasClose problem context → ¬ HasAssert problem bounds context → ¬ HasSplit problem bounds context → ((l : Literal) × IsFirstRemaining problem context l × IsBeyond b bounds l) → IsNext problem bounds context (Bounded b)
  bound_met bound.Depth no_close no_assert no_split h = (no_close, (no_assert, no_split, h))
  bound_met bound.Weight no_close no_assert no_split h = (no_close, (no_assert, no_split, h))
  bound_met bound.Literals no_close no_assert no_split h = absurd h.2
  bound_met bound.List no_close no_assert no_split h = absurd h.2

  pub full_for_assert : (e : EntryValue) → ¬ HasClose problem context → ¬ HasRoom bounds context → IsLeastAssert problem bounds context e → IsNext problem bounds context (Bounded bound.Literals)
  full_for_assert e no_close full h = (no_close, (full, inl (h.0, h.1, h.2, e, h.3)))

  pub full_for_split : (l : Literal) → ¬ HasClose problem context → ¬ HasRoom bounds context → IsLeastSplit problem bounds context l → IsNext problem bounds context (Bounded bound.Literals)
  full_for_split l no_close full h = (no_close, (full, inr (h.0, h.1, h.2, h.3, l, h.4)))

  -- what is added on either side of a Split
  canonical_literal_is : (l : Literal) → IsLeastSplit problem bounds context l → IsTrue (is_canonical l.atom)
  canonical_literal_is l h =
      let P : Literal → Type 0 = λ z. IsTrue (is_canonical z.atom) in
      subst P (sym h.4.split_literal) (canonical_is (unified h.4.family h.4.literal).atom)

  side : (l m : Literal) (kind : Kind) (why : ReasonValue) → m.atom ≡ l.atom → kind ≡ split_kind l → IsLeastSplit problem bounds context l → HasRoom bounds context → ¬ IsContradictory context m (split_kind l) → MayBeAdded bounds context (split_entry m kind why)
  side l m kind why same is h room apart =
      let P : AtomValue → Type 0 = λ z. IsTrue (is_canonical z) in
      let Q : AtomValue → Type 0 = λ z. IsTrue (are_ground z.args) in
      let R : Kind → Type 0 = λ z. ¬ IsContradictory context m z in
      record {
        literal = (subst P (sym same) (canonical_literal_is l h), λ ground. is ∙ split_by (are_ground l.atom.args) (subst Q same ground));
        apart = subst R (sym is) apart;
        room = room;
      }

  pub may_be_added : (step : NextValue) (e : EntryValue) → IsContext context → IsNext problem bounds context step → IsAddedBy step e → MayBeAdded bounds context e
  may_be_added (Close c tuple) e is next added = absurd added
  may_be_added (Assert entry) e is next added =
      let h = next.2 in
      let P : EntryValue → Type 0 = λ z. MayBeAdded bounds context z in
      subst P (sym added) (record {
        literal = asserted_literal problem bounds context h.0 h.1 h.2 entry h.3;
        apart = assert_apart problem bounds context h.0 h.1 h.2 entry h.3;
        room = next.1;
      })
  may_be_added (Split l kind) e is next (inl added) =
      let h = next.3 in
      let both = split_apart problem bounds context h.0 h.3 h.1 h.2 l is h.4 in
      let P : EntryValue → Type 0 = λ z. MayBeAdded bounds context z in
      subst P (sym added) (side l l kind SplitLeft refl next.4 h next.2 both.0)
  may_be_added (Split l kind) e is next (inr added) =
      let h = next.3 in
      let both = split_apart problem bounds context h.0 h.3 h.1 h.2 l is h.4 in
      let P : EntryValue → Type 0 = λ z. MayBeAdded bounds context z in
      subst P (sym added) (side l (complement l) kind SplitRight refl next.4 h next.2 both.1)
  may_be_added Exhausted e is next added = absurd added
  may_be_added (Bounded b) e is next added = absurd added

  pub model_where_exhausted : (step : NextValue) → IsContext context → IsNext problem bounds context step → step ≡ Exhausted → IsModel problem context
  model_where_exhausted step is next e =
      let P : NextValue → Type 0 = λ z. IsNext problem bounds context z in
      exhausted_model problem bounds context is (subst P e next)
