-- What is no candidate is none later, and what is still to be asked of a kept one.
use Rattle.std.proofs.Common.{◌≡◌, ℕ, List, ◌++◌, length, Option, Some, None, refl, sym, subst, ap, ◌∙◌}
use Rattle.me_terms.specs.Substitutions.{Family}
use Rattle.me_terms.specs.Measures.{canonical_literal}
use Rattle.me_terms.specs.Values.{ProblemValue, ClauseValue, EntryValue}
use Rattle.me_terms.specs.Context.{Context}
use Rattle.me_terms.specs.Positions.{ClauseAt, positions_of}
use Rattle.me_terms.specs.Unifier.{IsContextUnifier, unified}
use Rattle.me_terms.specs.Productive.{IsProductiveUnifier}
use Rattle.me_terms.specs.Assert.{asserted_entry, MayAssert, IsAssert}
use Rattle.me_terms.specs.declared.bounds.Bounds.{Bounds}
use Rattle.me_terms.specs.declared.atom.Literal.{Literal}
use Rattle.me_terms.specs.declared.atom.Pattern.TheVariants.{Of}
use Rattle.std.specs.List.{Contains}
use Rattle.me_laws_increments.specs.Refusals.{Refuses}
use Rattle.me_laws_increments.specs.Exceptions.{IsFree}
use Rattle.me_laws_increments.specs.Tuples.{IsWithin, AreVisible}
use Rattle.me_laws_increments.specs.Candidates.{OldCloses, OldAsserts, OldProductiveUnifiers, OldSplits, IsDerived, AssertsAreDerived, DerivedIsAsserted, UnifierIsProductive}
use Rattle.me_laws_increments.proofs.Refusals.{allowed, not_refused, allowed_before}
use Rattle.me_laws_increments.proofs.Exceptions.{productive_where_free}
use Rattle.me_laws_increments.proofs.Tuples.{agree, opposite_back, unifier_back, productive_back, remainders_same, entries_same, visible_within, seen_of, opposite_while_visible, unifiers_stay}

context_unifier_back : (context more : Context) (literals : List Literal) (skip : Option ℕ) (tuple : List ℕ) (u : Family) → IsWithin context tuple → IsContextUnifier (context ++ more) literals skip tuple u → IsContextUnifier context literals skip tuple u
context_unifier_back context more literals skip tuple u within h =
    let same = agree context more skip tuple within in
    record { opposite = opposite_back context more literals (positions_of skip tuple) same h.opposite; unifier = unifier_back context more literals (positions_of skip tuple) same u h.unifier }

pub old_closes : OldCloses
old_closes problem context more c tuple within h = record {
  clause = h.clause;
  family = h.family;
  clause_at = h.clause_at;
  unifier = context_unifier_back context more h.clause.literals None tuple h.family within h.unifier;
  no_remainder = remainders_same context more None tuple h.family within ∙ h.no_remainder;
}

pub old_asserts : OldAsserts
old_asserts problem bounds context more c place tuple e within h = record {
  clause = h.clause;
  literal = h.literal;
  family = h.family;
  clause_at = h.clause_at;
  literal_at = h.literal_at;
  unifier = context_unifier_back context more h.clause.literals (Some place) tuple h.family within h.unifier;
  no_remainder = remainders_same context more (Some place) tuple h.family within ∙ h.no_remainder;
  entry = h.entry ∙ sym (entries_same context more c place tuple (canonical_literal (unified h.family h.literal)) within);
  allowed = allowed_before bounds context more (canonical_literal (unified h.family h.literal)) e.kind h.allowed;
}

pub old_productive_unifiers : OldProductiveUnifiers
old_productive_unifiers problem context more c tuple clause family within h = record {
  clause_at = h.clause_at;
  unifier = context_unifier_back context more clause.literals None tuple family within h.unifier;
  productive = productive_back context more clause.literals (positions_of None tuple) (agree context more None tuple within) family h.productive;
}

pub old_splits : OldSplits
old_splits problem bounds context more c place tuple size l within h =
    let same = remainders_same context more None tuple h.family within in
    let P : List ℕ → Type 0 = λ rest. Contains rest place in
    record {
      clause = h.clause;
      literal = h.literal;
      family = h.family;
      productive = old_productive_unifiers problem context more c tuple h.clause h.family within h.productive;
      literal_at = h.literal_at;
      remains = subst P (sym same) h.remains;
      size_of = h.size_of ∙ sym (ap (λ (rest : List ℕ). length rest) same);
      split_literal = h.split_literal;
      fits = h.fits;
    }

-- ---- kept candidates
context_unifier_later : (context more : Context) (literals : List Literal) (skip : Option ℕ) (tuple : List ℕ) (u : Family) → IsContextUnifier context literals skip tuple u → AreVisible (context ++ more) tuple → IsContextUnifier (context ++ more) literals skip tuple u
context_unifier_later context more literals skip tuple u h seen = record {
  opposite = (opposite_while_visible context more literals skip tuple (visible_within context literals skip tuple h.opposite)).1 (h.opposite, seen);
  unifier = (unifiers_stay context more literals skip tuple u (visible_within context literals skip tuple h.opposite)).0 h.unifier;
}

-- ---- Asserts
pub found : AssertsAreDerived
found problem bounds context c place tuple e h = (
  canonical_literal (unified h.family h.literal),
  h.entry,
  record {
    clause = h.clause;
    literal = h.literal;
    family = h.family;
    clause_at = h.clause_at;
    literal_at = h.literal_at;
    unifier = h.unifier;
    no_remainder = h.no_remainder;
    derived = refl;
    fits = h.allowed.fits;
  },
)

-- entries that are alike are of one literal
literal_of : (context longer : Context) (c place : ℕ) (tuple : List ℕ) (l m : Literal) → asserted_entry context c place tuple l ≡ asserted_entry longer c place tuple m → m ≡ l
literal_of context longer c place tuple l m h =
    let signs : m.positive ≡ l.positive = sym (ap (λ (e : EntryValue). e.positive) h) in
    let patterns : Of m.atom ≡ Of l.atom = sym (ap (λ (e : EntryValue). e.atom) h) in
    let atoms : m.atom ≡ l.atom = cc patterns in
    λ i. record { positive = signs i; atom = atoms i }

module _ (problem : ProblemValue) (bounds : Bounds) (context more : Context) (c place : ℕ) (tuple : List ℕ) (l : Literal) (h : IsDerived problem bounds context c place tuple l) where
  abbrev kept_entry : EntryValue
  kept_entry = asserted_entry context c place tuple l

  checked : IsAssert problem bounds (context ++ more) c place tuple kept_entry → AreVisible (context ++ more) tuple × ¬ Refuses (context ++ more) l kept_entry.kind
  checked g =
      let m = canonical_literal (unified g.family g.literal) in
      let same = literal_of context (context ++ more) c place tuple l m g.entry in
      let P : Literal → Type 0 = λ x. ¬ Refuses (context ++ more) x kept_entry.kind in
      (seen_of (context ++ more) g.clause.literals (Some place) tuple g.unifier.opposite, subst P same (not_refused bounds (context ++ more) m kept_entry.kind g.allowed))

  returned : AreVisible (context ++ more) tuple × ¬ Refuses (context ++ more) l kept_entry.kind → IsAssert problem bounds (context ++ more) c place tuple kept_entry
  returned g =
      let m = canonical_literal (unified h.family h.literal) in
      let within = visible_within context h.clause.literals (Some place) tuple h.unifier.opposite in
      let may = allowed bounds (context ++ more) l kept_entry.kind h.fits g.1 in
      record {
        clause = h.clause;
        literal = h.literal;
        family = h.family;
        clause_at = h.clause_at;
        literal_at = h.literal_at;
        unifier = context_unifier_later context more h.clause.literals (Some place) tuple h.family h.unifier g.0;
        no_remainder = sym (remainders_same context more (Some place) tuple h.family within) ∙ h.no_remainder;
        entry = entries_same context more c place tuple l within ∙ ap (λ (x : Literal). asserted_entry (context ++ more) c place tuple x) h.derived;
        allowed = let P : Literal → Type 0 = λ x. MayAssert bounds (context ++ more) x kept_entry.kind in subst P h.derived may;
      }

-- ---- productive unifiers
module _ (problem : ProblemValue) (context more : Context) (c : ℕ) (tuple : List ℕ) (clause : ClauseValue) (family : Family) (at : ClauseAt problem c clause) (h : IsContextUnifier context clause.literals None tuple family) where
  free_later : IsProductiveUnifier problem (context ++ more) c tuple clause family → AreVisible (context ++ more) tuple × IsFree (context ++ more) clause.literals (positions_of None tuple) family
  free_later g = (
    seen_of (context ++ more) clause.literals None tuple g.unifier.opposite,
    (productive_where_free (context ++ more) clause.literals None tuple family g.unifier).0 g.productive,
  )

  productive_later : AreVisible (context ++ more) tuple × IsFree (context ++ more) clause.literals (positions_of None tuple) family → IsProductiveUnifier problem (context ++ more) c tuple clause family
  productive_later g =
      let unifier = context_unifier_later context more clause.literals None tuple family h g.0 in
      record {
        clause_at = at;
        unifier = unifier;
        productive = (productive_where_free (context ++ more) clause.literals None tuple family unifier).1 g.1;
      }

pub derived_is_asserted : DerivedIsAsserted
derived_is_asserted problem bounds context more c place tuple l h =
    (checked problem bounds context more c place tuple l h, returned problem bounds context more c place tuple l h)

pub unifier_is_productive : UnifierIsProductive
unifier_is_productive problem context more c tuple clause family at h =
    (free_later problem context more c tuple clause family at h, productive_later problem context more c tuple clause family at h)
