-- A ground atom is fixed exactly where the index lists an entry with it, or one that is more general.
use Rattle.std.proofs.Common.{◌≡◌, ℕ, ◌≤◌, ◌⊎◌, ◌↔◌, Bool, true, false, List, length, take, inl, inr, refl, sym, subst, ap, ◌∙◌}
use Rattle.std.specs.Prelude.{IsTrue}
use Rattle.std.specs.List.{All, Contains}
use Rattle.std.proofs.lemmas.List.{take_all}
use Rattle.std.proofs.lemmas.List.Elements.{All-contains}
use Rattle.me_terms.specs.Terms.{AtomValue}
use Rattle.me_terms.specs.Variables.{are_ground}
use Rattle.me_terms.specs.TermEquality.{same_atom}
use Rattle.me_terms.specs.TermEqualityLaws.{same_atom_sound, same_atom_itself}
use Rattle.me_terms.specs.Context.{Context, IsContext}
use Rattle.me_terms.specs.declared.atom.Pattern.TheVariants.{Of}
use Rattle.me_laws_increments.specs.Replacement.{IsFixed}
use Rattle.me_laws_increments.specs.Lookup.{StandsSomewhere, IsBelowVariables}
use Rattle.me_laws_increments.proofs.Lookup.{ground_is_fixed}
use Rattle.literal_index.specs.Postings.{positions}
use Rattle.literal_index.specs.Index.{code_of, IndexValue, IsIndex}
use Rattle.literal_index.proofs.Lookups.{atom_listed, general_listed}
use Rattle.assert_rule.specs.AssertedEntries.{FixesAt, HasAtomAt, HoldsAmong}

pub same_exactly : (own a : AtomValue) (r : Bool) → r ≡ same_atom own a → IsTrue r ↔ (Of own ≡ Of a)
same_exactly own a r is = (
  λ t. ap (λ (z : AtomValue). Of z) (same_atom_sound own a (sym is ∙ t)),
  λ e.
      let same : own ≡ a = cc in
      let P : AtomValue → Type 0 = λ z. same_atom own z ≡ true in
      is ∙ subst P same (same_atom_itself own),
)

-- ---- loops over positions
pub none_among : (P : ℕ → Type 0) (ks : List ℕ) (n : ℕ) → length ks ≤ n → All (λ k. P k → ⊥) (take n ks) → HoldsAmong P ks → ⊥
none_among P ks n all none h =
    let Q : List ℕ → Type 0 = λ z. All (λ k. P k → ⊥) z in
    let whole : All (λ k. P k → ⊥) ks = subst Q (take_all n ks all) none in
    All-contains (λ k. P k → ⊥) ks h.0 whole h.1 h.2

-- ---- what the index tells
module _ (context : Context) (index : IndexValue) (a : AtomValue) (is_context : IsContext context) (ground : IsTrue (are_ground a.args)) (is_index : IsIndex context index) (ks ms : List ℕ) (ks_are : ks ≡ positions (code_of a) index.atoms) (ms_are : ms ≡ positions a.pred index.general) where
  abbrev StandsListed : Type 0
  StandsListed = HoldsAmong (λ k. HasAtomAt context k a) ks

  abbrev FixesListed : Type 0
  FixesListed = HoldsAmong (λ k. FixesAt context k a) ms

  fixes : IsFixed context a → (k : ℕ) × FixesAt context k a
  fixes f = (f.1.0, (f.1.1, f.1.2, f.1.3, f.1.5))

  fixed : ((k : ℕ) × FixesAt context k a) → IsFixed context a
  fixed h = (h.1.0.positive, (h.0, h.1.0, h.1.1, h.1.2, refl, h.1.3))

  pub by_atom : StandsListed → (k : ℕ) × FixesAt context k a
  by_atom h = fixes ((ground_is_fixed context a is_context ground).1 (inl (h.0, h.2.0, h.2.1, h.2.2)))

  stands_listed : StandsSomewhere context a → StandsListed
  stands_listed s =
      let P : List ℕ → Type 0 = λ z. Contains z s.0 in
      (s.0, subst P (sym ks_are) (atom_listed context index s.0 s.1 a is_index s.2 s.3), (s.1, s.2, s.3))

  fixes_listed : IsBelowVariables context a → FixesListed
  fixes_listed b =
      let P : List ℕ → Type 0 = λ z. Contains z b.0 in
      (b.0, subst P (sym ms_are) (general_listed context index b.0 b.1 a is_index b.2.0 b.3 b.4 b.5), (b.1, b.2, b.3, b.5))

  pub by_general : FixesListed → (k : ℕ) × FixesAt context k a
  by_general h = (h.0, h.2)

  pub is_listed : ((k : ℕ) × FixesAt context k a) → StandsListed ⊎ FixesListed
  is_listed h = elim ((ground_is_fixed context a is_context ground).0 (fixed h)) as (λ _. StandsListed ⊎ FixesListed) [
    | inl s ↦ inl (stands_listed s)
    | inr b ↦ inr (fixes_listed b)
  ]

  apart : false ≡ true → ⊥
  apart e = cc e

  pub otherwise : (stands general : Bool) → (IsTrue stands ↔ StandsListed) → stands ≡ false → (IsTrue general ↔ FixesListed) → IsTrue general ↔ ((k : ℕ) × FixesAt context k a)
  otherwise stands general s none g = (
    λ t. by_general (g.0 t),
    λ h. elim (is_listed h) as (λ _. IsTrue general) [
      | inl there ↦ absurd (apart (sym none ∙ s.1 there))
      | inr above ↦ g.1 above
    ],
  )
