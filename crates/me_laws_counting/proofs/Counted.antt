-- A context of small atoms, each of which stands at most twice, has no more entries than there is room for.
use Rattle.std.proofs.Common.{◌≡◌, ℕ, suc, ◌+◌, ◌-◌, ◌*◌, ◌<◌, ◌≤◌, false, inl, inr, length, get_or, slice_get, Option, Some, None, sum_by, IsTrue, sym, subst, ap, ◌∙◌, arith}
use Rattle.std.proofs.lemmas.Bool.{cases_order}
use Rattle.std.proofs.lemmas.Option.{slice_get-get_or}
use Rattle.indexmap.proofs.IndexTableLemmas.Probe.{pigeonhole}
use Rattle.me_terms.specs.Variables.{are_ground, is_canonical}
use Rattle.me_terms.specs.Substitutions.{IsVariant}
use Rattle.me_terms.specs.Values.{SignatureValue, EntryValue}
use Rattle.me_terms.specs.Context.{Context, StandsAt, pseudo, IsAtomWith, IsContext}
use Rattle.me_terms.specs.Order.{kind_rank}
use Rattle.me_terms.specs.declared.entry.Kind.{Kind}
use Rattle.me_terms.specs.declared.entry.Kind.TheVariants.{Universal, Parametric}
use Rattle.me_terms.specs.declared.atom.Pattern.{Pattern}
use Rattle.me_terms.specs.declared.atom.Pattern.TheVariants.{Any, Of}
use Rattle.me_laws.proofs.Generality.{generalizes_reflexive}
use Rattle.me_laws_counting.specs.Twice.{RepeatsSharpen}
use Rattle.me_laws_counting.specs.FunctionFree.{atoms_of}
use Rattle.me_laws_counting.proofs.SmallContext.{IsSmallOr, AreSmall}
use Rattle.me_laws_counting.proofs.Codes.{atom_code, atom_code_below, atom_code_injective}

-- how many atoms there can be
abbrev pub most : SignatureValue → ℕ
most signature = sum_by (atoms_of (length signature.functions)) signature.predicates

-- an atom and a kind as a number
abbrev entry_code : SignatureValue → Pattern → Kind → ℕ
entry_code signature Any kind = 0
entry_code signature (Of a) kind = atom_code signature a * 2 + kind_rank kind

-- a literal that is canonical
abbrev IsCanonicalEntry : Kind → Pattern → Type 0
IsCanonicalEntry own p = IsAtomWith (λ a. IsTrue (is_canonical a) × (IsTrue (are_ground a.args) → own ≡ Universal)) p

rank_below : (kind : Kind) → kind_rank kind < 2
rank_below Universal = omega arith
rank_below Parametric = omega arith

code_below : (signature : SignatureValue) (p : Pattern) (kind own : Kind) → IsCanonicalEntry own p → IsSmallOr signature p → entry_code signature p kind < 2 * most signature
code_below signature Any kind own h small = absurd h
code_below signature (Of a) kind own h small =
    let below = atom_code_below signature a small h.0 in
    let rank = rank_below kind in
    omega (arith, below, rank)

code_injective : (signature : SignatureValue) (p q : Pattern) (kind other own owner : Kind) → IsCanonicalEntry own p → IsCanonicalEntry owner q → IsSmallOr signature p → IsSmallOr signature q → entry_code signature p kind ≡ entry_code signature q other → (p ≡ q) × (kind_rank kind ≡ kind_rank other)
code_injective signature Any q kind other own owner f g small smaller h = absurd f
code_injective signature (Of a) Any kind other own owner f g small smaller h = absurd g
code_injective signature (Of a) (Of b) kind other own owner f g small smaller h =
    let one = rank_below kind in
    let two = rank_below other in
    let atoms : atom_code signature a ≡ atom_code signature b = omega (arith, one, two) in
    let ranks : kind_rank kind ≡ kind_rank other = omega (arith, one, two) in
    (ap Of (atom_code_injective signature a b small smaller f.0 g.0 atoms), ranks)

abbrev slot_of : SignatureValue → Option EntryValue → ℕ
slot_of signature None = 0
slot_of signature (Some e) = entry_code signature e.atom e.kind

module _ (signature : SignatureValue) (context : Context) (context_is : IsContext context) (small : AreSmall signature context) (sharpen : RepeatsSharpen context) where
  -- the number of the entry after position k
  slot : ℕ → ℕ
  slot k = slot_of signature (slice_get context (suc k))

  into : (i : ℕ) → i < length context - 1 → slot i < 2 * most signature
  unfolding slot
  into i lt =
      let e = get_or context (suc i) (pseudo false) in
      let stands : StandsAt context (suc i) e = slice_get-get_or context (suc i) (pseudo false) (omega arith) in
      let P : Option EntryValue → Type 0 = λ o. slot_of signature o < 2 * most signature in
      subst P (sym stands) (code_below signature e.atom e.kind e.kind (context_is.later (suc i) e (omega arith) stands) (small (suc i) e stands))

  ranks_differ : (kind other : Kind) → kind ≡ Parametric → other ≡ Universal → kind_rank kind ≡ kind_rank other → ⊥
  ranks_differ Universal other e f h = cc e
  ranks_differ Parametric Universal e f h = omega arith
  ranks_differ Parametric Parametric e f h = cc f

  apart : (i j : ℕ) → i < j → j < length context - 1 → slot i ≡ slot j → ⊥
  unfolding slot
  apart i j lt below h =
      let e = get_or context (suc i) (pseudo false) in
      let f = get_or context (suc j) (pseudo false) in
      let first : StandsAt context (suc i) e = slice_get-get_or context (suc i) (pseudo false) (omega arith) in
      let second : StandsAt context (suc j) f = slice_get-get_or context (suc j) (pseudo false) (omega arith) in
      let codes : entry_code signature e.atom e.kind ≡ entry_code signature f.atom f.kind = sym (ap (slot_of signature) first) ∙ (h ∙ ap (slot_of signature) second) in
      let same = code_injective signature e.atom f.atom e.kind f.kind e.kind f.kind (context_is.later (suc i) e (omega arith) first) (context_is.later (suc j) f (omega arith) second) (small (suc i) e first) (small (suc j) f second) codes in
      let P : Pattern → Type 0 = λ p. IsVariant e.atom p in
      let sharp = sharpen (suc i) (suc j) e f (omega arith) first second (subst P same.0 (generalizes_reflexive e.atom, generalizes_reflexive e.atom)) in
      ranks_differ e.kind f.kind sharp.parametric sharp.universal same.1

  one : (i j : ℕ) → i < length context - 1 → j < length context - 1 → slot i ≡ slot j → i ≡ j
  one i j p q h =
      elim (cases_order i j) as (λ _. i ≡ j) [
        | inl same ↦ same
        | inr other ↦ elim other as (λ _. i ≡ j) [ inl lt ↦ absurd (apart i j lt q h) | inr gt ↦ absurd (apart j i gt p (sym h)) ]
      ]

  pub few_entries : length context ≤ 1 + 2 * most signature
  few_entries = let few = pigeonhole (length context - 1) (2 * most signature) slot into one in omega (arith, few)
