-- What stands in a grown context: literals over the signature, each with its reason.
use Rattle.std.proofs.Common.{◌≡◌, ℕ, zero, suc, ◌<◌, Bool, true, false, cond, ◌⊎◌, inl, inr, List, length, slice_get, Option, Some, None, refl, sym, subst, ap, ◌∙◌, arith}
use Rattle.std.proofs.lemmas.Option.{slice_get_within, same_Some}
use Rattle.me_terms.specs.Substitutions.{Family, apply_atom}
use Rattle.me_terms.specs.Variables.{are_ground}
use Rattle.me_terms.specs.Measures.{complement, canonical_literal}
use Rattle.me_terms.specs.Values.{ProblemValue, ClauseValue, EntryValue, ReasonValue, Pseudo, Asserted, SplitLeft, SplitRight}
use Rattle.me_terms.specs.Context.{Context, StandsAt, IsAtomWith, pseudo, add}
use Rattle.me_terms.specs.Positions.{positions_of, ClauseAt}
use Rattle.me_terms.specs.Unifier.{IsUnifier, unified}
use Rattle.me_terms.specs.Assert.{IsAssert}
use Rattle.me_terms.specs.Next.{Assert, Split, IsNext}
use Rattle.me_terms.specs.Grown.{sign_of, start, split_entry, left_of, right_of, IsGrown, started, asserted, went_left, went_right}
use Rattle.me_terms.specs.Signatures.{are_known}
use Rattle.me_terms.specs.Validity.{IsValid}
use Rattle.me_terms.specs.declared.bounds.Bounds.{Bounds}
use Rattle.me_terms.specs.declared.bounds.Start.{Start}
use Rattle.me_terms.specs.declared.entry.Kind.{Kind}
use Rattle.me_terms.specs.declared.entry.Kind.TheVariants.{Universal, Parametric}
use Rattle.me_terms.specs.declared.atom.Literal.{Literal}
use Rattle.me_terms.specs.declared.atom.Pattern.{Pattern}
use Rattle.me_terms.specs.declared.atom.Pattern.TheVariants.{Any}
use Rattle.me_laws.proofs.Added.{get_add, add_cases}
use Rattle.me_laws.proofs.Backed.{Backed}
use Rattle.me_laws_refutation.proofs.Known.{IsKnownPattern, AreKnown, all_known_under, canonical_known, clause_known}
use Rattle.me_laws_refutation.proofs.UnifierKnown.{unifier_known}

-- A split entry is an atom that is Parametric or ground.
abbrev pub IsSplitEntry : EntryValue → Type 0
IsSplitEntry e = IsAtomWith (λ b. (e.kind ≡ Parametric) ⊎ (are_ground b.args ≡ true)) e.atom

-- The reason says how the entry came to stand there.
abbrev pub IsReason : ProblemValue → Bounds → Context → ℕ → EntryValue → ReasonValue → Type 0
IsReason problem bounds context p e Pseudo = e.atom ≡ Any
IsReason problem bounds context p e (Asserted c place tuple) = Backed problem bounds context p c place tuple e
IsReason problem bounds context p e SplitLeft = IsSplitEntry e
IsReason problem bounds context p e SplitRight = IsSplitEntry e

pub record IsSound (problem : ProblemValue) (bounds : Bounds) (context : Context) : Type 0 where
  pub known : AreKnown problem.signature context
  pub reasons : (k : ℕ) (e : EntryValue) → StandsAt context k e → IsReason problem bounds context k e e.reason

-- ---- one entry more
reason_on : (problem : ProblemValue) (bounds : Bounds) (context : Context) (e : EntryValue) (k : ℕ) (f : EntryValue) (why : ReasonValue) → k < length context → IsReason problem bounds context k f why → IsReason problem bounds (add context e) k f why
reason_on problem bounds context e k f Pseudo lt h = h
reason_on problem bounds context e k f (Asserted c place tuple) lt h = record {
  before = h.before;
  as_long = h.as_long;
  agree = λ j below. h.agree j below ∙ get_add context e j (omega arith);
  is_assert = h.is_assert;
}
reason_on problem bounds context e k f SplitLeft lt h = h
reason_on problem bounds context e k f SplitRight lt h = h

add_sound : (problem : ProblemValue) (bounds : Bounds) (context : Context) (e : EntryValue) → IsSound problem bounds context → IsKnownPattern problem.signature e.atom → IsReason problem bounds (add context e) (length context) e e.reason → IsSound problem bounds (add context e)
add_sound problem bounds context e sound known reason = record {
  known = λ k f stands. elim (add_cases context e k f stands) as (λ _. IsKnownPattern problem.signature f.atom) [
    | inl old ↦ sound.known k f old
    | inr new ↦ let P : EntryValue → Type 0 = λ x. IsKnownPattern problem.signature x.atom in subst P new.1 known
  ];
  reasons = λ k f stands. elim (add_cases context e k f stands) as (λ _. IsReason problem bounds (add context e) k f f.reason) [
    | inl old ↦ reason_on problem bounds context e k f f.reason (slice_get_within context k f old) (sound.reasons k f old)
    | inr new ↦ let P : ℕ × EntryValue → Type 0 = λ x. IsReason problem bounds (add context e) x.0 x.1 x.1.reason in subst P (λ n. (sym new.0 n, new.1 n)) reason
  ];
}

-- ---- what is added
module _ (problem : ProblemValue) (valid : IsValid problem) (bounds : Bounds) (context : Context) (sound : IsSound problem bounds context) where
  -- a clause's literal under a unifier, in canonical form, is over the signature
  unified_known : (c : ℕ) (clause : ClauseValue) (place : ℕ) (literal : Literal) (positions : List (Option ℕ)) (family : Family) → ClauseAt problem c clause → slice_get clause.literals place ≡ Some literal → IsUnifier context clause.literals positions family → are_known problem.signature (canonical_literal (unified family literal)).atom.args ≡ true
  unified_known c clause place literal positions family at here unifier =
      let literals = clause_known problem valid c clause at in
      let terms = unifier_known problem.signature context clause.literals positions family sound.known literals unifier in
      canonical_known problem.signature (apply_atom (family 0) literal.atom) (all_known_under problem.signature (family 0) (terms 0) literal.atom.args (literals place literal here))

  assert_sound : (c place : ℕ) (tuple : List ℕ) (e : EntryValue) → IsAssert problem bounds context c place tuple e → IsSound problem bounds (add context e)
  assert_sound c place tuple e h =
      let P : Pattern → Type 0 = λ p. IsKnownPattern problem.signature p in
      let atoms = ap (λ (x : EntryValue). x.atom) h.entry in
      let Q : ReasonValue → Type 0 = λ w. IsReason problem bounds (add context e) (length context) e w in
      let backed : Backed problem bounds (add context e) (length context) c place tuple e = record {
        before = context;
        as_long = refl;
        agree = λ k lt. get_add context e k lt;
        is_assert = h;
      } in
      add_sound problem bounds context e sound
      (subst P (sym atoms) (unified_known c h.clause place h.literal (positions_of (Some place) tuple) h.family h.clause_at h.literal_at h.unifier.unifier))
      (subst Q (sym (ap (λ (x : EntryValue). x.reason) h.entry)) backed)

  kind_by : (l : Literal) (test : Bool) → are_ground l.atom.args ≡ test → (cond test Universal Parametric ≡ Parametric) ⊎ (are_ground l.atom.args ≡ true)
  kind_by l true e = inr e
  kind_by l false e = inl refl

  split_facts : (l : Literal) (kind : Kind) → IsNext problem bounds context (Split l kind) → (are_known problem.signature l.atom.args ≡ true) × ((kind ≡ Parametric) ⊎ (are_ground l.atom.args ≡ true))
  split_facts l kind next =
      let h = next.3.4 in
      let P : Literal → Type 0 = λ m. are_known problem.signature m.atom.args ≡ true in
      let Q : Kind → Type 0 = λ x. (x ≡ Parametric) ⊎ (are_ground l.atom.args ≡ true) in (
        subst P (sym h.split_literal) (unified_known next.3.0 h.clause next.3.1 h.literal (positions_of None next.3.3) h.family h.productive.clause_at h.literal_at h.productive.unifier.unifier),
        subst Q (sym next.4) (kind_by l (are_ground l.atom.args) refl),
      )

  pub next_assert : (e : EntryValue) → IsNext problem bounds context (Assert e) → IsSound problem bounds (add context e)
  next_assert e next = assert_sound next.2.0 next.2.1 next.2.2 e next.2.3

  pub next_left : (l : Literal) (kind : Kind) → IsNext problem bounds context (Split l kind) → IsSound problem bounds (left_of context l kind)
  next_left l kind next = let facts = split_facts l kind next in add_sound problem bounds context (split_entry l kind SplitLeft) sound facts.0 facts.1

  pub next_right : (l : Literal) (kind : Kind) → IsNext problem bounds context (Split l kind) → IsSound problem bounds (right_of context l kind)
  next_right l kind next = let facts = split_facts l kind next in add_sound problem bounds context (split_entry (complement l) kind SplitRight) sound facts.0 facts.1

start_by : (begins : Start) (P : EntryValue → Type 0) → P (pseudo (sign_of begins)) → (k : ℕ) (e : EntryValue) → StandsAt (start begins) k e → P e
start_by begins P first zero e h = subst P (same_Some (pseudo (sign_of begins)) e h) first
start_by begins P first (suc k) e h = cc

start_reason : (problem : ProblemValue) (bounds : Bounds) (begins : Start) (k : ℕ) (e : EntryValue) → StandsAt (start begins) k e → IsReason problem bounds (start begins) k e e.reason
start_reason problem bounds begins zero e h =
    let P : EntryValue → Type 0 = λ x. IsReason problem bounds (start begins) 0 x x.reason in subst P (same_Some (pseudo (sign_of begins)) e h) refl
start_reason problem bounds begins (suc k) e h = cc

pub start_sound : (problem : ProblemValue) (bounds : Bounds) (begins : Start) → IsSound problem bounds (start begins)
start_sound problem bounds begins = record {
  known = λ k e stands. start_by begins (λ f. IsKnownPattern problem.signature f.atom) tt k e stands;
  reasons = start_reason problem bounds begins;
}

pub grown_sound : {problem : ProblemValue} {bounds : Bounds} {context : Context} → IsValid problem → IsGrown problem bounds context → IsSound problem bounds context
grown_sound {problem} {bounds} valid started = start_sound problem bounds bounds.start
grown_sound {problem} {bounds} valid (asserted {context = context} {e = e} h next) = next_assert problem valid bounds context (grown_sound valid h) e next
grown_sound {problem} {bounds} valid (went_left {context = context} {l = l} {kind = kind} h next) = next_left problem valid bounds context (grown_sound valid h) l kind next
grown_sound {problem} {bounds} valid (went_right {context = context} {l = l} {kind = kind} h next) = next_right problem valid bounds context (grown_sound valid h) l kind next
