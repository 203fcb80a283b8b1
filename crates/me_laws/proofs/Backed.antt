-- An asserted entry of a grown context was asserted in the context of the entries before it.
use Rattle.std.proofs.Common.{◌≡◌, ℕ, zero, suc, ◌<◌, Bool, inl, inr, List, length, slice_get, sym, subst, ap, ◌∙◌, arith}
use Rattle.std.proofs.lemmas.Option.{slice_get_within, same_Some}
use Rattle.me_terms.specs.Measures.{complement}
use Rattle.me_terms.specs.Values.{ProblemValue, EntryValue, Asserted, SplitLeft, SplitRight}
use Rattle.me_terms.specs.Context.{Context, StandsAt, pseudo, add}
use Rattle.me_terms.specs.Assert.{IsAssert}
use Rattle.me_terms.specs.Grown.{sign_of, start, split_entry, IsGrown, started, asserted, went_left, went_right}
use Rattle.me_terms.specs.declared.bounds.Bounds.{Bounds}
use Rattle.me_laws.proofs.Added.{get_add, add_cases}

-- The entry e at position p was asserted in the context of the entries before it.
pub record Backed (problem : ProblemValue) (bounds : Bounds) (context : Context) (p : ℕ) (c place : ℕ) (tuple : List ℕ) (e : EntryValue) : Type 0 where
  pub before : Context
  pub as_long : length before ≡ p
  pub agree : (k : ℕ) → k < p → slice_get before k ≡ slice_get context k
  pub is_assert : IsAssert problem bounds before c place tuple e

abbrev pub AreBacked : ProblemValue → Bounds → Context → Type 0
AreBacked problem bounds context =
    (k : ℕ) (e : EntryValue) (c place : ℕ) (tuple : List ℕ) → StandsAt context k e → e.reason ≡ Asserted c place tuple → Backed problem bounds context k c place tuple e

backed_on : (problem : ProblemValue) (bounds : Bounds) (context : Context) (e : EntryValue) (k c place : ℕ) (tuple : List ℕ) (f : EntryValue) → k < length context → Backed problem bounds context k c place tuple f → Backed problem bounds (add context e) k c place tuple f
backed_on problem bounds context e k c place tuple f lt h = record {
  before = h.before;
  as_long = h.as_long;
  agree = λ j below. h.agree j below ∙ get_add context e j (omega arith);
  is_assert = h.is_assert;
}

add_backed : (problem : ProblemValue) (bounds : Bounds) (context : Context) (e : EntryValue) → AreBacked problem bounds context → ((c place : ℕ) (tuple : List ℕ) → e.reason ≡ Asserted c place tuple → IsAssert problem bounds context c place tuple e) → AreBacked problem bounds (add context e)
add_backed problem bounds context e old new = λ k f c place tuple stands reason.
    elim (add_cases context e k f stands) as (λ _. Backed problem bounds (add context e) k c place tuple f) [
      | inl h ↦ backed_on problem bounds context e k c place tuple f (slice_get_within context k f h) (old k f c place tuple h reason)
      | inr h ↦
          let mine : e.reason ≡ Asserted c place tuple = ap (λ (x : EntryValue). x.reason) h.1 ∙ reason in
          let P : EntryValue → Type 0 = λ x. IsAssert problem bounds context c place tuple x in
          record {
            before = context;
            as_long = sym h.0;
            agree = λ j below. let at : k ≡ length context = h.0 in get_add context e j (omega (arith, at, below));
            is_assert = subst P h.1 (new c place tuple mine);
          }
    ]

same_reason : (problem : ProblemValue) (bounds : Bounds) (context : Context) (e : EntryValue) (c place : ℕ) (tuple : List ℕ) (c' place' : ℕ) (tuple' : List ℕ) → IsAssert problem bounds context c place tuple e → e.reason ≡ Asserted c' place' tuple' → IsAssert problem bounds context c' place' tuple' e
same_reason problem bounds context e c place tuple c' place' tuple' h reason =
    let own : Asserted c place tuple ≡ Asserted c' place' tuple' = sym (ap (λ (x : EntryValue). x.reason) h.entry) ∙ reason in
    let i : c ≡ c' = cc own in
    let j : place ≡ place' = cc own in
    let k : tuple ≡ tuple' = cc own in
    let P : ℕ × ℕ × List ℕ → Type 0 = λ z. IsAssert problem bounds context z.0 z.1 z.2 e in
    subst P (λ n. (i n, j n, k n)) h

start_backed : (problem : ProblemValue) (bounds : Bounds) → AreBacked problem bounds (start bounds.start)
start_backed problem bounds zero e c place tuple stands reason =
    let own = ap (λ (x : EntryValue). x.reason) (same_Some (pseudo (sign_of bounds.start)) e stands) in cc (own, reason)
start_backed problem bounds (suc k) e c place tuple stands reason = cc stands

pub grown_backed : {problem : ProblemValue} {bounds : Bounds} {context : Context} → IsGrown problem bounds context → AreBacked problem bounds context
grown_backed {problem} {bounds} started = start_backed problem bounds
grown_backed {problem} {bounds} (asserted {context = context} {e = e} h next) =
    let least = next.2 in
    add_backed problem bounds context e (grown_backed h) (λ c place tuple reason. same_reason problem bounds context e least.0 least.1 least.2 c place tuple least.3 reason)
grown_backed {problem} {bounds} (went_left {context = context} {l = l} {kind = kind} h next) =
    add_backed problem bounds context (split_entry l kind SplitLeft) (grown_backed h) (λ c place tuple reason. cc reason)
grown_backed {problem} {bounds} (went_right {context = context} {l = l} {kind = kind} h next) =
    add_backed problem bounds context (split_entry (complement l) kind SplitRight) (grown_backed h) (λ c place tuple reason. cc reason)
