-- The lines of a printed model show that it is one.
use Rattle.std.proofs.Common.{◌≡◌, ◌⊎◌, inl, inr, ℕ, zero, suc, ◌<◌, ◌≤◌, Bool, true, false, not, List, [], ◌∷◌, ◌++◌, length, map, take, slice_get, Option, None, Some, refl, sym, ap, subst, ◌∙◌, arith, IsTrue}
use Rattle.std.proofs.lemmas.Bool.{cases_lt}
use Rattle.std.proofs.lemmas.Option.{same_Some, slice_get-map, slice_get_within}
use Rattle.std.specs.Option.{option_map, unwrap_or}
use Rattle.me_terms.specs.Terms.{AtomValue}
use Rattle.me_terms.specs.Values.{ProblemValue, EntryValue}
use Rattle.me_terms.specs.Variables.{are_ground, is_canonical}
use Rattle.me_terms.specs.Context.{Context, StandsAt, pseudo, IsAtomWith, IsContext, IsHidden, IsVisible, IsLiteralEntry}
use Rattle.me_terms.specs.Contradictory.{Clash, Contradicts, IsConsistent, IsContradictory}
use Rattle.me_terms.specs.Grown.{sign_of}
use Rattle.me_terms.specs.Productive.{HasProductive}
use Rattle.me_terms.specs.Substitutions.{Generalizes}
use Rattle.me_terms.specs.declared.bounds.Start.{Start}
use Rattle.me_terms.specs.declared.entry.Kind.{Kind}
use Rattle.me_terms.specs.declared.entry.Kind.TheVariants.{Universal, Parametric}
use Rattle.me_terms.specs.declared.atom.Literal.{Literal}
use Rattle.me_terms.specs.declared.atom.Pattern.{Pattern}
use Rattle.me_terms.specs.declared.atom.Pattern.TheVariants.{Any, Of}
use Rattle.entry_hiding.proofs.Marks.{push_old, push_end, push_cases}
use Rattle.szs_print.specs.SummaryText.{IsShown}
use Rattle.szs_read.specs.Printed.{AreEntryLinesOf, IsEntryLineOf, start_of}
use Rattle.szs_read.specs.declared.claim.EntryLine.{EntryLine}
use Rattle.answer_check.specs.Judgements.{AreRightEntries, IsRightEntry, IsShownModel, context_of, entry_of}
use Rattle.answer_check.proofs.Selections.{AreAlike, IsSelection, productive_selected}
use Rattle.answer_check.proofs.ShownModels.{line_at}

-- ---- the lines of the first n positions

-- Each line is that of a visible literal, in order, and each such literal has one.
record Listed (context : Context) (n : ℕ) (lines : List EntryLine) : Type 0 where
  each : (j : ℕ) (line : EntryLine) → slice_get lines j ≡ Some line → IsEntryLineOf context line.at line × (line.at < n)
  all : (k : ℕ) → k < n → IsShown context k → (j : ℕ) × (line : EntryLine) × (slice_get lines j ≡ Some line) × (line.at ≡ k)
  rises : (i j : ℕ) (line later : EntryLine) → i < j → slice_get lines i ≡ Some line → slice_get lines j ≡ Some later → line.at < later.at

nothing_listed : (context : Context) (lines : List EntryLine) → lines ≡ [] → Listed context 0 lines
nothing_listed context lines e =
    let P : List EntryLine → Type 0 = λ z. Listed context 0 z in
    subst P (sym e) (record { each = λ j line at. cc at; all = λ k lt shown. absurd (omega arith); rises = λ i j line later lt at at'. cc at })

module _ (context : Context) (n : ℕ) (before : List EntryLine) (listed : Listed context n before) where
  not_listed : ¬ IsShown context n → Listed context (suc n) before
  not_listed absent = record {
    each = λ j line at. let h = listed.each j line at in (h.0, omega (arith, h.1));
    all = λ k lt shown. elim (cases_lt k n) as (λ _. (j : ℕ) × (line : EntryLine) × (slice_get before j ≡ Some line) × (line.at ≡ k)) [
      | inl below ↦ listed.all k below shown
      | inr above ↦ let here : k ≡ n = omega arith in absurd (absent (subst (IsShown context) here shown))
    ];
    rises = listed.rises;
  }

  module _ (last : EntryLine) (is_line : IsEntryLineOf context n last) where
    at_last : last.at ≡ n
    at_last = ap (λ (z : EntryLine). z.at) is_line.4

    one_listed : Listed context (suc n) (before ++ last ∷ [])
    one_listed = record {
      each = λ j line at. elim (push_cases before last j line at) as (λ _. IsEntryLineOf context line.at line × (line.at < suc n)) [
        | inl old ↦ let h = listed.each j line old in (h.0, omega (arith, h.1))
        | inr new ↦
            let P : EntryLine → Type 0 = λ z. IsEntryLineOf context z.at z × (z.at < suc n) in
            let Q : ℕ → Type 0 = λ z. IsEntryLineOf context z last in
            subst P new.1 (subst Q (sym at_last) is_line, omega (arith, at_last))
      ];
      all = λ k lt shown. elim (cases_lt k n) as (λ _. (j : ℕ) × (line : EntryLine) × (slice_get (before ++ last ∷ []) j ≡ Some line) × (line.at ≡ k)) [
        | inl below ↦ let h = listed.all k below shown in (h.0, h.1, push_old before last h.0 h.1 h.2, h.3)
        | inr above ↦ (length before, last, push_end before last (length before) refl, omega (arith, at_last))
      ];
      rises = λ i j line later lt at at'. elim (push_cases before last j later at') as (λ _. line.at < later.at) [
        | inl old ↦ elim (push_cases before last i line at) as (λ _. line.at < later.at) [
          | inl first ↦ listed.rises i j line later lt first old
          | inr end ↦ absurd (omega (arith, end.0, slice_get_within before j later old))
        ]
        | inr new ↦ elim (push_cases before last i line at) as (λ _. line.at < later.at) [
          | inl first ↦ let h = (listed.each i line first).1 in let e : last.at ≡ later.at = ap (λ (z : EntryLine). z.at) new.1 in omega (arith, h, e, at_last)
          | inr end ↦ absurd (omega (arith, end.0, new.0))
        ]
      ];
    }

listed_from : (context : Context) (n : ℕ) (lines : List EntryLine) → AreEntryLinesOf context n lines → Listed context n lines
listed_from context zero lines h = nothing_listed context lines h
listed_from context (suc n) lines h =
    let so_far = listed_from context n h.0 h.1 in
    let P : List EntryLine → Type 0 = λ z. Listed context (suc n) z in
    elim h.2 as (λ _. Listed context (suc n) lines) [
      | inl more ↦ subst P (sym more.2) (one_listed context n h.0 so_far more.0 more.1)
      | inr none ↦ subst P (sym none.1) (not_listed context n h.0 so_far none.0)
    ]

-- ---- the lines as a selection of the context's entries

-- The position of an entry of the lines' context, in the context from which they were printed.
place_in : List EntryLine → ℕ → ℕ
place_in lines zero = 0
place_in lines (suc j) = unwrap_or (option_map (λ (line : EntryLine). line.at) (slice_get lines j)) 0

place_of_line : (lines : List EntryLine) (j : ℕ) (line : EntryLine) → slice_get lines j ≡ Some line → place_in lines (suc j) ≡ line.at
unfolding place_in
place_of_line lines j line at = ap (λ (o : Option EntryLine). unwrap_or (option_map (λ (l : EntryLine). l.at) o) 0) at

signs : (positive : Bool) → sign_of (start_of positive) ≡ positive
signs true = refl
signs false = refl

any_is_not : (a : AtomValue) → ¬ (Any ≡ Of a)
any_is_not a h = cc h

module _ (context : Context) (whole : IsContext context) (positive : Bool) (first : StandsAt context 0 (pseudo positive)) (lines : List EntryLine) (listed : Listed context (length context) lines) where
  start : Start
  start = start_of positive

  printed : Context
  printed = context_of (start_of positive) lines

  begins : (e : EntryValue) → StandsAt printed 0 e → e ≡ pseudo positive
  unfolding printed
  begins e at = sym (same_Some (pseudo (sign_of (start_of positive))) e at) ∙ ap pseudo (signs positive)

  literal_at : (k : ℕ) (e : EntryValue) → 0 < k → StandsAt context k e → (a : AtomValue) × (e.atom ≡ Of a)
  literal_at k e lt at = by_pattern e.atom refl (whole.later k e lt at)
    where
      by_pattern : (p : Pattern) → e.atom ≡ p → IsAtomWith (λ a. IsTrue (is_canonical a) × (IsTrue (are_ground a.args) → e.kind ≡ Universal)) p → (a : AtomValue) × (e.atom ≡ Of a)
      by_pattern Any is h = absurd h
      by_pattern (Of a) is h = (a, is)

  -- nothing hides the pseudo-literal
  pseudo_visible : IsVisible context 0 (pseudo positive)
  pseudo_visible = (
    first,
    λ hidden.
        let a = literal_at hidden.0 hidden.1 hidden.2.is_later hidden.2.stands in
        not_over a.0 hidden.1.atom a.1 hidden.2.covers.generalizes,
  )
    where
      not_over : (a : AtomValue) (p : Pattern) → p ≡ Of a → ¬ Generalizes p Any
      not_over a Any is h = any_is_not a is
      not_over a (Of b) is h = h

  line_entry : (j : ℕ) (line : EntryLine) → slice_get lines j ≡ Some line → (f : EntryValue) × IsVisible context line.at f × AreAlike (entry_of line) f
  line_entry j line at =
      let is = (listed.each j line at).0 in (
        is.0,
        is.2,
        record {
          positive = ap (λ (z : EntryLine). z.literal.positive) is.4;
          atom = ap (λ (z : EntryLine). Of z.literal.atom) is.4 ∙ sym is.3;
          kind = ap (λ (z : EntryLine). z.kind) is.4;
        },
      )

  there : (j : ℕ) (e : EntryValue) → StandsAt printed j e → (f : EntryValue) × IsVisible context (place_in lines j) f × AreAlike e f
  unfolding place_in printed
  there zero e at =
      let is = begins e at in
      (pseudo positive, pseudo_visible, record { positive = ap (λ (z : EntryValue). z.positive) is; atom = ap (λ (z : EntryValue). z.atom) is; kind = ap (λ (z : EntryValue). z.kind) is })
  there (suc j) e at =
      let found = line_at lines j e at in
      let h = line_entry j found.0 found.1 in
      let P : EntryValue → Type 0 = λ z. AreAlike z h.0 in
      (h.0, subst (λ z. IsVisible context z h.0) (sym (place_of_line lines j found.0 found.1)) h.1, subst P found.2 h.2)

  back : (k : ℕ) (f : EntryValue) → IsVisible context k f → (j : ℕ) × (e : EntryValue) × (place_in lines j ≡ k) × StandsAt printed j e × AreAlike e f
  unfolding place_in printed
  back zero f visible =
      let is : pseudo positive ≡ f = same_Some (pseudo positive) f (sym first ∙ visible.0) in (
        0,
        pseudo (sign_of (start_of positive)),
        refl,
        refl,
        subst (λ (z : EntryValue). AreAlike (pseudo (sign_of (start_of positive))) z) is
            (record { positive = signs positive; atom = refl; kind = refl }),
      )
  back (suc k) f visible =
      let a = literal_at (suc k) f (omega arith) visible.0 in
      let found = listed.all (suc k) (slice_get_within context (suc k) f visible.0) (f, a.0, visible, a.1) in
      let h = line_entry found.0 found.1 found.2 in
      let stands : StandsAt context (suc k) h.0 = subst (λ z. StandsAt context z h.0) found.3 h.1.0 in
      let same : h.0 ≡ f = same_Some h.0 f (sym stands ∙ visible.0) in (
        suc found.0,
        entry_of found.1,
        place_of_line lines found.0 found.1 found.2 ∙ found.3,
        slice_get-map entry_of lines found.0 ∙ ap (option_map entry_of) found.2,
        subst (λ (z : EntryValue). AreAlike (entry_of found.1) z) same h.2,
      )

  rises : (i j : ℕ) (e : EntryValue) → i < j → StandsAt printed j e → place_in lines i < place_in lines j
  unfolding place_in printed
  rises i zero e lt at = absurd (omega arith)
  rises zero (suc j) e lt at =
      let found = line_at lines j e at in
      let is = (listed.each j found.0 found.1).0 in
      subst (λ z. 0 < z) (sym (place_of_line lines j found.0 found.1)) (not_first found.0.at is.0 is.1 is.2.0 is.3)
    where
      not_first : (k : ℕ) (f : EntryValue) (a : AtomValue) → StandsAt context k f → f.atom ≡ Of a → 0 < k
      not_first zero f a here is = absurd (any_is_not a (ap (λ (z : EntryValue). z.atom) (same_Some (pseudo positive) f (sym first ∙ here)) ∙ is))
      not_first (suc k) f a here is = omega arith
  rises (suc i) (suc j) e lt at =
      let later = line_at lines j e at in
      let sooner = earlier_line lines i j later.0 (omega arith) later.1 in
      let h = listed.rises i j sooner.0 later.0 (omega arith) sooner.1 later.1 in
      omega (arith, h, place_of_line lines i sooner.0 sooner.1, place_of_line lines j later.0 later.1)
    where
      earlier_line : (ls : List EntryLine) (i j : ℕ) (later : EntryLine) → i < j → slice_get ls j ≡ Some later → (line : EntryLine) × (slice_get ls i ≡ Some line)
      earlier_line [] i j later lt at = cc at
      earlier_line (l ∷ ls) zero j later lt at = (l, refl)
      earlier_line (l ∷ ls) (suc i) zero later lt at = absurd (omega arith)
      earlier_line (l ∷ ls) (suc i) (suc j) later lt at = earlier_line ls i j later (omega arith) at

  selection : IsSelection context (context_of (start_of positive) lines) (place_in lines)
  unfolding printed
  selection = record { there = there; back = back; rises = rises }

  -- ---- each line may stand behind those before it

  front_line : (k j : ℕ) (e : EntryValue) → StandsAt (context_of (start_of positive) (take k lines)) j e → StandsAt (context_of (start_of positive) lines) j e
  front_line k zero e at = at
  front_line k (suc j) e at = front_of lines k j e at
    where
      front_of : (ls : List EntryLine) (k j : ℕ) (e : EntryValue) → slice_get (map entry_of (take k ls)) j ≡ Some e → slice_get (map entry_of ls) j ≡ Some e
      front_of [] zero j e at = at
      front_of [] (suc k) j e at = at
      front_of (l ∷ ls) zero j e at = cc at
      front_of (l ∷ ls) (suc k) zero e at = at
      front_of (l ∷ ls) (suc k) (suc j) e at = front_of ls k j e at

  clash_alike : (e f : EntryValue) (kind : Kind) (p : Pattern) → AreAlike e f → Clash e.kind e.atom kind p → Clash f.kind f.atom kind p
  clash_alike e f kind p alike h =
      let P : Kind → Type 0 = λ z. Clash z f.atom kind p in
      let Q : Pattern → Type 0 = λ z. Clash e.kind z kind p in
      subst P alike.kind (subst Q alike.atom h)

  right_entries : IsConsistent context → AreRightEntries (start_of positive) lines
  unfolding printed place_in
  right_entries consistent k line at =
      let h = line_entry k line at in
      let is = (listed.each k line at).0 in
      let literal : IsLiteralEntry (entry_of line) = literal_of k line at in
      record {
        canonical = literal.0;
        ground = literal.1;
        apart = λ clash.
            let old = there clash.0 clash.1 (front_line k clash.0 clash.1 clash.2.0) in
            let sign : old.0.positive ≡ not h.0.positive = sym old.2.positive ∙ (clash.3 ∙ ap not h.2.positive) in
            let there' : Clash old.0.kind old.0.atom h.0.kind h.0.atom =
            subst (λ (z : Kind). Clash old.0.kind old.0.atom z h.0.atom) h.2.kind
            (subst (λ (z : Pattern). Clash old.0.kind old.0.atom line.kind z) h.2.atom (clash_alike clash.1 old.0 line.kind (Of line.literal.atom) old.2 clash.4)) in
            consistent line.at h.0 h.1 (place_in lines clash.0, old.0, old.1, sign, there');
      }
    where
      positive_at : (k : ℕ) (line : EntryLine) → slice_get lines k ≡ Some line → 0 < line.at
      positive_at k line at =
          let first : place_in lines 0 < place_in lines (suc k) = rises 0 (suc k) (entry_of line) (omega arith) (slice_get-map entry_of lines k ∙ ap (option_map entry_of) at) in
          subst (λ z. 0 < z) (place_of_line lines k line at) (omega (arith, first))

      literal_of : (k : ℕ) (line : EntryLine) → slice_get lines k ≡ Some line → IsLiteralEntry (entry_of line)
      literal_of k line at =
          let h = line_entry k line at in
          let first = whole.later line.at h.0 (positive_at k line at) h.1.0 in
          let P : Pattern → Kind → Type 0 = λ p kind. IsAtomWith (λ a. IsTrue (is_canonical a) × (IsTrue (are_ground a.args) → kind ≡ Universal)) p in
          subst (λ (z : Kind). P (Of line.literal.atom) z) (sym h.2.kind) (subst (λ (z : Pattern). P z h.0.kind) (sym h.2.atom) first)

pub printed_shown : (problem : ProblemValue) (context : Context) (positive : Bool) (lines : List EntryLine) → IsContext context → IsConsistent context → ¬ HasProductive problem context
    → StandsAt context 0 (pseudo positive) → AreEntryLinesOf context (length context) lines → IsShownModel problem (start_of positive) lines
printed_shown problem context positive lines whole consistent none first are =
    let listed = listed_from context (length context) lines are in
    record {
      entries = right_entries context whole positive first lines listed consistent;
      none_productive = λ has. none (productive_selected context (context_of (start_of positive) lines) (place_in lines) (selection context whole positive first lines listed) problem has);
    }
