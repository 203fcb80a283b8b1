-- The text of a model is an answer.
use Rattle.std.proofs.Common.{◌≡◌, inl, inr, ◌<◌, ◌≤◌, ◌-◌, ℕ, zero, suc, Bool, true, false, List, [], ◌∷◌, ◌++◌, length, refl, sym, ap, subst, ◌∙◌, append_assoc, arith}
use Rattle.std.proofs.lemmas.List.Elements.{recursion_from_All}
use Rattle.std.proofs.lemmas.Grind.{flat_map-append}
use Rattle.std.proofs.lemmas.List.{append-nil}
use Rattle.std.proofs.lemmas.Option.{slice_get_within}
use Rattle.std.specs.Prelude.{codes, IsTrue}
use Rattle.std.specs.List.{AllByRecursion}
use Rattle.me_terms.specs.Context.{Context, StandsAt, pseudo, IsAtomWith, IsHidden, IsVisible}
use Rattle.me_terms.specs.Known.{IsKnownContext}
use Rattle.me_terms.specs.Labels.{IsFunctionSymbol, IsPredicateSymbol}
use Rattle.me_terms.specs.Sequences.{SequenceValue}
use Rattle.me_terms.specs.Signatures.{is_known_atom}
use Rattle.me_terms.specs.Terms.{AtomValue}
use Rattle.me_terms.specs.Validity.{IsValid}
use Rattle.me_terms.specs.Values.{SignatureValue, EntryValue, ProblemValue}
use Rattle.me_terms.specs.declared.atom.Pattern.{Pattern}
use Rattle.me_terms.specs.declared.atom.Pattern.TheVariants.{Any, Of}
use Rattle.me_terms.specs.declared.bounds.TheConstants.{MAX_ENTRIES}
use Rattle.szs_print.specs.ModelText.{default_line, IsTextAt, shown, hidden, pseudo_literal, IsTextOf, IsModelText}
use Rattle.szs_print.specs.Printable.{IsName}
use Rattle.szs_print.specs.StatusText.{status_line, output_line}
use Rattle.szs_print.specs.SummaryText.{IsShown}
use Rattle.szs_read.specs.Answers.{IsAnswer}
use Rattle.szs_read.specs.Claims.{IsEntryLine, Rises, entry_literals}
use Rattle.szs_read.specs.ClaimText.{entry_line, entry_lines, start_line}
use Rattle.szs_read.specs.Printed.{AreEntryLinesOf, start_of, IsPrintedPattern}
use Rattle.szs_read.specs.Reads.{last_at}
use Rattle.szs_read.specs.declared.claim.EntryLine.{EntryLine}
use Rattle.szs_read.specs.declared.claim.Claim.TheVariants.{Model}
use Rattle.szs_read.proofs.Symbols.{all_both}
use Rattle.szs_read.proofs.Listed.{entry_literals_of, rises_push, last_push}
use Rattle.szs_read.proofs.Printing.{known_grown}

same_entry : (context : Context) (k : ℕ) (e f : EntryValue) → StandsAt context k e → StandsAt context k f → e ≡ f
same_entry context k e f h g = cc

any_is_of : (a : AtomValue) → Any ≡ Of a → ⊥
any_is_of a h = absurd cc

default_is : (context : Context) (b : Bool) → StandsAt context 0 (pseudo b) → default_line context ≡ start_line (start_of b)
default_is [] b h = absurd cc
default_is (e ∷ es) true h = let f : e ≡ pseudo true = cc in rw f refl
default_is (e ∷ es) false h = let f : e ≡ pseudo false = cc in rw f refl

module _ (s : SignatureValue) (context : Context) (known : IsKnownContext s context) (few : length context ≤ MAX_ENTRIES) (fits : (k : ℕ) (e : EntryValue) → StandsAt context k e → IsPrintedPattern e.atom) where
  pub record Made (n : ℕ) (text : List ℕ) : Type 0 where
    pub lines : List EntryLine
    pub are : AreEntryLinesOf context n lines
    pub lawful : AllByRecursion (IsEntryLine s) lines
    pub rises : Rises 0 lines
    pub below : last_at 0 lines ≤ n - 1
    pub same : text ≡ entry_lines s lines

  first_is_shown : (e : EntryValue) (a : AtomValue) → StandsAt context 0 e → e.atom ≡ Of a → ⊥
  first_is_shown e a h is =
      let same = same_entry context 0 (pseudo known.first.0) e known.first.1 h in
      any_is_of a (ap (λ (x : EntryValue). x.atom) same ∙ is)

  one_shown : (n : ℕ) (before : List ℕ) (e : EntryValue) (a : AtomValue) → IsVisible context n e → e.atom ≡ Of a → 0 < n → (m : Made n before) → AllByRecursion (IsEntryLine s) ((record { at = n; literal = record { positive = e.positive; atom = a }; kind = e.kind }) ∷ [])
  one_shown n before e a v is lt m =
      let k = subst (λ (p : Pattern). IsAtomWith (λ x. IsTrue (is_known_atom s x)) p) is (known.later n e lt v.0) in
      let p = subst IsPrintedPattern is (fits n e v.0) in
      (record { at = (omega (arith, lt), omega (arith, few, slice_get_within context n e v.0)); literal = record { known = k; variables = p.0; few_brackets = p.1 } }, tt)

  more_shown : (n : ℕ) (before : List ℕ) (e : EntryValue) (a : AtomValue) (text : List ℕ) → IsVisible context n e → e.atom ≡ Of a → 0 < n → (m : Made n before) → text ≡ before ++ entry_lines s ((record { at = n; literal = record { positive = e.positive; atom = a }; kind = e.kind }) ∷ []) → Made (suc n) text
  more_shown n before e a text v is lt m t =
      let line : EntryLine = record { at = n; literal = record { positive = e.positive; atom = a }; kind = e.kind } in
      record {
        lines = m.lines ++ line ∷ [];
        are = (m.lines, m.are, inl (line, (e, a, v, is, refl), refl));
        lawful = all_both (IsEntryLine s) m.lines (line ∷ []) m.lawful (one_shown n before e a v is lt m);
        rises = rises_push 0 m.lines line m.rises (omega (arith, m.below, lt));
        below = omega (arith, last_push 0 m.lines line);
        same = t ∙ ap (λ (w : List ℕ). w ++ entry_lines s (line ∷ [])) m.same ∙ sym (flat_map-append (λ l. entry_line s l) m.lines (line ∷ []));
      }

  none_more : (n : ℕ) (before text : List ℕ) → (IsShown context n → ⊥) → Made n before → text ≡ before ++ [] → Made (suc n) text
  none_more n before text absent m t = record {
    lines = m.lines;
    are = (m.lines, m.are, inr (absent, refl));
    lawful = m.lawful;
    rises = m.rises;
    below = omega (arith, m.below);
    same = t ∙ append-nil before ∙ m.same;
  }

  step : (n : ℕ) (before line text : List ℕ) → IsTextAt s context n line → Made n before → text ≡ before ++ line → Made (suc n) text
  step zero before line text (shown e a v is) m t = absurd (first_is_shown e a v.0 is)
  step (suc n) before line text (shown e a v is) m t = more_shown (suc n) before e a text v is (omega arith) m (t ∙ ap (λ (w : List ℕ). before ++ w) (sym (append-nil _)))
  step n before line text (hidden e h c) m t =
      none_more n before text (λ x. x.2.1 (subst (IsHidden context n) (same_entry context n e x.0 h x.2.0) c)) m t
  step n before line text (pseudo_literal e h any) m t =
      none_more n before text (λ x. any_is_of x.1 (sym any ∙ ap (λ (y : EntryValue). y.atom) (same_entry context n e x.0 h x.2.0) ∙ x.3)) m t

  pub made : (n : ℕ) (text : List ℕ) → IsTextOf s context n text → Made n text
  made zero text h = record { lines = []; are = refl; lawful = tt; rises = tt; below = omega arith; same = h }
  made (suc n) text h = step n h.0 h.1 text h.3 (made n h.0 h.2) h.4

five : (a b c d e : List ℕ) → (((a ++ b) ++ c) ++ d) ++ e ≡ a ++ (((b ++ c) ++ d) ++ e)
five a b c d e =
    ap (λ (v : List ℕ). (v ++ d) ++ e) (append_assoc a b c)
    ∙ ap (λ (v : List ℕ). v ++ e) (append_assoc a (b ++ c) d)
    ∙ append_assoc a ((b ++ c) ++ d) e

pub printed_model : (name : List ℕ) (problem : ProblemValue) (context : Context) (text : List ℕ) → IsName name → IsValid problem → IsKnownContext problem.signature context → length context ≤ MAX_ENTRIES → ((k : ℕ) (e : EntryValue) → StandsAt context k e → IsPrintedPattern e.atom) → IsModelText name problem.signature context text → (positive : Bool) × (lines : SequenceValue EntryLine) × StandsAt context 0 (pseudo positive) × AreEntryLinesOf context (length context) lines.items × IsAnswer problem.signature text problem.signature (Model (start_of positive) lines)
printed_model name problem context text n v known few fits t =
    let s : SignatureValue = problem.signature in
    let m = made s context known few fits (length context) t.0 t.1 in
    let status : List ℕ = status_line (codes "Satisfiable") name in
    let first : List ℕ = output_line (codes "start Model") name in
    let last : List ℕ = output_line (codes "end Model") name in (
      known.first.0,
      record { items = m.lines; spare = 0 },
      known.first.1,
      m.are,
      record {
        name = name;
        named = n;
        text =
            t.2
            ∙ ap (λ (w : List ℕ). (((status ++ first) ++ w) ++ t.0) ++ last) (default_is context known.first.0 known.first.1)
            ∙ ap (λ (w : List ℕ). (((status ++ first) ++ start_line (start_of known.first.0)) ++ w) ++ last) m.same
            ∙ five status first (start_line (start_of known.first.0)) (entry_lines s m.lines) last;
        lawful = (m.lawful, m.rises);
        grown = known_grown s (entry_literals m.lines) (entry_literals_of s m.lines m.lawful) (recursion_from_All IsFunctionSymbol s.functions v.functions) (recursion_from_All IsPredicateSymbol s.predicates v.predicates);
      },
    )
