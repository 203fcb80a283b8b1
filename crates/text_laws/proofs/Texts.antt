-- An answer has one text and one summary.
use Rattle.std.proofs.Common.{◌≡◌, ℕ, zero, suc, ◌++◌, ◌⊎◌, inl, inr, List, refl, sym, ap, subst, length, ◌∙◌}
use Rattle.std.specs.Prelude.{codes}
use Rattle.std.proofs.lemmas.Option.{same_Some}
use Rattle.me_terms.specs.Terms.{AtomValue}
use Rattle.me_terms.specs.Values.{SignatureValue, EntryValue, InstanceValue, ProblemValue}
use Rattle.me_terms.specs.Context.{Context, StandsAt, IsHidden, IsVisible}
use Rattle.me_terms.specs.AnswerViews.{answer_value}
use Rattle.me_terms.specs.declared.answer.Answer.{Answer}
use Rattle.me_terms.specs.declared.answer.Answer.TheVariants.{Unsatisfiable, Satisfiable, GaveUp}
use Rattle.me_terms.specs.declared.atom.Pattern.TheVariants.{Any, Of}
use Rattle.me_terms.specs.declared.bounds.Bound.{Bound}
use Rattle.szs_print.specs.AnswerText.{IsAnswerText, gave_up_text}
use Rattle.szs_print.specs.ModelText.{IsTextAt, shown, hidden, pseudo_literal, IsTextOf, IsModelText, literal_line, default_line}
use Rattle.szs_print.specs.RefutationText.{refutation_text}
use Rattle.szs_print.specs.StatusText.{status_line, output_line}
use Rattle.szs_print.specs.SummaryText.{IsShown, IsShownCount, size_lines, IsSummary}

-- ---- the text of a model

same_entry : (context : Context) (k : ℕ) (e f : EntryValue) → StandsAt context k e → StandsAt context k f → e ≡ f
same_entry context k e f at there = same_Some e f (sym at ∙ there)

same_atom : (e f : EntryValue) (a b : AtomValue) → e ≡ f → e.atom ≡ Of a → f.atom ≡ Of b → a ≡ b
same_atom e f a b same is other = of_same (sym is ∙ ap (λ (x : EntryValue). x.atom) same ∙ other)
  where
    of_same : Of a ≡ Of b → a ≡ b
    of_same h = cc

no_literal : (e f : EntryValue) (a : AtomValue) → e ≡ f → e.atom ≡ Of a → f.atom ≡ Any → ⊥
no_literal e f a same is other = apart (sym is ∙ ap (λ (x : EntryValue). x.atom) same ∙ other)
  where
    apart : Of a ≡ Any → ⊥
    apart h = cc

not_hidden : (context : Context) (k : ℕ) (e f : EntryValue) → IsVisible context k e → StandsAt context k f → IsHidden context k f → ⊥
not_hidden context k e f visible at hides = visible.1 (subst (λ (x : EntryValue). IsHidden context k x) (same_entry context k f e at visible.0) hides)

text_at_once : {signature : SignatureValue} {context : Context} {k : ℕ} {text same : List ℕ} → IsTextAt signature context k text → IsTextAt signature context k same → text ≡ same
text_at_once {signature = signature} {context = context} {k = k} (shown e a visible is) (shown f b seen other) =
    let entry = same_entry context k e f visible.0 seen.0 in
    let atom = same_atom e f a b entry is other in
    λ i. literal_line signature k (entry i).positive (atom i) (entry i).kind
text_at_once {context = context} {k = k} (shown e a visible is) (hidden f at hides) = absurd (not_hidden context k e f visible at hides)
text_at_once {context = context} {k = k} (hidden e at hides) (shown f b seen other) = absurd (not_hidden context k f e seen at hides)
text_at_once {context = context} {k = k} (shown e a visible is) (pseudo_literal f at any) = absurd (no_literal e f a (same_entry context k e f visible.0 at) is any)
text_at_once {context = context} {k = k} (pseudo_literal e at any) (shown f b seen other) = absurd (no_literal f e b (same_entry context k f e seen.0 at) other any)
text_at_once (hidden e at hides) (hidden f there covers) = refl
text_at_once (hidden e at hides) (pseudo_literal f there any) = refl
text_at_once (pseudo_literal e at any) (hidden f there covers) = refl
text_at_once (pseudo_literal e at any) (pseudo_literal f there other) = refl

text_of_once : (signature : SignatureValue) (context : Context) (n : ℕ) (text same : List ℕ) → IsTextOf signature context n text → IsTextOf signature context n same → text ≡ same
text_of_once signature context zero text same none other = none ∙ sym other
text_of_once signature context (suc n) text same h g =
    let before = text_of_once signature context n h.0 g.0 h.2 g.2 in
    let line = text_at_once h.3 g.3 in
    h.4 ∙ (λ i. before i ++ line i) ∙ sym g.4

model_text_once : (name : List ℕ) (signature : SignatureValue) (context : Context) (text same : List ℕ) → IsModelText name signature context text → IsModelText name signature context same → text ≡ same
model_text_once name signature context text same h g =
    let literals = text_of_once signature context (length context) h.0 g.0 h.1 g.1 in
    h.2 ∙ (λ i. status_line (codes "Satisfiable") name ++ output_line (codes "start Model") name ++ default_line context ++ literals i ++ output_line (codes "end Model") name) ∙ sym g.2

-- ---- the number of its lines

one_count : (P : Type 0) (before other count same : ℕ) → before ≡ other → (P × (count ≡ suc before)) ⊎ ((P → ⊥) × (count ≡ before)) → (P × (same ≡ suc other)) ⊎ ((P → ⊥) × (same ≡ other)) → count ≡ same
one_count P before other count same e (inl a) (inl b) = a.1 ∙ ap (λ (k : ℕ). suc k) e ∙ sym b.1
one_count P before other count same e (inl a) (inr b) = absurd (b.0 a.0)
one_count P before other count same e (inr a) (inl b) = absurd (a.0 b.0)
one_count P before other count same e (inr a) (inr b) = a.1 ∙ e ∙ sym b.1

count_once : (context : Context) (n count same : ℕ) → IsShownCount context n count → IsShownCount context n same → count ≡ same
count_once context zero count same none other = none ∙ sym other
count_once context (suc n) count same h g = one_count (IsShown context n) h.0 g.0 count same (count_once context n h.0 g.0 h.1 g.1) h.2 g.2

-- ---- the texts of an answer

pub answer_text_once : (name : List ℕ) (problem : ProblemValue) (answer other : Answer) (text same : List ℕ) → answer_value answer ≡ answer_value other
    → IsAnswerText name problem answer text → IsAnswerText name problem other same → text ≡ same
answer_text_once name problem (Unsatisfiable list) (Unsatisfiable others) text same e h g =
    let items : list.items ≡ others.items = cc in
    h ∙ ap (refutation_text name problem) items ∙ sym g
answer_text_once name problem (Satisfiable context) (Satisfiable others) text same e h g =
    let items : context.items ≡ others.items = cc in
    model_text_once name problem.signature others.items text same (subst (λ (x : Context). IsModelText name problem.signature x text) items h) g
answer_text_once name problem (GaveUp b) (GaveUp d) text same e h g =
    let bound : b ≡ d = cc in
    h ∙ ap (gave_up_text name) bound ∙ sym g
answer_text_once name problem answer other text same e h g = absurd cc

pub summary_once : (name : List ℕ) (problem : ProblemValue) (answer other : Answer) (text same : List ℕ) → answer_value answer ≡ answer_value other
    → IsSummary name problem answer text → IsSummary name problem other same → text ≡ same
summary_once name problem (Unsatisfiable list) (Unsatisfiable others) text same e h g =
    let items : list.items ≡ others.items = cc in
    h ∙ ap (λ (x : List InstanceValue). status_line (codes "Unsatisfiable") name ++ size_lines (length problem.clauses) (length x)) items ∙ sym g
summary_once name problem (Satisfiable context) (Satisfiable others) text same e h g =
    let items : context.items ≡ others.items = cc in
    let counts = subst (λ (x : Context). IsShownCount x (length x) h.0) items h.1 in
    h.2 ∙ ap (λ (n : ℕ). status_line (codes "Satisfiable") name ++ size_lines (length problem.clauses) n) (count_once others.items (length others.items) h.0 g.0 counts g.1) ∙ sym g.2
summary_once name problem (GaveUp b) (GaveUp d) text same e h g =
    let bound : b ≡ d = cc in
    h ∙ ap (λ (x : Bound). gave_up_text name x ++ size_lines (length problem.clauses) 0) bound ∙ sym g
summary_once name problem answer other text same e h g = absurd cc
