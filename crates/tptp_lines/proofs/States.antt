-- Where the grammar's machine stands in a formula, from its first token to its full stop.
use Rattle.std.proofs.Common.{◌≡◌, ℕ, zero, suc, Bool, true, false, cond, List, [], ◌∷◌, ◌++◌, Option, Some, None, refl, sym, ap, subst, ◌∙◌}
use Rattle.tptp_grammar.specs.Terminals.{Terminal, LowerWord, SingleQuoted, Variable, Distinct, DollarWord, Digits, OpenRound, CloseRound, OpenSquare, CloseSquare, Comma, Dot, Bar, Tilde, Bad, is_role}
use Rattle.tptp_grammar.specs.Machine.{State, Between, Begun, Opened, Labelled, LabelEnd, Roled, FormulaStart, LiteralStart, Negated, AtomStart, ArgumentStart, Named, Done, LiteralEnd, FormulaEnd, NotesStart, Notes, Closed, is_truth, after_bracket, step_atom, step_argument, step_literal_end, step_formula_end, step_done, step_named, step_notes, step_notes_start, step_label_end, step_literal_start, step_formula_start, step_negated, step, run_on, part_at, literal_part, formula_part, negated_part, done_part, named_part}
use Rattle.tptp_grammar.specs.declared.part.Part.{Part}
use Rattle.tptp_grammar.specs.declared.part.Part.TheVariants as part

-- behind the name of a formula, and before its end
abbrev pub IsLate : State → Type 0
IsLate Between = ⊥
IsLate Begun = ⊥
IsLate Opened = ⊥
IsLate s = Unit {0}

abbrev LateNext : Option State → Type 0
LateNext None = Unit {0}
LateNext (Some u) = IsLate u

bracket_late : (k : ℕ) → IsLate (after_bracket k)
bracket_late zero = tt
bracket_late (suc k) = tt

chosen_late : (c : Bool) (u : State) → IsLate u → LateNext (cond c (Some u) None)
chosen_late true u h = h
chosen_late false u h = tt

literal_end_late : (k : ℕ) (t : Terminal) → LateNext (step_literal_end k t)
literal_end_late k Bar = tt
literal_end_late k CloseRound = bracket_late k
literal_end_late zero Comma = tt
literal_end_late (suc k) Comma = tt
literal_end_late k t = tt

formula_end_late : (k : ℕ) (t : Terminal) → LateNext (step_formula_end k t)
formula_end_late k CloseRound = bracket_late k
formula_end_late zero Comma = tt
formula_end_late (suc k) Comma = tt
formula_end_late k t = tt

done_late : (ms : List ℕ) (b : Bool) (k : ℕ) (t : Terminal) → LateNext (step_done ms b k t)
done_late (m ∷ ms) b k Comma = tt
done_late (m ∷ ms) b k CloseRound = tt
done_late (m ∷ ms) b k t = tt
done_late [] true k CloseRound = tt
done_late [] true k t = tt
done_late [] false k t = literal_end_late k t

named_late : (ms : List ℕ) (b : Bool) (k : ℕ) (t : Terminal) → LateNext (step_named ms b k t)
named_late ms b k OpenRound = tt
named_late ms b k t = done_late ms b k t

argument_late : (ms : List ℕ) (b : Bool) (k : ℕ) (t : Terminal) → LateNext (step_argument ms b k t)
argument_late ms b k (LowerWord text) = tt
argument_late ms b k (SingleQuoted text) = tt
argument_late ms b k (Variable text) = tt
argument_late ms b k (Distinct text) = tt
argument_late ms b k t = tt

atom_late : (b : Bool) (k : ℕ) (t : Terminal) → LateNext (step_atom b k t)
atom_late b k (LowerWord text) = tt
atom_late b k (SingleQuoted text) = tt
atom_late b k (DollarWord text) = chosen_late (is_truth text) (Done [] b k) tt
atom_late b k t = tt

literal_late : (k : ℕ) (t : Terminal) → LateNext (step_literal_start k t)
literal_late k Tilde = tt
literal_late k t = atom_late false k t

formula_late : (k : ℕ) (t : Terminal) → LateNext (step_formula_start k t)
formula_late k OpenRound = tt
formula_late k t = literal_late k t

negated_late : (k : ℕ) (t : Terminal) → LateNext (step_negated k t)
negated_late k OpenRound = tt
negated_late k t = atom_late false k t

notes_late : (bs : List Bool) (t : Terminal) → LateNext (step_notes bs t)
notes_late bs OpenRound = tt
notes_late bs OpenSquare = tt
notes_late [] CloseRound = tt
notes_late (true ∷ bs) CloseRound = tt
notes_late (false ∷ bs) CloseRound = tt
notes_late [] CloseSquare = tt
notes_late (true ∷ bs) CloseSquare = tt
notes_late (false ∷ bs) CloseSquare = tt
notes_late bs Dot = tt
notes_late bs Bad = tt
notes_late bs t = tt

notes_start_late : (t : Terminal) → LateNext (step_notes_start t)
notes_start_late CloseRound = tt
notes_start_late t = notes_late [] t

labelled_late : (t : Terminal) → LateNext (step Labelled t)
labelled_late Comma = tt
labelled_late t = tt

label_end_late : (t : Terminal) → LateNext (step_label_end t)
label_end_late (LowerWord text) = chosen_late (is_role text) Roled tt
label_end_late t = tt

roled_late : (t : Terminal) → LateNext (step Roled t)
roled_late Comma = tt
roled_late t = tt

-- behind a state before the full stop
late_step : (s : State) (t : Terminal) → IsLate s → (s ≡ Closed → ⊥) → LateNext (step s t)
late_step Between t h n = absurd h
late_step Begun t h n = absurd h
late_step Opened t h n = absurd h
late_step Labelled t h n = labelled_late t
late_step LabelEnd t h n = label_end_late t
late_step Roled t h n = roled_late t
late_step (FormulaStart k) t h n = formula_late k t
late_step (LiteralStart k) t h n = literal_late k t
late_step (Negated k) t h n = negated_late k t
late_step (AtomStart k) t h n = atom_late true k t
late_step (ArgumentStart m ms b k) t h n = argument_late (m ∷ ms) b k t
late_step (Named ms b k) t h n = named_late ms b k t
late_step (Done ms b k) t h n = done_late ms b k t
late_step (LiteralEnd k) t h n = literal_end_late k t
late_step (FormulaEnd k) t h n = formula_end_late k t
late_step NotesStart t h n = notes_start_late t
late_step (Notes bs) t h n = notes_late bs t
late_step Closed t h n = absurd (n refl)

pub late : (s u : State) (t : Terminal) → IsLate s → (s ≡ Closed → ⊥) → step s t ≡ Some u → IsLate u
late s u t h n e = subst LateNext e (late_step s t h n)

-- ---- the steps before that

pub begins : (t : Terminal) (u : State) → step Between t ≡ Some u → u ≡ Begun
begins (LowerWord text) u e = by _ u e
  where
    by : (c : Bool) (u : State) → cond c (Some Begun) None ≡ Some u → u ≡ Begun
    by true u e = cc
    by false u e = absurd cc
begins t u e = absurd cc

pub opens : (t : Terminal) (u : State) → step Begun t ≡ Some u → u ≡ Opened
opens OpenRound u e = cc
opens t u e = absurd cc

pub labels : (t : Terminal) (u : State) → step Opened t ≡ Some u → u ≡ Labelled
labels (LowerWord text) u e = cc
labels (SingleQuoted text) u e = cc
labels (Digits text) u e = cc
labels t u e = absurd cc

pub closes : (t : Terminal) (u : State) → step Closed t ≡ Some u → u ≡ Between
closes Dot u e = cc
closes t u e = absurd cc

-- ---- the parts of a formula

-- neither the first token, nor the label, nor the last
abbrev pub IsInner : Part → Type 0
IsInner part.Formula = ⊥
IsInner part.Label = ⊥
IsInner part.End = ⊥
IsInner p = Unit {0}

literal_inner : (t : Terminal) → IsInner (literal_part t)
literal_inner Tilde = tt
literal_inner t = tt

formula_inner : (t : Terminal) → IsInner (formula_part t)
formula_inner OpenRound = tt
formula_inner t = literal_inner t

negated_inner : (t : Terminal) → IsInner (negated_part t)
negated_inner OpenRound = tt
negated_inner t = tt

done_inner : (ns : List ℕ) (t : Terminal) → IsInner (done_part ns t)
done_inner (n ∷ ns) CloseRound = tt
done_inner (n ∷ ns) t = tt
done_inner [] t = tt

named_inner : (ns : List ℕ) (t : Terminal) → IsInner (named_part ns t)
named_inner ns OpenRound = tt
named_inner ns t = done_inner ns t

pub inner : (s : State) (t : Terminal) → IsLate s → (s ≡ Closed → ⊥) → IsInner (part_at s t)
inner Between t h n = absurd h
inner Begun t h n = absurd h
inner Opened t h n = absurd h
inner (FormulaStart k) t h n = formula_inner t
inner (LiteralStart k) t h n = literal_inner t
inner (Negated k) t h n = negated_inner t
inner (Named ns b k) t h n = named_inner ns t
inner (Done ns b k) t h n = done_inner ns t
inner Closed t h n = absurd (n refl)
inner s t h n = tt

-- ---- runs that do not end

-- the machine runs over the tokens, and stands between two formulas behind the last one at most
abbrev pub line_run : Option State → List Terminal → Option State
line_run None ts = None
line_run (Some s) [] = Some s
line_run (Some Between) (t ∷ ts) = None
line_run (Some s) (t ∷ ts) = line_run (step s t) ts

abbrev pub IsLineRun : List Terminal → State → Type 0
IsLineRun [] s = s ≡ Between
IsLineRun (t ∷ ts) s = (step Between t ≡ Some Begun) × (line_run (Some Begun) ts ≡ Some s)

is_between : (s : State) → (s ≡ Between) → {A : Type 0} → (s ≡ Between → ⊥) → A
is_between s e {A} n = absurd (n e)

-- a step of the run
one_step : (s : State) (t : Terminal) (ts : List Terminal) → (s ≡ Between → ⊥) → line_run (Some s) (t ∷ ts) ≡ line_run (step s t) ts
one_step Between t ts n = absurd (n refl)
one_step s t ts n = refl

run_none : (o : Option State) → line_run o [] ≡ o
run_none None = refl
run_none (Some s) = refl

line_more : (o : Option State) (ts : List Terminal) (t : Terminal) (s : State) → line_run o ts ≡ Some s → (s ≡ Between → ⊥) → line_run o (ts ++ t ∷ []) ≡ step s t
line_more None ts t s e n = absurd cc
line_more (Some r) [] t s e n =
    let same : r ≡ s = cc in
    ap (λ (x : State). line_run (Some x) (t ∷ [])) same ∙ one_step s t [] n ∙ run_none (step s t)
line_more (Some Between) (x ∷ ts) t s e n = absurd cc
line_more (Some r) (x ∷ ts) t s e n = line_more (step r x) ts t s e n

pub line_on : (ts : List Terminal) (t : Terminal) (s u : State) → IsLineRun ts s → (s ≡ Between → ts ≡ []) → step s t ≡ Some u → IsLineRun (ts ++ t ∷ []) u
line_on [] t s u h n e =
    let from : step Between t ≡ Some u = ap (λ (x : State). step x t) (sym h) ∙ e in
    let b = begins t u from in
    (subst (λ (x : State). step Between t ≡ Some x) b from, ap (λ (x : State). Some x) (sym b))
line_on (x ∷ ts) t s u h n e = (h.0, line_more (Some Begun) ts t s h.1 (λ b. no_nil (n b)) ∙ e)
  where
    no_nil : x ∷ ts ≡ [] → ⊥
    no_nil e = cc

runs_on : (o : Option State) (ts : List Terminal) (s : State) → line_run o ts ≡ Some s → run_on o ts ≡ Some s
runs_on None ts s e = absurd cc
runs_on (Some r) [] s e = e
runs_on (Some Between) (t ∷ ts) s e = absurd cc
runs_on (Some r) (t ∷ ts) s e = runs_on (step r t) ts s e

pub run_of_line : (ts : List Terminal) (s : State) → IsLineRun ts s → run_on (Some Between) ts ≡ Some s
run_of_line [] s h = ap (λ (x : State). Some x) (sym h)
run_of_line (t ∷ ts) s h = ap (λ (o : Option State). run_on o ts) h.0 ∙ runs_on (Some Begun) ts s h.1

no_stop : (o : Option State) (ts : List Terminal) (t : Terminal) (us : List Terminal) (s : State) → line_run o (ts ++ t ∷ us) ≡ Some s → run_on o ts ≡ Some Between → ⊥
no_stop None ts t us s e r = cc
no_stop (Some Between) [] t us s e r = cc
no_stop (Some q) [] t us s e r = let same : q ≡ Between = cc in stops q same e
  where
    stops : (q : State) → q ≡ Between → line_run (Some q) (t ∷ us) ≡ Some s → ⊥
    stops q k e = let z : line_run (Some Between) (t ∷ us) ≡ Some s = subst (λ (x : State). line_run (Some x) (t ∷ us) ≡ Some s) k e in cc
no_stop (Some Between) (x ∷ ts) t us s e r = cc
no_stop (Some q) (x ∷ ts) t us s e r = no_stop (step q x) ts t us s e r

-- the run has not ended before its last token
pub not_before : (t : Terminal) (ts : List Terminal) (u : Terminal) (us : List Terminal) (s : State) → IsLineRun ((t ∷ ts) ++ u ∷ us) s → run_on (Some Between) (t ∷ ts) ≡ Some Between → ⊥
not_before t ts u us s h r = no_stop (Some Begun) ts u us s h.1 (sym (ap (λ (o : Option State). run_on o ts) h.0) ∙ r)
