-- What the machine counts is what stands in the tokens so far.
use Rattle.tptp_grammar.specs.declared.limits.TheConstants.{MAX_FORMULAS, MAX_LITERALS, MAX_VARIABLES, MAX_BRACKETS}
use Rattle.std.proofs.Common.{◌≡◌, ℕ, zero, suc, ◌+◌, Bool, true, false, cond, List, [], ◌∷◌, ◌++◌, length, Option, Some, None, refl, sym, ap, subst, ◌∙◌, arith}
use Rattle.std.specs.Prelude.{◌&&◌, nat_le, nat_lt}
use Rattle.std.specs.List.{count_by}
use Rattle.std.proofs.lemmas.List.Sums.{sum_by_push}
use Rattle.tptp_grammar.specs.Terminals.{Terminal, LowerWord, SingleQuoted, Variable, Distinct, DollarWord, Digits, OpenRound, CloseRound, OpenSquare, CloseSquare, Comma, Dot, Bar, Tilde, Bad, is_role}
use Rattle.tptp_grammar.specs.Printed.{Printed}
use Rattle.tptp_grammar.specs.declared.part.Part.{Part}
use Rattle.tptp_grammar.specs.Limits.{begins_formula, begins_literal, opens, closes, variable_as, with_variables, formulas_in, open_in, of_formula, literals_in, variables_met, variables_in, passes}
use Rattle.tptp_grammar.specs.Machine.{State, Between, Begun, Opened, Labelled, LabelEnd, Roled, FormulaStart, LiteralStart, Negated, AtomStart, ArgumentStart, Named, Done, LiteralEnd, FormulaEnd, NotesStart, Notes, Closed, after_bracket, step, step_atom, step_argument, step_done, step_named, step_literal_end, step_formula_end, step_notes, step_notes_start, step_between, step_label_end, step_literal_start, step_formula_start, step_negated, part_at, open_if, open_brackets, is_truth}
use Rattle.tptp_grammar.specs.Readings.{Tally, Reading, counted, passes_at}
use Rattle.tptp_grammar.specs.declared.refusal.Which.{Which}
use Rattle.tptp_grammar.specs.declared.refusal.Which.TheVariants.{Clauses, Literals, Arguments, Variables, Nesting}

-- ---- brackets

-- A token that opens a bracket adds one, and one that closes takes one away.
abbrev Balanced : ℕ → Terminal → Option State → Type 0
Balanced n t None = Unit {0}
Balanced n t (Some u) = open_brackets u + open_if (closes t) ≡ n + open_if (opens t)

closed_balanced : (k : ℕ) → open_brackets (after_bracket k) + 1 ≡ suc k + 0
closed_balanced zero = refl
closed_balanced (suc k) = omega arith

literal_end_balanced : (k : ℕ) (t : Terminal) → Balanced (suc k) t (step_literal_end k t)
literal_end_balanced k Bar = refl
literal_end_balanced k CloseRound = closed_balanced k
literal_end_balanced zero Comma = refl
literal_end_balanced (suc k) Comma = tt
literal_end_balanced k t = tt

formula_end_balanced : (k : ℕ) (t : Terminal) → Balanced (suc k) t (step_formula_end k t)
formula_end_balanced k CloseRound = closed_balanced k
formula_end_balanced zero Comma = refl
formula_end_balanced (suc k) Comma = tt
formula_end_balanced k t = tt

abbrev places : List ℕ → Bool → ℕ → ℕ
places ns b k = length ns + open_if b + suc k

chosen_balanced : (c : Bool) (n : ℕ) (t : Terminal) (u : State) → Balanced n t (Some u) → Balanced n t (cond c (Some u) None)
chosen_balanced true n t u h = h
chosen_balanced false n t u h = tt

done_balanced : (ns : List ℕ) (b : Bool) (k : ℕ) (t : Terminal) → Balanced (places ns b k) t (step_done ns b k t)
done_balanced (n ∷ ns) b k Comma = omega arith
done_balanced (n ∷ ns) b k CloseRound = omega arith
done_balanced (n ∷ ns) b k t = tt
done_balanced [] true k CloseRound = omega arith
done_balanced [] true k t = tt
done_balanced [] false k Bar = omega arith
done_balanced [] false k CloseRound = let e = closed_balanced k in omega arith
done_balanced [] false zero Comma = refl
done_balanced [] false (suc k) Comma = tt
done_balanced [] false k t = tt

named_balanced : (ns : List ℕ) (b : Bool) (k : ℕ) (t : Terminal) → Balanced (places ns b k) t (step_named ns b k t)
named_balanced ns b k OpenRound = omega arith
named_balanced ns b k t = done_balanced ns b k t

argument_balanced : (n : ℕ) (ns : List ℕ) (b : Bool) (k : ℕ) (t : Terminal) → Balanced (suc (length ns) + open_if b + suc k) t (step_argument (n ∷ ns) b k t)
argument_balanced n ns b k (LowerWord text) = omega arith
argument_balanced n ns b k (SingleQuoted text) = omega arith
argument_balanced n ns b k (Variable text) = omega arith
argument_balanced n ns b k (Distinct text) = omega arith
argument_balanced n ns b k t = tt

atom_balanced : (b : Bool) (k m : ℕ) (t : Terminal) → m ≡ open_if b + suc k → Balanced m t (step_atom b k t)
atom_balanced b k m (LowerWord text) e = omega arith
atom_balanced b k m (SingleQuoted text) e = omega arith
atom_balanced b k m (DollarWord text) e = chosen_balanced (is_truth text) m (DollarWord text) (Done [] b k) (omega arith)
atom_balanced b k m t e = tt

literal_balanced : (k : ℕ) (t : Terminal) → Balanced (suc k) t (step_literal_start k t)
literal_balanced k Tilde = refl
literal_balanced k t = atom_balanced false k (suc k) t (omega arith)

formula_balanced : (k : ℕ) (t : Terminal) → Balanced (suc k) t (step_formula_start k t)
formula_balanced k OpenRound = omega arith
formula_balanced k t = literal_balanced k t

negated_balanced : (k : ℕ) (t : Terminal) → Balanced (suc k) t (step_negated k t)
negated_balanced k OpenRound = omega arith
negated_balanced k t = atom_balanced false k (suc k) t (omega arith)

notes_balanced : (bs : List Bool) (t : Terminal) → Balanced (suc (length bs)) t (step_notes bs t)
notes_balanced bs OpenRound = omega arith
notes_balanced bs OpenSquare = omega arith
notes_balanced [] CloseRound = refl
notes_balanced (true ∷ bs) CloseRound = omega arith
notes_balanced (false ∷ bs) CloseRound = tt
notes_balanced [] CloseSquare = tt
notes_balanced (true ∷ bs) CloseSquare = tt
notes_balanced (false ∷ bs) CloseSquare = omega arith
notes_balanced bs Dot = tt
notes_balanced bs Bad = tt
notes_balanced bs t = refl

notes_start_balanced : (t : Terminal) → Balanced 1 t (step_notes_start t)
notes_start_balanced CloseRound = tt
notes_start_balanced t = notes_balanced [] t

between_balanced : (t : Terminal) → Balanced 0 t (step_between t)
between_balanced (LowerWord text) = chosen_balanced _ 0 (LowerWord text) Begun refl
between_balanced t = tt

begun_balanced : (t : Terminal) → Balanced 0 t (step Begun t)
begun_balanced OpenRound = refl
begun_balanced t = tt

opened_balanced : (t : Terminal) → Balanced 1 t (step Opened t)
opened_balanced (LowerWord text) = refl
opened_balanced (SingleQuoted text) = refl
opened_balanced (Digits text) = refl
opened_balanced t = tt

labelled_balanced : (t : Terminal) → Balanced 1 t (step Labelled t)
labelled_balanced Comma = refl
labelled_balanced t = tt

label_end_balanced : (t : Terminal) → Balanced 1 t (step_label_end t)
label_end_balanced (LowerWord text) = chosen_balanced (is_role text) 1 (LowerWord text) Roled refl
label_end_balanced t = tt

roled_balanced : (t : Terminal) → Balanced 1 t (step Roled t)
roled_balanced Comma = refl
roled_balanced t = tt

line_balanced : (t : Terminal) → Balanced 0 t (step Closed t)
line_balanced Dot = refl
line_balanced t = tt

balanced : (s : State) (t : Terminal) → Balanced (open_brackets s) t (step s t)
balanced Between t = between_balanced t
balanced Begun t = begun_balanced t
balanced Opened t = opened_balanced t
balanced Labelled t = labelled_balanced t
balanced LabelEnd t = label_end_balanced t
balanced Roled t = roled_balanced t
balanced (FormulaStart k) t = formula_balanced k t
balanced (LiteralStart k) t = literal_balanced k t
balanced (Negated k) t = negated_balanced k t
balanced (AtomStart k) t = atom_balanced true k (suc (suc k)) t (omega arith)
balanced (ArgumentStart n ns b k) t = argument_balanced n ns b k t
balanced (Named ns b k) t = named_balanced ns b k t
balanced (Done ns b k) t = done_balanced ns b k t
balanced (LiteralEnd k) t = literal_end_balanced k t
balanced (FormulaEnd k) t = formula_end_balanced k t
balanced NotesStart t = notes_start_balanced t
balanced (Notes bs) t = notes_balanced bs t
balanced Closed t = line_balanced t

-- ---- counts

bit_is : (b : Bool) → cond b 1 0 ≡ open_if b
bit_is true = refl
bit_is false = refl

count_on : (q : Printed → Bool) (xs : List Printed) (p : Printed) → count_by q (xs ++ p ∷ []) ≡ count_by q xs + open_if (q p)
count_on q xs p = sum_by_push (λ (x : Printed). cond (q x) 1 0) xs p ∙ ap (λ (n : ℕ). count_by q xs + n) (bit_is (q p))

by_first : (b c : Bool) (xs ys zs ws : List Printed) (p : Printed) → xs ≡ cond c [] (zs ++ p ∷ []) → ys ≡ cond c [] (ws ++ p ∷ []) → cond b xs ys ≡ cond c [] (cond b zs ws ++ p ∷ [])
by_first true c xs ys zs ws p e f = e
by_first false c xs ys zs ws p e f = f

pub of_formula_on : (acc xs : List Printed) (p : Printed) → of_formula acc (xs ++ p ∷ []) ≡ cond (begins_formula p.part) [] (of_formula acc xs ++ p ∷ [])
of_formula_on acc [] p = refl
of_formula_on acc (x ∷ xs) p =
    by_first (begins_formula x.part) (begins_formula p.part) (of_formula [] (xs ++ p ∷ [])) (of_formula (acc ++ x ∷ []) (xs ++ p ∷ [])) (of_formula [] xs) (of_formula (acc ++ x ∷ []) xs) p
    (of_formula_on [] xs p) (of_formula_on (acc ++ x ∷ []) xs p)

pub variables_on : (known : List (List ℕ)) (xs : List Printed) (p : Printed) → variables_met known (xs ++ p ∷ []) ≡ with_variables (variables_met known xs) (variable_as p.part p.terminal)
variables_on known [] p = refl
variables_on known (x ∷ xs) p = variables_on (with_variables known (variable_as x.part x.terminal)) xs p

-- the machine has counted these tokens
pub record Counted (before : List Printed) (r : Reading) : Type 0 where
  pub formulas : r.tally.formulas ≡ formulas_in before
  pub literals : r.tally.literals ≡ literals_in before
  pub variables : r.tally.variables ≡ variables_in before
  pub brackets : count_by (λ p. opens p.terminal) before ≡ count_by (λ p. closes p.terminal) before + open_brackets r.state

abbrev pub behind : Reading → State → Printed → Reading
behind r u p = record { state = u; tally = counted p.part p.terminal r.tally }

literals_by : (b : Bool) (part : Part) (t : Terminal) (tally : Tally) (n : ℕ) (xs : List Printed) (p : Printed) → p.part ≡ part → begins_formula part ≡ b → tally.literals ≡ count_by (λ q. begins_literal q.part) xs
    → (counted part t tally).literals ≡ count_by (λ q. begins_literal q.part) (cond b [] (xs ++ p ∷ []))
literals_by true part t tally n xs p same e h = rw e refl
literals_by false part t tally n xs p same e h = rw e (let k = count_on (λ q. begins_literal q.part) xs p in let j : open_if (begins_literal p.part) ≡ open_if (begins_literal part) = ap (λ (x : Part). open_if (begins_literal x)) same in omega arith)

variables_by : (b : Bool) (part : Part) (t : Terminal) (tally : Tally) (xs : List Printed) (p : Printed) → p.part ≡ part → p.terminal ≡ t → begins_formula part ≡ b → tally.variables ≡ variables_met [] xs
    → (counted part t tally).variables ≡ variables_met [] (cond b [] (xs ++ p ∷ []))
variables_by true part t tally xs p same text e h = rw e refl
variables_by false part t tally xs p same text e h =
    rw e (ap (λ (x : List (List ℕ)). with_variables x (variable_as part t)) h
    ∙ ap (λ (x : Part). with_variables (variables_met [] xs) (variable_as x t)) (sym same)
    ∙ ap (λ (x : Terminal). with_variables (variables_met [] xs) (variable_as p.part x)) (sym text)
    ∙ sym (variables_on [] xs p))

formulas_by : (b : Bool) (part : Part) (t : Terminal) (tally : Tally) → begins_formula part ≡ b → (counted part t tally).formulas ≡ tally.formulas + open_if b
formulas_by true part t tally e = rw e (omega arith)
formulas_by false part t tally e = rw e (omega arith)

one_more_bracket : (s : State) (t : Terminal) (u : State) → step s t ≡ Some u → open_brackets u + open_if (closes t) ≡ open_brackets s + open_if (opens t)
one_more_bracket s t u e = subst (Balanced (open_brackets s) t) e (balanced s t)

pub counted_on : (before : List Printed) (r : Reading) (p : Printed) (u : State) → Counted before r → step r.state p.terminal ≡ Some u → Counted (before ++ p ∷ []) (behind r u p)
counted_on before r p u h goes =
    let split = of_formula_on [] before p in
    record {
      formulas = let k = formulas_by (begins_formula p.part) p.part p.terminal r.tally refl in let j = count_on (λ q. begins_formula q.part) before p in let i = h.formulas in omega arith;
      literals = literals_by (begins_formula p.part) p.part p.terminal r.tally 0 (of_formula [] before) p refl refl h.literals ∙ ap (count_by (λ q. begins_literal q.part)) (sym split);
      variables = variables_by (begins_formula p.part) p.part p.terminal r.tally (of_formula [] before) p refl refl refl h.variables ∙ ap (variables_met []) (sym split);
      brackets = let k = one_more_bracket r.state p.terminal u goes in let j = count_on (λ q. opens q.terminal) before p in let i = count_on (λ q. closes q.terminal) before p in let g = h.brackets in omega arith;
    }

open_is : (before : List Printed) (r : Reading) → Counted before r → open_in before ≡ open_brackets r.state
open_is before r h = let g = h.brackets in omega arith

-- the machine's test of a limit is that of the tokens so far
pub passes_is : (which : Which) (before : List Printed) (r : Reading) (p : Printed) → Counted before r → p.part ≡ part_at r.state p.terminal → passes which before p ≡ passes_at which r p.terminal
passes_is Clauses before r p h e = ap (λ (x : Part). begins_formula x && nat_le MAX_FORMULAS (formulas_in before)) e ∙ ap (λ (n : ℕ). begins_formula (part_at r.state p.terminal) && nat_le MAX_FORMULAS n) (sym h.formulas)
passes_is Literals before r p h e = ap (λ (x : Part). begins_literal x && nat_le MAX_LITERALS (literals_in before)) e ∙ ap (λ (n : ℕ). begins_literal (part_at r.state p.terminal) && nat_le MAX_LITERALS n) (sym h.literals)
passes_is Arguments before r p h e = ap (λ (x : Part). passes_argument x) e
  where
    passes_argument : Part → Bool
    passes_argument x = passes Arguments before (record { terminal = p.terminal; part = x; ends_atom = p.ends_atom })
passes_is Variables before r p h e =
    ap (λ (x : Part). nat_lt MAX_VARIABLES (length (with_variables (variables_in before) (variable_as x p.terminal)))) e
    ∙ ap (λ (x : List (List ℕ)). nat_lt MAX_VARIABLES (length (with_variables x (variable_as (part_at r.state p.terminal) p.terminal)))) (sym h.variables)
passes_is Nesting before r p h e = ap (λ (n : ℕ). opens p.terminal && nat_le MAX_BRACKETS n) (open_is before r h)
