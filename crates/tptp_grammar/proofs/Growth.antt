-- What the machine counts in its state grows by at most one with each token.
use Rattle.std.proofs.Common.{◌≡◌, ◌≤◌, ℕ, zero, suc, Bool, true, false, cond, List, [], ◌∷◌, Option, Some, None, subst, arith}
use Rattle.std.specs.List.{AllByRecursion}
use Rattle.tptp_grammar.specs.Terminals.{Terminal, LowerWord, SingleQuoted, Variable, Distinct, DollarWord, Digits, OpenRound, CloseRound, OpenSquare, CloseSquare, Comma, Dot, Bar, Tilde, Bad, is_role}
use Rattle.tptp_grammar.specs.Machine.{State, Between, Begun, Opened, Labelled, LabelEnd, Roled, FormulaStart, LiteralStart, Negated, AtomStart, ArgumentStart, Named, Done, LiteralEnd, FormulaEnd, NotesStart, Notes, Closed, CountsUpTo, is_truth, after_bracket, step_atom, step_argument, step_literal_end, step_formula_end, step_done, step_named, step_notes, step_notes_start, step_between, step_label_end, step_literal_start, step_formula_start, step_negated, step}

abbrev Grows : ℕ → Option State → Type 0
Grows n None = Unit {0}
Grows n (Some u) = CountsUpTo (suc n) u

all_within : (n k : ℕ) (ms : List ℕ) → n ≤ k → AllByRecursion (λ m. m ≤ n) ms → AllByRecursion (λ m. m ≤ k) ms
all_within n k [] le h = tt
all_within n k (m ∷ ms) le h = (omega (arith, h.0), all_within n k ms le h.1)

all_more : (n : ℕ) (ms : List ℕ) → AllByRecursion (λ m. m ≤ n) ms → AllByRecursion (λ m. m ≤ suc n) ms
all_more n ms h = all_within n (suc n) ms (omega arith) h

closed_grows : (n k : ℕ) → k ≤ n → CountsUpTo (suc n) (after_bracket k)
closed_grows n zero e = tt
closed_grows n (suc k) e = omega arith

chosen_grows : (c : Bool) (n : ℕ) (u : State) → CountsUpTo (suc n) u → Grows n (cond c (Some u) None)
chosen_grows true n u h = h
chosen_grows false n u h = tt

literal_end_grows : (n k : ℕ) (t : Terminal) → k ≤ n → Grows n (step_literal_end k t)
literal_end_grows n k Bar e = omega arith
literal_end_grows n k CloseRound e = closed_grows n k e
literal_end_grows n zero Comma e = tt
literal_end_grows n (suc k) Comma e = tt
literal_end_grows n k t e = tt

formula_end_grows : (n k : ℕ) (t : Terminal) → k ≤ n → Grows n (step_formula_end k t)
formula_end_grows n k CloseRound e = closed_grows n k e
formula_end_grows n zero Comma e = tt
formula_end_grows n (suc k) Comma e = tt
formula_end_grows n k t e = tt

done_grows : (n : ℕ) (ms : List ℕ) (b : Bool) (k : ℕ) (t : Terminal) → AllByRecursion (λ m. m ≤ n) ms → k ≤ n → Grows n (step_done ms b k t)
done_grows n (m ∷ ms) b k Comma h e = (omega (arith, h.0), all_more n ms h.1, omega arith)
done_grows n (m ∷ ms) b k CloseRound h e = (all_more n ms h.1, omega arith)
done_grows n (m ∷ ms) b k t h e = tt
done_grows n [] true k CloseRound h e = omega arith
done_grows n [] true k t h e = tt
done_grows n [] false k t h e = literal_end_grows n k t e

named_grows : (n : ℕ) (ms : List ℕ) (b : Bool) (k : ℕ) (t : Terminal) → AllByRecursion (λ m. m ≤ n) ms → k ≤ n → Grows n (step_named ms b k t)
named_grows n ms b k OpenRound h e = (omega arith, all_more n ms h, omega arith)
named_grows n ms b k t h e = done_grows n ms b k t h e

argument_grows : (n : ℕ) (ms : List ℕ) (b : Bool) (k : ℕ) (t : Terminal) → AllByRecursion (λ m. m ≤ n) ms → k ≤ n → Grows n (step_argument ms b k t)
argument_grows n ms b k (LowerWord text) h e = (all_more n ms h, omega arith)
argument_grows n ms b k (SingleQuoted text) h e = (all_more n ms h, omega arith)
argument_grows n ms b k (Variable text) h e = (all_more n ms h, omega arith)
argument_grows n ms b k (Distinct text) h e = (all_more n ms h, omega arith)
argument_grows n ms b k t h e = tt

atom_grows : (b : Bool) (n k : ℕ) (t : Terminal) → k ≤ n → Grows n (step_atom b k t)
atom_grows b n k (LowerWord text) e = (tt, omega arith)
atom_grows b n k (SingleQuoted text) e = (tt, omega arith)
atom_grows b n k (DollarWord text) e = chosen_grows (is_truth text) n (Done [] b k) (tt, omega arith)
atom_grows b n k t e = tt

literal_grows : (n k : ℕ) (t : Terminal) → k ≤ n → Grows n (step_literal_start k t)
literal_grows n k Tilde e = omega arith
literal_grows n k t e = atom_grows false n k t e

formula_grows : (n k : ℕ) (t : Terminal) → k ≤ n → Grows n (step_formula_start k t)
formula_grows n k OpenRound e = omega arith
formula_grows n k t e = literal_grows n k t e

negated_grows : (n k : ℕ) (t : Terminal) → k ≤ n → Grows n (step_negated k t)
negated_grows n k OpenRound e = omega arith
negated_grows n k t e = atom_grows false n k t e

notes_grows : (n : ℕ) (bs : List Bool) (t : Terminal) → Grows n (step_notes bs t)
notes_grows n bs OpenRound = tt
notes_grows n bs OpenSquare = tt
notes_grows n [] CloseRound = tt
notes_grows n (true ∷ bs) CloseRound = tt
notes_grows n (false ∷ bs) CloseRound = tt
notes_grows n [] CloseSquare = tt
notes_grows n (true ∷ bs) CloseSquare = tt
notes_grows n (false ∷ bs) CloseSquare = tt
notes_grows n bs Dot = tt
notes_grows n bs Bad = tt
notes_grows n bs t = tt

notes_start_grows : (n : ℕ) (t : Terminal) → Grows n (step_notes_start t)
notes_start_grows n CloseRound = tt
notes_start_grows n t = notes_grows n [] t

between_grows : (n : ℕ) (t : Terminal) → Grows n (step_between t)
between_grows n (LowerWord text) = chosen_grows _ n Begun tt
between_grows n t = tt

begun_grows : (n : ℕ) (t : Terminal) → Grows n (step Begun t)
begun_grows n OpenRound = tt
begun_grows n t = tt

opened_grows : (n : ℕ) (t : Terminal) → Grows n (step Opened t)
opened_grows n (LowerWord text) = tt
opened_grows n (SingleQuoted text) = tt
opened_grows n (Digits text) = tt
opened_grows n t = tt

labelled_grows : (n : ℕ) (t : Terminal) → Grows n (step Labelled t)
labelled_grows n Comma = tt
labelled_grows n t = tt

label_end_grows : (n : ℕ) (t : Terminal) → Grows n (step_label_end t)
label_end_grows n (LowerWord text) = chosen_grows (is_role text) n Roled tt
label_end_grows n t = tt

roled_grows : (n : ℕ) (t : Terminal) → Grows n (step Roled t)
roled_grows n Comma = omega arith
roled_grows n t = tt

line_grows : (n : ℕ) (t : Terminal) → Grows n (step Closed t)
line_grows n Dot = tt
line_grows n t = tt

grows : (n : ℕ) (s : State) (t : Terminal) → CountsUpTo n s → Grows n (step s t)
grows n Between t h = between_grows n t
grows n Begun t h = begun_grows n t
grows n Opened t h = opened_grows n t
grows n Labelled t h = labelled_grows n t
grows n LabelEnd t h = label_end_grows n t
grows n Roled t h = roled_grows n t
grows n (FormulaStart k) t h = formula_grows n k t h
grows n (LiteralStart k) t h = literal_grows n k t h
grows n (Negated k) t h = negated_grows n k t h
grows n (AtomStart k) t h = atom_grows true n k t h
grows n (ArgumentStart m ms b k) t h = argument_grows n (m ∷ ms) b k t (h.0, h.1) h.2
grows n (Named ms b k) t h = named_grows n ms b k t h.0 h.1
grows n (Done ms b k) t h = done_grows n ms b k t h.0 h.1
grows n (LiteralEnd k) t h = literal_end_grows n k t h
grows n (FormulaEnd k) t h = formula_end_grows n k t h
grows n NotesStart t h = notes_start_grows n t
grows n (Notes bs) t h = notes_grows n bs t
grows n Closed t h = line_grows n t

pub counts_grow : (n : ℕ) (s : State) (t : Terminal) (u : State) → CountsUpTo n s → step s t ≡ Some u → CountsUpTo (suc n) u
counts_grow n s t u h e = subst (Grows n) e (grows n s t h)

-- the state counts no more where more may be counted
pub counts_within : (n m : ℕ) (s : State) → n ≤ m → CountsUpTo n s → CountsUpTo m s
counts_within n m Between le h = tt
counts_within n m Begun le h = tt
counts_within n m Opened le h = tt
counts_within n m Labelled le h = tt
counts_within n m LabelEnd le h = tt
counts_within n m Roled le h = tt
counts_within n m (FormulaStart k) le h = omega (arith, h)
counts_within n m (LiteralStart k) le h = omega (arith, h)
counts_within n m (Negated k) le h = omega (arith, h)
counts_within n m (AtomStart k) le h = omega (arith, h)
counts_within n m (ArgumentStart i ms b k) le h = (omega (arith, h.0), all_within n m ms le h.1, omega (arith, h.2))
counts_within n m (Named ms b k) le h = (all_within n m ms le h.0, omega (arith, h.1))
counts_within n m (Done ms b k) le h = (all_within n m ms le h.0, omega (arith, h.1))
counts_within n m (LiteralEnd k) le h = omega (arith, h)
counts_within n m (FormulaEnd k) le h = omega (arith, h)
counts_within n m NotesStart le h = tt
counts_within n m (Notes bs) le h = tt
counts_within n m Closed le h = tt
