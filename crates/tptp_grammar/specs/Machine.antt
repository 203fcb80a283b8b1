-- The machine that reads the tokens of a file, one by one.
use Rattle.std.specs.Prelude.{◌≤◌, ℕ, zero, suc, ◌+◌, Bool, true, false, List, [], ◌∷◌, length, Option, Some, None, codes, ◌||◌, not, if◌then◌else◌}
use Rattle.std.specs.List.{AllByRecursion}
use Rattle.std.specs.Str.{bytes_eq}
use Rattle.tptp_grammar.specs.Terminals.{Terminal, LowerWord, SingleQuoted, Variable, Distinct, DollarWord, Digits, OpenRound, CloseRound, OpenSquare, CloseSquare, Comma, Dot, Bar, Tilde, Bad, is_role}
use Rattle.tptp_grammar.specs.Printed.{Printed}
use Rattle.tptp_grammar.specs.declared.part.Part.{Part}
use Rattle.tptp_grammar.specs.declared.part.Part.TheVariants.{Formula as FormulaPart, Role as RolePart, Negative as NegativePart, Positive as PositivePart, Atom as AtomPart, Argument as ArgumentPart, Other as OtherPart, Label as LabelPart, OpenArguments, CloseArguments, End as EndPart}

-- What was read last. A number k says how many brackets round the literals are open. In an atom, the list has for each open term the number of its argument that was read last, or that comes next, the innermost first; and the Bool says whether the atom stands in brackets of its own.
pub data State : Type 0 where
  Between : State
  Begun : State
  Opened : State
  Labelled : State
  LabelEnd : State
  Roled : State
  FormulaStart : ℕ → State
  LiteralStart : ℕ → State
  Negated : ℕ → State
  AtomStart : ℕ → State
  -- an argument of this number comes next
  ArgumentStart : ℕ → List ℕ → Bool → ℕ → State
  -- a name stands before it, which may have arguments
  Named : List ℕ → Bool → ℕ → State
  -- a whole term or atom stands before it
  Done : List ℕ → Bool → ℕ → State
  -- the brackets round an atom were closed
  LiteralEnd : ℕ → State
  -- a bracket round the literals was closed
  FormulaEnd : ℕ → State
  NotesStart : State
  -- in notes; true for each open round bracket, and false for each square one
  Notes : List Bool → State
  Closed : State

abbrev pub is_truth : List ℕ → Bool
is_truth text = bytes_eq text (codes "$true") || bytes_eq text (codes "$false")

-- where an atom comes next
abbrev pub step_atom : Bool → ℕ → Terminal → Option State
step_atom b k (LowerWord text) = Some (Named [] b k)
step_atom b k (SingleQuoted text) = Some (Named [] b k)
step_atom b k (DollarWord text) = if is_truth text then Some (Done [] b k) else None
step_atom b k t = None

-- where an argument comes next
abbrev pub step_argument : List ℕ → Bool → ℕ → Terminal → Option State
step_argument ns b k (LowerWord text) = Some (Named ns b k)
step_argument ns b k (SingleQuoted text) = Some (Named ns b k)
step_argument ns b k (Variable text) = Some (Done ns b k)
step_argument ns b k (Distinct text) = Some (Done ns b k)
step_argument ns b k t = None

-- a round bracket closes, where k others are open round the literals
abbrev pub after_bracket : ℕ → State
after_bracket zero = Closed
after_bracket (suc k) = FormulaEnd k

-- behind a whole literal
abbrev pub step_literal_end : ℕ → Terminal → Option State
step_literal_end k Bar = Some (LiteralStart k)
step_literal_end k CloseRound = Some (after_bracket k)
step_literal_end zero Comma = Some NotesStart
step_literal_end k t = None

-- behind a bracket that closed the literals
abbrev pub step_formula_end : ℕ → Terminal → Option State
step_formula_end k CloseRound = Some (after_bracket k)
step_formula_end zero Comma = Some NotesStart
step_formula_end k t = None

-- behind a whole term or atom
abbrev pub step_done : List ℕ → Bool → ℕ → Terminal → Option State
step_done (n ∷ ns) b k Comma = Some (ArgumentStart (suc n) ns b k)
step_done (n ∷ ns) b k CloseRound = Some (Done ns b k)
step_done (n ∷ ns) b k t = None
step_done [] true k CloseRound = Some (LiteralEnd k)
step_done [] true k t = None
step_done [] false k t = step_literal_end k t

abbrev pub step_named : List ℕ → Bool → ℕ → Terminal → Option State
step_named ns b k OpenRound = Some (ArgumentStart 1 ns b k)
step_named ns b k t = step_done ns b k t

-- in notes, where these brackets are open
abbrev pub step_notes : List Bool → Terminal → Option State
step_notes stack OpenRound = Some (Notes (true ∷ stack))
step_notes stack OpenSquare = Some (Notes (false ∷ stack))
step_notes [] CloseRound = Some Closed
step_notes (true ∷ stack) CloseRound = Some (Notes stack)
step_notes (false ∷ stack) CloseRound = None
step_notes [] CloseSquare = None
step_notes (true ∷ stack) CloseSquare = None
step_notes (false ∷ stack) CloseSquare = Some (Notes stack)
step_notes stack Dot = None
step_notes stack Bad = None
step_notes stack t = Some (Notes stack)

abbrev pub step_notes_start : Terminal → Option State
step_notes_start CloseRound = None
step_notes_start t = step_notes [] t

abbrev pub step_between : Terminal → Option State
step_between (LowerWord text) = if bytes_eq text (codes "cnf") then Some Begun else None
step_between t = None

abbrev pub step_begun : Terminal → Option State
step_begun OpenRound = Some Opened
step_begun t = None

abbrev pub step_opened : Terminal → Option State
step_opened (LowerWord text) = Some Labelled
step_opened (SingleQuoted text) = Some Labelled
step_opened (Digits text) = Some Labelled
step_opened t = None

abbrev pub step_labelled : Terminal → Option State
step_labelled Comma = Some LabelEnd
step_labelled t = None

abbrev pub step_label_end : Terminal → Option State
step_label_end (LowerWord text) = if is_role text then Some Roled else None
step_label_end t = None

abbrev pub step_roled : Terminal → Option State
step_roled Comma = Some (FormulaStart 0)
step_roled t = None

abbrev pub step_literal_start : ℕ → Terminal → Option State
step_literal_start k Tilde = Some (Negated k)
step_literal_start k t = step_atom false k t

abbrev pub step_formula_start : ℕ → Terminal → Option State
step_formula_start k OpenRound = Some (FormulaStart (suc k))
step_formula_start k t = step_literal_start k t

abbrev pub step_negated : ℕ → Terminal → Option State
step_negated k OpenRound = Some (AtomStart k)
step_negated k t = step_atom false k t

abbrev pub step_closed : Terminal → Option State
step_closed Dot = Some Between
step_closed t = None

-- The state behind a token; None where no file goes on with it.
abbrev pub step : State → Terminal → Option State
step Between t = step_between t
step Begun t = step_begun t
step Opened t = step_opened t
step Labelled t = step_labelled t
step LabelEnd t = step_label_end t
step Roled t = step_roled t
step (FormulaStart k) t = step_formula_start k t
step (LiteralStart k) t = step_literal_start k t
step (Negated k) t = step_negated k t
step (AtomStart k) t = step_atom true k t
step (ArgumentStart n ns b k) t = step_argument (n ∷ ns) b k t
step (Named ns b k) t = step_named ns b k t
step (Done ns b k) t = step_done ns b k t
step (LiteralEnd k) t = step_literal_end k t
step (FormulaEnd k) t = step_formula_end k t
step NotesStart t = step_notes_start t
step (Notes stack) t = step_notes stack t
step Closed t = step_closed t

-- Each number that is counted in this state is at most n: that of the open brackets round the literals, and those of the arguments that are being read or come next.
abbrev pub CountsUpTo : ℕ → State → Type 0
CountsUpTo n (FormulaStart k) = k ≤ n
CountsUpTo n (LiteralStart k) = k ≤ n
CountsUpTo n (Negated k) = k ≤ n
CountsUpTo n (AtomStart k) = k ≤ n
CountsUpTo n (ArgumentStart m ms b k) = (m ≤ n) × AllByRecursion (λ i. i ≤ n) ms × (k ≤ n)
CountsUpTo n (Named ms b k) = AllByRecursion (λ i. i ≤ n) ms × (k ≤ n)
CountsUpTo n (Done ms b k) = AllByRecursion (λ i. i ≤ n) ms × (k ≤ n)
CountsUpTo n (LiteralEnd k) = k ≤ n
CountsUpTo n (FormulaEnd k) = k ≤ n
CountsUpTo n s = Unit {0}

abbrev pub run_on : Option State → List Terminal → Option State
run_on None ts = None
run_on (Some s) [] = Some s
run_on (Some s) (t ∷ ts) = run_on (step s t) ts

-- ---- what a token is

abbrev pub literal_part : Terminal → Part
literal_part Tilde = NegativePart
literal_part t = PositivePart

abbrev pub formula_part : Terminal → Part
formula_part OpenRound = OtherPart
formula_part t = literal_part t

abbrev pub negated_part : Terminal → Part
negated_part OpenRound = OtherPart
negated_part t = AtomPart

abbrev pub done_part : List ℕ → Terminal → Part
done_part (n ∷ ns) CloseRound = CloseArguments n
done_part (n ∷ ns) t = OtherPart
done_part [] t = OtherPart

abbrev pub named_part : List ℕ → Terminal → Part
named_part ns OpenRound = OpenArguments
named_part ns t = done_part ns t

-- what the token is in the file
abbrev pub part_at : State → Terminal → Part
part_at Between t = FormulaPart
part_at Opened t = LabelPart
part_at LabelEnd t = RolePart
part_at (FormulaStart k) t = formula_part t
part_at (LiteralStart k) t = literal_part t
part_at (Negated k) t = negated_part t
part_at (AtomStart k) t = AtomPart
part_at (ArgumentStart n ns b k) t = ArgumentPart n
part_at (Named ns b k) t = named_part ns t
part_at (Done ns b k) t = done_part ns t
part_at Closed t = EndPart
part_at s t = OtherPart

abbrev pub is_open_round : Terminal → Bool
is_open_round OpenRound = true
is_open_round t = false

abbrev pub starts_open : List Printed → Bool
starts_open [] = false
starts_open (p ∷ ps) = is_open_round p.terminal

-- whether a token is the last of an atom, by the state behind it and the tokens that come next
abbrev pub ends_at : State → List Printed → Bool
ends_at (Named [] b k) next = not (starts_open next)
ends_at (Done [] b k) next = true
ends_at s next = false

-- how many brackets are open
abbrev pub open_if : Bool → ℕ
open_if true = 1
open_if false = 0

abbrev pub open_brackets : State → ℕ
open_brackets Between = 0
open_brackets Begun = 0
open_brackets (FormulaStart k) = suc k
open_brackets (LiteralStart k) = suc k
open_brackets (Negated k) = suc k
open_brackets (AtomStart k) = suc (suc k)
open_brackets (ArgumentStart n ns b k) = suc (length ns) + open_if b + suc k
open_brackets (Named ns b k) = length ns + open_if b + suc k
open_brackets (Done ns b k) = length ns + open_if b + suc k
open_brackets (LiteralEnd k) = suc k
open_brackets (FormulaEnd k) = suc k
open_brackets (Notes stack) = suc (length stack)
open_brackets Closed = 0
open_brackets s = 1
