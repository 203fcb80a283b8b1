-- What the machine reads from a state on to the end is the rest of a file.
use Rattle.std.proofs.Common.{◌≡◌, ℕ, zero, suc, ◌+◌, Bool, true, false, List, [], ◌∷◌, Option, Some, None, codes, refl, ap, subst, ◌∙◌, ◌⊎◌, inl, inr, arith}
use Rattle.std.specs.Str.{bytes_eq}
use Rattle.std.proofs.lemmas.Slice.Eq.{bytes_eq-Decides}
use Rattle.std.specs.Prelude.{if◌then◌else◌, ◌||◌}
use Rattle.tptp_grammar.specs.Terminals as terminal
use Rattle.tptp_grammar.specs.Terminals.{Terminal, LowerWord, SingleQuoted, DollarWord, Digits, Number, OpenRound, CloseRound, OpenSquare, CloseSquare, Comma, Dot, Bar, Tilde, Equality, OtherSign, Bad, is_role, is_note}
use Rattle.tptp_grammar.specs.Written.{Bare, Quoted, WrittenTerm, Variable, Distinct, Apply, WrittenTerms, NoTerms, OneMore, WrittenAtom, Truth, Predicate, Sign, Positive, Negative, NegativeInBrackets, WrittenLiteral, WrittenLabel, Named, Numbered, Notes, NoNotes, Note, InRound, InSquare, WrittenFormula}
use Rattle.tptp_grammar.specs.Printed.{Printed, plain_token, as_part, printed_terminals, truth_terminal, label_terminal, times_then, term_then, arguments_then, others_then, atom_then, literal_then, barred_then, notes_then, noted_then, printed}
use Rattle.tptp_grammar.specs.declared.part.Part.{Part}
use Rattle.tptp_grammar.specs.declared.part.Part.TheVariants.{Positive as PositivePart, Atom as AtomPart, End as EndPart}
use Rattle.tptp_grammar.specs.Machine as machine
use Rattle.tptp_grammar.specs.Machine.{State, Between, run_on, is_truth, step, step_atom, step_argument, step_done, step_named, step_literal_end, step_formula_end, step_notes, step_notes_start, step_between, step_begun, step_opened, step_labelled, step_label_end, step_roled, step_literal_start, step_formula_start, step_negated, step_closed, after_bracket}

-- ---- the tokens of what is left

abbrev is_nil : List ℕ → Bool
is_nil [] = true
is_nil (n ∷ ns) = false

abbrev bracket_close : Bool → Terminal
bracket_close true = CloseRound
bracket_close false = CloseSquare

-- the line's closing bracket, its full stop, and further formulas
abbrev line_then : List WrittenFormula → List Printed
line_then fs = plain_token CloseRound ∷ as_part EndPart Dot ∷ printed fs

-- behind the literals: notes, and further formulas
pub record Tail : Type 0 where
  pub notes : Notes
  pub formulas : List WrittenFormula

abbrev tail_then : ℕ → Tail → List Printed
tail_then k r = times_then k (plain_token CloseRound) (noted_then r.notes (line_then r.formulas))

-- behind a literal: others, and a tail
pub record Others : Type 0 where
  pub literals : List WrittenLiteral
  pub tail : Tail

abbrev literals_then : ℕ → Others → List Printed
literals_then k r = barred_then r.literals (tail_then k r.tail)

-- behind the argument of an open term, for each of these: the arguments left
abbrev Arguments : List ℕ → Type 0
Arguments [] = Others
Arguments (n ∷ ns) = WrittenTerms × Arguments ns

abbrev bracketed_then : Bool → ℕ → Others → List Printed
bracketed_then true k r = plain_token CloseRound ∷ literals_then k r
bracketed_then false k r = literals_then k r

abbrev done_then : (ns : List ℕ) → Bool → ℕ → Arguments ns → List Printed
done_then [] b k r = bracketed_then b k r
done_then (n ∷ ns) b k r = others_then (is_nil ns) n r.0 (done_then ns b k r.1)

-- for each open bracket in notes: the notes left in it
abbrev Inside : List Bool → Type 0
Inside [] = List WrittenFormula
Inside (b ∷ bs) = Notes × Inside bs

abbrev inside_then : (bs : List Bool) → Inside bs → List Printed
inside_then [] fs = line_then fs
inside_then (b ∷ bs) r = plain_token (bracket_close b) ∷ notes_then r.0 (inside_then bs r.1)

abbrev Prints : List Terminal → List Printed → Type 0
Prints ts ps = ts ≡ printed_terminals ps

-- a formula without its label
pub record Body : Type 0 where
  pub role : List ℕ
  pub role_known : is_role role ≡ true
  pub brackets : ℕ
  pub first : WrittenLiteral
  pub others : List WrittenLiteral
  pub notes : Notes

abbrev with_label : WrittenLabel → Body → WrittenFormula
with_label label g = record { label = label; role = g.role; role_known = g.role_known; brackets = g.brackets; first = g.first; others = g.others; notes = g.notes }

abbrev opening_then : ℕ → ℕ → WrittenLiteral → Others → List Printed
opening_then j m l r = times_then j (plain_token OpenRound) (literal_then l (literals_then m r))

abbrev others_of : Body → List WrittenFormula → Others
others_of g fs = record { literals = g.others; tail = record { notes = g.notes; formulas = fs } }

abbrev body_then : Body → List WrittenFormula → List Printed
body_then g fs = plain_token (LowerWord g.role) ∷ plain_token Comma ∷ opening_then g.brackets g.brackets g.first (others_of g fs)

-- The tokens are the rest of a file behind a state.
abbrev pub Rest : State → List Terminal → Type 0
Rest Between ts = (fs : List WrittenFormula) × Prints ts (printed fs)
Rest machine.Closed ts = (fs : List WrittenFormula) × Prints ts (plain_token Dot ∷ printed fs)
Rest (machine.Notes bs) ts = (ns : Notes) × (r : Inside bs) × Prints ts (notes_then ns (inside_then bs r))
Rest machine.NotesStart ts = (ns : Notes) × (fs : List WrittenFormula) × Prints (Comma ∷ ts) (noted_then ns (line_then fs))
Rest (machine.FormulaEnd k) ts = (r : Tail) × Prints ts (tail_then k r)
Rest (machine.LiteralEnd k) ts = (r : Others) × Prints ts (literals_then k r)
Rest (machine.Done ns b k) ts = (r : Arguments ns) × Prints ts (done_then ns b k r)
Rest (machine.Named ns b k) ts = (args : WrittenTerms) × (r : Arguments ns) × Prints ts (arguments_then (is_nil ns) args (done_then ns b k r))
Rest (machine.ArgumentStart n ns b k) ts = (t : WrittenTerm) × (more : WrittenTerms) × (r : Arguments ns) × Prints ts (term_then n t (others_then (is_nil ns) n more (done_then ns b k r)))
Rest (machine.AtomStart k) ts = (a : WrittenAtom) × (r : Others) × Prints ts (atom_then AtomPart a (bracketed_then true k r))
Rest (machine.Negated k) ts = (l : WrittenLiteral) × (r : Others) × Prints (Tilde ∷ ts) (literal_then l (literals_then k r))
Rest (machine.LiteralStart k) ts = (l : WrittenLiteral) × (r : Others) × Prints ts (literal_then l (literals_then k r))
Rest (machine.FormulaStart k) ts = (j m : ℕ) × (l : WrittenLiteral) × (r : Others) × (m ≡ j + k) × Prints ts (opening_then j m l r)
Rest machine.Roled ts = (j : ℕ) × (l : WrittenLiteral) × (r : Others) × Prints ts (plain_token Comma ∷ opening_then j j l r)
Rest machine.LabelEnd ts = (g : Body) × (fs : List WrittenFormula) × Prints ts (body_then g fs)
Rest machine.Labelled ts = (g : Body) × (fs : List WrittenFormula) × Prints ts (plain_token Comma ∷ body_then g fs)
Rest machine.Opened ts = (label : WrittenLabel) × (g : Body) × (fs : List WrittenFormula) × Prints ts (plain_token (label_terminal label) ∷ plain_token Comma ∷ body_then g fs)
Rest machine.Begun ts = (label : WrittenLabel) × (g : Body) × (fs : List WrittenFormula) × Prints ts (plain_token OpenRound ∷ plain_token (label_terminal label) ∷ plain_token Comma ∷ body_then g fs)

abbrev pub RestOf : Option State → List Terminal → Type 0
RestOf None ts = ⊥
RestOf (Some s) ts = Rest s ts

-- ---- one token more at the front

put : (t : Terminal) (xs ys : List Terminal) → xs ≡ ys → t ∷ xs ≡ t ∷ ys
put t xs ys e = ap (λ (x : List Terminal). t ∷ x) e

chosen : (b : Bool) (s : State) (ts : List Terminal) → RestOf (if b then Some s else None) ts → (b ≡ true) × Rest s ts
chosen true s ts h = (refl, h)
chosen false s ts h = absurd h

notes_read : (bs : List Bool) (t : Terminal) (ts : List Terminal) → RestOf (step_notes bs t) ts → Rest (machine.Notes bs) (t ∷ ts)
notes_read bs OpenRound ts h = (InRound h.0 h.1.0, h.1.1, put _ _ _ h.2)
notes_read bs OpenSquare ts h = (InSquare h.0 h.1.0, h.1.1, put _ _ _ h.2)
notes_read [] CloseRound ts h = (NoNotes, h.0, put _ _ _ h.1)
notes_read (true ∷ bs) CloseRound ts h = (NoNotes, (h.0, h.1), put _ _ _ h.2)
notes_read (false ∷ bs) CloseRound ts h = absurd h
notes_read [] CloseSquare ts h = absurd h
notes_read (true ∷ bs) CloseSquare ts h = absurd h
notes_read (false ∷ bs) CloseSquare ts h = (NoNotes, (h.0, h.1), put _ _ _ h.2)
notes_read bs Dot ts h = absurd h
notes_read bs Bad ts h = absurd h
notes_read bs t ts h = (Note t refl h.0, h.1, put _ _ _ h.2)

notes_start_read : (t : Terminal) (ts : List Terminal) → RestOf (step_notes_start t) ts → Rest machine.NotesStart (t ∷ ts)
notes_start_read CloseRound ts h = absurd h
notes_start_read OpenRound ts h = (InRound h.0 h.1.0, h.1.1, put _ _ _ (put _ _ _ h.2))
notes_start_read OpenSquare ts h = (InSquare h.0 h.1.0, h.1.1, put _ _ _ (put _ _ _ h.2))
notes_start_read CloseSquare ts h = absurd h
notes_start_read Dot ts h = absurd h
notes_start_read Bad ts h = absurd h
notes_start_read t ts h = (Note t refl h.0, h.1, put _ _ _ (put _ _ _ h.2))

abbrev no_more : Tail → Others
no_more r = record { literals = []; tail = r }

abbrev no_notes : List WrittenFormula → Tail
no_notes fs = record { notes = NoNotes; formulas = fs }

close_read : (k : ℕ) (ts : List Terminal) → Rest (after_bracket k) ts → Rest (machine.FormulaEnd k) (CloseRound ∷ ts)
close_read zero ts h = (no_notes h.0, put _ _ _ h.1)
close_read (suc k) ts h = (h.0, put _ _ _ h.1)

formula_end_read : (k : ℕ) (t : Terminal) (ts : List Terminal) → RestOf (step_formula_end k t) ts → Rest (machine.FormulaEnd k) (t ∷ ts)
formula_end_read k CloseRound ts h = close_read k ts h
formula_end_read zero Comma ts h = (record { notes = h.0; formulas = h.1 }, h.2)
formula_end_read (suc k) Comma ts h = absurd h
formula_end_read k t ts h = absurd h

literal_end_read : (k : ℕ) (t : Terminal) (ts : List Terminal) → RestOf (step_literal_end k t) ts → Rest (machine.LiteralEnd k) (t ∷ ts)
literal_end_read k Bar ts h = (record { literals = h.0 ∷ h.1.literals; tail = h.1.tail }, put _ _ _ h.2)
literal_end_read k CloseRound ts h = let r = close_read k ts h in (no_more r.0, r.1)
literal_end_read zero Comma ts h = (no_more (record { notes = h.0; formulas = h.1 }), h.2)
literal_end_read (suc k) Comma ts h = absurd h
literal_end_read k t ts h = absurd h

done_read : (ns : List ℕ) (b : Bool) (k : ℕ) (t : Terminal) (ts : List Terminal) → RestOf (step_done ns b k t) ts → Rest (machine.Done ns b k) (t ∷ ts)
done_read (n ∷ ns) b k Comma ts h = ((OneMore h.0 h.1, h.2), put _ _ _ h.3)
done_read (n ∷ ns) b k CloseRound ts h = ((NoTerms, h.0), put _ _ _ h.1)
done_read (n ∷ ns) b k t ts h = absurd h
done_read [] true k CloseRound ts h = (h.0, put _ _ _ h.1)
done_read [] true k t ts h = absurd h
done_read [] false k t ts h = literal_end_read k t ts h

named_read : (ns : List ℕ) (b : Bool) (k : ℕ) (t : Terminal) (ts : List Terminal) → RestOf (step_named ns b k t) ts → Rest (machine.Named ns b k) (t ∷ ts)
named_read ns b k OpenRound ts h = (OneMore h.0 h.1, h.2, put _ _ _ h.3)
named_read ns b k t ts h = let r = done_read ns b k t ts h in (NoTerms, r.0, r.1)

argument_read : (n : ℕ) (ns : List ℕ) (b : Bool) (k : ℕ) (t : Terminal) (ts : List Terminal) → RestOf (step_argument (n ∷ ns) b k t) ts → Rest (machine.ArgumentStart n ns b k) (t ∷ ts)
argument_read n ns b k (LowerWord text) ts h = (Apply (Bare text) h.0, h.1.0, h.1.1, put _ _ _ h.2)
argument_read n ns b k (SingleQuoted text) ts h = (Apply (Quoted text) h.0, h.1.0, h.1.1, put _ _ _ h.2)
argument_read n ns b k (terminal.Variable text) ts h = (Variable text, h.0.0, h.0.1, put _ _ _ h.1)
argument_read n ns b k (terminal.Distinct text) ts h = (Distinct text, h.0.0, h.0.1, put _ _ _ h.1)
argument_read n ns b k t ts h = absurd h

-- the atom of a token, and what is left behind it
pub record AtomRest (part : Part) (b : Bool) (k : ℕ) (ts : List Terminal) : Type 0 where
  pub atom : WrittenAtom
  pub others : Others
  pub text : Prints ts (atom_then part atom (bracketed_then b k others))

either : (a b : Bool) → (a || b) ≡ true → (a ≡ true) ⊎ (b ≡ true)
either true b h = inl refl
either false b h = inr h

truth_is : (text : List ℕ) → is_truth text ≡ true → (value : Bool) × (DollarWord text ≡ truth_terminal value)
truth_is text h =
    elim (either (bytes_eq text (codes "$true")) (bytes_eq text (codes "$false")) h) [
      | inl e ↦ (true, ap (λ (x : List ℕ). DollarWord x) ((bytes_eq-Decides text (codes "$true")).0 e))
      | inr e ↦ (false, ap (λ (x : List ℕ). DollarWord x) ((bytes_eq-Decides text (codes "$false")).0 e))
    ]

atom_read : (part : Part) (b : Bool) (k : ℕ) (t : Terminal) (ts : List Terminal) → RestOf (step_atom b k t) ts → AtomRest part b k (t ∷ ts)
atom_read part b k (LowerWord text) ts h = record { atom = Predicate (Bare text) h.0; others = h.1; text = put _ _ _ h.2 }
atom_read part b k (SingleQuoted text) ts h = record { atom = Predicate (Quoted text) h.0; others = h.1; text = put _ _ _ h.2 }
atom_read part b k (DollarWord text) ts h =
    let c = chosen (is_truth text) (machine.Done [] b k) ts h in
    let v = truth_is text c.0 in
    record {
      atom = Truth v.0;
      others = c.1.0;
      text = ap (λ (x : Terminal). x ∷ ts) v.1 ∙ put _ _ _ c.1.1;
    }
atom_read part b k t ts h = absurd h

abbrev literal : Sign → WrittenAtom → WrittenLiteral
literal sign atom = record { sign = sign; atom = atom }

negated_read : (k : ℕ) (t : Terminal) (ts : List Terminal) → RestOf (step_negated k t) ts → Rest (machine.Negated k) (t ∷ ts)
negated_read k OpenRound ts h = (literal NegativeInBrackets h.0, h.1, put _ _ _ (put _ _ _ h.2))
negated_read k t ts h = let a = atom_read AtomPart false k t ts h in (literal Negative a.atom, a.others, put _ _ _ a.text)

literal_read : (k : ℕ) (t : Terminal) (ts : List Terminal) → RestOf (step_literal_start k t) ts → Rest (machine.LiteralStart k) (t ∷ ts)
literal_read k Tilde ts h = h
literal_read k t ts h = let a = atom_read PositivePart false k t ts h in (literal Positive a.atom, a.others, a.text)

formula_read : (k : ℕ) (t : Terminal) (ts : List Terminal) → RestOf (step_formula_start k t) ts → Rest (machine.FormulaStart k) (t ∷ ts)
formula_read k OpenRound ts h = let e : h.1 ≡ suc h.0 + k = omega (arith, h.4) in (suc h.0, h.1, h.2, h.3, e, put _ _ _ h.5)
formula_read k t ts h = let l = literal_read k t ts h in (0, k, l.0, l.1, omega arith, l.2)

roled_read : (t : Terminal) (ts : List Terminal) → RestOf (step_roled t) ts → Rest machine.Roled (t ∷ ts)
roled_read Comma ts h =
    let same : h.1 ≡ h.0 = omega (arith, h.4) in
    (h.0, h.2, h.3, put _ _ _ (subst (λ (m : ℕ). Prints ts (opening_then h.0 m h.2 h.3)) same h.5))
roled_read t ts h = absurd h

label_end_read : (t : Terminal) (ts : List Terminal) → RestOf (step_label_end t) ts → Rest machine.LabelEnd (t ∷ ts)
label_end_read (LowerWord text) ts h =
    let c = chosen (is_role text) machine.Roled ts h in
    let r = c.1 in
    (record { role = text; role_known = c.0; brackets = r.0; first = r.1; others = r.2.literals; notes = r.2.tail.notes }, r.2.tail.formulas, put _ _ _ r.3)
label_end_read t ts h = absurd h

labelled_read : (t : Terminal) (ts : List Terminal) → RestOf (step_labelled t) ts → Rest machine.Labelled (t ∷ ts)
labelled_read Comma ts h = (h.0, h.1, put _ _ _ h.2)
labelled_read t ts h = absurd h

opened_read : (t : Terminal) (ts : List Terminal) → RestOf (step_opened t) ts → Rest machine.Opened (t ∷ ts)
opened_read (LowerWord text) ts h = (Named (Bare text), h.0, h.1, put _ _ _ h.2)
opened_read (SingleQuoted text) ts h = (Named (Quoted text), h.0, h.1, put _ _ _ h.2)
opened_read (Digits text) ts h = (Numbered text, h.0, h.1, put _ _ _ h.2)
opened_read t ts h = absurd h

begun_read : (t : Terminal) (ts : List Terminal) → RestOf (step_begun t) ts → Rest machine.Begun (t ∷ ts)
begun_read OpenRound ts h = (h.0, h.1, h.2, put _ _ _ h.3)
begun_read t ts h = absurd h

between_read : (t : Terminal) (ts : List Terminal) → RestOf (step_between t) ts → Rest Between (t ∷ ts)
between_read (LowerWord text) ts h =
    let c = chosen (bytes_eq text (codes "cnf")) machine.Begun ts h in
    let r = c.1 in
    (with_label r.0 r.1 ∷ r.2, ap (λ (x : List ℕ). LowerWord x ∷ ts) ((bytes_eq-Decides text (codes "cnf")).0 c.0) ∙ put _ _ _ r.3)
between_read t ts h = absurd h

closed_read : (t : Terminal) (ts : List Terminal) → RestOf (step_closed t) ts → Rest machine.Closed (t ∷ ts)
closed_read Dot ts h = (h.0, put _ _ _ h.1)
closed_read t ts h = absurd h

token_read : (s : State) (t : Terminal) (ts : List Terminal) → RestOf (step s t) ts → Rest s (t ∷ ts)
token_read Between t ts h = between_read t ts h
token_read machine.Begun t ts h = begun_read t ts h
token_read machine.Opened t ts h = opened_read t ts h
token_read machine.Labelled t ts h = labelled_read t ts h
token_read machine.LabelEnd t ts h = label_end_read t ts h
token_read machine.Roled t ts h = roled_read t ts h
token_read (machine.FormulaStart k) t ts h = formula_read k t ts h
token_read (machine.LiteralStart k) t ts h = literal_read k t ts h
token_read (machine.Negated k) t ts h = negated_read k t ts h
token_read (machine.AtomStart k) t ts h = let a = atom_read AtomPart true k t ts h in (a.atom, a.others, a.text)
token_read (machine.ArgumentStart n ns b k) t ts h = argument_read n ns b k t ts h
token_read (machine.Named ns b k) t ts h = named_read ns b k t ts h
token_read (machine.Done ns b k) t ts h = done_read ns b k t ts h
token_read (machine.LiteralEnd k) t ts h = literal_end_read k t ts h
token_read (machine.FormulaEnd k) t ts h = formula_end_read k t ts h
token_read machine.NotesStart t ts h = notes_start_read t ts h
token_read (machine.Notes bs) t ts h = notes_read bs t ts h
token_read machine.Closed t ts h = closed_read t ts h

some_is : (s u : State) → run_on (Some s) [] ≡ Some u → u ≡ s
some_is s u e = cc

rests : (o : Option State) (ts : List Terminal) → run_on o ts ≡ Some Between → RestOf o ts
rests None ts e = absurd cc
rests (Some s) [] e = subst (λ (x : State). Rest x []) (some_is s Between e) ([], refl)
rests (Some s) (t ∷ ts) e = token_read s t ts (rests (step s t) ts e)

-- Tokens that lead the machine from its start to its end are those of a file.
pub file_of : (ts : List Terminal) → run_on (Some Between) ts ≡ Some Between → (file : List WrittenFormula) × Prints ts (printed file)
file_of ts e = rests (Some Between) ts e
