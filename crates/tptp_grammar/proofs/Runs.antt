-- The machine reads the tokens of each written file to the end, and knows what each of them begins.
use Rattle.std.proofs.Common.{◌≡◌, ℕ, zero, suc, ◌+◌, Bool, true, false, List, [], ◌∷◌, Option, Some, refl, sym, ap, subst, ◌∙◌, arith}
use Rattle.std.specs.Prelude.{not}
use Rattle.tptp_grammar.specs.Terminals.{Terminal, LowerWord, SingleQuoted, OpenRound, CloseRound, OpenSquare, CloseSquare, Comma, Dot, Tilde, Bad, is_role, is_note}
use Rattle.tptp_grammar.specs.Written.{Name, Bare, Quoted, WrittenTerm, Variable, Distinct, Apply, WrittenTerms, NoTerms, OneMore, WrittenAtom, Truth, Predicate, Sign, Positive, Negative, NegativeInBrackets, WrittenLiteral, WrittenLabel, Numbered, NoNotes, Note, InRound, InSquare, WrittenFormula}
use Rattle.tptp_grammar.specs.Written as written
use Rattle.tptp_grammar.specs.Printed.{Printed, plain_token, as_part, printed_terminals, name_terminal, truth_terminal, label_terminal, times_then, term_then, arguments_then, others_then, has_none, atom_then, signed_then, literal_then, barred_then, notes_then, noted_then, formula_then, printed}
use Rattle.tptp_grammar.specs.declared.part.Part.{Part}
use Rattle.tptp_grammar.specs.declared.part.Part.TheVariants.{Negative as NegativePart, Positive as PositivePart, Atom as AtomPart, Other as OtherPart, End as EndPart}
use Rattle.tptp_grammar.specs.Machine.{State, Between, Begun, Opened, Labelled, LabelEnd, Roled, FormulaStart, LiteralStart, Negated, AtomStart, ArgumentStart, Named, Done, LiteralEnd, FormulaEnd, NotesStart, Notes, Closed, step, step_named, step_done, step_notes, step_notes_start, step_opened, run_on, done_part, named_part, part_at, is_open_round, ends_at}

-- one token, with what it begins and whether it ends an atom
pub record Goes (s : State) (p : Printed) (u : State) (next : List Printed) : Type 0 where
  pub goes : step s p.terminal ≡ Some u
  pub part : p.part ≡ part_at s p.terminal
  pub ends : p.ends_atom ≡ ends_at u next

-- the tokens lead from one state to another
abbrev pub Runs : State → List Printed → State → Type 0
Runs s [] u = s ≡ u
Runs s (p ∷ ps) u = (v : State) × Goes s p v ps × Runs v ps u

-- some token comes, and it is no opening bracket
abbrev NotOpen : List Printed → Type 0
NotOpen [] = ⊥
NotOpen (p ∷ ps) = is_open_round p.terminal ≡ false

abbrev is_nil : List ℕ → Bool
is_nil [] = true
is_nil (n ∷ ns) = false

abbrev by_refl : (s : State) (p : Printed) (u : State) (next : List Printed) → step s p.terminal ≡ Some u → p.part ≡ part_at s p.terminal → p.ends_atom ≡ ends_at u next → Goes s p u next
by_refl s p u next g k e = record { goes = g; part = k; ends = e }

-- ---- terms

named_step : (ns : List ℕ) (b : Bool) (k : ℕ) (t : Terminal) → is_open_round t ≡ false → step_named ns b k t ≡ step_done ns b k t
named_step ns b k OpenRound e = absurd cc
named_step ns b k t e = refl

named_part_is : (ns : List ℕ) (t : Terminal) → is_open_round t ≡ false → done_part ns t ≡ named_part ns t
named_part_is ns OpenRound e = absurd cc
named_part_is ns t e = refl

named_runs : (ns : List ℕ) (b : Bool) (k : ℕ) (rest : List Printed) (u : State) → NotOpen rest → Runs (Done ns b k) rest u → Runs (Named ns b k) rest u
named_runs ns b k [] u o h = absurd o
named_runs ns b k (p ∷ ps) u o h = (h.0, record { goes = named_step ns b k p.terminal o ∙ h.1.goes; part = h.1.part ∙ named_part_is ns p.terminal o; ends = h.1.ends }, h.2)

name_step : (n : ℕ) (ns : List ℕ) (b : Bool) (k : ℕ) (f : Name) → step (ArgumentStart n ns b k) (name_terminal f) ≡ Some (Named (n ∷ ns) b k)
name_step n ns b k (Bare text) = refl
name_step n ns b k (Quoted text) = refl

others_not_open : (ends : Bool) (n : ℕ) (ts : WrittenTerms) (rest : List Printed) → NotOpen (others_then ends n ts rest)
others_not_open ends n NoTerms rest = refl
others_not_open ends n (OneMore t ts) rest = refl

last_ends : (ns : List ℕ) (b : Bool) (k : ℕ) (rest : List Printed) → is_nil ns ≡ ends_at (Done ns b k) rest
last_ends [] b k rest = refl
last_ends (n ∷ ns) b k rest = refl

mutual
  term_runs : (t : WrittenTerm) (n : ℕ) (ns : List ℕ) (b : Bool) (k : ℕ) (rest : List Printed) (u : State) → NotOpen rest → Runs (Done (n ∷ ns) b k) rest u → Runs (ArgumentStart n ns b k) (term_then n t rest) u
  term_runs (Variable text) n ns b k rest u o h = (Done (n ∷ ns) b k, record { goes = refl; part = refl; ends = refl }, h)
  term_runs (Distinct text) n ns b k rest u o h = (Done (n ∷ ns) b k, record { goes = refl; part = refl; ends = refl }, h)
  term_runs (Apply f args) n ns b k rest u o h = (Named (n ∷ ns) b k, record { goes = name_step n ns b k f; part = refl; ends = refl }, arguments_run args (n ∷ ns) b k rest u o h)

  arguments_run : (args : WrittenTerms) (ns : List ℕ) (b : Bool) (k : ℕ) (rest : List Printed) (u : State) → NotOpen rest → Runs (Done ns b k) rest u → Runs (Named ns b k) (arguments_then (is_nil ns) args rest) u
  arguments_run NoTerms ns b k rest u o h = named_runs ns b k rest u o h
  arguments_run (OneMore t ts) ns b k rest u o h = (
    ArgumentStart 1 ns b k,
    record { goes = refl; part = refl; ends = refl },
    term_runs t 1 ns b k (others_then (is_nil ns) 1 ts rest) u (others_not_open (is_nil ns) 1 ts rest) (others_run ts 1 ns b k rest u h),
  )

  others_run : (ts : WrittenTerms) (n : ℕ) (ns : List ℕ) (b : Bool) (k : ℕ) (rest : List Printed) (u : State) → Runs (Done ns b k) rest u → Runs (Done (n ∷ ns) b k) (others_then (is_nil ns) n ts rest) u
  others_run NoTerms n ns b k rest u h = (Done ns b k, record { goes = refl; part = refl; ends = last_ends ns b k rest }, h)
  others_run (OneMore t ts) n ns b k rest u h = (
    ArgumentStart (suc n) ns b k,
    record { goes = refl; part = refl; ends = refl },
    term_runs t (suc n) ns b k (others_then (is_nil ns) (suc n) ts rest) u (others_not_open (is_nil ns) (suc n) ts rest) (others_run ts (suc n) ns b k rest u h),
  )

-- ---- literals

-- a state behind which an atom may come
pub record AtomNext (s : State) (part : Part) (b : Bool) (k : ℕ) : Type 0 where
  pub lower : (text : List ℕ) → step s (LowerWord text) ≡ Some (Named [] b k)
  pub quoted : (text : List ℕ) → step s (SingleQuoted text) ≡ Some (Named [] b k)
  pub yes_step : step s (truth_terminal true) ≡ Some (Done [] b k)
  pub no_step : step s (truth_terminal false) ≡ Some (Done [] b k)
  pub lower_part : (text : List ℕ) → part ≡ part_at s (LowerWord text)
  pub quoted_part : (text : List ℕ) → part ≡ part_at s (SingleQuoted text)
  pub yes_part : part ≡ part_at s (truth_terminal true)
  pub no_part : part ≡ part_at s (truth_terminal false)

predicate_ends : (args : WrittenTerms) (b : Bool) (k : ℕ) (rest : List Printed) → NotOpen rest → has_none args ≡ ends_at (Named [] b k) (arguments_then true args rest)
predicate_ends NoTerms b k [] o = absurd o
predicate_ends NoTerms b k (p ∷ ps) o = ap not (sym o)
predicate_ends (OneMore t ts) b k rest o = refl

atom_runs : (a : WrittenAtom) (s : State) (part : Part) (b : Bool) (k : ℕ) (rest : List Printed) (u : State) → AtomNext s part b k → NotOpen rest → Runs (Done [] b k) rest u → Runs s (atom_then part a rest) u
atom_runs (Truth true) s part b k rest u n o h = (Done [] b k, record { goes = n.yes_step; part = n.yes_part; ends = refl }, h)
atom_runs (Truth false) s part b k rest u n o h = (Done [] b k, record { goes = n.no_step; part = n.no_part; ends = refl }, h)
atom_runs (Predicate (Bare text) args) s part b k rest u n o h =
    (Named [] b k, record { goes = n.lower text; part = n.lower_part text; ends = predicate_ends args b k rest o }, arguments_run args [] b k rest u o h)
atom_runs (Predicate (Quoted text) args) s part b k rest u n o h =
    (Named [] b k, record { goes = n.quoted text; part = n.quoted_part text; ends = predicate_ends args b k rest o }, arguments_run args [] b k rest u o h)

-- behind an atom with no brackets of its own, and behind a literal, the same comes
end_runs : (k : ℕ) (rest : List Printed) (u : State) → NotOpen rest → Runs (LiteralEnd k) rest u → Runs (Done [] false k) rest u
end_runs k [] u o h = absurd o
end_runs k (p ∷ ps) u o h = (h.0, record { goes = h.1.goes; part = h.1.part; ends = h.1.ends }, h.2)

after_tilde : (k : ℕ) → AtomNext (Negated k) AtomPart false k
after_tilde k = record { lower = λ text. refl; quoted = λ text. refl; yes_step = refl; no_step = refl; lower_part = λ text. refl; quoted_part = λ text. refl; yes_part = refl; no_part = refl }

in_brackets : (k : ℕ) → AtomNext (AtomStart k) AtomPart true k
in_brackets k = record { lower = λ text. refl; quoted = λ text. refl; yes_step = refl; no_step = refl; lower_part = λ text. refl; quoted_part = λ text. refl; yes_part = refl; no_part = refl }

after_bar : (k : ℕ) → AtomNext (LiteralStart k) PositivePart false k
after_bar k = record { lower = λ text. refl; quoted = λ text. refl; yes_step = refl; no_step = refl; lower_part = λ text. refl; quoted_part = λ text. refl; yes_part = refl; no_part = refl }

at_start : (k : ℕ) → AtomNext (FormulaStart k) PositivePart false k
at_start k = record { lower = λ text. refl; quoted = λ text. refl; yes_step = refl; no_step = refl; lower_part = λ text. refl; quoted_part = λ text. refl; yes_part = refl; no_part = refl }

signed_runs : (sign : Sign) (a : WrittenAtom) (s : State) (k : ℕ) (rest : List Printed) (u : State) → AtomNext s PositivePart false k → step s Tilde ≡ Some (Negated k) → NegativePart ≡ part_at s Tilde → NotOpen rest → Runs (LiteralEnd k) rest u → Runs s (signed_then sign a rest) u
signed_runs Positive a s k rest u n t p o h = atom_runs a s PositivePart false k rest u n o (end_runs k rest u o h)
signed_runs Negative a s k rest u n t p o h = (Negated k, record { goes = t; part = p; ends = refl }, atom_runs a (Negated k) AtomPart false k rest u (after_tilde k) o (end_runs k rest u o h))
signed_runs NegativeInBrackets a s k rest u n t p o h = (
  Negated k,
  record { goes = t; part = p; ends = refl },
  (
    AtomStart k,
    record { goes = refl; part = refl; ends = refl },
    atom_runs a (AtomStart k) AtomPart true k (plain_token CloseRound ∷ rest) u (in_brackets k) refl (LiteralEnd k, record { goes = refl; part = refl; ends = refl }, h),
  ),
)

barred_not_open : (ls : List WrittenLiteral) (rest : List Printed) → NotOpen rest → NotOpen (barred_then ls rest)
barred_not_open [] rest o = o
barred_not_open (l ∷ ls) rest o = refl

barred_runs : (ls : List WrittenLiteral) (k : ℕ) (rest : List Printed) (u : State) → NotOpen rest → Runs (LiteralEnd k) rest u → Runs (LiteralEnd k) (barred_then ls rest) u
barred_runs [] k rest u o h = h
barred_runs (l ∷ ls) k rest u o h = (
  LiteralStart k,
  record { goes = refl; part = refl; ends = refl },
  signed_runs l.sign l.atom (LiteralStart k) k (barred_then ls rest) u (after_bar k) refl refl (barred_not_open ls rest o) (barred_runs ls k rest u o h),
)

-- ---- notes

note_step : (bs : List Bool) (t : Terminal) → is_note t ≡ true → step_notes bs t ≡ Some (Notes bs)
note_step bs OpenRound e = absurd cc
note_step bs CloseRound e = absurd cc
note_step bs OpenSquare e = absurd cc
note_step bs CloseSquare e = absurd cc
note_step bs Dot e = absurd cc
note_step bs Bad e = absurd cc
note_step bs t e = refl

first_note_step : (t : Terminal) → is_note t ≡ true → step_notes_start t ≡ Some (Notes [])
first_note_step OpenRound e = absurd cc
first_note_step CloseRound e = absurd cc
first_note_step OpenSquare e = absurd cc
first_note_step CloseSquare e = absurd cc
first_note_step Dot e = absurd cc
first_note_step Bad e = absurd cc
first_note_step t e = refl

notes_run : (ns : written.Notes) (bs : List Bool) (rest : List Printed) (u : State) → Runs (Notes bs) rest u → Runs (Notes bs) (notes_then ns rest) u
notes_run NoNotes bs rest u h = h
notes_run (Note t known ns) bs rest u h = (Notes bs, record { goes = note_step bs t known; part = refl; ends = refl }, notes_run ns bs rest u h)
notes_run (InRound inner ns) bs rest u h = (
  Notes (true ∷ bs),
  record { goes = refl; part = refl; ends = refl },
  notes_run inner (true ∷ bs) (plain_token CloseRound ∷ notes_then ns rest) u (Notes bs, record { goes = refl; part = refl; ends = refl }, notes_run ns bs rest u h),
)
notes_run (InSquare inner ns) bs rest u h = (
  Notes (false ∷ bs),
  record { goes = refl; part = refl; ends = refl },
  notes_run inner (false ∷ bs) (plain_token CloseSquare ∷ notes_then ns rest) u (Notes bs, record { goes = refl; part = refl; ends = refl }, notes_run ns bs rest u h),
)

abbrev line_then : List Printed → List Printed
line_then rest = plain_token CloseRound ∷ as_part EndPart Dot ∷ rest

line_runs : (s : State) (rest : List Printed) (u : State) → step s CloseRound ≡ Some Closed → OtherPart ≡ part_at s CloseRound → Runs Between rest u → Runs s (line_then rest) u
line_runs s rest u c p h = (Closed, record { goes = c; part = p; ends = refl }, (Between, record { goes = refl; part = refl; ends = refl }, h))

noted_runs : (ns : written.Notes) (s : State) (rest : List Printed) (u : State) → step s CloseRound ≡ Some Closed → step s Comma ≡ Some NotesStart → OtherPart ≡ part_at s CloseRound → OtherPart ≡ part_at s Comma
    → Runs Between rest u → Runs s (noted_then ns (line_then rest)) u
noted_runs NoNotes s rest u c d p q h = line_runs s rest u c p h
noted_runs (Note t known ns) s rest u c d p q h = (
  NotesStart,
  record { goes = d; part = q; ends = refl },
  (
    Notes [],
    record { goes = first_note_step t known; part = refl; ends = refl },
    notes_run ns [] (line_then rest) u (line_runs (Notes []) rest u refl refl h),
  ),
)
noted_runs (InRound inner ns) s rest u c d p q h = (
  NotesStart,
  record { goes = d; part = q; ends = refl },
  (
    Notes (true ∷ []),
    record { goes = refl; part = refl; ends = refl },
    notes_run inner (true ∷ []) (plain_token CloseRound ∷ notes_then ns (line_then rest)) u (Notes [], record { goes = refl; part = refl; ends = refl }, notes_run ns [] (line_then rest) u (line_runs (Notes []) rest u refl refl h)),
  ),
)
noted_runs (InSquare inner ns) s rest u c d p q h = (
  NotesStart,
  record { goes = d; part = q; ends = refl },
  (
    Notes (false ∷ []),
    record { goes = refl; part = refl; ends = refl },
    notes_run inner (false ∷ []) (plain_token CloseSquare ∷ notes_then ns (line_then rest)) u (Notes [], record { goes = refl; part = refl; ends = refl }, notes_run ns [] (line_then rest) u (line_runs (Notes []) rest u refl refl h)),
  ),
)

-- ---- formulas

abbrev tail_then : ℕ → written.Notes → List Printed → List Printed
tail_then k ns rest = times_then k (plain_token CloseRound) (noted_then ns (line_then rest))

tail_runs : (k : ℕ) (ns : written.Notes) (rest : List Printed) (u : State) → Runs Between rest u → Runs (FormulaEnd k) (tail_then k ns rest) u
tail_runs zero ns rest u h = noted_runs ns (FormulaEnd 0) rest u refl refl refl refl h
tail_runs (suc k) ns rest u h = (FormulaEnd k, record { goes = refl; part = refl; ends = refl }, tail_runs k ns rest u h)

literals_tail_runs : (k : ℕ) (ns : written.Notes) (rest : List Printed) (u : State) → Runs Between rest u → Runs (LiteralEnd k) (tail_then k ns rest) u
literals_tail_runs zero ns rest u h = noted_runs ns (LiteralEnd 0) rest u refl refl refl refl h
literals_tail_runs (suc k) ns rest u h = (FormulaEnd k, record { goes = refl; part = refl; ends = refl }, tail_runs k ns rest u h)

noted_not_open : (ns : written.Notes) (rest : List Printed) → NotOpen (noted_then ns (line_then rest))
noted_not_open NoNotes rest = refl
noted_not_open (Note t known ns) rest = refl
noted_not_open (InRound inner ns) rest = refl
noted_not_open (InSquare inner ns) rest = refl

tail_not_open : (k : ℕ) (ns : written.Notes) (rest : List Printed) → NotOpen (tail_then k ns rest)
tail_not_open zero ns rest = noted_not_open ns rest
tail_not_open (suc k) ns rest = refl

opens_run : (j k m : ℕ) (rest : List Printed) (u : State) → m ≡ j + k → Runs (FormulaStart m) rest u → Runs (FormulaStart k) (times_then j (plain_token OpenRound) rest) u
opens_run zero k m rest u e h = let same : m ≡ k = omega (arith, e) in subst (λ (x : ℕ). Runs (FormulaStart x) rest u) same h
opens_run (suc j) k m rest u e h = (FormulaStart (suc k), record { goes = refl; part = refl; ends = refl }, opens_run j (suc k) m rest u (omega (arith, e)) h)

label_step : (label : WrittenLabel) → step_opened (label_terminal label) ≡ Some Labelled
label_step (written.Named (Bare text)) = refl
label_step (written.Named (Quoted text)) = refl
label_step (Numbered digits) = refl

role_step : (role : List ℕ) → is_role role ≡ true → step LabelEnd (LowerWord role) ≡ Some Roled
role_step role e = rw e refl

formula_runs : (f : WrittenFormula) (rest : List Printed) (u : State) → Runs Between rest u → Runs Between (formula_then f rest) u
formula_runs f rest u h =
    let k : ℕ = f.brackets in
    let tail : List Printed = tail_then k f.notes rest in
    let o : NotOpen tail = tail_not_open k f.notes rest in (
      Begun,
      record { goes = refl; part = refl; ends = refl },
      (
        Opened,
        record { goes = refl; part = refl; ends = refl },
        (
          Labelled,
          record { goes = label_step f.label; part = refl; ends = refl },
          (
            LabelEnd,
            record { goes = refl; part = refl; ends = refl },
            (
              Roled,
              record { goes = role_step f.role f.role_known; part = refl; ends = refl },
              (
                FormulaStart 0,
                record { goes = refl; part = refl; ends = refl },
                opens_run k 0 k (literal_then f.first (barred_then f.others tail)) u (omega arith)
                    (signed_runs f.first.sign f.first.atom (FormulaStart k) k (barred_then f.others tail) u (at_start k) refl refl (barred_not_open f.others tail o)
                    (barred_runs f.others k tail u o (literals_tail_runs k f.notes rest u h))),
              ),
            ),
          ),
        ),
      ),
    )

pub file_runs : (fs : List WrittenFormula) → Runs Between (printed fs) Between
file_runs [] = refl
file_runs (f ∷ fs) = formula_runs f (printed fs) Between (file_runs fs)

-- ---- runs and states

pub run_of : (s : State) (ps : List Printed) (u : State) → Runs s ps u → run_on (Some s) (printed_terminals ps) ≡ Some u
run_of s [] u h = ap (λ (x : State). Some x) h
run_of s (p ∷ ps) u h = ap (λ (o : Option State). run_on o (printed_terminals ps)) h.1.goes ∙ run_of h.0 ps u h.2
