-- From each state some tokens lead to the end of a file.
use Rattle.std.proofs.Common.{◌≡◌, ℕ, zero, suc, Bool, true, false, List, [], ◌∷◌, Some, codes, refl}
use Rattle.tptp_grammar.specs.Terminals.{Terminal, LowerWord, OpenRound, CloseRound, CloseSquare, Comma, Dot}
use Rattle.tptp_grammar.specs.Machine.{State, Between, Begun, Opened, Labelled, LabelEnd, Roled, FormulaStart, LiteralStart, Negated, AtomStart, ArgumentStart, Named, Done, LiteralEnd, FormulaEnd, NotesStart, Notes, Closed, after_bracket, run_on}

abbrev pub word : Terminal
word = LowerWord (codes "a")

abbrev behind_bracket : ℕ → List Terminal
behind_bracket zero = Dot ∷ []
behind_bracket (suc k) = CloseRound ∷ behind_bracket k

abbrev formula_completion : ℕ → List Terminal
formula_completion k = CloseRound ∷ behind_bracket k

abbrev done_completion : List ℕ → Bool → ℕ → List Terminal
done_completion [] true k = CloseRound ∷ formula_completion k
done_completion [] false k = formula_completion k
done_completion (n ∷ ns) b k = CloseRound ∷ done_completion ns b k

abbrev notes_completion : List Bool → List Terminal
notes_completion [] = CloseRound ∷ Dot ∷ []
notes_completion (true ∷ bs) = CloseRound ∷ notes_completion bs
notes_completion (false ∷ bs) = CloseSquare ∷ notes_completion bs

abbrev literal_completion : ℕ → List Terminal
literal_completion k = word ∷ formula_completion k

abbrev role_completion : List Terminal
role_completion = LowerWord (codes "plain") ∷ Comma ∷ literal_completion 0

-- tokens that make a file of those that led to the state
abbrev pub completion : State → List Terminal
completion Between = LowerWord (codes "cnf") ∷ OpenRound ∷ word ∷ Comma ∷ role_completion
completion Begun = OpenRound ∷ word ∷ Comma ∷ role_completion
completion Opened = word ∷ Comma ∷ role_completion
completion Labelled = Comma ∷ role_completion
completion LabelEnd = role_completion
completion Roled = Comma ∷ literal_completion 0
completion (FormulaStart k) = literal_completion k
completion (LiteralStart k) = literal_completion k
completion (Negated k) = literal_completion k
completion (AtomStart k) = word ∷ CloseRound ∷ formula_completion k
completion (ArgumentStart n ns b k) = word ∷ done_completion (n ∷ ns) b k
completion (Named ns b k) = done_completion ns b k
completion (Done ns b k) = done_completion ns b k
completion (LiteralEnd k) = formula_completion k
completion (FormulaEnd k) = formula_completion k
completion NotesStart = word ∷ notes_completion []
completion (Notes bs) = notes_completion bs
completion Closed = Dot ∷ []

bracket_completes : (k : ℕ) → run_on (Some (after_bracket k)) (behind_bracket k) ≡ Some Between
bracket_completes zero = refl
bracket_completes (suc k) = bracket_completes k

done_completes : (ns : List ℕ) (b : Bool) (k : ℕ) → run_on (Some (Done ns b k)) (done_completion ns b k) ≡ Some Between
done_completes [] true k = bracket_completes k
done_completes [] false k = bracket_completes k
done_completes (n ∷ ns) b k = done_completes ns b k

named_completes : (ns : List ℕ) (b : Bool) (k : ℕ) → run_on (Some (Named ns b k)) (done_completion ns b k) ≡ Some Between
named_completes [] true k = bracket_completes k
named_completes [] false k = bracket_completes k
named_completes (n ∷ ns) b k = done_completes ns b k

notes_complete : (bs : List Bool) → run_on (Some (Notes bs)) (notes_completion bs) ≡ Some Between
notes_complete [] = refl
notes_complete (true ∷ bs) = notes_complete bs
notes_complete (false ∷ bs) = notes_complete bs

pub completes : (s : State) → run_on (Some s) (completion s) ≡ Some Between
completes Between = refl
completes Begun = refl
completes Opened = refl
completes Labelled = refl
completes LabelEnd = refl
completes Roled = refl
completes (FormulaStart k) = bracket_completes k
completes (LiteralStart k) = bracket_completes k
completes (Negated k) = bracket_completes k
completes (AtomStart k) = bracket_completes k
completes (ArgumentStart n ns b k) = done_completes ns b k
completes (Named ns b k) = named_completes ns b k
completes (Done ns b k) = done_completes ns b k
completes (LiteralEnd k) = bracket_completes k
completes (FormulaEnd k) = bracket_completes k
completes NotesStart = refl
completes (Notes bs) = notes_complete bs
completes Closed = refl
