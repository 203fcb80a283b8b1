-- The tokens of formulas one behind another are those of each.
use Rattle.std.proofs.Common.{◌≡◌, ℕ, zero, suc, Bool, List, [], ◌∷◌, ◌++◌, refl, sym, ap, ◌∙◌, append_assoc}
use Rattle.std.proofs.lemmas.List.{map-append}
use Rattle.tptp_grammar.specs.Terminals.{Terminal, OpenRound, CloseRound, CloseSquare, Dot}
use Rattle.tptp_grammar.specs.Terminals as terminal
use Rattle.tptp_grammar.specs.Written as written
use Rattle.tptp_grammar.specs.Written.{WrittenTerm, Distinct, Apply, WrittenTerms, NoTerms, OneMore, WrittenAtom, Truth, Predicate, Sign, Positive, Negative, NegativeInBrackets, WrittenLiteral, Notes, NoNotes, Note, InRound, InSquare, WrittenFormula}
use Rattle.tptp_grammar.specs.Printed.{Printed, plain_token, as_part, printed_terminals, times_then, term_then, arguments_then, others_then, atom_then, signed_then, literal_then, barred_then, notes_then, noted_then, formula_then, printed}
use Rattle.tptp_grammar.specs.declared.part.Part.{Part}
use Rattle.tptp_grammar.specs.declared.part.Part.TheVariants.{End as EndPart}

put : (p : Printed) {xs ys : List Printed} → xs ≡ ys → p ∷ xs ≡ p ∷ ys
put p e = ap (λ (x : List Printed). p ∷ x) e

mutual
  term_then-append : (t : WrittenTerm) (n : ℕ) (rest more : List Printed) → term_then n t (rest ++ more) ≡ term_then n t rest ++ more
  term_then-append (written.Variable text) n rest more = refl
  term_then-append (Distinct text) n rest more = refl
  term_then-append (Apply name ts) n rest more = put _ (arguments_then-append ts _ rest more)

  arguments_then-append : (ts : WrittenTerms) (ends : Bool) (rest more : List Printed) → arguments_then ends ts (rest ++ more) ≡ arguments_then ends ts rest ++ more
  arguments_then-append NoTerms ends rest more = refl
  arguments_then-append (OneMore t ts) ends rest more = put _ (ap (term_then 1 t) (others_then-append ts ends 1 rest more) ∙ term_then-append t 1 (others_then ends 1 ts rest) more)

  others_then-append : (ts : WrittenTerms) (ends : Bool) (n : ℕ) (rest more : List Printed) → others_then ends n ts (rest ++ more) ≡ others_then ends n ts rest ++ more
  others_then-append NoTerms ends n rest more = refl
  others_then-append (OneMore t ts) ends n rest more = put _ (ap (term_then (suc n) t) (others_then-append ts ends (suc n) rest more) ∙ term_then-append t (suc n) (others_then ends (suc n) ts rest) more)

atom_then-append : (a : WrittenAtom) (part : Part) (rest more : List Printed) → atom_then part a (rest ++ more) ≡ atom_then part a rest ++ more
atom_then-append (Truth value) part rest more = refl
atom_then-append (Predicate name ts) part rest more = put _ (arguments_then-append ts _ rest more)

signed_then-append : (s : Sign) (a : WrittenAtom) (rest more : List Printed) → signed_then s a (rest ++ more) ≡ signed_then s a rest ++ more
signed_then-append Positive a rest more = atom_then-append a _ rest more
signed_then-append Negative a rest more = put _ (atom_then-append a _ rest more)
signed_then-append NegativeInBrackets a rest more = put _ (put _ (atom_then-append a _ (plain_token CloseRound ∷ rest) more))

barred_then-append : (ls : List WrittenLiteral) (rest more : List Printed) → barred_then ls (rest ++ more) ≡ barred_then ls rest ++ more
barred_then-append [] rest more = refl
barred_then-append (l ∷ ls) rest more = put _ (ap (literal_then l) (barred_then-append ls rest more) ∙ signed_then-append l.sign l.atom (barred_then ls rest) more)

times_then-append : (n : ℕ) (p : Printed) (rest more : List Printed) → times_then n p (rest ++ more) ≡ times_then n p rest ++ more
times_then-append zero p rest more = refl
times_then-append (suc n) p rest more = put p (times_then-append n p rest more)

notes_then-append : (ns : Notes) (rest more : List Printed) → notes_then ns (rest ++ more) ≡ notes_then ns rest ++ more
notes_then-append NoNotes rest more = refl
notes_then-append (Note t known ns) rest more = put _ (notes_then-append ns rest more)
notes_then-append (InRound inner ns) rest more =
    put _ (ap (notes_then inner) (put (plain_token CloseRound) (notes_then-append ns rest more)) ∙ notes_then-append inner (plain_token CloseRound ∷ notes_then ns rest) more)
notes_then-append (InSquare inner ns) rest more =
    put _ (ap (notes_then inner) (put (plain_token CloseSquare) (notes_then-append ns rest more)) ∙ notes_then-append inner (plain_token CloseSquare ∷ notes_then ns rest) more)

noted_then-append : (ns : Notes) (rest more : List Printed) → noted_then ns (rest ++ more) ≡ noted_then ns rest ++ more
noted_then-append NoNotes rest more = refl
noted_then-append (Note t known ns) rest more = put _ (notes_then-append (Note t known ns) rest more)
noted_then-append (InRound inner ns) rest more = put _ (notes_then-append (InRound inner ns) rest more)
noted_then-append (InSquare inner ns) rest more = put _ (notes_then-append (InSquare inner ns) rest more)

abbrev line_then : List Printed → List Printed
line_then rest = plain_token CloseRound ∷ as_part EndPart Dot ∷ rest

tail-append : (n : ℕ) (ns : Notes) (rest more : List Printed) → times_then n (plain_token CloseRound) (noted_then ns (line_then (rest ++ more))) ≡ times_then n (plain_token CloseRound) (noted_then ns (line_then rest)) ++ more
tail-append n ns rest more = ap (times_then n (plain_token CloseRound)) (noted_then-append ns (line_then rest) more) ∙ times_then-append n (plain_token CloseRound) (noted_then ns (line_then rest)) more

formula_then-append : (f : WrittenFormula) (rest more : List Printed) → formula_then f (rest ++ more) ≡ formula_then f rest ++ more
formula_then-append f rest more =
    let tail : List Printed = times_then f.brackets (plain_token CloseRound) (noted_then f.notes (line_then rest)) in
    let body : List Printed = literal_then f.first (barred_then f.others tail) in
    put _ (put _ (put _ (put _ (put _ (put _ (
    ap (λ (x : List Printed). times_then f.brackets (plain_token OpenRound) (literal_then f.first (barred_then f.others x))) (tail-append f.brackets f.notes rest more)
    ∙ ap (λ (x : List Printed). times_then f.brackets (plain_token OpenRound) (literal_then f.first x)) (barred_then-append f.others tail more)
    ∙ ap (times_then f.brackets (plain_token OpenRound)) (signed_then-append f.first.sign f.first.atom (barred_then f.others tail) more)
    ∙ times_then-append f.brackets (plain_token OpenRound) body more
    ))))))

pub printed-append : (fs gs : List WrittenFormula) → printed (fs ++ gs) ≡ printed fs ++ printed gs
printed-append [] gs = refl
printed-append (f ∷ fs) gs = ap (formula_then f) (printed-append fs gs) ∙ formula_then-append f (printed fs) (printed gs)

pub terminals-append : (fs gs : List WrittenFormula) → printed_terminals (printed (fs ++ gs)) ≡ printed_terminals (printed fs) ++ printed_terminals (printed gs)
terminals-append fs gs = ap printed_terminals (printed-append fs gs) ∙ map-append (λ p. p.terminal) (printed fs) (printed gs)
