-- Tokens are the lines of at most one file.
use Rattle.std.proofs.Common.{◌≡◌, ℕ, zero, suc, ◌+◌, Bool, true, false, List, [], ◌∷◌, ◌++◌, map, length, Option, Some, None, codes, refl, sym, ap, ◌∙◌, append_assoc, arith}
use Rattle.std.proofs.lemmas.List.{append-nil, map-append, length-append}
use Rattle.me_terms.specs.Values.{LabelValue}
use Rattle.tptp_tokens.specs.Tokens.{PlacedToken}
use Rattle.tptp_grammar.specs.Terminals.{Terminal, LowerWord, SingleQuoted, OpenRound, CloseRound, OpenSquare, CloseSquare, Comma, Dot, is_note, terminal, terminals}
use Rattle.tptp_grammar.specs.Written as written
use Rattle.tptp_grammar.specs.Written.{Bare, Quoted, WrittenTerm, Distinct, Apply, WrittenTerms, NoTerms, OneMore, WrittenAtom, Truth, Predicate, Sign, Positive, Negative, NegativeInBrackets, WrittenLiteral, WrittenLabel, Named, Numbered, Notes, NoNotes, Note, InRound, InSquare, WrittenFormula}
use Rattle.tptp_grammar.specs.Printed.{Printed, plain_token, as_part, printed_terminals, times_then, term_then, arguments_then, others_then, atom_then, signed_then, literal_then, barred_then, notes_then, noted_then, formula_then, printed, label_terminal}
use Rattle.tptp_grammar.specs.Machine.{State, Between, run_on}
use Rattle.tptp_grammar.specs.declared.part.Part.{Part}
use Rattle.tptp_grammar.specs.declared.part.Part.TheVariants.{End as EndPart}
use Rattle.tptp_grammar.proofs.Fronts.{run-append}
use Rattle.tptp_grammar.proofs.Rests.{file_of}
use Rattle.tptp_grammar.proofs.Runs.{file_runs, run_of}
use Rattle.tptp_cnf.specs.Meaning.{label_of}
use Rattle.tptp_cnf.specs.Rows.{label_as}
use Rattle.tptp_lines.specs.WrittenLines.{Selection, WrittenInclude, WrittenLine, FormulaLine, IncludeLine, commaed, selection_terminals, include_terminals, line_terminals}
use Rattle.tptp_lines.specs.Lines.{LineValue, Formula, Include, Piece, tokens_of, first_place, last_place, picks_of, value_of, piece_value}
use Rattle.tptp_lines.proofs.Reached.{label_is}

-- ---- includes

-- the names behind a first one, and what comes behind their bracket
record SameNames (first other : WrittenLabel) (others more : List WrittenLabel) (rest last : List Terminal) : Type 0 where
  names : label_of first ∷ map label_of others ≡ label_of other ∷ map label_of more
  tail : rest ≡ last

label_same : (l m : WrittenLabel) → label_terminal l ≡ label_terminal m → label_of l ≡ label_of m
label_same l m e = sym (label_is l) ∙ ap label_as e ∙ label_is m

same_names : (l m : WrittenLabel) (ls ms : List WrittenLabel) (rest last : List Terminal) → label_terminal l ∷ (commaed ls ++ CloseSquare ∷ rest) ≡ label_terminal m ∷ (commaed ms ++ CloseSquare ∷ last) → SameNames l m ls ms rest last
same_names l m [] [] rest last e = let head : label_terminal l ≡ label_terminal m = cc in record { names = ap (λ (x : LabelValue). x ∷ []) (label_same l m head); tail = cc }
same_names l m (a ∷ ls) [] rest last e = let no : CloseSquare ≡ Comma = cc in absurd cc
same_names l m [] (b ∷ ms) rest last e = let no : CloseSquare ≡ Comma = cc in absurd cc
same_names l m (a ∷ ls) (b ∷ ms) rest last e =
    let head : label_terminal l ≡ label_terminal m = cc in
    let tails : label_terminal a ∷ (commaed ls ++ CloseSquare ∷ rest) ≡ label_terminal b ∷ (commaed ms ++ CloseSquare ∷ last) = cc in
    let h = same_names a b ls ms rest last tails in
    record { names = ap (λ (x : LabelValue). x ∷ label_of a ∷ map label_of ls) (label_same l m head) ∙ ap (λ (x : List LabelValue). label_of m ∷ x) h.names; tail = h.tail }

pub record SameInclude (i j : WrittenInclude) (rest last : List Terminal) : Type 0 where
  pub file : i.file ≡ j.file
  pub picks : picks_of i.selection ≡ picks_of j.selection
  pub tail : rest ≡ last

record SamePicks (s t : Option Selection) (rest last : List Terminal) : Type 0 where
  picks : picks_of s ≡ picks_of t
  tail : rest ≡ last

-- what stands behind the name of a file
abbrev behind_name : Option Selection → List Terminal → List Terminal
behind_name s rest = (selection_terminals s ++ CloseRound ∷ Dot ∷ []) ++ rest

selection_row : (s : Selection) (rest : List Terminal) → behind_name (Some s) rest ≡ Comma ∷ OpenSquare ∷ label_terminal s.first ∷ (commaed s.others ++ CloseSquare ∷ CloseRound ∷ Dot ∷ rest)
selection_row s rest =
    append_assoc (selection_terminals (Some s)) (CloseRound ∷ Dot ∷ []) rest
    ∙ ap (λ (x : List Terminal). Comma ∷ OpenSquare ∷ label_terminal s.first ∷ x) (append_assoc (commaed s.others) (CloseSquare ∷ []) (CloseRound ∷ Dot ∷ rest))

same_picks : (s t : Option Selection) (rest last : List Terminal) → behind_name s rest ≡ behind_name t last → SamePicks s t rest last
same_picks None None rest last e = record { picks = refl; tail = cc }
same_picks None (Some t) rest last e = let no : CloseRound ≡ Comma = cc in absurd cc
same_picks (Some s) None rest last e = let no : CloseRound ≡ Comma = cc in absurd cc
same_picks (Some s) (Some t) rest last e =
    let row = sym (selection_row s rest) ∙ e ∙ selection_row t last in
    let tails : label_terminal s.first ∷ (commaed s.others ++ CloseSquare ∷ CloseRound ∷ Dot ∷ rest) ≡ label_terminal t.first ∷ (commaed t.others ++ CloseSquare ∷ CloseRound ∷ Dot ∷ last) = cc in
    let h = same_names s.first t.first s.others t.others (CloseRound ∷ Dot ∷ rest) (CloseRound ∷ Dot ∷ last) tails in
    let end : CloseRound ∷ Dot ∷ rest ≡ CloseRound ∷ Dot ∷ last = h.tail in
    record { picks = ap (λ (x : List LabelValue). Some x) h.names; tail = cc }

-- tokens begin with at most one include
pub one_include : (i j : WrittenInclude) (rest last : List Terminal) → include_terminals i ++ rest ≡ include_terminals j ++ last → SameInclude i j rest last
one_include i j rest last e =
    let names : SingleQuoted i.file ≡ SingleQuoted j.file = cc in
    let tails : behind_name i.selection rest ≡ behind_name j.selection last = cc in
    let h = same_picks i.selection j.selection rest last tails in
    record { file = cc; picks = h.picks; tail = h.tail }

-- ---- formulas

-- how many full stops there are
abbrev dots : List Terminal → ℕ
dots [] = 0
dots (Dot ∷ ts) = suc (dots ts)
dots (t ∷ ts) = dots ts

abbrev dots_in : List Printed → ℕ
dots_in ps = dots (printed_terminals ps)

mutual
  term_dots : (t : WrittenTerm) (n : ℕ) (rest : List Printed) → dots_in (term_then n t rest) ≡ dots_in rest
  term_dots (written.Variable text) n rest = refl
  term_dots (Distinct text) n rest = refl
  term_dots (Apply (Bare text) ts) n rest = arguments_dots ts false rest
  term_dots (Apply (Quoted text) ts) n rest = arguments_dots ts false rest

  arguments_dots : (ts : WrittenTerms) (ends : Bool) (rest : List Printed) → dots_in (arguments_then ends ts rest) ≡ dots_in rest
  arguments_dots NoTerms ends rest = refl
  arguments_dots (OneMore t ts) ends rest = term_dots t 1 (others_then ends 1 ts rest) ∙ others_dots ts ends 1 rest

  others_dots : (ts : WrittenTerms) (ends : Bool) (n : ℕ) (rest : List Printed) → dots_in (others_then ends n ts rest) ≡ dots_in rest
  others_dots NoTerms ends n rest = refl
  others_dots (OneMore t ts) ends n rest = term_dots t (suc n) (others_then ends (suc n) ts rest) ∙ others_dots ts ends (suc n) rest

atom_dots : (a : WrittenAtom) (part : Part) (rest : List Printed) → dots_in (atom_then part a rest) ≡ dots_in rest
atom_dots (Truth true) part rest = refl
atom_dots (Truth false) part rest = refl
atom_dots (Predicate (Bare text) ts) part rest = arguments_dots ts true rest
atom_dots (Predicate (Quoted text) ts) part rest = arguments_dots ts true rest

signed_dots : (s : Sign) (a : WrittenAtom) (rest : List Printed) → dots_in (signed_then s a rest) ≡ dots_in rest
signed_dots Positive a rest = atom_dots a _ rest
signed_dots Negative a rest = atom_dots a _ rest
signed_dots NegativeInBrackets a rest = atom_dots a _ (plain_token CloseRound ∷ rest)

barred_dots : (ls : List WrittenLiteral) (rest : List Printed) → dots_in (barred_then ls rest) ≡ dots_in rest
barred_dots [] rest = refl
barred_dots (l ∷ ls) rest = signed_dots l.sign l.atom (barred_then ls rest) ∙ barred_dots ls rest

opens_dots : (n : ℕ) (rest : List Printed) → dots_in (times_then n (plain_token OpenRound) rest) ≡ dots_in rest
opens_dots zero rest = refl
opens_dots (suc n) rest = opens_dots n rest

closes_dots : (n : ℕ) (rest : List Printed) → dots_in (times_then n (plain_token CloseRound) rest) ≡ dots_in rest
closes_dots zero rest = refl
closes_dots (suc n) rest = closes_dots n rest

note_dots : (t : Terminal) (ts : List Terminal) → is_note t ≡ true → dots (t ∷ ts) ≡ dots ts
note_dots Dot ts known = absurd cc
note_dots t ts known = refl

notes_dots : (ns : Notes) (rest : List Printed) → dots_in (notes_then ns rest) ≡ dots_in rest
notes_dots NoNotes rest = refl
notes_dots (Note t known ns) rest = note_dots t (printed_terminals (notes_then ns rest)) known ∙ notes_dots ns rest
notes_dots (InRound inner ns) rest = notes_dots inner (plain_token CloseRound ∷ notes_then ns rest) ∙ notes_dots ns rest
notes_dots (InSquare inner ns) rest = notes_dots inner (plain_token CloseSquare ∷ notes_then ns rest) ∙ notes_dots ns rest

noted_dots : (ns : Notes) (rest : List Printed) → dots_in (noted_then ns rest) ≡ dots_in rest
noted_dots NoNotes rest = refl
noted_dots (Note t known ns) rest = notes_dots (Note t known ns) rest
noted_dots (InRound inner ns) rest = notes_dots (InRound inner ns) rest
noted_dots (InSquare inner ns) rest = notes_dots (InSquare inner ns) rest

label_dots : (l : WrittenLabel) (ts : List Terminal) → dots (label_terminal l ∷ ts) ≡ dots ts
label_dots (Named (Bare text)) ts = refl
label_dots (Named (Quoted text)) ts = refl
label_dots (Numbered text) ts = refl

formula_dots : (f : WrittenFormula) (rest : List Printed) → dots_in (formula_then f rest) ≡ suc (dots_in rest)
formula_dots f rest =
    let end : List Printed = plain_token CloseRound ∷ as_part EndPart Dot ∷ rest in
    let noted : List Printed = noted_then f.notes end in
    let tail : List Printed = times_then f.brackets (plain_token CloseRound) noted in
    let body : List Printed = literal_then f.first (barred_then f.others tail) in
    label_dots f.label (Comma ∷ LowerWord f.role ∷ Comma ∷ printed_terminals (times_then f.brackets (plain_token OpenRound) body))
    ∙ opens_dots f.brackets body
    ∙ signed_dots f.first.sign f.first.atom (barred_then f.others tail)
    ∙ barred_dots f.others tail
    ∙ closes_dots f.brackets noted
    ∙ noted_dots f.notes end

file_dots : (fs : List WrittenFormula) → dots_in (printed fs) ≡ length fs
file_dots [] = refl
file_dots (f ∷ fs) = formula_dots f (printed fs) ∙ ap suc (file_dots fs)

dots-append : (ts us : List Terminal) → dots (ts ++ us) ≡ dots ts + dots us
dots-append [] us = omega arith
dots-append (Dot ∷ ts) us = omega (arith, dots-append ts us)
dots-append (t ∷ ts) us = dots-append ts us

abbrev formula_terminals : WrittenFormula → List Terminal
formula_terminals f = printed_terminals (printed (f ∷ []))

formula_run : (f : WrittenFormula) → run_on (Some Between) (formula_terminals f) ≡ Some Between
formula_run f = run_of Between (printed (f ∷ [])) Between (file_runs (f ∷ []))

-- no formula is the front of another one
pub no_more : (f g : WrittenFormula) (more : List Terminal) → formula_terminals f ++ more ≡ formula_terminals g → more ≡ []
no_more f g more e =
    let run : run_on (Some Between) more ≡ Some Between =
    sym (ap (λ (o : Option State). run_on o more) (formula_run f)) ∙ sym (run-append (Some Between) (formula_terminals f) more) ∙ ap (run_on (Some Between)) e ∙ formula_run g in
    let h = file_of more run in
    none h.0 h.1 (sym (file_dots h.0) ∙ ap dots (sym h.1))
  where
    none : (file : List WrittenFormula) → more ≡ printed_terminals (printed file) → length file ≡ dots more → more ≡ []
    none [] k d = k
    none (a ∷ file) k d = absurd (omega (arith, d, dots-append (formula_terminals f) more, file_dots (f ∷ []), file_dots (g ∷ []), ap dots e))

-- ---- lines

-- one of two fronts of a list goes on as the other
pub data Fronts {A : Type 0} (xs ys left right : List A) : Type 0 where
  First : (more : List A) → ys ≡ xs ++ more → left ≡ more ++ right → Fronts xs ys left right
  Second : (more : List A) → xs ≡ ys ++ more → right ≡ more ++ left → Fronts xs ys left right

pub fronts : {A : Type 0} (xs ys left right : List A) → xs ++ left ≡ ys ++ right → Fronts xs ys left right
fronts [] ys left right e = First ys refl e
fronts (x ∷ xs) [] left right e = Second (x ∷ xs) refl (sym e)
fronts {A} (x ∷ xs) (y ∷ ys) left right e =
    let head : x ≡ y = cc in
    let tails : xs ++ left ≡ ys ++ right = cc in
    by head (fronts xs ys left right tails)
  where
    by : x ≡ y → Fronts xs ys left right → Fronts (x ∷ xs) (y ∷ ys) left right
    by h (First more k l) = First more (ap (λ (z : A). z ∷ ys) (sym h) ∙ ap (λ (z : List A). x ∷ z) k) l
    by h (Second more k l) = Second more (ap (λ (z : A). z ∷ xs) h ∙ ap (λ (z : List A). y ∷ z) k) l

terminals_len : (xs : List PlacedToken) → length (terminals xs) ≡ length xs
terminals_len [] = refl
terminals_len (x ∷ xs) = ap suc (terminals_len xs)

terminals-append : (xs ys : List PlacedToken) → terminals (xs ++ ys) ≡ terminals xs ++ terminals ys
terminals-append xs ys = map-append (λ placed. terminal placed.token) xs ys

-- equal values of two first lines, and the same tokens behind them
record SameLine (p q : Piece) (left right : List PlacedToken) : Type 0 where
  value : piece_value p ≡ piece_value q
  rest : left ≡ right

nil_of : (xs : List PlacedToken) → terminals xs ≡ [] → xs ≡ []
nil_of [] e = refl
nil_of (x ∷ xs) e = absurd cc

formula_value : (tokens : List PlacedToken) (f g : WrittenFormula) → terminals tokens ≡ formula_terminals f → terminals tokens ≡ formula_terminals g → value_of tokens (FormulaLine f) ≡ value_of tokens (FormulaLine g)
formula_value tokens f g e k =
    let all = sym e ∙ k in
    let third : label_terminal f.label ≡ label_terminal g.label = cc in
    ap (λ (x : LabelValue). Formula x (first_place tokens) (suc (last_place tokens))) (label_same f.label g.label third)

-- a formula that goes on as another one is that one
formula_same : (ts more left right us : List PlacedToken) (f g : WrittenFormula) → terminals ts ≡ formula_terminals f → terminals us ≡ formula_terminals g → us ≡ ts ++ more → left ≡ more ++ right → (value_of ts (FormulaLine f) ≡ value_of us (FormulaLine g)) × (left ≡ right)
formula_same ts more left right us f g e k u a =
    let empty : more ≡ [] = nil_of more (no_more f g (terminals more) (ap (λ (x : List Terminal). x ++ terminals more) (sym e) ∙ sym (terminals-append ts more) ∙ ap terminals (sym u) ∙ k)) in
    let same : us ≡ ts = u ∙ ap (λ (x : List PlacedToken). ts ++ x) empty ∙ append-nil ts in (
      formula_value ts f g e (ap terminals (sym same) ∙ k) ∙ ap (λ (x : List PlacedToken). value_of x (FormulaLine g)) (sym same),
      a ∙ ap (λ (x : List PlacedToken). x ++ right) empty,
    )

two_formulas : (ts us left right : List PlacedToken) (f g : WrittenFormula) → terminals ts ≡ formula_terminals f → terminals us ≡ formula_terminals g → Fronts ts us left right → (value_of ts (FormulaLine f) ≡ value_of us (FormulaLine g)) × (left ≡ right)
two_formulas ts us left right f g e k (First more u a) = formula_same ts more left right us f g e k u a
two_formulas ts us left right f g e k (Second more u a) = let h = formula_same us more right left ts g f k e u a in (sym h.0, sym h.1)

rests_same : {A : Type 0} (xs ys left right : List A) → xs ++ left ≡ ys ++ right → length left ≡ length right → left ≡ right
rests_same [] [] left right e l = e
rests_same [] (y ∷ ys) left right e l = absurd (omega (arith, ap length e, length-append ys right, l))
rests_same (x ∷ xs) [] left right e l = absurd (omega (arith, ap length e, length-append xs left, l))
rests_same (x ∷ xs) (y ∷ ys) left right e l = let tails : xs ++ left ≡ ys ++ right = cc in rests_same xs ys left right tails l

two_includes : (ts us left right : List PlacedToken) (i j : WrittenInclude) → terminals ts ≡ include_terminals i → terminals us ≡ include_terminals j → ts ++ left ≡ us ++ right → (value_of ts (IncludeLine i) ≡ value_of us (IncludeLine j)) × (left ≡ right)
two_includes ts us left right i j e k s =
    let all : include_terminals i ++ terminals left ≡ include_terminals j ++ terminals right =
    ap (λ (x : List Terminal). x ++ terminals left) (sym e) ∙ sym (terminals-append ts left) ∙ ap terminals s ∙ terminals-append us right ∙ ap (λ (x : List Terminal). x ++ terminals right) k in
    let h = one_include i j (terminals left) (terminals right) all in (
      ap (λ (x : List ℕ). Include x (picks_of i.selection)) h.file ∙ ap (λ (x : Option (List LabelValue)). Include j.file x) h.picks,
      rests_same ts us left right s (sym (terminals_len left) ∙ ap length h.tail ∙ terminals_len right),
    )

apart : (f : WrittenFormula) (i : WrittenInclude) (ts us : List Terminal) → formula_terminals f ++ ts ≡ include_terminals i ++ us → ⊥
apart f i ts us e =
    let words : codes "cnf" ≡ codes "include" = cc in
    let long : 3 ≡ 7 = ap length words in
    omega (arith, long)

heads : (ts us left right : List PlacedToken) (xs ys : List Terminal) → ts ++ left ≡ us ++ right → terminals ts ≡ xs → terminals us ≡ ys → xs ++ terminals left ≡ ys ++ terminals right
heads ts us left right xs ys s e k =
    ap (λ (x : List Terminal). x ++ terminals left) (sym e) ∙ sym (terminals-append ts left) ∙ ap terminals s ∙ terminals-append us right ∙ ap (λ (x : List Terminal). x ++ terminals right) k

two_lines : (v w : WrittenLine) (ts us left right : List PlacedToken) → terminals ts ≡ line_terminals v → terminals us ≡ line_terminals w → ts ++ left ≡ us ++ right → (value_of ts v ≡ value_of us w) × (left ≡ right)
two_lines (FormulaLine f) (FormulaLine g) ts us left right e k s = two_formulas ts us left right f g e k (fronts ts us left right s)
two_lines (IncludeLine i) (IncludeLine j) ts us left right e k s = two_includes ts us left right i j e k s
two_lines (FormulaLine f) (IncludeLine j) ts us left right e k s = absurd (apart f j (terminals left) (terminals right) (heads ts us left right (formula_terminals f) (include_terminals j) s e k))
two_lines (IncludeLine i) (FormulaLine g) ts us left right e k s = absurd (apart g i (terminals right) (terminals left) (sym (heads ts us left right (include_terminals i) (formula_terminals g) s e k)))

line_some : (w : WrittenLine) (ts : List Terminal) → line_terminals w ++ ts ≡ [] → ⊥
line_some (FormulaLine f) ts e = cc
line_some (IncludeLine i) ts e = cc

none_empty : (p : Piece) (pieces : List Piece) → tokens_of (p ∷ pieces) ≡ [] → ⊥
none_empty p pieces e = line_some p.written (terminals (tokens_of pieces)) (ap (λ (x : List Terminal). x ++ terminals (tokens_of pieces)) (sym p.same) ∙ sym (terminals-append p.tokens (tokens_of pieces)) ∙ ap terminals e)

-- tokens are those of one list of lines at most
pub one_parse : (xs ys : List Piece) → tokens_of xs ≡ tokens_of ys → map piece_value xs ≡ map piece_value ys
one_parse [] [] e = refl
one_parse [] (y ∷ ys) e = absurd (none_empty y ys (sym e))
one_parse (x ∷ xs) [] e = absurd (none_empty x xs e)
one_parse (x ∷ xs) (y ∷ ys) e =
    let h = two_lines x.written y.written x.tokens y.tokens (tokens_of xs) (tokens_of ys) x.same y.same e in
    ap (λ (v : LineValue). v ∷ map piece_value xs) h.0 ∙ ap (λ (v : List LineValue). piece_value y ∷ v) (one_parse xs ys h.1)
