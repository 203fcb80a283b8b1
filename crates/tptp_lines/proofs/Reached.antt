-- What was read of the bytes as lines, as their tokens are taken one after another.
use Rattle.std.proofs.Common.{◌≡◌, ◌≢◌, ◌≤◌, ◌<◌, ◌^◌, ◌-◌, ◌⊎◌, inl, inr, ℕ, zero, suc, ◌+◌, Bool, true, false, List, [], ◌∷◌, ◌++◌, length, map, Option, Some, None, codes, refl, sym, ap, subst, ◌∙◌, append_assoc, true≢false, arith}
use Rattle.std.proofs.lemmas.List.{append-nil, map-append}
use Rattle.std.proofs.lemmas.Grind.{flat_map-append}
use Rattle.std.proofs.lemmas.Slice.Eq.{bytes_eq-Decides}
use Rattle.std.specs.Prelude.{IsTrue, ◌↔◌, if◌then◌else◌}
use Rattle.std.specs.Str.{bytes_eq}
use Rattle.me_io.specs.declared.source.TheConstants.{MAX_BYTES}
use Rattle.me_terms.specs.Values.{LabelValue}
use Rattle.tptp_tokens.specs.Gaps.{IsGap}
use Rattle.tptp_tokens.specs.Remainders.{Remainder}
use Rattle.tptp_tokens.specs.Tokens.{PlacedToken, IsNextToken, IsCut, IsCutFrom}
use Rattle.tptp_grammar.specs.Terminals.{Terminal, LowerWord, OpenRound, terminal, terminals}
use Rattle.tptp_grammar.specs.Written.{Bare, Quoted, WrittenLabel, Named, Numbered, WrittenFormula}
use Rattle.tptp_grammar.specs.Printed.{Printed, printed, printed_terminals, label_terminal}
use Rattle.tptp_grammar.specs.Files.{PassesNoLimit, IsWritten}
use Rattle.tptp_grammar.specs.Refusals.{is_include, is_language, is_conjecture, is_lower_word_token, is_equality, is_variable_or_distinct, is_number, is_dollar_word}
use Rattle.tptp_grammar.specs.Machine.{State, Between, Begun, Opened, Labelled, LabelEnd, FormulaStart, LiteralStart, Negated, AtomStart, ArgumentStart, Closed, step, run_on, part_at, CountsUpTo}
use Rattle.tptp_grammar.specs.Machine as machine
use Rattle.tptp_grammar.specs.Readings.{Reading, start_reading, Verdict, GoesOn, Refused, kind_at, first_passed_at, counted, limited, judged, verdict, on_from}
use Rattle.tptp_grammar.specs.declared.part.Part.{Part}
use Rattle.tptp_grammar.specs.declared.part.Part.TheVariants as part
use Rattle.tptp_grammar.specs.declared.refusal.What.{What}
use Rattle.tptp_grammar.specs.declared.refusal.What.TheVariants as what
use Rattle.tptp_grammar.specs.declared.refusal.Which.{Which}
use Rattle.tptp_grammar.specs.declared.refusal.Refusal.{Refusal}
use Rattle.tptp_grammar.specs.declared.refusal.Refusal.TheVariants as refusal
use Rattle.tptp_grammar.proofs.Growth.{counts_grow, counts_within}
use Rattle.tptp_grammar.proofs.Rests.{file_of}
use Rattle.tptp_grammar.proofs.Runs.{Runs, file_runs, run_of}
use Rattle.tptp_grammar.proofs.Fronts.{Walked, walk_back, within_of, counted_none, went, on-append}
use Rattle.tptp_grammar.proofs.Judgements.{Reads, refused, cut_short}
use Rattle.tptp_cnf.specs.Causes.{AreFirstTokens, error_of}
use Rattle.tptp_cnf.specs.Meaning.{label_of}
use Rattle.tptp_cnf.specs.Rows.{label_as, no_label}
use Rattle.tptp_cnf.specs.declared.error.CnfError.{CnfError}
use Rattle.tptp_cnf.specs.declared.error.CnfError.TheVariants as error
use Rattle.tptp_cnf.proofs.Reached.{all_of, front_more}
use Rattle.tptp_lines.specs.WrittenLines.{WrittenLine, FormulaLine, IncludeLine, WrittenInclude, line_terminals, line_formulas, lines_terminals, formulas_of, include_terminals}
use Rattle.tptp_lines.specs.Lines.{LineValue, Formula, Include, Piece, tokens_of, lines_of, first_place, last_place, value_of, piece_value, picks_of, AreLines}
use Rattle.tptp_lines.specs.LineRefusals.{without_includes, IsRefusedInFormula, IsInInclude, IsRefusedInInclude, IsRefusalInLines, IsCutInFormula, AreCutShort}
use Rattle.tptp_lines.specs.LineCauses.{IsRefusedToken, EndsEarly, LinesRefusedAt, IsLinesCause}
use Rattle.tptp_lines.specs.Progress.{Progress, formula_fed, include_step, include_fed, at_stage}
use Rattle.tptp_lines.specs.ProgressViews.{BeginsInclude, GoesOnInInclude, GoesOnInFormula, GoesOnAt, TellsWhy}
use Rattle.tptp_lines.specs.declared.stage.Stage.{Stage}
use Rattle.tptp_lines.specs.declared.stage.Stage.TheVariants as stage
use Rattle.tptp_lines.proofs.States.{IsLate, late, begins, opens, labels, closes, IsInner, inner, IsLineRun, line_on, run_of_line, not_before}
use Rattle.tptp_lines.proofs.Includes.{IncludePlace, IsIncluded, PlaceAfter, include_more, stuck, unfinished}
use Rattle.tptp_lines.proofs.Printing.{terminals-append}

-- ---- what is kept

-- where the machine stands behind the tokens of a formula that were read, and what is kept of it
abbrev FormulaPlace : List PlacedToken → State → Progress → Type 0
FormulaPlace [] s p = s ≡ Between
FormulaPlace (a ∷ []) s p = (s ≡ Begun) × (p.from ≡ a.at)
FormulaPlace (a ∷ b ∷ []) s p = (s ≡ Opened) × (p.from ≡ a.at)
FormulaPlace (a ∷ b ∷ c ∷ tokens) s p = IsLate s × (p.from ≡ a.at) × (p.label ≡ label_as (terminal c.token))

-- These lines were read whole, and then these tokens.
pub record Behind (bytes : List ℕ) (left : Remainder) (p : Progress) (pieces : List Piece) (tokens : List PlacedToken) : Type 0 where
  pub front : AreFirstTokens (tokens_of pieces ++ tokens) (all_of bytes) left
  pub total : left.at + length left.bytes ≡ length bytes
  pub lines : p.lines ≡ map piece_value pieces
  pub count : ℕ
  pub few : count + length left.bytes ≤ length bytes
  pub counts : CountsUpTo count p.reading.state

pub record InFormula (bytes : List ℕ) (left : Remainder) (p : Progress) : Type 0 where
  pub pieces : List Piece
  pub tokens : List PlacedToken
  pub behind : Behind bytes left p pieces tokens
  pub stage : p.stage ≡ stage.Formula
  pub reads : Reads (without_includes (lines_of pieces) (terminals tokens)) p.reading
  pub run : IsLineRun (terminals tokens) p.reading.state
  pub place : FormulaPlace tokens p.reading.state p

pub record InInclude (bytes : List ℕ) (left : Remainder) (p : Progress) : Type 0 where
  pub pieces : List Piece
  pub tokens : List PlacedToken
  pub behind : Behind bytes left p pieces tokens
  pub reads : Reads (without_includes (lines_of pieces) []) p.reading
  pub between : p.reading.state ≡ Between
  pub place : IncludePlace p.stage (terminals tokens) p

abbrev pub ReadSoFar : List ℕ → Remainder → Progress → Type 0
ReadSoFar bytes left p = InFormula bytes left p ⊎ InInclude bytes left p

abbrev pub start : Progress
start = record { reading = start_reading; stage = stage.Formula; label = no_label; from = 0; file = []; picks = []; lines = [] }

pub none_read : (bytes : List ℕ) (left : Remainder) (p : Progress) → left ≡ all_of bytes → p ≡ start → ReadSoFar bytes left p
none_read bytes left p l e =
    subst (λ (x : Remainder). ReadSoFar bytes x p) (sym l) (subst (ReadSoFar bytes (all_of bytes)) (sym e) (inl (record {
      pieces = [];
      tokens = [];
      behind = record { front = refl; total = omega arith; lines = refl; count = 0; few = omega arith; counts = tt };
      stage = refl;
      reads = refl;
      run = refl;
      place = refl;
    })))

-- ---- readings

reads_more : (v : Verdict) (ts : List Terminal) (t : Terminal) (r u : Reading) → on_from v ts ≡ GoesOn r → verdict r t ≡ GoesOn u → on_from v (ts ++ t ∷ []) ≡ GoesOn u
reads_more v ts t r u e k = on-append v ts (t ∷ []) ∙ ap (λ (x : Verdict). on_from x (t ∷ [])) e ∙ single (verdict r t) k
  where
    single : (v : Verdict) → v ≡ GoesOn u → on_from v [] ≡ GoesOn u
    single v k = ap (λ (x : Verdict). on_from x []) k

-- a file that was read is within the limits
pub within_read : (ts : List Terminal) (r : Reading) (file : List WrittenFormula) → Reads ts r → IsWritten ts file → PassesNoLimit (printed file)
within_read ts r file e written =
    let ps : List Printed = printed file in
    let w : Walked [] start_reading (ps ++ []) = record { counted = counted_none; runs = subst (λ (x : List Printed). Runs Between x Between) (sym (append-nil ps)) (file_runs file) } in
    let k = walk_back ps [] [] start_reading r w (ap (on_from (GoesOn start_reading)) (sym written) ∙ e) in
    within_of ps k.within

within_lines : (pieces : List Piece) (r : Reading) → Reads (without_includes (lines_of pieces) []) r → PassesNoLimit (printed (formulas_of (lines_of pieces)))
within_lines pieces r e = within_read _ r (formulas_of (lines_of pieces)) e (append-nil (printed_terminals (printed (formulas_of (lines_of pieces)))))

-- ---- tokens and lines

terminals_more : (tokens : List PlacedToken) (t : PlacedToken) → terminals (tokens ++ t ∷ []) ≡ terminals tokens ++ terminal t.token ∷ []
terminals_more tokens t = map-append (λ placed. terminal placed.token) tokens (t ∷ [])

-- the tokens of whole lines and those behind them
pub split : (pieces : List Piece) (tokens : List PlacedToken) → terminals (tokens_of pieces ++ tokens) ≡ lines_terminals (lines_of pieces) ++ terminals tokens
split [] tokens = refl
split (p ∷ pieces) tokens =
    ap terminals (append_assoc p.tokens (tokens_of pieces) tokens)
    ∙ map-append (λ placed. terminal placed.token) p.tokens (tokens_of pieces ++ tokens)
    ∙ ap (λ (x : List Terminal). x ++ terminals (tokens_of pieces ++ tokens)) p.same
    ∙ ap (λ (x : List Terminal). line_terminals p.written ++ x) (split pieces tokens)
    ∙ sym (append_assoc (line_terminals p.written) (lines_terminals (lines_of pieces)) (terminals tokens))

pieces_more : (pieces : List Piece) (p : Piece) → tokens_of (pieces ++ p ∷ []) ≡ tokens_of pieces ++ p.tokens
pieces_more pieces p = flat_map-append (λ p. p.tokens) pieces (p ∷ []) ∙ ap (λ (x : List PlacedToken). tokens_of pieces ++ x) (append-nil p.tokens)

formulas_more : (pieces : List Piece) (p : Piece) → formulas_of (lines_of (pieces ++ p ∷ [])) ≡ formulas_of (lines_of pieces) ++ line_formulas p.written
formulas_more pieces p =
    ap formulas_of (map-append (λ p. p.written) pieces (p ∷ []))
    ∙ flat_map-append line_formulas (lines_of pieces) (p.written ∷ [])
    ∙ ap (λ (x : List WrittenFormula). formulas_of (lines_of pieces) ++ x) (append-nil (line_formulas p.written))

-- ---- one token more

-- the token comes next
pub record Next (left next : Remainder) (token : PlacedToken) : Type 0 where
  pub comes : IsNextToken left token next
  pub shorter : length next.bytes < length left.bytes

total_on : (n : ℕ) (left next : Remainder) (token : PlacedToken) → left.at + length left.bytes ≡ n → IsNextToken left token next → next.at + length next.bytes ≡ n
total_on n left next token e k = k.end ∙ e

behind_more : (bytes : List ℕ) (left next : Remainder) (p q : Progress) (pieces : List Piece) (tokens : List PlacedToken) (token : PlacedToken) → Behind bytes left p pieces tokens → Next left next token → q.lines ≡ p.lines
    → ((n : ℕ) → CountsUpTo n p.reading.state → CountsUpTo (suc n) q.reading.state) → Behind bytes next q pieces (tokens ++ token ∷ [])
behind_more bytes left next p q pieces tokens token b n l g = record {
  front = subst (λ (x : List PlacedToken). AreFirstTokens x (all_of bytes) next) (append_assoc (tokens_of pieces) tokens (token ∷ [])) (front_more (all_of bytes) (tokens_of pieces ++ tokens) left token next b.front n.comes);
  total = total_on (length bytes) left next token b.total n.comes;
  lines = l ∙ b.lines;
  count = suc b.count;
  few = omega (arith, b.few, n.shorter);
  counts = g b.count b.counts;
}

-- the tokens become a line
behind_line : (bytes : List ℕ) (left : Remainder) (p q : Progress) (pieces : List Piece) (tokens : List PlacedToken) (piece : Piece) → Behind bytes left p pieces tokens → piece.tokens ≡ tokens → q.lines ≡ p.lines ++ piece_value piece ∷ []
    → p.reading.state ≡ q.reading.state → Behind bytes left q (pieces ++ piece ∷ []) []
behind_line bytes left p q pieces tokens piece b same l s = record {
  front = subst (λ (x : List PlacedToken). AreFirstTokens x (all_of bytes) left) (ap (λ (x : List PlacedToken). tokens_of pieces ++ x) (sym same) ∙ sym (pieces_more pieces piece) ∙ sym (append-nil (tokens_of (pieces ++ piece ∷ [])))) b.front;
  total = b.total;
  lines = l ∙ ap (λ (x : List LineValue). x ++ piece_value piece ∷ []) b.lines ∙ sym (map-append piece_value pieces (piece ∷ []));
  count = b.count;
  few = b.few;
  counts = subst (CountsUpTo b.count) s b.counts;
}

-- nothing is left of the line where the machine stands between two
none_behind : (tokens : List PlacedToken) (s : State) (p : Progress) → FormulaPlace tokens s p → s ≡ Between → tokens ≡ []
none_behind [] s p h e = refl
none_behind (a ∷ []) s p h e = let no : Begun ≡ Between = sym h.0 ∙ e in absurd cc
none_behind (a ∷ b ∷ []) s p h e = let no : Opened ≡ Between = sym h.0 ∙ e in absurd cc
none_behind (a ∷ b ∷ c ∷ tokens) s p h e = absurd (subst IsLate e h.0)

nil_terminals : (tokens : List PlacedToken) → tokens ≡ [] → terminals tokens ≡ []
nil_terminals tokens e = ap terminals e

-- ---- includes

pub include_word : (t : Terminal) → is_include t ≡ true → t ≡ LowerWord (codes "include")
include_word (LowerWord text) h = ap (λ (x : List ℕ). LowerWord x) ((bytes_eq-Decides text (codes "include")).0 h)
include_word t h = absurd cc

begun : (bytes : List ℕ) (left next : Remainder) (p q : Progress) (token : PlacedToken) → InFormula bytes left p → Next left next token → BeginsInclude p (terminal token.token) → q ≡ at_stage stage.Included p → ReadSoFar bytes next q
begun bytes left next p q token h n b e =
    let empty : h.tokens ≡ [] = none_behind h.tokens p.reading.state p h.place b.between in
    subst (ReadSoFar bytes next) (sym e) (inr (record {
      pieces = h.pieces;
      tokens = h.tokens ++ token ∷ [];
      behind = behind_more bytes left next p (at_stage stage.Included p) h.pieces h.tokens token h.behind n refl (λ n k. counts_within n (suc n) p.reading.state (omega arith) k);
      reads = subst (λ (x : List Terminal). Reads (without_includes (lines_of h.pieces) x) p.reading) (nil_terminals h.tokens empty) h.reads;
      between = b.between;
      place = ap (λ (x : List PlacedToken). terminals (x ++ token ∷ [])) empty ∙ ap (λ (x : Terminal). x ∷ []) (include_word (terminal token.token) b.word);
    }))

included : (bytes : List ℕ) (next : Remainder) (p q : Progress) (pieces : List Piece) (tokens : List PlacedToken) → Behind bytes next p pieces tokens → Reads (without_includes (lines_of pieces) []) p.reading → p.reading.state ≡ Between
    → q.stage ≡ stage.Formula → q.reading ≡ p.reading → IsIncluded (terminals tokens) p q → ReadSoFar bytes next q
included bytes next p q pieces tokens b reads between s r i =
    let piece : Piece = record { tokens = tokens; written = IncludeLine i.written; same = i.same } in
    let same : formulas_of (lines_of pieces) ≡ formulas_of (lines_of (pieces ++ piece ∷ [])) = sym (append-nil (formulas_of (lines_of pieces))) ∙ sym (formulas_more pieces piece) in
    inl (record {
      pieces = pieces ++ piece ∷ [];
      tokens = [];
      behind = behind_line bytes next p q pieces tokens piece b refl i.line (ap (λ (x : Reading). x.state) (sym r));
      stage = s;
      reads = ap (λ (x : List WrittenFormula). on_from (GoesOn start_reading) (printed_terminals (printed x) ++ [])) (sym same) ∙ reads ∙ ap (λ (x : Reading). GoesOn x) (sym r);
      run = ap (λ (x : Reading). x.state) r ∙ between;
      place = ap (λ (x : Reading). x.state) r ∙ between;
    })

include_reading : (s u : Stage) (t : Terminal) (p : Progress) → (at_stage u (include_fed s t p)).reading ≡ p.reading
include_reading stage.Opened u t p = refl
include_reading stage.Picking u t p = refl
include_reading stage.Closed u t p = refl
include_reading s u t p = refl

-- where the stage is not that of a formula, or is
include_placed : (bytes : List ℕ) (next : Remainder) (p q : Progress) (u : Stage) (pieces : List Piece) (tokens : List PlacedToken) (token : PlacedToken) (left : Remainder) → Behind bytes left p pieces tokens → Next left next token → Reads (without_includes (lines_of pieces) []) p.reading
    → p.reading.state ≡ Between → q.stage ≡ u → q.reading ≡ p.reading → PlaceAfter u (terminals (tokens ++ token ∷ [])) p q → ReadSoFar bytes next q
include_placed bytes next p q stage.Formula pieces tokens token left b n reads between s r i =
    included bytes next p q pieces (tokens ++ token ∷ []) (behind_more bytes left next p p pieces tokens token b n refl (λ n k. counts_within n (suc n) p.reading.state (omega arith) k)) reads between s r i
include_placed bytes next p q u pieces tokens token left b n reads between s r i = inr (record {
  pieces = pieces;
  tokens = tokens ++ token ∷ [];
  behind = behind_more bytes left next p q pieces tokens token b n i.1 (λ n k. subst (CountsUpTo (suc n)) (ap (λ (x : Reading). x.state) (sym r)) (counts_within n (suc n) p.reading.state (omega arith) k));
  reads = reads ∙ ap (λ (x : Reading). GoesOn x) (sym r);
  between = ap (λ (x : Reading). x.state) r ∙ between;
  place = subst (λ (x : Stage). IncludePlace x (terminals (tokens ++ token ∷ [])) q) (sym s) i.0;
})

include_on : (bytes : List ℕ) (left next : Remainder) (p q : Progress) (token : PlacedToken) → InInclude bytes left p → Next left next token → GoesOnInInclude p token.at (terminal token.token) q → ReadSoFar bytes next q
include_on bytes left next p q token h n g =
    let t : Terminal = terminal token.token in
    let fed : Progress = at_stage g.next (include_fed p.stage t p) in
    let placed : PlaceAfter g.next (terminals (h.tokens ++ token ∷ [])) p fed = subst (λ (x : List Terminal). PlaceAfter g.next x p fed) (sym (terminals_more h.tokens token)) (include_more p.stage g.next t (terminals h.tokens) p h.place g.step) in
    subst (ReadSoFar bytes next) (sym g.fed) (include_placed bytes next p fed g.next h.pieces h.tokens token left h.behind n h.reads h.between refl (include_reading p.stage g.next t p) placed)

-- ---- formulas

abbrev with_reading : Reading → Progress → Progress
with_reading u p = record { reading = u; stage = p.stage; label = p.label; from = p.from; file = p.file; picks = p.picks; lines = p.lines }

inner_fed : (k : Part) (at : ℕ) (t : Terminal) (u : Reading) (p : Progress) → IsInner k → formula_fed k at t u p ≡ with_reading u p
inner_fed part.Formula at t u p h = absurd h
inner_fed part.Label at t u p h = absurd h
inner_fed part.End at t u p h = absurd h
inner_fed k at t u p h = refl

closed_or : (s : State) → (s ≡ Closed) ⊎ (s ≡ Closed → ⊥)
closed_or Closed = inl refl
closed_or s = inr (λ e. cc)

pub label_is : (label : WrittenLabel) → label_as (label_terminal label) ≡ label_of label
label_is (Named (Bare text)) = refl
label_is (Named (Quoted text)) = refl
label_is (Numbered digits) = refl

last_is : (tokens : List PlacedToken) (token : PlacedToken) → last_place (tokens ++ token ∷ []) ≡ token.at
last_is [] token = refl
last_is (a ∷ []) token = refl
last_is (a ∷ b ∷ tokens) token = last_is (b ∷ tokens) token

-- tokens over which the machine runs once are those of one formula
pub record OneFormula (ts : List Terminal) : Type 0 where
  pub formula : WrittenFormula
  pub same : ts ≡ printed_terminals (printed (formula ∷ []))

not_twice : (xs ys : List Terminal) → IsLineRun (xs ++ ys) Between → run_on (Some Between) xs ≡ Some Between → xs ≢ [] → ys ≢ [] → ⊥
not_twice [] ys run e n m = n refl
not_twice (x ∷ xs) [] run e n m = m refl
not_twice (x ∷ xs) (y ∷ ys) run e n m = not_before x xs y ys Between run e

one_of : (ts : List Terminal) (file : List WrittenFormula) → IsLineRun ts Between → ts ≢ [] → ts ≡ printed_terminals (printed file) → OneFormula ts
one_of ts [] run n e = absurd (n e)
one_of ts (f ∷ []) run n e = record { formula = f; same = e }
one_of ts (f ∷ g ∷ file) run n e =
    absurd (not_twice (printed_terminals (printed (f ∷ []))) (printed_terminals (printed (g ∷ file))) (subst (λ (x : List Terminal). IsLineRun x Between) (e ∙ terminals-append (f ∷ []) (g ∷ file)) run) (run_of Between (printed (f ∷ [])) Between (file_runs (f ∷ []))) (λ k. cc) (λ k. cc))

one_formula : (ts : List Terminal) → IsLineRun ts Between → ts ≢ [] → OneFormula ts
one_formula ts run n = let f = file_of ts (run_of_line ts Between run) in one_of ts f.0 run n f.1

third_is : (a b c : Terminal) (ts : List Terminal) (f : WrittenFormula) → a ∷ b ∷ c ∷ ts ≡ printed_terminals (printed (f ∷ [])) → c ≡ label_terminal f.label
third_is a b c ts f e = cc

-- the token goes on in the formula
pub record Went (r u : Reading) (t : Terminal) : Type 0 where
  pub goes : step r.state t ≡ Some u.state

went_on : (r u : Reading) (t : Terminal) → verdict r t ≡ GoesOn u → step r.state t ≡ Some u.state
went_on r u t e = let w = went r t u e in w.goes ∙ ap (λ (x : Reading). Some x.state) w.same

module _ (bytes : List ℕ) (left next : Remainder) (p : Progress) (token : PlacedToken) (u : Reading) (pieces : List Piece) (n : Next left next token) (v : verdict p.reading (terminal token.token) ≡ GoesOn u) where
  abbrev t : Terminal
  t = terminal token.token

  abbrev fed_as : Part → Progress
  fed_as k = formula_fed k token.at t u p

  -- the reading behind the token
  reads_on : (tokens : List PlacedToken) → Reads (without_includes (lines_of pieces) (terminals tokens)) p.reading → Reads (without_includes (lines_of pieces) (terminals (tokens ++ token ∷ []))) u
  reads_on tokens e =
      let file : List Terminal = printed_terminals (printed (formulas_of (lines_of pieces))) in
      ap (λ (x : List Terminal). on_from (GoesOn start_reading) (file ++ x)) (terminals_more tokens token)
      ∙ ap (on_from (GoesOn start_reading)) (sym (append_assoc file (terminals tokens) (t ∷ [])))
      ∙ reads_more (GoesOn start_reading) (file ++ terminals tokens) t p.reading u e v

  grown : (m : ℕ) → CountsUpTo m p.reading.state → CountsUpTo (suc m) u.state
  grown m k = counts_grow m p.reading.state t u.state k (went_on p.reading u t v)

  -- the formula goes on
  goes : (tokens : List PlacedToken) (q : Progress) → Behind bytes left p pieces tokens → Reads (without_includes (lines_of pieces) (terminals tokens)) p.reading → IsLineRun (terminals tokens) p.reading.state → (p.reading.state ≡ Between → tokens ≡ [])
      → q.reading ≡ u → q.lines ≡ p.lines → q.stage ≡ stage.Formula → FormulaPlace (tokens ++ token ∷ []) u.state q → ReadSoFar bytes next q
  goes tokens q b e run stays r l s place =
      let run_on : IsLineRun (terminals (tokens ++ token ∷ [])) u.state = subst (λ (x : List Terminal). IsLineRun x u.state) (sym (terminals_more tokens token)) (line_on (terminals tokens) t p.reading.state u.state run (λ k. nil_terminals tokens (stays k)) (went_on p.reading u t v)) in
      inl (record {
        pieces = pieces;
        tokens = tokens ++ token ∷ [];
        behind = behind_more bytes left next p q pieces tokens token b n l (λ m k. subst (λ (x : Reading). CountsUpTo (suc m) x.state) (sym r) (grown m k));
        stage = s;
        reads = reads_on tokens e ∙ ap (λ (x : Reading). GoesOn x) (sym r);
        run = subst (λ (x : Reading). IsLineRun (terminals (tokens ++ token ∷ [])) x.state) (sym r) run_on;
        place = subst (λ (x : Reading). FormulaPlace (tokens ++ token ∷ []) x.state q) (sym r) place;
      })

  -- the formula ends
  ends : (a b c : PlacedToken) (tokens : List PlacedToken) (q : Progress) → Behind bytes left p pieces (a ∷ b ∷ c ∷ tokens) → Reads (without_includes (lines_of pieces) (terminals (a ∷ b ∷ c ∷ tokens))) p.reading → IsLineRun (terminals (a ∷ b ∷ c ∷ tokens)) p.reading.state
      → (p.reading.state ≡ Between → ⊥) → u.state ≡ Between → p.from ≡ a.at → p.label ≡ label_as (terminal c.token) → q.reading ≡ u → q.stage ≡ stage.Formula → q.lines ≡ p.lines ++ Formula p.label p.from (suc token.at) ∷ [] → ReadSoFar bytes next q
  ends a b c tokens q h e run late_now over from label r s l =
      let own : List PlacedToken = a ∷ b ∷ c ∷ tokens in
      let all : List PlacedToken = own ++ token ∷ [] in
      let run_end : IsLineRun (terminals all) Between =
      subst (λ (x : State). IsLineRun (terminals all) x) over (subst (λ (x : List Terminal). IsLineRun x u.state) (sym (terminals_more own token)) (line_on (terminals own) t p.reading.state u.state run (λ k. absurd (late_now k)) (went_on p.reading u t v))) in
      let one = one_formula (terminals all) run_end (λ k. cc) in
      let piece : Piece = record { tokens = all; written = FormulaLine one.formula; same = one.same } in
      let named : p.label ≡ label_of one.formula.label = label ∙ ap label_as (third_is _ _ _ _ one.formula one.same) ∙ label_is one.formula.label in
      let value : Formula p.label p.from (suc token.at) ≡ piece_value piece =
      ap (λ (x : LabelValue). Formula x p.from (suc token.at)) named ∙ ap (λ (x : ℕ). Formula (label_of one.formula.label) x (suc token.at)) from
      ∙ ap (λ (x : ℕ). Formula (label_of one.formula.label) a.at (suc x)) (sym (last_is own token)) in
      let same : printed_terminals (printed (formulas_of (lines_of (pieces ++ piece ∷ [])))) ++ [] ≡ without_includes (lines_of pieces) (terminals all) =
      append-nil (printed_terminals (printed (formulas_of (lines_of (pieces ++ piece ∷ [])))))
      ∙ ap (λ (x : List WrittenFormula). printed_terminals (printed x)) (formulas_more pieces piece)
      ∙ terminals-append (formulas_of (lines_of pieces)) (one.formula ∷ [])
      ∙ ap (λ (x : List Terminal). printed_terminals (printed (formulas_of (lines_of pieces))) ++ x) (sym one.same) in
      let behind : Behind bytes next (with_reading u p) pieces all = behind_more bytes left next p (with_reading u p) pieces own token h n refl grown in
      inl (record {
        pieces = pieces ++ piece ∷ [];
        tokens = [];
        behind = behind_line bytes next (with_reading u p) q pieces all piece behind refl (l ∙ ap (λ (x : LineValue). p.lines ++ x ∷ []) value) (ap (λ (x : Reading). x.state) (sym r));
        stage = s;
        reads = ap (on_from (GoesOn start_reading)) same ∙ reads_on own e ∙ ap (λ (x : Reading). GoesOn x) (sym r);
        run = ap (λ (x : Reading). x.state) r ∙ over;
        place = ap (λ (x : Reading). x.state) r ∙ over;
      })

  at_state : {s : State} (q : Progress) → p.reading.state ≡ s → q ≡ fed_as (part_at p.reading.state t) → q ≡ fed_as (part_at s t)
  at_state {s} q e k = k ∙ ap (λ (x : State). fed_as (part_at x t)) e

  from_state : {s : State} → p.reading.state ≡ s → step s t ≡ Some u.state
  from_state {s} e = ap (λ (x : State). step x t) (sym e) ∙ went_on p.reading u t v

  formula_on : (tokens : List PlacedToken) (q : Progress) → Behind bytes left p pieces tokens → Reads (without_includes (lines_of pieces) (terminals tokens)) p.reading → IsLineRun (terminals tokens) p.reading.state → p.stage ≡ stage.Formula
      → FormulaPlace tokens p.reading.state p → q ≡ fed_as (part_at p.reading.state t) → ReadSoFar bytes next q
  formula_on [] q b e run s h f =
      subst (ReadSoFar bytes next) (sym (at_state q h f)) (goes [] (fed_as part.Formula) b e run (λ k. refl) refl refl s (begins t u.state (from_state h), refl))
  formula_on (a ∷ []) q b e run s h f =
      subst (ReadSoFar bytes next) (sym (at_state q h.0 f)) (goes (a ∷ []) (fed_as part.Other) b e run (λ k. absurd (not_between Begun cc_begun h.0 k)) refl refl s (opens t u.state (from_state h.0), h.1))
    where
      cc_begun : Begun ≡ Between → ⊥
      cc_begun k = cc

      not_between : (s : State) → (s ≡ Between → ⊥) → p.reading.state ≡ s → p.reading.state ≡ Between → ⊥
      not_between s n x y = n (sym x ∙ y)
  formula_on (a ∷ b ∷ []) q h e run s k f =
      subst (ReadSoFar bytes next) (sym (at_state q k.0 f)) (goes (a ∷ b ∷ []) (fed_as part.Label) h e run (λ m. absurd (opened (sym k.0 ∙ m))) refl refl s (subst IsLate (sym (labels t u.state (from_state k.0))) tt, k.1, refl))
    where
      opened : Opened ≡ Between → ⊥
      opened k = cc
  formula_on (a ∷ b ∷ c ∷ tokens) q h e run s k f = by (closed_or p.reading.state)
    where
      late_now : p.reading.state ≡ Between → ⊥
      late_now m = subst IsLate m k.0

      by : (p.reading.state ≡ Closed) ⊎ (p.reading.state ≡ Closed → ⊥) → ReadSoFar bytes next q
      by (inl m) = subst (ReadSoFar bytes next) (sym (at_state q m f)) (ends a b c tokens (fed_as part.End) h e run late_now (closes t u.state (from_state m)) k.1 k.2 refl s refl)
      by (inr m) =
          let same : q ≡ with_reading u p = f ∙ inner_fed (part_at p.reading.state t) token.at t u p (inner p.reading.state t k.0 m) in
          subst (ReadSoFar bytes next) (sym same)
          (goes (a ∷ b ∷ c ∷ tokens) (with_reading u p) h e run (λ i. absurd (late_now i)) refl refl s (late p.reading.state u.state t k.0 m (went_on p.reading u t v), k.1, k.2))

-- ---- each token

in_formula : (bytes : List ℕ) (left next : Remainder) (p q : Progress) (token : PlacedToken) → InFormula bytes left p → Next left next token → GoesOnAt stage.Formula p token.at (terminal token.token) q → ReadSoFar bytes next q
in_formula bytes left next p q token h n (inl g) = begun bytes left next p q token h n g.0 g.1
in_formula bytes left next p q token h n (inr g) = formula_on bytes left next p token g.behind h.pieces n g.step h.tokens q h.behind h.reads h.run h.stage h.place g.fed

goes_in_include : (s : Stage) (ts : List Terminal) (p q : Progress) (at : ℕ) (t : Terminal) → IncludePlace s ts p → GoesOnAt s p at t q → GoesOnInInclude p at t q
goes_in_include stage.Formula ts p q at t h g = absurd h
goes_in_include s ts p q at t h g = g

pub one_more : (bytes : List ℕ) (left next : Remainder) (p q : Progress) (token : PlacedToken) → ReadSoFar bytes left p → IsNextToken left token next → length next.bytes < length left.bytes → GoesOnAt p.stage p token.at (terminal token.token) q → ReadSoFar bytes next q
one_more bytes left next p q token (inl h) n l g = in_formula bytes left next p q token h (record { comes = n; shorter = l }) (subst (λ (x : Stage). GoesOnAt x p token.at (terminal token.token) q) h.stage g)
one_more bytes left next p q token (inr h) n l g = include_on bytes left next p q token h (record { comes = n; shorter = l }) (goes_in_include p.stage (terminals h.tokens) p q token.at (terminal token.token) h.place g)

-- ---- room

behind_of : (bytes : List ℕ) (left : Remainder) (p : Progress) → ReadSoFar bytes left p → (pieces : List Piece) × (tokens : List PlacedToken) × Behind bytes left p pieces tokens
behind_of bytes left p (inl h) = (h.pieces, h.tokens, h.behind)
behind_of bytes left p (inr h) = (h.pieces, h.tokens, h.behind)

pub counts_few : (bytes : List ℕ) (left : Remainder) (p : Progress) → length bytes ≤ MAX_BYTES → ReadSoFar bytes left p → CountsUpTo (2 ^ 32 - 2) p.reading.state
counts_few bytes left p le h = let b = (behind_of bytes left p h).2 in counts_within b.count (2 ^ 32 - 2) p.reading.state (omega (arith, le, b.few)) b.counts

pub place_few : (bytes : List ℕ) (left next : Remainder) (p : Progress) (token : PlacedToken) → length bytes ≤ MAX_BYTES → ReadSoFar bytes left p → IsNextToken left token next → token.at < 2 ^ 64 - 1
place_few bytes left next p token le h n = let b = (behind_of bytes left p h).2 in omega (arith, le, b.total, n.place)

-- ---- refusals

no_kinds : (v : What) → (v ≡ what.Include → ⊥) → refusal.Inappropriate v ≡ refusal.Inappropriate what.Include → ⊥
no_kinds v n e = n cc

syntax_no : refusal.Syntax ≡ refusal.Inappropriate what.Include → ⊥
syntax_no e = cc

one_kind : (a : Bool) (v : What) → (v ≡ what.Include → ⊥) → (if a then refusal.Inappropriate v else refusal.Syntax) ≡ refusal.Inappropriate what.Include → ⊥
one_kind true v n e = no_kinds v n e
one_kind false v n e = syntax_no e

two_kinds : (a b : Bool) (v w : What) → (v ≡ what.Include → ⊥) → (w ≡ what.Include → ⊥) → (if a then refusal.Inappropriate v else (if b then refusal.Inappropriate w else refusal.Syntax)) ≡ refusal.Inappropriate what.Include → ⊥
two_kinds true b v w n m e = no_kinds v n e
two_kinds false b v w n m e = one_kind b w m e

three_kinds : (a b c : Bool) (u v w : What) → (u ≡ what.Include → ⊥) → (v ≡ what.Include → ⊥) → (w ≡ what.Include → ⊥)
    → (if a then refusal.Inappropriate u else (if b then refusal.Inappropriate v else (if c then refusal.Inappropriate w else refusal.Syntax))) ≡ refusal.Inappropriate what.Include → ⊥
three_kinds true b c u v w n m k e = no_kinds u n e
three_kinds false b c u v w n m k e = two_kinds b c v w m k e

equality_no : what.Equality ≡ what.Include → ⊥
equality_no e = cc

number_no : what.Number ≡ what.Include → ⊥
number_no e = cc

defined_no : what.Defined ≡ what.Include → ⊥
defined_no e = cc

conjecture_no : what.Conjecture ≡ what.Include → ⊥
conjecture_no e = cc

role_no : what.Role ≡ what.Include → ⊥
role_no e = cc

language_no : what.Language ≡ what.Include → ⊥
language_no e = cc

include_kind : (a b : Bool) → (if a then refusal.Inappropriate what.Language else (if b then refusal.Inappropriate what.Include else refusal.Syntax)) ≡ refusal.Inappropriate what.Include → b ≡ true
include_kind true b e = absurd (no_kinds what.Language language_no e)
include_kind false true e = refl
include_kind false false e = absurd (syntax_no e)

atom_no : (t : Terminal) → (if is_variable_or_distinct t then refusal.Inappropriate what.Equality else (if is_number t then refusal.Inappropriate what.Number else (if is_dollar_word t then refusal.Inappropriate what.Defined else refusal.Syntax))) ≡ refusal.Inappropriate what.Include → ⊥
atom_no t e = three_kinds (is_variable_or_distinct t) (is_number t) (is_dollar_word t) what.Equality what.Number what.Defined equality_no number_no defined_no e

-- only an include between two formulas is refused as one
include_at : (s : State) (t : Terminal) → kind_at s t ≡ refusal.Inappropriate what.Include → (s ≡ Between) × (is_include t ≡ true)
include_at Between t e = (refl, include_kind (is_language t) (is_include t) e)
include_at LabelEnd t e = absurd (two_kinds (is_conjecture t) (is_lower_word_token t) what.Conjecture what.Role conjecture_no role_no e)
include_at (FormulaStart k) t e = absurd (atom_no t e)
include_at (LiteralStart k) t e = absurd (atom_no t e)
include_at (Negated k) t e = absurd (atom_no t e)
include_at (AtomStart k) t e = absurd (atom_no t e)
include_at (ArgumentStart n ns b k) t e = absurd (two_kinds (is_number t) (is_dollar_word t) what.Number what.Defined number_no defined_no e)
include_at (machine.Named [] b k) t e = absurd (one_kind (is_equality t) what.Equality equality_no e)
include_at (machine.Done [] b k) t e = absurd (one_kind (is_equality t) what.Equality equality_no e)
include_at (machine.Named (n ∷ ns) b k) t e = absurd (syntax_no e)
include_at (machine.Done (n ∷ ns) b k) t e = absurd (syntax_no e)
include_at s t e = absurd (syntax_no e)

limited_no : (l : Option Which) (u : Reading) → limited l u ≡ Refused (refusal.Inappropriate what.Include) → ⊥
limited_no None u e = cc
limited_no (Some w) u e = cc

refused_include : (o : Option State) (r : Reading) (t : Terminal) → judged o r t ≡ Refused (refusal.Inappropriate what.Include) → kind_at r.state t ≡ refusal.Inappropriate what.Include
refused_include None r t e = cc
refused_include (Some u) r t e = absurd (limited_no (first_passed_at r t) (record { state = u; tally = counted (part_at r.state t) t r.tally }) e)

not_as_include : (p : Progress) (t : Terminal) (why : Refusal) → (BeginsInclude p t → ⊥) → verdict p.reading t ≡ Refused why → why ≢ refusal.Inappropriate what.Include
not_as_include p t why n v e =
    let h = include_at p.reading.state t (refused_include (step p.reading.state t) p.reading t (v ∙ ap (λ (x : Refusal). Refused x) e)) in
    n (record { between = h.0; word = h.1 })

cause_of : (why : Refusal) (at : ℕ) (bytes : List ℕ) → LinesRefusedAt why at bytes → IsLinesCause bytes (error_of why at)
cause_of refusal.Syntax at bytes h = h
cause_of (refusal.Inappropriate w) at bytes h = h
cause_of (refusal.Limit w) at bytes h = h

by_token : (why : Refusal) (at : ℕ) (bytes : List ℕ) → IsRefusedToken why at bytes → LinesRefusedAt why at bytes
by_token refusal.Syntax at bytes h = inl h
by_token (refusal.Inappropriate w) at bytes h = h
by_token (refusal.Limit w) at bytes h = h

as_formula : (why : Refusal) (before : List Terminal) (t : Terminal) → IsRefusedInFormula why before t → IsRefusalInLines why before t
as_formula refusal.Syntax before t h = inl h
as_formula (refusal.Inappropriate w) before t h = h
as_formula (refusal.Limit w) before t h = h

formula_stopped : (bytes : List ℕ) (left next : Remainder) (p : Progress) (token : PlacedToken) (why : Refusal) (e : CnfError) → InFormula bytes left p → IsNextToken left token next → (BeginsInclude p (terminal token.token) → ⊥) → verdict p.reading (terminal token.token) ≡ Refused why → e ≡ error_of why token.at
    → IsLinesCause bytes e
formula_stopped bytes left next p token why e h n b v same =
    let t : Terminal = terminal token.token in
    let in_formula : IsRefusedInFormula why (terminals (tokens_of h.pieces ++ h.tokens)) t = record {
      lines = lines_of h.pieces;
      behind = terminals h.tokens;
      split = split h.pieces h.tokens;
      refused = refused why (without_includes (lines_of h.pieces) (terminals h.tokens)) p.reading t h.reads v;
      no_include = not_as_include p t why b v;
    } in
    let at : IsRefusedToken why token.at bytes = record { before = tokens_of h.pieces ++ h.tokens; token = token; left = left; rest = next; front = h.behind.front; next = n; refused = as_formula why _ t in_formula; place = refl } in
    subst (IsLinesCause bytes) (sym same) (cause_of why token.at bytes (by_token why token.at bytes at))

abbrev inside : (bytes : List ℕ) (left : Remainder) (p : Progress) (h : InInclude bytes left p) → IsInInclude (terminals (tokens_of h.pieces ++ h.tokens))
inside bytes left p h =
    let u = unfinished p.stage (terminals h.tokens) p h.place in
    record { lines = lines_of h.pieces; behind = terminals h.tokens; split = split h.pieces h.tokens; within = within_lines h.pieces p.reading h.reads; begun = u.begun; written = u.written; next = u.next; others = u.others; front = u.front }

include_stopped : (bytes : List ℕ) (left next : Remainder) (p : Progress) (token : PlacedToken) (e : CnfError) → InInclude bytes left p → IsNextToken left token next → include_step p.stage (terminal token.token) ≡ None → e ≡ error.Syntax token.at → IsLinesCause bytes e
include_stopped bytes left next p token e h n k same =
    let t : Terminal = terminal token.token in
    let stop : IsRefusedInInclude (terminals (tokens_of h.pieces ++ h.tokens)) t = record { inside = inside bytes left p h; stuck = λ w us m. stuck p.stage t (terminals h.tokens) p h.place k w us m } in
    let at : IsRefusedToken refusal.Syntax token.at bytes = record { before = tokens_of h.pieces ++ h.tokens; token = token; left = left; rest = next; front = h.behind.front; next = n; refused = inr stop; place = refl } in
    subst (IsLinesCause bytes) (sym same) (inl at)

-- what the error tells in a formula, and in an include
abbrev TellsInInclude : Progress → ℕ → Terminal → CnfError → Type 0
TellsInInclude p at t e = (include_step p.stage t ≡ None) × (e ≡ error.Syntax at)

told_in_formula : (bytes : List ℕ) (left next : Remainder) (p : Progress) (token : PlacedToken) (e : CnfError) → InFormula bytes left p → IsNextToken left token next → TellsWhy stage.Formula p token.at (terminal token.token) e → IsLinesCause bytes e
told_in_formula bytes left next p token error.Memory h n k = tt
told_in_formula bytes left next p token (error.Syntax at) h n k = formula_stopped bytes left next p token k.1.0 (error.Syntax at) h n k.0 k.1.1 k.1.2
told_in_formula bytes left next p token (error.Inappropriate w at) h n k = formula_stopped bytes left next p token k.1.0 (error.Inappropriate w at) h n k.0 k.1.1 k.1.2
told_in_formula bytes left next p token (error.Limit w at) h n k = formula_stopped bytes left next p token k.1.0 (error.Limit w at) h n k.0 k.1.1 k.1.2

abbrev OrMemory : CnfError → Type 0 → Type 0
OrMemory error.Memory A = Unit {0}
OrMemory e A = A

tells_in_include : (s : Stage) (ts : List Terminal) (p : Progress) (at : ℕ) (t : Terminal) (e : CnfError) → p.stage ≡ s → IncludePlace s ts p → TellsWhy s p at t e → (e ≡ error.Memory) ⊎ TellsInInclude p at t e
tells_in_include s ts p at t error.Memory q h k = inl refl
tells_in_include stage.Formula ts p at t e q h k = absurd h
tells_in_include s ts p at t (error.Syntax i) q h k = inr (subst (λ (x : Stage). (include_step x t ≡ None) × (error.Syntax i ≡ error.Syntax at)) (sym q) k)
tells_in_include s ts p at t (error.Inappropriate w i) q h k = inr (subst (λ (x : Stage). (include_step x t ≡ None) × (error.Inappropriate w i ≡ error.Syntax at)) (sym q) k)
tells_in_include s ts p at t (error.Limit w i) q h k = inr (subst (λ (x : Stage). (include_step x t ≡ None) × (error.Limit w i ≡ error.Syntax at)) (sym q) k)

pub stopped : (bytes : List ℕ) (left next : Remainder) (p : Progress) (token : PlacedToken) (e : CnfError) → ReadSoFar bytes left p → IsNextToken left token next → TellsWhy p.stage p token.at (terminal token.token) e → IsLinesCause bytes e
stopped bytes left next p token e (inl h) n k = told_in_formula bytes left next p token e h n (subst (λ (x : Stage). TellsWhy x p token.at (terminal token.token) e) h.stage k)
stopped bytes left next p token e (inr h) n k = by (tells_in_include p.stage (terminals h.tokens) p token.at (terminal token.token) e refl h.place k)
  where
    by : (e ≡ error.Memory) ⊎ TellsInInclude p token.at (terminal token.token) e → IsLinesCause bytes e
    by (inl m) = subst (IsLinesCause bytes) (sym m) tt
    by (inr m) = include_stopped bytes left next p token e h n m.0 m.1

-- ---- the end

cut_of : (now : Remainder) (tokens : List PlacedToken) (left : Remainder) → AreFirstTokens tokens now left → IsGap left.bytes [] → IsCutFrom now tokens
cut_of now [] left b g = subst (λ (x : Remainder). IsGap x.bytes []) (sym b) g
cut_of now (t ∷ tokens) left b g = (b.0, b.1, cut_of b.0 tokens left b.2 g)

short : (bytes : List ℕ) (left : Remainder) (p : Progress) (at : ℕ) (pieces : List Piece) (tokens : List PlacedToken) → Behind bytes left p pieces tokens → IsGap left.bytes [] → AreCutShort (terminals (tokens_of pieces ++ tokens)) → at ≡ length bytes → IsLinesCause bytes (error.Syntax at)
short bytes left p at pieces tokens b g c e = inr (record { tokens = tokens_of pieces ++ tokens; cut = cut_of (all_of bytes) (tokens_of pieces ++ tokens) left b.front g; short = c; place = e })

pub ended_early : (bytes : List ℕ) (left : Remainder) (p : Progress) (at : ℕ) → ReadSoFar bytes left p → IsGap left.bytes [] → ((p.stage ≡ stage.Formula) × (p.reading.state ≡ Between) → ⊥) → at ≡ length bytes → IsLinesCause bytes (error.Syntax at)
ended_early bytes left p at (inl h) g n e =
    short bytes left p at h.pieces h.tokens h.behind g
    (inl (record { lines = lines_of h.pieces; behind = terminals h.tokens; split = split h.pieces h.tokens; short = cut_short (without_includes (lines_of h.pieces) (terminals h.tokens)) p.reading h.reads (λ k. n (h.stage, k)) })) e
ended_early bytes left p at (inr h) g n e = short bytes left p at h.pieces h.tokens h.behind g (inr (inside bytes left p h)) e

pub are_lines : (bytes : List ℕ) (left : Remainder) (p : Progress) → ReadSoFar bytes left p → IsGap left.bytes [] → (p.stage ≡ stage.Formula) × (p.reading.state ≡ Between) → AreLines bytes p.lines
are_lines bytes left p (inl h) g k =
    let empty : h.tokens ≡ [] = none_behind h.tokens p.reading.state p h.place k.1 in
    let front : AreFirstTokens (tokens_of h.pieces) (all_of bytes) left = subst (λ (x : List PlacedToken). AreFirstTokens x (all_of bytes) left) (ap (λ (x : List PlacedToken). tokens_of h.pieces ++ x) empty ∙ append-nil (tokens_of h.pieces)) h.behind.front in
    record {
      pieces = h.pieces;
      cut = cut_of (all_of bytes) (tokens_of h.pieces) left front g;
      within = within_lines h.pieces p.reading (subst (λ (x : List Terminal). Reads (without_includes (lines_of h.pieces) x) p.reading) (nil_terminals h.tokens empty) h.reads);
      values = h.behind.lines;
    }
are_lines bytes left p (inr h) g k = absurd (subst (λ (x : Stage). IncludePlace x (terminals h.tokens) p) k.0 h.place)

pub not_whole : (b : Bool) (A : Type 0) → (IsTrue b ↔ A) → b ≡ false → A → ⊥
not_whole b A h e k = true≢false (sym (h.1 k) ∙ e)
