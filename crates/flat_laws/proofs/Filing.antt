-- The text of a file once it is flat is a file of the profile.
use Rattle.std.proofs.Common.{◌≡◌, ◌⊎◌, inl, inr, ◌≤◌, ◌<◌, ℕ, zero, suc, ◌+◌, ◌-◌, Bool, true, false, List, [], ◌∷◌, ◌++◌, length, map, take, drop, Option, Some, None, refl, sym, ap, subst, ◌∙◌, append_assoc, arith}
use Rattle.std.proofs.lemmas.List.{append-nil, length-append, map-append}
use Rattle.std.proofs.lemmas.Bool.Decides.{nat_tests}
use Rattle.std.specs.Prelude.{nat_le, nat_lt, if◌then◌else◌}
use Rattle.std.specs.List.{AllByRecursion, filter, list_any}
use Rattle.me_io.specs.declared.source.TheConstants.{MAX_BYTES}
use Rattle.me_terms.specs.LabelEquality.{same_label}
use Rattle.me_terms.specs.Values.{LabelValue, ProblemValue}
use Rattle.tptp_tokens.specs.Gaps.{GapPiece, Blank, Line, LastLine, Block, IsPiece, Skips}
use Rattle.tptp_tokens.specs.Remainders.{Remainder}
use Rattle.tptp_tokens.specs.Tokens.{TokenValue, PlacedToken, written, IsFirst, IsNextToken, IsCutFrom}
use Rattle.tptp_tokens.proofs.OneCut.{BadFirst, GoodFirst, first_view}
use Rattle.tptp_grammar.specs.declared.limits.TheConstants.{MAX_FORMULAS}
use Rattle.tptp_grammar.specs.Terminals.{Terminal, Dot, terminal, terminals}
use Rattle.tptp_grammar.specs.Written.{WrittenFormula}
use Rattle.tptp_grammar.specs.Printed.{printed}
use Rattle.tptp_grammar.specs.Files.{PassesNoLimit}
use Rattle.tptp_grammar.specs.Machine.{State, Between, Begun, Opened, Closed, step, run_on}
use Rattle.tptp_grammar.proofs.Runs.{file_runs, run_of}
use Rattle.tptp_cnf.specs.Causes.{AreFirstTokens}
use Rattle.tptp_cnf.specs.Files.{IsFile}
use Rattle.tptp_cnf.specs.Meaning.{problem_of}
use Rattle.tptp_lines.specs.WrittenLines.{WrittenLine, FormulaLine, IncludeLine, line_terminals, formulas_of}
use Rattle.tptp_lines.specs.Lines.{LineValue, Formula, Include, Piece, tokens_of, lines_of, last_place, value_of, piece_value, AreLines}
use Rattle.tptp_lines.proofs.Printing.{terminals-append}
use Rattle.tptp_lines.proofs.States.{IsLate, late, begins, opens, labels}
use Rattle.tptp_include.specs.Files.{FileValue}
use Rattle.tptp_include.specs.Flat.{FlatValue, text_of, between, picked, AreFlatLines, IsFlat}
use Rattle.tptp_include.specs.Outcomes.{Stop, Outcome, Flat, Stops, Giving, added, joined, LineGives, LinesGive, BytesGive, FileGives, IsOutcome}
use Rattle.tptp_include.specs.declared.limits.TheConstants.{MAX_CHAIN}
use Rattle.tptp_include.proofs.Adding.{chosen}
use Rattle.tptp_include.proofs.Flattening.{outcome_is_flat}
use Rattle.flat_laws.proofs.Limiting.{terminals_of, EachWithin, alone_of, within_all}
use Rattle.flat_laws.proofs.Slices.{Spans, values, EndsInDot, last_at, span_of, left_of, cut_as, first_on, good_no_piece}

-- ---- the last token of a formula

place_of : (s : State) → (s ≡ Between) ⊎ ((s ≡ Begun) ⊎ ((s ≡ Opened) ⊎ IsLate s))
place_of Between = inl refl
place_of Begun = inr (inl refl)
place_of Opened = inr (inr (inl refl))
place_of s = inr (inr (inr tt))

closed_or : (s : State) → (s ≡ Closed) ⊎ (s ≡ Closed → ⊥)
closed_or Closed = inl refl
closed_or s = inr (λ e. cc)

closed_dot : (t : Terminal) (u : State) → step Closed t ≡ Some u → t ≡ Dot
closed_dot Dot u e = refl
closed_dot t u e = absurd cc

-- only a full stop leads to the place between two formulas
to_between : (s : State) (t : Terminal) → step s t ≡ Some Between → t ≡ Dot
to_between s t e = by (place_of s)
  where
    begun_no : Between ≡ Begun → ⊥
    begun_no k = cc

    opened_no : Between ≡ Opened → ⊥
    opened_no k = cc

    labelled : (u : State) → u ≡ Between → IsLate u → ⊥
    labelled u k h = subst IsLate k h

    closing : IsLate s → (s ≡ Closed) ⊎ (s ≡ Closed → ⊥) → t ≡ Dot
    closing h (inl k) = closed_dot t Between (ap (λ (x : State). step x t) (sym k) ∙ e)
    closing h (inr n) = absurd (labelled Between refl (late s Between t h n e))

    by : (s ≡ Between) ⊎ ((s ≡ Begun) ⊎ ((s ≡ Opened) ⊎ IsLate s)) → t ≡ Dot
    by (inl k) = absurd (begun_no (begins t Between (ap (λ (x : State). step x t) (sym k) ∙ e)))
    by (inr (inl k)) = absurd (opened_no (opens t Between (ap (λ (x : State). step x t) (sym k) ∙ e)))
    by (inr (inr (inl k))) = absurd (labelled Between refl (subst IsLate (sym (labels t Between (ap (λ (x : State). step x t) (sym k) ∙ e))) tt))
    by (inr (inr (inr h))) = closing h (closed_or s)

dot_last : (ps : List PlacedToken) (p : PlacedToken) (s : State) → run_on (Some s) (terminal p.token ∷ terminals ps) ≡ Some Between → EndsInDot p ps
dot_last [] p s e = to_between s (terminal p.token) (by (step s (terminal p.token)) e)
  where
    by : (o : Option State) → run_on o [] ≡ Some Between → o ≡ Some Between
    by None k = k
    by (Some u) k = k
dot_last (q ∷ ps) p s e = by (step s (terminal p.token)) e (λ u k. dot_last ps q u k)
  where
    by : (o : Option State) → run_on o (terminal q.token ∷ terminals ps) ≡ Some Between → ((u : State) → run_on (Some u) (terminal q.token ∷ terminals ps) ≡ Some Between → EndsInDot q ps) → EndsInDot q ps
    by None k on = absurd cc
    by (Some u) k on = on u k

-- ---- what is left behind tokens

abbrev Suffix : List ℕ → List ℕ → Type 0
Suffix bytes rest = (front : List ℕ) × (bytes ≡ front ++ rest)

suffix_on : (xs ys zs : List ℕ) → Suffix xs ys → Suffix ys zs → Suffix xs zs
suffix_on xs ys zs h k = (h.0 ++ k.0, h.1 ∙ ap (λ (x : List ℕ). h.0 ++ x) k.1 ∙ sym (append_assoc h.0 k.0 zs))

piece_suffix : (piece : GapPiece) (bytes rest : List ℕ) → IsPiece piece bytes rest → Suffix bytes rest
piece_suffix (Blank b) bytes rest h = (b ∷ [], h.0)
piece_suffix (Line text) bytes rest h = (37 ∷ (text ++ 10 ∷ []), h.0 ∙ ap (λ (x : List ℕ). 37 ∷ x) (sym (append_assoc text (10 ∷ []) rest)))
piece_suffix (LastLine text) bytes rest h = (37 ∷ text, h.0 ∙ ap (λ (x : List ℕ). 37 ∷ x) (sym (append-nil text)) ∙ ap (λ (x : List ℕ). 37 ∷ (text ++ x)) (sym h.2))
piece_suffix (Block text) bytes rest h = (47 ∷ 42 ∷ (text ++ 42 ∷ 47 ∷ []), h.1 ∙ ap (λ (x : List ℕ). 47 ∷ 42 ∷ x) (h.2.here ∙ sym (append_assoc text (42 ∷ 47 ∷ []) rest)))

gap_suffix : (pieces : List GapPiece) (bytes rest : List ℕ) → Skips pieces bytes rest → Suffix bytes rest
gap_suffix [] bytes rest h = ([], sym h.0)
gap_suffix (piece ∷ pieces) bytes rest h = suffix_on bytes h.0 rest (piece_suffix piece bytes h.0 h.1) (gap_suffix pieces h.0 rest h.2)

first_suffix : (t : TokenValue) (bytes rest : List ℕ) → IsFirst t bytes rest → Suffix bytes rest
first_suffix t bytes rest h = by (first_view t.kind t.text bytes rest h)
  where
    by : (BadFirst t.kind t.text bytes rest ⊎ GoodFirst t.kind t.text bytes rest) → Suffix bytes rest
    by (inl b) = (bytes, sym (append-nil bytes) ∙ ap (λ (x : List ℕ). bytes ++ x) (sym b.none))
    by (inr g) = (written t, g.longest.parts)

next_suffix : (now left : Remainder) (p : PlacedToken) → IsNextToken now p left → Suffix now.bytes left.bytes
next_suffix now left p n = suffix_on now.bytes n.middle left.bytes (gap_suffix n.gap.0 now.bytes n.middle n.gap.1) (first_suffix p.token n.middle left.bytes n.first)

tokens_suffix : (ps : List PlacedToken) (now left : Remainder) → AreFirstTokens ps now left → Suffix now.bytes left.bytes
tokens_suffix [] now left h = ([], ap (λ (x : Remainder). x.bytes) h)
tokens_suffix (p ∷ ps) now left h = suffix_on now.bytes h.0.bytes left.bytes (next_suffix now h.0 p h.1) (tokens_suffix ps h.0 left h.2)

tokens_total : (ps : List PlacedToken) (now left : Remainder) → AreFirstTokens ps now left → left.at + length left.bytes ≡ now.at + length now.bytes
tokens_total [] now left h = ap (λ (x : Remainder). x.at + length x.bytes) (sym h)
tokens_total (p ∷ ps) now left h = tokens_total ps h.0 left h.2 ∙ h.1.end

cut_split : (xs ys : List PlacedToken) (now : Remainder) → IsCutFrom now (xs ++ ys) → (mid : Remainder) × AreFirstTokens xs now mid × IsCutFrom mid ys
cut_split [] ys now c = (now, refl, c)
cut_split (x ∷ xs) ys now c = let k = cut_split xs ys c.0 c.2 in (k.0, (c.0, c.1, k.1), k.2)

-- ---- the formulas of a file

-- the bytes are those of a formula within the limits, from its first token to its full stop
pub record IsFormulaText (bytes : List ℕ) : Type 0 where
  pub token : PlacedToken
  pub others : List PlacedToken
  pub rest : List ℕ
  pub spans : Spans (token.token ∷ values others) bytes rest
  pub formula : WrittenFormula
  pub same : terminals (token ∷ others) ≡ terminals_of (formula ∷ [])
  pub within : PassesNoLimit (printed (formula ∷ []))

take_front : (xs ys : List ℕ) → take (length xs) (xs ++ ys) ≡ xs
take_front [] ys = refl
take_front (x ∷ xs) ys = ap (λ (z : List ℕ). x ∷ z) (take_front xs ys)

drop_front : (xs ys : List ℕ) → drop (length xs) (xs ++ ys) ≡ ys
drop_front [] ys = refl
drop_front (x ∷ xs) ys = drop_front xs ys

last_same : (p : PlacedToken) (ps : List PlacedToken) → last_place (p ∷ ps) ≡ last_at p ps
last_same p [] = refl
last_same p (q ∷ ps) = last_same q ps

-- where tokens are taken from the bytes of a file
record Inside (bytes : List ℕ) (now : Remainder) : Type 0 where
  front : List ℕ
  same : bytes ≡ front ++ now.bytes
  place : now.at + length now.bytes ≡ length bytes

inside_on : (bytes : List ℕ) (ps : List PlacedToken) (now left : Remainder) → Inside bytes now → AreFirstTokens ps now left → Inside bytes left
inside_on bytes ps now left i h =
    let s = tokens_suffix ps now left h in
    record { front = i.front ++ s.0; same = i.same ∙ ap (λ (x : List ℕ). i.front ++ x) s.1 ∙ sym (append_assoc i.front s.0 left.bytes); place = tokens_total ps now left h ∙ i.place }

formula_text : (bytes : List ℕ) (now left : Remainder) (p : PlacedToken) (ps : List PlacedToken) (f : WrittenFormula) → Inside bytes now → AreFirstTokens (p ∷ ps) now left → terminals (p ∷ ps) ≡ terminals_of (f ∷ []) → PassesNoLimit (printed (f ∷ []))
    → IsFormulaText (between bytes p.at (suc (last_place (p ∷ ps))))
formula_text bytes now left p ps f i h same within =
    let n : IsNextToken now p h.0 = h.1 in
    let dot = dot_last ps p Between (ap (run_on (Some Between)) same ∙ run_of Between (printed (f ∷ [])) Between (file_runs (f ∷ []))) in
    let s = span_of ps p n.middle h.0 left n.first (n.place ∙ sym n.end) h.2 dot in
    let g = gap_suffix n.gap.0 now.bytes n.middle n.gap.1 in
    let before : List ℕ = i.front ++ g.0 in
    let whole : bytes ≡ before ++ n.middle = i.same ∙ ap (λ (x : List ℕ). i.front ++ x) g.1 ∙ sym (append_assoc i.front g.0 n.middle) in
    let at : p.at ≡ length before = omega (arith, ap length whole, length-append before n.middle, n.place, i.place) in
    let behind : drop p.at bytes ≡ s.w ++ left.bytes = ap (λ (x : ℕ). drop x bytes) at ∙ ap (drop (length before)) whole ∙ drop_front before n.middle ∙ s.same in
    let size : suc (last_place (p ∷ ps)) - p.at ≡ length s.w = omega (arith, s.ends, last_same p ps, ap length s.same, length-append s.w left.bytes) in
    let text : between bytes p.at (suc (last_place (p ∷ ps))) ≡ s.w =
    ap (λ (x : ℕ). take x (drop p.at bytes)) size ∙ ap (take (length s.w)) behind ∙ take_front s.w left.bytes in
    subst IsFormulaText (sym text) (record { token = p; others = ps; rest = left.bytes; spans = s.spans; formula = f; same = same; within = within })

-- what is known of a line
abbrev Lawful : List ℕ → LineValue → Type 0
Lawful bytes (Formula label from to) = IsFormulaText (between bytes from to)
Lawful bytes (Include file picks) = Unit {0}

line_lawful : (bytes : List ℕ) (now left : Remainder) (ts : List PlacedToken) (w : WrittenLine) → Inside bytes now → AreFirstTokens ts now left → terminals ts ≡ line_terminals w → EachWithin (formulas_of (w ∷ [])) → Lawful bytes (value_of ts w)
line_lawful bytes now left [] (FormulaLine f) i h e k = absurd cc
line_lawful bytes now left (p ∷ ps) (FormulaLine f) i h e k = formula_text bytes now left p ps f i h e k.0
line_lawful bytes now left ts (IncludeLine j) i h e k = tt

each_first : (w : WrittenLine) (ws : List WrittenLine) → EachWithin (formulas_of (w ∷ ws)) → EachWithin (formulas_of (w ∷ [])) × EachWithin (formulas_of ws)
each_first (FormulaLine f) ws h = ((h.0, tt), h.1)
each_first (IncludeLine j) ws h = (tt, h)

pieces_lawful : (pieces : List Piece) (bytes : List ℕ) (now : Remainder) → Inside bytes now → IsCutFrom now (tokens_of pieces) → EachWithin (formulas_of (lines_of pieces)) → AllByRecursion (Lawful bytes) (map piece_value pieces)
pieces_lawful [] bytes now i c h = tt
pieces_lawful (p ∷ pieces) bytes now i c h =
    let k = cut_split p.tokens (tokens_of pieces) now c in
    let e = each_first p.written (lines_of pieces) h in
    (line_lawful bytes now k.0 p.tokens p.written i k.1 p.same e.0, pieces_lawful pieces bytes k.0 (inside_on bytes p.tokens now k.0 i k.1) k.2 e.1)

lines_lawful : (bytes : List ℕ) (lines : List LineValue) → AreLines bytes lines → AllByRecursion (Lawful bytes) lines
lines_lawful bytes lines a =
    subst (AllByRecursion (Lawful bytes)) (sym a.values)
    (pieces_lawful a.pieces bytes (record { at = 0; bytes = bytes }) (record { front = []; same = refl; place = omega arith }) a.cut (alone_of (formulas_of (lines_of a.pieces)) a.within))

-- ---- the formulas of a flat file

abbrev AreTexts : List FlatValue → Type 0
AreTexts fs = AllByRecursion (λ f. IsFormulaText f.bytes) fs

texts_join : (xs ys : List FlatValue) → AreTexts xs → AreTexts ys → AreTexts (xs ++ ys)
texts_join [] ys h k = k
texts_join (x ∷ xs) ys h k = (h.0, texts_join xs ys h.1 k)

texts_filter : (p : FlatValue → Bool) (fs : List FlatValue) → AreTexts fs → AreTexts (filter p fs)
texts_filter p [] h = tt
texts_filter p (f ∷ fs) h = by (p f) (texts_filter p fs h.1)
  where
    by : (b : Bool) → AreTexts (filter p fs) → AreTexts (if b then f ∷ filter p fs else filter p fs)
    by true k = (h.0, k)
    by false k = k

texts_picked : (picks : Option (List LabelValue)) (fs : List FlatValue) → AreTexts fs → AreTexts (picked picks fs)
texts_picked None fs h = h
texts_picked (Some labels) fs h = texts_filter (λ f. list_any (same_label f.label) labels) fs h

lines_texts : (P : List ℕ → List FlatValue → Type 0) → ((name : List ℕ) (flat : List FlatValue) → P name flat → AreTexts flat) → (bytes : List ℕ) (lines : List LineValue) (flat : List FlatValue) → AllByRecursion (Lawful bytes) lines → AreFlatLines P bytes lines flat → AreTexts flat
lines_texts P on bytes [] flat l h = subst AreTexts (sym h) tt
lines_texts P on bytes (Formula label from to ∷ lines) flat l h = subst AreTexts (sym h.1) (l.0, lines_texts P on bytes lines h.0 l.1 h.2)
lines_texts P on bytes (Include file picks ∷ lines) flat l h = subst AreTexts (sym h.3) (texts_join (picked picks h.0) h.1 (texts_picked picks h.0 (on file h.0 h.2)) (lines_texts P on bytes lines h.1 l.1 h.4))

flat_texts : (depth : ℕ) (files : List FileValue) (name : List ℕ) (flat : List FlatValue) → IsFlat depth files name flat → AreTexts flat
flat_texts zero files name flat h = absurd h
flat_texts (suc depth) files name flat h = lines_texts (IsFlat depth files) (λ n f k. flat_texts depth files n f k) h.0 h.1 flat (lines_lawful h.0 h.1 h.3) h.4

-- ---- their text

blank_more : (n : ℕ) (text : List ℕ) (tokens : List PlacedToken) → length (10 ∷ text) ≤ n → IsCutFrom (left_of n text) tokens → IsCutFrom (left_of n (10 ∷ text)) tokens
blank_more n text [] le c = (Blank 10 ∷ c.0, (text, (refl, refl), c.1))
blank_more n text (t ∷ tokens) le c =
    let k : IsNextToken (left_of n text) t c.0 = c.1 in
    (c.0, record { middle = k.middle; gap = (Blank 10 ∷ k.gap.0, (text, (refl, refl), k.gap.1)); first = k.first; place = omega (arith, le, k.place); end = omega (arith, le, k.end) }, c.2)

terminals_values : (ps qs : List PlacedToken) → values ps ≡ values qs → terminals ps ≡ terminals qs
terminals_values [] [] e = refl
terminals_values [] (q ∷ qs) e = absurd cc
terminals_values (p ∷ ps) [] e = absurd cc
terminals_values (p ∷ ps) (q ∷ qs) e =
    let h : p.token ≡ q.token = cc in
    let k : values ps ≡ values qs = cc in
    ap (λ (x : TokenValue). terminal x ∷ terminals ps) h ∙ ap (λ (x : List Terminal). terminal q.token ∷ x) (terminals_values ps qs k)

-- so many bytes end with this text, which is cut into the tokens of as many formulas, each within the limits
record CutText (n : ℕ) (fs : List FlatValue) : Type 0 where
  tokens : List PlacedToken
  cut : IsCutFrom (left_of n (text_of fs)) tokens
  formulas : List WrittenFormula
  same : terminals tokens ≡ terminals_of formulas
  within : EachWithin formulas
  many : length formulas ≡ length fs

no_gap_at_end : (piece : GapPiece) (after : List ℕ) → IsPiece piece [] after → ⊥
no_gap_at_end (Blank b) after h = let e = h.0 in cc
no_gap_at_end (Line text) after h = let e = h.0 in cc
no_gap_at_end (LastLine text) after h = let e = h.0 in cc
no_gap_at_end (Block text) after h = let e = h.1 in cc

cut_text : (fs : List FlatValue) (n : ℕ) → AreTexts fs → length (text_of fs) ≤ n → CutText n fs
cut_text [] n h le = record { tokens = []; cut = ([], (refl, no_gap_at_end)); formulas = []; same = refl; within = tt; many = refl }
cut_text (f ∷ fs) n h le =
    let t : IsFormulaText f.bytes = h.0 in
    let text : List ℕ = f.bytes ++ 10 ∷ text_of fs in
    let row : text_of (f ∷ fs) ≡ text = append_assoc f.bytes (10 ∷ []) (text_of fs) in
    let long : length text ≤ n = omega (arith, le, ap length row) in
    let r = cut_text fs n h.1 (omega (arith, long, length-append f.bytes (10 ∷ text_of fs))) in
    let more = blank_more n (text_of fs) r.tokens (omega (arith, long, length-append f.bytes (10 ∷ text_of fs))) r.cut in
    let g = first_on t.token.token (values t.others) f.bytes t.rest (text_of fs) t.spans in
    let c = cut_as (t.token.token ∷ values t.others) f.bytes t.rest (text_of fs) t.spans n text long ([], (refl, λ piece after p. good_no_piece t.token.token text g.0 g.1 piece after p)) (omega arith) r.tokens more in
    record {
      tokens = c.placed ++ r.tokens;
      cut = subst (λ (x : List ℕ). IsCutFrom (left_of n x) (c.placed ++ r.tokens)) (sym row) c.cut;
      formulas = t.formula ∷ r.formulas;
      same = map-append (λ placed. terminal placed.token) c.placed r.tokens
          ∙ ap (λ (x : List Terminal). x ++ terminals r.tokens) (terminals_values c.placed (t.token ∷ t.others) c.same ∙ t.same)
          ∙ ap (λ (x : List Terminal). terminals_of (t.formula ∷ []) ++ x) r.same
          ∙ sym (terminals-append (t.formula ∷ []) r.formulas);
      within = (t.within, r.within);
      many = omega (arith, r.many);
    }

-- ---- how many they are

stop_no_flat : (why : Stop) (flat : List FlatValue) → Stops why ≡ Flat flat → ⊥
stop_no_flat why flat e = cc

flat_is : (xs ys : List FlatValue) → Flat xs ≡ Flat ys → xs ≡ ys
flat_is xs ys e = cc

added_few : (so_far fs new : List FlatValue) → added so_far fs ≡ Flat new → length so_far ≤ MAX_FORMULAS → length new ≤ MAX_FORMULAS
added_few so_far [] new e le = subst (λ (x : List FlatValue). length x ≤ MAX_FORMULAS) (flat_is so_far new e) le
added_few so_far (f ∷ fs) new e le =
    by (nat_le MAX_FORMULAS (length so_far)) (nat_lt MAX_BYTES (length (text_of (so_far ++ f ∷ [])))) refl e (λ k l. added_few (so_far ++ f ∷ []) fs new k l)
  where
    room : nat_le MAX_FORMULAS (length so_far) ≡ false → length (so_far ++ f ∷ []) ≤ MAX_FORMULAS
    room k = let lt : length so_far < MAX_FORMULAS = grind (arith, nat_tests, k) in omega (arith, lt, length-append so_far (f ∷ []))

    by : (a b : Bool) → nat_le MAX_FORMULAS (length so_far) ≡ a → chosen a b (added (so_far ++ f ∷ []) fs) ≡ Flat new → (added (so_far ++ f ∷ []) fs ≡ Flat new → length (so_far ++ f ∷ []) ≤ MAX_FORMULAS → length new ≤ MAX_FORMULAS) → length new ≤ MAX_FORMULAS
    by true b s k on = absurd (stop_no_flat _ new k)
    by false true s k on = absurd (stop_no_flat _ new k)
    by false false s k on = on k (room s)

joined_few : (so_far : List FlatValue) (found : Outcome) (new : List FlatValue) → joined so_far found ≡ Flat new → length so_far ≤ MAX_FORMULAS → length new ≤ MAX_FORMULAS
joined_few so_far (Stops why) new e le = absurd (stop_no_flat why new e)
joined_few so_far (Flat fs) new e le = added_few so_far fs new e le

line_few : (G : Giving) (chain : List (List ℕ)) (bytes : List ℕ) (line : LineValue) (so_far new : List FlatValue) (count n : ℕ) → LineGives G chain bytes line so_far count (Flat new) n → length so_far ≤ MAX_FORMULAS → length new ≤ MAX_FORMULAS
line_few G chain bytes (Formula label from to) so_far new count n h le = added_few so_far (record { label = label; bytes = between bytes from to } ∷ []) new (sym h.0) le
line_few G chain bytes (Include file picks) so_far new count n h le = joined_few so_far h.0 new (sym h.2) le

lines_few : (G : Giving) (chain : List (List ℕ)) (bytes : List ℕ) (lines : List LineValue) (so_far flat : List FlatValue) (count n : ℕ) → LinesGive G chain bytes lines so_far count (Flat flat) n → length so_far ≤ MAX_FORMULAS → length flat ≤ MAX_FORMULAS
lines_few G chain bytes [] so_far flat count n h le = subst (λ (x : List FlatValue). length x ≤ MAX_FORMULAS) (flat_is so_far flat (sym h.0)) le
lines_few G chain bytes (line ∷ lines) so_far flat count n (inl h) le = absurd (stop_no_flat h.0 flat (sym h.2))
lines_few G chain bytes (line ∷ lines) so_far flat count n (inr h) le = lines_few G chain bytes lines h.0 flat h.1 n h.3 (line_few G chain bytes line so_far h.0 count h.1 h.2 le)

file_few : (room : ℕ) (files : List FileValue) (chain : List (List ℕ)) (name : List ℕ) (count n : ℕ) (flat : List FlatValue) → FileGives room files chain name count (Flat flat) n → length flat ≤ MAX_FORMULAS
file_few zero files chain name count n flat h = absurd h
file_few (suc room) files chain name count n flat (inl h) = absurd (stop_no_flat _ flat (sym h.1))
file_few (suc room) files chain name count n flat (inr h) = by h.2
  where
    by : BytesGive (FileGives room files) chain name h.0 count (Flat flat) n → length flat ≤ MAX_FORMULAS
    by (inl k) = absurd (stop_no_flat _ flat (sym k.3))
    by (inr k) = lines_few (FileGives room files) chain h.0 k.0 [] flat count n k.2 (omega arith)

-- ---- the file

pub flat_is_file : (files : List FileValue) (main : List ℕ) (flat : List FlatValue) → IsOutcome files main (Flat flat) → (problem : ProblemValue) × IsFile (text_of flat) problem
flat_is_file files main flat h =
    let n : ℕ = length (text_of flat) in
    let c = cut_text flat n (flat_texts MAX_CHAIN files main flat (outcome_is_flat files main flat h)) (omega arith) in
    let few = file_few MAX_CHAIN files (main ∷ []) main 0 h.0 flat h.1 in (
      problem_of c.formulas,
      record {
        tokens = c.tokens;
        cut = subst (λ (x : ℕ). IsCutFrom (record { at = x; bytes = text_of flat }) c.tokens) (omega arith) c.cut;
        file = c.formulas;
        written = record { written = c.same; within = within_all c.formulas c.within (omega (arith, few, c.many)) };
        means = refl;
      },
    )
