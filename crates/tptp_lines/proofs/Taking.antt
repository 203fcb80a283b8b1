-- The reader's machine over tokens alone: where it stands behind lines and behind what is refused.
use Rattle.std.proofs.Common.{◌≡◌, ◌≢◌, ◌⊎◌, inl, inr, ℕ, Bool, true, false, List, [], ◌∷◌, ◌++◌, Option, Some, None, codes, refl, sym, ap, subst, ◌∙◌, append_assoc, cond}
use Rattle.std.proofs.lemmas.List.{append-nil}
use Rattle.std.specs.Prelude.{◌&&◌}
use Rattle.tptp_grammar.specs.Terminals.{Terminal, LowerWord, SingleQuoted, OpenRound, CloseRound, OpenSquare, CloseSquare, Comma, Dot}
use Rattle.tptp_grammar.specs.Written.{WrittenLabel, Named, Numbered, Bare, Quoted, WrittenFormula}
use Rattle.tptp_grammar.specs.Printed.{Printed, printed, printed_terminals, label_terminal}
use Rattle.tptp_grammar.specs.Files.{PassesNoLimit}
use Rattle.tptp_grammar.specs.Limits.{passes}
use Rattle.tptp_grammar.specs.Refusals.{is_include, IsRefusalOf}
use Rattle.tptp_grammar.specs.Machine.{State, Between}
use Rattle.tptp_grammar.specs.Readings.{Reading, start_reading, Verdict, GoesOn, Refused, judged, verdict, on_from}
use Rattle.tptp_grammar.specs.declared.refusal.What.TheVariants as what
use Rattle.tptp_grammar.specs.declared.refusal.Which.{Which}
use Rattle.tptp_grammar.specs.declared.refusal.Refusal.{Refusal}
use Rattle.tptp_grammar.specs.declared.refusal.Refusal.TheVariants as refusal
use Rattle.tptp_grammar.proofs.Fronts.{on-append}
use Rattle.tptp_grammar.proofs.Judgements.{Reads, file_read, found, cut_short_read}
use Rattle.tptp_lines.specs.WrittenLines.{Selection, WrittenInclude, WrittenLine, FormulaLine, IncludeLine, commaed, selection_terminals, include_terminals, line_terminals, lines_terminals, formulas_of}
use Rattle.tptp_lines.specs.LineRefusals.{without_includes, IsRefusedInFormula, IsInInclude, IsRefusedInInclude, IsRefusalInLines, IsCutInFormula, AreCutShort}
use Rattle.tptp_cnf.specs.Rows.{no_label}
use Rattle.tptp_lines.specs.Progress.{Progress, include_step, include_fed, at_stage}
use Rattle.tptp_lines.specs.declared.stage.Stage.{Stage}
use Rattle.tptp_lines.specs.declared.stage.Stage.TheVariants as stage
use Rattle.tptp_lines.proofs.Includes.{IncludePlace, PlaceAfter, include_more, steps, unfinished}
use Rattle.tptp_lines.proofs.Parsing.{one_include}
use Rattle.tptp_lines.proofs.Printing.{printed-append, terminals-append}
use Rattle.tptp_lines.proofs.Reached.{within_read, include_word}

-- the machine's reading and the stage, or why a token was refused
pub data Way : Type 0 where
  On : Reading → Stage → Way
  Off : Refusal → Way

abbrev is_between : State → Bool
is_between Between = true
is_between s = false

abbrev by_verdict : Verdict → Way
by_verdict (GoesOn u) = On u stage.Formula
by_verdict (Refused x) = Off x

abbrev by_stage : Reading → Option Stage → Way
by_stage r None = Off refusal.Syntax
by_stage r (Some s) = On r s

abbrev begins : Reading → Terminal → Bool
begins r t = is_between r.state && is_include t

abbrev pub take : Stage → Reading → Terminal → Way
take stage.Formula r t = cond (begins r t) (On r stage.Included) (by_verdict (verdict r t))
take s r t = by_stage r (include_step s t)

abbrev pub takes : Way → List Terminal → Way
takes (Off x) ts = Off x
takes (On r s) [] = On r s
takes (On r s) (t ∷ ts) = takes (take s r t) ts

pub takes-append : (w : Way) (ts us : List Terminal) → takes w (ts ++ us) ≡ takes (takes w ts) us
takes-append (Off x) ts us = stays us
  where
    stays : (us : List Terminal) → Off x ≡ takes (Off x) us
    stays us = refl
takes-append (On r s) [] us = refl
takes-append (On r s) (t ∷ ts) us = takes-append (take s r t) ts us

abbrev pub start : Way
start = On start_reading stage.Formula

-- ---- formulas

and_true : (a b : Bool) → (a && b) ≡ true → (a ≡ true) × (b ≡ true)
and_true true true e = (refl, refl)
and_true true false e = absurd cc
and_true false b e = absurd cc

between_is : (s : State) → is_between s ≡ true → s ≡ Between
between_is Between e = refl
between_is s e = absurd cc

-- the word include is refused between two formulas
include_refused : (r : Reading) (t : Terminal) → begins r t ≡ true → verdict r t ≡ Refused (refusal.Inappropriate what.Include)
include_refused r t e =
    let h = and_true (is_between r.state) (is_include t) e in
    let at : r.state ≡ Between = between_is r.state h.0 in
    by r.state r at t (include_word t h.1)
  where
    by : (s : State) (r : Reading) → r.state ≡ Between → (t : Terminal) → t ≡ LowerWord (codes "include") → verdict r t ≡ Refused (refusal.Inappropriate what.Include)
    by s r at t w = ap (verdict r) w ∙ (rw at refl)

goes_apart : (x : Refusal) (u : Reading) → Refused x ≡ GoesOn u → ⊥
goes_apart x u e = cc

on_refused : (x : Refusal) (ts : List Terminal) (u : Reading) → on_from (Refused x) ts ≡ GoesOn u → ⊥
on_refused x ts u e = cc

abbrev Onwards : List Terminal → Reading → Type 0
Onwards ts u = (q : Reading) → on_from (GoesOn q) ts ≡ GoesOn u → takes (On q stage.Formula) ts ≡ On u stage.Formula

-- where the machine goes on, the reader does
pub formula_takes : (ts : List Terminal) (r u : Reading) → on_from (GoesOn r) ts ≡ GoesOn u → takes (On r stage.Formula) ts ≡ On u stage.Formula
formula_takes [] r u e = let same : r ≡ u = cc in ap (λ (x : Reading). On x stage.Formula) same
formula_takes (t ∷ ts) r u e = by (λ q. formula_takes ts q u) (begins r t) refl
  where
    goes : Onwards ts u → (v : Verdict) → on_from v ts ≡ GoesOn u → takes (by_verdict v) ts ≡ On u stage.Formula
    goes on (GoesOn q) k = on q k
    goes on (Refused x) k = absurd (on_refused x ts u k)

    by : Onwards ts u → (b : Bool) → begins r t ≡ b → takes (cond b (On r stage.Included) (by_verdict (verdict r t))) ts ≡ On u stage.Formula
    by on true k = absurd (on_refused _ ts u (ap (λ (v : Verdict). on_from v ts) (sym (include_refused r t k)) ∙ e))
    by on false k = goes on (verdict r t) e

-- ---- includes

names_take : (ls : List WrittenLabel) (r : Reading) (rest : List Terminal) → takes (On r stage.Picked) (commaed ls ++ rest) ≡ takes (On r stage.Picked) rest
names_take [] r rest = refl
names_take (Named (Bare text) ∷ ls) r rest = names_take ls r rest
names_take (Named (Quoted text) ∷ ls) r rest = names_take ls r rest
names_take (Numbered text ∷ ls) r rest = names_take ls r rest

first_takes : (l : WrittenLabel) (ls : List WrittenLabel) (r : Reading) (rest : List Terminal) → takes (On r stage.Picking) (label_terminal l ∷ (commaed ls ++ rest)) ≡ takes (On r stage.Picked) rest
first_takes (Named (Bare text)) ls r rest = names_take ls r rest
first_takes (Named (Quoted text)) ls r rest = names_take ls r rest
first_takes (Numbered text) ls r rest = names_take ls r rest

selection_takes : (s : Option Selection) (r : Reading) → takes (On r stage.Named) (selection_terminals s ++ CloseRound ∷ Dot ∷ []) ≡ On r stage.Formula
selection_takes None r = refl
selection_takes (Some s) r =
    ap (λ (x : List Terminal). takes (On r stage.Picking) (label_terminal s.first ∷ x)) (append_assoc (commaed s.others) (CloseSquare ∷ []) (CloseRound ∷ Dot ∷ []))
    ∙ first_takes s.first s.others r (CloseSquare ∷ CloseRound ∷ Dot ∷ [])

word_begins : (r : Reading) → r.state ≡ Between → take stage.Formula r (LowerWord (codes "include")) ≡ On r stage.Included
word_begins r b = rw b refl

pub include_takes : (i : WrittenInclude) (r : Reading) → r.state ≡ Between → takes (On r stage.Formula) (include_terminals i) ≡ On r stage.Formula
include_takes i r b =
    ap (λ (w : Way). takes w (OpenRound ∷ SingleQuoted i.file ∷ (selection_terminals i.selection ++ CloseRound ∷ Dot ∷ []))) (word_begins r b) ∙ selection_takes i.selection r

-- ---- lines

within_front : (ps qs : List Printed) → PassesNoLimit (ps ++ qs) → PassesNoLimit ps
within_front ps qs h = λ before after p which e. h before (after ++ qs) p which (ap (λ (x : List Printed). x ++ qs) e ∙ append_assoc before (p ∷ after) qs)

within_files : (fs gs : List WrittenFormula) → PassesNoLimit (printed (fs ++ gs)) → PassesNoLimit (printed fs)
within_files fs gs h = within_front (printed fs) (printed gs) (subst PassesNoLimit (printed-append fs gs) h)

abbrev terminals_of : List WrittenFormula → List Terminal
terminals_of fs = printed_terminals (printed fs)

-- where the reader stands behind whole lines: the machine has read their formulas, and stands between two
pub record BehindLines (fs : List WrittenFormula) (lines : List WrittenLine) (r : Reading) : Type 0 where
  pub reading : Reading
  pub goes : takes (On r stage.Formula) (lines_terminals lines) ≡ On reading stage.Formula
  pub reads : Reads (terminals_of (fs ++ formulas_of lines)) reading
  pub between : reading.state ≡ Between

one_reading : (ts : List Terminal) (r u : Reading) → Reads ts r → Reads ts u → r ≡ u
one_reading ts r u e k = let same : GoesOn r ≡ GoesOn u = sym e ∙ k in cc

lines_take : (lines : List WrittenLine) (fs : List WrittenFormula) (r : Reading) → Reads (terminals_of fs) r → r.state ≡ Between → PassesNoLimit (printed (fs ++ formulas_of lines)) → BehindLines fs lines r
lines_take [] fs r e b w = record { reading = r; goes = refl; reads = subst (λ (x : List WrittenFormula). Reads (terminals_of x) r) (sym (append-nil fs)) e; between = b }
lines_take (IncludeLine i ∷ lines) fs r e b w =
    let h = lines_take lines fs r e b w in
    record {
      reading = h.reading;
      goes = takes-append (On r stage.Formula) (include_terminals i) (lines_terminals lines) ∙ ap (λ (x : Way). takes x (lines_terminals lines)) (include_takes i r b) ∙ h.goes;
      reads = h.reads;
      between = h.between;
    }
lines_take (FormulaLine f ∷ lines) fs r e b w =
    let assoc : (fs ++ f ∷ []) ++ formulas_of lines ≡ fs ++ f ∷ formulas_of lines = append_assoc fs (f ∷ []) (formulas_of lines) in
    let within : PassesNoLimit (printed ((fs ++ f ∷ []) ++ formulas_of lines)) = subst (λ (x : List WrittenFormula). PassesNoLimit (printed x)) (sym assoc) w in
    let one = file_read (terminals_of (fs ++ f ∷ [])) (fs ++ f ∷ []) (record { written = refl; within = within_files (fs ++ f ∷ []) (formulas_of lines) within }) in
    let on : on_from (GoesOn r) (terminals_of (f ∷ [])) ≡ GoesOn one.0 =
    ap (λ (v : Verdict). on_from v (terminals_of (f ∷ []))) (sym e) ∙ sym (on-append (GoesOn start_reading) (terminals_of fs) (terminals_of (f ∷ []))) ∙ ap (on_from (GoesOn start_reading)) (sym (terminals-append fs (f ∷ []))) ∙ one.1 in
    let h = lines_take lines (fs ++ f ∷ []) one.0 one.1 one.2 within in
    record {
      reading = h.reading;
      goes = takes-append (On r stage.Formula) (terminals_of (f ∷ [])) (lines_terminals lines) ∙ ap (λ (x : Way). takes x (lines_terminals lines)) (formula_takes (terminals_of (f ∷ [])) r one.0 on) ∙ h.goes;
      reads = subst (λ (x : List WrittenFormula). Reads (terminals_of x) h.reading) assoc h.reads;
      between = h.between;
    }

pub whole_lines : (lines : List WrittenLine) → PassesNoLimit (printed (formulas_of lines)) → BehindLines [] lines start_reading
whole_lines lines w = lines_take lines [] start_reading refl refl w

-- ---- behind lines, in a formula

-- the machine goes on over the first tokens
front_goes : (v : Verdict) (ts us : List Terminal) (r : Reading) → on_from v (ts ++ us) ≡ GoesOn r → (q : Reading) × (on_from v ts ≡ GoesOn q) × (on_from (GoesOn q) us ≡ GoesOn r)
front_goes v ts us r e = by (on_from v ts) refl (sym (on-append v ts us) ∙ e)
  where
    by : (w : Verdict) → on_from v ts ≡ w → on_from w us ≡ GoesOn r → (q : Reading) × (on_from v ts ≡ GoesOn q) × (on_from (GoesOn q) us ≡ GoesOn r)
    by (GoesOn q) k l = (q, k, l)
    by (Refused x) k l = absurd (on_refused x us r l)

pub in_formula : (lines : List WrittenLine) (behind : List Terminal) (r : Reading) → Reads (without_includes lines behind) r → takes start (lines_terminals lines ++ behind) ≡ On r stage.Formula
in_formula lines behind r e =
    let f = front_goes (GoesOn start_reading) (terminals_of (formulas_of lines)) behind r e in
    let h = whole_lines lines (within_read (terminals_of (formulas_of lines)) f.0 (formulas_of lines) f.1 refl) in
    let same : h.reading ≡ f.0 = one_reading (terminals_of (formulas_of lines)) h.reading f.0 h.reads f.1 in
    takes-append start (lines_terminals lines) behind ∙ ap (λ (x : Way). takes x behind) (h.goes ∙ ap (λ (x : Reading). On x stage.Formula) same) ∙ formula_takes behind f.0 r f.2

-- ---- behind lines, in an include

-- the reader stands in an include behind these tokens
record Inside (r : Reading) (ts : List Terminal) : Type 0 where
  pub at : Stage
  pub progress : Progress
  pub place : IncludePlace at ts progress
  pub goes : takes (On r stage.Formula) ts ≡ On r at

no_progress : Progress
no_progress = record { reading = start_reading; stage = stage.Formula; label = no_label; from = 0; file = []; picks = []; lines = [] }

stage_taken : (s u : Stage) (r : Reading) (t : Terminal) (ts : List Terminal) (p : Progress) → IncludePlace s ts p → include_step s t ≡ Some u → take s r t ≡ On r u
stage_taken stage.Formula u r t ts p h e = absurd h
stage_taken s u r t ts p h e = ap (by_stage r) e

-- one token of an include more
inside_more : (r : Reading) (ts us : List Terminal) (t : Terminal) (written : WrittenInclude) → Inside r ts → include_terminals written ≡ ts ++ t ∷ us → us ≢ [] → Inside r (ts ++ t ∷ [])
inside_more r ts us t written h e some =
    let s = steps h.at t ts h.progress h.place written us e in
    by s.0 s.1 (include_more h.at s.0 t ts h.progress h.place s.1)
  where
    by : (u : Stage) → include_step h.at t ≡ Some u → PlaceAfter u (ts ++ t ∷ []) h.progress (at_stage u (include_fed h.at t h.progress)) → Inside r (ts ++ t ∷ [])
    by stage.Formula k i =
        let all : include_terminals written ++ [] ≡ include_terminals i.written ++ us = append-nil (include_terminals written) ∙ e ∙ sym (append_assoc ts (t ∷ []) us) ∙ ap (λ (x : List Terminal). x ++ us) i.same in
        absurd (some (sym (one_include written i.written [] us all).tail))
    by u k i = record {
      at = u;
      progress = at_stage u (include_fed h.at t h.progress);
      place = i.0;
      goes = takes-append (On r stage.Formula) ts (t ∷ []) ∙ ap (λ (x : Way). takes x (t ∷ [])) h.goes ∙ ap (λ (x : Way). takes x []) (stage_taken h.at u r t ts h.progress h.place k);
    }

inside_on : (us ts : List Terminal) (r : Reading) (next : Terminal) (others : List Terminal) (written : WrittenInclude) → Inside r ts → include_terminals written ≡ ts ++ (us ++ next ∷ others) → Inside r (ts ++ us)
inside_on [] ts r next others written h e = subst (Inside r) (sym (append-nil ts)) h
inside_on (t ∷ us) ts r next others written h e =
    let one = inside_more r ts (us ++ next ∷ others) t written h e (some us) in
    subst (Inside r) (append_assoc ts (t ∷ []) us) (inside_on us (ts ++ t ∷ []) r next others written one (e ∙ sym (append_assoc ts (t ∷ []) (us ++ next ∷ others))))
  where
    some : (xs : List Terminal) → xs ++ next ∷ others ≢ []
    some [] k = cc
    some (x ∷ xs) k = cc

inside_of : (behind : List Terminal) (r : Reading) (next : Terminal) (others : List Terminal) (written : WrittenInclude) → r.state ≡ Between → behind ≢ [] → include_terminals written ≡ behind ++ next ∷ others → Inside r behind
inside_of [] r next others written b some e = absurd (some refl)
inside_of (t ∷ us) r next others written b some e =
    let word : LowerWord (codes "include") ≡ t = cc in
    let first : Inside r (t ∷ []) = record {
      at = stage.Included;
      progress = no_progress;
      place = ap (λ (x : Terminal). x ∷ []) (sym word);
      goes = ap (λ (x : Terminal). takes (take stage.Formula r x) []) (sym word) ∙ ap (λ (w : Way). takes w []) (word_begins r b);
    } in
    inside_on us (t ∷ []) r next others written first e

-- where the reader stands in an include behind lines
pub record Includes (tokens behind : List Terminal) : Type 0 where
  pub reading : Reading
  pub at : Stage
  pub progress : Progress
  pub place : IncludePlace at behind progress
  pub goes : takes start tokens ≡ On reading at

pub in_include : (tokens : List Terminal) (h : IsInInclude tokens) → Includes tokens h.behind
in_include tokens h =
    let w = whole_lines h.lines h.within in
    let i = inside_of h.behind w.reading h.next h.others h.written w.between h.begun h.front in
    record {
      reading = w.reading;
      at = i.at;
      progress = i.progress;
      place = i.place;
      goes = ap (takes start) h.split ∙ takes-append start (lines_terminals h.lines) h.behind ∙ ap (λ (x : Way). takes x h.behind) w.goes ∙ i.goes;
    }

-- ---- what is refused

-- the reader goes on over the tokens, and refuses this one
pub record Stops (why : Refusal) (before : List Terminal) (t : Terminal) : Type 0 where
  pub reading : Reading
  pub at : Stage
  pub goes : takes start before ≡ On reading at
  pub off : take at reading t ≡ Off why

formula_off : (why : Refusal) (r : Reading) (t : Terminal) → verdict r t ≡ Refused why → why ≢ refusal.Inappropriate what.Include → take stage.Formula r t ≡ Off why
formula_off why r t v n = by (begins r t) refl
  where
    same : (x y : Refusal) → Refused x ≡ Refused y → x ≡ y
    same x y e = cc

    by : (b : Bool) → begins r t ≡ b → cond b (On r stage.Included) (by_verdict (verdict r t)) ≡ Off why
    by true k = absurd (n (same _ _ (sym v ∙ include_refused r t k)))
    by false k = ap by_verdict v

formula_stops : (why : Refusal) (before : List Terminal) (t : Terminal) → IsRefusedInFormula why before t → Stops why before t
formula_stops why before t h =
    let f = found why (without_includes h.lines h.behind) t h.refused in
    record { reading = f.0; at = stage.Formula; goes = ap (takes start) h.split ∙ in_formula h.lines h.behind f.0 f.1; off = formula_off why f.0 t f.2 h.no_include }

stuck_off : (s : Stage) (r : Reading) (t : Terminal) (ts : List Terminal) (p : Progress) → IncludePlace s ts p → ((written : WrittenInclude) (others : List Terminal) → include_terminals written ≡ ts ++ t ∷ others → ⊥) → take s r t ≡ Off refusal.Syntax
stuck_off stage.Formula r t ts p h n = absurd h
stuck_off s r t ts p h n = ap (by_stage r) (by (include_step s t) refl)
  where
    goes_on : (u : Stage) (q : Progress) → PlaceAfter u (ts ++ t ∷ []) p q → ⊥
    goes_on stage.Formula q i = n i.written [] (sym i.same)
    goes_on u q i = let m = unfinished u (ts ++ t ∷ []) q i.0 in n m.written (m.next ∷ m.others) (m.front ∙ append_assoc ts (t ∷ []) (m.next ∷ m.others))

    by : (o : Option Stage) → include_step s t ≡ o → o ≡ None
    by None k = refl
    by (Some u) k = absurd (goes_on u _ (include_more s u t ts p h k))

include_stops : (before : List Terminal) (t : Terminal) → IsRefusedInInclude before t → Stops refusal.Syntax before t
include_stops before t h =
    let i = in_include before h.inside in
    record { reading = i.reading; at = i.at; goes = i.goes; off = stuck_off i.at i.reading t h.inside.behind i.progress i.place h.stuck }

pub stops : (why : Refusal) (before : List Terminal) (t : Terminal) → IsRefusalInLines why before t → Stops why before t
stops refusal.Syntax before t (inl h) = formula_stops refusal.Syntax before t h
stops refusal.Syntax before t (inr h) = include_stops before t h
stops (refusal.Inappropriate w) before t h = formula_stops (refusal.Inappropriate w) before t h
stops (refusal.Limit w) before t h = formula_stops (refusal.Limit w) before t h

-- the reader goes on over the tokens, and then is not between two lines
pub record Short (tokens : List Terminal) : Type 0 where
  pub reading : Reading
  pub at : Stage
  pub goes : takes start tokens ≡ On reading at
  pub inside : (at ≡ stage.Formula) × (reading.state ≡ Between) → ⊥

pub short : (tokens : List Terminal) → AreCutShort tokens → Short tokens
short tokens (inl h) =
    let c = cut_short_read (without_includes h.lines h.behind) h.short in
    record { reading = c.0; at = stage.Formula; goes = ap (takes start) h.split ∙ in_formula h.lines h.behind c.0 c.1; inside = λ k. c.2 k.1 }
short tokens (inr h) =
    let i = in_include tokens h in
    record { reading = i.reading; at = i.at; goes = i.goes; inside = λ k. subst (λ (s : Stage). IncludePlace s h.behind i.progress) k.0 i.place }
