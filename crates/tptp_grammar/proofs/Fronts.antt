-- What the machine has read is the front of a file, and the other way round.
use Rattle.std.proofs.Common.{◌≡◌, Bool, true, false, List, [], ◌∷◌, ◌++◌, Option, Some, None, refl, sym, ap, subst, ◌∙◌, append_assoc}
use Rattle.std.proofs.lemmas.List.{append-nil}
use Rattle.std.specs.Prelude.{if◌then◌else◌}
use Rattle.tptp_grammar.specs.Terminals.{Terminal}
use Rattle.tptp_grammar.specs.Printed.{Printed, printed, printed_terminals}
use Rattle.tptp_grammar.specs.Limits.{passes}
use Rattle.tptp_grammar.specs.Files.{PassesNoLimit, IsFileFront}
use Rattle.tptp_grammar.specs.Machine.{State, Between, step, run_on, part_at}
use Rattle.tptp_grammar.specs.Readings.{Reading, start_reading, counted, passes_at, first_passed_at, Verdict, GoesOn, Refused, limited, judged, verdict, on_from}
use Rattle.tptp_grammar.specs.declared.refusal.Which.{Which}
use Rattle.tptp_grammar.specs.declared.refusal.Which.TheVariants.{Clauses, Literals, Arguments, Variables, Nesting}
use Rattle.tptp_grammar.proofs.Rests.{file_of}
use Rattle.tptp_grammar.proofs.Completions.{completion, completes}
use Rattle.tptp_grammar.proofs.Runs.{Runs, file_runs}
use Rattle.tptp_grammar.proofs.Counts.{Counted, behind, counted_on, passes_is}

-- ---- limits

-- none of these tokens passes a limit, where those in before stand before them
abbrev WithinBehind : List Printed → List Printed → Type 0
WithinBehind before [] = Unit {0}
WithinBehind before (p ∷ ps) = ((which : Which) → passes which before p ≡ false) × WithinBehind (before ++ p ∷ []) ps

head_is : (p q : Printed) (ps qs : List Printed) → p ∷ ps ≡ q ∷ qs → p ≡ q
head_is p q ps qs e = cc

tail_is : (p q : Printed) (ps qs : List Printed) → p ∷ ps ≡ q ∷ qs → ps ≡ qs
tail_is p q ps qs e = cc

pick : (before ps front after : List Printed) (p : Printed) (which : Which) → WithinBehind before ps → ps ≡ front ++ p ∷ after → passes which (before ++ front) p ≡ false
pick before [] [] after p which h e = absurd cc
pick before [] (q ∷ front) after p which h e = absurd cc
pick before (q ∷ ps) [] after p which h e =
    ap (λ (x : List Printed). passes which x p) (append-nil before) ∙ ap (λ (x : Printed). passes which before x) (sym (head_is q p ps after e)) ∙ h.0 which
pick before (q ∷ ps) (r ∷ front) after p which h e =
    let same : q ≡ r = head_is q r ps (front ++ p ∷ after) e in
    ap (λ (x : List Printed). passes which x p) (ap (λ (x : Printed). before ++ x ∷ front) (sym same) ∙ sym (append_assoc before (q ∷ []) front))
    ∙ pick (before ++ q ∷ []) ps front after p which h.1 (tail_is q r ps (front ++ p ∷ after) e)

pub within_of : (ps : List Printed) → WithinBehind [] ps → PassesNoLimit ps
within_of ps h before after p which e = pick [] ps before after p which h e

behind_of : (before ps : List Printed) → ((front after : List Printed) (p : Printed) (which : Which) → ps ≡ front ++ p ∷ after → passes which (before ++ front) p ≡ false) → WithinBehind before ps
behind_of before [] h = tt
behind_of before (p ∷ ps) h = (
  (λ which. ap (λ (x : List Printed). passes which x p) (sym (append-nil before)) ∙ h [] ps p which refl),
  behind_of (before ++ p ∷ []) ps (λ front after q which e. ap (λ (x : List Printed). passes which x q) (append_assoc before (p ∷ []) front) ∙ h (p ∷ front) after q which (ap (λ (x : List Printed). p ∷ x) e)),
)

pub behind_from : (ps : List Printed) → PassesNoLimit ps → WithinBehind [] ps
behind_from ps h = behind_of [] ps (λ front after p which e. h front after p which e)

-- ---- a step

none_passed : (r : Reading) (t : Terminal) → ((which : Which) → passes_at which r t ≡ false) → first_passed_at r t ≡ None
none_passed r t h = rw (h Clauses, h Literals, h Arguments, h Variables, h Nesting) refl

abbrev pub go : Reading → State → Terminal → Reading
go r u t = record { state = u; tally = counted (part_at r.state t) t r.tally }

pub goes_on : (r : Reading) (t : Terminal) (u : State) → step r.state t ≡ Some u → ((which : Which) → passes_at which r t ≡ false) → verdict r t ≡ GoesOn (go r u t)
goes_on r t u e h = ap (λ (o : Option State). judged o r t) e ∙ ap (λ (o : Option Which). limited o (go r u t)) (none_passed r t h)

first_not : (b : Bool) (w : Which) (o : Option Which) → (if b then Some w else o) ≡ None → (b ≡ false) × (o ≡ None)
first_not true w o e = absurd cc
first_not false w o e = (refl, e)

all_not : (r : Reading) (t : Terminal) → first_passed_at r t ≡ None → (which : Which) → passes_at which r t ≡ false
all_not r t e which =
    let a = first_not (passes_at Clauses r t) Clauses _ e in
    let b = first_not (passes_at Literals r t) Literals _ a.1 in
    let c = first_not (passes_at Arguments r t) Arguments _ b.1 in
    let d = first_not (passes_at Variables r t) Variables _ c.1 in
    let f = first_not (passes_at Nesting r t) Nesting _ d.1 in
    by which a.0 b.0 c.0 d.0 f.0
  where
    by : (w : Which) → passes_at Clauses r t ≡ false → passes_at Literals r t ≡ false → passes_at Arguments r t ≡ false → passes_at Variables r t ≡ false → passes_at Nesting r t ≡ false → passes_at w r t ≡ false
    by Clauses a b c d f = a
    by Literals a b c d f = b
    by Arguments a b c d f = c
    by Variables a b c d f = d
    by Nesting a b c d f = f

-- what a token with which the machine goes on does
pub record Went (r : Reading) (t : Terminal) (r' : Reading) : Type 0 where
  pub state : State
  pub goes : step r.state t ≡ Some state
  pub within : (which : Which) → passes_at which r t ≡ false
  pub same : go r state t ≡ r'

limited_went : (o : Option Which) (r u : Reading) → limited o u ≡ GoesOn r → (o ≡ None) × (u ≡ r)
limited_went None r u e = (refl, cc)
limited_went (Some w) r u e = absurd cc

judged_went : (o : Option State) (r : Reading) (t : Terminal) (r' : Reading) → step r.state t ≡ o → judged o r t ≡ GoesOn r' → Went r t r'
judged_went None r t r' s e = absurd cc
judged_went (Some u) r t r' s e = let l = limited_went (first_passed_at r t) r' (go r u t) e in record { state = u; goes = s; within = all_not r t l.0; same = l.1 }

pub went : (r : Reading) (t : Terminal) (r' : Reading) → verdict r t ≡ GoesOn r' → Went r t r'
went r t r' e = judged_went (step r.state t) r t r' refl e

-- ---- many steps

pub on-append : (v : Verdict) (ts us : List Terminal) → on_from v (ts ++ us) ≡ on_from (on_from v ts) us
on-append (Refused x) ts us = stays us
  where
    stays : (us : List Terminal) → Refused x ≡ on_from (Refused x) us
    stays us = refl
on-append (GoesOn r) [] us = refl
on-append (GoesOn r) (t ∷ ts) us = on-append (verdict r t) ts us

-- the machine's state behind these tokens
states : (v : Verdict) (ts : List Terminal) (r' : Reading) → on_from v ts ≡ GoesOn r' → (r : Reading) × (v ≡ GoesOn r)
states (GoesOn r) ts r' e = (r, refl)
states (Refused x) ts r' e = absurd cc

pub run_state : (r : Reading) (ts : List Terminal) (r' : Reading) → on_from (GoesOn r) ts ≡ GoesOn r' → run_on (Some r.state) ts ≡ Some r'.state
run_state r [] r' e = let same : r ≡ r' = cc in ap (λ (x : Reading). Some x.state) same
run_state r (t ∷ ts) r' e =
    let s = states (verdict r t) ts r' e in
    let w = went r t s.0 s.1 in
    ap (λ (o : Option State). run_on o ts) w.goes
    ∙ ap (λ (x : Reading). run_on (Some x.state) ts) w.same
    ∙ run_state s.0 ts r' (sym (ap (λ (v : Verdict). on_from v ts) s.1) ∙ e)

-- where a file's front was read, up to a reading
pub record Walked (before : List Printed) (r : Reading) (after : List Printed) : Type 0 where
  pub counted : Counted before r
  pub runs : Runs r.state after Between

abbrev Steps : List Printed → Reading → List Printed → List Printed → Type 0
Steps before r front after = (r' : Reading) × (on_from (GoesOn r) (printed_terminals front) ≡ GoesOn r') × Walked (before ++ front) r' after

-- a front in which no token passes a limit is read
pub walk : (front before after : List Printed) (r : Reading) → Walked before r (front ++ after) → WithinBehind before front → Steps before r front after
walk [] before after r w h = (r, refl, subst (λ (x : List Printed). Walked x r after) (sym (append-nil before)) w)
walk (p ∷ front) before after r w h =
    let g = w.runs.1 in
    let u : State = w.runs.0 in
    let same : go r u p.terminal ≡ behind r u p = ap (λ (x : _). record { state = u; tally = counted x p.terminal r.tally }) (sym g.part) in
    let v : verdict r p.terminal ≡ GoesOn (behind r u p) = goes_on r p.terminal u g.goes (λ which. sym (passes_is which before r p w.counted g.part) ∙ h.0 which) ∙ ap (λ (x : Reading). GoesOn x) same in
    let k = walk front (before ++ p ∷ []) after (behind r u p) (record { counted = counted_on before r p u w.counted g.goes; runs = w.runs.2 }) h.1 in
    (k.0, ap (λ (x : Verdict). on_from x (printed_terminals front)) v ∙ k.1, subst (λ (x : List Printed). Walked x k.0 after) (append_assoc before (p ∷ []) front) k.2)

-- where the machine goes on, no token passes a limit
pub record Backwards (before : List Printed) (r : Reading) (front after : List Printed) (r' : Reading) : Type 0 where
  pub within : WithinBehind before front
  pub walked : Walked (before ++ front) r' after

some_is : (s u : State) → Some s ≡ Some u → s ≡ u
some_is s u e = cc

pub walk_back : (front before after : List Printed) (r r' : Reading) → Walked before r (front ++ after) → on_from (GoesOn r) (printed_terminals front) ≡ GoesOn r' → Backwards before r front after r'
walk_back [] before after r r' w e =
    let same : r ≡ r' = cc in
    record { within = tt; walked = subst (λ (x : List Printed). Walked x r' after) (sym (append-nil before)) (subst (λ (x : Reading). Walked before x after) same w) }
walk_back (p ∷ front) before after r r' w e =
    let g = w.runs.1 in
    let u : State = w.runs.0 in
    let s = states (verdict r p.terminal) (printed_terminals front) r' e in
    let m = went r p.terminal s.0 s.1 in
    let same_state : m.state ≡ u = some_is m.state u (sym m.goes ∙ g.goes) in
    let same : behind r u p ≡ s.0 = ap (λ (x : _). record { state = u; tally = counted x p.terminal r.tally }) g.part ∙ ap (λ (x : State). go r x p.terminal) (sym same_state) ∙ m.same in
    let rest : on_from (GoesOn (behind r u p)) (printed_terminals front) ≡ GoesOn r' = ap (λ (x : Reading). on_from (GoesOn x) (printed_terminals front)) same ∙ sym (ap (λ (v : Verdict). on_from v (printed_terminals front)) s.1) ∙ e in
    let k = walk_back front (before ++ p ∷ []) after (behind r u p) r' (record { counted = counted_on before r p u w.counted g.goes; runs = w.runs.2 }) rest in
    record {
      within = ((λ which. passes_is which before r p w.counted g.part ∙ m.within which), k.within);
      walked = subst (λ (x : List Printed). Walked x r' after) (append_assoc before (p ∷ []) front) k.walked;
    }

pub counted_none : Counted [] start_reading
counted_none = record { formulas = refl; literals = refl; variables = refl; brackets = refl }

-- ---- fronts of files

-- the first tokens of a printed list
pub record Cut (ts us : List Terminal) (ps : List Printed) : Type 0 where
  pub front : List Printed
  pub after : List Printed
  pub parts : ps ≡ front ++ after
  pub same : ts ≡ printed_terminals front
  pub rest : us ≡ printed_terminals after

pub cut : (ts us : List Terminal) (ps : List Printed) → ts ++ us ≡ printed_terminals ps → Cut ts us ps
cut [] us ps e = record { front = []; after = ps; parts = refl; same = refl; rest = e }
cut (t ∷ ts) us [] e = absurd cc
cut (t ∷ ts) us (p ∷ ps) e =
    let tails : ts ++ us ≡ printed_terminals ps = cc in
    let heads : t ≡ p.terminal = cc in
    let c = cut ts us ps tails in
    record { front = p ∷ c.front; after = c.after; parts = ap (λ (x : List Printed). p ∷ x) c.parts; same = ap (λ (x : Terminal). x ∷ ts) heads ∙ ap (λ (x : List Terminal). p.terminal ∷ x) c.same; rest = c.rest }

-- The tokens so far, as the front of a file that the machine's own completion makes of them.
pub record Reached (ts : List Terminal) (r : Reading) : Type 0 where
  pub front : List Printed
  pub after : List Printed
  pub first : IsFileFront ts front after
  pub rest : completion r.state ≡ printed_terminals after
  pub within : PassesNoLimit front
  pub walked : Walked front r after

pub run-append : (o : Option State) (ts us : List Terminal) → run_on o (ts ++ us) ≡ run_on (run_on o ts) us
run-append None ts us = refl
run-append (Some s) [] us = refl
run-append (Some s) (t ∷ ts) us = run-append (step s t) ts us

pub reached : (ts : List Terminal) (r : Reading) → on_from (GoesOn start_reading) ts ≡ GoesOn r → Reached ts r
reached ts r e =
    let s = run_state start_reading ts r e in
    let f = file_of (ts ++ completion r.state) (run-append (Some Between) ts (completion r.state) ∙ ap (λ (o : Option State). run_on o (completion r.state)) s ∙ completes r.state) in
    let c = cut ts (completion r.state) (printed f.0) f.1 in
    let w : Walked [] start_reading (c.front ++ c.after) = record { counted = counted_none; runs = subst (λ (x : List Printed). Runs Between x Between) c.parts (file_runs f.0) } in
    let b = walk_back c.front [] c.after start_reading r w (ap (on_from (GoesOn start_reading)) (sym c.same) ∙ e) in
    record {
      front = c.front;
      after = c.after;
      first = record { file = f.0; parts = c.parts; same = c.same };
      rest = c.rest;
      within = within_of c.front b.within;
      walked = b.walked;
    }

-- a front within the limits is read
pub read_front : (ts : List Terminal) (front after : List Printed) → IsFileFront ts front after → PassesNoLimit front → (r : Reading) × (on_from (GoesOn start_reading) ts ≡ GoesOn r) × Walked front r after
read_front ts front after f h =
    let w : Walked [] start_reading (front ++ after) = record { counted = counted_none; runs = subst (λ (x : List Printed). Runs Between x Between) f.parts (file_runs f.file) } in
    let k = walk front [] after start_reading w (behind_from front h) in
    (k.0, ap (on_from (GoesOn start_reading)) f.same ∙ k.1, k.2)
