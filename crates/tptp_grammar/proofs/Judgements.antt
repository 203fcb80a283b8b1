-- What the machine says of tokens is what the grammar says of them.
use Rattle.std.proofs.Common.{◌≡◌, Bool, true, false, List, [], ◌∷◌, ◌++◌, Option, Some, None, refl, sym, ap, subst, ◌∙◌, append_assoc}
use Rattle.std.proofs.lemmas.List.{append-nil}
use Rattle.std.specs.Prelude.{if◌then◌else◌}
use Rattle.std.specs.List.{AllByRecursion}
use Rattle.tptp_grammar.specs.Terminals.{Terminal}
use Rattle.tptp_grammar.specs.Written.{WrittenFormula}
use Rattle.tptp_grammar.specs.Printed.{Printed, printed, printed_terminals}
use Rattle.tptp_grammar.specs.Limits.{passes}
use Rattle.tptp_grammar.specs.Files.{IsWritten, BeginsFile, PassesNoLimit, IsFileWithinLimits, IsFileFront}
use Rattle.tptp_grammar.specs.Refusals.{is_language, is_include, is_conjecture, is_lower_word_token, is_equality, is_variable_or_distinct, is_number, is_dollar_word, IsInappropriate, earlier_limits, IsUnrefused, IsPassed, IsRefusalOf, IsCutShort}
use Rattle.tptp_grammar.specs.Machine.{State, Between, LabelEnd, FormulaStart, LiteralStart, Negated, AtomStart, ArgumentStart, Named, Done, step, run_on}
use Rattle.tptp_grammar.specs.Readings.{Reading, start_reading, passes_at, first_passed_at, kind_at, GoesOn, Refused, limited, judged, verdict, on_from}
use Rattle.tptp_grammar.specs.declared.refusal.What.{What}
use Rattle.tptp_grammar.specs.declared.refusal.What.TheVariants as what
use Rattle.tptp_grammar.specs.declared.refusal.Which.{Which}
use Rattle.tptp_grammar.specs.declared.refusal.Which.TheVariants.{Clauses, Literals, Arguments, Variables, Nesting}
use Rattle.tptp_grammar.specs.declared.refusal.Refusal.{Refusal}
use Rattle.tptp_grammar.specs.declared.refusal.Refusal.TheVariants.{Syntax, Inappropriate, Limit}
use Rattle.tptp_grammar.proofs.Rests.{file_of}
use Rattle.tptp_grammar.proofs.Completions.{completion, completes}
use Rattle.tptp_grammar.proofs.Runs.{Runs, file_runs, run_of}
use Rattle.tptp_grammar.proofs.Counts.{passes_is}
use Rattle.tptp_grammar.proofs.Fronts.{within_of, go, run_state, run-append, Walked, walk_back, counted_none, Cut, cut, reached, read_front}
use Rattle.tptp_grammar.proofs.Places.{may_begin, may_end}
use Rattle.tptp_grammar.proofs.Causes.{Knows, cause, kind_of}

-- the machine has read these tokens
abbrev pub Reads : List Terminal → Reading → Type 0
Reads ts r = on_from (GoesOn start_reading) ts ≡ GoesOn r

some_is : (s u : State) → Some s ≡ Some u → s ≡ u
some_is s u e = cc

goes_is : (r u : Reading) → GoesOn r ≡ GoesOn u → r ≡ u
goes_is r u e = cc

-- ---- files

run_file : (ts : List Terminal) (file : List WrittenFormula) → IsWritten ts file → run_on (Some Between) ts ≡ Some Between
run_file ts file w = ap (run_on (Some Between)) w ∙ run_of Between (printed file) Between (file_runs file)

pub accepted : (ts : List Terminal) (r : Reading) → Reads ts r → r.state ≡ Between → (file : List WrittenFormula) × IsFileWithinLimits ts file
accepted ts r e b =
    let f = file_of ts (run_state start_reading ts r e ∙ ap (λ (s : State). Some s) b) in
    let ps : List Printed = printed f.0 in
    let w : Walked [] start_reading (ps ++ []) = record { counted = counted_none; runs = subst (λ (x : List Printed). Runs Between x Between) (sym (append-nil ps)) (file_runs f.0) } in
    let k = walk_back ps [] [] start_reading r w (ap (on_from (GoesOn start_reading)) (sym f.1) ∙ e) in
    (f.0, record { written = f.1; within = within_of ps k.within })

pub file_read : (ts : List Terminal) (file : List WrittenFormula) → IsFileWithinLimits ts file → (r : Reading) × Reads ts r × (r.state ≡ Between)
file_read ts file f =
    let k = read_front ts (printed file) [] (record { file = file; parts = sym (append-nil (printed file)); same = f.written }) f.within in
    (k.0, k.1, k.2.runs)

-- ---- refused tokens

is_open : (ts : List Terminal) (r : Reading) → Reads ts r → IsUnrefused ts
is_open ts r e = let h = reached ts r e in record { front = h.front; after = h.after; first = h.first; within = h.within }

run_on_token : (ts us : List Terminal) (s : State) (t : Terminal) → run_on (Some Between) ts ≡ Some s → run_on (Some Between) (ts ++ t ∷ us) ≡ run_on (step s t) us
run_on_token ts us s t e = run-append (Some Between) ts (t ∷ us) ∙ ap (λ (o : Option State). run_on o (t ∷ us)) e

-- a token at which the machine stops
stops : (ts : List Terminal) (r : Reading) (t : Terminal) → Reads ts r → step r.state t ≡ None → BeginsFile (ts ++ t ∷ []) → ⊥
stops ts r t e none b =
    let run : run_on (Some Between) ((ts ++ t ∷ []) ++ b.0) ≡ Some Between = run_file ((ts ++ t ∷ []) ++ b.0) b.1 b.2 in
    let one : run_on (Some Between) ((ts ++ t ∷ []) ++ b.0) ≡ run_on (step r.state t) b.0 = ap (run_on (Some Between)) (append_assoc ts (t ∷ []) b.0) ∙ run_on_token ts b.0 r.state t (run_state start_reading ts r e) in
    let stop : run_on (step r.state t) b.0 ≡ None = ap (λ (o : Option State). run_on o b.0) none in
    cc

goes_begins : (ts : List Terminal) (r : Reading) (t : Terminal) (u : State) → Reads ts r → step r.state t ≡ Some u → BeginsFile (ts ++ t ∷ [])
goes_begins ts r t u e s =
    let all : run_on (Some Between) ((ts ++ t ∷ []) ++ completion u) ≡ Some Between =
    ap (run_on (Some Between)) (append_assoc ts (t ∷ []) (completion u)) ∙ run_on_token ts (completion u) r.state t (run_state start_reading ts r e) ∙ ap (λ (o : Option State). run_on o (completion u)) s ∙ completes u in
    let f = file_of ((ts ++ t ∷ []) ++ completion u) all in
    (completion u, f.0, f.1)

knows : (ts : List Terminal) (r : Reading) → Reads ts r → Knows ts r.state
knows ts r e = let h = reached ts r e in record { begin = λ p l. may_begin p ts r h l; end = λ k. may_end ts r h (run_state start_reading ts r e) k }

not_what : (w : What) → Syntax ≡ Inappropriate w → ⊥
not_what w e = cc

two_kinds : (a b : Bool) (v w : What) (which : Which) → (if a then Inappropriate v else (if b then Inappropriate w else Syntax)) ≡ Limit which → ⊥
two_kinds true b v w which e = cc
two_kinds false true v w which e = cc
two_kinds false false v w which e = cc

three_kinds : (a b c : Bool) (u v w : What) (which : Which) → (if a then Inappropriate u else (if b then Inappropriate v else (if c then Inappropriate w else Syntax))) ≡ Limit which → ⊥
three_kinds true b c u v w which e = cc
three_kinds false b c u v w which e = two_kinds b c v w which e

one_kind : (a : Bool) (v : What) (which : Which) → (if a then Inappropriate v else Syntax) ≡ Limit which → ⊥
one_kind true v which e = cc
one_kind false v which e = cc

no_limit : (which : Which) → Syntax ≡ Limit which → ⊥
no_limit which e = cc

-- a kind is no limit
not_limit : (s : State) (t : Terminal) (which : Which) → kind_at s t ≡ Limit which → ⊥
not_limit Between t which e = two_kinds (is_language t) (is_include t) what.Language what.Include which e
not_limit LabelEnd t which e = two_kinds (is_conjecture t) (is_lower_word_token t) what.Conjecture what.Role which e
not_limit (FormulaStart k) t which e = three_kinds (is_variable_or_distinct t) (is_number t) (is_dollar_word t) what.Equality what.Number what.Defined which e
not_limit (LiteralStart k) t which e = three_kinds (is_variable_or_distinct t) (is_number t) (is_dollar_word t) what.Equality what.Number what.Defined which e
not_limit (Negated k) t which e = three_kinds (is_variable_or_distinct t) (is_number t) (is_dollar_word t) what.Equality what.Number what.Defined which e
not_limit (AtomStart k) t which e = three_kinds (is_variable_or_distinct t) (is_number t) (is_dollar_word t) what.Equality what.Number what.Defined which e
not_limit (ArgumentStart n ns b k) t which e = two_kinds (is_number t) (is_dollar_word t) what.Number what.Defined which e
not_limit (Named [] b k) t which e = one_kind (is_equality t) what.Equality which e
not_limit (Done [] b k) t which e = one_kind (is_equality t) what.Equality which e
not_limit (Named (n ∷ ns) b k) t which e = no_limit which e
not_limit (Done (n ∷ ns) b k) t which e = no_limit which e
not_limit s t which e = no_limit which e

refused_as : (x : Refusal) (ts : List Terminal) (r : Reading) (t : Terminal) → Reads ts r → step r.state t ≡ None → kind_at r.state t ≡ x → IsRefusalOf x ts t
refused_as Syntax ts r t e none k = (is_open ts r e, stops ts r t e none, λ w h. not_what w (sym k ∙ kind_of w r.state ts t (run_state start_reading ts r e) h))
refused_as (Inappropriate w) ts r t e none k = (is_open ts r e, stops ts r t e none, cause r.state ts t w (knows ts r e) k)
refused_as (Limit which) ts r t e none k = absurd (not_limit r.state t which k)

-- ---- limits

limit_is : (v w : Which) → Some v ≡ Some w → v ≡ w
limit_is v w e = cc

-- the limits of the lines before it aren't passed
abbrev Passed : Which → Reading → Terminal → Type 0
Passed which r t = (passes_at which r t ≡ true) × AllByRecursion (λ line. passes_at line r t ≡ false) (earlier_limits which)

first_of_five : (a b c d e : Bool) (r : Reading) (t : Terminal) (w : Which) → passes_at Clauses r t ≡ a → passes_at Literals r t ≡ b → passes_at Arguments r t ≡ c → passes_at Variables r t ≡ d → passes_at Nesting r t ≡ e
    → (if a then Some Clauses else (if b then Some Literals else (if c then Some Arguments else (if d then Some Variables else (if e then Some Nesting else None))))) ≡ Some w → Passed w r t
first_of_five true b c d e r t w p q s u v h = subst (λ (x : Which). Passed x r t) (limit_is Clauses w h) (p, tt)
first_of_five false true c d e r t w p q s u v h = subst (λ (x : Which). Passed x r t) (limit_is Literals w h) (q, (p, tt))
first_of_five false false true d e r t w p q s u v h = subst (λ (x : Which). Passed x r t) (limit_is Arguments w h) (s, (p, (q, tt)))
first_of_five false false false true e r t w p q s u v h = subst (λ (x : Which). Passed x r t) (limit_is Variables w h) (u, (p, (q, (s, tt))))
first_of_five false false false false true r t w p q s u v h = subst (λ (x : Which). Passed x r t) (limit_is Nesting w h) (v, (p, (q, (s, (u, tt)))))
first_of_five false false false false false r t w p q s u v h = absurd cc

first_is : (r : Reading) (t : Terminal) (w : Which) → first_passed_at r t ≡ Some w → Passed w r t
first_is r t w e = first_of_five _ _ _ _ _ r t w refl refl refl refl refl e

is_first : (w : Which) (r : Reading) (t : Terminal) → Passed w r t → first_passed_at r t ≡ Some w
is_first Clauses r t h = (rw h.0 refl)
is_first Literals r t h = (rw (h.1.0, h.0) refl)
is_first Arguments r t h = (rw (h.1.0, h.1.1.0, h.0) refl)
is_first Variables r t h = (rw (h.1.0, h.1.1.0, h.1.1.1.0, h.0) refl)
is_first Nesting r t h = (rw (h.1.0, h.1.1.0, h.1.1.1.0, h.1.1.1.1.0, h.0) refl)

lines_printed : (lines : List Which) (front : List Printed) (q : Printed) (r : Reading) → ((w : Which) → passes w front q ≡ passes_at w r q.terminal) → AllByRecursion (λ line. passes_at line r q.terminal ≡ false) lines → AllByRecursion (λ line. passes line front q ≡ false) lines
lines_printed [] front q r same h = tt
lines_printed (w ∷ lines) front q r same h = (same w ∙ h.0, lines_printed lines front q r same h.1)

lines_read : (lines : List Which) (front : List Printed) (q : Printed) (r : Reading) → ((w : Which) → passes w front q ≡ passes_at w r q.terminal) → AllByRecursion (λ line. passes line front q ≡ false) lines → AllByRecursion (λ line. passes_at line r q.terminal ≡ false) lines
lines_read [] front q r same h = tt
lines_read (w ∷ lines) front q r same h = (sym (same w) ∙ h.0, lines_read lines front q r same h.1)

map-append : (xs ys : List Printed) → printed_terminals (xs ++ ys) ≡ printed_terminals xs ++ printed_terminals ys
map-append [] ys = refl
map-append (x ∷ xs) ys = ap (λ (z : List Terminal). x.terminal ∷ z) (map-append xs ys)

-- a file that goes on with the token, cut behind the tokens before it
pub record Ahead (ts : List Terminal) (r : Reading) (t : Terminal) : Type 0 where
  pub front : List Printed
  pub token : Printed
  pub after : List Printed
  pub first : IsFileFront ts front (token ∷ after)
  pub terminal : token.terminal ≡ t
  pub within : PassesNoLimit front
  pub walked : Walked front r (token ∷ after)

ahead_cut : (ts us : List Terminal) (r : Reading) (t : Terminal) (file : List WrittenFormula) → Reads ts r → Cut ts (t ∷ us) (printed file) → Ahead ts r t
ahead_cut ts us r t file e c = go_on c.front c.after c.parts c.same c.rest
  where
    go_on : (front after : List Printed) → printed file ≡ front ++ after → ts ≡ printed_terminals front → t ∷ us ≡ printed_terminals after → Ahead ts r t
    go_on front [] p s k = absurd cc
    go_on front (q ∷ after) p s k =
        let w : Walked [] start_reading (front ++ q ∷ after) = record { counted = counted_none; runs = subst (λ (x : List Printed). Runs Between x Between) p (file_runs file) } in
        let b = walk_back front [] (q ∷ after) start_reading r w (ap (on_from (GoesOn start_reading)) (sym s) ∙ e) in
        record { front = front; token = q; after = after; first = record { file = file; parts = p; same = s }; terminal = cc; within = within_of front b.within; walked = b.walked }

ahead : (ts : List Terminal) (r : Reading) (t : Terminal) (u : State) → Reads ts r → step r.state t ≡ Some u → Ahead ts r t
ahead ts r t u e s =
    let b = goes_begins ts r t u e s in
    ahead_cut ts b.0 r t b.1 e (cut ts (t ∷ b.0) (printed b.1) (sym (append_assoc ts (t ∷ []) b.0) ∙ b.2))

passes_same : (front after : List Printed) (q : Printed) (r : Reading) → Walked front r (q ∷ after) → (w : Which) → passes w front q ≡ passes_at w r q.terminal
passes_same front after q r w which = passes_is which front r q w.counted w.runs.1.part

passed_as : (which : Which) (ts : List Terminal) (r : Reading) (t : Terminal) (u : State) → Reads ts r → step r.state t ≡ Some u → first_passed_at r t ≡ Some which → IsPassed which ts t
passed_as which ts r t u e s f =
    let a = ahead ts r t u e s in
    let h = subst (λ (x : Terminal). Passed which r x) (sym a.terminal) (first_is r t which f) in
    let same = passes_same a.front a.after a.token r a.walked in
    record {
      front = a.front;
      token = a.token;
      after = a.after;
      first = record {
        file = a.first.file;
        parts = a.first.parts ∙ sym (append_assoc a.front (a.token ∷ []) a.after);
        same = ap (λ (x : List Terminal). x ++ t ∷ []) a.first.same ∙ ap (λ (x : Terminal). printed_terminals a.front ++ x ∷ []) (sym a.terminal) ∙ sym (map-append a.front (a.token ∷ []));
      };
      within = a.within;
      passed = same which ∙ h.0;
      no_earlier = lines_printed (earlier_limits which) a.front a.token r same h.1;
    }

refused_by : (o : Option State) (l : Option Which) (x : Refusal) (ts : List Terminal) (r : Reading) (t : Terminal) → Reads ts r → step r.state t ≡ o → first_passed_at r t ≡ l → judged o r t ≡ Refused x → IsRefusalOf x ts t
refused_by None l x ts r t e s f j = let k : kind_at r.state t ≡ x = cc in refused_as x ts r t e s k
refused_by (Some u) None x ts r t e s f j = let k : limited None (go r u t) ≡ Refused x = ap (λ (y : Option Which). limited y (go r u t)) (sym f) ∙ j in absurd cc
refused_by (Some u) (Some which) x ts r t e s f j =
    let k : limited (Some which) (go r u t) ≡ Refused x = ap (λ (y : Option Which). limited y (go r u t)) (sym f) ∙ j in
    let same : Limit which ≡ x = cc in
    subst (λ (y : Refusal). IsRefusalOf y ts t) same (passed_as which ts r t u e s f)

-- The machine's refusal is the grammar's.
pub refused : (x : Refusal) (ts : List Terminal) (r : Reading) (t : Terminal) → Reads ts r → verdict r t ≡ Refused x → IsRefusalOf x ts t
refused x ts r t e v = refused_by (step r.state t) (first_passed_at r t) x ts r t e refl refl v

-- All tokens are read, and they are no file.
pub cut_short : (ts : List Terminal) (r : Reading) → Reads ts r → (r.state ≡ Between → ⊥) → IsCutShort ts
cut_short ts r e b = (is_open ts r e, λ file w. b (some_is r.state Between (sym (run_state start_reading ts r e) ∙ run_file ts file w)))

-- ---- the grammar's refusal is the machine's

open_read : (ts : List Terminal) → IsUnrefused ts → (r : Reading) × Reads ts r
open_read ts o = let k = read_front ts o.front o.after o.first o.within in (k.0, k.1)

no_step : (ts : List Terminal) (r : Reading) (t : Terminal) (o : Option State) → Reads ts r → (BeginsFile (ts ++ t ∷ []) → ⊥) → step r.state t ≡ o → step r.state t ≡ None
no_step ts r t None e n s = s
no_step ts r t (Some u) e n s = absurd (n (goes_begins ts r t u e s))

abbrev pub Finds : List Terminal → Terminal → Refusal → Type 0
Finds ts t x = (r : Reading) × Reads ts r × (verdict r t ≡ Refused x)

stopped_as : (ts : List Terminal) (t : Terminal) (x : Refusal) → IsUnrefused ts → (BeginsFile (ts ++ t ∷ []) → ⊥) → ((r : Reading) → Reads ts r → kind_at r.state t ≡ x) → Finds ts t x
stopped_as ts t x o n k =
    let r = open_read ts o in
    let s = no_step ts r.0 t (step r.0.state t) r.1 n refl in
    (r.0, r.1, ap (λ (y : Option State). judged y r.0 t) s ∙ ap (λ (y : Refusal). Refused y) (k r.0 r.1))

syntax_kind : (x : Refusal) (ts : List Terminal) (t : Terminal) (r : Reading) → Reads ts r → ((w : What) → IsInappropriate w ts t → ⊥) → kind_at r.state t ≡ x → kind_at r.state t ≡ Syntax
syntax_kind Syntax ts t r e n k = k
syntax_kind (Inappropriate w) ts t r e n k = absurd (n w (cause r.state ts t w (knows ts r e) k))
syntax_kind (Limit which) ts t r e n k = absurd (not_limit r.state t which k)

front_of : (ts : List Terminal) (t : Terminal) (front : List Printed) (q : Printed) (after : List Printed) → IsFileFront (ts ++ t ∷ []) (front ++ q ∷ []) after → IsFileFront ts front (q ∷ after) × (t ≡ q.terminal)
front_of ts t front q after f =
    let e : ts ++ t ∷ [] ≡ printed_terminals front ++ q.terminal ∷ [] = f.same ∙ map-append front (q ∷ []) in
    let s = same_front ts (printed_terminals front) t q.terminal e in
    (record { file = f.file; parts = f.parts ∙ append_assoc front (q ∷ []) after; same = s.0 }, s.1)
  where
    same_front : (xs ys : List Terminal) (x y : Terminal) → xs ++ x ∷ [] ≡ ys ++ y ∷ [] → (xs ≡ ys) × (x ≡ y)
    same_front [] [] x y e = (refl, cc)
    same_front [] (z ∷ []) x y e = absurd cc
    same_front [] (z ∷ w ∷ ys) x y e = absurd cc
    same_front (z ∷ []) [] x y e = absurd cc
    same_front (z ∷ w ∷ xs) [] x y e = absurd cc
    same_front (z ∷ xs) (w ∷ ys) x y e =
        let tails : xs ++ x ∷ [] ≡ ys ++ y ∷ [] = cc in
        let heads : z ≡ w = cc in
        let k = same_front xs ys x y tails in
        (ap (λ (v : Terminal). v ∷ xs) heads ∙ ap (λ (v : List Terminal). w ∷ v) k.0, k.1)

passed_found : (which : Which) (ts : List Terminal) (t : Terminal) → IsPassed which ts t → Finds ts t (Limit which)
passed_found which ts t m =
    let f = front_of ts t m.front m.token m.after m.first in
    let k = read_front ts m.front (m.token ∷ m.after) f.0 m.within in
    let r : Reading = k.0 in
    let same = passes_same m.front m.after m.token r k.2 in
    let p : Passed which r m.token.terminal = (sym (same which) ∙ m.passed, lines_read (earlier_limits which) m.front m.token r same m.no_earlier) in
    let s = k.2.runs.1.goes in
    let v : verdict r m.token.terminal ≡ Refused (Limit which) = ap (λ (y : Option State). judged y r m.token.terminal) s ∙ ap (λ (y : Option Which). limited y (go r k.2.runs.0 m.token.terminal)) (is_first which r m.token.terminal p) in
    (r, k.1, ap (verdict r) f.1 ∙ v)

pub found : (x : Refusal) (ts : List Terminal) (t : Terminal) → IsRefusalOf x ts t → Finds ts t x
found Syntax ts t h = stopped_as ts t Syntax h.0 h.1 (λ r e. syntax_kind (kind_at r.state t) ts t r e h.2 refl)
found (Inappropriate w) ts t h = stopped_as ts t (Inappropriate w) h.0 h.1 (λ r e. kind_of w r.state ts t (run_state start_reading ts r e) h.2)
found (Limit which) ts t h = passed_found which ts t h

pub cut_short_read : (ts : List Terminal) → IsCutShort ts → (r : Reading) × Reads ts r × (r.state ≡ Between → ⊥)
cut_short_read ts c =
    let r = open_read ts c.0 in
    (r.0, r.1, λ b. let f = file_of ts (run_state start_reading ts r.0 r.1 ∙ ap (λ (s : State). Some s) b) in c.1 f.0 f.1)
