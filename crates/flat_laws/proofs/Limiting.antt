-- Formulas that are each within the limits are a file within the limits, where they are not too many.
use Rattle.std.proofs.Common.{◌≡◌, ◌≢◌, ◌⊎◌, inl, inr, ◌≤◌, ◌<◌, ℕ, suc, ◌+◌, Bool, true, false, List, [], ◌∷◌, ◌++◌, length, Option, Some, None, codes, refl, sym, ap, subst, ◌∙◌, append_assoc, arith}
use Rattle.std.proofs.lemmas.List.{append-nil, length-append}
use Rattle.std.proofs.lemmas.Bool.Decides.{nat_tests}
use Rattle.std.specs.Prelude.{◌&&◌, nat_le, nat_lt}
use Rattle.std.specs.List.{AllByRecursion}
use Rattle.tptp_grammar.specs.declared.limits.TheConstants.{MAX_FORMULAS, MAX_VARIABLES}
use Rattle.tptp_grammar.specs.Terminals.{Terminal, LowerWord}
use Rattle.tptp_grammar.specs.Written.{WrittenFormula}
use Rattle.tptp_grammar.specs.Printed.{Printed, printed, printed_terminals}
use Rattle.tptp_grammar.specs.Files.{PassesNoLimit}
use Rattle.tptp_grammar.specs.Limits.{begins_formula, with_variables, variable_as}
use Rattle.tptp_grammar.specs.Machine.{State, Between, Begun, Opened, Closed, step, run_on, part_at, open_brackets}
use Rattle.tptp_grammar.specs.Readings.{Tally, Reading, start_reading, exceeds, first_of, first_passed, first_passed_at, Verdict, GoesOn, Refused, limited, judged, verdict, on_from, counted_if, counted}
use Rattle.tptp_grammar.specs.declared.part.Part.{Part}
use Rattle.tptp_grammar.specs.declared.part.Part.TheVariants as part
use Rattle.tptp_grammar.specs.declared.refusal.Which.{Which}
use Rattle.tptp_grammar.specs.declared.refusal.Which.TheVariants.{Literals, Arguments, Variables, Nesting}
use Rattle.tptp_grammar.proofs.Fronts.{went, on-append}
use Rattle.tptp_grammar.proofs.Judgements.{Reads, file_read}
use Rattle.tptp_grammar.proofs.Rests.{file_of}
use Rattle.tptp_lines.proofs.States.{IsLate, late, opens, labels, closes, IsInner, inner}
use Rattle.tptp_lines.proofs.Parsing.{no_more}
use Rattle.tptp_lines.proofs.Printing.{printed-append, terminals-append}
use Rattle.tptp_lines.proofs.Reached.{within_read}

abbrev pub terminals_of : List WrittenFormula → List Terminal
terminals_of fs = printed_terminals (printed fs)

-- ---- a reading with another number of formulas

abbrev with_formulas : ℕ → Reading → Reading
with_formulas k r = record { state = r.state; tally = record { formulas = k; literals = r.tally.literals; variables = r.tally.variables } }

-- the part of a token in a formula behind its first one
no_formula : (p : Part) → IsInner p → begins_formula p ≡ false
no_formula part.Formula h = absurd h
no_formula part.Label h = absurd h
no_formula part.End h = absurd h
no_formula p h = refl

abbrev Place : State → Type 0
Place s = (s ≡ Begun) ⊎ ((s ≡ Opened) ⊎ IsLate s)

closed_or : (s : State) → (s ≡ Closed) ⊎ (s ≡ Closed → ⊥)
closed_or Closed = inl refl
closed_or s = inr (λ e. cc)

-- behind the first token of a formula, and before its end, no formula begins
inner_part : (s : State) (t : Terminal) → Place s → begins_formula (part_at s t) ≡ false
inner_part s t (inl e) = ap (λ (x : State). begins_formula (part_at x t)) e
inner_part s t (inr (inl e)) = ap (λ (x : State). begins_formula (part_at x t)) e
inner_part s t (inr (inr h)) = by (closed_or s)
  where
    by : (s ≡ Closed) ⊎ (s ≡ Closed → ⊥) → begins_formula (part_at s t) ≡ false
    by (inl e) = ap (λ (x : State). begins_formula (part_at x t)) e
    by (inr n) = no_formula (part_at s t) (inner s t h n)

-- where a formula goes on, or ends
next_place : (s u : State) (t : Terminal) → Place s → step s t ≡ Some u → (u ≡ Between) ⊎ Place u
next_place s u t (inl e) k = inr (inr (inl (opens t u (ap (λ (x : State). step x t) (sym e) ∙ k))))
next_place s u t (inr (inl e)) k = inr (inr (inr (subst IsLate (sym (labels t u (ap (λ (x : State). step x t) (sym e) ∙ k))) tt)))
next_place s u t (inr (inr h)) k = by (closed_or s)
  where
    by : (s ≡ Closed) ⊎ (s ≡ Closed → ⊥) → (u ≡ Between) ⊎ Place u
    by (inl e) = inl (closes t u (ap (λ (x : State). step x t) (sym e) ∙ k))
    by (inr m) = inr (inr (inr (late s u t h m k)))

-- what a token that begins no formula counts and passes does not depend on the number of formulas
same_passed : (p : Part) (brackets : ℕ) (tally : Tally) (t : Terminal) (k : ℕ) → begins_formula p ≡ false → first_passed p brackets (record { formulas = k; literals = tally.literals; variables = tally.variables }) t ≡ first_passed p brackets tally t
same_passed p brackets tally t k e =
    ap (λ (b : Bool). first_of (b && nat_le MAX_FORMULAS k) (exceeds Literals p brackets tally t) (exceeds Arguments p brackets tally t) (exceeds Variables p brackets tally t) (exceeds Nesting p brackets tally t)) e
    ∙ sym (ap (λ (b : Bool). first_of (b && nat_le MAX_FORMULAS tally.formulas) (exceeds Literals p brackets tally t) (exceeds Arguments p brackets tally t) (exceeds Variables p brackets tally t) (exceeds Nesting p brackets tally t)) e)

abbrev tally_with : ℕ → Tally → Tally
tally_with k tally = record { formulas = k; literals = tally.literals; variables = tally.variables }

same_counted : (p : Part) (t : Terminal) (tally : Tally) (k : ℕ) → begins_formula p ≡ false → counted p t (tally_with k tally) ≡ tally_with k (counted p t tally)
same_counted p t tally k e =
    ap (λ (b : Bool). counted_if b p t (tally_with k tally)) e ∙ sym (ap (λ (b : Bool). tally_with k (counted_if b p t tally)) e)

same_formulas : (p : Part) (t : Terminal) (tally : Tally) → begins_formula p ≡ false → (counted p t tally).formulas ≡ tally.formulas
same_formulas p t tally e = ap (λ (b : Bool). (counted_if b p t tally).formulas) e

-- the verdict with another number of formulas
abbrev verdict_with : ℕ → Verdict → Verdict
verdict_with k (GoesOn u) = GoesOn (with_formulas k u)
verdict_with k (Refused x) = Refused x

limited_with : (o : Option Which) (u : Reading) (k : ℕ) → limited o (with_formulas k u) ≡ verdict_with k (limited o u)
limited_with None u k = refl
limited_with (Some w) u k = refl

same_verdict : (r : Reading) (t : Terminal) (k : ℕ) → begins_formula (part_at r.state t) ≡ false → verdict (with_formulas k r) t ≡ verdict_with k (verdict r t)
same_verdict r t k e = by (step r.state t)
  where
    p : Part
    p = part_at r.state t

    by : (o : Option State) → judged o (with_formulas k r) t ≡ verdict_with k (judged o r t)
    by None = refl
    by (Some u) =
        ap (λ (x : Option Which). limited x (record { state = u; tally = counted p t (tally_with k r.tally) })) (same_passed p (open_brackets r.state) r.tally t k e)
        ∙ ap (λ (x : Tally). limited (first_passed_at r t) (record { state = u; tally = x })) (same_counted p t r.tally k e)
        ∙ limited_with (first_passed_at r t) (record { state = u; tally = counted p t r.tally }) k

-- ---- one formula elsewhere

some_is : (s u : State) → Some s ≡ Some u → s ≡ u
some_is s u e = cc

goes_is : (r u : Reading) → GoesOn r ≡ GoesOn u → r ≡ u
goes_is r u e = cc

refused_goes : (x : _) (ts : List Terminal) (u : Reading) → on_from (Refused x) ts ≡ GoesOn u → ⊥
refused_goes x ts u e = cc

step_of : (r u : Reading) (t : Terminal) → verdict r t ≡ GoesOn u → step r.state t ≡ Some u.state
step_of r u t e = let w = went r t u e in w.goes ∙ ap (λ (x : Reading). Some x.state) w.same

-- the machine does not stand between two formulas before the end
abbrev EndsOnce : State → List Terminal → Type 0
EndsOnce s ts = (xs ys : List Terminal) → ts ≡ xs ++ ys → run_on (Some s) xs ≡ Some Between → ys ≡ []

-- what was read goes on in the same way with another number of formulas
abbrev Shifts : List Terminal → Reading → Reading → ℕ → Type 0
Shifts ts q u k = on_from (GoesOn q) ts ≡ GoesOn u → on_from (GoesOn (with_formulas k q)) ts ≡ GoesOn (with_formulas k u)

shift_last : (ts : List Terminal) (q u : Reading) (k : ℕ) → ts ≡ [] → Shifts ts q u k
shift_last [] q u k n e = ap (λ (x : Reading). GoesOn (with_formulas k x)) (goes_is q u e)
shift_last (t ∷ ts) q u k n e = absurd cc

shift_next : (ts : List Terminal) (q u : Reading) (k : ℕ) → EndsOnce q.state ts → (q.state ≡ Between) ⊎ Place q.state → (Place q.state → EndsOnce q.state ts → Shifts ts q u k) → Shifts ts q u k
shift_next ts q u k once (inl b) on = shift_last ts q u k (once [] ts refl (ap (λ (x : State). Some x) b))
shift_next ts q u k once (inr p) on = on p once

shift_by : (r u : Reading) (t : Terminal) (ts : List Terminal) (k : ℕ) (v : Verdict) → verdict r t ≡ v → on_from v ts ≡ GoesOn u → ((q : Reading) → verdict r t ≡ GoesOn q → Shifts ts q u k) → on_from (verdict_with k v) ts ≡ GoesOn (with_formulas k u)
shift_by r u t ts k (Refused x) v e on = absurd (refused_goes x ts u e)
shift_by r u t ts k (GoesOn q) v e on = on q v e

-- the readings of a formula behind its first token, with another number of formulas
shifted : (ts : List Terminal) (r u : Reading) (k : ℕ) → Place r.state → EndsOnce r.state ts → Shifts ts r u k
shifted [] r u k p once e = ap (λ (x : Reading). GoesOn (with_formulas k x)) (goes_is r u e)
shifted (t ∷ ts) r u k p once e =
    ap (λ (v : Verdict). on_from v ts) (same_verdict r t k (inner_part r.state t p))
    ∙ shift_by r u t ts k (verdict r t) refl e (λ q v. shift_next ts q u k
    (λ xs ys s run. once (t ∷ xs) ys (ap (λ (x : List Terminal). t ∷ x) s) (ap (λ (o : Option State). run_on o xs) (step_of r q t v) ∙ run))
    (next_place r.state q.state t p (step_of r q t v))
    (λ place more. shifted ts q u k place more))

-- ---- variables

-- the last formula has no more variables than it may
abbrev Few : Reading → Type 0
Few r = nat_lt MAX_VARIABLES (length r.tally.variables) ≡ false

few_step : (r u : Reading) (t : Terminal) → verdict r t ≡ GoesOn u → Few u
few_step r u t e =
    let w = went r t u e in
    subst Few w.same (by (begins_formula (part_at r.state t)) (w.within Variables))
  where
    by : (b : Bool) → nat_lt MAX_VARIABLES (length (with_variables r.tally.variables (variable_as (part_at r.state t) t))) ≡ false → nat_lt MAX_VARIABLES (length (counted_if b (part_at r.state t) t r.tally).variables) ≡ false
    by true h = refl
    by false h = h

few_by : (t : Terminal) (ts : List Terminal) (r u : Reading) (v : Verdict) → verdict r t ≡ v → on_from v ts ≡ GoesOn u → ((q : Reading) → Few q → on_from (GoesOn q) ts ≡ GoesOn u → Few u) → Few u
few_by t ts r u (Refused x) v e on = absurd (refused_goes x ts u e)
few_by t ts r u (GoesOn q) v e on = on q (few_step r q t v) e

few_on : (ts : List Terminal) (r u : Reading) → Few r → on_from (GoesOn r) ts ≡ GoesOn u → Few u
few_on [] r u f e = subst Few (goes_is r u e) f
few_on (t ∷ ts) r u f e = few_by t ts r u (verdict r t) refl e (λ q g k. few_on ts q u g k)

-- ---- a formula behind others

abbrev word : Terminal
word = LowerWord (codes "cnf")

-- the reading behind the first token of a formula
abbrev begun : ℕ → Reading
begun k = record { state = Begun; tally = record { formulas = k; literals = 0; variables = [] } }

first_goes : (r : Reading) → r.state ≡ Between → nat_le MAX_FORMULAS r.tally.formulas ≡ false → Few r → verdict r word ≡ GoesOn (begun (suc r.tally.formulas))
first_goes r b k f =
    let at : Reading = record { state = Between; tally = r.tally } in
    let same : at ≡ r = ap (λ (x : State). record { state = x; tally = r.tally }) (sym b) in
    sym (ap (λ (x : Reading). verdict x word) same) ∙ by (nat_le MAX_FORMULAS r.tally.formulas) (nat_lt MAX_VARIABLES (length r.tally.variables)) k f
  where
    by : (x y : Bool) → x ≡ false → y ≡ false → limited (first_of x false false y false) (begun (suc r.tally.formulas)) ≡ GoesOn (begun (suc r.tally.formulas))
    by false false e g = refl
    by true y e g = absurd cc
    by false true e g = absurd cc

-- a formula does not end before its last token
ends_once : (f : WrittenFormula) (xs ys : List Terminal) → terminals_of (f ∷ []) ≡ xs ++ ys → xs ≢ [] → run_on (Some Between) xs ≡ Some Between → ys ≡ []
ends_once f xs ys e some run = let h = file_of xs run in by h.0 h.1
  where
    nil : (us vs : List Terminal) → us ++ vs ≡ [] → vs ≡ []
    nil [] vs k = k
    nil (u ∷ us) vs k = absurd cc

    by : (file : List WrittenFormula) → xs ≡ terminals_of file → ys ≡ []
    by [] k = absurd (some k)
    by (a ∷ file) k =
        nil (terminals_of file) ys
        (no_more a f (terminals_of file ++ ys)
        (sym (append_assoc (terminals_of (a ∷ [])) (terminals_of file) ys) ∙ ap (λ (x : List Terminal). x ++ ys) (sym (terminals-append (a ∷ []) file)) ∙ ap (λ (x : List Terminal). x ++ ys) (sym k) ∙ sym e))

tail_of : (f : WrittenFormula) → (ts : List Terminal) × (terminals_of (f ∷ []) ≡ word ∷ ts)
tail_of f = (_, refl)

-- what was read of formulas: so many, with no more variables than may be
pub record FilesRead (fs : List WrittenFormula) : Type 0 where
  pub reading : Reading
  pub reads : Reads (terminals_of fs) reading
  pub between : reading.state ≡ Between
  pub many : reading.tally.formulas ≡ length fs
  pub few : Few reading

none_read : FilesRead []
none_read = record { reading = start_reading; reads = refl; between = refl; many = refl; few = refl }

one_read : (fs : List WrittenFormula) (f : WrittenFormula) → PassesNoLimit (printed (f ∷ [])) → length fs < MAX_FORMULAS → FilesRead fs → FilesRead (fs ++ f ∷ [])
one_read fs f within lt h =
    let one = file_read (terminals_of (f ∷ [])) (f ∷ []) (record { written = refl; within = within }) in
    let ts = (tail_of f).0 in
    let split : terminals_of (f ∷ []) ≡ word ∷ ts = (tail_of f).1 in
    let k : ℕ = suc h.reading.tally.formulas in
    let behind : on_from (GoesOn (begun 1)) ts ≡ GoesOn one.0 = sym (ap (on_from (GoesOn start_reading)) split) ∙ one.1 in
    let once : EndsOnce Begun ts = λ xs ys e run. ends_once f (word ∷ xs) ys (split ∙ ap (λ (x : List Terminal). word ∷ x) e) (λ n. cc) run in
    let goes : on_from (GoesOn (begun k)) ts ≡ GoesOn (with_formulas k one.0) = shifted ts (begun 1) one.0 k (inl refl) once behind in
    let first : verdict h.reading word ≡ GoesOn (begun k) = first_goes h.reading h.between (not_many lt) h.few in
    let all : on_from (GoesOn h.reading) (terminals_of (f ∷ [])) ≡ GoesOn (with_formulas k one.0) = ap (on_from (GoesOn h.reading)) split ∙ ap (λ (v : Verdict). on_from v ts) first ∙ goes in
    record {
      reading = with_formulas k one.0;
      reads = ap (on_from (GoesOn start_reading)) (terminals-append fs (f ∷ [])) ∙ on-append (GoesOn start_reading) (terminals_of fs) (terminals_of (f ∷ [])) ∙ ap (λ (v : Verdict). on_from v (terminals_of (f ∷ []))) h.reads ∙ all;
      between = one.2;
      many = omega (arith, h.many, length-append fs (f ∷ []));
      few = few_on ts (begun 1) one.0 refl behind;
    }
  where
    not_many : length fs < MAX_FORMULAS → nat_le MAX_FORMULAS h.reading.tally.formulas ≡ false
    not_many lt = let m = h.many in grind (arith, nat_tests, m, lt)

abbrev pub EachWithin : List WrittenFormula → Type 0
EachWithin fs = AllByRecursion (λ f. PassesNoLimit (printed (f ∷ []))) fs

more_read : (fs done : List WrittenFormula) → EachWithin fs → length done + length fs ≤ MAX_FORMULAS → FilesRead done → FilesRead (done ++ fs)
more_read [] done h le r = subst FilesRead (sym (append-nil done)) r
more_read (f ∷ fs) done h le r =
    subst FilesRead (append_assoc done (f ∷ []) fs) (more_read fs (done ++ f ∷ []) h.1 (omega (arith, le, length-append done (f ∷ []))) (one_read done f h.0 (omega (arith, le)) r))

pub within_all : (fs : List WrittenFormula) → EachWithin fs → length fs ≤ MAX_FORMULAS → PassesNoLimit (printed fs)
within_all fs h le = let r = more_read fs [] h (omega (arith, le)) none_read in within_read (terminals_of fs) r.reading fs r.reads refl

-- ---- a formula alone

within_front : (ps qs : List Printed) → PassesNoLimit (ps ++ qs) → PassesNoLimit ps
within_front ps qs h = λ before after p which e. h before (after ++ qs) p which (ap (λ (x : List Printed). x ++ qs) e ∙ append_assoc before (p ∷ after) qs)

begun_is : (r q : Reading) → r.state ≡ Between → verdict r word ≡ GoesOn q → q ≡ begun (suc r.tally.formulas)
begun_is r q b e =
    let at : Reading = record { state = Between; tally = r.tally } in
    let same : r ≡ at = ap (λ (x : State). record { state = x; tally = r.tally }) b in
    let w = went at word q (ap (λ (x : Reading). verdict x word) (sym same) ∙ e) in
    let state : Begun ≡ w.state = some_is Begun w.state w.goes in
    sym w.same ∙ ap (λ (x : State). record { state = x; tally = record { formulas = suc r.tally.formulas; literals = 0; variables = [] } }) (sym state)

word_goes : (r u : Reading) (ts : List Terminal) (v : Verdict) → verdict r word ≡ v → on_from v ts ≡ GoesOn u → (q : Reading) × (verdict r word ≡ GoesOn q) × (on_from (GoesOn q) ts ≡ GoesOn u)
word_goes r u ts (Refused x) v e = absurd (refused_goes x ts u e)
word_goes r u ts (GoesOn q) v e = (q, v, e)

alone : (f : WrittenFormula) (r u : Reading) → r.state ≡ Between → on_from (GoesOn r) (terminals_of (f ∷ [])) ≡ GoesOn u → PassesNoLimit (printed (f ∷ []))
alone f r u b e =
    let ts = (tail_of f).0 in
    let split : terminals_of (f ∷ []) ≡ word ∷ ts = (tail_of f).1 in
    let g = word_goes r u ts (verdict r word) refl (sym (ap (on_from (GoesOn r)) split) ∙ e) in
    let behind : on_from (GoesOn (begun (suc r.tally.formulas))) ts ≡ GoesOn u = sym (ap (λ (x : Reading). on_from (GoesOn x) ts) (begun_is r g.0 b g.1)) ∙ g.2 in
    let once : EndsOnce Begun ts = λ xs ys k run. ends_once f (word ∷ xs) ys (split ∙ ap (λ (x : List Terminal). word ∷ x) k) (λ n. cc) run in
    let one : on_from (GoesOn (begun 1)) ts ≡ GoesOn (with_formulas 1 u) = shifted ts (begun (suc r.tally.formulas)) u 1 (inl refl) once behind in
    let all : Reads (terminals_of (f ∷ [])) (with_formulas 1 u) = ap (on_from (GoesOn start_reading)) split ∙ ap (λ (v : Verdict). on_from v ts) (first_goes start_reading refl refl refl) ∙ one in
    within_read (terminals_of (f ∷ [])) (with_formulas 1 u) (f ∷ []) all refl

alone_behind : (fs done : List WrittenFormula) (r : Reading) → Reads (terminals_of done) r → r.state ≡ Between → PassesNoLimit (printed (done ++ fs)) → EachWithin fs
alone_behind [] done r e b w = tt
alone_behind (f ∷ fs) done r e b w =
    let within : PassesNoLimit (printed ((done ++ f ∷ []) ++ fs)) = subst (λ (x : List WrittenFormula). PassesNoLimit (printed x)) (sym (append_assoc done (f ∷ []) fs)) w in
    let one = file_read (terminals_of (done ++ f ∷ [])) (done ++ f ∷ []) (record { written = refl; within = within_front (printed (done ++ f ∷ [])) (printed fs) (subst PassesNoLimit (printed-append (done ++ f ∷ []) fs) within) }) in
    let on : on_from (GoesOn r) (terminals_of (f ∷ [])) ≡ GoesOn one.0 =
    ap (λ (v : Verdict). on_from v (terminals_of (f ∷ []))) (sym e) ∙ sym (on-append (GoesOn start_reading) (terminals_of done) (terminals_of (f ∷ []))) ∙ ap (on_from (GoesOn start_reading)) (sym (terminals-append done (f ∷ []))) ∙ one.1 in
    (alone f r one.0 b on, alone_behind fs (done ++ f ∷ []) one.0 one.1 one.2 within)

-- each formula of a file within the limits is within them alone
pub alone_of : (fs : List WrittenFormula) → PassesNoLimit (printed fs) → EachWithin fs
alone_of fs w = alone_behind fs [] start_reading refl refl w
