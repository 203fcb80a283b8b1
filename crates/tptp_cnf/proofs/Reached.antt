-- What was read of the bytes as their tokens are taken one after another.
use Rattle.std.proofs.Common.{◌≡◌, ℕ, Bool, false, List, [], ◌∷◌, ◌++◌, length, Option, Some, None, refl, sym, ap, subst, ◌∙◌, inl, inr, true≢false}
use Rattle.std.specs.Prelude.{IsTrue, ◌↔◌}
use Rattle.std.proofs.lemmas.List.{map-append}
use Rattle.me_terms.specs.Values.{ProblemValue}
use Rattle.tptp_tokens.specs.Gaps.{IsGap}
use Rattle.tptp_tokens.specs.Remainders.{Remainder}
use Rattle.tptp_tokens.specs.Tokens.{PlacedToken, IsNextToken, IsCutFrom}
use Rattle.tptp_grammar.specs.Terminals.{Terminal, terminal, terminals}
use Rattle.tptp_grammar.specs.Written.{WrittenFormula}
use Rattle.tptp_grammar.specs.Printed.{Printed, printed, printed_terminals}
use Rattle.tptp_grammar.specs.Files as grammar
use Rattle.tptp_grammar.specs.Machine.{State, Between, step, run_on, part_at}
use Rattle.tptp_grammar.specs.Readings.{Reading, start_reading, Verdict, GoesOn, Refused, limited, judged, verdict, on_from, first_passed_at, counted}
use Rattle.tptp_grammar.specs.declared.refusal.Refusal.{Refusal}
use Rattle.tptp_grammar.specs.declared.refusal.Refusal.TheVariants as refusal
use Rattle.tptp_grammar.specs.declared.refusal.Which.{Which}
use Rattle.tptp_grammar.proofs.Runs.{Runs, file_runs}
use Rattle.tptp_grammar.proofs.Judgements.{Reads, accepted, refused, cut_short}
use Rattle.tptp_cnf.specs.Meaning.{problem_of}
use Rattle.tptp_cnf.specs.Files.{IsFile}
use Rattle.tptp_cnf.specs.Causes.{AreFirstTokens, IsRefusedToken, RefusedAt, error_of, IsErrorCause}
use Rattle.tptp_cnf.specs.Rows.{Draft, empty_draft, fed, fed_from, feeds, finished}
use Rattle.tptp_cnf.specs.Views.{TellsAt}
use Rattle.tptp_cnf.specs.declared.error.CnfError.{CnfError}
use Rattle.tptp_cnf.specs.declared.error.CnfError.TheVariants as error
use Rattle.tptp_cnf.proofs.Fed.{file_fed}
use Rattle.tptp_cnf.proofs.Drafted.{finished_is}

abbrev pub all_of : List ℕ → Remainder
all_of bytes = record { at = 0; bytes = bytes }

-- These tokens were read, with this reading and this draft.
pub record Reached (bytes : List ℕ) (left : Remainder) (r : Reading) (d : Draft) : Type 0 where
  pub tokens : List PlacedToken
  pub front : AreFirstTokens tokens (all_of bytes) left
  pub reads : Reads (terminals tokens) r
  pub run : run_on (Some Between) (terminals tokens) ≡ Some r.state
  pub draft : d ≡ fed_from (Some Between) (terminals tokens) empty_draft

pub reached_none : (bytes : List ℕ) (left : Remainder) (r : Reading) (d : Draft) → left ≡ all_of bytes → r ≡ start_reading → d ≡ empty_draft → Reached bytes left r d
reached_none bytes left r d l s e = record {
  tokens = [];
  front = sym l;
  reads = ap (λ (x : Reading). GoesOn x) (sym s);
  run = ap (λ (x : Reading). Some x.state) (sym s);
  draft = e;
}

-- ---- one more token

pub front_more : (now : Remainder) (tokens : List PlacedToken) (left : Remainder) (token : PlacedToken) (next : Remainder) → AreFirstTokens tokens now left → IsNextToken left token next → AreFirstTokens (tokens ++ token ∷ []) now next
front_more now [] left token next b n = (next, subst (λ (x : Remainder). IsNextToken x token next) (sym b) n, refl)
front_more now (t ∷ tokens) left token next b n = (b.0, b.1, front_more b.0 tokens left token next b.2 n)

on_none : (v : Verdict) → on_from v [] ≡ v
on_none (GoesOn r) = refl
on_none (Refused x) = refl

on_more : (v : Verdict) (ts : List Terminal) (t : Terminal) (r : Reading) → on_from v ts ≡ GoesOn r → on_from v (ts ++ t ∷ []) ≡ verdict r t
on_more (Refused x) ts t r e = absurd cc
on_more (GoesOn u) [] t r e = let same : u ≡ r = cc in on_none (verdict u t) ∙ ap (λ (x : Reading). verdict x t) same
on_more (GoesOn u) (x ∷ ts) t r e = on_more (verdict u x) ts t r e

run_none : (o : Option State) → run_on o [] ≡ o
run_none None = refl
run_none (Some s) = refl

run_more : (o : Option State) (ts : List Terminal) (t : Terminal) (u : State) → run_on o ts ≡ Some u → run_on o (ts ++ t ∷ []) ≡ step u t
run_more None ts t u e = absurd cc
run_more (Some s) [] t u e = let same : s ≡ u = cc in run_none (step s t) ∙ ap (λ (x : State). step x t) same
run_more (Some s) (x ∷ ts) t u e = run_more (step s x) ts t u e

fed_none : (o : Option State) (d : Draft) → fed_from o [] d ≡ d
fed_none None d = refl
fed_none (Some s) d = refl

fed_more : (o : Option State) (ts : List Terminal) (t : Terminal) (u : State) (d : Draft) → run_on o ts ≡ Some u → fed_from o (ts ++ t ∷ []) d ≡ fed (fed_from o ts d) (part_at u t) t
fed_more None ts t u d e = absurd cc
fed_more (Some s) [] t u d e = let same : s ≡ u = cc in fed_none (step s t) (fed d (part_at s t) t) ∙ ap (λ (x : State). fed d (part_at x t) t) same
fed_more (Some s) (x ∷ ts) t u d e = fed_more (step s x) ts t u (fed d (part_at s x) x) e

limited_goes : (o : Option Which) (u r : Reading) → limited o u ≡ GoesOn r → u ≡ r
limited_goes None u r e = cc
limited_goes (Some w) u r e = absurd cc

judged_goes : (o : Option State) (r u : Reading) (t : Terminal) → judged o r t ≡ GoesOn u → o ≡ Some u.state
judged_goes None r u t e = absurd cc
judged_goes (Some s) r u t e = ap (λ (x : Reading). Some x.state) (limited_goes (first_passed_at r t) (record { state = s; tally = counted (part_at r.state t) t r.tally }) u e)

pub reached_more : (bytes : List ℕ) (left next : Remainder) (token : PlacedToken) (r u : Reading) (d e : Draft) → Reached bytes left r d → IsNextToken left token next → verdict r (terminal token.token) ≡ GoesOn u → e ≡ fed d (part_at r.state (terminal token.token)) (terminal token.token) → Reached bytes next u e
reached_more bytes left next token r u d e h n v f =
    let t : Terminal = terminal token.token in
    let ts : List Terminal = terminals h.tokens in
    let all : terminals (h.tokens ++ token ∷ []) ≡ ts ++ t ∷ [] = map-append (λ placed. terminal placed.token) h.tokens (token ∷ []) in
    record {
      tokens = h.tokens ++ token ∷ [];
      front = front_more (all_of bytes) h.tokens left token next h.front n;
      reads = ap (on_from (GoesOn start_reading)) all ∙ on_more (GoesOn start_reading) ts t r h.reads ∙ v;
      run = ap (run_on (Some Between)) all ∙ run_more (Some Between) ts t r.state h.run ∙ judged_goes (step r.state t) r u t v;
      draft = f ∙ ap (λ (x : Draft). fed x (part_at r.state t) t) h.draft ∙ sym (fed_more (Some Between) ts t r.state empty_draft h.run) ∙ ap (λ (x : List Terminal). fed_from (Some Between) x empty_draft) (sym all);
    }

-- ---- refusals

cause_of : (why : Refusal) (at : ℕ) (bytes : List ℕ) → RefusedAt why at bytes → IsErrorCause bytes (error_of why at)
cause_of refusal.Syntax at bytes h = h
cause_of (refusal.Inappropriate w) at bytes h = h
cause_of (refusal.Limit w) at bytes h = h

by_token : (why : Refusal) (at : ℕ) (bytes : List ℕ) → IsRefusedToken why at bytes → RefusedAt why at bytes
by_token refusal.Syntax at bytes h = inl h
by_token (refusal.Inappropriate w) at bytes h = h
by_token (refusal.Limit w) at bytes h = h

told : (bytes : List ℕ) (left next : Remainder) (token : PlacedToken) (r : Reading) (d : Draft) (why : Refusal) (e : CnfError) → Reached bytes left r d → IsNextToken left token next → verdict r (terminal token.token) ≡ Refused why → e ≡ error_of why token.at → IsErrorCause bytes e
told bytes left next token r d why e h n v same =
    let at : IsRefusedToken why token.at bytes = record { before = h.tokens; token = token; left = left; rest = next; front = h.front; next = n; refused = refused why (terminals h.tokens) r (terminal token.token) h.reads v; place = refl } in
    subst (IsErrorCause bytes) (sym same) (cause_of why token.at bytes (by_token why token.at bytes at))

pub stopped : (bytes : List ℕ) (left next : Remainder) (token : PlacedToken) (r : Reading) (d : Draft) (e : CnfError) → Reached bytes left r d → IsNextToken left token next → TellsAt token.at (verdict r (terminal token.token)) e → IsErrorCause bytes e
stopped bytes left next token r d error.Memory h n t = tt
stopped bytes left next token r d (error.Syntax at) h n t = told bytes left next token r d t.0 (error.Syntax at) h n t.1 t.2
stopped bytes left next token r d (error.Inappropriate w at) h n t = told bytes left next token r d t.0 (error.Inappropriate w at) h n t.1 t.2
stopped bytes left next token r d (error.Limit w at) h n t = told bytes left next token r d t.0 (error.Limit w at) h n t.1 t.2

-- ---- the end

cut_of : (now : Remainder) (tokens : List PlacedToken) (left : Remainder) → AreFirstTokens tokens now left → IsGap left.bytes [] → IsCutFrom now tokens
cut_of now [] left b g = subst (λ (x : Remainder). IsGap x.bytes []) (sym b) g
cut_of now (t ∷ tokens) left b g = (b.0, b.1, cut_of b.0 tokens left b.2 g)

pub ended_early : (bytes : List ℕ) (left : Remainder) (r : Reading) (d : Draft) (at : ℕ) → Reached bytes left r d → IsGap left.bytes [] → (r.state ≡ Between → ⊥) → at ≡ length bytes → IsErrorCause bytes (error.Syntax at)
ended_early bytes left r d at h g b e = inr (record { tokens = h.tokens; cut = cut_of (all_of bytes) h.tokens left h.front g; short = cut_short (terminals h.tokens) r h.reads b; place = e })

runs_fed : (ps : List Printed) (s u : State) (d : Draft) → Runs s ps u → fed_from (Some s) (printed_terminals ps) d ≡ feeds d ps
runs_fed [] s u d h = refl
runs_fed (p ∷ ps) s u d h =
    ap (λ (o : Option State). fed_from o (printed_terminals ps) (fed d (part_at s p.terminal) p.terminal)) h.1.goes
    ∙ runs_fed ps h.0 u (fed d (part_at s p.terminal) p.terminal) h.2
    ∙ ap (λ x. feeds (fed d x p.terminal) ps) (sym h.1.part)

-- the problem that is read of the tokens of a file is the one that it means
pub read_is : (ts : List Terminal) (file : List WrittenFormula) → grammar.IsFileWithinLimits ts file → finished (fed_from (Some Between) ts empty_draft) ≡ problem_of file
read_is ts file f =
    ap (λ (x : List Terminal). finished (fed_from (Some Between) x empty_draft)) f.written
    ∙ ap finished (runs_fed (printed file) Between Between empty_draft (file_runs file) ∙ file_fed file empty_draft)
    ∙ finished_is file

pub means : (bytes : List ℕ) (left : Remainder) (r : Reading) (d : Draft) (problem : ProblemValue) → Reached bytes left r d → IsGap left.bytes [] → r.state ≡ Between → problem ≡ finished d → IsFile bytes problem
means bytes left r d problem h g b e =
    let f = accepted (terminals h.tokens) r h.reads b in
    record { tokens = h.tokens; cut = cut_of (all_of bytes) h.tokens left h.front g; file = f.0; written = f.1; means = e ∙ ap finished h.draft ∙ read_is (terminals h.tokens) f.0 f.1 }

pub not_between : (b : Bool) (s : State) → (IsTrue b ↔ (s ≡ Between)) → b ≡ false → s ≡ Between → ⊥
not_between b s h e k = true≢false (sym (h.1 k) ∙ e)
