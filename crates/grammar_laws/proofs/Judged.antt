-- The machine's verdicts are the grammar's.
use Rattle.std.proofs.Common.{◌≡◌, List, [], ◌∷◌, ◌++◌, Option, Some, None, true, false, true≢false, inl, inr, zero, suc, refl, sym, ap, ◌∙◌, append_assoc}
use Rattle.std.specs.Prelude.{◌↔◌}
use Rattle.tptp_grammar.specs.Terminals.{Terminal, Bad}
use Rattle.tptp_grammar.specs.Printed.{printed}
use Rattle.tptp_grammar.specs.Files.{BeginsFile}
use Rattle.tptp_grammar.specs.Refusals.{IsInappropriate, IsUnrefused, IsRefusalOf, IsCutShort}
use Rattle.tptp_grammar.specs.Machine.{State, Between, Named, Done, LiteralEnd, FormulaEnd, Notes, step, run_on}
use Rattle.tptp_grammar.specs.Readings.{Reading, GoesOn, Refused, kind_at, judged, verdict}
use Rattle.tptp_grammar.specs.declared.refusal.What.{What}
use Rattle.tptp_grammar.specs.declared.refusal.What.TheVariants as what
use Rattle.tptp_grammar.specs.declared.refusal.Refusal.{Refusal}
use Rattle.tptp_grammar.specs.declared.refusal.Refusal.TheVariants.{Syntax}
use Rattle.tptp_grammar.proofs.Judgements.{accepted, file_read, refused, cut_short, found, cut_short_read}
use Rattle.tptp_grammar.proofs.Runs.{file_runs, run_of}
use Rattle.grammar_laws.specs.Verdicts.{HasRead, IsSomeFile}

one_reading : (tokens : List Terminal) (reading other : Reading) → HasRead tokens reading → HasRead tokens other → reading ≡ other
one_reading tokens reading other read again = same (sym read ∙ again)
  where
    same : GoesOn reading ≡ GoesOn other → reading ≡ other
    same e = cc

-- ---- no file has a bad token

stops_at_bad : (s : State) → step s Bad ≡ None
stops_at_bad (Named [] true k) = refl
stops_at_bad (Named [] false zero) = refl
stops_at_bad (Named [] false (suc k)) = refl
stops_at_bad (Named (n ∷ ns) b k) = refl
stops_at_bad (Done [] true k) = refl
stops_at_bad (Done [] false zero) = refl
stops_at_bad (Done [] false (suc k)) = refl
stops_at_bad (Done (n ∷ ns) b k) = refl
stops_at_bad (LiteralEnd zero) = refl
stops_at_bad (LiteralEnd (suc k)) = refl
stops_at_bad (FormulaEnd zero) = refl
stops_at_bad (FormulaEnd (suc k)) = refl
stops_at_bad (Notes []) = refl
stops_at_bad (Notes (true ∷ stack)) = refl
stops_at_bad (Notes (false ∷ stack)) = refl
stops_at_bad s = refl

bad_is_syntax : (s : State) → kind_at s Bad ≡ Syntax
bad_is_syntax (Named [] b k) = refl
bad_is_syntax (Named (n ∷ ns) b k) = refl
bad_is_syntax (Done [] b k) = refl
bad_is_syntax (Done (n ∷ ns) b k) = refl
bad_is_syntax s = refl

stops_behind : (o : Option State) (tokens others : List Terminal) → run_on o (tokens ++ Bad ∷ others) ≡ None
stops_behind None tokens others = refl
stops_behind (Some s) [] others = ap (λ (o : Option State). run_on o others) (stops_at_bad s)
stops_behind (Some s) (t ∷ tokens) others = stops_behind (step s t) tokens others

no_file_with_bad : (tokens : List Terminal) → BeginsFile (tokens ++ Bad ∷ []) → ⊥
no_file_with_bad tokens b =
    let run = ap (run_on (Some Between)) b.2 ∙ run_of Between (printed b.1) Between (file_runs b.1) in
    apart (sym (stops_behind (Some Between) tokens b.0) ∙ ap (run_on (Some Between)) (sym (append_assoc tokens (Bad ∷ []) b.0)) ∙ run)
  where
    apart : None ≡ Some Between → ⊥
    apart e = cc

no : false ≡ true → ⊥
no e = true≢false (sym e)

bad_is_no_other : (w : What) (tokens : List Terminal) → IsInappropriate w tokens Bad → ⊥
bad_is_no_other what.Language tokens h = no h.0
bad_is_no_other what.Include tokens h = no h.0
bad_is_no_other what.Conjecture tokens h = no h.0
bad_is_no_other what.Role tokens h = no h.0
bad_is_no_other what.Equality tokens (inl h) = no h.0
bad_is_no_other what.Equality tokens (inr h) = no h.0
bad_is_no_other what.Number tokens h = no h.0
bad_is_no_other what.Defined tokens h = no h.0

-- ---- the machine goes on, refuses and ends where the grammar does

bad_refused : (reading : Reading) → verdict reading Bad ≡ Refused Syntax
bad_refused reading =
    ap (λ (o : Option State). judged o reading Bad) (stops_at_bad reading.state) ∙ ap (λ (x : Refusal). Refused x) (bad_is_syntax reading.state)

pub goes_on : (tokens : List Terminal) → ((reading : Reading) × HasRead tokens reading) ↔ IsUnrefused tokens
goes_on tokens = (
  λ h. (refused Syntax tokens h.0 Bad h.1 (bad_refused h.0)).0,
  λ h.
      let f = found Syntax tokens Bad (h, no_file_with_bad tokens, λ w k. bad_is_no_other w tokens k) in
      (f.0, f.1),
)

pub refuses : (tokens : List Terminal) (reading : Reading) (token : Terminal) (refusal : Refusal) → HasRead tokens reading
    → (verdict reading token ≡ Refused refusal) ↔ IsRefusalOf refusal tokens token
refuses tokens reading token refusal read = (
  refused refusal tokens reading token read,
  λ h.
      let f = found refusal tokens token h in
      ap (λ (r : Reading). verdict r token) (one_reading tokens reading f.0 read f.1) ∙ f.2,
)

pub ends : (tokens : List Terminal) (reading : Reading) → HasRead tokens reading → (reading.state ≡ Between) ↔ IsSomeFile tokens
ends tokens reading read = (
  accepted tokens reading read,
  λ h.
      let f = file_read tokens h.0 h.1 in
      ap (λ (r : Reading). r.state) (one_reading tokens reading f.0 read f.1) ∙ f.2,
)

pub elsewhere : (tokens : List Terminal) (reading : Reading) → HasRead tokens reading → (¬ (reading.state ≡ Between)) ↔ IsCutShort tokens
elsewhere tokens reading read = (
  cut_short tokens reading read,
  λ h between.
      let c = cut_short_read tokens h in
      c.2 (ap (λ (r : Reading). r.state) (one_reading tokens c.0 reading c.1 read) ∙ between),
)
