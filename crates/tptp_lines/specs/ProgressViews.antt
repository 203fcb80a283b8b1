-- What the reader of lines holds.
use Rattle.std.specs.Prelude.{◌≡◌, ◌⊎◌, Bool, true, false, ◌&&◌, ℕ, map, Option, Some, None}
use Rattle.tptp_grammar.specs.Terminals.{Terminal}
use Rattle.tptp_grammar.specs.Refusals.{is_include}
use Rattle.tptp_grammar.specs.Machine.{Between, part_at}
use Rattle.tptp_grammar.specs.MachineViews.{reading}
use Rattle.tptp_grammar.specs.Readings.{Reading, Verdict, GoesOn, Refused, verdict}
use Rattle.tptp_grammar.specs.declared.refusal.Refusal.{Refusal}
use Rattle.tptp_cnf.specs.Causes.{error_of}
use Rattle.tptp_cnf.specs.declared.error.CnfError.{CnfError}
use Rattle.tptp_cnf.specs.declared.error.CnfError.TheVariants as error
use Rattle.tptp_lines.specs.Progress.{Progress, formula_fed, include_step, include_fed, at_stage}
use Rattle.tptp_lines.specs.LineViews.{line_value}
use Rattle.tptp_lines.specs.declared.reader.Reader.{Reader}
use Rattle.tptp_lines.specs.declared.stage.Stage.{Stage}
use Rattle.tptp_lines.specs.declared.stage.Stage.TheVariants as stage

abbrev pub progress : Reader → Progress
progress r = record { reading = reading r.machine; stage = r.stage; label = r.label; from = r.from; file = r.file.items; picks = r.picks.items; lines = map line_value r.lines.items }

-- the token begins an include, where a line may begin
pub record BeginsInclude (p : Progress) (t : Terminal) : Type 0 where
  pub between : p.reading.state ≡ Between
  pub word : is_include t ≡ true

-- an include goes on with the token
pub record GoesOnInInclude (p : Progress) (at : ℕ) (t : Terminal) (q : Progress) : Type 0 where
  pub next : Stage
  pub step : include_step p.stage t ≡ Some next
  pub fed : q ≡ at_stage next (include_fed p.stage t p)

-- a formula goes on with the token
pub record GoesOnInFormula (p : Progress) (at : ℕ) (t : Terminal) (q : Progress) : Type 0 where
  pub unlike : BeginsInclude p t → ⊥
  pub behind : Reading
  pub step : verdict p.reading t ≡ GoesOn behind
  pub fed : q ≡ formula_fed (part_at p.reading.state t) at t behind p

-- the token at this place leads from one progress to the other
abbrev pub GoesOnAt : Stage → Progress → ℕ → Terminal → Progress → Type 0
GoesOnAt stage.Formula p at t q = (BeginsInclude p t × (q ≡ at_stage stage.Included p)) ⊎ GoesOnInFormula p at t q
GoesOnAt s p at t q = GoesOnInInclude p at t q

-- the error tells why the token at this place is refused; want of memory is free
abbrev pub TellsWhy : Stage → Progress → ℕ → Terminal → CnfError → Type 0
TellsWhy s p at t error.Memory = Unit {0}
TellsWhy stage.Formula p at t e = (BeginsInclude p t → ⊥) × ((why : Refusal) × (verdict p.reading t ≡ Refused why) × (e ≡ error_of why at))
TellsWhy s p at t e = (include_step s t ≡ None) × (e ≡ error.Syntax at)
