-- The machine with what it counts, and what it says of each token.
use Rattle.tptp_grammar.specs.declared.limits.TheConstants.{MAX_FORMULAS, MAX_LITERALS, MAX_ARGUMENTS, MAX_VARIABLES, MAX_BRACKETS}
use Rattle.std.specs.Prelude.{ℕ, suc, ◌+◌, Bool, true, false, ◌&&◌, List, [], ◌∷◌, length, nat_le, nat_lt, Option, Some, None, if◌then◌else◌}
use Rattle.tptp_grammar.specs.Terminals.{Terminal}
use Rattle.tptp_grammar.specs.declared.part.Part.{Part}
use Rattle.tptp_grammar.specs.Limits.{begins_formula, begins_literal, opens, variable_as, with_variables, begins_argument_behind}
use Rattle.tptp_grammar.specs.Refusals.{is_language, is_include, is_conjecture, is_lower_word_token, is_equality, is_variable_or_distinct, is_number, is_dollar_word}
use Rattle.tptp_grammar.specs.Machine.{State, Between, LabelEnd, FormulaStart, LiteralStart, Negated, AtomStart, ArgumentStart, Named, Done, step, part_at, open_if, open_brackets}
use Rattle.tptp_grammar.specs.declared.refusal.What.TheVariants as what
use Rattle.tptp_grammar.specs.declared.refusal.Which.{Which}
use Rattle.tptp_grammar.specs.declared.refusal.Which.TheVariants.{Clauses, Literals, Arguments, Variables, Nesting}
use Rattle.tptp_grammar.specs.declared.refusal.Refusal.{Refusal}
use Rattle.tptp_grammar.specs.declared.refusal.Refusal.TheVariants.{Syntax, Inappropriate, Limit}

-- what was counted: formulas; and of the last formula the literals, and the different variables
pub record Tally : Type 0 where
  pub formulas : ℕ
  pub literals : ℕ
  pub variables : List (List ℕ)

pub record Reading : Type 0 where
  pub state : State
  pub tally : Tally

abbrev pub start_reading : Reading
start_reading = record { state = Between; tally = record { formulas = 0; literals = 0; variables = [] } }

abbrev pub counted_if : Bool → Part → Terminal → Tally → Tally
counted_if true part t tally = record { formulas = suc tally.formulas; literals = 0; variables = [] }
counted_if false part t tally = record { formulas = tally.formulas; literals = open_if (begins_literal part) + tally.literals; variables = with_variables tally.variables (variable_as part t) }

-- what is counted behind a token
abbrev pub counted : Part → Terminal → Tally → Tally
counted part t tally = counted_if (begins_formula part) part t tally

-- what a word is refused as, where a formula may begin
abbrev pub formula_kind : Terminal → Refusal
formula_kind t = if is_language t then Inappropriate what.Language else (if is_include t then Inappropriate what.Include else Syntax)

abbrev pub role_kind : Terminal → Refusal
role_kind t = if is_conjecture t then Inappropriate what.Conjecture else (if is_lower_word_token t then Inappropriate what.Role else Syntax)

abbrev pub argument_kind : Terminal → Refusal
argument_kind t = if is_number t then Inappropriate what.Number else (if is_dollar_word t then Inappropriate what.Defined else Syntax)

abbrev pub atom_kind : Terminal → Refusal
atom_kind t = if is_variable_or_distinct t then Inappropriate what.Equality else argument_kind t

abbrev pub atom_end_kind : Terminal → Refusal
atom_end_kind t = if is_equality t then Inappropriate what.Equality else Syntax

-- as what a token is refused, where no file goes on with it
abbrev pub kind_at : State → Terminal → Refusal
kind_at Between t = formula_kind t
kind_at LabelEnd t = role_kind t
kind_at (FormulaStart k) t = atom_kind t
kind_at (LiteralStart k) t = atom_kind t
kind_at (Negated k) t = atom_kind t
kind_at (AtomStart k) t = atom_kind t
kind_at (ArgumentStart n ns b k) t = argument_kind t
kind_at (Named [] b k) t = atom_end_kind t
kind_at (Done [] b k) t = atom_end_kind t
kind_at s t = Syntax

-- whether a token, which begins this part, passes a limit where so many brackets are open and this was counted
abbrev pub exceeds : Which → Part → ℕ → Tally → Terminal → Bool
exceeds Clauses part brackets tally t = begins_formula part && nat_le MAX_FORMULAS tally.formulas
exceeds Literals part brackets tally t = begins_literal part && nat_le MAX_LITERALS tally.literals
exceeds Arguments part brackets tally t = begins_argument_behind MAX_ARGUMENTS part
exceeds Variables part brackets tally t = nat_lt MAX_VARIABLES (length (with_variables tally.variables (variable_as part t)))
exceeds Nesting part brackets tally t = opens t && nat_le MAX_BRACKETS brackets

abbrev pub passes_at : Which → Reading → Terminal → Bool
passes_at which r t = exceeds which (part_at r.state t) (open_brackets r.state) r.tally t

-- the first of these tests that holds
abbrev pub first_of : Bool → Bool → Bool → Bool → Bool → Option Which
first_of clauses literals arguments variables nesting =
    if clauses then Some Clauses else (if literals then Some Literals else (if arguments then Some Arguments else (if variables then Some Variables else (if nesting then Some Nesting else None))))

-- the first limit that the token passes
abbrev pub first_passed : Part → ℕ → Tally → Terminal → Option Which
first_passed part brackets tally t = first_of (exceeds Clauses part brackets tally t) (exceeds Literals part brackets tally t) (exceeds Arguments part brackets tally t) (exceeds Variables part brackets tally t) (exceeds Nesting part brackets tally t)

abbrev pub first_passed_at : Reading → Terminal → Option Which
first_passed_at r t = first_passed (part_at r.state t) (open_brackets r.state) r.tally t

-- what the machine says of a token
pub data Verdict : Type 0 where
  GoesOn : Reading → Verdict
  Refused : Refusal → Verdict

abbrev pub limited : Option Which → Reading → Verdict
limited None r = GoesOn r
limited (Some which) r = Refused (Limit which)

abbrev pub judged : Option State → Reading → Terminal → Verdict
judged None r t = Refused (kind_at r.state t)
judged (Some u) r t = limited (first_passed_at r t) (record { state = u; tally = counted (part_at r.state t) t r.tally })

abbrev pub verdict : Reading → Terminal → Verdict
verdict r t = judged (step r.state t) r t

abbrev pub on_from : Verdict → List Terminal → Verdict
on_from (Refused x) ts = Refused x
on_from (GoesOn r) [] = GoesOn r
on_from (GoesOn r) (t ∷ ts) = on_from (verdict r t) ts
