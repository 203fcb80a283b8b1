-- What a token counts, and which limits it passes.
use Rattle.tptp_grammar.specs.declared.limits.TheConstants.{MAX_FORMULAS, MAX_LITERALS, MAX_ARGUMENTS, MAX_VARIABLES, MAX_BRACKETS}
use Rattle.std.specs.Prelude.{ℕ, suc, ◌-◌, Bool, true, false, ◌&&◌, List, [], ◌∷◌, ◌++◌, length, nat_le, nat_lt, if◌then◌else◌}
use Rattle.std.specs.List.{list_any, count_by}
use Rattle.std.specs.Str.{bytes_eq}
use Rattle.tptp_grammar.specs.Terminals.{Terminal, Variable, OpenRound, CloseRound, OpenSquare, CloseSquare}
use Rattle.tptp_grammar.specs.Printed.{Printed}
use Rattle.tptp_grammar.specs.declared.part.Part.{Part}
use Rattle.tptp_grammar.specs.declared.part.Part.TheVariants.{Formula as FormulaPart, Negative as NegativePart, Positive as PositivePart, Argument as ArgumentPart}
use Rattle.tptp_grammar.specs.declared.refusal.Which.{Which}
use Rattle.tptp_grammar.specs.declared.refusal.Which.TheVariants.{Clauses, Literals, Arguments, Variables, Nesting}

abbrev pub begins_formula : Part → Bool
begins_formula FormulaPart = true
begins_formula part = false

abbrev pub begins_literal : Part → Bool
begins_literal NegativePart = true
begins_literal PositivePart = true
begins_literal part = false

-- a round or square bracket that opens, or that closes
abbrev pub opens : Terminal → Bool
opens OpenRound = true
opens OpenSquare = true
opens t = false

abbrev pub closes : Terminal → Bool
closes CloseRound = true
closes CloseSquare = true
closes t = false

-- the variable that a token is, where it is a term; variables in notes aren't counted
abbrev pub variable_as : Part → Terminal → List (List ℕ)
variable_as (ArgumentPart n) (Variable text) = text ∷ []
variable_as part t = []

-- how many formulas have begun
abbrev pub formulas_in : List Printed → ℕ
formulas_in tokens = count_by (λ p. begins_formula p.part) tokens

-- how many brackets are open
abbrev pub open_in : List Printed → ℕ
open_in tokens = count_by (λ p. opens p.terminal) tokens - count_by (λ p. closes p.terminal) tokens

-- the tokens of the formula that has begun last, behind its first one
abbrev pub of_formula : List Printed → List Printed → List Printed
of_formula so_far [] = so_far
of_formula so_far (p ∷ tokens) = if begins_formula p.part then of_formula [] tokens else of_formula (so_far ++ p ∷ []) tokens

-- how many literals of that formula have begun
abbrev pub literals_in : List Printed → ℕ
literals_in tokens = count_by (λ p. begins_literal p.part) (of_formula [] tokens)

abbrev pub with_variables : List (List ℕ) → List (List ℕ) → List (List ℕ)
with_variables known [] = known
with_variables known (text ∷ texts) = with_variables (if list_any (bytes_eq text) known then known else known ++ text ∷ []) texts

abbrev pub variables_met : List (List ℕ) → List Printed → List (List ℕ)
variables_met known [] = known
variables_met known (p ∷ tokens) = variables_met (with_variables known (variable_as p.part p.terminal)) tokens

-- the different variables of that formula, in the order of first occurrence
abbrev pub variables_in : List Printed → List (List ℕ)
variables_in tokens = variables_met [] (of_formula [] tokens)

abbrev pub begins_argument_behind : ℕ → Part → Bool
begins_argument_behind n (ArgumentPart k) = nat_le (suc n) k
begins_argument_behind n part = false

-- Whether a token passes a limit where these stand before it: it begins one formula too many, one literal of its formula too many, or one argument too many; it is one variable too many; or it opens one bracket too many.
abbrev pub passes : Which → List Printed → Printed → Bool
passes Clauses before p = begins_formula p.part && nat_le MAX_FORMULAS (formulas_in before)
passes Literals before p = begins_literal p.part && nat_le MAX_LITERALS (literals_in before)
passes Arguments before p = begins_argument_behind MAX_ARGUMENTS p.part
passes Variables before p = nat_lt MAX_VARIABLES (length (with_variables (variables_in before) (variable_as p.part p.terminal)))
passes Nesting before p = opens p.terminal && nat_le MAX_BRACKETS (open_in before)
