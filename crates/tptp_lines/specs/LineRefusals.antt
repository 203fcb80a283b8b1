-- Which token of a file that may include files is refused, and as what.
use Rattle.std.specs.Prelude.{◌≡◌, ◌≢◌, ◌⊎◌, List, [], ◌∷◌, ◌++◌}
use Rattle.tptp_grammar.specs.Terminals.{Terminal}
use Rattle.tptp_grammar.specs.Printed.{printed, printed_terminals}
use Rattle.tptp_grammar.specs.Files.{PassesNoLimit}
use Rattle.tptp_grammar.specs.Refusals.{IsRefusalOf, IsCutShort}
use Rattle.tptp_grammar.specs.declared.refusal.What.TheVariants as what
use Rattle.tptp_grammar.specs.declared.refusal.Refusal.{Refusal}
use Rattle.tptp_grammar.specs.declared.refusal.Refusal.TheVariants.{Syntax, Inappropriate, Limit}
use Rattle.tptp_lines.specs.WrittenLines.{WrittenLine, WrittenInclude, include_terminals, lines_terminals, formulas_of}

-- the tokens behind whole lines, with those of the formulas of these lines before them: what is left where the includes are taken out
abbrev pub without_includes : List WrittenLine → List Terminal → List Terminal
without_includes lines behind = printed_terminals (printed (formulas_of lines)) ++ behind

-- The token is refused in a formula: behind whole lines come these tokens, and without the includes the token is refused in a file, for this cause. That a line is an include is no cause.
pub record IsRefusedInFormula (why : Refusal) (before : List Terminal) (t : Terminal) : Type 0 where
  pub lines : List WrittenLine
  pub behind : List Terminal
  pub split : before ≡ lines_terminals lines ++ behind
  pub refused : IsRefusalOf why (without_includes lines behind) t
  pub no_include : why ≢ Inappropriate what.Include

-- behind whole lines, which are within the limits, comes a part of an include, at least a token and not all of it
pub record IsInInclude (tokens : List Terminal) : Type 0 where
  pub lines : List WrittenLine
  pub behind : List Terminal
  pub split : tokens ≡ lines_terminals lines ++ behind
  pub within : PassesNoLimit (printed (formulas_of lines))
  pub begun : behind ≢ []
  pub written : WrittenInclude
  pub next : Terminal
  pub others : List Terminal
  pub front : include_terminals written ≡ behind ++ next ∷ others

-- The token is refused in an include: no include goes on with it.
pub record IsRefusedInInclude (before : List Terminal) (t : Terminal) : Type 0 where
  pub inside : IsInInclude before
  pub stuck : (written : WrittenInclude) (others : List Terminal) → include_terminals written ≡ inside.behind ++ t ∷ others → ⊥

-- The token t is the first refused one, behind these, and this is the cause.
abbrev pub IsRefusalInLines : Refusal → List Terminal → Terminal → Type 0
IsRefusalInLines Syntax before t = IsRefusedInFormula Syntax before t ⊎ IsRefusedInInclude before t
IsRefusalInLines why before t = IsRefusedInFormula why before t

-- behind whole lines come these tokens, and without the includes the file ends too early
pub record IsCutInFormula (tokens : List Terminal) : Type 0 where
  pub lines : List WrittenLine
  pub behind : List Terminal
  pub split : tokens ≡ lines_terminals lines ++ behind
  pub short : IsCutShort (without_includes lines behind)

-- No token is refused, but the file ends too early: in a formula or in an include.
abbrev pub AreCutShort : List Terminal → Type 0
AreCutShort tokens = IsCutInFormula tokens ⊎ IsInInclude tokens
