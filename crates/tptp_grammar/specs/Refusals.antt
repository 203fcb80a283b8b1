-- Which token of a file is refused, and as what.
use Rattle.std.specs.Prelude.{◌≡◌, ◌⊎◌, Bool, true, false, ◌||◌, List, [], ◌∷◌, ◌++◌, codes}
use Rattle.std.specs.Str.{bytes_eq}
use Rattle.std.specs.List.{AllByRecursion}
use Rattle.tptp_grammar.specs.Terminals.{Terminal, LowerWord, Variable, Distinct, DollarWord, Digits, Number, Equality}
use Rattle.tptp_grammar.specs.Written.{WrittenFormula}
use Rattle.tptp_grammar.specs.Printed.{Printed}
use Rattle.tptp_grammar.specs.declared.part.Part.{Part}
use Rattle.tptp_grammar.specs.declared.part.Part.TheVariants.{Role as RolePart, Positive as PositivePart, Atom as AtomPart, Argument as ArgumentPart}
use Rattle.tptp_grammar.specs.Limits.{passes, begins_formula}
use Rattle.tptp_grammar.specs.Files.{IsWritten, BeginsFile, PassesNoLimit, IsFileFront}
use Rattle.tptp_grammar.specs.declared.refusal.What.{What}
use Rattle.tptp_grammar.specs.declared.refusal.What.TheVariants as what
use Rattle.tptp_grammar.specs.declared.refusal.Which.{Which}
use Rattle.tptp_grammar.specs.declared.refusal.Which.TheVariants.{Clauses, Literals, Arguments, Variables, Nesting}
use Rattle.tptp_grammar.specs.declared.refusal.Refusal.{Refusal}
use Rattle.tptp_grammar.specs.declared.refusal.Refusal.TheVariants.{Syntax, Inappropriate, Limit}

-- ---- where a token stands

abbrev pub begins_role : Part → Bool
begins_role RolePart = true
begins_role part = false

abbrev pub begins_atom : Part → Bool
begins_atom PositivePart = true
begins_atom AtomPart = true
begins_atom part = false

abbrev pub begins_argument : Part → Bool
begins_argument (ArgumentPart n) = true
begins_argument part = false

-- behind these tokens such a part of a file may begin
pub record MayBegin (p : Part → Bool) (before : List Terminal) : Type 0 where
  pub front : List Printed
  pub token : Printed
  pub after : List Printed
  pub first : IsFileFront before front (token ∷ after)
  pub begins : p token.part ≡ true

-- the last of these tokens may be the last token of an atom
pub record MayEndAtom (before : List Terminal) : Type 0 where
  pub front : List Printed
  pub token : Printed
  pub after : List Printed
  pub first : IsFileFront before (front ++ token ∷ []) after
  pub ends : token.ends_atom ≡ true

-- ---- which tokens are refused as what

abbrev pub is_language : Terminal → Bool
is_language (LowerWord text) = bytes_eq text (codes "fof") || bytes_eq text (codes "tff") || bytes_eq text (codes "thf") || bytes_eq text (codes "tcf") || bytes_eq text (codes "tpi")
is_language t = false

abbrev pub is_include : Terminal → Bool
is_include (LowerWord text) = bytes_eq text (codes "include")
is_include t = false

abbrev pub is_conjecture : Terminal → Bool
is_conjecture (LowerWord text) = bytes_eq text (codes "conjecture")
is_conjecture t = false

abbrev pub is_lower_word_token : Terminal → Bool
is_lower_word_token (LowerWord text) = true
is_lower_word_token t = false

abbrev pub is_equality : Terminal → Bool
is_equality Equality = true
is_equality t = false

abbrev pub is_variable_or_distinct : Terminal → Bool
is_variable_or_distinct (Variable text) = true
is_variable_or_distinct (Distinct text) = true
is_variable_or_distinct t = false

abbrev pub is_number : Terminal → Bool
is_number (Digits text) = true
is_number Number = true
is_number t = false

abbrev pub is_dollar_word : Terminal → Bool
is_dollar_word (DollarWord text) = true
is_dollar_word t = false

-- A token that the grammar refuses behind these tokens lies outside of the profile in this way. $true and $false where an atom may begin aren't refused.
abbrev pub IsInappropriate : What → List Terminal → Terminal → Type 0
IsInappropriate what.Language before t = (is_language t ≡ true) × MayBegin begins_formula before
IsInappropriate what.Include before t = (is_include t ≡ true) × MayBegin begins_formula before
IsInappropriate what.Conjecture before t = (is_conjecture t ≡ true) × MayBegin begins_role before
IsInappropriate what.Role before t = (is_lower_word_token t ≡ true) × (is_conjecture t ≡ false) × MayBegin begins_role before
IsInappropriate what.Equality before t = ((is_equality t ≡ true) × MayEndAtom before) ⊎ ((is_variable_or_distinct t ≡ true) × MayBegin begins_atom before)
IsInappropriate what.Number before t = (is_number t ≡ true) × (MayBegin begins_atom before ⊎ MayBegin begins_argument before)
IsInappropriate what.Defined before t = (is_dollar_word t ≡ true) × (MayBegin begins_atom before ⊎ MayBegin begins_argument before)

-- the lines of the limits before this one
abbrev pub earlier_limits : Which → List Which
earlier_limits Clauses = []
earlier_limits Literals = Clauses ∷ []
earlier_limits Arguments = Clauses ∷ Literals ∷ []
earlier_limits Variables = Clauses ∷ Literals ∷ Arguments ∷ []
earlier_limits Nesting = Clauses ∷ Literals ∷ Arguments ∷ Variables ∷ []

-- the tokens begin a file, and none of them passes a limit
pub record IsUnrefused (before : List Terminal) : Type 0 where
  pub front : List Printed
  pub after : List Printed
  pub first : IsFileFront before front after
  pub within : PassesNoLimit front

-- The token passes this limit, none before it passes one, and it passes none of the limits of an earlier line.
pub record IsPassed (which : Which) (before : List Terminal) (t : Terminal) : Type 0 where
  pub front : List Printed
  pub token : Printed
  pub after : List Printed
  pub first : IsFileFront (before ++ t ∷ []) (front ++ token ∷ []) after
  pub within : PassesNoLimit front
  pub passed : passes which front token ≡ true
  pub no_earlier : AllByRecursion (λ line. passes line front token ≡ false) (earlier_limits which)

-- The token t is the first refused one, behind these, and this is the cause.
abbrev pub IsRefusalOf : Refusal → List Terminal → Terminal → Type 0
IsRefusalOf Syntax before t = IsUnrefused before × (BeginsFile (before ++ t ∷ []) → ⊥) × ((w : What) → IsInappropriate w before t → ⊥)
IsRefusalOf (Inappropriate w) before t = IsUnrefused before × (BeginsFile (before ++ t ∷ []) → ⊥) × IsInappropriate w before t
IsRefusalOf (Limit which) before t = IsPassed which before t

-- No token is refused, but the file ends too early.
abbrev pub IsCutShort : List Terminal → Type 0
IsCutShort tokens = IsUnrefused tokens × ((file : List WrittenFormula) → IsWritten tokens file → ⊥)
