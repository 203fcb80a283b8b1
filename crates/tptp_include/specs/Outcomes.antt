-- What comes of a file: its formulas once it is flat, or the first cause for which there are none, in the order in which lines are followed.
use Rattle.std.specs.Prelude.{◌≡◌, ◌≢◌, ◌⊎◌, ℕ, zero, suc, List, [], ◌∷◌, ◌++◌, length, nat_le, nat_lt, Option, Some, None, if◌then◌else◌}
use Rattle.std.specs.List.{list_any}
use Rattle.std.specs.Str.{bytes_eq}
use Rattle.me_io.specs.declared.source.TheConstants.{MAX_BYTES}
use Rattle.me_terms.specs.LabelEquality.{same_label}
use Rattle.me_terms.specs.Values.{LabelValue}
use Rattle.tptp_grammar.specs.declared.limits.TheConstants.{MAX_FORMULAS}
use Rattle.tptp_cnf.specs.declared.error.CnfError.{CnfError}
use Rattle.tptp_cnf.specs.declared.error.CnfError.TheVariants as error
use Rattle.tptp_lines.specs.Lines.{LineValue, Formula, Include, AreLines}
use Rattle.tptp_lines.specs.LineCauses.{IsLinesCause}
use Rattle.tptp_include.specs.Files.{FileValue, bytes_named}
use Rattle.tptp_include.specs.Flat.{FlatValue, text_of, between, picked}
use Rattle.tptp_include.specs.declared.limits.TheConstants.{MAX_INCLUDES, MAX_CHAIN}
use Rattle.tptp_include.specs.declared.error.FlatLimit.{FlatLimit}
use Rattle.tptp_include.specs.declared.error.FlatLimit.TheVariants as limit

-- why a file has no flat form; a chain has the names of the files from the main one to the one that was asked for
pub data Stop : Type 0 where
  File : List ℕ → CnfError → Stop
  Missing : List (List ℕ) → Stop
  Cycle : List (List ℕ) → Stop
  Unnamed : List ℕ → LabelValue → Stop
  Limit : FlatLimit → Stop

pub data Outcome : Type 0 where
  Flat : List FlatValue → Outcome
  Stops : Stop → Outcome

-- Formulas are added one by one. The first that is one too many stops it, or else the first with which the text is too long.
abbrev pub added : List FlatValue → List FlatValue → Outcome
added so_far [] = Flat so_far
added so_far (f ∷ formulas) =
    if nat_le MAX_FORMULAS (length so_far) then Stops (Limit limit.Formulas)
    else (if nat_lt MAX_BYTES (length (text_of (so_far ++ f ∷ []))) then Stops (Limit limit.Length) else added (so_far ++ f ∷ []) formulas)

-- the first of these labels that no formula has
abbrev pub unnamed : List LabelValue → List FlatValue → Option LabelValue
unnamed [] formulas = None
unnamed (label ∷ labels) formulas = if list_any (λ f. same_label f.label label) formulas then unnamed labels formulas else Some label

abbrev pub unnamed_in : Option (List LabelValue) → List FlatValue → Option LabelValue
unnamed_in None formulas = None
unnamed_in (Some labels) formulas = unnamed labels formulas

-- an include of this file, where so many were come to before and the chain is this, isn't followed: it is one include too many, the file is in the chain, or the chain would be too long
abbrev pub unfollowed : List (List ℕ) → ℕ → List ℕ → Option Stop
unfollowed chain count file =
    if nat_le MAX_INCLUDES count then Some (Limit limit.Includes)
    else (if list_any (bytes_eq file) chain then Some (Cycle (chain ++ file ∷ [])) else (if nat_le MAX_CHAIN (length chain) then Some (Limit limit.Chain) else None))

-- What comes of a file at the end of a chain, where so many includes were come to before and so many behind it.
abbrev pub Giving : Type 1
Giving = List (List ℕ) → List ℕ → ℕ → Outcome → ℕ → Type 0

-- what is picked of an included file, where this is the first label that no formula has
abbrev pub selected_as : Option LabelValue → List ℕ → Option (List LabelValue) → List FlatValue → Outcome
selected_as None file picks whole = Flat (picked picks whole)
selected_as (Some label) file picks whole = Stops (Unnamed file label)

-- what is picked of an included file
abbrev pub selected : List ℕ → Option (List LabelValue) → Outcome → Outcome
selected file picks (Stops why) = Stops why
selected file picks (Flat whole) = selected_as (unnamed_in picks whole) file picks whole

-- what comes of an include: it isn't followed, or what is picked of its file
abbrev pub IncludeGives : Giving → List (List ℕ) → ℕ → List ℕ → Option (List LabelValue) → Outcome → ℕ → Type 0
IncludeGives FileGives chain count file picks outcome count' =
    ((why : Stop) × (unfollowed chain count file ≡ Some why) × (outcome ≡ Stops why))
    ⊎ ((found : Outcome) × (unfollowed chain count file ≡ None) × FileGives (chain ++ file ∷ []) file (suc count) found count' × (outcome ≡ selected file picks found))

-- these formulas, where there are some, are added to those before them
abbrev pub joined : List FlatValue → Outcome → Outcome
joined so_far (Stops why) = Stops why
joined so_far (Flat new) = added so_far new

-- what comes of a line, where these formulas stand before it
abbrev pub LineGives : Giving → List (List ℕ) → List ℕ → LineValue → List FlatValue → ℕ → Outcome → ℕ → Type 0
LineGives FileGives chain bytes (Formula label from to) so_far count outcome count' = (outcome ≡ added so_far (record { label = label; bytes = between bytes from to } ∷ [])) × (count' ≡ count)
LineGives FileGives chain bytes (Include file picks) so_far count outcome count' = (found : Outcome) × IncludeGives FileGives chain count file picks found count' × (outcome ≡ joined so_far found)

-- what comes of lines, where these formulas stand before them: the first line that stops it does
abbrev pub LinesGive : Giving → List (List ℕ) → List ℕ → List LineValue → List FlatValue → ℕ → Outcome → ℕ → Type 0
LinesGive FileGives chain bytes [] so_far count outcome count' = (outcome ≡ Flat so_far) × (count' ≡ count)
LinesGive FileGives chain bytes (line ∷ lines) so_far count outcome count' =
    ((why : Stop) × LineGives FileGives chain bytes line so_far count (Stops why) count' × (outcome ≡ Stops why))
    ⊎ ((more : List FlatValue) × (n : ℕ) × LineGives FileGives chain bytes line so_far count (Flat more) n × LinesGive FileGives chain bytes lines more n outcome count')

-- what comes of the bytes of a file: they are refused, or what comes of their lines
abbrev pub BytesGive : Giving → List (List ℕ) → List ℕ → List ℕ → ℕ → Outcome → ℕ → Type 0
BytesGive FileGives chain name bytes count outcome count' =
    ((why : CnfError) × (why ≢ error.Memory) × IsLinesCause bytes why × (outcome ≡ Stops (File name why)))
    ⊎ ((lines : List LineValue) × AreLines bytes lines × LinesGive FileGives chain bytes lines [] count outcome count')

-- What comes of the file of this name at the end of a chain, in which so many more names may come, this one counted: it is missing, or what comes of its bytes.
abbrev pub FileGives : ℕ → List FileValue → List (List ℕ) → List ℕ → ℕ → Outcome → ℕ → Type 0
FileGives zero files chain name count outcome count' = ⊥
FileGives (suc room) files chain name count outcome count' =
    ((bytes_named files name ≡ None) × (outcome ≡ Stops (Missing chain)))
    ⊎ ((bytes : List ℕ) × (bytes_named files name ≡ Some bytes) × BytesGive (FileGives room files) chain name bytes count outcome count')

-- what comes of the main file
abbrev pub IsOutcome : List FileValue → List ℕ → Outcome → Type 0
IsOutcome files main outcome = (count : ℕ) × FileGives MAX_CHAIN files (main ∷ []) main 0 outcome count
