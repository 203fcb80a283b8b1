-- The options of a call, as they are written: each with its name, and the form and range of its value.
use Rattle.std.specs.Prelude.{◌≡◌, ◌≢◌, ℕ, ◌≤◌, Bool, List, [], ◌∷◌, ◌++◌, length, map, codes, Option, Some, None, IfSome, option_map}
use Rattle.std.specs.List.{All, AllPairs, find}
use Rattle.std.specs.Str.{bytes_eq}
use Rattle.std.specs.Str.Parse.{digits_value}
use Rattle.std.specs.String.{string_bytes}
use Rattle.std.specs.Global.{Global}
use Rattle.std.specs.declared.string.String.{String}
use Rattle.me_terms.specs.declared.bounds.TheConstants.{MAX_DEPTH, MAX_WEIGHT, MAX_ENTRIES, MAX_LIST}
use Rattle.me_terms.specs.declared.bounds.Start.{Start}
use Rattle.me_terms.specs.declared.bounds.Start.TheVariants as choice
use Rattle.szs_print.specs.Printable.{IsName}
use Rattle.darwin_options.specs.declared.options.TheConstants.{DEFAULT_DEPTH, MAX_WORKERS, MAX_SHARE, MAX_SEED, MAX_DIGITS}

-- A word, as its bytes.
abbrev pub Word : Type 0
Word = List ℕ

-- What can be set.
pub data OptionKind : Type 0 where
  Name : OptionKind
  Depth : OptionKind
  From : OptionKind
  Weight : OptionKind
  Literals : OptionKind
  ListWeight : OptionKind
  Workers : OptionKind
  Share : OptionKind
  StartSign : OptionKind
  Make : OptionKind

-- The option's name without its two hyphens.
abbrev pub long_name : OptionKind → Word
long_name Name = codes "name"
long_name Depth = codes "depth"
long_name From = codes "from"
long_name Weight = codes "weight"
long_name Literals = codes "literals"
long_name ListWeight = codes "list"
long_name Workers = codes "workers"
long_name Share = codes "share"
long_name StartSign = codes "start"
long_name Make = codes "make"

-- The option's name as it is written.
abbrev pub written_name : OptionKind → Word
written_name option = codes "--" ++ long_name option

-- An option with its value.
pub record Setting : Type 0 where
  pub option : OptionKind
  pub value : Word

-- The word begins with a hyphen.
abbrev pub BeginsWithHyphen : Word → Type 0
BeginsWithHyphen word = (others : Word) × (word ≡ 45 ∷ others)

-- The words are the settings, one after the other: an option's name and its value as the next word, which begins with no hyphen, or one word of the name, `=` and the value.
pub data ReadsAs : List Word → List Setting → Type 0 where
  nothing : ReadsAs [] []
  two_words : (option : OptionKind) (value : Word) (words : List Word) (settings : List Setting) → ¬ BeginsWithHyphen value → ReadsAs words settings
      → ReadsAs (written_name option ∷ value ∷ words) (record { option = option; value = value } ∷ settings)
  one_word : (option : OptionKind) (value : Word) (words : List Word) (settings : List Setting) → ReadsAs words settings
      → ReadsAs ((written_name option ++ 61 ∷ value) ∷ words) (record { option = option; value = value } ∷ settings)

-- No option is set twice.
abbrev pub AreDifferent : List Setting → Type 0
AreDifferent settings = AllPairs (λ first later. first.option ≢ later.option) settings

-- The number that decimal digits write, leading zeros among them.
abbrev pub decimal_value : Word → ℕ
decimal_value = digits_value 10

-- 1 to MAX_DIGITS decimal digits, whose number stands in the range.
pub record IsNumberWithin (low high : ℕ) (word : Word) : Type 0 where
  pub some : 1 ≤ length word
  pub few : length word ≤ MAX_DIGITS
  pub digits : All (λ byte. (48 ≤ byte) × (byte ≤ 57)) word
  pub least : low ≤ decimal_value word
  pub greatest : decimal_value word ≤ high

-- The word that names a start.
abbrev pub start_word : Start → Word
start_word choice.Negative = codes "negative"
start_word choice.Positive = codes "positive"

-- The word names a start.
abbrev pub IsStartWord : Word → Type 0
IsStartWord word = (start : Start) × (word ≡ start_word start)

-- The value has the form and range of its option, where the bound of depth is the one given: no greater one can be tried first.
abbrev pub IsInForm : ℕ → OptionKind → Word → Type 0
IsInForm depth Name value = IsName value
IsInForm depth Depth value = IsNumberWithin 1 MAX_DEPTH value
IsInForm depth From value = IsNumberWithin 1 depth value
IsInForm depth Weight value = IsNumberWithin 1 MAX_WEIGHT value
IsInForm depth Literals value = IsNumberWithin 1 MAX_ENTRIES value
IsInForm depth ListWeight value = IsNumberWithin 1 MAX_LIST value
IsInForm depth Workers value = IsNumberWithin 1 MAX_WORKERS value
IsInForm depth Share value = IsNumberWithin 0 MAX_SHARE value
IsInForm depth StartSign value = IsStartWord value
IsInForm depth Make value = IsNumberWithin 0 MAX_SEED value

-- The setting is of the option.
abbrev pub is_of : OptionKind → Setting → Bool
is_of option setting = bytes_eq (long_name setting.option) (long_name option)

-- The value that the option is set to, if it is set.
abbrev pub value_of : OptionKind → List Setting → Option Word
value_of option settings = option_map (λ setting. setting.value) (find (is_of option) settings)

-- The number that the value writes, or the default where none is given.
abbrev pub number_or : ℕ → Option Word → ℕ
number_or default None = default
number_or default (Some word) = decimal_value word

-- The bound of depth that is given, or its default.
abbrev pub depth_or_default : Option Word → ℕ
depth_or_default = number_or DEFAULT_DEPTH

-- The words are these settings, each of another option.
pub record AreDistinctSettings (words : List Word) (settings : List Setting) : Type 0 where
  pub read : ReadsAs words settings
  pub once : AreDifferent settings

-- The words are these settings, each of another option, with a value in its form and range.
pub record AreSettings (words : List Word) (settings : List Setting) : Type 0 where
  pub distinct : AreDistinctSettings words settings
  pub in_form : All (λ setting. IsInForm (depth_or_default (value_of Depth settings)) setting.option setting.value) settings

-- The words after the first are the settings, whatever their values.
abbrev pub Distinguishes : List (String Global) → List Setting → Type 0
Distinguishes [] settings = ⊥
Distinguishes (program ∷ words) settings = AreDistinctSettings (map string_bytes words) settings

-- The number of a value in its range, or the default where none is given.
abbrev pub IsNumberOr : ℕ → ℕ → ℕ → Option Word → ℕ → Type 0
IsNumberOr low high default None number = number ≡ default
IsNumberOr low high default (Some word) number = IsNumberWithin low high word × (number ≡ decimal_value word)

-- A value is given, and it writes no number in the range.
abbrev pub IsOutside : ℕ → ℕ → Option Word → Type 0
IsOutside low high None = ⊥
IsOutside low high (Some word) = ¬ IsNumberWithin low high word

-- Each value that is given has the form and range of its option.
abbrev pub AreInForm : (OptionKind → Option Word) → Type 0
AreInForm values = (option : OptionKind) → IfSome (values option) (IsInForm (depth_or_default (values Depth)) option)
