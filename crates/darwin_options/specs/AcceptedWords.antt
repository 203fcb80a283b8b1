-- Which words are accepted, and the options that they ask for.
use Rattle.std.specs.Prelude.{◌≡◌, ℕ, List, [], ◌∷◌, map, codes, Option, Some, None}
use Rattle.std.specs.String.{string_bytes}
use Rattle.std.specs.Global.{Global}
use Rattle.std.specs.declared.string.String.{String}
use Rattle.darwin_options.specs.Settings.{OptionKind, Name, Depth, From, Weight, Literals, ListWeight, Workers, Share, StartSign, Make, Word, Setting, AreSettings, IsNumberWithin, IsNumberOr, decimal_value, start_word, IsStartWord, value_of}
use Rattle.szs_print.specs.Printable.{IsName}
use Rattle.me_terms.specs.declared.bounds.Bounds.{Bounds}
use Rattle.me_terms.specs.declared.bounds.Start.{Start}
use Rattle.me_terms.specs.declared.bounds.Start.TheVariants.{Negative}
use Rattle.me_terms.specs.declared.bounds.TheConstants.{MAX_DEPTH, MAX_WEIGHT, MAX_ENTRIES, MAX_LIST}
use Rattle.darwin_options.specs.declared.options.TheConstants.{DEFAULT_DEPTH, DEFAULT_WEIGHT, DEFAULT_ENTRIES, DEFAULT_LIST, MAX_WORKERS, DEFAULT_WORKERS, MAX_SHARE, DEFAULT_SHARE, MAX_SEED}
use Rattle.darwin_options.specs.declared.options.Options.{Options}

-- There is a first word, the program's name, and those that follow it are the settings.
abbrev pub Sets : List (String Global) → List Setting → Type 0
Sets [] settings = ⊥
Sets (program ∷ words) settings = AreSettings (map string_bytes words) settings

-- The words are accepted: some settings are theirs.
abbrev pub AreAccepted : List (String Global) → Type 0
AreAccepted words = (settings : List Setting) × Sets words settings

-- The name that is given, or the default where none is.
abbrev pub IsNameOr : Option Word → Word → Type 0
IsNameOr None name = name ≡ codes "stdin"
IsNameOr (Some word) name = IsName word × (name ≡ word)

-- A value is given, and it is no name.
abbrev pub IsNoName : Option Word → Type 0
IsNoName None = ⊥
IsNoName (Some word) = ¬ IsName word

-- The seed that is given, or none where none is.
abbrev pub IsSeed : Option Word → Option ℕ → Type 0
IsSeed None seed = seed ≡ None
IsSeed (Some word) seed = IsNumberWithin 0 MAX_SEED word × (seed ≡ Some (decimal_value word))

-- The start that is given, or the negative one where none is.
abbrev pub IsStartOr : Option Word → Start → Type 0
IsStartOr None start = start ≡ Negative
IsStartOr (Some word) start = word ≡ start_word start

-- A value is given, and it names no start.
abbrev pub IsNoStart : Option Word → Type 0
IsNoStart None = ⊥
IsNoStart (Some word) = ¬ IsStartWord word

-- Each bound is the number of its value, and the start that of its word, or the default where none is given.
pub record AreBoundsOf (values : OptionKind → Option Word) (bounds : Bounds) : Type 0 where
  pub depth : IsNumberOr 1 MAX_DEPTH DEFAULT_DEPTH (values Depth) bounds.depth
  pub weight : IsNumberOr 1 MAX_WEIGHT DEFAULT_WEIGHT (values Weight) bounds.weight
  pub literals : IsNumberOr 1 MAX_ENTRIES DEFAULT_ENTRIES (values Literals) bounds.literals
  pub list : IsNumberOr 1 MAX_LIST DEFAULT_LIST (values ListWeight) bounds.list
  pub start : IsStartOr (values StartSign) bounds.start

-- Each field of the options is the value that is given for it, or its default where none is. The bound of depth that is tried first is at most the bound of depth, which is its default.
pub record AreOptionsOf (values : OptionKind → Option Word) (options : Options) : Type 0 where
  pub name : IsNameOr (values Name) options.name.items
  pub bounds : AreBoundsOf values options.bounds
  pub from : IsNumberOr 1 options.bounds.depth options.bounds.depth (values From) options.from
  pub workers : IsNumberOr 1 MAX_WORKERS DEFAULT_WORKERS (values Workers) options.workers
  pub share : IsNumberOr 0 MAX_SHARE DEFAULT_SHARE (values Share) options.share
  pub make : IsSeed (values Make) options.make

-- The words are accepted, and ask for these options.
abbrev pub Asks : List (String Global) → Options → Type 0
Asks words options = (settings : List Setting) × Sets words settings × AreOptionsOf (λ option. value_of option settings) options
