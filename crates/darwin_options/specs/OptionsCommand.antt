-- The command whose arguments are the options, and what a parse by it finds.
use Rattle.std.specs.Prelude.{◌≡◌, ◌==◌, ◌&&◌, not, Bool, true, false, List, [], ◌∷◌, map, codes, Option, Some}
use Rattle.std.specs.Global.{Global}
use Rattle.std.specs.declared.string.String.{String}
use Rattle.darwin_options.specs.Settings.{OptionKind, Name, Depth, From, Weight, Literals, ListWeight, Workers, Share, StartSign, Make, Word, Setting, long_name, value_of, Distinguishes}
use Rattle.std.specs.List.{list_any}
use Rattle.std.specs.String.{string_bytes}
use Rattle.clap.specs.Lexer.{is_long_word}
use Rattle.clap.specs.Matches.{first_value, found_of}
use Rattle.clap.specs.Walk.{Rule}
use Rattle.clap.specs.Simple.{App, new_app, new_rule, on_top}
use Rattle.clap.specs.declared.parser.matches.ArgMatches.{ArgMatches}
use Rattle.clap.specs.declared.builder.action.ArgAction.TheVariants.{Set}

-- All options.
abbrev pub all_options : List OptionKind
all_options = Name ∷ Depth ∷ From ∷ Weight ∷ Literals ∷ ListWeight ∷ Workers ∷ Share ∷ StartSign ∷ Make ∷ []

-- The argument of an option: its long name with one value.
abbrev pub rule_of_option : OptionKind → Rule
rule_of_option option = record (new_rule (long_name option)) { long = Some (long_name option); action = Some Set }

-- The command whose arguments are the options, and no other.
abbrev pub options_app : App
options_app = on_top (λ s. record s { rules = map rule_of_option all_options; disable_help_flag = true }) (new_app (codes "darwin"))

-- The value that was found for the option.
abbrev pub value_found : ArgMatches → OptionKind → Option Word
value_found matches option = first_value (found_of matches) (long_name option)

-- The matches hold the value of each option that is set, and no other.
abbrev pub HoldsValuesOf : List Setting → ArgMatches → Type 0
HoldsValuesOf settings matches = (option : OptionKind) → value_found matches option ≡ value_of option settings

-- The words are settings of different options, and the matches hold their values.
abbrev pub IsFoundIn : List (String Global) → ArgMatches → Type 0
IsFoundIn words matches = (settings : List Setting) × Distinguishes words settings × HoldsValuesOf settings matches

-- The words are no settings of different options.
abbrev pub AreNoSettings : List (String Global) → Type 0
AreNoSettings words = (settings : List Setting) → ¬ Distinguishes words settings

-- The word begins with a hyphen.
abbrev pub begins_with_hyphen : Word → Bool
begins_with_hyphen [] = false
begins_with_hyphen (byte ∷ bytes) = byte == 45

-- The word begins with a hyphen, and is not two of them with more.
abbrev pub is_bare : Word → Bool
is_bare word = begins_with_hyphen word && not (is_long_word word)

-- There is a first word, and none of those that follow it is bare.
abbrev pub is_readable : List (String Global) → Bool
is_readable [] = false
is_readable (program ∷ words) = not (list_any (λ word. is_bare (string_bytes word)) words)
