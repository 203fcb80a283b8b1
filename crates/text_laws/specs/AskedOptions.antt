-- The options that words ask for are determined.
use Rattle.std.specs.Prelude.{◌≡◌, List}
use Rattle.std.specs.Global.{Global}
use Rattle.std.specs.declared.string.String.{String}
use Rattle.darwin_options.specs.Settings.{Word, Setting, ReadsAs}
use Rattle.darwin_options.specs.AcceptedWords.{Asks}
use Rattle.darwin_options.specs.declared.options.Options.{Options}

-- The options have the same name, bounds, first depth and seed, so they ask for the same answer.
pub record AskAlike (options other : Options) : Type 0 where
  pub name : options.name.items ≡ other.name.items
  pub bounds : options.bounds ≡ other.bounds
  pub from : options.from ≡ other.from
  pub make : options.make ≡ other.make

-- The options are the same in every field, whatever room the name has left in memory.
pub record AreSame (options other : Options) : Type 0 where
  pub alike : AskAlike options other
  pub workers : options.workers ≡ other.workers
  pub share : options.share ≡ other.share

-- Words read as one list of settings.
abbrev pub SettingsAreDetermined : Type 0
SettingsAreDetermined = (words : List Word) (settings others : List Setting) → ReadsAs words settings → ReadsAs words others → settings ≡ others

-- Words ask for one list of options.
abbrev pub OptionsAreDetermined : Type 0
OptionsAreDetermined = (words : List (String Global)) (options other : Options) → Asks words options → Asks words other → AreSame options other
