-- Bundles of the program as contracts see them.
use Rattle.std.specs.Prelude.{◌≡◌, ◌⊎◌, ◌≤◌, ◌<◌, ◌+◌, ◌-◌, ℕ, true, false, List, [], ◌∷◌, ◌++◌, length, take, drop}
use Rattle.std.specs.List.{AllByRecursion, flat_map}
use Rattle.me_terms.specs.Sequences.{SequenceValue}
use Rattle.tptp_include.specs.Bundles.{lines_of, text_in, mark, is_marked, is_mark, is_file_name, BreaksAt}
use Rattle.tptp_include.specs.Files.{FileValue}
use Rattle.tptp_include.specs.declared.bundle.BundleError.{BundleError}
use Rattle.tptp_include.specs.declared.bundle.BundleError.TheVariants.{Line, Memory}

-- a name and the bytes of its file
abbrev pub entry_file : SequenceValue ℕ × SequenceValue ℕ → FileValue
entry_file e = record { name = e.0.items; bytes = e.1.items }

-- the first line has this text, and then comes what is behind it
pub record IsSplit (bytes text behind : List ℕ) : Type 0 where
  pub line : List ℕ
  pub lines : lines_of bytes ≡ line ∷ lines_of behind
  pub same : bytes ≡ line ++ behind
  pub text_is : text ≡ text_in line
  pub shorter : length behind < length bytes

-- the first of these lines, if there is one, begins a file
abbrev pub BeginsFile : List (List ℕ) → Type 0
BeginsFile [] = Unit {0}
BeginsFile (line ∷ lines) = is_mark line ≡ true

-- So many lines, of which none begins a file, stand before the next one that does, or before the end. Behind them comes this.
pub record IsBody (bytes behind : List ℕ) (count : ℕ) : Type 0 where
  pub body : List (List ℕ)
  pub lines : lines_of bytes ≡ body ++ lines_of behind
  pub same : bytes ≡ flat_map (λ line. line) body ++ behind
  pub none : AllByRecursion (λ line. is_mark line ≡ false) body
  pub next : BeginsFile (lines_of behind)
  pub long : count ≡ length body
  pub few : count + length behind ≤ length bytes

-- The bytes begin with a file of this name and these contents, which takes so many lines. Behind it comes this.
pub record IsFirstFile (bytes name contents next : List ℕ) (lines : ℕ) : Type 0 where
  pub text : List ℕ
  pub behind : List ℕ
  pub split : IsSplit bytes text behind
  pub marked : is_marked text ≡ true
  pub name_is : name ≡ drop (length mark) text
  pub named : is_file_name name ≡ true
  pub count : ℕ
  pub body : IsBody behind next count
  pub contents_are : contents ≡ take (length behind - length next) behind
  pub lines_are : lines ≡ count + 1

-- The first line begins no file, or one whose name may be none.
pub record BeginsNoFile (bytes : List ℕ) : Type 0 where
  pub text : List ℕ
  pub behind : List ℕ
  pub split : IsSplit bytes text behind
  pub none : (is_marked text ≡ false) ⊎ ((is_marked text ≡ true) × (is_file_name (drop (length mark) text) ≡ false))

-- The error is the cause. Want of memory is free.
abbrev pub IsBundleCause : List ℕ → BundleError → Type 0
IsBundleCause bytes (Line number) = BreaksAt bytes number
IsBundleCause bytes Memory = Unit {0}
