-- Files in one text: each behind a line that begins with the mark and ends with the file's name.
use Rattle.std.specs.Prelude.{◌≡◌, ◌≢◌, ◌⊎◌, ℕ, suc, Bool, true, false, not, ◌&&◌, ◌||◌, ◌==◌, nat_le, List, [], ◌∷◌, ◌++◌, length, map, take, drop, filter, codes, if◌then◌else◌}
use Rattle.std.specs.List.{list_any, list_all, flat_map}
use Rattle.std.specs.Str.{bytes_eq}
use Rattle.tptp_include.specs.Files.{FileValue}
use Rattle.tptp_include.specs.declared.limits.TheConstants.{MAX_FILE_NAME}

abbrev pub is_feed : ℕ → Bool
is_feed byte = byte == 10

-- a byte at the front of the first of these lines
abbrev pub onto : ℕ → List (List ℕ) → List (List ℕ)
onto byte [] = (byte ∷ []) ∷ []
onto byte (line ∷ lines) = (byte ∷ line) ∷ lines

-- The lines of bytes. A line ends with its line feed, or, a last one that isn't empty, with the last byte.
abbrev pub lines_of : List ℕ → List (List ℕ)
lines_of [] = []
lines_of (byte ∷ bytes) = if is_feed byte then (byte ∷ []) ∷ lines_of bytes else onto byte (lines_of bytes)

abbrev pub mark : List ℕ
mark = codes "% FILE "

-- what stands before the first line feed
abbrev pub text_in : List ℕ → List ℕ
text_in [] = []
text_in (byte ∷ bytes) = if is_feed byte then [] else byte ∷ text_in bytes

-- whether the text of a line begins a file
abbrev pub is_marked : List ℕ → Bool
is_marked text = bytes_eq (take (length mark) text) mark

-- whether a line begins a file
abbrev pub is_mark : List ℕ → Bool
is_mark line = is_marked (text_in line)

-- the name of the file that a line begins
abbrev pub name_in : List ℕ → List ℕ
name_in line = drop (length mark) (text_in line)

abbrev pub is_name_byte : ℕ → Bool
is_name_byte byte = nat_le 33 byte && nat_le byte 126

-- whether the bytes may be the name of a file
abbrev pub is_file_name : List ℕ → Bool
is_file_name name = nat_le 1 (length name) && nat_le (length name) MAX_FILE_NAME && list_all is_name_byte name

-- the names of the files that these lines begin
abbrev pub names_in : List (List ℕ) → List (List ℕ)
names_in lines = map name_in (filter is_mark lines)

abbrev pub is_none : List (List ℕ) → Bool
is_none [] = true
is_none (line ∷ lines) = false

-- Whether a line behind these breaks the rules: it is the first one and begins no file, or it begins a file whose name may be none, or is that of a file before.
abbrev pub breaks : List (List ℕ) → List ℕ → Bool
breaks before line = if is_mark line then not (is_file_name (name_in line)) || list_any (bytes_eq (name_in line)) (names_in before) else is_none before

-- no line breaks the rules
abbrev pub KeepRules : List (List ℕ) → Type 0
KeepRules lines = (before after : List (List ℕ)) (line : List ℕ) → lines ≡ before ++ line ∷ after → breaks before line ≡ false

-- the lines before the first one that begins a file
abbrev pub unmarked : List (List ℕ) → List (List ℕ)
unmarked [] = []
unmarked (line ∷ lines) = if is_mark line then [] else line ∷ unmarked lines

-- the files: the bytes of each are the lines up to the next one that begins a file
abbrev pub files_of : List (List ℕ) → List FileValue
files_of [] = []
files_of (line ∷ lines) = if is_mark line then record { name = name_in line; bytes = flat_map (λ l. l) (unmarked lines) } ∷ files_of lines else files_of lines

-- The bytes are a bundle of these files. There is at least one line.
pub record IsBundle (bytes : List ℕ) (files : List FileValue) : Type 0 where
  pub some : bytes ≢ []
  pub kept : KeepRules (lines_of bytes)
  pub files_are : files ≡ files_of (lines_of bytes)

-- the line of this number, from 1, is the first one that breaks the rules
pub record IsFirstBroken (bytes : List ℕ) (number : ℕ) : Type 0 where
  pub before : List (List ℕ)
  pub line : List ℕ
  pub after : List (List ℕ)
  pub lines : lines_of bytes ≡ before ++ line ∷ after
  pub kept : KeepRules before
  pub broken : breaks before line ≡ true
  pub place : number ≡ suc (length before)

-- The bytes break the rules of a bundle first in the line of this number. No bytes break them in the first one.
abbrev pub BreaksAt : List ℕ → ℕ → Type 0
BreaksAt bytes number = ((bytes ≡ []) × (number ≡ 1)) ⊎ IsFirstBroken bytes number
