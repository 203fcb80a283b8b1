-- Files by their names.
use Rattle.std.specs.Prelude.{◌≤◌, ℕ, List, [], ◌∷◌, length, Option, Some, None, if◌then◌else◌}
use Rattle.std.specs.Str.{bytes_eq}
use Rattle.me_io.specs.declared.source.TheConstants.{MAX_BYTES}

pub record FileValue : Type 0 where
  pub name : List ℕ
  pub bytes : List ℕ

-- the bytes of the first file of that name, if there is one
abbrev pub bytes_named : List FileValue → List ℕ → Option (List ℕ)
bytes_named [] name = None
bytes_named (file ∷ files) name = if bytes_eq name file.name then Some file.bytes else bytes_named files name

-- no file is longer than a file may be
abbrev pub AreSmall : List FileValue → Type 0
AreSmall [] = Unit {0}
AreSmall (file ∷ files) = (length file.bytes ≤ MAX_BYTES) × AreSmall files

-- the name of the first file, which is the main one
abbrev pub main_name : List FileValue → List ℕ
main_name [] = []
main_name (file ∷ files) = file.name
