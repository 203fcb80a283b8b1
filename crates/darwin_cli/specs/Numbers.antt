-- The numbers that the program's promises rest on, which code, contracts and definitions have by name.
use Rattle.std.specs.Prelude.{◌≡◌}
use Rattle.me_terms.specs.declared.bounds.TheConstants.{MAX_DEPTH, MAX_WEIGHT, MAX_ENTRIES, MAX_LIST}
use Rattle.me_io.specs.declared.source.TheConstants.{MAX_BYTES}
use Rattle.tptp_grammar.specs.declared.limits.TheConstants.{MAX_FORMULAS, MAX_LITERALS, MAX_VARIABLES, MAX_ARGUMENTS, MAX_BRACKETS}
use Rattle.szs_print.specs.declared.answer.TheConstants.{MAX_NAME_BYTES}
use Rattle.darwin_options.specs.declared.options.TheConstants.{DEFAULT_DEPTH, DEFAULT_WEIGHT, DEFAULT_ENTRIES, DEFAULT_LIST, MAX_WORKERS, DEFAULT_WORKERS, MAX_SHARE, DEFAULT_SHARE, MAX_SEED, MAX_DIGITS}
use Rattle.darwin_cli.specs.declared.answer.TheConstants.{MADE_PREDICATES, MADE_CLAUSES}

-- The limits of a file.
pub record AreFileLimits : Type 0 where
  pub bytes : MAX_BYTES ≡ 67108864
  pub formulas : MAX_FORMULAS ≡ 1048576
  pub literals : MAX_LITERALS ≡ 4096
  pub variables : MAX_VARIABLES ≡ 1024
  pub arguments : MAX_ARGUMENTS ≡ 64
  pub brackets : MAX_BRACKETS ≡ 250

-- The greatest value of each option.
pub record AreGreatestValues : Type 0 where
  pub name_bytes : MAX_NAME_BYTES ≡ 200
  pub depth : MAX_DEPTH ≡ 64
  pub weight : MAX_WEIGHT ≡ 100000
  pub entries : MAX_ENTRIES ≡ 65535
  pub list : MAX_LIST ≡ 50000000
  pub workers : MAX_WORKERS ≡ 64
  pub share : MAX_SHARE ≡ 16
  pub seed : MAX_SEED ≡ 1000000000
  pub digits : MAX_DIGITS ≡ 18

-- The value of each option that is not given.
pub record AreDefaults : Type 0 where
  pub depth : DEFAULT_DEPTH ≡ 6
  pub weight : DEFAULT_WEIGHT ≡ 1000
  pub entries : DEFAULT_ENTRIES ≡ 2000
  pub list : DEFAULT_LIST ≡ 10000000
  pub workers : DEFAULT_WORKERS ≡ 1
  pub share : DEFAULT_SHARE ≡ 6

-- The size of a made problem.
pub record IsMadeSize : Type 0 where
  pub predicates : MADE_PREDICATES ≡ 30
  pub clauses : MADE_CLAUSES ≡ 100
