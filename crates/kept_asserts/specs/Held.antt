-- Asserts that are kept, and entries that stand against literals.
use Rattle.std.specs.Prelude.{◌≡◌, ℕ, ◌+◌, not, List, length, Option, Some, None}
use Rattle.me_terms.specs.Values.{ProblemValue, EntryValue}
use Rattle.me_terms.specs.Context.{Context, IsVisible}
use Rattle.me_terms.specs.Assert.{IsAssert}
use Rattle.me_terms.specs.Order.{kind_rank, pattern_weight, assert_key}
use Rattle.me_terms.specs.declared.bounds.Bounds.{Bounds}
use Rattle.me_terms.specs.declared.atom.Literal.{Literal}
use Rattle.candidate_keys.specs.Keys.{AssertKeyValue, assert_code, HasCode}

-- All Asserts of the context are among the keys.
abbrev pub HoldsAsserts : ProblemValue → Bounds → Context → List AssertKeyValue → Type 0
HoldsAsserts problem bounds context keys =
    (c place : ℕ) (tuple : List ℕ) (e : EntryValue) → IsAssert problem bounds context c place tuple e → HasCode keys (assert_key c place tuple e)

-- The entry is that of the key's Assert, of its kind and weight.
pub record IsAssertOf (problem : ProblemValue) (bounds : Bounds) (context : Context) (key : AssertKeyValue) (e : EntryValue) : Type 0 where
  pub assert : IsAssert problem bounds context key.clause key.place key.tuple e
  pub same : assert_key key.clause key.place key.tuple e ≡ assert_code key

-- At position k a visible entry of the opposite sign stands.
abbrev pub OpposesAt : Context → ℕ → Literal → Type 0
OpposesAt context k l = (e : EntryValue) × IsVisible context k e × (e.positive ≡ not l.positive)

-- The same where a position stands; where none does, nothing is asked.
abbrev pub OpposesWhere : Context → Option (Option ℕ) → Literal → Type 0
OpposesWhere context at l = (k : ℕ) → at ≡ Some (Some k) → OpposesAt context k l

-- The entry has the key's kind and weight.
abbrev pub HasRank : AssertKeyValue → EntryValue → Type 0
HasRank key e = (kind_rank e.kind ≡ kind_rank key.kind) × (pattern_weight e.atom ≡ key.weight)

-- At how many places of a clause the positions of a tuple stand, the skipped place counted.
abbrev pub position_count : Option ℕ → List ℕ → ℕ
position_count None positions = length positions
position_count (Some skip) positions = length positions + 1
