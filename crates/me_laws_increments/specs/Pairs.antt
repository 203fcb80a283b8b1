-- At each place of a candidate stands an entry that unifies with the literal there, and what a Close or an Assert uses is not the pseudo-literal.
use Rattle.std.specs.Prelude.{◌≡◌, ℕ, ◌+◌, ◌<◌, not, List, Option, slice_get, Some, IsTrue}
use Rattle.std.specs.List.{Contains}
use Rattle.me_terms.specs.Variables.{are_ground}
use Rattle.me_terms.specs.Substitutions.{Family}
use Rattle.me_terms.specs.Values.{ProblemValue, ClauseValue, EntryValue}
use Rattle.me_terms.specs.Context.{Context, IsContext, IsVisible}
use Rattle.me_terms.specs.Contradictory.{Unifiable}
use Rattle.me_terms.specs.Positions.{ClauseAt, StandsAgainst}
use Rattle.me_terms.specs.Unifier.{Solves}
use Rattle.me_terms.specs.Remainder.{is_remaining}
use Rattle.me_terms.specs.Productive.{IsProductiveUnifier}
use Rattle.me_terms.specs.Close.{IsClose}
use Rattle.me_terms.specs.Assert.{is_universal, IsAssert}
use Rattle.me_terms.specs.declared.bounds.Bounds.{Bounds}
use Rattle.me_terms.specs.declared.atom.Literal.{Literal}
use Rattle.me_terms.specs.declared.atom.Pattern.TheVariants.{Of}

-- The entry has the opposite sign and unifies with the literal, renamed apart.
abbrev pub IsPair : EntryValue → Literal → Type 0
IsPair e l = (e.positive ≡ not l.positive) × Unifiable e.atom (Of l.atom)

-- A visible entry pairs with the literal.
abbrev pub HasPair : Context → Literal → Type 0
HasPair context l = (k : ℕ) × (e : EntryValue) × IsVisible context k e × IsPair e l

-- A visible entry other than the pseudo-literal pairs with the literal.
abbrev pub HasLiteralPair : Context → Literal → Type 0
HasLiteralPair context l = (k : ℕ) × (e : EntryValue) × (0 < k) × IsVisible context k e × IsPair e l

-- No Close uses the pseudo-literal.
abbrev pub CloseUsesLiterals : Type 0
CloseUsesLiterals = (problem : ProblemValue) (context : Context) (c : ℕ) (tuple : List ℕ) → IsContext context → IsClose problem context c tuple → ¬ Contains tuple 0

-- No Assert uses the pseudo-literal.
abbrev pub AssertUsesLiterals : Type 0
AssertUsesLiterals = (problem : ProblemValue) (bounds : Bounds) (context : Context) (c place : ℕ) (tuple : List ℕ) (e : EntryValue) → IsContext context → IsAssert problem bounds context c place tuple e → ¬ Contains tuple 0

-- Each literal of a clause with a productive unifier has a pair.
abbrev pub ProductiveNeedsPairs : Type 0
ProductiveNeedsPairs = (problem : ProblemValue) (context : Context) (c : ℕ) (tuple : List ℕ) (clause : ClauseValue) (family : Family) (i : ℕ) (l : Literal) → IsProductiveUnifier problem context c tuple clause family → slice_get clause.literals i ≡ Some l → HasPair context l

-- Each literal of a clause that closes has a pair other than the pseudo-literal.
abbrev pub CloseNeedsPairs : Type 0
CloseNeedsPairs = (problem : ProblemValue) (context : Context) (c : ℕ) (tuple : List ℕ) (clause : ClauseValue) (i : ℕ) (l : Literal) → IsContext context → IsClose problem context c tuple → ClauseAt problem c clause → slice_get clause.literals i ≡ Some l → HasLiteralPair context l

-- Each literal of a clause that asserts, but that at the place of the Assert, has a pair other than the pseudo-literal.
abbrev pub AssertNeedsPairs : Type 0
AssertNeedsPairs = (problem : ProblemValue) (bounds : Bounds) (context : Context) (c place : ℕ) (tuple : List ℕ) (e : EntryValue) (clause : ClauseValue) (i : ℕ) (l : Literal) → IsContext context → IsAssert problem bounds context c place tuple e → ClauseAt problem c clause → slice_get clause.literals i ≡ Some l → ¬ (i ≡ place) → HasLiteralPair context l

-- An entry that is set against a ground literal remains under each solution exactly where it is Parametric.
abbrev pub GroundPlacesByKind : Type 0
GroundPlacesByKind = (context : Context) (literals : List Literal) (positions : List (Option ℕ)) (u : Family) (i k : ℕ) (l : Literal) (e : EntryValue) → IsContext context → Solves context literals positions u → StandsAgainst context literals positions i l k e → IsTrue (are_ground l.atom.args) → is_remaining e.kind e.atom (u (i + 1)) ≡ not (is_universal e.kind)
