-- What the lines of a printed answer say of the answer.
use Rattle.std.specs.Prelude.{◌≡◌, ◌⊎◌, ◌≤◌, ◌<◌, ℕ, zero, suc, ◌-◌, ◌^◌, Bool, true, false, List, [], ◌∷◌, ◌++◌, slice_get, Some}
use Rattle.std.specs.List.{AllByRecursion}
use Rattle.me_terms.specs.Measures.{literal_depth}
use Rattle.me_terms.specs.Context.{Context, IsVisible}
use Rattle.me_terms.specs.Terms.{AtomValue}
use Rattle.me_terms.specs.declared.atom.Pattern.{Pattern}
use Rattle.me_terms.specs.declared.atom.Pattern.TheVariants.{Any, Of}
use Rattle.me_terms.specs.declared.bounds.Start.{Start}
use Rattle.me_terms.specs.declared.bounds.Start.TheVariants.{Negative, Positive}
use Rattle.szs_print.specs.SummaryText.{IsShown}
use Rattle.szs_read.specs.declared.claim.EntryLine.{EntryLine}
use Rattle.me_terms.specs.Values.{EntryValue, ClauseValue, InstanceValue, ProblemValue}
use Rattle.me_terms.specs.Variables.{variables_of}
use Rattle.me_terms.specs.declared.atom.Literal.{Literal}
use Rattle.tptp_grammar.specs.declared.limits.TheConstants.{MAX_FORMULAS}
use Rattle.szs_read.specs.Values.{InstanceLineValue}
use Rattle.szs_read.specs.declared.claim.TheConstants.{MAX_OPEN}

-- The line has the instance's literals, and the number and the label of its clause.
abbrev pub IsLineOf : ProblemValue → InstanceValue → InstanceLineValue → Type 0
IsLineOf problem i line =
    (clause : ClauseValue) × (slice_get problem.clauses i.clause ≡ Some clause) × (line ≡ record { number = clause.number; label = clause.label; literals = i.literals })

-- One line for each instance, in order.
abbrev pub AreLinesOf : ProblemValue → List InstanceValue → List InstanceLineValue → Type 0
AreLinesOf problem [] lines = lines ≡ []
AreLinesOf problem (i ∷ list) lines =
    (line : InstanceLineValue) × (rest : List InstanceLineValue) × (lines ≡ line ∷ rest) × IsLineOf problem i line × AreLinesOf problem list rest

-- The formula's number is one that an answer can name.
abbrev pub IsNumbered : ClauseValue → Type 0
IsNumbered clause = (1 ≤ clause.number) × (clause.number ≤ MAX_FORMULAS)

-- The variables have 32 bits, as all in memory have, and no more brackets are open than a line may have.
abbrev pub IsPrinted : Literal → Type 0
IsPrinted l = AllByRecursion (λ x. x < 2 ^ 32) (variables_of l.atom.args) × (literal_depth l ≤ MAX_OPEN - 1)

-- The line has the literal and the kind of the visible entry at position k.
abbrev pub IsEntryLineOf : Context → ℕ → EntryLine → Type 0
IsEntryLineOf context k line =
    (e : EntryValue) × (a : AtomValue) × IsVisible context k e × (e.atom ≡ Of a) × (line ≡ record { at = k; literal = record { positive = e.positive; atom = a }; kind = e.kind })

-- One line for each visible literal at the first n positions, in order.
abbrev pub AreEntryLinesOf : Context → ℕ → List EntryLine → Type 0
AreEntryLinesOf context zero lines = lines ≡ []
AreEntryLinesOf context (suc n) lines =
    (before : List EntryLine) × AreEntryLinesOf context n before × (((line : EntryLine) × IsEntryLineOf context n line × (lines ≡ before ++ line ∷ [])) ⊎ ((IsShown context n → ⊥) × (lines ≡ before)))

-- The start whose pseudo-literal has this sign.
abbrev pub start_of : Bool → Start
start_of true = Positive
start_of false = Negative

abbrev pub IsPrintedPattern : Pattern → Type 0
IsPrintedPattern Any = Unit {0}
IsPrintedPattern (Of a) = IsPrinted (record { positive = true; atom = a })
