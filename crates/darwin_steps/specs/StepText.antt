-- The lines of a search: of each step, of a leaf and of a turn to the right.
use Rattle.std.specs.Prelude.{ℕ, suc, Bool, List, [], ◌∷◌, ◌++◌, codes, decimal, Some, None, Option, slice_get}
use Rattle.std.specs.List.{flat_map}
use Rattle.me_terms.specs.Terms.{AtomValue}
use Rattle.me_terms.specs.Values.{ProblemValue, SignatureValue, ClauseValue, EntryValue, ReasonValue, Pseudo, Asserted, SplitLeft, SplitRight}
use Rattle.me_terms.specs.Context.{Context}
use Rattle.me_terms.specs.Next.{NextValue, Close, Assert, Split, Exhausted, Bounded}
use Rattle.me_terms.specs.declared.bounds.Bound.{Bound}
use Rattle.me_terms.specs.declared.bounds.Bound.TheVariants.{Depth, Weight, Literals, List as ListBound}
use Rattle.me_terms.specs.declared.entry.Kind.{Kind}
use Rattle.me_terms.specs.declared.entry.Kind.TheVariants.{Universal, Parametric}
use Rattle.me_terms.specs.declared.atom.Literal.{Literal}
use Rattle.me_terms.specs.declared.atom.Pattern.{Pattern}
use Rattle.me_terms.specs.declared.atom.Pattern.TheVariants.{Any, Of}
use Rattle.cnf_text.specs.ClauseText.{literal_text}
use Rattle.branch_core.specs.Paths.{key}
use Rattle.branch_walk.specs.Jobs.{turns_taken}

-- A number, behind a comma.
abbrev pub comma_number : ℕ → List ℕ
comma_number n = codes "," ++ decimal n

-- Each behind a comma.
abbrev pub commas_text : List ℕ → List ℕ
commas_text ns = flat_map comma_number ns

-- Numbers in round brackets, with commas between them.
abbrev pub tuple_text : List ℕ → List ℕ
tuple_text [] = codes "()"
tuple_text (n ∷ ns) = codes "(" ++ decimal n ++ commas_text ns ++ codes ")"

abbrev pub number_text : Option ClauseValue → List ℕ
number_text None = []
number_text (Some clause) = decimal clause.number

-- The number that the clause at a place of the problem has in its file.
abbrev pub clause_text : ProblemValue → ℕ → List ℕ
clause_text problem c = codes "clause " ++ number_text (slice_get problem.clauses c)

abbrev pub kind_text : Kind → List ℕ
kind_text Universal = codes " universal"
kind_text Parametric = codes " parametric"

-- A literal of a kind at position k.
abbrev pub entry_text : SignatureValue → ℕ → Bool → AtomValue → Kind → List ℕ
entry_text signature k positive a kind =
    codes "e" ++ decimal k ++ codes " " ++ literal_text signature (record { positive = positive; atom = a }) ++ kind_text kind

-- An asserted entry has the clause and the place that it follows from, and the positions of the entries at the other places.
abbrev pub asserted_text : ProblemValue → ℕ → EntryValue → Pattern → ReasonValue → List ℕ
asserted_text problem k e (Of a) (Asserted c place tuple) =
    codes "assert " ++ entry_text problem.signature k e.positive a e.kind ++ codes " by " ++ clause_text problem c ++ codes " place " ++ decimal (suc place) ++ codes " at " ++ tuple_text tuple ++ codes "\n"
asserted_text problem k e Any why = []
asserted_text problem k e (Of a) Pseudo = []
asserted_text problem k e (Of a) SplitLeft = []
asserted_text problem k e (Of a) SplitRight = []

abbrev pub assert_text : ProblemValue → ℕ → EntryValue → List ℕ
assert_text problem k e = asserted_text problem k e e.atom e.reason

abbrev pub split_text : SignatureValue → ℕ → Literal → Kind → List ℕ
split_text signature k l kind = codes "split " ++ entry_text signature k l.positive l.atom kind ++ codes "\n"

abbrev pub close_text : ProblemValue → ℕ → List ℕ → List ℕ
close_text problem c tuple = codes "close by " ++ clause_text problem c ++ codes " at " ++ tuple_text tuple ++ codes "\n"

abbrev pub bound_text : Bound → List ℕ
bound_text Depth = codes "bounded by depth\n"
bound_text Weight = codes "bounded by weight\n"
bound_text Literals = codes "bounded by literals\n"
bound_text ListBound = codes "bounded by list\n"

-- The line of a next step, where what it adds gets position k.
abbrev pub step_text : ProblemValue → ℕ → NextValue → List ℕ
step_text problem k (Close c tuple) = close_text problem c tuple
step_text problem k (Assert e) = assert_text problem k e
step_text problem k (Split l kind) = split_text problem.signature k l kind
step_text problem k Exhausted = codes "exhausted\n"
step_text problem k (Bounded b) = bound_text b

-- The line of the key of a branch's leaf.
abbrev pub key_text : Context → List ℕ
key_text context = codes "key " ++ decimal (key (turns_taken context)) ++ codes "\n"

-- The line of a pattern at position k that begins a right branch. The pseudo-atom begins none.
abbrev pub turned_text : SignatureValue → ℕ → Bool → Pattern → Kind → List ℕ
turned_text signature k positive Any kind = []
turned_text signature k positive (Of a) kind = codes "right " ++ entry_text signature k positive a kind ++ codes "\n"

-- The line of an entry at position k that begins a right branch.
abbrev pub right_text : SignatureValue → ℕ → EntryValue → List ℕ
right_text signature k e = turned_text signature k e.positive e.atom e.kind
