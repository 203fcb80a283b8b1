-- What the tests of validity say.
use Rattle.std.proofs.Common.{◌≡◌, ◌≢◌, ℕ, zero, suc, ◌+◌, ◌-◌, ◌^◌, ◌<◌, ◌≤◌, Bool, true, false, ◌&&◌, eqb, ltb, List, [], ◌∷◌, ◌++◌, length, drop, slice_get, Option, Some, None, is_some, refl, ap, ◌∙◌, arith}
use Rattle.std.specs.Prelude.{◌↔◌, IsTrue, nat_lt, if◌then◌else◌}
use Rattle.std.proofs.lemmas.Bool.{eqb-true, ltb-true}
use Rattle.std.proofs.lemmas.Bool.Decides.{nat_tests}
use Rattle.std.proofs.lemmas.List.Elements.{All-nil, All-cons, All-head, All-tail}
use Rattle.std.specs.List.{All, list_all}
use Rattle.me_terms.specs.Labels.{is_printable, is_digit, IsReadableAs, IsReadable, IsClauseLabel, IsFunctionForm, IsFunctionSymbol, IsPredicateSymbol}
use Rattle.me_terms.specs.Signatures.{takes, is_known, are_known, is_known_atom}
use Rattle.me_terms.proofs.Numbered.{drop_at}
use Rattle.std.proofs.lemmas.List.{drop_all}
use Rattle.me_terms.specs.Terms.{TermValue, arguments_of}
use Rattle.me_terms.specs.TermEqualityLaws.{both_parts}
use Rattle.me_terms.specs.Validity.{clause_variables, IsValidClause, IsValid}
use Rattle.problem_checks.specs.ValidityTests as tests
use Rattle.problem_checks.specs.ValidityTests.{numbered_on}
use Rattle.me_terms.specs.Values.{LabelValue, SymbolValue, SignatureValue, ClauseValue, ProblemValue}
use Rattle.me_terms.specs.Variables.{is_numbered_from, count}
use Rattle.me_terms.specs.declared.symbol.Form.{Form}
use Rattle.me_terms.specs.declared.symbol.Form.TheVariants.{Word, Distinct, Number}

pub count_is : (items : List TermValue) → count (arguments_of items) ≡ length items
count_is [] = refl
count_is (x ∷ xs) = omega (arith, count_is xs)

-- ---- numbers of variables

-- the tests that a variable passes, by their values
abbrev on_by : Bool → Bool → ℕ → List ℕ → Option ℕ
on_by below same n xs = if below then numbered_on n xs else (if same then numbered_on (n + 1) xs else None)

abbrev from_by : Bool → Bool → ℕ → List ℕ → Bool
from_by below same n xs = if below then is_numbered_from n xs else (same && is_numbered_from (n + 1) xs)

test_by : (below same : Bool) (xs : List ℕ) (n : ℕ) → ((k : ℕ) → is_some (numbered_on k xs) ≡ is_numbered_from k xs) → is_some (on_by below same n xs) ≡ from_by below same n xs
test_by true same xs n rest = rest n
test_by false true xs n rest = rest (n + 1)
test_by false false xs n rest = refl

pub numbered_test : (xs : List ℕ) (n : ℕ) → is_some (numbered_on n xs) ≡ is_numbered_from n xs
numbered_test [] n = refl
numbered_test (x ∷ xs) n = test_by (ltb x n) (eqb x n) xs n (numbered_test xs)

some_by : (below same : Bool) (xs ys : List ℕ) (n m : ℕ) → ((k : ℕ) → numbered_on k xs ≡ Some m → numbered_on k (xs ++ ys) ≡ numbered_on m ys) → on_by below same n xs ≡ Some m → on_by below same n (xs ++ ys) ≡ numbered_on m ys
some_by true same xs ys n m rest e = rest n e
some_by false true xs ys n m rest e = rest (n + 1) e
some_by false false xs ys n m rest e = absurd cc

pub numbered_some : (xs ys : List ℕ) (n m : ℕ) → numbered_on n xs ≡ Some m → numbered_on n (xs ++ ys) ≡ numbered_on m ys
numbered_some [] ys n m e = let same : n ≡ m = cc in ap (λ (k : ℕ). numbered_on k ys) same
numbered_some (x ∷ xs) ys n m e = some_by (ltb x n) (eqb x n) xs ys n m (λ k h. numbered_some xs ys k m h) e

none_by : (below same : Bool) (xs ys : List ℕ) (n : ℕ) → ((k : ℕ) → numbered_on k xs ≡ None → numbered_on k (xs ++ ys) ≡ None) → on_by below same n xs ≡ None → on_by below same n (xs ++ ys) ≡ None
none_by true same xs ys n rest e = rest n e
none_by false true xs ys n rest e = rest (n + 1) e
none_by false false xs ys n rest e = refl

pub numbered_none : (xs ys : List ℕ) (n : ℕ) → numbered_on n xs ≡ None → numbered_on n (xs ++ ys) ≡ None
numbered_none [] ys n e = absurd cc
numbered_none (x ∷ xs) ys n e = none_by (ltb x n) (eqb x n) xs ys n (λ k h. numbered_none xs ys k h) e

-- ---- terms over a signature

module _ (signature : SignatureValue) (items : List TermValue) (i : ℕ) (x : TermValue) where
  known_split : slice_get items i ≡ Some x → are_known signature (arguments_of (drop i items)) ≡ (is_known signature x && are_known signature (arguments_of (drop (i + 1) items)))
  known_split found = ap (λ (xs : List TermValue). are_known signature (arguments_of xs)) (drop_at items i x found)

  pub known_here : slice_get items i ≡ Some x → is_known signature x ≡ true → are_known signature (arguments_of (drop i items)) ≡ are_known signature (arguments_of (drop (i + 1) items))
  known_here found e = known_split found ∙ ap (λ (b : Bool). b && are_known signature (arguments_of (drop (i + 1) items))) e

  pub unknown_here : slice_get items i ≡ Some x → is_known signature x ≡ false → are_known signature (arguments_of (drop i items)) ≡ false
  unknown_here found e = known_split found ∙ ap (λ (b : Bool). b && are_known signature (arguments_of (drop (i + 1) items))) e

pub known_all : (signature : SignatureValue) (items : List TermValue) (i : ℕ) → length items ≤ i → are_known signature (arguments_of (drop i items)) ≡ true
known_all signature items i past = ap (λ (xs : List TermValue). are_known signature (arguments_of xs)) (drop_all i items past)

-- ---- symbols one by one

module _ (p : SymbolValue → Bool) where
  here : (symbols : List SymbolValue) (i : ℕ) (s : SymbolValue) → slice_get symbols i ≡ Some s → drop i symbols ≡ s ∷ drop (suc i) symbols
  here [] i s e = absurd cc
  here (x ∷ xs) zero s e = cc
  here (x ∷ xs) (suc i) s e = here xs i s e

  there : (symbols : List SymbolValue) (i : ℕ) → i < length symbols → slice_get symbols i ≡ None → ⊥
  there [] i lt e = omega (arith, lt)
  there (x ∷ xs) zero lt e = cc
  there (x ∷ xs) (suc i) lt e = there xs i (omega (arith, lt)) e

  by_option : (symbols : List SymbolValue) (i : ℕ) (o : Option SymbolValue) → i < length symbols → slice_get symbols i ≡ o → list_all p (drop i symbols) ≡ (tests.has p o && list_all p (drop (suc i) symbols))
  by_option symbols i None lt e = absurd (there symbols i lt e)
  by_option symbols i (Some s) lt e = ap (list_all p) (here symbols i s e)

  all_left : (symbols : List SymbolValue) (i : ℕ) → i < length symbols → list_all p (drop i symbols) ≡ (tests.has p (slice_get symbols i) && list_all p (drop (i + 1) symbols))
  all_left symbols i lt =
      let next : suc i ≡ i + 1 = omega arith in
      by_option symbols i (slice_get symbols i) lt refl ∙ ap (λ (k : ℕ). tests.has p (slice_get symbols i) && list_all p (drop k symbols)) next

  pub all_true : (symbols : List SymbolValue) (i : ℕ) (all : Bool) → i < length symbols → all ≡ list_all p (drop i symbols) → tests.has p (slice_get symbols i) ≡ true → all ≡ list_all p (drop (i + 1) symbols)
  all_true symbols i all lt h e = h ∙ all_left symbols i lt ∙ ap (λ (b : Bool). b && list_all p (drop (i + 1) symbols)) e

  pub all_false : (symbols : List SymbolValue) (i : ℕ) (all : Bool) → i < length symbols → all ≡ list_all p (drop i symbols) → tests.has p (slice_get symbols i) ≡ false → all ≡ false
  all_false symbols i all lt h e = h ∙ all_left symbols i lt ∙ ap (λ (b : Bool). b && list_all p (drop (i + 1) symbols)) e

  pub all_done : (symbols : List SymbolValue) (i : ℕ) (all : Bool) → length symbols ≤ i → all ≡ list_all p (drop i symbols) → all ≡ true
  all_done symbols i all le h = h ∙ ap (list_all p) (none symbols i le)
    where
      none : (xs : List SymbolValue) (k : ℕ) → length xs ≤ k → drop k xs ≡ []
      none [] zero l = refl
      none [] (suc k) l = refl
      none (x ∷ xs) zero l = absurd (omega (arith, l))
      none (x ∷ xs) (suc k) l = none xs k (omega (arith, l))

-- ---- tests and what they test

abbrev Tests : Bool → Type 0 → Type 0
Tests b P = IsTrue b ↔ P

pub both : (a b : Bool) → a ≡ true → b ≡ true → (a && b) ≡ true
both a b h k = rw (h, k) refl

and_tests : (a b : Bool) (P Q : Type 0) → Tests a P → Tests b Q → Tests (a && b) (P × Q)
and_tests a b P Q h k = ((λ e. let p = both_parts a b e in (h.0 p.0, k.0 p.1)), (λ x. both a b (h.1 x.0) (k.1 x.1)))

some_text : (text : List ℕ) → Tests (tests.is_some_text text) (text ≢ [])
some_text [] = ((λ e. absurd cc), (λ n. absurd (n refl)))
some_text (b ∷ text) = ((λ e. λ k. cc), (λ n. refl))

itself : (b : Bool) → Tests b (IsTrue b)
itself b = ((λ e. e), (λ e. e))

readable_tests : (form : Form) (text : List ℕ) → Tests (tests.readable_as form text) (IsReadableAs form text)
readable_tests Word text = and_tests (tests.is_some_text text) (list_all is_printable text) (text ≢ []) (IsTrue (list_all is_printable text)) (some_text text) (itself (list_all is_printable text))
readable_tests Distinct text = itself (list_all is_printable text)
readable_tests Number text = and_tests (tests.is_some_text text) (list_all is_digit text) (text ≢ []) (IsTrue (list_all is_digit text)) (some_text text) (itself (list_all is_digit text))

names_tests : (form : Form) → Tests (tests.names_clause form) (form ≢ Distinct)
names_tests Word = ((λ e. λ k. cc), (λ n. refl))
names_tests Distinct = ((λ e. absurd cc), (λ n. absurd (n refl)))
names_tests Number = ((λ e. λ k. cc), (λ n. refl))

label_tests : (label : LabelValue) → Tests (tests.clause_label label) (IsClauseLabel label)
label_tests label = and_tests (tests.readable label) (tests.names_clause label.form) (IsReadable label) (label.form ≢ Distinct) (readable_tests label.form label.text) (names_tests label.form)

form_tests : (form : Form) (arity : ℕ) → Tests (tests.function_form form arity) (IsFunctionForm form arity)
form_tests Word arity = ((λ e. tt), (λ u. refl))
form_tests Distinct arity = ((λ e. eqb-true arity 0 e), (λ e. grind (arith, nat_tests)))
form_tests Number arity = ((λ e. absurd cc), (λ n. absurd n))

function_tests : (s : SymbolValue) → Tests (tests.function_symbol s) (IsFunctionSymbol s)
function_tests s = and_tests (tests.readable s.label) (tests.function_form s.label.form s.arity) (IsReadable s.label) (IsFunctionForm s.label.form s.arity) (readable_tests s.label.form s.label.text) (form_tests s.label.form s.arity)

word_tests : (form : Form) → Tests (tests.is_word_form form) (form ≡ Word)
word_tests Word = ((λ e. refl), (λ e. refl))
word_tests Distinct = ((λ e. absurd cc), (λ e. absurd cc))
word_tests Number = ((λ e. absurd cc), (λ e. absurd cc))

predicate_tests : (s : SymbolValue) → Tests (tests.predicate_symbol s) (IsPredicateSymbol s)
predicate_tests s = and_tests (tests.readable s.label) (tests.is_word_form s.label.form) (IsReadable s.label) (s.label.form ≡ Word) (readable_tests s.label.form s.label.text) (word_tests s.label.form)

less_tests : (a b : ℕ) → Tests (nat_lt a b) (a < b)
less_tests a b = ((λ e. ltb-true a b e), (λ h. grind (arith, nat_tests)))

module _ {X : Type 0} (p : X → Bool) (P : X → Type 0) (each : (x : X) → Tests (p x) (P x)) where
  all_from : (xs : List X) → list_all p xs ≡ true → All P xs
  all_from [] e = All-nil P
  all_from (x ∷ xs) e = let k = both_parts (p x) (list_all p xs) e in All-cons P x xs ((each x).0 k.0) (all_from xs k.1)

  all_to : (xs : List X) → All P xs → list_all p xs ≡ true
  all_to [] h = refl
  all_to (x ∷ xs) h = both (p x) (list_all p xs) ((each x).1 (All-head P x xs h)) (all_to xs (All-tail P x xs h))

  pub all_tests : (xs : List X) → Tests (list_all p xs) (All P xs)
  all_tests xs = ((λ e. all_from xs e), (λ h. all_to xs h))

four_parts : (a b c d : Bool) → (a && b && c && d) ≡ true → (a ≡ true) × (b ≡ true) × (c ≡ true) × (d ≡ true)
four_parts a b c d e =
    let k = both_parts (a && b && c) d e in
    let m = both_parts (a && b) c k.0 in
    let n = both_parts a b m.0 in
    (n.0, n.1, m.1, k.1)

four_true : (a b c d : Bool) → a ≡ true → b ≡ true → c ≡ true → d ≡ true → (a && b && c && d) ≡ true
four_true a b c d h i j k = rw (h, i, j, k) refl

clause_tests : (signature : SignatureValue) (c : ClauseValue) → Tests (tests.valid_clause signature c) (IsValidClause signature c)
clause_tests signature c =
    let known : Bool = list_all (λ l. is_known_atom signature l.atom) c.literals in
    let numbered : Bool = is_numbered_from 0 (clause_variables c.literals) in
    let label : Bool = tests.clause_label c.label in
    let few : Bool = nat_lt (length c.literals) (2 ^ 32 - 1) in
    let of = label_tests c.label in
    let less = less_tests (length c.literals) (2 ^ 32 - 1) in (
      (λ e. let k = four_parts known numbered label few e in record { known = k.0; numbered = k.1; named = of.0 k.2; few_literals = less.0 k.3 }),
      (λ v. four_true known numbered label few v.known v.numbered (of.1 v.named) (less.1 v.few_literals)),
    )

five_parts : (a b c d f : Bool) → (a && b && c && d && f) ≡ true → (a ≡ true) × (b ≡ true) × (c ≡ true) × (d ≡ true) × (f ≡ true)
five_parts a b c d f e =
    let k = both_parts (a && b && c && d) f e in
    let m = four_parts a b c d k.0 in
    (m.0, m.1, m.2, m.3, k.1)

five_true : (a b c d f : Bool) → a ≡ true → b ≡ true → c ≡ true → d ≡ true → f ≡ true → (a && b && c && d && f) ≡ true
five_true a b c d f h i j k l = rw (h, i, j, k, l) refl

-- The test of validity says that the problem is valid.
pub valid_is : (p : ProblemValue) → Tests (tests.valid_problem p) (IsValid p)
valid_is p =
    let clauses : Bool = list_all (tests.valid_clause p.signature) p.clauses in
    let few : Bool = nat_lt (length p.clauses) (2 ^ 32 - 1) in
    let functions : Bool = list_all tests.function_symbol p.signature.functions in
    let predicates : Bool = list_all tests.predicate_symbol p.signature.predicates in
    let constant : Bool = takes (slice_get p.signature.functions p.c0) 0 in
    let c = all_tests (tests.valid_clause p.signature) (IsValidClause p.signature) (clause_tests p.signature) p.clauses in
    let n = less_tests (length p.clauses) (2 ^ 32 - 1) in
    let f = all_tests tests.function_symbol IsFunctionSymbol function_tests p.signature.functions in
    let q = all_tests tests.predicate_symbol IsPredicateSymbol predicate_tests p.signature.predicates in (
      (λ e. let k = five_parts clauses few functions predicates constant e in record { clauses = c.0 k.0; few_clauses = n.0 k.1; functions = f.0 k.2; predicates = q.0 k.3; c0_constant = k.4 }),
      (λ v. five_true clauses few functions predicates constant (c.1 v.clauses) (n.1 v.few_clauses) (f.1 v.functions) (q.1 v.predicates) v.c0_constant),
    )
