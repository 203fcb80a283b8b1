-- A made problem is plain.
use Rattle.std.proofs.Common.{◌≡◌, ℕ, zero, suc, ◌+◌, ◌*◌, ◌%◌, ◌^◌, ◌<◌, ◌≤◌, Bool, true, false, cond, ◌||◌, ◌&&◌, eqb, List, [], ◌∷◌, ◌++◌, length, take, drop, Option, Some, None, refl, sym, ap, subst, ◌∙◌, arith, length-append, length-drop}
use Rattle.std.proofs.Math.Nat.{mod-lt}
use Rattle.std.proofs.lemmas.Bool.Decides.{nat_tests}
use Rattle.std.proofs.lemmas.Fmt.{decimal_is_IsNumeral}
use Rattle.std.proofs.lemmas.Grind.{flat_map-append}
use Rattle.std.proofs.lemmas.List.{take-append-drop}
use Rattle.std.proofs.lemmas.List.Elements.{All-nil, All-cons}
use Rattle.std.proofs.lemmas.Str.Parse.{digit_from_value}
use Rattle.std.specs.Prelude.{not, decimal, slice_get, option_to_list, IsTrue, if◌then◌else◌}
use Rattle.std.specs.List.{All, AllByRecursion, list_any, list_all, position_or_len, flat_map}
use Rattle.std.specs.Str.Parse.{AllDigits}
use Rattle.me_terms.specs.LabelEquality.{same_symbol}
use Rattle.me_terms.specs.Labels.{is_printable, IsClauseLabel, IsFunctionSymbol, IsPredicateSymbol}
use Rattle.me_terms.specs.Measures.{literal_depth}
use Rattle.me_terms.specs.Signatures.{with_symbol, number_of, takes, is_known, is_known_atom}
use Rattle.me_terms.specs.Terms.{TermValue, Nil, Cons}
use Rattle.me_terms.specs.Validity.{clause_variables, IsValidClause}
use Rattle.me_terms.specs.Values.{SymbolValue, SignatureValue, ClauseValue, ProblemValue}
use Rattle.me_terms.specs.Variables.{variables_of, depths, is_numbered_from, first_ones}
use Rattle.tptp_cnf.specs.Meaning.{with_symbols, is_constant, c0_symbol, with_constant}
use Rattle.tptp_cnf.specs.Plain.{function_numbers, symbols_at, clauses_functions, clauses_predicates, HasNumbersFrom, IsWithinLimits, IsPlain}
use Rattle.tptp_cnf.proofs.Lawful.{both}
use Rattle.tptp_cnf.proofs.Numbering.{Longer, longer_same}
use Rattle.rand_core.specs.Steps.{first_words}
use Rattle.rand_pcg.specs.Lcg.{Lcg}
use Rattle.rand_pcg.specs.Pcg.{pcg32, pcg32_of_seed}
use Rattle.rand_core.specs.Pcg32Seed.{pcg32_seed}
use Rattle.make_problem.specs.Made.{words_of, predicate_of, constant_by, constant_of, argument_as, predicates_of, constants_of, made_literals, made_label, made_clauses, IsMade}
use Rattle.make_problem.specs.Drawn.{with_words}
use Rattle.make_problem.proofs.Standing.{Stand, stand, stand_longer, found, Known, known_parts, LongerSignature, words_known, clauses_stay}

both_true : (a b : Bool) → a ≡ true → b ≡ true → (a && b) ≡ true
both_true a b h k = rw (h, k) refl

-- ---- names

printable_digit : (c : ℕ) → 48 ≤ c → c ≤ 57 → is_printable c ≡ true
printable_digit c h k = grind (arith, nat_tests)

digits_printable : (ds : List ℕ) → AllDigits 10 ds → list_all is_printable ds ≡ true
digits_printable [] h = refl
digits_printable (c ∷ ds) h = let r = digit_from_value c h.0 in both_true (is_printable c) (list_all is_printable ds) (printable_digit c r.0 r.1) (digits_printable ds h.1)

name_printable : (letter n : ℕ) → is_printable letter ≡ true → n < 2 ^ 64 → list_all is_printable (letter ∷ decimal n) ≡ true
name_printable letter n h small = both_true (is_printable letter) (list_all is_printable (decimal n)) h (digits_printable (decimal n) (decimal_is_IsNumeral n small).0.1)

label_named : (n : ℕ) → n < 2 ^ 64 → IsClauseLabel (made_label n)
label_named n small = (((λ e. cc), name_printable 103 n refl small), λ e. cc)

predicate_named : (preds w : ℕ) → 1 ≤ preds → preds ≤ 1000 → IsPredicateSymbol (predicate_of preds w)
predicate_named preds w some few =
    let below : w % preds < preds = mod-lt w (omega (arith, some)) in
    let small : w % preds < 2 ^ 64 = omega (arith, below, few) in
    (((λ e. cc), name_printable 112 (w % preds) refl small), refl)

-- a constant with a name that a file can have
pub record IsFine (s : SymbolValue) : Type 0 where
  pub constant : is_constant s ≡ true
  pub function : IsFunctionSymbol s

constant_fine : (n : ℕ) → AllByRecursion IsFine (option_to_list (constant_by n))
constant_fine zero = (record { constant = refl; function = (((λ e. cc), refl), tt) }, tt)
constant_fine (suc zero) = (record { constant = refl; function = (((λ e. cc), refl), tt) }, tt)
constant_fine (suc (suc n)) = tt

constants_fine : (words : List ℕ) → AllByRecursion IsFine (constants_of words)
constants_fine [] = tt
constants_fine (w ∷ ws) = both IsFine (option_to_list (constant_of w)) (constants_of ws) (constant_fine _) (constants_fine ws)

predicates_named : (preds : ℕ) (words : List ℕ) → 1 ≤ preds → preds ≤ 1000 → AllByRecursion IsPredicateSymbol (predicates_of preds words)
predicates_named preds [] some few = tt
predicates_named preds (w ∷ ws) some few = (predicate_named preds w some few, predicates_named preds ws some few)

-- ---- what holds of symbols holds of the signature

one_more : (P : SymbolValue → Type 0) (b : Bool) (known : List SymbolValue) (s : SymbolValue) → AllByRecursion P known → P s → AllByRecursion P (if b then known else known ++ s ∷ [])
one_more P true known s h k = h
one_more P false known s h k = both P known (s ∷ []) h (k, tt)

all_with : (P : SymbolValue → Type 0) (ss known : List SymbolValue) → AllByRecursion P known → AllByRecursion P ss → AllByRecursion P (with_symbols known ss)
all_with P [] known h k = h
all_with P (s ∷ ss) known h k = all_with P ss (with_symbol known s) (one_more P (list_any (same_symbol s) known) known s h k.0) k.1

all_of_them : {X : Type 0} (P : X → Type 0) (xs : List X) → AllByRecursion P xs → All P xs
all_of_them P [] h = All-nil P
all_of_them P (x ∷ xs) h = All-cons P x xs h.0 (all_of_them P xs h.1)

weaker : {X : Type 0} (P Q : X → Type 0) (xs : List X) → ((x : X) → P x → Q x) → AllByRecursion P xs → AllByRecursion Q xs
weaker P Q [] f h = tt
weaker P Q (x ∷ xs) f h = (f x h.0, weaker P Q xs f h.1)

c0_fine : IsFine c0_symbol
c0_fine = record { constant = refl; function = (((λ e. cc), refl), tt) }

pub functions_fine : (words : List ℕ) → AllByRecursion IsFine (with_symbols [] (constants_of words))
functions_fine words = all_with IsFine (constants_of words) [] tt (constants_fine words)

with_constant_fine : (functions : List SymbolValue) → AllByRecursion IsFine functions → AllByRecursion IsFine (with_constant functions)
with_constant_fine functions h = one_more IsFine (list_any is_constant functions) functions c0_symbol h c0_fine

with_constant_longer : (b : Bool) (functions : List SymbolValue) → Longer functions (if b then functions else functions ++ c0_symbol ∷ [])
with_constant_longer true functions = longer_same functions
with_constant_longer false functions = (c0_symbol ∷ [], refl)

-- with c0 where there is no function, the first function is a constant
pub first_constant : (functions : List SymbolValue) → AllByRecursion IsFine functions → position_or_len is_constant (with_constant functions) ≡ 0
first_constant [] h = refl
first_constant (s ∷ ss) h =
    let some : list_any is_constant (s ∷ ss) ≡ true = ap (λ (b : Bool). b || list_any is_constant ss) h.0.constant in
    ap (λ (b : Bool). position_or_len is_constant (if b then s ∷ ss else (s ∷ ss) ++ c0_symbol ∷ [])) some
    ∙ ap (λ (b : Bool). cond (not b) (1 + position_or_len is_constant ss) 0) h.0.constant

abbrev pub AllConstants : List SymbolValue → Type 0
AllConstants functions = AllByRecursion (λ s. IsTrue (is_constant s)) functions

fine_constants : (functions : List SymbolValue) → AllByRecursion IsFine functions → AllConstants functions
fine_constants functions h = weaker IsFine (λ s. IsTrue (is_constant s)) functions (λ s k. k.constant) h

with_some : (functions : List SymbolValue) → AllConstants functions → (length functions ≡ 0 → ⊥) → with_constant functions ≡ functions
with_some [] h k = absurd (k refl)
with_some (s ∷ ss) h k = ap (λ (b : Bool). if b || list_any is_constant ss then s ∷ ss else (s ∷ ss) ++ c0_symbol ∷ []) h.0

has_first : (functions : List SymbolValue) → AllByRecursion IsFine functions → takes (slice_get (with_constant functions) 0) 0 ≡ true
has_first [] h = refl
has_first (s ∷ ss) h = ap (λ (fs : List SymbolValue). takes (slice_get fs 0) 0) (with_some (s ∷ ss) (fine_constants (s ∷ ss) h) (λ e. omega (arith, e))) ∙ h.0.constant

-- where there is a function, c0 is not added
pub nothing_added : (s : SignatureValue) → AllConstants s.functions → (length s.functions ≡ 0 → ⊥) → s ≡ (record { functions = with_constant s.functions; predicates = s.predicates })
nothing_added s h k = ap (λ (x : List SymbolValue). (record { functions = x; predicates = s.predicates })) (sym (with_some s.functions h k))

-- the functions of drawn words are constants
pub drawn_constants : (preds : ℕ) (drawn : SignatureValue) (words : List ℕ) → drawn ≡ with_words preds (record { functions = []; predicates = [] }) words → AllConstants drawn.functions
drawn_constants preds drawn words is =
    subst (λ (x : SignatureValue). AllConstants x.functions) (sym is) (fine_constants (with_symbols [] (constants_of words)) (functions_fine words))

-- ---- the literals of words

module _ (preds : ℕ) (s : SignatureValue) where
  later_numbered : (o : Option SymbolValue) (xs : List ℕ) → is_numbered_from 1 xs ≡ true → is_numbered_from 1 (variables_of (Cons (argument_as s.functions o) Nil) ++ xs) ≡ true
  later_numbered None xs h = h
  later_numbered (Some c) xs h = h

  numbered_from_1 : (words : List ℕ) → is_numbered_from 1 (clause_variables (made_literals preds s words)) ≡ true
  numbered_from_1 [] = refl
  numbered_from_1 (w ∷ ws) = later_numbered (constant_of w) (clause_variables (made_literals preds s ws)) (numbered_from_1 ws)

  first_numbered : (o : Option SymbolValue) (xs : List ℕ) → is_numbered_from 1 xs ≡ true → is_numbered_from 0 xs ≡ true → is_numbered_from 0 (variables_of (Cons (argument_as s.functions o) Nil) ++ xs) ≡ true
  first_numbered None xs h k = h
  first_numbered (Some c) xs h k = k

  numbered : (words : List ℕ) → is_numbered_from 0 (clause_variables (made_literals preds s words)) ≡ true
  numbered [] = refl
  numbered (w ∷ ws) = first_numbered (constant_of w) (clause_variables (made_literals preds s ws)) (numbered_from_1 ws) (numbered ws)

  one_at_most : (o : Option SymbolValue) (xs : List ℕ) → length (variables_of (Cons (argument_as s.functions o) Nil) ++ xs) ≤ 1 + length xs
  one_at_most None xs = omega arith
  one_at_most (Some c) xs = omega arith

  few_variables : (words : List ℕ) → length (clause_variables (made_literals preds s words)) ≤ length words
  few_variables [] = omega arith
  few_variables (w ∷ ws) = omega (arith, one_at_most (constant_of w) (clause_variables (made_literals preds s ws)), few_variables ws)

  as_many : (words : List ℕ) → length (made_literals preds s words) ≡ length words
  as_many [] = refl
  as_many (w ∷ ws) = omega (arith, as_many ws)

  flat_argument : (o : Option SymbolValue) → depths (Cons (argument_as s.functions o) Nil) ≤ 249
  flat_argument None = omega arith
  flat_argument (Some c) = omega arith

  flat : (words : List ℕ) → AllByRecursion (λ l. literal_depth l ≤ 249) (made_literals preds s words)
  flat [] = tt
  flat (w ∷ ws) = (flat_argument (constant_of w), flat ws)

  argument_known : (o : Option SymbolValue) → Stand (option_to_list o) s.functions → AllByRecursion IsFine (option_to_list o) → is_known s (argument_as s.functions o) ≡ true
  argument_known None h k = refl
  argument_known (Some c) h k = both_true (takes (slice_get s.functions (number_of c s.functions)) 0) true (ap (λ (x : Option SymbolValue). takes x 0) (found c s.functions h.0) ∙ k.0.constant) refl

  known : (words : List ℕ) → Known preds s words → list_all (λ l. is_known_atom s l.atom) (made_literals preds s words) ≡ true
  known [] h = refl
  known (w ∷ ws) h =
      let parts = known_parts preds s 1 (w ∷ ws) h in
      let t : TermValue = argument_as s.functions (constant_of w) in
      let pred : takes (slice_get s.predicates (number_of (predicate_of preds w) s.predicates)) 1 ≡ true = ap (λ (x : Option SymbolValue). takes x 1) (found (predicate_of preds w) s.predicates h.predicates.0) in
      let argument : is_known s t ≡ true = argument_known (constant_of w) (stand_first (constant_of w) (constants_of ws) h.functions) (constant_fine _) in
      both_true (takes (slice_get s.predicates (number_of (predicate_of preds w) s.predicates)) 1 && (is_known s t && true)) (list_all (λ l. is_known_atom s l.atom) (made_literals preds s ws))
      (both_true (takes (slice_get s.predicates (number_of (predicate_of preds w) s.predicates)) 1) (is_known s t && true) pred (both_true (is_known s t) true argument refl))
      (known ws parts.1)
    where
      stand_first : (o : Option SymbolValue) (ss : List SymbolValue) → Stand (option_to_list o ++ ss) s.functions → Stand (option_to_list o) s.functions
      stand_first None ss j = tt
      stand_first (Some c) ss j = (j.0, tt)

  symbols-append : (symbols : List SymbolValue) (xs ys : List ℕ) → symbols_at symbols (xs ++ ys) ≡ symbols_at symbols xs ++ symbols_at symbols ys
  symbols-append symbols xs ys = flat_map-append (λ (n : ℕ). option_to_list (slice_get symbols n)) xs ys

  argument_symbols : (o : Option SymbolValue) (ss : List SymbolValue) (xs : List ℕ) → Stand (option_to_list o ++ ss) s.functions → (Stand ss s.functions → symbols_at s.functions xs ≡ ss) → symbols_at s.functions (function_numbers (Cons (argument_as s.functions o) Nil) ++ xs) ≡ option_to_list o ++ ss
  argument_symbols None ss xs h k = k h
  argument_symbols (Some c) ss xs h k =
      ap (λ (x : Option SymbolValue). option_to_list x ++ symbols_at s.functions xs) (found c s.functions h.0)
      ∙ ap (λ (x : List SymbolValue). c ∷ x) (k h.1)

  literals_functions : (words : List ℕ) → Stand (constants_of words) s.functions → symbols_at s.functions (flat_map (λ l. function_numbers l.atom.args) (made_literals preds s words)) ≡ constants_of words
  literals_functions [] h = refl
  literals_functions (w ∷ ws) h = argument_symbols (constant_of w) (constants_of ws) (flat_map (λ l. function_numbers l.atom.args) (made_literals preds s ws)) h (λ k. literals_functions ws k)

  literals_predicates : (words : List ℕ) → Stand (predicates_of preds words) s.predicates → symbols_at s.predicates (flat_map (λ l. l.atom.pred ∷ []) (made_literals preds s words)) ≡ predicates_of preds words
  literals_predicates [] h = refl
  literals_predicates (w ∷ ws) h =
      ap (λ (x : Option SymbolValue). option_to_list x ++ symbols_at s.predicates (flat_map (λ l. l.atom.pred ∷ []) (made_literals preds s ws))) (found (predicate_of preds w) s.predicates h.0)
      ∙ ap (λ (x : List SymbolValue). predicate_of preds w ∷ x) (literals_predicates ws h.1)

  -- ---- clauses

  none_left : (words : List ℕ) → length words ≡ 0 → words ≡ []
  none_left [] h = refl
  none_left (w ∷ ws) h = absurd (omega (arith, h))

  clauses_have_functions : (n more : ℕ) (words : List ℕ) → length words ≡ 3 * more → Known preds s words → symbols_at s.functions (clauses_functions (made_clauses preds s n more words)) ≡ constants_of words
  clauses_have_functions n zero words long h = ap constants_of (sym (none_left words (omega (arith, long))))
  clauses_have_functions n (suc more) words long h =
      let parts = known_parts preds s 3 words h in
      let here : List ℕ = flat_map (λ l. function_numbers l.atom.args) (made_literals preds s (take 3 words)) in
      symbols-append s.functions here (clauses_functions (made_clauses preds s (n + 1) more (drop 3 words)))
      ∙ ap (λ (x : List SymbolValue). x ++ symbols_at s.functions (clauses_functions (made_clauses preds s (n + 1) more (drop 3 words)))) (literals_functions (take 3 words) parts.0.functions)
      ∙ ap (λ (x : List SymbolValue). constants_of (take 3 words) ++ x) (clauses_have_functions (n + 1) more (drop 3 words) (omega (arith, long, length-drop 3 words)) parts.1)
      ∙ sym (flat_map-append (λ (w : ℕ). option_to_list (constant_of w)) (take 3 words) (drop 3 words))
      ∙ ap constants_of (take-append-drop 3 words)

  map_parts : (xs ys : List ℕ) → predicates_of preds (xs ++ ys) ≡ predicates_of preds xs ++ predicates_of preds ys
  map_parts [] ys = refl
  map_parts (x ∷ xs) ys = ap (λ (ss : List SymbolValue). predicate_of preds x ∷ ss) (map_parts xs ys)

  clauses_have_predicates : (n more : ℕ) (words : List ℕ) → length words ≡ 3 * more → Known preds s words → symbols_at s.predicates (clauses_predicates (made_clauses preds s n more words)) ≡ predicates_of preds words
  clauses_have_predicates n zero words long h = ap (predicates_of preds) (sym (none_left words (omega (arith, long))))
  clauses_have_predicates n (suc more) words long h =
      let parts = known_parts preds s 3 words h in
      let here : List ℕ = flat_map (λ l. l.atom.pred ∷ []) (made_literals preds s (take 3 words)) in
      symbols-append s.predicates here (clauses_predicates (made_clauses preds s (n + 1) more (drop 3 words)))
      ∙ ap (λ (x : List SymbolValue). x ++ symbols_at s.predicates (clauses_predicates (made_clauses preds s (n + 1) more (drop 3 words)))) (literals_predicates (take 3 words) parts.0.predicates)
      ∙ ap (λ (x : List SymbolValue). predicates_of preds (take 3 words) ++ x) (clauses_have_predicates (n + 1) more (drop 3 words) (omega (arith, long, length-drop 3 words)) parts.1)
      ∙ sym (map_parts (take 3 words) (drop 3 words))
      ∙ ap (predicates_of preds) (take-append-drop 3 words)

  have_numbers : (n more : ℕ) (words : List ℕ) → HasNumbersFrom n (made_clauses preds s n more words)
  have_numbers n zero words = tt
  have_numbers n (suc more) words = (refl, have_numbers (n + 1) more (drop 3 words))

  clause_count : (n more : ℕ) (words : List ℕ) → length (made_clauses preds s n more words) ≡ more
  clause_count n zero words = refl
  clause_count n (suc more) words = omega (arith, clause_count (n + 1) more (drop 3 words))

  take_few : (n : ℕ) (words : List ℕ) → length (take n words) ≤ n
  take_few zero words = omega arith
  take_few (suc n) [] = omega arith
  take_few (suc n) (w ∷ ws) = omega (arith, take_few n ws)

  few_ones : (seen xs : List ℕ) → length (first_ones seen xs) ≤ length seen + length xs
  few_ones seen [] = omega arith
  few_ones seen (x ∷ xs) = by (list_any (eqb x) seen) (few_ones seen xs) (few_ones (seen ++ x ∷ []) xs)
    where
      by : (b : Bool) → length (first_ones seen xs) ≤ length seen + length xs → length (first_ones (seen ++ x ∷ []) xs) ≤ length (seen ++ x ∷ []) + length xs → length (if b then first_ones seen xs else first_ones (seen ++ x ∷ []) xs) ≤ length seen + length (x ∷ xs)
      by true h k = omega (arith, h)
      by false h k = omega (arith, k, length-append seen (x ∷ []))

  clauses_valid : (n more : ℕ) (words : List ℕ) → n + more ≤ 1000000 → Known preds s words → AllByRecursion (IsValidClause s) (made_clauses preds s n more words)
  clauses_valid n zero words small h = tt
  clauses_valid n (suc more) words small h =
      let parts = known_parts preds s 3 words h in (
        record {
          known = known (take 3 words) parts.0;
          numbered = numbered (take 3 words);
          named = label_named n (omega (arith, small));
          few_literals = omega (arith, as_many (take 3 words), take_few 3 words);
        },
        clauses_valid (n + 1) more (drop 3 words) (omega (arith, small)) parts.1,
      )

  clauses_within : (n more : ℕ) (words : List ℕ) → AllByRecursion IsWithinLimits (made_clauses preds s n more words)
  clauses_within n zero words = tt
  clauses_within n (suc more) words = (
    record {
      literals = omega (arith, as_many (take 3 words), take_few 3 words);
      variables = omega (arith, few_ones [] (clause_variables (made_literals preds s (take 3 words))), few_variables (take 3 words), take_few 3 words);
      nesting = flat (take 3 words);
    },
    clauses_within (n + 1) more (drop 3 words),
  )

-- ---- problems

words_count : (count : ℕ) (g : Lcg) → length (first_words pcg32 count g) ≡ count
unfolding first_words
words_count zero g = refl
words_count (suc n) g = omega (arith, words_count n (pcg32 g).1)

pub words_length : (seed count : ℕ) → length (words_of seed count) ≡ count
unfolding words_of
words_length seed count = words_count count (pcg32_of_seed (pcg32_seed 16 seed))

fine_arity : (s : SymbolValue) → IsFine s → s.arity ≤ 64
fine_arity s h = let zero_is : eqb s.arity 0 ≡ true = h.constant in grind (arith, nat_tests)

unary : (preds : ℕ) (words : List ℕ) → AllByRecursion (λ s. s.arity ≤ 64) (predicates_of preds words)
unary preds [] = tt
unary preds (w ∷ ws) = (omega arith, unary preds ws)

-- the problem of words
abbrev pub problem_by : ℕ → ℕ → List ℕ → ProblemValue
problem_by preds count words =
    let functions = with_constant (with_symbols [] (constants_of words)) in
    let signature : SignatureValue = record { functions = functions; predicates = with_symbols [] (predicates_of preds words) } in
    record { clauses = made_clauses preds signature 1 count words; signature = signature; c0 = position_or_len is_constant functions }

plain_by : (preds count : ℕ) (words : List ℕ) → 1 ≤ preds → preds ≤ 1000 → count ≤ 100000 → length words ≡ 3 * count → IsPlain (problem_by preds count words)
plain_by preds count words some few bounded long =
    let fns : List SymbolValue = with_symbols [] (constants_of words) in
    let s : SignatureValue = (problem_by preds count words).signature in
    let fine = functions_fine words in
    let all_fine = with_constant_fine fns fine in
    let stands : Known preds s words = record {
      functions = stand_longer (constants_of words) fns (with_constant fns) (with_constant_longer (list_any is_constant fns) fns) (stand (constants_of words) []);
      predicates = stand (predicates_of preds words) [];
    } in
    let named = all_with IsPredicateSymbol (predicates_of preds words) [] tt (predicates_named preds words some few) in
    record {
      valid = record {
        clauses = all_of_them (IsValidClause s) (made_clauses preds s 1 count words) (clauses_valid preds s 1 count words (omega (arith, bounded)) stands);
        few_clauses = omega (arith, bounded, clause_count preds s 1 count words);
        functions = all_of_them IsFunctionSymbol (with_constant fns) (weaker IsFine IsFunctionSymbol (with_constant fns) (λ x h. h.function) all_fine);
        predicates = all_of_them IsPredicateSymbol (with_symbols [] (predicates_of preds words)) named;
        c0_constant = ap (λ (n : ℕ). takes (slice_get (with_constant fns) n) 0) (first_constant fns fine) ∙ has_first fns fine;
      };
      numbers = have_numbers preds s 1 count words;
      functions = ap (λ (ss : List SymbolValue). with_constant (with_symbols [] ss)) (sym (clauses_have_functions preds s 1 count words long stands));
      predicates = ap (λ (ss : List SymbolValue). with_symbols [] ss) (sym (clauses_have_predicates preds s 1 count words long stands));
      constant = refl;
      few_clauses = omega (arith, bounded, clause_count preds s 1 count words);
      within = clauses_within preds s 1 count words;
      arguments = weaker IsFine (λ x. x.arity ≤ 64) (with_constant fns) fine_arity all_fine;
      predicate_arguments = all_with (λ x. x.arity ≤ 64) (predicates_of preds words) [] tt (unary preds words);
    }

made_by : (seed preds count : ℕ) (problem : ProblemValue) → IsMade seed preds count problem → problem ≡ problem_by preds count (words_of seed (3 * count))
made_by seed preds count problem h =
    let words : List ℕ = words_of seed (3 * count) in
    let signature : SignatureValue = record { functions = with_constant (with_symbols [] (constants_of words)); predicates = with_symbols [] (predicates_of preds words) } in
    let same : problem.signature ≡ signature =
    ap (λ (x : List SymbolValue). (record { functions = x; predicates = problem.signature.predicates })) h.functions
    ∙ ap (λ (x : List SymbolValue). (record { functions = with_constant (with_symbols [] (constants_of words)); predicates = x })) h.predicates in
    ap (λ (x : List ClauseValue). (record { clauses = x; signature = problem.signature; c0 = problem.c0 })) h.clauses_are
    ∙ ap (λ (x : ℕ). (record { clauses = made_clauses preds problem.signature 1 count words; signature = problem.signature; c0 = x })) h.c0
    ∙ ap (λ (x : SignatureValue). (record { clauses = made_clauses preds x 1 count words; signature = x; c0 = position_or_len is_constant x.functions })) same

pub made_is_plain : (seed preds count : ℕ) (problem : ProblemValue) → 1 ≤ preds → preds ≤ 1000 → count ≤ 100000 → IsMade seed preds count problem → IsPlain problem
made_is_plain seed preds count problem some few bounded h =
    subst IsPlain (sym (made_by seed preds count problem h)) (plain_by preds count (words_of seed (3 * count)) some few bounded (words_length seed (3 * count)))

-- the clauses by the signature before c0 is added are those of the problem
pub made_by_words : (seed preds count : ℕ) (drawn : SignatureValue) (problem : ProblemValue) → drawn ≡ with_words preds (record { functions = []; predicates = [] }) (words_of seed (3 * count)) → problem.clauses ≡ made_clauses preds drawn 1 count (words_of seed (3 * count)) → problem.signature ≡ (record { functions = with_constant drawn.functions; predicates = drawn.predicates }) → problem.c0 ≡ 0 → IsMade seed preds count problem
made_by_words seed preds count drawn problem is clauses signature c0 =
    let words : List ℕ = words_of seed (3 * count) in
    let empty : SignatureValue = record { functions = []; predicates = [] } in
    let last : SignatureValue = record { functions = with_constant drawn.functions; predicates = drawn.predicates } in
    let functions_are : drawn.functions ≡ with_symbols [] (constants_of words) = ap (λ (x : SignatureValue). x.functions) is in
    let longer : LongerSignature drawn last = record { functions = with_constant_longer (list_any is_constant drawn.functions) drawn.functions; predicates = longer_same drawn.predicates } in
    let stands : Known preds drawn words = subst (λ (x : SignatureValue). Known preds x words) (sym is) (words_known preds empty words) in
    record {
      clauses_are = clauses ∙ clauses_stay preds drawn last 1 count words stands longer ∙ ap (λ (x : SignatureValue). made_clauses preds x 1 count words) (sym signature);
      functions = ap (λ (x : SignatureValue). x.functions) signature ∙ ap with_constant functions_are;
      predicates = ap (λ (x : SignatureValue). x.predicates) signature ∙ ap (λ (x : SignatureValue). x.predicates) is;
      c0 = c0 ∙ sym (first_constant (with_symbols [] (constants_of words)) (functions_fine words)) ∙ ap (λ (x : List SymbolValue). position_or_len is_constant (with_constant x)) (sym functions_are) ∙ ap (λ (x : SignatureValue). position_or_len is_constant x.functions) (sym signature);
    }
