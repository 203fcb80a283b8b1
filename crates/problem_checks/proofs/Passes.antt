-- What the tests of plainness say.
use Rattle.std.proofs.Common.{◌≡◌, ℕ, zero, suc, ◌+◌, ◌-◌, ◌<◌, ◌≤◌, Bool, true, false, ◌||◌, ◌&&◌, cond, eqb, List, [], ◌∷◌, ◌++◌, length, take, slice_get, Option, Some, None, is_some, refl, sym, ap, ◌∙◌, arith}
use Rattle.std.specs.Prelude.{◌↔◌, IsTrue, nat_lt, nat_le, not, codes}
use Rattle.std.specs.List.{AllByRecursion, list_all, list_any, position_or_len, flat_map}
use Rattle.std.specs.Str.{bytes_eq}
use Rattle.std.proofs.lemmas.Bool.{eqb-true}
use Rattle.std.proofs.lemmas.Bool.Decides.{nat_tests}
use Rattle.std.proofs.lemmas.List.{length-append, append-nil, take_all}
use Rattle.std.proofs.lemmas.List.Elements.{recursion_from_All}
use Rattle.std.proofs.lemmas.Option.{slice_get_within}
use Rattle.std.proofs.lemmas.Slice.Eq.{bytes_eq-Decides}
use Rattle.me_terms.specs.Measures.{literal_depth}
use Rattle.me_terms.specs.Signatures.{takes, is_known, are_known, is_known_atom}
use Rattle.me_terms.specs.TermEqualityLaws.{both_parts}
use Rattle.me_terms.specs.Terms.{TermValue, Var, App, Arguments, Nil, Cons}
use Rattle.me_terms.specs.Validity.{clause_variables, IsValidClause, IsValid}
use Rattle.me_terms.specs.Values.{SymbolValue, SignatureValue, ClauseValue, ProblemValue}
use Rattle.me_terms.specs.Variables.{first_ones, count}
use Rattle.me_terms.specs.declared.atom.Literal.{Literal}
use Rattle.me_terms.specs.declared.symbol.Form.{Form}
use Rattle.me_terms.specs.declared.symbol.Form.TheVariants.{Word, Distinct, Number}
use Rattle.problem_checks.specs.ValidityTests.{has, is_word_form, numbered_on}
use Rattle.problem_checks.proofs.ValidityTests.{numbered_test, both}
use Rattle.tptp_grammar.specs.declared.limits.TheConstants.{MAX_FORMULAS, MAX_LITERALS, MAX_VARIABLES, MAX_ARGUMENTS, MAX_BRACKETS}
use Rattle.tptp_cnf.specs.Meaning.{is_constant, c0_symbol, with_constant, with_symbols}
use Rattle.tptp_cnf.specs.Plain.{term_function_numbers, function_numbers, symbols_at, clauses_functions, clauses_predicates, HasNumbersFrom, IsWithinLimits, IsPlain}
use Rattle.tptp_cnf.proofs.Constants.{constant_known}
use Rattle.problem_checks.specs.PlainTests.{HaveOwnNumbers, are_numbered, at_most, is_within, is_shallow, has_few_arguments, have_few_arguments, is_c0, is_first_constant, are_plain_functions, are_plain_predicates, passes_plain_tests, predicate_numbers}
use Rattle.problem_checks.proofs.FirstOccurrence.{or_left, or_right, Within, taken_more, met, Met, numbered_if, different_ones}

-- ---- truth values

eqb_of : (a b : ℕ) → a ≡ b → eqb a b ≡ true
eqb_of a b h = grind (arith, nat_tests)

le_of : (a b : ℕ) → nat_le a b ≡ true → a ≤ b
le_of a b h = grind (arith, nat_tests)

of_le : (a b : ℕ) → a ≤ b → nat_le a b ≡ true
of_le a b h = grind (arith, nat_tests)

less_of : (a b : ℕ) → nat_lt a (b + 1) ≡ true → a ≤ b
less_of a b h = grind (arith, nat_tests)

of_less : (a b : ℕ) → a ≤ b → nat_lt a (b + 1) ≡ true
of_less a b h = grind (arith, nat_tests)

module _ {X : Type 0} (p : X → Bool) (P : X → Type 0) where
  all_from : ((x : X) → p x ≡ true → P x) → (xs : List X) → list_all p xs ≡ true → AllByRecursion P xs
  all_from each [] e = tt
  all_from each (x ∷ xs) e = let k = both_parts (p x) (list_all p xs) e in (each x k.0, all_from each xs k.1)

  all_to : ((x : X) → P x → p x ≡ true) → (xs : List X) → AllByRecursion P xs → list_all p xs ≡ true
  all_to each [] h = refl
  all_to each (x ∷ xs) h = both (p x) (list_all p xs) (each x h.0) (all_to each xs h.1)

-- ---- the numbers of clauses

numbers_of_test : (cs : List ClauseValue) (n : ℕ) → are_numbered n cs ≡ true → HasNumbersFrom n cs
numbers_of_test [] n e = tt
numbers_of_test (c ∷ cs) n e = let k = both_parts (eqb c.number n) (are_numbered (n + 1) cs) e in (eqb-true c.number n k.0, numbers_of_test cs (n + 1) k.1)

test_of_numbers : (cs : List ClauseValue) (n : ℕ) → HasNumbersFrom n cs → are_numbered n cs ≡ true
test_of_numbers [] n h = refl
test_of_numbers (c ∷ cs) n h = both (eqb c.number n) (are_numbered (n + 1) cs) (eqb_of c.number n h.0) (test_of_numbers cs (n + 1) h.1)

-- ---- numbers that occur are those of symbols

takes_within : (symbols : List SymbolValue) (x n : ℕ) → takes (slice_get symbols x) n ≡ true → x < length symbols
takes_within symbols x n h = by (slice_get symbols x) refl h
  where
    by : (o : Option SymbolValue) → slice_get symbols x ≡ o → takes o n ≡ true → x < length symbols
    by None e k = absurd cc
    by (Some s) e k = slice_get_within symbols x s e

within_both : (symbols : List SymbolValue) (xs ys : List ℕ) → Within symbols xs → Within symbols ys → Within symbols (xs ++ ys)
within_both symbols [] ys h k = k
within_both symbols (x ∷ xs) ys h k = (h.0, within_both symbols xs ys h.1 k)

module _ (signature : SignatureValue) where
  mutual
    term_within : (t : TermValue) → is_known signature t ≡ true → Within signature.functions (term_function_numbers t)
    term_within (Var x) h = tt
    term_within (App f ts) h =
        let k = both_parts (takes (slice_get signature.functions f) (count ts)) (are_known signature ts) h in
        (takes_within signature.functions f (count ts) k.0, terms_within ts k.1)

    terms_within : (ts : Arguments) → are_known signature ts ≡ true → Within signature.functions (function_numbers ts)
    terms_within Nil h = tt
    terms_within (Cons t ts) h =
        let k = both_parts (is_known signature t) (are_known signature ts) h in
        within_both signature.functions (term_function_numbers t) (function_numbers ts) (term_within t k.0) (terms_within ts k.1)

  literals_within : (ls : List Literal) → list_all (λ l. is_known_atom signature l.atom) ls ≡ true → Within signature.functions (flat_map (λ l. function_numbers l.atom.args) ls)
  literals_within [] h = tt
  literals_within (l ∷ ls) h =
      let k = both_parts (is_known_atom signature l.atom) (list_all (λ x. is_known_atom signature x.atom) ls) h in
      let j = both_parts (takes (slice_get signature.predicates l.atom.pred) (count l.atom.args)) (are_known signature l.atom.args) k.0 in
      within_both signature.functions (function_numbers l.atom.args) (flat_map (λ x. function_numbers x.atom.args) ls) (terms_within l.atom.args j.1) (literals_within ls k.1)

  predicates_within : (ls : List Literal) → list_all (λ l. is_known_atom signature l.atom) ls ≡ true → Within signature.predicates (predicate_numbers ls)
  predicates_within [] h = tt
  predicates_within (l ∷ ls) h =
      let k = both_parts (is_known_atom signature l.atom) (list_all (λ x. is_known_atom signature x.atom) ls) h in
      let j = both_parts (takes (slice_get signature.predicates l.atom.pred) (count l.atom.args)) (are_known signature l.atom.args) k.0 in
      (takes_within signature.predicates l.atom.pred (count l.atom.args) j.0, predicates_within ls k.1)

  clauses_within : (cs : List ClauseValue) → AllByRecursion (IsValidClause signature) cs → Within signature.functions (clauses_functions cs)
  clauses_within [] h = tt
  clauses_within (c ∷ cs) h =
      within_both signature.functions (flat_map (λ l. function_numbers l.atom.args) c.literals) (clauses_functions cs) (literals_within c.literals h.0.known) (clauses_within cs h.1)

  clauses_atoms_within : (cs : List ClauseValue) → AllByRecursion (IsValidClause signature) cs → Within signature.predicates (clauses_predicates cs)
  clauses_atoms_within [] h = tt
  clauses_atoms_within (c ∷ cs) h =
      within_both signature.predicates (predicate_numbers c.literals) (clauses_predicates cs) (predicates_within c.literals h.0.known) (clauses_atoms_within cs h.1)

-- ---- constants

c0_is : (s : SymbolValue) → is_c0 s ≡ true → s ≡ c0_symbol
c0_is s h =
    let k = both_parts (eqb s.arity 0 && is_word_form s.label.form) (bytes_eq s.label.text (codes "c0")) h in
    let j = both_parts (eqb s.arity 0) (is_word_form s.label.form) k.0 in
    let text : s.label.text ≡ codes "c0" = (bytes_eq-Decides s.label.text (codes "c0")).0 k.1 in
    let form : s.label.form ≡ Word = word s.label.form j.1 in
    let arity : s.arity ≡ 0 = eqb-true s.arity 0 j.0 in
    λ i. record { label = record { form = form i; text = text i }; arity = arity i }
  where
    word : (form : Form) → is_word_form form ≡ true → form ≡ Word
    word Word e = refl
    word Distinct e = absurd cc
    word Number e = absurd cc

has_c0 : (o : Option SymbolValue) → has is_c0 o ≡ true → o ≡ Some c0_symbol
has_c0 None h = absurd cc
has_c0 (Some s) h = ap (λ (x : SymbolValue). Some x) (c0_is s h)

none_before : (p : SymbolValue → Bool) (ss : List SymbolValue) (n : ℕ) → n ≡ position_or_len p ss → list_any p (take n ss) ≡ false
none_before p [] zero h = refl
none_before p [] (suc n) h = refl
none_before p (s ∷ ss) zero h = refl
none_before p (s ∷ ss) (suc n) h = by (p s) refl h (none_before p ss n)
  where
    by : (b : Bool) → p s ≡ b → suc n ≡ cond (not b) (1 + position_or_len p ss) 0 → (n ≡ position_or_len p ss → list_any p (take n ss) ≡ false) → (p s || list_any p (take n ss)) ≡ false
    by true e k rest = absurd (omega (arith, k))
    by false e k rest = ap (λ (b : Bool). b || list_any p (take n ss)) e ∙ rest (omega (arith, k))

pushed_place : (p : SymbolValue → Bool) (ss : List SymbolValue) (s : SymbolValue) → list_any p ss ≡ false → p s ≡ true → position_or_len p (ss ++ s ∷ []) ≡ length ss
pushed_place p [] s e h = ap (λ (b : Bool). cond (not b) (1 + 0) 0) h
pushed_place p (f ∷ ss) s e h = by (p f) (list_any p ss) e (pushed_place p ss s)
  where
    by : (a b : Bool) → (a || b) ≡ false → (b ≡ false → p s ≡ true → position_or_len p (ss ++ s ∷ []) ≡ length ss) → cond (not a) (1 + position_or_len p (ss ++ s ∷ [])) 0 ≡ length (f ∷ ss)
    by true b k g = absurd cc
    by false b k g = omega (arith, g k h)

last_one : (ss : List SymbolValue) (s : SymbolValue) → slice_get (ss ++ s ∷ []) (length ss) ≡ Some s
last_one [] s = refl
last_one (t ∷ ss) s = last_one ss s

any_constant : (functions : List SymbolValue) (n : ℕ) → takes (slice_get functions n) 0 ≡ true → list_any is_constant functions ≡ true
any_constant [] n h = absurd cc
any_constant (f ∷ fs) zero h = or_left (is_constant f) (list_any is_constant fs) h
any_constant (f ∷ fs) (suc n) h = or_right (is_constant f) (list_any is_constant fs) (any_constant fs n h)

with_constant_by : (b : Bool) (functions : List SymbolValue) → list_any is_constant functions ≡ b → with_constant functions ≡ cond b functions (functions ++ c0_symbol ∷ [])
with_constant_by b functions e = ap (λ (x : Bool). cond x functions (functions ++ c0_symbol ∷ [])) e

-- ---- symbols

module _ (symbols : List SymbolValue) (differ : HaveOwnNumbers symbols) (xs : List ℕ) (within : Within symbols xs) where
  abbrev occurring : List SymbolValue
  occurring = with_symbols [] (symbols_at symbols xs)

  first : (n : ℕ) → numbered_on 0 xs ≡ Some n → occurring ≡ take n symbols
  first n e = met symbols differ xs within 0 n (omega arith) e

  predicates_are : are_plain_predicates symbols (numbered_on 0 xs) ≡ true → symbols ≡ occurring
  predicates_are h = by (numbered_on 0 xs) refl h
    where
      by : (o : Option ℕ) → numbered_on 0 xs ≡ o → are_plain_predicates symbols o ≡ true → symbols ≡ occurring
      by None e k = absurd cc
      by (Some n) e k =
          let all : n ≡ length symbols = eqb-true n (length symbols) k in
          sym (first n e ∙ take_all n symbols (omega (arith, all)))

  predicates_pass : symbols ≡ occurring → are_plain_predicates symbols (numbered_on 0 xs) ≡ true
  predicates_pass h =
      let m : Met symbols [] 0 xs = numbered_if symbols [] differ xs within 0 (omega arith) (append-nil occurring ∙ sym h) in
      ap (are_plain_predicates symbols) m.numbered ∙ eqb_of m.count (length symbols) (omega (arith, m.all))

  module _ (c0 : ℕ) (place : c0 ≡ position_or_len is_constant symbols) where
    functions_are : list_any is_constant symbols ≡ true → are_plain_functions symbols c0 (numbered_on 0 xs) ≡ true → symbols ≡ with_constant occurring
    functions_are any h = by (numbered_on 0 xs) refl h
      where
        all : (n : ℕ) → occurring ≡ take n symbols → n ≡ length symbols → symbols ≡ with_constant occurring
        all n e is = sym (ap with_constant (e ∙ take_all n symbols (omega (arith, is))) ∙ constant_known symbols any)

        added : (n : ℕ) → occurring ≡ take n symbols → c0 ≡ n → n + 1 ≡ length symbols → slice_get symbols n ≡ Some c0_symbol → symbols ≡ with_constant occurring
        added n e is len there =
            let none : list_any is_constant (take n symbols) ≡ false = none_before is_constant symbols n (sym is ∙ place) in
            sym (ap with_constant e ∙ with_constant_by false (take n symbols) none ∙ taken_more symbols n c0_symbol there ∙ take_all (n + 1) symbols (omega (arith, len)))

        two : (n : ℕ) (a b : Bool) → eqb n (length symbols) ≡ a → (eqb c0 n && eqb (c0 + 1) (length symbols) && has is_c0 (slice_get symbols c0)) ≡ b → (a || b) ≡ true → occurring ≡ take n symbols
            → symbols ≡ with_constant occurring
        two n true b e f k is = all n is (eqb-true n (length symbols) e)
        two n false true e f k is =
            let parts = both_parts (eqb c0 n && eqb (c0 + 1) (length symbols)) (has is_c0 (slice_get symbols c0)) f in
            let others = both_parts (eqb c0 n) (eqb (c0 + 1) (length symbols)) parts.0 in
            let same : c0 ≡ n = eqb-true c0 n others.0 in
            added n is same (omega (arith, same, eqb-true (c0 + 1) (length symbols) others.1)) (ap (slice_get symbols) (sym same) ∙ has_c0 (slice_get symbols c0) parts.1)
        two n false false e f k is = absurd cc

        by : (o : Option ℕ) → numbered_on 0 xs ≡ o → are_plain_functions symbols c0 o ≡ true → symbols ≡ with_constant occurring
        by None e k = absurd cc
        by (Some n) e k = two n (eqb n (length symbols)) (eqb c0 n && eqb (c0 + 1) (length symbols) && has is_c0 (slice_get symbols c0)) refl refl k (first n e)

    functions_pass : symbols ≡ with_constant occurring → are_plain_functions symbols c0 (numbered_on 0 xs) ≡ true
    functions_pass h = by (list_any is_constant occurring) refl
      where
        by : (b : Bool) → list_any is_constant occurring ≡ b → are_plain_functions symbols c0 (numbered_on 0 xs) ≡ true
        by true e =
            let m : Met symbols [] 0 xs = numbered_if symbols [] differ xs within 0 (omega arith) (append-nil occurring ∙ sym (with_constant_by true occurring e) ∙ sym h) in
            ap (are_plain_functions symbols c0) m.numbered
            ∙ or_left (eqb m.count (length symbols)) (eqb c0 m.count && eqb (c0 + 1) (length symbols) && has is_c0 (slice_get symbols c0)) (eqb_of m.count (length symbols) (omega (arith, m.all)))
        by false e =
            let more : List SymbolValue = c0_symbol ∷ [] in
            let whole : occurring ++ more ≡ symbols = sym (with_constant_by false occurring e) ∙ sym h in
            let m : Met symbols more 0 xs = numbered_if symbols more differ xs within 0 (omega arith) whole in
            let last : c0 ≡ length occurring = place ∙ ap (position_or_len is_constant) (sym whole) ∙ pushed_place is_constant occurring c0_symbol e refl in
            let long : length occurring + 1 ≡ length symbols = sym (length-append occurring more) ∙ ap length whole in
            let here : has is_c0 (slice_get symbols c0) ≡ true =
            ap (λ (k : ℕ). has is_c0 (slice_get symbols k)) last ∙ ap (λ (k : List SymbolValue). has is_c0 (slice_get k (length occurring))) (sym whole) ∙ ap (has is_c0) (last_one occurring c0_symbol) in
            ap (are_plain_functions symbols c0) m.numbered
            ∙ or_right (eqb m.count (length symbols)) (eqb c0 m.count && eqb (c0 + 1) (length symbols) && has is_c0 (slice_get symbols c0))
            (both (eqb c0 m.count && eqb (c0 + 1) (length symbols)) (has is_c0 (slice_get symbols c0))
            (both (eqb c0 m.count) (eqb (c0 + 1) (length symbols)) (eqb_of c0 m.count (omega (arith, last, long, m.all))) (eqb_of (c0 + 1) (length symbols) (omega (arith, last, long)))) here)

-- ---- limits

within_of_test : (c : ClauseValue) → is_within c ≡ true → IsWithinLimits c
within_of_test c h =
    let k = both_parts (nat_le (length c.literals) MAX_LITERALS && at_most MAX_VARIABLES (numbered_on 0 (clause_variables c.literals))) (list_all is_shallow c.literals) h in
    let j = both_parts (nat_le (length c.literals) MAX_LITERALS) (at_most MAX_VARIABLES (numbered_on 0 (clause_variables c.literals))) k.0 in
    record {
      literals = le_of (length c.literals) MAX_LITERALS j.0;
      variables = few (clause_variables c.literals) (numbered_on 0 (clause_variables c.literals)) refl j.1;
      nesting = all_from is_shallow (λ l. literal_depth l ≤ MAX_BRACKETS - 1) (λ l e. less_of (literal_depth l) (MAX_BRACKETS - 1) e) c.literals k.1;
    }
  where
    few : (xs : List ℕ) (o : Option ℕ) → numbered_on 0 xs ≡ o → at_most MAX_VARIABLES o ≡ true → length (first_ones [] xs) ≤ MAX_VARIABLES
    few xs None e f = absurd cc
    few xs (Some n) e f = omega (arith, different_ones xs n e, le_of n MAX_VARIABLES f)

test_of_within : (signature : SignatureValue) (c : ClauseValue) → IsValidClause signature c → IsWithinLimits c → is_within c ≡ true
test_of_within signature c v w =
    both (nat_le (length c.literals) MAX_LITERALS && at_most MAX_VARIABLES (numbered_on 0 (clause_variables c.literals))) (list_all is_shallow c.literals)
    (both (nat_le (length c.literals) MAX_LITERALS) (at_most MAX_VARIABLES (numbered_on 0 (clause_variables c.literals))) (of_le (length c.literals) MAX_LITERALS w.literals)
    (few (clause_variables c.literals) (numbered_on 0 (clause_variables c.literals)) refl (numbered_test (clause_variables c.literals) 0 ∙ v.numbered) w.variables))
    (all_to is_shallow (λ l. literal_depth l ≤ MAX_BRACKETS - 1) (λ l e. of_less (literal_depth l) (MAX_BRACKETS - 1) e) c.literals w.nesting)
  where
    few : (xs : List ℕ) (o : Option ℕ) → numbered_on 0 xs ≡ o → is_some (numbered_on 0 xs) ≡ true → length (first_ones [] xs) ≤ MAX_VARIABLES → at_most MAX_VARIABLES (numbered_on 0 xs) ≡ true
    few xs None e f h = let no : false ≡ true = sym (ap is_some e) ∙ f in absurd cc
    few xs (Some n) e f h = ap (at_most MAX_VARIABLES) e ∙ of_le n MAX_VARIABLES (omega (arith, different_ones xs n e, h))

all_pass : (signature : SignatureValue) (cs : List ClauseValue) → AllByRecursion (IsValidClause signature) cs → AllByRecursion IsWithinLimits cs → list_all is_within cs ≡ true
all_pass signature [] v w = refl
all_pass signature (c ∷ cs) v w = both (is_within c) (list_all is_within cs) (test_of_within signature c v.0 w.0) (all_pass signature cs v.1 w.1)

pub plain_has_few : (p : ProblemValue) → IsPlain p → have_few_arguments p.signature ≡ true
plain_has_few p x =
    both (list_all has_few_arguments p.signature.functions) (list_all has_few_arguments p.signature.predicates)
    (all_to has_few_arguments (λ s. s.arity ≤ MAX_ARGUMENTS) (λ s k. of_le s.arity MAX_ARGUMENTS k) p.signature.functions x.arguments)
    (all_to has_few_arguments (λ s. s.arity ≤ MAX_ARGUMENTS) (λ s k. of_le s.arity MAX_ARGUMENTS k) p.signature.predicates x.predicate_arguments)

-- ---- all tests

module _ (p : ProblemValue) (functions : HaveOwnNumbers p.signature.functions) (predicates : HaveOwnNumbers p.signature.predicates) (valid : IsValid p) (few : have_few_arguments p.signature ≡ true) where
  clauses : AllByRecursion (IsValidClause p.signature) p.clauses
  clauses = recursion_from_All (IsValidClause p.signature) p.clauses valid.clauses

  abbrev a : Bool
  a = are_numbered 1 p.clauses

  abbrev b : Bool
  b = are_plain_functions p.signature.functions p.c0 (numbered_on 0 (clauses_functions p.clauses))

  abbrev c : Bool
  c = are_plain_predicates p.signature.predicates (numbered_on 0 (clauses_predicates p.clauses))

  abbrev d : Bool
  d = is_first_constant p.signature.functions p.c0

  abbrev e : Bool
  e = nat_le (length p.clauses) MAX_FORMULAS

  abbrev f : Bool
  f = list_all is_within p.clauses

  any : list_any is_constant p.signature.functions ≡ true
  any = any_constant p.signature.functions p.c0 valid.c0_constant

  plain_of_tests : passes_plain_tests p ≡ true → IsPlain p
  plain_of_tests t =
      let arguments = both_parts (list_all has_few_arguments p.signature.functions) (list_all has_few_arguments p.signature.predicates) few in
      let t5 = both_parts (a && b && c && d && e) f t in
      let t4 = both_parts (a && b && c && d) e t5.0 in
      let t3 = both_parts (a && b && c) d t4.0 in
      let t2 = both_parts (a && b) c t3.0 in
      let t1 = both_parts a b t2.0 in
      let constant = both_parts (list_any is_constant p.signature.functions) (eqb p.c0 (position_or_len is_constant p.signature.functions)) t3.1 in
      let place : p.c0 ≡ position_or_len is_constant p.signature.functions = eqb-true p.c0 (position_or_len is_constant p.signature.functions) constant.1 in
      record {
        valid = valid;
        numbers = numbers_of_test p.clauses 1 t1.0;
        functions = functions_are p.signature.functions functions (clauses_functions p.clauses) (clauses_within p.signature p.clauses clauses) p.c0 place any t1.1;
        predicates = predicates_are p.signature.predicates predicates (clauses_predicates p.clauses) (clauses_atoms_within p.signature p.clauses clauses) t2.1;
        constant = place;
        few_clauses = le_of (length p.clauses) MAX_FORMULAS t4.1;
        within = all_from is_within IsWithinLimits within_of_test p.clauses t5.1;
        arguments = all_from has_few_arguments (λ s. s.arity ≤ MAX_ARGUMENTS) (λ s k. le_of s.arity MAX_ARGUMENTS k) p.signature.functions arguments.0;
        predicate_arguments = all_from has_few_arguments (λ s. s.arity ≤ MAX_ARGUMENTS) (λ s k. le_of s.arity MAX_ARGUMENTS k) p.signature.predicates arguments.1;
      }

  tests_of_plain : IsPlain p → passes_plain_tests p ≡ true
  tests_of_plain x =
      let t1 : (a && b) ≡ true =
      both a b (test_of_numbers p.clauses 1 x.numbers)
      (functions_pass p.signature.functions functions (clauses_functions p.clauses) (clauses_within p.signature p.clauses clauses) p.c0 x.constant x.functions) in
      let t2 : (a && b && c) ≡ true =
      both (a && b) c t1 (predicates_pass p.signature.predicates predicates (clauses_predicates p.clauses) (clauses_atoms_within p.signature p.clauses clauses) x.predicates) in
      let t3 : (a && b && c && d) ≡ true =
      both (a && b && c) d t2 (both (list_any is_constant p.signature.functions) (eqb p.c0 (position_or_len is_constant p.signature.functions)) any (eqb_of p.c0 (position_or_len is_constant p.signature.functions) x.constant)) in
      let t4 : (a && b && c && d && e) ≡ true = both (a && b && c && d) e t3 (of_le (length p.clauses) MAX_FORMULAS x.few_clauses) in
      both (a && b && c && d && e) f t4 (all_pass p.signature p.clauses clauses x.within)

  -- A valid problem whose symbols have few arguments passes the tests exactly where it is plain.
  pub plain_is : IsTrue (passes_plain_tests p) ↔ IsPlain p
  plain_is = ((λ t. plain_of_tests t), (λ x. tests_of_plain x))
