-- The flattened problem is valid.
use Rattle.std.proofs.Common.{◌≡◌, ℕ, zero, suc, ◌+◌, ◌-◌, ◌*◌, ◌^◌, ◌<◌, ◌≤◌, ◌⊎◌, inl, inr, Bool, true, false, cond, ◌||◌, ◌&&◌, eqb, ltb, List, [], ◌∷◌, ◌++◌, length, map, get_or, Option, Some, None, refl, sym, ap, subst, ◌∙◌, arith}
use Rattle.std.proofs.lemmas.Bool.{eqb-true}
use Rattle.std.proofs.lemmas.Bool.Decides.{nat_tests}
use Rattle.std.proofs.lemmas.Fmt.{decimal_is_IsNumeral}
use Rattle.std.proofs.lemmas.Grind.{common_steps, flat_map-append}
use Rattle.std.proofs.lemmas.List.{length-append, map-append}
use Rattle.std.proofs.lemmas.Option.{slice_get_within, slice_get-map}
use Rattle.std.proofs.lemmas.Str.Parse.{digit_from_value}
use Rattle.std.specs.Prelude.{not, decimal, slice_get, option_map, IsTrue}
use Rattle.std.specs.List.{All, AllByRecursion, list_any, list_all, position_or_len, flat_map, range_with_len, IsDistinct}
use Rattle.std.specs.Str.Parse.{AllDigits}
use Rattle.me_terms.proofs.Numbered.{few}
use Rattle.me_terms.specs.Labels.{is_printable, IsReadable, IsClauseLabel, IsFunctionSymbol, IsPredicateSymbol}
use Rattle.me_terms.specs.Measures.{literals_weight}
use Rattle.me_terms.specs.Signatures.{takes, is_known, are_known, is_known_atom}
use Rattle.me_terms.specs.Terms.{TermValue, Var, App, Arguments, Nil, Cons, list_of, arguments_of}
use Rattle.me_terms.specs.TermEquality.{same_term}
use Rattle.me_terms.specs.TermEqualityLaws.{both_parts, same_term_sound, same_term_itself}
use Rattle.me_terms.specs.Validity.{clause_variables, IsValidClause, IsValid}
use Rattle.me_terms.specs.Values.{SymbolValue, SignatureValue, ClauseValue, ProblemValue}
use Rattle.me_terms.specs.Variables.{variables_of, is_numbered_from, first_ones, place_of, count}
use Rattle.me_terms.specs.declared.atom.Literal.{Literal}
use Rattle.tptp_cnf.specs.Meaning.{word}
use Rattle.tptp_cnf.proofs.Numbering.{Longer, longer_same, longer_on, position_stays}
use Rattle.finite_domain.specs.Names.{applied_in, applied_in_all, first_terms, applied_terms, with_value, named_terms, variable_of}
use Rattle.finite_domain.specs.Flat.{element, elements, relation, relations_from, arity_of, copy_of, order_of, value_literal, totality, totalities_from, term_literal, own_literal, flat_literals_by, flat_literals, labelled, numbered_from, flat_lists, flat_of, IsSmall}
use Rattle.finite_domain.proofs.Apart.{relations_length}
use Rattle.finite_domain.proofs.Counting.{numbered_length, totalities_length}
use Rattle.finite_domain.proofs.Lists.{all_of_them, by_recursion, both, front, back, weaker, mapped_length, or_right, any_last, all_stand, all_first}
use Rattle.finite_domain.proofs.Names.{few_literals}

pub both_true : (a b : Bool) → a ≡ true → b ≡ true → (a && b) ≡ true
both_true a b h k = rw (h, k) refl

-- ---- labels

printable_digit : (c : ℕ) → 48 ≤ c → c ≤ 57 → is_printable c ≡ true
printable_digit c h k = grind (arith, nat_tests)

digits_printable : (ds : List ℕ) → AllDigits 10 ds → list_all is_printable ds ≡ true
digits_printable [] h = refl
digits_printable (c ∷ ds) h = let r = digit_from_value c h.0 in both_true (is_printable c) (list_all is_printable ds) (printable_digit c r.0 r.1) (digits_printable ds h.1)

readable : (letter n : ℕ) → is_printable letter ≡ true → n < 2 ^ 64 → IsReadable (word (letter ∷ decimal n))
readable letter n h small = ((λ e. cc), both_true (is_printable letter) (list_all is_printable (decimal n)) h (digits_printable (decimal n) (decimal_is_IsNumeral n small).0.1))

elements_fine : (a n : ℕ) → a + n < 2 ^ 64 → AllByRecursion IsFunctionSymbol (map element (range_with_len a n))
elements_fine a zero small = tt
elements_fine a (suc n) small = ((readable 100 a refl (omega arith), tt), elements_fine (a + 1) n (omega arith))

relations_fine : (j : ℕ) (fs : List SymbolValue) → j + length fs < 2 ^ 64 → AllByRecursion IsPredicateSymbol (relations_from j fs)
relations_fine j [] small = tt
relations_fine j (f ∷ fs) small = ((readable 102 j refl (omega arith), refl), relations_fine (j + 1) fs (omega arith))

copies_fine : (ps : List SymbolValue) (qs : List ℕ) → AllByRecursion (λ q. q < 2 ^ 64) qs → AllByRecursion IsPredicateSymbol (map (copy_of ps) qs)
copies_fine ps [] h = tt
copies_fine ps (q ∷ qs) h = ((readable 113 q refl h.0, refl), copies_fine ps qs h.1)

-- ---- symbols by their numbers

relations_at : (j i : ℕ) (fs : List SymbolValue) (s : SymbolValue) (rest : List SymbolValue) → slice_get fs i ≡ Some s → slice_get (relations_from j fs ++ rest) i ≡ Some (relation (j + i) s.arity)
relations_at j i [] s rest h = absurd cc
relations_at j zero (f ∷ fs) s rest h =
    let e : f ≡ s = cc in
    let n : j ≡ j + 0 = omega arith in
    ap (λ (x : SymbolValue). Some (relation j x.arity)) e ∙ ap (λ (m : ℕ). Some (relation m s.arity)) n
relations_at j (suc i) (f ∷ fs) s rest h =
    let n : j + 1 + i ≡ j + suc i = omega arith in
    relations_at (j + 1) i fs s rest h ∙ ap (λ (m : ℕ). Some (relation m s.arity)) n

pub behind : {X : Type 0} (xs ys : List X) (i n : ℕ) → length xs ≡ n → slice_get (xs ++ ys) (n + i) ≡ slice_get ys i
behind {X} [] ys i n count = let e : n + i ≡ i = omega arith in ap (λ (m : ℕ). slice_get ys m) e
behind {X} (x ∷ xs) ys i zero count = absurd (omega arith)
behind {X} (x ∷ xs) ys i (suc n) count =
    let e : suc n + i ≡ suc (n + i) = omega arith in
    ap (λ (m : ℕ). slice_get (x ∷ (xs ++ ys)) m) e ∙ behind xs ys i n (omega arith)

place_by : (p x : ℕ) (xs : List ℕ) (test : Bool) → eqb p x ≡ test → (list_any (eqb p) xs ≡ true → slice_get xs (place_of p xs) ≡ Some p) → (test || list_any (eqb p) xs) ≡ true
    → slice_get (x ∷ xs) (cond test 0 (1 + place_of p xs)) ≡ Some p
place_by p x xs true is rest h = let e : p ≡ x = eqb-true p x is in cc
place_by p x xs false is rest h =
    let e : 1 + place_of p xs ≡ suc (place_of p xs) = omega arith in
    ap (λ (m : ℕ). slice_get (x ∷ xs) m) e ∙ rest h

pub at_place : (p : ℕ) (xs : List ℕ) → list_any (eqb p) xs ≡ true → slice_get xs (place_of p xs) ≡ Some p
at_place p [] h = absurd cc
at_place p (x ∷ xs) h = place_by p x xs (eqb p x) refl (at_place p xs) h

pub element_takes : (a n k : ℕ) → k < n → takes (slice_get (map element (range_with_len a n)) k) 0 ≡ true
element_takes a zero k less = absurd (omega arith)
element_takes a (suc n) zero less = refl
element_takes a (suc n) (suc k) less = element_takes (a + 1) n k (omega arith)

pub taken : (o : Option SymbolValue) (n : ℕ) → takes o n ≡ true → (s : SymbolValue) × (o ≡ Some s) × (s.arity ≡ n)
taken None n h = absurd cc
taken (Some s) n h = (s, refl, eqb-true s.arity n h)

takes_by : (o : Option SymbolValue) (s : SymbolValue) (n : ℕ) → o ≡ Some s → s.arity ≡ n → takes o n ≡ true
takes_by o s n is count =
    ap (λ (v : Option SymbolValue). takes v n) is ∙ (let e : s.arity ≡ n = count in grind (arith, common_steps))

counted : (ts : List TermValue) → count (arguments_of ts) ≡ length ts
counted [] = refl
counted (t ∷ ts) = omega (arith, counted ts)

pub list_length : (ts : Arguments) → length (list_of ts) ≡ count ts
list_length Nil = refl
list_length (Cons t ts) = omega (arith, list_length ts)

-- ---- which predicates stand in the clauses

eqb_itself : (x : ℕ) → eqb x x ≡ true
eqb_itself x = grind (arith, common_steps)

-- what holds of numbers holds of those that are noted
noted_numbers : (P : ℕ → Type 0) (xs : List ℕ) → AllByRecursion P xs → AllByRecursion P (first_ones [] xs)
noted_numbers P xs h = all_first eqb eqb-true eqb_itself first_ones (λ seen. refl) (λ seen x ys. refl) P [] xs tt h

pub numbers_stand : (xs : List ℕ) → AllByRecursion (λ (p : ℕ). list_any (eqb p) (first_ones [] xs) ≡ true) xs
numbers_stand xs = all_stand eqb eqb-true eqb_itself first_ones (λ seen. refl) (λ seen x ys. refl) xs

pub named_all : (P : TermValue → Type 0) (xs : List TermValue) → AllByRecursion P xs → AllByRecursion P (first_terms [] xs)
named_all P xs h = all_first same_term same_term_sound same_term_itself first_terms (λ seen. refl) (λ seen x ys. refl) P [] xs tt h

pub named_stand : (xs : List TermValue) → AllByRecursion (λ (t : TermValue). list_any (same_term t) (first_terms [] xs) ≡ true) xs
named_stand xs = all_stand same_term same_term_sound same_term_itself first_terms (λ seen. refl) (λ seen x ys. refl) xs

abbrev pub preds_of : List Literal → List ℕ
preds_of ls = map (λ (l : Literal). l.atom.pred) ls

abbrev pub all_preds : List ClauseValue → List ℕ
all_preds cs = flat_map (λ (c : ClauseValue). map (λ (l : Literal). l.atom.pred) c.literals) cs

abbrev pub KnownLiterals : SignatureValue → List Literal → Type 0
KnownLiterals s ls = list_all (λ (l : Literal). is_known_atom s l.atom) ls ≡ true

known_preds : (s : SignatureValue) (ls : List Literal) → KnownLiterals s ls → AllByRecursion (λ (p : ℕ). p < length s.predicates) (preds_of ls)
known_preds s [] h = tt
known_preds s (l ∷ ls) h =
    let parts = both_parts (is_known_atom s l.atom) (list_all (λ (m : Literal). is_known_atom s m.atom) ls) h in
    let own = both_parts (takes (slice_get s.predicates l.atom.pred) (count l.atom.args)) (are_known s l.atom.args) parts.0 in
    let t = taken (slice_get s.predicates l.atom.pred) (count l.atom.args) own.0 in
    (slice_get_within s.predicates l.atom.pred t.0 t.1, known_preds s ls parts.1)

all_known_preds : (s : SignatureValue) (cs : List ClauseValue) → AllByRecursion (IsValidClause s) cs → AllByRecursion (λ (p : ℕ). p < length s.predicates) (all_preds cs)
all_known_preds s [] h = tt
all_known_preds s (c ∷ cs) h = both (λ (p : ℕ). p < length s.predicates) (preds_of c.literals) (all_preds cs) (known_preds s c.literals h.0.known) (all_known_preds s cs h.1)

-- the predicates that stand in clauses are those of the signature
pub order_known : (problem : ProblemValue) → IsValid problem → AllByRecursion (λ (p : ℕ). p < length problem.signature.predicates) (order_of problem.clauses)
order_known problem h =
    noted_numbers (λ (p : ℕ). p < length problem.signature.predicates) (all_preds problem.clauses)
    (all_known_preds problem.signature problem.clauses (by_recursion (IsValidClause problem.signature) problem.clauses h.clauses))

pub few_ordered : (problem : ProblemValue) → IsValid problem → IsDistinct eqb (order_of problem.clauses) → length (order_of problem.clauses) ≤ length problem.signature.predicates
few_ordered problem h distinct =
    few (order_of problem.clauses) (length problem.signature.predicates) distinct
    (all_of_them (λ (p : ℕ). p < length problem.signature.predicates) (order_of problem.clauses) (order_known problem h))

-- ---- numbers of variables

-- a variable that was seen is numbered, and a new one gets the next number
seen_before : (x n : ℕ) (xs : List ℕ) → x < n → is_numbered_from n (x ∷ xs) ≡ is_numbered_from n xs
seen_before x n xs less = by (ltb x n) (grind (arith, nat_tests))
  where
    by : (test : Bool) → test ≡ true → cond test (is_numbered_from n xs) (eqb x n && is_numbered_from (n + 1) xs) ≡ is_numbered_from n xs
    by true h = refl
    by false h = absurd cc

new_one : (n : ℕ) (xs : List ℕ) → is_numbered_from n (n ∷ xs) ≡ is_numbered_from (n + 1) xs
new_one n xs = by (ltb n n) (eqb n n) (grind (arith, nat_tests)) (eqb_itself n)
  where
    by : (test same : Bool) → test ≡ false → same ≡ true → cond test (is_numbered_from n xs) (same && is_numbered_from (n + 1) xs) ≡ is_numbered_from (n + 1) xs
    by true same h k = absurd cc
    by false true h k = refl
    by false false h k = absurd cc

abbrev pub place : List TermValue → TermValue → ℕ
place names t = position_or_len (same_term t) names

term_longer_by : (seen xs : List TermValue) (t : TermValue) (test : Bool) → ((s : List TermValue) → Longer s (first_terms s xs)) → Longer seen (cond test (first_terms seen xs) (first_terms (seen ++ t ∷ []) xs))
term_longer_by seen xs t true rest = rest seen
term_longer_by seen xs t false rest = longer_on seen (seen ++ t ∷ []) (first_terms (seen ++ t ∷ []) xs) (t ∷ [], refl) (rest (seen ++ t ∷ []))

terms_longer : (seen xs : List TermValue) → Longer seen (first_terms seen xs)
terms_longer seen [] = longer_same seen
terms_longer seen (t ∷ xs) = term_longer_by seen xs t (list_any (same_term t) seen) (λ s. terms_longer s xs)

place_within_by : (t x : TermValue) (xs : List TermValue) (test : Bool) → (list_any (same_term t) xs ≡ true → place xs t < length xs) → (test || list_any (same_term t) xs) ≡ true → cond (not test) (1 + place xs t) 0 < length (x ∷ xs)
place_within_by t x xs true rest h = omega arith
place_within_by t x xs false rest h = omega (arith, rest h)

pub place_within : (t : TermValue) (xs : List TermValue) → list_any (same_term t) xs ≡ true → place xs t < length xs
place_within t [] h = absurd cc
place_within t (x ∷ xs) h = place_within_by t x xs (same_term t x) (place_within t xs) h

place_new_by : (t x : TermValue) (xs : List TermValue) (test : Bool) → (list_any (same_term t) xs ≡ false → place (xs ++ t ∷ []) t ≡ length xs) → (test || list_any (same_term t) xs) ≡ false → cond (not test) (1 + place (xs ++ t ∷ []) t) 0 ≡ length (x ∷ xs)
place_new_by t x xs true rest h = absurd cc
place_new_by t x xs false rest h = omega (arith, rest h)

place_new : (t : TermValue) (xs : List TermValue) → list_any (same_term t) xs ≡ false → place (xs ++ t ∷ []) t ≡ length xs
place_new t [] h = rw (same_term_itself t) refl
place_new t (x ∷ xs) h = place_new_by t x xs (same_term t x) (place_new t xs) h

numbered_by : (names seen xs : List TermValue) (t : TermValue) (test : Bool) → list_any (same_term t) seen ≡ test → Longer (cond test seen (seen ++ t ∷ [])) names
    → ((s : List TermValue) → s ≡ cond test seen (seen ++ t ∷ []) → is_numbered_from (length s) (map (place names) xs) ≡ true)
    → is_numbered_from (length seen) (place names t ∷ map (place names) xs) ≡ true
numbered_by names seen xs t true is longer rest =
    let stays : place seen t ≡ place names t = position_stays (same_term t) seen names is longer in
    let within : place seen t < length seen = place_within t seen is in
    seen_before (place names t) (length seen) (map (place names) xs) (omega (arith, stays, within)) ∙ rest seen refl
numbered_by names seen xs t false is longer rest =
    let last : list_any (same_term t) (seen ++ t ∷ []) ≡ true = any_last (same_term t) seen t (same_term_itself t) in
    let stays : place (seen ++ t ∷ []) t ≡ place names t = position_stays (same_term t) (seen ++ t ∷ []) names last longer in
    let e : place names t ≡ length seen = sym stays ∙ place_new t seen is in
    let n : length (seen ++ t ∷ []) ≡ length seen + 1 = length-append seen (t ∷ []) in
    ap (λ (v : ℕ). is_numbered_from (length seen) (v ∷ map (place names) xs)) e
    ∙ new_one (length seen) (map (place names) xs)
    ∙ ap (λ (v : ℕ). is_numbered_from v (map (place names) xs)) (sym n)
    ∙ rest (seen ++ t ∷ []) refl

names_numbered : (names seen xs : List TermValue) → first_terms seen xs ≡ names → is_numbered_from (length seen) (map (place names) xs) ≡ true
names_numbered names seen [] is = refl
names_numbered names seen (t ∷ xs) is =
    let test = list_any (same_term t) seen in
    let e : first_terms (cond test seen (seen ++ t ∷ [])) xs ≡ names = pick test is in
    numbered_by names seen xs t test refl
    (subst (Longer (cond test seen (seen ++ t ∷ []))) e (terms_longer (cond test seen (seen ++ t ∷ [])) xs))
    (λ s same. names_numbered names s xs (ap (λ (v : List TermValue). first_terms v xs) same ∙ e))
  where
    pick : (b : Bool) → cond b (first_terms seen xs) (first_terms (seen ++ t ∷ []) xs) ≡ names → first_terms (cond b seen (seen ++ t ∷ [])) xs ≡ names
    pick true h = h
    pick false h = h

-- ---- variables of literals

abbrev variables_in : Literal → List ℕ
variables_in l = variables_of l.atom.args

named_variables : (names ts : List TermValue) → variables_of (arguments_of (map (variable_of names) ts)) ≡ map (place names) ts
named_variables names [] = refl
named_variables names (t ∷ ts) = ap (λ (v : List ℕ). place names t ∷ v) (named_variables names ts)

term_variables_are : (names ts : List TermValue) → flat_map variables_in (map (term_literal names) ts) ≡ map (place names) (flat_map with_value ts)
term_variables_are names [] = refl
term_variables_are names (t ∷ ts) =
    ap (λ (v : List ℕ). v ++ flat_map variables_in (map (term_literal names) ts)) (named_variables names (with_value t))
    ∙ ap (λ (v : List ℕ). map (place names) (with_value t) ++ v) (term_variables_are names ts)
    ∙ sym (map-append (place names) (with_value t) (flat_map with_value ts))

abbrev own_arguments : Literal → List TermValue
own_arguments l = list_of l.atom.args

own_variables_are : (relations : ℕ) (order : List ℕ) (names : List TermValue) (ls : List Literal) → flat_map variables_in (map (own_literal relations order names) ls) ≡ map (place names) (flat_map own_arguments ls)
own_variables_are relations order names [] = refl
own_variables_are relations order names (l ∷ ls) =
    ap (λ (v : List ℕ). v ++ flat_map variables_in (map (own_literal relations order names) ls)) (named_variables names (list_of l.atom.args))
    ∙ ap (λ (v : List ℕ). map (place names) (list_of l.atom.args) ++ v) (own_variables_are relations order names ls)
    ∙ sym (map-append (place names) (list_of l.atom.args) (flat_map own_arguments ls))

flat_numbered : (relations : ℕ) (order : List ℕ) (ls : List Literal) → is_numbered_from 0 (clause_variables (flat_literals relations order ls)) ≡ true
flat_numbered relations order ls =
    let terms = applied_terms ls in
    let all = flat_map with_value terms ++ flat_map own_arguments ls in
    let names = named_terms terms ls in
    let e : clause_variables (flat_literals relations order ls) ≡ map (place names) all =
    flat_map-append variables_in (map (term_literal names) terms) (map (own_literal relations order names) ls)
    ∙ ap (λ (v : List ℕ). v ++ flat_map variables_in (map (own_literal relations order names) ls)) (term_variables_are names terms)
    ∙ ap (λ (v : List ℕ). map (place names) (flat_map with_value terms) ++ v) (own_variables_are relations order names ls)
    ∙ sym (map-append (place names) (flat_map with_value terms) (flat_map own_arguments ls)) in
    ap (is_numbered_from 0) e ∙ names_numbered names [] all refl

range_variables : (xs : List ℕ) (k : ℕ) → variables_of (arguments_of (map Var xs ++ App k Nil ∷ [])) ≡ xs
range_variables [] k = refl
range_variables (x ∷ xs) k = ap (λ (v : List ℕ). x ∷ v) (range_variables xs k)

counted_on : (k m : ℕ) (rest : List ℕ) → is_numbered_from k (range_with_len k m ++ rest) ≡ is_numbered_from (k + m) rest
counted_on k zero rest = let e : k ≡ k + 0 = omega arith in ap (λ (v : ℕ). is_numbered_from v rest) e
counted_on k (suc m) rest =
    let e : k + 1 + m ≡ k + suc m = omega arith in
    new_one k (range_with_len (k + 1) m ++ rest) ∙ counted_on (k + 1) m rest ∙ ap (λ (v : ℕ). is_numbered_from v rest) e

below : (a m n : ℕ) (rest : List ℕ) → a + m ≤ n → is_numbered_from n (range_with_len a m ++ rest) ≡ is_numbered_from n rest
below a zero n rest within = refl
below a (suc m) n rest within = seen_before a n (range_with_len (a + 1) m ++ rest) (omega arith) ∙ below (a + 1) m n rest (omega arith)

again : (j arity : ℕ) (ks : List ℕ) → is_numbered_from arity (flat_map variables_in (map (value_literal j arity) ks)) ≡ true
again j arity [] = refl
again j arity (k ∷ ks) =
    let rest = flat_map variables_in (map (value_literal j arity) ks) in
    ap (λ (v : List ℕ). is_numbered_from arity (v ++ rest)) (range_variables (range_with_len 0 arity) k)
    ∙ below 0 arity arity rest (omega arith)
    ∙ again j arity ks

values_numbered : (j arity : ℕ) (ks : List ℕ) → is_numbered_from 0 (flat_map variables_in (map (value_literal j arity) ks)) ≡ true
values_numbered j arity [] = refl
values_numbered j arity (k ∷ ks) =
    let rest = flat_map variables_in (map (value_literal j arity) ks) in
    let e : 0 + arity ≡ arity = omega arith in
    ap (λ (v : List ℕ). is_numbered_from 0 (v ++ rest)) (range_variables (range_with_len 0 arity) k)
    ∙ counted_on 0 arity rest
    ∙ ap (λ (v : ℕ). is_numbered_from v rest) e
    ∙ again j arity ks

-- ---- symbols of literals

pub record IsGood (s : SignatureValue) (ls : List Literal) : Type 0 where
  pub known : KnownLiterals s ls
  pub numbered : is_numbered_from 0 (clause_variables ls) ≡ true
  pub few_literals : length ls < 2 ^ 32 - 1

good_clause : (s : SignatureValue) (n : ℕ) (ls : List Literal) → n < 2 ^ 64 → IsGood s ls → IsValidClause s (labelled n ls)
good_clause s n ls small h = record {
  known = h.known;
  numbered = h.numbered;
  named = (readable 109 n refl small, λ e. cc);
  few_literals = h.few_literals;
}

good_clauses : (s : SignatureValue) (n : ℕ) (lists : List (List Literal)) → n + length lists < 2 ^ 64 → AllByRecursion (IsGood s) lists → AllByRecursion (IsValidClause s) (numbered_from n lists)
good_clauses s n [] small h = tt
good_clauses s n (ls ∷ lists) small h = (good_clause s n ls (omega arith) h.0, good_clauses s (n + 1) lists (omega arith) h.1)

all_variables_known : (s : SignatureValue) (names ts : List TermValue) → are_known s (arguments_of (map (variable_of names) ts)) ≡ true
all_variables_known s names [] = refl
all_variables_known s names (t ∷ ts) = all_variables_known s names ts

value_known : (s : SignatureValue) (xs : List ℕ) (k : ℕ) → takes (slice_get s.functions k) 0 ≡ true → are_known s (arguments_of (map Var xs ++ App k Nil ∷ [])) ≡ true
value_known s [] k h = both_true (takes (slice_get s.functions k) 0 && true) true (both_true (takes (slice_get s.functions k) 0) true h refl) refl
value_known s (x ∷ xs) k h = value_known s xs k h

range_length : (a n : ℕ) → length (range_with_len a n) ≡ n
range_length a zero = refl
range_length a (suc n) = omega (arith, range_length (a + 1) n)

-- the terms that are no variables, over the signature
abbrev pub KnownApplied : SignatureValue → TermValue → Type 0
KnownApplied s (Var x) = ⊥
KnownApplied s (App f ts) = is_known s (App f ts) ≡ true

mutual
  applied_known : (s : SignatureValue) (t : TermValue) → is_known s t ≡ true → AllByRecursion (KnownApplied s) (applied_in t)
  applied_known s (Var x) h = tt
  applied_known s (App f ts) h =
      let parts = both_parts (takes (slice_get s.functions f) (count ts)) (are_known s ts) h in
      (h, applied_all_known s ts parts.1)

  applied_all_known : (s : SignatureValue) (ts : Arguments) → are_known s ts ≡ true → AllByRecursion (KnownApplied s) (applied_in_all ts)
  applied_all_known s Nil h = tt
  applied_all_known s (Cons t ts) h =
      let parts = both_parts (is_known s t) (are_known s ts) h in
      both (KnownApplied s) (applied_in t) (applied_in_all ts) (applied_known s t parts.0) (applied_all_known s ts parts.1)

abbrev applied : List Literal → List TermValue
applied ls = flat_map (λ (l : Literal). applied_in_all l.atom.args) ls

all_applied_known : (s : SignatureValue) (ls : List Literal) → KnownLiterals s ls → AllByRecursion (KnownApplied s) (applied ls)
all_applied_known s [] h = tt
all_applied_known s (l ∷ ls) h =
    let parts = both_parts (is_known_atom s l.atom) (list_all (λ (m : Literal). is_known_atom s m.atom) ls) h in
    let own = both_parts (takes (slice_get s.predicates l.atom.pred) (count l.atom.args)) (are_known s l.atom.args) parts.0 in
    both (KnownApplied s) (applied_in_all l.atom.args) (applied ls) (applied_all_known s l.atom.args own.1) (all_applied_known s ls parts.1)

pub terms_fine : (s : SignatureValue) (ls : List Literal) → KnownLiterals s ls → AllByRecursion (KnownApplied s) (applied_terms ls)
terms_fine s ls h = named_all (KnownApplied s) (applied ls) (all_applied_known s ls h)

module _ (problem : ProblemValue) (n : ℕ) where
  abbrev new : SignatureValue
  new = (flat_of problem n).signature

  abbrev fs : List SymbolValue
  fs = problem.signature.functions

  abbrev ps : List SymbolValue
  ps = problem.signature.predicates

  abbrev order : List ℕ
  order = order_of problem.clauses

  totality_known : (j : ℕ) (f : SymbolValue) (a m : ℕ) → slice_get fs j ≡ Some f → a + m ≤ n → KnownLiterals new (map (value_literal j f.arity) (range_with_len a m))
  totality_known j f a zero h within = refl
  totality_known j f a (suc m) h within =
      let args = map Var (range_with_len 0 f.arity) ++ App a Nil ∷ [] in
      let size : count (arguments_of args) ≡ f.arity + 1 =
      counted args ∙ length-append (map Var (range_with_len 0 f.arity)) (App a Nil ∷ [])
      ∙ ap (λ (v : ℕ). v + 1) (mapped_length Var (range_with_len 0 f.arity) ∙ range_length 0 f.arity) in
      let here : takes (slice_get new.predicates j) (count (arguments_of args)) ≡ true =
      takes_by (slice_get new.predicates j) (relation (0 + j) f.arity) (count (arguments_of args)) (relations_at 0 j fs f (map (copy_of ps) order) h) (sym size) in
      let value : takes (slice_get (elements n) a) 0 ≡ true = element_takes 1 n a (omega arith) in
      both_true (is_known_atom new (value_literal j f.arity a).atom) (list_all (λ (l : Literal). is_known_atom new l.atom) (map (value_literal j f.arity) (range_with_len (a + 1) m)))
      (both_true (takes (slice_get new.predicates j) (count (arguments_of args))) (are_known new (arguments_of args)) here (value_known new (range_with_len 0 f.arity) a value))
      (totality_known j f (a + 1) m h (omega arith))

  totality_good : (j : ℕ) (f : SymbolValue) → n ≤ 16 → slice_get fs j ≡ Some f → IsGood new (totality n j f.arity)
  totality_good j f small h = record {
    known = totality_known j f 0 n h (omega arith);
    numbered = values_numbered j f.arity (range_with_len 0 n);
    few_literals = omega (arith, mapped_length (value_literal j f.arity) (range_with_len 0 n), range_length 0 n);
  }

  totalities_good : (j : ℕ) (gs : List SymbolValue) → n ≤ 16 → ((i : ℕ) (f : SymbolValue) → slice_get gs i ≡ Some f → slice_get fs (j + i) ≡ Some f) → AllByRecursion (IsGood new) (totalities_from n j gs)
  totalities_good j [] small h = tt
  totalities_good j (g ∷ gs) small h =
      let here : j + 0 ≡ j = omega arith in (
        totality_good j g small (ap (λ (v : ℕ). slice_get fs v) (sym here) ∙ h 0 g refl),
        totalities_good (j + 1) gs small (λ i f is. let e : j + 1 + i ≡ j + suc i = omega arith in ap (λ (v : ℕ). slice_get fs v) e ∙ h (suc i) f is),
      )

  term_known : (names : List TermValue) (t : TermValue) → KnownApplied problem.signature t → is_known_atom new (term_literal names t).atom ≡ true
  term_known names (Var x) h = absurd h
  term_known names (App f ts) h =
      let parts = both_parts (takes (slice_get fs f) (count ts)) (are_known problem.signature ts) h in
      let g = taken (slice_get fs f) (count ts) parts.0 in
      let args = map (variable_of names) (with_value (App f ts)) in
      let size : count (arguments_of args) ≡ count ts + 1 =
      counted args ∙ mapped_length (variable_of names) (with_value (App f ts)) ∙ length-append (list_of ts) (App f ts ∷ []) ∙ ap (λ (v : ℕ). v + 1) (list_length ts) in
      both_true (takes (slice_get new.predicates f) (count (arguments_of args))) (are_known new (arguments_of args))
      (takes_by (slice_get new.predicates f) (relation (0 + f) (g.0).arity) (count (arguments_of args)) (relations_at 0 f fs g.0 (map (copy_of ps) order) g.1) (ap (λ (v : ℕ). v + 1) g.2 ∙ sym size))
      (all_variables_known new names (with_value (App f ts)))

  terms_known : (names ts : List TermValue) → AllByRecursion (KnownApplied problem.signature) ts → KnownLiterals new (map (term_literal names) ts)
  terms_known names [] h = refl
  terms_known names (t ∷ ts) h =
      both_true (is_known_atom new (term_literal names t).atom) (list_all (λ (l : Literal). is_known_atom new l.atom) (map (term_literal names) ts)) (term_known names t h.0) (terms_known names ts h.1)

  abbrev Ordered : ℕ → Type 0
  Ordered p = list_any (eqb p) order ≡ true

  own_known : (names : List TermValue) (l : Literal) → is_known_atom problem.signature l.atom ≡ true → Ordered l.atom.pred → is_known_atom new (own_literal (length fs) order names l).atom ≡ true
  own_known names l h there =
      let own = both_parts (takes (slice_get ps l.atom.pred) (count l.atom.args)) (are_known problem.signature l.atom.args) h in
      let g = taken (slice_get ps l.atom.pred) (count l.atom.args) own.0 in
      let args = map (variable_of names) (list_of l.atom.args) in
      let size : count (arguments_of args) ≡ count l.atom.args = counted args ∙ mapped_length (variable_of names) (list_of l.atom.args) ∙ list_length l.atom.args in
      let at : slice_get new.predicates (length fs + place_of l.atom.pred order) ≡ Some (copy_of ps l.atom.pred) =
      behind (relations_from 0 fs) (map (copy_of ps) order) (place_of l.atom.pred order) (length fs) (relations_length 0 fs)
      ∙ slice_get-map (copy_of ps) order (place_of l.atom.pred order)
      ∙ ap (λ (o : Option ℕ). option_map (copy_of ps) o) (at_place l.atom.pred order there) in
      let arity : arity_of (slice_get ps l.atom.pred) ≡ count l.atom.args = ap arity_of g.1 ∙ g.2 in
      both_true (takes (slice_get new.predicates (length fs + place_of l.atom.pred order)) (count (arguments_of args))) (are_known new (arguments_of args))
      (takes_by (slice_get new.predicates (length fs + place_of l.atom.pred order)) (copy_of ps l.atom.pred) (count (arguments_of args)) at (arity ∙ sym size))
      (all_variables_known new names (list_of l.atom.args))

  owns_known : (names : List TermValue) (ls : List Literal) → KnownLiterals problem.signature ls → AllByRecursion Ordered (preds_of ls) → KnownLiterals new (map (own_literal (length fs) order names) ls)
  owns_known names [] h there = refl
  owns_known names (l ∷ ls) h there =
      let parts = both_parts (is_known_atom problem.signature l.atom) (list_all (λ (m : Literal). is_known_atom problem.signature m.atom) ls) h in
      both_true (is_known_atom new (own_literal (length fs) order names l).atom) (list_all (λ (m : Literal). is_known_atom new m.atom) (map (own_literal (length fs) order names) ls))
      (own_known names l parts.0 there.0) (owns_known names ls parts.1 there.1)

  both_known : (ls ms : List Literal) → KnownLiterals new ls → KnownLiterals new ms → KnownLiterals new (ls ++ ms)
  both_known [] ms h k = k
  both_known (l ∷ ls) ms h k =
      let parts = both_parts (is_known_atom new l.atom) (list_all (λ (m : Literal). is_known_atom new m.atom) ls) h in
      both_true (is_known_atom new l.atom) (list_all (λ (m : Literal). is_known_atom new m.atom) (ls ++ ms)) parts.0 (both_known ls ms parts.1 k)

  clause_good : (ls : List Literal) → KnownLiterals problem.signature ls → literals_weight ls < 2 ^ 31 → AllByRecursion Ordered (preds_of ls) → IsGood new (flat_literals (length fs) order ls)
  clause_good ls h light there =
      let terms = applied_terms ls in
      let names = named_terms terms ls in
      record {
        known = both_known (map (term_literal names) terms) (map (own_literal (length fs) order names) ls) (terms_known names terms (terms_fine problem.signature ls h)) (owns_known names ls h there);
        numbered = flat_numbered (length fs) order ls;
        few_literals = omega (arith, few_literals ls, length-append (map (term_literal names) terms) (map (own_literal (length fs) order names) ls), mapped_length (term_literal names) terms, mapped_length (own_literal (length fs) order names) ls);
      }

  clauses_good : (cs : List ClauseValue) → AllByRecursion (IsValidClause problem.signature) cs → AllByRecursion (λ (c : ClauseValue). literals_weight c.literals < 2 ^ 31) cs → AllByRecursion Ordered (all_preds cs)
      → AllByRecursion (IsGood new) (map (λ (c : ClauseValue). flat_literals (length fs) order c.literals) cs)
  clauses_good [] h light there = tt
  clauses_good (c ∷ cs) h light there = (
    clause_good c.literals h.0.known light.0 (front Ordered (preds_of c.literals) (all_preds cs) there),
    clauses_good cs h.1 light.1 (back Ordered (preds_of c.literals) (all_preds cs) there),
  )

  first_takes : 1 ≤ n → takes (slice_get (elements n) 0) 0 ≡ true
  first_takes some = element_takes 1 n 0 (omega arith)

  pub flat_valid : IsValid problem → IsSmall problem → 1 ≤ n → n ≤ 16 → IsValid (flat_of problem n)
  flat_valid h small some most =
      let lists = flat_lists problem n in
      let per : ClauseValue → List Literal = λ c. flat_literals (length fs) order c.literals in
      let valid : AllByRecursion (IsValidClause problem.signature) problem.clauses = by_recursion (IsValidClause problem.signature) problem.clauses h.clauses in
      let light : AllByRecursion (λ (c : ClauseValue). literals_weight c.literals < 2 ^ 31) problem.clauses = by_recursion (λ (c : ClauseValue). literals_weight c.literals < 2 ^ 31) problem.clauses small.weights in
      let good : AllByRecursion (IsGood new) lists =
      both (IsGood new) (totalities_from n 0 fs) (map per problem.clauses) (totalities_good 0 fs most (λ i f is. let e : 0 + i ≡ i = omega arith in ap (λ (v : ℕ). slice_get fs v) e ∙ is)) (clauses_good problem.clauses valid light (numbers_stand (all_preds problem.clauses))) in
      let size : length lists ≡ length fs + length problem.clauses =
      length-append (totalities_from n 0 fs) (map per problem.clauses) ∙ ap (λ (v : ℕ). v + length (map per problem.clauses)) (totalities_length n 0 fs) ∙ ap (λ (v : ℕ). length fs + v) (mapped_length per problem.clauses) in
      let known : AllByRecursion (λ (q : ℕ). q < 2 ^ 64) order = weaker (λ (q : ℕ). q < length ps) (λ (q : ℕ). q < 2 ^ 64) order (λ q less. omega (arith, less, small.predicates)) (order_known problem h) in
      record {
        clauses = all_of_them (IsValidClause new) (numbered_from 1 lists) (good_clauses new 1 lists (omega (arith, size, small.functions, small.clauses)) good);
        few_clauses = omega (arith, numbered_length 1 lists, size, small.functions, small.clauses);
        functions = all_of_them IsFunctionSymbol (elements n) (elements_fine 1 n (omega arith));
        predicates = all_of_them IsPredicateSymbol (relations_from 0 fs ++ map (copy_of ps) order) (both IsPredicateSymbol (relations_from 0 fs) (map (copy_of ps) order) (relations_fine 0 fs (omega (arith, small.functions))) (copies_fine ps order known));
        c0_constant = first_takes some;
      }
