-- The problem that a file means is valid.
use Rattle.std.proofs.Common.{◌≡◌, ℕ, ◌+◌, ◌<◌, ◌≤◌, Bool, true, false, cond, eqb, ltb, ◌&&◌, List, [], ◌∷◌, ◌++◌, length, map, refl, sym, ap, subst, ◌∙◌, append_assoc, one-add, arith}
use Rattle.std.proofs.lemmas.List.{append-nil, map-append, length-append}
use Rattle.std.proofs.lemmas.List.Sums.{sum_by-append}
use Rattle.std.proofs.lemmas.List.Elements.{All-nil, All-cons}
use Rattle.std.proofs.lemmas.Bool.Decides.{nat_tests}
use Rattle.std.specs.Prelude.{◌||◌, not, slice_get, if◌then◌else◌}
use Rattle.std.specs.List.{All, AllByRecursion, list_any, list_all, position_or_len}
use Rattle.std.specs.Str.{bytes_eq}
use Rattle.me_io.specs.declared.source.TheConstants.{MAX_BYTES}
use Rattle.me_terms.specs.LabelEquality.{same_symbol}
use Rattle.me_terms.specs.LabelEqualityLaws.{same_symbol_sound}
use Rattle.me_terms.specs.Labels.{IsFunctionSymbol, IsPredicateSymbol}
use Rattle.me_terms.specs.Signatures.{with_symbol, number_of, takes, is_known, are_known, is_known_atom}
use Rattle.me_terms.specs.Measures.{literal_weight, literals_weight}
use Rattle.me_terms.specs.Validity.{clause_variables, IsValidClause, IsValid}
use Rattle.me_terms.specs.Values.{SymbolValue, SignatureValue, ClauseValue, ProblemValue}
use Rattle.me_terms.specs.Variables as variables
use Rattle.me_terms.specs.Variables.{is_numbered_from}
use Rattle.me_terms.specs.declared.atom.Literal.{Literal}
use Rattle.tptp_grammar.specs.Limits.{with_variables}
use Rattle.tptp_grammar.specs.Written as written
use Rattle.tptp_grammar.specs.Written.{WrittenTerm, Distinct, Apply, WrittenTerms, NoTerms, OneMore, WrittenAtom, Truth, Predicate, WrittenLiteral, WrittenFormula}
use Rattle.tptp_cnf.specs.Meaning as meaning
use Rattle.tptp_cnf.specs.Meaning.{is_positive, literals_of, is_left_out, name_symbol, term_functions, terms_functions, variables_in_term, terms_variables, atom_predicates, atom_functions, atom_variables, literals_predicates, literals_functions, literals_variables, file_predicates, file_functions, with_symbols, text_place, term_of, terms_of, signed_literal, clause_literals, variables_in_formula, clause_of, clauses_of, is_constant, c0_symbol, with_constant, problem_of}
use Rattle.tptp_cnf.specs.Files.{IsFile, clauses_weight}
use Rattle.tptp_cnf.proofs.Lawful.{both, AllLawful, tokens_lawful, FormulaLawful, file_lawful, functions_lawful, predicates_lawful}
use Rattle.tptp_cnf.proofs.Numbering.{Longer, longer_same, longer_on, symbol_has, symbol_longer, text_has, text_longer, position_stays}
use Rattle.tptp_cnf.proofs.Reached.{all_of}
use Rattle.tptp_cnf.proofs.Sizes.{Small}
use Rattle.tptp_cnf.proofs.Variables.{pushed}

-- ---- symbols that stand in a list

-- the symbols stand in the list
abbrev pub Stand : List SymbolValue → List SymbolValue → Type 0
Stand ss known = AllByRecursion (λ s. list_any (same_symbol s) known ≡ true) ss

any_append : (p : SymbolValue → Bool) (xs ys : List SymbolValue) → list_any p xs ≡ true → list_any p (xs ++ ys) ≡ true
any_append p [] ys h = absurd cc
any_append p (x ∷ xs) ys h = either (p x) (list_any p xs) (list_any p (xs ++ ys)) h (any_append p xs ys)
  where
    either : (a b c : Bool) → (a || b) ≡ true → (b ≡ true → c ≡ true) → (a || c) ≡ true
    either true b c h k = refl
    either false b c h k = k h

pub any_longer : (p : SymbolValue → Bool) (xs ys : List SymbolValue) → Longer xs ys → list_any p xs ≡ true → list_any p ys ≡ true
any_longer p xs ys l h = ap (list_any p) l.1 ∙ any_append p xs l.0 h

stays : (ss known : List SymbolValue) (s : SymbolValue) → list_any (same_symbol s) known ≡ true → list_any (same_symbol s) (with_symbols known ss) ≡ true
stays [] known s h = h
stays (t ∷ ss) known s h = stays ss (with_symbol known t) s (any_longer (same_symbol s) known (with_symbol known t) (symbol_longer known t) h)

stand : (ss known : List SymbolValue) → Stand ss (with_symbols known ss)
stand [] known = tt
stand (s ∷ ss) known = (stays ss (with_symbol known s) s (symbol_has known s), stand ss (with_symbol known s))

stand_longer : (ss xs ys : List SymbolValue) → Longer xs ys → Stand ss xs → Stand ss ys
stand_longer [] xs ys l h = tt
stand_longer (s ∷ ss) xs ys l h = (any_longer (same_symbol s) xs ys l h.0, stand_longer ss xs ys l h.1)

stand_front : (xs ys known : List SymbolValue) → Stand (xs ++ ys) known → Stand xs known
stand_front [] ys known h = tt
stand_front (x ∷ xs) ys known h = (h.0, stand_front xs ys known h.1)

stand_back : (xs ys known : List SymbolValue) → Stand (xs ++ ys) known → Stand ys known
stand_back [] ys known h = h
stand_back (x ∷ xs) ys known h = stand_back xs ys known h.1

same_arity : (s t : SymbolValue) → same_symbol s t ≡ true → eqb t.arity s.arity ≡ true
same_arity s t e = let k : s.arity ≡ t.arity = ap (λ (x : SymbolValue). x.arity) (same_symbol_sound s t e) in grind (arith, nat_tests)

-- the first symbol that passes a test takes as many arguments as the test says
passed : (p : SymbolValue → Bool) (n : ℕ) (ss : List SymbolValue) → ((t : SymbolValue) → p t ≡ true → eqb t.arity n ≡ true) → list_any p ss ≡ true → takes (slice_get ss (position_or_len p ss)) n ≡ true
passed p n [] says h = absurd cc
passed p n (t ∷ ss) says h = here (p t) (list_any p ss) (position_or_len p ss) h (says t) (passed p n ss says)
  where
    here : (b c : Bool) (k : ℕ) → (b || c) ≡ true → (b ≡ true → eqb t.arity n ≡ true) → (c ≡ true → takes (slice_get ss k) n ≡ true) → takes (slice_get (t ∷ ss) (cond (not b) (1 + k) 0)) n ≡ true
    here true c k j first rest = first refl
    here false c k j first rest = rw one-add (rest j)

found : (ss : List SymbolValue) (s : SymbolValue) → list_any (same_symbol s) ss ≡ true → takes (slice_get ss (number_of s ss)) s.arity ≡ true
found ss s h = passed (same_symbol s) s.arity ss (same_arity s) h

-- ---- known symbols

counts : (functions : List SymbolValue) (vs : List (List ℕ)) (ts : WrittenTerms) → variables.count (terms_of functions vs ts) ≡ meaning.terms_count ts
counts functions vs NoTerms = refl
counts functions vs (OneMore t ts) = omega (arith, counts functions vs ts)

both_true : (a b : Bool) → a ≡ true → b ≡ true → (a && b) ≡ true
both_true a b h k = rw (h, k) refl

module _ (signature : SignatureValue) (vs : List (List ℕ)) where
  taken : (functions : List SymbolValue) (s : SymbolValue) (n : ℕ) → n ≡ s.arity → list_any (same_symbol s) functions ≡ true → takes (slice_get functions (number_of s functions)) n ≡ true
  taken functions s n e h = ap (takes (slice_get functions (number_of s functions))) e ∙ found functions s h

  mutual
    term_known : (t : WrittenTerm) → Stand (term_functions t) signature.functions → is_known signature (term_of signature.functions vs t) ≡ true
    term_known (written.Variable text) h = refl
    term_known (Distinct text) h = both_true _ _ (found signature.functions (meaning.symbol (meaning.distinct text) 0) h.0) refl
    term_known (Apply name ts) h =
        both_true (takes (slice_get signature.functions (number_of (name_symbol name ts) signature.functions)) (variables.count (terms_of signature.functions vs ts))) (are_known signature (terms_of signature.functions vs ts))
        (taken signature.functions (name_symbol name ts) (variables.count (terms_of signature.functions vs ts)) (counts signature.functions vs ts) h.0)
        (terms_known ts h.1)

    terms_known : (ts : WrittenTerms) → Stand (terms_functions ts) signature.functions → are_known signature (terms_of signature.functions vs ts) ≡ true
    terms_known NoTerms h = refl
    terms_known (OneMore t ts) h =
        both_true (is_known signature (term_of signature.functions vs t)) (are_known signature (terms_of signature.functions vs ts))
        (term_known t (stand_front (term_functions t) (terms_functions ts) signature.functions h))
        (terms_known ts (stand_back (term_functions t) (terms_functions ts) signature.functions h))

  abbrev all_known : List Literal → Bool
  all_known ls = list_all (λ l. is_known_atom signature l.atom) ls

  all_append : (xs ys : List Literal) → all_known xs ≡ true → all_known ys ≡ true → all_known (xs ++ ys) ≡ true
  all_append [] ys h k = k
  all_append (x ∷ xs) ys h k = go (is_known_atom signature x.atom) (all_known xs) h (λ j. all_append xs ys j k)
    where
      go : (a b : Bool) → (a && b) ≡ true → (b ≡ true → all_known (xs ++ ys) ≡ true) → (a && all_known (xs ++ ys)) ≡ true
      go true b j f = f j
      go false b j f = absurd cc

  atom_known : (positive : Bool) (a : WrittenAtom) → Stand (atom_predicates a) signature.predicates → Stand (atom_functions a) signature.functions → all_known (signed_literal signature vs positive a) ≡ true
  atom_known positive (Truth value) h k = refl
  atom_known positive (Predicate name ts) h k =
      both_true (takes (slice_get signature.predicates (number_of (name_symbol name ts) signature.predicates)) (variables.count (terms_of signature.functions vs ts)) && are_known signature (terms_of signature.functions vs ts)) true
      (both_true (takes (slice_get signature.predicates (number_of (name_symbol name ts) signature.predicates)) (variables.count (terms_of signature.functions vs ts))) (are_known signature (terms_of signature.functions vs ts))
      (taken signature.predicates (name_symbol name ts) (variables.count (terms_of signature.functions vs ts)) (counts signature.functions vs ts) h.0)
      (terms_known ts k))
      refl

  literals_known : (ls : List WrittenLiteral) → Stand (literals_predicates ls) signature.predicates → Stand (literals_functions ls) signature.functions → all_known (clause_literals signature vs ls) ≡ true
  literals_known [] h k = refl
  literals_known (l ∷ ls) h k =
      all_append (signed_literal signature vs (is_positive l.sign) l.atom) (clause_literals signature vs ls)
      (atom_known (is_positive l.sign) l.atom (stand_front (atom_predicates l.atom) (literals_predicates ls) signature.predicates h) (stand_front (atom_functions l.atom) (literals_functions ls) signature.functions k))
      (literals_known ls (stand_back (atom_predicates l.atom) (literals_predicates ls) signature.predicates h) (stand_back (atom_functions l.atom) (literals_functions ls) signature.functions k))

-- ---- variables

abbrev places : List (List ℕ) → List (List ℕ) → List ℕ
places vs texts = map (λ text. text_place text vs) texts

module _ (functions : List SymbolValue) (vs : List (List ℕ)) where
  mutual
    term_places : (t : WrittenTerm) → variables.term_variables (term_of functions vs t) ≡ places vs (variables_in_term t)
    term_places (written.Variable text) = refl
    term_places (Distinct text) = refl
    term_places (Apply name ts) = terms_places ts

    terms_places : (ts : WrittenTerms) → variables.variables_of (terms_of functions vs ts) ≡ places vs (terms_variables ts)
    terms_places NoTerms = refl
    terms_places (OneMore t ts) =
        ap (λ (x : List ℕ). x ++ variables.variables_of (terms_of functions vs ts)) (term_places t)
        ∙ ap (λ (x : List ℕ). places vs (variables_in_term t) ++ x) (terms_places ts)
        ∙ sym (map-append (λ text. text_place text vs) (variables_in_term t) (terms_variables ts))

variables-append : (xs ys : List Literal) → clause_variables (xs ++ ys) ≡ clause_variables xs ++ clause_variables ys
variables-append [] ys = refl
variables-append (x ∷ xs) ys = ap (λ (z : List ℕ). variables.variables_of x.atom.args ++ z) (variables-append xs ys) ∙ sym (append_assoc (variables.variables_of x.atom.args) (clause_variables xs) (clause_variables ys))

atom_places : (signature : SignatureValue) (vs : List (List ℕ)) (positive : Bool) (a : WrittenAtom) → clause_variables (signed_literal signature vs positive a) ≡ places vs (atom_variables a)
atom_places signature vs positive (Truth value) = refl
atom_places signature vs positive (Predicate name ts) = append-nil (variables.variables_of (terms_of signature.functions vs ts)) ∙ terms_places signature.functions vs ts

literals_places : (signature : SignatureValue) (vs : List (List ℕ)) (ls : List WrittenLiteral) → clause_variables (clause_literals signature vs ls) ≡ places vs (literals_variables ls)
literals_places signature vs [] = refl
literals_places signature vs (l ∷ ls) =
    variables-append (signed_literal signature vs (is_positive l.sign) l.atom) (clause_literals signature vs ls)
    ∙ ap (λ (x : List ℕ). x ++ clause_variables (clause_literals signature vs ls)) (atom_places signature vs (is_positive l.sign) l.atom)
    ∙ ap (λ (x : List ℕ). places vs (atom_variables l.atom) ++ x) (literals_places signature vs ls)
    ∙ sym (map-append (λ text. text_place text vs) (atom_variables l.atom) (literals_variables ls))

texts_longer : (texts known : List (List ℕ)) → Longer known (with_variables known texts)
texts_longer [] known = ([], sym (append-nil known))
texts_longer (t ∷ texts) known =
    let one = text_longer known t in
    let more = texts_longer texts (with_variables known (t ∷ [])) in
    (one.0 ++ more.0, more.1 ∙ ap (λ (x : List (List ℕ)). x ++ more.0) one.1 ∙ append_assoc known one.0 more.0)

place_within : (text : List ℕ) (known : List (List ℕ)) → list_any (bytes_eq text) known ≡ true → text_place text known < length known
place_within text [] h = absurd cc
place_within text (k ∷ known) h = by (bytes_eq text k) (list_any (bytes_eq text) known) h (place_within text known)
  where
    by : (a b : Bool) → (a || b) ≡ true → (b ≡ true → text_place text known < length known) → cond (not a) (1 + text_place text known) 0 < length (k ∷ known)
    by true b j f = omega arith
    by false b j f = omega (arith, f j)

place_new : (text : List ℕ) (known : List (List ℕ)) → list_any (bytes_eq text) known ≡ false → text_place text known ≡ length known
place_new text [] h = refl
place_new text (k ∷ known) h = by (bytes_eq text k) (list_any (bytes_eq text) known) h (place_new text known)
  where
    by : (a b : Bool) → (a || b) ≡ false → (b ≡ false → text_place text known ≡ length known) → cond (not a) (1 + text_place text known) 0 ≡ length (k ∷ known)
    by true b j f = absurd cc
    by false b j f = omega (arith, f j)

numbered_old : (n p : ℕ) (ps : List ℕ) → p < n → is_numbered_from n ps ≡ true → is_numbered_from n (p ∷ ps) ≡ true
numbered_old n p ps lt h = let t : ltb p n ≡ true = grind (arith, nat_tests) in ap (λ (b : Bool). if b then is_numbered_from n ps else (eqb p n && is_numbered_from (n + 1) ps)) t ∙ h

numbered_new : (n p : ℕ) (ps : List ℕ) → p ≡ n → is_numbered_from (n + 1) ps ≡ true → is_numbered_from n (p ∷ ps) ≡ true
numbered_new n p ps e h =
    let t : ltb p n ≡ false = grind (arith, nat_tests) in
    let u : eqb p n ≡ true = grind (arith, nat_tests) in
    ap (λ (b : Bool). if b then is_numbered_from n ps else (eqb p n && is_numbered_from (n + 1) ps)) t ∙ both_true (eqb p n) (is_numbered_from (n + 1) ps) u h

module _ (t : List ℕ) (texts known all : List (List ℕ)) where
  abbrev one : List (List ℕ)
  one = with_variables known (t ∷ [])

  abbrev one_if : Bool → List (List ℕ)
  one_if b = if b then known else known ++ t ∷ []

  numbered_by : (b : Bool) → list_any (bytes_eq t) known ≡ b → Longer one all → is_numbered_from (length one) (places all texts) ≡ true → is_numbered_from (length known) (places all (t ∷ texts)) ≡ true
  numbered_by true e longer rest =
      let same : one ≡ known = ap one_if e in
      let place : text_place t known ≡ text_place t all = ap (text_place t) (sym same) ∙ position_stays (bytes_eq t) one all (text_has known t) longer in
      numbered_old (length known) (text_place t all) (places all texts) (subst (λ (n : ℕ). n < length known) place (place_within t known e))
      (ap (λ (x : List (List ℕ)). is_numbered_from (length x) (places all texts)) (sym same) ∙ rest)
  numbered_by false e longer rest =
      let same : one ≡ known ++ t ∷ [] = ap one_if e in
      let long : length known + 1 ≡ length one = omega (arith, ap length same, length-append known (t ∷ [])) in
      let place : text_place t all ≡ length known =
      sym (position_stays (bytes_eq t) one all (text_has known t) longer) ∙ ap (text_place t) same ∙ sym (pushed t known e) ∙ place_new t known e in
      numbered_new (length known) (text_place t all) (places all texts) place (ap (λ (n : ℕ). is_numbered_from n (places all texts)) long ∙ rest)

-- texts by their places among all of them are numbered by first occurrence
numbered_texts : (texts known all : List (List ℕ)) → Longer (with_variables known texts) all → is_numbered_from (length known) (places all texts) ≡ true
numbered_texts [] known all l = refl
numbered_texts (t ∷ texts) known all l =
    let one : List (List ℕ) = with_variables known (t ∷ []) in
    numbered_by t texts known all (list_any (bytes_eq t) known) refl (longer_on one (with_variables one texts) all (texts_longer texts one) l) (numbered_texts texts one all l)

-- ---- clauses

clause_numbered : (signature : SignatureValue) (f : WrittenFormula) → is_numbered_from 0 (clause_variables (clause_literals signature (variables_in_formula f) (literals_of f))) ≡ true
clause_numbered signature f =
    ap (is_numbered_from 0) (literals_places signature (variables_in_formula f) (literals_of f))
    ∙ numbered_texts (literals_variables (literals_of f)) [] (variables_in_formula f) (longer_same (variables_in_formula f))

literals_light : (ls : List Literal) → length ls ≤ literals_weight ls
literals_light [] = omega arith
literals_light (l ∷ ls) = omega (arith, literals_light ls, sum_by-append literal_weight (l ∷ []) ls)

pub record Kept (signature : SignatureValue) (f : WrittenFormula) : Type 0 where
  pub functions : Stand (literals_functions (literals_of f)) signature.functions
  pub predicates : Stand (literals_predicates (literals_of f)) signature.predicates

valid_clause : (signature : SignatureValue) (n bound : ℕ) (f : WrittenFormula) → FormulaLawful f → Kept signature f → literals_weight (clause_literals signature (variables_in_formula f) (literals_of f)) ≤ bound → bound ≤ MAX_BYTES → IsValidClause signature (clause_of signature n f)
valid_clause signature n bound f h k le small = record {
  known = literals_known signature (variables_in_formula f) (literals_of f) k.predicates k.functions;
  numbered = clause_numbered signature f;
  named = h.label;
  few_literals = omega (arith, literals_light (clause_literals signature (variables_in_formula f) (literals_of f)));
}

sum_more : (c : ClauseValue) (cs : List ClauseValue) → clauses_weight (c ∷ cs) ≡ literals_weight c.literals + clauses_weight cs
sum_more c cs = omega (arith, sum_by-append (λ d. literals_weight d.literals) (c ∷ []) cs)

valid_by : (b : Bool) (signature : SignatureValue) (n bound : ℕ) (f : WrittenFormula) (cs : List ClauseValue) → FormulaLawful f → (b ≡ false → Kept signature f)
    → clauses_weight (if b then cs else clause_of signature n f ∷ cs) ≤ bound → bound ≤ MAX_BYTES → (clauses_weight cs ≤ bound → All (IsValidClause signature) cs) → All (IsValidClause signature) (if b then cs else clause_of signature n f ∷ cs)
valid_by true signature n bound f cs h k le small rest = rest le
valid_by false signature n bound f cs h k le small rest =
    All-cons (IsValidClause signature) (clause_of signature n f) cs (valid_clause signature n bound f h (k refl) (omega (arith, sum_more (clause_of signature n f) cs)) small) (rest (omega (arith, sum_more (clause_of signature n f) cs)))

-- the symbols of a formula that is kept stand among those of the file
stand_by : (b c : Bool) (xs ys known : List SymbolValue) → b ≡ c → Stand (if b then ys else xs ++ ys) known → (c ≡ false → Stand xs known) × Stand ys known
stand_by true true xs ys known e h = ((λ k. absurd cc), h)
stand_by false false xs ys known e h = ((λ k. stand_front xs ys known h), stand_back xs ys known h)
stand_by true false xs ys known e h = absurd cc
stand_by false true xs ys known e h = absurd cc

valid_clauses : (fs : List WrittenFormula) (signature : SignatureValue) (n bound : ℕ) → AllByRecursion FormulaLawful fs → Stand (file_functions fs) signature.functions → Stand (file_predicates fs) signature.predicates
    → clauses_weight (clauses_of signature n fs) ≤ bound → bound ≤ MAX_BYTES → All (IsValidClause signature) (clauses_of signature n fs)
valid_clauses [] signature n bound h i j le small = All-nil (IsValidClause signature)
valid_clauses (f ∷ fs) signature n bound h i j le small =
    let a = stand_by (is_left_out f) (is_left_out f) (literals_functions (literals_of f)) (file_functions fs) signature.functions refl i in
    let b = stand_by (is_left_out f) (is_left_out f) (literals_predicates (literals_of f)) (file_predicates fs) signature.predicates refl j in
    valid_by (is_left_out f) signature n bound f (clauses_of signature (n + 1) fs) h.0 (λ e. record { functions = a.0 e; predicates = b.0 e }) le small
    (λ less. valid_clauses fs signature (n + 1) bound h.1 a.1 b.1 less small)

-- ---- symbols

one_more : (P : SymbolValue → Type 0) (b : Bool) (known : List SymbolValue) (s : SymbolValue) → AllByRecursion P known → P s → AllByRecursion P (if b then known else known ++ s ∷ [])
one_more P true known s h k = h
one_more P false known s h k = both P known (s ∷ []) h (k, tt)

all_known_symbols : (P : SymbolValue → Type 0) (ss known : List SymbolValue) → AllByRecursion P known → AllByRecursion P ss → AllByRecursion P (with_symbols known ss)
all_known_symbols P [] known h k = h
all_known_symbols P (s ∷ ss) known h k = all_known_symbols P ss (with_symbol known s) (one_more P (list_any (same_symbol s) known) known s h k.0) k.1

all_of_them : (P : SymbolValue → Type 0) (ss : List SymbolValue) → AllByRecursion P ss → All P ss
all_of_them P [] h = All-nil P
all_of_them P (s ∷ ss) h = All-cons P s ss h.0 (all_of_them P ss h.1)

c0_function : IsFunctionSymbol c0_symbol
c0_function = (((λ e. cc), refl), tt)

constant_longer : (b : Bool) (functions : List SymbolValue) → Longer functions (if b then functions else functions ++ c0_symbol ∷ [])
constant_longer true functions = longer_same functions
constant_longer false functions = (c0_symbol ∷ [], refl)

has_constant : (b : Bool) (functions : List SymbolValue) → list_any is_constant functions ≡ b → list_any is_constant (if b then functions else functions ++ c0_symbol ∷ []) ≡ true
has_constant true functions e = e
has_constant false functions e = any_back functions
  where
    any_back : (xs : List SymbolValue) → list_any is_constant (xs ++ c0_symbol ∷ []) ≡ true
    any_back [] = refl
    any_back (x ∷ xs) = or_true (is_constant x) (list_any is_constant (xs ++ c0_symbol ∷ [])) (any_back xs)
      where
        or_true : (a b : Bool) → b ≡ true → (a || b) ≡ true
        or_true true b h = refl
        or_true false b h = h

-- ---- problems

file_valid : (fs : List WrittenFormula) (bound : ℕ) → AllByRecursion FormulaLawful fs → clauses_weight (problem_of fs).clauses + length (problem_of fs).clauses ≤ bound → bound ≤ MAX_BYTES → IsValid (problem_of fs)
file_valid fs bound h le small =
    let fns : List SymbolValue = with_symbols [] (file_functions fs) in
    let b : Bool = list_any is_constant fns in
    record {
      clauses = valid_clauses fs (problem_of fs).signature 1 bound h
          (stand_longer (file_functions fs) fns (with_constant fns) (constant_longer b fns) (stand (file_functions fs) []))
          (stand (file_predicates fs) [])
          (omega arith) small;
      few_clauses = omega arith;
      functions = all_of_them IsFunctionSymbol (with_constant fns) (one_more IsFunctionSymbol b fns c0_symbol (all_known_symbols IsFunctionSymbol (file_functions fs) [] tt (functions_lawful fs h)) c0_function);
      predicates = all_of_them IsPredicateSymbol (with_symbols [] (file_predicates fs)) (all_known_symbols IsPredicateSymbol (file_predicates fs) [] tt (predicates_lawful fs h));
      c0_constant = passed is_constant 0 (with_constant fns) (λ t e. e) (has_constant b fns refl);
    }

pub valid : (bytes : List ℕ) (problem : ProblemValue) → IsFile bytes problem → Small bytes problem → length bytes ≤ MAX_BYTES → IsValid problem
valid bytes problem f s le =
    let lawful = file_lawful f.file (subst AllLawful f.written.written (tokens_lawful f.tokens (all_of bytes) f.cut)) in
    let size = subst (Small bytes) f.means s in
    subst IsValid (sym f.means) (file_valid f.file (length bytes) lawful size.clauses le)
