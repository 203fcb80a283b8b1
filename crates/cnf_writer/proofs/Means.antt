-- The tree of a plain problem means the problem.
use Rattle.std.proofs.Common.{◌≡◌, ◌≢◌, ◌<◌, ◌≤◌, ◌+◌, ℕ, Bool, true, false, List, [], ◌∷◌, ◌++◌, length, Option, Some, None, refl, sym, ap, subst, ◌∙◌, arith}
use Rattle.std.proofs.lemmas.Grind.{flat_map-append}
use Rattle.std.proofs.lemmas.List.{map-append}
use Rattle.std.specs.Prelude.{◌||◌, slice_get, option_to_list, if◌then◌else◌}
use Rattle.std.specs.List.{AllByRecursion, list_all, list_any, flat_map, position_or_len}
use Rattle.me_terms.specs.Labels.{IsClauseLabel}
use Rattle.me_terms.specs.Signatures.{takes, is_known, are_known, is_known_atom, number_of}
use Rattle.me_terms.specs.TermEqualityLaws.{both_parts}
use Rattle.me_terms.specs.Terms.{TermValue, Var, App, Arguments, Nil, Cons, AtomValue}
use Rattle.me_terms.specs.Validity.{clause_variables}
use Rattle.me_terms.specs.Values.{LabelValue, SymbolValue, SignatureValue, ClauseValue, ProblemValue}
use Rattle.me_terms.specs.Variables as variables
use Rattle.me_terms.specs.Variables.{is_numbered_from, first_ones}
use Rattle.me_terms.specs.declared.atom.Literal.{Literal}
use Rattle.me_terms.specs.declared.symbol.Form.{Form}
use Rattle.me_terms.specs.declared.symbol.Form.TheVariants as form
use Rattle.tptp_tokens.specs.Bytes.{is_lower_word}
use Rattle.tptp_grammar.specs.Limits.{with_variables}
use Rattle.tptp_grammar.specs.Written.{name_text, WrittenTerms, WrittenFormula}
use Rattle.tptp_cnf.specs.Meaning as meaning
use Rattle.tptp_cnf.specs.Meaning.{word, distinct, symbol, label_of, name_symbol, is_positive, is_true_atom, is_true, literals_of, is_left_out, term_functions, terms_functions, variables_in_term, terms_variables, atom_predicates, atom_functions, atom_variables, literals_predicates, literals_functions, literals_variables, file_predicates, file_functions, text_place, term_of, terms_of, signed_literal, clause_literals, clause_of, clauses_of, with_symbols, with_constant, is_constant, signature_of, problem_of}
use Rattle.tptp_cnf.specs.Plain.{term_function_numbers, function_numbers, symbols_at, clauses_functions, clauses_predicates, HasNumbersFrom}
use Rattle.cnf_writer.proofs.Places.{Different, number_at, different_symbols, different_constant, length-upto, Small, place_is, with_first, all_so, Numbered, numbered}
use Rattle.cnf_writer.proofs.Trees.{name_if, name_of, label_as, variable_text, applied, term_tree, terms_tree, predicate, atom_tree, sign_of, literal_trees, formula_tree, clauses_tree, problem_tree, Entry, a_word, an_object, entry, WordEntry, word_entry, nil_of, LawfulSignature, all_front, all_back, names}

-- ---- names and labels

name_same : (text : List ℕ) → name_text (name_of text) ≡ text
name_same text = by (is_lower_word text)
  where
    by : (b : Bool) → name_text (name_if b text) ≡ text
    by true = refl
    by false = refl

label_same : (f : Form) (text : List ℕ) → f ≢ form.Distinct → label_of (label_as f text) ≡ record { form = f; text = text }
label_same form.Word text n = ap word (name_same text)
label_same form.Distinct text n = absurd (n refl)
label_same form.Number text n = refl

sign_same : (b : Bool) → is_positive (sign_of b) ≡ b
sign_same true = refl
sign_same false = refl

counts : (functions : List SymbolValue) (ts : Arguments) → meaning.terms_count (terms_tree functions ts) ≡ variables.count ts
counts functions Nil = refl
counts functions (Cons t ts) = omega (arith, counts functions ts)

module _ (signature : SignatureValue) (lawful : LawfulSignature signature) where
  abbrev fs : List SymbolValue
  fs = signature.functions

  name_is : (text : List ℕ) (ts : Arguments) → name_symbol (name_of text) (terms_tree fs ts) ≡ symbol (word text) (variables.count ts)
  name_is text ts = ap (λ (x : List ℕ). symbol (word x) (meaning.terms_count (terms_tree fs ts))) (name_same text) ∙ ap (λ (n : ℕ). symbol (word text) n) (counts fs ts)

  -- ---- the symbols and variables, as often as they stand

  applied_functions : (o : Option SymbolValue) (ts : Arguments) → Entry o (variables.count ts) → terms_functions (terms_tree fs ts) ≡ symbols_at fs (function_numbers ts)
      → term_functions (applied o (terms_tree fs ts)) ≡ option_to_list o ++ symbols_at fs (function_numbers ts)
  applied_functions o ts (a_word text e r) h =
      subst (λ (x : Option SymbolValue). term_functions (applied x (terms_tree fs ts)) ≡ option_to_list x ++ symbols_at fs (function_numbers ts)) (sym e)
      (ap (λ (s : SymbolValue). s ∷ terms_functions (terms_tree fs ts)) (name_is text ts) ∙ ap (λ (x : List SymbolValue). symbol (word text) (variables.count ts) ∷ x) h)
  applied_functions o ts (an_object text e r z) h =
      subst (λ (x : Option SymbolValue). term_functions (applied x (terms_tree fs ts)) ≡ option_to_list x ++ symbols_at fs (function_numbers ts)) (sym e)
      (ap (λ (n : ℕ). symbol (distinct text) n ∷ []) (sym z) ∙ ap (λ (x : Arguments). symbol (distinct text) (variables.count ts) ∷ symbols_at fs (function_numbers x)) (sym (nil_of ts z)))

  mutual
    functions_of_term : (t : TermValue) → is_known signature t ≡ true → term_functions (term_tree fs t) ≡ symbols_at fs (term_function_numbers t)
    functions_of_term (Var x) k = refl
    functions_of_term (App f ts) k =
        let parts = both_parts (takes (slice_get fs f) (variables.count ts)) (are_known signature ts) k in
        applied_functions (slice_get fs f) ts (entry fs f (variables.count ts) lawful.functions parts.0) (functions_of_terms ts parts.1)

    functions_of_terms : (ts : Arguments) → are_known signature ts ≡ true → terms_functions (terms_tree fs ts) ≡ symbols_at fs (function_numbers ts)
    functions_of_terms Nil k = refl
    functions_of_terms (Cons t ts) k =
        let parts = both_parts (is_known signature t) (are_known signature ts) k in
        ap (λ (x : List SymbolValue). x ++ terms_functions (terms_tree fs ts)) (functions_of_term t parts.0)
        ∙ ap (λ (x : List SymbolValue). symbols_at fs (term_function_numbers t) ++ x) (functions_of_terms ts parts.1)
        ∙ sym (flat_map-append (λ n. option_to_list (slice_get fs n)) (term_function_numbers t) (function_numbers ts))

  applied_variables : (o : Option SymbolValue) (ts : Arguments) → Entry o (variables.count ts) → terms_variables (terms_tree fs ts) ≡ names (variables.variables_of ts) → variables_in_term (applied o (terms_tree fs ts)) ≡ names (variables.variables_of ts)
  applied_variables o ts (a_word text e r) h = subst (λ (x : Option SymbolValue). variables_in_term (applied x (terms_tree fs ts)) ≡ names (variables.variables_of ts)) (sym e) h
  applied_variables o ts (an_object text e r z) h =
      subst (λ (x : Option SymbolValue). variables_in_term (applied x (terms_tree fs ts)) ≡ names (variables.variables_of ts)) (sym e) (ap (λ (x : Arguments). names (variables.variables_of x)) (sym (nil_of ts z)))

  mutual
    variables_of_term : (t : TermValue) → is_known signature t ≡ true → variables_in_term (term_tree fs t) ≡ names (variables.term_variables t)
    variables_of_term (Var x) k = refl
    variables_of_term (App f ts) k =
        let parts = both_parts (takes (slice_get fs f) (variables.count ts)) (are_known signature ts) k in
        applied_variables (slice_get fs f) ts (entry fs f (variables.count ts) lawful.functions parts.0) (variables_of_terms ts parts.1)

    variables_of_terms : (ts : Arguments) → are_known signature ts ≡ true → terms_variables (terms_tree fs ts) ≡ names (variables.variables_of ts)
    variables_of_terms Nil k = refl
    variables_of_terms (Cons t ts) k =
        let parts = both_parts (is_known signature t) (are_known signature ts) k in
        ap (λ (x : List (List ℕ)). x ++ terms_variables (terms_tree fs ts)) (variables_of_term t parts.0)
        ∙ ap (λ (x : List (List ℕ)). names (variables.term_variables t) ++ x) (variables_of_terms ts parts.1)
        ∙ sym (map-append (λ x. variable_text x) (variables.term_variables t) (variables.variables_of ts))

  -- ---- terms

  module _ (different : Different fs) (vs : List (List ℕ)) where
    abbrev Placed : ℕ → Type 0
    Placed x = text_place (variable_text x) vs ≡ x

    applied_same : (f : ℕ) (o : Option SymbolValue) (ts : Arguments) → slice_get fs f ≡ o → Entry o (variables.count ts) → terms_of fs vs (terms_tree fs ts) ≡ ts → term_of fs vs (applied o (terms_tree fs ts)) ≡ App f ts
    applied_same f o ts at (a_word text e r) h =
        ap (λ (x : Option SymbolValue). term_of fs vs (applied x (terms_tree fs ts))) e
        ∙ ap (λ (s : SymbolValue). App (number_of s fs) (terms_of fs vs (terms_tree fs ts))) (name_is text ts)
        ∙ ap (λ (n : ℕ). App n (terms_of fs vs (terms_tree fs ts))) (number_at fs f (symbol (word text) (variables.count ts)) different (at ∙ e))
        ∙ ap (λ (x : Arguments). App f x) h
    applied_same f o ts at (an_object text e r z) h =
        ap (λ (x : Option SymbolValue). term_of fs vs (applied x (terms_tree fs ts))) e
        ∙ ap (λ (n : ℕ). App (number_of (symbol (distinct text) n) fs) Nil) (sym z)
        ∙ ap (λ (n : ℕ). App n Nil) (number_at fs f (symbol (distinct text) (variables.count ts)) different (at ∙ e))
        ∙ ap (λ (x : Arguments). App f x) (sym (nil_of ts z))

    mutual
      term_same : (t : TermValue) → is_known signature t ≡ true → AllByRecursion Placed (variables.term_variables t) → term_of fs vs (term_tree fs t) ≡ t
      term_same (Var x) k v = ap (λ (n : ℕ). Var n) v.0
      term_same (App f ts) k v =
          let parts = both_parts (takes (slice_get fs f) (variables.count ts)) (are_known signature ts) k in
          applied_same f (slice_get fs f) ts refl (entry fs f (variables.count ts) lawful.functions parts.0) (terms_same ts parts.1 v)

      terms_same : (ts : Arguments) → are_known signature ts ≡ true → AllByRecursion Placed (variables.variables_of ts) → terms_of fs vs (terms_tree fs ts) ≡ ts
      terms_same Nil k v = refl
      terms_same (Cons t ts) k v =
          let parts = both_parts (is_known signature t) (are_known signature ts) k in
          ap (λ (x : TermValue). Cons x (terms_of fs vs (terms_tree fs ts))) (term_same t parts.0 (all_front Placed (variables.term_variables t) (variables.variables_of ts) v))
          ∙ ap (λ (x : Arguments). Cons t x) (terms_same ts parts.1 (all_back Placed (variables.term_variables t) (variables.variables_of ts) v))

  -- ---- atoms and literals

  predicate_true : (b : Bool) (o : Option SymbolValue) (ws : WrittenTerms) → is_true_atom b (predicate o ws) ≡ false
  predicate_true b None ws = refl
  predicate_true b (Some s) ws = refl

  predicate_functions : (o : Option SymbolValue) (ws : WrittenTerms) → atom_functions (predicate o ws) ≡ terms_functions ws
  predicate_functions None ws = refl
  predicate_functions (Some s) ws = refl

  predicate_variables : (o : Option SymbolValue) (ws : WrittenTerms) → atom_variables (predicate o ws) ≡ terms_variables ws
  predicate_variables None ws = refl
  predicate_variables (Some s) ws = refl

  predicate_symbols : (o : Option SymbolValue) (ts : Arguments) → WordEntry o (variables.count ts) → atom_predicates (predicate o (terms_tree fs ts)) ≡ option_to_list o
  predicate_symbols o ts e =
      subst (λ (x : Option SymbolValue). atom_predicates (predicate x (terms_tree fs ts)) ≡ option_to_list x) (sym e.at) (ap (λ (s : SymbolValue). s ∷ []) (name_is e.text ts))

  abbrev all_known : List Literal → Bool
  all_known ls = list_all (λ l. is_known_atom signature l.atom) ls

  atom_parts : (a : AtomValue) → is_known_atom signature a ≡ true → (takes (slice_get signature.predicates a.pred) (variables.count a.args) ≡ true) × (are_known signature a.args ≡ true)
  atom_parts a k = both_parts (takes (slice_get signature.predicates a.pred) (variables.count a.args)) (are_known signature a.args) k

  none_true : (ls : List Literal) → list_any is_true (literal_trees signature ls) ≡ false
  none_true [] = refl
  none_true (l ∷ ls) =
      ap (λ (b : Bool). b || list_any is_true (literal_trees signature ls)) (predicate_true (is_positive (sign_of l.positive)) (slice_get signature.predicates l.atom.pred) (terms_tree fs l.atom.args))
      ∙ none_true ls

  functions_of_literals : (ls : List Literal) → all_known ls ≡ true → literals_functions (literal_trees signature ls) ≡ symbols_at fs (flat_map (λ l. function_numbers l.atom.args) ls)
  functions_of_literals [] k = refl
  functions_of_literals (l ∷ ls) k =
      let parts = both_parts (is_known_atom signature l.atom) (all_known ls) k in
      let more : List SymbolValue = literals_functions (literal_trees signature ls) in
      ap (λ (x : List SymbolValue). x ++ more) (predicate_functions (slice_get signature.predicates l.atom.pred) (terms_tree fs l.atom.args) ∙ functions_of_terms l.atom.args (atom_parts l.atom parts.0).1)
      ∙ ap (λ (x : List SymbolValue). symbols_at fs (function_numbers l.atom.args) ++ x) (functions_of_literals ls parts.1)
      ∙ sym (flat_map-append (λ n. option_to_list (slice_get fs n)) (function_numbers l.atom.args) (flat_map (λ m. function_numbers m.atom.args) ls))

  predicates_of_literals : (ls : List Literal) → all_known ls ≡ true → literals_predicates (literal_trees signature ls) ≡ symbols_at signature.predicates (flat_map (λ l. l.atom.pred ∷ []) ls)
  predicates_of_literals [] k = refl
  predicates_of_literals (l ∷ ls) k =
      let parts = both_parts (is_known_atom signature l.atom) (all_known ls) k in
      let o : Option SymbolValue = slice_get signature.predicates l.atom.pred in
      ap (λ (x : List SymbolValue). x ++ literals_predicates (literal_trees signature ls)) (predicate_symbols o l.atom.args (word_entry signature.predicates l.atom.pred (variables.count l.atom.args) lawful.predicates (atom_parts l.atom parts.0).0))
      ∙ ap (λ (x : List SymbolValue). option_to_list o ++ x) (predicates_of_literals ls parts.1)

  variables_of_literals : (ls : List Literal) → all_known ls ≡ true → literals_variables (literal_trees signature ls) ≡ names (clause_variables ls)
  variables_of_literals [] k = refl
  variables_of_literals (l ∷ ls) k =
      let parts = both_parts (is_known_atom signature l.atom) (all_known ls) k in
      ap (λ (x : List (List ℕ)). x ++ literals_variables (literal_trees signature ls)) (predicate_variables (slice_get signature.predicates l.atom.pred) (terms_tree fs l.atom.args) ∙ variables_of_terms l.atom.args (atom_parts l.atom parts.0).1)
      ∙ ap (λ (x : List (List ℕ)). names (variables.variables_of l.atom.args) ++ x) (variables_of_literals ls parts.1)
      ∙ sym (map-append (λ x. variable_text x) (variables.variables_of l.atom.args) (clause_variables ls))

  module _ (functions : Different fs) (predicates : Different signature.predicates) (vs : List (List ℕ)) where
    abbrev PlacedIn : ℕ → Type 0
    PlacedIn x = text_place (variable_text x) vs ≡ x

    literal : Bool → ℕ → Arguments → Literal
    literal b n ts = record { positive = b; atom = record { pred = n; args = ts } }

    literal_same : (l : Literal) → is_known_atom signature l.atom ≡ true → AllByRecursion PlacedIn (variables.variables_of l.atom.args)
        → signed_literal signature vs (is_positive (sign_of l.positive)) (atom_tree signature l.atom) ≡ l ∷ []
    unfolding literal
    literal_same l k v =
        let parts = atom_parts l.atom k in
        let o : Option SymbolValue = slice_get signature.predicates l.atom.pred in
        let e = word_entry signature.predicates l.atom.pred (variables.count l.atom.args) lawful.predicates parts.0 in
        let ws : WrittenTerms = terms_tree fs l.atom.args in
        ap (λ (b : Bool). signed_literal signature vs b (predicate o ws)) (sign_same l.positive)
        ∙ ap (λ (x : Option SymbolValue). signed_literal signature vs l.positive (predicate x ws)) e.at
        ∙ ap (λ (s : SymbolValue). literal l.positive (number_of s signature.predicates) (terms_of fs vs ws) ∷ []) (name_is e.text l.atom.args)
        ∙ ap (λ (n : ℕ). literal l.positive n (terms_of fs vs ws) ∷ []) (number_at signature.predicates l.atom.pred (symbol (word e.text) (variables.count l.atom.args)) predicates e.at)
        ∙ ap (λ (x : Arguments). literal l.positive l.atom.pred x ∷ []) (terms_same functions vs l.atom.args parts.1 v)

    literals_same : (ls : List Literal) → all_known ls ≡ true → AllByRecursion PlacedIn (clause_variables ls) → clause_literals signature vs (literal_trees signature ls) ≡ ls
    literals_same [] k v = refl
    literals_same (l ∷ ls) k v =
        let parts = both_parts (is_known_atom signature l.atom) (all_known ls) k in
        ap (λ (x : List Literal). x ++ clause_literals signature vs (literal_trees signature ls)) (literal_same l parts.0 (all_front PlacedIn (variables.variables_of l.atom.args) (clause_variables ls) v))
        ∙ ap (λ (x : List Literal). l ∷ x) (literals_same ls parts.1 (all_back PlacedIn (variables.variables_of l.atom.args) (clause_variables ls) v))

  -- ---- formulas

  not_left_out : (label : LabelValue) (ls : List Literal) → is_left_out (formula_tree signature label ls) ≡ false
  not_left_out label [] = refl
  not_left_out label (l ∷ ls) = none_true (l ∷ ls)

  formula_functions : (label : LabelValue) (ls : List Literal) → all_known ls ≡ true → literals_functions (literals_of (formula_tree signature label ls)) ≡ symbols_at fs (flat_map (λ l. function_numbers l.atom.args) ls)
  formula_functions label [] k = refl
  formula_functions label (l ∷ ls) k = functions_of_literals (l ∷ ls) k

  formula_predicates : (label : LabelValue) (ls : List Literal) → all_known ls ≡ true → literals_predicates (literals_of (formula_tree signature label ls)) ≡ symbols_at signature.predicates (flat_map (λ l. l.atom.pred ∷ []) ls)
  formula_predicates label [] k = refl
  formula_predicates label (l ∷ ls) k = predicates_of_literals (l ∷ ls) k

  formula_variables : (label : LabelValue) (ls : List Literal) → all_known ls ≡ true → literals_variables (literals_of (formula_tree signature label ls)) ≡ names (clause_variables ls)
  formula_variables label [] k = refl
  formula_variables label (l ∷ ls) k = variables_of_literals (l ∷ ls) k

  formula_literals : (vs : List (List ℕ)) (label : LabelValue) (ls : List Literal) → clause_literals signature vs (literals_of (formula_tree signature label ls)) ≡ clause_literals signature vs (literal_trees signature ls)
  formula_literals vs label [] = refl
  formula_literals vs label (l ∷ ls) = refl

  formula_label : (label : LabelValue) (ls : List Literal) → IsClauseLabel label → label_of (formula_tree signature label ls).label ≡ label
  formula_label label [] h = label_same label.form label.text h.1
  formula_label label (l ∷ ls) h = label_same label.form label.text h.1

  -- what is said of a clause that means itself
  pub record Meant (c : ClauseValue) : Type 0 where
    pub known : list_all (λ l. is_known_atom signature l.atom) c.literals ≡ true
    pub numbered : is_numbered_from 0 (clause_variables c.literals) ≡ true
    pub label : IsClauseLabel c.label
    pub few : length (first_ones [] (clause_variables c.literals)) ≤ 1024

  all_functions : (cs : List ClauseValue) → AllByRecursion Meant cs → file_functions (clauses_tree signature cs) ≡ symbols_at fs (clauses_functions cs)
  all_functions [] h = refl
  all_functions (c ∷ cs) h =
      let own : List ℕ = flat_map (λ l. function_numbers l.atom.args) c.literals in
      let tree : WrittenFormula = formula_tree signature c.label c.literals in
      let more : List SymbolValue = file_functions (clauses_tree signature cs) in
      ap (λ (b : Bool). if b then more else literals_functions (literals_of tree) ++ more) (not_left_out c.label c.literals)
      ∙ ap (λ (x : List SymbolValue). x ++ more) (formula_functions c.label c.literals h.0.known)
      ∙ ap (λ (x : List SymbolValue). symbols_at fs own ++ x) (all_functions cs h.1)
      ∙ sym (flat_map-append (λ n. option_to_list (slice_get fs n)) own (clauses_functions cs))

  all_predicates : (cs : List ClauseValue) → AllByRecursion Meant cs → file_predicates (clauses_tree signature cs) ≡ symbols_at signature.predicates (clauses_predicates cs)
  all_predicates [] h = refl
  all_predicates (c ∷ cs) h =
      let own : List ℕ = flat_map (λ l. l.atom.pred ∷ []) c.literals in
      let tree : WrittenFormula = formula_tree signature c.label c.literals in
      let more : List SymbolValue = file_predicates (clauses_tree signature cs) in
      ap (λ (b : Bool). if b then more else literals_predicates (literals_of tree) ++ more) (not_left_out c.label c.literals)
      ∙ ap (λ (x : List SymbolValue). x ++ more) (formula_predicates c.label c.literals h.0.known)
      ∙ ap (λ (x : List SymbolValue). symbols_at signature.predicates own ++ x) (all_predicates cs h.1)
      ∙ sym (flat_map-append (λ n. option_to_list (slice_get signature.predicates n)) own (clauses_predicates cs))

  pub record Known (c : ClauseValue) : Type 0 where
    pub texts : with_variables [] (names (clause_variables c.literals)) ≡ names (first_ones [] (clause_variables c.literals))
    pub small : AllByRecursion Small (clause_variables c.literals)
    pub placed : AllByRecursion (λ x. text_place (variable_text x) (names (first_ones [] (clause_variables c.literals))) ≡ x) (clause_variables c.literals)

  pub known_variables : (c : ClauseValue) → Meant c → Known c
  known_variables c h =
      let xs : List ℕ = clause_variables c.literals in
      let n : Numbered 0 xs = numbered xs 0 h.numbered in
      let m : n.count ≤ 1024 = omega (arith, h.few, ap length n.ones, length-upto n.count) in
      let small : AllByRecursion Small xs = all_so (λ x. x < n.count) Small xs (λ x lt. omega (arith, m, lt)) n.below in
      record {
        texts = with_first xs [] small tt;
        small = small;
        placed = all_so (λ x. x < n.count) (λ x. text_place (variable_text x) (names (first_ones [] xs)) ≡ x) xs
            (λ x lt. ap (λ (ys : List ℕ). text_place (variable_text x) (names ys)) n.ones ∙ place_is x n.count lt m) n.below;
      }

  module _ (functions : Different fs) (predicates : Different signature.predicates) where
    clause : ℕ → LabelValue → List Literal → ClauseValue
    clause n label ls = record { number = n; label = label; literals = ls }

    clause_same : (c : ClauseValue) (n : ℕ) → Meant c → c.number ≡ n → clause_of signature n (formula_tree signature c.label c.literals) ≡ c
    unfolding clause
    clause_same c n h e =
        let xs : List ℕ = clause_variables c.literals in
        let vs : List (List ℕ) = names (first_ones [] xs) in
        let tree : WrittenFormula = formula_tree signature c.label c.literals in
        let known = known_variables c h in
        let own : meaning.variables_in_formula tree ≡ vs = ap (λ (x : List (List ℕ)). with_variables [] x) (formula_variables c.label c.literals h.known) ∙ known.texts in
        let literals : clause_literals signature (meaning.variables_in_formula tree) (literals_of tree) ≡ c.literals =
        ap (λ (x : List (List ℕ)). clause_literals signature x (literals_of tree)) own ∙ formula_literals vs c.label c.literals ∙ literals_same functions predicates vs c.literals h.known known.placed in
        ap (λ (m : ℕ). clause m (label_of tree.label) (clause_literals signature (meaning.variables_in_formula tree) (literals_of tree))) (sym e)
        ∙ ap (λ (l : LabelValue). clause c.number l (clause_literals signature (meaning.variables_in_formula tree) (literals_of tree))) (formula_label c.label c.literals h.label)
        ∙ ap (λ (ls : List Literal). clause c.number c.label ls) literals

    clauses_same : (cs : List ClauseValue) (n : ℕ) → AllByRecursion Meant cs → HasNumbersFrom n cs → clauses_of signature n (clauses_tree signature cs) ≡ cs
    clauses_same [] n h k = refl
    clauses_same (c ∷ cs) n h k =
        let tree : WrittenFormula = formula_tree signature c.label c.literals in
        let more : List ClauseValue = clauses_of signature (n + 1) (clauses_tree signature cs) in
        ap (λ (b : Bool). if b then more else clause_of signature n tree ∷ more) (not_left_out c.label c.literals)
        ∙ ap (λ (x : ClauseValue). x ∷ more) (clause_same c n h.0 k.0)
        ∙ ap (λ (x : List ClauseValue). c ∷ x) (clauses_same cs (n + 1) h.1 k.1)

-- ---- problems

problem : List ClauseValue → SignatureValue → ℕ → ProblemValue
problem cs signature c0 = record { clauses = cs; signature = signature; c0 = c0 }

both_lists : List SymbolValue → List SymbolValue → SignatureValue
both_lists functions predicates = record { functions = functions; predicates = predicates }

pub means_itself : (p : ProblemValue) (lawful : LawfulSignature p.signature) → AllByRecursion (Meant p.signature lawful) p.clauses → HasNumbersFrom 1 p.clauses
    → p.signature.functions ≡ with_constant (with_symbols [] (symbols_at p.signature.functions (clauses_functions p.clauses)))
    → p.signature.predicates ≡ with_symbols [] (symbols_at p.signature.predicates (clauses_predicates p.clauses))
    → p.c0 ≡ position_or_len is_constant p.signature.functions → p ≡ problem_of (problem_tree p)
unfolding problem both_lists
means_itself p lawful meant numbers functions predicates constant =
    let signature : SignatureValue = p.signature in
    let tree : List WrittenFormula = problem_tree p in
    let fs : List SymbolValue = symbols_at signature.functions (clauses_functions p.clauses) in
    let ps : List SymbolValue = symbols_at signature.predicates (clauses_predicates p.clauses) in
    let different = subst Different (sym functions) (different_constant (with_symbols [] fs) (different_symbols fs [] tt)) in
    let others = subst Different (sym predicates) (different_symbols ps [] tt) in
    let same : signature_of tree ≡ signature =
    ap (λ (x : List SymbolValue). both_lists (with_constant (with_symbols [] x)) (with_symbols [] (file_predicates tree))) (all_functions signature lawful p.clauses meant)
    ∙ ap (λ (x : List SymbolValue). both_lists (with_constant (with_symbols [] fs)) (with_symbols [] x)) (all_predicates signature lawful p.clauses meant)
    ∙ ap (λ (x : List SymbolValue). both_lists x (with_symbols [] ps)) (sym functions)
    ∙ ap (λ (x : List SymbolValue). both_lists signature.functions x) (sym predicates) in
    sym (
    ap (λ (x : SignatureValue). problem (clauses_of x 1 tree) x (position_or_len is_constant x.functions)) same
    ∙ ap (λ (x : List ClauseValue). problem x signature (position_or_len is_constant signature.functions)) (clauses_same signature lawful different others p.clauses 1 meant numbers)
    ∙ ap (λ (n : ℕ). problem p.clauses signature n) (sym constant)
    )
