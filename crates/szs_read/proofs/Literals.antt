-- What is known of literals that are still to come.
use Rattle.std.proofs.Common.{◌≡◌, ◌≢◌, ◌<◌, ◌≤◌, ◌^◌, ℕ, Bool, true, false, List, [], ◌∷◌, ◌++◌, map, Option, Some, None, refl, sym, ap, subst, ◌∙◌, append_assoc}
use Rattle.std.proofs.lemmas.Bool.{eqb-true}
use Rattle.std.proofs.lemmas.List.{append-nil}
use Rattle.std.specs.Prelude.{slice_get, option_to_list, codes, if◌then◌else◌}
use Rattle.std.specs.List.{AllByRecursion, flat_map}
use Rattle.me_terms.specs.Labels.{IsFunctionForm, IsFunctionSymbol, IsPredicateSymbol}
use Rattle.me_terms.specs.Signatures.{takes, is_known, are_known, with_symbol, number_of}
use Rattle.me_terms.specs.TermEqualityLaws.{both_parts}
use Rattle.me_terms.specs.Terms.{TermValue, Var, App, Arguments, Nil, Cons}
use Rattle.me_terms.specs.Values.{SymbolValue, SignatureValue}
use Rattle.me_terms.specs.Variables.{count, term_variables, variables_of, depths}
use Rattle.me_terms.specs.declared.atom.Literal.{Literal}
use Rattle.me_terms.specs.declared.symbol.Form.{Form}
use Rattle.me_terms.specs.declared.symbol.Form.TheVariants as form
use Rattle.cnf_text.specs.ClauseText.{symbol_text, arguments_text, literal_text}
use Rattle.tptp_cnf.specs.Meaning.{with_symbols}
use Rattle.tptp_cnf.specs.Plain.{symbols_at, function_numbers, term_function_numbers}
use Rattle.tptp_cnf.proofs.Numbering.{Longer}
use Rattle.tptp_tokens.specs.Bytes.{is_lower_word}
use Rattle.szs_read.specs.Claims.{IsLiteralOver, functions_in, predicates_in}
use Rattle.szs_read.specs.Coming.{IsAddedAs, AreNodesToCome, AreSymbolsToCome, AreLiteralsToCome}
use Rattle.szs_read.specs.LineTokens.{word_token, form_token, symbol_token}
use Rattle.szs_read.specs.RowItems.{symbol_name, node_name, literal_names, is_name_kind, AreNames}
use Rattle.szs_read.specs.Rows.{term_nodes, nodes_of, node_functions}
use Rattle.szs_read.specs.declared.number.Node.{Node}
use Rattle.szs_read.proofs.Cuts.{IsNamed, IsReadableTerm, AreReadableTerms, IsReadableLiteral}
use Rattle.szs_read.proofs.Nodes.{terms_functions}
use Rattle.szs_read.proofs.Renumbering.{new_terms, text_new, terms_lawful, some_is}
use Rattle.szs_read.proofs.Symbols.{taken_at, at_both, with_both, get_longer, number_is, symbols_longer}

front : {X : Type 0} (P : X → Type 0) (xs ys : List X) → AllByRecursion P (xs ++ ys) → AllByRecursion P xs
front P [] ys h = tt
front P (x ∷ xs) ys h = (h.0, front P xs ys h.1)

back : {X : Type 0} (P : X → Type 0) (xs ys : List X) → AllByRecursion P (xs ++ ys) → AllByRecursion P ys
back P [] ys h = h
back P (x ∷ xs) ys h = back P xs ys h.1

-- ---- readable symbols

not_number : (f : Form) (n : ℕ) → IsFunctionForm f n → f ≡ form.Number → ⊥
not_number form.Word n h e = cc
not_number form.Distinct n h e = cc
not_number form.Number n h e = h

word_number : (f : Form) → f ≡ form.Word → f ≡ form.Number → ⊥
word_number f h e = let x : form.Word ≡ form.Number = sym h ∙ e in cc

named_function : (o : Option SymbolValue) (n : ℕ) (more : List SymbolValue) → takes o n ≡ true → AllByRecursion IsFunctionSymbol (option_to_list o ++ more) → IsNamed o × AllByRecursion IsFunctionSymbol more
named_function None n more t h = absurd cc
named_function (Some s) n more t h = ((h.0.0, not_number s.label.form s.arity h.0.1), h.1)

module _ (s : SignatureValue) where
  mutual
    term_readable : (t : TermValue) → is_known s t ≡ true → AllByRecursion (λ x. x < 2 ^ 32) (term_variables t) → AllByRecursion IsFunctionSymbol (symbols_at s.functions (term_function_numbers t)) → IsReadableTerm s.functions t
    term_readable (Var x) k v h = v.0
    term_readable (App f ts) k v h =
        let parts = both_parts (takes (slice_get s.functions f) (count ts)) (are_known s ts) k in
        let n = named_function (slice_get s.functions f) (count ts) (symbols_at s.functions (function_numbers ts)) parts.0 h in
        (n.0, terms_readable ts parts.1 v n.1)

    terms_readable : (ts : Arguments) → are_known s ts ≡ true → AllByRecursion (λ x. x < 2 ^ 32) (variables_of ts) → AllByRecursion IsFunctionSymbol (symbols_at s.functions (function_numbers ts)) → AreReadableTerms s.functions ts
    terms_readable Nil k v h = tt
    terms_readable (Cons t ts) k v h =
        let parts = both_parts (is_known s t) (are_known s ts) k in
        let xs : List SymbolValue = symbols_at s.functions (term_function_numbers t) in
        let ys : List SymbolValue = symbols_at s.functions (function_numbers ts) in
        let g : AllByRecursion IsFunctionSymbol (xs ++ ys) = subst (AllByRecursion IsFunctionSymbol) (at_both s.functions (term_function_numbers t) (function_numbers ts)) h in (
          term_readable t parts.0 (front (λ x. x < 2 ^ 32) (term_variables t) (variables_of ts) v) (front IsFunctionSymbol xs ys g),
          terms_readable ts parts.1 (back (λ x. x < 2 ^ 32) (term_variables t) (variables_of ts) v) (back IsFunctionSymbol xs ys g),
        )

-- ---- names

named_kind : (o : Option SymbolValue) → IsNamed o → is_name_kind (symbol_token o).kind ≡ true
named_kind None h = absurd h
named_kind (Some s) h = by s.label.form s.label.text h.1
  where
    word : (b : Bool) (text : List ℕ) → is_name_kind (word_token b text).kind ≡ true
    word true text = refl
    word false text = refl

    by : (f : Form) (text : List ℕ) → f ≢ form.Number → is_name_kind (form_token f text).kind ≡ true
    by form.Word text n = word (is_lower_word text) text
    by form.Distinct text n = refl
    by form.Number text n = absurd (n refl)

module _ (functions : List SymbolValue) where
  abbrev Fine : List Node → Type 0
  Fine nodes = AreNames (map (node_name functions) nodes)

  fine_both : (xs ys : List Node) → Fine xs → Fine ys → Fine (xs ++ ys)
  fine_both [] ys h k = k
  fine_both (x ∷ xs) ys h k = (h.0, fine_both xs ys h.1 k)

  mutual
    term_fine : (t : TermValue) → IsReadableTerm functions t → Fine (term_nodes t)
    term_fine (Var x) h = (refl, tt)
    term_fine (App f ts) h = (named_kind (slice_get functions f) h.0, terms_fine ts h.1)

    terms_fine : (ts : Arguments) → AreReadableTerms functions ts → Fine (nodes_of ts)
    terms_fine Nil h = tt
    terms_fine (Cons t ts) h = fine_both (term_nodes t) (nodes_of ts) (term_fine t h.0) (terms_fine ts h.1)

pub names_fine : (s : SignatureValue) (l : Literal) → IsReadableLiteral s l → AreNames (literal_names s l)
names_fine s l h = (named_kind (slice_get s.predicates l.atom.pred) h.predicate, terms_fine s.functions l.atom.args h.arguments)

-- ---- one literal that comes

pub record LiteralComes (now end : SignatureValue) (b : ℕ) (l : Literal) (functions predicates : List SymbolValue) : Type 0 where
  pub symbol : SymbolValue
  pub readable : IsPredicateSymbol symbol
  pub is : slice_get end.predicates l.atom.pred ≡ Some symbol
  pub arity : symbol.arity ≡ count l.atom.args
  pub predicates_are : end.predicates ≡ with_symbols (with_symbol now.predicates symbol) predicates
  pub nodes : AreNodesToCome now.functions end.functions (nodes_of l.atom.args) functions
  pub known : are_known end l.atom.args ≡ true
  pub flat : depths l.atom.args ≤ b
  pub can_be_read : IsReadableLiteral end l

pub literal_comes : (now end : SignatureValue) (b : ℕ) (l : Literal) (functions predicates : List SymbolValue) → AreLiteralsToCome now end b (l ∷ []) functions predicates → LiteralComes now end b l functions predicates
literal_comes now end b l functions predicates h =
    let o : IsLiteralOver end b l = h.over.0 in
    let parts = both_parts (takes (slice_get end.predicates l.atom.pred) (count l.atom.args)) (are_known end l.atom.args) o.known in
    let t = taken_at (slice_get end.predicates l.atom.pred) (count l.atom.args) parts.0 in
    let readable : IsPredicateSymbol t.symbol = (subst (λ (x : Option SymbolValue). AllByRecursion IsPredicateSymbol (option_to_list x ++ [])) t.is h.readable_predicates).0 in
    let numbers : function_numbers l.atom.args ++ [] ≡ node_functions (nodes_of l.atom.args) = append-nil (function_numbers l.atom.args) ∙ sym (terms_functions l.atom.args) in
    let all : AllByRecursion IsFunctionSymbol (symbols_at end.functions (function_numbers l.atom.args)) = subst (λ (v : List ℕ). AllByRecursion IsFunctionSymbol (symbols_at end.functions v)) (append-nil (function_numbers l.atom.args)) h.readable_functions in
    record {
      symbol = t.symbol;
      readable = readable;
      is = t.is;
      arity = eqb-true t.symbol.arity (count l.atom.args) t.arity;
      predicates_are = h.symbols.predicates_are ∙ ap (λ (x : Option SymbolValue). with_symbols now.predicates ((option_to_list x ++ []) ++ predicates)) t.is;
      nodes = record {
        symbols = h.symbols.functions_are ∙ ap (λ (v : List ℕ). with_symbols now.functions (symbols_at end.functions v ++ functions)) numbers;
        readable = subst (λ (v : List ℕ). AllByRecursion IsFunctionSymbol (symbols_at end.functions v)) numbers h.readable_functions;
        lawful = terms_lawful end l.atom.args parts.1 o.variables;
      };
      known = parts.1;
      flat = o.few_brackets;
      can_be_read = record {
        predicate = subst IsNamed (sym t.is) (readable.0, word_number t.symbol.label.form readable.1);
        arguments = terms_readable end l.atom.args parts.1 o.variables all;
      };
    }

pub predicate_name : (now end : SignatureValue) (b : ℕ) (l : Literal) (functions predicates : List SymbolValue) (c : LiteralComes now end b l functions predicates) → record { token = symbol_token (slice_get end.predicates l.atom.pred); arity = count l.atom.args } ≡ symbol_name c.symbol
predicate_name now end b l functions predicates c = λ i. record { token = symbol_token (c.is i); arity = sym c.arity i }

abbrev literal : Bool → ℕ → Arguments → Literal
literal b p ts = record { positive = b; atom = record { pred = p; args = ts } }

pub literal_found : (old mid new end : SignatureValue) (b : ℕ) (l : Literal) (functions predicates : List SymbolValue) (p : ℕ) (positive : Bool) (args : Arguments) (c : LiteralComes old end b l functions predicates)
    → IsAddedAs (Some p) c.symbol old.predicates mid.predicates → end.functions ≡ with_symbols new.functions functions → new.predicates ≡ mid.predicates → args ≡ new_terms end.functions l.atom.args → positive ≡ l.positive
    → (literal_text end (literal positive p args) ≡ literal_text end l) × AreSymbolsToCome new end functions predicates
literal_found old mid new end b l functions predicates p positive args c a fs ps ts sign =
    let n : p ≡ number_of c.symbol (with_symbol old.predicates c.symbol) = some_is p (number_of c.symbol mid.predicates) a.0 ∙ ap (number_of c.symbol) a.1 in
    let longer : Longer (with_symbol old.predicates c.symbol) end.predicates = subst (λ (v : List SymbolValue). Longer (with_symbol old.predicates c.symbol) v) (sym c.predicates_are) (symbols_longer (with_symbol old.predicates c.symbol) predicates) in
    let place : slice_get end.predicates p ≡ slice_get end.predicates l.atom.pred =
    ap (slice_get end.predicates) n ∙ get_longer (with_symbol old.predicates c.symbol) end.predicates (number_of c.symbol (with_symbol old.predicates c.symbol)) c.symbol longer (number_is old.predicates c.symbol) ∙ sym c.is in (
      ap (λ (v : Bool). (if v then [] else codes "~") ++ (symbol_text (slice_get end.predicates p) ++ arguments_text end args)) sign
          ∙ ap (λ (o : Option SymbolValue). (if l.positive then [] else codes "~") ++ (symbol_text o ++ arguments_text end args)) place
          ∙ ap (λ (v : List ℕ). (if l.positive then [] else codes "~") ++ (symbol_text (slice_get end.predicates l.atom.pred) ++ v)) (ap (arguments_text end) ts ∙ text_new end l.atom.args c.known),
      record { functions_are = fs; predicates_are = c.predicates_are ∙ ap (λ (v : List SymbolValue). with_symbols v predicates) (sym (ps ∙ a.1)) },
    )

-- ---- a list of literals that come

functions_first : (end : SignatureValue) (l : Literal) (ls : List Literal) → functions_in end (l ∷ ls) ≡ functions_in end (l ∷ []) ++ functions_in end ls
functions_first end l ls =
    at_both end.functions (function_numbers l.atom.args) (flat_map (λ m. function_numbers m.atom.args) ls)
    ∙ ap (λ (v : List ℕ). symbols_at end.functions v ++ functions_in end ls) (sym (append-nil (function_numbers l.atom.args)))

predicates_first : (end : SignatureValue) (l : Literal) (ls : List Literal) → predicates_in end (l ∷ ls) ≡ predicates_in end (l ∷ []) ++ predicates_in end ls
predicates_first end l ls = at_both end.predicates (l.atom.pred ∷ []) (map (λ m. m.atom.pred) ls)

pub first_literal : (now end : SignatureValue) (b : ℕ) (l : Literal) (ls : List Literal) (functions predicates : List SymbolValue) → AreLiteralsToCome now end b (l ∷ ls) functions predicates → AreLiteralsToCome now end b (l ∷ []) (functions_in end ls ++ functions) (predicates_in end ls ++ predicates)
first_literal now end b l ls functions predicates h = record {
  over = (h.over.0, tt);
  symbols = record {
    functions_are = h.symbols.functions_are ∙ ap (λ (v : List SymbolValue). with_symbols now.functions (v ++ functions)) (functions_first end l ls) ∙ ap (with_symbols now.functions) (append_assoc (functions_in end (l ∷ [])) (functions_in end ls) functions);
    predicates_are = h.symbols.predicates_are ∙ ap (λ (v : List SymbolValue). with_symbols now.predicates (v ++ predicates)) (predicates_first end l ls) ∙ ap (with_symbols now.predicates) (append_assoc (predicates_in end (l ∷ [])) (predicates_in end ls) predicates);
  };
  readable_functions = front IsFunctionSymbol (functions_in end (l ∷ [])) (functions_in end ls) (subst (AllByRecursion IsFunctionSymbol) (functions_first end l ls) h.readable_functions);
  readable_predicates = front IsPredicateSymbol (predicates_in end (l ∷ [])) (predicates_in end ls) (subst (AllByRecursion IsPredicateSymbol) (predicates_first end l ls) h.readable_predicates);
}

pub other_literals : (now new end : SignatureValue) (b : ℕ) (l : Literal) (ls : List Literal) (functions predicates : List SymbolValue) → AreLiteralsToCome now end b (l ∷ ls) functions predicates → AreSymbolsToCome new end (functions_in end ls ++ functions) (predicates_in end ls ++ predicates) → AreLiteralsToCome new end b ls functions predicates
other_literals now new end b l ls functions predicates h s = record {
  over = h.over.1;
  symbols = s;
  readable_functions = back IsFunctionSymbol (functions_in end (l ∷ [])) (functions_in end ls) (subst (AllByRecursion IsFunctionSymbol) (functions_first end l ls) h.readable_functions);
  readable_predicates = back IsPredicateSymbol (predicates_in end (l ∷ [])) (predicates_in end ls) (subst (AllByRecursion IsPredicateSymbol) (predicates_first end l ls) h.readable_predicates);
}

pub all_readable : (now end : SignatureValue) (b : ℕ) (ls : List Literal) (functions predicates : List SymbolValue) → AreLiteralsToCome now end b ls functions predicates → AllByRecursion (IsReadableLiteral end) ls
all_readable now end b [] functions predicates h = tt
all_readable now end b (l ∷ ls) functions predicates h =
    let fs : List SymbolValue = functions_in end ls ++ functions in
    let ps : List SymbolValue = predicates_in end ls ++ predicates in
    let c = literal_comes now end b l fs ps (first_literal now end b l ls functions predicates h) in
    let mid : SignatureValue = record { functions = with_symbols now.functions (functions_in end (l ∷ [])); predicates = with_symbols now.predicates (predicates_in end (l ∷ [])) } in
    (c.can_be_read, all_readable mid end b ls functions predicates (other_literals now mid end b l ls functions predicates h (symbols_after now end (l ∷ []) fs ps (first_literal now end b l ls functions predicates h).symbols)))
  where
    symbols_after : (now end : SignatureValue) (ls : List Literal) (fs ps : List SymbolValue) → AreSymbolsToCome now end (functions_in end ls ++ fs) (predicates_in end ls ++ ps)
        → AreSymbolsToCome (record { functions = with_symbols now.functions (functions_in end ls); predicates = with_symbols now.predicates (predicates_in end ls) }) end fs ps
    symbols_after now end ls fs ps h = record { functions_are = h.functions_are ∙ with_both (functions_in end ls) fs now.functions; predicates_are = h.predicates_are ∙ with_both (predicates_in end ls) ps now.predicates }
