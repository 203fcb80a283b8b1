-- The names of the row of a written tree are those of the tree, and the row is built up to what the tree means.
use Rattle.std.proofs.Common.{◌≡◌, ℕ, Bool, true, false, List, [], ◌∷◌, ◌++◌, map, take, drop, refl, ap, ◌∙◌, append_assoc}
use Rattle.std.proofs.lemmas.List.{map-append}
use Rattle.std.proofs.lemmas.Grind.{flat_map-append}
use Rattle.std.specs.List.{flat_map}
use Rattle.me_terms.specs.Terms.{TermValue, App, Arguments, Nil, Cons, arguments_of}
use Rattle.me_terms.specs.Values.{SymbolValue}
use Rattle.me_terms.specs.declared.atom.Literal.{Literal}
use Rattle.tptp_grammar.specs.Written as written
use Rattle.tptp_grammar.specs.Written.{Name, Bare, Quoted, WrittenTerm, Distinct, Apply, WrittenTerms, NoTerms, OneMore, WrittenAtom, Truth, Predicate, WrittenLiteral}
use Rattle.tptp_grammar.specs.Printed.{name_terminal}
use Rattle.tptp_cnf.specs.Meaning.{terms_count, name_symbol, is_positive, term_functions, terms_functions, variables_in_term, terms_variables, atom_predicates, atom_functions, atom_variables, literals_predicates, literals_functions, literals_variables, term_of, terms_of, signed_literal, clause_literals}
use Rattle.tptp_cnf.specs.Rows.{ItemValue, item, Names, names_signature, node_in, Built, with_node, built}
use Rattle.tptp_cnf.specs.declared.item.Role.{Role}
use Rattle.tptp_cnf.specs.declared.item.Role.TheVariants as role
use Rattle.tptp_cnf.specs.declared.item.Node.{Node}
use Rattle.tptp_cnf.proofs.Fed.{flat_term, flat_terms, flat_atom, flat_literals}
use Rattle.tptp_cnf.proofs.Numbering.{item_functions, item_predicates, item_variables}

-- ---- names

mutual
  functions_of_term : (t : WrittenTerm) → flat_map item_functions (flat_term t) ≡ term_functions t
  functions_of_term (written.Variable text) = refl
  functions_of_term (Distinct text) = refl
  functions_of_term (Apply (Bare text) ts) = ap (λ (x : List SymbolValue). name_symbol (Bare text) ts ∷ x) (functions_of_terms ts)
  functions_of_term (Apply (Quoted text) ts) = ap (λ (x : List SymbolValue). name_symbol (Quoted text) ts ∷ x) (functions_of_terms ts)

  functions_of_terms : (ts : WrittenTerms) → flat_map item_functions (flat_terms ts) ≡ terms_functions ts
  functions_of_terms NoTerms = refl
  functions_of_terms (OneMore t ts) =
      flat_map-append item_functions (flat_term t) (flat_terms ts)
      ∙ ap (λ (x : List SymbolValue). x ++ flat_map item_functions (flat_terms ts)) (functions_of_term t)
      ∙ ap (λ (x : List SymbolValue). term_functions t ++ x) (functions_of_terms ts)

mutual
  predicates_of_term : (t : WrittenTerm) → flat_map item_predicates (flat_term t) ≡ []
  predicates_of_term (written.Variable text) = refl
  predicates_of_term (Distinct text) = refl
  predicates_of_term (Apply name ts) = predicates_of_terms ts

  predicates_of_terms : (ts : WrittenTerms) → flat_map item_predicates (flat_terms ts) ≡ []
  predicates_of_terms NoTerms = refl
  predicates_of_terms (OneMore t ts) =
      flat_map-append item_predicates (flat_term t) (flat_terms ts)
      ∙ ap (λ (x : List SymbolValue). x ++ flat_map item_predicates (flat_terms ts)) (predicates_of_term t)
      ∙ predicates_of_terms ts

mutual
  variables_of_term : (t : WrittenTerm) → flat_map item_variables (flat_term t) ≡ variables_in_term t
  variables_of_term (written.Variable text) = refl
  variables_of_term (Distinct text) = refl
  variables_of_term (Apply name ts) = variables_of_terms ts

  variables_of_terms : (ts : WrittenTerms) → flat_map item_variables (flat_terms ts) ≡ terms_variables ts
  variables_of_terms NoTerms = refl
  variables_of_terms (OneMore t ts) =
      flat_map-append item_variables (flat_term t) (flat_terms ts)
      ∙ ap (λ (x : List (List ℕ)). x ++ flat_map item_variables (flat_terms ts)) (variables_of_term t)
      ∙ ap (λ (x : List (List ℕ)). variables_in_term t ++ x) (variables_of_terms ts)

functions_of_atom : (b : Bool) (a : WrittenAtom) → flat_map item_functions (flat_atom b a) ≡ atom_functions a
functions_of_atom b (Truth value) = refl
functions_of_atom true (Predicate name ts) = functions_of_terms ts
functions_of_atom false (Predicate name ts) = functions_of_terms ts

predicates_of_atom : (b : Bool) (a : WrittenAtom) → flat_map item_predicates (flat_atom b a) ≡ atom_predicates a
predicates_of_atom b (Truth value) = refl
predicates_of_atom true (Predicate (Bare text) ts) = ap (λ (x : List SymbolValue). name_symbol (Bare text) ts ∷ x) (predicates_of_terms ts)
predicates_of_atom true (Predicate (Quoted text) ts) = ap (λ (x : List SymbolValue). name_symbol (Quoted text) ts ∷ x) (predicates_of_terms ts)
predicates_of_atom false (Predicate (Bare text) ts) = ap (λ (x : List SymbolValue). name_symbol (Bare text) ts ∷ x) (predicates_of_terms ts)
predicates_of_atom false (Predicate (Quoted text) ts) = ap (λ (x : List SymbolValue). name_symbol (Quoted text) ts ∷ x) (predicates_of_terms ts)

variables_of_atom : (b : Bool) (a : WrittenAtom) → flat_map item_variables (flat_atom b a) ≡ atom_variables a
variables_of_atom b (Truth value) = refl
variables_of_atom true (Predicate name ts) = variables_of_terms ts
variables_of_atom false (Predicate name ts) = variables_of_terms ts

pub functions_of_literals : (ls : List WrittenLiteral) → flat_map item_functions (flat_literals ls) ≡ literals_functions ls
functions_of_literals [] = refl
functions_of_literals (l ∷ ls) =
    flat_map-append item_functions (flat_atom (is_positive l.sign) l.atom) (flat_literals ls)
    ∙ ap (λ (x : List SymbolValue). x ++ flat_map item_functions (flat_literals ls)) (functions_of_atom (is_positive l.sign) l.atom)
    ∙ ap (λ (x : List SymbolValue). atom_functions l.atom ++ x) (functions_of_literals ls)

pub predicates_of_literals : (ls : List WrittenLiteral) → flat_map item_predicates (flat_literals ls) ≡ literals_predicates ls
predicates_of_literals [] = refl
predicates_of_literals (l ∷ ls) =
    flat_map-append item_predicates (flat_atom (is_positive l.sign) l.atom) (flat_literals ls)
    ∙ ap (λ (x : List SymbolValue). x ++ flat_map item_predicates (flat_literals ls)) (predicates_of_atom (is_positive l.sign) l.atom)
    ∙ ap (λ (x : List SymbolValue). atom_predicates l.atom ++ x) (predicates_of_literals ls)

pub variables_of_literals : (ls : List WrittenLiteral) → flat_map item_variables (flat_literals ls) ≡ literals_variables ls
variables_of_literals [] = refl
variables_of_literals (l ∷ ls) =
    flat_map-append item_variables (flat_atom (is_positive l.sign) l.atom) (flat_literals ls)
    ∙ ap (λ (x : List (List ℕ)). x ++ flat_map item_variables (flat_literals ls)) (variables_of_atom (is_positive l.sign) l.atom)
    ∙ ap (λ (x : List (List ℕ)). atom_variables l.atom ++ x) (variables_of_literals ls)

-- ---- what is built

abbrev onto : Arguments → List TermValue → List TermValue
onto Nil xs = xs
onto (Cons t ts) xs = t ∷ onto ts xs

module _ (m : Names) where
  abbrev term : WrittenTerm → TermValue
  term t = term_of m.functions m.variables t

  abbrev terms : WrittenTerms → Arguments
  terms ts = terms_of m.functions m.variables ts

  taken : (ts : WrittenTerms) (xs : List TermValue) → arguments_of (take (terms_count ts) (onto (terms ts) xs)) ≡ terms ts
  taken NoTerms xs = refl
  taken (OneMore t ts) xs = ap (Cons (term t)) (taken ts xs)

  dropped : (ts : WrittenTerms) (xs : List TermValue) → drop (terms_count ts) (onto (terms ts) xs) ≡ xs
  dropped NoTerms xs = refl
  dropped (OneMore t ts) xs = dropped ts xs

  abbrev nodes : List ItemValue → List Node
  nodes is = map (node_in m) is

  -- a name by its number
  abbrev node : Role → Name → WrittenTerms → Node
  node r name ts = node_in m (item r (name_terminal name) (terms_count ts))

  abbrev on_terms : Built → List TermValue → Built
  on_terms b xs = record { terms = xs; literals = b.literals }

  split : (xs ys : List ItemValue) (ns : List Node) → nodes (xs ++ ys) ++ ns ≡ nodes xs ++ (nodes ys ++ ns)
  split xs ys ns = ap (λ (x : List Node). x ++ ns) (map-append (node_in m) xs ys) ∙ append_assoc (nodes xs) (nodes ys) ns

  -- a function whose arguments stand behind it
  applied : (f : ℕ) (ts : WrittenTerms) (b : Built) → on_terms b (App f (arguments_of (take (terms_count ts) (onto (terms ts) b.terms))) ∷ drop (terms_count ts) (onto (terms ts) b.terms)) ≡ on_terms b (App f (terms ts) ∷ b.terms)
  applied f ts b =
      ap (λ (x : Arguments). on_terms b (App f x ∷ drop (terms_count ts) (onto (terms ts) b.terms))) (taken ts b.terms)
      ∙ ap (λ (x : List TermValue). on_terms b (App f (terms ts) ∷ x)) (dropped ts b.terms)

  mutual
    term_built : (t : WrittenTerm) (ns : List Node) → built (nodes (flat_term t) ++ ns) ≡ on_terms (built ns) (term t ∷ (built ns).terms)
    term_built (written.Variable text) ns = refl
    term_built (Distinct text) ns = refl
    term_built (Apply (Bare text) ts) ns = ap (with_node (node role.Function (Bare text) ts)) (terms_built ts ns) ∙ applied (node role.Function (Bare text) ts).number ts (built ns)
    term_built (Apply (Quoted text) ts) ns = ap (with_node (node role.Function (Quoted text) ts)) (terms_built ts ns) ∙ applied (node role.Function (Quoted text) ts).number ts (built ns)

    terms_built : (ts : WrittenTerms) (ns : List Node) → built (nodes (flat_terms ts) ++ ns) ≡ on_terms (built ns) (onto (terms ts) (built ns).terms)
    terms_built NoTerms ns = refl
    terms_built (OneMore t ts) ns =
        ap built (split (flat_term t) (flat_terms ts) ns)
        ∙ term_built t (nodes (flat_terms ts) ++ ns)
        ∙ ap (λ (b : Built). on_terms b (term t ∷ b.terms)) (terms_built ts ns)

  abbrev on_literal : Built → Bool → ℕ → Arguments → List TermValue → Built
  on_literal b positive p ts xs = record { terms = xs; literals = (record { positive = positive; atom = record { pred = p; args = ts } }) ∷ b.literals }

  -- a predicate whose arguments stand behind it
  said : (positive : Bool) (p : ℕ) (ts : WrittenTerms) (b : Built) → on_literal b positive p (arguments_of (take (terms_count ts) (onto (terms ts) b.terms))) (drop (terms_count ts) (onto (terms ts) b.terms)) ≡ on_literal b positive p (terms ts) b.terms
  said positive p ts b =
      ap (λ (x : Arguments). on_literal b positive p x (drop (terms_count ts) (onto (terms ts) b.terms))) (taken ts b.terms)
      ∙ ap (λ (x : List TermValue). on_literal b positive p (terms ts) x) (dropped ts b.terms)

  abbrev literal : Bool → WrittenAtom → List Literal
  literal positive a = signed_literal (names_signature m) m.variables positive a

  atom_built : (positive : Bool) (a : WrittenAtom) (ns : List Node) → built (nodes (flat_atom positive a) ++ ns) ≡ record { terms = (built ns).terms; literals = literal positive a ++ (built ns).literals }
  atom_built positive (Truth value) ns = refl
  atom_built true (Predicate (Bare text) ts) ns = ap (with_node (node role.Positive (Bare text) ts)) (terms_built ts ns) ∙ said true (node role.Positive (Bare text) ts).number ts (built ns)
  atom_built true (Predicate (Quoted text) ts) ns = ap (with_node (node role.Positive (Quoted text) ts)) (terms_built ts ns) ∙ said true (node role.Positive (Quoted text) ts).number ts (built ns)
  atom_built false (Predicate (Bare text) ts) ns = ap (with_node (node role.Negative (Bare text) ts)) (terms_built ts ns) ∙ said false (node role.Negative (Bare text) ts).number ts (built ns)
  atom_built false (Predicate (Quoted text) ts) ns = ap (with_node (node role.Negative (Quoted text) ts)) (terms_built ts ns) ∙ said false (node role.Negative (Quoted text) ts).number ts (built ns)

  pub literals_built : (ls : List WrittenLiteral) → built (nodes (flat_literals ls)) ≡ record { terms = []; literals = clause_literals (names_signature m) m.variables ls }
  literals_built [] = refl
  literals_built (l ∷ ls) =
      ap built (map-append (node_in m) (flat_atom (is_positive l.sign) l.atom) (flat_literals ls))
      ∙ atom_built (is_positive l.sign) l.atom (nodes (flat_literals ls))
      ∙ ap (λ (b : Built). record { terms = b.terms; literals = literal (is_positive l.sign) l.atom ++ b.literals }) (literals_built ls)
