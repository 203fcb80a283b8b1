-- Terms by the first of the numbers of each function, and the symbols that are still to come.
use Rattle.std.proofs.Common.{◌≡◌, ◌<◌, ◌^◌, ◌+◌, ℕ, zero, suc, Bool, true, false, ◌||◌, List, [], ◌∷◌, ◌++◌, map, Option, Some, None, refl, sym, ap, subst, ◌∙◌, append_assoc}
use Rattle.std.proofs.lemmas.Bool.{eqb-true}
use Rattle.std.proofs.lemmas.List.{append-nil, map-append}
use Rattle.std.specs.Prelude.{slice_get, option_to_list, codes}
use Rattle.std.specs.List.{AllByRecursion, list_any}
use Rattle.me_terms.specs.LabelEquality.{same_symbol}
use Rattle.me_terms.specs.LabelEqualityLaws.{same_symbol_sound, same_symbol_itself}
use Rattle.me_terms.specs.Labels.{IsFunctionSymbol}
use Rattle.me_terms.specs.Signatures.{takes, is_known, are_known, with_symbol, number_of}
use Rattle.me_terms.specs.TermEqualityLaws.{both_parts}
use Rattle.me_terms.specs.Terms.{TermValue, Var, App, Arguments, Nil, Cons}
use Rattle.me_terms.specs.Values.{LabelValue, SymbolValue, SignatureValue}
use Rattle.me_terms.specs.Variables.{count, term_variables, variables_of, depth, depths}
use Rattle.cnf_text.specs.ClauseText.{symbol_text, term_text, arguments_text, others_text}
use Rattle.tptp_cnf.specs.Meaning.{with_symbols}
use Rattle.tptp_cnf.specs.Plain.{symbols_at}
use Rattle.tptp_cnf.proofs.Numbering.{Longer, position_stays, symbol_has}
use Rattle.szs_read.specs.Coming.{IsAddedAs, renumbered_as, renumbered, AreNodesToCome}
use Rattle.szs_read.specs.LineTokens.{symbol_token}
use Rattle.szs_read.specs.RowItems.{NameValue, symbol_name, node_name}
use Rattle.szs_read.specs.Rows.{term_nodes, nodes_of, node_functions, IsNode}
use Rattle.szs_read.specs.declared.number.Node.{Node}
use Rattle.szs_read.specs.declared.number.Node.TheVariants.{Function}
use Rattle.szs_read.proofs.Nodes.{functions_both}
use Rattle.szs_read.proofs.Symbols.{all_both, taken_at, found, at_both, symbols_longer}

-- ---- the number of a symbol

any_or : (a b : Bool) → b ≡ true → (a || b) ≡ true
any_or true b k = refl
any_or false b k = k

any_at : (s : SymbolValue) (symbols : List SymbolValue) (f : ℕ) → slice_get symbols f ≡ Some s → list_any (same_symbol s) symbols ≡ true
any_at s [] f e = absurd cc
any_at s (x ∷ symbols) zero e =
    let same : x ≡ s = cc in
    ap (λ (v : SymbolValue). same_symbol s v || list_any (same_symbol s) symbols) same ∙ ap (λ (v : Bool). v || list_any (same_symbol s) symbols) (same_symbol_itself s)
any_at s (x ∷ symbols) (suc f) e = any_or (same_symbol s x) (list_any (same_symbol s) symbols) (any_at s symbols f e)

number_has : (symbols : List SymbolValue) (s : SymbolValue) (f : ℕ) → slice_get symbols f ≡ Some s → slice_get symbols (number_of s symbols) ≡ Some s
number_has symbols s f e =
    let k = found (same_symbol s) symbols (any_at s symbols f e) in
    k.1 ∙ ap (λ (x : SymbolValue). Some x) (sym (same_symbol_sound s k.0 k.2))

same_place : (symbols : List SymbolValue) (f n : ℕ) → takes (slice_get symbols f) n ≡ true → slice_get symbols (renumbered_as symbols (slice_get symbols f)) ≡ slice_get symbols f
same_place symbols f n h =
    let t = taken_at (slice_get symbols f) n h in
    ap (λ (o : Option SymbolValue). slice_get symbols (renumbered_as symbols o)) t.is ∙ number_has symbols t.symbol f t.is ∙ sym t.is

-- ---- terms

abbrev mutual
  pub new_term : List SymbolValue → TermValue → TermValue
  new_term symbols (Var x) = Var x
  new_term symbols (App f ts) = App (renumbered_as symbols (slice_get symbols f)) (new_terms symbols ts)

  pub new_terms : List SymbolValue → Arguments → Arguments
  new_terms symbols Nil = Nil
  new_terms symbols (Cons t ts) = Cons (new_term symbols t) (new_terms symbols ts)

pub count_new : (symbols : List SymbolValue) (ts : Arguments) → count (new_terms symbols ts) ≡ count ts
count_new symbols Nil = refl
count_new symbols (Cons t ts) = ap (λ (n : ℕ). 1 + n) (count_new symbols ts)

mutual
  depth_new : (symbols : List SymbolValue) (t : TermValue) → depth (new_term symbols t) ≡ depth t
  depth_new symbols (Var x) = refl
  depth_new symbols (App f ts) = ap (λ (n : ℕ). 1 + n) (depths_new symbols ts)

  pub depths_new : (symbols : List SymbolValue) (ts : Arguments) → depths (new_terms symbols ts) ≡ depths ts
  depths_new symbols Nil = refl
  depths_new symbols (Cons t ts) = rw (depth_new symbols t) (rw (depths_new symbols ts) refl)

mutual
  nodes_new_term : (symbols : List SymbolValue) (t : TermValue) → term_nodes (new_term symbols t) ≡ map (renumbered symbols) (term_nodes t)
  nodes_new_term symbols (Var x) = refl
  nodes_new_term symbols (App f ts) =
      ap (λ (n : ℕ). Function (renumbered_as symbols (slice_get symbols f)) n ∷ nodes_of (new_terms symbols ts)) (count_new symbols ts)
      ∙ ap (λ (v : List Node). Function (renumbered_as symbols (slice_get symbols f)) (count ts) ∷ v) (nodes_new symbols ts)

  pub nodes_new : (symbols : List SymbolValue) (ts : Arguments) → nodes_of (new_terms symbols ts) ≡ map (renumbered symbols) (nodes_of ts)
  nodes_new symbols Nil = refl
  nodes_new symbols (Cons t ts) =
      ap (λ (v : List Node). v ++ nodes_of (new_terms symbols ts)) (nodes_new_term symbols t)
      ∙ ap (λ (v : List Node). map (renumbered symbols) (term_nodes t) ++ v) (nodes_new symbols ts)
      ∙ sym (map-append (renumbered symbols) (term_nodes t) (nodes_of ts))

module _ (s : SignatureValue) where
  mutual
    text_new_term : (t : TermValue) → is_known s t ≡ true → term_text s (new_term s.functions t) ≡ term_text s t
    text_new_term (Var x) h = refl
    text_new_term (App f ts) h =
        let parts = both_parts (takes (slice_get s.functions f) (count ts)) (are_known s ts) h in
        ap (λ (o : Option SymbolValue). symbol_text o ++ arguments_text s (new_terms s.functions ts)) (same_place s.functions f (count ts) parts.0)
        ∙ ap (λ (v : List ℕ). symbol_text (slice_get s.functions f) ++ v) (text_new ts parts.1)

    pub text_new : (ts : Arguments) → are_known s ts ≡ true → arguments_text s (new_terms s.functions ts) ≡ arguments_text s ts
    text_new Nil h = refl
    text_new (Cons t ts) h =
        let parts = both_parts (is_known s t) (are_known s ts) h in
        ap (λ (v : List ℕ). codes "(" ++ v ++ others_text s (new_terms s.functions ts) ++ codes ")") (text_new_term t parts.0)
        ∙ ap (λ (v : List ℕ). codes "(" ++ term_text s t ++ v ++ codes ")") (others_new ts parts.1)

    others_new : (ts : Arguments) → are_known s ts ≡ true → others_text s (new_terms s.functions ts) ≡ others_text s ts
    others_new Nil h = refl
    others_new (Cons t ts) h =
        let parts = both_parts (is_known s t) (are_known s ts) h in
        ap (λ (v : List ℕ). codes "," ++ v ++ others_text s (new_terms s.functions ts)) (text_new_term t parts.0)
        ∙ ap (λ (v : List ℕ). codes "," ++ term_text s t ++ v) (others_new ts parts.1)

  mutual
    term_lawful : (t : TermValue) → is_known s t ≡ true → AllByRecursion (λ x. x < 2 ^ 32) (term_variables t) → AllByRecursion (IsNode s.functions) (term_nodes t)
    term_lawful (Var x) h v = (v.0, tt)
    term_lawful (App f ts) h v =
        let parts = both_parts (takes (slice_get s.functions f) (count ts)) (are_known s ts) h in
        (parts.0, terms_lawful ts parts.1 v)

    pub terms_lawful : (ts : Arguments) → are_known s ts ≡ true → AllByRecursion (λ x. x < 2 ^ 32) (variables_of ts) → AllByRecursion (IsNode s.functions) (nodes_of ts)
    terms_lawful Nil h v = tt
    terms_lawful (Cons t ts) h v =
        let parts = both_parts (is_known s t) (are_known s ts) h in
        all_both (IsNode s.functions) (term_nodes t) (nodes_of ts)
        (term_lawful t parts.0 (front (term_variables t) (variables_of ts) v))
        (terms_lawful ts parts.1 (back (term_variables t) (variables_of ts) v))
      where
        front : (xs ys : List ℕ) → AllByRecursion (λ x. x < 2 ^ 32) (xs ++ ys) → AllByRecursion (λ x. x < 2 ^ 32) xs
        front [] ys h = tt
        front (x ∷ xs) ys h = (h.0, front xs ys h.1)

        back : (xs ys : List ℕ) → AllByRecursion (λ x. x < 2 ^ 32) (xs ++ ys) → AllByRecursion (λ x. x < 2 ^ 32) ys
        back [] ys h = h
        back (x ∷ xs) ys h = back xs ys h.1

-- ---- a symbol by its name

pub symbol_is : (name : NameValue) (label : LabelValue) (s : SymbolValue) → name ≡ symbol_name s → label ≡ s.label → record { label = label; arity = name.arity } ≡ s
symbol_is name label s e h = λ i. record { label = h i; arity = (e i).arity }

pub some_is : {X : Type 0} (x y : X) → Some x ≡ Some y → x ≡ y
some_is x y e = cc

pub added_as : (s t : SymbolValue) (n : ℕ) (old new : List SymbolValue) → s ≡ t → n ≡ number_of s new → new ≡ with_symbol old s → IsAddedAs (Some n) t old new
added_as s t n old new e h k = subst (λ (v : SymbolValue). IsAddedAs (Some n) v old new) e (ap (λ (x : ℕ). Some x) h, k)

-- ---- nodes to come

-- the first node is named by its function, which is a symbol at the end
pub record FunctionComes (now end others : List SymbolValue) (f n : ℕ) : Type 0 where
  pub symbol : SymbolValue
  pub readable : IsFunctionSymbol symbol
  pub is : slice_get end f ≡ Some symbol
  pub arity : symbol.arity ≡ n
  pub symbols : end ≡ with_symbols (with_symbol now symbol) others

pub function_comes : (now end others : List SymbolValue) (f n : ℕ) → AreNodesToCome now end (Function f n ∷ []) others → FunctionComes now end others f n
function_comes now end others f n h =
    let t = taken_at (slice_get end f) n h.lawful.0 in record {
      symbol = t.symbol;
      readable = (subst (λ (o : Option SymbolValue). AllByRecursion IsFunctionSymbol (option_to_list o ++ [])) t.is h.readable).0;
      is = t.is;
      arity = eqb-true t.symbol.arity n t.arity;
      symbols = h.symbols ∙ ap (λ (o : Option SymbolValue). with_symbols now ((option_to_list o ++ []) ++ others)) t.is;
    }

pub function_name : (now end others : List SymbolValue) (f n : ℕ) (c : FunctionComes now end others f n) → node_name end (Function f n) ≡ symbol_name c.symbol
function_name now end others f n c = λ i. record { token = symbol_token (c.is i); arity = sym c.arity i }

pub function_found : (now end others : List SymbolValue) (f n m : ℕ) (new : List SymbolValue) (c : FunctionComes now end others f n) → IsAddedAs (Some m) c.symbol now new → (Function m n ≡ renumbered end (Function f n)) × (end ≡ with_symbols new others)
function_found now end others f n m new c a =
    let on : end ≡ with_symbols new others = c.symbols ∙ ap (λ (v : List SymbolValue). with_symbols v others) (sym a.1) in
    let has : list_any (same_symbol c.symbol) new ≡ true = ap (λ (v : List SymbolValue). list_any (same_symbol c.symbol) v) a.1 ∙ symbol_has now c.symbol in
    let longer : Longer new end = subst (λ (v : List SymbolValue). Longer new v) (sym on) (symbols_longer new others) in
    let number : m ≡ number_of c.symbol end = some_is m (number_of c.symbol new) a.0 ∙ position_stays (same_symbol c.symbol) new end has longer in
    (ap (λ (x : ℕ). Function x n) number ∙ ap (λ (o : Option SymbolValue). Function (renumbered_as end o) n) (sym c.is), on)

pub first_comes : (now end others : List SymbolValue) (node : Node) (nodes : List Node) → AreNodesToCome now end (node ∷ nodes) others → AreNodesToCome now end (node ∷ []) (symbols_at end (node_functions nodes) ++ others)
first_comes now end others node nodes h =
    let first : List ℕ = node_functions (node ∷ []) in
    let more : List ℕ = node_functions nodes in
    let e : symbols_at end (node_functions (node ∷ nodes)) ≡ symbols_at end first ++ symbols_at end more = ap (symbols_at end) (functions_both (node ∷ []) nodes) ∙ at_both end first more in
    record {
      symbols = h.symbols ∙ ap (λ (v : List SymbolValue). with_symbols now (v ++ others)) e ∙ ap (with_symbols now) (append_assoc (symbols_at end first) (symbols_at end more) others);
      readable = front (symbols_at end first) (symbols_at end more) (subst (AllByRecursion IsFunctionSymbol) e h.readable);
      lawful = (h.lawful.0, tt);
    }
  where
    front : (xs ys : List SymbolValue) → AllByRecursion IsFunctionSymbol (xs ++ ys) → AllByRecursion IsFunctionSymbol xs
    front [] ys h = tt
    front (x ∷ xs) ys h = (h.0, front xs ys h.1)

pub others_come : (now new end others : List SymbolValue) (node : Node) (nodes : List Node) → AreNodesToCome now end (node ∷ nodes) others → end ≡ with_symbols new (symbols_at end (node_functions nodes) ++ others) → AreNodesToCome new end nodes others
others_come now new end others node nodes h e =
    let first : List ℕ = node_functions (node ∷ []) in
    let more : List ℕ = node_functions nodes in
    let same : symbols_at end (node_functions (node ∷ nodes)) ≡ symbols_at end first ++ symbols_at end more = ap (symbols_at end) (functions_both (node ∷ []) nodes) ∙ at_both end first more in
    record {
      symbols = e;
      readable = back (symbols_at end first) (symbols_at end more) (subst (AllByRecursion IsFunctionSymbol) same h.readable);
      lawful = h.lawful.1;
    }
  where
    back : (xs ys : List SymbolValue) → AllByRecursion IsFunctionSymbol (xs ++ ys) → AllByRecursion IsFunctionSymbol ys
    back [] ys h = h
    back (x ∷ xs) ys h = back xs ys h.1

-- the nodes that are left in the middle of a row
pub record NodesLeft (now end others : List SymbolValue) (nodes found : List Node) (names : List NameValue) : Type 0 where
  pub left : List Node
  pub done : map (renumbered end) nodes ≡ found ++ map (renumbered end) left
  pub coming : AreNodesToCome now end left others
  pub named : names ≡ map (node_name end) left

pub one_node : (now new end others : List SymbolValue) (nodes found more : List Node) (name : NameValue) (names : List NameValue) (o : Option Node) (node : Node) → NodesLeft now end others nodes found (name ∷ names)
    → ((end others : List SymbolValue) (n : Node) → AreNodesToCome now end (n ∷ []) others → name ≡ node_name end n → (o ≡ Some (renumbered end n)) × (end ≡ with_symbols new others))
    → o ≡ Some node → more ≡ found ++ node ∷ [] → NodesLeft new end others nodes more names
one_node now new end others nodes found more name names o node h f e g = by h.left refl
  where
    by : (left : List Node) → h.left ≡ left → NodesLeft new end others nodes more names
    by [] k = let x : name ∷ names ≡ [] = h.named ∙ ap (map (node_name end)) k in absurd cc
    by (n ∷ left) k =
        let coming : AreNodesToCome now end (n ∷ left) others = subst (λ (v : List Node). AreNodesToCome now end v others) k h.coming in
        let same : name ∷ names ≡ node_name end n ∷ map (node_name end) left = h.named ∙ ap (map (node_name end)) k in
        let head : name ≡ node_name end n = cc in
        let tail : names ≡ map (node_name end) left = cc in
        let one = f end (symbols_at end (node_functions left) ++ others) n (first_comes now end others n left coming) head in
        let is : node ≡ renumbered end n = some_is node (renumbered end n) (sym e ∙ one.0) in
        record {
          left = left;
          done =
              h.done ∙ ap (λ (v : List Node). found ++ map (renumbered end) v) k
              ∙ sym (append_assoc found (renumbered end n ∷ []) (map (renumbered end) left))
              ∙ ap (λ (v : Node). (found ++ v ∷ []) ++ map (renumbered end) left) (sym is)
              ∙ ap (λ (v : List Node). v ++ map (renumbered end) left) (sym g);
          coming = others_come now new end others n left coming one.1;
          named = tail;
        }

pub no_node : (now new end others : List SymbolValue) (nodes found : List Node) (name : NameValue) (names : List NameValue) (o : Option Node) → NodesLeft now end others nodes found (name ∷ names)
    → ((end others : List SymbolValue) (n : Node) → AreNodesToCome now end (n ∷ []) others → name ≡ node_name end n → (o ≡ Some (renumbered end n)) × (end ≡ with_symbols new others))
    → o ≡ None → ⊥
no_node now new end others nodes found name names o h f e = by h.left refl
  where
    by : (left : List Node) → h.left ≡ left → ⊥
    by [] k = let x : name ∷ names ≡ [] = h.named ∙ ap (map (node_name end)) k in cc
    by (n ∷ left) k =
        let coming : AreNodesToCome now end (n ∷ left) others = subst (λ (v : List Node). AreNodesToCome now end v others) k h.coming in
        let same : name ∷ names ≡ node_name end n ∷ map (node_name end) left = h.named ∙ ap (map (node_name end)) k in
        let head : name ≡ node_name end n = cc in
        let one = f end (symbols_at end (node_functions left) ++ others) n (first_comes now end others n left coming) head in
        let is : None ≡ Some (renumbered end n) = sym e ∙ one.0 in
        cc

pub all_found : (now end others : List SymbolValue) (nodes found : List Node) → NodesLeft now end others nodes found [] → (found ≡ map (renumbered end) nodes) × (end ≡ with_symbols now others)
all_found now end others nodes found h = by h.left refl
  where
    by : (left : List Node) → h.left ≡ left → (found ≡ map (renumbered end) nodes) × (end ≡ with_symbols now others)
    by [] k = (
      sym (append-nil found) ∙ ap (λ (v : List Node). found ++ map (renumbered end) v) (sym k) ∙ sym h.done,
      h.coming.symbols ∙ ap (λ (v : List Node). with_symbols now (symbols_at end (node_functions v) ++ others)) k,
    )
    by (n ∷ left) k = let x : [] ≡ node_name end n ∷ map (node_name end) left = h.named ∙ ap (map (node_name end)) k in absurd cc

-- before the first name
pub none_yet : (now end others : List SymbolValue) (nodes found : List Node) (names : List NameValue) → found ≡ [] → AreNodesToCome now end nodes others → names ≡ map (node_name end) nodes → NodesLeft now end others nodes found names
none_yet now end others nodes found names e h k = record {
  left = nodes;
  done = ap (λ (v : List Node). v ++ map (renumbered end) nodes) (sym e);
  coming = h;
  named = k;
}
