-- Which literal is found where a row is that of one.
use Rattle.std.proofs.Common.{◌≡◌, ◌<◌, ℕ, Bool, List, [], ◌∷◌, map, Option, Some, None, sym, ap, subst, ◌∙◌, arith}
use Rattle.std.specs.Prelude.{slice_get}
use Rattle.me_terms.specs.Labels.{IsPredicateSymbol}
use Rattle.me_terms.specs.Measures.{capped}
use Rattle.me_terms.specs.Sequences.{SequenceValue}
use Rattle.me_terms.specs.Terms.{TermValue, Arguments, arguments_of}
use Rattle.me_terms.specs.Values.{SymbolValue, SignatureValue}
use Rattle.me_terms.specs.Variables.{count, depths}
use Rattle.me_terms.specs.declared.atom.Literal.{Literal}
use Rattle.tptp_cnf.specs.Meaning.{with_symbols}
use Rattle.szs_read.specs.Coming.{IfSomeIs, IsAddedAs, renumbered, AreNodesToCome}
use Rattle.szs_read.specs.Finds.{FindsTerms, FindsLiteral}
use Rattle.szs_read.specs.LineTokens.{symbol_token}
use Rattle.szs_read.specs.RowItems.{NameValue, item_value, symbol_name, node_name, IsRowOf}
use Rattle.szs_read.specs.Rows.{nodes_of}
use Rattle.szs_read.specs.declared.number.Node.{Node}
use Rattle.szs_read.specs.declared.row.Item.{Item}
use Rattle.szs_read.specs.declared.row.Row.{Row}
use Rattle.szs_read.proofs.Literals.{LiteralComes, literal_comes, predicate_name, literal_found}
use Rattle.szs_read.proofs.Renumbering.{new_terms, nodes_new, count_new, depths_new}

abbrev literal : Bool → ℕ → Arguments → Literal
literal b p ts = record { positive = b; atom = record { pred = p; args = ts } }

pub no_items : (old new : SignatureValue) (b : ℕ) (row : Row) → row.items.items ≡ [] → FindsLiteral old new b row None
no_items old new b row e end l functions predicates coming r =
    let n : [] ≡ (record { token = symbol_token (slice_get end.predicates l.atom.pred); arity = count l.atom.args }) ∷ map (node_name end.functions) (nodes_of l.atom.args) = ap (map item_value) (sym e) ∙ r.names in
    absurd cc

-- the names of a literal: its predicate, and its functions and variables
record Names (end : SignatureValue) (l : Literal) (first : Item) (others : List Item) : Type 0 where
  head : item_value first ≡ record { token = symbol_token (slice_get end.predicates l.atom.pred); arity = count l.atom.args }
  tail : map item_value others ≡ map (node_name end.functions) (nodes_of l.atom.args)

names_of : (end : SignatureValue) (l : Literal) (row : Row) (first : Item) (others : List Item) → row.items.items ≡ first ∷ others → IsRowOf end l row → Names end l first others
names_of end l row first others e r =
    let n : item_value first ∷ map item_value others ≡ (record { token = symbol_token (slice_get end.predicates l.atom.pred); arity = count l.atom.args }) ∷ map (node_name end.functions) (nodes_of l.atom.args) = ap (map item_value) (sym e) ∙ r.names in
    record { head = cc; tail = cc }

-- what the predicate's number is found as
abbrev pub FindsPredicate : SignatureValue → SignatureValue → Item → Option ℕ → Type 0
FindsPredicate old mid item found = (symbol : SymbolValue) → IsPredicateSymbol symbol → item_value item ≡ symbol_name symbol → IsAddedAs found symbol old.predicates mid.predicates

-- what the nodes are found as
abbrev pub FindsNodes : SignatureValue → SignatureValue → List Item → List Node → Type 0
FindsNodes mid new items found = (end others : List SymbolValue) (nodes : List Node) → AreNodesToCome mid.functions end nodes others → map item_value items ≡ map (node_name end) nodes → (found ≡ map (renumbered end) nodes) × (end ≡ with_symbols new.functions others)

abbrev pub FindsNoNodes : SignatureValue → SignatureValue → List Item → Type 0
FindsNoNodes mid new items = (end others : List SymbolValue) (nodes : List Node) → AreNodesToCome mid.functions end nodes others → map item_value items ≡ map (node_name end) nodes → ⊥ × (end ≡ with_symbols new.functions others)

pub no_predicate : (old mid new : SignatureValue) (b : ℕ) (row : Row) (first : Item) (others : List Item) → row.items.items ≡ first ∷ others → FindsPredicate old mid first None → FindsLiteral old new b row None
no_predicate old mid new b row first others e f end l functions predicates coming r =
    let c = literal_comes old end b l functions predicates coming in
    let n = names_of end l row first others e r in
    let a = f c.symbol c.readable (n.head ∙ predicate_name old end b l functions predicates c) in
    let x = a.0 in
    absurd cc

nodes_come : (old mid end : SignatureValue) (b : ℕ) (l : Literal) (functions predicates : List SymbolValue) → mid.functions ≡ old.functions → LiteralComes old end b l functions predicates → AreNodesToCome mid.functions end.functions (nodes_of l.atom.args) functions
nodes_come old mid end b l functions predicates e c = subst (λ (v : List SymbolValue). AreNodesToCome v end.functions (nodes_of l.atom.args) functions) (sym e) c.nodes

pub no_nodes : (old mid new : SignatureValue) (b : ℕ) (row : Row) (first : Item) (others : List Item) → row.items.items ≡ first ∷ others → mid.functions ≡ old.functions → FindsNoNodes mid new others → FindsLiteral old new b row None
no_nodes old mid new b row first others e same f end l functions predicates coming r =
    let c = literal_comes old end b l functions predicates coming in
    let n = names_of end l row first others e r in
    absurd (f end.functions functions (nodes_of l.atom.args) (nodes_come old mid end b l functions predicates same c) n.tail).0

terms_of : (old mid new end : SignatureValue) (b : ℕ) (l : Literal) (row : Row) (first : Item) (others : List Item) (functions predicates : List SymbolValue) (nodes : List Node) (found : Option (SequenceValue TermValue)) → row.items.items ≡ first ∷ others → mid.functions ≡ old.functions → FindsNodes mid new others nodes
    → FindsTerms nodes first.arity found → LiteralComes old end b l functions predicates → IsRowOf end l row → IfSomeIs found (λ terms. arguments_of terms.items ≡ new_terms end.functions l.atom.args) × (end.functions ≡ with_symbols new.functions functions)
terms_of old mid new end b l row first others functions predicates nodes found e same f t c r =
    let n = names_of end l row first others e r in
    let k = f end.functions functions (nodes_of l.atom.args) (nodes_come old mid end b l functions predicates same c) n.tail in (
      t (new_terms end.functions l.atom.args) (nodes_new end.functions l.atom.args ∙ sym k.0) (count_new end.functions l.atom.args ∙ sym (ap (λ (v : NameValue). v.arity) n.head)),
      k.1,
    )

pub no_terms : (old mid new : SignatureValue) (b : ℕ) (row : Row) (first : Item) (others : List Item) (nodes : List Node) → row.items.items ≡ first ∷ others → mid.functions ≡ old.functions → FindsNodes mid new others nodes → FindsTerms nodes first.arity None → FindsLiteral old new b row None
no_terms old mid new b row first others nodes e same f t end l functions predicates coming r =
    let c = literal_comes old end b l functions predicates coming in
    absurd (terms_of old mid new end b l row first others functions predicates nodes None e same f t c r).0

pub too_deep : (old mid new : SignatureValue) (b : ℕ) (row : Row) (first : Item) (others : List Item) (nodes : List Node) (terms : SequenceValue TermValue) (depth : ℕ) → row.items.items ≡ first ∷ others → mid.functions ≡ old.functions → FindsNodes mid new others nodes → FindsTerms nodes first.arity (Some terms)
    → depth ≡ capped (depths (arguments_of terms.items)) → b < depth → FindsLiteral old new b row None
too_deep old mid new b row first others nodes terms depth e same f t d more end l functions predicates coming r =
    let c = literal_comes old end b l functions predicates coming in
    let k = terms_of old mid new end b l row first others functions predicates nodes (Some terms) e same f t c r in
    let n : depths (arguments_of terms.items) ≡ depths l.atom.args = ap depths k.0 ∙ depths_new end.functions l.atom.args in
    absurd (omega (arith, n, d, more, c.flat))

pub literal_is : (old mid new : SignatureValue) (b : ℕ) (row : Row) (first : Item) (others : List Item) (p : ℕ) (nodes : List Node) (terms : SequenceValue TermValue) → row.items.items ≡ first ∷ others → FindsPredicate old mid first (Some p) → mid.functions ≡ old.functions → new.predicates ≡ mid.predicates → FindsNodes mid new others nodes
    → FindsTerms nodes first.arity (Some terms) → FindsLiteral old new b row (Some (literal row.positive p (arguments_of terms.items)))
literal_is old mid new b row first others p nodes terms e fp same ps f t end l functions predicates coming r =
    let c = literal_comes old end b l functions predicates coming in
    let n = names_of end l row first others e r in
    let k = terms_of old mid new end b l row first others functions predicates nodes (Some terms) e same f t c r in
    literal_found old mid new end b l functions predicates p row.positive (arguments_of terms.items) c (fp c.symbol c.readable (n.head ∙ predicate_name old end b l functions predicates c)) k.1 ps k.0 r.positive

-- ---- what the calls found

if_is : {X : Type 0} (P : X → Type 0) (o : Option X) (x : X) → o ≡ Some x → IfSomeIs o P → P x
if_is {X} P o x e h = subst (λ (v : Option X). IfSomeIs v P) e h

if_not : {X : Type 0} (P : X → Type 0) (o : Option X) → o ≡ None → IfSomeIs o P → ⊥
if_not {X} P o e h = subst (λ (v : Option X). IfSomeIs v P) e h

pub nodes_some : {V : Type 0} (its : V → List Node) (mid new : SignatureValue) (items : List Item) (o : Option V) (v : V) → o ≡ Some v
    → ((end others : List SymbolValue) (nodes : List Node) → AreNodesToCome mid.functions end nodes others → map item_value items ≡ map (node_name end) nodes → IfSomeIs o (λ found. its found ≡ map (renumbered end) nodes) × (end ≡ with_symbols new.functions others))
    → FindsNodes mid new items (its v)
nodes_some its mid new items o v e f end others nodes h k =
    let r = f end others nodes h k in
    (if_is (λ found. its found ≡ map (renumbered end) nodes) o v e r.0, r.1)

pub nodes_none : {V : Type 0} (its : V → List Node) (mid new : SignatureValue) (items : List Item) (o : Option V) → o ≡ None
    → ((end others : List SymbolValue) (nodes : List Node) → AreNodesToCome mid.functions end nodes others → map item_value items ≡ map (node_name end) nodes → IfSomeIs o (λ found. its found ≡ map (renumbered end) nodes) × (end ≡ with_symbols new.functions others))
    → FindsNoNodes mid new items
nodes_none its mid new items o e f end others nodes h k =
    let r = f end others nodes h k in
    (if_not (λ found. its found ≡ map (renumbered end) nodes) o e r.0, r.1)
