-- The node of a name.
use Rattle.std.proofs.Common.{◌≡◌, ◌<◌, ◌≤◌, ◌^◌, ◌+◌, ℕ, zero, suc, List, [], ◌∷◌, length, map, drop, Option, Some, None, refl, sym, ap, subst, ◌∙◌, arith}
use Rattle.std.specs.Prelude.{slice_index_or}
use Rattle.me_terms.specs.Labels.{IsFunctionSymbol}
use Rattle.me_terms.specs.Signatures.{number_of}
use Rattle.me_terms.specs.Values.{SymbolValue}
use Rattle.me_terms.specs.declared.symbol.Form.{Form}
use Rattle.tptp_cnf.specs.Meaning.{with_symbols}
use Rattle.tptp_tokens.specs.declared.token.TokenKind.TheVariants as kind
use Rattle.szs_read.specs.Coming.{IsAddedAs, renumbered, AreNodesToCome}
use Rattle.szs_read.specs.LineTokens.{form_token, variable_token}
use Rattle.szs_read.specs.RowItems.{NameValue, item_value, symbol_name, node_name}
use Rattle.szs_read.specs.declared.row.Item.{Item}
use Rattle.szs_read.specs.declared.number.Node.{Node}
use Rattle.szs_read.specs.declared.number.Node.TheVariants.{Variable, Function}
use Rattle.szs_read.proofs.Advances.{no_form}
use Rattle.szs_read.proofs.Renumbering.{some_is, function_comes, function_name, function_found}

no_variable : (f : Form) (text : List ℕ) → kind.Variable ≡ (form_token f text).kind → ⊥
no_variable f text e = no_form kind.Variable f text (λ h. absurd cc) (λ h. absurd cc) (λ h. absurd cc) (λ h. absurd cc) e

-- what the name's node is found as
abbrev pub FindsNode : List SymbolValue → List SymbolValue → NameValue → Option Node → Type 0
FindsNode old new name found = (end others : List SymbolValue) (node : Node) → AreNodesToCome old end (node ∷ []) others → name ≡ node_name end node → (found ≡ Some (renumbered end node)) × (end ≡ with_symbols new others)

function_is_no_variable : (old end others : List SymbolValue) (f n : ℕ) (name : NameValue) → AreNodesToCome old end (Function f n ∷ []) others → name ≡ node_name end (Function f n) → name.token.kind ≡ kind.Variable → ⊥
function_is_no_variable old end others f n name h e k =
    let c = function_comes old end others f n h in
    let same : name ≡ symbol_name c.symbol = e ∙ function_name old end others f n c in
    no_variable c.symbol.label.form c.symbol.label.text (sym k ∙ ap (λ (v : NameValue). v.token.kind) same)

pub variable_found : (old : List SymbolValue) (name : NameValue) (o : Option ℕ) (x : ℕ) → name.token.kind ≡ kind.Variable → ((y : ℕ) → y < 2 ^ 32 → name.token ≡ variable_token y → o ≡ Some y) → o ≡ Some x → FindsNode old old name (Some (Variable x))
variable_found old name o x k f e end others (Variable y) h is =
    let n : x ≡ y = some_is x y (sym e ∙ f y h.lawful.0 (ap (λ (v : NameValue). v.token) is)) in
    (ap (λ (v : ℕ). Some (Variable v)) n, h.symbols)
variable_found old name o x k f e end others (Function g n) h is = absurd (function_is_no_variable old end others g n name h is k)

pub variable_not_found : (old : List SymbolValue) (name : NameValue) (o : Option ℕ) → name.token.kind ≡ kind.Variable → ((y : ℕ) → y < 2 ^ 32 → name.token ≡ variable_token y → o ≡ Some y) → o ≡ None → FindsNode old old name None
variable_not_found old name o k f e end others (Variable y) h is =
    let n : None ≡ Some y = sym e ∙ f y h.lawful.0 (ap (λ (v : NameValue). v.token) is) in
    absurd cc
variable_not_found old name o k f e end others (Function g n) h is = absurd (function_is_no_variable old end others g n name h is k)

pub function_node_found : (old new : List SymbolValue) (name : NameValue) (o : Option ℕ) (m : ℕ) → (name.token.kind ≡ kind.Variable → ⊥) → ((symbol : SymbolValue) → IsFunctionSymbol symbol → name ≡ symbol_name symbol → IsAddedAs o symbol old new) → o ≡ Some m → FindsNode old new name (Some (Function m name.arity))
function_node_found old new name o m k f e end others (Variable y) h is = absurd (k (ap (λ (v : NameValue). v.token.kind) is))
function_node_found old new name o m k f e end others (Function g n) h is =
    let c = function_comes old end others g n h in
    let a = f c.symbol c.readable (is ∙ function_name old end others g n c) in
    let b = function_found old end others g n m new c (subst (λ (v : Option ℕ). IsAddedAs v c.symbol old new) e a) in
    (ap (λ (v : ℕ). Some (Function m v)) (ap (λ (v : NameValue). v.arity) is) ∙ ap (λ (v : Node). Some v) b.0, b.1)

pub function_node_not_found : (old new : List SymbolValue) (name : NameValue) (o : Option ℕ) → (name.token.kind ≡ kind.Variable → ⊥) → ((symbol : SymbolValue) → IsFunctionSymbol symbol → name ≡ symbol_name symbol → IsAddedAs o symbol old new) → o ≡ None → FindsNode old new name None
function_node_not_found old new name o k f e end others (Variable y) h is = absurd (k (ap (λ (v : NameValue). v.token.kind) is))
function_node_not_found old new name o k f e end others (Function g n) h is =
    let c = function_comes old end others g n h in
    let a = (f c.symbol c.readable (is ∙ function_name old end others g n c)).0 in
    let x : None ≡ Some (number_of c.symbol new) = sym e ∙ a in
    absurd cc

-- ---- the names that are left

pub names_at : (items : List Item) (i : ℕ) (d : Item) → i < length items → map item_value (drop i items) ≡ item_value (slice_index_or items i d) ∷ map item_value (drop (i + 1) items)
names_at [] i d h = absurd (omega (arith, h))
names_at (y ∷ items) zero d h = refl
names_at (y ∷ items) (suc i) d h =
    let k : suc (i + 1) ≡ suc i + 1 = omega arith in
    names_at items i d (omega (arith, h)) ∙ ap (λ (n : ℕ). item_value (slice_index_or items i d) ∷ map item_value (drop n (y ∷ items))) k

pub names_end : (items : List Item) (i : ℕ) → length items ≤ i → map item_value (drop i items) ≡ []
names_end [] zero h = refl
names_end [] (suc i) h = refl
names_end (y ∷ items) zero h = absurd (omega (arith, h))
names_end (y ∷ items) (suc i) h = names_end items i (omega (arith, h))
