-- The problem as far as it is read: what each token adds to it. Only the private calls of the reader speak of it.
use Rattle.std.specs.Prelude.{◌<◌, ℕ, zero, suc, ◌+◌, ◌-◌, ◌^◌, Bool, true, false, List, [], ◌∷◌, ◌++◌, length, take, drop, codes, Option, Some, None, if◌then◌else◌}
use Rattle.std.specs.List.{position_or_len}
use Rattle.std.specs.Str.{bytes_eq}
use Rattle.me_terms.specs.Signatures.{with_symbol, number_of}
use Rattle.me_terms.specs.Terms.{TermValue, Var, App, arguments_of}
use Rattle.me_terms.specs.Values.{LabelValue, SymbolValue, SignatureValue, ClauseValue, ProblemValue}
use Rattle.me_terms.specs.declared.atom.Literal.{Literal}
use Rattle.me_terms.specs.declared.symbol.Form.TheVariants as forms
use Rattle.tptp_grammar.specs.Terminals.{Terminal, LowerWord, SingleQuoted, Variable, Distinct, DollarWord, Digits}
use Rattle.tptp_grammar.specs.Limits.{with_variables}
use Rattle.tptp_grammar.specs.Machine.{State, step, part_at}
use Rattle.tptp_grammar.specs.Printed.{Printed}
use Rattle.tptp_grammar.specs.declared.part.Part.{Part}
use Rattle.tptp_grammar.specs.declared.part.Part.TheVariants as part
use Rattle.tptp_cnf.specs.Meaning.{word, distinct, symbol, same_truth, text_place, is_constant, with_constant}
use Rattle.tptp_cnf.specs.declared.item.Role.{Role}
use Rattle.tptp_cnf.specs.declared.item.Role.TheVariants as role
use Rattle.tptp_cnf.specs.declared.item.Node.{Node}

-- a name in a row: what it stands for, its token, and how many arguments follow
pub record ItemValue : Type 0 where
  pub role : Role
  pub terminal : Terminal
  pub arity : ℕ

abbrev pub item : Role → Terminal → ℕ → ItemValue
item role terminal arity = record { role = role; terminal = terminal; arity = arity }

-- ---- names and their numbers

abbrev pub no_label : LabelValue
no_label = word []

abbrev pub label_as : Terminal → LabelValue
label_as (LowerWord text) = word text
label_as (SingleQuoted text) = word text
label_as (Distinct text) = distinct text
label_as (Digits text) = record { form = forms.Number; text = text }
label_as t = no_label

abbrev pub symbol_as : ItemValue → SymbolValue
symbol_as i = symbol (label_as i.terminal) i.arity

abbrev pub text_of_variable : Terminal → List ℕ
text_of_variable (Variable text) = text
text_of_variable t = []

-- what has a number
pub record Names : Type 0 where
  pub functions : List SymbolValue
  pub predicates : List SymbolValue
  pub variables : List (List ℕ)

-- no variable has a number yet
abbrev pub names_of : SignatureValue → Names
names_of signature = record { functions = signature.functions; predicates = signature.predicates; variables = [] }

abbrev pub names_signature : Names → SignatureValue
names_signature names = record { functions = names.functions; predicates = names.predicates }

abbrev pub with_item_as : Role → Names → ItemValue → Names
with_item_as role.Function names i = record { functions = with_symbol names.functions (symbol_as i); predicates = names.predicates; variables = names.variables }
with_item_as role.Variable names i = record { functions = names.functions; predicates = names.predicates; variables = with_variables names.variables (text_of_variable i.terminal ∷ []) }
with_item_as r names i = record { functions = names.functions; predicates = with_symbol names.predicates (symbol_as i); variables = names.variables }

-- one more name
abbrev pub with_item : Names → ItemValue → Names
with_item names i = with_item_as i.role names i

abbrev pub number_as : Role → Names → ItemValue → ℕ
number_as role.Function names i = number_of (symbol_as i) names.functions
number_as role.Variable names i = text_place (text_of_variable i.terminal) names.variables
number_as r names i = number_of (symbol_as i) names.predicates

abbrev pub number_in : Names → ItemValue → ℕ
number_in names i = number_as i.role names i

abbrev pub node_in : Names → ItemValue → Node
node_in names i = record { role = i.role; number = number_in names i; arity = i.arity }

abbrev pub names_after : Names → List ItemValue → Names
names_after names [] = names
names_after names (i ∷ is) = names_after (with_item names i) is

-- the names by the numbers that each has once it has been added
abbrev pub numbered : Names → List ItemValue → List Node
numbered names [] = []
numbered names (i ∷ is) = node_in (with_item names i) i ∷ numbered (with_item names i) is

-- ---- the literals of a row, from its end

-- terms that are no argument yet, and literals
pub record Built : Type 0 where
  pub terms : List TermValue
  pub literals : List Literal

abbrev pub literal_with : Bool → Node → List TermValue → Literal
literal_with positive n arguments = record { positive = positive; atom = record { pred = n.number; args = arguments_of arguments } }

abbrev pub with_node_as : Role → Node → Built → Built
with_node_as role.Variable n b = record { terms = Var n.number ∷ b.terms; literals = b.literals }
with_node_as role.Function n b = record { terms = App n.number (arguments_of (take n.arity b.terms)) ∷ drop n.arity b.terms; literals = b.literals }
with_node_as role.Positive n b = record { terms = drop n.arity b.terms; literals = literal_with true n (take n.arity b.terms) ∷ b.literals }
with_node_as role.Negative n b = record { terms = drop n.arity b.terms; literals = literal_with false n (take n.arity b.terms) ∷ b.literals }

abbrev pub with_node : Node → Built → Built
with_node n b = with_node_as n.role n b

abbrev pub built : List Node → Built
built [] = record { terms = []; literals = [] }
built (n ∷ ns) = with_node n (built ns)

-- ---- what each token adds

-- whole clauses; and of the formula that is being read its number, its label, whether it is kept, its names, and the places of the names whose arguments are being read, the innermost first
pub record Draft : Type 0 where
  pub signature : SignatureValue
  pub clauses : List ClauseValue
  pub number : ℕ
  pub label : LabelValue
  pub is_kept : Bool
  pub items : List ItemValue
  pub open_items : List ℕ

abbrev pub empty_draft : Draft
empty_draft = record { signature = record { functions = []; predicates = [] }; clauses = []; number = 0; label = no_label; is_kept = true; items = []; open_items = [] }

-- One more formula can have a number of 32 bits, and so can each name of the row where it is new.
pub record IsNumberable (d : Draft) : Type 0 where
  pub formulas : d.number < 2 ^ 32 - 1
  pub symbols : length d.signature.functions + length d.signature.predicates + length d.items < 2 ^ 32 - 1

abbrev pub begun : Draft → Draft
begun d = record { signature = d.signature; clauses = d.clauses; number = d.number + 1; label = d.label; is_kept = true; items = []; open_items = [] }

abbrev pub labelled : LabelValue → Draft → Draft
labelled label d = record { signature = d.signature; clauses = d.clauses; number = d.number; label = label; is_kept = d.is_kept; items = d.items; open_items = d.open_items }

-- the same draft with this row
abbrev pub with_row : List ItemValue → List ℕ → Draft → Draft
with_row items open_items d = record { signature = d.signature; clauses = d.clauses; number = d.number; label = d.label; is_kept = d.is_kept; items = items; open_items = open_items }

abbrev pub kept_if : Bool → Draft → Draft
kept_if kept d = record { signature = d.signature; clauses = d.clauses; number = d.number; label = d.label; is_kept = kept; items = d.items; open_items = d.open_items }

abbrev pub with_name : Role → Terminal → Draft → Draft
with_name role t d = with_row (d.items ++ item role t 0 ∷ []) d.open_items d

abbrev pub sign_role : Bool → Role
sign_role true = role.Positive
sign_role false = role.Negative

-- a literal $true or ~$false leaves the formula out
abbrev pub with_truth : Bool → Draft → Draft
with_truth is_true d = if is_true then kept_if false d else d

abbrev pub with_atom : Bool → Terminal → Draft → Draft
with_atom positive (DollarWord text) d = with_truth (same_truth positive (bytes_eq text (codes "$true"))) d
with_atom positive t d = with_name (sign_role positive) t d

abbrev pub argument_role : Terminal → Role
argument_role (Variable text) = role.Variable
argument_role t = role.Function

abbrev pub with_argument : Terminal → Draft → Draft
with_argument t d = with_name (argument_role t) t d

-- the arguments of the last name come next
abbrev pub items_opened : Draft → Draft
items_opened d = with_row d.items ((length d.items - 1) ∷ d.open_items) d

-- the row in which the name at a place has so many arguments
abbrev pub with_arity : ℕ → ℕ → List ItemValue → List ItemValue
with_arity place arity [] = []
with_arity zero arity (i ∷ is) = item i.role i.terminal arity ∷ is
with_arity (suc place) arity (i ∷ is) = i ∷ with_arity place arity is

abbrev pub closed_at : List ℕ → ℕ → Draft → Draft
closed_at [] arity d = d
closed_at (place ∷ places) arity d = with_row (with_arity place arity d.items) places d

abbrev pub items_closed : ℕ → Draft → Draft
items_closed arity d = closed_at d.open_items arity d

-- the names become a clause
abbrev pub with_clause : Draft → Draft
with_clause d = record {
  signature = names_signature (names_after (names_of d.signature) d.items);
  clauses = d.clauses ++ (record { number = d.number; label = d.label; literals = (built (numbered (names_of d.signature) d.items)).literals }) ∷ [];
  number = d.number;
  label = no_label;
  is_kept = d.is_kept;
  items = d.items;
  open_items = d.open_items;
}

abbrev pub ended : Draft → Draft
ended d = if d.is_kept then with_clause d else d

-- the draft behind a token that is this part of a file
abbrev pub fed : Draft → Part → Terminal → Draft
fed d part.Formula t = begun d
fed d part.Label t = labelled (label_as t) d
fed d part.Positive t = with_atom true t d
fed d part.Atom t = with_atom false t d
fed d (part.Argument n) t = with_argument t d
fed d part.OpenArguments t = items_opened d
fed d (part.CloseArguments n) t = items_closed n d
fed d part.End t = ended d
fed d p t = d

-- whether this is a constant
abbrev pub constant_at : Option SymbolValue → Bool
constant_at None = false
constant_at (Some s) = is_constant s

-- the problem of the clauses
abbrev pub finished : Draft → ProblemValue
finished d =
    let functions = with_constant d.signature.functions in
    record { clauses = d.clauses; signature = record { functions = functions; predicates = d.signature.predicates }; c0 = position_or_len is_constant functions }

-- the draft behind tokens that the grammar's machine reads from this state on
abbrev pub fed_from : Option State → List Terminal → Draft → Draft
fed_from None ts d = d
fed_from (Some s) [] d = d
fed_from (Some s) (t ∷ ts) d = fed_from (step s t) ts (fed d (part_at s t) t)

-- the draft behind tokens, each with what it is in the file
abbrev pub feeds : Draft → List Printed → Draft
feeds d [] = d
feeds d (p ∷ ps) = feeds (fed d p.part p.terminal) ps
