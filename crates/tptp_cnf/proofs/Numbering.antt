-- Numbers stay as more names get theirs, so the numbers of a row are those by the names of the whole file.
use Rattle.std.proofs.Common.{◌≡◌, ℕ, ◌+◌, Bool, true, false, cond, ◌||◌, List, [], ◌∷◌, ◌++◌, map, refl, sym, ap, ◌∙◌, append_assoc}
use Rattle.std.proofs.lemmas.List.{append-nil}
use Rattle.std.proofs.lemmas.Slice.Eq.{bytes_eq-Decides}
use Rattle.std.specs.Prelude.{not, if◌then◌else◌}
use Rattle.std.specs.List.{list_any, position_or_len, flat_map}
use Rattle.std.specs.Str.{bytes_eq}
use Rattle.me_terms.specs.LabelEquality.{same_symbol}
use Rattle.me_terms.specs.LabelEqualityLaws.{same_symbol_itself}
use Rattle.me_terms.specs.Signatures.{with_symbol}
use Rattle.me_terms.specs.Values.{SymbolValue}
use Rattle.tptp_grammar.specs.Limits.{with_variables}
use Rattle.tptp_cnf.specs.Meaning.{with_symbols}
use Rattle.tptp_cnf.specs.Rows.{ItemValue, symbol_as, text_of_variable, Names, with_item_as, with_item, number_as, number_in, node_in, names_after, numbered}
use Rattle.tptp_cnf.specs.declared.item.Role.{Role}
use Rattle.tptp_cnf.specs.declared.item.Role.TheVariants as role
use Rattle.tptp_cnf.specs.declared.item.Node.{Node}

-- ---- lists

-- a longer list with the same front
abbrev pub Longer : {X : Type 0} → List X → List X → Type 0
Longer {X} xs ys = (more : List X) × (ys ≡ xs ++ more)

pub longer_same : {X : Type 0} (xs : List X) → Longer xs xs
longer_same xs = ([], sym (append-nil xs))

pub longer_on : {X : Type 0} (xs ys zs : List X) → Longer xs ys → Longer ys zs → Longer xs zs
longer_on {X} xs ys zs h k = (h.0 ++ k.0, k.1 ∙ ap (λ (v : List X). v ++ k.0) h.1 ∙ append_assoc xs h.0 k.0)

first_of : (v : Bool) (n m : ℕ) (w : Bool) → (v || w) ≡ true → (w ≡ true → n ≡ m) → cond (not v) (1 + n) 0 ≡ cond (not v) (1 + m) 0
first_of true n m w h k = refl
first_of false n m w h k = ap (λ (x : ℕ). 1 + x) (k h)

position-append : {X : Type 0} (p : X → Bool) (xs more : List X) → list_any p xs ≡ true → position_or_len p (xs ++ more) ≡ position_or_len p xs
position-append p [] more h = absurd cc
position-append p (x ∷ xs) more h = first_of (p x) (position_or_len p (xs ++ more)) (position_or_len p xs) (list_any p xs) h (position-append p xs more)

pub position_stays : {X : Type 0} (p : X → Bool) (xs ys : List X) → list_any p xs ≡ true → Longer xs ys → position_or_len p xs ≡ position_or_len p ys
position_stays {X} p xs ys h l = sym (position-append p xs l.0 h) ∙ ap (λ (v : List X). position_or_len p v) (sym l.1)

any_push : {X : Type 0} (p : X → Bool) (xs : List X) (y : X) → p y ≡ true → list_any p (xs ++ y ∷ []) ≡ true
any_push p [] y h = rw h refl
any_push p (x ∷ xs) y h = any_or (p x) (list_any p (xs ++ y ∷ [])) (any_push p xs y h)
  where
    any_or : (a b : Bool) → b ≡ true → (a || b) ≡ true
    any_or true b k = refl
    any_or false b k = k

-- the list with one more where the test fails, which then passes
pushed_has : {X : Type 0} (p : X → Bool) (b : Bool) (xs : List X) (y : X) → list_any p xs ≡ b → p y ≡ true → list_any p (cond b xs (xs ++ y ∷ [])) ≡ true
pushed_has p true xs y h k = h
pushed_has p false xs y h k = any_push p xs y k

pushed_longer : {X : Type 0} (b : Bool) (xs : List X) (y : X) → Longer xs (cond b xs (xs ++ y ∷ []))
pushed_longer true xs y = longer_same xs
pushed_longer false xs y = (y ∷ [], refl)

pub symbol_has : (known : List SymbolValue) (s : SymbolValue) → list_any (same_symbol s) (with_symbol known s) ≡ true
symbol_has known s = pushed_has (same_symbol s) (list_any (same_symbol s) known) known s refl (same_symbol_itself s)

pub symbol_longer : (known : List SymbolValue) (s : SymbolValue) → Longer known (with_symbol known s)
symbol_longer known s = pushed_longer (list_any (same_symbol s) known) known s

pub text_itself : (text : List ℕ) → bytes_eq text text ≡ true
text_itself text = (bytes_eq-Decides text text).1 refl

pub text_has : (known : List (List ℕ)) (text : List ℕ) → list_any (bytes_eq text) (with_variables known (text ∷ [])) ≡ true
text_has known text = pushed_has (bytes_eq text) (list_any (bytes_eq text) known) known text refl (text_itself text)

pub text_longer : (known : List (List ℕ)) (text : List ℕ) → Longer known (with_variables known (text ∷ []))
text_longer known text = pushed_longer (list_any (bytes_eq text) known) known text

-- ---- names

pub record Within (n m : Names) : Type 0 where
  pub functions : Longer n.functions m.functions
  pub predicates : Longer n.predicates m.predicates
  pub variables : Longer n.variables m.variables

pub within_same : (n : Names) → Within n n
within_same n = record { functions = longer_same n.functions; predicates = longer_same n.predicates; variables = longer_same n.variables }

pub within_on : (n m k : Names) → Within n m → Within m k → Within n k
within_on n m k h i = record { functions = longer_on n.functions m.functions k.functions h.functions i.functions; predicates = longer_on n.predicates m.predicates k.predicates h.predicates i.predicates; variables = longer_on n.variables m.variables k.variables h.variables i.variables }

item_within : (r : Role) (n : Names) (i : ItemValue) → Within n (with_item_as r n i)
item_within role.Function n i = record { functions = symbol_longer n.functions (symbol_as i); predicates = longer_same n.predicates; variables = longer_same n.variables }
item_within role.Variable n i = record { functions = longer_same n.functions; predicates = longer_same n.predicates; variables = text_longer n.variables (text_of_variable i.terminal) }
item_within role.Positive n i = record { functions = longer_same n.functions; predicates = symbol_longer n.predicates (symbol_as i); variables = longer_same n.variables }
item_within role.Negative n i = record { functions = longer_same n.functions; predicates = symbol_longer n.predicates (symbol_as i); variables = longer_same n.variables }

pub after_within : (is : List ItemValue) (n : Names) → Within n (names_after n is)
after_within [] n = within_same n
after_within (i ∷ is) n = within_on n (with_item n i) (names_after (with_item n i) is) (item_within i.role n i) (after_within is (with_item n i))

number_stays : (r : Role) (n m : Names) (i : ItemValue) → Within (with_item_as r n i) m → number_as r (with_item_as r n i) i ≡ number_as r m i
number_stays role.Function n m i w = position_stays (same_symbol (symbol_as i)) (with_symbol n.functions (symbol_as i)) m.functions (symbol_has n.functions (symbol_as i)) w.functions
number_stays role.Variable n m i w = position_stays (bytes_eq (text_of_variable i.terminal)) (with_variables n.variables (text_of_variable i.terminal ∷ [])) m.variables (text_has n.variables (text_of_variable i.terminal)) w.variables
number_stays role.Positive n m i w = position_stays (same_symbol (symbol_as i)) (with_symbol n.predicates (symbol_as i)) m.predicates (symbol_has n.predicates (symbol_as i)) w.predicates
number_stays role.Negative n m i w = position_stays (same_symbol (symbol_as i)) (with_symbol n.predicates (symbol_as i)) m.predicates (symbol_has n.predicates (symbol_as i)) w.predicates

pub numbered_is : (is : List ItemValue) (n m : Names) → Within (names_after n is) m → numbered n is ≡ map (node_in m) is
numbered_is [] n m w = refl
numbered_is (i ∷ is) n m w =
    let on : Within (with_item n i) m = within_on (with_item n i) (names_after (with_item n i) is) m (after_within is (with_item n i)) w in
    ap (λ (k : ℕ). (record { role = i.role; number = k; arity = i.arity }) ∷ numbered (with_item n i) is) (number_stays i.role n m i on)
    ∙ ap (λ (v : List Node). node_in m i ∷ v) (numbered_is is (with_item n i) m w)

-- ---- the names of a row

abbrev functions_as : Role → ItemValue → List SymbolValue
functions_as role.Function i = symbol_as i ∷ []
functions_as r i = []

abbrev predicates_as : Role → ItemValue → List SymbolValue
predicates_as role.Positive i = symbol_as i ∷ []
predicates_as role.Negative i = symbol_as i ∷ []
predicates_as r i = []

abbrev variables_as : Role → ItemValue → List (List ℕ)
variables_as role.Variable i = text_of_variable i.terminal ∷ []
variables_as r i = []

abbrev pub item_functions : ItemValue → List SymbolValue
item_functions i = functions_as i.role i

abbrev pub item_predicates : ItemValue → List SymbolValue
item_predicates i = predicates_as i.role i

abbrev pub item_variables : ItemValue → List (List ℕ)
item_variables i = variables_as i.role i

pub symbols-append : (xs ys known : List SymbolValue) → with_symbols known (xs ++ ys) ≡ with_symbols (with_symbols known xs) ys
symbols-append [] ys known = refl
symbols-append (x ∷ xs) ys known = symbols-append xs ys (with_symbol known x)

pub texts-append : (xs ys known : List (List ℕ)) → with_variables known (xs ++ ys) ≡ with_variables (with_variables known xs) ys
texts-append [] ys known = refl
texts-append (x ∷ xs) ys known = texts-append xs ys (if list_any (bytes_eq x) known then known else known ++ x ∷ [])

functions_on : (r : Role) (n : Names) (i : ItemValue) → (with_item_as r n i).functions ≡ with_symbols n.functions (functions_as r i)
functions_on role.Function n i = refl
functions_on role.Variable n i = refl
functions_on role.Positive n i = refl
functions_on role.Negative n i = refl

predicates_on : (r : Role) (n : Names) (i : ItemValue) → (with_item_as r n i).predicates ≡ with_symbols n.predicates (predicates_as r i)
predicates_on role.Function n i = refl
predicates_on role.Variable n i = refl
predicates_on role.Positive n i = refl
predicates_on role.Negative n i = refl

variables_on : (r : Role) (n : Names) (i : ItemValue) → (with_item_as r n i).variables ≡ with_variables n.variables (variables_as r i)
variables_on role.Function n i = refl
variables_on role.Variable n i = refl
variables_on role.Positive n i = refl
variables_on role.Negative n i = refl

pub after_functions : (is : List ItemValue) (n : Names) → (names_after n is).functions ≡ with_symbols n.functions (flat_map item_functions is)
after_functions [] n = refl
after_functions (i ∷ is) n = after_functions is (with_item n i) ∙ ap (λ (x : List SymbolValue). with_symbols x (flat_map item_functions is)) (functions_on i.role n i) ∙ sym (symbols-append (item_functions i) (flat_map item_functions is) n.functions)

pub after_predicates : (is : List ItemValue) (n : Names) → (names_after n is).predicates ≡ with_symbols n.predicates (flat_map item_predicates is)
after_predicates [] n = refl
after_predicates (i ∷ is) n = after_predicates is (with_item n i) ∙ ap (λ (x : List SymbolValue). with_symbols x (flat_map item_predicates is)) (predicates_on i.role n i) ∙ sym (symbols-append (item_predicates i) (flat_map item_predicates is) n.predicates)

pub after_variables : (is : List ItemValue) (n : Names) → (names_after n is).variables ≡ with_variables n.variables (flat_map item_variables is)
after_variables [] n = refl
after_variables (i ∷ is) n = after_variables is (with_item n i) ∙ ap (λ (x : List (List ℕ)). with_variables x (flat_map item_variables is)) (variables_on i.role n i) ∙ sym (texts-append (item_variables i) (flat_map item_variables is) n.variables)

-- one more name of those that are still to be numbered
pub numbered_step : (nodes more start : List Node) (names next : Names) (i : ItemValue) (number : ℕ) (rest : List ItemValue) → nodes ++ numbered names (i ∷ rest) ≡ start → more ≡ nodes ++ (record { role = i.role; number = number; arity = i.arity }) ∷ [] → number ≡ number_in next i → next ≡ with_item names i → more ++ numbered next rest ≡ start
numbered_step nodes more start names next i number rest h m n e =
    ap (λ (x : List Node). x ++ numbered next rest) m
    ∙ append_assoc nodes ((record { role = i.role; number = number; arity = i.arity }) ∷ []) (numbered next rest)
    ∙ ap (λ (k : ℕ). nodes ++ (record { role = i.role; number = k; arity = i.arity }) ∷ numbered next rest) n
    ∙ ap (λ (x : Names). nodes ++ node_in x i ∷ numbered x rest) e
    ∙ h
