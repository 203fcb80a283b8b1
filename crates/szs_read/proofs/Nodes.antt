-- Nodes and the terms that they are.
use Rattle.std.proofs.Common.{◌≡◌, ◌<◌, ◌≤◌, ◌^◌, ℕ, zero, suc, Bool, true, ◌&&◌, List, [], ◌∷◌, ◌++◌, length, take, drop, map, reverse, Option, refl, sym, ap, subst, ◌∙◌, append_assoc, arith}
use Rattle.std.proofs.lemmas.Bool.Decides.{nat_tests}
use Rattle.std.proofs.lemmas.List.{take-append-drop, length-map, length-reverse}
use Rattle.std.specs.Prelude.{slice_get, eqb}
use Rattle.std.specs.List.{AllByRecursion}
use Rattle.me_terms.specs.Labels.{IsFunctionSymbol, IsPredicateSymbol}
use Rattle.me_terms.specs.Measures.{capped}
use Rattle.me_terms.specs.Signatures.{takes, is_known, are_known, with_symbol, number_of}
use Rattle.me_terms.specs.TermViews.{term_value}
use Rattle.me_terms.specs.declared.term.Term.{Term}
use Rattle.me_terms.specs.Terms.{TermValue, Var, App, Arguments, Nil, Cons, arguments_of}
use Rattle.me_terms.specs.Values.{SymbolValue, SignatureValue}
use Rattle.me_terms.specs.Variables.{count, variables_of, term_variables}
use Rattle.tptp_cnf.specs.Meaning.{with_symbols}
use Rattle.tptp_cnf.specs.Plain.{symbols_at, function_numbers, term_function_numbers}
use Rattle.tptp_cnf.proofs.Numbering.{Longer}
use Rattle.szs_read.specs.Rows.{term_nodes, nodes_of, node_functions, IsNode, AreNumbered, IsPredicateAt}
use Rattle.szs_read.specs.declared.number.Node.{Node}
use Rattle.szs_read.specs.declared.number.Node.TheVariants.{Variable, Function}
use Rattle.szs_read.proofs.Symbols.{all_both, all_so, AreIn, added_both, added_longer, all_at_both, takes_longer, taken_at, number_is, one_at}

-- ---- terms as nodes

pub nodes_both : (xs ys : List TermValue) → nodes_of (arguments_of (xs ++ ys)) ≡ nodes_of (arguments_of xs) ++ nodes_of (arguments_of ys)
nodes_both [] ys = refl
nodes_both (x ∷ xs) ys =
    ap (λ (v : List Node). term_nodes x ++ v) (nodes_both xs ys)
    ∙ sym (append_assoc (term_nodes x) (nodes_of (arguments_of xs)) (nodes_of (arguments_of ys)))

pub count_is : (xs : List TermValue) → count (arguments_of xs) ≡ length xs
count_is [] = refl
count_is (x ∷ xs) = omega (arith, count_is xs)

length_take : (n : ℕ) (xs : List TermValue) → n ≤ length xs → length (take n xs) ≡ n
length_take zero xs h = refl
length_take (suc n) [] h = absurd (omega (arith, h))
length_take (suc n) (x ∷ xs) h = ap suc (length_take n xs (omega (arith, h)))

-- a function before the terms that it takes
pub put_function : (f n : ℕ) (before : List TermValue) → n ≤ length before → nodes_of (arguments_of (App f (arguments_of (take n before)) ∷ drop n before)) ≡ Function f n ∷ nodes_of (arguments_of before)
put_function f n before h =
    ap (λ (m : ℕ). Function f m ∷ (nodes_of (arguments_of (take n before)) ++ nodes_of (arguments_of (drop n before)))) (count_is (take n before) ∙ length_take n before h)
    ∙ ap (λ (v : List Node). Function f n ∷ v) (sym (nodes_both (take n before) (drop n before)) ∙ ap (λ (v : List TermValue). nodes_of (arguments_of v)) (take-append-drop n before))

pub seen_length : (items : List Term) → length (map term_value (reverse items)) ≡ length items
seen_length items = length-map (reverse items) term_value ∙ length-reverse items

take_all : (n : ℕ) (xs : List TermValue) → length xs ≡ n → take n xs ≡ xs
take_all n [] h = take_none n
  where
    take_none : (k : ℕ) → take {A = TermValue} k [] ≡ []
    take_none zero = refl
    take_none (suc k) = refl
take_all zero (x ∷ xs) h = absurd (omega (arith, h))
take_all (suc n) (x ∷ xs) h = ap (λ (v : List TermValue). x ∷ v) (take_all n xs (omega (arith, h)))

pub all_taken : (n : ℕ) (xs taken : List TermValue) (nodes : List Node) → length xs ≡ n → taken ≡ take n xs → nodes_of (arguments_of xs) ≡ nodes → nodes_of (arguments_of taken) ≡ nodes
all_taken n xs taken nodes h e k = ap (λ (v : List TermValue). nodes_of (arguments_of v)) (e ∙ take_all n xs h) ∙ k

pub count_taken : (n : ℕ) (xs taken : List TermValue) → length xs ≡ n → taken ≡ take n xs → length taken ≡ n
count_taken n xs taken h e = ap length (e ∙ take_all n xs h) ∙ h

-- ---- what is said of nodes

pub functions_both : (xs ys : List Node) → node_functions (xs ++ ys) ≡ node_functions xs ++ node_functions ys
functions_both [] ys = refl
functions_both (Variable x ∷ xs) ys = functions_both xs ys
functions_both (Function f n ∷ xs) ys = ap (λ (v : List ℕ). f ∷ v) (functions_both xs ys)

mutual
  term_functions : (t : TermValue) → node_functions (term_nodes t) ≡ term_function_numbers t
  term_functions (Var x) = refl
  term_functions (App f ts) = ap (λ (v : List ℕ). f ∷ v) (terms_functions ts)

  pub terms_functions : (ts : Arguments) → node_functions (nodes_of ts) ≡ function_numbers ts
  terms_functions Nil = refl
  terms_functions (Cons t ts) =
      functions_both (term_nodes t) (nodes_of ts)
      ∙ ap (λ (v : List ℕ). v ++ node_functions (nodes_of ts)) (term_functions t)
      ∙ ap (λ (v : List ℕ). term_function_numbers t ++ v) (terms_functions ts)

all_front : {X : Type 0} (P : X → Type 0) (xs ys : List X) → AllByRecursion P (xs ++ ys) → AllByRecursion P xs
all_front P [] ys h = tt
all_front P (x ∷ xs) ys h = (h.0, all_front P xs ys h.1)

all_back : {X : Type 0} (P : X → Type 0) (xs ys : List X) → AllByRecursion P (xs ++ ys) → AllByRecursion P ys
all_back P [] ys h = h
all_back P (x ∷ xs) ys h = all_back P xs ys h.1

pub both_true : (a b : Bool) → a ≡ true → b ≡ true → (a && b) ≡ true
both_true a b h k = rw h (rw k refl)

module _ (signature : SignatureValue) where
  mutual
    term_known : (t : TermValue) → AllByRecursion (IsNode signature.functions) (term_nodes t) → is_known signature t ≡ true
    term_known (Var x) h = refl
    term_known (App f ts) h = both_true (takes (slice_get signature.functions f) (count ts)) (are_known signature ts) h.0 (terms_known ts h.1)

    pub terms_known : (ts : Arguments) → AllByRecursion (IsNode signature.functions) (nodes_of ts) → are_known signature ts ≡ true
    terms_known Nil h = refl
    terms_known (Cons t ts) h =
        both_true (is_known signature t) (are_known signature ts)
        (term_known t (all_front (IsNode signature.functions) (term_nodes t) (nodes_of ts) h))
        (terms_known ts (all_back (IsNode signature.functions) (term_nodes t) (nodes_of ts) h))

  mutual
    term_small : (t : TermValue) → AllByRecursion (IsNode signature.functions) (term_nodes t) → AllByRecursion (λ x. x < 2 ^ 32) (term_variables t)
    term_small (Var x) h = (h.0, tt)
    term_small (App f ts) h = terms_small ts h.1

    pub terms_small : (ts : Arguments) → AllByRecursion (IsNode signature.functions) (nodes_of ts) → AllByRecursion (λ x. x < 2 ^ 32) (variables_of ts)
    terms_small Nil h = tt
    terms_small (Cons t ts) h =
        all_both (λ x. x < 2 ^ 32) (term_variables t) (variables_of ts)
        (term_small t (all_front (IsNode signature.functions) (term_nodes t) (nodes_of ts) h))
        (terms_small ts (all_back (IsNode signature.functions) (term_nodes t) (nodes_of ts) h))

-- ---- numbers

pub nodes_in : (symbols : List SymbolValue) (nodes : List Node) → AllByRecursion (IsNode symbols) nodes → AreIn symbols (node_functions nodes)
nodes_in symbols [] h = tt
nodes_in symbols (Variable x ∷ nodes) h = nodes_in symbols nodes h.1
nodes_in symbols (Function f n ∷ nodes) h =
    let t = taken_at (slice_get symbols f) n h.0 in
    ((t.symbol, t.is), nodes_in symbols nodes h.1)

node_longer : (xs ys : List SymbolValue) → Longer xs ys → (node : Node) → IsNode xs node → IsNode ys node
node_longer xs ys l (Variable x) h = h
node_longer xs ys l (Function f n) h = takes_longer xs ys f n l h

pub none_numbered : (symbols : List SymbolValue) → AreNumbered symbols symbols []
none_numbered symbols = record { symbols = refl; readable = tt; lawful = tt }

pub variable_numbered : (symbols : List SymbolValue) (x : ℕ) → x < 2 ^ 32 → AreNumbered symbols symbols (Variable x ∷ [])
variable_numbered symbols x h = record { symbols = refl; readable = tt; lawful = (h, tt) }

pub numbered_both : (old mid new : List SymbolValue) (xs ys : List Node) → AreNumbered old mid xs → AreNumbered mid new ys → AreNumbered old new (xs ++ ys)
numbered_both old mid new xs ys h k =
    let l : Longer mid new = added_longer mid new (node_functions ys) k.symbols in
    let a : AreIn mid (node_functions xs) = nodes_in mid xs h.lawful in
    record {
      symbols = added_both old mid new (node_functions xs) (node_functions ys) a h.symbols k.symbols ∙ ap (λ (v : List ℕ). with_symbols old (symbols_at new v)) (sym (functions_both xs ys));
      readable = subst (λ (v : List ℕ). AllByRecursion IsFunctionSymbol (symbols_at new v)) (sym (functions_both xs ys)) (all_at_both IsFunctionSymbol mid new (node_functions xs) (node_functions ys) l a h.readable k.readable);
      lawful = all_both (IsNode new) xs ys (all_so (IsNode mid) (IsNode new) xs (node_longer mid new l) h.lawful) k.lawful;
    }

self_eq : (n : ℕ) → eqb n n ≡ true
self_eq n = grind (arith, nat_tests)

-- one symbol more, by its number
one_added : (old : List SymbolValue) (s : SymbolValue) → with_symbol old s ≡ with_symbols old (symbols_at (with_symbol old s) (number_of s (with_symbol old s) ∷ []))
one_added old s = ap (with_symbols old) (sym (one_at (with_symbol old s) (number_of s (with_symbol old s)) s (number_is old s)))

one_takes : (old : List SymbolValue) (s : SymbolValue) → takes (slice_get (with_symbol old s) (number_of s (with_symbol old s))) s.arity ≡ true
one_takes old s = ap (λ (o : Option SymbolValue). takes o s.arity) (number_is old s) ∙ self_eq s.arity

one_all : (P : SymbolValue → Type 0) (old : List SymbolValue) (s : SymbolValue) → P s → AllByRecursion P (symbols_at (with_symbol old s) (number_of s (with_symbol old s) ∷ []))
one_all P old s h = subst (AllByRecursion P) (sym (one_at (with_symbol old s) (number_of s (with_symbol old s)) s (number_is old s))) (h, tt)

pub function_numbered : (old new : List SymbolValue) (s : SymbolValue) (f n : ℕ) → IsFunctionSymbol s → s.arity ≡ n → new ≡ with_symbol old s → f ≡ number_of s new → AreNumbered old new (Function f n ∷ [])
function_numbered old new s f n h a e g =
    subst (λ (m : ℕ). AreNumbered old new (Function f m ∷ [])) a
    (subst (λ (v : List SymbolValue). AreNumbered old v (Function f s.arity ∷ [])) (sym e)
    (subst (λ (m : ℕ). AreNumbered old (with_symbol old s) (Function m s.arity ∷ [])) (sym (g ∙ ap (number_of s) e))
    (record { symbols = one_added old s; readable = one_all IsFunctionSymbol old s h; lawful = (one_takes old s, tt) })))

pub predicate_numbered : (old new : List SymbolValue) (s : SymbolValue) (p n : ℕ) → IsPredicateSymbol s → s.arity ≡ n → new ≡ with_symbol old s → p ≡ number_of s new → IsPredicateAt old new p n
predicate_numbered old new s p n h a e g =
    subst (λ (m : ℕ). IsPredicateAt old new p m) a
    (subst (λ (v : List SymbolValue). IsPredicateAt old v p s.arity) (sym e)
    (subst (λ (m : ℕ). IsPredicateAt old (with_symbol old s) m s.arity) (sym (g ∙ ap (number_of s) e))
    (record { symbols = one_added old s; readable = one_all IsPredicateSymbol old s h; takes = one_takes old s })))

-- ---- depths

pub capped_under : (d b r : ℕ) → r ≡ capped d → b ≤ 1000 → r ≤ b → d ≤ b
capped_under d b r e h k = omega (arith, e, h, k)
