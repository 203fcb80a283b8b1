-- Parts of the flattened problem as they are made one by one.
use Rattle.std.proofs.Common.{◌≡◌, ℕ, zero, suc, ◌+◌, ◌^◌, ◌<◌, ◌≤◌, Bool, true, false, cond, eqb, List, [], ◌∷◌, ◌++◌, length, map, take, drop, get_or, Option, Some, None, refl, sym, ap, subst, ◌∙◌, append_assoc, arith}
use Rattle.std.proofs.lemmas.Bool.Decides.{nat_tests}
use Rattle.std.proofs.lemmas.List.{length-append, length-take, map-append, take_more, drop_more, take-append-drop}
use Rattle.std.proofs.lemmas.List.FromFn.{map-range_with_len_more}
use Rattle.std.proofs.lemmas.List.Sums.{prefix_len-le-length}
use Rattle.std.proofs.lemmas.Option.{slice_get_within, get_or_from_slice_get}
use Rattle.std.specs.Prelude.{not, slice_get, nat_lt}
use Rattle.std.specs.List.{AllByRecursion, IsDistinct, position, position_or_len, range_with_len}
use Rattle.me_terms.specs.Heads.{symbol_of, arguments_in}
use Rattle.me_terms.specs.Signatures.{with_symbol}
use Rattle.me_terms.specs.Terms.{TermValue, Arguments, AtomValue, list_of, arguments_of, height, heights}
use Rattle.me_terms.specs.TermViews.{term_value}
use Rattle.me_terms.specs.Values.{SymbolValue, SignatureValue, ClauseValue, ProblemValue}
use Rattle.me_terms.specs.Variables.{first_ones, place_of}
use Rattle.me_terms.specs.declared.atom.Literal.{Literal}
use Rattle.me_terms.specs.declared.term.Term.{Term}
use Rattle.me_terms.proofs.Numbered.{first_ones_append}
use Rattle.finite_domain.specs.Names.{with_value, variable_of}
use Rattle.finite_domain.specs.Flat.{element, elements, relation, relations_from, copy_of, order_of, totality, totalities_from, term_literal, own_atom, flat_literals, labelled, numbered_from, flat_lists, flat_of}
use Rattle.finite_domain.proofs.Apart.{next_element, next_relation, relations_push, next_copy, apart_before}
use Rattle.finite_domain.proofs.Counting.{numbered_append, numbered_length, totalities_push, totalities_length}
use Rattle.finite_domain.proofs.Going.{here, listed}
use Rattle.finite_domain.proofs.Lists.{front, back, mapped_length}

-- ---- terms

pub height_item : (xs : List Term) (i : ℕ) (x : Term) → i < length xs → x ≡ get_or xs i x → height (term_value x) ≤ heights (arguments_of (map term_value xs))
height_item [] i x less is = absurd (omega arith)
height_item (y ∷ xs) zero x less is = let e = ap (λ (t : Term). height (term_value t)) is in omega (arith, e)
height_item (y ∷ xs) (suc i) x less is = omega (arith, height_item xs i x (omega arith) is)

mapped_twice : (names : List TermValue) (xs : List Term) → map (λ (x : Term). variable_of names (term_value x)) xs ≡ map (variable_of names) (map term_value xs)
mapped_twice names [] = refl
mapped_twice names (x ∷ xs) = ap (λ (v : List TermValue). variable_of names (term_value x) ∷ v) (mapped_twice names xs)

-- the list of a term's arguments
pub list_is : (xs : List Term) (ts : Arguments) → arguments_of (map term_value xs) ≡ ts → map term_value xs ≡ list_of ts
list_is xs ts is = sym (listed (map term_value xs)) ∙ ap list_of is

pub term_made : (names : List TermValue) (t v : TermValue) (xs : List Term) (items next : List TermValue) (pred : ℕ) → arguments_of (map term_value xs) ≡ arguments_in t
    → items ≡ map (λ (x : Term). variable_of names (term_value x)) xs → next ≡ items ++ v ∷ [] → v ≡ variable_of names t → pred ≡ symbol_of t
    → (record { positive = false; atom = record { pred = pred; args = arguments_of next } }) ≡ term_literal names t
term_made names t v xs items next pred inside made pushed value symbol =
    let all : next ≡ map (variable_of names) (with_value t) =
    pushed
    ∙ ap (λ (w : List TermValue). w ++ v ∷ []) (made ∙ mapped_twice names xs ∙ ap (map (variable_of names)) (list_is xs (arguments_in t) inside))
    ∙ ap (λ (w : TermValue). map (variable_of names) (list_of (arguments_in t)) ++ w ∷ []) value
    ∙ sym (map-append (variable_of names) (list_of (arguments_in t)) (t ∷ [])) in
    λ i. record { positive = false; atom = record { pred = symbol i; args = arguments_of (all i) } }

pub own_made : (relations : ℕ) (order : List ℕ) (names : List TermValue) (inside : List TermValue) (pred : ℕ) (xs : List Term) (items : List TermValue) (place : ℕ) → map term_value xs ≡ inside
    → items ≡ map (λ (x : Term). variable_of names (term_value x)) xs → place ≡ place_of pred order
    → (record { pred = relations + place; args = arguments_of items }) ≡ own_atom relations order names (record { pred = pred; args = arguments_of inside })
own_made relations order names inside pred xs items place is made at =
    let all : items ≡ map (variable_of names) (list_of (arguments_of inside)) = made ∙ mapped_twice names xs ∙ ap (map (variable_of names)) (is ∙ sym (listed inside)) in
    λ i. record { pred = relations + at i; args = arguments_of (all i) }

-- ---- places

some_by : (b : Bool) (n i : ℕ) → Some i ≡ cond b (Some n) None → i ≡ n
some_by true n i h = cc
some_by false n i h = absurd cc

none_by : (b : Bool) (n : ℕ) → None ≡ cond b (Some n) None → b ≡ false
none_by true n h = absurd cc
none_by false n h = refl

pub place_some : {X : Type 0} (p : X → Bool) (xs : List X) (i : ℕ) → Some i ≡ position p xs → i ≡ position_or_len p xs
place_some p xs i h = some_by (nat_lt (position_or_len p xs) (length xs)) (position_or_len p xs) i h

pub place_none : {X : Type 0} (p : X → Bool) (xs : List X) → None ≡ position p xs → length xs ≡ position_or_len p xs
place_none p xs h =
    let test = none_by (nat_lt (position_or_len p xs) (length xs)) (position_or_len p xs) h in
    let most = prefix_len-le-length (λ x. not (p x)) xs in
    past (position_or_len p xs) (length xs) most test
  where
    past : (n m : ℕ) → n ≤ m → nat_lt n m ≡ false → m ≡ n
    past n m le k = grind (arith, nat_tests)

pub place_most : {X : Type 0} (p : X → Bool) (xs : List X) → position_or_len p xs ≤ length xs
place_most p xs = prefix_len-le-length (λ x. not (p x)) xs

-- ---- symbols

pub element_added : (old new : SignatureValue) (s : SymbolValue) (k : ℕ) → new ≡ record old { functions = with_symbol old.functions s } → s ≡ element (k + 1) → old.functions ≡ elements k → k + 1 < 2 ^ 64 → new.functions ≡ elements (k + 1)
element_added old new s k added is before small =
    ap (λ (x : SignatureValue). x.functions) added
    ∙ ap (with_symbol old.functions) is
    ∙ ap (λ (v : List SymbolValue). with_symbol v (element (k + 1))) before
    ∙ next_element k small
    ∙ sym (map-range_with_len_more element 1 k (k + 1) (omega arith))

pub taken_more : {X : Type 0} (xs : List X) (j : ℕ) (x : X) → slice_get xs j ≡ Some x → take (j + 1) xs ≡ take j xs ++ x ∷ []
taken_more {X} xs j x is = take_more xs j x (slice_get_within xs j x is) ∙ ap (λ (v : X). take j xs ++ v ∷ []) (get_or_from_slice_get xs j x x is)

taken_length : {X : Type 0} (xs : List X) (j : ℕ) (x : X) → slice_get xs j ≡ Some x → length (take j xs) ≡ j
taken_length xs j x is = let within = slice_get_within xs j x is in omega (arith, length-take j xs)

pub relation_added : (old new : SignatureValue) (s f : SymbolValue) (fs : List SymbolValue) (j : ℕ) → new ≡ record old { predicates = with_symbol old.predicates s } → s ≡ relation j f.arity → old.predicates ≡ relations_from 0 (take j fs)
    → slice_get fs j ≡ Some f → j < 2 ^ 64 → new.predicates ≡ relations_from 0 (take (j + 1) fs)
relation_added old new s f fs j added is before at small =
    let count : length (take j fs) ≡ j = taken_length fs j f at in
    ap (λ (x : SignatureValue). x.predicates) added
    ∙ ap (with_symbol old.predicates) is
    ∙ ap (λ (v : List SymbolValue). with_symbol v (relation j f.arity)) before
    ∙ next_relation j f.arity (take j fs) count small
    ∙ sym (relations_push 0 j (take j fs) f (omega (arith, count)))
    ∙ ap (relations_from 0) (sym (taken_more fs j f at))

pub copy_added : (old new : SignatureValue) (s : SymbolValue) (fs ps : List SymbolValue) (items : List ℕ) (i p : ℕ) → new ≡ record old { predicates = with_symbol old.predicates s } → s ≡ copy_of ps p
    → old.predicates ≡ relations_from 0 fs ++ map (copy_of ps) (take i items) → i < length items → get_or items i 0 ≡ p → IsDistinct eqb items → AllByRecursion (λ (q : ℕ). q < 2 ^ 64) items
    → new.predicates ≡ relations_from 0 fs ++ map (copy_of ps) (take (i + 1) items)
copy_added old new s fs ps items i p added is before less at distinct small =
    let rest : drop i items ≡ p ∷ drop (i + 1) items = drop_more items i 0 less ∙ ap (λ (v : ℕ). v ∷ drop (i + 1) items) at in
    let parts : items ≡ take i items ++ p ∷ drop (i + 1) items = sym (take-append-drop i items) ∙ ap (λ (v : List ℕ). take i items ++ v) rest in
    let apart = apart_before (take i items) (drop (i + 1) items) p (subst (IsDistinct eqb) parts distinct) in
    let all = subst (AllByRecursion (λ (q : ℕ). q < 2 ^ 64)) parts small in
    let own : p < 2 ^ 64 = (back_of (take i items) (p ∷ drop (i + 1) items) all).0 in
    let next : take (i + 1) items ≡ take i items ++ p ∷ [] = take_more items i 0 less ∙ ap (λ (v : ℕ). take i items ++ v ∷ []) at in
    ap (λ (x : SignatureValue). x.predicates) added
    ∙ ap (with_symbol old.predicates) is
    ∙ ap (λ (v : List SymbolValue). with_symbol v (copy_of ps p)) before
    ∙ next_copy fs ps (take i items) p own (front (λ (q : ℕ). q < 2 ^ 64) (take i items) (p ∷ drop (i + 1) items) all) apart
    ∙ joined (relations_from 0 fs) (map (copy_of ps) (take i items)) (copy_of ps p)
    ∙ ap (λ (v : List SymbolValue). relations_from 0 fs ++ v) (sym (map-append (copy_of ps) (take i items) (p ∷ [])) ∙ ap (map (copy_of ps)) (sym next))
  where
    back_of : (xs ys : List ℕ) → AllByRecursion (λ (q : ℕ). q < 2 ^ 64) (xs ++ ys) → AllByRecursion (λ (q : ℕ). q < 2 ^ 64) ys
    back_of xs ys h = back (λ (q : ℕ). q < 2 ^ 64) xs ys h

    joined : (xs ys : List SymbolValue) (z : SymbolValue) → (xs ++ ys) ++ z ∷ [] ≡ xs ++ (ys ++ z ∷ [])
    joined xs ys z = append_assoc xs ys (z ∷ [])

pub ones_more : (found next all part rest whole : List ℕ) → whole ≡ part ++ rest → next ≡ first_ones found part → first_ones found whole ≡ all → first_ones next rest ≡ all
ones_more found next all part rest whole parts is before =
    ap (λ (v : List ℕ). first_ones v rest) is
    ∙ sym (first_ones_append found part rest)
    ∙ ap (first_ones found) (sym parts)
    ∙ before

-- ---- clauses

pub total_length : (n j : ℕ) (fs : List SymbolValue) (f : SymbolValue) (made : List ClauseValue) → made ≡ numbered_from 1 (totalities_from n 0 (take j fs)) → slice_get fs j ≡ Some f → length made ≡ j
total_length n j fs f made is at =
    ap length is ∙ numbered_length 1 (totalities_from n 0 (take j fs)) ∙ totalities_length n 0 (take j fs) ∙ taken_length fs j f at

pub total_more : (n j : ℕ) (fs : List SymbolValue) (f : SymbolValue) (made new : List ClauseValue) (literals : List Literal) → made ≡ numbered_from 1 (totalities_from n 0 (take j fs)) → slice_get fs j ≡ Some f
    → literals ≡ totality n j f.arity → new ≡ made ++ labelled (length made + 1) literals ∷ [] → new ≡ numbered_from 1 (totalities_from n 0 (take (j + 1) fs))
total_more n j fs f made new literals is at same pushed =
    let count = total_length n j fs f made is at in
    let size : length (take j fs) ≡ j = taken_length fs j f at in
    let lists = totalities_from n 0 (take j fs) in
    let lists_size : length lists ≡ j = totalities_length n 0 (take j fs) ∙ size in
    pushed
    ∙ ap (λ (v : ℕ). made ++ labelled (v + 1) literals ∷ []) count
    ∙ ap (λ (v : List Literal). made ++ labelled (j + 1) v ∷ []) same
    ∙ ap (λ (v : List ClauseValue). v ++ labelled (j + 1) (totality n j f.arity) ∷ []) is
    ∙ sym (numbered_append 1 (j + 1) lists (totality n j f.arity ∷ []) (omega (arith, lists_size)))
    ∙ ap (numbered_from 1) (sym (totalities_push n 0 j (take j fs) f (omega (arith, size))))
    ∙ ap (λ (v : List SymbolValue). numbered_from 1 (totalities_from n 0 v)) (sym (taken_more fs j f at))

abbrev pub lists_of : ℕ → List ℕ → List ClauseValue → List (List Literal)
lists_of relations order cs = map (λ (c : ClauseValue). flat_literals relations order c.literals) cs

pub own_length : (relations i : ℕ) (order : List ℕ) (cs : List ClauseValue) (start made : List ClauseValue) → length start ≡ relations → made ≡ start ++ numbered_from (relations + 1) (lists_of relations order (take i cs)) → i ≤ length cs → length made ≡ relations + i
own_length relations i order cs start made begun is within =
    let e : length made ≡ length start + length (numbered_from (relations + 1) (lists_of relations order (take i cs))) = ap length is ∙ length-append start (numbered_from (relations + 1) (lists_of relations order (take i cs))) in
    omega (arith, e, begun, numbered_length (relations + 1) (lists_of relations order (take i cs)), mapped_length (λ (c : ClauseValue). flat_literals relations order c.literals) (take i cs), length-take i cs)

pub own_more : (relations i : ℕ) (order : List ℕ) (cs : List ClauseValue) (c : ClauseValue) (start made new : List ClauseValue) (literals : List Literal) → length start ≡ relations
    → made ≡ start ++ numbered_from (relations + 1) (lists_of relations order (take i cs)) → i < length cs → c ≡ get_or cs i c → literals ≡ flat_literals relations order c.literals
    → new ≡ made ++ labelled (length made + 1) literals ∷ [] → new ≡ start ++ numbered_from (relations + 1) (lists_of relations order (take (i + 1) cs))
own_more relations i order cs c start made new literals begun is less at same pushed =
    let per : ClauseValue → List Literal = λ d. flat_literals relations order d.literals in
    let count = own_length relations i order cs start made begun is (omega arith) in
    let before = lists_of relations order (take i cs) in
    let size : length before ≡ i = mapped_length per (take i cs) ∙ (omega (arith, length-take i cs, less)) in
    let next : take (i + 1) cs ≡ take i cs ++ c ∷ [] = take_more cs i c less ∙ ap (λ (v : ClauseValue). take i cs ++ v ∷ []) (sym at) in
    pushed
    ∙ ap (λ (v : ℕ). made ++ labelled (v + 1) literals ∷ []) count
    ∙ ap (λ (v : List Literal). made ++ labelled (relations + i + 1) v ∷ []) same
    ∙ ap (λ (v : List ClauseValue). v ++ labelled (relations + i + 1) (per c) ∷ []) is
    ∙ append_assoc start (numbered_from (relations + 1) before) (labelled (relations + i + 1) (per c) ∷ [])
    ∙ ap (λ (v : List ClauseValue). start ++ v) (sym (numbered_append (relations + 1) (relations + i + 1) before (per c ∷ []) (omega (arith, size))))
    ∙ ap (λ (v : List (List Literal)). start ++ numbered_from (relations + 1) v) (sym (map-append per (take i cs) (c ∷ [])) ∙ ap (map per) (sym next))

-- ---- the whole

pub flat_made : (problem : ProblemValue) (n : ℕ) (start clauses : List ClauseValue) (signature : SignatureValue) → start ≡ numbered_from 1 (totalities_from n 0 problem.signature.functions)
    → clauses ≡ start ++ numbered_from (length problem.signature.functions + 1) (lists_of (length problem.signature.functions) (order_of problem.clauses) problem.clauses)
    → signature.functions ≡ elements n → signature.predicates ≡ relations_from 0 problem.signature.functions ++ map (copy_of problem.signature.predicates) (order_of problem.clauses)
    → (record { clauses = clauses; signature = signature; c0 = 0 }) ≡ flat_of problem n
flat_made problem n start clauses signature begun added functions predicates =
    let count = length problem.signature.functions in
    let lists = lists_of count (order_of problem.clauses) problem.clauses in
    let totals = totalities_from n 0 problem.signature.functions in
    let all : clauses ≡ numbered_from 1 (flat_lists problem n) =
    added
    ∙ ap (λ (v : List ClauseValue). v ++ numbered_from (count + 1) lists) begun
    ∙ sym (numbered_append 1 (count + 1) totals lists (omega (arith, totalities_length n 0 problem.signature.functions))) in
    λ i. record { clauses = all i; signature = record { functions = functions i; predicates = predicates i }; c0 = 0 }
