-- How many symbols a made problem has.
use Rattle.std.proofs.Common.{◌≡◌, ℕ, zero, suc, ◌+◌, ◌*◌, ◌%◌, ◌^◌, ◌<◌, ◌≤◌, Bool, true, false, cond, ◌||◌, ◌⊎◌, inl, inr, List, [], ◌∷◌, ◌++◌, length, refl, sym, ap, subst, ◌∙◌, true≢false, arith, length-append, mod-lt, pow-suc, one-mul}
use native.Mathlib.Nat.{pow-zero}
use Rattle.std.specs.Prelude.{codes, decimal, option_to_list}
use Rattle.std.specs.List.{All, AllByRecursion, list_any, sum_by}
use Rattle.std.proofs.lemmas.List.Sums.{sum_by-cons}
use Rattle.me_terms.specs.LabelEquality.{same_symbol}
use Rattle.me_terms.specs.LabelEqualityLaws.{same_symbol_itself}
use Rattle.me_terms.specs.Signatures.{with_symbol}
use Rattle.me_terms.specs.Values.{SymbolValue, ProblemValue}
use Rattle.me_terms.specs.declared.bounds.Bounds.{Bounds}
use Rattle.me_laws_counting.specs.FunctionFree.{atoms_of}
use Rattle.tptp_cnf.specs.Meaning.{word, symbol, is_constant, c0_symbol, with_symbols, with_constant}
use Rattle.make_problem.specs.Made.{words_of, constant_by, constant_of, predicates_of, constants_of, IsMade}
use Rattle.made_laws.specs.MadeProblems.{MadeIsRoomy}

-- ---- what holds of symbols

both : (P : SymbolValue → Type 0) (xs ys : List SymbolValue) → AllByRecursion P xs → AllByRecursion P ys → AllByRecursion P (xs ++ ys)
both P [] ys h k = k
both P (x ∷ xs) ys h k = (h.0, both P xs ys h.1 k)

one_more : (P : SymbolValue → Type 0) (b : Bool) (known : List SymbolValue) (s : SymbolValue) → AllByRecursion P known → P s → AllByRecursion P (cond b known (known ++ s ∷ []))
one_more P true known s h k = h
one_more P false known s h k = both P known (s ∷ []) h (k, tt)

all_with : (P : SymbolValue → Type 0) (ss known : List SymbolValue) → AllByRecursion P known → AllByRecursion P ss → AllByRecursion P (with_symbols known ss)
all_with P [] known h k = h
all_with P (s ∷ ss) known h k = all_with P ss (with_symbol known s) (one_more P (list_any (same_symbol s) known) known s h k.0) k.1

all_of : (P : SymbolValue → Type 0) (xs : List SymbolValue) → AllByRecursion P xs → All P xs
all_of P [] h k d lt = absurd (omega (arith, lt))
all_of P (x ∷ xs) h zero d lt = h.0
all_of P (x ∷ xs) h (suc k) d lt = all_of P xs h.1 k d (omega (arith, lt))

-- ---- how many different symbols of a list there can be

abbrev Among : SymbolValue → List SymbolValue → Type 0
Among s [] = ⊥
Among s (u ∷ us) = (s ≡ u) ⊎ Among s us

-- 1 where a symbol is not known
abbrev unknown : Bool → ℕ
unknown true = 0
unknown false = 1

-- how many of these are not known yet
abbrev missing : List SymbolValue → List SymbolValue → ℕ
missing [] known = 0
missing (u ∷ us) known = unknown (list_any (same_symbol u) known) + missing us known

stays : (p : SymbolValue → Bool) (known : List SymbolValue) (s : SymbolValue) → list_any p known ≡ true → list_any p (known ++ s ∷ []) ≡ true
stays p [] s h = absurd (true≢false (sym h))
stays p (x ∷ known) s h = go (p x) h (stays p known s)
  where
    go : (b : Bool) → (b || list_any p known) ≡ true → (list_any p known ≡ true → list_any p (known ++ s ∷ []) ≡ true) → (b || list_any p (known ++ s ∷ [])) ≡ true
    go true e later = refl
    go false e later = later e

added : (p : SymbolValue → Bool) (known : List SymbolValue) (s : SymbolValue) → p s ≡ true → list_any p (known ++ s ∷ []) ≡ true
added p [] s h = ap (λ (b : Bool). b || false) h
added p (x ∷ known) s h = go (p x) (added p known s h)
  where
    go : (b : Bool) → list_any p (known ++ s ∷ []) ≡ true → (b || list_any p (known ++ s ∷ [])) ≡ true
    go true e = refl
    go false e = e

no_more : (b c : Bool) → (b ≡ true → c ≡ true) → unknown c ≤ unknown b
no_more true true h = omega arith
no_more true false h = absurd (true≢false (sym (h refl)))
no_more false true h = omega arith
no_more false false h = omega arith

missing_falls : (us known : List SymbolValue) (s : SymbolValue) → missing us (known ++ s ∷ []) ≤ missing us known
missing_falls [] known s = omega arith
missing_falls (u ∷ us) known s =
    omega (arith, missing_falls us known s, no_more (list_any (same_symbol u) known) (list_any (same_symbol u) (known ++ s ∷ [])) (stays (same_symbol u) known s))

one_fewer : (us known : List SymbolValue) (s : SymbolValue) → Among s us → list_any (same_symbol s) known ≡ false → suc (missing us (known ++ s ∷ [])) ≤ missing us known
one_fewer [] known s h new = absurd h
one_fewer (u ∷ us) known s (inl e) new =
    let before : unknown (list_any (same_symbol u) known) ≡ 1 = ap (λ (x : SymbolValue). unknown (list_any (same_symbol x) known)) (sym e) ∙ ap unknown new in
    let same : same_symbol u s ≡ true = ap (same_symbol u) e ∙ same_symbol_itself u in
    let after : unknown (list_any (same_symbol u) (known ++ s ∷ [])) ≡ 0 = ap unknown (added (same_symbol u) known s same) in
    omega (arith, before, after, missing_falls us known s)
one_fewer (u ∷ us) known s (inr h) new =
    omega (arith, one_fewer us known s h new, no_more (list_any (same_symbol u) known) (list_any (same_symbol u) (known ++ s ∷ [])) (stays (same_symbol u) known s))

-- with one symbol more, those that are known and those that are missing are no more than before
step : (us known : List SymbolValue) (s : SymbolValue) → Among s us → length (with_symbol known s) + missing us (with_symbol known s) ≤ length known + missing us known
step us known s h = go (list_any (same_symbol s) known) refl
  where
    go : (b : Bool) → list_any (same_symbol s) known ≡ b → length (cond b known (known ++ s ∷ [])) + missing us (cond b known (known ++ s ∷ [])) ≤ length known + missing us known
    go true e = omega arith
    go false e = omega (arith, length-append known (s ∷ []), one_fewer us known s h e)

steps : (us ss known : List SymbolValue) → AllByRecursion (λ s. Among s us) ss → length (with_symbols known ss) + missing us (with_symbols known ss) ≤ length known + missing us known
steps us [] known h = omega arith
steps us (s ∷ ss) known h = omega (arith, steps us ss (with_symbol known s) h.1, step us known s h.0)

none_known : (us : List SymbolValue) → missing us [] ≤ length us
none_known [] = omega arith
none_known (u ∷ us) = omega (arith, none_known us)

few : (us ss : List SymbolValue) → AllByRecursion (λ s. Among s us) ss → length (with_symbols [] ss) ≤ length us
few us ss h = omega (arith, steps us ss [] h, none_known us)

-- ---- the predicates

abbrev numbered : ℕ → SymbolValue
numbered n = symbol (word (codes "p" ++ decimal n)) 1

abbrev numbered_up_to : ℕ → List SymbolValue
numbered_up_to zero = []
numbered_up_to (suc n) = numbered n ∷ numbered_up_to n

count_up_to : (n : ℕ) → length (numbered_up_to n) ≡ n
count_up_to zero = refl
count_up_to (suc n) = ap suc (count_up_to n)

last_or_less : (k n : ℕ) → k < suc n → (k ≡ n) ⊎ (k < n)
last_or_less zero zero lt = inl refl
last_or_less zero (suc n) lt = inr (omega arith)
last_or_less (suc k) zero lt = absurd (omega (arith, lt))
last_or_less (suc k) (suc n) lt = elim (last_or_less k n (omega (arith, lt))) as (λ _. (suc k ≡ suc n) ⊎ (suc k < suc n)) [ inl e ↦ inl (ap suc e) | inr l ↦ inr (omega (arith, l)) ]

among_numbered : (k n : ℕ) → k < n → Among (numbered k) (numbered_up_to n)
among_numbered k zero lt = absurd (omega (arith, lt))
among_numbered k (suc n) lt = go (last_or_less k n lt) (λ l. among_numbered k n l)
  where
    go : (k ≡ n) ⊎ (k < n) → (k < n → Among (numbered k) (numbered_up_to n)) → Among (numbered k) (numbered_up_to (suc n))
    go (inl e) later = inl (ap numbered e)
    go (inr l) later = inr (later l)

all_numbered : (preds : ℕ) (ws : List ℕ) → 1 ≤ preds → AllByRecursion (λ s. Among s (numbered_up_to preds)) (predicates_of preds ws)
all_numbered preds [] some = tt
all_numbered preds (w ∷ ws) some = (among_numbered (w % preds) preds (mod-lt w (omega (arith, some))), all_numbered preds ws some)

all_unary : (preds : ℕ) (ws : List ℕ) → AllByRecursion (λ (s : SymbolValue). s.arity ≡ 1) (predicates_of preds ws)
all_unary preds [] = tt
all_unary preds (w ∷ ws) = (refl, all_unary preds ws)

-- ---- the constants

abbrev two_constants : List SymbolValue
two_constants = symbol (word (codes "a")) 0 ∷ symbol (word (codes "b")) 0 ∷ []

abbrev IsNullary : SymbolValue → Type 0
IsNullary s = s.arity ≡ 0

constant_among : (n : ℕ) → AllByRecursion (λ s. Among s two_constants) (option_to_list (constant_by n))
constant_among zero = (inl refl, tt)
constant_among (suc zero) = (inr (inl refl), tt)
constant_among (suc (suc n)) = tt

constants_among : (ws : List ℕ) → AllByRecursion (λ s. Among s two_constants) (constants_of ws)
constants_among [] = tt
constants_among (w ∷ ws) = both (λ s. Among s two_constants) (option_to_list (constant_of w)) (constants_of ws) (constant_among _) (constants_among ws)

constant_nullary : (n : ℕ) → AllByRecursion IsNullary (option_to_list (constant_by n))
constant_nullary zero = (refl, tt)
constant_nullary (suc zero) = (refl, tt)
constant_nullary (suc (suc n)) = tt

constants_nullary : (ws : List ℕ) → AllByRecursion IsNullary (constants_of ws)
constants_nullary [] = tt
constants_nullary (w ∷ ws) = both IsNullary (option_to_list (constant_of w)) (constants_of ws) (constant_nullary _) (constants_nullary ws)

functions_nullary : (functions : List SymbolValue) → AllByRecursion IsNullary functions → AllByRecursion IsNullary (with_constant functions)
functions_nullary functions h = one_more IsNullary (list_any is_constant functions) functions c0_symbol h refl

few_constants : (functions : List SymbolValue) → AllByRecursion IsNullary functions → length functions ≤ 2 → length (with_constant functions) ≤ 2
few_constants [] h le = omega arith
few_constants (s ∷ ss) h le =
    let is : is_constant s ≡ true = ap (λ (n : ℕ). is_constant (record s { arity = n })) h.0 in
    let same : with_constant (s ∷ ss) ≡ s ∷ ss = ap (λ (b : Bool). cond (b || list_any is_constant ss) (s ∷ ss) ((s ∷ ss) ++ c0_symbol ∷ [])) is in
    subst (λ (xs : List SymbolValue). length xs ≤ 2) (sym same) le

-- ---- made problems

made_functions : (seed preds clauses : ℕ) (problem : ProblemValue) → IsMade seed preds clauses problem → AllByRecursion IsNullary problem.signature.functions
made_functions seed preds clauses problem made =
    let ws = words_of seed (3 * clauses) in
    subst (λ (xs : List SymbolValue). AllByRecursion IsNullary xs) (sym made.functions) (functions_nullary (with_symbols [] (constants_of ws)) (all_with IsNullary (constants_of ws) [] tt (constants_nullary ws)))

made_constants : (seed preds clauses : ℕ) (problem : ProblemValue) → IsMade seed preds clauses problem → length problem.signature.functions ≤ 2
made_constants seed preds clauses problem made =
    let ws = words_of seed (3 * clauses) in
    subst (λ (xs : List SymbolValue). length xs ≤ 2) (sym made.functions)
    (few_constants (with_symbols [] (constants_of ws)) (all_with IsNullary (constants_of ws) [] tt (constants_nullary ws)) (few two_constants (constants_of ws) (constants_among ws)))

made_unary : (seed preds clauses : ℕ) (problem : ProblemValue) → IsMade seed preds clauses problem → AllByRecursion (λ (s : SymbolValue). s.arity ≡ 1) problem.signature.predicates
made_unary seed preds clauses problem made =
    let ws = words_of seed (3 * clauses) in
    subst (λ (xs : List SymbolValue). AllByRecursion (λ (s : SymbolValue). s.arity ≡ 1) xs) (sym made.predicates) (all_with (λ (s : SymbolValue). s.arity ≡ 1) (predicates_of preds ws) [] tt (all_unary preds ws))

made_predicates : (seed preds clauses : ℕ) (problem : ProblemValue) → 1 ≤ preds → IsMade seed preds clauses problem → length problem.signature.predicates ≤ preds
made_predicates seed preds clauses problem some made =
    let ws = words_of seed (3 * clauses) in
    subst (λ (xs : List SymbolValue). length xs ≤ preds) (sym made.predicates) (omega (arith, few (numbered_up_to preds) (predicates_of preds ws) (all_numbered preds ws some), count_up_to preds))

power_one : (n : ℕ) → n ^ 1 ≡ n
power_one n = pow-suc n 0 ∙ ap (λ (k : ℕ). k * n) (pow-zero n) ∙ one-mul n

few_atoms : (constants : ℕ) (predicates : List SymbolValue) → constants ≤ 2 → AllByRecursion (λ (s : SymbolValue). s.arity ≡ 1) predicates → sum_by (atoms_of constants) predicates ≤ 3 * length predicates
few_atoms constants [] le h = omega arith
few_atoms constants (p ∷ ps) le h =
    let one : atoms_of constants p ≡ constants + 1 = ap (λ (n : ℕ). (constants + n) ^ n) h.0 ∙ power_one (constants + 1) in
    omega (arith, sum_by-cons (atoms_of constants) p ps, one, few_atoms constants ps le h.1)

weighs_two : (bounds : Bounds) (predicates : List SymbolValue) → 2 ≤ bounds.weight → AllByRecursion (λ (s : SymbolValue). s.arity ≡ 1) predicates → AllByRecursion (λ (s : SymbolValue). 1 + s.arity ≤ bounds.weight) predicates
weighs_two bounds [] le h = tt
weighs_two bounds (p ∷ ps) le h = (omega (arith, le, h.0), weighs_two bounds ps le h.1)

pub made_roomy : MadeIsRoomy
made_roomy = record {
  function_free = λ seed preds clauses problem made. all_of IsNullary problem.signature.functions (made_functions seed preds clauses problem made);
  roomy = λ seed preds clauses problem bounds some made wide.
      let unary = made_unary seed preds clauses problem made in
      let atoms = few_atoms (length problem.signature.functions) problem.signature.predicates (made_constants seed preds clauses problem made) unary in
      record {
        depth = wide.depth;
        weight = all_of (λ s. 1 + s.arity ≤ bounds.weight) problem.signature.predicates (weighs_two bounds problem.signature.predicates wide.weight unary);
        literals = omega (arith, atoms, made_predicates seed preds clauses problem some made, wide.literals);
      };
}
