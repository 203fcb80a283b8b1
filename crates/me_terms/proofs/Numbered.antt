-- Names that are given one by one, in the order in which variables first stand.
use Rattle.std.proofs.Common.{◌≡◌, ℕ, zero, suc, ◌+◌, ◌<◌, ◌≤◌, Bool, true, false, ◌||◌, cond, eqb, List, [], ◌∷◌, ◌++◌, length, drop, slice_get, Some, refl, ap, sym, subst, ◌∙◌, append_assoc, arith}
use Rattle.std.specs.List.{list_any, position_or_len, All, IsDistinct}
use Rattle.std.proofs.lemmas.Map.Steps.{length-le_from_distinct_below}
use Rattle.std.proofs.lemmas.List.Elements.{All-append, All-cons, All-nil, All-rest}
use Rattle.std.proofs.lemmas.Grind.{common_steps}
use Rattle.std.proofs.lemmas.List.{drop_more, drop_all, append-nil}
use Rattle.std.proofs.lemmas.List.Recursion.{is_position_or_len}
use Rattle.std.proofs.lemmas.Option.{slice_get_within, get_or_from_slice_get}
use Rattle.me_terms.specs.Terms.{TermValue, Arguments, Nil, Cons, arguments_of, height, heights}
use Rattle.me_terms.specs.Substitutions.{Substitution, apply_term, apply_arguments}
use Rattle.me_terms.specs.Variables.{term_variables, variables_of, first_ones, place_of}
use Rattle.me_terms.specs.Names.{by_place}

-- ---- places
pub place_is : (x : ℕ) (names : List ℕ) → position_or_len (eqb x) names ≡ place_of x names
place_is x names = sym (is_position_or_len (place_of x) (eqb x) refl (λ y ys. refl) names)

eqb_itself : (x : ℕ) → eqb x x ≡ true
eqb_itself x = grind (arith, common_steps)

-- a name keeps its place as more are given
known_by : (x y : ℕ) (names later : List ℕ) (test : Bool) → (list_any (eqb x) names ≡ true → place_of x (names ++ later) ≡ place_of x names) → (test || list_any (eqb x) names) ≡ true
    → cond test 0 (1 + place_of x (names ++ later)) ≡ cond test 0 (1 + place_of x names)
known_by x y names later true rest h = refl
known_by x y names later false rest h = ap (λ n. 1 + n) (rest h)

known : (x : ℕ) (names later : List ℕ) → list_any (eqb x) names ≡ true → place_of x (names ++ later) ≡ place_of x names
known x [] later h = cc
known x (y ∷ names) later h = known_by x y names later (eqb x y) (known x names later) h

new_by : (x y : ℕ) (names later : List ℕ) (test : Bool) → (list_any (eqb x) names ≡ false → place_of x (names ++ x ∷ later) ≡ place_of x names) → (test || list_any (eqb x) names) ≡ false
    → cond test 0 (1 + place_of x (names ++ x ∷ later)) ≡ cond test 0 (1 + place_of x names)
new_by x y names later true rest h = refl
new_by x y names later false rest h = ap (λ n. 1 + n) (rest h)

new : (x : ℕ) (names later : List ℕ) → list_any (eqb x) names ≡ false → place_of x (names ++ x ∷ later) ≡ place_of x names
new x [] later h = ap (λ b. cond b 0 (1 + place_of x later)) (eqb_itself x)
new x (y ∷ names) later h = new_by x y names later (eqb x y) (new x names later) h

placed_by : (x : ℕ) (names later : List ℕ) (test : Bool) → list_any (eqb x) names ≡ test → place_of x (cond test names (names ++ x ∷ []) ++ later) ≡ place_of x names
placed_by x names later true h = known x names later h
placed_by x names later false h = ap (place_of x) (append_assoc names (x ∷ []) later) ∙ new x names later h

pub placed : (x : ℕ) (names later : List ℕ) → place_of x (first_ones names (x ∷ []) ++ later) ≡ place_of x names
placed x names later = placed_by x names later (list_any (eqb x) names) refl

-- ---- names in two parts
append_by : (names xs ys : List ℕ) (x : ℕ) (test : Bool) → ((seen : List ℕ) → first_ones seen (xs ++ ys) ≡ first_ones (first_ones seen xs) ys)
    → cond test (first_ones names (xs ++ ys)) (first_ones (names ++ x ∷ []) (xs ++ ys)) ≡ first_ones (cond test (first_ones names xs) (first_ones (names ++ x ∷ []) xs)) ys
append_by names xs ys x true rest = rest names
append_by names xs ys x false rest = rest (names ++ x ∷ [])

pub first_ones_append : (names xs ys : List ℕ) → first_ones names (xs ++ ys) ≡ first_ones (first_ones names xs) ys
first_ones_append names [] ys = refl
first_ones_append names (x ∷ xs) ys = append_by names xs ys x (list_any (eqb x) names) (λ seen. first_ones_append seen xs ys)

-- the names that are given stand behind those that were
abbrev pub Behind : List ℕ → List ℕ → Type 0
Behind names more = (later : List ℕ) × (more ≡ names ++ later)

behind_by : (names xs : List ℕ) (x : ℕ) (test : Bool) → ((seen : List ℕ) → Behind seen (first_ones seen xs)) → Behind names (cond test (first_ones names xs) (first_ones (names ++ x ∷ []) xs))
behind_by names xs x true rest = rest names
behind_by names xs x false rest = let q = rest (names ++ x ∷ []) in (x ∷ q.0, q.1 ∙ append_assoc names (x ∷ []) q.0)

pub behind : (names xs : List ℕ) → Behind names (first_ones names xs)
behind names [] = ([], sym (append-nil names))
behind names (x ∷ xs) = behind_by names xs x (list_any (eqb x) names) (λ seen. behind seen xs)

-- ---- one term more
pub height_in : (xs : List TermValue) (k : ℕ) (x : TermValue) → slice_get xs k ≡ Some x → height x ≤ heights (arguments_of xs)
height_in [] k x e = cc
height_in (y ∷ xs) zero x e = let same : y ≡ x = cc in rw (← same) (omega arith)
height_in (y ∷ xs) (suc k) x e = let rest = height_in xs k x e in omega arith

abbrev pub join : List TermValue → Arguments → Arguments
join [] rest = rest
join (x ∷ xs) rest = Cons x (join xs rest)

join_push : (xs : List TermValue) (x : TermValue) (rest : Arguments) → join (xs ++ x ∷ []) rest ≡ join xs (Cons x rest)
join_push [] x rest = refl
join_push (y ∷ xs) x rest = ap (Cons y) (join_push xs x rest)

join_end : (xs : List TermValue) → join xs Nil ≡ arguments_of xs
join_end [] = refl
join_end (x ∷ xs) = ap (Cons x) (join_end xs)

pub drop_at : (xs : List TermValue) (k : ℕ) (x : TermValue) → slice_get xs k ≡ Some x → drop k xs ≡ x ∷ drop (k + 1) xs
drop_at xs k x e =
    let within : k < length xs = slice_get_within xs k x e in
    drop_more xs k x within ∙ ap (λ z. z ∷ drop (k + 1) xs) (get_or_from_slice_get xs k x x e)

pub names_step : (all names more : List ℕ) (xs : List TermValue) (k : ℕ) (x : TermValue) → slice_get xs k ≡ Some x → more ≡ first_ones names (term_variables x) → all ≡ first_ones names (variables_of (arguments_of (drop k xs)))
    → all ≡ first_ones more (variables_of (arguments_of (drop (k + 1) xs)))
names_step all names more xs k x at is q =
    q ∙ (ap (λ z. first_ones names (variables_of (arguments_of z))) (drop_at xs k x at)
    ∙ (first_ones_append names (term_variables x) (variables_of (arguments_of (drop (k + 1) xs))) ∙ ap (λ z. first_ones z (variables_of (arguments_of (drop (k + 1) xs)))) (sym is)))

-- what is made so far, whatever names are given later
abbrev pub IsMade : List ℕ → List TermValue → List TermValue → ℕ → Type 0
IsMade names made xs k =
    (later : List ℕ) → apply_arguments (by_place (names ++ later)) (arguments_of xs) ≡ join made (apply_arguments (by_place (names ++ later)) (arguments_of (drop k xs)))

made_at : (u : Substitution) (made next : List TermValue) (xs : List TermValue) (k : ℕ) (x y : TermValue) → next ≡ made ++ y ∷ [] → slice_get xs k ≡ Some x → y ≡ apply_term u x
    → apply_arguments u (arguments_of xs) ≡ join made (apply_arguments u (arguments_of (drop k xs))) → apply_arguments u (arguments_of xs) ≡ join next (apply_arguments u (arguments_of (drop (k + 1) xs)))
made_at u made next xs k x y is at same q =
    q ∙ (ap (λ z. join made (apply_arguments u (arguments_of z))) (drop_at xs k x at)
    ∙ (ap (λ z. join made (Cons z (apply_arguments u (arguments_of (drop (k + 1) xs))))) (sym same)
    ∙ (sym (join_push made y (apply_arguments u (arguments_of (drop (k + 1) xs)))) ∙ ap (λ z. join z (apply_arguments u (arguments_of (drop (k + 1) xs)))) (sym is))))

pub made_step : (names more : List ℕ) (made next xs : List TermValue) (k : ℕ) (x y : TermValue) → next ≡ made ++ y ∷ [] → slice_get xs k ≡ Some x → more ≡ first_ones names (term_variables x)
    → ((later : List ℕ) → y ≡ apply_term (by_place (more ++ later)) x) → IsMade names made xs k → IsMade more next xs (k + 1)
made_step names more made next xs k x y is at named same q later =
    let b = behind names (term_variables x) in
    let e : more ≡ names ++ b.0 = named ∙ b.1 in
    let f : names ++ (b.0 ++ later) ≡ more ++ later = sym (append_assoc names b.0 later) ∙ ap (λ z. z ++ later) (sym e) in
    made_at (by_place (more ++ later)) made next xs k x y is at (same later)
    (let P : List ℕ → Type 0 = λ z. apply_arguments (by_place z) (arguments_of xs) ≡ join made (apply_arguments (by_place z) (arguments_of (drop k xs))) in subst P f (q (b.0 ++ later)))

pub made_all : (names : List ℕ) (made xs : List TermValue) (k : ℕ) → length xs ≤ k → IsMade names made xs k → (later : List ℕ) → arguments_of made ≡ apply_arguments (by_place (names ++ later)) (arguments_of xs)
made_all names made xs k past q later = sym (join_end made) ∙ sym (rw (drop_all k xs past) at (q later))

pub names_all : (all names : List ℕ) (xs : List TermValue) (k : ℕ) → length xs ≤ k → all ≡ first_ones names (variables_of (arguments_of (drop k xs))) → all ≡ names
names_all all names xs k past q = rw (drop_all k xs past) at q

-- ---- the whole
pub canonical_args : (old names : List ℕ) (args form : Arguments) → old ≡ [] → names ≡ first_ones old (variables_of args) → form ≡ apply_arguments (by_place (names ++ [])) args → form ≡ apply_arguments (by_place (first_ones [] (variables_of args))) args
canonical_args old names args form none is q =
    q ∙ ap (λ z. apply_arguments (by_place z) args) (append-nil names ∙ (is ∙ ap (λ z. first_ones z (variables_of args)) none))

-- ---- names that are words of 32 bits
below_by : (q x n : ℕ) (test : Bool) (rest : Bool) → eqb q x ≡ test → x < n → (rest ≡ true → q < n) → (test || rest) ≡ true → q < n
below_by q x n true rest same less later h = let e : q ≡ x = grind (arith, common_steps) in rw e less
below_by q x n false rest same less later h = later h

pub found_below : (names : List ℕ) (n q : ℕ) → All (λ y. y < n) names → list_any (eqb q) names ≡ true → q < n
found_below [] n q all h = cc
found_below (x ∷ names) n q all h =
    below_by q x n (eqb q x) (list_any (eqb q) names) refl (all 0 x (omega arith)) (found_below names n q (All-rest (λ y. y < n) x names (x ∷ names) refl all)) h

pub few : (names : List ℕ) (n : ℕ) → IsDistinct eqb names → All (λ y. y < n) names → length names ≤ n
few names n distinct all = length-le_from_distinct_below names n distinct (λ q h. found_below names n q all h)

still_by : (names : List ℕ) (x n : ℕ) (test : Bool) → All (λ y. y < n) names → x < n → All (λ y. y < n) (cond test names (names ++ x ∷ []))
still_by names x n true all less = all
still_by names x n false all less = All-append (λ y. y < n) names (x ∷ []) all (All-cons (λ y. y < n) x [] less (All-nil (λ y. y < n)))

pub still_below : (names : List ℕ) (x n : ℕ) → All (λ y. y < n) names → x < n → All (λ y. y < n) (first_ones names (x ∷ []))
still_below names x n all less = still_by names x n (list_any (eqb x) names) all less
