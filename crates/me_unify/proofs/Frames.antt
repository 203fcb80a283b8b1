-- Terms that are written in part, by a loop with a stack.
use Rattle.std.proofs.Common.{◌≡◌, ℕ, ◌+◌, ◌<◌, List, [], ◌∷◌, ◌++◌, length, get_or, map, refl, ap, sym, subst, ◌∙◌, append_assoc, arith}
use Rattle.std.specs.List.{All}
use Rattle.std.proofs.lemmas.List.{append-nil, map-append}
use Rattle.std.proofs.lemmas.List.Elements.{All-nil, All-cons, All-head, All-tail}
use Rattle.me_terms.specs.Terms.{TermValue, Var, App, arguments_of}
use Rattle.me_terms.specs.Substitutions.{Substitution, apply_term, apply_arguments}
use Rattle.me_terms.specs.Variables.{term_variables, variables_of, first_ones, place_of}
use Rattle.me_terms.specs.Dropping.{later_work, later_works}
use Rattle.me_terms.proofs.Numbered.{first_ones_append, behind}
use Rattle.me_unify.proofs.Names.{applied_all}

-- A term of which some arguments are written: its function, the arguments before the one that is being written, and those behind it, which are not written yet.
pub record Opened : Type 0 where
  pub symbol : ℕ
  pub before : List TermValue
  pub behind : List TermValue

-- the whole list, where the last opened term stands innermost and its arguments are given
abbrev pub whole : Substitution → List Opened → List TermValue → List TermValue
whole s [] ts = ts
whole s (o ∷ os) ts = o.before ++ App o.symbol (arguments_of (whole s os ts)) ∷ map (apply_term s) o.behind

-- how much is left to be written, and that terms are left open
abbrev pub left_works : List Opened → ℕ
left_works [] = 0
left_works (o ∷ os) = 1 + (later_works (arguments_of o.behind) + left_works os)

-- the variables that are still to come, where the innermost arguments have the given ones
abbrev pub left_variables : List Opened → List ℕ → List ℕ
left_variables [] vs = vs
left_variables (o ∷ os) vs = left_variables os vs ++ variables_of (arguments_of o.behind)

pub whole_end : (s : Substitution) (os : List Opened) (o : Opened) (ts : List TermValue) → whole s (os ++ o ∷ []) ts ≡ whole s os (o.before ++ App o.symbol (arguments_of ts) ∷ map (apply_term s) o.behind)
whole_end s [] o ts = refl
whole_end s (p ∷ os) o ts = ap (λ us. p.before ++ App p.symbol (arguments_of us) ∷ map (apply_term s) p.behind) (whole_end s os o ts)

left_end : (os : List Opened) (o : Opened) → left_works (os ++ o ∷ []) ≡ left_works os + (1 + later_works (arguments_of o.behind))
left_end [] o = omega arith
left_end (p ∷ os) o = omega (arith, left_end os o)

variables_end : (os : List Opened) (o : Opened) (vs : List ℕ) → left_variables (os ++ o ∷ []) vs ≡ left_variables os (vs ++ variables_of (arguments_of o.behind))
variables_end [] o vs = refl
variables_end (p ∷ os) o vs = ap (λ us. us ++ variables_of (arguments_of p.behind)) (variables_end os o vs)

-- ---- what is written
-- a term is written
pub written_next : (s : Substitution) (os : List Opened) (made next rest others all : List TermValue) (t y : TermValue)
    → rest ≡ t ∷ others → next ≡ made ++ y ∷ [] → y ≡ apply_term s t → whole s os (made ++ map (apply_term s) rest) ≡ all
    → whole s os (next ++ map (apply_term s) others) ≡ all
written_next s os made next rest others all t y r n e i =
    ap (λ ts. whole s os (ts ++ map (apply_term s) others)) n
    ∙ ap (whole s os) (append_assoc made (y ∷ []) (map (apply_term s) others))
    ∙ ap (λ u. whole s os (made ++ u ∷ map (apply_term s) others)) e
    ∙ ap (λ ts. whole s os (made ++ map (apply_term s) ts)) (sym r)
    ∙ i

-- a term's arguments are gone into
pub written_opened : (s : Substitution) (os new : List Opened) (o : Opened) (none made rest inner all : List TermValue) (f : ℕ)
    → rest ≡ App f (arguments_of inner) ∷ o.behind → new ≡ os ++ o ∷ [] → o.symbol ≡ f → o.before ≡ made → none ≡ [] → whole s os (made ++ map (apply_term s) rest) ≡ all
    → whole s new (none ++ map (apply_term s) inner) ≡ all
written_opened s os new o none made rest inner all f r n ef em e i =
    ap (λ ts. whole s new (ts ++ map (apply_term s) inner)) e
    ∙ ap (λ ps. whole s ps (map (apply_term s) inner)) n
    ∙ whole_end s os o (map (apply_term s) inner)
    ∙ ap (λ g. whole s os (o.before ++ App g (arguments_of (map (apply_term s) inner)) ∷ map (apply_term s) o.behind)) ef
    ∙ ap (λ ms. whole s os (ms ++ App f (arguments_of (map (apply_term s) inner)) ∷ map (apply_term s) o.behind)) em
    ∙ ap (λ ts. whole s os (made ++ App f ts ∷ map (apply_term s) o.behind)) (applied_all s inner)
    ∙ ap (λ ts. whole s os (made ++ map (apply_term s) ts)) (sym r)
    ∙ i

-- the innermost term is done
pub written_closed : (s : Substitution) (above os : List Opened) (o : Opened) (made next rest all : List TermValue)
    → rest ≡ [] → above ≡ os ++ o ∷ [] → next ≡ o.before ++ App o.symbol (arguments_of made) ∷ [] → whole s above (made ++ map (apply_term s) rest) ≡ all
    → whole s os (next ++ map (apply_term s) o.behind) ≡ all
written_closed s above os o made next rest all h a n i =
    ap (λ ts. whole s os (ts ++ map (apply_term s) o.behind)) n
    ∙ ap (whole s os) (append_assoc o.before (App o.symbol (arguments_of made) ∷ []) (map (apply_term s) o.behind))
    ∙ sym (whole_end s os o made)
    ∙ ap (λ ps. whole s ps made) (sym a)
    ∙ ap (whole s above) (sym (append-nil made) ∙ ap (λ ts. made ++ map (apply_term s) ts) (sym h))
    ∙ i

-- all is written
pub written_all : (s : Substitution) (above : List Opened) (made rest source : List TermValue) → above ≡ [] → rest ≡ [] → whole s above (made ++ map (apply_term s) rest) ≡ map (apply_term s) source
    → arguments_of made ≡ apply_arguments s (arguments_of source)
written_all s above made rest source a h i =
    ap arguments_of (sym (append-nil made) ∙ ap (λ ts. made ++ map (apply_term s) ts) (sym h) ∙ ap (λ ps. whole s ps (made ++ map (apply_term s) rest)) (sym a) ∙ i)
    ∙ applied_all s source

-- ---- what is left
less_by : (os : List Opened) (o : Opened) (inner : List TermValue) (f : ℕ)
    → later_works (arguments_of inner) + left_works (os ++ o ∷ []) < later_works (arguments_of (App f (arguments_of inner) ∷ o.behind)) + left_works os
less_by os o inner f = omega (arith, left_end os o)

works_positive : (t : TermValue) → 0 < later_work t
works_positive (Var x) = omega arith
works_positive (App f ts) = omega arith

pub next_less : (os : List Opened) (rest others : List TermValue) (t : TermValue) → rest ≡ t ∷ others → later_works (arguments_of others) + left_works os < later_works (arguments_of rest) + left_works os
next_less os rest others t r =
    subst (λ ts. later_works (arguments_of others) + left_works os < later_works (arguments_of ts) + left_works os) (sym r) (omega (arith, works_positive t))

pub opened_less : (os new : List Opened) (o : Opened) (rest inner : List TermValue) (f : ℕ) → rest ≡ App f (arguments_of inner) ∷ o.behind → new ≡ os ++ o ∷ []
    → later_works (arguments_of inner) + left_works new < later_works (arguments_of rest) + left_works os
opened_less os new o rest inner f r n =
    subst (λ ps. later_works (arguments_of inner) + left_works ps < later_works (arguments_of rest) + left_works os) (sym n)
    (subst (λ ts. later_works (arguments_of inner) + left_works (os ++ o ∷ []) < later_works (arguments_of ts) + left_works os) (sym r) (less_by os o inner f))

pub closed_less : (above os : List Opened) (o : Opened) (work : ℕ) → above ≡ os ++ o ∷ [] → later_works (arguments_of o.behind) + left_works os < work + left_works above
closed_less above os o work a = subst (λ ps. later_works (arguments_of o.behind) + left_works os < work + left_works ps) (sym a) (omega (arith, left_end os o))

-- ---- the variables that are left
-- a term's arguments are gone into
pub variables_opened : (os new : List Opened) (o : Opened) (rest inner : List TermValue) (f : ℕ) → rest ≡ App f (arguments_of inner) ∷ o.behind → new ≡ os ++ o ∷ []
    → left_variables new (variables_of (arguments_of inner)) ≡ left_variables os (variables_of (arguments_of rest))
variables_opened os new o rest inner f r n =
    ap (λ ps. left_variables ps (variables_of (arguments_of inner))) n
    ∙ variables_end os o (variables_of (arguments_of inner))
    ∙ ap (λ ts. left_variables os (variables_of (arguments_of ts))) (sym r)

-- the innermost term is done
pub variables_closed : (above os : List Opened) (o : Opened) (rest : List TermValue) → rest ≡ [] → above ≡ os ++ o ∷ []
    → left_variables os (variables_of (arguments_of o.behind)) ≡ left_variables above (variables_of (arguments_of rest))
variables_closed above os o rest h a =
    sym (variables_end os o [])
    ∙ ap (λ ps. left_variables ps []) (sym a)
    ∙ ap (λ ts. left_variables above (variables_of (arguments_of ts))) (sym h)

left_append : (os : List Opened) (us vs : List ℕ) → left_variables os (us ++ vs) ≡ us ++ left_variables os vs
left_append [] us vs = refl
left_append (o ∷ os) us vs = ap (λ ws. ws ++ variables_of (arguments_of o.behind)) (left_append os us vs) ∙ append_assoc us (left_variables os vs) (variables_of (arguments_of o.behind))

-- the names that are given for a term, and those for what is left
pub variables_next : (os : List Opened) (names more all : List ℕ) (rest others : List TermValue) (t : TermValue) → rest ≡ t ∷ others → more ≡ first_ones names (term_variables t)
    → first_ones names (left_variables os (variables_of (arguments_of rest))) ≡ all → first_ones more (left_variables os (variables_of (arguments_of others))) ≡ all
variables_next os names more all rest others t r m i =
    let vs = left_variables os (variables_of (arguments_of others)) in
    ap (λ ns. first_ones ns vs) m
    ∙ sym (first_ones_append names (term_variables t) vs)
    ∙ ap (first_ones names) (sym (left_append os (term_variables t) (variables_of (arguments_of others))))
    ∙ ap (λ ts. first_ones names (left_variables os (variables_of (arguments_of ts)))) (sym r)
    ∙ i

-- all names are given
pub variables_all : (above : List Opened) (names all : List ℕ) (rest : List TermValue) → above ≡ [] → rest ≡ [] → first_ones names (left_variables above (variables_of (arguments_of rest))) ≡ all → names ≡ all
variables_all above names all rest a h i =
    ap (λ ts. first_ones names (variables_of (arguments_of ts))) (sym h) ∙ ap (λ ps. first_ones names (left_variables ps (variables_of (arguments_of rest)))) (sym a) ∙ i

-- a name's number does not change as more are given
pub named : (new all vs : List ℕ) (v n : ℕ) (later : List ℕ) → first_ones new vs ≡ all → ((more : List ℕ) → n ≡ place_of v (new ++ more)) → n ≡ place_of v (all ++ later)
named new all vs v n later e at =
    let b = behind new vs in
    at (b.0 ++ later) ∙ ap (place_of v) (sym (append_assoc new b.0 later) ∙ ap (λ ns. ns ++ later) (sym b.1 ∙ e))

-- ---- nodes
-- The nodes stand before n.
abbrev pub AreWithin : ℕ → List ℕ → Type 0
AreWithin n xs = (i : ℕ) → i < length xs → get_or xs i 0 < n

-- ---- lists
pub all_parts : {X : Type 0} (P : X → Type 0) (xs ys : List X) → All P (xs ++ ys) → All P xs × All P ys
all_parts P [] ys h = (All-nil P, h)
all_parts P (x ∷ xs) ys h =
    let later = all_parts P xs ys (All-tail P x (xs ++ ys) h) in
    (All-cons P x xs (All-head P x (xs ++ ys) h) later.0, later.1)

pub parts_of : {X : Type 0} (P : X → Type 0) (all xs : List X) (x : X) → all ≡ xs ++ x ∷ [] → All P all → All P xs × P x
parts_of P all xs x e h =
    let parts = all_parts P xs (x ∷ []) (subst (λ ys. All P ys) e h) in
    (parts.0, All-head P x [] parts.1)

pub is_empty_of : {A : Type 0} (xs : List A) → length xs ≡ 0 → xs ≡ []
is_empty_of [] h = refl
is_empty_of (x ∷ xs) h = absurd (omega (arith, h))

pub nothing_left : {A B : Type 0} (g : A → B) (xs : List A) → length xs ≡ 0 → map g xs ≡ []
nothing_left g xs h = ap (map g) (is_empty_of xs h)

pub map_end : {A B : Type 0} (g : A → B) (xs new : List A) (x : A) → new ≡ xs ++ x ∷ [] → map g new ≡ map g xs ++ g x ∷ []
map_end g xs new x e = ap (map g) e ∙ map-append g xs (x ∷ [])
