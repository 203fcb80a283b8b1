-- Every context to which the rules lead is a context, and consistent.
use Rattle.std.proofs.Common.{◌≡◌, ℕ, zero, suc, ◌+◌, ◌<◌, Bool, true, false, not, ◌&&◌, ◌||◌, cond, eqb, ltb, inl, inr, List, [], ◌∷◌, ◌++◌, length, map, Some, IsTrue, refl, sym, subst, ap, ◌∙◌, length-append, append_assoc, arith}
use Rattle.std.proofs.lemmas.Option.{same_Some}
use Rattle.std.specs.List.{list_any, list_all}
use Rattle.std.proofs.lemmas.Grind.{common_steps}
use Rattle.me_terms.specs.Terms.{TermValue, Var, App, Arguments, Nil, Cons, AtomValue}
use Rattle.me_terms.specs.Substitutions.{apply_term, apply_arguments}
use Rattle.me_terms.specs.Variables.{term_variables, variables_of, are_ground, is_numbered_from, is_canonical, first_ones, place_of, canonical}
use Rattle.me_terms.specs.Measures.{complement, canonical_literal}
use Rattle.me_terms.specs.Values.{ProblemValue, EntryValue, SplitLeft, SplitRight}
use Rattle.me_terms.specs.Context.{Context, StandsAt, pseudo, IsContext, IsLiteralEntry, add}
use Rattle.me_terms.specs.Contradictory.{Contradicts, IsConsistent}
use Rattle.me_terms.specs.Positions.{positions_of, entry_at}
use Rattle.me_terms.specs.Unifier.{unified}
use Rattle.me_terms.specs.Assert.{IsAssert, uses_universal}
use Rattle.me_terms.specs.Next.{Split, IsNext}
use Rattle.me_terms.specs.Grown.{sign_of, start, split_entry, IsGrown, started, asserted, went_left, went_right}
use Rattle.me_terms.specs.declared.bounds.Bounds.{Bounds}
use Rattle.me_terms.specs.declared.bounds.Start.{Start}
use Rattle.me_terms.specs.declared.entry.Kind.{Kind}
use Rattle.me_terms.specs.declared.entry.Kind.TheVariants.{Universal, Parametric}
use Rattle.me_terms.specs.declared.atom.Literal.{Literal}
use Rattle.me_terms.specs.declared.atom.Pattern.TheVariants.{Of}
use Rattle.me_laws.proofs.Added.{add_old, add_either}
use Rattle.me_laws.proofs.Consistency.{add_consistent}
use Rattle.me_laws.proofs.NoContradiction.{split_apart}

-- ---- a canonical form is canonical
ltb_true : (m n : ℕ) → m < n → ltb m n ≡ true
ltb_true m n h = grind (arith, common_steps)

ltb_same : (n : ℕ) → ltb n n ≡ false
ltb_same n = grind (arith, common_steps)

eqb_itself : (x : ℕ) → eqb x x ≡ true
eqb_itself x = grind (arith, common_steps)

new_here : (x : ℕ) (rest : List ℕ) → place_of x (x ∷ rest) ≡ 0
new_here x rest = ap (λ b. cond b 0 (1 + place_of x rest)) (eqb_itself x)

map_append : (f : ℕ → ℕ) (xs ys : List ℕ) → map f (xs ++ ys) ≡ map f xs ++ map f ys
map_append f [] ys = refl
map_append f (x ∷ xs) ys = ap (λ zs. f x ∷ zs) (map_append f xs ys)

-- what is seen comes first
firsts_extend : (seen xs : List ℕ) → (rest : List ℕ) × (first_ones seen xs ≡ seen ++ rest)
firsts_extend seen [] = ([], grind (arith, common_steps))
firsts_extend seen (x ∷ xs) =
    elim (list_any (eqb x) seen) as (λ v. (rest : List ℕ) × (cond v (first_ones seen xs) (first_ones (seen ++ x ∷ []) xs) ≡ seen ++ rest)) [
      | true ↦ firsts_extend seen xs
      | false ↦ let more = firsts_extend (seen ++ x ∷ []) xs in (x ∷ more.0, more.1 ∙ append_assoc seen (x ∷ []) more.0)
    ]

seen_by : (x y : ℕ) (seen rest : List ℕ) (test : Bool) → eqb x y ≡ test → (test || list_any (eqb x) seen) ≡ true → (list_any (eqb x) seen ≡ true → place_of x (seen ++ rest) < length seen) → cond test 0 (1 + place_of x (seen ++ rest)) < suc (length seen)
seen_by x y seen rest true e h later = omega arith
seen_by x y seen rest false e h later = let below = later h in omega (arith, below)

new_by : (x y : ℕ) (seen rest : List ℕ) (test : Bool) → eqb x y ≡ test → (test || list_any (eqb x) seen) ≡ false → (list_any (eqb x) seen ≡ false → place_of x (seen ++ x ∷ rest) ≡ length seen) → cond test 0 (1 + place_of x (seen ++ x ∷ rest)) ≡ suc (length seen)
new_by x y seen rest true e h later = cc
new_by x y seen rest false e h later = let below = later h in omega (arith, below)

seen_place : (x : ℕ) (seen rest : List ℕ) → list_any (eqb x) seen ≡ true → place_of x (seen ++ rest) < length seen
seen_place x [] rest h = cc
seen_place x (y ∷ seen) rest h = seen_by x y seen rest (eqb x y) refl h (λ g. seen_place x seen rest g)

new_place : (x : ℕ) (seen rest : List ℕ) → list_any (eqb x) seen ≡ false → place_of x (seen ++ x ∷ rest) ≡ length seen
new_place x [] rest h = new_here x rest
new_place x (y ∷ seen) rest h = new_by x y seen rest (eqb x y) refl h (λ g. new_place x seen rest g)

-- numbering by place in the first occurrences is numbering by first occurrence
-- one more is numbered
next_old : (n p : ℕ) (ps : List ℕ) → p < n → is_numbered_from n ps ≡ true → is_numbered_from n (p ∷ ps) ≡ true
next_old n p ps h g = ap (λ b. cond b (is_numbered_from n ps) (eqb p n && is_numbered_from (n + 1) ps)) (ltb_true p n h) ∙ g

next_new : (n p : ℕ) (ps : List ℕ) → p ≡ n → is_numbered_from (n + 1) ps ≡ true → is_numbered_from n (p ∷ ps) ≡ true
next_new n p ps h g =
    let below : ltb p n ≡ false = ap (λ m. ltb m n) h ∙ ltb_same n in
    let same : eqb p n ≡ true = ap (λ m. eqb m n) h ∙ eqb_itself n in
    ap (λ b. cond b (is_numbered_from n ps) (eqb p n && is_numbered_from (n + 1) ps)) below ∙ (ap (λ b. b && is_numbered_from (n + 1) ps) same ∙ g)

numbered_by : (seen : List ℕ) (x : ℕ) (xs : List ℕ) (test : Bool) → list_any (eqb x) seen ≡ test → (list_any (eqb x) seen ≡ true → is_numbered_from (length seen) (map (λ y. place_of y (first_ones seen xs)) (x ∷ xs)) ≡ true) → (list_any (eqb x) seen ≡ false → is_numbered_from (length seen) (map (λ y. place_of y (first_ones (seen ++ x ∷ []) xs)) (x ∷ xs)) ≡ true) → is_numbered_from (length seen) (map (λ y. place_of y (cond test (first_ones seen xs) (first_ones (seen ++ x ∷ []) xs))) (x ∷ xs)) ≡ true
numbered_by seen x xs true e f g = f e
numbered_by seen x xs false e f g = g e

numbered_old : (seen : List ℕ) (x : ℕ) (xs : List ℕ) → list_any (eqb x) seen ≡ true → is_numbered_from (length seen) (map (λ y. place_of y (first_ones seen xs)) xs) ≡ true → is_numbered_from (length seen) (map (λ y. place_of y (first_ones seen xs)) (x ∷ xs)) ≡ true
numbered_old seen x xs e later =
    let more = firsts_extend seen xs in
    let P : List ℕ → Type 0 = λ ys. place_of x ys < length seen in
    next_old (length seen) (place_of x (first_ones seen xs)) _ (subst P (sym more.1) (seen_place x seen more.0 e)) later

numbered_new : (seen : List ℕ) (x : ℕ) (xs : List ℕ) → list_any (eqb x) seen ≡ false → is_numbered_from (length (seen ++ x ∷ [])) (map (λ y. place_of y (first_ones (seen ++ x ∷ []) xs)) xs) ≡ true → is_numbered_from (length seen) (map (λ y. place_of y (first_ones (seen ++ x ∷ []) xs)) (x ∷ xs)) ≡ true
numbered_new seen x xs e later =
    let more = firsts_extend (seen ++ x ∷ []) xs in
    let P : List ℕ → Type 0 = λ ys. place_of x ys ≡ length seen in
    let Q : ℕ → Type 0 = λ n. is_numbered_from n (map (λ y. place_of y (first_ones (seen ++ x ∷ []) xs)) xs) ≡ true in
    let longer : length (seen ++ x ∷ []) ≡ length seen + 1 = length-append seen (x ∷ []) in
    next_new (length seen) (place_of x (first_ones (seen ++ x ∷ []) xs)) _ (subst P (sym (more.1 ∙ append_assoc seen (x ∷ []) more.0)) (new_place x seen more.0 e)) (subst Q longer later)

numbered : (seen xs : List ℕ) → is_numbered_from (length seen) (map (λ x. place_of x (first_ones seen xs)) xs) ≡ true
numbered seen [] = refl
numbered seen (x ∷ xs) = numbered_by seen x xs (list_any (eqb x) seen) refl (λ e. numbered_old seen x xs e (numbered seen xs)) (λ e. numbered_new seen x xs e (numbered (seen ++ x ∷ []) xs))

mutual
  placed_variables : (ys : List ℕ) (t : TermValue) → term_variables (apply_term (λ x. Var (place_of x ys)) t) ≡ map (λ x. place_of x ys) (term_variables t)
  placed_variables ys (Var x) = refl
  placed_variables ys (App f ts) = placed_all ys ts

  placed_all : (ys : List ℕ) (ts : Arguments) → variables_of (apply_arguments (λ x. Var (place_of x ys)) ts) ≡ map (λ x. place_of x ys) (variables_of ts)
  placed_all ys Nil = refl
  placed_all ys (Cons t ts) =
      let first = placed_variables ys t in
      let later = placed_all ys ts in
      (λ i. first i ++ later i) ∙ sym (map_append (λ x. place_of x ys) (term_variables t) (variables_of ts))

pub canonical_is : (a : AtomValue) → IsTrue (is_canonical (canonical a))
canonical_is a =
    ap (is_numbered_from 0) (placed_all (first_ones [] (variables_of a.args)) a.args) ∙ numbered [] (variables_of a.args)

-- ---- the contexts
pub add_context : (context : Context) (e : EntryValue) → IsContext context → IsLiteralEntry e → IsContext (add context e)
add_context context e h new = record {
  first = (h.first.0, add_old context e 0 (pseudo h.first.0) h.first.1);
  later = λ k f lt stands. elim (add_either context e k f stands) as (λ _. IsLiteralEntry f) [ inl old ↦ h.later k f lt old | inr same ↦ let P : EntryValue → Type 0 = λ x. IsLiteralEntry x in subst P same new ];
}

kind_by : (other test : Bool) → IsTrue test → cond (other || test) Universal Parametric ≡ Universal
kind_by true true h = refl
kind_by false true h = refl
kind_by true false h = cc
kind_by false false h = cc

pub asserted_literal : (problem : ProblemValue) (bounds : Bounds) (context : Context) (c place : ℕ) (tuple : List ℕ) (e : EntryValue) → IsAssert problem bounds context c place tuple e → IsLiteralEntry e
asserted_literal problem bounds context c place tuple e h =
    let l = canonical_literal (unified h.family h.literal) in
    let P : EntryValue → Type 0 = λ x. IsLiteralEntry x in
    subst P (sym h.entry) (canonical_is (unified h.family h.literal).atom, λ g. kind_by (list_all (λ k. uses_universal (entry_at context k)) (positions_of (Some place) tuple)) (are_ground l.atom.args) g)

pub split_by : (test : Bool) → IsTrue test → cond test Universal Parametric ≡ Universal
split_by true h = refl
split_by false h = cc

none_later : (begins : Start) (k : ℕ) (e : EntryValue) → 0 < k → StandsAt (start begins) k e → IsLiteralEntry e
none_later begins zero e lt h = absurd (omega arith)
none_later begins (suc k) e lt h = cc

start_sign : (begins : Start) (k : ℕ) (e : EntryValue) → StandsAt (start begins) k e → e.positive ≡ sign_of begins
start_sign begins zero e h = sym (ap (λ (f : EntryValue). f.positive) (same_Some (pseudo (sign_of begins)) e h))
start_sign begins (suc k) e h = cc

not_own : (sign : Bool) → ¬ (sign ≡ not sign)
not_own true h = cc
not_own false h = cc

-- what an Assert adds does not contradict
pub assert_apart : (problem : ProblemValue) (bounds : Bounds) (context : Context) (c place : ℕ) (tuple : List ℕ) (e : EntryValue) → IsAssert problem bounds context c place tuple e → ¬ Contradicts context e.positive e.kind e.atom
assert_apart problem bounds context c place tuple e h g =
    let P : EntryValue → Type 0 = λ x. Contradicts context x.positive e.kind x.atom in h.allowed.consistent (subst P h.entry g)

-- what a Split adds is a literal, and does not contradict on either side
split_facts : (problem : ProblemValue) (bounds : Bounds) (context : Context) (l : Literal) (kind : Kind) → IsContext context → IsNext problem bounds context (Split l kind) → (IsLiteralEntry (split_entry l kind SplitLeft)) × (¬ Contradicts context l.positive kind (Of l.atom)) × (¬ Contradicts context (complement l).positive kind (Of l.atom))
split_facts problem bounds context l kind h next =
    let least = next.3 in
    let both = split_apart problem bounds context least.0 least.3 least.1 least.2 l h least.4 in
    let same = least.4.split_literal in
    let P : Kind → Type 0 = λ x. (¬ Contradicts context l.positive x (Of l.atom)) × (¬ Contradicts context (complement l).positive x (Of l.atom)) in
    let apart = subst P (sym next.4) both in
    let Q : AtomValue → Type 0 = λ a. IsTrue (is_canonical a) in
    let atoms = ap (λ (m : Literal). m.atom) same in
    ((subst Q (sym atoms) (canonical_is (unified least.4.family least.4.literal).atom), λ g. next.4 ∙ split_by (are_ground l.atom.args) g), apart.0, apart.1)

start_context : (begins : Start) → IsContext (start begins)
start_context begins = record { first = (sign_of begins, refl); later = none_later begins }

start_consistent : (begins : Start) → IsConsistent (start begins)
start_consistent begins = λ k e visible h.
    let mine = start_sign begins k e visible.0 in
    let theirs = start_sign begins h.0 h.1 h.2.0 in
    not_own (sign_of begins) (sym theirs ∙ (h.3 ∙ ap not mine))

pub grown : {problem : ProblemValue} {bounds : Bounds} {context : Context} → IsGrown problem bounds context → IsContext context × IsConsistent context
grown {bounds = bounds} started = (start_context bounds.start, start_consistent bounds.start)
grown {problem} {bounds} (asserted {context = context} {e = e} h next) =
    let before = grown h in
    let least = next.2 in
    (add_context context e before.0 (asserted_literal problem bounds context least.0 least.1 least.2 e least.3), add_consistent context e before.1 (assert_apart problem bounds context least.0 least.1 least.2 e least.3))
grown {problem} {bounds} (went_left {context = context} {l = l} {kind = kind} h next) =
    let before = grown h in
    let at = split_facts problem bounds context l kind before.0 next in
    (add_context context (split_entry l kind SplitLeft) before.0 at.0, add_consistent context (split_entry l kind SplitLeft) before.1 at.1)
grown {problem} {bounds} (went_right {context = context} {l = l} {kind = kind} h next) =
    let before = grown h in
    let at = split_facts problem bounds context l kind before.0 next in
    (add_context context (split_entry (complement l) kind SplitRight) before.0 at.0, add_consistent context (split_entry (complement l) kind SplitRight) before.1 at.2)
