-- Terms in the order of first occurrence, part by part, and how many there are.
use Rattle.std.proofs.Common.{◌≡◌, ℕ, suc, ◌+◌, ◌*◌, ◌<◌, ◌≤◌, Bool, true, false, cond, List, [], ◌∷◌, ◌++◌, length, refl, sym, ap, ◌∙◌, arith}
use Rattle.std.specs.List.{list_any, flat_map, sum_by}
use Rattle.std.proofs.lemmas.Grind.{flat_map-append}
use Rattle.std.proofs.lemmas.List.{length-append}
use Rattle.std.proofs.lemmas.List.Sums.{sum_by-cons}
use Rattle.me_terms.specs.Terms.{TermValue, Var, App, Arguments, Nil, Cons, list_of}
use Rattle.me_terms.specs.TermEquality.{same_term}
use Rattle.me_terms.specs.Variables.{weight, weights}
use Rattle.me_terms.specs.Measures.{literal_weight, literals_weight}
use Rattle.me_terms.specs.declared.atom.Literal.{Literal}
use Rattle.finite_domain.specs.Names.{applied_in, applied_in_all, first_terms, applied_terms, with_value, named_terms}

-- ---- two parts

append_by : (seen xs ys : List TermValue) (t : TermValue) (test : Bool) → ((s : List TermValue) → first_terms s (xs ++ ys) ≡ first_terms (first_terms s xs) ys)
    → cond test (first_terms seen (xs ++ ys)) (first_terms (seen ++ t ∷ []) (xs ++ ys)) ≡ first_terms (cond test (first_terms seen xs) (first_terms (seen ++ t ∷ []) xs)) ys
append_by seen xs ys t true rest = rest seen
append_by seen xs ys t false rest = rest (seen ++ t ∷ [])

pub first_append : (seen xs ys : List TermValue) → first_terms seen (xs ++ ys) ≡ first_terms (first_terms seen xs) ys
first_append seen [] ys = refl
first_append seen (t ∷ xs) ys = append_by seen xs ys t (list_any (same_term t) seen) (λ s. first_append s xs ys)

-- the terms that are found so far, and then those of the rest, are all
pub found_more : (found next all part rest whole : List TermValue) → whole ≡ part ++ rest → next ≡ first_terms found part → first_terms found whole ≡ all → first_terms next rest ≡ all
found_more found next all part rest whole parts is before =
    ap (λ (v : List TermValue). first_terms v rest) is
    ∙ sym (first_append found part rest)
    ∙ ap (first_terms found) (sym parts)
    ∙ before

-- ---- how many

length_by : (seen xs : List TermValue) (t : TermValue) (test : Bool) → ((s : List TermValue) → length (first_terms s xs) ≤ length s + length xs)
    → length (cond test (first_terms seen xs) (first_terms (seen ++ t ∷ []) xs)) ≤ length seen + suc (length xs)
length_by seen xs t true rest = omega (arith, rest seen)
length_by seen xs t false rest = omega (arith, rest (seen ++ t ∷ []), length-append seen (t ∷ []))

pub first_length : (seen xs : List TermValue) → length (first_terms seen xs) ≤ length seen + length xs
first_length seen [] = omega arith
first_length seen (t ∷ xs) = length_by seen xs t (list_any (same_term t) seen) (λ s. first_length s xs)

-- how many variables the literals of the terms have
abbrev pub extent : List TermValue → ℕ
extent ts = length (flat_map with_value ts)

extent_append : (xs ys : List TermValue) → extent (xs ++ ys) ≡ extent xs + extent ys
extent_append xs ys = ap length (flat_map-append with_value xs ys) ∙ length-append (flat_map with_value xs) (flat_map with_value ys)

extent_by : (seen xs : List TermValue) (t : TermValue) (test : Bool) → ((s : List TermValue) → extent (first_terms s xs) ≤ extent s + extent xs)
    → extent (cond test (first_terms seen xs) (first_terms (seen ++ t ∷ []) xs)) ≤ extent seen + extent (t ∷ xs)
extent_by seen xs t true rest = omega (arith, rest seen, extent_append (t ∷ []) xs)
extent_by seen xs t false rest = omega (arith, rest (seen ++ t ∷ []), extent_append seen (t ∷ []), extent_append (t ∷ []) xs)

first_extent : (seen xs : List TermValue) → extent (first_terms seen xs) ≤ extent seen + extent xs
first_extent seen [] = omega arith
first_extent seen (t ∷ xs) = extent_by seen xs t (list_any (same_term t) seen) (λ s. first_extent s xs)

one_extent : (f : ℕ) (ts : Arguments) → extent (App f ts ∷ []) ≡ length (list_of ts) + 1
one_extent f ts =
    let a : extent (App f ts ∷ []) ≡ length (with_value (App f ts)) + 0 = length-append (with_value (App f ts)) [] in
    let b : length (with_value (App f ts)) ≡ length (list_of ts) + 1 = length-append (list_of ts) (App f ts ∷ []) in
    omega (arith, a, b)

mutual
  term_extent : (t : TermValue) → extent (applied_in t) + 1 ≤ 2 * weight t
  term_extent (Var x) = omega arith
  term_extent (App f ts) =
      let a : extent (applied_in (App f ts)) ≡ extent (App f ts ∷ []) + extent (applied_in_all ts) = extent_append (App f ts ∷ []) (applied_in_all ts) in
      omega (arith, terms_extent ts, a, one_extent f ts)

  terms_extent : (ts : Arguments) → extent (applied_in_all ts) + length (list_of ts) ≤ 2 * weights ts
  terms_extent Nil = omega arith
  terms_extent (Cons t ts) =
      let a : extent (applied_in_all (Cons t ts)) ≡ extent (applied_in t) + extent (applied_in_all ts) = extent_append (applied_in t) (applied_in_all ts) in
      omega (arith, term_extent t, terms_extent ts, a)

mutual
  term_count : (t : TermValue) → length (applied_in t) ≤ weight t
  term_count (Var x) = omega arith
  term_count (App f ts) = omega (arith, terms_count ts)

  terms_count : (ts : Arguments) → length (applied_in_all ts) ≤ weights ts
  terms_count Nil = omega arith
  terms_count (Cons t ts) = omega (arith, term_count t, terms_count ts, length-append (applied_in t) (applied_in_all ts))

abbrev applied : List Literal → List TermValue
applied ls = flat_map (λ (l : Literal). applied_in_all l.atom.args) ls

abbrev own : List Literal → List TermValue
own ls = flat_map (λ (l : Literal). list_of l.atom.args) ls

weight_more : (l : Literal) (ls : List Literal) → literals_weight (l ∷ ls) ≡ 1 + weights l.atom.args + literals_weight ls
weight_more l ls = sum_by-cons literal_weight l ls

literals_extent : (ls : List Literal) → extent (applied ls) + length (own ls) ≤ 2 * literals_weight ls
literals_extent [] = omega arith
literals_extent (l ∷ ls) =
    let a : extent (applied (l ∷ ls)) ≡ extent (applied_in_all l.atom.args) + extent (applied ls) = extent_append (applied_in_all l.atom.args) (applied ls) in
    let b : length (own (l ∷ ls)) ≡ length (list_of l.atom.args) + length (own ls) = length-append (list_of l.atom.args) (own ls) in
    omega (arith, literals_extent ls, terms_extent l.atom.args, a, b, weight_more l ls)

literals_count : (ls : List Literal) → length (applied ls) + length ls ≤ literals_weight ls
literals_count [] = omega arith
literals_count (l ∷ ls) =
    let a : length (applied (l ∷ ls)) ≡ length (applied_in_all l.atom.args) + length (applied ls) = length-append (applied_in_all l.atom.args) (applied ls) in
    omega (arith, literals_count ls, terms_count l.atom.args, a, weight_more l ls)

-- there are at most as many variables in a flattened clause as twice what the clause weighs
pub few_names : (ls : List Literal) → length (named_terms (applied_terms ls) ls) ≤ 2 * literals_weight ls
few_names ls =
    let all = flat_map with_value (applied_terms ls) ++ own ls in
    omega (arith, first_length [] all, length-append (flat_map with_value (applied_terms ls)) (own ls), first_extent [] (applied ls), literals_extent ls)

-- and at most as many literals as the clause weighs
pub few_literals : (ls : List Literal) → length (applied_terms ls) + length ls ≤ literals_weight ls
few_literals ls = omega (arith, first_length [] (applied ls), literals_count ls)
