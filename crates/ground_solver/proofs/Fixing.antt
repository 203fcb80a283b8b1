-- What a write to the values does to the path and to the count of atoms without one.
use Rattle.std.proofs.Common.{◌≡◌, inl, inr, ℕ, ◌+◌, ◌<◌, ◌≤◌, Bool, cond, List, ◌∷◌, length, Option, None, Some, get_or, set, refl, sym, ap, subst, ◌∙◌, arith, get_or-set_same, get_or-set_other, length-set}
use Rattle.std.proofs.lemmas.List.{set_past, get_or_past}
use Rattle.std.proofs.lemmas.List.Sums.{sum_by-set}
use Rattle.std.proofs.lemmas.Bool.{cases_eq, cases_lt}
use Rattle.std.specs.Option.{is_none}
use Rattle.ground_solver.specs.ClosingProofs.{Fixes}
use Rattle.ground_solver.specs.Underway.{AreFixed, free}

no_value : (v : Option Bool) (c : Bool) → v ≡ None → v ≡ Some c → ⊥
no_value v c none some = cc

-- a value that stands after a write of one is the one that was written
written : (values : List (Option Bool)) (a : ℕ) (v : Option Bool) (c : Bool) → get_or (set values a v) a None ≡ Some c → v ≡ Some c
written values a v c e =
    elim (cases_lt a (length values)) [
      | inl below ↦ sym (get_or-set_same values a v None below) ∙ e
      | inr past ↦ absurd (no_value (get_or (set values a v) a None) c (get_or_past (set values a v) a None (omega (arith, length-set values a v))) e)
    ]

pub fixed_more : (values : List (Option Bool)) (path : List (ℕ × Bool)) (a : ℕ) (b : Bool) → AreFixed values path → AreFixed (set values a (Some b)) ((a, b) ∷ path)
fixed_more values path a b fixed q c e =
    elim (cases_eq q a) as (λ _. Fixes ((a, b) ∷ path) q c) [
      | inl same ↦
          let here : get_or (set values a (Some b)) a None ≡ Some c = subst (λ (k : ℕ). get_or (set values a (Some b)) k None ≡ Some c) same e in
          let is : Some b ≡ Some c = written values a (Some b) c here in
          let value : b ≡ c = cc in
          inl (sym same, value)
      | inr other ↦ inr (fixed q c (sym (get_or-set_other values a q (Some b) None other) ∙ e))
    ]

pub fixed_less : (values : List (Option Bool)) (path : List (ℕ × Bool)) (a : ℕ) (b : Bool) → AreFixed values ((a, b) ∷ path) → AreFixed (set values a None) path
fixed_less values path a b fixed q c e =
    elim (cases_eq q a) as (λ _. Fixes path q c) [
      | inl same ↦
          let here : get_or (set values a None) a None ≡ Some c = subst (λ (k : ℕ). get_or (set values a None) k None ≡ Some c) same e in
          absurd (no_value None c refl (written values a None c here))
      | inr other ↦
          elim (fixed q c (sym (get_or-set_other values a q None None other) ∙ e)) [
            | inl p ↦ absurd (other (sym (p.0)))
            | inr later ↦ later
          ]
    ]

-- the value of an atom on the path is the other one
pub fixed_other : (values : List (Option Bool)) (path : List (ℕ × Bool)) (a : ℕ) (b c : Bool) → AreFixed values ((a, b) ∷ path) → AreFixed (set values a (Some c)) ((a, c) ∷ path)
fixed_other values path a b c fixed q d e =
    elim (cases_eq q a) as (λ _. Fixes ((a, c) ∷ path) q d) [
      | inl same ↦
          let here : get_or (set values a (Some c)) a None ≡ Some d = subst (λ (k : ℕ). get_or (set values a (Some c)) k None ≡ Some d) same e in
          let is : Some c ≡ Some d = written values a (Some c) d here in
          let value : c ≡ d = cc in
          inl (sym same, value)
      | inr other ↦
          elim (fixed q d (sym (get_or-set_other values a q (Some c) None other) ∙ e)) [
            | inl p ↦ absurd (other (sym (p.0)))
            | inr later ↦ inr later
          ]
    ]

-- counts: what a write adds and takes
abbrev unset : Option Bool → ℕ
unset v = cond (is_none v) 1 0

counted : (values : List (Option Bool)) (a : ℕ) (v : Option Bool) → a < length values → free (set values a v) + unset (get_or values a None) ≡ free values + unset v
counted values a v below = sum_by-set unset values a v None below

pub free_fixed : (values : List (Option Bool)) (a : ℕ) (b : Bool) → a < length values → get_or values a None ≡ None → free (set values a (Some b)) + 1 ≡ free values
free_fixed values a b below none =
    let one : ℕ = 1 in
    let was : unset (get_or values a None) ≡ one = ap unset none in
    let sum = counted values a (Some b) below in
    omega (arith, was, sum)

pub free_set : (values : List (Option Bool)) (a : ℕ) → free (set values a None) ≤ free values + 1
free_set values a =
    elim (cases_lt a (length values)) [
      | inl below ↦ let sum = counted values a None below in omega (arith, sum)
      | inr past ↦ let same : free (set values a None) ≡ free values = ap free (set_past values a None past) in omega (arith, same)
    ]

pub free_some : (values : List (Option Bool)) (a : ℕ) (b : Bool) → free (set values a (Some b)) ≤ free values
free_some values a b =
    elim (cases_lt a (length values)) [
      | inl below ↦ let sum = counted values a (Some b) below in omega (arith, sum)
      | inr past ↦ let same : free (set values a (Some b)) ≡ free values = ap free (set_past values a (Some b) past) in omega (arith, same)
    ]
