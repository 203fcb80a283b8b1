-- One argument more of the innermost name whose arguments are being read.
use Rattle.std.proofs.Common.{◌≡◌, ◌<◌, ◌≤◌, ◌+◌, ◌-◌, ℕ, zero, suc, List, [], ◌∷◌, ◌++◌, length, map, reverse, Some, refl, sym, ap, ◌∙◌, arith}
use Rattle.std.proofs.lemmas.List.{reverse-append, length-map}
use Rattle.std.specs.Prelude.{slice_get, slice_set, slice_index_or, min}
use Rattle.szs_read.specs.RowItems.{NameValue, item_value, row_value, counted_at, counted, counted_row}
use Rattle.szs_read.specs.declared.row.Item.{Item}
use Rattle.szs_read.specs.declared.row.Row.{Row}

last_first : (xs : List ℕ) (p : ℕ) → slice_get xs (length xs - 1) ≡ Some p → (front : List ℕ) × (reverse xs ≡ p ∷ front)
last_first [] p h = absurd cc
last_first (x ∷ []) p h = let e : x ≡ p = cc in ([], ap (λ (n : ℕ). n ∷ []) e)
last_first (x ∷ y ∷ ys) p h =
    let e : length (x ∷ y ∷ ys) - 1 ≡ suc (length (y ∷ ys) - 1) = omega arith in
    let k = last_first (y ∷ ys) p (sym (ap (slice_get (x ∷ y ∷ ys)) e) ∙ h) in
    (k.0 ++ x ∷ [], reverse-append (x ∷ []) (y ∷ ys) ∙ ap (λ (v : List ℕ). v ++ x ∷ []) k.1)

pub set_counted : (xs : List Item) (p n : ℕ) (x z : Item) → p < length xs → x ≡ slice_index_or xs p x → z ≡ slice_index_or xs p z → n ≡ min (x.arity + 1) 0xffff_ffff → map item_value (slice_set xs p (record { name = z.name; arity = n })) ≡ counted_at p (map item_value xs)
set_counted [] p n x z h e f k = absurd (omega (arith, h))
set_counted (y ∷ ys) zero n x z h e f k =
    let m : n ≡ min (y.arity + 1) 0xffff_ffff = k ∙ ap (λ (v : Item). min (v.arity + 1) 0xffff_ffff) e in
    λ i. item_value (record { name = (f i).name; arity = m i }) ∷ map item_value ys
set_counted (y ∷ ys) (suc p) n x z h e f k = ap (λ (v : List NameValue). item_value y ∷ v) (set_counted ys p n x z (omega (arith, h)) e f k)

none_counted : (ns : List NameValue) (p : ℕ) → length ns ≤ p → ns ≡ counted_at p ns
none_counted [] p h = refl
none_counted (n ∷ ns) zero h = absurd (omega (arith, h))
none_counted (n ∷ ns) (suc p) h = ap (λ (v : List NameValue). n ∷ v) (none_counted ns p (omega (arith, h)))

pub out_of_place : (xs : List Item) (p : ℕ) → length xs ≤ p → map item_value xs ≡ counted_at p (map item_value xs)
out_of_place xs p h = none_counted (map item_value xs) p (omega (arith, h, length-map xs item_value))

pub row_counted : (row : Row) (p : ℕ) (seen : List ℕ) (names : List NameValue) → Some p ≡ slice_get seen (length seen - 1) → seen ≡ row.enclosing.items → names ≡ counted_at p (map item_value row.items.items)
    → record { positive = row.positive; names = names; enclosing = reverse row.enclosing.items } ≡ counted_row (row_value row)
row_counted row p seen names h s e =
    let k = last_first row.enclosing.items p (ap (λ (v : List ℕ). slice_get v (length v - 1)) (sym s) ∙ sym h) in
    let all : names ≡ counted (reverse row.enclosing.items) (map item_value row.items.items) = e ∙ ap (λ (v : List ℕ). counted v (map item_value row.items.items)) (sym k.1) in
    λ i. record { positive = row.positive; names = all i; enclosing = reverse row.enclosing.items }
