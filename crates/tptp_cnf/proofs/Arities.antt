-- The row in which the name whose arguments end has their number.
use Rattle.std.proofs.Common.{◌≡◌, ℕ, zero, suc, ◌<◌, ◌≤◌, List, [], ◌∷◌, ◌++◌, length, map, reverse, slice_set, slice_index_or, refl, ap, ◌∙◌, arith}
use Rattle.std.proofs.lemmas.List.{reverse-append}
use Rattle.tptp_grammar.specs.Views.{terminal_of}
use Rattle.tptp_cnf.specs.Rows.{ItemValue, item, Draft, with_row, with_arity, closed_at, items_closed}
use Rattle.tptp_cnf.specs.Views.{item_value}
use Rattle.tptp_cnf.specs.declared.item.Item.{Item}

pub row_set : (items : List Item) (k n : ℕ) (x : Item) → k < length items → x ≡ slice_index_or items k x → map item_value (slice_set items k (record { role = x.role; name = x.name; arity = n })) ≡ with_arity k n (map item_value items)
row_set [] k n x lt e = absurd (omega (arith, lt))
row_set (i ∷ is) zero n x lt e = ap (λ (y : Item). item y.role (terminal_of y.name) n ∷ map item_value is) e
row_set (i ∷ is) (suc k) n x lt e = ap (λ (v : List ItemValue). item_value i ∷ v) (row_set is k n x (omega (arith, lt)) e)

past : (items : List ItemValue) (k n : ℕ) → length items ≤ k → with_arity k n items ≡ items
past [] k n le = refl
past (i ∷ is) zero n le = absurd (omega (arith, le))
past (i ∷ is) (suc k) n le = ap (λ (v : List ItemValue). i ∷ v) (past is k n (omega (arith, le)))

values_len : (items : List Item) → length (map item_value items) ≡ length items
values_len [] = refl
values_len (i ∷ is) = omega (arith, values_len is)

pub row_past : (items : List Item) (k n : ℕ) → length items ≤ k → with_arity k n (map item_value items) ≡ map item_value items
row_past items k n le = past (map item_value items) k n (omega (arith, le, values_len items))

pub closed_last : (places rest : List ℕ) (place n : ℕ) (d : Draft) → places ≡ rest ++ place ∷ [] → d.open_items ≡ reverse places → items_closed n d ≡ with_row (with_arity place n d.items) (reverse rest) d
closed_last places rest place n d e o = ap (λ (x : List ℕ). closed_at x n d) (o ∙ ap reverse e ∙ reverse-append rest (place ∷ []))
