-- One more name of a row gets its number.
use Rattle.std.proofs.Common.{◌≡◌, ℕ, zero, suc, ◌+◌, ◌<◌, List, [], ◌∷◌, ◌++◌, length, map, drop, get_or, refl, sym, ap, ◌∙◌, arith}
use Rattle.tptp_cnf.specs.Rows.{ItemValue, Names, with_item, number_in, names_after, numbered}
use Rattle.tptp_cnf.specs.Views.{item_value}
use Rattle.tptp_cnf.specs.declared.item.Item.{Item}
use Rattle.tptp_cnf.specs.declared.item.Node.{Node}
use Rattle.tptp_cnf.proofs.Numbering.{numbered_step}

-- the name at a place, and those behind it
at : (items : List Item) (i : ℕ) (d : Item) → i < length items → drop i items ≡ get_or items i d ∷ drop (suc i) items
at [] i d lt = absurd (omega (arith, lt))
at (x ∷ xs) zero d lt = refl
at (x ∷ xs) (suc i) d lt = at xs i d (omega (arith, lt))

row : (items : List Item) (i : ℕ) (d : Item) → i < length items → map item_value (drop i items) ≡ item_value (get_or items i d) ∷ map item_value (drop (i + 1) items)
row items i d lt =
    let next : suc i ≡ i + 1 = omega arith in
    ap (map item_value) (at items i d lt) ∙ ap (λ (k : ℕ). item_value (get_or items i d) ∷ map item_value (drop k items)) next

pub one_node : (items : List Item) (i : ℕ) (d : Item) (nodes more start : List Node) (names next : Names) (number : ℕ) → i < length items → nodes ++ numbered names (map item_value (drop i items)) ≡ start
    → more ≡ nodes ++ (record { role = (get_or items i d).role; number = number; arity = (get_or items i d).arity }) ∷ [] → number ≡ number_in next (item_value (get_or items i d)) → next ≡ with_item names (item_value (get_or items i d))
    → more ++ numbered next (map item_value (drop (i + 1) items)) ≡ start
one_node items i d nodes more start names next number lt h m n e =
    numbered_step nodes more start names next (item_value (get_or items i d)) number (map item_value (drop (i + 1) items))
    (ap (λ (x : List ItemValue). nodes ++ numbered names x) (sym (row items i d lt)) ∙ h) m n e

pub one_name : (items : List Item) (i : ℕ) (d : Item) (names next all : Names) → i < length items → names_after names (map item_value (drop i items)) ≡ all → next ≡ with_item names (item_value (get_or items i d)) → names_after next (map item_value (drop (i + 1) items)) ≡ all
one_name items i d names next all lt h e =
    ap (λ (x : Names). names_after x (map item_value (drop (i + 1) items))) e ∙ ap (names_after names) (sym (row items i d lt)) ∙ h
