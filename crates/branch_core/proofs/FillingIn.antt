-- One part further, where the parts of a record are put in a list with their gifts filled in.
use Rattle.std.proofs.Common.{◌≡◌, ℕ, ◌+◌, ◌<◌, ◌≤◌, List, [], ◌∷◌, ◌++◌, map, length, get_or, drop, Some, slice_get, length-append, append_assoc, refl, sym, subst, ap, ◌∙◌, arith}
use Rattle.std.proofs.lemmas.List.{drop_more, drop_all}
use Rattle.std.proofs.lemmas.Option.{slice_get_read}
use Rattle.branch_core.specs.Assemble.{CanAssemble, HasRecord, ArePartsOf}
use Rattle.branch_core.specs.Filled.{IsNoGift, Filled, none_left, own, put}
use Rattle.branch_core.specs.Parts.{PartValue, RecordValue}
use Rattle.branch_core.specs.Parts as part
use Rattle.branch_core.specs.PartViews.{part_value}
use Rattle.branch_core.specs.Paths.{Turns, ProperlyBegins}
use Rattle.branch_core.specs.Whole.{IsIn}
use Rattle.branch_core.specs.declared.part.Part.{Part}
use Rattle.branch_core.specs.declared.part.Part.TheVariants as variant
use Rattle.branch_core.proofs.Filling.{map_get}

read : (items : List Part) (k : ℕ) (p : Part) → k < length items → p ≡ get_or items k p → slice_get items k ≡ Some p
read items k p below is = slice_get_read items (length items) k p refl below is

left_items : (items : List Part) (k : ℕ) (p : Part) → k < length items → p ≡ get_or items k p → map part_value (drop k items) ≡ part_value p ∷ map part_value (drop (k + 1) items)
left_items items k p below is = ap (map part_value) (drop_more items k p below ∙ ap (λ (q : Part). q ∷ drop (k + 1) items) (sym is))

-- a gift has a record, and extends the path that gave it
pub gift_known : (records : List RecordValue) (whole : CanAssemble records) (r : RecordValue) (items : List Part) (k : ℕ) (p : Part) (gift turns : Turns) → IsIn r records → map part_value items ≡ r.parts → k < length items → p ≡ get_or items k p → p ≡ variant.Gift gift → turns ≡ gift → HasRecord records turns × ProperlyBegins r.path turns
gift_known records whole r items k p gift turns is_in parts below is is_gift same =
    let found : slice_get (map part_value items) k ≡ Some (part.Gift turns) =
    map_get part_value items k p (read items k p below is) ∙ ap (λ (q : PartValue). Some q) (ap part_value is_gift ∙ ap part.Gift (sym same)) in
    let here : IsIn (part.Gift turns) r.parts = subst (λ (ps : List PartValue). IsIn (part.Gift turns) ps) parts (k, found) in
    (whole.gifts r turns is_in here, whole.extends r turns is_in here)

pub longer : (turns path : Turns) → ProperlyBegins path turns → length path + 1 ≤ length turns
longer turns path e = omega (arith, ap length e.2, length-append path (e.0 ∷ e.1))

-- ---- what is left, with the gifts filled in
pub put_more : (records : List RecordValue) (items : List Part) (k : ℕ) (p : Part) (gift turns : Turns) (inner rest : List PartValue) → k < length items → p ≡ get_or items k p → p ≡ variant.Gift gift → turns ≡ gift → ArePartsOf records turns inner → Filled records (map part_value (drop (k + 1) items)) rest → Filled records (map part_value (drop k items)) (inner ++ rest)
put_more records items k p gift turns inner rest below is is_gift same are later =
    let first : part_value p ≡ part.Gift are.0.path = ap part_value is_gift ∙ ap part.Gift (sym same ∙ sym are.2) in
    let split : map part_value (drop k items) ≡ part.Gift are.0.path ∷ map part_value (drop (k + 1) items) =
    left_items items k p below is ∙ ap (λ (q : PartValue). q ∷ map part_value (drop (k + 1) items)) first in
    subst (λ (ps : List PartValue). Filled records ps (inner ++ rest)) (sym split) (put are.1 are.3 later)

no_gift : (p : Part) → ((gift : Turns) → p ≡ variant.Gift gift → ⊥) → IsNoGift (part_value p)
no_gift (variant.Closed listed) other = tt
no_gift (variant.Bounded b) other = tt
no_gift (variant.Sat context) other = tt
no_gift (variant.Gift gift) other = other gift refl
no_gift (variant.Cut key) other = tt
no_gift variant.NoMemory other = tt

pub own_more : (records : List RecordValue) (items : List Part) (k : ℕ) (p : Part) (rest : List PartValue) → k < length items → p ≡ get_or items k p → ((gift : Turns) → p ≡ variant.Gift gift → ⊥) → Filled records (map part_value (drop (k + 1) items)) rest → Filled records (map part_value (drop k items)) (part_value p ∷ rest)
own_more records items k p rest below is other later =
    subst (λ (ps : List PartValue). Filled records ps (part_value p ∷ rest)) (sym (left_items items k p below is)) (own (no_gift p other) later)

-- what was put in the list so far, and what is left
pub moved : (all before inner rest after : List PartValue) → all ≡ before ++ (inner ++ rest) → after ≡ before ++ inner → all ≡ after ++ rest
moved all before inner rest after e is = e ∙ (sym (append_assoc before inner rest) ∙ ap (λ (ps : List PartValue). ps ++ rest) (sym is))

pub none_more : (records : List RecordValue) (items : List Part) (k : ℕ) → length items ≤ k → Filled records (map part_value (drop k items)) []
none_more records items k past =
    subst (λ (ps : List Part). Filled records (map part_value ps) []) (sym (drop_all k items past)) none_left
