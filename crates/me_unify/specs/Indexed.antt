-- The look-up of the nodes of variables.
use Rattle.std.specs.Prelude.{◌≡◌, ◌↔◌, ℕ, ◌+◌, ◌*◌, Bool, ◌&&◌, eqb, ltb, List, get_or, slice_get, Option, Some, None, if◌then◌else◌}
use Rattle.std.specs.Map.{lookup}
use Rattle.me_unify.specs.declared.node.Node.{Node}
use Rattle.me_unify.specs.declared.node.Node.TheVariants.{Var, App}
use Rattle.me_unify.specs.declared.variable_index.VariableIndex.{VariableIndex}
use Rattle.me_unify.specs.declared.variable_index.TheConstants.{SPACES, VARIABLES}

abbrev pub is_one : (ℕ × ℕ) → (ℕ × ℕ) → Bool
is_one v w = eqb v.0 w.0 && eqb v.1 w.1

-- Each variable's node, where it has one.
abbrev pub Lookup : Type 0
Lookup = (ℕ × ℕ) → Option ℕ

-- The variables of a space stand side by side in the table.
abbrev pub slot_of : ℕ → ℕ → Option ℕ
slot_of space var = if ltb space SPACES && ltb var VARIABLES then Some (space * VARIABLES + var) else None

abbrev pub slot_at : List (Option ℕ) → ℕ → Option ℕ
slot_at slots k = get_or slots k None

-- A variable with a slot is found there, and another one in the map.
abbrev pub found_by : List (Option ℕ) → List ((ℕ × ℕ) × ℕ) → (ℕ × ℕ) → Option ℕ → Option ℕ
found_by slots others v (Some k) = slot_at slots k
found_by slots others v None = lookup (is_one v) others

abbrev pub found_in : VariableIndex → Lookup
found_in index v = found_by index.slots.items index.others.entries v (slot_of v.0 v.1)

-- The look-up has the nodes of variables, and no others.
abbrev pub IsIndexed : List Node → Lookup → Type 0
IsIndexed nodes found = (space var x : ℕ) → (found (space, var) ≡ Some x) ↔ (slice_get nodes x ≡ Some (Var space var))

-- The variable has that node now, if any, and each other variable what it had.
abbrev pub IsNoted : (ℕ × ℕ) → Option ℕ → Lookup → Lookup → Type 0
IsNoted w x old new = (v : ℕ × ℕ) → new v ≡ (if is_one w v then x else old v)

-- The node is noted at x, if it is that of a variable.
abbrev pub IsNodeNoted : Node → ℕ → Lookup → Lookup → Type 0
IsNodeNoted (Var space var) x old new = IsNoted (space, var) (Some x) old new
IsNodeNoted (App f args) x old new = (v : ℕ × ℕ) → new v ≡ old v

-- The node is not noted any more.
abbrev pub IsForgotten : Node → Lookup → Lookup → Type 0
IsForgotten (Var space var) old new = IsNoted (space, var) None old new
IsForgotten (App f args) old new = (v : ℕ × ℕ) → new v ≡ old v
