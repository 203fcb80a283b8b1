-- Nodes at whose end little stands: where links lead to these alone, no term can stand in itself.
use Rattle.std.specs.Prelude.{ℕ, zero, suc, Bool, true, false, eqb, List, [], ◌∷◌, length, slice_index, slice_get, Option, Some, None, if◌then◌else◌}
use Rattle.me_unify.specs.declared.links.Links.{Links}
use Rattle.me_unify.specs.declared.node.Node.{Node}
use Rattle.me_unify.specs.declared.node.Node.TheVariants as node
use Rattle.me_unify.specs.Linked.{NONE}

-- Where one is after so many links at most.
abbrev pub after : Links → ℕ → ℕ → ℕ
after l zero x = x
after l (suc n) x = if (eqb (slice_index l.place.items x) NONE) then x else after l n (slice_index l.tos.items (slice_index l.place.items x))

-- The node at which a node's links end.
abbrev pub end_of : Links → ℕ → ℕ
end_of l x = after l (length l.froms.items) x

-- A variable or a constant.
abbrev pub is_leaf : Option Node → Bool
is_leaf None = false
is_leaf (Some (node.Var space var)) = true
is_leaf (Some (node.App f args)) = eqb (length args.items) 0

-- The node's links end at a variable or a constant.
abbrev pub ends_at_leaf : List Node → Links → ℕ → Bool
ends_at_leaf nodes l x = is_leaf (slice_get nodes (end_of l x))

abbrev pub all_end_at_leaves : List Node → Links → List ℕ → Bool
all_end_at_leaves nodes l [] = true
all_end_at_leaves nodes l (x ∷ xs) = if (ends_at_leaf nodes l x) then all_end_at_leaves nodes l xs else false

-- A variable, or a function all of whose arguments end at variables and constants.
abbrev pub is_flat : List Node → Links → Option Node → Bool
is_flat nodes l None = false
is_flat nodes l (Some (node.Var space var)) = true
is_flat nodes l (Some (node.App f args)) = all_end_at_leaves nodes l args.items

-- The node's links end at a flat term.
abbrev pub ends_flat : List Node → Links → ℕ → Bool
ends_flat nodes l x = is_flat nodes l (slice_get nodes (end_of l x))
