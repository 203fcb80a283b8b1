-- Terms that are copied into nodes in part.
use Rattle.std.proofs.Common.{◌≡◌, ℕ, List, [], ◌∷◌, ◌++◌, length, map, ap, ◌∙◌}
use Rattle.std.proofs.lemmas.List.Elements.{All-weaker}
use Rattle.std.specs.List.{All}
use Rattle.std.proofs.lemmas.List.{map-append}
use Rattle.me_terms.specs.TermViews.{term_value}
use Rattle.me_terms.specs.Terms.{TermValue}
use Rattle.me_unify.specs.declared.arena.Adding.{Adding}
use Rattle.me_unify.specs.declared.node.Node.{Node}
use Rattle.me_unify.specs.Linked.{Colouring}
use Rattle.me_unify.specs.Nodes.{KeepsNodes}
use Rattle.me_unify.proofs.Made.{grown_within}
use Rattle.me_unify.proofs.Frames.{Opened, AreWithin}

abbrev pub opened : Colouring → Adding → Opened
opened h fr = record { symbol = fr.f; before = map h fr.made.items; behind = map term_value fr.rest.now }

-- as much of it as tells how much is left
abbrev pub size_of : Adding → Opened
size_of fr = record { symbol = fr.f; before = []; behind = map term_value fr.rest.now }

abbrev pub IsWithin : ℕ → Adding → Type 0
IsWithin n fr = AreWithin n fr.made.items

pub within_grown : (old new : List Node) (xs : List ℕ) → KeepsNodes old new → AreWithin (length old) xs → AreWithin (length new) xs
within_grown old new xs g w i lt = grown_within old new _ g (w i lt)

pub above_grown : (old new : List Node) (above : List Adding) → KeepsNodes old new → All (IsWithin (length old)) above → All (IsWithin (length new)) above
above_grown old new above g h = All-weaker (IsWithin (length old)) (IsWithin (length new)) (λ fr. within_grown old new fr.made.items g) above h

pub made_end : (h : Colouring) (xs new : List ℕ) (x : ℕ) (t : TermValue) → new ≡ xs ++ x ∷ [] → h x ≡ t → map h new ≡ map h xs ++ t ∷ []
made_end h xs new x t e is = ap (map h) e ∙ map-append h xs (x ∷ []) ∙ ap (λ u. map h xs ++ u ∷ []) is
