-- The core: the states of the paths, the least key, and the records that are kept; and its events.
use Rattle.std.specs.Prelude.{◌≡◌, ℕ, ◌<◌, ◌≤◌, Bool, true, false, ◌&&◌, List, [], ◌∷◌, ◌++◌, length, Option, Some, None, if◌then◌else◌, min, ◌⊎◌}
use Rattle.branch_core.specs.Paths.{Turns, key, ProperlyBegins}
use Rattle.branch_core.specs.Parts.{PartValue, RecordValue}

-- An actor's name.
abbrev pub Actor : Type 0
Actor = ℕ

-- The state of a path: nobody has spoken of it; it was given away; an actor has it; or its parts were handed back.
pub data StateValue : Type 0 where
  Unknown : StateValue
  Offered : StateValue
  Held : Actor → StateValue
  Ended : StateValue

-- What an actor does. Offer: it gives a path away, below a path that it holds. Take: it takes one. Post: it tells the key of an exhausted leaf. Cut: it leaves a node out for that of the least key. End: it hands back the parts of a path.
pub data EventValue : Type 0 where
  Offer : Actor → Turns → Turns → EventValue
  Take : Actor → Turns → EventValue
  Post : Actor → ℕ → EventValue
  Cut : Actor → Turns → ℕ → EventValue
  End : Actor → Turns → List PartValue → EventValue

-- How many turns a path that is given away may have, the state of each path, the least key that was posted, and the records that were handed back.
pub record CoreValue : Type 0 where
  pub share : ℕ
  pub states : Turns → StateValue
  pub least : Option ℕ
  pub kept : List RecordValue

-- ---- equal turns
abbrev pub bool_eq : Bool → Bool → Bool
bool_eq true true = true
bool_eq true false = false
bool_eq false true = false
bool_eq false false = true

-- The same turns in the same order.
abbrev pub turns_eq : Turns → Turns → Bool
turns_eq [] [] = true
turns_eq [] (b ∷ bs) = false
turns_eq (a ∷ as') [] = false
turns_eq (a ∷ as') (b ∷ bs) = bool_eq a b && turns_eq as' bs

-- The states with a path's state changed.
abbrev pub with_state : (Turns → StateValue) → Turns → StateValue → Turns → StateValue
with_state states path state other = if turns_eq path other then state else states other

-- ---- the first state and the step
-- The root is Offered and every other path Unknown; no key is posted.
abbrev pub first_states : Turns → StateValue
first_states [] = Offered
first_states (turn ∷ turns) = Unknown

-- The core before any event.
abbrev pub first_core : ℕ → CoreValue
first_core share = record { share = share; states = first_states; least = None; kept = [] }

-- The last turn is one to the right.
abbrev pub EndsRight : Turns → Type 0
EndsRight path = (before : Turns) × (path ≡ before ++ true ∷ [])

-- What an Offer needs: the parent is held by the actor; the path extends it, ends with a right turn, has few turns, and is Unknown.
pub record MayOffer (core : CoreValue) (by : Actor) (parent path : Turns) : Type 0 where
  pub held : core.states parent ≡ Held by
  pub extends : ProperlyBegins parent path
  pub to_right : EndsRight path
  pub short : length path ≤ core.share
  pub unknown : core.states path ≡ Unknown

-- The event may come. An Offer as above; a Take where the path is Offered; a Post always; a Cut where the least key is the one named and smaller than the node's; an End where the actor holds the path.
abbrev pub IsLegal : CoreValue → EventValue → Type 0
IsLegal core (Offer by parent path) = MayOffer core by parent path
IsLegal core (Take by path) = core.states path ≡ Offered
IsLegal core (Post by posted) = Unit {0}
IsLegal core (Cut by node least) = (core.least ≡ Some least) × (least < key node)
IsLegal core (End by path parts) = core.states path ≡ Held by

-- The least key, once one more was posted.
abbrev pub least_with : Option ℕ → ℕ → ℕ
least_with None posted = posted
least_with (Some least) posted = min least posted

-- The state that a refusal shows: that of the path or the node. Where the parent of an Offer is not held by the actor it is the parent's.
abbrev pub Shows : CoreValue → EventValue → StateValue → Type 0
Shows core (Offer by parent path) state =
    ((core.states parent ≡ Held by) × (state ≡ core.states path)) ⊎ ((¬ (core.states parent ≡ Held by)) × (state ≡ core.states parent))
Shows core (Take by path) state = state ≡ core.states path
Shows core (Post by posted) state = ⊥
Shows core (Cut by node least) state = state ≡ core.states node
Shows core (End by path parts) state = state ≡ core.states path

-- The core after an event.
abbrev pub after : CoreValue → EventValue → CoreValue
after core (Offer by parent path) = record core { states = with_state core.states path Offered }
after core (Take by path) = record core { states = with_state core.states path (Held by) }
after core (Post by posted) = record core { least = Some (least_with core.least posted) }
after core (Cut by node least) = core
after core (End by path parts) = record core { states = with_state core.states path Ended; kept = core.kept ++ record { path = path; parts = parts } ∷ [] }
