use Rattle.std.proofs.Common.{◌≤◌, ◌⊎◌, inl, inr, Option, ◌≡◌, ◌<◌, ℕ, List, length, map, ap, ◌∙◌, arith}
use Rattle.branch_core.specs.Paths.{Turns, code}
use Rattle.branch_core.specs.CoreTable.{CoreTable, HasTableRoom, state_at, may_end}
use Rattle.branch_core.specs.Parts.{RecordValue}
use Rattle.branch_core.specs.EventViews.{state_value}
use Rattle.branch_core.specs.declared.event.PathState.{PathState}
use Rattle.branch_core.proofs.CoreTables.{put_shown, put_room, place_known, map_length}
use Rattle.branch_core.proofs.search_core.Core.put_state.Goals as goal

below : (k n : ℕ) (items : List PathState) (path : Turns) → k ≡ code path → n ≡ length items → code path < length (map state_value items) → k < n
below k n items path e g h = omega (arith, e, g, h, map_length state_value items)

place_of : (share room : ℕ) (items : List PathState) {least : Option ℕ} {kept : List RecordValue} (table : CoreTable) (path : Turns) → HasTableRoom share (map state_value items) room → record { share = share; states = map state_value items; least = least; kept = kept } ≡ table → (length path ≤ table.share) ⊎ (code path < length table.states) → code path < length (map state_value items)
place_of share room items table path has e (inl h) = place_known share 0 room (map state_value items) path has (omega (arith, h, ap (λ (t : CoreTable). t.share) e))
place_of share room items table path has e (inr h) = omega (arith, h, ap (λ (t : CoreTable). length t.states) e)

pub index_mut-requires : goal.index_mut-requires
index_mut-requires c =
    below _ _ c.self.inside.states.items c.args.path c.code_of.ensures c.self.inside.states.ok.0 (place_of _ _ c.self.inside.states.items c.args.self.now c.args.path c.self.invariant c.self.view_is c.requires.known)

pub invariant_of-self : goal.invariant_of-self
invariant_of-self c =
    let once = ap (λ (t : CoreTable). may_end (state_at t.states c.args.path)) c.self.view_is ∙ c.requires.not_ended in
    put_room _ _ _ c.self.inside.states.items c.args.path c.args.state c.self.invariant c.code_of.ensures (place_of _ _ c.self.inside.states.items c.args.self.now c.args.path c.self.invariant c.self.view_is c.requires.known) once

pub returns : goal.returns
returns c =
    put_shown _ _ c.self.inside.states.items _ _ c.args.self.now c.args.path c.args.state c.self.view_is c.code_of.ensures (place_of _ _ c.self.inside.states.items c.args.self.now c.args.path c.self.invariant c.self.view_is c.requires.known)
