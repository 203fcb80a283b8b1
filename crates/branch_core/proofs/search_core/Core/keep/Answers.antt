use Rattle.std.proofs.Common.{◌≡◌, ◌<◌, ℕ, ◌-◌, ◌++◌, [], ◌∷◌, List, Option, length, map, slice_set, sym, subst, ap, ◌∙◌, arith}
use Rattle.branch_core.specs.Paths.{Turns, code}
use Rattle.branch_core.specs.Core.{StateValue, Ended, with_state}
use Rattle.branch_core.specs.Parts.{RecordValue}
use Rattle.branch_core.specs.CoreTable.{CoreTable, HasTableRoom, state_at, may_end, core_value}
use Rattle.branch_core.specs.EventViews.{state_value}
use Rattle.branch_core.specs.declared.event.PathState.{PathState}
use Rattle.branch_core.specs.declared.event.PathState.TheVariants as path_state
use Rattle.branch_core.proofs.CoreTables.{keep_shown, keep_room, counts_one}
use Rattle.branch_core.proofs.search_core.Core.keep.Goals as goal

place : (states : List StateValue) (path : Turns) (table : CoreTable) → states ≡ table.states → code path < length table.states → code path < length states
place states path table e h = omega (arith, h, ap (λ (xs : List StateValue). length xs) e)

once : (states : List StateValue) (path : Turns) (table : CoreTable) → states ≡ table.states → may_end (state_at table.states path) ≡ 1 → may_end (state_at states path) ≡ 1
once states path table e h = ap (λ (xs : List StateValue). may_end (state_at xs path)) e ∙ h

has_one : (share len cap : ℕ) (states : List StateValue) (path : Turns) → HasTableRoom share states (cap - len) → code path < length states → may_end (state_at states path) ≡ 1 → len < cap
has_one share len cap states path has h e = omega (arith, has.records, e, counts_one states (code path) h)

cap_same : (share cap cap' len : ℕ) (states : List StateValue) → cap' ≡ cap → HasTableRoom share states (cap - len) → HasTableRoom share states (cap' - len)
cap_same share cap cap' len states e has = subst (λ n. HasTableRoom share states (n - len)) (sym e) has

shown : (share k : ℕ) (items : List PathState) (least : Option ℕ) (kept more : List RecordValue) (record' : RecordValue) (table : CoreTable) (path : Turns) → record { share = share; states = map state_value items; least = least; kept = kept } ≡ table → k ≡ code path → code path < length (map state_value items) → more ≡ kept ++ record' ∷ [] → core_value (record { share = share; states = map state_value (slice_set items k path_state.Ended); least = least; kept = more }) ≡ record (core_value table) { states = with_state (core_value table).states path Ended; kept = table.kept ++ record' ∷ [] }
shown share k items least kept more record' table path e at h g =
    let P : List RecordValue → Type 0 = λ rs. core_value (record { share = share; states = map state_value (slice_set items k path_state.Ended); least = least; kept = rs }) ≡ record (core_value table) { states = with_state (core_value table).states path Ended; kept = table.kept ++ record' ∷ [] } in
    subst P (sym g) (keep_shown share k items least kept record' table path e at h)

pub push_reserved-requires : goal.push_reserved-requires
push_reserved-requires c =
    let same = ap (λ (t : CoreTable). t.states) c.self.view_is in
    has_one _ _ _ _ c.args.path c.self.invariant (place _ c.args.path c.args.self.now same c.requires.known) (once _ c.args.path c.args.self.now same c.requires.not_ended)

pub invariant_of-self : goal.invariant_of-self
invariant_of-self c =
    let same = ap (λ (t : CoreTable). t.states) c.self.view_is in
    keep_room _ _ _ _ _ c.self.inside.states.items c.args.path (cap_same _ _ _ _ _ c.push_reserved.ensures.capacity c.self.invariant) c.code_of.ensures (place _ c.args.path c.args.self.now same c.requires.known) (once _ c.args.path c.args.self.now same c.requires.not_ended) c.push_reserved.ensures.len

pub returns : goal.returns
returns c =
    let same = ap (λ (t : CoreTable). t.states) c.self.view_is in
    shown _ _ c.self.inside.states.items _ _ _ _ c.args.self.now c.args.path c.self.view_is c.code_of.ensures (place _ c.args.path c.args.self.now same c.requires.known) c.push_reserved.ensures.items
