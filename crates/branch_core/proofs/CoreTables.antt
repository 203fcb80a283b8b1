-- The table of the paths' states.
use Rattle.std.proofs.Common.{◌≡◌, ℕ, zero, suc, ◌+◌, ◌*◌, ◌^◌, ◌%◌, inl, inr, ◌<◌, ◌≤◌, Bool, List, [], ◌∷◌, ◌++◌, map, length, replicate, slice_set, slice_get, Option, Some, None, ◌-◌, refl, sym, subst, ap, ◌∙◌, arith}
use Rattle.std.proofs.lemmas.List.{length-replicate}
use Rattle.std.proofs.Math.Nat.{one-le-pow, pow-le-pow_right, mod-eq_of_lt}
use Rattle.branch_core.specs.Paths.{Turns, code, code_from, bit}
use Rattle.branch_core.specs.PathLaws.{code_from_above, double}
use Rattle.branch_core.specs.Core.{StateValue, Unknown, Offered, Held, Ended, first_states, first_core, with_state}
use Rattle.branch_core.specs.CoreTable.{state_or_unknown, state_at, may_end, not_ended, CoreTable, core_value, HasTableRoom}
use Rattle.branch_core.specs.EventViews.{state_value}
use Rattle.branch_core.specs.Parts.{RecordValue}
use Rattle.branch_core.specs.declared.event.PathState.{PathState}
use Rattle.branch_core.specs.declared.event.PathState.TheVariants as path_state
use Rattle.branch_core.proofs.PathOrder.{codes_injective, bits_below}
use Rattle.branch_core.proofs.Orderly.{state_here, turns_cases}

-- ---- the first table
all_unknown : (n k : ℕ) → state_or_unknown (slice_get (replicate n Unknown) k) ≡ Unknown
all_unknown zero zero = refl
all_unknown zero (suc k) = refl
all_unknown (suc n) zero = refl
all_unknown (suc n) (suc k) = all_unknown n k

below_root : (turn : Bool) (turns : Turns) → 2 ≤ code (turn ∷ turns)
below_root turn turns =
    let some : 1 ≤ 2 ^ length turns = one-le-pow (length turns) 2 (omega arith) in
    let low : code_from (2 + bit turn) turns ≡ (2 + bit turn) * 2 ^ length turns + code_from 0 turns = code_from_above (2 + bit turn) turns in
    let goal : 2 ≤ code_from (2 + bit turn) turns = omega (arith, low, some) in goal

later : (n k : ℕ) → 2 ≤ k → state_or_unknown (slice_get (slice_set (replicate (suc (suc n)) Unknown) 1 Offered) k) ≡ Unknown
later n zero h = absurd (omega arith)
later n (suc zero) h = absurd (omega arith)
later n (suc (suc k)) h = all_unknown n k

pub first_table : (n : ℕ) → 2 ≤ n → (turns : Turns) → state_at (slice_set (replicate n Unknown) 1 Offered) turns ≡ first_states turns
first_table zero h turns = absurd (omega arith)
first_table (suc zero) h turns = absurd (omega arith)
first_table (suc (suc n)) h [] = refl
first_table (suc (suc n)) h (turn ∷ turns) = later n (code (turn ∷ turns)) (below_root turn turns)

pub room_fits : (share : ℕ) → share ≤ 16 → (2 ≤ 1 * 2 ^ (share + 1) % 18446744073709551616) × (1 * 2 ^ (share + 1) % 18446744073709551616 ≡ 2 ^ (share + 1))
room_fits share h =
    let two : 0 < 2 = omega arith in
    let up : share + 1 ≤ 17 = omega (arith, h) in
    let down : 1 ≤ share + 1 = omega arith in
    let top : 2 ^ (share + 1) ≤ 2 ^ 17 = pow-le-pow_right two up in
    let low : 2 ^ 1 ≤ 2 ^ (share + 1) = pow-le-pow_right two down in
    let small : 1 * 2 ^ (share + 1) < 18446744073709551616 = omega (arith, top) in
    let same : 1 * 2 ^ (share + 1) % 18446744073709551616 ≡ 1 * 2 ^ (share + 1) = mod-eq_of_lt small in
    (omega (arith, same, low), omega (arith, same))

-- ---- a changed place
get_same : (table : List StateValue) (k : ℕ) (s : StateValue) → k < length table → slice_get (slice_set table k s) k ≡ Some s
get_same [] k s h = absurd (omega arith)
get_same (x ∷ table) zero s h = refl
get_same (x ∷ table) (suc k) s h = get_same table k s (omega arith)

get_other : (table : List StateValue) (k j : ℕ) (s : StateValue) → ¬ (k ≡ j) → slice_get (slice_set table k s) j ≡ slice_get table j
get_other [] zero j s h = refl
get_other [] (suc k) j s h = refl
get_other (x ∷ table) zero zero s h = absurd (h refl)
get_other (x ∷ table) zero (suc j) s h = refl
get_other (x ∷ table) (suc k) zero s h = refl
get_other (x ∷ table) (suc k) (suc j) s h = get_other table k j s (λ e. h (ap suc e))

pub table_set : (table : List StateValue) (path : Turns) (s : StateValue) → code path < length table → (turns : Turns) → state_at (slice_set table (code path) s) turns ≡ with_state (state_at table) path s turns
table_set table path s h turns =
    elim (turns_cases path turns) as (λ _. state_at (slice_set table (code path) s) turns ≡ with_state (state_at table) path s turns) [
      | inl x ↦
          let here : state_at (slice_set table (code path) s) path ≡ s = ap state_or_unknown (get_same table (code path) s h) in
          let there : with_state (state_at table) path s path ≡ s = state_here (state_at table) path s in
          let P : Turns → Type 0 = λ t. state_at (slice_set table (code path) s) t ≡ with_state (state_at table) path s t in subst P x (here ∙ sym there)
      | inr x ↦
          let apart : ¬ (code path ≡ code turns) = λ e. x.0 (codes_injective path turns e) in
          ap state_or_unknown (get_other table (code path) (code turns) s apart) ∙ sym (x.1 (state_at table) s)
    ]

-- ---- a table seen item by item
pub map_set : {A B : Type 0} (f : A → B) (xs : List A) (k : ℕ) (x : A) → map f (slice_set xs k x) ≡ slice_set (map f xs) k (f x)
map_set f [] zero x = refl
map_set f [] (suc k) x = refl
map_set f (y ∷ xs) zero x = refl
map_set f (y ∷ xs) (suc k) x = ap (λ zs. f y ∷ zs) (map_set f xs k x)

pub map_length : {A B : Type 0} (f : A → B) (xs : List A) → length (map f xs) ≡ length xs
map_length f [] = refl
map_length f (x ∷ xs) = ap suc (map_length f xs)

pub map_replicate : {A B : Type 0} (f : A → B) (n : ℕ) (x : A) → map f (replicate n x) ≡ replicate n (f x)
map_replicate f zero x = refl
map_replicate f (suc n) x = ap (λ zs. f x ∷ zs) (map_replicate f n x)

pub map_found : {A : Type 0} (f : A → StateValue) (xs : List A) (k : ℕ) (x : A) → slice_get xs k ≡ Some x → state_or_unknown (slice_get (map f xs) k) ≡ f x
map_found f [] zero x h = cc
map_found f [] (suc k) x h = cc
map_found f (y ∷ xs) zero x h = ap f (cc h)
map_found f (y ∷ xs) (suc k) x h = map_found f xs k x h

pub map_missing : {A : Type 0} (f : A → StateValue) (xs : List A) (k : ℕ) → slice_get xs k ≡ None → state_or_unknown (slice_get (map f xs) k) ≡ Unknown
map_missing f [] zero h = refl
map_missing f [] (suc k) h = refl
map_missing f (y ∷ xs) zero h = cc
map_missing f (y ∷ xs) (suc k) h = map_missing f xs k h

-- ---- the paths that have not ended
pub set_length : {A : Type 0} (xs : List A) (k : ℕ) (x : A) → length (slice_set xs k x) ≡ length xs
set_length [] zero x = refl
set_length [] (suc k) x = refl
set_length (y ∷ xs) zero x = refl
set_length (y ∷ xs) (suc k) x = ap suc (set_length xs k x)

pub counts_set : (table : List StateValue) (k : ℕ) (s : StateValue) → k < length table → not_ended (slice_set table k s) + may_end (state_or_unknown (slice_get table k)) ≡ not_ended table + may_end s
counts_set [] k s h = absurd (omega arith)
counts_set (x ∷ table) zero s h = omega arith
counts_set (x ∷ table) (suc k) s h = omega (arith, counts_set table k s (omega arith))

may_end_once : (s : StateValue) → may_end s ≤ 1
may_end_once Unknown = omega arith
may_end_once Offered = omega arith
may_end_once (Held by) = omega arith
may_end_once Ended = omega arith

pub counts_within : (table : List StateValue) → not_ended table ≤ length table
counts_within [] = omega arith
counts_within (s ∷ table) = omega (arith, may_end_once s, counts_within table)

pub counts_no_more : (table : List StateValue) (k : ℕ) (s : StateValue) → k < length table → may_end (state_or_unknown (slice_get table k)) ≡ 1 → not_ended (slice_set table k s) ≤ not_ended table
counts_no_more table k s h e = omega (arith, counts_set table k s h, e, may_end_once s)

-- ---- places
pub code_below : (turns : Turns) (share : ℕ) → length turns ≤ share → code turns < 2 ^ (share + 1)
code_below turns share h =
    let up : 2 ^ length turns ≤ 2 ^ share = pow-le-pow_right (omega arith) h in
    let twice : 2 ^ (share + 1) ≡ 2 * 2 ^ share = ap (λ n. 2 ^ n) (omega arith) ∙ double share in
    omega (arith, code_from_above 1 turns, bits_below turns, up, twice)

-- ---- the core that a table shows
pub first_shown : (share n : ℕ) (items : List PathState) (kept : List RecordValue) → items ≡ replicate n path_state.Unknown → kept ≡ [] → 2 ≤ n → core_value (record { share = share; states = map state_value (slice_set items 1 path_state.Offered); least = None; kept = kept }) ≡ first_core share
first_shown share n items kept e none h =
    let seen : map state_value (slice_set items 1 path_state.Offered) ≡ slice_set (replicate n Unknown) 1 Offered =
    map_set state_value items 1 path_state.Offered ∙ ap (λ xs. slice_set xs 1 Offered) (ap (map state_value) e ∙ map_replicate state_value n path_state.Unknown) in
    λ i. record { share = share; states = λ turns. (ap (λ xs. state_at xs turns) seen ∙ first_table n h turns) i; least = None; kept = none i }

pub first_room : (share n cap len : ℕ) (items : List PathState) → items ≡ replicate n path_state.Unknown → n ≡ 2 ^ (share + 1) → share ≤ 16 → cap ≡ n → len ≡ 0 → HasTableRoom share (map state_value (slice_set items 1 path_state.Offered)) (cap - len)
first_room share n cap len items e g h f k =
    let states = map state_value (slice_set items 1 path_state.Offered) in
    let long : length states ≡ n = map_length state_value (slice_set items 1 path_state.Offered) ∙ (set_length items 1 path_state.Offered ∙ (ap length e ∙ length-replicate n path_state.Unknown)) in
    record { small = h; places = long ∙ g; records = omega (arith, counts_within states, long, f, k) }

pub put_shown : (share k : ℕ) (items : List PathState) (least : Option ℕ) (kept : List RecordValue) (table : CoreTable) (path : Turns) (s : PathState) → record { share = share; states = map state_value items; least = least; kept = kept } ≡ table → k ≡ code path → code path < length (map state_value items) → core_value (record { share = share; states = map state_value (slice_set items k s); least = least; kept = kept }) ≡ record (core_value table) { states = with_state (core_value table).states path (state_value s) }
put_shown share k items least kept table path s e at h =
    let P : CoreTable → Type 0 = λ t. core_value (record { share = share; states = map state_value (slice_set items k s); least = least; kept = kept }) ≡ record (core_value t) { states = with_state (core_value t).states path (state_value s) } in
    let seen : map state_value (slice_set items k s) ≡ slice_set (map state_value items) (code path) (state_value s) =
    map_set state_value items k s ∙ ap (λ n. slice_set (map state_value items) n (state_value s)) at in
    subst P e (λ i. record { share = share; states = λ turns. (ap (λ xs. state_at xs turns) seen ∙ table_set (map state_value items) path (state_value s) h turns) i; least = least; kept = kept })

pub put_room : (share k room : ℕ) (items : List PathState) (path : Turns) (s : PathState) → HasTableRoom share (map state_value items) room → k ≡ code path → code path < length (map state_value items) → may_end (state_at (map state_value items) path) ≡ 1 → HasTableRoom share (map state_value (slice_set items k s)) room
put_room share k room items path s has at h once =
    let seen : map state_value (slice_set items k s) ≡ slice_set (map state_value items) (code path) (state_value s) =
    map_set state_value items k s ∙ ap (λ n. slice_set (map state_value items) n (state_value s)) at in
    let P : List StateValue → Type 0 = λ xs. HasTableRoom share xs room in
    subst P (sym seen) (record {
      small = has.small;
      places = set_length (map state_value items) (code path) (state_value s) ∙ has.places;
      records = omega (arith, counts_no_more (map state_value items) (code path) (state_value s) h once, has.records);
    })

pub place_known : (share n room : ℕ) (states : List StateValue) (path : Turns) → HasTableRoom share states room → length path ≤ share → code path < length states
place_known share n room states path has h = omega (arith, code_below path share h, has.places)

pub known_place : (states : List StateValue) (k : ℕ) → ¬ (state_or_unknown (slice_get states k) ≡ Unknown) → k < length states
known_place [] zero h = absurd (h refl)
known_place [] (suc k) h = absurd (h refl)
known_place (s ∷ states) zero h = omega arith
known_place (s ∷ states) (suc k) h = omega (arith, known_place states k h)

pub counts_one : (states : List StateValue) (k : ℕ) → k < length states → may_end (state_or_unknown (slice_get states k)) ≤ not_ended states
counts_one [] k h = absurd (omega arith)
counts_one (s ∷ states) zero h = omega arith
counts_one (s ∷ states) (suc k) h = omega (arith, counts_one states k (omega arith))

-- ---- a path that ends
pub keep_shown : (share k : ℕ) (items : List PathState) (least : Option ℕ) (kept : List RecordValue) (record' : RecordValue) (table : CoreTable) (path : Turns) → record { share = share; states = map state_value items; least = least; kept = kept } ≡ table → k ≡ code path → code path < length (map state_value items) → core_value (record { share = share; states = map state_value (slice_set items k path_state.Ended); least = least; kept = kept ++ record' ∷ [] }) ≡ record (core_value table) { states = with_state (core_value table).states path Ended; kept = table.kept ++ record' ∷ [] }
keep_shown share k items least kept record' table path e at h =
    let P : CoreTable → Type 0 = λ t. core_value (record { share = share; states = map state_value (slice_set items k path_state.Ended); least = least; kept = kept ++ record' ∷ [] }) ≡ record (core_value t) { states = with_state (core_value t).states path Ended; kept = t.kept ++ record' ∷ [] } in
    let seen : map state_value (slice_set items k path_state.Ended) ≡ slice_set (map state_value items) (code path) Ended =
    map_set state_value items k path_state.Ended ∙ ap (λ n. slice_set (map state_value items) n Ended) at in
    subst P e (λ i. record { share = share; states = λ turns. (ap (λ xs. state_at xs turns) seen ∙ table_set (map state_value items) path Ended h turns) i; least = least; kept = kept ++ record' ∷ [] })

pub keep_room : (share k cap len more : ℕ) (items : List PathState) (path : Turns) → HasTableRoom share (map state_value items) (cap - len) → k ≡ code path → code path < length (map state_value items) → may_end (state_at (map state_value items) path) ≡ 1 → more ≡ len + 1 → HasTableRoom share (map state_value (slice_set items k path_state.Ended)) (cap - more)
keep_room share k cap len more items path has at h once e =
    let states = map state_value items in
    let seen : map state_value (slice_set items k path_state.Ended) ≡ slice_set states (code path) Ended =
    map_set state_value items k path_state.Ended ∙ ap (λ n. slice_set states n Ended) at in
    let P : List StateValue → Type 0 = λ xs. HasTableRoom share xs (cap - more) in
    subst P (sym seen) (record {
      small = has.small;
      places = set_length states (code path) Ended ∙ has.places;
      records = omega (arith, counts_set states (code path) Ended h, once, has.records, e);
    })
