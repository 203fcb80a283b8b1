-- The right branches that wait beside the left ones of a branch, the nearest first.
use Rattle.std.proofs.Common.{◌≡◌, ◌≤◌, true, false, List, [], ◌∷◌, ◌++◌, length, append-nil, append_assoc, refl, sym, subst, ap, ◌∙◌, arith}
use Rattle.me_terms.specs.Values.{ProblemValue, EntryValue, SplitLeft}
use Rattle.me_terms.specs.Context.{Context, add}
use Rattle.me_terms.specs.declared.bounds.Bounds.{Bounds}
use Rattle.branch_core.specs.Paths.{Turns, IsLeftOf}
use Rattle.branch_core.specs.SearchTree.{SearchTree, IsSearchTree}
use Rattle.branch_walk.specs.Jobs.{turn_of, turns_taken}
use Rattle.branch_walk.specs.Turning.{AreNotLeft, IsAllBack, IsBackAtLeft, beside}
use Rattle.branch_walk.proofs.Ends.{longer, same_before, same_last}
use Rattle.branch_walk.proofs.LeftRight.{below_left, children_apart}
use Rattle.branch_walk.proofs.Places.{Branch}
use Rattle.branch_walk.proofs.TurnsTaken.{turns_add, turns_by}

pub data Waiting (problem : ProblemValue) (bounds : Bounds) (root : Context) : Context → List Branch → Type 0 where
  at_root : {context : Context} {waiting : List Branch} → context ≡ root → waiting ≡ [] → Waiting problem bounds root context waiting
  beside_none : {context before : Context} {waiting : List Branch} (e : EntryValue) → context ≡ add before e → (e.reason ≡ SplitLeft → ⊥) → Waiting problem bounds root before waiting → Waiting problem bounds root context waiting
  beside_left : {context before : Context} {right : SearchTree} {later waiting : List Branch} (e : EntryValue) → context ≡ add before e → e.reason ≡ SplitLeft → waiting ≡ record { turns = turns_taken before ++ true ∷ []; tree = right } ∷ later → IsSearchTree problem bounds (add before (beside e)) right → Waiting problem bounds root before later → Waiting problem bounds root context waiting

-- all that waits stands right of these turns
abbrev pub AllRight : Turns → List Branch → Type 0
AllRight turns [] = Unit {0}
AllRight turns (b ∷ bs) = IsLeftOf turns b.turns × AllRight turns bs

module _ (problem : ProblemValue) (bounds : Bounds) (root : Context) where
  -- what stands below the root begins with it
  pub begins : {context : Context} {waiting : List Branch} → Waiting problem bounds root context waiting → (more : Context) × (context ≡ root ++ more)
  begins (at_root is none) = ([], is ∙ sym (append-nil root))
  begins (beside_none {before = before} e is why later) =
      let more = begins later in
      (more.0 ++ e ∷ [], is ∙ (ap (λ (c : Context). add c e) more.1 ∙ append_assoc root more.0 (e ∷ [])))
  begins (beside_left {before = before} e is why first tree later) =
      let more = begins later in
      (more.0 ++ e ∷ [], is ∙ (ap (λ (c : Context). add c e) more.1 ∙ append_assoc root more.0 (e ∷ [])))

  pub long : {context : Context} {waiting : List Branch} → Waiting problem bounds root context waiting → length root ≤ length context
  long (at_root is none) = let many = ap length is in omega (arith, many)
  long (beside_none {before = before} e is why later) =
      let many = ap length is in let more = longer before e in let below = long later in omega (arith, many, more, below)
  long (beside_left {before = before} e is why first tree later) =
      let many = ap length is in let more = longer before e in let below = long later in omega (arith, many, more, below)

  no_root : (context before : Context) (e : EntryValue) → context ≡ root → context ≡ add before e → length root ≤ length before → ⊥
  no_root context before e is x le =
      let many = ap length is in let more = ap length x in let longer_by = longer before e in omega (arith, many, more, longer_by, le)

  -- an entry that begins no left branch is taken off
  taken : {context : Context} {waiting : List Branch} → Waiting problem bounds root context waiting → (before : Context) (e : EntryValue) → context ≡ add before e → length root ≤ length before → (e.reason ≡ SplitLeft → ⊥) → Waiting problem bounds root before waiting
  taken {context} (at_root is none) before e x le h = absurd (no_root context before e is x le)
  taken {waiting = waiting} (beside_none {before = b} f is why later) before e x le h =
      let P : Context → Type 0 = λ c. Waiting problem bounds root c waiting in subst P (same_before b before f e (sym is ∙ x)) later
  taken (beside_left {before = b} f is why first tree later) before e x le h =
      let same = same_last b before f e (sym is ∙ x) in
      absurd (h (sym (ap (λ (y : EntryValue). y.reason) same) ∙ why))

  -- and so are all of a list
  pub all_taken : (later before : Context) (waiting : List Branch) → Waiting problem bounds root (before ++ later) waiting → length root ≤ length before → AreNotLeft later → Waiting problem bounds root before waiting
  all_taken [] before waiting h le none =
      let P : Context → Type 0 = λ c. Waiting problem bounds root c waiting in subst P (append-nil before) h
  all_taken (e ∷ es) before waiting h le none =
      let P : Context → Type 0 = λ c. Waiting problem bounds root c waiting in
      let more = longer before e in
      let shorter = all_taken es (add before e) waiting (subst P (sym (append_assoc before (e ∷ []) es)) h) (omega (arith, more, le)) none.1 in
      taken shorter before e refl le none.0

  -- the branch that waits beside the last left one, and those that wait behind it
  pub record WaitsBeside (before : Context) (e : EntryValue) (waiting : List Branch) : Type 0 where
    pub right : SearchTree
    pub later : List Branch
    pub first : waiting ≡ record { turns = turns_taken before ++ true ∷ []; tree = right } ∷ later
    pub tree : IsSearchTree problem bounds (add before (beside e)) right
    pub waits : Waiting problem bounds root before later

  waits_last : {context : Context} {waiting : List Branch} → Waiting problem bounds root context waiting → (before : Context) (e : EntryValue) → context ≡ add before e → length root ≤ length before → e.reason ≡ SplitLeft → WaitsBeside before e waiting
  waits_last {context} (at_root is none) before e x le h = absurd (no_root context before e is x le)
  waits_last (beside_none {before = b} f is why later) before e x le h =
      let same = same_last b before f e (sym is ∙ x) in
      absurd (why (ap (λ (y : EntryValue). y.reason) same ∙ h))
  waits_last {waiting = waiting} (beside_left {before = b} {right = right} {later = rest} f is why first tree later) before e x le h =
      let here : WaitsBeside b f waiting = record { right = right; later = rest; first = first; tree = tree; waits = later } in
      let one = same_before b before f e (sym is ∙ x) in
      let two = same_last b before f e (sym is ∙ x) in
      let P : Context × EntryValue → Type 0 = λ z. WaitsBeside z.0 z.1 waiting in
      subst P (λ i. (one i, two i)) here

  pub waits_beside : (old new : Context) (waiting : List Branch) → Waiting problem bounds root old waiting → (t : IsBackAtLeft (length root) old new) → WaitsBeside t.before t.left waiting
  waits_beside old new waiting h t =
      let P : Context → Type 0 = λ c. Waiting problem bounds root c waiting in
      let was : old ≡ add t.before t.left ++ t.later = t.was ∙ sym (append_assoc t.before (t.left ∷ []) t.later) in
      let more = longer t.before t.left in
      let above = t.above in
      waits_last (all_taken t.later (add t.before t.left) waiting (subst P was h) (omega (arith, more, above)) t.last) t.before t.left refl t.above t.is_left

  -- where none is left, nothing waits
  nothing_waits : {context : Context} {waiting : List Branch} → Waiting problem bounds root context waiting → length context ≡ length root → waiting ≡ []
  nothing_waits (at_root is none) h = none
  nothing_waits (beside_none {before = before} e is why later) h =
      let many = ap length is in let more = longer before e in let below = long later in absurd (omega (arith, many, more, below, h))
  nothing_waits (beside_left {before = before} e is why first tree later) h =
      let many = ap length is in let more = longer before e in let below = long later in absurd (omega (arith, many, more, below, h))

  pub back_at_root : (old new : Context) (waiting : List Branch) → Waiting problem bounds root old waiting → (b : IsAllBack (length root) old new) → (waiting ≡ []) × (new ≡ root)
  back_at_root old new waiting h b =
      let P : Context → Type 0 = λ c. Waiting problem bounds root c waiting in
      let same = b.at_base in
      let there = all_taken b.later new waiting (subst P b.was h) (omega (arith, same)) b.none in
      (nothing_waits there same, at_base there same)
    where
      at_base : {context : Context} → Waiting problem bounds root context waiting → length context ≡ length root → context ≡ root
      at_base (at_root is none) e = is
      at_base (beside_none {before = before} f is why later) e =
          let many = ap length is in let more = longer before f in let below = long later in absurd (omega (arith, many, more, below, e))
      at_base (beside_left {before = before} f is why first tree later) e =
          let many = ap length is in let more = longer before f in let below = long later in absurd (omega (arith, many, more, below, e))

  all_below : (turns more : Turns) (waiting : List Branch) → AllRight turns waiting → AllRight (turns ++ more) waiting
  all_below turns more [] h = tt
  all_below turns more (b ∷ bs) h = (below_left turns more b.turns h.0, all_below turns more bs h.1)

  all_at : (turns now : Turns) (waiting : List Branch) → now ≡ turns → AllRight turns waiting → AllRight now waiting
  all_at turns now waiting same h = let P : Turns → Type 0 = λ t. AllRight t waiting in subst P (sym same) h

  -- what waits stands right of where the walk is
  pub wait_right : {context : Context} {waiting : List Branch} → Waiting problem bounds root context waiting → AllRight (turns_taken context) waiting
  wait_right {context} (at_root is none) =
      let P : List Branch → Type 0 = λ bs. AllRight (turns_taken context) bs in subst P (sym none) tt
  wait_right {context} {waiting} (beside_none {before = before} e is why later) =
      all_at (turns_taken before ++ turn_of e.reason) (turns_taken context) waiting (ap turns_taken is ∙ turns_add before e) (all_below (turns_taken before) (turn_of e.reason) waiting (wait_right later))
  wait_right {context} {waiting} (beside_left {before = before} {right = right} {later = rest} e is why first tree later) =
      let turns : Turns = turns_taken before ++ false ∷ [] in
      let all : AllRight turns (record { turns = turns_taken before ++ true ∷ []; tree = right } ∷ rest) =
      (children_apart (turns_taken before) [] [], all_below (turns_taken before) (false ∷ []) rest (wait_right later)) in
      let P : List Branch → Type 0 = λ bs. AllRight turns bs in
      all_at turns (turns_taken context) waiting (ap turns_taken is ∙ turns_by before e SplitLeft why) (subst P (sym first) all)
