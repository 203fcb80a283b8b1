-- What the changes of a search keep.
use Rattle.std.proofs.Common.{◌≡◌, ℕ, ◌+◌, ◌<◌, ◌≤◌, Bool, true, false, List, [], ◌∷◌, ◌++◌, length, reverse, Option, None, Some, set, refl, sym, ap, subst, ◌∙◌, arith, length-set}
use Rattle.std.proofs.lemmas.List.{reverse-append}
use Rattle.std.proofs.lemmas.List.Elements.{All-push}
use Rattle.std.specs.List.{All}
use Rattle.ground_solver.specs.Numbered.{Clauses, IsNodeWithin}
use Rattle.ground_solver.specs.Standings.{IsReasonFor, IsRefutedAt, value_at}
use Rattle.ground_solver.specs.Underway.{path_of, AreBefore, IsClosedHere, AreFixed, IsUnderway, IsEnding, free, work, most, left_by}
use Rattle.ground_solver.specs.declared.signed.Signed.{Signed}
use Rattle.ground_solver.specs.declared.signed.Step.TheVariants.{Branch, Leaf}
use Rattle.ground_solver.specs.declared.search.Fixed.{Fixed}
use Rattle.ground_solver.specs.declared.search.Fixed.TheVariants.{Tried, Forced, Refuted}
use Rattle.ground_solver.specs.declared.search.Search.{Search}
use Rattle.ground_solver.proofs.Fixing.{fixed_more, fixed_less, fixed_other, free_fixed, free_set, free_some}
use Rattle.ground_solver.proofs.Counting.{most_positive, less_tried, less_forced, less_refuted, left_cleared, left_cleared_refuted, left_turned}
use Rattle.ground_solver.proofs.Branches.{leaf_closes, turn_back, close_forced, close_refuted, try_next, force_true, force_false}

turned : (xs ys : List Fixed) (f : Fixed) → ys ≡ xs ++ f ∷ [] → reverse ys ≡ f ∷ reverse xs
turned xs ys f e = ap reverse e ∙ reverse-append xs (f ∷ [])

-- one more atom has a value
grown : (clauses : Clauses) (n : ℕ) (s t : Search) (a : ℕ) (b : Bool) (f : Fixed) → IsUnderway clauses n s → t.values.items ≡ set s.values.items a (Some b) → t.trail.items ≡ s.trail.items ++ f ∷ [] → path_of (f ∷ reverse s.trail.items) ≡ (a, b) ∷ path_of (reverse s.trail.items) → All (IsNodeWithin n) t.steps.items → AreBefore clauses (f ∷ reverse s.trail.items) t.steps.items → IsUnderway clauses n t
grown clauses n s t a b f underway values trail value within so_far =
    let branch = turned s.trail.items t.trail.items f trail in
    let path = path_of (reverse s.trail.items) in
    let fixed : AreFixed (set s.values.items a (Some b)) ((a, b) ∷ path) = fixed_more s.values.items path a b underway.fixed in
    let on_path : path_of (reverse t.trail.items) ≡ (a, b) ∷ path = ap path_of branch ∙ value in
    record {
      size = ap length values ∙ (length-set s.values.items a (Some b) ∙ underway.size);
      bounded = underway.bounded;
      fixed = subst (λ (vs : List (Option Bool)). AreFixed vs (path_of (reverse t.trail.items))) (sym values) (subst (λ (p : List (ℕ × Bool)). AreFixed (set s.values.items a (Some b)) p) (sym on_path) fixed);
      within = within;
      so_far = subst (λ (xs : List Fixed). AreBefore clauses xs t.steps.items) (sym branch) so_far;
    }

pub tried : (clauses : Clauses) (n : ℕ) (s t : Search) (a from : ℕ) → t.values.items ≡ set s.values.items a (Some true) → t.trail.items ≡ s.trail.items ++ Tried a from ∷ [] → t.steps.items ≡ s.steps.items ++ Branch a ∷ [] → IsUnderway clauses n s → a < n → IsUnderway clauses n t
tried clauses n s t a from values trail steps underway below =
    let branch = reverse s.trail.items in
    let within : All (IsNodeWithin n) (s.steps.items ++ Branch a ∷ []) = All-push (IsNodeWithin n) s.steps.items (Branch a) underway.within below in
    let before : AreBefore clauses (Tried a from ∷ branch) (s.steps.items ++ Branch a ∷ []) = try_next clauses branch s.steps.items a from underway.so_far in
    grown clauses n s t a true (Tried a from) underway values trail refl (subst (All (IsNodeWithin n)) (sym steps) within) (subst (AreBefore clauses (Tried a from ∷ branch)) (sym steps) before)

pub forced : (clauses : Clauses) (n : ℕ) (s t : Search) (l : Signed) (by : ℕ) → l.positive ≡ true → t.values.items ≡ set s.values.items l.atom (Some l.positive) → t.trail.items ≡ s.trail.items ++ Forced l.atom by ∷ [] → t.steps.items ≡ s.steps.items ++ Branch l.atom ∷ [] → IsUnderway clauses n s → l.atom < n → IsReasonFor clauses s.values.items l by → IsUnderway clauses n t
forced clauses n s t l by positive values trail steps underway below reason =
    let branch = reverse s.trail.items in
    let within : All (IsNodeWithin n) (s.steps.items ++ Branch l.atom ∷ []) = All-push (IsNodeWithin n) s.steps.items (Branch l.atom) underway.within below in
    let before : AreBefore clauses (Forced l.atom by ∷ branch) (s.steps.items ++ Branch l.atom ∷ []) = force_true clauses s.values.items branch s.steps.items l by positive underway.fixed reason underway.so_far in
    let is_true : t.values.items ≡ set s.values.items l.atom (Some true) = values ∙ ap (λ (b : Bool). set s.values.items l.atom (Some b)) positive in
    grown clauses n s t l.atom true (Forced l.atom by) underway is_true trail refl (subst (All (IsNodeWithin n)) (sym steps) within) (subst (AreBefore clauses (Forced l.atom by ∷ branch)) (sym steps) before)

pub excluded : (clauses : Clauses) (n : ℕ) (s t : Search) (l : Signed) (by : ℕ) → l.positive ≡ false → t.values.items ≡ set s.values.items l.atom (Some l.positive) → t.trail.items ≡ s.trail.items ++ Refuted l.atom ∷ [] → t.steps.items ≡ (s.steps.items ++ Branch l.atom ∷ []) ++ Leaf by ∷ [] → IsUnderway clauses n s → l.atom < n → IsReasonFor clauses s.values.items l by → IsUnderway clauses n t
excluded clauses n s t l by negative values trail steps underway below reason =
    let branch = reverse s.trail.items in
    let within : All (IsNodeWithin n) (s.steps.items ++ Branch l.atom ∷ []) = All-push (IsNodeWithin n) s.steps.items (Branch l.atom) underway.within below in
    let both : All (IsNodeWithin n) ((s.steps.items ++ Branch l.atom ∷ []) ++ Leaf by ∷ []) = All-push (IsNodeWithin n) (s.steps.items ++ Branch l.atom ∷ []) (Leaf by) within tt in
    let before : AreBefore clauses (Refuted l.atom ∷ branch) ((s.steps.items ++ Branch l.atom ∷ []) ++ Leaf by ∷ []) = force_false clauses s.values.items branch s.steps.items l by negative underway.fixed reason underway.so_far in
    let is_false : t.values.items ≡ set s.values.items l.atom (Some false) = values ∙ ap (λ (b : Bool). set s.values.items l.atom (Some b)) negative in
    grown clauses n s t l.atom false (Refuted l.atom) underway is_false trail refl (subst (All (IsNodeWithin n)) (sym steps) both) (subst (AreBefore clauses (Refuted l.atom ∷ branch)) (sym steps) before)

-- less is left to do
fewer : (sv tv : List (Option Bool)) (a : ℕ) (b : Bool) → tv ≡ set sv a (Some b) → a < length sv → value_at sv a ≡ None → free tv + 1 ≡ free sv
fewer sv tv a b values below none = ap (λ (v : List (Option Bool)). free v + 1) values ∙ free_fixed sv a b below none

pub work_tried : (sv tv : List (Option Bool)) (st tr : List Fixed) (a from : ℕ) (b : Bool) → tv ≡ set sv a (Some b) → tr ≡ st ++ Tried a from ∷ [] → a < length sv → value_at sv a ≡ None → work tv tr < work sv st
work_tried sv tv st tr a from b values trail below none =
    subst (λ (xs : List Fixed). most (free tv) + left_by (free tv) xs < work sv st) (sym (turned st tr (Tried a from) trail)) (less_tried (free sv) (free tv) a from (reverse st) (fewer sv tv a b values below none))

pub work_forced : (sv tv : List (Option Bool)) (st tr : List Fixed) (a by : ℕ) (b : Bool) → tv ≡ set sv a (Some b) → tr ≡ st ++ Forced a by ∷ [] → a < length sv → value_at sv a ≡ None → work tv tr < work sv st
work_forced sv tv st tr a by b values trail below none =
    subst (λ (xs : List Fixed). most (free tv) + left_by (free tv) xs < work sv st) (sym (turned st tr (Forced a by) trail)) (less_forced (free sv) (free tv) a by (reverse st) (fewer sv tv a b values below none))

pub work_excluded : (sv tv : List (Option Bool)) (st tr : List Fixed) (a : ℕ) (b : Bool) → tv ≡ set sv a (Some b) → tr ≡ st ++ Refuted a ∷ [] → a < length sv → value_at sv a ≡ None → work tv tr < work sv st
work_excluded sv tv st tr a b values trail below none =
    subst (λ (xs : List Fixed). most (free tv) + left_by (free tv) xs < work sv st) (sym (turned st tr (Refuted a) trail)) (less_refuted (free sv) (free tv) a (reverse st) (fewer sv tv a b values below none))

-- the branch ends
pub ends : (clauses : Clauses) (n : ℕ) (s t : Search) (by : ℕ) → t.values.items ≡ s.values.items → t.trail.items ≡ s.trail.items → t.steps.items ≡ s.steps.items ++ Leaf by ∷ [] → IsUnderway clauses n s → IsRefutedAt clauses s.values.items by → IsEnding clauses n t
ends clauses n s t by values trail steps underway refuted =
    let branch = reverse s.trail.items in
    let within : All (IsNodeWithin n) (s.steps.items ++ Leaf by ∷ []) = All-push (IsNodeWithin n) s.steps.items (Leaf by) underway.within tt in
    let closed : IsClosedHere clauses branch (s.steps.items ++ Leaf by ∷ []) = leaf_closes clauses branch s.steps.items s.values.items by underway.so_far underway.fixed refuted in
    let same : reverse t.trail.items ≡ branch = ap reverse trail in
    record {
      size = ap length values ∙ underway.size;
      bounded = underway.bounded;
      fixed = subst (λ (vs : List (Option Bool)). AreFixed vs (path_of (reverse t.trail.items))) (sym values) (subst (λ (xs : List Fixed). AreFixed s.values.items (path_of xs)) (sym same) underway.fixed);
      within = subst (All (IsNodeWithin n)) (sym steps) within;
      closed = subst (λ (xs : List Fixed). IsClosedHere clauses xs t.steps.items) (sym same) (subst (IsClosedHere clauses branch) (sym steps) closed);
    }

pub work_ends : (values : List (Option Bool)) (trail : List Fixed) → left_by (free values) (reverse trail) < work values trail
work_ends values trail = omega (arith, most_positive (free values))

-- the end goes back over an atom
cleared : (clauses : Clauses) (n : ℕ) (s t : Search) (a : ℕ) (b : Bool) (f : Fixed) → IsEnding clauses n s → s.trail.items ≡ t.trail.items ++ f ∷ [] → t.values.items ≡ set s.values.items a None → path_of (f ∷ reverse t.trail.items) ≡ (a, b) ∷ path_of (reverse t.trail.items) → All (IsNodeWithin n) t.steps.items → IsClosedHere clauses (reverse t.trail.items) t.steps.items → IsEnding clauses n t
cleared clauses n s t a b f ending trail values value within closed =
    let path = path_of (reverse t.trail.items) in
    let on_path : path_of (reverse s.trail.items) ≡ (a, b) ∷ path = ap path_of (turned t.trail.items s.trail.items f trail) ∙ value in
    let fixed : AreFixed (set s.values.items a None) path = fixed_less s.values.items path a b (subst (AreFixed s.values.items) on_path ending.fixed) in
    record {
      size = ap length values ∙ (length-set s.values.items a None ∙ ending.size);
      bounded = ending.bounded;
      fixed = subst (λ (vs : List (Option Bool)). AreFixed vs path) (sym values) fixed;
      within = within;
      closed = closed;
    }

pub back_forced : (clauses : Clauses) (n : ℕ) (s t : Search) (a by : ℕ) → s.trail.items ≡ t.trail.items ++ Forced a by ∷ [] → t.values.items ≡ set s.values.items a None → t.steps.items ≡ s.steps.items ++ Leaf by ∷ [] → IsEnding clauses n s → IsEnding clauses n t
back_forced clauses n s t a by trail values steps ending =
    let rest = reverse t.trail.items in
    let within : All (IsNodeWithin n) (s.steps.items ++ Leaf by ∷ []) = All-push (IsNodeWithin n) s.steps.items (Leaf by) ending.within tt in
    let here : IsClosedHere clauses (Forced a by ∷ rest) s.steps.items = subst (λ (xs : List Fixed). IsClosedHere clauses xs s.steps.items) (turned t.trail.items s.trail.items (Forced a by) trail) ending.closed in
    let closed : IsClosedHere clauses rest (s.steps.items ++ Leaf by ∷ []) = close_forced clauses rest s.steps.items a by here in
    cleared clauses n s t a true (Forced a by) ending trail values refl (subst (All (IsNodeWithin n)) (sym steps) within) (subst (IsClosedHere clauses rest) (sym steps) closed)

pub back_refuted : (clauses : Clauses) (n : ℕ) (s t : Search) (a : ℕ) → s.trail.items ≡ t.trail.items ++ Refuted a ∷ [] → t.values.items ≡ set s.values.items a None → t.steps.items ≡ s.steps.items → IsEnding clauses n s → IsEnding clauses n t
back_refuted clauses n s t a trail values steps ending =
    let rest = reverse t.trail.items in
    let here : IsClosedHere clauses (Refuted a ∷ rest) s.steps.items = subst (λ (xs : List Fixed). IsClosedHere clauses xs s.steps.items) (turned t.trail.items s.trail.items (Refuted a) trail) ending.closed in
    let closed : IsClosedHere clauses rest s.steps.items = close_refuted clauses rest s.steps.items a here in
    cleared clauses n s t a false (Refuted a) ending trail values refl (subst (All (IsNodeWithin n)) (sym steps) ending.within) (subst (IsClosedHere clauses rest) (sym steps) closed)

pub turns_back : (clauses : Clauses) (n : ℕ) (s t : Search) (a from : ℕ) (earlier : List Fixed) → s.trail.items ≡ earlier ++ Tried a from ∷ [] → t.trail.items ≡ earlier ++ Refuted a ∷ [] → t.values.items ≡ set s.values.items a (Some false) → t.steps.items ≡ s.steps.items → IsEnding clauses n s → IsUnderway clauses n t
turns_back clauses n s t a from earlier trail after values steps ending =
    let rest = reverse earlier in
    let was = turned earlier s.trail.items (Tried a from) trail in
    let is = turned earlier t.trail.items (Refuted a) after in
    let here : IsClosedHere clauses (Tried a from ∷ rest) s.steps.items = subst (λ (xs : List Fixed). IsClosedHere clauses xs s.steps.items) was ending.closed in
    let before : AreBefore clauses (Refuted a ∷ rest) s.steps.items = turn_back clauses rest s.steps.items a from here in
    let on_path : path_of (reverse s.trail.items) ≡ (a, true) ∷ path_of rest = ap path_of was in
    let fixed : AreFixed (set s.values.items a (Some false)) ((a, false) ∷ path_of rest) = fixed_other s.values.items (path_of rest) a true false (subst (AreFixed s.values.items) on_path ending.fixed) in
    let now_on : path_of (reverse t.trail.items) ≡ (a, false) ∷ path_of rest = ap path_of is in
    record {
      size = ap length values ∙ (length-set s.values.items a (Some false) ∙ ending.size);
      bounded = ending.bounded;
      fixed = subst (λ (vs : List (Option Bool)). AreFixed vs (path_of (reverse t.trail.items))) (sym values) (subst (AreFixed (set s.values.items a (Some false))) (sym now_on) fixed);
      within = subst (All (IsNodeWithin n)) (sym steps) ending.within;
      so_far = subst (λ (xs : List Fixed). AreBefore clauses xs t.steps.items) (sym is) (subst (AreBefore clauses (Refuted a ∷ rest)) (sym steps) before);
    }

pub work_back_forced : (sv tv : List (Option Bool)) (st tr : List Fixed) (a by : ℕ) → st ≡ tr ++ Forced a by ∷ [] → tv ≡ set sv a None → left_by (free tv) (reverse tr) ≤ left_by (free sv) (reverse st)
work_back_forced sv tv st tr a by trail values =
    let few : free tv ≤ free sv + 1 = subst (λ (vs : List (Option Bool)). free vs ≤ free sv + 1) (sym values) (free_set sv a) in
    subst (λ (xs : List Fixed). left_by (free tv) (reverse tr) ≤ left_by (free sv) xs) (sym (turned tr st (Forced a by) trail)) (left_cleared (free sv) (free tv) a by (reverse tr) few)

pub work_back_refuted : (sv tv : List (Option Bool)) (st tr : List Fixed) (a : ℕ) → st ≡ tr ++ Refuted a ∷ [] → tv ≡ set sv a None → left_by (free tv) (reverse tr) ≤ left_by (free sv) (reverse st)
work_back_refuted sv tv st tr a trail values =
    let few : free tv ≤ free sv + 1 = subst (λ (vs : List (Option Bool)). free vs ≤ free sv + 1) (sym values) (free_set sv a) in
    subst (λ (xs : List Fixed). left_by (free tv) (reverse tr) ≤ left_by (free sv) xs) (sym (turned tr st (Refuted a) trail)) (left_cleared_refuted (free sv) (free tv) a (reverse tr) few)

pub work_turned : (sv tv : List (Option Bool)) (st tr earlier : List Fixed) (a from : ℕ) → st ≡ earlier ++ Tried a from ∷ [] → tr ≡ earlier ++ Refuted a ∷ [] → tv ≡ set sv a (Some false) → work tv tr ≤ left_by (free sv) (reverse st)
work_turned sv tv st tr earlier a from trail after values =
    let few : free tv ≤ free sv = subst (λ (vs : List (Option Bool)). free vs ≤ free sv) (sym values) (free_some sv a false) in
    let rest = reverse earlier in
    subst (λ (xs : List Fixed). work tv tr ≤ left_by (free sv) xs) (sym (turned earlier st (Tried a from) trail)) (subst (λ (xs : List Fixed). most (free tv) + left_by (free tv) xs ≤ left_by (free sv) (Tried a from ∷ rest)) (sym (turned earlier tr (Refuted a) after)) (left_turned (free sv) (free tv) a from rest few))
