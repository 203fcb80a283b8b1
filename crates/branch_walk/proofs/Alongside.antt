-- A store along a branch, as the branch grows and shrinks.
use Rattle.std.proofs.Common.{◌≡◌, ℕ, zero, suc, ◌+◌, ◌-◌, ◌<◌, ◌≤◌, Bool, true, false, [], ◌∷◌, ◌++◌, append_assoc, length, take, refl, sym, subst, ap, ◌∙◌, arith}
use Rattle.std.specs.Prelude.{Result, Ok, Err, OnOk, OnErr}
use Rattle.std.proofs.lemmas.List.{take-take, take_all, take-append-le, length-take-le}
use Rattle.me_terms.specs.Measures.{complement}
use Rattle.me_terms.specs.Values.{ProblemValue, EntryValue, SplitLeft, SplitRight}
use Rattle.me_terms.specs.Context.{Context, add}
use Rattle.me_terms.specs.Next.{NextValue, IsNext}
use Rattle.me_terms.specs.Grown.{IsGrown, start, split_entry, started, asserted, went_left, went_right}
use Rattle.me_terms.specs.declared.bounds.Bounds.{Bounds}
use Rattle.candidate_store.specs.Kept.{StoreValue, StandsFor}
use Rattle.candidate_store.proofs.Stored.{front_more}
use Rattle.candidate_store.proofs.Wholes.{entry_at}
use Rattle.branch_walk.specs.Along.{BranchValue, IsAlong, IsOf, HaveOneSearch}
use Rattle.branch_walk.specs.Turning.{IsAllBack, IsBackAtLeft}
use Rattle.branch_walk.proofs.Ends.{longer}
use Rattle.branch_walk.proofs.Subtrees.{grown_some}

-- ---- the entries for which a store stands
module _ (problem : ProblemValue) (bounds : Bounds) (context : Context) (s : StoreValue) where
  pub along_count : IsAlong problem bounds context s → length (take (length s.frames) context) ≡ length s.frames
  along_count h = sym h.kept.frames.each

  pub along_some : IsAlong problem bounds context s → 1 ≤ length s.frames
  along_some h = let some = h.kept.some in let count = along_count h in omega (arith, some, count)

  front_few : (n : ℕ) (xs : Context) → length (take n xs) ≡ n → n ≤ length xs
  front_few zero xs h = omega arith
  front_few (suc n) [] h = absurd (cc h)
  front_few (suc n) (x ∷ xs) h = let later = front_few n xs (omega (arith, h)) in omega (arith, later)

  pub along_within : IsAlong problem bounds context s → length s.frames ≤ length context
  along_within h = front_few (length s.frames) context (along_count h)

  -- a store that stands for so many entries stands along
  pub along_at : (n : ℕ) → n ≤ length context → StandsFor problem bounds (take n context) s → IsAlong problem bounds context s
  along_at n le h =
      let count = h.kept.frames.each ∙ length-take-le n context le in
      let P : ℕ → Type 0 = λ z. StandsFor problem bounds (take z context) s in
      subst P (sym count) h

  -- one with a frame for each entry stands for the whole
  pub along_all : length context ≤ length s.frames → IsAlong problem bounds context s → StandsFor problem bounds context s
  along_all le h =
      let P : Context → Type 0 = λ z. StandsFor problem bounds z s in
      subst P (take_all (length s.frames) context le) h

  pub all_some : StandsFor problem bounds context s → 0 < length s.frames
  all_some h = let some = h.kept.some in let each = h.kept.frames.each in omega (arith, some, each)

  -- of another context with the same first entries
  pub along_front : (other : Context) (k : ℕ) → length s.frames ≤ k → take k context ≡ take k other → IsAlong problem bounds context s → IsAlong problem bounds other s
  along_front other k le same h =
      let n = length s.frames in
      let is : take n context ≡ take n other = sym (take-take n k context le) ∙ (ap (λ (z : Context). take n z) same ∙ take-take n k other le) in
      let P : Context → Type 0 = λ z. StandsFor problem bounds z s in
      subst P is h

  pub along_add : (new : Context) (e : EntryValue) → new ≡ add context e → IsAlong problem bounds context s → IsAlong problem bounds new s
  along_add new e is h =
      let n = length s.frames in
      let P : Context → Type 0 = λ z. StandsFor problem bounds z s in
      subst P (sym (take-append-le n context (e ∷ []) (along_within h)) ∙ ap (λ (z : Context). take n z) (sym is)) h

  -- of the branch that was to grow
  pub along_grown : {T E : Type 0} (new : Context) (e : EntryValue) (r : Result T E) → OnOk r (new ≡ add context e) → OnErr r (new ≡ context) → IsAlong problem bounds context s → IsAlong problem bounds new s
  along_grown new e (Ok x) is same h = along_add new e is h
  along_grown new e (Err x) is same h = let P : Context → Type 0 = λ z. IsAlong problem bounds z s in subst P (sym same) h

  pub along_less : (new later : Context) → context ≡ new ++ later → length s.frames ≤ length new → IsAlong problem bounds context s → IsAlong problem bounds new s
  along_less new later is le h =
      let n = length s.frames in
      let P : Context → Type 0 = λ z. StandsFor problem bounds z s in
      subst P (ap (λ (z : Context). take n z) is ∙ take-append-le n new later le) h

-- ---- the first entry
first_stays : (bounds : Bounds) (context : Context) (e : EntryValue) → 1 ≤ length context → take 1 context ≡ start bounds.start → take 1 (add context e) ≡ start bounds.start
first_stays bounds context e some is = take-append-le 1 context (e ∷ []) some ∙ is

pub grown_front : {problem : ProblemValue} {bounds : Bounds} {context : Context} → IsGrown problem bounds context → take 1 context ≡ start bounds.start
grown_front started = refl
grown_front {bounds = bounds} (asserted {context = context} {e = e} h next) = first_stays bounds context e (grown_some h) (grown_front h)
grown_front {bounds = bounds} (went_left {context = context} {l = l} {kind = kind} h next) = first_stays bounds context (split_entry l kind SplitLeft) (grown_some h) (grown_front h)
grown_front {bounds = bounds} (went_right {context = context} {l = l} {kind = kind} h next) = first_stays bounds context (split_entry (complement l) kind SplitRight) (grown_some h) (grown_front h)

pub along_start : (problem : ProblemValue) (bounds : Bounds) (context : Context) (s : StoreValue) → IsGrown problem bounds context → StandsFor problem bounds (start bounds.start) s → IsAlong problem bounds context s
along_start problem bounds context s grown h =
    let P : Context → Type 0 = λ z. StandsFor problem bounds z s in
    along_at problem bounds context s 1 (grown_some grown) (subst P (sym (grown_front grown)) h)

-- ---- what is left where an entry is taken off
pub along_left : (problem : ProblemValue) (bounds : Bounds) (context : Context) (old new : StoreValue) → 1 < length old.frames → IsAlong problem bounds context old
    → ((p : ProblemValue) (b : Bounds) (c : Context) (e : EntryValue) → StandsFor p b (add c e) old → 0 < length c → StandsFor p b c new) → IsAlong problem bounds context new × (length new.frames + 1 ≡ length old.frames)
along_left problem bounds context old new two h left =
    let n = length old.frames - 1 in
    let within = along_within problem bounds context old h in
    let lt : n < length context = omega (arith, two, within) in
    let at = entry_at context n lt in
    let one : n + 1 ≡ length old.frames = omega (arith, two) in
    let P : Context → Type 0 = λ z. StandsFor problem bounds z old in
    let was = subst P (sym (ap (λ (z : ℕ). take z context) one) ∙ front_more context n at.0 at.1) h in
    let long = length-take-le n context (omega (arith, lt)) in
    let stands = left problem bounds (take n context) at.0 was (omega (arith, long, two)) in
    let count = stands.kept.frames.each in
    (along_at problem bounds context new n (omega (arith, lt)) stands, omega (arith, count, long, one))

-- ---- what is left of a branch that went back
pub left_behind : (base : ℕ) (old new : Context) → IsBackAtLeft base old new → (later : Context) × (old ≡ new ++ later) × (base ≤ length new)
left_behind base old new h =
    let is = h.was ∙ (sym (append_assoc h.before (h.left ∷ []) h.later) ∙ ap (λ (z : Context). z ++ h.later) (sym h.now_is)) in
    let above = h.above in
    let many = ap length h.now_is in
    let more = longer h.before h.left in
    (h.later, is, omega (arith, above, many, more))

-- a branch that went back is the beginning of what it was, and no shorter than the base
pub went_back : (base : ℕ) (r : Bool) (old new : Context) → (r ≡ true → IsBackAtLeft base old new) → (r ≡ false → IsAllBack base old new) → (later : Context) × (old ≡ new ++ later) × (base ≤ length new)
went_back base true old new left none = left_behind base old new (left refl)
went_back base false old new left none = let h = none refl in let at = h.at_base in (h.later, h.was, omega (arith, at))

-- ---- one search
pub one_search : (old : BranchValue) → HaveOneSearch old old
one_search old = record { same_problem = refl; same_bounds = refl }

pub still_of : (problem : ProblemValue) (bounds : Bounds) (old new : BranchValue) → IsOf problem bounds old → HaveOneSearch old new → IsOf problem bounds new
still_of problem bounds old new of one = record { same_problem = one.same_problem ∙ of.same_problem; same_bounds = one.same_bounds ∙ of.same_bounds }

pub grown_of : (problem : ProblemValue) (bounds : Bounds) (branch : BranchValue) → IsOf problem bounds branch → IsGrown problem bounds branch.context → IsGrown branch.problem branch.bounds branch.context
grown_of problem bounds branch of h =
    let P : ProblemValue × Bounds → Type 0 = λ z. IsGrown z.0 z.1 branch.context in
    subst P (λ i. (sym of.same_problem i, sym of.same_bounds i)) h

pub next_of : (problem : ProblemValue) (bounds : Bounds) (branch : BranchValue) (step : NextValue) → IsOf problem bounds branch → IsNext branch.problem branch.bounds branch.context step → IsNext problem bounds branch.context step
next_of problem bounds branch step of h =
    let P : ProblemValue × Bounds → Type 0 = λ z. IsNext z.0 z.1 branch.context step in
    subst P (λ i. (of.same_problem i, of.same_bounds i)) h
