-- The queue of demands ends: a demand's instance asks only for entries before its own.
use Rattle.std.proofs.Common.{◌≡◌, ℕ, zero, suc, ◌+◌, ◌<◌, ◌≤◌, Bool, true, false, ◌⊎◌, inl, inr, List, [], ◌∷◌, ◌++◌, length, get_or, Option, Some, None, refl, sym, subst, ap, ◌∙◌, arith}
use Rattle.std.proofs.lemmas.Option.{same_Some}
use Rattle.std.specs.List.{Contains}
use Rattle.me_terms.specs.Terms.{AtomValue}
use Rattle.me_terms.specs.TermEquality.{same_atom}
use Rattle.me_terms.specs.TermEqualityLaws.{same_atom_sound, same_atom_itself}
use Rattle.me_terms.specs.Values.{ProblemValue, EntryValue, InstanceValue, ReasonValue, Pseudo, Asserted, SplitLeft, SplitRight}
use Rattle.me_terms.specs.Context.{Context, StandsAt}
use Rattle.me_terms.specs.Positions.{positions_of}
use Rattle.me_terms.specs.LeafList.{Demand, demands, IsAsserted, AddsNothing, Adds, none_waits, passes, adds}
use Rattle.me_terms.specs.declared.bounds.Bounds.{Bounds}
use Rattle.me_terms.specs.declared.atom.Literal.{Literal}
use Rattle.me_laws.proofs.Decisions.{both_decided, sign_decided}
use Rattle.me_laws_existence.proofs.Solvable.{same_number}
use Rattle.me_laws_existence.proofs.Best.{compared}
use Rattle.me_laws_existence.proofs.Closes.{longest, is_long}
use Rattle.me_laws.proofs.Backed.{AreBacked}
use Rattle.me_laws_existence.proofs.Asked.{IsMet, AllMet, asking}

-- ---- whether a demand was made is decided
at_by : (a b : AtomValue) (test : Bool) → same_atom a b ≡ test → (a ≡ b) ⊎ (¬ (a ≡ b))
at_by a b true e = inl (same_atom_sound a b e)
at_by a b false e = inr (λ h. let same : same_atom a a ≡ false = ap (same_atom a) h ∙ e in cc (same, same_atom_itself a))

demand_decided : (d f : Demand) → (d ≡ f) ⊎ (¬ (d ≡ f))
demand_decided d f =
    elim (both_decided (d.0 ≡ f.0) ((d.1.positive ≡ f.1.positive) × (d.1.atom ≡ f.1.atom)) (same_number d.0 f.0) (both_decided _ _ (sign_decided d.1.positive f.1.positive) (at_by d.1.atom f.1.atom (same_atom d.1.atom f.1.atom) refl))) as (λ _. (d ≡ f) ⊎ (¬ (d ≡ f))) [
      | inl h ↦ inl (λ i. (h.0 i, record { positive = h.1.0 i; atom = h.1.1 i }))
      | inr never ↦ inr (λ e. never (ap (λ (z : Demand). z.0) e, (ap (λ (z : Demand). z.1.positive) e, ap (λ (z : Demand). z.1.atom) e)))
    ]

not_made : (y : Demand) (ys : List Demand) (x : Demand) → ¬ (y ≡ x) → ¬ Contains ys x → (k : ℕ) → k < length (y ∷ ys) → get_or (y ∷ ys) k x ≡ x → ⊥
not_made y ys x here later zero lt e = here e
not_made y ys x here later (suc k) lt e = later (k, omega (arith, lt), e)

made_decided : (xs : List Demand) (x : Demand) → Contains xs x ⊎ (¬ Contains xs x)
made_decided [] x = inr (λ h. let lt = h.1 in omega (arith, lt))
made_decided (y ∷ ys) x =
    elim (demand_decided y x) as (λ _. Contains (y ∷ ys) x ⊎ (¬ Contains (y ∷ ys) x)) [
      | inl e ↦ inl (0, omega arith, e)
      | inr here ↦ elim (made_decided ys x) as (λ _. Contains (y ∷ ys) x ⊎ (¬ Contains (y ∷ ys) x)) [
        | inl h ↦ let lt = h.1 in inl (suc h.0, omega (arith, lt), h.2)
        | inr later ↦ inr (λ h. not_made y ys x here later h.0 h.1 h.2)
      ]
    ]

-- ---- how much work a demand for the entry at k is, where an instance has at most b demands
abbrev times : ℕ → ℕ → ℕ
times zero w = 0
times (suc n) w = w + times n w

abbrev work : ℕ → ℕ → ℕ
work b zero = 1
work b (suc k) = 1 + (work b k + times b (work b k))

abbrev work_all : ℕ → List Demand → ℕ
work_all b [] = 0
work_all b (d ∷ ds) = work b d.0 + work_all b ds

work_some : (b k : ℕ) → 1 ≤ work b k
work_some b zero = omega arith
work_some b (suc k) = omega arith

at_itself : (n : ℕ) → n ≤ n
at_itself n = omega arith

work_rises : (b j k : ℕ) → j ≤ k → work b j ≤ work b k
work_rises b zero zero h = omega arith
work_rises b (suc j) zero h = absurd (omega (arith, h))
work_rises b j (suc k) h =
    elim (compared j (suc k)) as (λ _. work b j ≤ work b (suc k)) [
      | inl less ↦ let below = work_rises b j k (omega (arith, less)) in omega (arith, below)
      | inr g ↦ elim g as (λ _. work b j ≤ work b (suc k)) [
        | inl e ↦ let P : ℕ → Type 0 = λ n. work b n ≤ work b (suc k) in subst P (sym e) (at_itself (work b (suc k)))
        | inr more ↦ absurd (omega (arith, h, more))
      ]
    ]

times_rises : (m n w : ℕ) → m ≤ n → times m w ≤ times n w
times_rises zero n w h = omega arith
times_rises (suc m) zero w h = absurd (omega (arith, h))
times_rises (suc m) (suc n) w h = let later = times_rises m n w (omega (arith, h)) in omega (arith, later)

all_work : (context : Context) (b k : ℕ) (ds : List Demand) → AllMet context (suc k) ds → work_all b ds ≤ times (length ds) (work b k)
all_work context b k [] h = omega arith
all_work context b k (d ∷ ds) h =
    let lt = h.0.below in
    let first = work_rises b d.0 k (omega (arith, lt)) in
    let later = all_work context b k ds h.1 in
    omega (arith, first, later)

falls : (context : Context) (b k : ℕ) (ds : List Demand) → AllMet context k ds → length ds ≤ b → work_all b ds < work b k
falls context b zero [] h le = omega arith
falls context b zero (d ∷ ds) h le = let lt = h.0.below in absurd (omega (arith, lt))
falls context b (suc k) ds h le =
    let whole = all_work context b k ds h in
    let most = times_rises (length ds) b (work b k) le in
    omega (arith, whole, most)

work_append : (b : ℕ) (xs ys : List Demand) → work_all b (xs ++ ys) ≡ work_all b xs + work_all b ys
work_append b [] ys = omega arith
work_append b (x ∷ xs) ys = let later = work_append b xs ys in omega (arith, later)

met_append : (context : Context) (n : ℕ) (xs ys : List Demand) → AllMet context n xs → AllMet context n ys → AllMet context n (xs ++ ys)
met_append context n [] ys f g = g
met_append context n (x ∷ xs) ys f g = (f.0, met_append context n xs ys f.1 g)

met_below : (context : Context) (m n : ℕ) → m ≤ n → (xs : List Demand) → AllMet context m xs → AllMet context n xs
met_below context m n le [] h = tt
met_below context m n le (x ∷ xs) h =
    let lt = h.0.below in
    (record { entry = h.0.entry; below = omega (arith, lt, le); stands = h.0.stands; same_sign = h.0.same_sign; above = h.0.above }, met_below context m n le xs h.1)

few_demands : (ls : List Literal) (ks : List (Option ℕ)) → length (demands ls ks) ≤ length ls
few_demands [] ks = omega arith
few_demands (l ∷ ls) [] = omega arith
few_demands (l ∷ ls) (None ∷ ks) = let later = few_demands ls ks in omega (arith, later)
few_demands (l ∷ ls) (Some k ∷ ks) = let later = few_demands ls ks in omega (arith, later)

-- an entry with another reason was not asserted
other_reason : (context : Context) (k : ℕ) (e : EntryValue) (why : ReasonValue) → StandsAt context k e → e.reason ≡ why → ((c place : ℕ) (tuple : List ℕ) → ¬ (why ≡ Asserted c place tuple)) → (c place : ℕ) (tuple : List ℕ) → ¬ IsAsserted context k c place tuple
other_reason context k e why stands reason other c place tuple h =
    let same : e ≡ h.0 = same_Some e h.0 (sym stands ∙ h.1) in
    other c place tuple (sym reason ∙ (ap (λ (z : EntryValue). z.reason) same ∙ h.2))

module _ (problem : ProblemValue) (bounds : Bounds) (context : Context) (backed : AreBacked problem bounds context) where
  abbrev most : ℕ
  most = longest problem.clauses

  abbrev Ends : List Demand → List Demand → Type 0
  Ends before waiting = (list : List InstanceValue) × Adds problem context before waiting list

  module _ (n : ℕ) (later : (before waiting : List Demand) → AllMet context (length context) waiting → work_all most waiting ≤ n → Ends before waiting) where
    passed : (before waiting : List Demand) (d : Demand) → AddsNothing context before d → AllMet context (length context) waiting → work_all most waiting ≤ n → Ends before (d ∷ waiting)
    passed before waiting d nothing met le = let rest = later before waiting met le in (rest.0, passes nothing rest.1)

    by_reason : (before waiting : List Demand) (d : Demand) → ¬ Contains before d → (m : IsMet context (length context) d) → AllMet context (length context) waiting → work most d.0 + work_all most waiting ≤ suc n → (why : ReasonValue) → m.entry.reason ≡ why → Ends before (d ∷ waiting)
    by_reason before waiting d new m met le (Asserted c place tuple) e =
        let asked = asking problem bounds context d.0 c place tuple d.1 m.entry (backed d.0 m.entry c place tuple m.stands e) m.same_sign m.above in
        let more : List Demand = demands asked.literals (positions_of (Some place) tuple) in
        let few = few_demands asked.literals (positions_of (Some place) tuple) in
        let size = asked.long.2 in
        let long = is_long problem.clauses c asked.long.0 asked.long.1 in
        let less = falls context most d.0 more asked.met (omega (arith, few, size, long)) in
        let sum = work_append most waiting more in
        let lt = m.below in
        let rest = later (d ∷ before) (waiting ++ more) (met_append context (length context) waiting more met (met_below context d.0 (length context) (omega (arith, lt)) more asked.met)) (omega (arith, le, less, sum)) in
        (record { clause = c; literals = asked.literals } ∷ rest.0, adds new (m.entry, m.stands, e) asked.is_asked rest.1)
    by_reason before waiting d new m met le Pseudo e =
        let some = work_some most d.0 in
        passed before waiting d (inr (other_reason context d.0 m.entry Pseudo m.stands e (λ c place tuple h. cc h))) met (omega (arith, some, le))
    by_reason before waiting d new m met le SplitLeft e =
        let some = work_some most d.0 in
        passed before waiting d (inr (other_reason context d.0 m.entry SplitLeft m.stands e (λ c place tuple h. cc h))) met (omega (arith, some, le))
    by_reason before waiting d new m met le SplitRight e =
        let some = work_some most d.0 in
        passed before waiting d (inr (other_reason context d.0 m.entry SplitRight m.stands e (λ c place tuple h. cc h))) met (omega (arith, some, le))

    worked : (before waiting : List Demand) (d : Demand) → Contains before d ⊎ (¬ Contains before d) → IsMet context (length context) d → AllMet context (length context) waiting → work most d.0 + work_all most waiting ≤ suc n → Ends before (d ∷ waiting)
    worked before waiting d (inl h) m met le = let some = work_some most d.0 in passed before waiting d (inl h) met (omega (arith, some, le))
    worked before waiting d (inr new) m met le = by_reason before waiting d new m met le m.entry.reason refl

  ends_within : (n : ℕ) (before waiting : List Demand) → AllMet context (length context) waiting → work_all most waiting ≤ n → Ends before waiting
  ends_within n before [] met le = ([], none_waits)
  ends_within zero before (d ∷ waiting) met le = let some = work_some most d.0 in absurd (omega (arith, some, le))
  ends_within (suc n) before (d ∷ waiting) met le = worked n (λ b w m l. ends_within n b w m l) before waiting d (made_decided before d) met.0 met.1 le

  pub ends : (waiting : List Demand) → AllMet context (length context) waiting → (list : List InstanceValue) × Adds problem context [] waiting list
  ends waiting met = ends_within (work_all most waiting) [] waiting met (at_itself (work_all most waiting))
