-- Steps along a branch, one after another.
use Rattle.std.proofs.Common.{◌≡◌, inl, inr, ℕ, ◌+◌, ◌<◌, Bool, List, length, reverse, Option, None, Some, get_or, sym, ap, subst, ◌∙◌, arith}
use Rattle.std.specs.Prelude.{slice_get}
use Rattle.std.specs.List.{All}
use Rattle.std.specs.declared.vec.Vec.{Vec}
use Rattle.std.specs.declared.alloc.Global.{Global}
use Rattle.std.proofs.lemmas.List.{get_or_default}
use Rattle.std.proofs.lemmas.Option.{get_or_from_slice_get, slice_get_cases}
use Rattle.ground_solver.specs.Numbered.{Clauses, AreWithin, IsNodeWithin}
use Rattle.ground_solver.specs.Standings.{AreOthersFalse, IsFound, IsLastOf, IsOpenOf, IsStanding, IsFalseIn, IsFreeAt, IsFreeIn, IsReasonFor, IsRefutedAt, value_at}
use Rattle.ground_solver.specs.Underway.{path_of, AreBefore, AreFixed, IsUnderway, IsOnward, free, work}
use Rattle.ground_solver.specs.declared.signed.Signed.{Signed}
use Rattle.ground_solver.specs.declared.signed.Step.{Step}
use Rattle.ground_solver.specs.declared.search.Fixed.{Fixed}
use Rattle.ground_solver.specs.declared.search.Search.{Search}
use Rattle.ground_solver.specs.declared.standing.Standing.{Standing}
use Rattle.ground_solver.proofs.Refuting.{got_at}

-- a search with the same branch and nodes
pub placed : (clauses : Clauses) (n : ℕ) (s t : Search) → t.values ≡ s.values → t.trail ≡ s.trail → t.steps ≡ s.steps → IsUnderway clauses n s → IsUnderway clauses n t
placed clauses n s t values trail steps u = record {
  size = ap (λ (v : Vec (Option Bool) Global). length v.items) values ∙ u.size;
  bounded = u.bounded;
  fixed = subst (λ (v : Vec (Option Bool) Global). AreFixed v.items (path_of (reverse t.trail.items))) (sym values) (subst (λ (v : Vec Fixed Global). AreFixed s.values.items (path_of (reverse v.items))) (sym trail) u.fixed);
  within = subst (λ (v : Vec Step Global). All (IsNodeWithin n) v.items) (sym steps) u.within;
  so_far = subst (λ (v : Vec Step Global). AreBefore clauses (reverse t.trail.items) v.items) (sym steps) (subst (λ (v : Vec Fixed Global). AreBefore clauses (reverse v.items) s.steps.items) (sym trail) u.so_far);
}

pub onward_same : (clauses : Clauses) (s t : Search) → t.values ≡ s.values → t.trail ≡ s.trail → t.steps ≡ s.steps → IsOnward clauses s t
onward_same clauses s t values trail steps =
    let vs : t.values.items ≡ s.values.items = ap (λ (v : Vec (Option Bool) Global). v.items) values in
    let xs : t.trail.items ≡ s.trail.items = ap (λ (v : Vec Fixed Global). v.items) trail in
    let same : work t.values.items t.trail.items ≡ work s.values.items s.trail.items = cc in
    let sum : free t.values.items + length t.trail.items ≡ free s.values.items + length s.trail.items = cc in
    record {
      underway = λ n u. placed clauses n s t values trail steps u;
      less = omega (arith, same);
      same = sum;
    }

pub onward_then : (clauses : Clauses) (s t u : Search) → IsOnward clauses s t → IsOnward clauses t u → IsOnward clauses s u
onward_then clauses s t u first then = record {
  underway = λ n under. then.underway n (first.underway n under);
  less = omega (arith, first.less, then.less);
  same = then.same ∙ first.same;
}

-- the atoms of a clause are among those of the search
pub atom_within : (clauses : Clauses) (n p k : ℕ) (clause : Vec Signed Global) (d : Signed) → AreWithin clauses n → slice_get clauses p ≡ Some clause → k < length clause.items → (get_or clause.items k d).atom < n
atom_within clauses n p k clause d bounded at below =
    let got = got_at clauses p clause at in
    subst (λ (c : Vec Signed Global). k < length c.items → (get_or c.items k d).atom < n) (got.1) (λ inside. bounded p clause (got.0) k d inside) below

-- the other literals of a clause are false, so it is a reason for the last one
pub reason_of : (clauses : Clauses) (values : List (Option Bool)) (p k : ℕ) (clause : Vec Signed Global) (d : Signed) → slice_get clauses p ≡ Some clause → k < length clause.items → AreOthersFalse values clause.items k → IsReasonFor clauses values (get_or clause.items k d) p
reason_of clauses values p k clause d at below others = (
  clause,
  at,
  λ j e inside. elim (others j e inside) [
    | inl same ↦ inl (get_or_default clause.items j e d inside ∙ ap (λ (i : ℕ). get_or clause.items i d) same)
    | inr is_false ↦ inr is_false
  ],
)

-- what a forced literal makes of the search
pub onward_forced : (clauses : Clauses) (s t : Search) (l : Signed) (by : ℕ) (some : (n : ℕ) × IsUnderway clauses n s) → ((n : ℕ) → IsUnderway clauses n s → l.atom < n) → IsReasonFor clauses s.values.items l by → IsFreeIn s.values.items l → ((c : Clauses) (n : ℕ) → IsUnderway c n s → l.atom < n → IsReasonFor c s.values.items l by → IsUnderway c n t) → (l.atom < length s.values.items → IsFreeIn s.values.items l → work t.values.items t.trail.items < work s.values.items s.trail.items) → length t.trail.items ≡ length s.trail.items + 1 → (l.atom < length s.values.items → IsFreeIn s.values.items l → free t.values.items + 1 ≡ free s.values.items) → IsOnward clauses s t
onward_forced clauses s t l by some below reason unknown underway less longer fewer =
    let inside : l.atom < length s.values.items = omega (arith, below (some.0) (some.1), (some.1).size) in
    let drop = less inside unknown in
    let few = fewer inside unknown in
    record {
      underway = λ n u. underway clauses n u (below n u) reason;
      less = omega (arith, drop);
      same = omega (arith, few, longer);
    }

-- what a look at a clause's literals says of the clause at its place
pub last_of : (clauses : Clauses) (values seen : List (Option Bool)) (n k : ℕ) (clause : Vec Signed Global) (literals : List Signed) → slice_get clauses n ≡ Some clause → literals ≡ clause.items → seen ≡ values → IsFreeAt seen literals k → AreOthersFalse seen literals k → IsLastOf clauses values n k
last_of clauses values seen n k clause literals at same is unknown others =
    (clause, at, subst (λ (xs : List Signed). IsFreeAt values xs k) same (subst (λ (vs : List (Option Bool)). IsFreeAt vs literals k) is unknown), subst (λ (xs : List Signed). AreOthersFalse values xs k) same (subst (λ (vs : List (Option Bool)). AreOthersFalse vs literals k) is others))

pub refuted_of : (clauses : Clauses) (values seen : List (Option Bool)) (n : ℕ) (clause : Vec Signed Global) (literals : List Signed) → slice_get clauses n ≡ Some clause → literals ≡ clause.items → seen ≡ values → All (IsFalseIn seen) literals → IsRefutedAt clauses values n
refuted_of clauses values seen n clause literals at same is falses =
    (clause, at, subst (λ (xs : List Signed). All (IsFalseIn values) xs) same (subst (λ (vs : List (Option Bool)). All (IsFalseIn vs) literals) is falses))

-- the literal of the clause at its place
pub read_at : (clauses : Clauses) (n : ℕ) (clause read : Vec Signed Global) → slice_get clauses n ≡ Some clause → read ≡ get_or clauses n read → read ≡ clause
read_at clauses n clause read at is = is ∙ get_or_from_slice_get clauses n clause read at

-- the literal that is read at a place of the clause, and what is known of it
pub literal_read : (clauses : Clauses) (n k : ℕ) (clause read : Vec Signed Global) (literals : List Signed) (d : Signed) → slice_get clauses n ≡ Some clause → read ≡ get_or clauses n read → literals ≡ read.items → get_or literals k d ≡ get_or clause.items k d
literal_read clauses n k clause read literals d at is same =
    ap (λ (xs : List Signed). get_or xs k d) (same ∙ ap (λ (c : Vec Signed Global). c.items) (read_at clauses n clause read at is))

pub last_forced : (clauses : Clauses) (s t : Search) (by k : ℕ) (read : Vec Signed Global) (literals : List Signed) (d : Signed) → ((n : ℕ) × IsUnderway clauses n s) → IsLastOf clauses s.values.items by k → read ≡ get_or clauses by read → literals ≡ read.items → ((c : Clauses) (n : ℕ) → IsUnderway c n s → (get_or literals k d).atom < n → IsReasonFor c s.values.items (get_or literals k d) by → IsUnderway c n t) → ((get_or literals k d).atom < length s.values.items → IsFreeIn s.values.items (get_or literals k d) → work t.values.items t.trail.items < work s.values.items s.trail.items) → length t.trail.items ≡ length s.trail.items + 1 → ((get_or literals k d).atom < length s.values.items → IsFreeIn s.values.items (get_or literals k d) → free t.values.items + 1 ≡ free s.values.items) → IsOnward clauses s t × (work t.values.items t.trail.items < work s.values.items s.trail.items)
last_forced clauses s t by k read literals d some last is same underway less longer fewer =
    let clause = last.0 in
    let l = get_or clause.items k d in
    let here : l ≡ get_or literals k d = sym (literal_read clauses by k clause read literals d (last.1) is same) in
    let reason : IsReasonFor clauses s.values.items (get_or literals k d) by = subst (λ (m : Signed). IsReasonFor clauses s.values.items m by) here (reason_of clauses s.values.items by k clause d (last.1) (last.2.0) (last.3)) in
    let unknown : IsFreeIn s.values.items (get_or literals k d) = subst (λ (m : Signed). IsFreeIn s.values.items m) here (last.2.1 d) in
    let below : (n : ℕ) → IsUnderway clauses n s → (get_or literals k d).atom < n = λ n u. subst (λ (m : Signed). m.atom < n) here (atom_within clauses n by k clause d u.bounded (last.1) (last.2.0)) in
    let inside : (get_or literals k d).atom < length s.values.items = omega (arith, below (some.0) (some.1), (some.1).size) in
    (onward_forced clauses s t (get_or literals k d) by some below reason unknown underway less longer fewer, less inside unknown)

pub opened : (clauses : Clauses) (s t : Search) (place k : ℕ) (read : Vec Signed Global) (literals : List Signed) (d : Signed) → ((n : ℕ) × IsUnderway clauses n s) → IsOpenOf clauses s.values.items place k → read ≡ get_or clauses place read → literals ≡ read.items → ((c : Clauses) (n : ℕ) → IsUnderway c n s → (get_or literals k d).atom < n → IsUnderway c n t) → ((get_or literals k d).atom < length s.values.items → value_at s.values.items (get_or literals k d).atom ≡ None → work t.values.items t.trail.items < work s.values.items s.trail.items) → ((n : ℕ) → IsUnderway clauses n s → IsUnderway clauses n t) × (work t.values.items t.trail.items < work s.values.items s.trail.items)
opened clauses s t place k read literals d some last is same underway less =
    let clause = last.0 in
    let here : get_or clause.items k d ≡ get_or literals k d = sym (literal_read clauses place k clause read literals d (last.1) is same) in
    let unknown : value_at s.values.items (get_or literals k d).atom ≡ None = subst (λ (m : Signed). IsFreeIn s.values.items m) here (last.2.1 d) in
    let below : (n : ℕ) → IsUnderway clauses n s → (get_or literals k d).atom < n = λ n u. subst (λ (m : Signed). m.atom < n) here (atom_within clauses n place k clause d u.bounded (last.1) (last.2.0)) in
    let inside : (get_or literals k d).atom < length s.values.items = omega (arith, below (some.0) (some.1), (some.1).size) in
    (λ n u. underway clauses n u (below n u), less inside unknown)

-- how the clause at a place stands
pub stands_at : (clauses : Clauses) (values : List (Option Bool)) (place : ℕ) (standing is : Standing) → place < length clauses → ((d : Vec Signed Global) → IsStanding values (get_or clauses place d).items (Some standing)) → standing ≡ is → (clause : Vec Signed Global) × (slice_get clauses place ≡ Some clause) × IsStanding values clause.items (Some is)
stands_at clauses values place standing is below stands e =
    elim ((slice_get_cases clauses place).1) [
      | inl y ↦ (y.0, y.2, subst (λ (x : Standing). IsStanding values (y.0).items (Some x)) e (subst (λ (c : Vec Signed Global). IsStanding values c.items (Some standing)) (y.3) (stands (y.0))))
      | inr past ↦ absurd (omega (arith, past.0))
    ]

-- what was found among the values that were looked at
pub found_at : (clauses : Clauses) (values seen : List (Option Bool)) (from : ℕ) (found : ℕ × Standing) → seen ≡ values → IsFound clauses seen from (Some found) → IsFound clauses values 0 (Some found)
found_at clauses values seen from found is h = subst (λ (vs : List (Option Bool)). IsFound clauses vs 0 (Some found)) is h
