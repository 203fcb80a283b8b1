-- Lists of paths, each once: how long they are, and where two have the same.
use Rattle.std.proofs.Common.{◌≡◌, ◌≢◌, ℕ, suc, ◌+◌, ◌≤◌, ◌<◌, Bool, true, false, cond, List, [], ◌∷◌, length, map, refl, sym, ap, ◌∙◌, subst, arith, ne_eqb, eqb, ⊎_elim}
use Rattle.std.specs.List.{IsDistinct, AllByRecursion, list_any}
use Rattle.std.proofs.lemmas.Bool.{eqb-true}
use Rattle.std.proofs.lemmas.Map.Steps.{length-le_from_distinct_below}
use Rattle.branch_core.specs.Paths.{Turns, code}
use Rattle.branch_core.specs.Core.{turns_eq}
use Rattle.branch_core.proofs.PathOrder.{codes_injective}
use Rattle.share_words.specs.Counts.{path_count}
use Rattle.branch_core.proofs.Orderly.{turns_same}
use Rattle.share_words.proofs.Counts.{one_or_other}

-- A path stands once in front of a list.
counts_itself : (path : Turns) → ◌≡◌ {A = ℕ} (cond (turns_eq path path) 1 0) 1
counts_itself path = ap (λ (b : Bool). cond b 1 0) (turns_same path)

-- ---- how long
none_equal : (path : Turns) (paths : List Turns) → path_count path paths ≡ 0 → AllByRecursion (λ n. eqb (code path) n ≡ false) (map code paths)
none_equal path [] h = tt
none_equal path (p ∷ ps) h =
    let sum_is : cond (turns_eq path p) 1 0 + path_count path ps ≡ 0 = h in
    let apart : path ≢ p = λ e.
    let P : Turns → Type 0 = λ t. cond (turns_eq path t) 1 0 + path_count path ps ≡ 0 in
    let here : cond (turns_eq path path) 1 0 + path_count path ps ≡ 0 = subst P (sym e) sum_is in
    let one = counts_itself path in
    omega (arith, here, one) in
    (ne_eqb (code path) (code p) (λ e. apart (codes_injective path p e)), none_equal path ps (omega (arith, sum_is)))

distinct : (paths : List Turns) → ((path : Turns) → path_count path paths ≤ 1) → IsDistinct eqb (map code paths)
unfolding IsDistinct
distinct [] once = tt
distinct (p ∷ ps) once =
    let first : cond (turns_eq p p) 1 0 + path_count p ps ≤ 1 = once p in
    let one = counts_itself p in
    let rest : (path : Turns) → path_count path ps ≤ 1 = λ path. (let h : cond (turns_eq path p) 1 0 + path_count path ps ≤ 1 = once path in omega (arith, h)) in
    (none_equal p ps (omega (arith, first, one)), distinct ps rest)

module _ (n : ℕ) where
  all_below : (q : ℕ) (paths : List Turns) → ((path : Turns) → 0 < path_count path paths → code path < n) → list_any (eqb q) (map code paths) ≡ true → q < n
  all_below q [] below h = absurd (let e : false ≡ true = h in cc)
  all_below q (p ∷ ps) below h = go (λ g. all_below q ps rest g) (eqb q (code p)) refl
    where
      rest : (path : Turns) → 0 < path_count path ps → code path < n
      rest path some_there = below path (let g : 0 < cond (turns_eq path p) 1 0 + path_count path ps = omega (arith, some_there) in g)

      go : (list_any (eqb q) (map code ps) ≡ true → q < n) → (b : Bool) → eqb q (code p) ≡ b → q < n
      go later true is =
          let e : q ≡ code p = eqb-true q (code p) is in
          let one = counts_itself p in
          let g : 0 < cond (turns_eq p p) 1 0 + path_count p ps = omega (arith, one) in
          let m = below p g in omega (arith, e, m)
      go later false is = later (rw is at h)

  -- Paths with codes below n, each once, are at most n.
  pub few_paths : (paths : List Turns) → ((path : Turns) → path_count path paths ≤ 1) → ((path : Turns) → 0 < path_count path paths → code path < n) → length paths ≤ n
  few_paths paths once below = map_length paths (length-le_from_distinct_below (map code paths) n (distinct paths once) (λ q. all_below q paths below))
    where
      same_length : (ps : List Turns) → length (map code ps) ≡ length ps
      same_length [] = refl
      same_length (p ∷ ps) = ap suc (same_length ps)

      map_length : (ps : List Turns) → length (map code ps) ≤ n → length ps ≤ n
      map_length ps h = omega (arith, h, same_length ps)

-- ---- the same paths
abbrev remove : Turns → List Turns → List Turns
remove path [] = []
remove path (p ∷ ps) = cond (turns_eq path p) ps (p ∷ remove path ps)

-- One path less.
abbrev Fewer : Turns → Turns → List Turns → Type 0
Fewer path other paths = (path_count other paths ≡ path_count other (remove path paths) + cond (turns_eq other path) 1 0) × (length paths ≡ length (remove path paths) + 1)

step : (path other p : Turns) (ps : List Turns) → 0 < path_count path (p ∷ ps) → (0 < path_count path ps → Fewer path other ps) → (b : Bool) → turns_eq path p ≡ b
    → (cond (turns_eq other p) 1 0 + path_count other ps ≡ path_count other (cond b ps (p ∷ remove path ps)) + cond (turns_eq other path) 1 0) × (suc (length ps) ≡ length (cond b ps (p ∷ remove path ps)) + 1)
step path other p ps some_there before true is =
    let e : path ≡ p = ⊎_elim (λ h. h) (λ n. absurd (cc (n, is))) (one_or_other path p) in
    let g : cond (turns_eq other p) 1 0 + path_count other ps ≡ path_count other ps + cond (turns_eq other path) 1 0 = ap (λ (t : Turns). cond (turns_eq other t) 1 0 + path_count other ps) (sym e) ∙ omega arith in
    (g, omega arith)
step path other p ps some_there before false is =
    let h : 0 < cond (turns_eq path p) 1 0 + path_count path ps = some_there in
    let k = ap (λ (b : Bool). cond b 1 0 + path_count path ps) is in
    let t = before (omega arith) in
    let a = t.0 in
    let b = t.1 in
    let g : cond (turns_eq other p) 1 0 + path_count other ps ≡ (cond (turns_eq other p) 1 0 + path_count other (remove path ps)) + cond (turns_eq other path) 1 0 = omega arith in
    let l : suc (length ps) ≡ suc (length (remove path ps)) + 1 = omega arith in
    (g, l)

path_count_remove : (path other : Turns) (paths : List Turns) → 0 < path_count path paths → Fewer path other paths
path_count_remove path other [] some_there = let h : 0 < 0 = some_there in absurd (omega arith)
path_count_remove path other (p ∷ ps) some_there = step path other p ps some_there (λ h. path_count_remove path other ps h) (turns_eq path p) refl

-- Where a list has no path more often than another one, and is no shorter, both have the same paths.
pub settles : (all some_of : List Turns) → ((path : Turns) → path_count path some_of ≤ path_count path all) → length all ≤ length some_of → (path : Turns) → path_count path some_of ≡ path_count path all
settles [] [] le len path = refl
settles (o ∷ os) [] le len path = let h : suc (length os) ≤ 0 = len in absurd (omega arith)
settles all (t ∷ ts) le len path =
    let first : cond (turns_eq t t) 1 0 + path_count t ts ≤ path_count t all = le t in
    let one = counts_itself t in
    let some_there : 0 < path_count t all = omega arith in
    let r = path_count_remove t path all some_there in
    let r0 = r.0 in
    let r1 = r.1 in
    let l : length all ≤ suc (length ts) = len in
    let ih = settles (remove t all) ts
    (λ z. let q = path_count_remove t z all some_there in let q0 = q.0 in let m : cond (turns_eq z t) 1 0 + path_count z ts ≤ path_count z all = le z in omega arith)
    (omega arith) path in
    let g : cond (turns_eq path t) 1 0 + path_count path ts ≡ path_count path all = omega arith in
    g
