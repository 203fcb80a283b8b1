-- The list of a closed leaf, the outcome of a tree and the answer are determined.
use Rattle.std.proofs.Common.{◌≡◌, ℕ, zero, suc, ◌<◌, Bool, ◌⊎◌, inl, inr, List, [], ◌∷◌, ◌++◌, length, map, slice_get, get_or, Some, None, refl, sym, subst, ap, ◌∙◌, arith}
use Rattle.std.proofs.lemmas.Option.{same_Some}
use Rattle.std.specs.List.{Contains}
use Rattle.me_terms.specs.Terms.{TermValue, Arguments, AtomValue}
use Rattle.me_terms.specs.Substitutions.{Substitution, Family, apply_term, apply_arguments, apply_atom, apply_literal, followed_by}
use Rattle.me_terms.specs.Variables.{variables_of}
use Rattle.me_terms.specs.Values.{ProblemValue, ClauseValue, EntryValue, InstanceValue, Asserted}
use Rattle.me_terms.specs.Context.{Context, add}
use Rattle.me_terms.specs.Positions.{positions_of}
use Rattle.me_terms.specs.Unifier.{IsUnifier, unified}
use Rattle.me_terms.specs.Next.{NextValue, Close, Assert, Split, Exhausted, Bounded, IsNext}
use Rattle.me_terms.specs.FirstOccurrences.{first_occurrences}
use Rattle.me_terms.specs.ListedInstances.{constant, instance_of, IsClosingInstance, IsAskedInstance}
use Rattle.me_terms.specs.LeafList.{Demand, demands, IsAsserted, AddsNothing, Adds, none_waits, passes, adds, IsLeafList}
use Rattle.me_terms.specs.Grown.{left_of, right_of}
use Rattle.me_terms.specs.Outcome.{TreeOutcome, Closed, Sat, Met, both, HasOutcome, closes, is_exhausted, is_bounded, asserts, splits}
use Rattle.me_terms.specs.Answer.{AnswerValue, answer_of, HasAnswer}
use Rattle.me_terms.specs.declared.bounds.Bounds.{Bounds}
use Rattle.me_terms.specs.declared.atom.Literal.{Literal}
use Rattle.me_laws.proofs.Generality.{arguments_followed}
use Rattle.me_laws.proofs.Renaming.{Each, each_map, name_of, name, Good, name_injective, renamed_variables_all, agree_variables_all, variables_agree_all, Variants, all_good}
use Rattle.me_laws.proofs.Determined.{Renamed, renamed, unified_variants, clause_same, literal_same, next_unique}

-- ---- what the unifier leaves is read as one constant
read_good : (there back : Substitution) (t : TermValue) (x : ℕ) → Good there back x → followed_by there (λ y. t) x ≡ t
unfolding Good
read_good there back t x h = ap (apply_term (λ y. t)) h.0

read_same : (t : TermValue) (a b : AtomValue) → Variants a b → apply_atom (λ x. t) a ≡ apply_atom (λ x. t) b
read_same t a b v =
    let here : apply_arguments (followed_by v.there (λ y. t)) a.args ≡ apply_arguments (λ x. t) a.args =
    variables_agree_all (followed_by v.there (λ y. t)) (λ x. t) a.args (each_map (Good v.there v.back) (λ x. followed_by v.there (λ y. t) x ≡ t) (read_good v.there v.back t) (variables_of a.args) (all_good a b v)) in
    let args : apply_arguments (λ x. t) a.args ≡ apply_arguments (λ x. t) b.args =
    sym here ∙ (arguments_followed v.there (λ y. t) a.args ∙ ap (λ (c : AtomValue). apply_arguments (λ x. t) c.args) v.to) in
    let pred : a.pred ≡ b.pred = ap (λ (c : AtomValue). c.pred) v.to in
    λ i. record { pred = pred i; args = args i }

closing_same : (t : TermValue) (u v : Family) → Renamed u v → (ls : List Literal) → instance_of u (λ x. t) ls ≡ instance_of v (λ x. t) ls
closing_same t u v h [] = refl
closing_same t u v h (l ∷ ls) =
    let atom = read_same t (apply_atom (u 0) l.atom) (apply_atom (v 0) l.atom) (unified_variants u v h l.atom) in
    let later = closing_same t u v h ls in
    λ i. record { positive = l.positive; atom = atom i } ∷ later i

pub closing_unique : (problem : ProblemValue) (context : Context) (c : ℕ) (tuple : List ℕ) (ls ms : List Literal) → IsClosingInstance problem context c tuple ls → IsClosingInstance problem context c tuple ms → ls ≡ ms
closing_unique problem context c tuple ls ms f g =
    let same = clause_same problem c f.clause g.clause f.clause_at g.clause_at in
    let P : ClauseValue → Type 0 = λ z. IsUnifier context z.literals (positions_of None tuple) g.family in
    let turn = renamed context f.clause.literals (positions_of None tuple) f.family g.family f.unifier (subst P (sym same) g.unifier) in
    f.is_instance ∙ (closing_same (constant problem.c0) f.family g.family turn f.clause.literals
    ∙ (ap (λ (z : ClauseValue). instance_of g.family (λ x. constant problem.c0) z.literals) same ∙ sym g.is_instance))

-- ---- membership
pub Has : List ℕ → ℕ → Type 0
Has [] x = ⊥
Has (y ∷ ys) x = (y ≡ x) ⊎ Has ys x

equal_decided : (m n : ℕ) → (m ≡ n) ⊎ (¬ (m ≡ n))
equal_decided zero zero = inl refl
equal_decided zero (suc n) = inr (λ h. omega (arith, h))
equal_decided (suc m) zero = inr (λ h. omega (arith, h))
equal_decided (suc m) (suc n) =
    elim (equal_decided m n) as (λ _. (suc m ≡ suc n) ⊎ (¬ (suc m ≡ suc n))) [ inl h ↦ inl (ap suc h) | inr h ↦ inr (λ g. h (omega (arith, g))) ]

pub has_decided : (xs : List ℕ) (x : ℕ) → Has xs x ⊎ (¬ Has xs x)
unfolding Has
has_decided [] x = inr (λ h. h)
has_decided (y ∷ ys) x =
    elim (equal_decided y x) as (λ _. Has (y ∷ ys) x ⊎ (¬ Has (y ∷ ys) x)) [
      | inl h ↦ inl (inl h)
      | inr here ↦ elim (has_decided ys x) as (λ _. Has (y ∷ ys) x ⊎ (¬ Has (y ∷ ys) x)) [
        | inl h ↦ inl (inr h)
        | inr later ↦ inr (λ h. elim h as (λ _. ⊥) [ inl a ↦ here a | inr b ↦ later b ])
      ]
    ]

has_at : (xs : List ℕ) (x k : ℕ) → k < length xs → get_or xs k x ≡ x → Has xs x
unfolding Has
has_at [] x k lt h = absurd (omega arith)
has_at (y ∷ ys) x zero lt h = inl h
has_at (y ∷ ys) x (suc k) lt h = inr (has_at ys x k (omega arith) h)

pub lacks : (xs : List ℕ) (x : ℕ) → ¬ Has xs x → ¬ Contains xs x
lacks xs x h c = h (has_at xs x c.0 c.1 c.2)

pub each_has : (P : ℕ → Type 0) (xs : List ℕ) (x : ℕ) → Each P xs → Has xs x → P x
unfolding Each Has
each_has P [] x f h = absurd h
each_has P (y ∷ ys) x f (inl h) = subst P h f.0
each_has P (y ∷ ys) x f (inr h) = each_has P ys x f.1 h

has_name : (there back : Substitution) (xs : List ℕ) (x : ℕ) → Each (Good there back) xs → Good there back x → Has (map (name there back) xs) (name there back x) → Has xs x
unfolding Each Has
has_name there back [] x f g h = h
has_name there back (y ∷ ys) x f g (inl h) = inl (name_injective there back y x f.0 g h)
has_name there back (y ∷ ys) x f g (inr h) = inr (has_name there back ys x f.1 g h)

-- ---- an asserted entry's instance
module _ (t : TermValue) (there back : Substitution) (f g : Substitution) (xs : Arguments) (goods : Each (Good there back) (variables_of xs)) (same : apply_arguments f xs ≡ apply_arguments (followed_by there g) xs) (mine : (x : ℕ) → ¬ Contains (variables_of xs) x → f x ≡ t) (theirs : (x : ℕ) → ¬ Contains (variables_of (apply_arguments there xs)) x → g x ≡ t) where
  outside : (x : ℕ) → Good there back x → ¬ Has (variables_of xs) x → ¬ Contains (variables_of (apply_arguments there xs)) (name there back x)
  outside x h lack =
      let P : List ℕ → Type 0 = λ ns. ¬ Contains ns (name there back x) in
      subst P (sym (renamed_variables_all there back xs goods)) (lacks (map (name there back) (variables_of xs)) (name there back x) (λ k. lack (has_name there back (variables_of xs) x goods h k)))

  agree_at : (x : ℕ) → Good there back x → f x ≡ followed_by there g x
  unfolding Good name name_of
  agree_at x h =
      elim (has_decided (variables_of xs) x) as (λ _. f x ≡ followed_by there g x) [
        | inl k ↦ each_has (λ y. f y ≡ followed_by there g y) (variables_of xs) x (agree_variables_all f (followed_by there g) xs same) k
        | inr lack ↦ mine x (lacks (variables_of xs) x lack) ∙ (sym (theirs (name there back x) (outside x h lack)) ∙ ap (apply_term g) (sym h.0))
      ]

  pub agree_on : (zs : Arguments) → Each (Good there back) (variables_of zs) → apply_arguments f zs ≡ apply_arguments g (apply_arguments there zs)
  agree_on zs good_zs =
      variables_agree_all f (followed_by there g) zs (each_map (Good there back) (λ x. f x ≡ followed_by there g x) agree_at (variables_of zs) good_zs)
      ∙ arguments_followed there g zs

asked_literal : (t : TermValue) (u v : Family) (f g : Substitution) (l : Literal) (asked : Literal) → Renamed u v → apply_literal f (unified u l) ≡ asked → apply_literal g (unified v l) ≡ asked → ((x : ℕ) → ¬ Contains (variables_of (unified u l).atom.args) x → f x ≡ t) → ((x : ℕ) → ¬ Contains (variables_of (unified v l).atom.args) x → g x ≡ t) → (m : Literal) → apply_literal f (unified u m) ≡ apply_literal g (unified v m)
unfolding unified_variants
asked_literal t u v f g l asked h at at' mine theirs m =
    let variants = unified_variants u v h l.atom in
    let others = unified_variants u v h m.atom in
    let xs = (unified u l).atom.args in
    let ys = (unified v l).atom.args in
    let turned : apply_arguments h.there xs ≡ ys = ap (λ (c : AtomValue). c.args) variants.to in
    let theirs_there : (x : ℕ) → ¬ Contains (variables_of (apply_arguments h.there xs)) x → g x ≡ t =
    let P : Arguments → Type 0 = λ zs. (x : ℕ) → ¬ Contains (variables_of zs) x → g x ≡ t in subst P (sym turned) theirs in
    let same : apply_arguments f xs ≡ apply_arguments (followed_by h.there g) xs =
    ap (λ (c : Literal). c.atom.args) (at ∙ sym at') ∙ (ap (apply_arguments g) (sym turned) ∙ sym (arguments_followed h.there g xs)) in
    let args : apply_arguments f (unified u m).atom.args ≡ apply_arguments g (apply_arguments h.there (unified u m).atom.args) =
    agree_on t h.there h.back f g xs (all_good _ _ variants) same mine theirs_there (unified u m).atom.args (all_good _ _ others) in
    let whole : apply_arguments f (unified u m).atom.args ≡ apply_arguments g (unified v m).atom.args = args ∙ ap (λ (c : AtomValue). apply_arguments g c.args) others.to in
    λ i. record { positive = m.positive; atom = record { pred = m.atom.pred; args = whole i } }

asked_all : (u v : Family) (f g : Substitution) → ((m : Literal) → apply_literal f (unified u m) ≡ apply_literal g (unified v m)) → (ls : List Literal) → instance_of u f ls ≡ instance_of v g ls
asked_all u v f g h [] = refl
asked_all u v f g h (l ∷ ls) = λ i. h l i ∷ asked_all u v f g h ls i

pub asked_unique : (problem : ProblemValue) (context : Context) (c place : ℕ) (tuple : List ℕ) (asked : Literal) (ls ms : List Literal) → IsAskedInstance problem context c place tuple asked ls → IsAskedInstance problem context c place tuple asked ms → ls ≡ ms
asked_unique problem context c place tuple asked ls ms f g =
    let same = clause_same problem c f.clause g.clause f.clause_at g.clause_at in
    let P : ClauseValue → Type 0 = λ z. IsUnifier context z.literals (positions_of (Some place) tuple) g.family in
    let turn = renamed context f.clause.literals (positions_of (Some place) tuple) f.family g.family f.unifier (subst P (sym same) g.unifier) in
    let Q : ClauseValue → Type 0 = λ z. slice_get z.literals place ≡ Some g.literal in
    let literals = literal_same f.clause.literals place f.literal g.literal f.literal_at (subst Q (sym same) g.literal_at) in
    let R : Literal → Type 0 = λ l. (apply_literal g.matching (unified g.family l) ≡ asked) × ((x : ℕ) → ¬ Contains (variables_of (unified g.family l).atom.args) x → g.matching x ≡ constant problem.c0) in
    let moved = subst R (sym literals) (g.matches, g.others) in
    f.is_instance
    ∙ (asked_all f.family g.family f.matching g.matching (asked_literal (constant problem.c0) f.family g.family f.matching g.matching f.literal asked turn f.matches moved.0 f.others moved.1) f.clause.literals
    ∙ (ap (λ (z : ClauseValue). instance_of g.family g.matching z.literals) same ∙ sym g.is_instance))

-- ---- the queue
record Adding (problem : ProblemValue) (context : Context) (before : List Demand) (d : Demand) (waiting : List Demand) (list : List InstanceValue) : Type 0 where
  c : ℕ
  place : ℕ
  tuple : List ℕ
  literals : List Literal
  rest : List InstanceValue
  fresh : ¬ Contains before d
  asserted : IsAsserted context d.0 c place tuple
  asked : IsAskedInstance problem context c place tuple d.1 literals
  later : Adds problem context (d ∷ before) (waiting ++ demands literals (positions_of (Some place) tuple)) rest
  is_list : list ≡ record { clause = c; literals = literals } ∷ rest

-- what a list says of the queue that made it
Turn : ProblemValue → Context → List Demand → List Demand → List InstanceValue → Type 0
Turn problem context before [] list = list ≡ []
Turn problem context before (d ∷ waiting) list =
    (AddsNothing context before d × Adds problem context before waiting list) ⊎ Adding problem context before d waiting list

turn : {problem : ProblemValue} {context : Context} {before waiting : List Demand} {list : List InstanceValue} → Adds problem context before waiting list → Turn problem context before waiting list
unfolding Turn
turn none_waits = refl
turn (passes f g) = inl (f, g)
turn (adds {c = c} {place = place} {tuple = tuple} {literals = literals} {list = list} fresh a k later) =
    inr (record { c = c; place = place; tuple = tuple; literals = literals; rest = list; fresh = fresh; asserted = a; asked = k; later = later; is_list = refl })

asserted_same : (context : Context) (k c c' place place' : ℕ) (tuple tuple' : List ℕ) → IsAsserted context k c place tuple → IsAsserted context k c' place' tuple' → (c ≡ c') × (place ≡ place') × (tuple ≡ tuple')
asserted_same context k c c' place place' tuple tuple' f g =
    let same : f.0 ≡ g.0 = same_Some f.0 g.0 (sym f.1 ∙ g.1) in
    let reasons : Asserted c place tuple ≡ Asserted c' place' tuple' = sym f.2 ∙ (ap (λ (e : EntryValue). e.reason) same ∙ g.2) in
    (cc reasons, cc reasons, cc reasons)

not_both : (context : Context) (before : List Demand) (d : Demand) (c place : ℕ) (tuple : List ℕ) → AddsNothing context before d → ¬ Contains before d → IsAsserted context d.0 c place tuple → ⊥
not_both context before d c place tuple h fresh a =
    elim h as (λ _. ⊥) [ inl again ↦ fresh again | inr none ↦ none c place tuple a ]

-- the clause, place, tuple and literals of an instance that is added
Parts : Type 0
Parts = ℕ × ℕ × List ℕ × List Literal

adding_same : (problem : ProblemValue) (context : Context) (before : List Demand) (d : Demand) (waiting : List Demand) (list : List InstanceValue) (c place : ℕ) (tuple : List ℕ) (literals : List Literal) → IsAsserted context d.0 c place tuple → IsAskedInstance problem context c place tuple d.1 literals → (h : Adding problem context before d waiting list) → (c ≡ h.c) × (place ≡ h.place) × (tuple ≡ h.tuple) × (literals ≡ h.literals)
adding_same problem context before d waiting list c place tuple literals a k h =
    let same = asserted_same context d.0 c h.c place h.place tuple h.tuple a h.asserted in
    let P : ℕ × ℕ × List ℕ → Type 0 = λ z. IsAskedInstance problem context z.0 z.1 z.2 d.1 literals in
    let moved : IsAskedInstance problem context h.c h.place h.tuple d.1 literals = subst P (λ n. (same.0 n, same.1 n, same.2 n)) k in
    (same.0, same.1, same.2, asked_unique problem context h.c h.place h.tuple d.1 literals h.literals moved h.asked)

pub adds_unique : {problem : ProblemValue} {context : Context} {before waiting : List Demand} {list : List InstanceValue} → Adds problem context before waiting list → (other : List InstanceValue) → Adds problem context before waiting other → list ≡ other
unfolding Turn
adds_unique none_waits other g = sym (turn g)
adds_unique {problem} {context} (passes {before = before} {waiting = waiting} {d = d} {list = list} f later) other g =
    elim (turn g) as (λ _. list ≡ other) [
      | inl h ↦ adds_unique later other h.1
      | inr h ↦ absurd (not_both context before d h.c h.place h.tuple f h.fresh h.asserted)
    ]
adds_unique {problem} {context} (adds {before = before} {waiting = waiting} {d = d} {c = c} {place = place} {tuple = tuple} {literals = literals} {list = list} fresh a k later) other g =
    elim (turn g) as (λ _. record { clause = c; literals = literals } ∷ list ≡ other) [
      | inl h ↦ absurd (not_both context before d c place tuple h.0 fresh a)
      | inr h ↦
          let same = adding_same problem context before d waiting other c place tuple literals a k h in
          let P : ℕ × List ℕ × List Literal → Type 0 = λ z. Adds problem context (d ∷ before) (waiting ++ demands z.2 (positions_of (Some z.0) z.1)) h.rest in
          let moved = subst P (λ n. (sym same.1 n, sym same.2 n, sym same.3 n)) h.later in
          let rest = adds_unique later h.rest moved in
          (λ n. record { clause = same.0 n; literals = same.3 n } ∷ rest n) ∙ sym h.is_list
    ]

pub leaf_unique : (problem : ProblemValue) (context : Context) (c : ℕ) (tuple : List ℕ) (list other : List InstanceValue) → IsLeafList problem context c tuple list → IsLeafList problem context c tuple other → list ≡ other
leaf_unique problem context c tuple list other f g =
    let literals = closing_unique problem context c tuple f.0 g.0 f.2 g.2 in
    let P : List Literal → Type 0 = λ ls. Adds problem context [] (demands ls (positions_of None tuple)) g.1 in
    let added = adds_unique f.3 g.1 (subst P (sym literals) g.3) in
    f.4 ∙ ((λ n. first_occurrences (record { clause = c; literals = literals n } ∷ added n)) ∙ sym g.4)

-- ---- the tree
-- what a step says of the outcome
Says : ProblemValue → Bounds → Context → NextValue → TreeOutcome → Type 0
Says problem bounds context (Close c tuple) outcome = (list : List InstanceValue) × IsLeafList problem context c tuple list × (outcome ≡ Closed list)
Says problem bounds context (Assert e) outcome = HasOutcome problem bounds (add context e) outcome
Says problem bounds context (Split l kind) outcome =
    (left : TreeOutcome) × (right : TreeOutcome) × HasOutcome problem bounds (left_of context l kind) left
    × HasOutcome problem bounds (right_of context l kind) right × (outcome ≡ both left right)
Says problem bounds context Exhausted outcome = outcome ≡ Sat context
Says problem bounds context (Bounded b) outcome = outcome ≡ Met b

says : {problem : ProblemValue} {bounds : Bounds} {context : Context} {outcome : TreeOutcome} → HasOutcome problem bounds context outcome → (s : NextValue) × IsNext problem bounds context s × Says problem bounds context s outcome
unfolding Says
says (closes {c = c} {tuple = tuple} {list = list} next leaf) = (Close c tuple, next, (list, leaf, refl))
says (is_exhausted next) = (Exhausted, next, refl)
says (is_bounded {b = b} next) = (Bounded b, next, refl)
says (asserts {e = e} next later) = (Assert e, next, later)
says (splits {l = l} {kind = kind} {left = left} {right = right} next f g e) = (Split l kind, next, (left, right, f, g, e))

-- what another outcome says of this step
same_step : (problem : ProblemValue) (bounds : Bounds) (context : Context) (s : NextValue) (other : TreeOutcome) → IsNext problem bounds context s → HasOutcome problem bounds context other → Says problem bounds context s other
same_step problem bounds context s other next h =
    let x = says h in
    let P : NextValue → Type 0 = λ t. Says problem bounds context t other in
    subst P (next_unique problem bounds context x.0 s x.1 next) x.2

pub outcome_unique : {problem : ProblemValue} {bounds : Bounds} {context : Context} {outcome : TreeOutcome} → HasOutcome problem bounds context outcome → (other : TreeOutcome) → HasOutcome problem bounds context other → outcome ≡ other
unfolding Says
outcome_unique {problem} {bounds} (closes {context = context} {c = c} {tuple = tuple} {list = list} next leaf) other h =
    let x = same_step problem bounds context (Close c tuple) other next h in
    ap (λ (l : List InstanceValue). Closed l) (leaf_unique problem context c tuple list x.0 leaf x.1) ∙ sym x.2
outcome_unique {problem} {bounds} (is_exhausted {context = context} next) other h = sym (same_step problem bounds context Exhausted other next h)
outcome_unique {problem} {bounds} (is_bounded {context = context} {b = b} next) other h = sym (same_step problem bounds context (Bounded b) other next h)
outcome_unique {problem} {bounds} (asserts {context = context} {e = e} next later) other h =
    outcome_unique later other (same_step problem bounds context (Assert e) other next h)
outcome_unique {problem} {bounds} (splits {context = context} {l = l} {kind = kind} {left = left} {right = right} next f g e) other h =
    let x = same_step problem bounds context (Split l kind) other next h in
    let lefts = outcome_unique f x.0 x.2 in
    let rights = outcome_unique g x.1 x.3 in
    e ∙ ((λ n. both (lefts n) (rights n)) ∙ sym x.4)

pub answer_unique : (problem : ProblemValue) (bounds : Bounds) (reply other : AnswerValue) → HasAnswer problem bounds reply → HasAnswer problem bounds other → reply ≡ other
answer_unique problem bounds reply other f g = f.2 ∙ (ap (answer_of bounds) (outcome_unique f.1 g.0 g.1) ∙ sym g.2)
