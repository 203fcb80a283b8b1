-- Whether clauses close is decided, and a first one that does is found.
use Rattle.std.proofs.Common.{◌≡◌, ℕ, zero, suc, ◌+◌, ◌≤◌, ◌⊎◌, inl, inr, List, [], ◌∷◌, length, slice_get, Option, Some, None, refl, subst, ◌∙◌, arith}
use Rattle.std.proofs.lemmas.Option.{slice_get_within, same_Some}
use Rattle.me_terms.specs.Substitutions.{Family}
use Rattle.me_terms.specs.Values.{ProblemValue, ClauseValue}
use Rattle.me_terms.specs.Context.{Context}
use Rattle.me_terms.specs.Positions.{AreOpposite, positions_of, ClauseAt}
use Rattle.me_terms.specs.Unifier.{IsContextUnifier}
use Rattle.me_terms.specs.Remainder.{remainder}
use Rattle.me_terms.specs.Close.{IsClose, HasClose}
use Rattle.me_terms.specs.Order.{clause_key, IsLeastClose}
use Rattle.me_laws.proofs.Decisions.{both_decided}
use Rattle.me_laws.proofs.Determined.{Renamed, renamed, remainder_same, clause_same}
use Rattle.me_laws_existence.proofs.Solvable.{same_number}
use Rattle.me_laws_existence.proofs.Best.{Among, best, precedes_itself}
use Rattle.me_laws_existence.proofs.Codes.{Code, codes, among_codes}
use Rattle.me_laws_existence.proofs.Opposed.{context_unifier_decided, tuple_within, tuple_long}

-- ---- all clauses, places and tuples
unfoldable pub longest : List ClauseValue → ℕ
longest [] = 0
longest (x ∷ xs) = length x.literals + longest xs

pub is_long : (xs : List ClauseValue) (c : ℕ) (x : ClauseValue) → slice_get xs c ≡ Some x → length x.literals ≤ longest xs
unfolding longest
is_long [] c x h = cc h
is_long (y ∷ ys) zero x h = let P : ClauseValue → Type 0 = λ z. length z.literals ≤ longest (y ∷ ys) in subst P (same_Some y x h) (omega arith)
is_long (y ∷ ys) (suc c) x h = let later = is_long ys c x h in omega (arith, later)

pub candidates : ProblemValue → Context → List Code
candidates problem context = codes (length problem.clauses) (suc (longest problem.clauses)) (length context)

pub among_candidates : (problem : ProblemValue) (context : Context) (c place : ℕ) (tuple : List ℕ) (x : ClauseValue) (skip : Option ℕ) → ClauseAt problem c x → place ≤ length x.literals → AreOpposite context x.literals (positions_of skip tuple) → Among (c, place, tuple) (candidates problem context)
unfolding candidates
among_candidates problem context c place tuple x skip at within h =
    let long = is_long problem.clauses c x at in
    let short = tuple_long skip tuple in
    among_codes (length problem.clauses) (suc (longest problem.clauses)) (length context) c place tuple
    (slice_get_within problem.clauses c x at) (omega (arith, long, within)) (omega (arith, short, long, h.each_place))
    (tuple_within context x.literals skip tuple h)

-- ---- unifiers of one clause and tuple
pub moved : (problem : ProblemValue) (context : Context) (c : ℕ) (skip : Option ℕ) (tuple : List ℕ) (x y : ClauseValue) (v : Family) → ClauseAt problem c x → ClauseAt problem c y → IsContextUnifier context y.literals skip tuple v → IsContextUnifier context x.literals skip tuple v
moved problem context c skip tuple x y v at at' g =
    let P : ClauseValue → Type 0 = λ z. IsContextUnifier context z.literals skip tuple v in subst P (clause_same problem c y x at' at) g

pub turn : (problem : ProblemValue) (context : Context) (c : ℕ) (skip : Option ℕ) (tuple : List ℕ) (x y : ClauseValue) (u v : Family) → ClauseAt problem c x → ClauseAt problem c y → IsContextUnifier context x.literals skip tuple u → IsContextUnifier context y.literals skip tuple v → Renamed u v
turn problem context c skip tuple x y u v at at' f g =
    renamed context x.literals (positions_of skip tuple) u v f.unifier (moved problem context c skip tuple x y v at at' g).unifier

pub empty_decided : (xs : List ℕ) → (xs ≡ []) ⊎ (¬ (xs ≡ []))
empty_decided [] = inl refl
empty_decided (x ∷ xs) = inr (λ h. cc h)

-- ---- Close
close_empty : (problem : ProblemValue) (context : Context) (c : ℕ) (tuple : List ℕ) (x : ClauseValue) (u : Family) → ClauseAt problem c x → IsContextUnifier context x.literals None tuple u → (remainder context (positions_of None tuple) u ≡ []) ⊎ (¬ (remainder context (positions_of None tuple) u ≡ [])) → IsClose problem context c tuple ⊎ (¬ IsClose problem context c tuple)
close_empty problem context c tuple x u at h (inl none) = inl (record { clause = x; family = u; clause_at = at; unifier = h; no_remainder = none })
close_empty problem context c tuple x u at h (inr some) =
    inr (λ g. some (remainder_same context (positions_of None tuple) u g.family (turn problem context c None tuple x g.clause u g.family at g.clause_at h g.unifier) ∙ g.no_remainder))

close_with : (problem : ProblemValue) (context : Context) (c : ℕ) (tuple : List ℕ) (x : ClauseValue) → ClauseAt problem c x → ((u : Family) × IsContextUnifier context x.literals None tuple u) ⊎ (¬ ((u : Family) × IsContextUnifier context x.literals None tuple u)) → IsClose problem context c tuple ⊎ (¬ IsClose problem context c tuple)
close_with problem context c tuple x at (inl h) = close_empty problem context c tuple x h.0 at h.1 (empty_decided (remainder context (positions_of None tuple) h.0))
close_with problem context c tuple x at (inr never) = inr (λ g. never (g.family, moved problem context c None tuple x g.clause g.family at g.clause_at g.unifier))

close_by : (problem : ProblemValue) (context : Context) (c : ℕ) (tuple : List ℕ) (o : Option ClauseValue) → slice_get problem.clauses c ≡ o → IsClose problem context c tuple ⊎ (¬ IsClose problem context c tuple)
close_by problem context c tuple None e = inr (λ h. cc (e, h.clause_at))
close_by problem context c tuple (Some x) e = close_with problem context c tuple x e (context_unifier_decided context x.literals None tuple)

abbrev Closing : ProblemValue → Context → Code → Type 0
Closing problem context a = (a.1 ≡ 0) × IsClose problem context a.0 a.2

closing_among : (problem : ProblemValue) (context : Context) (a : Code) → Closing problem context a → Among a (candidates problem context)
closing_among problem context a h =
    among_candidates problem context a.0 a.1 a.2 h.1.clause None h.1.clause_at (omega (arith, h.0)) h.1.unifier.opposite

pub least_close : (problem : ProblemValue) (context : Context) → ((c : ℕ) × (tuple : List ℕ) × IsLeastClose problem context c tuple) ⊎ (¬ HasClose problem context)
least_close problem context =
    elim (best Code (Closing problem context) (λ a r. clause_key a.0 a.2) (λ a r s. precedes_itself (clause_key a.0 a.2)) (λ a. both_decided _ _ (same_number a.1 0) (close_by problem context a.0 a.2 (slice_get problem.clauses a.0) refl)) (candidates problem context) (closing_among problem context)) as (λ _. ((c : ℕ) × (tuple : List ℕ) × IsLeastClose problem context c tuple) ⊎ (¬ HasClose problem context)) [
      | inl m ↦ inl (m.at.0, m.at.2, (m.holds.1, λ c tuple h. m.least (c, 0, tuple) (refl, h)))
      | inr none ↦ inr (λ h. none (h.0, 0, h.1) (refl, h.2))
    ]
