-- What posted keys and legal Cuts spare.
use Rattle.std.proofs.Common.{◌≡◌, ℕ, ◌<◌, min, ◌⊎◌, inl, inr, true, false, List, [], ◌∷◌, ◌++◌, Option, Some, None, refl, sym, subst, ◌∙◌, arith}
use Rattle.std.proofs.lemmas.Option.{same_Some}
use Rattle.me_terms.specs.Outcome as outcome
use Rattle.branch_core.specs.Core.{CoreValue, least_with}
use Rattle.branch_core.specs.Paths.{Turns, key, IsLeftOf}
use Rattle.branch_core.specs.Runs.{Log, Posting, IsOrderly, begins, offers, takes, posts, cuts, ends}
use Rattle.branch_core.specs.SearchTree.{SearchTree, Leaf, subtree}
use Rattle.branch_core.proofs.PathOrder.{keys_order}
use Rattle.run_laws.specs.SparedLeaves.{PostedKeysSpare, LegalCutsSpare}
use Rattle.run_laws.proofs.Members.{Has, has, is_in, has_left, has_right, has_either}

-- the leaf of each posting is exhausted
pub is_exhausted : {list_bound share : ℕ} {search : SearchTree} {core : CoreValue} {log : Log} → IsOrderly list_bound share search core log
    → (p : Posting) → Has p log.postings → subtree search p.leaf ≡ Some (Leaf (outcome.Sat p.context))
is_exhausted begins p h = absurd h
is_exhausted (offers by parent path run legal right) p h = is_exhausted run p h
is_exhausted (takes by path run legal) p h = is_exhausted run p h
is_exhausted (cuts by node least run legal) p h = is_exhausted run p h
is_exhausted (ends by account run legal orderly) p h = is_exhausted run p h
is_exhausted {search = search} (posts {log = log} by posting run held own) p h =
    elim (has_either p log.postings (posting ∷ []) h) as (λ _. subtree search p.leaf ≡ Some (Leaf (outcome.Sat p.context))) [
      | inl old ↦ is_exhausted run p old
      | inr new ↦ elim new as (λ _. subtree search p.leaf ≡ Some (Leaf (outcome.Sat p.context))) [
        | inl e ↦ subst (λ (z : Posting). subtree search z.leaf ≡ Some (Leaf (outcome.Sat z.context))) (sym e) own.1
        | inr none ↦ absurd none
      ]
    ]

-- the key was posted
abbrev WasPosted : List Posting → ℕ → Type 0
WasPosted postings least = (p : Posting) × Has p postings × (key p.leaf ≡ least)

least_of : (m n : ℕ) → (min m n ≡ m) ⊎ (min m n ≡ n)
least_of m n = grind arith

-- the least key was posted
least_posted : {list_bound share : ℕ} {search : SearchTree} {core : CoreValue} {log : Log} → IsOrderly list_bound share search core log
    → (least : ℕ) → core.least ≡ Some least → WasPosted log.postings least
least_posted begins least e = absurd cc
least_posted (offers by parent path run legal right) least e = least_posted run least e
least_posted (takes by path run legal) least e = least_posted run least e
least_posted (cuts by node least run legal) other e = least_posted run other e
least_posted (ends by account run legal orderly) least e = least_posted run least e
least_posted (posts {core = core} {log = log} by posting run held own) least e = go core.least (least_posted run) (same_Some (least_with core.least (key posting.leaf)) least e)
  where
    newest : WasPosted (log.postings ++ posting ∷ []) (key posting.leaf)
    newest = (posting, has_right posting log.postings (posting ∷ []) (inl refl), refl)

    go : (o : Option ℕ) → ((n : ℕ) → o ≡ Some n → WasPosted log.postings n) → least_with o (key posting.leaf) ≡ least → WasPosted (log.postings ++ posting ∷ []) least
    go None old is = subst (WasPosted (log.postings ++ posting ∷ [])) is newest
    go (Some n) old is =
        elim (least_of n (key posting.leaf)) as (λ _. WasPosted (log.postings ++ posting ∷ []) least) [
          | inl first ↦ let was = old n refl in (was.0, has_left was.0 log.postings (posting ∷ []) was.1, was.2 ∙ sym first ∙ is)
          | inr last ↦ subst (WasPosted (log.postings ++ posting ∷ [])) (sym last ∙ is) newest
        ]

left_of_all : (other turns rest : Turns) → IsLeftOf other turns → IsLeftOf other (turns ++ rest)
left_of_all [] turns rest h = absurd h
left_of_all (t ∷ other) [] rest h = absurd h
left_of_all (false ∷ other) (false ∷ turns) rest h = left_of_all other turns rest h
left_of_all (false ∷ other) (true ∷ turns) rest h = tt
left_of_all (true ∷ other) (false ∷ turns) rest h = absurd h
left_of_all (true ∷ other) (true ∷ turns) rest h = left_of_all other turns rest h

pub posted_spare : PostedKeysSpare
posted_spare list_bound share search core log cut_key turns run posted leaf first begun =
    let p = posted.0 in
    let left = subst (IsLeftOf p.leaf) (sym begun.1) (left_of_all p.leaf turns begun.0 posted.3) in
    first.first p.leaf p.context (is_exhausted run p (has p log.postings posted.1)) left

pub legal_spare : LegalCutsSpare
legal_spare list_bound share search below core log by node least run legal at =
    let was = least_posted run least legal.0 in
    let exhausted = is_exhausted run was.0 was.1 in
    let left = keys_order search was.0.leaf node (outcome.Sat was.0.context) below exhausted at (subst (λ (n : ℕ). n < key node) (sym was.2) legal.1) in
    posted_spare list_bound share search core log least node run (was.0, is_in was.0 log.postings was.1, was.2, left)
