-- The records that a closed orderly run keeps are whole.
use Rattle.std.proofs.Common.{◌≡◌, ℕ, zero, suc, Bool, true, false, ◌⊎◌, inl, inr, List, [], ◌∷◌, ◌++◌, map, length, Some, slice_get, refl, sym, subst, ap, ◌∙◌}
use Rattle.me_terms.specs.TermEqualityLaws.{both_parts}
use Rattle.branch_core.specs.Paths.{Turns, key, IsLeftOf, ProperlyBegins}
use Rattle.branch_core.specs.SearchTree.{SearchTree, Leaf, subtree}
use Rattle.me_terms.specs.Outcome as outcome
use Rattle.branch_core.specs.Pieces.{Piece, Gift, Sat}
use Rattle.branch_core.specs.Replaced.{Replaced, own_leaf, own_node, given, cut, no_memory}
use Rattle.branch_core.specs.StandsFor.{Account, record_of, StandsFor}
use Rattle.branch_core.specs.Whole.{IsIn, IsLicensed, AreWhole}
use Rattle.branch_core.specs.Core.{StateValue, Unknown, Offered, Held, Ended, CoreValue, first_states, bool_eq, turns_eq, with_state}
use Rattle.branch_core.specs.Runs.{Log, Offering, Posting, IsPosted, SparesFirst, IsOrderly, begins, offers, takes, posts, cuts, ends, HasNoneLeft}
use Rattle.branch_core.specs.RunLaws.{ClosedRunsKeepWhole, OrderlyRunsAreRight}

-- ---- turns and states
bool_sound : (a b : Bool) → bool_eq a b ≡ true → a ≡ b
bool_sound true true h = refl
bool_sound true false h = cc
bool_sound false true h = cc
bool_sound false false h = refl

pub turns_sound : (s t : Turns) → turns_eq s t ≡ true → s ≡ t
turns_sound [] [] h = refl
turns_sound [] (b ∷ t) h = cc
turns_sound (a ∷ s) [] h = cc
turns_sound (a ∷ s) (b ∷ t) h =
    let parts = both_parts (bool_eq a b) (turns_eq s t) h in λ i. bool_sound a b parts.0 i ∷ turns_sound s t parts.1 i

pub turns_same : (s : Turns) → turns_eq s s ≡ true
turns_same [] = refl
turns_same (true ∷ s) = turns_same s
turns_same (false ∷ s) = turns_same s

bool_cases : (b : Bool) → (b ≡ true) ⊎ (b ≡ false)
bool_cases true = inl refl
bool_cases false = inr refl

pub state_here : (states : Turns → StateValue) (path : Turns) (s : StateValue) → with_state states path s path ≡ s
state_here states path s = simp (turns_same path)

state_cases : (states : Turns → StateValue) (path : Turns) (s : StateValue) (other : Turns) → ((path ≡ other) × (with_state states path s other ≡ s)) ⊎ (with_state states path s other ≡ states other)
state_cases states path s other =
    elim (bool_cases (turns_eq path other)) as (λ _. ((path ≡ other) × (with_state states path s other ≡ s)) ⊎ (with_state states path s other ≡ states other)) [
      | inl h ↦ inl (turns_sound path other h, simp h)
      | inr h ↦ inr (simp h)
    ]

-- the turns are the other ones, or a state is changed elsewhere
pub turns_cases : (path other : Turns) → (path ≡ other) ⊎ ((¬ (path ≡ other)) × ((states : Turns → StateValue) (s : StateValue) → with_state states path s other ≡ states other))
turns_cases path other =
    elim (bool_cases (turns_eq path other)) as (λ _. (path ≡ other) ⊎ ((¬ (path ≡ other)) × ((states : Turns → StateValue) (s : StateValue) → with_state states path s other ≡ states other))) [
      | inl h ↦ inl (turns_sound path other h)
      | inr h ↦
          let apart : ¬ (path ≡ other) = λ e. let P : Turns → Type 0 = λ t. turns_eq path t ≡ true in cc (sym (subst P e (turns_same path)) ∙ h) in
          inr (apart, λ states s. simp h)
    ]

-- Held or Ended.
abbrev pub IsTaken : StateValue → Type 0
IsTaken Unknown = ⊥
IsTaken Offered = ⊥
IsTaken (Held by) = Unit {0}
IsTaken Ended = Unit {0}

module _ (states : Turns → StateValue) (path : Turns) (s : StateValue) where
  known_kept : ¬ (s ≡ Unknown) → (other : Turns) → ¬ (states other ≡ Unknown) → ¬ (with_state states path s other ≡ Unknown)
  known_kept g other h e =
      elim (state_cases states path s other) as (λ _. ⊥) [ inl x ↦ g (sym x.1 ∙ e) | inr x ↦ h (sym x ∙ e) ]

  taken_kept : (IsTaken (states path) → IsTaken s) → (other : Turns) → IsTaken (states other) → IsTaken (with_state states path s other)
  taken_kept g other h =
      elim (state_cases states path s other) as (λ _. IsTaken (with_state states path s other)) [
        | inl x ↦ subst IsTaken (sym x.1) (g (let P : Turns → Type 0 = λ t. IsTaken (states t) in subst P (sym x.0) h))
        | inr x ↦ subst IsTaken (sym x) h
      ]

  ended_kept : ¬ (states path ≡ Ended) → (other : Turns) → states other ≡ Ended → with_state states path s other ≡ Ended
  ended_kept g other h =
      elim (state_cases states path s other) as (λ _. with_state states path s other ≡ Ended) [
        | inl x ↦ absurd (g (ap states x.0 ∙ h))
        | inr x ↦ x ∙ h
      ]

-- ---- lists that grow at their end
pub none_in : {A : Type 0} (x : A) (k : ℕ) → ¬ (slice_get [] k ≡ Some x)
none_in x zero h = cc
none_in x (suc k) h = cc

get_left : {A : Type 0} (xs : List A) (y x : A) (k : ℕ) → slice_get xs k ≡ Some x → slice_get (xs ++ y ∷ []) k ≡ Some x
get_left [] y x k h = absurd (none_in x k h)
get_left (z ∷ xs) y x zero h = h
get_left (z ∷ xs) y x (suc k) h = get_left xs y x k h

get_last : {A : Type 0} (xs : List A) (y : A) → slice_get (xs ++ y ∷ []) (length xs) ≡ Some y
get_last [] y = refl
get_last (z ∷ xs) y = get_last xs y

get_cases : {A : Type 0} (xs : List A) (y x : A) (k : ℕ) → slice_get (xs ++ y ∷ []) k ≡ Some x → (slice_get xs k ≡ Some x) ⊎ ((k ≡ length xs) × (x ≡ y))
get_cases [] y x zero h = inr (refl, cc h)
get_cases [] y x (suc k) h = absurd (none_in x k h)
get_cases (z ∷ xs) y x zero h = inl h
get_cases (z ∷ xs) y x (suc k) h =
    elim (get_cases xs y x k h) as (λ _. (slice_get (z ∷ xs) (suc k) ≡ Some x) ⊎ ((suc k ≡ suc (length xs)) × (x ≡ y))) [ inl a ↦ inl a | inr b ↦ inr (ap suc b.0, b.1) ]

in_left : {A : Type 0} (xs : List A) (y x : A) → IsIn x xs → IsIn x (xs ++ y ∷ [])
in_left xs y x h = (h.0, get_left xs y x h.0 h.1)

in_last : {A : Type 0} (xs : List A) (y : A) → IsIn y (xs ++ y ∷ [])
in_last xs y = (length xs, get_last xs y)

in_cases : {A : Type 0} (xs : List A) (y x : A) → IsIn x (xs ++ y ∷ []) → IsIn x xs ⊎ (x ≡ y)
in_cases xs y x h = elim (get_cases xs y x h.0 h.1) as (λ _. IsIn x xs ⊎ (x ≡ y)) [ inl a ↦ inl (h.0, a) | inr b ↦ inr b.1 ]

map_append : {A B : Type 0} (f : A → B) (xs ys : List A) → map f (xs ++ ys) ≡ map f xs ++ map f ys
map_append f [] ys = refl
map_append f (x ∷ xs) ys = λ i. f x ∷ map_append f xs ys i

-- ---- more keys may cut
pub replaced_more : {P Q : ℕ → Turns → Type 0} → ((k : ℕ) (t : Turns) → P k t → Q k t) → {turns : Turns} {search : SearchTree} {ps : List Piece} → Replaced P turns search ps → Replaced Q turns search ps
replaced_more f own_leaf = own_leaf
replaced_more f (own_node g h) = own_node (replaced_more f g) (replaced_more f h)
replaced_more f given = given
replaced_more f (cut {turns = turns} {key = key} m) = cut (f key turns m)
replaced_more f no_memory = no_memory

pub stands_more : {P Q : ℕ → Turns → Type 0} (search : SearchTree) (account : Account) → ((k : ℕ) (t : Turns) → P k t → Q k t) → StandsFor P search account → StandsFor Q search account
stands_more search account f h = record { own = h.own; leaves = h.leaves; at_path = h.at_path; replaced = replaced_more f h.replaced; joined = h.joined }

-- ---- what every orderly run keeps
record Kept (n : ℕ) (search : SearchTree) (core : CoreValue) (log : Log) : Type 0 where
  known : (path : Turns) → ¬ (core.states path ≡ Unknown) → (path ≡ []) ⊎ ((o : Offering) × IsIn o log.offerings × (o.path ≡ path))
  root : ¬ (core.states [] ≡ Unknown)
  offered : (o : Offering) → IsIn o log.offerings → ¬ (core.states o.path ≡ Unknown)
  busy : (o : Offering) → IsIn o log.offerings → IsTaken (core.states o.parent)
  extends : (o : Offering) → IsIn o log.offerings → ProperlyBegins o.parent o.path
  ended : (path : Turns) → core.states path ≡ Ended → (a : Account) × IsIn a log.accounts × (a.path ≡ path)
  accounts_ended : (a : Account) → IsIn a log.accounts → core.states a.path ≡ Ended
  once : (a b : Account) (j k : ℕ) → slice_get log.accounts j ≡ Some a → slice_get log.accounts k ≡ Some b → a.path ≡ b.path → j ≡ k
  gifts_offered : (a : Account) (gift : Turns) → IsIn a log.accounts → IsIn (Gift gift) a.pieces → IsIn (record { parent = a.path; path = gift }) log.offerings
  offered_given : (a : Account) (gift : Turns) → IsIn a log.accounts → IsIn (record { parent = a.path; path = gift }) log.offerings → IsIn (Gift gift) a.pieces
  stands : (a : Account) → IsIn a log.accounts → StandsFor (IsPosted log.postings) search a
  posted : (p : Posting) → IsIn p log.postings → IsTaken (core.states p.path)
  found : (p : Posting) (a : Account) → IsIn p log.postings → IsIn a log.accounts → p.path ≡ a.path → IsIn (Sat p.leaf p.context) a.pieces
  records : core.kept ≡ map (record_of n) log.accounts
  taken_busy : (path : Turns) → IsIn path log.taken → IsTaken (core.states path)
  taken_once : (path other : Turns) (j k : ℕ) → slice_get log.taken j ≡ Some path → slice_get log.taken k ≡ Some other → path ≡ other → j ≡ k
  exhausted : (p : Posting) → IsIn p log.postings → subtree search p.leaf ≡ Some (Leaf (outcome.Sat p.context))

first_known : (path : Turns) → ¬ (first_states path ≡ Unknown) → path ≡ []
first_known [] h = refl
first_known (t ∷ path) h = absurd (h refl)

first_ended : (path : Turns) → ¬ (first_states path ≡ Ended)
first_ended [] h = cc
first_ended (t ∷ path) h = cc

kept : {n share : ℕ} {search : SearchTree} {core : CoreValue} {log : Log} → IsOrderly n share search core log → Kept n search core log
kept begins = record {
  known = λ path h. inl (first_known path h);
  root = λ h. cc h;
  offered = λ o h. absurd (none_in o h.0 h.1);
  busy = λ o h. absurd (none_in o h.0 h.1);
  extends = λ o h. absurd (none_in o h.0 h.1);
  ended = λ path h. absurd (first_ended path h);
  accounts_ended = λ a h. absurd (none_in a h.0 h.1);
  once = λ a b j k g h e. absurd (none_in a j g);
  gifts_offered = λ a gift h g. absurd (none_in a h.0 h.1);
  offered_given = λ a gift h g. absurd (none_in a h.0 h.1);
  stands = λ a h. absurd (none_in a h.0 h.1);
  posted = λ p h. absurd (none_in p h.0 h.1);
  found = λ p a g h e. absurd (none_in p g.0 g.1);
  records = refl;
  taken_busy = λ path h. absurd (none_in path h.0 h.1);
  taken_once = λ path other j k g h e. absurd (none_in path j g);
  exhausted = λ p h. absurd (none_in p h.0 h.1);
}
kept (offers {core = core} {log = log} by parent path run legal right) =
    let x = kept run in
    let offerings = log.offerings in
    let postings = log.postings in
    let accounts = log.accounts in
    let taken_list = log.taken in
    let new : Offering = record { parent = parent; path = path } in
    let states = core.states in
    let not_taken : IsTaken (states path) → IsTaken Offered = λ h. subst IsTaken legal.unknown h in
    let taken = taken_kept states path Offered not_taken in
    let known' = known_kept states path Offered (λ e. cc e) in
    let parent_taken : IsTaken (states parent) = subst IsTaken (sym legal.held) tt in
    record {
      known = λ p h. elim (state_cases states path Offered p) as (λ _. (p ≡ []) ⊎ ((o : Offering) × IsIn o (offerings ++ new ∷ []) × (o.path ≡ p))) [
        | inl e ↦ inr (new, in_last offerings new, e.0)
        | inr e ↦ elim (x.known p (λ u. h (e ∙ u))) as (λ _. (p ≡ []) ⊎ ((o : Offering) × IsIn o (offerings ++ new ∷ []) × (o.path ≡ p))) [
          | inl a ↦ inl a
          | inr b ↦ inr (b.0, in_left offerings new b.0 b.1, b.2)
        ]
      ];
      root = known' [] x.root;
      offered = λ o h. elim (in_cases offerings new o h) as (λ _. ¬ (with_state states path Offered o.path ≡ Unknown)) [
        | inl a ↦ known' o.path (x.offered o a)
        | inr e ↦
            let P : Offering → Type 0 = λ z. ¬ (with_state states path Offered z.path ≡ Unknown) in subst P (sym e) (λ u. cc (sym (state_here states path Offered) ∙ u))
      ];
      busy = λ o h. elim (in_cases offerings new o h) as (λ _. IsTaken (with_state states path Offered o.parent)) [
        | inl a ↦ taken o.parent (x.busy o a)
        | inr e ↦ let P : Offering → Type 0 = λ z. IsTaken (with_state states path Offered z.parent) in subst P (sym e) (taken parent parent_taken)
      ];
      extends = λ o h. elim (in_cases offerings new o h) as (λ _. ProperlyBegins o.parent o.path) [
        | inl a ↦ x.extends o a
        | inr e ↦ let P : Offering → Type 0 = λ z. ProperlyBegins z.parent z.path in subst P (sym e) legal.extends
      ];
      ended = λ p h. elim (state_cases states path Offered p) as (λ _. (a : Account) × IsIn a accounts × (a.path ≡ p)) [
        | inl e ↦ cc (sym e.1 ∙ h)
        | inr e ↦ x.ended p (sym e ∙ h)
      ];
      accounts_ended = λ a h. ended_kept states path Offered (λ e. cc (sym legal.unknown ∙ e)) a.path (x.accounts_ended a h);
      once = x.once;
      gifts_offered = λ a gift h g. in_left offerings new (record { parent = a.path; path = gift }) (x.gifts_offered a gift h g);
      offered_given = λ a gift h g. elim (in_cases offerings new (record { parent = a.path; path = gift }) g) as (λ _. IsIn (Gift gift) a.pieces) [
        | inl b ↦ x.offered_given a gift h b
        | inr e ↦
            let same : a.path ≡ parent = ap (λ (z : Offering). z.parent) e in
            cc (sym (x.accounts_ended a h) ∙ (ap states same ∙ legal.held))
      ];
      stands = x.stands;
      posted = λ p h. taken p.path (x.posted p h);
      found = x.found;
      records = x.records;
      taken_busy = λ p h. taken p (x.taken_busy p h);
      taken_once = x.taken_once;
      exhausted = x.exhausted;
    }
kept (takes {core = core} {log = log} by path run legal) =
    let x = kept run in
    let offerings = log.offerings in
    let postings = log.postings in
    let accounts = log.accounts in
    let taken_list = log.taken in
    let states = core.states in
    let taken = taken_kept states path (Held by) (λ _. tt) in
    let known' = known_kept states path (Held by) (λ e. cc e) in
    let fresh : (p : Turns) → IsIn p taken_list → p ≡ path → ⊥ = λ p h e. let P : Turns → Type 0 = λ z. IsTaken (states z) in subst IsTaken legal (subst P e (x.taken_busy p h)) in
    record {
      known = λ p h. elim (state_cases states path (Held by) p) as (λ _. (p ≡ []) ⊎ ((o : Offering) × IsIn o offerings × (o.path ≡ p))) [
        | inl e ↦ let P : Turns → Type 0 = λ t. (t ≡ []) ⊎ ((o : Offering) × IsIn o offerings × (o.path ≡ t)) in subst P e.0 (x.known path (λ u. cc (sym legal ∙ u)))
        | inr e ↦ x.known p (λ u. h (e ∙ u))
      ];
      root = known' [] x.root;
      offered = λ o h. known' o.path (x.offered o h);
      busy = λ o h. taken o.parent (x.busy o h);
      extends = x.extends;
      ended = λ p h. elim (state_cases states path (Held by) p) as (λ _. (a : Account) × IsIn a accounts × (a.path ≡ p)) [
        | inl e ↦ cc (sym e.1 ∙ h)
        | inr e ↦ x.ended p (sym e ∙ h)
      ];
      accounts_ended = λ a h. ended_kept states path (Held by) (λ e. cc (sym legal ∙ e)) a.path (x.accounts_ended a h);
      once = x.once;
      gifts_offered = x.gifts_offered;
      offered_given = x.offered_given;
      stands = x.stands;
      posted = λ p h. taken p.path (x.posted p h);
      found = x.found;
      records = x.records;
      taken_busy = λ p h. elim (in_cases taken_list path p h) as (λ _. IsTaken (with_state states path (Held by) p)) [
        | inl a ↦ taken p (x.taken_busy p a)
        | inr e ↦ let P : Turns → Type 0 = λ z. IsTaken (with_state states path (Held by) z) in subst P (sym e) (subst IsTaken (sym (state_here states path (Held by))) tt)
      ];
      taken_once = λ p q j k g h e. elim (get_cases taken_list path p j g) as (λ _. j ≡ k) [
        | inl old ↦ elim (get_cases taken_list path q k h) as (λ _. j ≡ k) [
          | inl also ↦ x.taken_once p q j k old also e
          | inr new ↦ absurd (fresh p (j, old) (e ∙ new.1))
        ]
        | inr new ↦ elim (get_cases taken_list path q k h) as (λ _. j ≡ k) [
          | inl old ↦ absurd (fresh q (k, old) (sym e ∙ new.1))
          | inr also ↦ new.0 ∙ sym also.0
        ]
      ];
      exhausted = x.exhausted;
    }
kept {search = search} (posts {core = core} {log = log} by posting run held own) =
    let x = kept run in
    let offerings = log.offerings in
    let postings = log.postings in
    let accounts = log.accounts in
    let taken_list = log.taken in
    let more : (k : ℕ) (t : Turns) → IsPosted postings k t → IsPosted (postings ++ posting ∷ []) k t =
    λ k t h. (h.0, in_left postings posting h.0 h.1, h.2, h.3) in
    record {
      known = x.known;
      root = x.root;
      offered = x.offered;
      busy = x.busy;
      extends = x.extends;
      ended = x.ended;
      accounts_ended = x.accounts_ended;
      once = x.once;
      gifts_offered = x.gifts_offered;
      offered_given = x.offered_given;
      stands = λ a h. stands_more search a more (x.stands a h);
      posted = λ p h. elim (in_cases postings posting p h) as (λ _. IsTaken (core.states p.path)) [
        | inl a ↦ x.posted p a
        | inr e ↦ let P : Posting → Type 0 = λ z. IsTaken (core.states z.path) in subst P (sym e) (subst IsTaken (sym held) tt)
      ];
      found = λ p a g h e. elim (in_cases postings posting p g) as (λ _. IsIn (Sat p.leaf p.context) a.pieces) [
        | inl b ↦ x.found p a b h e
        | inr same ↦
            let at : posting.path ≡ a.path = ap (λ (z : Posting). z.path) (sym same) ∙ e in cc (sym (x.accounts_ended a h) ∙ (ap core.states (sym at) ∙ held))
      ];
      records = x.records;
      taken_busy = x.taken_busy;
      taken_once = x.taken_once;
      exhausted = λ p h. elim (in_cases postings posting p h) as (λ _. subtree search p.leaf ≡ Some (Leaf (outcome.Sat p.context))) [
        | inl a ↦ x.exhausted p a
        | inr e ↦ let P : Posting → Type 0 = λ z. subtree search z.leaf ≡ Some (Leaf (outcome.Sat z.context)) in subst P (sym e) own.1
      ];
    }
kept (cuts by node least run legal) = let x = kept run in record {
  known = x.known;
  root = x.root;
  offered = x.offered;
  busy = x.busy;
  extends = x.extends;
  ended = x.ended;
  accounts_ended = x.accounts_ended;
  once = x.once;
  gifts_offered = x.gifts_offered;
  offered_given = x.offered_given;
  stands = x.stands;
  posted = x.posted;
  found = x.found;
  records = x.records;
  taken_busy = x.taken_busy;
  taken_once = x.taken_once;
  exhausted = x.exhausted;
}
kept {n = n} {search = search} (ends {core = core} {log = log} by account run legal orderly) =
    let x = kept run in
    let offerings = log.offerings in
    let postings = log.postings in
    let accounts = log.accounts in
    let taken_list = log.taken in
    let states = core.states in
    let path = account.path in
    let taken = taken_kept states path Ended (λ _. tt) in
    let known' = known_kept states path Ended (λ e. cc e) in
    let clash : (a : Account) → IsIn a accounts → a.path ≡ path → ⊥ = λ a h e. cc (sym (x.accounts_ended a h) ∙ (ap states e ∙ legal)) in
    record {
      known = λ p h. elim (state_cases states path Ended p) as (λ _. (p ≡ []) ⊎ ((o : Offering) × IsIn o offerings × (o.path ≡ p))) [
        | inl e ↦ let P : Turns → Type 0 = λ t. (t ≡ []) ⊎ ((o : Offering) × IsIn o offerings × (o.path ≡ t)) in subst P e.0 (x.known path (λ u. cc (sym legal ∙ u)))
        | inr e ↦ x.known p (λ u. h (e ∙ u))
      ];
      root = known' [] x.root;
      offered = λ o h. known' o.path (x.offered o h);
      busy = λ o h. taken o.parent (x.busy o h);
      extends = x.extends;
      ended = λ p h. elim (state_cases states path Ended p) as (λ _. (a : Account) × IsIn a (accounts ++ account ∷ []) × (a.path ≡ p)) [
        | inl e ↦ (account, in_last accounts account, e.0)
        | inr e ↦ let y = x.ended p (sym e ∙ h) in (y.0, in_left accounts account y.0 y.1, y.2)
      ];
      accounts_ended = λ a h. elim (in_cases accounts account a h) as (λ _. with_state states path Ended a.path ≡ Ended) [
        | inl b ↦ ended_kept states path Ended (λ e. cc (sym legal ∙ e)) a.path (x.accounts_ended a b)
        | inr e ↦ let P : Account → Type 0 = λ z. with_state states path Ended z.path ≡ Ended in subst P (sym e) (state_here states path Ended)
      ];
      once = λ a b j k g h e. elim (get_cases accounts account a j g) as (λ _. j ≡ k) [
        | inl old ↦ elim (get_cases accounts account b k h) as (λ _. j ≡ k) [
          | inl also ↦ x.once a b j k old also e
          | inr new ↦ absurd (clash a (j, old) (e ∙ ap (λ (z : Account). z.path) new.1))
        ]
        | inr new ↦ elim (get_cases accounts account b k h) as (λ _. j ≡ k) [
          | inl old ↦ absurd (clash b (k, old) (sym e ∙ ap (λ (z : Account). z.path) new.1))
          | inr also ↦ new.0 ∙ sym also.0
        ]
      ];
      gifts_offered = λ a gift h g. elim (in_cases accounts account a h) as (λ _. IsIn (record { parent = a.path; path = gift }) offerings) [
        | inl b ↦ x.gifts_offered a gift b g
        | inr e ↦
            let P : Account → Type 0 = λ z. IsIn (Gift gift) z.pieces → IsIn (record { parent = z.path; path = gift }) offerings in
            subst P (sym e) (orderly.gifts_offered gift) g
      ];
      offered_given = λ a gift h g. elim (in_cases accounts account a h) as (λ _. IsIn (Gift gift) a.pieces) [
        | inl b ↦ x.offered_given a gift b g
        | inr e ↦
            let P : Account → Type 0 = λ z. IsIn (record { parent = z.path; path = gift }) offerings → IsIn (Gift gift) z.pieces in
            subst P (sym e) (orderly.offered_given gift) g
      ];
      stands = λ a h. elim (in_cases accounts account a h) as (λ _. StandsFor (IsPosted postings) search a) [
        | inl b ↦ x.stands a b
        | inr e ↦ subst (StandsFor (IsPosted postings) search) (sym e) orderly.stands
      ];
      posted = λ p h. taken p.path (x.posted p h);
      found = λ p a g h e. elim (in_cases accounts account a h) as (λ _. IsIn (Sat p.leaf p.context) a.pieces) [
        | inl b ↦ x.found p a g b e
        | inr same ↦
            let P : Account → Type 0 = λ z. p.path ≡ z.path → IsIn (Sat p.leaf p.context) z.pieces in
            subst P (sym same) (orderly.posted_found p g) e
      ];
      records = (λ i. x.records i ++ record_of n account ∷ []) ∙ sym (map_append (record_of n) accounts (account ∷ []));
      taken_busy = λ p h. taken p (x.taken_busy p h);
      taken_once = x.taken_once;
      exhausted = x.exhausted;
    }

-- ---- closed
closed_ended : (core : CoreValue) → HasNoneLeft core → (path : Turns) → ¬ (core.states path ≡ Unknown) → core.states path ≡ Ended
closed_ended core closed path h = by (core.states path) refl
  where
    by : (s : StateValue) → core.states path ≡ s → core.states path ≡ Ended
    by Unknown e = absurd (h e)
    by Offered e = absurd (closed.none_offered path e)
    by (Held actor) e = absurd (closed.none_held path actor e)
    by Ended e = e

taken_known : (s : StateValue) → IsTaken s → ¬ (s ≡ Unknown)
taken_known Unknown h e = h
taken_known Offered h e = h
taken_known (Held by) h e = cc e
taken_known Ended h e = cc e

pub closed_runs : ClosedRunsKeepWhole
closed_runs n search records h =
    let core = h.1 in
    let offerings = h.2.offerings in
    let postings = h.2.postings in
    let accounts = h.2.accounts in
    let x = kept h.3 in
    let at = closed_ended core h.4 in
    let licensed : (k : ℕ) (t : Turns) → IsPosted postings k t → IsLicensed accounts k t =
    λ k t p.
    let busy = taken_known (core.states p.0.path) (x.posted p.0 p.1) in
    let a = x.ended p.0.path (at p.0.path busy) in
    (a.0, p.0.leaf, p.0.context, a.1, x.found p.0 a.0 p.1 a.1 (sym a.2), p.2, p.3) in
    let whole : AreWhole search accounts = record {
      root = x.ended [] (at [] x.root);
      gifts = λ a gift g m. x.ended gift (at gift (x.offered (record { parent = a.path; path = gift }) (x.gifts_offered a gift g m)));
      no_other = λ a g. elim (x.known a.path (λ u. cc (sym (x.accounts_ended a g) ∙ u))) as (λ _. (a.path ≡ []) ⊎ ((giver : Account) × IsIn giver accounts × IsIn (Gift a.path) giver.pieces)) [
        | inl e ↦ inl e
        | inr o ↦
            let busy = taken_known (core.states o.0.parent) (x.busy o.0 o.1) in
            let giver = x.ended o.0.parent (at o.0.parent busy) in
            let same : o.0 ≡ record { parent = giver.0.path; path = a.path } = λ i. record { parent = sym giver.2 i; path = o.2 i } in
            let is_in : IsIn (record { parent = giver.0.path; path = a.path }) offerings =
            let P : Offering → Type 0 = λ z. IsIn z offerings in subst P same o.1 in inr (giver.0, giver.1, x.offered_given giver.0 a.path giver.1 is_in)
      ];
      once = x.once;
      extends = λ a gift g m. x.extends (record { parent = a.path; path = gift }) (x.gifts_offered a gift g m);
      stands = λ a g. stands_more search a licensed (x.stands a g);
    } in
    (accounts, whole, h.5 ∙ x.records)

-- ---- what a Cut spares
left_of_begun : (other turns rest : Turns) → IsLeftOf other turns → IsLeftOf other (turns ++ rest)
left_of_begun [] turns rest h = absurd h
left_of_begun (t ∷ other) [] rest h = absurd h
left_of_begun (false ∷ other) (false ∷ turns) rest h = left_of_begun other turns rest h
left_of_begun (false ∷ other) (true ∷ turns) rest h = tt
left_of_begun (true ∷ other) (false ∷ turns) rest h = absurd h
left_of_begun (true ∷ other) (true ∷ turns) rest h = left_of_begun other turns rest h

pub orderly_right : OrderlyRunsAreRight
orderly_right n share search core log run =
    let x = kept run in
    let spares : (k : ℕ) (t : Turns) → IsPosted log.postings k t → SparesFirst search k t =
    λ k t p leaf first begun.
    let further = left_of_begun p.0.leaf t begun.0 p.3 in
    let at : IsLeftOf p.0.leaf leaf = subst (IsLeftOf p.0.leaf) (sym begun.1) further in
    first.first p.0.leaf p.0.context (x.exhausted p.0 p.1) at in
    record {
      taken_once = λ path j k g h. x.taken_once path path j k g h refl;
      first_spared = λ a h. stands_more search a spares (x.stands a h);
    }
