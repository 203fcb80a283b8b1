-- What is still there when pieces were joined: their gifts, and their exhausted leaf where there is one alone.
use Rattle.std.proofs.Common.{◌≡◌, ℕ, zero, suc, ◌≤◌, List, [], ◌∷◌, ◌++◌, length, inl, inr, slice_get, Some, refl, subst, ap, ◌∙◌, arith, length-append}
use Rattle.std.proofs.lemmas.Option.{same_Some}
use Rattle.me_terms.specs.Context.{Context}
use Rattle.branch_core.specs.Paths.{Turns, key}
use Rattle.branch_core.specs.Pieces.{Piece, Closed, Bounded, Sat, Gift, Cut, NoMemory}
use Rattle.branch_core.specs.Joined.{Joins, Joined, SatTakes, NoMemoryTakes, as_they_are, join, closed_closed, closed_bounded, bounded_closed, bounded_bounded, closed_sat, bounded_sat, sat_takes, takes_later, takes_earlier, cut_cut}
use Rattle.branch_core.specs.Whole.{IsIn}
use Rattle.branch_core.specs.Portions.{gift_of, gifts, sat_key_of, sat_keys, MayCut}

-- ---- gifts
sat_no_gift : (p : Piece) → SatTakes p → gift_of p ≡ []
sat_no_gift (Closed list) h = refl
sat_no_gift (Bounded b) h = refl
sat_no_gift (Sat turns context) h = refl
sat_no_gift (Gift turns) h = absurd h
sat_no_gift (Cut turns k) h = refl
sat_no_gift NoMemory h = refl

lost_no_gift : (p : Piece) → NoMemoryTakes p → gift_of p ≡ []
lost_no_gift (Closed list) h = refl
lost_no_gift (Bounded b) h = refl
lost_no_gift (Sat turns context) h = absurd h
lost_no_gift (Gift turns) h = absurd h
lost_no_gift (Cut turns k) h = refl
lost_no_gift NoMemory h = refl

-- no two pieces with a gift among them are joined
gifts_joins : {p q one : Piece} → Joins p q one → (rest : List Turns) → gift_of p ++ (gift_of q ++ rest) ≡ gift_of one ++ rest
gifts_joins closed_closed rest = refl
gifts_joins closed_bounded rest = refl
gifts_joins bounded_closed rest = refl
gifts_joins bounded_bounded rest = refl
gifts_joins closed_sat rest = refl
gifts_joins bounded_sat rest = refl
gifts_joins (sat_takes {later = later} t) rest = ap (λ (z : List Turns). z ++ rest) (sat_no_gift later t)
gifts_joins (takes_later {later = later} t) rest = ap (λ (z : List Turns). z ++ rest) (lost_no_gift later t)
gifts_joins (takes_earlier {earlier = earlier} t) rest = ap (λ (z : List Turns). z ++ rest) (lost_no_gift earlier t)
gifts_joins cut_cut rest = refl

gifts_join : (before after : List Piece) (p q one : Piece) → Joins p q one → gifts (before ++ p ∷ q ∷ after) ≡ gifts (before ++ one ∷ after)
gifts_join [] after p q one j = gifts_joins j (gifts after)
gifts_join (b ∷ before) after p q one j = ap (λ (z : List Turns). gift_of b ++ z) (gifts_join before after p q one j)

pub gifts_joined : {leaves pieces : List Piece} → Joined leaves pieces → gifts leaves ≡ gifts pieces
gifts_joined as_they_are = refl
gifts_joined (join before after others first second one j h) = gifts_join before after first second one j ∙ gifts_joined h

-- ---- exhausted leaves
lost_no_sat : (p : Piece) → NoMemoryTakes p → sat_key_of p ≡ []
lost_no_sat (Closed list) h = refl
lost_no_sat (Bounded b) h = refl
lost_no_sat (Sat turns context) h = absurd h
lost_no_sat (Gift turns) h = refl
lost_no_sat (Cut turns k) h = refl
lost_no_sat NoMemory h = refl

-- behind an exhausted leaf there is no other one
alone : (k : ℕ) (p : Piece) (rest : List ℕ) → length (k ∷ (sat_key_of p ++ rest)) ≤ 1 → sat_key_of p ≡ []
alone k (Closed list) rest h = refl
alone k (Bounded b) rest h = refl
alone k (Sat turns context) rest h = absurd (omega (arith, h))
alone k (Gift turns) rest h = refl
alone k (Cut turns c) rest h = refl
alone k NoMemory rest h = refl

sats_joins : {p q one : Piece} → Joins p q one → (rest : List ℕ) → length (sat_key_of p ++ (sat_key_of q ++ rest)) ≤ 1 → sat_key_of p ++ (sat_key_of q ++ rest) ≡ sat_key_of one ++ rest
sats_joins closed_closed rest few = refl
sats_joins closed_bounded rest few = refl
sats_joins bounded_closed rest few = refl
sats_joins bounded_bounded rest few = refl
sats_joins closed_sat rest few = refl
sats_joins bounded_sat rest few = refl
sats_joins (sat_takes {turns = turns} {later = later} t) rest few = ap (λ (z : List ℕ). key turns ∷ (z ++ rest)) (alone (key turns) later rest few)
sats_joins (takes_later {later = later} t) rest few = ap (λ (z : List ℕ). z ++ rest) (lost_no_sat later t)
sats_joins (takes_earlier {earlier = earlier} t) rest few = ap (λ (z : List ℕ). z ++ rest) (lost_no_sat earlier t)
sats_joins cut_cut rest few = refl

fewer : (a b : List ℕ) → length (a ++ b) ≤ 1 → length b ≤ 1
fewer a b h = let both = length-append a b in omega (arith, h, both)

sats_join : (before after : List Piece) (p q one : Piece) → Joins p q one → length (sat_keys (before ++ p ∷ q ∷ after)) ≤ 1 → sat_keys (before ++ p ∷ q ∷ after) ≡ sat_keys (before ++ one ∷ after)
sats_join [] after p q one j few = sats_joins j (sat_keys after) few
sats_join (b ∷ before) after p q one j few =
    ap (λ (z : List ℕ). sat_key_of b ++ z) (sats_join before after p q one j (fewer (sat_key_of b) (sat_keys (before ++ p ∷ q ∷ after)) few))

pub sats_joined : {leaves pieces : List Piece} → Joined leaves pieces → length (sat_keys leaves) ≤ 1 → sat_keys leaves ≡ sat_keys pieces
sats_joined as_they_are few = refl
sats_joined (join before after others first second one j h) few =
    let same = sats_join before after first second one j few in
    let P : List ℕ → Type 0 = λ z. length z ≤ 1 in
    same ∙ sats_joined h (subst P same few)

-- ---- the exhausted leaf itself
lost_is_no_sat : (p : Piece) (turns : Turns) (context : Context) → NoMemoryTakes p → p ≡ Sat turns context → ⊥
lost_is_no_sat p turns context h e = let P : Piece → Type 0 = NoMemoryTakes in subst P e h

first_kept : {p q one : Piece} (turns : Turns) (context : Context) → Joins p q one → p ≡ Sat turns context → one ≡ Sat turns context
first_kept turns context closed_closed e = cc e
first_kept turns context closed_bounded e = cc e
first_kept turns context bounded_closed e = cc e
first_kept turns context bounded_bounded e = cc e
first_kept turns context closed_sat e = cc e
first_kept turns context bounded_sat e = cc e
first_kept turns context (sat_takes t) e = e
first_kept turns context (takes_later t) e = cc e
first_kept turns context (takes_earlier {earlier = earlier} t) e = absurd (lost_is_no_sat earlier turns context t e)
first_kept turns context cut_cut e = cc e

sat_behind : (k : ℕ) (p : Piece) (turns : Turns) (context : Context) (rest : List ℕ) → p ≡ Sat turns context → length (k ∷ (sat_key_of p ++ rest)) ≤ 1 → ⊥
sat_behind k p turns context rest e few =
    let P : Piece → Type 0 = λ z. length (k ∷ (sat_key_of z ++ rest)) ≤ 1 in
    let two = subst P e few in omega (arith, two)

second_kept : {p q one : Piece} (turns : Turns) (context : Context) (rest : List ℕ) → Joins p q one → length (sat_key_of p ++ (sat_key_of q ++ rest)) ≤ 1 → q ≡ Sat turns context → one ≡ Sat turns context
second_kept turns context rest closed_closed few e = cc e
second_kept turns context rest closed_bounded few e = cc e
second_kept turns context rest bounded_closed few e = cc e
second_kept turns context rest bounded_bounded few e = cc e
second_kept turns context rest closed_sat few e = e
second_kept turns context rest bounded_sat few e = e
second_kept turns context rest (sat_takes {turns = leaf} {later = later} t) few e = absurd (sat_behind (key leaf) later turns context rest e few)
second_kept turns context rest (takes_later {later = later} t) few e = absurd (lost_is_no_sat later turns context t e)
second_kept turns context rest (takes_earlier t) few e = cc e
second_kept turns context rest cut_cut few e = cc e

-- where a piece of a list stands in the joined list
kept_at : (before after : List Piece) (p q one : Piece) (turns : Turns) (context : Context) → Joins p q one → length (sat_keys (before ++ p ∷ q ∷ after)) ≤ 1 → (k : ℕ) → slice_get (before ++ p ∷ q ∷ after) k ≡ Some (Sat turns context) → IsIn (Sat turns context) (before ++ one ∷ after)
kept_at [] after p q one turns context j few zero e = (0, ap (λ (z : Piece). Some z) (first_kept turns context j (same_Some p (Sat turns context) e)))
kept_at [] after p q one turns context j few (suc zero) e = (0, ap (λ (z : Piece). Some z) (second_kept turns context (sat_keys after) j few (same_Some q (Sat turns context) e)))
kept_at [] after p q one turns context j few (suc (suc k)) e = (suc k, e)
kept_at (b ∷ before) after p q one turns context j few zero e = (0, e)
kept_at (b ∷ before) after p q one turns context j few (suc k) e =
    let at = kept_at before after p q one turns context j (fewer (sat_key_of b) (sat_keys (before ++ p ∷ q ∷ after)) few) k e in
    (suc at.0, at.1)

pub sat_joined : {leaves pieces : List Piece} → Joined leaves pieces → length (sat_keys leaves) ≤ 1 → (turns : Turns) (context : Context) → IsIn (Sat turns context) leaves → IsIn (Sat turns context) pieces
sat_joined as_they_are few turns context at = at
sat_joined (join before after others first second one j h) few turns context at =
    let P : List ℕ → Type 0 = λ z. length z ≤ 1 in
    sat_joined h (subst P (sats_join before after first second one j few) few) turns context (kept_at before after first second one turns context j few at.0 at.1)

-- what may be cut beside the leaves may be cut beside the pieces
pub may_cut_joined : {leaves pieces : List Piece} → Joined leaves pieces → length (sat_keys leaves) ≤ 1 → (told : List ℕ) (cut_key : ℕ) (turns : Turns) → MayCut told leaves cut_key turns → MayCut told pieces cut_key turns
may_cut_joined h few told cut_key turns (inl x) = inl x
may_cut_joined h few told cut_key turns (inr x) = inr (x.0, x.1, sat_joined h few x.0 x.1 x.2, x.3, x.4)
