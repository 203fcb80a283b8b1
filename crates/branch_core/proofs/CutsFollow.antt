-- In whole records with their gifts filled in, each Cut has a Sat left of it.
use Rattle.std.proofs.Common.{◌≡◌, ℕ, zero, suc, ◌+◌, ◌≤◌, true, false, ◌⊎◌, inl, inr, List, [], ◌∷◌, ◌++◌, map, length, length-append, append_assoc, append-nil, Some, slice_get, refl, sym, subst, ap, ◌∙◌, arith}
use Rattle.me_terms.specs.Context.{Context}
use Rattle.me_terms.specs.Outcome.{TreeOutcome}
use Rattle.me_terms.specs.Outcome as outcome
use Rattle.branch_core.specs.Paths.{Turns, IsLeftOf, ProperlyBegins}
use Rattle.branch_core.specs.SearchTree.{SearchTree}
use Rattle.branch_core.specs.Parts.{PartValue, RecordValue}
use Rattle.branch_core.specs.Parts as part
use Rattle.branch_core.specs.Pieces.{Piece, Closed, Bounded, Sat, Gift, Cut, NoMemory, leaf_piece, go_left, go_right}
use Rattle.branch_core.specs.Replaced.{Replaced, own_leaf, own_node, given, cut, no_memory}
use Rattle.branch_core.specs.Joined.{Joins, closed_closed, closed_bounded, bounded_closed, bounded_bounded, closed_sat, bounded_sat, sat_takes, takes_later, takes_earlier, cut_cut, Joined, as_they_are, join}
use Rattle.branch_core.specs.StandsFor.{part_of, Account, record_of}
use Rattle.branch_core.specs.Whole.{IsIn, AreWhole, IsLicensed}
use Rattle.branch_core.specs.Filled.{IsNoGift, Filled, none_left, own, put, CutsFollowSat}
use Rattle.branch_core.specs.RecordLaws.{WholeCutsFollowSat}
use Rattle.branch_core.proofs.Assembly.{in_map, gift_piece, heads}

-- ---- membership
abbrev pub Among : Piece → List Piece → Type 0
Among p [] = ⊥
Among p (q ∷ qs) = (p ≡ q) ⊎ Among p qs

among_left : (p : Piece) (ps qs : List Piece) → Among p ps → Among p (ps ++ qs)
among_left p [] qs h = absurd h
among_left p (x ∷ ps) qs (inl e) = inl e
among_left p (x ∷ ps) qs (inr h) = inr (among_left p ps qs h)

among_right : (p : Piece) (ps qs : List Piece) → Among p qs → Among p (ps ++ qs)
among_right p [] qs h = h
among_right p (x ∷ ps) qs h = inr (among_right p ps qs h)

among_cases : (p : Piece) (ps qs : List Piece) → Among p (ps ++ qs) → Among p ps ⊎ Among p qs
among_cases p [] qs h = inr h
among_cases p (x ∷ ps) qs (inl e) = inl (inl e)
among_cases p (x ∷ ps) qs (inr h) = elim (among_cases p ps qs h) as (λ _. Among p (x ∷ ps) ⊎ Among p qs) [ inl a ↦ inl (inr a) | inr b ↦ inr b ]

in_among : (p : Piece) (ps : List Piece) (k : ℕ) → slice_get ps k ≡ Some p → Among p ps
in_among p [] zero h = cc
in_among p [] (suc k) h = cc
in_among p (x ∷ ps) zero h = inl (cc h)
in_among p (x ∷ ps) (suc k) h = inr (in_among p ps k h)

among_in : (p : Piece) (ps : List Piece) → Among p ps → IsIn p ps
among_in p [] h = absurd h
among_in p (x ∷ ps) (inl e) = (0, ap (λ (z : Piece). Some z) (sym e))
among_in p (x ∷ ps) (inr h) = let later = among_in p ps h in (suc later.0, later.1)

-- ---- where pieces stand
-- The turns at which a piece has a Sat or a Cut, or may have one once it is filled in.
abbrev pub Covers : Piece → Turns → Type 0
Covers (Closed list) x = ⊥
Covers (Bounded b) x = ⊥
Covers (Sat turns context) x = x ≡ turns
Covers (Gift turns) x = (rest : Turns) × (x ≡ turns ++ rest)
Covers (Cut turns key) x = x ≡ turns
Covers NoMemory x = ⊥

abbrev pub AnyCovers : List Piece → Turns → Type 0
AnyCovers [] x = ⊥
AnyCovers (p ∷ ps) x = Covers p x ⊎ AnyCovers ps x

any_cases : (ps qs : List Piece) (x : Turns) → AnyCovers (ps ++ qs) x → AnyCovers ps x ⊎ AnyCovers qs x
any_cases [] qs x h = inr h
any_cases (p ∷ ps) qs x (inl h) = inl (inl h)
any_cases (p ∷ ps) qs x (inr h) = elim (any_cases ps qs x h) as (λ _. AnyCovers (p ∷ ps) x ⊎ AnyCovers qs x) [ inl a ↦ inl (inr a) | inr b ↦ inr b ]

sat_covers : (ps : List Piece) (turns : Turns) (context : Context) → Among (Sat turns context) ps → AnyCovers ps turns
sat_covers [] turns context h = absurd h
sat_covers (p ∷ ps) turns context (inl e) = inl (let P : Piece → Type 0 = λ z. Covers z turns in subst P e refl)
sat_covers (p ∷ ps) turns context (inr h) = inr (sat_covers ps turns context h)

-- Nothing of the second stands left of something of the first.
abbrev pub Before : (Turns → Type 0) → (Turns → Type 0) → Type 0
Before P Q = (u t : Turns) → P u → Q t → ¬ IsLeftOf t u

-- Pieces stand in their order.
abbrev pub InOrder : List Piece → Type 0
InOrder [] = Unit {0}
InOrder (p ∷ ps) = Before (Covers p) (AnyCovers ps) × InOrder ps

order_append : (ps qs : List Piece) → InOrder ps → InOrder qs → Before (AnyCovers ps) (AnyCovers qs) → InOrder (ps ++ qs)
order_append [] qs g h b = h
order_append (p ∷ ps) qs g h b = (
  λ u t at_u at_t. elim (any_cases ps qs t at_t) as (λ _. ¬ IsLeftOf t u) [ inl x ↦ g.0 u t at_u x | inr x ↦ b u t (inl at_u) x ],
  order_append ps qs g.1 h (λ u t at_u at_t. b u t (inr at_u) at_t),
)

-- ---- replacing
abbrev pub Extends : Turns → Turns → Type 0
Extends longer shorter = (rest : Turns) × (longer ≡ shorter ++ rest)

extends_by : (turns more x : Turns) → Extends x (turns ++ more) → Extends x turns
extends_by turns more x h = (more ++ h.0, h.1 ∙ append_assoc turns more h.0)

right_left : (turns a b : Turns) → ¬ IsLeftOf (turns ++ true ∷ a) (turns ++ false ∷ b)
right_left [] a b h = h
right_left (false ∷ turns) a b h = right_left turns a b h
right_left (true ∷ turns) a b h = right_left turns a b h

across : (turns u t : Turns) → Extends u (go_left turns) → Extends t (go_right turns) → ¬ IsLeftOf t u
across turns u t f g h =
    let left : u ≡ turns ++ false ∷ f.0 = f.1 ∙ append_assoc turns (false ∷ []) f.0 in
    let right : t ≡ turns ++ true ∷ g.0 = g.1 ∙ append_assoc turns (true ∷ []) g.0 in
    let moved : IsLeftOf (turns ++ true ∷ g.0) (turns ++ false ∷ f.0) = subst (λ (p : Turns × Turns). IsLeftOf p.0 p.1) (λ i. (right i, left i)) h in
    right_left turns g.0 f.0 moved

itself : (turns x : Turns) → x ≡ turns → Extends x turns
itself turns x e = ([], e ∙ sym (append-nil turns))

record Placed (turns : Turns) (ps : List Piece) : Type 0 where
  inside : (x : Turns) → AnyCovers ps x → Extends x turns
  in_order : InOrder ps

single : (turns : Turns) (p : Piece) → ((x : Turns) → Covers p x → Extends x turns) → Placed turns (p ∷ [])
single turns p h = record { inside = λ x c. elim c as (λ _. Extends x turns) [ inl a ↦ h x a | inr b ↦ absurd b ]; in_order = (λ u t a b. absurd b, tt) }

leaf_inside : (turns : Turns) (r : TreeOutcome) (x : Turns) → Covers (leaf_piece turns r) x → Extends x turns
leaf_inside turns (outcome.Closed list) x h = absurd h
leaf_inside turns (outcome.Sat context) x h = itself turns x h
leaf_inside turns (outcome.Met b) x h = absurd h

replaced_placed : {MayCut : ℕ → Turns → Type 0} {turns : Turns} {search : SearchTree} {ps : List Piece} → Replaced MayCut turns search ps → Placed turns ps
replaced_placed (own_leaf {turns = turns} {outcome = r}) = single turns (leaf_piece turns r) (leaf_inside turns r)
replaced_placed (own_node {turns = turns} {before = before} {after = after} f g) =
    let x = replaced_placed f in
    let y = replaced_placed g in
    record {
      inside = λ t c. elim (any_cases before after t c) as (λ _. Extends t turns) [
        | inl a ↦ extends_by turns (false ∷ []) t (x.inside t a)
        | inr b ↦ extends_by turns (true ∷ []) t (y.inside t b)
      ];
      in_order = order_append before after x.in_order y.in_order (λ u t a b. across turns u t (x.inside u a) (y.inside t b));
    }
replaced_placed (given {turns = turns}) = single turns (Gift turns) (λ x h. h)
replaced_placed (cut {turns = turns} {key = key} m) = single turns (Cut turns key) (itself turns)
replaced_placed (no_memory {turns = turns}) = single turns NoMemory (λ x h. absurd h)

-- ---- joining
joins_covers : {p q one : Piece} → Joins p q one → (x : Turns) → Covers one x → Covers p x ⊎ Covers q x
joins_covers closed_closed x h = absurd h
joins_covers closed_bounded x h = absurd h
joins_covers bounded_closed x h = absurd h
joins_covers bounded_bounded x h = absurd h
joins_covers closed_sat x h = inr h
joins_covers bounded_sat x h = inr h
joins_covers (sat_takes t) x h = inl h
joins_covers (takes_later t) x h = absurd h
joins_covers (takes_earlier t) x h = absurd h
joins_covers cut_cut x h = inl h

join_covers : (before after : List Piece) (p q one : Piece) → Joins p q one → (x : Turns) → AnyCovers (before ++ one ∷ after) x → AnyCovers (before ++ p ∷ q ∷ after) x
join_covers [] after p q one j x (inl h) = elim (joins_covers j x h) as (λ _. AnyCovers (p ∷ q ∷ after) x) [ inl a ↦ inl a | inr b ↦ inr (inl b) ]
join_covers [] after p q one j x (inr h) = inr (inr h)
join_covers (b ∷ before) after p q one j x (inl h) = inl h
join_covers (b ∷ before) after p q one j x (inr h) = inr (join_covers before after p q one j x h)

join_order : (before after : List Piece) (p q one : Piece) → Joins p q one → InOrder (before ++ p ∷ q ∷ after) → InOrder (before ++ one ∷ after)
join_order [] after p q one j h = (
  λ u t a b. elim (joins_covers j u a) as (λ _. ¬ IsLeftOf t u) [ inl x ↦ h.0 u t x (inr b) | inr x ↦ h.1.0 u t x b ],
  h.1.1,
)
join_order (b ∷ before) after p q one j h = (λ u t x y. h.0 u t x (join_covers before after p q one j t y), join_order before after p q one j h.1)

joined_placed : {ps qs : List Piece} → Joined ps qs → (turns : Turns) → Placed turns ps → Placed turns qs
joined_placed as_they_are turns h = h
joined_placed (join before after others first second one j later) turns h =
    joined_placed later turns (record { inside = λ x c. h.inside x (join_covers before after first second one j x c); in_order = join_order before after first second one j h.in_order })

-- ---- licences
abbrev pub CutsMay : (ℕ → Turns → Type 0) → List Piece → Type 0
CutsMay MayCut ps = (u : Turns) (key : ℕ) → Among (Cut u key) ps → MayCut key u

replaced_may : {MayCut : ℕ → Turns → Type 0} {turns : Turns} {search : SearchTree} {ps : List Piece} → Replaced MayCut turns search ps → CutsMay MayCut ps
replaced_may {MayCut} (own_leaf {turns = turns} {outcome = r}) u key (inl e) = leaf_may r e
  where
    leaf_may : (r : TreeOutcome) → Cut u key ≡ leaf_piece turns r → MayCut key u
    leaf_may (outcome.Closed list) e = cc
    leaf_may (outcome.Sat context) e = cc
    leaf_may (outcome.Met b) e = cc
replaced_may own_leaf u key (inr h) = absurd h
replaced_may {MayCut} (own_node {before = before} {after = after} f g) u key h =
    elim (among_cases (Cut u key) before after h) as (λ _. MayCut key u) [ inl a ↦ replaced_may f u key a | inr b ↦ replaced_may g u key b ]
replaced_may given u key (inl e) = cc
replaced_may given u key (inr h) = absurd h
replaced_may {MayCut} (cut {turns = turns} {key = k} m) u key (inl e) =
    let same_turns : turns ≡ u = cc e in
    let same_key : k ≡ key = cc e in
    subst (λ (p : ℕ × Turns). MayCut p.0 p.1) (λ i. (same_key i, same_turns i)) m
replaced_may (cut m) u key (inr h) = absurd h
replaced_may no_memory u key (inl e) = cc
replaced_may no_memory u key (inr h) = absurd h

joins_cut : {p q one : Piece} → Joins p q one → (u : Turns) (key : ℕ) → Cut u key ≡ one → Cut u key ≡ p
joins_cut closed_closed u key e = cc
joins_cut closed_bounded u key e = cc
joins_cut bounded_closed u key e = cc
joins_cut bounded_bounded u key e = cc
joins_cut closed_sat u key e = cc
joins_cut bounded_sat u key e = cc
joins_cut (sat_takes t) u key e = cc
joins_cut (takes_later t) u key e = cc
joins_cut (takes_earlier t) u key e = cc
joins_cut cut_cut u key e = e

join_cut : (before after : List Piece) (p q one : Piece) → Joins p q one → (u : Turns) (key : ℕ) → Among (Cut u key) (before ++ one ∷ after) → Among (Cut u key) (before ++ p ∷ q ∷ after)
join_cut [] after p q one j u key (inl e) = inl (joins_cut j u key e)
join_cut [] after p q one j u key (inr h) = inr (inr h)
join_cut (b ∷ before) after p q one j u key (inl e) = inl e
join_cut (b ∷ before) after p q one j u key (inr h) = inr (join_cut before after p q one j u key h)

joined_may : {MayCut : ℕ → Turns → Type 0} {ps qs : List Piece} → Joined ps qs → CutsMay MayCut ps → CutsMay MayCut qs
joined_may as_they_are h = h
joined_may (join before after others first second one j later) h = joined_may later (λ u key a. h u key (join_cut before after first second one j u key a))

-- ---- filling
abbrev pub IsOwn : Piece → Type 0
IsOwn p = (turns : Turns) → ¬ (p ≡ Gift turns)

pub data Fills (accounts : List Account) : List Piece → List Piece → Type 0 where
  nothing : Fills accounts [] []
  keep : {p : Piece} {ps flat : List Piece} → IsOwn p → Fills accounts ps flat → Fills accounts (p ∷ ps) (p ∷ flat)
  fill : {account : Account} {ps inner outer : List Piece} → IsIn account accounts → Fills accounts account.pieces inner → Fills accounts ps outer → Fills accounts (Gift account.path ∷ ps) (inner ++ outer)

map_append : {A B : Type 0} (f : A → B) (xs ys : List A) → map f (xs ++ ys) ≡ map f xs ++ map f ys
map_append f [] ys = refl
map_append f (x ∷ xs) ys = λ i. f x ∷ map_append f xs ys i

own_part : (n : ℕ) (p : Piece) → IsNoGift (part_of n p) → IsOwn p
own_part n p h turns e = subst (λ (z : Piece). IsNoGift (part_of n z)) e h

pieces_filled : (n : ℕ) (accounts : List Account) (records : List RecordValue) → records ≡ map (record_of n) accounts → {parts filled : List PartValue} → Filled records parts filled → (ps : List Piece) → parts ≡ map (part_of n) ps → (flat : List Piece) × Fills accounts ps flat × (filled ≡ map (part_of n) flat)
pieces_filled n accounts records are none_left [] e = ([], nothing, refl)
pieces_filled n accounts records are none_left (p ∷ ps) e = cc
pieces_filled n accounts records are (own plain later) [] e = cc
pieces_filled n accounts records are (own {first = first} {parts = parts} {filled = filled} plain later) (p ∷ ps) e =
    let same = heads first (part_of n p) parts (map (part_of n) ps) e in
    let x = pieces_filled n accounts records are later ps same.1 in
    (p ∷ x.0, keep (own_part n p (subst IsNoGift same.0 plain)) x.1, λ i. same.0 i ∷ x.2 i)
pieces_filled n accounts records are (put is_in inside later) [] e = cc
pieces_filled n accounts records are (put {gift = gift} {parts = parts} is_in inside later) (p ∷ ps) e =
    let same = heads (part.Gift gift.path) (part_of n p) parts (map (part_of n) ps) e in
    let P : List RecordValue → Type 0 = λ rs. slice_get rs is_in.0 ≡ Some gift in
    let a = in_map (record_of n) accounts is_in.0 gift (subst P are is_in.1) in
    let path : a.0.path ≡ gift.path = sym (ap (λ (r : RecordValue). r.path) a.2) in
    let is_gift : Gift a.0.path ≡ p = ap (λ (t : Turns). Gift t) path ∙ sym (gift_piece n p gift.path same.0) in
    let x = pieces_filled n accounts records are inside a.0.pieces (ap (λ (r : RecordValue). r.parts) a.2) in
    let y = pieces_filled n accounts records are later ps same.1 in
    let filled : Fills accounts (Gift a.0.path ∷ ps) (x.0 ++ y.0) = fill (is_in.0, a.1) x.1 y.1 in
    (x.0 ++ y.0, subst (λ (z : Piece). Fills accounts (z ∷ ps) (x.0 ++ y.0)) is_gift filled, (λ i. x.2 i ++ y.2 i) ∙ sym (map_append (part_of n) x.0 y.0))

-- what an account's pieces, filled in, hold
record Reached (accounts : List Account) (flat : List Piece) (account : Account) : Type 0 where
  inner : List Piece
  fills : Fills accounts account.pieces inner
  among : (p : Piece) → Among p inner → Among p flat

sat_kept : {accounts : List Account} {ps flat : List Piece} → Fills accounts ps flat → (turns : Turns) (context : Context) → Among (Sat turns context) ps → Among (Sat turns context) flat
sat_kept nothing turns context h = absurd h
sat_kept (keep plain later) turns context (inl e) = inl e
sat_kept (keep plain later) turns context (inr h) = inr (sat_kept later turns context h)
sat_kept (fill is_in inside later) turns context (inl e) = cc
sat_kept (fill {inner = inner} {outer = outer} is_in inside later) turns context (inr h) = among_right (Sat turns context) inner outer (sat_kept later turns context h)

gift_reached : {accounts : List Account} {ps flat : List Piece} → Fills accounts ps flat → (g : Turns) → Among (Gift g) ps → (account : Account) × IsIn account accounts × (account.path ≡ g) × Reached accounts flat account
gift_reached nothing g h = absurd h
gift_reached (keep {p = p} plain later) g (inl e) = absurd (plain g (sym e))
gift_reached (keep {p = p} {flat = flat} plain later) g (inr h) =
    let x = gift_reached later g h in
    (x.0, x.1, x.2, record { inner = x.3.inner; fills = x.3.fills; among = λ q a. inr (x.3.among q a) })
gift_reached (fill {account = account} {inner = inner} {outer = outer} is_in inside later) g (inl e) =
    (account, is_in, cc e, record { inner = inner; fills = inside; among = λ q a. among_left q inner outer a })
gift_reached (fill {inner = inner} {outer = outer} is_in inside later) g (inr h) =
    let x = gift_reached later g h in
    (x.0, x.1, x.2, record { inner = x.3.inner; fills = x.3.fills; among = λ q a. among_right q inner outer (x.3.among q a) })

module _ (search : SearchTree) (accounts : List Account) (whole : AreWhole search accounts) where
  same_account : (a b : Account) → IsIn a accounts → IsIn b accounts → a.path ≡ b.path → a ≡ b
  same_account a b f g e =
      let k = whole.once a b f.0 g.0 f.1 g.1 e in
      let moved : slice_get accounts g.0 ≡ Some a = subst (λ (n : ℕ). slice_get accounts n ≡ Some a) k f.1 in
      cc (sym moved ∙ g.1)

  module _ (root : Account) (is_in : IsIn root accounts) (is_root : root.path ≡ []) (flat : List Piece) (fills : Fills accounts root.pieces flat) where
    shorter : (n : ℕ) (longer path : Turns) → ProperlyBegins path longer → length longer ≤ n → length path + 1 ≤ n
    shorter n longer path h short = omega (arith, ap length h.2, length-append path (h.0 ∷ h.1))

    at_root : (a : Account) → IsIn a accounts → a.path ≡ [] → Reached accounts flat a
    at_root a h e =
        let same : root ≡ a = same_account root a is_in h (is_root ∙ sym e) in
        subst (Reached accounts flat) same (record { inner = flat; fills = fills; among = λ p m. m })

    reached : (n : ℕ) (a : Account) → length a.path ≤ n → IsIn a accounts → Reached accounts flat a
    reached zero a short h =
        elim (whole.no_other a h) as (λ _. Reached accounts flat a) [
          | inl e ↦ at_root a h e
          | inr giver ↦
              let less = shorter zero a.path giver.0.path (whole.extends giver.0 a.path giver.1 giver.2) short in absurd (omega (arith, less))
        ]
    reached (suc n) a short h =
        elim (whole.no_other a h) as (λ _. Reached accounts flat a) [
          | inl e ↦ at_root a h e
          | inr giver ↦
              let less = shorter (suc n) a.path giver.0.path (whole.extends giver.0 a.path giver.1 giver.2) short in
              let above = reached n giver.0 (omega (arith, less)) giver.1 in
              let x = gift_reached above.fills a.path (in_among (Gift a.path) giver.0.pieces giver.2.0 giver.2.1) in
              let same : x.0 ≡ a = same_account x.0 a x.1 h x.2 in
              subst (Reached accounts flat) same (record { inner = x.3.inner; fills = x.3.fills; among = λ p m. above.among p (x.3.among p m) })
        ]

    placed : {ps filled : List Piece} → Fills accounts ps filled → InOrder ps → InOrder filled × ((x : Turns) → AnyCovers filled x → AnyCovers ps x)
    placed nothing h = (tt, λ x c. c)
    placed (keep {p = p} {ps = ps} {flat = filled} plain later) h =
        let x = placed later h.1 in (
          (λ u t a b. h.0 u t a (x.1 t b), x.0),
          λ t c. elim c as (λ _. AnyCovers (p ∷ ps) t) [ inl a ↦ inl a | inr b ↦ inr (x.1 t b) ],
        )
    placed (fill {account = account} {ps = ps} {inner = inner} {outer = outer} at inside later) h =
        let stands = whole.stands account at in
        let own = joined_placed stands.joined account.path (replaced_placed stands.replaced) in
        let x = placed inside own.in_order in
        let y = placed later h.1 in
        let below : (t : Turns) → AnyCovers inner t → Covers (Gift account.path) t = λ t c. own.inside t (x.1 t c) in (
          order_append inner outer x.0 y.0 (λ u t a b. h.0 u t (below u a) (y.1 t b)),
          λ t c. elim (any_cases inner outer t c) as (λ _. AnyCovers (Gift account.path ∷ ps) t) [ inl a ↦ inl (below t a) | inr b ↦ inr (y.1 t b) ],
        )

    licensed : {ps filled : List Piece} → Fills accounts ps filled → CutsMay (IsLicensed accounts) ps → CutsMay (IsLicensed accounts) filled
    licensed nothing h u key c = absurd c
    licensed (keep plain later) h u key (inl e) = h u key (inl e)
    licensed (keep plain later) h u key (inr c) = licensed later (λ v k a. h v k (inr a)) u key c
    licensed (fill {account = account} {inner = inner} {outer = outer} at inside later) h u key c =
        let stands = whole.stands account at in
        let own = joined_may stands.joined (replaced_may stands.replaced) in
        elim (among_cases (Cut u key) inner outer c) as (λ _. IsLicensed accounts key u) [
          | inl a ↦ licensed inside own u key a
          | inr b ↦ licensed later (λ v k a. h v k (inr a)) u key b
        ]

    -- each Cut among the filled pieces has a Sat left of it among them
    abbrev pub HasSats : List Piece → List Piece → Type 0
    HasSats ps all = (u : Turns) (key : ℕ) → Among (Cut u key) ps → (t : Turns) × (context : Context) × IsLeftOf t u × Among (Sat t context) all

    root_order : InOrder root.pieces
    root_order = let stands = whole.stands root is_in in (joined_placed stands.joined root.path (replaced_placed stands.replaced)).in_order

    root_may : CutsMay (IsLicensed accounts) root.pieces
    root_may = let stands = whole.stands root is_in in joined_may stands.joined (replaced_may stands.replaced)

    has_sats : HasSats flat flat
    has_sats u key h =
        let l = licensed fills root_may u key h in
        let x = reached (length l.0.path) l.0 (omega arith) l.3 in
        let sat = in_among (Sat l.1 l.2) l.0.pieces l.4.0 l.4.1 in
        (l.1, l.2, l.6, x.among (Sat l.1 l.2) (sat_kept x.fills l.1 l.2 sat))

    pub flat_in_order : InOrder flat
    flat_in_order = (placed fills root_order).0

    pub flat_has_sats : HasSats flat flat
    flat_has_sats = has_sats

-- no Sat is passed, so that each Cut's Sat is still to come; but nothing to come stands left of it
follow : (n : ℕ) (ps : List Piece) → InOrder ps → ((u : Turns) (key : ℕ) → Among (Cut u key) ps → (t : Turns) × (context : Context) × IsLeftOf t u × Among (Sat t context) ps) → CutsFollowSat (map (part_of n) ps)
follow n [] g h = tt
follow n (Closed list ∷ ps) g h = follow n ps g.1 (λ u key c. let x = h u key (inr c) in (x.0, x.1, x.2, later x.3))
  where
    later : {t : Turns} {context : Context} → Among (Sat t context) (Closed list ∷ ps) → Among (Sat t context) ps
    later (inl e) = cc
    later (inr m) = m
follow n (Bounded b ∷ ps) g h = follow n ps g.1 (λ u key c. let x = h u key (inr c) in (x.0, x.1, x.2, later x.3))
  where
    later : {t : Turns} {context : Context} → Among (Sat t context) (Bounded b ∷ ps) → Among (Sat t context) ps
    later (inl e) = cc
    later (inr m) = m
follow n (Sat turns context ∷ ps) g h = tt
follow n (Gift turns ∷ ps) g h = follow n ps g.1 (λ u key c. let x = h u key (inr c) in (x.0, x.1, x.2, later x.3))
  where
    later : {t : Turns} {context : Context} → Among (Sat t context) (Gift turns ∷ ps) → Among (Sat t context) ps
    later (inl e) = cc
    later (inr m) = m
follow n (Cut turns key ∷ ps) g h =
    let x = h turns key (inl refl) in
    elim x.3 as (λ _. ⊥) [
      | inl e ↦ cc e
      | inr m ↦ g.0 turns x.0 refl (sat_covers ps x.0 x.1 m) x.2
    ]
follow n (NoMemory ∷ ps) g h = follow n ps g.1 (λ u key c. let x = h u key (inr c) in (x.0, x.1, x.2, later x.3))
  where
    later : {t : Turns} {context : Context} → Among (Sat t context) (NoMemory ∷ ps) → Among (Sat t context) ps
    later (inl e) = cc
    later (inr m) = m

pub whole_cuts_follow : WholeCutsFollowSat
whole_cuts_follow problem bounds records root filled whole is_in is_root h =
    let search = whole.0 in
    let accounts = whole.2.0 in
    let P : List RecordValue → Type 0 = λ rs. slice_get rs is_in.0 ≡ Some root in
    let a = in_map (record_of bounds.list) accounts is_in.0 root (subst P whole.2.2 is_in.1) in
    let at_root : a.0.path ≡ [] = sym (ap (λ (r : RecordValue). r.path) a.2) ∙ is_root in
    let x = pieces_filled bounds.list accounts records whole.2.2 h a.0.pieces (ap (λ (r : RecordValue). r.parts) a.2) in
    let at : IsIn a.0 accounts = (is_in.0, a.1) in
    subst CutsFollowSat (sym x.2) (follow bounds.list x.0 (flat_in_order search accounts whole.2.1 a.0 at at_root x.0 x.1) (flat_has_sats search accounts whole.2.1 a.0 at at_root x.0 x.1))
