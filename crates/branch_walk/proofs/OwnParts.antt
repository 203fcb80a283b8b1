-- A record of at most one part, with nothing told and nothing given, has no Cut.
use Rattle.std.proofs.Common.{◌≡◌, ℕ, ◌≤◌, List, [], ◌∷◌, ◌++◌, length, map, inl, inr, sym, subst, ap, ◌∙◌, arith, length-append}
use Rattle.std.specs.List.{All}
use Rattle.std.proofs.lemmas.List.Elements.{All-cons, All-nil}
use Rattle.me_terms.specs.Context.{Context}
use Rattle.me_terms.specs.Outcome as outcome
use Rattle.me_terms.specs.Outcome.{TreeOutcome}
use Rattle.branch_core.proofs.Orderly.{none_in}
use Rattle.branch_core.specs.Paths.{Turns}
use Rattle.branch_core.specs.Parts.{PartValue, RecordValue}
use Rattle.branch_core.specs.Pieces.{Piece, Closed, Bounded, Sat, Gift, Cut, NoMemory, leaf_piece}
use Rattle.branch_core.specs.Joined.{Joins, Joined, as_they_are, join, closed_closed, closed_bounded, bounded_closed, bounded_bounded, closed_sat, bounded_sat, sat_takes, takes_later, takes_earlier, cut_cut}
use Rattle.branch_core.specs.Replaced.{Replaced, own_leaf, own_node, given, cut, no_memory}
use Rattle.branch_core.specs.SearchTree.{SearchTree}
use Rattle.branch_core.specs.StandsFor.{part_of}
use Rattle.branch_core.specs.Whole.{IsIn}
use Rattle.branch_core.specs.Portions.{gifts, MayCut, IsPortion}
use Rattle.branch_walk.specs.OwnParts.{IsOwnPart}
use Rattle.branch_walk.proofs.PortionEnds.{one_at}
use Rattle.branch_walk.proofs.Spines.{no_reverse}

abbrev pub IsNoCut : Piece → Type 0
IsNoCut (Closed list) = Unit {0}
IsNoCut (Bounded b) = Unit {0}
IsNoCut (Sat turns context) = Unit {0}
IsNoCut (Gift turns) = Unit {0}
IsNoCut (Cut turns k) = ⊥
IsNoCut NoMemory = Unit {0}

abbrev pub HaveNoCut : List Piece → Type 0
HaveNoCut [] = Unit {0}
HaveNoCut (p ∷ ps) = IsNoCut p × HaveNoCut ps

no_cut_both : (ps qs : List Piece) → HaveNoCut ps → HaveNoCut qs → HaveNoCut (ps ++ qs)
no_cut_both [] qs f g = g
no_cut_both (p ∷ ps) qs f g = (f.0, no_cut_both ps qs f.1 g)

no_cut_parts : (ps qs : List Piece) → HaveNoCut (ps ++ qs) → HaveNoCut ps × HaveNoCut qs
no_cut_parts [] qs h = (tt, h)
no_cut_parts (p ∷ ps) qs h = let later = no_cut_parts ps qs h.1 in ((h.0, later.0), later.1)

leaf_no_cut : (t : Turns) (o : TreeOutcome) → IsNoCut (leaf_piece t o)
leaf_no_cut t (outcome.Closed list) = tt
leaf_no_cut t (outcome.Sat context) = tt
leaf_no_cut t (outcome.Met b) = tt

replaced_no_cut : {May : ℕ → Turns → Type 0} → ((k : ℕ) (t : Turns) → May k t → ⊥) → {turns : Turns} {search : SearchTree} {ps : List Piece} → Replaced May turns search ps → HaveNoCut ps
replaced_no_cut f (own_leaf {turns = turns} {outcome = o}) = (leaf_no_cut turns o, tt)
replaced_no_cut f (own_node {before = before} {after = after} g h) = no_cut_both before after (replaced_no_cut f g) (replaced_no_cut f h)
replaced_no_cut f given = (tt, tt)
replaced_no_cut f (cut {turns = turns} {key = key} m) = absurd (f key turns m)
replaced_no_cut f no_memory = (tt, tt)

joins_no_cut : {first second one : Piece} → Joins first second one → IsNoCut first → IsNoCut second → IsNoCut one
joins_no_cut closed_closed f g = tt
joins_no_cut closed_bounded f g = tt
joins_no_cut bounded_closed f g = tt
joins_no_cut bounded_bounded f g = tt
joins_no_cut closed_sat f g = tt
joins_no_cut bounded_sat f g = tt
joins_no_cut (sat_takes h) f g = tt
joins_no_cut (takes_later h) f g = tt
joins_no_cut (takes_earlier h) f g = tt
joins_no_cut cut_cut f g = absurd f

joined_no_cut : {ps qs : List Piece} → Joined ps qs → HaveNoCut ps → HaveNoCut qs
joined_no_cut as_they_are h = h
joined_no_cut (join before after others first second one j more) h =
    let parts = no_cut_parts before (first ∷ second ∷ after) h in
    joined_no_cut more (no_cut_both before (one ∷ after) parts.0 (joins_no_cut j parts.1.0 parts.1.1.0, parts.1.1.1))

sat_no_cut : (leaf turns : Turns) (context : Context) (k : ℕ) → IsIn (Sat leaf context) (Cut turns k ∷ []) → ⊥
sat_no_cut leaf turns context k h = let bad = (one_at (Sat leaf context) (Cut turns k) h.0 h.1).1 in cc bad

own_part : (n : ℕ) (p : Piece) → IsNoCut p → (gifts (p ∷ []) ≡ []) → IsOwnPart (part_of n p)
own_part n (Closed list) f g = tt
own_part n (Bounded b) f g = tt
own_part n (Sat turns context) f g = tt
own_part n (Gift turns) f g = cc g
own_part n (Cut turns k) f g = absurd f
own_part n NoMemory f g = tt

no_cut_alone : (p : Piece) (told : List ℕ) (path : Turns) (own : SearchTree) (leaves : List Piece) → told ≡ [] → Replaced (MayCut told (p ∷ [])) path own leaves → Joined leaves (p ∷ []) → IsNoCut p
no_cut_alone (Closed list) told path own leaves none r j = tt
no_cut_alone (Bounded b) told path own leaves none r j = tt
no_cut_alone (Sat turns context) told path own leaves none r j = tt
no_cut_alone (Gift turns) told path own leaves none r j = tt
no_cut_alone (Cut turns k) told path own leaves none r j =
    let never : (key : ℕ) (t : Turns) → MayCut told (Cut turns k ∷ []) key t → ⊥ =
    λ key t may.
    elim may as (λ _. ⊥) [
      | inl a ↦ let P : List ℕ → Type 0 = λ ks. IsIn key ks in let there = subst P none a.0 in none_in key there.0 there.1
      | inr b ↦ sat_no_cut b.0 turns b.1 k b.2
    ] in
    (joined_no_cut j (replaced_no_cut never r)).0
no_cut_alone NoMemory told path own leaves none r j = tt

own_pieces : (n : ℕ) (pieces : List Piece) (told : List ℕ) (path : Turns) (own : SearchTree) (leaves : List Piece) → told ≡ [] → length (map (part_of n) pieces) ≤ 1 → gifts pieces ≡ [] → Replaced (MayCut told pieces) path own leaves → Joined leaves pieces → All IsOwnPart (map (part_of n) pieces)
own_pieces n [] told path own leaves none few no_gift r j = All-nil IsOwnPart
own_pieces n (p ∷ []) told path own leaves none few no_gift r j = All-cons IsOwnPart (part_of n p) [] (own_part n p (no_cut_alone p told path own leaves none r j) no_gift) (All-nil IsOwnPart)
own_pieces n (p ∷ (q ∷ ps)) told path own leaves none few no_gift r j = absurd (omega (arith, few))

pub own_alone : {n : ℕ} {search : SearchTree} {record' : RecordValue} (told : List ℕ) (gave : List Turns) (sent : List ℕ) → told ≡ [] → gave ≡ [] → length record'.parts ≤ 1 → IsPortion n 0 search [] told gave sent record' → All IsOwnPart record'.parts
own_alone {n} {search} {record'} told gave sent untold ungiven few p =
    let no_gift = no_reverse (gifts p.pieces) (sym ungiven ∙ p.gifts_are) in
    let same : record'.parts ≡ map (part_of n) p.pieces = ap (λ (r : RecordValue). r.parts) p.record_is in
    let L : List PartValue → Type 0 = λ ps. length ps ≤ 1 in
    let A : List PartValue → Type 0 = λ ps. All IsOwnPart ps in
    subst A (sym same) (own_pieces n p.pieces told [] p.stands.own p.stands.leaves untold (subst L same few) no_gift p.stands.replaced p.stands.joined)

-- what was told makes the list of what was told longer
pub told_longer : (k : ℕ) (old mid new a b : List ℕ) → mid ≡ old ++ a → new ≡ mid ++ b → IsIn k b → new ≡ old → ⊥
told_longer k old mid new a [] f g h same = none_in k h.0 h.1
told_longer k old mid new a (x ∷ b) f g h same =
    let one = ap (λ (ks : List ℕ). length ks) f in
    let two = ap (λ (ks : List ℕ). length ks) g in
    let three = ap (λ (ks : List ℕ). length ks) same in
    let four = length-append old a in
    let five = length-append mid (x ∷ b) in
    omega (arith, one, two, three, four, five)
