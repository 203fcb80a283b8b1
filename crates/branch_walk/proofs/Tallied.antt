-- How a tally grows: its last piece takes in what follows, or stays behind a new one.
use Rattle.std.proofs.Common.{◌≡◌, ℕ, true, false, List, [], ◌∷◌, ◌++◌, map, Option, Some, None, refl, sym, subst, ap, ◌∙◌, append-nil}
use Rattle.me_terms.specs.Context.{Context}
use Rattle.me_terms.specs.Values.{EntryValue, InstanceValue}
use Rattle.me_terms.specs.Sequences.{SequenceValue}
use Rattle.me_terms.specs.FirstOccurrences.{joined}
use Rattle.me_terms.specs.declared.bounds.Bound.{Bound}
use Rattle.branch_core.specs.Paths.{Turns}
use Rattle.branch_core.specs.Parts.{PartValue, ListedValue, listed}
use Rattle.branch_core.specs.Parts as value
use Rattle.branch_core.specs.PartViews.{part_value, listed_value}
use Rattle.branch_core.specs.Pieces.{Piece, Closed, Bounded, Sat, Gift, Cut, NoMemory}
use Rattle.branch_core.specs.Joined.{Joins, Joined, as_they_are, join, closed_closed, closed_bounded, bounded_closed, bounded_bounded, closed_sat, bounded_sat, takes_later, takes_earlier}
use Rattle.branch_core.specs.StandsFor.{part_of}
use Rattle.branch_core.specs.SearchTree.{EachOnce}
use Rattle.branch_core.specs.declared.part.Part.{Part}
use Rattle.branch_core.specs.declared.part.Part.TheVariants as part
use Rattle.branch_core.specs.declared.part.Listed.{Listed}
use Rattle.branch_core.proofs.Assembly.{map_append}
use Rattle.instance_lists.proofs.FirstOccurrences.{first-again}
use Rattle.std.specs.Prelude.{Result, Ok, Err, IsOk, OnOk}
use Rattle.branch_walk.specs.declared.tally.Tally.{Tally}
use Rattle.branch_walk.specs.Tallies.{IsTally, IsLast, MayTakeMore, TakesLeaf, AllowsCut, IsSated, AllStandApart, AreClosedOff, EndsApart, is_bounded, is_sat, is_sat_or_cut, cuts, losses}
use Rattle.branch_walk.proofs.StaysApart.{cut_apart, gift_closes_off, last_apart, none_apart}
use Rattle.branch_walk.proofs.JoinedRuns.{joined_last, joined_more, joined_pair, cuts_joined, sat_takes_cuts, losses_joined, sat_takes_losses}

-- ---- the piece of a part
closed_piece : (n : ℕ) (one : Piece) (l : ListedValue) → value.Closed l ≡ part_of n one → (list : List InstanceValue) × (one ≡ Closed list) × (l ≡ listed n list)
closed_piece n (Closed list) l e = (list, refl, cc e)
closed_piece n (Bounded b) l e = cc e
closed_piece n (Sat turns context) l e = cc e
closed_piece n (Gift turns) l e = cc e
closed_piece n (Cut turns key) l e = cc e
closed_piece n NoMemory l e = cc e

bounded_piece : (n : ℕ) (one : Piece) (b : Bound) → value.Bounded b ≡ part_of n one → one ≡ Bounded b
bounded_piece n (Closed list) b e = cc e
bounded_piece n (Bounded c) b e = cc e
bounded_piece n (Sat turns context) b e = cc e
bounded_piece n (Gift turns) b e = cc e
bounded_piece n (Cut turns key) b e = cc e
bounded_piece n NoMemory b e = cc e

sat_piece : (n : ℕ) (one : Piece) (context : Context) → value.Sat context ≡ part_of n one → (turns : Turns) × (one ≡ Sat turns context)
sat_piece n (Closed list) context e = cc e
sat_piece n (Bounded c) context e = cc e
sat_piece n (Sat turns other) context e = (turns, cc e)
sat_piece n (Gift turns) context e = cc e
sat_piece n (Cut turns key) context e = cc e
sat_piece n NoMemory context e = cc e

cut_piece : (n : ℕ) (one : Piece) (key : ℕ) → value.Cut key ≡ part_of n one → (turns : Turns) × (one ≡ Cut turns key)
cut_piece n (Closed list) key e = cc e
cut_piece n (Bounded c) key e = cc e
cut_piece n (Sat turns other) key e = cc e
cut_piece n (Gift turns) key e = cc e
cut_piece n (Cut turns other) key e = (turns, cc e)
cut_piece n NoMemory key e = cc e

-- ---- a last part that takes in pieces
pub record Takes (n : ℕ) (tail more : List Piece) (new : Option Part) : Type 0 where
  pub new_tail : List Piece
  pub is_last : IsLast n new new_tail
  pub joins : Joined (tail ++ more) new_tail

one_more : (n : ℕ) (more one : Piece) (p : Part) → part_value p ≡ part_of n more → MayTakeMore more → Takes n [] (more ∷ []) (Some p)
one_more n more one p e may = record { new_tail = more ∷ []; is_last = (more, refl, e, may); joins = as_they_are }

pub grows : (n : ℕ) (old new : Tally) (more : List Piece) → new.parts ≡ old.parts → ((tail : List Piece) → IsLast n old.last tail → Takes n tail more new.last) → (EndsApart (map part_value old.parts.items) old.last → EndsApart (map part_value old.parts.items) new.last) → (leaves : List Piece) → IsTally n old leaves → IsTally n new (leaves ++ more)
grows n old new more same f fits leaves h =
    let t = f h.tail h.last_is in
    record {
      earlier = h.earlier;
      tail = t.new_tail;
      parts_are = ap (λ (s : SequenceValue Part). map part_value s.items) same ∙ h.parts_are;
      last_is = t.is_last;
      joined = joined_last h.earlier h.tail more t.new_tail h.joined t.joins;
      apart = subst (λ (s : SequenceValue Part). EndsApart (map part_value s.items) new.last) (sym same) (fits h.apart);
    }

-- a first piece takes in the next one
pair : (n : ℕ) (tail : List Piece) (one next sum : Piece) (p : Part) → tail ≡ one ∷ [] → Joins one next sum → part_value p ≡ part_of n sum → MayTakeMore sum → Takes n tail (next ∷ []) (Some p)
pair n tail one next sum p e j is may =
    record {
      new_tail = sum ∷ [];
      is_last = (sum, refl, is, may);
      joins = subst (λ (z : List Piece). Joined (z ++ next ∷ []) (sum ∷ [])) (sym e) (joined_pair j);
    }

-- ---- a bound
pub takes_bound : (n : ℕ) (last : Option Part) (b : Bound) → TakesLeaf last → is_bounded last ≡ false → (tail : List Piece) → IsLast n last tail → Takes n tail (Bounded b ∷ []) (Some (part.Bounded b))
takes_bound n None b takes other_than tail e = subst (λ (z : List Piece). Takes n z (Bounded b ∷ []) (Some (part.Bounded b))) (sym e) (record { new_tail = Bounded b ∷ []; is_last = (Bounded b, refl, refl, tt); joins = as_they_are })
takes_bound n (Some (part.Closed l)) b takes other_than tail h =
    let is = closed_piece n h.0 (listed_value l) h.2 in
    pair n tail (Closed is.0) (Bounded b) (Bounded b) (part.Bounded b) (h.1 ∙ ap (λ (z : Piece). z ∷ []) is.1) closed_bounded refl tt
takes_bound n (Some (part.Bounded c)) b takes other_than tail h = cc other_than
takes_bound n (Some (part.Sat c)) b takes other_than tail h = absurd takes
takes_bound n (Some (part.Gift c)) b takes other_than tail h = absurd takes
takes_bound n (Some (part.Cut c)) b takes other_than tail h = absurd takes
takes_bound n (Some part.NoMemory) b takes other_than tail h = absurd takes

-- a bound that is there takes in a bound
pub keeps_bound : (n : ℕ) (last : Option Part) (b : Bound) → is_bounded last ≡ true → (tail : List Piece) → IsLast n last tail → Takes n tail (Bounded b ∷ []) last
keeps_bound n None b is tail h = cc is
keeps_bound n (Some (part.Closed l)) b is tail h = cc is
keeps_bound n (Some (part.Bounded c)) b is tail h =
    let one = bounded_piece n h.0 c h.2 in
    pair n tail (Bounded c) (Bounded b) (Bounded c) (part.Bounded c) (h.1 ∙ ap (λ (z : Piece). z ∷ []) one) bounded_bounded refl tt
keeps_bound n (Some (part.Sat context)) b is tail h = cc is
keeps_bound n (Some (part.Gift p)) b is tail h = cc is
keeps_bound n (Some (part.Cut k)) b is tail h = cc is
keeps_bound n (Some part.NoMemory) b is tail h = cc is

-- a bound that is there takes in a closed leaf
pub keeps_bound_at : (n : ℕ) (c : Bound) (list : List InstanceValue) (tail : List Piece) → IsLast n (Some (part.Bounded c)) tail → Takes n tail (Closed list ∷ []) (Some (part.Bounded c))
keeps_bound_at n c list tail h =
    let is = bounded_piece n h.0 c h.2 in
    pair n tail (Bounded c) (Closed list) (Bounded c) (part.Bounded c) (h.1 ∙ ap (λ (z : Piece). z ∷ []) is) bounded_closed refl tt

-- ---- an exhausted leaf
pub takes_sat : (n : ℕ) (last : Option Part) (leaf : Turns) (p : Part) (context : Context) → part_value p ≡ value.Sat context → TakesLeaf last → (tail : List Piece) → IsLast n last tail → Takes n tail (Sat leaf context ∷ []) (Some p)
takes_sat n None leaf p context is takes tail e = subst (λ (z : List Piece). Takes n z (Sat leaf context ∷ []) (Some p)) (sym e) (record { new_tail = Sat leaf context ∷ []; is_last = (Sat leaf context, refl, is, tt); joins = as_they_are })
takes_sat n (Some (part.Closed l)) leaf p context is takes tail h =
    let at = closed_piece n h.0 (listed_value l) h.2 in
    pair n tail (Closed at.0) (Sat leaf context) (Sat leaf context) p (h.1 ∙ ap (λ (z : Piece). z ∷ []) at.1) closed_sat is tt
takes_sat n (Some (part.Bounded c)) leaf p context is takes tail h =
    let at = bounded_piece n h.0 c h.2 in
    pair n tail (Bounded c) (Sat leaf context) (Sat leaf context) p (h.1 ∙ ap (λ (z : Piece). z ∷ []) at) bounded_sat is tt
takes_sat n (Some (part.Sat c)) leaf p context is takes tail h = absurd takes
takes_sat n (Some (part.Gift c)) leaf p context is takes tail h = absurd takes
takes_sat n (Some (part.Cut c)) leaf p context is takes tail h = absurd takes
takes_sat n (Some part.NoMemory) leaf p context is takes tail h = absurd takes

-- ---- a closed leaf
pub first_closed : (n : ℕ) (l : Listed) (list : List InstanceValue) → listed_value l ≡ listed n list → EachOnce list → (tail : List Piece) → IsLast n None tail → Takes n tail (Closed list ∷ []) (Some (part.Closed l))
first_closed n l list is once tail e = subst (λ (z : List Piece). Takes n z (Closed list ∷ []) (Some (part.Closed l))) (sym e) (record { new_tail = Closed list ∷ []; is_last = (Closed list, refl, ap value.Closed is, once); joins = as_they_are })

-- what is known of the list of a last part that is closed
pub closed_list : (n : ℕ) (l : Listed) (tail : List Piece) → IsLast n (Some (part.Closed l)) tail → (before : List InstanceValue) × (tail ≡ Closed before ∷ []) × (listed_value l ≡ listed n before) × EachOnce before
closed_list n l tail h =
    let at = closed_piece n h.0 (listed_value l) h.2 in
    (at.0, h.1 ∙ ap (λ (z : Piece). z ∷ []) at.1, at.2, subst MayTakeMore at.1 h.3)

pub more_closed : (n : ℕ) (l new : Listed) (list : List InstanceValue) → ((before : List InstanceValue) → listed_value l ≡ listed n before → EachOnce before → listed_value new ≡ listed n (joined before list)) → (tail : List Piece) → IsLast n (Some (part.Closed l)) tail → Takes n tail (Closed list ∷ []) (Some (part.Closed new))
more_closed n l new list f tail h =
    let at = closed_list n l tail h in
    pair n tail (Closed at.0) (Closed list) (Closed (joined at.0 list)) (part.Closed new) at.1 closed_closed (ap value.Closed (f at.0 at.2 at.3)) (first-again (at.0 ++ list))

-- ---- cuts
pub first_cuts : (n : ℕ) (new : Tally) (key : ℕ) (turns : Turns) (later : List Turns) → new.last ≡ Some (part.Cut key) → (leaves pieces : List Piece) → Joined leaves pieces → map part_value new.parts.items ≡ map (part_of n) pieces → AllStandApart (map part_value new.parts.items ++ value.Cut key ∷ []) → IsTally n new (leaves ++ cuts key (turns ∷ later))
first_cuts n new key turns later is leaves pieces all parts apart =
    let tail : List Piece = Cut turns key ∷ [] in
    let last : IsLast n (Some (part.Cut key)) tail = (Cut turns key, refl, refl, tt) in
    record {
      earlier = pieces;
      tail = tail;
      parts_are = parts;
      last_is = subst (λ (z : Option Part). IsLast n z tail) (sym is) last;
      joined = joined_last pieces [] (cuts key (turns ∷ later)) tail (subst (λ (z : List Piece). Joined leaves z) (sym (append-nil pieces)) all) (cuts_joined key turns later);
      apart = subst (λ (z : Option Part). EndsApart (map part_value new.parts.items) z) (sym is) apart;
    }

cut_takes_cuts : (n : ℕ) (key : ℕ) (nodes : List Turns) (tail : List Piece) → IsLast n (Some (part.Cut key)) tail → Takes n tail (cuts key nodes) (Some (part.Cut key))
cut_takes_cuts n key nodes tail h =
    let at = cut_piece n h.0 key h.2 in
    let one = Cut at.0 key in
    record {
      new_tail = one ∷ [];
      is_last = (one, refl, refl, tt);
      joins = subst (λ (z : List Piece). Joined (z ++ cuts key nodes) (one ∷ [])) (sym (h.1 ∙ ap (λ (z : Piece). z ∷ []) at.1)) (cuts_joined key at.0 nodes);
    }

sat_takes_in : (n : ℕ) (key : ℕ) (context : SequenceValue EntryValue) (nodes : List Turns) (tail : List Piece) → IsLast n (Some (part.Sat context)) tail → Takes n tail (cuts key nodes) (Some (part.Sat context))
sat_takes_in n key context nodes tail h =
    let at = sat_piece n h.0 context.items h.2 in
    let one = Sat at.0 context.items in
    record {
      new_tail = one ∷ [];
      is_last = (one, refl, refl, tt);
      joins = subst (λ (z : List Piece). Joined (z ++ cuts key nodes) (one ∷ [])) (sym (h.1 ∙ ap (λ (z : Piece). z ∷ []) at.1)) (sat_takes_cuts at.0 context.items key nodes);
    }

pub keeps_cuts : (n : ℕ) (key : ℕ) (last : Option Part) (nodes : List Turns) → AllowsCut key last → is_sat_or_cut last ≡ true → (tail : List Piece) → IsLast n last tail → Takes n tail (cuts key nodes) last
keeps_cuts n key None nodes may is tail h = cc is
keeps_cuts n key (Some (part.Closed l)) nodes may is tail h = cc is
keeps_cuts n key (Some (part.Bounded b)) nodes may is tail h = cc is
keeps_cuts n key (Some (part.Sat context)) nodes may is tail h = sat_takes_in n key context nodes tail h
keeps_cuts n key (Some (part.Gift p)) nodes may is tail h = absurd may
keeps_cuts n key (Some (part.Cut k)) nodes may is tail h =
    let P : ℕ → Type 0 = λ z. Takes n tail (cuts z nodes) (Some (part.Cut k)) in subst P may (cut_takes_cuts n k nodes tail h)
keeps_cuts n key (Some part.NoMemory) nodes may is tail h = cc is

sat_cuts : (n : ℕ) (key : ℕ) (last : Option Part) (nodes : List Turns) → is_sat last ≡ true → (tail : List Piece) → IsLast n last tail → Takes n tail (cuts key nodes) last
sat_cuts n key None nodes is tail h = cc is
sat_cuts n key (Some (part.Closed l)) nodes is tail h = cc is
sat_cuts n key (Some (part.Bounded b)) nodes is tail h = cc is
sat_cuts n key (Some (part.Sat context)) nodes is tail h = sat_takes_in n key context nodes tail h
sat_cuts n key (Some (part.Gift p)) nodes is tail h = cc is
sat_cuts n key (Some (part.Cut k)) nodes is tail h = cc is
sat_cuts n key (Some part.NoMemory) nodes is tail h = cc is

-- a tally whose last part is an exhausted leaf's takes in all Cuts that follow
pub sated_takes_cuts : (n : ℕ) (tally : Tally) (key : ℕ) (nodes : List Turns) → IsSated tally → (leaves : List Piece) → IsTally n tally leaves → IsTally n tally (leaves ++ cuts key nodes)
sated_takes_cuts n tally key nodes sated leaves h = grows n tally tally (cuts key nodes) refl (sat_cuts n key tally.last nodes sated) (λ apart. apart) leaves h

-- ---- losses
pub sat_losses : (n : ℕ) (last : Option Part) (nodes : List Turns) → is_sat last ≡ true → (tail : List Piece) → IsLast n last tail → Takes n tail (losses nodes) last
sat_losses n None nodes is tail h = cc is
sat_losses n (Some (part.Closed l)) nodes is tail h = cc is
sat_losses n (Some (part.Bounded b)) nodes is tail h = cc is
sat_losses n (Some (part.Sat context)) nodes is tail h =
    let at = sat_piece n h.0 context.items h.2 in
    let one = Sat at.0 context.items in
    record {
      new_tail = one ∷ [];
      is_last = (one, refl, refl, tt);
      joins = subst (λ (z : List Piece). Joined (z ++ losses nodes) (one ∷ [])) (sym (h.1 ∙ ap (λ (z : Piece). z ∷ []) at.1)) (sat_takes_losses at.0 context.items nodes);
    }
sat_losses n (Some (part.Gift p)) nodes is tail h = cc is
sat_losses n (Some (part.Cut k)) nodes is tail h = cc is
sat_losses n (Some part.NoMemory) nodes is tail h = cc is

lost_with : (one : Piece) (nodes : List Turns) → Joins one NoMemory NoMemory → Joined (one ∷ NoMemory ∷ losses nodes) (NoMemory ∷ [])
lost_with one nodes j = join [] (losses nodes) (NoMemory ∷ []) one NoMemory NoMemory j (losses_joined nodes)

takes_loss : (one : Piece) → MayTakeMore one → ((turns : Turns) (context : Context) → one ≡ Sat turns context → ⊥) → Joins one NoMemory NoMemory
takes_loss (Closed list) may other_than = takes_earlier tt
takes_loss (Bounded b) may other_than = takes_earlier tt
takes_loss (Sat turns context) may other_than = absurd (other_than turns context refl)
takes_loss (Gift turns) may other_than = absurd may
takes_loss (Cut turns key) may other_than = takes_earlier tt
takes_loss NoMemory may other_than = takes_later tt

not_sat : (n : ℕ) (p : Part) (turns : Turns) (context : Context) → is_sat (Some p) ≡ false → part_value p ≡ part_of n (Sat turns context) → ⊥
not_sat n (part.Closed l) turns context other_than e = cc e
not_sat n (part.Bounded b) turns context other_than e = cc e
not_sat n (part.Sat c) turns context other_than e = cc other_than
not_sat n (part.Gift c) turns context other_than e = cc e
not_sat n (part.Cut c) turns context other_than e = cc e
not_sat n part.NoMemory turns context other_than e = cc e

pub loses : (n : ℕ) (last : Option Part) (turns : Turns) (later : List Turns) → is_sat last ≡ false → (tail : List Piece) → IsLast n last tail → Takes n tail (losses (turns ∷ later)) (Some part.NoMemory)
loses n None turns later other_than tail e = subst (λ (z : List Piece). Takes n z (losses (turns ∷ later)) (Some part.NoMemory)) (sym e) (record { new_tail = NoMemory ∷ []; is_last = (NoMemory, refl, refl, tt); joins = losses_joined later })
loses n (Some p) turns later other_than tail h =
    let sat : (t : Turns) (context : Context) → h.0 ≡ Sat t context → ⊥ = λ t context e. not_sat n p t context other_than (h.2 ∙ ap (part_of n) e) in
    record {
      new_tail = NoMemory ∷ [];
      is_last = (NoMemory, refl, refl, tt);
      joins = subst (λ (z : List Piece). Joined (z ++ losses (turns ∷ later)) (NoMemory ∷ [])) (sym h.1) (lost_with h.0 later (takes_loss h.0 h.3 sat));
    }

-- ---- a last part that is put behind the others
-- the parts of all pieces, no two neighbours of which can be joined
abbrev pub IsWhole : ℕ → List Piece → List PartValue → Type 0
IsWhole n leaves parts = (pieces : List Piece) × Joined leaves pieces × (parts ≡ map (part_of n) pieces) × AllStandApart parts

pub settled : (n : ℕ) (old : Tally) (items : List Part) (p : Part) → old.last ≡ Some p → items ≡ old.parts.items ++ p ∷ [] → (leaves : List Piece) → IsTally n old leaves → IsWhole n leaves (map part_value items)
settled n old items p is pushed leaves h =
    let at : IsLast n (Some p) h.tail = subst (λ (z : Option Part). IsLast n z h.tail) is h.last_is in
    let values : map part_value items ≡ map part_value old.parts.items ++ part_value p ∷ [] = ap (map part_value) pushed ∙ map_append part_value old.parts.items (p ∷ []) in
    let parts : map part_value items ≡ map (part_of n) (h.earlier ++ at.0 ∷ []) = values ∙ ((λ i. h.parts_are i ++ at.2 i ∷ []) ∙ sym (map_append (part_of n) h.earlier (at.0 ∷ []))) in
    let same : h.earlier ++ h.tail ≡ h.earlier ++ at.0 ∷ [] = ap (λ (z : List Piece). h.earlier ++ z) at.1 in
    let apart = last_apart (map part_value old.parts.items) p (subst (λ (z : Option Part). EndsApart (map part_value old.parts.items) z) is h.apart) in
    (h.earlier ++ at.0 ∷ [], subst (λ (z : List Piece). Joined leaves z) same h.joined, parts, subst AllStandApart (sym values) apart)

-- where there is no last part, all pieces stand before it
pub none_settled : (n : ℕ) (tally : Tally) → tally.last ≡ None → (leaves : List Piece) → IsTally n tally leaves → IsWhole n leaves (map part_value tally.parts.items)
none_settled n tally none leaves h =
    let values = map part_value tally.parts.items in
    let nil : h.tail ≡ [] = subst (λ (z : Option Part). IsLast n z h.tail) none h.last_is in
    let same : h.earlier ++ h.tail ≡ h.earlier = ap (λ (z : List Piece). h.earlier ++ z) nil ∙ append-nil h.earlier in
    (h.earlier, subst (λ (z : List Piece). Joined leaves z) same h.joined, h.parts_are, none_apart values (subst (λ (z : Option Part). EndsApart values z) none h.apart))

-- what was put there allows a Cut behind it
pub settled_cut : (old : Tally) (items : List Part) (p : Part) (key : ℕ) → old.last ≡ Some p → items ≡ old.parts.items ++ p ∷ [] → EndsApart (map part_value old.parts.items) old.last → AllowsCut key old.last → is_sat_or_cut old.last ≡ false → AllStandApart (map part_value items ++ value.Cut key ∷ [])
settled_cut old items p key is pushed apart may other_than =
    let before = map part_value old.parts.items in
    let values : map part_value items ≡ before ++ part_value p ∷ [] = ap (map part_value) pushed ∙ map_append part_value old.parts.items (p ∷ []) in
    let P : Option Part → Type 0 = λ z. EndsApart before z × AllowsCut key z × (is_sat_or_cut z ≡ false) in
    let at : P (Some p) = subst P is (apart, may, other_than) in
    subst (λ (z : List PartValue). AllStandApart (z ++ value.Cut key ∷ [])) (sym values) (cut_apart key before p at.1 at.2 at.0)

pub none_settled_cut : (tally : Tally) (key : ℕ) → tally.last ≡ None → EndsApart (map part_value tally.parts.items) tally.last → AllStandApart (map part_value tally.parts.items ++ value.Cut key ∷ [])
none_settled_cut tally key none apart =
    let closed : AreClosedOff (map part_value tally.parts.items) = subst (λ (z : Option Part). EndsApart (map part_value tally.parts.items) z) none apart in
    closed (value.Cut key)

-- ---- a gift
pub when_ok : {T E : Type 0} (r : Result T E) (P : Type 0) → OnOk r P → IsOk r → P
when_ok (Ok x) P h is = h
when_ok (Err e) P h is = cc is

pub gives : (n : ℕ) (old new : Tally) (path : Turns) → new.parts.items ≡ old.parts.items ++ part.Gift path ∷ [] → new.last ≡ None → (leaves : List Piece) → IsWhole n leaves (map part_value old.parts.items) → IsTally n new (leaves ++ Gift path ∷ [])
gives n old new path pushed none leaves all =
    let pieces = all.0 ++ Gift path ∷ [] in
    let values : map part_value new.parts.items ≡ map part_value old.parts.items ++ value.Gift path ∷ [] = ap (map part_value) pushed ∙ map_append part_value old.parts.items (part.Gift path ∷ []) in
    let parts : map part_value new.parts.items ≡ map (part_of n) pieces = values ∙ ((λ i. all.2 i ++ value.Gift path ∷ []) ∙ sym (map_append (part_of n) all.0 (Gift path ∷ []))) in
    record {
      earlier = pieces;
      tail = [];
      parts_are = parts;
      last_is = subst (λ (z : Option Part). IsLast n z []) (sym none) refl;
      joined = subst (λ (z : List Piece). Joined (leaves ++ Gift path ∷ []) z) (sym (append-nil pieces)) (joined_more (Gift path ∷ []) all.1);
      apart = subst (λ (z : Option Part). EndsApart (map part_value new.parts.items) z) (sym none) (subst AreClosedOff (sym values) (gift_closes_off (map part_value old.parts.items) path all.3));
    }
