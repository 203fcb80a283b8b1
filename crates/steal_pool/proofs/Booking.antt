-- Records and seats that fit stay so as a worker takes, walks and ends a path, and as seats are joined.
use Rattle.std.proofs.Common.{◌≡◌, ℕ, zero, suc, ◌<◌, inl, inr, Bool, true, List, [], ◌∷◌, ◌++◌, map, append-nil, refl, sym, subst, ap, ◌∙◌, ⊎_elim, arith}
use Rattle.std.proofs.lemmas.Grind.{flat_map-append}
use Rattle.std.proofs.lemmas.List.{map-append}
use Rattle.branch_core.specs.Paths.{Turns, key, ProperlyBegins}
use Rattle.branch_core.specs.Parts.{RecordValue}
use Rattle.branch_core.specs.Pieces.{Piece, Gift}
use Rattle.branch_core.specs.Portions.{gifts, sat_keys, MayBeGiven, MayCut, IsPortion}
use Rattle.branch_core.specs.SearchTree.{SearchTree}
use Rattle.branch_core.specs.StandsFor.{Account, record_of, StandsFor}
use Rattle.branch_core.specs.Whole.{IsIn}
use Rattle.branch_core.proofs.Orderly.{stands_more}
use Rattle.share_words.specs.Seats.{WorkerSeatValue, WordsValue, Holds}
use Rattle.steal_pool.specs.Ledger.{ExplorerTree, told_of, record_paths, gifts_given, sats_posted, FitsSeat, HasAccounts, IsKept, IsTaking, IsSameSeat, IsWalked}
use Rattle.steal_pool.proofs.Lists.{in_left, in_right, in_split, in_one, in_reverse, all_in}
use Rattle.steal_pool.proofs.Pieces.{gift_in, given_of, posted_of}

-- ---- keys that were told
more_cut : (told more : List ℕ) (pieces : List Piece) (k : ℕ) (t : Turns) → MayCut told pieces k t → MayCut (told ++ more) pieces k t
more_cut told more pieces k t h = ⊎_elim (λ (x : IsIn k told × (k < key t)). inl (in_left told more k x.0, x.1)) (λ x. inr x) h

cut_more : (more told : List ℕ) (pieces : List Piece) (k : ℕ) (t : Turns) → MayCut told pieces k t → MayCut (more ++ told) pieces k t
cut_more more told pieces k t h = ⊎_elim (λ (x : IsIn k told × (k < key t)). inl (in_right more told k x.0, x.1)) (λ x. inr x) h

-- ---- two ledgers as one
pub fits_both : (search : SearchTree) (ours theirs : List Account) (given more : List Turns) (posted sent told heard : List ℕ) → FitsSeat search ours given posted told → FitsSeat search theirs more sent heard → FitsSeat search (ours ++ theirs) (given ++ more) (posted ++ sent) (told ++ heard)
fits_both search ours theirs given more posted sent told heard fits fit = record {
  stands = λ a is. elim (in_split ours theirs a is) as (λ _. StandsFor (MayCut (told ++ heard) a.pieces) search a) [
    | inl x ↦ stands_more search a (λ k t h. more_cut told heard a.pieces k t h) (fits.stands a x)
    | inr x ↦ stands_more search a (λ k t h. cut_more told heard a.pieces k t h) (fit.stands a x)
  ];
  extends = λ a gift is has. ⊎_elim (λ x. fits.extends a gift x has) (λ x. fit.extends a gift x has) (in_split ours theirs a is);
  offered_are = (λ i. fits.offered_are i ++ fit.offered_are i) ∙ sym (flat_map-append given_of ours theirs);
  posted_are = (λ i. fits.posted_are i ++ fit.posted_are i) ∙ sym (flat_map-append posted_of ours theirs);
}

-- The account of one walk.
pub fits_one : (list_bound share : ℕ) (search : SearchTree) (path : Turns) (told : List ℕ) (given : List Turns) (posted : List ℕ) (r : RecordValue) (p : IsPortion list_bound share search path told given posted r) → FitsSeat search (record { path = path; pieces = p.pieces } ∷ []) given posted told
fits_one list_bound share search path told given posted r p =
    let one : Account = record { path = path; pieces = p.pieces } in
    let P : Turns → Type 0 = λ gift. MayBeGiven share path gift in
    let below : (gift : Turns) → IsIn (Gift gift) p.pieces → ProperlyBegins path gift = λ gift has.
    let here : IsIn gift given = subst (IsIn gift) (sym p.gifts_are) (in_reverse (gifts p.pieces) gift (gift_in p.pieces gift has)) in (all_in P given gift p.lawful here).below in
    record {
      stands = λ a is. let Q : Account → Type 0 = λ z. StandsFor (MayCut told z.pieces) search z in subst Q (sym (in_one one a is)) p.stands;
      extends = λ a gift is has.
          let Q : Account → Type 0 = λ z. IsIn (Gift gift) z.pieces → ProperlyBegins z.path gift in subst Q (sym (in_one one a is)) (below gift) has;
      offered_are = p.gifts_are ∙ sym (append-nil (given_of one));
      posted_are = p.posted_are ∙ sym (append-nil (posted_of one));
    }

module _ (q : ExplorerTree) where
  pub accounts_both : (rs more : List RecordValue) (given gave : List Turns) (posted sent told heard : List ℕ) → HasAccounts q rs given posted told → HasAccounts q more gave sent heard → HasAccounts q (rs ++ more) (given ++ gave) (posted ++ sent) (told ++ heard)
  accounts_both rs more given gave posted sent told heard h g search tree =
      let a = h search tree in
      let b = g search tree in
      (a.0 ++ b.0, fits_both search a.0 b.0 given gave posted sent told heard a.1 b.1, ap (λ (l : List RecordValue). l ++ more) a.2 ∙ ap (λ (l : List RecordValue). map (record_of q.bounds.list) a.0 ++ l) b.2 ∙ sym (map-append (record_of q.bounds.list) a.0 b.0))

  pub no_accounts : HasAccounts q [] [] [] []
  no_accounts search tree = ([], record { stands = λ a is. absurd (none a is); extends = λ a gift is has. absurd (none a is); offered_are = refl; posted_are = refl }, refl)
    where
      none : (a : Account) → ¬ IsIn a []
      none a (zero, e) = cc e
      none a (suc k, e) = cc e

  module _ (words : WordsValue) (lacks : Bool) (records : List RecordValue) where
    -- It takes a path.
    pub take_books : (path : Turns) (old new : WorkerSeatValue) → IsKept q words lacks records old → new ≡ record old { taken = old.taken ++ path ∷ [] } → Holds new path → IsTaking q words lacks records path new
    take_books path old new kept is held =
        let P : WorkerSeatValue → Type 0 = λ s. Holds s path → IsTaking q words lacks records path s in
        subst P (sym is) (λ h. record {
          of_words = kept.of_words;
          raised = kept.raised;
          held = h;
          taken = λ h. ap (λ (l : List Turns). l ++ path ∷ []) (kept.booked h).taken;
          ended = λ h. (kept.booked h).ended;
          accounts = λ h. (kept.booked h).accounts;
        }) held

    -- It ends the path without a walk.
    pub skip_books : (path : Turns) (old new : WorkerSeatValue) → IsTaking q words lacks records path old → new ≡ record old { ended = old.ended ++ path ∷ [] } → IsKept q words true records new
    skip_books path old new taking is = subst (IsKept q words true records) (sym is) (record { of_words = taking.of_words; raised = taking.raised; booked = λ h. cc h })

    -- It walks the path, and ends it.
    pub walk_books : (path : Turns) (r : RecordValue) (old mid new : WorkerSeatValue) → IsTaking q words lacks records path old → IsWalked q path r old mid → new ≡ record mid { ended = mid.ended ++ path ∷ [] } → IsKept q words lacks (records ++ r ∷ []) new
    walk_books path r old mid new taking w is =
        let paths : record_paths (records ++ r ∷ []) ≡ record_paths records ++ path ∷ [] = map-append (λ (z : RecordValue). z.path) records (r ∷ []) ∙ ap (λ (t : Turns). record_paths records ++ t ∷ []) w.path_is in
        let one : HasAccounts q (r ∷ []) w.portion.given w.portion.posted w.portion.told = λ search tree.
        let p = w.portion.portion search tree in (record { path = path; pieces = p.pieces } ∷ [], fits_one q.bounds.list q.share search path w.portion.told w.portion.given w.portion.posted r p, ap (λ (z : RecordValue). z ∷ []) p.record_is) in
        subst (IsKept q words lacks (records ++ r ∷ [])) (sym is) (record {
          of_words = w.same.words ∙ taking.of_words;
          raised = w.raised;
          booked = λ h.
              let both = accounts_both records (r ∷ []) old.offered w.portion.given old.posted w.portion.posted (told_of old.looked) w.portion.told (taking.accounts h) one in
              let A : List Turns → Type 0 = λ l. HasAccounts q (records ++ r ∷ []) l (old.posted ++ w.portion.posted) (told_of old.looked ++ w.portion.told) in
              let B : List ℕ → Type 0 = λ l. HasAccounts q (records ++ r ∷ []) mid.offered l (told_of old.looked ++ w.portion.told) in
              let C : List ℕ → Type 0 = λ l. HasAccounts q (records ++ r ∷ []) mid.offered mid.posted l in
              record {
                taken = w.taken ∙ taking.taken h ∙ sym paths;
                ended = ap (λ (l : List Turns). l ++ path ∷ []) (w.ended ∙ taking.ended h) ∙ sym paths;
                accounts = subst C (sym w.portion.extends.told_are) (subst B (sym w.portion.extends.posted_are) (subst A (sym w.portion.extends.given_are) both));
              };
        })

-- ---- seats
pub same_seat : (a b c : WorkerSeatValue) → IsSameSeat a b → IsSameSeat b c → IsSameSeat a c
same_seat a b c h g = record { words = g.words ∙ h.words; number = g.number ∙ h.number; forks = g.forks ∙ h.forks; gathered = g.gathered ∙ h.gathered }
