-- A portion keeps to an orderly run that holds its walk.
use Rattle.std.proofs.Common.{◌≡◌, ◌<◌, ℕ, suc, inl, inr, true, List, [], ◌∷◌, ◌++◌, refl, sym, ap, subst, ◌∙◌, append_assoc, arith}
use Rattle.std.specs.List.{All}
use Rattle.me_terms.specs.Context.{Context}
use Rattle.me_terms.specs.Outcome as outcome
use Rattle.branch_core.specs.Core.{CoreValue}
use Rattle.branch_core.specs.Parts.{RecordValue}
use Rattle.branch_core.specs.Paths.{Turns, key}
use Rattle.branch_core.specs.Pieces.{Piece, Closed, Bounded, Sat, Gift, Cut, NoMemory, go_right}
use Rattle.branch_core.specs.Portions.{lefts, MayBeGiven, gift_of, gifts, MayCut, IsPortion}
use Rattle.branch_core.specs.Runs.{Offering, Log, Begins, IsPosted, IsOwnNode, OffersRightChild, PostsOwnLeaf, EndsOrderly, IsOrderly}
use Rattle.branch_core.specs.SearchTree.{SearchTree, subtree}
use Rattle.branch_core.specs.StandsFor.{Account}
use Rattle.branch_core.specs.Whole.{IsIn}
use Rattle.branch_core.proofs.PathOrder.{keys_order}
use Rattle.run_laws.specs.PortionInRun.{OffersOnly, HoldsWalk, FitsRuns, PortionsFitRuns}
use Rattle.run_laws.proofs.Members.{Has, has, is_in, has_right, has_either, has_reverse, has_reversed}
use Rattle.run_laws.proofs.Regions.{IsThere, parent_of, not_beside, sat_stands, gift_stands, apart, replaced_otherwise, joined_keeps}
use Rattle.run_laws.proofs.Spared.{is_exhausted}

-- ---- gifts

gift_listed : (gift : Turns) (pieces : List Piece) → Has (Gift gift) pieces → Has gift (gifts pieces)
gift_listed gift [] h = h
gift_listed gift (p ∷ pieces) (inl e) = subst (λ (x : Piece). Has gift (gift_of x ++ gifts pieces)) e (inl refl)
gift_listed gift (p ∷ pieces) (inr h) = has_right gift (gift_of p) (gifts pieces) (gift_listed gift pieces h)

of_piece : (gift : Turns) (p : Piece) → Has gift (gift_of p) → Gift gift ≡ p
of_piece gift (Closed list) h = absurd h
of_piece gift (Bounded b) h = absurd h
of_piece gift (Sat leaf context) h = absurd h
of_piece gift (Gift other) (inl e) = ap (λ (t : Turns). Gift t) e
of_piece gift (Gift other) (inr none) = absurd none
of_piece gift (Cut turns k) h = absurd h
of_piece gift NoMemory h = absurd h

listed_gift : (gift : Turns) (pieces : List Piece) → Has gift (gifts pieces) → Has (Gift gift) pieces
listed_gift gift [] h = h
listed_gift gift (p ∷ pieces) h =
    elim (has_either gift (gift_of p) (gifts pieces) h) as (λ _. Has (Gift gift) (p ∷ pieces)) [ inl a ↦ inl (of_piece gift p a) | inr b ↦ inr (listed_gift gift pieces b) ]

all_has : {A : Type 0} (P : A → Type 0) (xs : List A) (x : A) → All P xs → Has x xs → P x
all_has P [] x all h = absurd h
all_has P (y ∷ ys) x all (inl e) = subst P (sym e) (all 0 y (omega arith))
all_has P (y ∷ ys) x all (inr h) = all_has P ys x (λ k d lt. all (suc k) d (omega (arith, lt))) h

module _ (list_bound share : ℕ) (search : SearchTree) (path : Turns) (told : List ℕ) (given : List Turns) (posted : List ℕ) (record' : RecordValue) (portion : IsPortion list_bound share search path told given posted record') where
  abbrev account : Account
  account = record { path = path; pieces = portion.pieces }

  to_given : (gift : Turns) → Has (Gift gift) portion.pieces → IsIn gift given
  to_given gift h = is_in gift given (subst (Has gift) (sym portion.gifts_are) (has_reverse gift (gifts portion.pieces) (gift_listed gift portion.pieces h)))

  from_given : (gift : Turns) → IsIn gift given → Has (Gift gift) portion.pieces
  from_given gift h = listed_gift gift portion.pieces (has_reversed gift (gifts portion.pieces) (subst (Has gift) portion.gifts_are (has gift given h)))

  lawful : (gift : Turns) → IsIn gift given → MayBeGiven share path gift
  lawful gift h = all_has (MayBeGiven share path) given gift portion.lawful (has gift given h)

  there : (gift : Turns) → IsIn gift given → IsThere search gift
  there gift h = (gift_stands search portion.stands.replaced portion.stands.at_path gift (joined_keeps portion.stands.joined (Gift gift) tt (from_given gift h))).at

  offers : (offerings : List Offering) (gift : Turns) → OffersOnly path given offerings → IsIn gift given → OffersRightChild search offerings path gift
  offers offerings gift only h =
      let may = lawful gift h in
      let n = may.beside_left.0 in
      let is : gift ≡ go_right (path ++ lefts n) = may.beside_left.1 ∙ sym (append_assoc path (lefts n) (true ∷ [])) in
      let below = there gift h in
      let parent = parent_of search below.0 (path ++ lefts n) (ap (subtree search) (sym is) ∙ below.1) in
      let own : IsOwnNode offerings path (path ++ lefts n) = record {
        below = (lefts n, refl);
        not_given = λ other offered begun.
            let m = (lawful other (only other offered)).beside_left in not_beside path n m.0 (subst (λ (t : Turns). Begins t (path ++ lefts n)) m.1 begun);
      } in
      (path ++ lefts n, parent.0, parent.1, own, parent.2, is)

  posts : (offerings : List Offering) (leaf : Turns) (context : Context) → OffersOnly path given offerings → IsIn (Sat leaf context) portion.pieces
      → PostsOwnLeaf search offerings (record { path = path; leaf = leaf; context = context })
  posts offerings leaf context only h =
      let among = joined_keeps portion.stands.joined (Sat leaf context) tt (has (Sat leaf context) portion.pieces h) in
      let stands = sat_stands search portion.stands.replaced portion.stands.at_path leaf context among in
      let own : IsOwnNode offerings path leaf = record {
        below = stands.below;
        not_given = λ gift offered.
            apart search portion.stands.replaced portion.stands.at_path leaf gift context among (joined_keeps portion.stands.joined (Gift gift) tt (from_given gift (only gift offered)));
      } in
      (own, stands.at)

  ends : (share' : ℕ) (core : CoreValue) (log : Log) → IsOrderly list_bound share' search core log → HoldsWalk log path told given portion.pieces → EndsOrderly search log.offerings log.postings account
  ends share' core log run holds = record {
    stands = record {
      own = portion.stands.own;
      leaves = portion.stands.leaves;
      at_path = portion.stands.at_path;
      replaced = replaced_otherwise search licensed portion.stands.replaced portion.stands.at_path;
      joined = portion.stands.joined;
    };
    gifts_offered = λ gift h. (holds.offered gift).1 (to_given gift (has (Gift gift) portion.pieces h));
    offered_given = λ gift h. is_in (Gift gift) portion.pieces (from_given gift ((holds.offered gift).0 h));
    posted_found = λ posting h at. (holds.posted posting.leaf posting.context).0 (subst (λ (t : Turns). IsIn (record { path = t; leaf = posting.leaf; context = posting.context }) log.postings) at h);
  }
    where
      licensed : (k : ℕ) (t : Turns) → IsThere search t → MayCut told portion.pieces k t → IsPosted log.postings k t
      licensed k t at (inl m) =
          let p = holds.told_posted k m.0 in
          let exhausted = is_exhausted run p.0 (has p.0 log.postings p.1) in
          (p.0, p.1, p.2, keys_order search p.0.leaf t (outcome.Sat p.0.context) at.0 exhausted at.1 (subst (λ (n : ℕ). n < key t) (sym p.2) m.1))
      licensed k t at (inr m) = (record { path = path; leaf = m.0; context = m.1 }, (holds.posted m.0 m.1).1 m.2, m.3, m.4)

  fits : FitsRuns list_bound search path told given posted record'
  fits = record {
    account = account;
    path_is = refl;
    record_is = portion.record_is;
    posted_are = portion.posted_are;
    offers = offers;
    posts = posts;
    ends = ends;
  }

pub portions_fit : PortionsFitRuns
portions_fit = fits
