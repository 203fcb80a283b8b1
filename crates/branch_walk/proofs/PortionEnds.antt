-- What the walk of a job's tree hands back is a portion, and that of the whole tree without gifts is whole.
use Rattle.std.proofs.Common.{◌≡◌, ℕ, zero, suc, ◌≤◌, List, [], ◌∷◌, ◌++◌, length, reverse, slice_get, Some, inl, inr, refl, sym, subst, ap, ◌∙◌}
use Rattle.std.proofs.lemmas.Option.{same_Some}
use Rattle.me_terms.specs.Values.{ProblemValue}
use Rattle.me_terms.specs.Context.{Context}
use Rattle.me_terms.specs.Grown.{IsGrown, start}
use Rattle.me_terms.specs.declared.bounds.Bounds.{Bounds}
use Rattle.branch_core.specs.Hooks.{History}
use Rattle.branch_core.proofs.Orderly.{none_in, replaced_more, stands_more}
use Rattle.branch_core.specs.Paths.{Turns}
use Rattle.branch_core.specs.Parts.{RecordValue}
use Rattle.branch_core.specs.Pieces.{Piece, Gift}
use Rattle.branch_core.specs.Joined.{Joined}
use Rattle.branch_core.specs.Replaced.{Replaced}
use Rattle.branch_core.specs.SearchTree.{SearchTree, IsSearchTree, subtree}
use Rattle.branch_core.specs.StandsFor.{Account, record_of, StandsFor}
use Rattle.branch_core.specs.Whole.{IsIn, IsLicensed, AreWhole, AreWholeRecords}
use Rattle.std.specs.List.{All}
use Rattle.branch_walk.specs.Jobs.{turns_taken}
use Rattle.branch_core.specs.Portions.{MayBeGiven, gift_of, gifts, MayCut, IsJoinedThrough, IsPortion}
use Rattle.branch_walk.specs.Walks.{IsWalked}
use Rattle.branch_walk.specs.declared.state.State.{State}
use Rattle.branch_walk.specs.declared.tally.Tally.{Tally}
use Rattle.branch_walk.proofs.Spines.{no_reverse}
use Rattle.branch_walk.proofs.Survivors.{gifts_joined, sats_joined, may_cut_joined}
use Rattle.branch_walk.proofs.TreesAt.{tree_at}
use Rattle.branch_walk.proofs.TreesBelow.{same_tree}

module _ (problem : ProblemValue) (bounds : Bounds) (share : ℕ) (path : Turns) (context : Context) where
  pub portion : IsGrown problem bounds context → turns_taken context ≡ path → (state : State) (history now : History) (old new : Tally) → (w : IsWalked problem bounds share context state history now old new) → (pieces : List Piece) → Joined w.more pieces → IsJoinedThrough pieces → (record' : RecordValue) → record' ≡ record_of bounds.list (record { path = path; pieces = pieces }) → (search : SearchTree) → IsSearchTree problem bounds (start bounds.start) search → IsPortion bounds.list share search path w.told w.gave w.sent record'
  portion grown turns state history now old new w pieces joined through record' is search tree =
      let here = tree_at grown search tree in
      let own = same_tree problem bounds context here.own w.own here.tree w.tree in
      let L : List ℕ → Type 0 = λ s. length s ≤ 1 in
      let one = subst L w.sent_is w.one_sat in
      let may : (k : ℕ) (t : Turns) → MayCut w.told w.more k t → MayCut w.told pieces k t = λ k t m. may_cut_joined joined one w.told k t m in
      let R : Turns → Type 0 = λ t. Replaced (MayCut w.told pieces) t w.own w.more in
      let A : Turns → Type 0 = λ t. subtree search t ≡ Some w.own in
      record {
        pieces = pieces;
        record_is = is;
        stands = record {
          own = w.own;
          leaves = w.more;
          at_path = subst A turns (here.at ∙ ap (λ (s : SearchTree). Some s) own);
          replaced = subst R turns (replaced_more may w.replaced);
          joined = joined;
        };
        joined_through = through;
        gifts_are = w.gifts_are ∙ ap (λ (g : List Turns). reverse g) (gifts_joined joined);
        lawful = subst (λ (t : Turns). All (MayBeGiven share t) w.gave) turns w.lawful;
        posted_are = w.sent_is ∙ sats_joined joined one;
        one_sat = w.one_sat;
      }

-- ---- one record
pub one_at : {A : Type 0} (x a : A) (k : ℕ) → slice_get (a ∷ []) k ≡ Some x → (k ≡ 0) × (x ≡ a)
one_at x a zero h = (refl, sym (same_Some a x h))
one_at x a (suc k) h = absurd (none_in x k h)

both_none : {A : Type 0} (xs ys : List A) → xs ++ ys ≡ [] → ys ≡ []
both_none [] ys h = h
both_none (x ∷ xs) ys h = cc h

gift_at : (g : Turns) (ps : List Piece) (k : ℕ) → slice_get ps k ≡ Some (Gift g) → gifts ps ≡ [] → ⊥
gift_at g [] k h none = none_in (Gift g) k h
gift_at g (p ∷ ps) zero h none =
    let is : p ≡ Gift g = same_Some p (Gift g) h in
    let P : Piece → Type 0 = λ z. gift_of z ++ gifts ps ≡ [] in
    let bad : g ∷ gifts ps ≡ [] = subst P is none in
    cc bad
gift_at g (p ∷ ps) (suc k) h none = gift_at g ps k h (both_none (gift_of p) (gifts ps) none)

-- nothing was told and nothing given
pub whole_alone : (problem : ProblemValue) (bounds : Bounds) (record' : RecordValue) (told : List ℕ) (gave : List Turns) (sent : List ℕ) → told ≡ [] → gave ≡ [] → (search : SearchTree) → IsSearchTree problem bounds (start bounds.start) search → IsPortion bounds.list 0 search [] told gave sent record' → AreWholeRecords problem bounds (record' ∷ [])
whole_alone problem bounds record' told gave sent untold ungiven search tree p =
    let account : Account = record { path = []; pieces = p.pieces } in
    let accounts : List Account = account ∷ [] in
    let no_gifts : gifts p.pieces ≡ [] = no_reverse (gifts p.pieces) (sym ungiven ∙ p.gifts_are) in
    let only : (other : Account) → IsIn other accounts → other ≡ account = λ other h. (one_at other account h.0 h.1).1 in
    let no_gift : (other : Account) (g : Turns) → IsIn other accounts → IsIn (Gift g) other.pieces → ⊥ =
    λ other g h i.
    let P : Account → Type 0 = λ a. IsIn (Gift g) a.pieces in
    let there = subst P (only other h) i in
    gift_at g p.pieces there.0 there.1 no_gifts in
    let licensed : (k : ℕ) (t : Turns) → MayCut told p.pieces k t → IsLicensed accounts k t =
    λ k t may.
    elim may as (λ _. IsLicensed accounts k t) [
      | inl a ↦ let P : List ℕ → Type 0 = λ ks. IsIn k ks in let there = subst P untold a.0 in absurd (none_in k there.0 there.1)
      | inr b ↦ (account, b.0, b.1, (0, refl), b.2, b.3, b.4)
    ] in
    let stands = stands_more search account licensed p.stands in
    let whole : AreWhole search accounts = record {
      root = (account, (0, refl), refl);
      gifts = λ other g h i. absurd (no_gift other g h i);
      no_other = λ other h. inl (ap (λ (a : Account). a.path) (only other h));
      once = λ first second j k f s same. (one_at first account j f).0 ∙ sym (one_at second account k s).0;
      extends = λ other g h i. absurd (no_gift other g h i);
      stands = λ other h. let P : Account → Type 0 = λ a. StandsFor (IsLicensed accounts) search a in subst P (sym (only other h)) stands;
    } in
    (search, tree, (accounts, whole, ap (λ (r : RecordValue). r ∷ []) p.record_is))
