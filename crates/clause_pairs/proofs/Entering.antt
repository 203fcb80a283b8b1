-- The pairs as the program keeps them, as an entry comes or goes.
use Rattle.std.proofs.Common.{◌≡◌, ℕ, ◌<◌, ◌↔◌, List, [], ◌∷◌, ◌++◌, length, take, refl, sym, ap, subst, ◌∙◌, arith}
use Rattle.std.specs.List.{All, Contains}
use Rattle.std.specs.declared.vec.Vec.{Vec}
use Rattle.std.specs.declared.alloc.Global.{Global}
use Rattle.std.proofs.lemmas.List.{length-map, map_push}
use Rattle.std.proofs.lemmas.List.Elements.{All-weaker, All-take}
use Rattle.me_terms.specs.Values.{ProblemValue, EntryValue}
use Rattle.me_terms.specs.Context.{Context, add}
use Rattle.clause_pairs.specs.declared.clause_place.ClausePlace.{ClausePlace}
use Rattle.clause_pairs.specs.Lists.{HasPlace, put_to, without, put_all}
use Rattle.clause_pairs.specs.Index.{IndexValue}
use Rattle.clause_pairs.specs.Meetings.{IsAgainst}
use Rattle.clause_pairs.specs.Values.{PairsValue, lists_of, places_of}
use Rattle.clause_pairs.specs.Pairs.{ArePairs}
use Rattle.clause_pairs.proofs.Changed.{all_place}
use Rattle.clause_pairs.proofs.PairLists.{against_places, pairs_more, pairs_back, pairs_less, less_places}

abbrev Row : Type 0
Row = Vec (Vec ℕ Global) Global

abbrev Against : Type 0
Against = Vec ClausePlace Global

abbrev places_in : Against → List ClausePlace
places_in v = v.items

abbrev pub kept : List Row → List Against → IndexValue → PairsValue
kept lists entered x = record { lists = lists_of lists; entered = places_of entered; index = x }

-- as many lists of places as entries
pub as_many_entered : (problem : ProblemValue) (context : Context) (lists : List Row) (entered : List Against) (x : IndexValue) → ArePairs problem context (kept lists entered x) → length entered ≡ length context
as_many_entered problem context lists entered x h = sym (length-map entered places_in) ∙ h.each_entry

pushed : (entered after : List Against) (qs : Against) → after ≡ entered ++ qs ∷ [] → places_of after ≡ places_of entered ++ qs.items ∷ []
pushed entered after qs is = ap places_of is ∙ map_push places_in entered qs

module _ (problem : ProblemValue) (context : Context) (lists : List Row) (entered : List Against) (x : IndexValue) (h : ArePairs problem context (kept lists entered x)) (e : EntryValue) (qs : Against) (exact : (q : ClausePlace) → Contains qs.items q ↔ IsAgainst problem e q) where
  pub enter_places : All (HasPlace (lists_of lists)) qs.items
  enter_places = against_places problem context (kept lists entered x) h e qs.items exact

  as_many : length entered ≡ length context
  as_many = sym (length-map entered places_in) ∙ h.each_entry

  module _ (k : ℕ) (is_k : k ≡ length entered) (some : 0 < length entered) where
    positive : 0 < length context
    positive = let same = as_many in omega (arith, same)

    pub after_enter : (lists2 : List Row) (entered2 : List Against) → lists_of lists2 ≡ put_all (put_to k) (lists_of lists) qs.items → entered2 ≡ entered ++ qs ∷ [] → ArePairs problem (add context e) (kept lists2 entered2 x)
    after_enter lists2 entered2 ls es =
        pairs_more problem context (kept lists entered x) h e qs.items positive exact (kept lists2 entered2 x)
        (ls ∙ ap (λ z. put_all (put_to z) (lists_of lists) qs.items) (is_k ∙ as_many)) (pushed entered entered2 qs es) refl

    module _ (m : ℕ) (half : List Row) (hs : lists_of half ≡ put_all (put_to k) (lists_of lists) (take m qs.items)) where
      pub back_places : All (HasPlace (lists_of half)) qs.items
      back_places =
          let P : List (List (List ℕ)) → Type 0 = λ z. All (HasPlace z) qs.items in
          let first = All-take (HasPlace (lists_of lists)) m qs.items enter_places in
          let some_have = put_all (put_to k) (lists_of lists) (take m qs.items) in
          subst P (sym hs) (All-weaker (HasPlace (lists_of lists)) (HasPlace some_have) (λ q has. (all_place (put_to k) (take m qs.items) (lists_of lists) first q).1 has) qs.items enter_places)

      pub after_refusal : (lists2 : List Row) → lists_of lists2 ≡ put_all (without k) (lists_of half) qs.items → ArePairs problem context (kept lists2 entered x)
      after_refusal lists2 ls =
          let is = is_k ∙ as_many in
          pairs_back problem context (kept lists entered x) h e qs.items positive exact m (kept lists2 entered x)
          (ls ∙ (ap (λ z. put_all (without k) z qs.items) hs ∙ ap (λ z. put_all (without z) (put_all (put_to z) (lists_of lists) (take m qs.items)) qs.items) is)) refl refl

module _ (problem : ProblemValue) (context : Context) (e : EntryValue) (lists : List Row) (was entered : List Against) (x : IndexValue) (qs : Against) (h : ArePairs problem (add context e) (kept lists was x)) (some : 0 < length context) (is : was ≡ entered ++ qs ∷ []) where
  pub leave_places : All (HasPlace (lists_of lists)) qs.items
  leave_places = less_places problem context e (kept lists was x) h some qs.items (places_of entered) (pushed entered was qs is)

  pub after_leave : (k : ℕ) (lists2 : List Row) → k ≡ length entered → lists_of lists2 ≡ put_all (without k) (lists_of lists) qs.items → ArePairs problem context (kept lists2 entered x)
  after_leave k lists2 is_k ls =
      pairs_less problem context e (kept lists was x) h some qs.items (places_of entered) (pushed entered was qs is) (kept lists2 entered x)
      (ls ∙ ap (λ z. put_all (without z) (lists_of lists) qs.items) (is_k ∙ sym (length-map entered places_in))) refl refl
