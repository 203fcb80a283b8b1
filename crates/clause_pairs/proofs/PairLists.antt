-- The pairs of a context as entries come and go.
use Rattle.std.proofs.Common.{◌≡◌, ℕ, zero, suc, ◌<◌, ◌≤◌, ◌⊎◌, ◌↔◌, inl, inr, List, [], ◌∷◌, ◌++◌, length, get_or, take, slice_get, refl, sym, ap, subst, ◌∙◌, arith}
use Rattle.std.specs.List.{All, Contains}
use Rattle.std.proofs.lemmas.Option.{slice_get_within}
use Rattle.std.proofs.lemmas.List.{get_or_append_left, get_or_push, length_push}
use Rattle.std.proofs.lemmas.List.Elements.{Contains-append_left, Contains-push, Contains-push_cases, All-take, All-weaker, All-from_get_or, Contains-get_or}
use Rattle.me_terms.specs.Values.{ProblemValue, EntryValue}
use Rattle.me_terms.specs.Context.{Context, StandsAt, add}
use Rattle.me_terms.specs.declared.atom.Literal.{Literal}
use Rattle.me_laws.proofs.Determined.{clause_same, literal_same}
use Rattle.me_laws_increments.specs.Pairs.{IsPair}
use Rattle.entry_hiding.proofs.Marks.{push_old, push_end, push_cases}
use Rattle.clause_pairs.specs.declared.clause_place.ClausePlace.{ClausePlace}
use Rattle.clause_pairs.specs.Lists.{HasPlace, list_at, put_to, without, put_all}
use Rattle.clause_pairs.specs.Meetings.{LiteralAt, IsAgainst}
use Rattle.clause_pairs.specs.Values.{PairsValue}
use Rattle.clause_pairs.specs.Pairs.{PairsAt, IsPairList, ArePairs}
use Rattle.clause_pairs.proofs.Numbers.{put_is, put_twice, rising_push, without_rising, without_exact, without_twice, without_none}
use Rattle.clause_pairs.proofs.Changed.{IsIn, contains_in, in_contains, in_cases, all_length, all_place, all_other, all_here}

-- ---- one list
pairs_below : (context : Context) (l : Literal) (k : ℕ) → PairsAt context l k → k < length context
pairs_below context l k h = slice_get_within context k h.1.0 h.1.1

pairs_old : (context : Context) (e : EntryValue) (l : Literal) (k : ℕ) → PairsAt context l k → PairsAt (add context e) l k
pairs_old context e l k h = (h.0, (h.1.0, push_old context e k h.1.0 h.1.1, h.1.2))

pairs_cases : (context : Context) (e : EntryValue) (l : Literal) (k : ℕ) → PairsAt (add context e) l k → PairsAt context l k ⊎ ((k ≡ length context) × IsPair e l)
pairs_cases context e l k h =
    elim (push_cases context e k h.1.0 h.1.1) as (λ _. PairsAt context l k ⊎ ((k ≡ length context) × IsPair e l)) [
      | inl old ↦ inl (h.0, (h.1.0, old, h.1.2))
      | inr new ↦ (let P : EntryValue → Type 0 = λ z. IsPair z l in inr (new.0, subst P (sym new.1) h.1.2))
    ]

module _ (context : Context) (l : Literal) (ks : List ℕ) (h : IsPairList context l ks) where
  list_below : (k : ℕ) → Contains ks k → k < length context
  list_below k c = pairs_below context l k ((h.exact k).0 c)

  -- with an entry more that stands against the literal
  pub list_more : (e : EntryValue) → 0 < length context → IsPair e l → IsPairList (add context e) l (put_to (length context) ks)
  list_more e some pair =
      let n = length context in
      let P : List ℕ → Type 0 = λ z. IsPairList (add context e) l z in
      subst P (sym (put_is n ks list_below)) (record {
        rising = rising_push ks n h.rising list_below;
        exact = λ k. (
          λ c. elim (Contains-push_cases ks n k c) as (λ _. PairsAt (add context e) l k) [
            | inl old ↦ pairs_old context e l k ((h.exact k).0 old)
            | inr same ↦ (let Q : ℕ → Type 0 = λ z. PairsAt (add context e) l z in subst Q same (some, (e, push_end context e n refl, pair)))
          ],
          λ p. elim (pairs_cases context e l k p) as (λ _. Contains (ks ++ n ∷ []) k) [
            | inl old ↦ Contains-append_left ks (n ∷ []) k ((h.exact k).1 old)
            | inr new ↦ (let Q : ℕ → Type 0 = λ z. Contains (ks ++ n ∷ []) z in subst Q (sym new.0) (Contains-push ks n))
          ],
        );
      })

  -- with one that does not
  pub list_same : (e : EntryValue) → ¬ IsPair e l → IsPairList (add context e) l ks
  list_same e none = record {
    rising = h.rising;
    exact = λ k. (
      λ c. pairs_old context e l k ((h.exact k).0 c),
      λ p. elim (pairs_cases context e l k p) as (λ _. Contains ks k) [ inl old ↦ (h.exact k).1 old | inr new ↦ absurd (none new.1) ],
    );
  }

  -- what was put to the list in vain comes off
  pub list_kept : without (length context) ks ≡ ks
  list_kept = without_none (length context) ks (λ c. let less = list_below (length context) c in omega (arith, less))

module _ (context : Context) (e : EntryValue) (l : Literal) (ks : List ℕ) (h : IsPairList (add context e) l ks) where
  most : (k : ℕ) → Contains ks k → k ≤ length context
  most k c =
      let less = pairs_below (add context e) l k ((h.exact k).0 c) in
      let len = length_push context e in
      omega (arith, less, len)

  old_by : (k : ℕ) → Contains ks k → k < length context → PairsAt context l k
  old_by k c lt =
      elim (pairs_cases context e l k ((h.exact k).0 c)) as (λ _. PairsAt context l k) [
        | inl old ↦ old
        | inr new ↦ (let same = new.0 in absurd (omega (arith, same, lt)))
      ]

  -- without the last entry
  pub list_less : IsPairList context l (without (length context) ks)
  list_less = record {
    rising = without_rising (length context) ks h.rising;
    exact = λ k. (
      λ c. (let both = (without_exact (length context) ks h.rising most k).0 c in old_by k both.0 both.1),
      λ p. (without_exact (length context) ks h.rising most k).1 ((h.exact k).1 (pairs_old context e l k p), pairs_below context l k p),
    );
  }

  pub list_once : without (length context) (without (length context) ks) ≡ without (length context) ks
  list_once = without_twice (length context) ks h.rising most

  -- the same list where the last entry does not stand against the literal
  pub list_without : ¬ IsPair e l → IsPairList context l ks
  list_without none =
      let apart : ¬ Contains ks (length context) = λ c. (elim (pairs_cases context e l (length context) ((h.exact (length context)).0 c)) as (λ _. ⊥) [
        | inl old ↦ (let less = pairs_below context l (length context) old in omega (arith, less))
        | inr new ↦ none new.1
      ]) in
      let P : List ℕ → Type 0 = λ z. IsPairList context l z in
      subst P (without_none (length context) ks apart) list_less

-- ---- all lists
in_front : (q : ClausePlace) (m : ℕ) (qs : List ClausePlace) → IsIn q (take m qs) → IsIn q qs
in_front q zero qs h = absurd h
in_front q (suc m) [] h = absurd h
in_front q (suc m) (p ∷ qs) (inl e) = inl e
in_front q (suc m) (p ∷ qs) (inr h) = inr (in_front q m qs h)

-- at one place stands one literal
pub one_literal : (problem : ProblemValue) (q : ClausePlace) (l m : Literal) → LiteralAt problem q l → LiteralAt problem q m → l ≡ m
one_literal problem q l m f g =
    let same = clause_same problem q.clause f.0 g.0 f.1 g.1 in
    literal_same g.0.literals q.place l m (ap (λ z. slice_get z.literals q.place) (sym same) ∙ f.2) g.2

pub against_pair : (problem : ProblemValue) (e : EntryValue) (q : ClausePlace) (l : Literal) → LiteralAt problem q l → IsAgainst problem e q → IsPair e l
against_pair problem e q l at g = let P : Literal → Type 0 = λ z. IsPair e z in subst P (one_literal problem q g.0 l g.1 at) g.2

module _ (problem : ProblemValue) (context : Context) (v : PairsValue) (h : ArePairs problem context v) where
  -- the places that an entry stands against have lists
  pub against_places : (e : EntryValue) (qs : List ClausePlace) → ((q : ClausePlace) → Contains qs q ↔ IsAgainst problem e q) → All (HasPlace v.lists) qs
  against_places e qs exact =
      let P : ClausePlace → Type 0 = λ q. HasPlace v.lists q in
      All-from_get_or P qs (record { clause = 0; place = 0 }) (λ i lt.
      let q = get_or qs i (record { clause = 0; place = 0 }) in
      let g = (exact q).0 (Contains-get_or qs i (record { clause = 0; place = 0 }) lt) in
      (h.each_place q).1 (g.0, g.1))

  module _ (e : EntryValue) (qs : List ClausePlace) (some : 0 < length context) (exact : (q : ClausePlace) → Contains qs q ↔ IsAgainst problem e q) where
    abbrev n : ℕ
    n = length context

    all : All (HasPlace v.lists) qs
    all = against_places e qs exact

    more_at : (q : ClausePlace) (l : Literal) → LiteralAt problem q l → IsPairList (add context e) l (list_at (put_all (put_to n) v.lists qs) q)
    more_at q l at =
        let P : List ℕ → Type 0 = λ z. IsPairList (add context e) l z in
        let old = h.list q l at in
        elim (in_cases q qs) as (λ _. IsPairList (add context e) l (list_at (put_all (put_to n) v.lists qs) q)) [
          | inl here ↦
              subst P (sym (all_here (put_to n) qs v.lists all q (put_twice n (list_at v.lists q)) here))
              (list_more context l (list_at v.lists q) old e some (against_pair problem e q l at ((exact q).0 (in_contains q qs here))))
          | inr none ↦
              subst P (sym (all_other (put_to n) qs v.lists all q none))
              (list_same context l (list_at v.lists q) old e (λ pair. none (contains_in q qs ((exact q).1 (l, at, pair)))))
        ]

    places_more : (k : ℕ) (f : EntryValue) → 0 < k → StandsAt (add context e) k f → (q : ClausePlace) → Contains (get_or (v.entered ++ qs ∷ []) k []) q ↔ IsAgainst problem f q
    places_more k f positive stands q =
        elim (push_cases context e k f stands) as (λ _. Contains (get_or (v.entered ++ qs ∷ []) k []) q ↔ IsAgainst problem f q) [
          | inl old ↦
              (let lt = slice_get_within context k f old in
              let each = h.each_entry in
              let P : List ClausePlace → Type 0 = λ z. Contains z q ↔ IsAgainst problem f q in
              subst P (sym (get_or_append_left v.entered (qs ∷ []) [] k (omega (arith, lt, each)))) (h.places k f positive old q))
          | inr new ↦
              (let P : List ClausePlace × EntryValue → Type 0 = λ z. Contains z.0 q ↔ IsAgainst problem z.1 q in
              let is = sym (get_or_push v.entered qs [] k (h.each_entry ∙ sym new.0)) in
              let same = new.1 in
              subst P (λ i. (is i, same i)) (exact q))
        ]

    pub pairs_more : (after : PairsValue) → after.lists ≡ put_all (put_to n) v.lists qs → after.entered ≡ v.entered ++ qs ∷ [] → after.index ≡ v.index → ArePairs problem (add context e) after
    pairs_more after lists entered index =
        let P : PairsValue → Type 0 = λ z. ArePairs problem (add context e) z in
        let is : after ≡ record { lists = put_all (put_to n) v.lists qs; entered = v.entered ++ qs ∷ []; index = v.index } = λ i. record { lists = lists i; entered = entered i; index = index i } in
        let len = length_push context e in
        let end = length_push v.entered qs in
        let each = h.each_entry in
        subst P (sym is) (record {
          each_clause = all_length (put_to n) qs v.lists all ∙ h.each_clause;
          each_place = λ q. (let place = all_place (put_to n) qs v.lists all q in (λ has. (h.each_place q).0 (place.0 has), λ at. place.1 ((h.each_place q).1 at)));
          list = more_at;
          each_entry = omega (arith, len, end, each);
          places = places_more;
          index = h.index;
        })

    module _ (m : ℕ) where
      abbrev some_have : List (List (List ℕ))
      some_have = put_all (put_to n) v.lists (take m qs)

      first : All (HasPlace v.lists) (take m qs)
      first = All-take (HasPlace v.lists) m qs all

      still : All (HasPlace some_have) qs
      still = All-weaker (HasPlace v.lists) (HasPlace some_have) (λ q has. (all_place (put_to n) (take m qs) v.lists first q).1 has) qs all

      -- what a list is that may have the number
      half_at : (q : ClausePlace) (l : Literal) → LiteralAt problem q l → (IsPairList context l (without n (list_at some_have q))) × (without n (without n (list_at some_have q)) ≡ without n (list_at some_have q))
      half_at q l at =
          let old = h.list q l at in
          let P : List ℕ → Type 0 = λ z. IsPairList context l (without n z) × (without n (without n z) ≡ without n z) in
          elim (in_cases q (take m qs)) as (λ _. P (list_at some_have q)) [
            | inl here ↦
                (let more = list_more context l (list_at v.lists q) old e some (against_pair problem e q l at ((exact q).0 (in_contains q qs (in_front q m qs here)))) in
                subst P (sym (all_here (put_to n) (take m qs) v.lists first q (put_twice n (list_at v.lists q)) here))
                (list_less context e l (put_to n (list_at v.lists q)) more, list_once context e l (put_to n (list_at v.lists q)) more))
            | inr none ↦
                (let kept = list_kept context l (list_at v.lists q) old in
                let Q : List ℕ → Type 0 = λ z. IsPairList context l z in
                subst P (sym (all_other (put_to n) (take m qs) v.lists first q none)) (subst Q (sym kept) old, ap (without n) kept))
          ]

      back_at : (q : ClausePlace) (l : Literal) → LiteralAt problem q l → IsPairList context l (list_at (put_all (without n) some_have qs) q)
      back_at q l at =
          let P : List ℕ → Type 0 = λ z. IsPairList context l z in
          let half = half_at q l at in
          elim (in_cases q qs) as (λ _. IsPairList context l (list_at (put_all (without n) some_have qs) q)) [
            | inl here ↦ subst P (sym (all_here (without n) qs some_have still q half.1 here)) half.0
            | inr none ↦
                subst P (sym (all_other (without n) qs some_have still q none ∙ all_other (put_to n) (take m qs) v.lists first q (λ front. none (in_front q m qs front))))
                (h.list q l at)
          ]

      -- where memory was out, some of the places have the number, and it comes off again
      pub pairs_back : (after : PairsValue) → after.lists ≡ put_all (without n) some_have qs → after.entered ≡ v.entered → after.index ≡ v.index → ArePairs problem context after
      pairs_back after lists entered index =
          let P : PairsValue → Type 0 = λ z. ArePairs problem context z in
          let is : after ≡ record { lists = put_all (without n) some_have qs; entered = v.entered; index = v.index } = λ i. record { lists = lists i; entered = entered i; index = index i } in
          subst P (sym is) (record {
            each_clause = all_length (without n) qs some_have still ∙ (all_length (put_to n) (take m qs) v.lists first ∙ h.each_clause);
            each_place = λ q. (let one = all_place (put_to n) (take m qs) v.lists first q in
                let two = all_place (without n) qs some_have still q in
                (λ has. (h.each_place q).0 (one.0 (two.0 has)), λ at. two.1 (one.1 ((h.each_place q).1 at))));
            list = back_at;
            each_entry = h.each_entry;
            places = h.places;
            index = h.index;
          })

module _ (problem : ProblemValue) (context : Context) (e : EntryValue) (v : PairsValue) (h : ArePairs problem (add context e) v) (some : 0 < length context) where
  module _ (qs : List ClausePlace) (entered : List (List ClausePlace)) (was : v.entered ≡ entered ++ qs ∷ []) where
    abbrev last : ℕ
    last = length entered

    as_many : length entered ≡ length context
    as_many =
        let len = length_push context e in
        let end = length_push entered qs in
        let each = h.each_entry in
        let same = ap length was in
        omega (arith, len, end, each, same)

    exact : (q : ClausePlace) → Contains qs q ↔ IsAgainst problem e q
    exact q =
        let P : List ClausePlace → Type 0 = λ z. Contains z q ↔ IsAgainst problem e q in
        subst P (ap (λ z. get_or z (length context) []) was ∙ get_or_push entered qs [] (length context) as_many) (h.places (length context) e some (push_end context e (length context) refl) q)

    all_have : All (HasPlace v.lists) qs
    all_have = against_places problem (add context e) v h e qs exact

    pub less_places : All (HasPlace v.lists) qs
    less_places = all_have

    less_at : (q : ClausePlace) (l : Literal) → LiteralAt problem q l → IsPairList context l (list_at (put_all (without (length context)) v.lists qs) q)
    less_at q l at =
        let P : List ℕ → Type 0 = λ z. IsPairList context l z in
        let old = h.list q l at in
        elim (in_cases q qs) as (λ _. IsPairList context l (list_at (put_all (without (length context)) v.lists qs) q)) [
          | inl here ↦
              subst P (sym (all_here (without (length context)) qs v.lists all_have q (list_once context e l (list_at v.lists q) old) here))
              (list_less context e l (list_at v.lists q) old)
          | inr none ↦
              subst P (sym (all_other (without (length context)) qs v.lists all_have q none))
              (list_without context e l (list_at v.lists q) old (λ pair. none (contains_in q qs ((exact q).1 (l, at, pair)))))
        ]

    places_less : (k : ℕ) (f : EntryValue) → 0 < k → StandsAt context k f → (q : ClausePlace) → Contains (get_or entered k []) q ↔ IsAgainst problem f q
    places_less k f positive stands q =
        let lt = slice_get_within context k f stands in
        let many = as_many in
        let P : List ClausePlace → Type 0 = λ z. Contains z q ↔ IsAgainst problem f q in
        subst P (ap (λ z. get_or z k []) was ∙ get_or_append_left entered (qs ∷ []) [] k (omega (arith, lt, many))) (h.places k f positive (push_old context e k f stands) q)

    pub pairs_less : (after : PairsValue) → after.lists ≡ put_all (without (length entered)) v.lists qs → after.entered ≡ entered → after.index ≡ v.index → ArePairs problem context after
    pairs_less after lists is index =
        let P : PairsValue → Type 0 = λ z. ArePairs problem context z in
        let same : after ≡ record { lists = put_all (without (length context)) v.lists qs; entered = entered; index = v.index } = let at = lists ∙ ap (λ z. put_all (without z) v.lists qs) as_many in λ i. record { lists = at i; entered = is i; index = index i } in
        subst P (sym same) (record {
          each_clause = all_length (without (length context)) qs v.lists all_have ∙ h.each_clause;
          each_place = λ q. (let place = all_place (without (length context)) qs v.lists all_have q in (λ has. (h.each_place q).0 (place.0 has), λ at. place.1 ((h.each_place q).1 at)));
          list = less_at;
          each_entry = as_many;
          places = places_less;
          index = h.index;
        })
