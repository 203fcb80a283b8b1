-- Places as they are filed, those of one literal and those of the literals of a clause and of a problem.
use Rattle.std.proofs.Common.{◌≡◌, ℕ, zero, suc, ◌+◌, ◌<◌, ◌⊎◌, inl, inr, Bool, true, false, List, [], ◌∷◌, ◌++◌, length, get_or, slice_get, Some, refl, sym, ap, subst, ◌∙◌, arith}
use Rattle.std.specs.Prelude.{slice_set}
use Rattle.std.specs.List.{Contains, AllPairs}
use Rattle.std.proofs.lemmas.Option.{get_or_from_slice_get, slice_get_read}
use Rattle.std.proofs.lemmas.List.{get_or-set_same, get_or-set_other}
use Rattle.std.proofs.lemmas.List.Elements.{Contains-get_or}
use Rattle.std.proofs.lemmas.List.Quantifiers.{all_pairs_push}
use Rattle.me_terms.specs.Values.{ProblemValue, ClauseValue}
use Rattle.me_terms.specs.Positions.{ClauseAt}
use Rattle.me_terms.specs.declared.atom.Literal.{Literal}
use Rattle.clause_pairs.specs.declared.clause_place.ClausePlace.{ClausePlace}
use Rattle.clause_pairs.specs.Filed.{BySignValue, of_sign, filed, AreAsBefore, Files}
use Rattle.clause_pairs.specs.Index.{IsUnder, AreFiled, FilesBy, FilesAll}
use Rattle.clause_pairs.specs.Meetings.{AddsPlaces, ComesBefore, KeepsOrder}
use Rattle.clause_pairs.proofs.Against.{OfFirst, HasFirst, first_start, first_more, first_past, first_all, none_start, clause_more, clauses_all}
use Rattle.clause_pairs.proofs.Changed.{same_or_not}

abbrev pub no_places : BySignValue
no_places = record { positive = []; negative = [] }

pub same_sign_or_not : (a b : Bool) → (a ≡ b) ⊎ (¬ (a ≡ b))
same_sign_or_not true true = inl refl
same_sign_or_not true false = inr (λ e. cc)
same_sign_or_not false true = inr (λ e. cc)
same_sign_or_not false false = inl refl

-- ---- room
end_read : (xs : List BySignValue) (n : ℕ) → get_or (xs ++ no_places ∷ []) n no_places ≡ get_or xs n no_places
end_read [] zero = refl
end_read [] (suc n) = refl
end_read (x ∷ xs) zero = refl
end_read (x ∷ xs) (suc n) = end_read xs n

pub room_more : (before now next : List BySignValue) → next ≡ now ++ no_places ∷ [] → AreAsBefore before now → AreAsBefore before next
room_more before now next is h n positive = ap (λ z. filed z n positive) is ∙ (ap (of_sign positive) (end_read now n) ∙ h n positive)

pub none_filed : (n : ℕ) (positive : Bool) → filed [] n positive ≡ []
none_filed n true = refl
none_filed n false = refl

-- ---- one place
module _ (number : ℕ) (positive : Bool) (at : ClausePlace) (before now after : List BySignValue) (old one : BySignValue) (same : AreAsBefore before now) (lt : number < length now) (was : old ≡ get_or now number old) (is : after ≡ slice_set now number one) where
  old_read : (sign : Bool) → of_sign sign old ≡ filed now number sign
  old_read sign = ap (of_sign sign) (sym (get_or_from_slice_get now number old no_places (slice_get_read now (length now) number old refl lt was)))

  one_read : (sign : Bool) → filed after number sign ≡ of_sign sign one
  one_read sign = ap (λ z. filed z number sign) is ∙ ap (of_sign sign) (get_or-set_same now number one no_places lt)

  pub files_at : of_sign positive one ≡ of_sign positive old ++ at ∷ [] → ((sign : Bool) → ¬ (sign ≡ positive) → of_sign sign one ≡ of_sign sign old) → Files number positive at before after
  files_at here other = record {
    here = one_read positive ∙ (here ∙ ap (λ z. z ++ at ∷ []) (old_read positive ∙ same number positive));
    others = λ n sign differs. elim (same_or_not n number) as (λ _. filed after n sign ≡ filed before n sign) [
      | inl e ↦
          (let P : ℕ → Type 0 = λ z. filed after z sign ≡ filed before z sign in
          subst P (sym e) (one_read sign ∙ (other sign (λ s. differs (e, s)) ∙ (old_read sign ∙ same number sign))))
      | inr ne ↦ ap (λ z. filed z n sign) is ∙ (ap (of_sign sign) (get_or-set_other now number n one no_places ne) ∙ same n sign)
    ];
  }

-- ---- one literal
module _ (Has : Literal → ℕ → Type 0) (l : Literal) (at : ClausePlace) (before after : List BySignValue) where
  pub files_by : (k : ℕ) → Has l k → ((n : ℕ) → Has l n → n ≡ k) → Files k l.positive at before after → FilesBy Has l at before after
  files_by k has only files n positive =
      let other : ¬ ((n ≡ k) × (positive ≡ l.positive)) → (IsUnder Has n positive l × (filed after n positive ≡ filed before n positive ++ at ∷ [])) ⊎ ((¬ IsUnder Has n positive l) × (filed after n positive ≡ filed before n positive)) =
      λ differs. inr (λ u. differs (only n u.1, sym u.0), files.others n positive differs) in
      elim (same_or_not n k) as (λ _. (IsUnder Has n positive l × (filed after n positive ≡ filed before n positive ++ at ∷ [])) ⊎ ((¬ IsUnder Has n positive l) × (filed after n positive ≡ filed before n positive))) [
        | inl e ↦ elim (same_sign_or_not positive l.positive) as (λ _. (IsUnder Has n positive l × (filed after n positive ≡ filed before n positive ++ at ∷ [])) ⊎ ((¬ IsUnder Has n positive l) × (filed after n positive ≡ filed before n positive))) [
          | inl f ↦
              (let P : ℕ → Type 0 = λ z. Has l z in
              let Q : ℕ → Bool → Type 0 = λ z s. filed after z s ≡ filed before z s ++ at ∷ [] in
              let R : Bool → Type 0 = λ s. Q k s in
              let S : ℕ → Type 0 = λ z. Q z positive in
              inl ((sym f, subst P (sym e) has), subst S (sym e) (subst R (sym f) files.here)))
          | inr differs ↦ other (λ h. differs h.1)
        ]
        | inr differs ↦ other (λ h. differs h.0)
      ]

  pub files_none : ((n : ℕ) → ¬ Has l n) → after ≡ before → FilesBy Has l at before after
  files_none never is n positive = inr (λ u. never n u.1, ap (λ z. filed z n positive) is)

-- ---- the order of places
none_in_order : AllPairs ComesBefore []
none_in_order i j d lt within = absurd (omega arith)

in_order_push : (places : List ClausePlace) (new : ClausePlace) → ((q : ClausePlace) → Contains places q → ComesBefore q new) → AllPairs ComesBefore places → AllPairs ComesBefore (places ++ new ∷ [])
in_order_push places new earlier h = all_pairs_push ComesBefore places new h (λ k d lt. earlier (get_or places k d) (Contains-get_or places k d lt))

-- ---- the literals of a clause
module _ (Has : Literal → ℕ → Type 0) (literals : List Literal) (c : ℕ) (before : List BySignValue) where
  -- the places of the first i literals are filed
  abbrev pub FilesFirst : ℕ → List BySignValue → Type 0
  FilesFirst i now =
      (n : ℕ) (positive : Bool)
      → AddsPlaces (filed before n positive) (filed now n positive) (OfFirst (IsUnder Has n positive) literals c i) × KeepsOrder c (filed before n positive) (filed now n positive)

  pub files_start : FilesFirst 0 before
  files_start n positive = (first_start (IsUnder Has n positive) literals c (filed before n positive), λ earlier h. h)

  pub files_more : (now next : List BySignValue) (i : ℕ) (l : Literal) → slice_get literals i ≡ Some l → FilesBy Has l (record { clause = c; place = i }) now next → FilesFirst i now → FilesFirst (i + 1) next
  files_more now next i l at by h n positive =
      let old = filed before n positive in
      let new : ClausePlace = record { clause = c; place = i } in
      let adds = (h n positive).0 in
      let P : List ClausePlace → Type 0 = λ z. AddsPlaces old z (OfFirst (IsUnder Has n positive) literals c (i + 1)) × KeepsOrder c old z in
      let before_new : ((q : ClausePlace) → Contains old q → q.clause < c) → (q : ClausePlace) → Contains (filed now n positive) q → ComesBefore q new =
      λ earlier q m. elim ((adds q).0 m) as (λ _. ComesBefore q new) [ inl o ↦ inl (earlier q o) | inr s ↦ inr (s.1.0, s.0) ] in
      elim (by n positive) as (λ _. P (filed next n positive)) [
        | inl u ↦
            subst P (sym u.1) (
              first_more (IsUnder Has n positive) literals c old (filed now n positive) i l at u.0 adds,
              λ earlier ordered. in_order_push (filed now n positive) new (before_new earlier) ((h n positive).1 earlier ordered),
            )
        | inr none ↦ subst P (sym none.1) (first_past (IsUnder Has n positive) literals c old (filed now n positive) i l at none.0 adds, (h n positive).1)
      ]

  pub files_all : (after : List BySignValue) (i : ℕ) → i ≡ length literals → FilesFirst i after → FilesAll Has literals c before after
  files_all after i all h n positive = (first_all (IsUnder Has n positive) literals c (filed before n positive) (filed after n positive) i all (h n positive).0, (h n positive).1)

-- ---- the clauses of a problem
module _ (Has : Literal → ℕ → Type 0) (problem : ProblemValue) where
  -- the places of the first c clauses are filed in their order
  abbrev pub AreFiledTo : ℕ → List BySignValue → Type 0
  AreFiledTo c lists = (n : ℕ) (positive : Bool) → HasFirst problem (IsUnder Has n positive) c (filed lists n positive) × AllPairs ComesBefore (filed lists n positive)

  pub filed_start : (lists : List BySignValue) → lists ≡ [] → AreFiledTo 0 lists
  filed_start lists is n positive =
      let P : List ClausePlace → Type 0 = λ z. HasFirst problem (IsUnder Has n positive) 0 z × AllPairs ComesBefore z in
      subst P (sym (ap (λ z. filed z n positive) is ∙ none_filed n positive)) (none_start problem (IsUnder Has n positive), none_in_order)

  pub filed_more : (before after : List BySignValue) (c : ℕ) (clause : ClauseValue) → ClauseAt problem c clause → FilesAll Has clause.literals c before after → AreFiledTo c before → AreFiledTo (c + 1) after
  filed_more before after c clause at files h n positive =
      let first = (h n positive).0 in (
        clause_more problem (IsUnder Has n positive) (filed before n positive) (filed after n positive) c clause at (files n positive).0 first,
        (files n positive).1 (λ q m. ((first q).0 m).0) (h n positive).1,
      )

  pub filed_all : (lists : List BySignValue) (c : ℕ) → c ≡ length problem.clauses → AreFiledTo c lists → AreFiled problem Has lists
  filed_all lists c all h n positive = record {
    exact = clauses_all problem (IsUnder Has n positive) (filed lists n positive) c all (h n positive).0;
    in_order = (h n positive).1;
  }
