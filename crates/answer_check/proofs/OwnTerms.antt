-- Arguments from a place on, all of which are own terms.
use Rattle.std.proofs.Common.{◌≡◌, ℕ, ◌+◌, ◌≤◌, Bool, true, false, ◌&&◌, List, ◌∷◌, length, drop, slice_get, Some, sym, ap, ◌∙◌}
use Rattle.std.proofs.lemmas.List.{drop_all, drop_more}
use Rattle.std.proofs.lemmas.Option.{slice_get_within, get_or_from_slice_get}
use Rattle.me_terms.specs.Terms.{TermValue, arguments_of}
use Rattle.answer_check.specs.Own.{is_own_term, are_own_terms}

module _ (functions : ℕ) (xs : List TermValue) (k : ℕ) where
  pub own_here : (t : TermValue) → slice_get xs k ≡ Some t
      → are_own_terms functions (arguments_of (drop k xs)) ≡ (is_own_term functions t && are_own_terms functions (arguments_of (drop (k + 1) xs)))
  own_here t at =
      let here : drop k xs ≡ t ∷ drop (k + 1) xs = drop_more xs k t (slice_get_within xs k t at) ∙ ap (λ (z : TermValue). z ∷ drop (k + 1) xs) (get_or_from_slice_get xs k t t at) in
      ap (λ (z : List TermValue). are_own_terms functions (arguments_of z)) here

  pub own_none : length xs ≤ k → are_own_terms functions (arguments_of (drop k xs)) ≡ true
  own_none past = ap (λ (z : List TermValue). are_own_terms functions (arguments_of z)) (drop_all k xs past)

  pub own_false : (whole : Bool) (t : TermValue) → slice_get xs k ≡ Some t → whole ≡ are_own_terms functions (arguments_of (drop k xs)) → false ≡ is_own_term functions t → false ≡ whole
  own_false whole t at is here = sym (is ∙ (own_here t at ∙ ap (λ b. b && are_own_terms functions (arguments_of (drop (k + 1) xs))) (sym here)))

  pub own_later : (whole : Bool) (t : TermValue) → slice_get xs k ≡ Some t → whole ≡ are_own_terms functions (arguments_of (drop k xs)) → true ≡ is_own_term functions t → whole ≡ are_own_terms functions (arguments_of (drop (k + 1) xs))
  own_later whole t at is here = is ∙ (own_here t at ∙ ap (λ b. b && are_own_terms functions (arguments_of (drop (k + 1) xs))) (sym here))

  pub own_end : (whole : Bool) → whole ≡ are_own_terms functions (arguments_of (drop k xs)) → length xs ≤ k → true ≡ whole
  own_end whole is past = sym (is ∙ own_none past)
