-- Terms that are one, whatever their variables stand for.
use Rattle.std.proofs.Common.{◌≡◌, ℕ, ◌+◌, ◌≤◌, List, [], ◌∷◌, ◌++◌, length, map, take, slice_get, Some, ap, sym, ◌∙◌}
use Rattle.std.proofs.lemmas.List.{take_more, take_all, map-append}
use Rattle.std.proofs.lemmas.Option.{slice_get_within, get_or_from_slice_get}
use Rattle.me_terms.specs.Terms.{TermValue, arguments_of}
use Rattle.me_terms.specs.Substitutions.{Substitution, apply_term, apply_arguments}
use Rattle.me_unify.proofs.Names.{applied_all}

mapped_next : (s : Substitution) (xs : List TermValue) (k : ℕ) (x : TermValue) → slice_get xs k ≡ Some x → map (apply_term s) (take (k + 1) xs) ≡ map (apply_term s) (take k xs) ++ apply_term s x ∷ []
mapped_next s xs k x at =
    let next : take (k + 1) xs ≡ take k xs ++ x ∷ [] = take_more xs k x (slice_get_within xs k x at) ∙ ap (λ z. take k xs ++ z ∷ []) (get_or_from_slice_get xs k x x at) in
    ap (map (apply_term s)) next ∙ map-append (apply_term s) (take k xs) (x ∷ [])

pub same_next : (s r : Substitution) (xs ys : List TermValue) (k : ℕ) (x y : TermValue) → slice_get xs k ≡ Some x → slice_get ys k ≡ Some y → map (apply_term s) (take k xs) ≡ map (apply_term r) (take k ys) → apply_term s x ≡ apply_term r y
    → map (apply_term s) (take (k + 1) xs) ≡ map (apply_term r) (take (k + 1) ys)
same_next s r xs ys k x y at too before one = mapped_next s xs k x at ∙ ((λ i. before i ++ one i ∷ []) ∙ sym (mapped_next r ys k y too))

pub same_all : (s r : Substitution) (xs ys : List TermValue) (k : ℕ) → length xs ≤ k → length ys ≤ k → map (apply_term s) (take k xs) ≡ map (apply_term r) (take k ys) → apply_arguments s (arguments_of xs) ≡ apply_arguments r (arguments_of ys)
same_all s r xs ys k p q e =
    let left : map (apply_term s) xs ≡ map (apply_term s) (take k xs) = ap (map (apply_term s)) (sym (take_all k xs p)) in
    let right : map (apply_term r) (take k ys) ≡ map (apply_term r) ys = ap (map (apply_term r)) (take_all k ys q) in
    sym (applied_all s xs) ∙ (ap arguments_of (left ∙ (e ∙ right)) ∙ applied_all r ys)
