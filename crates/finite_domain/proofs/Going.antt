-- One more item of a list that is gone through.
use Rattle.std.proofs.Common.{◌≡◌, ℕ, ◌+◌, ◌<◌, ◌≤◌, List, [], ◌∷◌, ◌++◌, length, get_or, drop, map, sym, ap, ◌∙◌, append_assoc}
use Rattle.std.proofs.lemmas.List.{drop_more, drop_all, append-nil}
use Rattle.me_terms.specs.Terms.{TermValue, Nil, Cons, list_of, arguments_of}
use Rattle.std.proofs.Common.{refl}

pub here : {X : Type 0} (xs : List X) (i : ℕ) (x : X) → i < length xs → x ≡ get_or xs i x → drop i xs ≡ x ∷ drop (i + 1) xs
here {X} xs i x within is = drop_more xs i x within ∙ ap (λ (y : X). y ∷ drop (i + 1) xs) (sym is)

-- what is made so far, and what the rest makes, is all
pub more_made : {X Y : Type 0} (f : X → Y) (made next all : List Y) (xs : List X) (i : ℕ) (x : X) (y : Y) → i < length xs → x ≡ get_or xs i x → next ≡ made ++ y ∷ [] → y ≡ f x
    → made ++ map f (drop i xs) ≡ all → next ++ map f (drop (i + 1) xs) ≡ all
more_made {X} {Y} f made next all xs i x y within is pushed same before =
    ap (λ (v : List Y). v ++ map f (drop (i + 1) xs)) pushed
    ∙ append_assoc made (y ∷ []) (map f (drop (i + 1) xs))
    ∙ ap (λ (v : Y). made ++ v ∷ map f (drop (i + 1) xs)) same
    ∙ ap (λ (v : List X). made ++ map f v) (sym (here xs i x within is))
    ∙ before

pub all_made : {X Y : Type 0} (f : X → Y) (made all : List Y) (xs : List X) (i : ℕ) → length xs ≤ i → made ++ map f (drop i xs) ≡ all → made ≡ all
all_made {X} {Y} f made all xs i past before = sym (append-nil made) ∙ ap (λ (v : List X). made ++ map f v) (sym (drop_all i xs past)) ∙ before

pub listed : (ts : List TermValue) → list_of (arguments_of ts) ≡ ts
listed [] = refl
listed (t ∷ ts) = ap (λ (v : List TermValue). t ∷ v) (listed ts)
