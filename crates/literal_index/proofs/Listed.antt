-- The lists of positions, as keys come and go.
use Rattle.std.proofs.Common.{◌≡◌, ℕ, suc, ◌+◌, ◌-◌, Bool, true, false, List, [], ◌∷◌, ◌++◌, length, take, Option, Some, None, refl, ap, sym, subst, ◌∙◌, arith}
use Rattle.std.specs.Prelude.{eqb, if◌then◌else◌}
use Rattle.std.proofs.lemmas.List.{length_push}
use Rattle.literal_index.specs.Postings.{is_key, positions_from, positions, Lists, listed, AreListed, PutsTo, PutsKey, TakesFrom, TakesKey, IsSame}

pub none_listed : (keys : List (Option ℕ)) (lists : Lists) → keys ≡ [] → lists ≡ [] → AreListed keys lists
none_listed keys lists e d key = ap (λ (z : Lists). listed z key) d ∙ sym (ap (λ (z : List (Option ℕ)). positions key z) e)

-- ---- positions, with a key more
abbrev with_head : Bool → ℕ → List ℕ → List ℕ
with_head b n ks = if b then n ∷ ks else ks

head_apart : (b : Bool) (n : ℕ) (ks more : List ℕ) → with_head b n (ks ++ more) ≡ with_head b n ks ++ more
head_apart true n ks more = refl
head_apart false n ks more = refl

one_more : (b : Bool) (n : ℕ) → b ≡ true → with_head b n [] ≡ n ∷ []
one_more true n t = refl
one_more false n t = absurd (let e : false ≡ true = t in cc)

none_more : (b : Bool) (n : ℕ) → b ≡ false → with_head b n [] ≡ []
none_more true n t = absurd (let e : true ≡ false = t in cc)
none_more false n t = refl

pub more_from : (n key : ℕ) (x : Option ℕ) (xs : List (Option ℕ)) → is_key key x ≡ true → positions_from n key (xs ++ x ∷ []) ≡ positions_from n key xs ++ (n + length xs) ∷ []
more_from n key x [] t = one_more (is_key key x) n t ∙ ap (λ (z : ℕ). z ∷ []) (let e : n ≡ n + 0 = omega arith in e)
more_from n key x (y ∷ xs) t =
    let far : suc n + length xs ≡ n + suc (length xs) = omega arith in
    ap (λ (z : List ℕ). with_head (is_key key y) n z) (more_from (suc n) key x xs t)
    ∙ (head_apart (is_key key y) n (positions_from (suc n) key xs) ((suc n + length xs) ∷ [])
    ∙ ap (λ (z : ℕ). with_head (is_key key y) n (positions_from (suc n) key xs) ++ z ∷ []) far)

pub same_from : (n key : ℕ) (x : Option ℕ) (xs : List (Option ℕ)) → is_key key x ≡ false → positions_from n key (xs ++ x ∷ []) ≡ positions_from n key xs
same_from n key x [] t = none_more (is_key key x) n t
same_from n key x (y ∷ xs) t = ap (λ (z : List ℕ). with_head (is_key key y) n z) (same_from (suc n) key x xs t)

-- ---- a key more
pub none_put : (keys : List (Option ℕ)) (lists : Lists) → AreListed keys lists → AreListed (keys ++ None ∷ []) lists
none_put keys lists q key = q key ∙ sym (same_from 0 key None keys refl)

put_by : (keys : List (Option ℕ)) (key k other : ℕ) (old new : Lists) (test : Bool) → AreListed keys old → k ≡ length keys → eqb key other ≡ test
    → listed new other ≡ (if test then listed old other ++ k ∷ [] else listed old other) → listed new other ≡ positions other (keys ++ Some key ∷ [])
put_by keys key k other old new true q at t e =
    let here : k ≡ 0 + length keys = omega (arith, at) in
    e ∙ (ap (λ (z : List ℕ). z ++ k ∷ []) (q other) ∙ (ap (λ (z : ℕ). positions_from 0 other keys ++ z ∷ []) here ∙ sym (more_from 0 other (Some key) keys t)))
put_by keys key k other old new false q at t e = e ∙ (q other ∙ sym (same_from 0 other (Some key) keys t))

pub key_put : (keys : List (Option ℕ)) (key k : ℕ) (old new : Lists) → AreListed keys old → k ≡ length keys → PutsTo key k old new → AreListed (keys ++ Some key ∷ []) new
key_put keys key k old new q at puts other = put_by keys key k other old new (eqb key other) q at refl (puts other)

pub same_listed : (keys : List (Option ℕ)) (old new : Lists) → AreListed keys old → IsSame old new → AreListed keys new
same_listed keys old new q same other = same other ∙ q other

pub push_listed : (whole keys : List (Option ℕ)) (key : Option ℕ) (k : ℕ) (old new : Lists) → whole ≡ keys ++ key ∷ [] → AreListed keys old → k ≡ length keys → PutsKey key k old new → AreListed whole new
push_listed whole keys None k old new is q at puts =
    let P : List (Option ℕ) → Type 0 = λ z. AreListed z new in
    subst P (sym is) (none_put keys new (same_listed keys old new q puts))
push_listed whole keys (Some key) k old new is q at puts =
    let P : List (Option ℕ) → Type 0 = λ z. AreListed z new in
    subst P (sym is) (key_put keys key k old new q at puts)

-- ---- a key less
pub take_front : {A : Type 0} (xs : List A) (x : A) → take (length (xs ++ x ∷ []) - 1) (xs ++ x ∷ []) ≡ xs
take_front [] x = refl
take_front (y ∷ xs) x = rw (let e : length (y ∷ (xs ++ x ∷ [])) - 1 ≡ suc (length (xs ++ x ∷ []) - 1) = omega (arith, length_push xs x) in e) (ap (λ z. y ∷ z) (take_front xs x))

pub none_taken : (keys : List (Option ℕ)) (lists : Lists) → AreListed (keys ++ None ∷ []) lists → AreListed keys lists
none_taken keys lists q key = q key ∙ same_from 0 key None keys refl

abbrev shorter : List ℕ → List ℕ
shorter ks = take (length ks - 1) ks

take_by : (keys : List (Option ℕ)) (key other : ℕ) (old new : Lists) (test : Bool) → AreListed (keys ++ Some key ∷ []) old → eqb key other ≡ test
    → listed new other ≡ (if test then take (length (listed old other) - 1) (listed old other) else listed old other) → listed new other ≡ positions other keys
take_by keys key other old new true q t e =
    let whole : listed old other ≡ positions other keys ++ (0 + length keys) ∷ [] = q other ∙ more_from 0 other (Some key) keys t in
    e ∙ (ap shorter whole ∙ take_front (positions other keys) (0 + length keys))
take_by keys key other old new false q t e = e ∙ (q other ∙ same_from 0 other (Some key) keys t)

pub key_taken : (keys : List (Option ℕ)) (key : ℕ) (old new : Lists) → AreListed (keys ++ Some key ∷ []) old → TakesFrom key old new → AreListed keys new
key_taken keys key old new q takes other = take_by keys key other old new (eqb key other) q refl (takes other)

pub pop_listed : (whole keys : List (Option ℕ)) (key : Option ℕ) (old new : Lists) → whole ≡ keys ++ key ∷ [] → AreListed whole old → TakesKey key old new → AreListed keys new
pop_listed whole keys None old new is q takes =
    let P : List (Option ℕ) → Type 0 = λ z. AreListed z old in
    same_listed keys old new (none_taken keys old (subst P is q)) takes
pop_listed whole keys (Some key) old new is q takes =
    let P : List (Option ℕ) → Type 0 = λ z. AreListed z old in
    key_taken keys key old new (subst P is q) takes
