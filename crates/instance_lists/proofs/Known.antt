-- The set of the instances that were seen.
use Rattle.std.proofs.Common.{◌≡◌, ℕ, ◌+◌, ◌<◌, Bool, true, false, ◌||◌, cond, not, List, [], ◌∷◌, ◌++◌, length, take, drop, get_or, append_assoc, refl, sym, subst, ap, ◌∙◌}
use Rattle.std.specs.HashSet.{HashSet, contains_by, UpdatesBy}
use Rattle.std.proofs.lemmas.List.{take_more, drop_more}
use Rattle.std.proofs.lemmas.List.Folds.{list_any-append}
use Rattle.me_terms.specs.Values.{InstanceValue}
use Rattle.me_terms.specs.FirstOccurrences.{same_instance}
use Rattle.me_terms.specs.InstanceEqualityLaws.{instance_laws}
use Rattle.instance_lists.specs.News.{stands_in, news}

-- a set of keys that stand for instances has those of exactly these
abbrev pub Knows : {K S : Type 0} → (K → InstanceValue) → HashSet K S → List InstanceValue → Type 0
Knows of set list = (i : InstanceValue) → contains_by (λ q. same_instance i (of q)) set ≡ stands_in list i

either : (a b : Bool) → cond a true b ≡ (b || (a || false))
either true true = refl
either true false = refl
either false true = refl
either false false = refl

-- one instance more; each instance has a key
pub knows_more : {K S : Type 0} (of : K → InstanceValue) (key : (i : InstanceValue) → (q : K) × (of q ≡ i)) (set next : HashSet K S) (list : List InstanceValue) (i : InstanceValue) → UpdatesBy (λ p q. same_instance (of p) (of q)) (λ q. same_instance i (of q)) set next true → Knows of set list → Knows of next (list ++ i ∷ [])
knows_more {K} of key set next list i updates knows j =
    let turn : same_instance i j ≡ same_instance j i = instance_laws.symm i j in
    let stands : (q : K) × (of q ≡ j) = key j in
    let update : contains_by (λ q. same_instance j (of q)) next ≡ cond (same_instance i j) true (contains_by (λ q. same_instance j (of q)) set) =
    subst (λ (z : InstanceValue). contains_by (λ q. same_instance z (of q)) next ≡ cond (same_instance i z) true (contains_by (λ q. same_instance z (of q)) set)) stands.1 (updates.0 stands.0) in
    update
    ∙ ((λ n. cond (turn n) true (knows j n))
    ∙ (either (same_instance j i) (stands_in list j) ∙ sym (list_any-append (same_instance j) list (i ∷ []))))

-- ---- one item further
pub taken_more : (list : List InstanceValue) (k : ℕ) (i : InstanceValue) → k < length list → i ≡ get_or list k i → take (k + 1) list ≡ take k list ++ i ∷ []
taken_more list k i below is = take_more list k i below ∙ ap (λ (x : InstanceValue). take k list ++ x ∷ []) (sym is)

left_more : (list : List InstanceValue) (k : ℕ) (i : InstanceValue) → k < length list → i ≡ get_or list k i → drop k list ≡ i ∷ drop (k + 1) list
left_more list k i below is = drop_more list k i below ∙ ap (λ (x : InstanceValue). x ∷ drop (k + 1) list) (sym is)

-- the marks that are found and those that are left, one instance further
pub news_more : (marks next : List Bool) (list more : List InstanceValue) (k : ℕ) (i : InstanceValue) (mark : Bool) → k < length more → i ≡ get_or more k i → list ++ take (k + 1) more ≡ (list ++ take k more) ++ i ∷ [] → mark ≡ not (stands_in (list ++ take k more) i) → next ≡ marks ++ mark ∷ [] → marks ++ news (list ++ take k more) (drop k more) ≡ news list more → next ++ news (list ++ take (k + 1) more) (drop (k + 1) more) ≡ news list more
news_more marks next list more k i mark below is seen marks_it pushed found =
    let here : news (list ++ take k more) (drop k more) ≡ mark ∷ news (list ++ take (k + 1) more) (drop (k + 1) more) =
    ap (news (list ++ take k more)) (left_more more k i below is) ∙ (λ n. sym marks_it n ∷ news (sym seen n) (drop (k + 1) more)) in
    ap (λ (ms : List Bool). ms ++ news (list ++ take (k + 1) more) (drop (k + 1) more)) pushed
    ∙ (append_assoc marks (mark ∷ []) (news (list ++ take (k + 1) more) (drop (k + 1) more))
    ∙ (ap (λ (ms : List Bool). marks ++ ms) (sym here) ∙ found))
