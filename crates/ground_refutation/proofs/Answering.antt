-- An asserted entry that is asked for at a new literal is answered by the instance of its clause.
use Rattle.std.proofs.Common.{◌≡◌, ℕ, suc, ◌+◌, ◌<◌, ◌≤◌, false, List, [], ◌∷◌, ◌++◌, length, map, reverse, take, drop, length-append, length-drop, Option, Some, None, refl, sym, subst, ap, ◌∙◌, arith}
use Rattle.std.specs.List.{All, list_any}
use Rattle.std.proofs.lemmas.List.{reverse-append, length-take}
use Rattle.std.proofs.lemmas.List.Elements.{All-append, All-head, All-tail}
use Rattle.indexmap.specs.IndexSet.{insert_key}
use Rattle.me_terms.specs.Validity.{IsValid}
use Rattle.me_terms.specs.Values.{ProblemValue, InstanceValue}
use Rattle.me_terms.specs.Context.{Context}
use Rattle.me_terms.specs.Positions.{positions_of}
use Rattle.me_terms.specs.Close.{IsClose}
use Rattle.me_terms.specs.FirstOccurrences.{same_instance, first_occurrences}
use Rattle.me_terms.specs.ListedInstances.{IsClosingInstance, IsAskedInstance}
use Rattle.me_terms.specs.LeafList.{Demand, demands, IsAsserted, Adds, IsLeafList}
use Rattle.me_terms.specs.Measures.{literals_weight, list_weight}
use Rattle.me_terms.specs.declared.atom.Literal.{Literal}
use Rattle.me_laws.proofs.Backed.{grown_backed}
use Rattle.me_laws.proofs.Lists.{EachOf, each_map, all_of}
use Rattle.me_laws.proofs.OutcomeDetermined.{closing_unique}
use Rattle.me_laws_existence.proofs.Outcomes.{leaf_list}
use Rattle.me_laws_refutation.proofs.Sound.{grown_sound}
use Rattle.me_laws_refutation.specs.RightDemands.{IsRight}
use Rattle.me_laws_refutation.proofs.Demands.{IsRightBelow}
use Rattle.me_laws_refutation.proofs.Asked.{AskedFacts, asked_facts}
use Rattle.me_laws_refutation.proofs.Leaf.{closing_facts}
use Rattle.ground_refutation.specs.Queue.{same_demand, Completes, IsListing, IsGrownOver, IsDemanded}
use Rattle.ground_refutation.specs.Work.{longest, work, work_all}
use Rattle.ground_refutation.proofs.Listing.{one_more, new_weight, one_weight}
use Rattle.ground_refutation.proofs.Steps.{was_not_asked, all_ground_by, Next, next}
use Rattle.ground_refutation.proofs.Work.{IsBelow, work_falls, work_append, few_demands, is_long}

length_map : {A B : Type 0} (f : A → B) (xs : List A) → length (map f xs) ≡ length xs
length_map f [] = refl
length_map f (x ∷ xs) = ap suc (length_map f xs)

-- a new demand goes to the end
pub asked_new : (ds : List Demand) (d : Demand) → list_any (same_demand d) ds ≡ false → insert_key same_demand ds d ≡ ds ++ d ∷ []
asked_new ds d h = simp h

abbrev instance_at : ℕ → List Literal → InstanceValue
instance_at c literals = record { clause = c; literals = literals }

-- the place that is skipped is one of the clause's
skipped : (tuple : List ℕ) (place : ℕ) → place < length (positions_of (Some place) tuple) → place ≤ length tuple
skipped tuple place h =
    let xs : List (Option ℕ) = map (λ (k : ℕ). Some k) tuple in
    let o : Option ℕ = None in
    let sum : length (take place xs ++ o ∷ drop place xs) ≡ length (take place xs) + length (o ∷ drop place xs) = length-append (take place xs) (o ∷ drop place xs) in
    let front = length-take place xs in
    let back = length-drop place xs in
    let same : length xs ≡ length tuple = length_map (λ (k : ℕ). Some k) tuple in
    omega (arith, h, sum, front, back, same)

module _ (problem : ProblemValue) (valid : IsValid problem) (context : Context) (grown : IsGrownOver problem context) (asked waiting : List Demand) (listed : List InstanceValue) (d : Demand) (c place : ℕ) (tuple : List ℕ) (ks : List (Option ℕ)) (are : ks ≡ positions_of (Some place) tuple) (asserted : IsAsserted context d.0 c place tuple) (is_new : list_any (same_demand d) asked ≡ false) (right : IsRight problem context d) where
  abbrev After : List InstanceValue → Type 0
  After list = Next problem context asked waiting listed list d c place tuple

  after : (list : List InstanceValue) → Completes problem context asked (d ∷ waiting) listed list → After list
  after list h = next problem context asked waiting listed list d c place tuple (was_not_asked d asked is_new) asserted h

  asked_by : (literals : List Literal) → IsAskedInstance problem context c place tuple d.1 literals → IsDemanded problem context c place ks d.1 literals
  asked_by literals q = record {
    tuple = tuple;
    positions_are = are;
    instance = q;
    ground = all_ground_by problem d.1.atom.args right.ground;
  }

  pub asked_for : (list : List InstanceValue) → Completes problem context asked (d ∷ waiting) listed list → (literals : List Literal) × IsDemanded problem context c place ks d.1 literals
  asked_for list h = let n = after list h in (n.literals, asked_by n.literals n.instance)

  facts : (literals : List Literal) → IsAskedInstance problem context c place tuple d.1 literals → AskedFacts problem context d.0 c place tuple d.1 literals
  facts literals q = asked_facts problem valid grown.0 context (grown_sound valid grown.1) d.0 c place tuple d.1 literals asserted q right

  pub is_skip : (list : List InstanceValue) → Completes problem context asked (d ∷ waiting) listed list → place ≤ length tuple
  is_skip list h =
      let n = after list h in
      let f = facts n.literals n.instance in
      let long = f.each_place in
      let lt = f.place_within in
      skipped tuple place (omega (arith, long, lt))

  -- where the instance alone is too heavy, so is the list
  pub too_heavy_alone : (bound weight : ℕ) → IsListing bound listed weight → ((literals : List Literal) → IsDemanded problem context c place ks d.1 literals → bound < literals_weight literals) → (list : List InstanceValue) → Completes problem context asked (d ∷ waiting) listed list → bound < list_weight list
  too_heavy_alone bound weight listing heavy list h =
      let n = after list h in
      let over = heavy n.literals (asked_by n.literals n.instance) in
      let least = one_weight listed (instance_at c n.literals) n.rest list listing.distinct n.is_list in
      omega (arith, over, least)

  module _ (ls : List Literal) (exact : (literals : List Literal) → IsDemanded problem context c place ks d.1 literals → ls ≡ literals) where
    same_list : (list : List InstanceValue) (n : After list) → list ≡ first_occurrences (listed ++ instance_at c ls ∷ n.rest)
    same_list list n = n.is_list ∙ ap (λ (ms : List Literal). first_occurrences (listed ++ instance_at c ms ∷ n.rest)) (sym (exact n.literals (asked_by n.literals n.instance)))

    -- where it is new and too heavy beside what is listed, so is the list
    pub too_heavy_beside : (bound weight : ℕ) → IsListing bound listed weight → list_any (same_instance (instance_at c ls)) listed ≡ false → bound < weight + literals_weight ls → (list : List InstanceValue) → Completes problem context asked (d ∷ waiting) listed list → bound < list_weight list
    too_heavy_beside bound weight listing lack over list h =
        let n = after list h in
        let least = new_weight listed (instance_at c ls) n.rest list listing.distinct lack (same_list list n) in
        let own = listing.weighed in
        omega (arith, over, least, own)

    pub completes : (list : List InstanceValue) → Completes problem context asked (d ∷ waiting) listed list → Completes problem context (asked ++ d ∷ []) (waiting ++ demands ls ks) (insert_key same_instance listed (instance_at c ls)) list
    completes list h =
        let n = after list h in
        let literals = exact n.literals (asked_by n.literals n.instance) in
        let P : List Demand × (List Literal × List (Option ℕ)) → Type 0 = λ z. Adds problem context z.0 (waiting ++ demands z.1.0 z.1.1) n.rest in
        let turned : reverse (asked ++ d ∷ []) ≡ d ∷ reverse asked = reverse-append asked (d ∷ []) in
        (n.rest, subst P (λ i. (sym turned i, (sym literals i, sym are i))) n.later, same_list list n ∙ one_more listed (instance_at c ls) n.rest)

    below : (list : List InstanceValue) → Completes problem context asked (d ∷ waiting) listed list → EachOf (IsRightBelow problem context d.0) (demands ls ks)
    below list h =
        let n = after list h in
        let P : List Literal × List (Option ℕ) → Type 0 = λ z. EachOf (IsRightBelow problem context d.0) (demands z.0 z.1) in
        subst P (λ i. (sym (exact n.literals (asked_by n.literals n.instance)) i, sym are i)) (facts n.literals n.instance).demands_right

    pub rights : (list : List InstanceValue) → Completes problem context asked (d ∷ waiting) listed list → All (IsRight problem context) waiting → All (IsRight problem context) (waiting ++ demands ls ks)
    rights list h those =
        let new = each_map (IsRightBelow problem context d.0) (IsRight problem context) (λ e k. k.1) (demands ls ks) (below list h) in
        All-append (IsRight problem context) waiting (demands ls ks) those (all_of (IsRight problem context) (demands ls ks) new)

    pub less : (list : List InstanceValue) → Completes problem context asked (d ∷ waiting) listed list → work_all (longest problem.clauses) (waiting ++ demands ls ks) < work (longest problem.clauses) d.0 + work_all (longest problem.clauses) waiting
    less list h =
        let n = after list h in
        let b = longest problem.clauses in
        let same : length ls ≡ length n.instance.clause.literals = ap length (exact n.literals (asked_by n.literals n.instance) ∙ n.instance.is_instance) ∙ length_map _ n.instance.clause.literals in
        let long = is_long problem.clauses c n.instance.clause n.instance.clause_at in
        let few = few_demands ls ks in
        let each = each_map (IsRightBelow problem context d.0) (IsBelow d.0) (λ e k. k.0) (demands ls ks) (below list h) in
        let falls = work_falls b d.0 (demands ls ks) each (omega (arith, same, long, few)) in
        let sum = work_append b waiting (demands ls ks) in
        omega (arith, falls, sum)

-- ---- the beginning
module _ (problem : ProblemValue) (valid : IsValid problem) (context : Context) (grown : IsGrownOver problem context) (c : ℕ) (tuple : List ℕ) (close : IsClose problem context c tuple) where
  pub leaf_exists : (list : List InstanceValue) × IsLeafList problem context c tuple list
  leaf_exists = leaf_list problem grown.0 context (grown_backed grown.1) c tuple close

  pub closing_rights : (ks : List (Option ℕ)) → ks ≡ positions_of None tuple → (ls : List Literal) → IsClosingInstance problem context c tuple ls → All (IsRight problem context) (demands ls ks)
  closing_rights ks are ls closing =
      let f = closing_facts problem valid grown.0 context (grown_sound valid grown.1) c tuple ls close closing in
      let each = each_map (IsRightBelow problem context (length context)) (IsRight problem context) (λ e k. k.1) (demands ls (positions_of None tuple)) f.demands_right in
      let P : List (Option ℕ) → Type 0 = λ os. All (IsRight problem context) (demands ls os) in
      subst P (sym are) (all_of (IsRight problem context) (demands ls (positions_of None tuple)) each)

module _ (problem : ProblemValue) (context : Context) (c : ℕ) (tuple : List ℕ) (ks : List (Option ℕ)) (are : ks ≡ positions_of None tuple) (list : List InstanceValue) (leaf : IsLeafList problem context c tuple list) where
  pub begins : (ls : List Literal) → IsClosingInstance problem context c tuple ls → Completes problem context [] (demands ls ks) (insert_key same_instance [] (instance_at c ls)) list
  begins ls closing =
      let same : ls ≡ leaf.0 = closing_unique problem context c tuple ls leaf.0 closing leaf.2 in
      let P : List Literal × List (Option ℕ) → Type 0 = λ z. Adds problem context [] (demands z.0 z.1) leaf.1 in
      (leaf.1, subst P (λ i. (sym same i, sym are i)) leaf.3, leaf.4 ∙ ap (λ (ms : List Literal). first_occurrences (instance_at c ms ∷ leaf.1)) (sym same))

  pub closing_too_heavy : (bound : ℕ) → ((literals : List Literal) → IsClosingInstance problem context c tuple literals → bound < literals_weight literals) → bound < list_weight list
  closing_too_heavy bound heavy =
      let over = heavy leaf.0 leaf.2 in
      let least = one_weight [] (instance_at c leaf.0) leaf.1 list tt leaf.4 in
      omega (arith, over, least)

-- ---- the front of the queue
pub first_of : (P : Demand → Type 0) (all waiting : List Demand) (d : Demand) → all ≡ d ∷ waiting → All P all → P d
first_of P all waiting d is h = let Q : List Demand → Type 0 = λ ds. All P ds in All-head P d waiting (subst Q is h)

pub rest_of : (P : Demand → Type 0) (all waiting : List Demand) (d : Demand) → all ≡ d ∷ waiting → All P all → All P waiting
rest_of P all waiting d is h = let Q : List Demand → Type 0 = λ ds. All P ds in All-tail P d waiting (subst Q is h)

-- ---- the end
pub none_first : (ds : List Demand) → ds ≡ drop 1 ds → ds ≡ []
none_first [] h = refl
none_first (d ∷ ds) h = let long : suc (length ds) ≡ length ds = ap length h in absurd (omega (arith, long))
