-- One demand of the queue is worked: it adds nothing, or the instance of an asserted entry with the demands of that instance.
use Rattle.std.proofs.Common.{◌≡◌, ℕ, Bool, true, false, ◌&&◌, ◌||◌, eqb, ◌⊎◌, inl, inr, List, [], ◌∷◌, ◌++◌, reverse, Some, refl, sym, subst, ap, ◌∙◌, arith}
use Rattle.std.specs.Bool.{beq}
use Rattle.me_terms.specs.TermEquality.{same_atom}
use Rattle.std.specs.List.{Contains, list_any}
use Rattle.std.proofs.lemmas.Option.{same_Some}
use Rattle.std.proofs.lemmas.List.{reverse-append}
use Rattle.std.proofs.lemmas.List.Folds.{list_any-append}
use Rattle.std.proofs.lemmas.Bool.{eqb-true}
use Rattle.std.proofs.lemmas.Grind.{common_steps}
use Rattle.std.specs.Cmp.{IsEquivalence}
use Rattle.std.proofs.lemmas.Map.Views.{list_any-from_Contains}
use Rattle.indexmap.proofs.CallerLemmas.{Contains-list_any}
use Rattle.me_terms.specs.Terms.{TermValue, Var, App, Arguments, Nil, Cons}
use Rattle.me_terms.specs.TermEqualityLaws.{both_parts, deciding, same_atom_sound, same_atom_itself}
use Rattle.me_terms.specs.Variables.{is_ground, are_ground}
use Rattle.me_terms.specs.Values.{ProblemValue, EntryValue, InstanceValue, ReasonValue, Asserted}
use Rattle.me_terms.specs.Context.{Context, StandsAt}
use Rattle.me_terms.specs.Positions.{positions_of}
use Rattle.me_terms.specs.GroundInstances.{is_ground_term, are_ground_terms}
use Rattle.me_terms.specs.FirstOccurrences.{first_occurrences}
use Rattle.me_terms.specs.ListedInstances.{IsAskedInstance}
use Rattle.me_terms.specs.LeafList.{Demand, demands, IsAsserted, AddsNothing, Adds, none_waits, passes, adds}
use Rattle.me_terms.specs.declared.atom.Literal.{Literal}
use Rattle.ground_refutation.specs.Queue.{same_demand, Completes}

-- ---- what was asked
sign_sound : (a b : Bool) → beq a b ≡ true → a ≡ b
sign_sound true true h = refl
sign_sound true false h = cc
sign_sound false true h = cc
sign_sound false false h = refl

sign_itself : (a : Bool) → beq a a ≡ true
sign_itself true = refl
sign_itself false = refl

demand_sound : (d f : Demand) → same_demand d f ≡ true → d ≡ f
demand_sound d f h =
    let parts = both_parts (eqb d.0 f.0) (beq d.1.positive f.1.positive && same_atom d.1.atom f.1.atom) h in
    let literals = both_parts (beq d.1.positive f.1.positive) (same_atom d.1.atom f.1.atom) parts.1 in
    λ i. (eqb-true d.0 f.0 parts.0 i, record { positive = sign_sound d.1.positive f.1.positive literals.0 i; atom = same_atom_sound d.1.atom f.1.atom literals.1 i })

demand_itself : (d : Demand) → same_demand d d ≡ true
demand_itself d = grind (arith, common_steps, sign_itself d.1.positive, same_atom_itself d.1.atom)

either_way : (a b : Bool) → (a || (b || false)) ≡ (b || a)
either_way true true = refl
either_way true false = refl
either_way false true = refl
either_way false false = refl

any_reverse : (p : Demand → Bool) (ds : List Demand) → list_any p (reverse ds) ≡ list_any p ds
any_reverse p [] = refl
any_reverse p (d ∷ ds) =
    ap (list_any p) (reverse-append (d ∷ []) ds) ∙ (list_any-append p (reverse ds) (d ∷ []) ∙ (ap (λ (b : Bool). b || list_any p (d ∷ [])) (any_reverse p ds) ∙ either_way (list_any p ds) (p d)))

demand_laws : IsEquivalence same_demand
demand_laws = deciding same_demand demand_sound demand_itself

pub was_asked : (d : Demand) (asked : List Demand) → list_any (same_demand d) asked ≡ true → Contains (reverse asked) d
was_asked d asked h = Contains-list_any same_demand demand_sound (reverse asked) d (any_reverse (same_demand d) asked ∙ h)

pub was_not_asked : (d : Demand) (asked : List Demand) → list_any (same_demand d) asked ≡ false → ¬ Contains (reverse asked) d
was_not_asked d asked h c =
    let there : list_any (same_demand d) asked ≡ true = sym (any_reverse (same_demand d) asked) ∙ list_any-from_Contains demand_laws d (reverse asked) c in
    cc (there, h)

-- ---- groundness
mutual
  ground_by : (problem : ProblemValue) (t : TermValue) → is_ground_term problem t ≡ true → is_ground t ≡ true
  ground_by problem (Var x) h = h
  ground_by problem (App f ts) h = all_ground_by problem ts (both_parts _ (are_ground_terms problem ts) h).1

  pub all_ground_by : (problem : ProblemValue) (ts : Arguments) → are_ground_terms problem ts ≡ true → are_ground ts ≡ true
  all_ground_by problem Nil h = refl
  all_ground_by problem (Cons t ts) h =
      let parts = both_parts (is_ground_term problem t) (are_ground_terms problem ts) h in
      λ i. ground_by problem t parts.0 i && all_ground_by problem ts parts.1 i

-- ---- what a list says of the queue that made it
pub record Added (problem : ProblemValue) (context : Context) (before : List Demand) (d : Demand) (waiting : List Demand) (list : List InstanceValue) : Type 0 where
  pub c : ℕ
  pub place : ℕ
  pub tuple : List ℕ
  pub literals : List Literal
  pub rest : List InstanceValue
  pub fresh : ¬ Contains before d
  pub asserted : IsAsserted context d.0 c place tuple
  pub asked : IsAskedInstance problem context c place tuple d.1 literals
  pub later : Adds problem context (d ∷ before) (waiting ++ demands literals (positions_of (Some place) tuple)) rest
  pub is_list : list ≡ record { clause = c; literals = literals } ∷ rest

abbrev Turn : ProblemValue → Context → List Demand → List Demand → List InstanceValue → Type 0
Turn problem context before [] list = list ≡ []
Turn problem context before (d ∷ waiting) list =
    (AddsNothing context before d × Adds problem context before waiting list) ⊎ Added problem context before d waiting list

turn : {problem : ProblemValue} {context : Context} {before waiting : List Demand} {list : List InstanceValue} → Adds problem context before waiting list → Turn problem context before waiting list
turn none_waits = refl
turn (passes f g) = inl (f, g)
turn (adds {c = c} {place = place} {tuple = tuple} {literals = literals} {list = list} fresh a k later) =
    inr (record { c = c; place = place; tuple = tuple; literals = literals; rest = list; fresh = fresh; asserted = a; asked = k; later = later; is_list = refl })

asserted_same : (context : Context) (k c c' place place' : ℕ) (tuple tuple' : List ℕ) → IsAsserted context k c place tuple → IsAsserted context k c' place' tuple' → (c ≡ c') × (place ≡ place') × (tuple ≡ tuple')
asserted_same context k c c' place place' tuple tuple' f g =
    let same : f.0 ≡ g.0 = same_Some f.0 g.0 (sym f.1 ∙ g.1) in
    let reasons : Asserted c place tuple ≡ Asserted c' place' tuple' = sym f.2 ∙ (ap (λ (e : EntryValue). e.reason) same ∙ g.2) in
    (cc reasons, cc reasons, cc reasons)

-- an entry with another reason was not asserted
pub other_reason : (context : Context) (k : ℕ) (e : EntryValue) (why : ReasonValue) → StandsAt context k e → e.reason ≡ why → ((c place : ℕ) (tuple : List ℕ) → ¬ (why ≡ Asserted c place tuple)) → (c place : ℕ) (tuple : List ℕ) → ¬ IsAsserted context k c place tuple
other_reason context k e why stands reason other c place tuple h =
    let same : e ≡ h.0 = same_Some e h.0 (sym stands ∙ h.1) in
    other c place tuple (sym reason ∙ (ap (λ (z : EntryValue). z.reason) same ∙ h.2))

not_both : (context : Context) (before : List Demand) (d : Demand) (c place : ℕ) (tuple : List ℕ) → AddsNothing context before d → ¬ Contains before d → IsAsserted context d.0 c place tuple → ⊥
not_both context before d c place tuple h fresh a =
    elim h as (λ _. ⊥) [ inl again ↦ fresh again | inr none ↦ none c place tuple a ]

module _ (problem : ProblemValue) (context : Context) (asked waiting : List Demand) (listed list : List InstanceValue) where
  pub done : Completes problem context asked [] listed list → list ≡ first_occurrences (listed ++ [])
  done h = h.2 ∙ ap (λ (more : List InstanceValue). first_occurrences (listed ++ more)) (turn h.1)

  pub passed : (d : Demand) → AddsNothing context (reverse asked) d → Completes problem context asked (d ∷ waiting) listed list → Completes problem context asked waiting listed list
  passed d nothing h =
      elim (turn h.1) as (λ _. Completes problem context asked waiting listed list) [
        | inl k ↦ (h.0, k.1, h.2)
        | inr k ↦ absurd (not_both context (reverse asked) d k.c k.place k.tuple nothing k.fresh k.asserted)
      ]

  -- an asserted entry that is asked for at a new literal: its instance comes next, and then what its demands add
  pub record Next (d : Demand) (c place : ℕ) (tuple : List ℕ) : Type 0 where
    pub literals : List Literal
    pub rest : List InstanceValue
    pub instance : IsAskedInstance problem context c place tuple d.1 literals
    pub later : Adds problem context (d ∷ reverse asked) (waiting ++ demands literals (positions_of (Some place) tuple)) rest
    pub is_list : list ≡ first_occurrences (listed ++ record { clause = c; literals = literals } ∷ rest)

  pub next : (d : Demand) (c place : ℕ) (tuple : List ℕ) → ¬ Contains (reverse asked) d → IsAsserted context d.0 c place tuple → Completes problem context asked (d ∷ waiting) listed list → Next d c place tuple
  next d c place tuple fresh a h =
      elim (turn h.1) as (λ _. Next d c place tuple) [
        | inl k ↦ absurd (not_both context (reverse asked) d c place tuple k.0 fresh a)
        | inr k ↦
            let same = asserted_same context d.0 k.c c k.place place k.tuple tuple k.asserted a in
            let P : ℕ × ℕ × List ℕ → Type 0 = λ z. IsAskedInstance problem context z.0 z.1 z.2 d.1 k.literals in
            let Q : ℕ × List ℕ → Type 0 = λ z. Adds problem context (d ∷ reverse asked) (waiting ++ demands k.literals (positions_of (Some z.0) z.1)) k.rest in
            let whole : list ≡ first_occurrences (listed ++ record { clause = k.c; literals = k.literals } ∷ k.rest) = h.2 ∙ ap (λ (more : List InstanceValue). first_occurrences (listed ++ more)) k.is_list in
            record {
              literals = k.literals;
              rest = k.rest;
              instance = subst P (λ n. (same.0 n, same.1 n, same.2 n)) k.asked;
              later = subst Q (λ n. (same.1 n, same.2 n)) k.later;
              is_list = whole ∙ ap (λ (z : ℕ). first_occurrences (listed ++ record { clause = z; literals = k.literals } ∷ k.rest)) same.0;
            }
      ]
