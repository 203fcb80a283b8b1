-- The instance by which an asserted entry holds: what its matching leaves is read as c0, and its other entries are asked for rightly.
use Rattle.std.proofs.Common.{◌≡◌, ℕ, zero, suc, ◌<◌, true, inl, inr, List, [], ◌∷◌, map, length, slice_get, Option, Some, refl, sym, subst, ap, ◌∙◌, arith}
use Rattle.std.specs.List.{list_all}
use Rattle.std.proofs.lemmas.Option.{slice_get_within, same_Some}
use Rattle.me_terms.specs.Terms.{TermValue, Arguments, AtomValue}
use Rattle.me_terms.specs.Substitutions.{Substitution, Family, apply_term, apply_arguments, apply_atom, apply_literal, followed_by, IsInstance}
use Rattle.me_terms.specs.Variables.{variables_of, are_ground, canonical}
use Rattle.me_terms.specs.Measures.{canonical_literal}
use Rattle.me_terms.specs.Values.{ProblemValue, ClauseValue, EntryValue, ReasonValue}
use Rattle.me_terms.specs.Context.{Context, StandsAt, IsAtomWith}
use Rattle.me_terms.specs.Positions.{positions_of, StandsAgainst, entry_at}
use Rattle.me_terms.specs.Unifier.{Solves, IsUnifier, IsContextUnifier, unified}
use Rattle.me_terms.specs.Remainder.{remainder}
use Rattle.me_terms.specs.Assert.{uses_universal, asserted_entry}
use Rattle.me_terms.specs.GroundInstances.{is_ground_term, are_ground_terms, IsGroundInstance}
use Rattle.me_terms.specs.Validity.{IsValid}
use Rattle.me_terms.specs.ListedInstances.{constant, instance_of, IsAskedInstance}
use Rattle.me_terms.specs.LeafList.{demands, IsAsserted}
use Rattle.me_terms.specs.declared.bounds.Bounds.{Bounds}
use Rattle.me_terms.specs.declared.entry.Kind.{Kind}
use Rattle.me_terms.specs.declared.entry.Kind.TheVariants.{Parametric}
use Rattle.me_terms.specs.declared.atom.Literal.{Literal}
use Rattle.me_terms.specs.declared.atom.Pattern.{Pattern}
use Rattle.me_terms.specs.declared.atom.Pattern.TheVariants.{Of}
use Rattle.me_laws.proofs.Generality.{atom_followed}
use Rattle.me_laws.proofs.Renaming.{canonical_same}
use Rattle.me_laws.proofs.Determined.{Renamed, renamed, unified_variants, clause_same, literal_same}
use Rattle.me_laws.proofs.Lists.{EachOf}
use Rattle.me_laws.proofs.Backed.{Backed}
use Rattle.me_laws_refutation.proofs.Known.{clause_known}
use Rattle.me_laws_refutation.proofs.UnifierKnown.{unifier_known}
use Rattle.me_laws_refutation.proofs.GroundTerms.{constant_ground, ground_under, all_ground_variables}
use Rattle.me_laws_refutation.proofs.Sound.{IsReason, IsSound}
use Rattle.me_laws_refutation.specs.RightDemands.{IsRight}
use Rattle.me_laws_refutation.proofs.Demands.{IsRightBelow, right_demands}
use Rattle.me_laws_refutation.proofs.NoRemainder.{still_none}
use Rattle.me_laws.proofs.NoContradiction.{ground_atom}
use Rattle.me_laws_refutation.proofs.Constants.{read_canonical, ground_canonical, everywhere, all_constant}
use Rattle.me_laws_refutation.proofs.AssertedKind.{universal_at, not_both, kind_cases}

-- What the instance is: a ground instance of the clause whose other entries stand below and are asked for rightly.
pub record AskedFacts (problem : ProblemValue) (context : Context) (k c place : ℕ) (tuple : List ℕ) (g : Literal) (literals : List Literal) : Type 0 where
  pub demands_right : EachOf (IsRightBelow problem context k) (demands literals (positions_of (Some place) tuple))
  pub is_ground : IsGroundInstance problem c literals
  pub each_place : length (positions_of (Some place) tuple) ≡ length literals
  pub place_within : place < length literals
  pub own : slice_get literals place ≡ Some g

length_map : {A B : Type 0} (f : A → B) (xs : List A) → length (map f xs) ≡ length xs
length_map f [] = refl
length_map f (x ∷ xs) = ap suc (length_map f xs)

get_map : {A B : Type 0} (f : A → B) (xs : List A) (k : ℕ) (x : A) → slice_get xs k ≡ Some x → slice_get (map f xs) k ≡ Some (f x)
get_map f [] k x h = cc
get_map f (y ∷ ys) zero x h = ap (λ z. Some (f z)) (same_Some y x h)
get_map f (y ∷ ys) (suc k) x h = get_map f ys k x h

-- an instance whose reading and unifier are known is ground
pub instance_ground : (problem : ProblemValue) (c : ℕ) (clause : ClauseValue) (u : Family) (m : Substitution) (literals : List Literal) → slice_get problem.clauses c ≡ Some clause → ((x : ℕ) → is_ground_term problem (apply_term m (u 0 x)) ≡ true) → literals ≡ instance_of u m clause.literals → IsGroundInstance problem c literals
instance_ground problem c clause u m literals at ground is =
    let turned : map (apply_literal (followed_by (u 0) m)) clause.literals ≡ instance_of u m clause.literals =
    λ i. map (λ (l : Literal). record { positive = l.positive; atom = atom_followed (u 0) m l.atom i }) clause.literals in
    (clause, followed_by (u 0) m, at, ground, is ∙ sym turned)

right_atom : (c : TermValue) (p : Pattern) (kind : Kind) (a : AtomValue) (g : AtomValue) → p ≡ Of a → IsAtomWith (λ b. IsInstance b g × (kind ≡ Parametric → apply_atom (λ x. c) b ≡ g)) p → kind ≡ Parametric → apply_atom (λ x. c) a ≡ g
right_atom c p kind a g same h k =
    let P : Pattern → Type 0 = λ q. IsAtomWith (λ b. IsInstance b g × (kind ≡ Parametric → apply_atom (λ x. c) b ≡ g)) q in
    (subst P same h).1 k

module _ (problem : ProblemValue) (valid : IsValid problem) (bounds : Bounds) (context : Context) (sound : IsSound problem bounds context) (k c place : ℕ) (tuple : List ℕ) (g : Literal) (literals : List Literal) (e : EntryValue) (stands : StandsAt context k e) (backed : Backed problem bounds context k c place tuple e) (q : IsAskedInstance problem context c place tuple g literals) (right : IsRight problem context (k, g)) where
  abbrev before : Context
  before = backed.before

  abbrev ls : List Literal
  ls = q.clause.literals

  abbrev ks : List (Option ℕ)
  ks = positions_of (Some place) tuple

  abbrev matched : AtomValue
  matched = apply_atom (q.family 0) q.literal.atom

  abbrev c0 : TermValue
  c0 = constant problem.c0

  same_clause : backed.is_assert.clause ≡ q.clause
  same_clause = clause_same problem c backed.is_assert.clause q.clause backed.is_assert.clause_at q.clause_at

  own_unifier : IsContextUnifier before ls (Some place) tuple backed.is_assert.family
  own_unifier =
      let P : ClauseValue → Type 0 = λ z. IsContextUnifier before z.literals (Some place) tuple backed.is_assert.family in
      subst P same_clause backed.is_assert.unifier

  same_literal : backed.is_assert.literal ≡ q.literal
  same_literal =
      let P : ClauseValue → Type 0 = λ z. slice_get z.literals place ≡ Some backed.is_assert.literal in
      literal_same ls place backed.is_assert.literal q.literal (subst P same_clause backed.is_assert.literal_at) q.literal_at

  -- the equations in the context are those in the context before
  solves_before : (v : Family) → Solves context ls ks v → Solves before ls ks v
  solves_before v h = λ i j l f o.
      let P : ℕ → Type 0 = λ n. j < n in
      let below = subst P backed.as_long (slice_get_within before j f o.stands) in
      h i j l f (record { literal = o.literal; position = o.position; stands = sym (backed.agree j below) ∙ o.stands })

  solves_after : (v : Family) → Solves before ls ks v → Solves context ls ks v
  solves_after v h = λ i j l f o.
      let seen = own_unifier.opposite.visible i j l o.literal o.position in
      let P : ℕ → Type 0 = λ n. j < n in
      let below = subst P backed.as_long (slice_get_within before j seen.0 seen.1.0) in
      h i j l f (record { literal = o.literal; position = o.position; stands = backed.agree j below ∙ o.stands })

  unifier_before : IsUnifier before ls ks q.family
  unifier_before = record {
    solves = solves_before q.family q.unifier.solves;
    most_general = λ v h. q.unifier.most_general v (solves_after v h);
  }

  turn : Renamed backed.is_assert.family q.family
  turn = renamed before ls ks backed.is_assert.family q.family own_unifier.unifier unifier_before

  nothing_left : remainder before ks q.family ≡ []
  nothing_left = still_none before ls (Some place) tuple backed.is_assert.family q.family own_unifier backed.is_assert.no_remainder unifier_before

  same_atom : canonical_literal (unified backed.is_assert.family backed.is_assert.literal) ≡ canonical_literal (unified q.family q.literal)
  unfolding unified_variants
  same_atom =
      let l = backed.is_assert.literal in
      let atom = canonical_same (apply_atom (backed.is_assert.family 0) l.atom) (apply_atom (q.family 0) l.atom) (unified_variants backed.is_assert.family q.family turn l.atom) in
      let first : canonical_literal (unified backed.is_assert.family l) ≡ canonical_literal (unified q.family l) = λ i. record { positive = l.positive; atom = atom i } in
      first ∙ ap (λ m. canonical_literal (unified q.family m)) same_literal

  entry_is : e ≡ asserted_entry before c place tuple (canonical_literal (unified q.family q.literal))
  entry_is = backed.is_assert.entry ∙ ap (asserted_entry before c place tuple) same_atom

  matches_atom : apply_atom q.matching matched ≡ g.atom
  matches_atom = ap (λ (l : Literal). l.atom) q.matches

  -- the entry is asked at its instance by c0
  asked_constant : e.kind ≡ Parametric → apply_atom q.matching matched ≡ apply_atom (λ x. c0) matched
  asked_constant h =
      let same : right.entry ≡ e = same_Some right.entry e (sym right.stands ∙ stands) in
      let kinds : right.entry.kind ≡ Parametric = ap (λ (x : EntryValue). x.kind) same ∙ h in
      let atoms : right.entry.atom ≡ Of (canonical matched) = ap (λ (x : EntryValue). x.atom) (same ∙ entry_is) in
      let there = right_atom c0 right.entry.atom right.entry.kind (canonical matched) g.atom atoms right.holds kinds in
      matches_atom ∙ (sym there ∙ read_canonical c0 matched)

  ground_constant : are_ground (canonical matched).args ≡ true → apply_atom q.matching matched ≡ apply_atom (λ x. c0) matched
  ground_constant h =
      let ground = ground_canonical matched h in ground_atom q.matching matched ground ∙ sym (ground_atom (λ x. c0) matched ground)

  reads : (i j : ℕ) (l : Literal) (f : EntryValue) → StandsAgainst before ls ks i l j f → f.kind ≡ Parametric → (y : ℕ) → q.matching y ≡ c0
  reads i j l f o parametric =
      elim (kind_cases (list_all (λ p. uses_universal (entry_at before p)) ks) (are_ground (canonical matched).args) e.kind (ap (λ (x : EntryValue). x.kind) entry_is)) as (λ _. (y : ℕ) → q.matching y ≡ c0) [
        | inl universal ↦ absurd (not_both f.kind (universal_at before ks i j f universal o.position o.stands) parametric)
        | inr others ↦ elim others as (λ _. (y : ℕ) → q.matching y ≡ c0) [
          | inl ground ↦ all_constant c0 q.matching matched (ground_constant ground) q.others
          | inr kind ↦ all_constant c0 q.matching matched (asked_constant kind) q.others
        ]
      ]

  reading_ground : (x : ℕ) → is_ground_term problem (q.matching x) ≡ true
  reading_ground =
      let P : Arguments → Type 0 = λ ts. are_ground_terms problem ts ≡ true in
      let Q : TermValue → Type 0 = λ t. is_ground_term problem t ≡ true in
      let there : are_ground_terms problem (apply_arguments q.matching matched.args) ≡ true = subst P (sym (ap (λ (a : AtomValue). a.args) matches_atom)) right.ground in
      everywhere (λ x. is_ground_term problem (q.matching x) ≡ true) (variables_of matched.args) (all_ground_variables problem q.matching matched.args there)
      (λ x lack. subst Q (sym (q.others x lack)) (constant_ground problem valid))

  terms_ground : (x : ℕ) → is_ground_term problem (apply_term q.matching (q.family 0 x)) ≡ true
  terms_ground x =
      ground_under problem q.matching reading_ground (q.family 0 x)
      (unifier_known problem.signature context ls ks q.family sound.known (clause_known problem valid c q.clause q.clause_at) q.unifier 0 x)

  pub facts_of : AskedFacts problem context k c place tuple g literals
  facts_of =
      let R : ℕ → Type 0 = λ n. EachOf (IsRightBelow problem context n) (demands (instance_of q.family q.matching ls) ks) in
      let agree : (j : ℕ) → j < length before → slice_get before j ≡ slice_get context j = λ j lt. let P : ℕ → Type 0 = λ n. j < n in backed.agree j (subst P backed.as_long lt) in
      let there = right_demands problem before context ls ks q.family q.matching agree own_unifier.opposite unifier_before.solves nothing_left reads (clause_known problem valid c q.clause q.clause_at) terms_ground in
      let D : List Literal → Type 0 = λ ms. EachOf (IsRightBelow problem context k) (demands ms ks) in
      let L : List Literal → Type 0 = λ ms. (length ks ≡ length ms) × (place < length ms) × (slice_get ms place ≡ Some g) in
      let long : length (instance_of q.family q.matching ls) ≡ length ls = length_map (λ l. apply_literal q.matching (unified q.family l)) ls in
      let within : place < length ls = slice_get_within ls place q.literal q.literal_at in
      let here : slice_get (instance_of q.family q.matching ls) place ≡ Some (apply_literal q.matching (unified q.family q.literal)) = get_map (λ l. apply_literal q.matching (unified q.family l)) ls place q.literal q.literal_at in
      let rest = subst L (sym q.is_instance) (own_unifier.opposite.each_place ∙ sym long, omega (arith, long, within), here ∙ ap (λ (l : Literal). Some l) q.matches) in
      record {
        demands_right = subst D (sym q.is_instance) (subst R backed.as_long there);
        is_ground = instance_ground problem c q.clause q.family q.matching literals q.clause_at terms_ground q.is_instance;
        each_place = rest.0;
        place_within = rest.1;
        own = rest.2;
      }

-- an asserted entry's instance, where the entry is asked for rightly
pub asked_facts : (problem : ProblemValue) → IsValid problem → (bounds : Bounds) (context : Context) → IsSound problem bounds context → (k c place : ℕ) (tuple : List ℕ) (g : Literal) (literals : List Literal) → IsAsserted context k c place tuple → IsAskedInstance problem context c place tuple g literals → IsRight problem context (k, g) → AskedFacts problem context k c place tuple g literals
asked_facts problem valid bounds context sound k c place tuple g literals a q right =
    let P : ReasonValue → Type 0 = λ w. IsReason problem bounds context k a.0 w in
    facts_of problem valid bounds context sound k c place tuple g literals a.0 a.1 (subst P a.2 (sound.reasons k a.0 a.1)) q right
