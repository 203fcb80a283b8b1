-- An asserted entry that is asked for at an instance of its atom has an asked instance, whose demands are for entries before it.
use Rattle.std.proofs.Common.{◌≡◌, ℕ, suc, ◌+◌, ◌<◌, ◌⊎◌, inl, inr, List, [], ◌∷◌, map, length, slice_get, Option, Some, None, refl, sym, subst, ap, ◌∙◌, arith}
use Rattle.std.specs.List.{Contains}
use Rattle.std.proofs.lemmas.Option.{slice_get_within}
use Rattle.me_terms.specs.Terms.{TermValue, AtomValue}
use Rattle.me_terms.specs.Variables.{variables_of, canonical}
use Rattle.me_terms.specs.Substitutions.{Substitution, Family, apply_arguments, apply_atom, apply_literal, Generalizes}
use Rattle.me_terms.specs.Measures.{complement}
use Rattle.me_terms.specs.Values.{ProblemValue, ClauseValue, EntryValue}
use Rattle.me_terms.specs.Context.{Context, StandsAt}
use Rattle.me_terms.specs.Positions.{AreOpposite, StandsAgainst, positions_of}
use Rattle.me_terms.specs.Unifier.{Solves, IsUnifier, unified}
use Rattle.me_terms.specs.ListedInstances.{constant, instance_of, IsAskedInstance}
use Rattle.me_terms.specs.LeafList.{Demand, demands}
use Rattle.me_terms.specs.declared.bounds.Bounds.{Bounds}
use Rattle.me_terms.specs.declared.atom.Literal.{Literal}
use Rattle.me_terms.specs.declared.atom.Pattern.{Pattern}
use Rattle.me_terms.specs.declared.atom.Pattern.TheVariants.{Of}
use Rattle.me_laws.proofs.Generality.{generalizes_transitive}
use Rattle.me_laws.proofs.Lifting.{met}
use Rattle.me_laws.proofs.NoContradiction.{canonical_below}
use Rattle.me_laws.proofs.Renaming.{Each, each_map, variables_agree_all}
use Rattle.me_laws_existence.proofs.Splits.{contains_decided}
use Rattle.me_laws.proofs.Backed.{Backed}

-- The demand is for an entry below n whose atom is above its literal.
pub record IsMet (context : Context) (n : ℕ) (d : Demand) : Type 0 where
  pub entry : EntryValue
  pub below : d.0 < n
  pub stands : StandsAt context d.0 entry
  pub same_sign : entry.positive ≡ d.1.positive
  pub above : Generalizes entry.atom (Of d.1.atom)

abbrev pub AllMet : Context → ℕ → List Demand → Type 0
AllMet context n [] = Unit {0}
AllMet context n (d ∷ ds) = IsMet context n d × AllMet context n ds

each_met : (context : Context) (n : ℕ) (f : Literal → Literal) (ls : List Literal) (ks : List (Option ℕ)) → ((i k : ℕ) (l : Literal) → slice_get ls i ≡ Some l → slice_get ks i ≡ Some (Some k) → IsMet context n (k, complement (f l))) → AllMet context n (demands (map f ls) ks)
each_met context n f [] ks h = tt
each_met context n f (l ∷ ls) [] h = tt
each_met context n f (l ∷ ls) (None ∷ ks) h = each_met context n f ls ks (λ i k m at pos. h (suc i) k m at pos)
each_met context n f (l ∷ ls) (Some k ∷ ks) h = (h 0 k l refl refl, each_met context n f ls ks (λ i j m at pos. h (suc i) j m at pos))

-- the demands of an instance under a solution
pub instance_met : (before context : Context) (ls : List Literal) (ks : List (Option ℕ)) (u : Family) (m : Substitution) → ((k : ℕ) → k < length before → slice_get before k ≡ slice_get context k) → AreOpposite before ls ks → Solves before ls ks u → AllMet context (length before) (demands (instance_of u m ls) ks)
instance_met before context ls ks u m agree opposite solves =
    each_met context (length before) (λ l. apply_literal m (unified u l)) ls ks (λ i k l at pos.
    let seen = opposite.visible i k l at pos in
    let e = seen.0 in
    let lt : k < length before = slice_get_within before k e seen.1.0 in
    let opposed : StandsAgainst before ls ks i l k e = record { literal = at; position = pos; stands = seen.1.0 } in
    let high : Generalizes e.atom (Of (apply_atom (u 0) l.atom)) = met (u (i + 1)) e.atom (u 0) l.atom (solves i k l e opposed) in
    record {
      entry = e;
      below = lt;
      stands = sym (agree k lt) ∙ seen.1.0;
      same_sign = seen.2;
      above = generalizes_transitive e.atom (Of (apply_atom (u 0) l.atom)) (Of (apply_atom m (apply_atom (u 0) l.atom))) high (m, refl);
    })

-- ---- the matching
picked : TermValue → TermValue → (xs : List ℕ) (x : ℕ) → Contains xs x ⊎ (¬ Contains xs x) → TermValue
picked s t xs x (inl h) = s
picked s t xs x (inr h) = t

picked_in : (s t : TermValue) (xs : List ℕ) (x : ℕ) (d : Contains xs x ⊎ (¬ Contains xs x)) → Contains xs x → picked s t xs x d ≡ s
unfolding picked
picked_in s t xs x (inl h) g = refl
picked_in s t xs x (inr never) g = absurd (never g)

picked_out : (s t : TermValue) (xs : List ℕ) (x : ℕ) (d : Contains xs x ⊎ (¬ Contains xs x)) → ¬ Contains xs x → picked s t xs x d ≡ t
unfolding picked
picked_out s t xs x (inl h) g = absurd (g h)
picked_out s t xs x (inr never) g = refl

each_contained : (xs : List ℕ) → Each (Contains xs) xs
unfolding Each
each_contained [] = tt
each_contained (x ∷ xs) = ((0, omega arith, refl), each_map (Contains xs) (Contains (x ∷ xs)) (λ y h. let lt = h.1 in (suc h.0, omega (arith, lt), h.2)) xs (each_contained xs))

restricted : Substitution → TermValue → List ℕ → Substitution
restricted r t xs x = picked (r x) t xs x (contains_decided xs x)

restricted_same : (r : Substitution) (t : TermValue) (a : AtomValue) → apply_atom (restricted r t (variables_of a.args)) a ≡ apply_atom r a
unfolding restricted
restricted_same r t a =
    let xs = variables_of a.args in
    let args : apply_arguments (restricted r t xs) a.args ≡ apply_arguments r a.args = variables_agree_all (restricted r t xs) r a.args (each_map (Contains xs) (λ x. restricted r t xs x ≡ r x) (λ x h. picked_in (r x) t xs x (contains_decided xs x) h) xs (each_contained xs)) in
    λ i. record { pred = a.pred; args = args i }

restricted_out : (r : Substitution) (t : TermValue) (xs : List ℕ) (x : ℕ) → ¬ Contains xs x → restricted r t xs x ≡ t
unfolding restricted
restricted_out r t xs x h = picked_out (r x) t xs x (contains_decided xs x) h

-- ---- the asked instance
pub record Asking (problem : ProblemValue) (context : Context) (k c place : ℕ) (tuple : List ℕ) (g : Literal) : Type 0 where
  pub literals : List Literal
  pub is_asked : IsAskedInstance problem context c place tuple g literals
  pub met : AllMet context k (demands literals (positions_of (Some place) tuple))
  pub long : (clause : ClauseValue) × (slice_get problem.clauses c ≡ Some clause) × (length literals ≡ length clause.literals)

pub length_map : {A B : Type 0} (f : A → B) (xs : List A) → length (map f xs) ≡ length xs
length_map f [] = refl
length_map f (x ∷ xs) = ap suc (length_map f xs)

module _ (problem : ProblemValue) (bounds : Bounds) (context : Context) (k c place : ℕ) (tuple : List ℕ) (g : Literal) (e : EntryValue) (backed : Backed problem bounds context k c place tuple e) (sign : e.positive ≡ g.positive) (above : Generalizes e.atom (Of g.atom)) where
  abbrev before : Context
  before = backed.before

  abbrev x : ClauseValue
  x = backed.is_assert.clause

  abbrev u : Family
  u = backed.is_assert.family

  abbrev ks : List (Option ℕ)
  ks = positions_of (Some place) tuple

  abbrev own : AtomValue
  own = apply_atom (u 0) backed.is_assert.literal.atom

  solves_before : (v : Family) → Solves context x.literals ks v → Solves before x.literals ks v
  solves_before v h = λ i j l f o.
      let P : ℕ → Type 0 = λ n. j < n in
      let lt = subst P backed.as_long (slice_get_within before j f o.stands) in
      h i j l f (record { literal = o.literal; position = o.position; stands = sym (backed.agree j lt) ∙ o.stands })

  solves_after : (v : Family) → Solves before x.literals ks v → Solves context x.literals ks v
  solves_after v h = λ i j l f o.
      let seen = backed.is_assert.unifier.opposite.visible i j l o.literal o.position in
      let P : ℕ → Type 0 = λ n. j < n in
      let lt = subst P backed.as_long (slice_get_within before j seen.0 seen.1.0) in
      h i j l f (record { literal = o.literal; position = o.position; stands = backed.agree j lt ∙ o.stands })

  unifier_after : IsUnifier context x.literals ks u
  unifier_after = record {
    solves = solves_after u backed.is_assert.unifier.unifier.solves;
    most_general = λ v h. backed.is_assert.unifier.unifier.most_general v (solves_before v h);
  }

  above_own : Generalizes (Of own) (Of g.atom)
  above_own =
      let P : Pattern → Type 0 = λ p. Generalizes p (Of g.atom) in
      let mine : Generalizes (Of (canonical own)) (Of g.atom) = subst P (ap (λ (z : EntryValue). z.atom) backed.is_assert.entry) above in
      generalizes_transitive (Of own) (Of (canonical own)) (Of g.atom) (canonical_below own) mine

  reading : Substitution
  reading = restricted above_own.0 (constant problem.c0) (variables_of own.args)

  reads : apply_literal reading (unified u backed.is_assert.literal) ≡ g
  unfolding reading
  reads =
      let atom : apply_atom reading own ≡ g.atom = restricted_same above_own.0 (constant problem.c0) own ∙ above_own.1 in
      let positive : backed.is_assert.literal.positive ≡ g.positive = sym (ap (λ (z : EntryValue). z.positive) backed.is_assert.entry) ∙ sign in
      λ i. record { positive = positive i; atom = atom i }

  pub asking : Asking problem context k c place tuple g
  unfolding reading
  asking =
      let P : ℕ → Type 0 = λ n. AllMet context n (demands (instance_of u reading x.literals) ks) in
      record {
        literals = instance_of u reading x.literals;
        is_asked = record {
          clause = x;
          literal = backed.is_assert.literal;
          family = u;
          matching = reading;
          clause_at = backed.is_assert.clause_at;
          literal_at = backed.is_assert.literal_at;
          unifier = unifier_after;
          matches = reads;
          others = λ y h. restricted_out above_own.0 (constant problem.c0) (variables_of own.args) y h;
          is_instance = refl;
        };
        met = subst P backed.as_long (instance_met before context x.literals ks u reading
            (λ j lt. let Q : ℕ → Type 0 = λ n. j < n in backed.agree j (subst Q backed.as_long lt)) backed.is_assert.unifier.opposite backed.is_assert.unifier.unifier.solves);
        long = (x, backed.is_assert.clause_at, length_map (λ l. apply_literal reading (unified u l)) x.literals);
      }
