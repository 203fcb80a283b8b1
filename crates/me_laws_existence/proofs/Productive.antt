-- Whether a clause has a productive unifier is decided, and a first one is found.
use Rattle.std.proofs.Common.{◌≡◌, ℕ, ◌⊎◌, inl, inr, List, slice_get, Option, Some, None, refl, sym, subst, ◌∙◌, arith}
use Rattle.std.proofs.lemmas.Option.{same_Some}
use Rattle.me_terms.specs.Substitutions.{Family, Generalizes}
use Rattle.me_terms.specs.Measures.{complement}
use Rattle.me_terms.specs.Values.{ProblemValue, ClauseValue, EntryValue}
use Rattle.me_terms.specs.Context.{Context, StandsAt, IsHidden}
use Rattle.me_terms.specs.Produces.{HasException, Produces}
use Rattle.me_terms.specs.Unifier.{IsContextUnifier, unified}
use Rattle.me_terms.specs.Productive.{IsProductive, IsProductiveUnifier}
use Rattle.me_terms.specs.Positions.{positions_of, ClauseAt}
use Rattle.me_terms.specs.Order.{clause_key}
use Rattle.me_terms.specs.declared.entry.Kind.TheVariants.{Universal}
use Rattle.me_terms.specs.declared.atom.Literal.{Literal}
use Rattle.me_terms.specs.declared.atom.Pattern.TheVariants.{Of}
use Rattle.me_laws.proofs.Generality.{generalizes_decided}
use Rattle.me_laws.proofs.Decisions.{both_decided, either_decided, not_decided, sign_decided, kind_decided, hidden_decided, exception_decided}
use Rattle.me_laws.proofs.Determined.{clause_same}
use Rattle.me_laws.proofs.Lifting.{lifted}
use Rattle.me_laws_existence.proofs.Solvable.{same_number}
use Rattle.me_laws_existence.proofs.Best.{Among, Best, best, precedes_itself}
use Rattle.me_laws_existence.proofs.Codes.{Code}
use Rattle.me_laws_existence.proofs.Opposed.{at_places, context_unifier_decided}
use Rattle.me_laws_existence.proofs.Closes.{candidates, among_candidates, moved}

produces_decided : (context : Context) (k : ℕ) (e : EntryValue) (l : Literal) → StandsAt context k e → Produces context k e l ⊎ (¬ Produces context k e l)
produces_decided context k e l stands =
    elim (both_decided (¬ IsHidden context k e) ((e.positive ≡ l.positive) × (Generalizes e.atom (Of l.atom) × ((e.kind ≡ Universal) ⊎ (¬ HasException context e l.atom))))
    (not_decided _ (hidden_decided context k e))
    (both_decided _ _ (sign_decided e.positive l.positive) (both_decided _ _ (generalizes_decided e.atom (Of l.atom)) (either_decided _ _ (kind_decided e.kind Universal) (not_decided _ (exception_decided context e l.atom)))))) as (λ _. Produces context k e l ⊎ (¬ Produces context k e l)) [
      | inl h ↦ inl (record { visible = (stands, h.0); same_sign = h.1.0; generalizes = h.1.1.0; undisputed = h.1.1.1 })
      | inr never ↦ inr (λ h. never (h.visible.1, (h.same_sign, (h.generalizes, h.undisputed))))
    ]

abbrev Made : Context → Family → Literal → ℕ → Type 0
Made context u l k = (e : EntryValue) → StandsAt context k e → Produces context k e (complement (unified u l))

made_of : (context : Context) (u : Family) (l : Literal) (k : ℕ) (e : EntryValue) → StandsAt context k e → Produces context k e (complement (unified u l)) ⊎ (¬ Produces context k e (complement (unified u l))) → Made context u l k ⊎ (¬ Made context u l k)
made_of context u l k e stands (inl h) =
    inl (λ f other. let P : EntryValue → Type 0 = λ z. Produces context k z (complement (unified u l)) in subst P (same_Some e f (sym stands ∙ other)) h)
made_of context u l k e stands (inr never) = inr (λ h. never (h e stands))

made_by : (context : Context) (u : Family) (l : Literal) (k : ℕ) (o : Option EntryValue) → slice_get context k ≡ o → Made context u l k ⊎ (¬ Made context u l k)
made_by context u l k None e = inl (λ f stands. cc (e, stands))
made_by context u l k (Some f) e = made_of context u l k f e (produces_decided context k f (complement (unified u l)) e)

is_productive_decided : (context : Context) (ls : List Literal) (ks : List (Option ℕ)) (u : Family) → IsProductive context ls ks u ⊎ (¬ IsProductive context ls ks u)
is_productive_decided context ls ks u =
    elim (at_places (Made context u) (λ l k. made_by context u l k (slice_get context k) refl) ls ks) as (λ _. IsProductive context ls ks u ⊎ (¬ IsProductive context ls ks u)) [
      | inl h ↦ inl (λ i k l e o. h i k l o.literal o.position e o.stands)
      | inr never ↦ inr (λ h. never (λ i k l at pos e stands. h i k l e (record { literal = at; position = pos; stands = stands })))
    ]

module _ (problem : ProblemValue) (context : Context) where
  abbrev pub HasOne : ℕ → List ℕ → Type 0
  HasOne c tuple = (x : ClauseValue) × (u : Family) × IsProductiveUnifier problem context c tuple x u

  one_of : (c : ℕ) (tuple : List ℕ) (x : ClauseValue) (u : Family) → ClauseAt problem c x → IsContextUnifier context x.literals None tuple u → IsProductive context x.literals (positions_of None tuple) u ⊎ (¬ IsProductive context x.literals (positions_of None tuple) u) → HasOne c tuple ⊎ (¬ HasOne c tuple)
  one_of c tuple x u at h (inl p) = inl (x, u, record { clause_at = at; unifier = h; productive = p })
  one_of c tuple x u at h (inr never) =
      inr (λ g.
      let f = g.2 in
      let P : ClauseValue → Type 0 = λ z. IsProductive context z.literals (positions_of None tuple) g.1 in
      let theirs = moved problem context c None tuple x g.0 g.1 at f.clause_at f.unifier in
      never (lifted context x.literals (positions_of None tuple) u g.1 h.unifier theirs.unifier.solves (subst P (clause_same problem c g.0 x f.clause_at at) f.productive)))

  one_with : (c : ℕ) (tuple : List ℕ) (x : ClauseValue) → ClauseAt problem c x → ((u : Family) × IsContextUnifier context x.literals None tuple u) ⊎ (¬ ((u : Family) × IsContextUnifier context x.literals None tuple u)) → HasOne c tuple ⊎ (¬ HasOne c tuple)
  one_with c tuple x at (inl h) = one_of c tuple x h.0 at h.1 (is_productive_decided context x.literals (positions_of None tuple) h.0)
  one_with c tuple x at (inr never) = inr (λ g. let f = g.2 in never (g.1, moved problem context c None tuple x g.0 g.1 at f.clause_at f.unifier))

  one_by : (c : ℕ) (tuple : List ℕ) (o : Option ClauseValue) → slice_get problem.clauses c ≡ o → HasOne c tuple ⊎ (¬ HasOne c tuple)
  one_by c tuple None e = inr (λ g. let there = g.2.clause_at in cc (e, there))
  one_by c tuple (Some x) e = one_with c tuple x e (context_unifier_decided context x.literals None tuple)

  pub one_decided : (c : ℕ) (tuple : List ℕ) → HasOne c tuple ⊎ (¬ HasOne c tuple)
  one_decided c tuple = one_by c tuple (slice_get problem.clauses c) refl

  abbrev pub Producing : Code → Type 0
  Producing a = (a.1 ≡ 0) × HasOne a.0 a.2

  producing_among : (a : Code) → Producing a → Among a (candidates problem context)
  producing_among a h =
      let f = h.1.2 in
      among_candidates problem context a.0 a.1 a.2 h.1.0 None f.clause_at (omega (arith, h.0)) f.unifier.opposite

  pub least_productive : Best Code Producing (λ a r. clause_key a.0 a.2) ⊎ ((a : Code) → ¬ Producing a)
  least_productive =
      best Code Producing (λ a r. clause_key a.0 a.2) (λ a r s. precedes_itself (clause_key a.0 a.2)) (λ a. both_decided _ _ (same_number a.1 0) (one_decided a.0 a.2)) (candidates problem context) producing_among
