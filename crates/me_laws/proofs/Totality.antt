-- A context produces each literal or its complement.
use Rattle.std.proofs.Common.{◌≡◌, ℕ, zero, suc, ◌<◌, Bool, ◌⊎◌, inl, inr, [], ◌∷◌, Some, refl, sym, subst, arith}
use Rattle.std.proofs.lemmas.Option.{same_Some}
use Rattle.me_terms.specs.Terms.{AtomValue}
use Rattle.me_terms.specs.Substitutions.{Generalizes, IsStrictlyMoreGeneral}
use Rattle.me_terms.specs.Values.{EntryValue}
use Rattle.me_terms.specs.Context.{Context, StandsAt, pseudo, IsContext, IsVisible}
use Rattle.me_terms.specs.Produces.{Produces, IsProduced}
use Rattle.me_terms.specs.declared.entry.Kind.{Kind}
use Rattle.me_terms.specs.declared.entry.Kind.TheVariants.{Universal, Parametric}
use Rattle.me_terms.specs.declared.atom.Pattern.TheVariants.{Of}
use Rattle.me_laws.proofs.Generality.{generalizes_transitive, generalizes_decided, strictly_irreflexive, strictly_transitive, strictly_decided}

-- the last entry of which P holds
pub record Last (P : EntryValue → Type 0) (es : Context) : Type 0 where
  pub at : ℕ
  pub entry : EntryValue
  pub stands : StandsAt es at entry
  pub holds : P entry
  pub last : (j : ℕ) (f : EntryValue) → at < j → StandsAt es j f → ¬ P f

-- an entry of which P holds, that is strictly more general than none of which P holds
pub record Lowest (P : EntryValue → Type 0) (es : Context) : Type 0 where
  pub at : ℕ
  pub entry : EntryValue
  pub stands : StandsAt es at entry
  pub holds : P entry
  pub lowest : (j : ℕ) (f : EntryValue) → StandsAt es j f → P f → ¬ IsStrictlyMoreGeneral entry.atom f.atom

module _ (P : EntryValue → Type 0) (decided : (e : EntryValue) → P e ⊎ (¬ P e)) where
  none_more : (e : EntryValue) (es : Context) → ¬ P e → ((k : ℕ) (f : EntryValue) → StandsAt es k f → ¬ P f) → (k : ℕ) (f : EntryValue) → StandsAt (e ∷ es) k f → ¬ P f
  none_more e es here later zero f h p = here (subst P (sym (same_Some e f h)) p)
  none_more e es here later (suc k) f h p = later k f h p

  past : (e : EntryValue) (es : Context) (at : ℕ) → ((j : ℕ) (f : EntryValue) → at < j → StandsAt es j f → ¬ P f) → (j : ℕ) (f : EntryValue) → suc at < j → StandsAt (e ∷ es) j f → ¬ P f
  past e es at later zero f lt h p = absurd (omega arith)
  past e es at later (suc j) f lt h p = later j f (omega arith) h p

  past_first : (e : EntryValue) (es : Context) → ((k : ℕ) (f : EntryValue) → StandsAt es k f → ¬ P f) → (j : ℕ) (f : EntryValue) → 0 < j → StandsAt (e ∷ es) j f → ¬ P f
  past_first e es later zero f lt h p = absurd (omega arith)
  past_first e es later (suc j) f lt h p = later j f h p

  pub last_of : (es : Context) → Last P es ⊎ ((k : ℕ) (e : EntryValue) → StandsAt es k e → ¬ P e)
  last_of [] = inr (λ k e h p. cc)
  last_of (e ∷ es) =
      elim (last_of es) as (λ _. Last P (e ∷ es) ⊎ ((k : ℕ) (f : EntryValue) → StandsAt (e ∷ es) k f → ¬ P f)) [
        | inl l ↦ inl (record { at = suc l.at; entry = l.entry; stands = l.stands; holds = l.holds; last = past e es l.at l.last })
        | inr none ↦ elim (decided e) as (λ _. Last P (e ∷ es) ⊎ ((k : ℕ) (f : EntryValue) → StandsAt (e ∷ es) k f → ¬ P f)) [
          | inl p ↦ inl (record { at = 0; entry = e; stands = refl; holds = p; last = past_first e es none })
          | inr p ↦ inr (none_more e es p none)
        ]
      ]

  above_itself : (e f : EntryValue) → Some e ≡ Some f → ¬ IsStrictlyMoreGeneral e.atom f.atom
  above_itself e f h above =
      let R : EntryValue → Type 0 = λ x. IsStrictlyMoreGeneral e.atom x.atom in strictly_irreflexive e.atom (subst R (sym (same_Some e f h)) above)

  lowest_first : (e : EntryValue) (es : Context) → ((k : ℕ) (f : EntryValue) → StandsAt es k f → ¬ P f) → (j : ℕ) (f : EntryValue) → StandsAt (e ∷ es) j f → P f → ¬ IsStrictlyMoreGeneral e.atom f.atom
  lowest_first e es none zero f h p above = above_itself e f h above
  lowest_first e es none (suc j) f h p above = none j f h p

  lowest_new : (e : EntryValue) (es : Context) (l : Lowest P es) → IsStrictlyMoreGeneral l.entry.atom e.atom → (j : ℕ) (f : EntryValue) → StandsAt (e ∷ es) j f → P f → ¬ IsStrictlyMoreGeneral e.atom f.atom
  lowest_new e es l down zero f h p above = above_itself e f h above
  lowest_new e es l down (suc j) f h p above =
      l.lowest j f h p (strictly_transitive l.entry.atom e.atom f.atom down above)

  lowest_kept : (e : EntryValue) (es : Context) (l : Lowest P es) → ¬ (P e × IsStrictlyMoreGeneral l.entry.atom e.atom) → (j : ℕ) (f : EntryValue) → StandsAt (e ∷ es) j f → P f → ¬ IsStrictlyMoreGeneral l.entry.atom f.atom
  lowest_kept e es l not_so zero f h p above =
      let R : EntryValue → Type 0 = λ x. P x × IsStrictlyMoreGeneral l.entry.atom x.atom in not_so (subst R (sym (same_Some e f h)) (p, above))
  lowest_kept e es l not_so (suc j) f h p above = l.lowest j f h p above

  kept : (e : EntryValue) (es : Context) (l : Lowest P es) → ¬ (P e × IsStrictlyMoreGeneral l.entry.atom e.atom) → Lowest P (e ∷ es)
  kept e es l not_so = record { at = suc l.at; entry = l.entry; stands = l.stands; holds = l.holds; lowest = lowest_kept e es l not_so }

  pub lowest_of : (es : Context) → Lowest P es ⊎ ((k : ℕ) (e : EntryValue) → StandsAt es k e → ¬ P e)
  lowest_of [] = inr (λ k e h p. cc)
  lowest_of (e ∷ es) =
      elim (decided e) as (λ _. Lowest P (e ∷ es) ⊎ ((k : ℕ) (f : EntryValue) → StandsAt (e ∷ es) k f → ¬ P f)) [
        | inl p ↦ elim (lowest_of es) as (λ _. Lowest P (e ∷ es) ⊎ ((k : ℕ) (f : EntryValue) → StandsAt (e ∷ es) k f → ¬ P f)) [
          | inl l ↦ elim (strictly_decided l.entry.atom e.atom) as (λ _. Lowest P (e ∷ es) ⊎ ((k : ℕ) (f : EntryValue) → StandsAt (e ∷ es) k f → ¬ P f)) [
            | inl down ↦ inl (record { at = 0; entry = e; stands = refl; holds = p; lowest = lowest_new e es l down })
            | inr level ↦ inl (kept e es l (λ h. level h.1))
          ]
          | inr none ↦ inl (record { at = 0; entry = e; stands = refl; holds = p; lowest = lowest_first e es none })
        ]
        | inr p ↦ elim (lowest_of es) as (λ _. Lowest P (e ∷ es) ⊎ ((k : ℕ) (f : EntryValue) → StandsAt (e ∷ es) k f → ¬ P f)) [
          | inl l ↦ inl (kept e es l (λ h. p h.0))
          | inr none ↦ inr (none_more e es p none)
        ]
      ]

universal_decided : (k : Kind) → (k ≡ Universal) ⊎ (¬ (k ≡ Universal))
universal_decided Universal = inl refl
universal_decided Parametric = inr (λ h. cc)

-- the entry is Universal and generalizes the atom
CoversAtom : AtomValue → EntryValue → Type 0
CoversAtom a e = (e.kind ≡ Universal) × Generalizes e.atom (Of a)

covers_decided : (a : AtomValue) (e : EntryValue) → CoversAtom a e ⊎ (¬ CoversAtom a e)
unfolding CoversAtom
covers_decided a e =
    elim (universal_decided e.kind) as (λ _. CoversAtom a e ⊎ (¬ CoversAtom a e)) [
      | inl u ↦ elim (generalizes_decided e.atom (Of a)) as (λ _. CoversAtom a e ⊎ (¬ CoversAtom a e)) [ inl g ↦ inl (u, g) | inr g ↦ inr (λ h. g h.1) ]
      | inr u ↦ inr (λ h. u h.0)
    ]

-- the pseudo-literal generalizes every atom
first_generalizes : (context : Context) → IsContext context → (a : AtomValue) → ((k : ℕ) (e : EntryValue) → StandsAt context k e → ¬ Generalizes e.atom (Of a)) → ⊥
first_generalizes context h a none = none 0 (pseudo h.first.0) h.first.1 tt

-- where no Universal entry generalizes the atom, none that does is hidden
shown : (context : Context) (a : AtomValue) → ((k : ℕ) (e : EntryValue) → StandsAt context k e → ¬ CoversAtom a e) → (k : ℕ) (e : EntryValue) → StandsAt context k e → Generalizes e.atom (Of a) → IsVisible context k e
unfolding CoversAtom
shown context a none k e stands g =
    (stands, λ hidden. none hidden.0 hidden.1 hidden.2.stands (hidden.2.covers.is_universal, generalizes_transitive hidden.1.atom e.atom (Of a) hidden.2.covers.generalizes g))

by_lowest : (context : Context) (a : AtomValue) → ((k : ℕ) (e : EntryValue) → StandsAt context k e → ¬ CoversAtom a e) → (l : Lowest (λ e. Generalizes e.atom (Of a)) context) → Produces context l.at l.entry (record { positive = l.entry.positive; atom = a })
unfolding CoversAtom
by_lowest context a none l = record {
  visible = shown context a none l.at l.entry l.stands l.holds;
  same_sign = refl;
  generalizes = l.holds;
  undisputed = inr (λ ex. elim ex.4 as (λ _. ⊥) [ inl u ↦ none ex.0 ex.1 ex.2.0 (u, ex.3) | inr q ↦ l.lowest ex.0 ex.1 ex.2.0 ex.3 q.1 ]);
}

by_last : (context : Context) (a : AtomValue) (l : Last (CoversAtom a) context) → Produces context l.at l.entry (record { positive = l.entry.positive; atom = a })
unfolding CoversAtom
by_last context a l = record {
  visible = (l.stands, λ hidden. l.last hidden.0 hidden.1 hidden.2.is_later hidden.2.stands (hidden.2.covers.is_universal, generalizes_transitive hidden.1.atom l.entry.atom (Of a) hidden.2.covers.generalizes l.holds.1));
  same_sign = refl;
  generalizes = l.holds.1;
  undisputed = inl l.holds.0;
}

-- a context produces the positive or the negative literal of each atom
pub total : (context : Context) → IsContext context → (a : AtomValue) → (positive : Bool) × IsProduced context (record { positive = positive; atom = a })
total context h a =
    elim (last_of (CoversAtom a) (covers_decided a) context) as (λ _. (positive : Bool) × IsProduced context (record { positive = positive; atom = a })) [
      | inl l ↦ (l.entry.positive, (l.at, l.entry, by_last context a l))
      | inr none ↦ elim (lowest_of (λ e. Generalizes e.atom (Of a)) (λ e. generalizes_decided e.atom (Of a)) context) as (λ _. (positive : Bool) × IsProduced context (record { positive = positive; atom = a })) [
        | inl l ↦ (l.entry.positive, (l.at, l.entry, by_lowest context a none l))
        | inr not_so ↦ absurd (first_generalizes context h a not_so)
      ]
    ]
