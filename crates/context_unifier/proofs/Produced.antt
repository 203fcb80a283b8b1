-- What an entry produces, it produces up to variants; and what is used of a Universal entry is produced.
use Rattle.std.proofs.Common.{◌≡◌, ℕ, zero, suc, ◌+◌, ◌<◌, ◌⊎◌, inl, inr, Bool, not, List, [], ◌∷◌, length, slice_get, Option, Some, None, refl, sym, ap, subst, ◌∙◌, arith}
use Rattle.std.proofs.lemmas.Option.{same_Some, slice_get-map}
use Rattle.std.specs.Option.{option_map}
use Rattle.me_terms.specs.Terms.{AtomValue}
use Rattle.me_terms.specs.Substitutions.{Family, Generalizes}
use Rattle.me_terms.specs.Variables.{canonical}
use Rattle.me_terms.specs.Measures.{complement, canonical_literal}
use Rattle.me_terms.specs.Values.{EntryValue}
use Rattle.me_terms.specs.Context.{Context, StandsAt}
use Rattle.me_terms.specs.Positions.{positions_of, AreOpposite}
use Rattle.me_terms.specs.Unifier.{IsUnifier, unified}
use Rattle.me_terms.specs.Produces.{HasException, Produces}
use Rattle.me_terms.specs.Productive.{IsProductive}
use Rattle.me_terms.specs.declared.atom.Literal.{Literal}
use Rattle.me_terms.specs.declared.atom.Pattern.TheVariants.{Of}
use Rattle.me_terms.specs.declared.entry.Kind.TheVariants.{Universal}
use Rattle.me_laws.proofs.Generality.{generalizes_transitive}
use Rattle.me_laws.proofs.Lifting.{met}
use Rattle.me_laws.proofs.NoContradiction.{canonical_below, canonical_above}
use Rattle.context_unifier.specs.Production.{IsUsed}

undisputed_below : (context : Context) (e : EntryValue) (a b : AtomValue) → Generalizes (Of b) (Of a) → (e.kind ≡ Universal) ⊎ (¬ HasException context e a) → (e.kind ≡ Universal) ⊎ (¬ HasException context e b)
undisputed_below context e a b g (inl u) = inl u
undisputed_below context e a b g (inr free) =
    inr (λ x. free (x.0, x.1, x.2, generalizes_transitive x.1.atom (Of b) (Of a) x.3 g, x.4))

produces_variant : (context : Context) (k : ℕ) (e : EntryValue) (positive : Bool) (a b : AtomValue) → Generalizes (Of a) (Of b) → Generalizes (Of b) (Of a) → Produces context k e (record { positive = positive; atom = a }) → Produces context k e (record { positive = positive; atom = b })
produces_variant context k e positive a b there back p = record {
  visible = p.visible;
  same_sign = p.same_sign;
  generalizes = generalizes_transitive e.atom (Of a) (Of b) p.generalizes there;
  undisputed = undisputed_below context e a b back p.undisputed;
}

-- the literal and its canonical form
pub produces_canonical : (context : Context) (k : ℕ) (e : EntryValue) (l : Literal) → Produces context k e (complement l) → Produces context k e (complement (canonical_literal l))
produces_canonical context k e l p =
    produces_variant context k e (not l.positive) l.atom (canonical l.atom) (canonical_below l.atom) (canonical_above l.atom) p

pub produces_of_canonical : (context : Context) (k : ℕ) (e : EntryValue) (l : Literal) → Produces context k e (complement (canonical_literal l)) → Produces context k e (complement l)
produces_of_canonical context k e l p =
    produces_variant context k e (not l.positive) (canonical l.atom) l.atom (canonical_above l.atom) (canonical_below l.atom) p

pub produces_by : (context : Context) (k : ℕ) (l m : Literal) → m ≡ complement (canonical_literal l) → ((e : EntryValue) × Produces context k e m) → ((e : EntryValue) × Produces context k e (complement l))
produces_by context k l m same p =
    (p.0, produces_of_canonical context k p.0 l (subst (λ (x : Literal). Produces context k p.0 x) same p.1))

pub by_produces : (context : Context) (k : ℕ) (l m : Literal) → m ≡ complement (canonical_literal l) → ((e : EntryValue) × Produces context k e (complement l)) → ((e : EntryValue) × Produces context k e m)
by_produces context k l m same p =
    (p.0, subst (λ (x : Literal). Produces context k p.0 x) (sym same) (produces_canonical context k p.0 l p.1))

-- production by whatever stands there, and by the entry that does
pub produced_by_it : (context : Context) (k : ℕ) (e : EntryValue) (l : Literal) → StandsAt context k e → ((x : EntryValue) × Produces context k x l) → Produces context k e l
produced_by_it context k e l stands p =
    let same : p.0 ≡ e = same_Some p.0 e (sym p.1.visible.0 ∙ stands) in
    subst (λ (x : EntryValue). Produces context k x l) same p.1

pub used_universal : (context : Context) (k : ℕ) (e : EntryValue) (f : Family) (place : ℕ) (l : Literal) → IsUsed context k e f place l → e.kind ≡ Universal → Produces context k e (complement (unified f l))
used_universal context k e f place l used universal =
    record { visible = used.visible; same_sign = used.opposite; generalizes = met (f (place + 1)) e.atom (f 0) l.atom used.solved; undisputed = inl universal }

-- ---- all places
pub used_at : (context : Context) (literals : List Literal) (tuple : List ℕ) (f : Family) → AreOpposite context literals (positions_of None tuple) → IsUnifier context literals (positions_of None tuple) f → (i k : ℕ) (l : Literal) → slice_get literals i ≡ Some l → slice_get tuple i ≡ Some k → (e : EntryValue) × IsUsed context k e f i l
used_at context literals tuple f opposite unifier i k l literal at =
    let position : slice_get (positions_of None tuple) i ≡ Some (Some k) = slice_get-map Some tuple i ∙ ap (option_map Some) at in
    let there = opposite.visible i k l literal position in (
      there.0,
      record {
        visible = there.1;
        opposite = there.2;
        solved = unifier.solves i k l there.0 (record { literal = literal; position = position; stands = there.1.0 });
      },
    )

unmapped : (o : Option ℕ) (k : ℕ) → option_map Some o ≡ Some (Some k) → o ≡ Some k
unmapped None k h = cc
unmapped (Some x) k h = same_Some (Some x) (Some k) h

position_of : (tuple : List ℕ) (i k : ℕ) → slice_get (positions_of None tuple) i ≡ Some (Some k) → slice_get tuple i ≡ Some k
position_of tuple i k h = unmapped (slice_get tuple i) k (sym (slice_get-map Some tuple i) ∙ h)

-- where at each place the entry that is used produces, the unifier is productive
pub productive_by : (context : Context) (literals : List Literal) (tuple : List ℕ) (f : Family) → ((i k : ℕ) (l : Literal) (e : EntryValue) → slice_get literals i ≡ Some l → slice_get tuple i ≡ Some k → StandsAt context k e → Produces context k e (complement (unified f l))) → IsProductive context literals (positions_of None tuple) f
productive_by context literals tuple f h i k l e against = h i k l e against.literal (position_of tuple i k against.position) against.stands

pub by_productive : (context : Context) (literals : List Literal) (tuple : List ℕ) (f : Family) → IsProductive context literals (positions_of None tuple) f → (i k : ℕ) (l : Literal) (e : EntryValue) → slice_get literals i ≡ Some l → slice_get tuple i ≡ Some k → StandsAt context k e → Produces context k e (complement (unified f l))
by_productive context literals tuple f h i k l e literal at stands =
    h i k l e (record { literal = literal; position = slice_get-map Some tuple i ∙ ap (option_map Some) at; stands = stands })

pub literal_at : (literals : List Literal) (i : ℕ) → i < length literals → (l : Literal) × (slice_get literals i ≡ Some l)
literal_at [] i h = absurd (omega arith)
literal_at (l ∷ literals) zero h = (l, refl)
literal_at (l ∷ literals) (suc i) h = literal_at literals i (omega arith)
