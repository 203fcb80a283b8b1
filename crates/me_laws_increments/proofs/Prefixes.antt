-- What a part's unifier decides of every solution that whole_extends_parts it.
use Rattle.std.proofs.Common.{◌≡◌, ℕ, ◌+◌, ◌≤◌, max, Bool, true, false, not, ◌||◌, ◌⊎◌, inl, inr, List, [], ◌∷◌, Some, None, refl, sym, subst, ap, arith}
use Rattle.std.specs.List.{list_any}
use Rattle.me_terms.specs.Terms.{TermValue, Var, App, Arguments, Nil, Cons, AtomValue}
use Rattle.me_terms.specs.Substitutions.{Substitution, Generalizes, apply_term, apply_arguments}
use Rattle.me_terms.specs.Variables.{variables_of, depth, depths, weight, weights, canonical}
use Rattle.me_terms.specs.Measures.{canonical_literal}
use Rattle.me_terms.specs.Values.{EntryValue}
use Rattle.me_terms.specs.Context.{Context}
use Rattle.me_terms.specs.Unifier.{unified}
use Rattle.me_terms.specs.Remainder.{is_variable, is_remaining}
use Rattle.me_terms.specs.Produces.{HasException}
use Rattle.me_terms.specs.declared.entry.Kind.{Kind}
use Rattle.me_terms.specs.declared.entry.Kind.TheVariants.{Universal, Parametric}
use Rattle.me_terms.specs.declared.atom.Pattern.{Pattern}
use Rattle.me_terms.specs.declared.atom.Pattern.TheVariants.{Any, Of}
use Rattle.me_laws.proofs.Generality.{generalizes_transitive}
use Rattle.me_laws.proofs.Lifting.{atom_along, met, exception_below, lower}
use Rattle.me_laws.proofs.NoContradiction.{canonical_below}
use Rattle.me_laws_increments.specs.Prefixes.{WholeSolvesParts, WholeExtendsParts, LiteralsComeDown, MeasuresGrow, RemainingStays, ProductionComesDown, ExceptedIsUnproductive, FixedComesDown, FixedIsNotAsserted, UnfitStaysUnfit}
use Rattle.me_laws_increments.proofs.Refusals.{not_refused}
use Rattle.me_laws_increments.proofs.Lookup.{fixed_is_refused}
use Rattle.me_laws_increments.proofs.FirstUnfit.{fits_back}

pub whole_solves_parts : WholeSolvesParts
whole_solves_parts context literals part whole v in_whole g =
    λ i k l e at. g i k l e (record { literal = at.literal; position = in_whole i k at.position; stands = at.stands })

pub whole_extends_parts : WholeExtendsParts
whole_extends_parts context literals part whole u v in_whole h g =
    h.most_general v (whole_solves_parts context literals part whole v in_whole g)

pub literals_come_down : LiteralsComeDown
literals_come_down u v l h = (h.0, atom_along (u 0) (v 0) h.0 (h.1 0) l.atom)

-- ---- an instance is no shallower and no lighter
a_depth : (t : TermValue) → 1 ≤ depth t
a_depth (Var x) = omega arith
a_depth (App f ts) = omega arith

a_weight : (t : TermValue) → 1 ≤ weight t
a_weight (Var x) = omega arith
a_weight (App f ts) = omega arith

greater : (a b c d : ℕ) → a ≤ c → b ≤ d → max a b ≤ max c d
greater a b c d h g = omega (arith, h, g)

mutual
  deeper : (r : Substitution) (t : TermValue) → depth t ≤ depth (apply_term r t)
  deeper r (Var x) = a_depth (r x)
  deeper r (App f ts) = let rest = all_deeper r ts in omega (arith, rest)

  all_deeper : (r : Substitution) (ts : Arguments) → depths ts ≤ depths (apply_arguments r ts)
  all_deeper r Nil = omega arith
  all_deeper r (Cons t ts) = greater (depth t) (depths ts) (depth (apply_term r t)) (depths (apply_arguments r ts)) (deeper r t) (all_deeper r ts)

mutual
  heavier : (r : Substitution) (t : TermValue) → weight t ≤ weight (apply_term r t)
  heavier r (Var x) = a_weight (r x)
  heavier r (App f ts) = let rest = all_heavier r ts in omega (arith, rest)

  all_heavier : (r : Substitution) (ts : Arguments) → weights ts ≤ weights (apply_arguments r ts)
  all_heavier r Nil = omega arith
  all_heavier r (Cons t ts) =
      let first = heavier r t in
      let rest = all_heavier r ts in omega (arith, first, rest)

measured : (a b : AtomValue) → Generalizes (Of a) (Of b) → (depths a.args ≤ depths b.args) × (weights a.args ≤ weights b.args)
measured a b h =
    let P : AtomValue → Type 0 = λ x. (depths a.args ≤ depths x.args) × (weights a.args ≤ weights x.args) in
    subst P h.1 (all_deeper h.0 a.args, all_heavier h.0 a.args)

pub measures_grow : MeasuresGrow
measures_grow u v l h =
    let at = measured (unified u l).atom (unified v l).atom (literals_come_down u v l h) in
    let heavy = at.1 in
    (at.0, omega (arith, heavy))

-- ---- what remains
no_variable : (r : Substitution) (s t : TermValue) → apply_term r s ≡ t → is_variable s ≡ false → is_variable t ≡ false
no_variable r (Var x) t h e = cc e
no_variable r (App f ts) t h e = ap is_variable (sym h)

some_by : (test other rest other_rest : Bool) → (test ≡ false → other ≡ false) → (rest ≡ true → other_rest ≡ true) → (not test || rest) ≡ true → (not other || other_rest) ≡ true
some_by false other rest other_rest f g h = let e = f refl in ap (λ b. not b || other_rest) e
some_by true true rest other_rest f g h = g h
some_by true false rest other_rest f g h = refl

some_remain : (s t : Substitution) (r : Substitution) → ((x : ℕ) → apply_term r (s x) ≡ t x) → (xs : List ℕ) → list_any (λ x. not (is_variable (s x))) xs ≡ true → list_any (λ x. not (is_variable (t x))) xs ≡ true
some_remain s t r h [] e = e
some_remain s t r h (x ∷ xs) e =
    some_by (is_variable (s x)) (is_variable (t x)) (list_any (λ y. not (is_variable (s y))) xs) (list_any (λ y. not (is_variable (t y))) xs) (no_variable r (s x) (t x) (h x)) (some_remain s t r h xs) e

remaining_on : (kind : Kind) (p : Pattern) (s t r : Substitution) → ((x : ℕ) → apply_term r (s x) ≡ t x) → is_remaining kind p s ≡ true → is_remaining kind p t ≡ true
remaining_on kind Any s t r h e = refl
remaining_on Universal (Of a) s t r h e = e
remaining_on Parametric (Of a) s t r h e = some_remain s t r h (variables_of a.args) e

pub remaining_stays : RemainingStays
remaining_stays u v None space h e = e
remaining_stays u v (Some f) space h e = remaining_on f.kind f.atom (u space) (v space) h.0 (h.1 space) e

-- ---- production
pub production_comes_down : ProductionComesDown
production_comes_down context literals part whole u v in_whole h solved productive =
    λ i k l e at.
    let there = productive i k l e (record { literal = at.literal; position = in_whole i k at.position; stands = at.stands }) in
    record {
      visible = there.visible;
      same_sign = there.same_sign;
      generalizes = met (u (i + 1)) e.atom (u 0) l.atom (solved i k l e at);
      undisputed = lower context e (unified u l).atom (unified v l).atom (literals_come_down u v l h) there.undisputed;
    }

pub excepted_is_unproductive : ExceptedIsUnproductive
excepted_is_unproductive context literals positions u v i k l e h at not_universal ex productive =
    elim (productive i k l e at).undisputed as (λ _. ⊥) [
      | inl universal ↦ not_universal universal
      | inr free ↦ free (exception_below context e (unified u l).atom (unified v l).atom (literals_come_down u v l h) ex)
    ]

pub fixed_comes_down : FixedComesDown
fixed_comes_down context u v l h c =
    let at = c.1 in
    let down = generalizes_transitive (Of (unified u l).atom) (Of (unified v l).atom) (Of (canonical (unified v l).atom)) (literals_come_down u v l h) (canonical_below (unified v l).atom) in
    (c.0, (at.0, at.1, at.2, at.3, at.4, generalizes_transitive at.1.atom (Of (unified u l).atom) (Of (canonical (unified v l).atom)) at.5 down))

pub fixed_is_not_asserted : FixedIsNotAsserted
fixed_is_not_asserted bounds context u v l kind h c may =
    not_refused bounds context (canonical_literal (unified v l)) kind may (fixed_is_refused context (canonical_literal (unified v l)) kind (fixed_comes_down context u v l h c))

pub unfit_stays_unfit : UnfitStaysUnfit
unfit_stays_unfit bounds u v l h over fits =
    let within = fits_back bounds (unified v l) fits in
    let more = measures_grow u v l h in
    over (omega (arith, more.0, within.0), omega (arith, more.1, within.1))
