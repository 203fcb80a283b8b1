-- The model theorem: where no context unifier is productive, every ground instance of every clause is true.
use Rattle.std.proofs.Common.{◌≡◌, ℕ, zero, suc, ◌+◌, ◌⊎◌, inl, inr, List, [], ◌∷◌, length, map, slice_get, Option, Some, None, refl, sym, subst, ap, ◌∙◌, add-one, arith}
use Rattle.std.proofs.lemmas.Option.{same_Some}
use Rattle.std.specs.List.{Any}
use Rattle.me_terms.specs.Terms.{Var, AtomValue}
use Rattle.me_terms.specs.Substitutions.{Substitution, Family, apply_atom, apply_literal, Generalizes}
use Rattle.me_terms.specs.Measures.{complement}
use Rattle.me_terms.specs.Values.{ProblemValue, EntryValue}
use Rattle.me_terms.specs.Context.{Context, IsContext}
use Rattle.me_terms.specs.Produces.{Produces, IsProduced, IsTrueIn}
use Rattle.me_terms.specs.Positions.{positions_of, StandsAgainst, AreOpposite}
use Rattle.me_terms.specs.Unifier.{IsSolvedBy, Solves, IsContextUnifier}
use Rattle.me_terms.specs.Productive.{IsProductive, HasProductive}
use Rattle.me_terms.specs.Next.{Exhausted, IsNext}
use Rattle.me_terms.specs.InducedModel.{IsModel}
use Rattle.me_laws.specs.UnifierLaws.{UnifiersExist}
use Rattle.me_terms.specs.declared.bounds.Bounds.{Bounds}
use Rattle.me_terms.specs.declared.atom.Literal.{Literal}
use Rattle.me_terms.specs.declared.atom.Pattern.{Pattern}
use Rattle.me_terms.specs.declared.atom.Pattern.TheVariants.{Any as AnyAtom, Of}
use Rattle.me_laws.proofs.Decisions.{true_or_opposed}
use Rattle.me_laws.proofs.Lifting.{lifted}
use Rattle.me_laws.proofs.UnifiersExist.{unifiers_exist}

-- for each literal under s a position whose entry produces the complement, with a matcher
record Picks (context : Context) (s : Substitution) (literals : List Literal) : Type 0 where
  tuple : List ℕ
  matchers : ℕ → Substitution
  each_place : length (positions_of None tuple) ≡ length literals
  produced : (i k : ℕ) (l : Literal) → slice_get literals i ≡ Some l → slice_get (positions_of None tuple) i ≡ Some (Some k) → (e : EntryValue) × Produces context k e (complement (apply_literal s l)) × IsSolvedBy (matchers i) e.atom s l.atom

matcher : (p : Pattern) (s : Substitution) (a : AtomValue) → Generalizes p (Of (apply_atom s a)) → (t : Substitution) × IsSolvedBy t p s a
matcher AnyAtom s a h = (Var, tt)
matcher (Of b) s a h = (h.0, h.1)

first_then : Substitution → (ℕ → Substitution) → ℕ → Substitution
first_then t later zero = t
first_then t later (suc i) = later i

pick_at : (context : Context) (s : Substitution) (l : Literal) (ls : List Literal) (picks : Picks context s ls) (k : ℕ) (e : EntryValue) (t : Substitution) → Produces context k e (complement (apply_literal s l)) → IsSolvedBy t e.atom s l.atom → (i j : ℕ) (m : Literal) → slice_get (l ∷ ls) i ≡ Some m → slice_get (positions_of None (k ∷ picks.tuple)) i ≡ Some (Some j) → (f : EntryValue) × Produces context j f (complement (apply_literal s m)) × IsSolvedBy (first_then t picks.matchers i) f.atom s m.atom
unfolding first_then
pick_at context s l ls picks k e t produces meets zero j m at pos =
    let P : ℕ × Literal → Type 0 = λ z. (f : EntryValue) × Produces context z.0 f (complement (apply_literal s z.1)) × IsSolvedBy t f.atom s z.1.atom in
    subst P (λ n. (same_Some k j (same_Some (Some k) (Some j) pos) n, same_Some l m at n)) (e, produces, meets)
pick_at context s l ls picks k e t produces meets (suc i) j m at pos = picks.produced i j m at pos

pick : (context : Context) (s : Substitution) (l : Literal) (ls : List Literal) → Picks context s ls → IsProduced context (complement (apply_literal s l)) → Picks context s (l ∷ ls)
pick context s l ls picks h =
    let found = matcher h.1.atom s l.atom h.2.generalizes in
    record {
      tuple = h.0 ∷ picks.tuple;
      matchers = first_then found.0 picks.matchers;
      each_place = ap suc picks.each_place;
      produced = pick_at context s l ls picks h.0 h.1 found.0 h.2 found.1;
    }

later_true : (context : Context) (m : Literal) (ms : List Literal) → Any (IsTrueIn context) ms → Any (IsTrueIn context) (m ∷ ms)
later_true context m ms h = (suc h.0, h.1, omega (arith, h.2), h.3, h.4)

-- a true literal, or a pick for each
true_or_picks : (context : Context) → IsContext context → (s : Substitution) (literals : List Literal) → Any (IsTrueIn context) (map (apply_literal s) literals) ⊎ Picks context s literals
true_or_picks context h s [] = inr (record { tuple = []; matchers = λ i. Var; each_place = refl; produced = λ i k l at pos. cc at })
true_or_picks context h s (l ∷ ls) =
    elim (true_or_opposed context h (apply_literal s l)) as (λ _. Any (IsTrueIn context) (map (apply_literal s) (l ∷ ls)) ⊎ Picks context s (l ∷ ls)) [
      | inl here ↦ inl (0, apply_literal s l, omega arith, refl, here)
      | inr opposed ↦ elim (true_or_picks context h s ls) as (λ _. Any (IsTrueIn context) (map (apply_literal s) (l ∷ ls)) ⊎ Picks context s (l ∷ ls)) [
        | inl later ↦ inl (later_true context (apply_literal s l) (map (apply_literal s) ls) later)
        | inr picks ↦ inr (pick context s l ls picks opposed)
      ]
    ]

module _ (context : Context) (s : Substitution) (literals : List Literal) (picks : Picks context s literals) where
  family : Family
  family = first_then s picks.matchers

  places : List (Option ℕ)
  places = positions_of None picks.tuple

  -- the picked entry is the one that stands there
  at_place : (i k : ℕ) (l : Literal) (e : EntryValue) → StandsAgainst context literals places i l k e → Produces context k e (complement (apply_literal s l)) × IsSolvedBy (picks.matchers i) e.atom s l.atom
  unfolding places
  at_place i k l e o =
      let h = picks.produced i k l o.literal o.position in
      let same : h.0 ≡ e = same_Some h.0 e (sym h.1.visible.0 ∙ o.stands) in
      let P : EntryValue → Type 0 = λ f. Produces context k f (complement (apply_literal s l)) × IsSolvedBy (picks.matchers i) f.atom s l.atom in
      subst P same (h.1, h.2)

  next_space : (i : ℕ) → family (i + 1) ≡ picks.matchers i
  unfolding family first_then
  next_space i = ap (first_then s picks.matchers) (add-one i)

  solves : Solves context literals places family
  unfolding family first_then
  solves = λ i k l e o.
      let P : Substitution → Type 0 = λ t. IsSolvedBy t e.atom s l.atom in subst P (sym (next_space i)) (at_place i k l e o).1

  productive : IsProductive context literals places family
  unfolding family first_then
  productive = λ i k l e o. (at_place i k l e o).0

  opposite : AreOpposite context literals places
  unfolding places
  opposite = record {
    each_place = picks.each_place;
    visible = λ i k l at pos. let h = picks.produced i k l at pos in (h.0, h.1.visible, h.1.same_sign);
  }

  lifted_pick : UnifiersExist → (u : Family) × IsContextUnifier context literals None picks.tuple u × IsProductive context literals places u
  unfolding places
  lifted_pick exist =
      let general = exist context literals places family solves in
      (general.0, record { opposite = opposite; unifier = general.1 }, lifted context literals places general.0 family general.1 solves productive)

pub model : UnifiersExist → (problem : ProblemValue) (context : Context) → IsContext context → ¬ HasProductive problem context → IsModel problem context
unfolding places
model exist problem context h none = λ c literals ground_instance.
    let clause = ground_instance.0 in
    let s = ground_instance.1 in
    let P : List Literal → Type 0 = λ ls. Any (IsTrueIn context) ls in
    subst P (sym ground_instance.4)
    (elim (true_or_picks context h s clause.literals) as (λ _. Any (IsTrueIn context) (map (apply_literal s) clause.literals)) [
      | inl found ↦ found
      | inr picks ↦
          let u = lifted_pick context s clause.literals picks exist in
          absurd (none (c, picks.tuple, clause, u.0, record { clause_at = ground_instance.2; unifier = u.1; productive = u.2 }))
    ])

pub exhausted_model : (problem : ProblemValue) (bounds : Bounds) (context : Context) → IsContext context → IsNext problem bounds context Exhausted → IsModel problem context
exhausted_model problem bounds context h next = model unifiers_exist problem context h next.2
