-- The bound that is met first, over one part of the clauses and tuples after another.
use Rattle.std.proofs.Common.{◌≡◌, ℕ, ◌⊎◌, inl, inr, List, Option, Some, None, refl, sym, subst, ◌∙◌}
use Rattle.std.specs.Prelude.{IsSome}
use Rattle.me_terms.specs.Substitutions.{Family}
use Rattle.me_terms.specs.Values.{ProblemValue, ClauseValue}
use Rattle.me_terms.specs.Context.{Context}
use Rattle.me_terms.specs.Productive.{IsProductiveUnifier}
use Rattle.me_terms.specs.Order.{Precedes, clause_key}
use Rattle.me_terms.specs.Next.{IsBeyond}
use Rattle.me_terms.specs.declared.bounds.Bound.{Bound}
use Rattle.me_terms.specs.declared.bounds.Bounds.{Bounds}
use Rattle.me_terms.specs.declared.atom.Literal.{Literal}
use Rattle.next_rule.specs.SplitSearches.{SplitRegion, NoneProductive, IsFirstRemainingIn, MeetsFirst}

module _ (problem : ProblemValue) (bounds : Bounds) (context : Context) where
  abbrev Meets : SplitRegion → Option Bound → Option Bound → Type 0
  Meets region a b = MeetsFirst problem bounds context region a b

  abbrev HasAt : ℕ → List ℕ → Type 0
  HasAt c tuple = (clause : ClauseValue) × (f : Family) × IsProductiveUnifier problem context c tuple clause f

  -- What R has is in S or T, and what S has comes before what T has.
  pub record InTurn (S T R : SplitRegion) : Type 0 where
    pub split : (c : ℕ) (tuple : List ℕ) (clause : ClauseValue) (f : Family) → R c tuple → IsProductiveUnifier problem context c tuple clause f → S c tuple ⊎ T c tuple
    pub left : (c : ℕ) (tuple : List ℕ) → S c tuple → R c tuple
    pub right : (c : ℕ) (tuple : List ℕ) → T c tuple → R c tuple
    pub before : (c c' : ℕ) (tuple tuple' : List ℕ) → S c tuple → T c' tuple' → Precedes (clause_key c tuple) (clause_key c' tuple')

  pub meets_none : (S : SplitRegion) (a : Option Bound) → ((c : ℕ) (tuple : List ℕ) → ¬ S c tuple) → Meets S a a
  meets_none S a never = inl (refl, inr (λ c tuple clause f s p. never c tuple s))

  -- the same clauses and tuples, as far as they have unifiers
  pub meets_same : (S R : SplitRegion) (a b : Option Bound) → ((c : ℕ) (tuple : List ℕ) (clause : ClauseValue) (f : Family) → R c tuple → IsProductiveUnifier problem context c tuple clause f → S c tuple) → ((c : ℕ) (tuple : List ℕ) → S c tuple → R c tuple) → Meets S a b → Meets R a b
  meets_same S R a b back there (inl (e, inl some)) = inl (e, inl some)
  meets_same S R a b back there (inl (e, inr none)) = inl (e, inr (λ c tuple clause f r p. none c tuple clause f (back c tuple clause f r p) p))
  meets_same S R a b back there (inr (e, (b', is, (l, m, beyond)))) =
      inr (
        e,
        (
          b',
          is,
          (
            l,
            record {
              c = m.c;
              tuple = m.tuple;
              clause = m.clause;
              family = m.family;
              place = m.place;
              others = m.others;
              literal = m.literal;
              among = there m.c m.tuple m.among;
              productive = m.productive;
              first = λ c tuple clause f r p. m.first c tuple clause f (back c tuple clause f r p) p;
              first_place = m.first_place;
              literal_at = m.literal_at;
              unified_literal = m.unified_literal;
            },
            beyond,
          ),
        ),
      )

  module _ (S T R : SplitRegion) (turn : InTurn S T R) where
    none_both : NoneProductive problem context S → NoneProductive problem context T → NoneProductive problem context R
    none_both f g c tuple clause family r p = elim (turn.split c tuple clause family r p) as (λ _. ⊥) [ inl s ↦ f c tuple clause family s p | inr t ↦ g c tuple clause family t p ]

    first_left : (l : Literal) → IsFirstRemainingIn problem context S l → IsFirstRemainingIn problem context R l
    first_left l m = record {
      c = m.c;
      tuple = m.tuple;
      clause = m.clause;
      family = m.family;
      place = m.place;
      others = m.others;
      literal = m.literal;
      among = turn.left m.c m.tuple m.among;
      productive = m.productive;
      first = λ c tuple clause f r p. elim (turn.split c tuple clause f r p) as (λ _. Precedes (clause_key m.c m.tuple) (clause_key c tuple)) [ inl s ↦ m.first c tuple clause f s p | inr t ↦ turn.before m.c c m.tuple tuple m.among t ];
      first_place = m.first_place;
      literal_at = m.literal_at;
      unified_literal = m.unified_literal;
    }

    first_right : (l : Literal) → NoneProductive problem context S → IsFirstRemainingIn problem context T l → IsFirstRemainingIn problem context R l
    first_right l none m = record {
      c = m.c;
      tuple = m.tuple;
      clause = m.clause;
      family = m.family;
      place = m.place;
      others = m.others;
      literal = m.literal;
      among = turn.right m.c m.tuple m.among;
      productive = m.productive;
      first = λ c tuple clause f r p. elim (turn.split c tuple clause f r p) as (λ _. Precedes (clause_key m.c m.tuple) (clause_key c tuple)) [ inl s ↦ absurd (none c tuple clause f s p) | inr t ↦ m.first c tuple clause f t p ];
      first_place = m.first_place;
      literal_at = m.literal_at;
      unified_literal = m.unified_literal;
    }

    no_some : (a : Option Bound) → IsSome a → a ≡ None → ⊥
    no_some a some e = let P : Option Bound → Type 0 = λ z. IsSome z in let h = subst P e some in cc h

    some_now : (a : Option Bound) (b : Bound) → a ≡ Some b → IsSome a
    some_now a b e = let P : Option Bound → Type 0 = λ z. IsSome z in subst P (sym e) refl

    stay_then : (a b d : Option Bound) → b ≡ a → (IsSome a ⊎ NoneProductive problem context S) → Meets T b d → Meets R a d
    stay_then a b d e (inl some) (inl (g, t)) = inl (g ∙ e, inl some)
    stay_then a b d e (inr none) (inl (g, inl some)) = let P : Option Bound → Type 0 = λ z. IsSome z in inl (g ∙ e, inl (subst P e some))
    stay_then a b d e (inr none) (inl (g, inr t)) = inl (g ∙ e, inr (none_both none t))
    stay_then a b d e (inl some) (inr (g, t)) = absurd (no_some a some (sym e ∙ g))
    stay_then a b d e (inr none) (inr (g, (b', is, (l, m, beyond)))) = inr (sym e ∙ g, (b', is, (l, first_right l none m, beyond)))

    take_then : (a b d : Option Bound) (b' : Bound) (l : Literal) → a ≡ None → b ≡ Some b' → IsFirstRemainingIn problem context S l → IsBeyond b' bounds l → Meets T b d → Meets R a d
    take_then a b d b' l e is m beyond (inl (g, t)) = inr (e, (b', g ∙ is, (l, first_left l m, beyond)))
    take_then a b d b' l e is m beyond (inr (g, t)) = absurd (no_some b (some_now b b' is) g)

    pub meets_then : (a b d : Option Bound) → Meets S a b → Meets T b d → Meets R a d
    meets_then a b d (inl (e, none)) g = stay_then a b d e none g
    meets_then a b d (inr (e, (b', is, (l, m, beyond)))) g = take_then a b d b' l e is m beyond g
