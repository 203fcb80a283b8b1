-- Context unifiers of a clause with entries of a context. Space 0 of a family has the variables of the clause, and space i + 1 those of the entry at the clause's place i.
use Rattle.std.specs.Prelude.{◌≡◌, ℕ, ◌+◌, List, Option, ⊤}
use Rattle.me_terms.specs.Terms.{AtomValue}
use Rattle.me_terms.specs.Substitutions.{Substitution, Family, apply_term, apply_atom, apply_literal}
use Rattle.me_terms.specs.Values.{EntryValue}
use Rattle.me_terms.specs.Context.{Context}
use Rattle.me_terms.specs.Positions.{positions_of, StandsAgainst, AreOpposite}
use Rattle.me_terms.specs.declared.atom.Literal.{Literal}
use Rattle.me_terms.specs.declared.atom.Pattern.{Pattern}
use Rattle.me_terms.specs.declared.atom.Pattern.TheVariants.{Any, Of}

-- The pattern under t is the atom under s. The pseudo-atom gives no equation.
abbrev pub IsSolvedBy : Substitution → Pattern → Substitution → AtomValue → Type 0
IsSolvedBy t Any s a = ⊤
IsSolvedBy t (Of b) s a = apply_atom t b ≡ apply_atom s a

-- The family solves the equation of each place: between the entry's atom in the place's space and the literal's atom in space 0.
abbrev pub Solves : Context → List Literal → List (Option ℕ) → Family → Type 0
Solves context literals positions u =
    (i k : ℕ) (l : Literal) (e : EntryValue) → StandsAgainst context literals positions i l k e → IsSolvedBy (u (i + 1)) e.atom (u 0) l.atom

-- The family is a most general unifier. 'Most general' ranges over every variable of every space, also over those that occur in no equation: each other solution is the family, followed by one substitution.
pub record IsUnifier (context : Context) (literals : List Literal) (positions : List (Option ℕ)) (u : Family) : Type 0 where
  pub solves : Solves context literals positions u
  pub most_general : (v : Family) → Solves context literals positions v → (r : Substitution) × ((space x : ℕ) → apply_term r (u space x) ≡ v space x)

-- The family is a context unifier of a clause's literals, but for a skipped one, and a tuple of visible positions of opposite signs.
pub record IsContextUnifier (context : Context) (literals : List Literal) (skip : Option ℕ) (tuple : List ℕ) (u : Family) : Type 0 where
  pub opposite : AreOpposite context literals (positions_of skip tuple)
  pub unifier : IsUnifier context literals (positions_of skip tuple) u

-- The literal under the unifier.
abbrev pub unified : Family → Literal → Literal
unified u l = apply_literal (u 0) l
