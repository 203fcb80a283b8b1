-- Substitutions, and the order by generality.
use Rattle.std.specs.Prelude.{◌≡◌, ℕ, ⊤}
use Rattle.me_terms.specs.Terms.{TermValue, Var, App, Arguments, Nil, Cons, AtomValue}
use Rattle.me_terms.specs.declared.atom.Literal.{Literal}
use Rattle.me_terms.specs.declared.atom.Pattern.{Pattern}
use Rattle.me_terms.specs.declared.atom.Pattern.TheVariants.{Any, Of}

-- A term for each variable.
abbrev pub Substitution : Type 0
Substitution = ℕ → TermValue

-- The term, the arguments, the atom or the literal with each variable replaced by what the substitution has for it.
abbrev mutual
  pub apply_term : Substitution → TermValue → TermValue
  apply_term s (Var x) = s x
  apply_term s (App f ts) = App f (apply_arguments s ts)

  pub apply_arguments : Substitution → Arguments → Arguments
  apply_arguments s Nil = Nil
  apply_arguments s (Cons t ts) = Cons (apply_term s t) (apply_arguments s ts)

abbrev pub apply_atom : Substitution → AtomValue → AtomValue
apply_atom s a = record { pred = a.pred; args = apply_arguments s a.args }

abbrev pub apply_literal : Substitution → Literal → Literal
apply_literal s l = record { positive = l.positive; atom = apply_atom s l.atom }

-- s and then r
abbrev pub followed_by : Substitution → Substitution → Substitution
followed_by s r x = apply_term r (s x)

-- b is an instance of a
abbrev pub IsInstance : AtomValue → AtomValue → Type 0
IsInstance a b = (s : Substitution) × (apply_atom s a ≡ b)

-- p is at least as general as q, and the pseudo-atom is above everything
abbrev pub Generalizes : Pattern → Pattern → Type 0
Generalizes Any q = ⊤
Generalizes (Of a) Any = ⊥
Generalizes (Of a) (Of b) = IsInstance a b

-- Each is as general as the other.
abbrev pub IsVariant : Pattern → Pattern → Type 0
IsVariant p q = Generalizes p q × Generalizes q p

-- p is more general than q, and q is not more general than p.
abbrev pub IsStrictlyMoreGeneral : Pattern → Pattern → Type 0
IsStrictlyMoreGeneral p q = Generalizes p q × ¬ Generalizes q p

-- Variables are renamed apart by spaces: a family has a substitution for the variables of each space.
abbrev pub Family : Type 0
Family = ℕ → Substitution
