-- What is read as c0: canonical forms, and every variable of a matching.
use Rattle.std.proofs.Common.{◌≡◌, ℕ, true, ◌&&◌, inl, inr, List, [], refl, sym, ap, ◌∙◌}
use Rattle.std.specs.List.{Contains}
use Rattle.me_terms.specs.Terms.{TermValue, Var, App, Arguments, Nil, Cons, AtomValue}
use Rattle.me_terms.specs.Substitutions.{Substitution, apply_term, apply_arguments, apply_atom}
use Rattle.me_terms.specs.Variables.{variables_of, is_ground, are_ground, first_ones, place_of, canonical}
use Rattle.me_laws.proofs.Generality.{atom_followed}
use Rattle.me_laws.proofs.Renaming.{Each, agree_variables_all}
use Rattle.me_laws.proofs.OutcomeDetermined.{has_decided, each_has, lacks}

-- ---- a canonical form
mutual
  named_ground : (f : ℕ → ℕ) (t : TermValue) → is_ground (apply_term (λ x. Var (f x)) t) ≡ is_ground t
  named_ground f (Var x) = refl
  named_ground f (App g ts) = all_named_ground f ts

  all_named_ground : (f : ℕ → ℕ) (ts : Arguments) → are_ground (apply_arguments (λ x. Var (f x)) ts) ≡ are_ground ts
  all_named_ground f Nil = refl
  all_named_ground f (Cons t ts) = λ i. named_ground f t i && all_named_ground f ts i

-- a canonical form is read as the atom is
pub read_canonical : (c : TermValue) (a : AtomValue) → apply_atom (λ x. c) (canonical a) ≡ apply_atom (λ x. c) a
read_canonical c a = sym (atom_followed (λ x. Var (place_of x (first_ones [] (variables_of a.args)))) (λ x. c) a)

pub ground_canonical : (a : AtomValue) → are_ground (canonical a).args ≡ true → are_ground a.args ≡ true
ground_canonical a h = sym (all_named_ground (λ x. place_of x (first_ones [] (variables_of a.args))) a.args) ∙ h

-- ---- every variable
-- what holds of each variable in a list and of all others holds of all
pub everywhere : (P : ℕ → Type 0) (xs : List ℕ) → Each P xs → ((x : ℕ) → ¬ Contains xs x → P x) → (x : ℕ) → P x
everywhere P xs f g x =
    elim (has_decided xs x) as (λ _. P x) [ inl h ↦ each_has P xs x f h | inr lack ↦ g x (lacks xs x lack) ]

-- where the matched atom is read as c0, every variable is
pub all_constant : (c : TermValue) (m : Substitution) (a : AtomValue) → apply_atom m a ≡ apply_atom (λ x. c) a → ((x : ℕ) → ¬ Contains (variables_of a.args) x → m x ≡ c) → (x : ℕ) → m x ≡ c
all_constant c m a h others =
    everywhere (λ x. m x ≡ c) (variables_of a.args) (agree_variables_all m (λ x. c) a.args (ap (λ (b : AtomValue). b.args) h)) others
