-- A context in which p(a), Universal, is hidden by the later p(X0), Universal.
use Rattle.std.specs.Prelude.{true, false, [], ◌∷◌}
use Rattle.me_terms.specs.Terms.{TermValue, Var, App, Nil, Cons, AtomValue}
use Rattle.me_terms.specs.Values.{EntryValue, SplitLeft}
use Rattle.me_terms.specs.Context.{Context, pseudo, IsHidden}
use Rattle.me_terms.specs.declared.entry.Kind.TheVariants.{Universal, Parametric}
use Rattle.me_terms.specs.declared.atom.Pattern.TheVariants.{Of}
use Rattle.me_laws_increments.specs.Replacement.{IsCovered, IsFixed}
use Rattle.me_laws_increments.specs.Refusals.{Refuses}

-- p of a term
abbrev pub p_atom : TermValue → AtomValue
p_atom t = record { pred = 0; args = Cons t Nil }

-- p(a), Universal
abbrev pub instance_entry : EntryValue
instance_entry = record { positive = true; atom = Of (p_atom (App 0 Nil)); kind = Universal; reason = SplitLeft }

-- p(X0), Universal
abbrev pub general_entry : EntryValue
general_entry = record { positive = true; atom = Of (p_atom (Var 0)); kind = Universal; reason = SplitLeft }

-- the pseudo-literal, p(a) and then p(X0)
abbrev pub small_context : Context
small_context = pseudo false ∷ instance_entry ∷ general_entry ∷ []

-- p(a) is hidden there and covered by p(X0), its atom is fixed, and neither it nor its complement may be added, with either kind.
pub record SmallContextExample : Type 0 where
  pub hidden : IsHidden small_context 1 instance_entry
  pub covered : IsCovered small_context true (Of (p_atom (App 0 Nil)))
  pub fixed : IsFixed small_context (p_atom (App 0 Nil))
  pub refused : Refuses small_context (record { positive = true; atom = p_atom (App 0 Nil) }) Universal
  pub complement_refused : Refuses small_context (record { positive = false; atom = p_atom (App 0 Nil) }) Parametric
