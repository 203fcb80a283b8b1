-- The remainder of a context unifier: the places at which an entry is used for less than all that it stands for.
use Rattle.std.specs.Prelude.{ℕ, ◌+◌, Bool, true, false, not, List, [], ◌∷◌, Option, Some, None, if◌then◌else◌}
use Rattle.std.specs.List.{list_any}
use Rattle.me_terms.specs.Terms.{TermValue, Var, App}
use Rattle.me_terms.specs.Variables.{variables_of}
use Rattle.me_terms.specs.Substitutions.{Substitution, Family}
use Rattle.me_terms.specs.Values.{EntryValue}
use Rattle.me_terms.specs.Context.{Context}
use Rattle.me_terms.specs.Positions.{entry_at}
use Rattle.me_terms.specs.declared.entry.Kind.{Kind}
use Rattle.me_terms.specs.declared.entry.Kind.TheVariants.{Universal, Parametric}
use Rattle.me_terms.specs.declared.atom.Pattern.{Pattern}
use Rattle.me_terms.specs.declared.atom.Pattern.TheVariants.{Any, Of}

abbrev pub is_variable : TermValue → Bool
is_variable (Var x) = true
is_variable (App f ts) = false

-- An entry of this kind and pattern is in the remainder under the substitution of its variables: the pseudo-literal always, and else a Parametric one with a variable that becomes a term that is no variable.
abbrev pub is_remaining : Kind → Pattern → Substitution → Bool
is_remaining kind Any s = true
is_remaining Universal (Of a) s = false
is_remaining Parametric (Of a) s = list_any (λ x. not (is_variable (s x))) (variables_of a.args)

-- The same of what stands at a position, if anything does.
abbrev pub remains_at : Option EntryValue → Substitution → Bool
remains_at None s = false
remains_at (Some e) s = is_remaining e.kind e.atom s

-- The places of the remainder, rising, where the first position stands at place i.
abbrev pub remainder_from : ℕ → Context → List (Option ℕ) → Family → List ℕ
remainder_from i context [] u = []
remainder_from i context (k ∷ ks) u =
    let later = remainder_from (i + 1) context ks u in
    if remains_at (entry_at context k) (u (i + 1)) then i ∷ later else later

-- The places of the remainder, rising. A skipped place is none of them.
abbrev pub remainder : Context → List (Option ℕ) → Family → List ℕ
remainder context positions u = remainder_from 0 context positions u
