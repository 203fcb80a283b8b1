-- A literal is as deep, as heavy and as ground under each most general unifier of the same places.
use Rattle.std.proofs.Common.{◌≡◌, ◌+◌, ◌&&◌, refl, sym, ap, ◌∙◌}
use Rattle.me_terms.specs.Terms.{TermValue, Var, App, Arguments, Nil, Cons, AtomValue}
use Rattle.me_terms.specs.Substitutions.{Substitution, apply_term, apply_arguments, apply_atom}
use Rattle.me_terms.specs.Variables.{term_variables, variables_of, is_ground, are_ground}
use Rattle.me_laws.proofs.Determined.{renamed, unified_variants}
use Rattle.me_laws.proofs.Renaming.{Each, each_left, each_right, Good, Variants, all_good, depth_same, weight_same}
use Rattle.me_laws.specs.UnifierMeasures.{UnifiersMeasureAlike}

-- where variables become variables, what is ground is no more and no less
mutual
  unfolding Each Good

  renamed_ground : (r back : Substitution) (t : TermValue) → Each (Good r back) (term_variables t) → is_ground (apply_term r t) ≡ is_ground t
  renamed_ground r back (Var x) h = ap is_ground h.0.0
  renamed_ground r back (App f ts) h = all_renamed_ground r back ts h

  all_renamed_ground : (r back : Substitution) (ts : Arguments) → Each (Good r back) (variables_of ts) → are_ground (apply_arguments r ts) ≡ are_ground ts
  all_renamed_ground r back Nil h = refl
  all_renamed_ground r back (Cons t ts) h =
      let first = renamed_ground r back t (each_left (Good r back) (term_variables t) (variables_of ts) h) in
      let later = all_renamed_ground r back ts (each_right (Good r back) (term_variables t) (variables_of ts) h) in
      λ i. first i && later i

ground_same : (a b : AtomValue) → Variants a b → are_ground a.args ≡ are_ground b.args
ground_same a b v =
    sym (all_renamed_ground v.there v.back a.args (all_good a b v)) ∙ ap (λ (c : AtomValue). are_ground c.args) v.to

pub measured_alike : UnifiersMeasureAlike
measured_alike = λ context literals positions u v f g l.
    let s = apply_atom (u 0) l.atom in
    let t = apply_atom (v 0) l.atom in
    let both = unified_variants u v (renamed context literals positions u v f g) l.atom in
    (depth_same s t both, ap (λ n. 1 + n) (weight_same s t both), ground_same s t both)
